-- Events read back from their records.
use Rattle.std.proofs.Common.{◌≡◌, ℕ, zero, suc, ◌+◌, ◌-◌, ◌<◌, ◌≤◌, ◌^◌, List, [], ◌∷◌, ◌++◌, length, drop, Option, Some, None, slice_get, refl, ap, sym, ◌∙◌, subst, append_assoc, length-append, arith}
use Rattle.std.proofs.lemmas.List.{append-nil}
use Rattle.jvm_model.specs.declared.event.Event.{Event}
use Rattle.jvm_model.specs.declared.event.EventKind.{EventKind}
use Rattle.jvm_model.specs.declared.event.EventKind.TheVariants.{Root, Enter, Leave, Unwind}
use Rattle.event_buffer.specs.Records.{leb128, kind_number, record_of, records_of}
use Rattle.event_buffer.specs.Reading.{number_in, behind_number, kind_numbered, event_in, events_within, events_in}
use Rattle.event_buffer.specs.Rooms.{Room, room_of}
use Rattle.event_buffer.specs.Buffers.{Held, clock_behind, rest_of}
use Rattle.event_buffer.specs.Spelled.{IsNext, AreInOrder, AreRecords}
use Rattle.event_buffer.proofs.Leb128.{leb128-front}

abbrev pub option-of : Event → Option Event
option-of e = Some e

abbrev pub held_of : List Event → ℕ → ℕ → Held
held_of events popped capacity = record { events = events; popped = popped; capacity = capacity }

-- ---- one record

kind_numbered-kind_number : (kind : EventKind) → kind_numbered (kind_number kind) ≡ kind
kind_numbered-kind_number Root = refl
kind_numbered-kind_number Enter = refl
kind_numbered-kind_number Leave = refl
kind_numbered-kind_number Unwind = refl

abbrev pub event_of : EventKind → ℕ → ℕ → Event
event_of kind method clock = record { kind = kind; method = method; clock = clock }

event-same : (k k' : EventKind) (m m' c c' : ℕ) → k ≡ k' → m ≡ m' → c ≡ c' → event_of k m c ≡ event_of k' m' c'
event-same k k' m m' c c' p q r = ap (λ k. event_of k m c) p ∙ ap (λ m. event_of k' m c) q ∙ ap (λ c. event_of k' m' c) r

-- what stands behind the byte of a record
abbrev numbers_of : ℕ → Event → List ℕ → List ℕ
numbers_of before e rest = (leb128 e.method ++ leb128 (e.clock - before)) ++ rest

pub record IsRead (before : ℕ) (e : Event) (rest : List ℕ) : Type 0 where
  pub event : event_in before (kind_number e.kind) (numbers_of before e rest) ≡ e
  pub behind : behind_number (behind_number (numbers_of before e rest)) ≡ rest

record-read : (before : ℕ) (e : Event) (rest : List ℕ) → before ≤ e.clock → IsRead before e rest
record-read before e rest later =
    let flat = append_assoc (leb128 e.method) (leb128 (e.clock - before)) rest in
    let first = leb128-front e.method (leb128 (e.clock - before) ++ rest) in
    let second = leb128-front (e.clock - before) rest in
    let method : number_in (numbers_of before e rest) ≡ e.method = ap number_in flat ∙ first.value in
    let middle : behind_number (numbers_of before e rest) ≡ leb128 (e.clock - before) ++ rest = ap behind_number flat ∙ first.behind in
    let more : number_in (behind_number (numbers_of before e rest)) ≡ e.clock - before = ap number_in middle ∙ second.value in
    let clock : before + number_in (behind_number (numbers_of before e rest)) ≡ e.clock = omega (arith, more, later) in
    record {
      event = event-same _ e.kind _ e.method _ e.clock (kind_numbered-kind_number e.kind) method clock;
      behind = ap behind_number middle ∙ second.behind;
    }

-- ---- all of them

within-records : (events : List Event) (fuel before : ℕ) → AreInOrder before events → length events ≤ fuel → events_within fuel before (records_of before events) ≡ events
within-records [] zero before ordered h = refl
within-records [] (suc fuel) before ordered h = refl
within-records (e ∷ rest) zero before ordered h = absurd (omega arith)
within-records (e ∷ rest) (suc fuel) before ordered h =
    let is = record-read before e (records_of e.clock rest) ordered.0.later in
    ap (λ (x : Event). x ∷ events_within fuel x.clock (behind_number (behind_number (numbers_of before e (records_of e.clock rest))))) is.event
    ∙ ap (λ bytes. e ∷ events_within fuel e.clock bytes) is.behind
    ∙ ap (λ (xs : List Event). e ∷ xs) (within-records rest fuel e.clock ordered.1 (omega arith))

length-records_of : (events : List Event) (before : ℕ) → length events ≤ length (records_of before events)
length-records_of [] before = omega arith
length-records_of (e ∷ rest) before =
    let more = length-append (record_of before e) (records_of e.clock rest) in
    let less = length-records_of rest e.clock in
    omega (arith, more, less)

events_in-records_of : (events : List Event) (before : ℕ) → AreInOrder before events → events_in before (records_of before events) ≡ events
unfolding events_in
events_in-records_of events before ordered = within-records events _ before ordered (length-records_of events before)

-- ---- bytes that are the records of events

pub record AreOf (popped last : ℕ) (bytes : List ℕ) (events : List Event) : Type 0 where
  pub read : events_in popped bytes ≡ events
  pub records : AreRecords popped last bytes

records-of : (popped last : ℕ) (bytes : List ℕ) (events : List Event) → bytes ≡ records_of popped events → AreInOrder popped events → last ≡ clock_behind popped events
    → AreOf popped last bytes events
records-of popped last bytes events spelled ordered until =
    let same : events_in popped bytes ≡ events = ap (events_in popped) spelled ∙ events_in-records_of events popped ordered in
    record {
      read = same;
      records = record {
        spelled = spelled ∙ ap (records_of popped) (sym same);
        ordered = subst (AreInOrder popped) (sym same) ordered;
        until = until ∙ ap (clock_behind popped) (sym same);
      };
    }

pub records-none : (popped : ℕ) → AreOf popped popped [] []
records-none popped = records-of popped popped [] [] refl tt refl

-- ---- pushing

records_of-push : (events : List Event) (before : ℕ) (e : Event) → records_of before (events ++ e ∷ []) ≡ records_of before events ++ record_of (clock_behind before events) e
records_of-push [] before e = append-nil (record_of before e)
records_of-push (x ∷ rest) before e =
    ap (λ bytes. record_of before x ++ bytes) (records_of-push rest x.clock e)
    ∙ sym (append_assoc (record_of before x) (records_of x.clock rest) (record_of (clock_behind x.clock rest) e))

AreInOrder-push : (events : List Event) (before : ℕ) (e : Event) → AreInOrder before events → IsNext (clock_behind before events) e → AreInOrder before (events ++ e ∷ [])
AreInOrder-push [] before e ordered next = (next, tt)
AreInOrder-push (x ∷ rest) before e ordered next = (ordered.0, AreInOrder-push rest x.clock e ordered.1 next)

clock_behind-push : (events : List Event) (before : ℕ) (e : Event) → clock_behind before (events ++ e ∷ []) ≡ e.clock
clock_behind-push [] before e = refl
clock_behind-push (x ∷ rest) before e = clock_behind-push rest x.clock e

pub push-holds : (popped last : ℕ) (bytes : List ℕ) (e : Event) → AreRecords popped last bytes → IsNext last e
    → AreOf popped e.clock (bytes ++ record_of last e) (events_in popped bytes ++ e ∷ [])
push-holds popped last bytes e are next =
    let events = events_in popped bytes in
    records-of popped e.clock (bytes ++ record_of last e) (events ++ e ∷ [])
    (ap (λ front. front ++ record_of last e) are.spelled
    ∙ ap (λ before. records_of popped events ++ record_of before e) are.until
    ∙ sym (records_of-push events popped e))
    (AreInOrder-push events popped e are.ordered (subst (λ before. IsNext before e) are.until next))
    (sym (clock_behind-push events popped e))

-- ---- popping

-- the first record is that of an event, and what is behind it are the records of the others
pub record IsPopped (popped last kind : ℕ) (rest : List ℕ) : Type 0 where
  pub events : events_in popped (kind ∷ rest) ≡ event_in popped kind rest ∷ events_in (event_in popped kind rest).clock (behind_number (behind_number rest))
  pub next : IsNext popped (event_in popped kind rest)
  pub records : AreRecords (event_in popped kind rest).clock last (behind_number (behind_number rest))

popped-first : (popped last kind : ℕ) (rest : List ℕ) (e : Event) (others : List Event) → events_in popped (kind ∷ rest) ≡ e ∷ others
    → kind ∷ rest ≡ records_of popped (e ∷ others) → AreInOrder popped (e ∷ others) → last ≡ clock_behind e.clock others → IsPopped popped last kind rest
popped-first popped last kind rest e others are spelled ordered until =
    let first : kind ≡ kind_number e.kind = cc in
    let bytes : rest ≡ numbers_of popped e (records_of e.clock others) = cc in
    let is = record-read popped e (records_of e.clock others) ordered.0.later in
    let event : event_in popped kind rest ≡ e = ap (λ k. event_in popped k rest) first ∙ ap (event_in popped (kind_number e.kind)) bytes ∙ is.event in
    let behind : behind_number (behind_number rest) ≡ records_of e.clock others = ap (λ r. behind_number (behind_number r)) bytes ∙ is.behind in
    let later = records-of e.clock last (behind_number (behind_number rest)) others behind ordered.1 until in
    let clock : (event_in popped kind rest).clock ≡ e.clock = ap (λ (x : Event). x.clock) event in
    record {
      events = are ∙ ap (λ (x : Event). x ∷ others) (sym event)
          ∙ ap (λ (xs : List Event). event_in popped kind rest ∷ xs) (sym later.read)
          ∙ ap (λ c. event_in popped kind rest ∷ events_in c (behind_number (behind_number rest))) (sym clock);
      next = subst (IsNext popped) (sym event) ordered.0;
      records = subst (λ c. AreRecords c last (behind_number (behind_number rest))) (sym clock) later.records;
    }

pub pop-holds : (popped last kind : ℕ) (rest : List ℕ) → AreRecords popped last (kind ∷ rest) → IsPopped popped last kind rest
pop-holds popped last kind rest are = by (events_in popped (kind ∷ rest)) refl are.spelled are.ordered are.until
  where
    by : (events : List Event) → events_in popped (kind ∷ rest) ≡ events → kind ∷ rest ≡ records_of popped events → AreInOrder popped events
        → last ≡ clock_behind popped events → IsPopped popped last kind rest
    by [] is spelled ordered until = absurd cc
    by (e ∷ others) is spelled ordered until = popped-first popped last kind rest e others is spelled ordered until

front-cons : (bytes : List ℕ) (kind : ℕ) → Some kind ≡ slice_get bytes 0 → bytes ≡ kind ∷ drop 1 bytes
front-cons [] kind h = absurd cc
front-cons (b ∷ rest) kind h = let same : b ≡ kind = cc in ap (λ k. k ∷ rest) same

front-holds : (popped last : ℕ) (bytes : List ℕ) (kind : ℕ) → AreRecords popped last bytes → Some kind ≡ slice_get bytes 0 → IsPopped popped last kind (drop 1 bytes)
front-holds popped last bytes kind are h = pop-holds popped last kind (drop 1 bytes) (subst (AreRecords popped last) (front-cons bytes kind h) are)

items-are : (b : Room) (items : List ℕ) (capacity : ℕ) → b ≡ room_of items capacity → b.items ≡ items
items-are b items capacity e = ap (λ (b : Room). b.items) e

pub pop-method : (popped last : ℕ) (bytes : List ℕ) (kind capacity : ℕ) (first : Room) → AreRecords popped last bytes → Some kind ≡ slice_get bytes 0
    → first ≡ room_of (drop 1 bytes) capacity → number_in first.items < 2 ^ 32
pop-method popped last bytes kind capacity first are h e =
    subst (λ xs. number_in xs < 2 ^ 32) (sym (items-are first (drop 1 bytes) capacity e)) (front-holds popped last bytes kind are h).next.method

pub pop-clock : (popped last : ℕ) (bytes : List ℕ) (kind capacity : ℕ) (first second : Room) → AreRecords popped last bytes → Some kind ≡ slice_get bytes 0
    → first ≡ room_of (drop 1 bytes) capacity → second ≡ room_of (behind_number first.items) first.capacity → popped + number_in second.items < 2 ^ 64
pop-clock popped last bytes kind capacity first second are h e f =
    let second_is = items-are second (behind_number first.items) first.capacity f ∙ ap behind_number (items-are first (drop 1 bytes) capacity e) in
    subst (λ xs. popped + number_in xs < 2 ^ 64) (sym second_is) (front-holds popped last bytes kind are h).next.clock

-- what a pop comes to
pub record PopsFirst (popped last capacity kind : ℕ) (bytes : List ℕ) (third : Room) (method more : ℕ) : Type 0 where
  pub records : AreRecords (popped + more) last third.items
  pub first : Some (event_of (kind_numbered kind) method (popped + more)) ≡ slice_get (events_in popped bytes) 0
  pub rest : held_of (events_in (popped + more) third.items) (popped + more) third.capacity
      ≡ rest_of (held_of (events_in popped bytes) popped capacity) (events_in popped bytes)

pub pop-first : (popped last : ℕ) (bytes : List ℕ) (kind capacity : ℕ) (first second third : Room) (method more : ℕ)
    → AreRecords popped last bytes → Some kind ≡ slice_get bytes 0
    → first ≡ room_of (drop 1 bytes) capacity
    → method ≡ number_in first.items → second ≡ room_of (behind_number first.items) first.capacity
    → more ≡ number_in second.items → third ≡ room_of (behind_number second.items) second.capacity
    → PopsFirst popped last capacity kind bytes third method more
pop-first popped last bytes kind capacity first second third method more are h e m f d g =
    let is = front-holds popped last bytes kind are h in
    let rest = drop 1 bytes in
    let second_is : second ≡ room_of (behind_number rest) capacity = f ∙ ap (λ (b : Room). room_of (behind_number b.items) b.capacity) e in
    let third_is : third ≡ room_of (behind_number (behind_number rest)) capacity = g ∙ ap (λ (b : Room). room_of (behind_number b.items) b.capacity) second_is in
    let method_is : method ≡ number_in rest = m ∙ ap (λ (b : Room). number_in b.items) e in
    let more_is : more ≡ number_in (behind_number rest) = d ∙ ap (λ (b : Room). number_in b.items) second_is in
    let read = ap (events_in popped) (front-cons bytes kind h) ∙ is.events in
    record {
      records = subst (λ n. AreRecords (popped + n) last third.items) (sym more_is)
          (subst (λ (b : Room). AreRecords (popped + number_in (behind_number rest)) last b.items) (sym third_is) is.records);
      first = ap (λ (x : Event). Some x) (ap (λ n. event_of (kind_numbered kind) n (popped + more)) method_is ∙ ap (λ n. event_of (kind_numbered kind) (number_in rest) (popped + n)) more_is)
          ∙ sym (ap (λ (xs : List Event). slice_get xs 0) read);
      rest = ap (λ (b : Room). held_of (events_in (popped + more) b.items) (popped + more) b.capacity) third_is
          ∙ ap (λ n. held_of (events_in (popped + n) (behind_number (behind_number rest))) (popped + n) capacity) more_is
          ∙ sym (ap (rest_of (held_of (events_in popped bytes) popped capacity)) read);
    }

-- ---- nothing is held

pub none-held : (popped last : ℕ) (bytes : List ℕ) → AreRecords popped last bytes → events_in popped bytes ≡ [] → length bytes ≡ 0
none-held popped last bytes are h = ap length (are.spelled ∙ ap (records_of popped) h)

pub none-in : (popped : ℕ) (bytes : List ℕ) → None ≡ slice_get bytes 0 → events_in popped bytes ≡ []
unfolding events_in
none-in popped [] h = refl
none-in popped (b ∷ rest) h = absurd cc

pub new-view : (b : Room) (capacity : ℕ) → b ≡ room_of [] capacity → held_of (events_in 0 b.items) 0 b.capacity ≡ held_of [] 0 capacity
unfolding events_in
new-view b capacity e = ap (λ (b : Room). held_of (events_in 0 b.items) 0 b.capacity) e

pub push-view : (popped last capacity : ℕ) (bytes : List ℕ) (e : Event) (after : Room) → AreRecords popped last bytes → IsNext last e
    → after ≡ room_of (bytes ++ record_of last e) capacity
    → AreRecords popped e.clock after.items × (held_of (events_in popped after.items) popped after.capacity ≡ held_of (events_in popped bytes ++ e ∷ []) popped capacity)
push-view popped last capacity bytes e after are next is =
    let holds = push-holds popped last bytes e are next in (
      subst (λ (b : Room). AreRecords popped e.clock b.items) (sym is) holds.records,
      ap (λ (b : Room). held_of (events_in popped b.items) popped b.capacity) is ∙ ap (λ (xs : List Event). held_of xs popped capacity) holds.read,
    )
