-- Events go to the buffer, and from there to the tree.
use Rattle.std.proofs.Common.{◌≡◌, ℕ, Bool, true, false, if◌then◌else◌, ◌+◌, ◌-◌, ◌≤◌, ◌<◌, List, [], ◌∷◌, ◌++◌, length, Some, None, slice_get, refl, sym, ap, ap₂, subst, ◌∙◌, arith}
use Rattle.std.specs.Prelude.{fold, ◌^◌}
use Rattle.jvm_model.specs.declared.event.Event.{Event}
use Rattle.jvm_model.specs.declared.event.EventKind.{EventKind}
use Rattle.jvm_model.specs.declared.event.EventKind.TheVariants.{Root, Enter, Leave, Unwind}
use Rattle.jvm_model.specs.Profiling.EventLists.{entries, entries_by}
use Rattle.jvm_model.specs.Basis.KindNumbers.{user_count}
use Rattle.jvm_model.specs.Classes.Load.{is_among}
use Rattle.jvm_model.specs.Profiling.Paths.{is_outside}
use Rattle.jvm_model.proofs.Events.TracesEntries.{entries-append}
use Rattle.context_tree.specs.Counts.{AreInOrder, path_after}
use Rattle.context_tree.specs.Profiles.{Profile, calls_of, steps_credited, path_opened, event_taken, event_told}
use Rattle.context_tree.proofs.Events.EventCalls.{calls_of-taken}
use Rattle.event_buffer.specs.Buffers.{Held, last_clock, event_pushed, rest_of}
use Rattle.profile_session.specs.declared.parts.Parts.{Parts}
use Rattle.call_revelation.specs.Reveals.{IsRevelation}
use Rattle.profile_session.specs.Images.{AreImageable}
use Rattle.profile_session.specs.Parts.{AreFit, Drains, IsTellable, Pushes, Takes, calls_in, profile_in}
use Rattle.profile_session.proofs.Turns.Hearing.{open-taken}
use Rattle.profile_session.proofs.Turns.Steps.{order-push}

pub fold-both : (a b : List Event) (p : Profile) → fold event_taken p (a ++ b) ≡ fold event_taken (fold event_taken p a) b
fold-both [] b p = refl
fold-both (e ∷ a) b p = fold-both a b (event_taken p e)

pub taken-clock : (p : Profile) (e : Event) → (event_taken p e).clock ≡ e.clock
taken-clock p e = by e.kind where
  either : (b : Bool) → (let q : Profile = if b then steps_credited e.clock p else path_opened e.method (steps_credited e.clock p) in q).clock ≡ e.clock
  either true = refl
  either false = refl

  by : (k : EventKind) → (event_told k e.method (steps_credited e.clock p)).clock ≡ e.clock
  by Root = refl
  by Enter = either (is_outside p.open)
  by Leave = refl
  by Unwind = refl

-- ---- from the buffer to the tree

-- so far it was drained
pub record IsDraining (first x : Parts) : Type 0 where
  pub same : x ≡ record first { tree = x.tree; buffer = x.buffer }
  pub profile : profile_in x ≡ profile_in first
  pub calls : calls_in x ≤ calls_in first
  pub fit : AreFit x

pub draining-first : (x : Parts) → AreFit x → IsDraining x x
draining-first x fit = record { same = refl; profile = refl; calls = omega arith; fit = fit }

front-is : (events : List Event) (e : Event) → slice_get events 0 ≡ Some e → (rest : List Event) × (events ≡ e ∷ rest)
front-is [] e is = absurd (let h : None ≡ Some e = is in cc)
front-is (x ∷ rest) e is = (rest, ap (λ x. x ∷ rest) (let inj : Some x ≡ Some e → x ≡ e = λ q. cc in inj is))

-- what the tree asks of the event that comes out
pub taken-later : (x : Parts) (e : Event) → AreFit x → slice_get x.buffer.events 0 ≡ Some e → x.tree.clock ≤ e.clock
taken-later x e fit is =
    let front = front-is x.buffer.events e is in
    (subst (λ es. AreInOrder x.tree.clock es x.vm.clock) front.1 fit.order).0

pub taken-countable : (x : Parts) → AreFit x → calls_of x.tree < 2 ^ 64 - 1
taken-countable x fit = let few = fit.few in omega (arith, few)

pub taken-next : (first x : Parts) (e : Event) (tree : Profile) (buffer : Held) → IsDraining first x → slice_get x.buffer.events 0 ≡ Some e
    → buffer ≡ rest_of x.buffer x.buffer.events → last_clock buffer ≡ last_clock x.buffer → tree ≡ event_taken x.tree e → calls_of tree ≤ calls_of x.tree + 1
    → IsDraining first (record x { tree = tree; buffer = buffer })
taken-next first x e tree buffer d is rest last is_taken calls =
    let front = front-is x.buffer.events e is in
    let rest_is : buffer.events ≡ front.0 = ap (λ (b : Held). b.events) (rest ∙ ap (rest_of x.buffer) front.1) in
    let room : buffer.capacity ≡ x.buffer.capacity = ap (λ (b : Held). b.capacity) (rest ∙ ap (rest_of x.buffer) front.1) in
    let new : Parts = record x { tree = tree; buffer = buffer } in
    let profile : profile_in new ≡ profile_in x = ap₂ (λ t es. fold event_taken t es) is_taken rest_is ∙ ap (fold event_taken x.tree) (sym front.1) in
    let more = calls_of-taken x.tree tree e is_taken calls in
    let before : entries x.buffer.events ≡ entries_by e.kind + entries front.0 = ap entries front.1 in
    let after : entries buffer.events ≡ entries front.0 = ap entries rest_is in
    let fewer : calls_in new ≤ calls_in x = omega (arith, more, before, after) in
    let fit = d.fit in
    let order = subst (λ es. AreInOrder x.tree.clock es x.vm.clock) front.1 fit.order in
    let clock : tree.clock ≡ e.clock = ap (λ (q : Profile). q.clock) is_taken ∙ taken-clock x.tree e in
    record {
      same = ap (λ (y : Parts). let z : Parts = record y { tree = tree; buffer = buffer } in z) d.same;
      profile = profile ∙ d.profile;
      calls = (let c = d.calls in omega (arith, c, fewer));
      fit = record {
        whole = fit.whole;
        tidy = fit.tidy;
        revelation = fit.revelation;
        imageable = fit.imageable;
        root = fit.root;
        marks = fit.marks;
        depth = fit.depth ∙ ap (λ (q : Profile). length q.open) (sym profile);
        shallow = fit.shallow;
        few = (let f = fit.few in omega (arith, f, fewer));
        order = subst (λ n. AreInOrder n buffer.events x.vm.clock) (sym clock) (subst (λ es. AreInOrder e.clock es x.vm.clock) (sym rest_is) order.1);
        last = subst (λ n. n ≤ x.vm.clock) (sym last) fit.last;
        room = subst (λ n. 16 ≤ n) (sym room) fit.room;
      };
    }

none-held : (events : List Event) → slice_get events 0 ≡ None → events ≡ []
none-held [] is = refl
none-held (e ∷ rest) is = absurd (let h : Some e ≡ None = is in cc)

pub drained : (first x : Parts) (buffer : Held) → IsDraining first x → slice_get x.buffer.events 0 ≡ None → buffer ≡ rest_of x.buffer x.buffer.events → Drains first (record x { buffer = buffer })
drained first x buffer d none rest =
    let empty = none-held x.buffer.events none in
    let same : buffer ≡ x.buffer = rest ∙ ap (rest_of x.buffer) empty in
    subst (λ (b : Held). Drains first (record x { buffer = b })) (sym same)
    (record { same = d.same; profile = d.profile; calls = d.calls; empty = empty; fit = d.fit })

-- ---- into the buffer

pub pushed-first : (x : Parts) (e : Event) (buffer : Held) → AreFit x → e.clock ≡ x.vm.clock → buffer ≡ event_pushed x.buffer e → last_clock buffer ≡ e.clock → Pushes x e (record x { buffer = buffer })
pushed-first x e buffer fit now is last =
    let events : buffer.events ≡ x.buffer.events ++ e ∷ [] = ap (λ (b : Held). b.events) is in
    let more : entries buffer.events ≡ entries x.buffer.events + entries (e ∷ []) = ap entries events ∙ entries-append x.buffer.events (e ∷ []) in
    record {
      same = refl;
      profile = ap (fold event_taken x.tree) events ∙ fold-both x.buffer.events (e ∷ []) x.tree;
      calls = omega (arith, more);
      order = subst (λ es. AreInOrder x.tree.clock es x.vm.clock) (sym events) (order-push x.tree.clock x.buffer.events e x.vm.clock fit.order now);
      last = omega (arith, last, now);
      room = subst (λ n. 16 ≤ n) (sym (ap (λ (b : Held). b.capacity) is)) fit.room;
    }

pub pushed-behind : (x y : Parts) (e : Event) (buffer : Held) → Drains x y → e.clock ≡ x.vm.clock → buffer ≡ event_pushed y.buffer e → last_clock buffer ≡ e.clock → Pushes x e (record y { buffer = buffer })
pushed-behind x y e buffer d now is last =
    let clock : e.clock ≡ y.vm.clock = now ∙ sym (ap (λ (z : Parts). z.vm.clock) d.same) in
    let p = pushed-first y e buffer d.fit clock is last in
    record {
      same = ap (λ (z : Parts). let q : Parts = record z { buffer = buffer } in q) d.same;
      profile = p.profile ∙ ap (λ q. event_taken q e) d.profile;
      calls = (let a = p.calls in let b = d.calls in omega (arith, a, b));
      order = p.order;
      last = p.last;
      room = p.room;
    }

pub has-room : (x y : Parts) → Drains x y → (y.buffer.events ≡ []) × (16 ≤ y.buffer.capacity)
has-room x y d = (d.empty, d.fit.room)

-- ---- with the depth

pub takes-by : (x y : Parts) (e : Event) (depth : ℕ) → AreFit x → IsTellable x e → Pushes x e y → depth ≡ length (path_after (profile_in x).open e) → depth ≤ x.depth + entries_by e.kind
    → Takes x e (record y { depth = depth })
takes-by x y e depth fit able p is deeper =
    let path : (profile_in y).open ≡ path_after (profile_in x).open e = ap (λ (q : Profile). q.open) p.profile ∙ open-taken (profile_in x) e in
    let vm : y.vm ≡ x.vm = ap (λ (z : Parts). z.vm) p.same in
    let reveal : y.reveal ≡ x.reveal = ap (λ (z : Parts). z.reveal) p.same in
    record {
      same = ap (λ (z : Parts). let q : Parts = record z { depth = depth } in q) p.same;
      profile = p.profile;
      calls = p.calls;
      fit = record {
        whole = ap (λ (z : Parts). z.vm.broken) p.same ∙ fit.whole;
        tidy = ap (λ (z : Parts). z.vm.stale) p.same ∙ fit.tidy;
        revelation = subst (λ (z : Parts). IsRevelation z.vm.program z.reveal) (sym p.same) fit.revelation;
        imageable = subst (λ (z : Parts). AreImageable z.vm.program) (sym p.same) fit.imageable;
        root = ap (λ (z : Parts). is_among (user_count z.vm.program) z.reveal.lineage.loaded) p.same ∙ fit.root;
        marks = ap (λ (z : Parts). z.vm.marks) p.same ∙ (fit.marks ∙ sym (ap (λ (z : Parts). z.reveal.shown) p.same));
        depth = is ∙ ap length (sym path);
        shallow = (let s = able.shallow in omega (arith, s, deeper));
        few = (let f = able.few in let c = p.calls in omega (arith, f, c));
        order = p.order;
        last = p.last;
        room = p.room;
      };
    }
