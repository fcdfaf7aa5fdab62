-- An instruction ends one activation, or begins one, or changes none: the number of live ones tells which.
use Rattle.std.proofs.Common.{◌≡◌, ℕ, suc, Bool, true, false, List, [], ◌∷◌, Option, Some, None, nat_le, nat_lt, if◌then◌else◌, refl, sym, ap, ◌∙◌, arith}
use Rattle.std.proofs.lemmas.Bool.{le-ltb, lt-ltb}
use Rattle.frame_stack.specs.Widths.{height_of}
use Rattle.heap_objects.specs.declared.datum.Datum.{Datum}
use Rattle.heap_objects.specs.declared.Value.TheVariants.{Addr}
use Rattle.jvm_model.specs.declared.event.EventKind.{EventKind}
use Rattle.jvm_model.specs.declared.event.EventKind.TheVariants as kind
use Rattle.jvm_model.specs.declared.event.Mark.{Mark}
use Rattle.jvm_model.specs.declared.event.Mark.TheVariants.{Off, Plain, Root}
use Rattle.jvm_model.specs.Basis.Data.{Locals, Operands, Change, Loads, Began, Left, Unwound, Turn, Instruction, Listing, World, Outcome, GoesOn, Subroutine, Invokes, Returns, Throws, Raises, Initializes, Exits, Breaks}
use Rattle.jvm_model.specs.declared.due.Due.TheVariants.{Ends, Begins}
use Rattle.jvm_model.specs.declared.state.Entry.{Entry}
use Rattle.jvm_model.specs.declared.state.Entry.TheVariants.{Active, Initializing}
use Rattle.jvm_model.specs.declared.state.Frame.{Frame}
use Rattle.jvm_model.specs.declared.state.State.{State}
use Rattle.jvm_model.specs.Basis.SharedState.{exception_raised, stack_overflow}
use Rattle.jvm_model.specs.Running.Applies.{still, with_frame, breaks, goes, place_of, enters_subroutine, throws_at, has_room, begins, begins_beside, live_in, most_live, resumes, gives_back, applies}
use Rattle.jvm_model.specs.Turns.Told.{Held, mark_now}
use Rattle.jvm_model.specs.Turns.Pauses.{Pause, changes_due, end_due, passed_by, step_paused, unless_off}
use Rattle.jvm_model.specs.Turns.StepPauses.{instruction_attempted, pause_behind, turn_pause}
use Rattle.jvm_model.specs.Running.Between.{changes_between, depths_compared, attempt_followed, top_method}

-- ---- as many are live

same-live : (n : ℕ) (stack : List Entry) → live_in stack ≡ n → changes_between n stack ≡ []
same-live n stack e =
    ap (λ k. depths_compared (nat_lt k n) (nat_lt n k) (top_method stack)) e
    ∙ (ap (λ b. depths_compared b (nat_lt n n) (top_method stack)) (not-less n) ∙ ap (λ b. depths_compared false b (top_method stack)) (not-less n))
  where
    not-less : (n : ℕ) → nat_lt n n ≡ false
    not-less n = le-ltb n n (omega arith)

fewer-live : (n : ℕ) (stack : List Entry) → suc (live_in stack) ≡ n → changes_between n stack ≡ Left ∷ []
fewer-live n stack e = ap (λ b. depths_compared b (nat_lt n (live_in stack)) (top_method stack)) (lt-ltb (live_in stack) n (omega arith))

more-live : (n : ℕ) (stack : List Entry) → live_in stack ≡ suc n → changes_between n stack ≡ Began (top_method stack) ∷ []
more-live n stack e =
    ap (λ b. depths_compared b (nat_lt n (live_in stack)) (top_method stack)) (le-ltb (live_in stack) n (omega arith))
    ∙ ap (λ b. depths_compared false b (top_method stack)) (lt-ltb n (live_in stack) (omega arith))

-- ---- a frame that goes on, or stays

goes-live : (s : State) (f : Frame) (own : ℕ) (l : Locals) (o : Operands) (place : Option ℕ) → live_in (goes s f own l o place).stack ≡ suc (live_in s.stack)
goes-live s f own l o None = refl
goes-live s f own l o (Some place) = by (nat_le (height_of o) f.max_stack) where
  by : (b : Bool) → live_in (if b then with_frame s (record f { place = place; locals = l; operands = o }) else breaks s f own).stack ≡ suc (live_in s.stack)
  by true = refl
  by false = refl

enters-live : (s : State) (f : Frame) (i : Instruction) (next : Option ℕ) → live_in (enters_subroutine s f i next).stack ≡ suc (live_in s.stack)
enters-live s f i None = refl
enters-live s f i (Some next) = goes-live s f i.own f.locals (Addr next ∷ f.operands) _

resumes-live : (s : State) (f : Frame) (d : Option Datum) (i : Option Instruction) → live_in (resumes s f d i).stack ≡ suc (live_in s.stack)
resumes-live s f d None = refl
resumes-live s f d (Some i) = goes-live s f i.own f.locals _ i.next

back-live : (t : Listing) (s : State) (d : Option Datum) (stack : List Entry) → s.stack ≡ stack → live_in (gives_back t s d stack).stack ≡ live_in stack
back-live t s d [] e = ap live_in e
back-live t s d (Initializing c part ∷ below) e = ap live_in e
back-live t s d (Active caller ∷ below) e = resumes-live (record s { stack = below }) caller d (t.at caller.version caller.place)

-- ---- every outcome

abbrev Tells : ℕ → Turn → Type 0
Tells n a = a.changes ≡ changes_between n a.after.stack

stays : (n : ℕ) (x : State) → live_in x.stack ≡ n → Tells n (still x)
stays n x e = sym (same-live n x.stack e)

pub applies-tell : (w : World) (t : Listing) (i : Instruction) (q : Outcome) (s : State) (f : Frame)
    → (applies w t i q s f).changes ≡ changes_between (suc (live_in s.stack)) (applies w t i q s f).after.stack
applies-tell w t i (GoesOn l o to) s f = stays (suc (live_in s.stack)) (goes s f i.own l o (place_of i to)) (goes-live s f i.own l o (place_of i to))
applies-tell w t i Subroutine s f = stays (suc (live_in s.stack)) (enters_subroutine s f i i.next) (enters-live s f i i.next)
applies-tell w t i (Invokes m args below) s f = by (has_room w m args) where
  beside : (b : Bool) → Tells (suc (live_in s.stack)) (if b then begins w t s f m args below else still (throws_at s f (exception_raised w s.shared stack_overflow None)))
  beside true = sym (more-live (suc (live_in s.stack)) (begins w t s f m args below).after.stack refl)
  beside false = stays (suc (live_in s.stack)) (throws_at s f (exception_raised w s.shared stack_overflow None)) refl

  by : (b : Bool) → Tells (suc (live_in s.stack)) (if b then begins_beside w t s f m args below (suc (live_in s.stack)) else still (breaks s f i.own))
  by true = beside (nat_lt (suc (live_in s.stack)) most_live)
  by false = stays (suc (live_in s.stack)) (breaks s f i.own) refl
applies-tell w t i (Returns d) s f =
    sym (fewer-live (suc (live_in s.stack)) (gives_back t s d s.stack).stack (ap suc (back-live t s d s.stack refl)))
applies-tell w t i (Throws r) s f = stays (suc (live_in s.stack)) (throws_at s f (record { shared = s.shared; reference = r })) refl
applies-tell w t i (Raises c message) s f = stays (suc (live_in s.stack)) (throws_at s f (exception_raised w s.shared c message)) refl
applies-tell w t i (Initializes c) s f = stays (suc (live_in s.stack)) (applies w t i (Initializes c) s f).after refl
applies-tell w t i (Exits n) s f = stays (suc (live_in s.stack)) (applies w t i (Exits n) s f).after refl
applies-tell w t i (Breaks true) s f = sym (fewer-live (suc (live_in s.stack)) s.stack refl)
applies-tell w t i (Breaks false) s f = stays (suc (live_in s.stack)) (breaks s f i.own) refl

-- ---- the pause behind it does not ask who was live

module _ (w : World) (t : Listing) (v : ℕ → Mark) (n : ℕ) where
  behind-end : (k : EventKind) (live : List Held) (b l : Pause) → pause_behind (end_due k live) b l ≡ l
  behind-end k [] b l = refl
  behind-end k (h ∷ more) b l = by h.mark where
    by : (m : Mark) → pause_behind (unless_off m (Ends k)) b l ≡ l
    by Off = refl
    by Plain = refl
    by Root = refl

  whoever : (live : List Held) (changes : List Change) (b l : Pause)
      → pause_behind (changes_due (mark_now v t) live changes) b l ≡ pause_behind (changes_due (mark_now v t) [] changes) b l
  whoever live [] b l = refl
  whoever live (Loads classes ∷ more) b l = refl
  whoever live (Began m ∷ more) b l = refl
  whoever live (Left ∷ more) b l = behind-end kind.Leave live b l
  whoever live (Unwound ∷ more) b l = behind-end kind.Unwind live b l

  pub followed-is : (live : List Held) (a : Turn) → turn_pause w t v n live a ≡ attempt_followed w t v n a.changes a.after
  followed-is live a = whoever live a.changes (record { state = a.after; passed = passed_by n a.changes; due = Begins }) (step_paused w t v (passed_by n a.changes) a.after)

  -- behind an instruction
  pub attempted-pause : (live : List Held) (i : Instruction) (s : State) (f : Frame)
      → turn_pause w t v n live (instruction_attempted w t i s f) ≡ attempt_followed w t v n (changes_between (suc (live_in s.stack)) (instruction_attempted w t i s f).after.stack) (instruction_attempted w t i s f).after
  attempted-pause live i s f =
      followed-is live (instruction_attempted w t i s f)
      ∙ ap (λ changes. attempt_followed w t v n changes (instruction_attempted w t i s f).after) (applies-tell w t i _ _ f)
