-- An event that opens a path is of a method that has begun in the step, and so its class is loaded.
use Rattle.std.proofs.Common.{◌≡◌, ℕ, zero, suc, Bool, true, false, List, [], ◌∷◌, drop, Some, None, if◌then◌else◌, refl, sym, ap, subst, ◌∙◌}
use Rattle.jvm_model.specs.declared.due.Due.{Due}
use Rattle.jvm_model.specs.declared.due.Due.TheVariants.{Nothing, Ends, Begins}
use Rattle.jvm_model.specs.declared.event.Event.{Event}
use Rattle.jvm_model.specs.declared.event.EventKind.{EventKind}
use Rattle.jvm_model.specs.declared.event.EventKind.TheVariants as kind
use Rattle.jvm_model.specs.declared.event.Mark.{Mark}
use Rattle.jvm_model.specs.declared.program.Program.{Program}
use Rattle.jvm_model.specs.Soundness.Calls.{AreCalled}
use Rattle.jvm_model.specs.Basis.Data.{Change, Loads, Began, Left, Unwound}
use Rattle.jvm_model.specs.declared.instruction.Local.{Local}
use Rattle.jvm_model.specs.declared.instruction.Operation.{Operation}
use Rattle.jvm_model.specs.Rewriting.Images.{is_off}
use Rattle.jvm_model.specs.Running.Changes.{without_first}
use Rattle.jvm_model.specs.Turns.Pauses.{Stop, begin_kind, end_due, stop_by, stop_from, stop_in, told_at}
use Rattle.jvm_model.specs.Profiling.Points.{has_class}
use Rattle.jvm_model.specs.Turns.Told.{Held, held_after}
use Rattle.context_tree.specs.Counts.{opens}

-- each method that begins
abbrev pub AllBegin : (ℕ → Type 0) → List Change → Type 0
AllBegin P [] = Unit {0}
AllBegin P (Loads classes ∷ more) = AllBegin P more
AllBegin P (Began m ∷ more) = P m × AllBegin P more
AllBegin P (Left ∷ more) = AllBegin P more
AllBegin P (Unwound ∷ more) = AllBegin P more

pub drop-begin : (P : ℕ → Type 0) (n : ℕ) (cs : List Change) → AllBegin P cs → AllBegin P (drop n cs)
drop-begin P zero cs all = all
drop-begin P (suc n) [] all = tt
drop-begin P (suc n) (Loads classes ∷ more) all = drop-begin P n more all
drop-begin P (suc n) (Began m ∷ more) all = drop-begin P n more all.1
drop-begin P (suc n) (Left ∷ more) all = drop-begin P n more all
drop-begin P (suc n) (Unwound ∷ more) all = drop-begin P n more all

pub called-begin : (p : Program) (code : ℕ → List (Operation Local)) (loaded live : List ℕ) (cs : List Change) → AreCalled p code loaded live cs
    → AllBegin (λ m. has_class p loaded m ≡ true) cs
called-begin p code loaded live [] are = tt
called-begin p code loaded live (Loads classes ∷ more) are = called-begin p code loaded live more are
called-begin p code loaded live (Began m ∷ more) are = (are.0, called-begin p code loaded (m ∷ live) more are.2)
called-begin p code loaded live (Left ∷ more) are = called-begin p code loaded (without_first live) more are
called-begin p code loaded live (Unwound ∷ more) are = called-begin p code loaded (without_first live) more are

module _ (P : ℕ → Type 0) (marks : ℕ → Mark) (clock : ℕ) (path : List ℕ) (e : Event) (opening : opens path e.kind ≡ true) where
  abbrev Tells : Stop → Type 0
  Tells s = told_at s.due clock s.live ≡ Some e → P e.method

  nothing-told : (l : List Held) → told_at Nothing clock l ≡ Some e → P e.method
  nothing-told l none = absurd (let h : None ≡ Some e = none in cc)

  of-end : (k : EventKind) → opens path k ≡ false → (n : ℕ) (after : List Held) (h : Held) (below : List Held) (later : Stop) → Tells later → (b : Bool)
      → Tells (stop_by (h ∷ below) after n (let d : Due = if b then Nothing else Ends k in d) later)
  of-end k shut n after h below later rest true delivered = rest delivered
  of-end k shut n after h below later rest false delivered =
      let here : Event = record { kind = k; method = h.method; clock = clock } in
      let one : here ≡ e = (let inj : Some here ≡ Some e → here ≡ e = λ q. cc in inj delivered) in
      absurd (let q : false ≡ true = sym shut ∙ (ap (λ (e : Event). opens path e.kind) one ∙ opening) in cc)

  ends : (k : EventKind) → opens path k ≡ false → (n : ℕ) (live after : List Held) (later : Stop) → Tells later → Tells (stop_by live after n (end_due k live) later)
  ends k shut n [] after later rest = rest
  ends k shut n (h ∷ below) after later rest = of-end k shut n after h below later rest (is_off h.mark)

  begins : (m : ℕ) → P m → (n : ℕ) (live : List Held) (mark : Mark) (later : Stop) → Tells later → (b : Bool)
      → Tells (stop_by live (record { method = m; mark = mark } ∷ live) n (let d : Due = if b then Nothing else Begins in d) later)
  begins m is n live mark later rest true delivered = rest delivered
  begins m is n live mark later rest false delivered =
      let here : Event = record { kind = begin_kind mark; method = m; clock = clock } in
      let one : here ≡ e = (let inj : Some here ≡ Some e → here ≡ e = λ q. cc in inj delivered) in
      subst P (ap (λ (e : Event). e.method) one) is

  in-stop : (cs : List Change) → AllBegin P cs → (n : ℕ) (live : List Held) → Tells (stop_in marks n live cs)
  in-stop [] all n live = nothing-told live
  in-stop (Loads classes ∷ more) all n live = in-stop more all (suc n) live
  in-stop (Began m ∷ more) all n live =
      begins m all.0 n live (marks m) (stop_in marks (suc n) (held_after marks live (Began m)) more) (in-stop more all.1 (suc n) (held_after marks live (Began m))) (is_off (marks m))
  in-stop (Left ∷ more) all n live =
      ends kind.Leave refl n live (held_after marks live Left) (stop_in marks (suc n) (held_after marks live Left) more) (in-stop more all (suc n) (held_after marks live Left))
  in-stop (Unwound ∷ more) all n live =
      ends kind.Unwind refl n live (held_after marks live Unwound) (stop_in marks (suc n) (held_after marks live Unwound) more) (in-stop more all (suc n) (held_after marks live Unwound))

  pub from-stop : (delivered : Bool) (cs : List Change) → AllBegin P cs → (n : ℕ) (live : List Held) → Tells (stop_from marks delivered n live cs)
  from-stop false cs all n live = in-stop cs all n live
  from-stop true [] all n live = in-stop [] all n live
  from-stop true (Loads classes ∷ more) all n live = in-stop more all (suc n) live
  from-stop true (Began m ∷ more) all n live = in-stop more all.1 (suc n) (held_after marks live (Began m))
  from-stop true (Left ∷ more) all n live = in-stop more all (suc n) (held_after marks live Left)
  from-stop true (Unwound ∷ more) all n live = in-stop more all (suc n) (held_after marks live Unwound)
