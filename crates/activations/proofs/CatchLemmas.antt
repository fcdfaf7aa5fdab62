-- What the code finds of a throw that the caller of the current frame catches.
use Rattle.std.proofs.Common.{◌≡◌, ◌≢◌, ℕ, ◌+◌, ◌-◌, Bool, true, false, List, [], ◌∷◌, length, Option, Some, None, sym, ap, ◌∙◌, arith}
use Rattle.std.specs.Prelude.{nat_le, if◌then◌else◌}
use Rattle.std.specs.Option.{IfSome}
use Rattle.std.proofs.lemmas.Bool.{false≢true}
use Rattle.std.proofs.lemmas.Bool.{ne_eqb}
use Rattle.std.proofs.lemmas.Option.{none-some, same_Some}
use Rattle.heap_objects.specs.declared.Value.TheVariants.{Ref}
use Rattle.frame_stack.specs.FrameLists.{FramesView, PlacedFrame, can_give, caller_of, result_given, with_given}
use Rattle.frame_stack.specs.Widths.{height_of}
use Rattle.heap_objects.specs.Changes.{changed_if}
use Rattle.jvm_model.specs.declared.event.Mark.TheVariants.{Off}
use Rattle.jvm_model.specs.declared.state.Shared.{Shared}
use Rattle.jvm_model.specs.Basis.Data.{Breaks, Raises, Throws, World}
use Rattle.jvm_model.specs.Instructions.ObjectRules.{throws}
use Rattle.jvm_model.specs.Basis.SharedState.{class_of, null_pointer, throwable}
use Rattle.jvm_model.specs.Classes.Lookup.{is_below}
use Rattle.jvm_model.specs.Running.Moves.{handler_for}
use Rattle.prepared_code.specs.declared.initializations.Initialization.{Initialization}
use Rattle.prepared_code.specs.declared.parts.Here.{Here}
use Rattle.activations.specs.Catching.{caller_target, caught_back, fits_caught, CatchesBelow}
use Rattle.activations.specs.Settling.{with_alone}
use Rattle.prepared_code.specs.Versions.{Setup, listing_of}
use Rattle.method_versions.specs.Tables.{is_superseded_in}
use Rattle.prepared_code.specs.Initializations.{initialization_on}
use Rattle.prepared_code.specs.Versions.{mark_of}
use Rattle.std.proofs.Common.{refl}
use Rattle.std.specs.Prelude.{is_some}

-- ---- where the caller goes on

caller-catches : (w : Setup) (class : ℕ) (fs : List PlacedFrame) (version place : ℕ) → caller_of fs ≡ Some (version, place)
    → caller_target w class fs ≡ handler_for w.world class place ((listing_of w.versions).handlers version)
caller-catches w class [] version place is = absurd (none-some (version, place) is)
caller-catches w class (f ∷ []) version place is = absurd (none-some (version, place) is)
caller-catches w class (f ∷ g ∷ fs) version place is =
    ap (λ (at : ℕ × ℕ). handler_for w.world class at.1 ((listing_of w.versions).handlers at.0)) (same_Some (g.version, g.place) (version, place) is)

pub catches-there : (w : Setup) (ms : List Initialization) (here : Here) (fs : List PlacedFrame) (class version place : ℕ) (o : Option ℕ)
    → o ≡ handler_for w.world class place ((listing_of w.versions).handlers version) → caller_of fs ≡ Some (version, place)
    → handler_for w.world class here.place ((listing_of w.versions).handlers here.version) ≡ None → initialization_on (length fs - 1) ms ≡ None
    → mark_of w.versions here.version ≡ Off → is_superseded_in w.versions.slots w.versions.current here.version ≡ false
    → IfSome o (λ target. CatchesBelow w ms here fs class target)
catches-there w ms here fs class version place None is stands own executing off current = tt
catches-there w ms here fs class version place (Some target) is stands own executing off current =
    record { own = own; caller = caller-catches w class fs version place stands ∙ sym is; executing = executing; off = off; current = current }

-- ---- the frames

one-fits : (h most : ℕ) → nat_le (h + 1) most ≡ true → nat_le 1 most ≡ true
one-fits h most is = grind (arith)

pub fits-given : (r : ℕ) (fs : List PlacedFrame) → can_give (Some (Ref r)) fs ≡ true → fits_caught fs ≡ true
fits-given r [] can = absurd (false≢true can)
fits-given r (f ∷ []) can = absurd (false≢true can)
fits-given r (f ∷ g ∷ fs) can = one-fits (height_of g.operands) g.max_stack can

alone-given : (r target : ℕ) (fs : List PlacedFrame) → fits_caught fs ≡ true → with_alone r (result_given (Some (Ref r)) target fs) ≡ caught_back r target fs
alone-given r target [] fits = absurd (false≢true fits)
alone-given r target (f ∷ []) fits = absurd (false≢true fits)
alone-given r target (f ∷ g ∷ fs) fits =
    let on : PlacedFrame = record g { place = target; operands = Ref r ∷ g.operands } in
    ap (λ b. if b then record on { operands = Ref r ∷ [] } ∷ fs else on ∷ fs) fits

pub caught-given : (b : Bool) (r target : ℕ) (old mid : FramesView) (new : List PlacedFrame) → b ≡ true → mid ≡ changed_if b (with_given (Some (Ref r)) target) old
    → new ≡ with_alone r mid.frames → fits_caught old.frames ≡ true → new ≡ caught_back r target old.frames
caught-given b r target old mid new on given_is alone fits =
    alone ∙ (ap (λ (x : FramesView). with_alone r x.frames) (given_is ∙ ap (λ b. changed_if b (with_given (Some (Ref r)) target) old) on) ∙ alone-given r target old.frames fits)

-- ---- what an athrow throws

pub throws-so : (w : World) (s : Shared) (o : Option ℕ) (r : ℕ) → o ≡ Some r → r ≢ 0 → is_below w.program (class_of w.program s r) throwable ≡ true
    → throws w s o ≡ Throws r
throws-so w s o r is some below =
    ap (throws w s) is
    ∙ (ap (λ b. if b then Raises null_pointer None else if is_below w.program (class_of w.program s r) throwable then Throws r else Breaks false) (ne_eqb r 0 some)
    ∙ ap (λ b. if b then Throws r else Breaks false) below)

pub not-some : {A : Type 0} (o : Option A) → is_some o ≡ false → o ≡ None
not-some None e = refl
not-some (Some x) e = absurd (false≢true (sym e))
