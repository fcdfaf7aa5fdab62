-- A native method that raises nothing is done, and of one that does nothing is changed (JVM Specification 2.11.8, 6.5).
use Rattle.std.proofs.Common.{◌≡◌, ◌≤◌, ◌<◌, ℕ, zero, suc, Bool, true, false, List, [], ◌∷◌, length, drop, Option, Some, None, inl, inr, refl, sym, ap, subst, ◌∙◌, arith}
use Rattle.std.specs.Prelude.{◌==◌}
use Rattle.std.specs.Option.{option_map}
use Rattle.std.proofs.lemmas.Bool.{false≢true, le-leb}
use Rattle.std.proofs.lemmas.List.{append-nil}
use Rattle.jf_bytes.proofs.Tests.{either}
use Rattle.heap_objects.specs.Changes.{changed_if}
use Rattle.heap_objects.specs.declared.datum.Datum.{Datum}
use Rattle.heap_objects.specs.declared.datum.Datum.TheVariants as datum
use Rattle.frame_stack.specs.FrameLists.{AreSound, FramesView, PlacedFrame, top_operands}
use Rattle.frame_stack.specs.Widths.{height_of, width}
use Rattle.jvm_basic.specs.Outcomes.{can_hold, top_locals}
use Rattle.native_effects.specs.declared.effects.answer.Answer.{Answer}
use Rattle.native_effects.specs.declared.effects.answer.Answer.TheVariants as answer
use Rattle.native_effects.specs.declared.effects.answer.Native.{Native}
use Rattle.native_effects.specs.declared.effects.answer.Native.TheVariants as native
use Rattle.native_ops.specs.Methods.Calls.{IsAnswer, answer_by, is_done, left_by, native_of_answer, world_by}
use Rattle.native_effects.specs.Inputs.KindsViews.{KindsView}
use Rattle.native_effects.specs.Effects.Worlds as natives
use Rattle.jvm_model.specs.Basis.Data.{Locals, Operands, Outcome, Done, World}
use Rattle.jvm_model.specs.Instructions.NativeRules.{kinds_in, runs_number, seen_by_natives}
use Rattle.jvm_model.specs.Basis.Values.{as_value, with_value}
use Rattle.symbolic_references.specs.Natives.{outcome_by}
use Rattle.member_selection.proofs.Going.{height-dropped, least-width}
use Rattle.symbolic_references.proofs.NativesKept.{IsNarrow, IsNarrowValue, call-keeps}
use Rattle.frame_stack.specs.FrameLists.{with_frames}
use Rattle.member_selection.specs.Answers.{frames_after, goes_on}
use Rattle.symbolic_references.specs.Passing.{IfPassed}
use Rattle.symbolic_references.specs.Runtimes.{RuntimeView}
use Rattle.symbolic_references.proofs.NativeLemmas.{answers, leaves}
use Rattle.symbolic_references.specs.NativeCalls.{with_left}
use Rattle.symbolic_references.proofs.PassingLemmas.{not-moved, passed-on}

-- ---- what is answered has room in place of an argument

narrow-width : (d : Datum) → IsNarrowValue (Some d) → width (as_value d) ≡ 1
narrow-width (datum.Int n) is = refl
narrow-width (datum.Ref r) is = refl
narrow-width (datum.Long n) is = absurd is

lower-value : (v : Option Datum) (n : ℕ) (o : Operands) → IsNarrowValue v → 0 < n → n ≤ length o → height_of (with_value (option_map as_value v) (drop n o)) ≤ height_of o
lower-value None n o is some within = height-dropped n o
lower-value (Some d) zero o is some within = absurd (omega (arith, some))
lower-value (Some d) (suc n) [] is some within = absurd (omega (arith, within))
lower-value (Some d) (suc n) (a ∷ below) is some within =
    let rest : height_of (drop n below) ≤ height_of below = height-dropped n below in
    omega (arith, rest, least-width a, narrow-width d is)

fits-value : (v : Option Datum) (n : ℕ) (fs : List PlacedFrame) → AreSound fs → IsNarrowValue v → 0 < n → n ≤ length (top_operands fs)
    → can_hold (with_value (option_map as_value v) (drop n (top_operands fs))) fs ≡ true
fits-value v n [] sound is some within = absurd (let no : 0 < n → n ≤ 0 → ⊥ = λ a b. omega arith in no some within)
fits-value v n (f ∷ fs) sound is some within =
    le-leb (height_of (with_value (option_map as_value v) (drop n f.operands))) f.max_stack
    (let lower : height_of (with_value (option_map as_value v) (drop n f.operands)) ≤ height_of f.operands = lower-value v n f.operands is some within in
    let all : height_of f.operands ≤ f.max_stack = sound.0.operands in omega arith)

-- so the frame goes on
goes-narrow : (a : Answer) (l : Locals) (n : ℕ) (fs : List PlacedFrame) → AreSound fs → IsNarrow a → 0 < n → n ≤ length (top_operands fs)
    → goes_on (outcome_by (native_of_answer a) l (drop n (top_operands fs))) fs ≡ true
goes-narrow (answer.Value v) l n fs sound is some within = fits-value v n fs sound is some within
goes-narrow (answer.Throws class) l n fs sound is some within = absurd is
goes-narrow (answer.Exit status) l n fs sound is some within = absurd is
goes-narrow answer.Bad l n fs sound is some within = absurd is

-- ---- only a call that is done goes on

not-done : (x : Native) (l : Locals) (o : Operands) (fs : List PlacedFrame) → is_done x ≡ false → goes_on (outcome_by x l o) fs ≡ false
not-done (native.Value v) l o fs is = absurd (false≢true (sym is))
not-done (native.Throws class) l o fs is = absurd (false≢true (sym is))
not-done (native.Exit status) l o fs is = absurd (false≢true (sym is))
not-done native.Bad l o fs is = absurd (false≢true (sym is))
not-done native.NoMemory l o fs is = refl

-- ---- a call

module _ (v : RuntimeView) (number : ℕ) (f : FramesView) (count next : ℕ) (args : List Datum) where
  abbrev kinds : KindsView
  kinds = kinds_in v.world.program v.shared.loaded

  abbrev seen : natives.World
  seen = seen_by_natives v.world v.shared

  abbrev comes_to : Done
  comes_to = runs_number v.world number args v.shared (top_locals f.frames) (drop count (top_operands f.frames))

  abbrev goes_by : Native → Outcome
  goes_by x = outcome_by x (top_locals f.frames) (drop count (top_operands f.frames))

  -- what a call leaves
  abbrev behind : natives.World → RuntimeView
  behind left = with_left left v

  module _ (x : Native) (moved : FramesView) (sound : AreSound f.frames) (other : (number == 79) ≡ false) (some : 0 < count) (within : count ≤ length (top_operands f.frames))
      (is : IsAnswer x (answer_by number kinds args seen)) (goes : moved ≡ with_frames (frames_after (goes_by x) next f.frames) f) where
    abbrev left_in : natives.World
    left_in = left_by (is_done x) number kinds args seen

    -- where the frame has not gone on nothing is changed
    kept-off : goes_on (goes_by x) f.frames ≡ false → left_in ≡ seen
    kept-off off = either (is_done x) done
        (λ undone. ap (λ b. changed_if b (world_by number kinds args) seen) undone)
      where
        done : is_done x ≡ true → left_in ≡ seen
        done enough = elim (call-keeps number kinds args seen other) [
          | inl same ↦ ap (λ b. changed_if b (world_by number kinds args) seen) enough ∙ same
          | inr narrow ↦
              absurd (false≢true (sym off
              ∙ (ap (λ y. goes_on (outcome_by y (top_locals f.frames) (drop count (top_operands f.frames))) f.frames) (is enough)
              ∙ goes-narrow (answer_by number kinds args seen) (top_locals f.frames) count f.frames sound narrow some within)))
        ]

    was-done : goes_on (goes_by x) f.frames ≡ true → is_done x ≡ true
    was-done told = either (is_done x) (λ enough. enough)
        (λ undone. absurd (false≢true (sym (not-done x (top_locals f.frames) (drop count (top_operands f.frames)) f.frames undone) ∙ told)))

    ran : (b : Bool) → b ≡ goes_on (goes_by x) f.frames → IfPassed b comes_to next f v moved (behind left_in)
    ran true told =
        let enough = was-done (sym told) in
        let same = answers v number args f count x enough is in
        passed-on comes_to f moved next v (behind left_in)
        (sym (told ∙ ap (λ q. goes_on q f.frames) same))
        (goes ∙ ap (λ q. with_frames (frames_after q next f.frames) f) same)
        (leaves v number args f count x enough)
    ran false told = (
      not-moved (goes_by x) next f moved (sym told) goes,
      ap behind (kept-off (sym told)) ∙ ap (λ out. record v { output = out }) (append-nil v.output),
    )

  pub native-ran : (x : Native) (b : Bool) (moved : FramesView) (new : RuntimeView) → AreSound f.frames → (number == 79) ≡ false
      → 0 < count → count ≤ length (top_operands f.frames) → IsAnswer x (answer_by number kinds args seen) → new ≡ behind (left_by (is_done x) number kinds args seen)
      → b ≡ goes_on (goes_by x) f.frames → moved ≡ with_frames (frames_after (goes_by x) next f.frames) f
      → IfPassed b comes_to next f v moved new
  native-ran x b moved new sound other some within is left told goes =
      subst (λ (y : RuntimeView). IfPassed b comes_to next f v moved y) (sym left) (ran x moved sound other some within is goes b told)
