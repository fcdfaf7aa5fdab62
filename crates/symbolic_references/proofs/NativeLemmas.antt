-- What a native method comes to, and what it leaves (JVM Specification 2.11.8, 6.5).
use Rattle.std.proofs.Common.{◌≡◌, ◌≢◌, ℕ, suc, ◌+◌, ◌-◌, ◌<◌, ◌≤◌, Bool, true, false, List, [], ◌∷◌, ◌++◌, length, drop, Option, Some, None, refl, sym, ap, subst, ◌∙◌, lit<, append_assoc, arith}
use Rattle.std.specs.Prelude.{◌*◌, Result, Ok, Err, IfOk, OnOk, nat_lt, unwrap_or, slice_get, map, if◌then◌else◌}
use Rattle.std.specs.Option.{option_map_or}
use Rattle.std.proofs.lemmas.Bool.{ne_eqb, lt-ltb as below, le-ltb}
use Rattle.std.proofs.lemmas.Option.{slice_get-get_or, slice_get_past}
use Rattle.jf_bytes.specs.declared.error.NoMemory.{NoMemory}
use Rattle.const_pool.specs.BuiltIn.{built_in_names}
use Rattle.heap_objects.specs.Changes.{changed_if}
use Rattle.heap_objects.specs.declared.datum.Datum.{Datum}
use Rattle.heap_objects.specs.declared.Value.{Value}
use Rattle.heap_objects.specs.Heaps.{HeapView}
use Rattle.frame_stack.specs.FrameLists.{FramesView, top_operands}
use Rattle.jvm_basic.specs.Outcomes.{top_locals}
use Rattle.native_effects.specs.declared.effects.answer.Answer.{Answer}
use Rattle.native_effects.specs.declared.effects.answer.Answer.TheVariants as answer
use Rattle.native_effects.specs.declared.effects.answer.Native.{Native}
use Rattle.native_ops.specs.Methods.Calls.{IsAnswer, is_done, left_by, native_of_answer, world_by}
use Rattle.native_effects.specs.Inputs.KindsViews.{KindsView}
use Rattle.native_effects.specs.Inputs.MadeViews.{MadeView}
use Rattle.native_effects.specs.Effects.Worlds as natives
use Rattle.native_ops.proofs.KindsKept.{class-kept, kinds-kept}
use Rattle.native_ops.proofs.KindsMade.{AreMade}
use Rattle.native_effects.specs.Effects.Making.{heap_after_class}
use Rattle.jvm_model.specs.Basis.Data.{Locals, Operands, World, Outcome, Throws, Raises, Breaks, Done}
use Rattle.jvm_model.specs.Basis.KindNumbers.{class_of_base, user_count}
use Rattle.jvm_model.specs.Basis.SharedState.{throwable}
use Rattle.jvm_model.specs.Instructions.NativeRules.{kinds_in, outcome_of, runs_number, seen_by_natives, thrown_by}
use Rattle.class_linker.specs.Linkers.{IsLoaded, LinkerView}
use Rattle.member_selection.specs.declared.outcome.Outcome.{Outcome as TheOutcome}
use Rattle.symbolic_references.specs.NativeCalls.{native_answer, native_left, with_left}
use Rattle.member_selection.specs.Outcomes.{outcome_in_frame}
use Rattle.symbolic_references.specs.Runtimes.{RuntimeView, after}
use Rattle.symbolic_references.specs.Natives.{HasBuiltIn, outcome_by}
use Rattle.member_selection.specs.Objects.{AreLoaded, IsUsable}
use Rattle.member_selection.specs.Targets.{as_datum, data_in}
use Rattle.member_selection.proofs.Arguments.{first-below}
use Rattle.member_selection.proofs.KindLemmas.{of-class, of-primitive}

-- ---- the kinds that native methods make are usable

module _ (l : LinkerView) (has : HasBuiltIn l) (root : IsLoaded l (user_count l.program)) where
  base-behind : (place : ℕ) → place < 53 → class_of_base l.program (16 + place) ≡ Some (user_count l.program + place)
  base-behind place few =
      ap (λ b. if b then None else if nat_lt (16 + place) 256 then Some (user_count l.program + (16 + place - 16)) else Some (16 + place - 256))
      (le-ltb (16 + place) 16 (omega arith))
      ∙ (ap (λ b. if b then Some (user_count l.program + (16 + place - 16)) else Some (16 + place - 256)) (below (16 + place) 256 (omega arith))
      ∙ ap (λ n. let o : Option ℕ = Some (user_count l.program + n) in o) (let e : 16 + place - 16 ≡ place = omega arith in e))

  -- an object of the built-in class at this place
  behind-usable : (place : ℕ) → place < 53 → IsUsable l (16 + place)
  behind-usable place few =
      let whole : 53 ≤ length l.program.classes = has.whole in
      let there : IsLoaded l (user_count l.program + place) = has.each (user_count l.program + place) (omega arith) (omega (arith, whole)) in
      subst (IsUsable l) (let e : 0 * 16777216 + (16 + place) ≡ 16 + place = omega arith in e)
      (of-class l root 0 (16 + place) (user_count l.program + place) (omega arith) (base-behind place few) there)

  pub are-made : AreMade (IsUsable l)
  are-made = record {
    text = behind-usable 7 (lit< tt);
    class = behind-usable 6 (lit< tt);
    chars = of-primitive l root 1 5 (omega arith) (lit< tt);
    integer = behind-usable 14 (lit< tt);
    long = behind-usable 15 (lit< tt);
    character = behind-usable 16 (lit< tt);
    boolean = behind-usable 17 (lit< tt);
  }

-- ---- the classes of objects stay loaded

module _ (l : LinkerView) (has : HasBuiltIn l) where
  pub loaded-with-class : (kind : ℕ) (made : MadeView) (h : HeapView) → AreLoaded l h → AreLoaded l (heap_after_class kind made h)
  loaded-with-class kind made h are = record {
    objects = class-kept (IsUsable l) kind made h (are-made l has are.root) are.objects;
    root = are.root;
  }

  module _ (kinds : KindsView) (args : List Datum) (w : natives.World) (are : AreLoaded l w.heap) where
    pub left-loaded : (b : Bool) (number : ℕ) → AreLoaded l (left_by b number kinds args w).heap
    left-loaded true number = record {
      objects = kinds-kept (IsUsable l) number kinds args w (are-made l has are.root) are.objects;
      root = are.root;
    }
    left-loaded false number = are

-- ---- what is answered

outcome-same : (a : Answer) (l : Locals) (below : Operands) → outcome_by (native_of_answer a) l below ≡ outcome_of a l below
outcome-same (answer.Value d) l below = refl
outcome-same (answer.Throws class) l below = refl
outcome-same (answer.Exit status) l below = refl
outcome-same answer.Bad l below = refl

module _ (v : RuntimeView) (number : ℕ) (args : List Datum) (f : FramesView) (count : ℕ) where
  abbrev below_in : Operands
  below_in = drop count (top_operands f.frames)

  abbrev comes_to : Done
  comes_to = runs_number v.world number args v.shared (top_locals f.frames) below_in

  -- where memory was enough for it the outcome is that of the answer
  pub answers : (native : Native) → is_done native ≡ true → IsAnswer native (native_answer v number args)
      → outcome_by native (top_locals f.frames) below_in ≡ comes_to.outcome
  answers native enough is =
      ap (λ a. outcome_by a (top_locals f.frames) below_in) (is enough) ∙ outcome-same (native_answer v number args) (top_locals f.frames) below_in

  pub leaves : (native : Native) → is_done native ≡ true → with_left (native_left v number args native) v ≡ after comes_to v
  leaves native enough =
      ap (λ b. with_left (changed_if b (world_by number (kinds_in v.world.program v.shared.loaded) args) (seen_by_natives v.world v.shared)) v) enough

  -- unless memory ran out
  pub runs-numbered : (native : Native) (result : Result TheOutcome NoMemory) → OnOk result (is_done native ≡ true) → IsAnswer native (native_answer v number args)
      → IfOk result (λ a. outcome_in_frame a f ≡ outcome_by native (top_locals f.frames) below_in) → IfOk result (λ a. outcome_in_frame a f ≡ comes_to.outcome)
  runs-numbered native (Ok a) enough is told = told ∙ answers native enough is
  runs-numbered native (Err e) enough is told = tt

  pub leaves-numbered : (native : Native) (result : Result TheOutcome NoMemory) (new : RuntimeView) → OnOk result (is_done native ≡ true)
      → new ≡ with_left (native_left v number args native) v → OnOk result (new ≡ after comes_to v)
  leaves-numbered native (Ok a) new enough is = is ∙ leaves native enough
  leaves-numbered native (Err e) new enough is = tt

data-next : (o : Operands) (n : ℕ) (v : Value) → slice_get o n ≡ Some v → data_in (n + 1) o ≡ as_datum v ∷ data_in n o
data-next o n v e =
    ap (λ k. data_in k o) (let more : n + 1 ≡ suc n = omega arith in more) ∙ ap (map as_datum) (first-below o n v e)

-- one argument more, of those that are left the deepest
pub argument-taken : (o : Operands) (left : ℕ) (v : Value) (d : Datum) (args more all : List Datum) → 0 < left → Some v ≡ slice_get o (left - 1)
    → d ≡ as_datum v → more ≡ args ++ d ∷ [] → args ++ data_in left o ≡ all → more ++ data_in (left - 1) o ≡ all
argument-taken o left v d args more all some e is pushed before =
    ap (λ xs. xs ++ data_in (left - 1) o) (pushed ∙ ap (λ x. args ++ x ∷ []) is)
    ∙ (append_assoc args (as_datum v ∷ []) (data_in (left - 1) o)
    ∙ (ap (λ xs. args ++ xs) (sym (data-next o (left - 1) v (sym e)))
    ∙ (ap (λ k. args ++ data_in k o) (let whole : left - 1 + 1 ≡ left = omega arith in whole) ∙ before)))

-- ---- what is thrown

module _ (place : ℕ) (ne : place ≢ 51) where
  abbrev rest : Option (List ℕ) → Outcome
  rest found = option_map_or (λ name. Raises name None) found (Breaks false)

  other : thrown_by place ≡ rest (slice_get built_in_names place)
  other = ap (λ b. if b then Throws 1 else rest (slice_get built_in_names place)) (ne_eqb place 51 ne)

  pub throws-named : place < 53 → Raises (unwrap_or (slice_get built_in_names place) throwable) None ≡ thrown_by place
  throws-named few =
      let found = slice_get-get_or built_in_names place [] few in
      ap (λ (o : Option (List ℕ)). Raises (unwrap_or o throwable) None) found ∙ sym (other ∙ ap rest found)

  pub throws-past : 53 ≤ place → Breaks false ≡ thrown_by place
  throws-past past = sym (other ∙ ap rest (slice_get_past built_in_names place past))
