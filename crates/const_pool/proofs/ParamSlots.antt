-- The slots that a parameter's first unit asks for are those that its kind takes.
use Rattle.std.proofs.Common.{◌≡◌, ℕ, zero, suc, ◌+◌, ◌<◌, true, eqb, ltb, List, [], ◌∷◌, Some, refl, sym, ap, subst, ◌∙◌, arith}
use Rattle.std.proofs.lemmas.Bool.{eqb-true}
use Rattle.jf_bytes.proofs.Options.{map_parts, and_then_parts}
use Rattle.const_pool.specs.declared.descriptor.Kind.{Kind}
use Rattle.const_pool.specs.declared.descriptor.Kind.TheVariants.{Int, Long, Ref, Byte, Bool as boolean, Char, Short, Float, Double}
use Rattle.const_pool.specs.declared.stages.Front.{Front}
use Rattle.const_pool.specs.declared.stages.Front.TheVariants.{Dimensions, Class, Name}
use Rattle.const_pool.specs.declared.stages.FieldStage.{FieldStage}
use Rattle.const_pool.specs.declared.stages.FieldStage.TheVariants.{Within, Whole}
use Rattle.const_pool.specs.Descriptors.{slots}
use Rattle.const_pool.specs.Stages.{letter_kind, array_kind, front_step, first_slots}
use Rattle.const_pool.proofs.Halts.{some, some_is}
use Rattle.const_pool.proofs.FieldTexts.{chosen, passed, not_failed, field_behind}

-- behind the first unit of an array or a class
abbrev pub IsInside : Front → Type 0
IsInside (Dimensions n) = 0 < n
IsInside Class = Unit {0}
IsInside Name = Unit {0}

abbrev pub HasSlots : ℕ → FieldStage → Type 0
HasSlots count (Within front) = IsInside front × (count ≡ 1)
HasSlots count (Whole kind) = slots kind ≡ count

one_letter : (unit letter : ℕ) (found kind : Kind) → slots found ≡ first_slots letter → eqb unit letter ≡ true → some found ≡ some kind → slots kind ≡ first_slots unit
one_letter unit letter found kind h same is = ap slots (sym (some_is found kind is)) ∙ h ∙ ap first_slots (sym (eqb-true unit letter same))

inside : (count : ℕ) (front : Front) (stage : FieldStage) → count ≡ 1 → IsInside front → some (Within front) ≡ some stage → HasSlots count stage
inside count front stage one h e = subst (HasSlots count) (some_is (Within front) stage e) (h, one)

whole : (count : ℕ) (kind : Kind) (stage : FieldStage) → slots kind ≡ count → Whole kind ≡ stage → HasSlots count stage
whole count kind stage h is = subst (HasSlots count) is h

letter_slots : (unit : ℕ) (kind : Kind) → letter_kind unit ≡ Some kind → slots kind ≡ first_slots unit
letter_slots unit kind e =
    chosen _ _ _ _ e (λ same is. one_letter unit 66 Byte kind refl same is) (λ not e.
    chosen _ _ _ _ e (λ same is. one_letter unit 67 Char kind refl same is) (λ not e.
    chosen _ _ _ _ e (λ same is. one_letter unit 68 Double kind refl same is) (λ not e.
    chosen _ _ _ _ e (λ same is. one_letter unit 70 Float kind refl same is) (λ not e.
    chosen _ _ _ _ e (λ same is. one_letter unit 73 Int kind refl same is) (λ not e.
    chosen _ _ _ _ e (λ same is. one_letter unit 74 Long kind refl same is) (λ not e.
    chosen _ _ _ _ e (λ same is. one_letter unit 83 Short kind refl same is) (λ not e.
    chosen _ _ _ _ e (λ same is. one_letter unit 90 boolean kind refl same is) (λ not e. absurd cc))))))))

-- the first unit
pub first_unit : (unit : ℕ) (stage : FieldStage) → front_step (Dimensions 0) unit ≡ Some stage → HasSlots (first_slots unit) stage
first_unit unit stage e =
    chosen _ _ _ _ e (λ same is. inside (first_slots unit) (Dimensions (0 + 1)) stage (ap first_slots (eqb-true unit 91 same)) (omega arith) is) (λ not e.
    chosen _ _ _ _ e (λ same is. inside (first_slots unit) Class stage (ap first_slots (eqb-true unit 76 same)) tt is) (λ not e.
    let m = map_parts (λ (kind : Kind). Whole (array_kind 0 kind)) (letter_kind unit) stage e in
    subst (HasSlots (first_slots unit)) m.2 (letter_slots unit m.0 m.1)))

array_slots : (n : ℕ) (kind : Kind) → 0 < n → slots (array_kind n kind) ≡ 1
array_slots zero kind h = omega (arith, h)
array_slots (suc n) kind h = refl

-- a further unit: an array or a class takes one slot
pub next_unit : (front : Front) (unit : ℕ) (stage : FieldStage) → IsInside front → front_step front unit ≡ Some stage → HasSlots 1 stage
next_unit (Dimensions n) unit stage h e =
    chosen {P = HasSlots 1 stage} (eqb unit 91) _ _ _ e (λ same e. inside 1 (Dimensions (n + 1)) stage refl (omega arith) (ap some (passed (ltb n 255) _ _ e).1)) (λ not e.
    chosen {P = HasSlots 1 stage} (eqb unit 76) _ _ _ e (λ same is. inside 1 Class stage refl tt is) (λ not e.
    let m = map_parts (λ (kind : Kind). Whole (array_kind n kind)) (letter_kind unit) stage e in
    subst (HasSlots 1) m.2 (array_slots n m.0 h)))
next_unit Class unit stage h e = inside 1 Name stage refl tt (not_failed (eqb unit 59) _ _ e).1
next_unit Name unit stage h e =
    chosen {P = HasSlots 1 stage} (eqb unit 59) (Whole Ref) (Within Name) stage (some_is _ stage e) (λ same is. whole 1 Ref stage refl is) (λ not is. inside 1 Name stage refl tt (ap some is))

-- the kind that is read in the end
pub slots_read : (count : ℕ) (stage : FieldStage) (text : List ℕ) (kind : Kind) → HasSlots count stage → field_behind stage text ≡ Some (Whole kind) → slots kind ≡ count
slots_read count (Within front) [] kind h e = absurd cc
slots_read count (Within front) (unit ∷ text) kind h e =
    let next = and_then_parts (λ s. field_behind s text) (front_step front unit) (Whole kind) e in
    slots_read 1 next.0 text kind (next_unit front unit next.0 h.0 next.1) next.2 ∙ sym h.1
slots_read count (Whole found) [] kind h e = let same : found ≡ kind = cc in ap slots (sym same) ∙ h
slots_read count (Whole found) (unit ∷ text) kind h e = absurd cc
