-- The targets of a method are what its instructions that can begin methods begin.
use Rattle.std.proofs.Common.{◌≡◌, ℕ, zero, suc, ◌+◌, ◌<◌, ◌≤◌, Bool, true, List, [], ◌∷◌, ◌++◌, length, drop, get_or, ap, ap₂, sym, refl, ◌∙◌, arith}
use Rattle.std.proofs.lemmas.List.{drop_more}
use Rattle.std.specs.Prelude.{flat_map, Option, Some, None, ◌==◌, ◌||◌}
use Rattle.std.specs.List.{AllByRecursion, cons_option}
use Rattle.std.specs.Option.{option_map_or}
use Rattle.std.proofs.lemmas.Bool.{or_left, or_right}
use Rattle.std.proofs.Math.Bool.{or-false, or_assoc}
use Rattle.jf_bytes.proofs.Tests.{equals_itself}
use Rattle.jvm_model.specs.declared.program.Program.{Program}
use Rattle.jvm_model.specs.declared.instruction.Local.{Local}
use Rattle.jvm_model.specs.declared.instruction.Operation.{Operation}
use Rattle.jvm_model.specs.declared.instruction.Operation.TheVariants.{Within, Named, Athrow, Monitor, Newarray, Arraylength, LoadElement, StoreElement, LdcString}
use Rattle.jvm_model.specs.Classes.Load.{is_among}
use Rattle.jvm_model.specs.declared.instruction.SymbolicReference.{SymbolicReference}
use Rattle.jvm_model.specs.declared.instruction.SymbolicReference.TheVariants.{New, Getfield, Putfield, Getstatic, Putstatic, Invokevirtual, Invokespecial, Invokestatic, Invokeinterface, Checkcast, Instanceof, Anewarray, Multianewarray, LdcClass}
use Rattle.jvm_model.specs.Profiling.Revelation.{symbolic_reference_in, symbolic_references_of}
use Rattle.jvm_model.specs.Profiling.Targets.{begun_by, begun_by_operation, operations_of, targets, targets_in}
use Rattle.jvm_model.proofs.Loading.Among.{among-append}
use Rattle.possible_callees.specs.Tables.{Adds}
use Rattle.possible_callees.proofs.Classes.SameLoaded.{targets-same}

module _ (p : Program) (loaded : List ℕ) where
  op-made : (op : Operation Local) → begun_by_operation p loaded op ≡ option_map_or (begun_by p loaded) (symbolic_reference_in op) []
  op-made (Named (New name)) = refl
  op-made (Named (Getstatic r)) = refl
  op-made (Named (Putstatic r)) = refl
  op-made (Named (Invokestatic r)) = refl
  op-made (Named (Invokespecial caller r interface)) = refl
  op-made (Named (Invokevirtual r)) = refl
  op-made (Named (Invokeinterface r)) = refl
  op-made (Named (Getfield r)) = refl
  op-made (Named (Putfield r)) = refl
  op-made (Named (Checkcast name)) = refl
  op-made (Named (Instanceof name)) = refl
  op-made (Named (Anewarray name)) = refl
  op-made (Named (Multianewarray name dimensions)) = refl
  op-made (Named (LdcClass name)) = refl
  op-made (Within i) = refl
  op-made Athrow = refl
  op-made Monitor = refl
  op-made (Newarray kind) = refl
  op-made Arraylength = refl
  op-made (LoadElement k) = refl
  op-made (StoreElement k) = refl
  op-made (LdcString units) = refl

  cons-made : (f : SymbolicReference → List ℕ) (o : Option SymbolicReference) (ns : List SymbolicReference) → flat_map f (cons_option o ns) ≡ option_map_or f o [] ++ flat_map f ns
  cons-made f None ns = refl
  cons-made f (Some n) ns = refl

  pub targets-made : (ops : List (Operation Local)) → targets_in p loaded ops ≡ flat_map (begun_by p loaded) (symbolic_references_of ops)
  targets-made [] = refl
  targets-made (op ∷ rest) = ap₂ (λ a b. a ++ b) (op-made op) (targets-made rest) ∙ sym (cons-made (begun_by p loaded) (symbolic_reference_in op) (symbolic_references_of rest))

-- what was gathered of a method's instructions over the same classes are its targets
pub gathered-are : (p : Program) (a b : List ℕ) (method : ℕ) (ns : List SymbolicReference) (found : List ℕ) → ((x : ℕ) → is_among x a ≡ is_among x b)
    → ns ≡ symbolic_references_of (operations_of p method) → Adds [] found (flat_map (begun_by p a) ns) → (m : ℕ) → is_among m found ≡ is_among m (targets p b method)
gathered-are p a b method ns found same e adds m =
    adds m ∙ (ap (λ l. is_among m (flat_map (begun_by p a) l)) e
    ∙ (sym (ap (is_among m) (targets-made p a (operations_of p method))) ∙ targets-same p a b (operations_of p method) m same))

-- one more of what is gathered in turn
pub one-added : {A : Type 0} (f : A → List ℕ) (x : A) (rest : List A) (before after : List ℕ) (m : ℕ) (whole : Bool) → Adds before after (f x)
    → (is_among m before || is_among m (flat_map f (x ∷ rest))) ≡ whole → (is_among m after || is_among m (flat_map f rest)) ≡ whole
one-added f x rest before after m whole adds e =
    ap (λ t. t || is_among m (flat_map f rest)) (adds m)
    ∙ (or_assoc (is_among m before) (is_among m (f x)) (is_among m (flat_map f rest))
    ∙ (ap (λ t. is_among m before || t) (sym (among-append m (f x) (flat_map f rest))) ∙ e))

-- all of a list are among it
pub all-behind : (xs ys : List ℕ) → ((x : ℕ) → is_among x ys ≡ true → is_among x xs ≡ true) → AllByRecursion (λ x. is_among x xs ≡ true) ys
all-behind xs [] each = tt
all-behind xs (y ∷ ys) each =
    (each y (or_left (y == y) (is_among y ys) (equals_itself y)), all-behind xs ys (λ x h. each x (or_right (x == y) (is_among x ys) h)))

pub all-among : (xs : List ℕ) → AllByRecursion (λ x. is_among x xs ≡ true) xs
all-among xs = all-behind xs xs (λ x h. h)

-- ---- one of a list after the other

drop-past : {A : Type 0} (xs : List A) (i : ℕ) → length xs ≤ i → drop i xs ≡ []
drop-past [] zero past = refl
drop-past [] (suc i) past = refl
drop-past (x ∷ xs) zero past = absurd (omega (arith, past))
drop-past (x ∷ xs) (suc i) past = drop-past xs i (omega (arith, past))

pub next-added : {A : Type 0} (f : A → List ℕ) (xs : List A) (i : ℕ) (d : A) (before after : List ℕ) (m : ℕ) (whole : Bool) → i < length xs
    → Adds before after (f (get_or xs i d)) → (is_among m before || is_among m (flat_map f (drop i xs))) ≡ whole
    → (is_among m after || is_among m (flat_map f (drop (i + 1) xs))) ≡ whole
next-added f xs i d before after m whole within adds e =
    one-added f (get_or xs i d) (drop (i + 1) xs) before after m whole adds
    (sym (ap (λ l. is_among m before || is_among m (flat_map f l)) (drop_more xs i d within)) ∙ e)

pub all-added : {A : Type 0} (f : A → List ℕ) (xs : List A) (i : ℕ) (found : List ℕ) (m : ℕ) (whole : Bool) → length xs ≤ i
    → (is_among m found || is_among m (flat_map f (drop i xs))) ≡ whole → is_among m found ≡ whole
all-added f xs i found m whole past e =
    sym (or-false (is_among m found)) ∙ (ap (λ l. is_among m found || is_among m (flat_map f l)) (sym (drop-past xs i past)) ∙ e)
