-- The same of instructions that see objects, and of what other rules have in common.
use Rattle.std.proofs.Common.{◌≡◌, ℕ, ◌+◌, take, drop, length, Bool, true, false, List, [], ◌∷◌, ◌++◌, map, reverse, Option, Some, None, nat_le, ◌==◌, if◌then◌else◌, ℤ, refl, sym, ap, ◌∙◌}
use Rattle.std.specs.Prelude.{pos, negsuc}
use Rattle.std.specs.Option.{option_map, option_and_then}
use Rattle.std.proofs.lemmas.List.{take-map, drop-map, map-append, reverse-append}
use Rattle.heap_objects.specs.declared.datum.Datum.TheVariants as datum
use Rattle.heap_objects.specs.declared.Value.TheVariants.{Int, Ref}
use Rattle.heap_objects.specs.Heaps.{next_number, slot_at, with_array, with_slot_at}
use Rattle.const_pool.specs.declared.descriptor.Kind.{Kind}
use Rattle.jvm_model.specs.Basis.Data.{Datum, Value, Locals, Operands, Phase, Fresh, Running, Ready, Erroneous, Program, Shared, World, Next, Outcome, GoesOn, Throws, Raises, Breaks, Done}
use Rattle.jvm_model.specs.Basis.Values.{as_value, datum_of, int_of, ref_of, data_of, arguments}
use Rattle.jvm_model.specs.Basis.SharedState.{class_of, throwable, null_pointer, array_store}
use Rattle.jvm_model.specs.Classes.Lookup.{is_below}
use Rattle.jvm_model.specs.Instructions.LocalRules.{replaces}
use Rattle.jvm_model.specs.Instructions.ObjectRules.{done, array_length, measures, makes_array, makes, Access, ToNull, ToAnother, Outside, Inside, access_to, loads_at, array_element_of, loads_element, fits_array, stores_at, Storing, storing_of, stores_element, watches, throws}
use Rattle.jvm_model.specs.Instructions.Rules.{when_ready}
use Rattle.jvm_model.specs.Codes.Moved.{moved_value, moved_locals, moved_operands, moved_outcome, moved_done}
use Rattle.jvm_model.proofs.Relocated.WithinMoves.{found-moves, kind-moves}

reverse-moves : {A B : Type 0} (f : A → B) (xs : List A) → reverse (map f xs) ≡ map f (reverse xs)
reverse-moves f [] = refl
reverse-moves f (x ∷ xs) =
    reverse-append (f x ∷ []) (map f xs)
    ∙ (ap (λ ys. ys ++ f x ∷ []) (reverse-moves f xs)
    ∙ (sym (map-append f (reverse xs) (x ∷ [])) ∙ ap (map f) (sym (reverse-append (x ∷ []) xs))))

module _ (h : ℕ → ℕ) where
  pub chosen-moves : (b : Bool) (x x' y y' : Done) → x' ≡ moved_done h x → y' ≡ moved_done h y → (if b then x' else y') ≡ moved_done h (if b then x else y)
  chosen-moves true x x' y y' p q = p
  chosen-moves false x x' y y' p q = q

  pub chosen_outcome-moves : (b : Bool) (x x' y y' : Outcome) → x' ≡ moved_outcome h x → y' ≡ moved_outcome h y → (if b then x' else y') ≡ moved_outcome h (if b then x else y)
  chosen_outcome-moves true x x' y y' p q = p
  chosen_outcome-moves false x x' y y' p q = q

  -- what comes after an initialization
  pub ready-moves : (p : Program) (phase : Option Phase) (class : ℕ) (s : Shared) (d d' : Done) → d' ≡ moved_done h d → when_ready p phase class s d' ≡ moved_done h (when_ready p phase class s d)
  ready-moves p (Some Ready) class s d d' e = e
  ready-moves p (Some Running) class s d d' e = e
  ready-moves p (Some Fresh) class s d d' e = refl
  ready-moves p (Some Erroneous) class s d d' e = refl
  ready-moves p None class s d d' e = refl

  -- ---- arguments

  -- no argument is a return address
  data-moves : (ks : List Kind) (vs : List Value) → data_of ks (map (moved_value h) vs) ≡ data_of ks vs
  data-moves [] [] = refl
  data-moves [] (v ∷ vs) = refl
  data-moves (k ∷ ks) [] = refl
  data-moves (k ∷ ks) (v ∷ vs) =
      ap (option_and_then (λ d. option_map (λ ds. d ∷ ds) (data_of ks (map (moved_value h) vs)))) (kind-moves h k v)
      ∙ ap (λ rest. option_and_then (λ d. option_map (λ ds. d ∷ ds) rest) (datum_of k v)) (data-moves ks vs)

  pub arguments-moves : (params : List Kind) (o : Operands) → arguments params (moved_operands h o) ≡ arguments params o
  arguments-moves params o =
      ap (λ top. data_of params (reverse top)) (take-map (moved_value h) (length params) o)
      ∙ (ap (data_of params) (reverse-moves (moved_value h) (take (length params) o))
      ∙ data-moves params (reverse (take (length params) o)))

  -- ---- operands of instructions that see objects: none is a return address

  pub int_of-moves : (o : Operands) → int_of (moved_operands h o) ≡ int_of o
  int_of-moves (Int n ∷ below) = refl
  int_of-moves _ = refl

  pub ref_of-moves : (o : Operands) → ref_of (moved_operands h o) ≡ ref_of o
  ref_of-moves (Ref r ∷ below) = refl
  ref_of-moves _ = refl

  pub place_of-moves : (o : Operands) → array_element_of (moved_operands h o) ≡ array_element_of o
  place_of-moves (Int i ∷ Ref r ∷ below) = refl
  place_of-moves _ = refl

  pub storing_of-moves : (k : Kind) (o : Operands) → storing_of k (moved_operands h o) ≡ storing_of k o
  storing_of-moves k (v ∷ Int i ∷ Ref r ∷ below) =
      ap (option_map (λ (d : Datum). record { array = r; index = i; datum = d })) (kind-moves h k v)
  storing_of-moves k _ = refl

  pub goes_on-moves : (taken : ℕ) (l : Locals) (o : Operands) → GoesOn (moved_locals h l) (drop taken (moved_operands h o)) Next ≡ moved_outcome h (GoesOn l (drop taken o) Next)
  goes_on-moves taken l o = ap (λ below. GoesOn (moved_locals h l) below Next) (drop-map (moved_value h) taken o)

  pub replaces-moves : (taken : ℕ) (v : Option Value) (l : Locals) (o : Operands) → v ≡ option_map (moved_value h) v
      → replaces taken v (moved_locals h l) (moved_operands h o) ≡ moved_outcome h (replaces taken v l o)
  replaces-moves taken None l o fixed = refl
  replaces-moves taken (Some v) l o fixed =
      ap (λ x. replaces taken x (moved_locals h l) (moved_operands h o)) fixed
      ∙ ap (λ below. GoesOn (moved_locals h l) (moved_value h v ∷ below) Next) (drop-map (moved_value h) taken o)

  -- ---- arraylength, newarray

  count-moves : (count : Option ℕ) → option_map (λ n. Int (pos n)) count ≡ option_map (moved_value h) (option_map (λ n. Int (pos n)) count)
  count-moves None = refl
  count-moves (Some n) = refl

  pub measures-moves : (r : Option ℕ) (s : Shared) (l : Locals) (o : Operands) → measures r s (moved_locals h l) (moved_operands h o) ≡ moved_outcome h (measures r s l o)
  measures-moves None s l o = refl
  measures-moves (Some r) s l o =
      let count : Option Value = option_map (λ n. Int (pos n)) (array_length r s.heap) in
      chosen_outcome-moves (r == 0) (Raises null_pointer None) _ (replaces 1 count l o) _ refl
      (replaces-moves 1 count l o (count-moves (array_length r s.heap)))

  makes_array-moves : (kind count : ℕ) (s : Shared) (l : Locals) (o : Operands) → makes_array kind count s (moved_locals h l) (moved_operands h o) ≡ moved_done h (makes_array kind count s l o)
  makes_array-moves kind count s l o =
      let made : Operands → Locals → Done = λ below locals. record {
        shared = record s { heap = with_array kind (datum.Int (pos 0)) count s.heap };
        wrote = [];
        outcome = GoesOn locals (Ref (next_number s.heap) ∷ below) Next;
      } in
      chosen-moves (nat_le (s.heap.used + (1 + count)) s.heap.limit) (made (drop 1 o) l) _ (done s (Throws 1)) _
      (ap (λ below. made below (moved_locals h l)) (drop-map (moved_value h) 1 o)) refl

  pub makes-moves : (kind : ℕ) (count : Option ℤ) (s : Shared) (l : Locals) (o : Operands) → makes kind count s (moved_locals h l) (moved_operands h o) ≡ moved_done h (makes kind count s l o)
  makes-moves kind None s l o = refl
  makes-moves kind (Some (negsuc n)) s l o = refl
  makes-moves kind (Some (pos count)) s l o = makes_array-moves kind count s l o

  -- ---- elements

  loads_at-moves : (access : Access) (r : ℕ) (i : ℤ) (s : Shared) (l : Locals) (o : Operands)
      → loads_at access r i s (moved_locals h l) (moved_operands h o) ≡ moved_outcome h (loads_at access r i s l o)
  loads_at-moves (Inside slot) r i s l o = replaces-moves 2 (option_map as_value (slot_at r slot s.heap)) l o (found-moves h (slot_at r slot s.heap))
  loads_at-moves ToNull r i s l o = refl
  loads_at-moves ToAnother r i s l o = refl
  loads_at-moves Outside r i s l o = refl

  pub loads_element-moves : (k : Kind) (at : Option (ℕ × ℤ)) (s : Shared) (l : Locals) (o : Operands)
      → loads_element k at s (moved_locals h l) (moved_operands h o) ≡ moved_outcome h (loads_element k at s l o)
  loads_element-moves k None s l o = refl
  loads_element-moves k (Some at) s l o = loads_at-moves (access_to k at.0 at.1 s.heap) at.0 at.1 s l o

  stores_at-moves : (p : Program) (access : Access) (r : ℕ) (i : ℤ) (d : Datum) (s : Shared) (l : Locals) (o : Operands)
      → stores_at p access r i d s (moved_locals h l) (moved_operands h o) ≡ moved_done h (stores_at p access r i d s l o)
  stores_at-moves p (Inside slot) r i d s l o =
      let kept : Outcome → Done = λ outcome. record { shared = record s { heap = with_slot_at r slot d s.heap }; wrote = []; outcome = outcome } in
      chosen-moves (fits_array p d r s.heap) (kept (GoesOn l (drop 3 o) Next)) _ (done s (Raises array_store None)) _
      (ap kept (goes_on-moves 3 l o)) refl
  stores_at-moves p ToNull r i d s l o = refl
  stores_at-moves p ToAnother r i d s l o = refl
  stores_at-moves p Outside r i d s l o = refl

  pub stores_element-moves : (p : Program) (k : Kind) (x : Option Storing) (s : Shared) (l : Locals) (o : Operands)
      → stores_element p k x s (moved_locals h l) (moved_operands h o) ≡ moved_done h (stores_element p k x s l o)
  stores_element-moves p k None s l o = refl
  stores_element-moves p k (Some x) s l o = stores_at-moves p (access_to k x.array x.index s.heap) x.array x.index x.datum s l o

  -- ---- monitors, athrow

  pub watches-moves : (r : Option ℕ) (l : Locals) (o : Operands) → watches r (moved_locals h l) (moved_operands h o) ≡ moved_outcome h (watches r l o)
  watches-moves None l o = refl
  watches-moves (Some r) l o = chosen_outcome-moves (r == 0) (Raises null_pointer None) _ (GoesOn l (drop 1 o) Next) _ refl (goes_on-moves 1 l o)

  pub throws-moves : (w : World) (s : Shared) (r : Option ℕ) → throws w s r ≡ moved_outcome h (throws w s r)
  throws-moves w s None = refl
  throws-moves w s (Some r) =
      let is_throwable : Bool = is_below w.program (class_of w.program s r) throwable in
      chosen_outcome-moves (r == 0) (Raises null_pointer None) _ (if is_throwable then Throws r else Breaks false) _ refl
      (chosen_outcome-moves is_throwable (Throws r) _ (Breaks false) _ refl refl)
