-- What an instruction on an element asks for, where its array and index lead.
use Rattle.std.proofs.Common.{◌≡◌, ◌≤◌, ℕ, ℤ, Bool, true, false, [], ◌∷◌, drop, length, refl, sym, ap, subst, ◌∙◌, arith}
use Rattle.std.specs.Prelude.{Some, None, pos, negsuc, ◌==◌, if◌then◌else◌}
use Rattle.std.specs.Option.{option_map}
use Rattle.std.proofs.lemmas.Option.{none-some}
use Rattle.heap_objects.specs.declared.datum.Datum.{Datum}
use Rattle.heap_objects.specs.declared.Value.TheVariants.{Int, Long, Ref, Addr}
use Rattle.heap_objects.specs.Heaps.{HeapView, has_slot_at, with_slot_at}
use Rattle.const_pool.specs.declared.descriptor.Kind.{Kind}
use Rattle.jvm_model.specs.declared.program.Program.{Program}
use Rattle.jvm_model.specs.declared.state.Shared.{Shared}
use Rattle.jvm_model.specs.Basis.Data.{Locals, Operands, Next, GoesOn, Raises}
use Rattle.jvm_model.specs.Instructions.LocalRules.{replaces}
use Rattle.jvm_model.specs.Instructions.ObjectRules.{Access, ToNull, ToAnother, Outside, Inside, Storing, access_refused, access_to, done, fits_array, index_in, loads_at, loads_element, array_element_of, serves_object, storing_of, stores_at, stores_element}
use Rattle.jvm_model.specs.Basis.SharedState.{array_store}
use Rattle.jvm_model.specs.Basis.Values.{as_value}
use Rattle.instructions.specs.declared.elements.Led.{Led}
use Rattle.instructions.specs.declared.elements.Led.TheVariants as led
use Rattle.instructions.specs.Elements.{access_of, element_at}

-- ---- where an element is found

another : (slot : ℕ) → Inside slot ≡ ToAnother → ⊥
another slot e = cc

outside : (slot : ℕ) → Inside slot ≡ Outside → ⊥
outside slot e = cc

null : (slot : ℕ) → Inside slot ≡ ToNull → ⊥
null slot e = cc

same_slot : (slot n : ℕ) → Inside slot ≡ Inside n → n ≡ slot
same_slot slot n e = cc

module _ (k : Kind) (r slot : ℕ) (h : HeapView) where
  slot-if : (b : Bool) (n : ℕ) → has_slot_at r n h ≡ b → Inside slot ≡ (if b then Inside n else Outside) → has_slot_at r slot h ≡ true
  slot-if true n is e = subst (λ m. has_slot_at r m h ≡ true) (same_slot slot n e) is
  slot-if false n is e = absurd (outside slot e)

  slot-in : (i : ℤ) → Inside slot ≡ index_in r i h → has_slot_at r slot h ≡ true
  slot-in (negsuc n) e = absurd (outside slot e)
  slot-in (pos n) e = slot-if (has_slot_at r n h) n refl e

  slot-served : (b : Bool) (i : ℤ) → Inside slot ≡ (if b then index_in r i h else ToAnother) → has_slot_at r slot h ≡ true
  slot-served true i e = slot-in i e
  slot-served false i e = absurd (another slot e)

  slot-null : (b : Bool) (i : ℤ) → Inside slot ≡ (if b then ToNull else if serves_object k r h then index_in r i h else ToAnother)
      → has_slot_at r slot h ≡ true
  slot-null true i e = absurd (null slot e)
  slot-null false i e = slot-served (serves_object k r h) i e

  -- where an instruction is led to an element there is one
  pub slot-there : (i : ℤ) → Inside slot ≡ access_to k r i h → has_slot_at r slot h ≡ true
  slot-there i e = slot-null (r == 0) i e

-- ---- loads

pub loads-at : (a : Access) (r : ℕ) (i : ℤ) (d : Datum) (s : Shared) (l : Locals) (o : Operands) → Some d ≡ element_at a r s.heap
    → GoesOn l (as_value d ∷ drop 2 o) Next ≡ loads_at a r i s l o
loads-at (Inside slot) r i d s l o e = ap (λ x. replaces 2 (option_map as_value x) l o) e
loads-at ToNull r i d s l o e = absurd (none-some d (sym e))
loads-at ToAnother r i d s l o e = absurd (none-some d (sym e))
loads-at Outside r i d s l o e = absurd (none-some d (sym e))

no_place : (at : ℕ × ℤ) → Some at ≡ None → ⊥
no_place at e = cc

-- the element is what is asked for in the place of the two
pub is-loaded : (k : Kind) (s : Shared) (l : Locals) (o : Operands) (r : ℕ) (i : ℤ) (d : Datum) → Some (r, i) ≡ array_element_of o
    → Some d ≡ element_at (access_to k r i s.heap) r s.heap → GoesOn l (as_value d ∷ drop 2 o) Next ≡ loads_element k (array_element_of o) s l o
is-loaded k s l o r i d at e = loads-at (access_to k r i s.heap) r i d s l o e ∙ ap (λ x. loads_element k x s l o) at

-- which are there
pub place-enough : (o : Operands) (r : ℕ) (i : ℤ) → Some (r, i) ≡ array_element_of o → 2 ≤ length o
place-enough [] r i e = absurd (no_place (r, i) e)
place-enough (Int n ∷ []) r i e = absurd (no_place (r, i) e)
place-enough (Long n ∷ []) r i e = absurd (no_place (r, i) e)
place-enough (Ref n ∷ []) r i e = absurd (no_place (r, i) e)
place-enough (Addr n ∷ []) r i e = absurd (no_place (r, i) e)
place-enough (v ∷ u ∷ o) r i e = omega arith

-- where there is no element, it is refused
refused-at : (a : Access) (r : ℕ) (i : ℤ) (s : Shared) (l : Locals) (o : Operands) → None ≡ element_at a r s.heap → access_refused a i ≡ loads_at a r i s l o
refused-at (Inside slot) r i s l o e = ap (λ x. replaces 2 (option_map as_value x) l o) e
refused-at ToNull r i s l o e = refl
refused-at ToAnother r i s l o e = refl
refused-at Outside r i s l o e = refl

pub is-refused : (k : Kind) (s : Shared) (l : Locals) (o : Operands) (r : ℕ) (i : ℤ) (a : Access) → Some (r, i) ≡ array_element_of o → None ≡ element_at (access_to k r i s.heap) r s.heap
    → a ≡ access_to k r i s.heap → access_refused a i ≡ loads_element k (array_element_of o) s l o
is-refused k s l o r i a at e led = ap (λ x. access_refused x i) led ∙ (refused-at (access_to k r i s.heap) r i s l o e ∙ ap (λ x. loads_element k x s l o) at)

-- ---- stores

-- led to an element of an array that it fits, the value is put there
pub is-stored : (p : Program) (k : Kind) (s : Shared) (l : Locals) (o : Operands) (x : Storing) (slot : ℕ) → Some x ≡ storing_of k o
    → Inside slot ≡ access_to k x.array x.index s.heap → fits_array p x.datum x.array s.heap ≡ true
    → record s { heap = with_slot_at x.array slot x.datum s.heap } ≡ (stores_element p k (storing_of k o) s l o).shared
is-stored p k s l o x slot at led fits =
    sym (ap (λ b. (if b then record { shared = record s { heap = with_slot_at x.array slot x.datum s.heap }; wrote = []; outcome = GoesOn l (drop 3 o) Next } else done s (Raises array_store None)).shared) fits)
    ∙ (ap (λ a. (stores_at p a x.array x.index x.datum s l o).shared) led ∙ ap (λ y. (stores_element p k y s l o).shared) at)

unstored-at : (p : Program) (a : Access) (x : Storing) (s : Shared) (l : Locals) (o : Operands) → ((slot : ℕ) → a ≡ Inside slot → ⊥)
    → done s (access_refused a x.index) ≡ stores_at p a x.array x.index x.datum s l o
unstored-at p (Inside slot) x s l o isnt = absurd (isnt slot refl)
unstored-at p ToNull x s l o isnt = refl
unstored-at p ToAnother x s l o isnt = refl
unstored-at p Outside x s l o isnt = refl

-- led to no element it does nothing but what it is refused by
pub is-unstored : (p : Program) (k : Kind) (s : Shared) (l : Locals) (o : Operands) (x : Storing) (a : Access) → Some x ≡ storing_of k o
    → a ≡ access_to k x.array x.index s.heap → ((slot : ℕ) → a ≡ Inside slot → ⊥) → done s (access_refused a x.index) ≡ stores_element p k (storing_of k o) s l o
is-unstored p k s l o x a at led isnt =
    unstored-at p a x s l o isnt
    ∙ (ap (λ b. stores_at p b x.array x.index x.datum s l o) led ∙ ap (λ y. stores_element p k y s l o) at)

pub leads-inside : (l : Led) (slot : ℕ) → access_of l ≡ Inside slot → l ≡ led.Inside slot
leads-inside (led.Inside n) slot e = ap (λ m. led.Inside m) (same_slot slot n (sym e))
leads-inside led.ToNull slot e = absurd (null slot (sym e))
leads-inside led.ToAnother slot e = absurd (another slot (sym e))
leads-inside led.Outside slot e = absurd (outside slot (sym e))
