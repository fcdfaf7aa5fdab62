-- Elements that are found by one look-up, and what stands on top for them.
use Rattle.std.proofs.Common.{◌≡◌, ℕ, Bool, true, false, [], ◌∷◌, refl, sym, ap, subst, ◌∙◌}
use lib.Signed.{lt_z}
use Rattle.std.specs.Prelude.{Option, Some, None, ℤ, pos, negsuc, nat_abs, slice_get, is_some, IfSome, IsSome, ◌==◌, ◌-◌, if◌then◌else◌}
use Rattle.std.specs.Option.{option_map, option_map_or}
use Rattle.std.proofs.lemmas.Bool.{false≢true}
use Rattle.std.proofs.lemmas.Option.{none-some, same_Some}
use Rattle.const_pool.specs.declared.descriptor.Kind.{Kind}
use Rattle.const_pool.specs.declared.descriptor.Kind.TheVariants as kind
use Rattle.frame_stack.specs.Tops.{AreNarrow, reference_and_int_of}
use Rattle.heap_objects.specs.declared.datum.Datum.{Datum}
use Rattle.heap_objects.specs.declared.element.ElementType.{ElementType}
use Rattle.heap_objects.specs.declared.Value.TheVariants.{Int, Long, Ref, Addr}
use Rattle.heap_objects.specs.Heaps.{HeapView, kind_at, slot_at}
use Rattle.heap_objects.specs.Kinds.{element_of}
use Rattle.heap_objects.specs.Objects.{kind_of}
use Rattle.jvm_model.specs.Basis.Data.{Operands}
use Rattle.jvm_model.specs.Instructions.ObjectRules.{Inside, Outside, ToAnother, ToNull, access_to, index_in, array_element_of, serves, serves_object, storing_of}
use Rattle.instructions.specs.Elements.{element_at}
use Rattle.instructions.proofs.Attempts.ElementLemmas.{element_in, is_slot}

-- ---- on top

pub place_is : (o : Operands) → reference_and_int_of o ≡ array_element_of o
place_is [] = refl
place_is (Int n ∷ []) = refl
place_is (Int n ∷ Int m ∷ o) = refl
place_is (Int n ∷ Long m ∷ o) = refl
place_is (Int n ∷ Ref m ∷ o) = refl
place_is (Int n ∷ Addr m ∷ o) = refl
place_is (Long n ∷ o) = refl
place_is (Ref n ∷ o) = refl
place_is (Addr n ∷ o) = refl

pub place_narrow : (o : Operands) → IsSome (array_element_of o) → AreNarrow 2 o
place_narrow (Int n ∷ Ref m ∷ o) h = (refl, (refl, tt))
place_narrow _ h = absurd (false≢true h)

pub storing_narrow : (o : Operands) → IsSome (storing_of kind.Int o) → AreNarrow 3 o
storing_narrow [] h = absurd (false≢true h)
storing_narrow (v ∷ []) h = absurd (false≢true h)
storing_narrow (v ∷ Int m ∷ []) h = absurd (false≢true h)
storing_narrow (Int n ∷ Int m ∷ Ref r ∷ o) h = (refl, (refl, (refl, tt)))
storing_narrow (Long n ∷ Int m ∷ Ref r ∷ o) h = absurd (false≢true h)
storing_narrow (Ref n ∷ Int m ∷ Ref r ∷ o) h = absurd (false≢true h)
storing_narrow (Addr n ∷ Int m ∷ Ref r ∷ o) h = absurd (false≢true h)
storing_narrow (v ∷ Int m ∷ Int n ∷ o) h = absurd (false≢true h)
storing_narrow (v ∷ Int m ∷ Long n ∷ o) h = absurd (false≢true h)
storing_narrow (v ∷ Int m ∷ Addr n ∷ o) h = absurd (false≢true h)
storing_narrow (v ∷ Long m ∷ o) h = absurd (false≢true h)
storing_narrow (v ∷ Ref m ∷ o) h = absurd (false≢true h)
storing_narrow (v ∷ Addr m ∷ o) h = absurd (false≢true h)

-- ---- where an index leads in an array whose elements an instruction serves

served : (k : Kind) (e : ElementType) (o : Option ℕ) → serves k e ≡ true → option_map element_of o ≡ Some e → option_map_or (λ kind. serves k (element_of kind)) o false ≡ true
served k e None serve is = absurd (none-some e is)
served k e (Some kind) serve is = ap (serves k) (same_Some _ _ is) ∙ serve

is-there : (e : ElementType) (r : ℕ) (h : HeapView) → option_map element_of (kind_at r h) ≡ Some e → (r == 0) ≡ false
is-there e r h is = by (r == 0) refl where
  by : (b : Bool) → (r == 0) ≡ b → b ≡ false
  by false at = refl
  by true at = absurd (none-some e (sym (ap (λ c. option_map element_of (option_map kind_of (if c then None else slice_get h.objects (r - 1)))) at) ∙ is))

leads-in : (k : Kind) (e : ElementType) (r slot : ℕ) (h : HeapView) → serves k e ≡ true → option_map element_of (kind_at r h) ≡ Some e
    → access_to k r (pos slot) h ≡ index_in r (pos slot) h
leads-in k e r slot h serve is =
    ap (λ b. if b then ToNull else if serves_object k r h then index_in r (pos slot) h else ToAnother) (is-there e r h is)
    ∙ ap (λ b. if b then index_in r (pos slot) h else ToAnother) (served k e (kind_at r h) serve is)

pub quick-element : (k : Kind) (e : ElementType) (r slot : ℕ) (h : HeapView) (d : Datum) → serves k e ≡ true → option_map element_of (kind_at r h) ≡ Some e
    → slot_at r slot h ≡ Some d → element_at (access_to k r (pos slot) h) r h ≡ Some d
quick-element k e r slot h d serve is there =
    ap (λ a. element_at a r h) (leads-in k e r slot h serve is) ∙ (element_in r slot h ∙ there)

pub quick-inside : (k : Kind) (e : ElementType) (r slot : ℕ) (h : HeapView) (d : Datum) → serves k e ≡ true → option_map element_of (kind_at r h) ≡ Some e
    → slot_at r slot h ≡ Some d → access_to k r (pos slot) h ≡ Inside slot
quick-inside k e r slot h d serve is there =
    leads-in k e r slot h serve is
    ∙ ap (λ b. if b then Inside slot else Outside) (sym (is_slot r slot h) ∙ ap is_some there)

-- ---- where it is asked for by an index

quick-pos : (k : Kind) (e : ElementType) (A : Type 0) (as_datum : A → Datum) (r slot : ℕ) (h : HeapView) (found : Option A) → serves k e ≡ true
    → IfSome found (λ _. option_map element_of (kind_at r h) ≡ Some e) → IfSome found (λ n. slot_at r slot h ≡ Some (as_datum n))
    → IfSome found (λ n. element_at (access_to k r (pos slot) h) r h ≡ Some (as_datum n)) × IfSome found (λ n. access_to k r (pos slot) h ≡ Inside slot)
quick-pos k e A as_datum r slot h None serve is there = (tt, tt)
quick-pos k e A as_datum r slot h (Some n) serve is there =
    (quick-element k e r slot h (as_datum n) serve is there, quick-inside k e r slot h (as_datum n) serve is there)

pub quick-index : (k : Kind) (e : ElementType) (A : Type 0) (as_datum : A → Datum) (r : ℕ) (i j : ℤ) (h : HeapView) (found : Option A) → j ≡ i → lt_z j (pos 0) ≡ false → serves k e ≡ true
    → IfSome found (λ _. option_map element_of (kind_at r h) ≡ Some e) → IfSome found (λ n. slot_at r (nat_abs j) h ≡ Some (as_datum n))
    → IfSome found (λ n. element_at (access_to k r i h) r h ≡ Some (as_datum n)) × IfSome found (λ n. access_to k r i h ≡ Inside (nat_abs i))
quick-index k e A as_datum r i (pos slot) h found same less serve is there =
    subst (λ x. IfSome found (λ n. element_at (access_to k r x h) r h ≡ Some (as_datum n)) × IfSome found (λ n. access_to k r x h ≡ Inside (nat_abs x))) same
    (quick-pos k e A as_datum r slot h found serve is there)
quick-index k e A as_datum r i (negsuc n) h found same less serve is there = absurd (false≢true (sym less))
