-- The classes that calls name stay known for each loaded class, and a class that is loaded more has those above it.
use Rattle.std.proofs.Common.{◌≡◌, ℕ, ◌<◌, Bool, true, false, List, [], ◌∷◌, ◌++◌, length, ap, sym, subst, refl, ◌∙◌, inl, inr}
use Rattle.std.specs.Prelude.{flat_map, replicate, slice_set, unwrap_or, Option, ◌==◌, ◌||◌, ◌⊎◌, if◌then◌else◌}
use Rattle.std.specs.Option.{option_to_list}
use Rattle.std.proofs.lemmas.Bool.{false≢true, or_cases, or_left, or_right, eqb-true}
use Rattle.std.proofs.Math.Bool.{or-false}
use Rattle.jf_bytes.proofs.Tests.{equals_itself}
use Rattle.jf_bytes.proofs.Lists.{slice_get-set_same}
use Rattle.jvm_model.specs.declared.program.Program.{Program}
use Rattle.jvm_model.specs.Classes.Load.{is_among}
use Rattle.jvm_model.specs.Classes.Lookup.{is_subtype}
use Rattle.jvm_model.specs.declared.instruction.SymbolicReference.{SymbolicReference}
use Rattle.jvm_model.specs.Instructions.SymbolicReference.{resolved_name}
use Rattle.jvm_model.specs.Basis.Programs.{class_named}
use Rattle.jvm_model.specs.Profiling.Revelation.{symbolic_references_of}
use Rattle.jvm_model.specs.Soundness.Sound.{HasSupertypes}
use Rattle.jvm_model.specs.Profiling.Targets.{operations_of}
use Rattle.jvm_model.proofs.Loading.Among.{among-append}
use Rattle.class_index.specs.Orders.{with_class}
use Rattle.possible_callees.specs.declared.lineage.Lineage.{Lineage}
use Rattle.possible_callees.specs.Lineages.{IsClosed, IsLineage, IsNoted, direct, class_noted}
use Rattle.possible_callees.specs.Tables.{list_at}
use Rattle.possible_callees.proofs.Numbers.Adding.{among-with, to_flat}
use Rattle.possible_callees.proofs.Classes.LineageLemmas.{loaded-before, noted-there, nothing-noted}
use Rattle.possible_callees.proofs.Numbers.TableLemmas.{set-length, set-other}
use Rattle.call_revelation.specs.declared.named.Named.{Named}
use Rattle.call_revelation.specs.Books.{is_call}
use Rattle.call_revelation.specs.CalledClasses.{AreHanded, HasCalled, HasUppers, called_class, classes_called, uppers_of}
use Rattle.call_revelation.proofs.Classes.LoadStep.{some-of}
use Rattle.call_revelation.proofs.Classes.SubtypeSteps.{IsStep, lower-within, one-within, named-within, step}

-- ---- no call names a class

pub nothing-named : (p : Program) (v : Named) → v.classes ≡ [] → v.above.items ≡ replicate (length p.classes) [] → (loaded : List ℕ) → AreHanded p loaded v
nothing-named p v none empty loaded = record {
  places = nothing-noted p v.above.items empty;
  whole = λ lower upper within there sub among. absurd (false≢true (sym (ap (is_among upper) none) ∙ among));
}

-- over fewer classes
pub fewer-handed : (p : Program) (a b : List ℕ) (v : Named) → ((x : ℕ) → is_among x a ≡ true → is_among x b ≡ true) → AreHanded p b v → AreHanded p a v
fewer-handed p a b v each is = record {
  places = is.places;
  whole = λ lower upper within there sub among. is.whole lower upper within (each lower there) sub among;
}

-- over those with a class more there is nothing else to know of fewer
pub handed-with : (p : Program) (loaded more : List ℕ) (v : Named) (class : ℕ) (b : Bool) → more ≡ (if b then with_class loaded class else loaded)
    → AreHanded p (loaded ++ class ∷ []) v → AreHanded p more v
handed-with p loaded more v class b e is = fewer-handed p more (loaded ++ class ∷ []) v (λ x h. by b x (sym (ap (is_among x) e) ∙ h)) is
  where
    by : (b : Bool) (x : ℕ) → is_among x (if b then with_class loaded class else loaded) ≡ true → is_among x (loaded ++ class ∷ []) ≡ true
    by true x h =
        among-append x loaded (class ∷ []) ∙ elim (or_cases (is_among x loaded) (x == class) (sym (among-with x loaded class) ∙ h)) [
          | inl a ↦ or_left (is_among x loaded) (is_among x (class ∷ [])) a
          | inr c ↦ or_right (is_among x loaded) (is_among x (class ∷ [])) (or_left (x == class) false c)
        ]
    by false x h = among-append x loaded (class ∷ []) ∙ or_left (is_among x loaded) (is_among x (class ∷ [])) h

-- ---- a call more

-- lists that have more
pub handed-kept : (p : Program) (loaded : List ℕ) (old new : Named) (class : ℕ) (lower : List ℕ) → IsNoted class lower old.above.items new.above.items
    → new.classes ≡ old.classes → AreHanded p loaded old → AreHanded p loaded new
handed-kept p loaded old new class lower only same is = record {
  places = only.places ∙ is.places;
  whole = λ x upper within there sub among. only.more x upper (is.whole x upper within there sub (sym (ap (is_among upper) same) ∙ among));
}

pub handed-noted : (p : Program) (v : Lineage) (old new : Named) (class : ℕ) (lower : List ℕ) → IsLineage p v → is_among class lower ≡ true
    → IsClosed v.below.items lower → IsNoted class lower old.above.items new.above.items → new.above.items ≡ class_noted class old.above.items lower
    → new.classes ≡ with_class old.classes class → AreHanded p v.loaded old → AreHanded p v.loaded new
handed-noted p v old new class lower lined own closed only noted_is added is = record {
  places = only.places ∙ is.places;
  whole = λ x upper within there sub among.
      elim (or_cases (is_among upper old.classes) (upper == class) (sym (among-with upper old.classes class) ∙ (sym (ap (is_among upper) added) ∙ among))) [
        | inl before ↦ only.more x upper (is.whole x upper within there sub before)
        | inr same ↦ handed x upper (eqb-true upper class same) within there sub
      ];
}
  where
    handed : (x upper : ℕ) → upper ≡ class → upper < length p.classes → is_among x v.loaded ≡ true → is_subtype p x upper ≡ true
        → is_among upper (list_at new.above.items x) ≡ true
    handed x upper same within there sub =
        let reached : is_among x lower ≡ true =
        lined.whole class x lower (subst (λ k. k < length p.classes) same within) there (ap (is_subtype p x) (sym same) ∙ sub) own closed in
        let small : x < length old.above.items = subst (λ n. x < n) (sym is.places) (lower-within p x upper within sub) in
        ap (λ k. is_among k (list_at new.above.items x)) same
        ∙ (ap (λ l. is_among class (list_at l x)) noted_is ∙ noted-there class old.above.items lower x small (inr reached))

-- ---- a class more

list-same : (lists : List (List ℕ)) (n : ℕ) (list : List ℕ) → n < length lists → list_at (slice_set lists n list) n ≡ list
list-same lists n list within = ap (λ (o : Option (List ℕ)). unwrap_or o []) (slice_get-set_same lists n list within)

list-other : (lists : List (List ℕ)) (n k : ℕ) (list : List ℕ) → (k == n) ≡ false → list_at (slice_set lists n list) k ≡ list_at lists k
list-other lists n k list other = ap (λ (o : Option (List ℕ)). unwrap_or o []) (set-other lists n k list other)

module _ (p : Program) (loaded : List ℕ) (old new : Named) (class : ℕ) (uppers : List ℕ) (is : AreHanded p loaded old)
    (classes : new.classes ≡ old.classes) (above : new.above.items ≡ slice_set old.above.items class uppers) where
  places-same : length new.above.items ≡ length p.classes
  places-same = ap length above ∙ (set-length old.above.items class uppers ∙ is.places)

  of-other : (x upper : ℕ) → (x == class) ≡ false → upper < length p.classes → is_among x loaded ≡ true → is_subtype p x upper ≡ true → is_among upper new.classes ≡ true
      → is_among upper (list_at new.above.items x) ≡ true
  of-other x upper other within there sub among =
      ap (λ l. is_among upper (list_at l x)) above
      ∙ (ap (is_among upper) (list-other old.above.items class x uppers other)
      ∙ is.whole x upper within there sub (sym (ap (is_among upper) classes) ∙ among))

  -- it is known for the others before the class is loaded
  pub handed-before : is_among class loaded ≡ false → AreHanded p loaded new
  handed-before fresh = record {
    places = places-same;
    whole = λ x upper within there sub among. by x upper within there sub among (x == class) refl;
  }
    where
      by : (x upper : ℕ) → upper < length p.classes → is_among x loaded ≡ true → is_subtype p x upper ≡ true → is_among upper new.classes ≡ true
          → (b : Bool) → (x == class) ≡ b → is_among upper (list_at new.above.items x) ≡ true
      by x upper within there sub among false e = of-other x upper e within there sub among
      by x upper within there sub among true e = absurd (false≢true (sym fresh ∙ (sym (ap (λ k. is_among k loaded) (eqb-true x class e)) ∙ there)))

  module _ (all : (upper : ℕ) → upper < length p.classes → is_among upper old.classes ≡ true → is_subtype p class upper ≡ true → is_among upper uppers ≡ true) where
    of-class : (upper : ℕ) → upper < length p.classes → is_subtype p class upper ≡ true → is_among upper new.classes ≡ true
        → is_among upper (list_at new.above.items class) ≡ true
    of-class upper within sub among =
        ap (λ l. is_among upper (list_at l class)) above
        ∙ (ap (is_among upper) (list-same old.above.items class uppers (subst (λ n. class < n) (sym is.places) (lower-within p class upper within sub)))
        ∙ all upper within (sym (ap (is_among upper) classes) ∙ among) sub)

    pub handed-more : AreHanded p (loaded ++ class ∷ []) new
    handed-more = record {
      places = places-same;
      whole = λ x upper within there sub among. by x upper within there sub among (x == class) refl;
    }
      where
        by : (x upper : ℕ) → upper < length p.classes → is_among x (loaded ++ class ∷ []) ≡ true → is_subtype p x upper ≡ true → is_among upper new.classes ≡ true
            → (b : Bool) → (x == class) ≡ b → is_among upper (list_at new.above.items x) ≡ true
        by x upper within there sub among true e =
            let same : x ≡ class = eqb-true x class e in
            ap (λ k. is_among upper (list_at new.above.items k)) same ∙ of-class upper within (ap (λ k. is_subtype p k upper) (sym same) ∙ sub) among
        by x upper within there sub among false e =
            elim (or_cases (is_among x loaded) (is_among x (class ∷ [])) (sym (among-append x loaded (class ∷ [])) ∙ there)) [
              | inl before ↦ of-other x upper e within before sub among
              | inr it ↦ absurd (false≢true (sym e ∙ (sym (or-false (x == class)) ∙ it)))
            ]

-- ---- those above the new class

pub all-uppers : (p : Program) (loaded : List ℕ) (v : Named) (class : ℕ) (uppers : List ℕ) → AreHanded p loaded v → HasSupertypes p (loaded ++ class ∷ [])
    → ((upper : ℕ) → is_among upper uppers ≡ is_among upper (uppers_of v (direct p class) class))
    → (upper : ℕ) → upper < length p.classes → is_among upper v.classes ≡ true → is_subtype p class upper ≡ true → is_among upper uppers ≡ true
all-uppers p loaded v class uppers is above are upper within among sub =
    are upper ∙ (among-append upper own (flat_map (list_at v.above.items) (direct p class)) ∙ by (step p class upper sub))
  where
    own : List ℕ
    own = if is_among class v.classes then class ∷ [] else []

    by : (class ≡ upper) ⊎ IsStep p class upper → (is_among upper own || is_among upper (flat_map (list_at v.above.items) (direct p class))) ≡ true
    by (inl same) =
        or_left (is_among upper own) (is_among upper (flat_map (list_at v.above.items) (direct p class)))
        (ap (λ b. is_among upper (if b then class ∷ [] else [])) (ap (λ k. is_among k v.classes) same ∙ among)
        ∙ or_left (upper == class) false (ap (λ k. upper == k) same ∙ equals_itself upper))
    by (inr s) =
        or_right (is_among upper own) (is_among upper (flat_map (list_at v.above.items) (direct p class)))
        (to_flat (list_at v.above.items) (direct p class) s.by upper s.there
        (is.whole s.by upper within (loaded-before p loaded class above s.by s.there s.other) s.above among))

pub called-within : (p : Program) (method class : ℕ) → is_among class (classes_called p method) ≡ true → class < length p.classes
called-within p method class h =
    let one = some-of (called_class p) (symbolic_references_of (operations_of p method)) class h in by one.item (is_call one.item) one.within
  where
    by : (n : SymbolicReference) (b : Bool) → is_among class (if b then option_to_list (class_named p (resolved_name n)) else []) ≡ true → class < length p.classes
    by n true k = one-within p (class_named p (resolved_name n)) class (λ d e. named-within p (resolved_name n) d e) k
    by n false k = absurd (false≢true k)

pub uppers-known : (p : Program) (loaded : List ℕ) (v : Named) (entered : List ℕ) (class : ℕ) → AreHanded p (loaded ++ class ∷ []) v
    → ((m : ℕ) → is_among m entered ≡ true → HasCalled p v m) → HasUppers p entered class (list_at v.above.items class)
uppers-known p loaded v entered class is called caller upper there names sub =
    is.whole class upper (called-within p caller upper names)
    (among-append class loaded (class ∷ []) ∙ or_right (is_among class loaded) (is_among class (class ∷ [])) (or_left (class == class) false (equals_itself class)))
    sub (called caller there upper names)
