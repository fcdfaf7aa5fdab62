-- The targets of what is entered when one class more is loaded are those before and what is gathered from what is kept.
use Rattle.std.proofs.Common.{◌≡◌, ℕ, zero, suc, Bool, true, false, List, [], ◌∷◌, ◌++◌, ap, sym, subst, refl, ◌∙◌, inl, inr}
use Rattle.std.specs.Prelude.{flat_map, Option, Some, None, is_some, slice_get, ◌⊎◌, ◌==◌, ◌||◌, if◌then◌else◌}
use Rattle.std.specs.List.{list_any}
use Rattle.std.specs.Option.{option_and_then, option_map_or, option_to_list}
use Rattle.std.proofs.lemmas.Bool.{false≢true, or_cases, or_left, or_right, eqb-true, and_parts}
use Rattle.std.proofs.lemmas.Option.{none-some, same_Some}
use Rattle.jf_bytes.proofs.Tests.{equals_itself}
use Rattle.jvm_model.specs.declared.program.Program.{Program}
use Rattle.jvm_model.specs.Classes.Load.{is_among}
use Rattle.jvm_model.specs.Classes.Lookup.{is_subtype}
use Rattle.jvm_model.specs.Instructions.SymbolicReference.{resolved_name}
use Rattle.jvm_model.specs.declared.instruction.SymbolicReference.TheVariants as model
use Rattle.jvm_model.specs.Profiling.Points.{is_target}
use Rattle.jvm_model.specs.Basis.Programs.{class_named}
use Rattle.jvm_model.specs.Profiling.Revelation.{gained_in, is_named, symbolic_references_of}
use Rattle.jvm_model.specs.Soundness.Sound.{HasSupertypes}
use Rattle.jvm_model.specs.Profiling.Targets.{begun_by, loaded_class_named, operations_of, targets_in}
use Rattle.jvm_model.proofs.Revealing.Gained.{gained-targets}
use Rattle.jvm_model.proofs.Revealing.Revealed.{is_gained, load-targets}
use Rattle.jvm_model.specs.declared.instruction.SymbolicReference.{SymbolicReference}
use Rattle.jvm_model.proofs.Loading.Among.{among-append}
use Rattle.possible_callees.specs.Tables.{list_at}
use Rattle.possible_callees.proofs.Truths.{alike}
use Rattle.possible_callees.proofs.Numbers.Adding.{from_flat, to_flat}
use Rattle.call_revelation.specs.declared.uses.Use.{Use}
use Rattle.call_revelation.specs.Books.{Codes, IsBook, called_by, called_from, called_on, code_at, methods_gathered, is_use, symbolic_reference_at, of_entered}
use Rattle.call_revelation.specs.CalledClasses.{HasUppers, called_class}
use Rattle.call_revelation.proofs.References.ReferenceLemmas.{CallsIt, NamesIt, called-gains, gain-from, gain-of, gained-either, target-of}

-- ---- lists of any items

pub record IsOf (A : Type 0) (f : A → List ℕ) (m : ℕ) : Type 0 where
  pub item : A
  pub within : is_among m (f item) ≡ true

pub some-of : {A : Type 0} (f : A → List ℕ) (xs : List A) (m : ℕ) → is_among m (flat_map f xs) ≡ true → IsOf A f m
some-of f [] m h = absurd (false≢true h)
some-of f (x ∷ xs) m h =
    elim (or_cases (is_among m (f x)) (is_among m (flat_map f xs)) (sym (among-append m (f x) (flat_map f xs)) ∙ h)) [
      | inl a ↦ record { item = x; within = a }
      | inr b ↦ some-of f xs m b
    ]

pub any-flat : {A : Type 0} (f : A → List ℕ) (test : A → Bool) (xs : List A) (m : ℕ) → list_any test xs ≡ true
    → ((x : A) → test x ≡ true → is_among m (f x) ≡ true) → is_among m (flat_map f xs) ≡ true
any-flat f test [] m there is = absurd (false≢true there)
any-flat f test (x ∷ xs) m there is =
    among-append m (f x) (flat_map f xs) ∙ elim (or_cases (test x) (list_any test xs) there) [
      | inl a ↦ or_left (is_among m (f x)) (is_among m (flat_map f xs)) (is x a)
      | inr b ↦ or_right (is_among m (f x)) (is_among m (flat_map f xs)) (any-flat f test xs m b is)
    ]

pub any-of : (f : ℕ → Bool) (xs : List ℕ) (x : ℕ) → is_among x xs ≡ true → f x ≡ true → list_any f xs ≡ true
any-of f [] x there h = absurd (false≢true there)
any-of f (y ∷ xs) x there h =
    elim (or_cases (x == y) (is_among x xs) there) [
      | inl same ↦ or_left (f y) (list_any f xs) (ap f (sym (eqb-true x y same)) ∙ h)
      | inr behind ↦ or_right (f y) (list_any f xs) (any-of f xs x behind h)
    ]

pub record IsAny (f : ℕ → Bool) (xs : List ℕ) : Type 0 where
  pub item : ℕ
  pub there : is_among item xs ≡ true
  pub holds : f item ≡ true

pub from-any : (f : ℕ → Bool) (xs : List ℕ) → list_any f xs ≡ true → IsAny f xs
from-any f [] h = absurd (false≢true h)
from-any f (x ∷ xs) h =
    elim (or_cases (f x) (list_any f xs) h) [
      | inl a ↦ record { item = x; there = or_left (x == x) (is_among x xs) (equals_itself x); holds = a }
      | inr b ↦ let i = from-any f xs b in record { item = i.item; there = or_right (i.item == x) (is_among i.item xs) i.there; holds = i.holds }
    ]

pub flat-at : {A : Type 0} (f : A → List ℕ) (xs : List A) (i : ℕ) (x : A) (m : ℕ) → slice_get xs i ≡ Some x → is_among m (f x) ≡ true
    → is_among m (flat_map f xs) ≡ true
flat-at f [] i x m e h = absurd (none-some x e)
flat-at f (y ∷ xs) zero x m e h =
    among-append m (f y) (flat_map f xs) ∙ or_left (is_among m (f y)) (is_among m (flat_map f xs)) (ap (λ z. is_among m (f z)) (same_Some y x e) ∙ h)
flat-at f (y ∷ xs) (suc i) x m e h =
    among-append m (f y) (flat_map f xs) ∙ or_right (is_among m (f y)) (is_among m (flat_map f xs)) (flat-at f xs i x m e h)

-- ---- what is kept

module _ (p : Program) (codes : Codes) (waiting calls : List (List Use)) (book : IsBook p codes waiting calls) (entered : List ℕ) where
  -- an instruction of an entered method, and what it gives
  pub record IsEntered (f : SymbolicReference → List ℕ) (u : Use) (m : ℕ) : Type 0 where
    pub caller : is_among u.caller entered ≡ true
    pub reference : SymbolicReference
    pub there : slice_get (symbolic_references_of (operations_of p u.caller)) u.at ≡ Some reference
    pub within : is_among m (f reference) ≡ true

  pub read-at : (u : Use) (o : Option (List SymbolicReference)) (n : SymbolicReference) → code_at codes u.caller ≡ o → option_and_then (λ (ns : List SymbolicReference). slice_get ns u.at) o ≡ Some n
      → slice_get (symbolic_references_of (operations_of p u.caller)) u.at ≡ Some n
  read-at u None n c e = absurd (none-some n e)
  read-at u (Some ns) n c e = subst (λ l. slice_get l u.at ≡ Some n) (book.read u.caller ns c) (e)

  pub entered-at : (f : SymbolicReference → List ℕ) (u : Use) (m : ℕ) → is_among m (of_entered entered codes f u) ≡ true → IsEntered f u m
  entered-at f u m h = by (is_among u.caller entered) refl h
    where
      at : (o : Option SymbolicReference) → symbolic_reference_at codes u ≡ o → is_among u.caller entered ≡ true
          → is_among m (option_map_or (λ (n : SymbolicReference). f n) o []) ≡ true → IsEntered f u m
      at None e c h = absurd (false≢true h)
      at (Some n) e c h = record { caller = c; reference = n; there = read-at u (code_at codes u.caller) n refl e; within = h }

      by : (b : Bool) → is_among u.caller entered ≡ b
          → is_among m (if b then option_map_or (λ (n : SymbolicReference). f n) (symbolic_reference_at codes u) [] else []) ≡ true → IsEntered f u m
      by true c h = at (symbolic_reference_at codes u) refl c h
      by false c h = absurd (false≢true h)

  -- what an instruction of an entered method gives, by its place
  pub at-entered : (f : SymbolicReference → List ℕ) (caller i : ℕ) (ns : List SymbolicReference) (n : SymbolicReference) (m : ℕ) → is_among caller entered ≡ true
      → code_at codes caller ≡ Some ns → slice_get ns i ≡ Some n → is_among m (f n) ≡ true
      → (u : Use) → is_use caller i u ≡ true → is_among m (of_entered entered codes f u) ≡ true
  at-entered f caller i ns n m there c e h u is =
      let same : u.caller ≡ caller = eqb-true u.caller caller (and_parts (u.caller == caller) (u.at == i) is).0 in
      let place : u.at ≡ i = eqb-true u.at i (and_parts (u.caller == caller) (u.at == i) is).1 in
      ap (λ b. is_among m (if b then option_map_or (λ (n : SymbolicReference). f n) (symbolic_reference_at codes u) [] else [])) (ap (λ x. is_among x entered) same ∙ there)
      ∙ (ap (λ o. is_among m (option_map_or (λ (n : SymbolicReference). f n) o []))
      (ap (λ x. option_and_then (λ (ns : List SymbolicReference). slice_get ns u.at) (code_at codes x)) same
      ∙ (ap (option_and_then (λ (ns : List SymbolicReference). slice_get ns u.at)) c ∙ (ap (slice_get ns) place ∙ e)))
      ∙ h)

  -- ---- one class more

  module _ (loaded : List ℕ) (new : ℕ) (above : HasSupertypes p loaded) (fresh : is_among new loaded ≡ false)
      (booked : (caller : ℕ) → is_among caller entered ≡ true → is_some (code_at codes caller) ≡ true)
      (uppers : List ℕ) (whole : HasUppers p entered new uppers) (m : ℕ) where
    abbrev all : List ℕ
    all = loaded ++ new ∷ []

    abbrev called : List ℕ
    called = flat_map (called_from p loaded new entered codes calls) uppers

    abbrev waited : List ℕ
    waited = flat_map (of_entered entered codes (begun_by p all)) (list_at waiting new)

    -- a target of this entered method
    is-targeted : (caller : ℕ) → is_among caller entered ≡ true → is_among m (targets_in p all (operations_of p caller)) ≡ true
        → is_target p (operations_of p) all entered m ≡ true
    is-targeted caller there h = any-of (λ caller. is_among m (targets_in p all (operations_of p caller))) entered caller there h

    -- ---- whatever is gathered is a target

    from-waiting : is_among m waited ≡ true → is_target p (operations_of p) all entered m ≡ true
    from-waiting h =
        let one = some-of (of_entered entered codes (begun_by p all)) (list_at waiting new) m h in
        let e = entered-at (begun_by p all) one.item m one.within in
        is-targeted one.item.caller e.caller (target-of p all (operations_of p one.item.caller) m one.item.at e.reference e.there e.within)

    -- a call that names this class, which is loaded
    named-loaded : (n : SymbolicReference) (class : ℕ) → is_among class loaded ≡ true → is_named p class (resolved_name n) ≡ true
        → loaded_class_named p loaded (resolved_name n) ≡ Some class
    named-loaded n class there named = by (class_named p (resolved_name n)) named
      where
        by : (o : Option ℕ) → option_map_or (λ found. found == class) o false ≡ true
            → option_and_then (λ (class : ℕ). if is_among class loaded then Some class else None) o ≡ Some class
        by None k = absurd (false≢true k)
        by (Some found) k =
            let same : found ≡ class = eqb-true found class k in
            ap (λ (x : ℕ). if is_among x loaded then Some x else None) same ∙ ap (λ b. if b then Some class else None) there

    called-there : (class : ℕ) (u : Use) → is_among class loaded ≡ true → IsEntered (called_by p new class) u m
        → is_target p (operations_of p) all entered m ≡ true
    called-there class u there e = by (is_named p class (resolved_name e.reference)) refl e.within
      where
        by : (b : Bool) → is_named p class (resolved_name e.reference) ≡ b → is_among m (if b then called_on p new class e.reference else []) ≡ true
            → is_target p (operations_of p) all entered m ≡ true
        by false k h = absurd (false≢true h)
        by true k h =
            is-targeted u.caller e.caller
            (gained-targets p loaded new above fresh (operations_of p u.caller) m
            (gain-of p loaded new (operations_of p u.caller) m u.at e.reference e.there
            (called-gains p loaded new e.reference m class (named-loaded e.reference class there k) h)))

    from-called : is_among m called ≡ true → is_target p (operations_of p) all entered m ≡ true
    from-called h =
        let i = from_flat (called_from p loaded new entered codes calls) uppers m h in
        by i.item (is_among i.item loaded) refl i.within
      where
        by : (class : ℕ) (b : Bool) → is_among class loaded ≡ b
            → is_among m (if b then flat_map (of_entered entered codes (called_by p new class)) (list_at calls class) else []) ≡ true
            → is_target p (operations_of p) all entered m ≡ true
        by class false k h = absurd (false≢true h)
        by class true k h =
            let one = some-of (of_entered entered codes (called_by p new class)) (list_at calls class) m h in
            called-there class one.item k (entered-at (called_by p new class) one.item m one.within)

    -- ---- whatever is gained is gathered

    -- the class of this name, and that it is loaded
    record IsKnown (n : SymbolicReference) (class : ℕ) : Type 0 where
      named : class_named p (resolved_name n) ≡ Some class
      there : is_among class loaded ≡ true

    known : (n : SymbolicReference) (class : ℕ) → loaded_class_named p loaded (resolved_name n) ≡ Some class → IsKnown n class
    known n class e = by (class_named p (resolved_name n)) refl e
      where
        test : (found : ℕ) (b : Bool) → class_named p (resolved_name n) ≡ Some found → is_among found loaded ≡ b
            → (if b then Some found else None) ≡ Some class → IsKnown n class
        test found true o k e = let same = same_Some found class e in record { named = o ∙ ap (λ x. Some x) same; there = ap (λ x. is_among x loaded) (sym same) ∙ k }
        test found false o k e = absurd (none-some class e)

        by : (o : Option ℕ) → class_named p (resolved_name n) ≡ o
            → option_and_then (λ (class : ℕ). if is_among class loaded then Some class else None) o ≡ Some class → IsKnown n class
        by None o e = absurd (none-some class e)
        by (Some found) o e = test found (is_among found loaded) o refl e

    -- a call adds something on classes above the new one alone
    if-true : (b : Bool) (xs : List ℕ) → is_among m (if b then xs else []) ≡ true → b ≡ true
    if-true true xs h = refl
    if-true false xs h = absurd (false≢true h)

    is-above : (n : SymbolicReference) (class : ℕ) → is_among m (called_on p new class n) ≡ true → is_subtype p new class ≡ true
    is-above (model.Invokevirtual r) class h = if-true (is_subtype p new class) _ h
    is-above (model.Invokeinterface r) class h = if-true (is_subtype p new class) _ h
    is-above (model.New name) class h = absurd (false≢true h)
    is-above (model.Getfield r) class h = absurd (false≢true h)
    is-above (model.Putfield r) class h = absurd (false≢true h)
    is-above (model.Getstatic r) class h = absurd (false≢true h)
    is-above (model.Putstatic r) class h = absurd (false≢true h)
    is-above (model.Invokespecial caller r interface) class h = absurd (false≢true h)
    is-above (model.Invokestatic r) class h = absurd (false≢true h)
    is-above (model.Checkcast name) class h = absurd (false≢true h)
    is-above (model.Instanceof name) class h = absurd (false≢true h)
    is-above (model.Anewarray name) class h = absurd (false≢true h)
    is-above (model.Multianewarray name dimensions) class h = absurd (false≢true h)
    is-above (model.LdcClass name) class h = absurd (false≢true h)

    named-by : (n : SymbolicReference) (class : ℕ) → is_named p class (resolved_name n) ≡ true → class_named p (resolved_name n) ≡ Some class
    named-by n class k = by (class_named p (resolved_name n)) refl k
      where
        by : (o : Option ℕ) → class_named p (resolved_name n) ≡ o → option_map_or (λ found. found == class) o false ≡ true
            → class_named p (resolved_name n) ≡ Some class
        by None o k = absurd (false≢true k)
        by (Some found) o k = o ∙ ap (λ x. Some x) (eqb-true found class k)

    is-named : (n : SymbolicReference) (class : ℕ) → class_named p (resolved_name n) ≡ Some class → is_named p class (resolved_name n) ≡ true
    is-named n class e = ap (λ o. option_map_or (λ found. found == class) o false) e ∙ equals_itself class

    read-there : (caller i : ℕ) (ns : List SymbolicReference) (n : SymbolicReference) → code_at codes caller ≡ Some ns → slice_get ns i ≡ Some n
        → slice_get (symbolic_references_of (operations_of p caller)) i ≡ Some n
    read-there caller i ns n c e = subst (λ l. slice_get l i ≡ Some n) (book.read caller ns c) (e)

    is-gathered : (caller i : ℕ) (ns : List SymbolicReference) (n : SymbolicReference) → is_among caller entered ≡ true → code_at codes caller ≡ Some ns → slice_get ns i ≡ Some n
        → NamesIt p loaded new n m ⊎ CallsIt p loaded new n m → (is_among m called || is_among m waited) ≡ true
    is-gathered caller i ns n there c e (inl it) =
        or_right (is_among m called) (is_among m waited)
        (any-flat (of_entered entered codes (begun_by p all)) (is_use caller i) (list_at waiting new) m
        (book.waits caller i ns n c e new (named-by n new it.named))
        (at-entered (begun_by p all) caller i ns n m there c e it.begun))
    is-gathered caller i ns n there c e (inr it) =
        let k = known n it.class it.named in
        or_left (is_among m called) (is_among m waited)
        (to_flat (called_from p loaded new entered codes calls) uppers it.class m
        (whole caller it.class there
        (flat-at (called_class p) (symbolic_references_of (operations_of p caller)) i n it.class (read-there caller i ns n c e)
        (ap (λ b. is_among it.class (if b then option_to_list (class_named p (resolved_name n)) else [])) it.call
        ∙ (ap (λ o. is_among it.class (option_to_list o)) k.named ∙ or_left (it.class == it.class) false (equals_itself it.class))))
        (is-above n it.class it.called))
        (ap (λ b. is_among m (if b then flat_map (of_entered entered codes (called_by p new it.class)) (list_at calls it.class) else [])) k.there
        ∙ any-flat (of_entered entered codes (called_by p new it.class)) (is_use caller i) (list_at calls it.class) m
        (book.called caller i ns n c e it.call it.class k.named)
        (at-entered (called_by p new it.class) caller i ns n m there c e
        (ap (λ b. is_among m (if b then called_on p new it.class n else [])) (is-named n it.class k.named) ∙ it.called))))

    record HasCode (caller : ℕ) : Type 0 where
      references : List SymbolicReference
      there : code_at codes caller ≡ Some references

    has-code : (caller : ℕ) (o : Option (List SymbolicReference)) → code_at codes caller ≡ o → is_some o ≡ true → HasCode caller
    has-code caller None c h = absurd (false≢true h)
    has-code caller (Some ns) c h = record { references = ns; there = c }

    gained-gathered : is_gained p (operations_of p) loaded new entered m ≡ true → (is_among m called || is_among m waited) ≡ true
    gained-gathered h =
        let any = from-any (λ caller. is_among m (gained_in p loaded new (operations_of p caller))) entered h in
        let has = has-code any.item (code_at codes any.item) refl (booked any.item any.there) in
        let one = gain-from p loaded new (operations_of p any.item) m any.holds in
        let read : slice_get has.references one.index ≡ Some one.reference =
        ap (λ l. slice_get l one.index) (book.read any.item has.references has.there) ∙ one.there in
        is-gathered any.item one.index has.references one.reference any.there has.there read (gained-either p loaded new one.reference m one.within)

    -- ---- both

    abbrev before : Bool
    before = is_target p (operations_of p) loaded entered m

    gathered-or : (a b : Bool) → (a || b) ≡ true → (a ≡ true → is_target p (operations_of p) all entered m ≡ true)
        → (b ≡ true → is_target p (operations_of p) all entered m ≡ true) → is_target p (operations_of p) all entered m ≡ true
    gathered-or a b h first second = elim (or_cases a b h) [ inl x ↦ first x | inr y ↦ second y ]

    is-gathered-all : is_among m (methods_gathered p loaded new entered codes waiting calls uppers) ≡ (is_among m called || is_among m waited)
    is-gathered-all = among-append m called waited

    law : is_target p (operations_of p) all entered m ≡ (before || is_gained p (operations_of p) loaded new entered m)
    law = load-targets p (operations_of p) loaded new above fresh m entered

    pub load-step : is_target p (operations_of p) all entered m
        ≡ (is_target p (operations_of p) loaded entered m || is_among m (methods_gathered p loaded new entered codes waiting calls uppers))
    load-step =
        alike (is_target p (operations_of p) all entered m) (before || is_among m (methods_gathered p loaded new entered codes waiting calls uppers))
        (λ t. elim (or_cases before (is_gained p (operations_of p) loaded new entered m) (sym law ∙ t)) [
          | inl x ↦ or_left before (is_among m (methods_gathered p loaded new entered codes waiting calls uppers)) x
          | inr y ↦ or_right before (is_among m (methods_gathered p loaded new entered codes waiting calls uppers)) (is-gathered-all ∙ gained-gathered y)
        ])
        (λ t. gathered-or before (is_among m (methods_gathered p loaded new entered codes waiting calls uppers)) t
        (λ x. law ∙ or_left before (is_gained p (operations_of p) loaded new entered m) x)
        (λ y. gathered-or (is_among m called) (is_among m waited) (sym is-gathered-all ∙ y) from-called from-waiting))
