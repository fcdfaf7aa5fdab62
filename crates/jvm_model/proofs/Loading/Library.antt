-- The built-in classes stand each behind what it needs, and java/lang/Object has nothing above it and no method with
-- Code: computed over their class files, and so of every program that has them behind its own.
use Rattle.std.proofs.Common.{◌≡◌, ℕ, suc, ◌+◌, Bool, true, false, not, List, [], ◌∷◌, ◌++◌, length, map, Option, Some, None, slice_get, if◌then◌else◌, refl, sym, ap, subst, ◌∙◌, arith, length-append, inl, inr}
use Rattle.std.proofs.lemmas.Bool.{and_parts, cases_eq, ne_eqb, false≢true}
use Rattle.std.proofs.lemmas.List.{append_assoc}
use Rattle.std.proofs.lemmas.Slice.Eq.{bytes_eq-Decides}
use Rattle.std.specs.Prelude.{filter_map, is_some, unwrap_or, ◌==◌, ◌&&◌, ◌||◌, ◌⊎◌}
use Rattle.std.specs.List.{AllByRecursion, list_all, list_any}
use Rattle.std.specs.Option.{option_and_then, option_map_or, option_to_list}
use Rattle.std.proofs.lemmas.Option.{same_Some}
use Rattle.jf_bytes.proofs.Lists.{slice_get-after}
use Rattle.const_pool.specs.BuiltIn.{built_in_names}
use Rattle.const_pool.specs.References.{named_class}
use Rattle.const_pool.specs.declared.class.ClassFile.{ClassFile}
use Rattle.const_pool.specs.declared.class.Member.{Member}
use Rattle.base_classes.specs.BuiltInClasses.{built_in_classes}
use Rattle.base_classes.specs.BuiltInFiles.{built_in_files}
use Rattle.base_classes.specs.ObjectClasses.{object_classes}
use Rattle.base_classes.specs.TextClasses.{text_classes}
use Rattle.base_classes.specs.StreamClasses.{stream_classes}
use Rattle.base_classes.specs.ValueClasses.{value_classes}
use Rattle.base_classes.specs.ThrowableClasses.{throwable_classes}
use Rattle.base_classes.specs.Making.{entry_added, text_added, string_added, class_added, name_type_added, reference_added, instruction_added, code_from, code_added, attributes_added, member_added, members_from, superclass_added, interfaces_from, class_file_of}
use Rattle.jvm_model.specs.Basis.Data.{MethodPlace, Program}
use Rattle.jvm_model.specs.Basis.Descriptors.{same_text}
use Rattle.jvm_model.specs.Basis.KindNumbers.{user_count}
use Rattle.jvm_model.specs.Classes.Load.{Need, class_needs, is_among, need}
use Rattle.jvm_model.specs.Classes.Lookup.{interface_names}
use Rattle.jvm_model.specs.Basis.Methods.{code_of}
use Rattle.jvm_model.specs.Basis.Programs.{class_at, class_named, coded_from, has_built_in_name, name_of, number_from, methods_numbered, numbered_from}
use Rattle.jvm_model.specs.Basis.SharedState.{built_in_from, shared_before}
use Rattle.jvm_model.specs.Soundness.Sound.{IsFit, IsLoaded}
use Rattle.jvm_model.proofs.Soundness.Ranked.{AreInOrder}
use Rattle.jvm_model.proofs.Soundness.SoundClasses.{HasLoaded}
use Rattle.jvm_model.specs.Soundness.Climbing.{HasBareObject}
use Rattle.jvm_model.proofs.Loading.Among.{among-front, among-last}

-- ---- what is computed

abbrev pub names_above : ClassFile → List (List ℕ)
names_above c = option_to_list (named_class c.pool c.super_class) ++ interface_names c

abbrev pub is_seen : List (List ℕ) → List ℕ → Bool
is_seen seen name = list_any (same_text name) seen

abbrev pub own_text : ClassFile → List ℕ
own_text c = unwrap_or (name_of c) []

-- each has a built-in name, and names seen classes above itself
abbrev pub are_in_order : List (List ℕ) → List ClassFile → Bool
are_in_order seen [] = true
are_in_order seen (c ∷ rest) =
    ((is_some (name_of c) && has_built_in_name c) && list_all (is_seen seen) (names_above c)) && are_in_order (seen ++ own_text c ∷ []) rest

abbrev pub is_uncoded : Member → Bool
is_uncoded m = not (is_some (code_of m))

-- the first one has no superclass, no interfaces and no Code
abbrev pub starts_bare : List ClassFile → Bool
starts_bare [] = false
starts_bare (c ∷ rest) = (not (is_some (named_class c.pool c.super_class)) && list_all (λ (name : List ℕ). false) (interface_names c)) && list_all is_uncoded c.methods

files_in_order : are_in_order [] built_in_files ≡ true
unfolding built_in_classes object_classes text_classes stream_classes value_classes throwable_classes entry_added text_added string_added class_added name_type_added reference_added instruction_added code_from code_added attributes_added member_added members_from superclass_added interfaces_from class_file_of
files_in_order = refl

files_start_bare : starts_bare built_in_files ≡ true
unfolding built_in_classes object_classes text_classes stream_classes value_classes throwable_classes entry_added text_added string_added class_added name_type_added reference_added instruction_added code_from code_added attributes_added member_added members_from superclass_added interfaces_from class_file_of
files_start_bare = refl

files_counted : length built_in_files ≡ length built_in_names
unfolding built_in_classes object_classes text_classes stream_classes value_classes throwable_classes
files_counted = refl

-- ---- lists

get-last : {A : Type 0} (xs ys : List A) (y : A) → slice_get (xs ++ y ∷ ys) (length xs) ≡ Some y
get-last [] ys y = refl
get-last (x ∷ xs) ys y = get-last xs ys y

-- the positions from one on, as many as these
abbrev places_from : ℕ → List ClassFile → List ℕ
places_from at [] = []
places_from at (c ∷ rest) = at ∷ places_from (at + 1) rest

module _ (p : Program) (fit : IsFit p) (own : List ClassFile) (classes_are : p.classes ≡ own ++ built_in_files) (methods_are : p.methods ≡ methods_numbered p.classes)
    (free : AllByRecursion (λ c. has_built_in_name c ≡ false) own) where
  object-at : user_count p ≡ length own
  object-at =
      let whole : length p.classes ≡ length own + length built_in_files = ap length classes_are ∙ length-append own built_in_files in
      omega (arith, whole, files_counted)

  -- ---- the order

  -- what was seen is done
  abbrev Done : List (List ℕ) → List ℕ → Type 0
  Done seen done = (name : List ℕ) → is_seen seen name ≡ true → (class : ℕ) → class_named p name ≡ Some class → IsLoaded done class

  either-seen : (name text : List ℕ) (seen : List (List ℕ)) → is_seen (seen ++ text ∷ []) name ≡ true → (is_seen seen name ≡ true) ⊎ (name ≡ text)
  either-seen name text [] h = inr ((bytes_eq-Decides name text).0 (by (same_text name text) h))
    where
      by : (b : Bool) → (b || false) ≡ true → b ≡ true
      by true h = refl
      by false h = absurd (false≢true h)
  either-seen name text (x ∷ seen) h = by (same_text name x) h (either-seen name text seen)
    where
      by : (b : Bool) → (b || is_seen (seen ++ text ∷ []) name) ≡ true → (is_seen (seen ++ text ∷ []) name ≡ true → (is_seen seen name ≡ true) ⊎ (name ≡ text))
          → ((b || is_seen seen name) ≡ true) ⊎ (name ≡ text)
      by true h rest = inl refl
      by false h rest = rest h

  text-named : (c : ClassFile) (class : ℕ) → class_at p class ≡ Some c → is_some (name_of c) ≡ true → class_named p (own_text c) ≡ Some class
  text-named c class at named = by (name_of c) refl named
    where
      by : (o : Option (List ℕ)) → name_of c ≡ o → is_some o ≡ true → class_named p (unwrap_or o []) ≡ Some class
      by None e named = absurd (false≢true named)
      by (Some name) e named = fit.names class name (ap (option_and_then name_of) at ∙ e)

  seen-more : (seen : List (List ℕ)) (done : List ℕ) (c : ClassFile) (class : ℕ) → class_at p class ≡ Some c → is_some (name_of c) ≡ true → Done seen done
      → Done (seen ++ own_text c ∷ []) (done ++ class ∷ [])
  seen-more seen done c class at named was name h other found = choose (either-seen name (own_text c) seen h)
    where
      choose : (is_seen seen name ≡ true) ⊎ (name ≡ own_text c) → IsLoaded (done ++ class ∷ []) other
      choose (inl k) = among-front other done (class ∷ []) (was name k other found)
      choose (inr same) =
          let is : class ≡ other = same_Some class other (sym (text-named c class at named) ∙ (ap (class_named p) (sym same) ∙ found)) in
          subst (λ x. is_among x (done ++ class ∷ []) ≡ true) is (among-last class done)

  -- what a class needs is done
  needs-done : (seen : List (List ℕ)) (done : List ℕ) (interface : Bool) (names : List (List ℕ)) → Done seen done → list_all (is_seen seen) names ≡ true
      → AllByRecursion (HasLoaded p done) (map (need interface) names)
  needs-done seen done interface [] was h = tt
  needs-done seen done interface (name ∷ names) was h =
      let parts = and_parts (is_seen seen name) (list_all (is_seen seen) names) h in
      ((λ class found. was name parts.0 class found), needs-done seen done interface names was parts.1)

  all-front : (test : List ℕ → Bool) (xs ys : List (List ℕ)) → list_all test (xs ++ ys) ≡ true → (list_all test xs ≡ true) × (list_all test ys ≡ true)
  all-front test [] ys h = (refl, h)
  all-front test (x ∷ xs) ys h =
      let parts = and_parts (test x) (list_all test (xs ++ ys)) h in
      let rest = all-front test xs ys parts.1 in
      (and-from (test x) (list_all test xs) parts.0 rest.0, rest.1)
    where
      and-from : (a b : Bool) → a ≡ true → b ≡ true → (a && b) ≡ true
      and-from true b x y = y
      and-from false b x y = absurd (false≢true x)

  all-both : (xs ys : List Need) (P : Need → Type 0) → AllByRecursion P xs → AllByRecursion P ys → AllByRecursion P (xs ++ ys)
  all-both [] ys P first second = second
  all-both (x ∷ xs) ys P first second = (first.0, all-both xs ys P first.1 second)

  class-done : (seen : List (List ℕ)) (done : List ℕ) (c : ClassFile) → Done seen done → list_all (is_seen seen) (names_above c) ≡ true
      → AllByRecursion (HasLoaded p done) (class_needs c)
  class-done seen done c was h =
      let parts = all-front (is_seen seen) (option_to_list (named_class c.pool c.super_class)) (interface_names c) h in
      all-both (map (need false) (option_to_list (named_class c.pool c.super_class))) (map (need true) (interface_names c)) (HasLoaded p done)
      (needs-done seen done false (option_to_list (named_class c.pool c.super_class)) was parts.0) (needs-done seen done true (interface_names c) was parts.1)

  -- the rest of the built-in classes, behind these
  in-order : (front rest : List ClassFile) (seen : List (List ℕ)) (done : List ℕ) → built_in_files ≡ front ++ rest → Done seen done → are_in_order seen rest ≡ true
      → AreInOrder p done (places_from (length own + length front) rest)
  in-order front [] seen done is was h = tt
  in-order front (c ∷ rest) seen done is was h =
      let class = length own + length front in
      let outer = and_parts ((is_some (name_of c) && has_built_in_name c) && list_all (is_seen seen) (names_above c)) (are_in_order (seen ++ own_text c ∷ []) rest) h in
      let inner = and_parts (is_some (name_of c) && has_built_in_name c) (list_all (is_seen seen) (names_above c)) outer.0 in
      let named = (and_parts (is_some (name_of c)) (has_built_in_name c) inner.0).0 in
      let at : class_at p class ≡ Some c =
      ap (λ cs. slice_get cs class) (classes_are ∙ ap (λ l. own ++ l) is) ∙ (slice_get-after own (front ++ c ∷ rest) (length front) ∙ get-last front rest c) in
      let pushed : length (front ++ c ∷ []) ≡ length front + 1 = length-append front (c ∷ []) in
      let next : length own + length (front ++ c ∷ []) ≡ length own + length front + 1 = omega (arith, pushed) in (
        subst (λ o. AllByRecursion (HasLoaded p done) (option_map_or class_needs o [])) (sym at) (class-done seen done c was inner.1),
        subst (λ k. AreInOrder p (done ++ class ∷ []) (places_from k rest)) next
            (in-order (front ++ c ∷ []) rest (seen ++ own_text c ∷ []) (done ++ class ∷ []) (is ∙ sym (append_assoc front (c ∷ []) rest))
            (seen-more seen done c class at named was) outer.1),
      )

  -- their positions
  free-places : (at : ℕ) (cs : List ClassFile) → AllByRecursion (λ c. has_built_in_name c ≡ false) cs → (rest : List ClassFile)
      → built_in_from at (cs ++ rest) ≡ built_in_from (at + length cs) rest
  free-places at [] each rest = ap (λ k. built_in_from k rest) (let e : at ≡ at + 0 = omega arith in e)
  free-places at (c ∷ cs) each rest =
      ap (λ b. if b then at ∷ built_in_from (at + 1) (cs ++ rest) else built_in_from (at + 1) (cs ++ rest)) each.0
      ∙ (free-places (at + 1) cs each.1 rest ∙ ap (λ k. built_in_from k rest) (let e : at + 1 + length cs ≡ at + suc (length cs) = omega arith in e))

  built-places : (at : ℕ) (seen : List (List ℕ)) (cs : List ClassFile) → are_in_order seen cs ≡ true → built_in_from at cs ≡ places_from at cs
  built-places at seen [] h = refl
  built-places at seen (c ∷ cs) h =
      let outer = and_parts ((is_some (name_of c) && has_built_in_name c) && list_all (is_seen seen) (names_above c)) (are_in_order (seen ++ own_text c ∷ []) cs) h in
      let inner = and_parts (is_some (name_of c) && has_built_in_name c) (list_all (is_seen seen) (names_above c)) outer.0 in
      let known = (and_parts (is_some (name_of c)) (has_built_in_name c) inner.0).1 in
      ap (λ b. if b then at ∷ built_in_from (at + 1) cs else built_in_from (at + 1) cs) known ∙ ap (λ l. at ∷ l) (built-places (at + 1) (seen ++ own_text c ∷ []) cs outer.1)

  pub library-order : AreInOrder p [] (shared_before p).loaded
  library-order =
      subst (AreInOrder p [])
      (sym (ap (built_in_from 0) classes_are ∙ (free-places 0 own free built_in_files ∙ (built-places (0 + length own) [] built_in_files files_in_order
      ∙ ap (λ k. places_from k built_in_files) (let e : 0 + length own ≡ length own + 0 = omega arith in e)))))
      (in-order [] built_in_files [] [] refl (λ name h. absurd (false≢true h)) files_in_order)

  -- ---- java/lang/Object

  -- a number among methods of other classes
  skipped : (n class at other k : ℕ) (ms : List Member) (rest : List MethodPlace) → (other ≡ class → ⊥)
      → ((n : ℕ) → number_from n class at rest ≡ None) → number_from n class at (coded_from other k ms ++ rest) ≡ None
  skipped n class at other k [] rest ne none = none n
  skipped n class at other k (m ∷ ms) rest ne none = by (is_some (code_of m))
      (λ n. skipped n class at other (k + 1) ms rest ne none)
    where
      by : (b : Bool) → ((n : ℕ) → number_from n class at (coded_from other (k + 1) ms ++ rest) ≡ None)
          → number_from n class at ((if b then record { class = other; position = k } ∷ coded_from other (k + 1) ms else coded_from other (k + 1) ms) ++ rest) ≡ None
      by true more =
          ap (λ b. let o : Option ℕ = if b && (k == at) then Some n else number_from (n + 1) class at (coded_from other (k + 1) ms ++ rest) in o) (ne_eqb other class ne) ∙ more (n + 1)
      by false more = more n

  uncoded : (class k : ℕ) (ms : List Member) → list_all is_uncoded ms ≡ true → coded_from class k ms ≡ []
  uncoded class k [] h = refl
  uncoded class k (m ∷ ms) h =
      let parts = and_parts (is_uncoded m) (list_all is_uncoded ms) h in
      ap (λ b. if b then record { class = class; position = k } ∷ coded_from class (k + 1) ms else coded_from class (k + 1) ms) (none (is_some (code_of m)) parts.0)
      ∙ uncoded class (k + 1) ms parts.1
    where
      none : (b : Bool) → not b ≡ true → b ≡ false
      none false e = refl
      none true e = absurd (false≢true e)

  -- where the class at a position has no Code
  none-numbered : (class at : ℕ) (base : ℕ) (cs : List ClassFile) → ((k : ℕ) (c : ClassFile) → slice_get cs k ≡ Some c → base + k ≡ class → list_all is_uncoded c.methods ≡ true)
      → (n : ℕ) → number_from n class at (numbered_from base cs) ≡ None
  none-numbered class at base [] each n = refl
  none-numbered class at base (c ∷ cs) each n =
      let rest : (n : ℕ) → number_from n class at (numbered_from (base + 1) cs) ≡ None =
      none-numbered class at (base + 1) cs (λ k d found is. each (suc k) d found (omega (arith, is))) in
      elim (cases_eq base class) [
        | inl same ↦ ap (λ (l : List MethodPlace). number_from n class at (l ++ numbered_from (base + 1) cs)) (uncoded base 0 c.methods (each 0 c refl (omega (arith, same)))) ∙ rest n
        | inr other ↦ skipped n class at base 0 c.methods (numbered_from (base + 1) cs) other rest
      ]

  -- of the first built-in class
  module _ (object : ClassFile) (others : List ClassFile) (files : built_in_files ≡ object ∷ others) where
    object-there : class_at p (user_count p) ≡ Some object
    object-there =
        ap (class_at p) object-at
        ∙ (ap (λ cs. slice_get cs (length own)) (classes_are ∙ ap (λ l. own ++ l) files) ∙ get-last own others object)

    object-bare : starts_bare (object ∷ others) ≡ true
    object-bare = ap starts_bare (sym files) ∙ files_start_bare

    bare-parts : ((not (is_some (named_class object.pool object.super_class)) && list_all (λ (name : List ℕ). false) (interface_names object)) ≡ true) × (list_all is_uncoded object.methods ≡ true)
    bare-parts =
        and_parts (not (is_some (named_class object.pool object.super_class)) && list_all (λ (name : List ℕ). false) (interface_names object)) (list_all is_uncoded object.methods) object-bare

    bare-above : (not (is_some (named_class object.pool object.super_class)) ≡ true) × (list_all (λ (name : List ℕ). false) (interface_names object) ≡ true)
    bare-above =
        and_parts (not (is_some (named_class object.pool object.super_class))) (list_all (λ (name : List ℕ). false) (interface_names object)) bare-parts.0

    bare-by : HasBareObject p
    bare-by = record {
      superclass =
          ap (λ (o : Option ClassFile). option_to_list (option_and_then (class_named p) (option_and_then (λ (c : ClassFile). named_class c.pool c.super_class) o))) object-there
          ∙ supers (named_class object.pool object.super_class) bare-above.0;
      interfaces =
          ap (λ (o : Option ClassFile). filter_map (class_named p) (option_map_or interface_names o [])) object-there ∙ interfaces (interface_names object) bare-above.1;
      methods = λ at.
          ap (number_from 0 (user_count p) at) methods_are
          ∙ none-numbered (user_count p) at 0 p.classes
          (λ k c found is. subst (λ (d : ClassFile). list_all is_uncoded d.methods ≡ true)
          (same_Some object c (sym object-there ∙ (ap (class_at p) (let e : user_count p ≡ k = omega (arith, is) in e) ∙ found))) bare-parts.1) 0;
    } where
      supers : (o : Option (List ℕ)) → not (is_some o) ≡ true → option_to_list (option_and_then (class_named p) o) ≡ []
      supers None h = refl
      supers (Some name) h = absurd (false≢true h)

      interfaces : (names : List (List ℕ)) → list_all (λ (name : List ℕ). false) names ≡ true → filter_map (class_named p) names ≡ []
      interfaces [] h = refl
      interfaces (name ∷ names) h = absurd (false≢true h)

  pub library-bare : HasBareObject p
  library-bare = by built_in_files refl
    where
      by : (files : List ClassFile) → built_in_files ≡ files → HasBareObject p
      by [] is = absurd (false≢true (ap starts_bare (sym is) ∙ files_start_bare))
      by (object ∷ others) is = bare-by object others is
