-- A walk over the classes that keeps the names of those before.
use Rattle.std.proofs.Common.{◌≡◌, ℕ, ◌+◌, ◌<◌, Bool, false, List, [], ◌∷◌, ◌++◌, length, drop, get_or, Option, Some, None, refl, sym, ap, ◌∙◌}
use Rattle.std.specs.Prelude.{◌||◌, true, if◌then◌else◌}
use Rattle.std.specs.List.{cons_option, list_any}
use Rattle.std.specs.Option.{option_or, option_map_or}
use Rattle.std.proofs.lemmas.List.{append-nil, drop_more, length-append}
use Rattle.const_pool.specs.declared.class.ClassFile.{ClassFile}
use Rattle.jvm_model.specs.Basis.Descriptors.{same_text}
use Rattle.code_admission.specs.declared.error.AdmitError.{AdmitError}
use Rattle.code_admission.specs.declared.error.AdmitError.TheVariants.{ReservedName, Duplicate}
use Rattle.code_admission.specs.Checks.{fault_if, first_of}
use Rattle.admit_check.specs.Shapes.{has_same_name, is_reserved, own_name, same_named, shape_fault}
use Rattle.code_admission.specs.Codes.{codes_fault}
use Rattle.code_admission.specs.Floating.{floating_fault}
use Rattle.admit_check.specs.Profiling.{profiling_fault}
use Rattle.admit_check.specs.Admission.{class_fault, classes_fault}
use Rattle.admit_check.specs.Stages.{names_of, has_name_among, class_fault_among, classes_fault_among, with_name, with_name_of}

-- ---- an earlier class has the name

none_same : (earlier : List ClassFile) → list_any (λ other. same_named None (own_name other)) earlier ≡ false
none_same [] = refl
none_same (c ∷ rest) = none_same rest

one_more : (name : List ℕ) (o : Option (List ℕ)) (names : List (List ℕ)) (b : Bool) → b ≡ list_any (same_text name) names
    → (same_named (Some name) o || b) ≡ list_any (same_text name) (cons_option o names)
one_more name None names b e = e
one_more name (Some other) names b e = ap (λ b. same_text name other || b) e

some_same : (name : List ℕ) (earlier : List ClassFile) → list_any (λ other. same_named (Some name) (own_name other)) earlier ≡ list_any (same_text name) (names_of earlier)
some_same name [] = refl
some_same name (c ∷ rest) = one_more name (own_name c) (names_of rest) _ (some_same name rest)

same_among : (o : Option (List ℕ)) (earlier : List ClassFile)
    → list_any (λ other. same_named o (own_name other)) earlier ≡ option_map_or (λ name. list_any (same_text name) (names_of earlier)) o false
same_among None earlier = none_same earlier
same_among (Some name) earlier = some_same name earlier

name_among : (earlier : List ClassFile) (c : ClassFile) → list_any (has_same_name c) earlier ≡ has_name_among (names_of earlier) c
name_among earlier c = same_among (own_name c) earlier

-- ---- the fault of a class, and of all

fault_among : (earlier : List ClassFile) (k : ℕ) (c : ClassFile) → class_fault earlier k c ≡ class_fault_among (names_of earlier) k c
fault_among earlier k c =
    ap (λ b. first_of (first_of (fault_if (is_reserved c) (ReservedName k) ∷ fault_if b (Duplicate k) ∷ []) ∷ shape_fault k c ∷ codes_fault k c ∷ floating_fault k c ∷ profiling_fault k c ∷ []))
    (name_among earlier c)

option_behind : {A : Type 0} (o : Option A) (xs ys : List A) → cons_option o (xs ++ ys) ≡ cons_option o xs ++ ys
option_behind None xs ys = refl
option_behind (Some x) xs ys = refl

names_behind : (earlier : List ClassFile) (c : ClassFile) → names_of (earlier ++ c ∷ []) ≡ names_of earlier ++ names_of (c ∷ [])
names_behind [] c = refl
names_behind (first ∷ rest) c = ap (cons_option (own_name first)) (names_behind rest c) ∙ option_behind (own_name first) (names_of rest) (names_of (c ∷ []))

-- where there is no fault, no earlier class has the name, so that it goes last
is_new : (reserved named : Bool) (k : ℕ) (rest : Option AdmitError)
    → option_or (first_of (fault_if reserved (ReservedName k) ∷ fault_if named (Duplicate k) ∷ [])) rest ≡ None → named ≡ false
is_new true named k rest e = absurd cc
is_new false true k rest e = absurd cc
is_new false false k rest e = refl

name_last : (names : List (List ℕ)) (o : Option (List ℕ)) → option_map_or (λ name. list_any (same_text name) names) o false ≡ false
    → option_map_or (with_name names) o names ≡ names ++ cons_option o []
name_last names None e = sym (append-nil names)
name_last names (Some name) e = ap (λ (b : Bool). if b then names else names ++ name ∷ []) e

goes_last : (names : List (List ℕ)) (k : ℕ) (c : ClassFile) → class_fault_among names k c ≡ None → with_name_of names c ≡ names ++ names_of (c ∷ [])
goes_last names k c none = name_last names (own_name c) (is_new (is_reserved c) (has_name_among names c) k _ none)

without : {A : Type 0} (found : Option A) (x y : Option A) → (found ≡ None → x ≡ y) → option_or found x ≡ option_or found y
without None x y same = same refl
without (Some fault) x y same = refl

faults_among : (earlier cs : List ClassFile) → classes_fault earlier cs ≡ classes_fault_among (names_of earlier) (length earlier) cs
faults_among earlier [] = refl
faults_among earlier (c ∷ rest) =
    let k = length earlier in
    let names = names_of earlier in
    let behind = earlier ++ c ∷ [] in
    let more : class_fault_among names k c ≡ None → classes_fault behind rest ≡ classes_fault_among (with_name_of names c) (k + 1) rest =
    λ none. faults_among behind rest
    ∙ (ap (λ (names : List (List ℕ)). classes_fault_among names (length behind) rest) (names_behind earlier c ∙ sym (goes_last names k c none))
    ∙ ap (λ (k : ℕ). classes_fault_among (with_name_of names c) k rest) (length-append earlier (c ∷ []))) in
    ap (λ (f : Option AdmitError). option_or f (classes_fault behind rest)) (fault_among earlier k c)
    ∙ without (class_fault_among names k c) (classes_fault behind rest) (classes_fault_among (with_name_of names c) (k + 1) rest) more

pub by_names : (cs : List ClassFile) → classes_fault [] cs ≡ classes_fault_among [] 0 cs
by_names cs = faults_among [] cs

-- ---- one step of the walk

split : (cs : List ClassFile) (n : ℕ) (c : ClassFile) → n < length cs → c ≡ get_or cs n c → drop n cs ≡ c ∷ drop (n + 1) cs
split cs n c within at = drop_more cs n c within ∙ ap (λ (x : ClassFile). x ∷ drop (n + 1) cs) (sym at)

-- the class at this place decides, or those behind it do
step : (names : List (List ℕ)) (n : ℕ) (cs : List ClassFile) (c : ClassFile) (found : Option AdmitError) → n < length cs → c ≡ get_or cs n c
    → class_fault_among names n c ≡ found → classes_fault_among names n (drop n cs) ≡ classes_fault_among [] 0 cs
    → option_or found (classes_fault_among (with_name_of names c) (n + 1) (drop (n + 1) cs)) ≡ classes_fault_among [] 0 cs
step names n cs c found within at is walk =
    let behind = classes_fault_among (with_name_of names c) (n + 1) (drop (n + 1) cs) in
    sym (ap (λ (f : Option AdmitError). option_or f behind) is) ∙ (sym (ap (classes_fault_among names n) (split cs n c within at)) ∙ walk)

pub walk_found : (names : List (List ℕ)) (n : ℕ) (cs : List ClassFile) (c : ClassFile) (fault : AdmitError) → n < length cs → c ≡ get_or cs n c
    → class_fault_among names n c ≡ Some fault → classes_fault_among names n (drop n cs) ≡ classes_fault_among [] 0 cs → classes_fault [] cs ≡ Some fault
walk_found names n cs c fault within at is walk = by_names cs ∙ sym (step names n cs c (Some fault) within at is walk)

pub walk_next : (names more : List (List ℕ)) (n : ℕ) (cs : List ClassFile) (c : ClassFile) → n < length cs → c ≡ get_or cs n c
    → class_fault_among names n c ≡ None → more ≡ with_name_of names c → classes_fault_among names n (drop n cs) ≡ classes_fault_among [] 0 cs
    → classes_fault_among more (n + 1) (drop (n + 1) cs) ≡ classes_fault_among [] 0 cs
walk_next names more n cs c within at none is walk =
    ap (λ (names : List (List ℕ)). classes_fault_among names (n + 1) (drop (n + 1) cs)) is ∙ step names n cs c None within at none walk

pub walk_end : (names : List (List ℕ)) (n : ℕ) (cs : List ClassFile) → drop n cs ≡ [] → classes_fault_among names n (drop n cs) ≡ classes_fault_among [] 0 cs → classes_fault [] cs ≡ None
walk_end names n cs at walk = by_names cs ∙ (sym walk ∙ ap (classes_fault_among names n) at)
