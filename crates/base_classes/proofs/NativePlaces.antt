-- The first place of a reference among the native methods is the one that is found in its class: no two classes have
-- the same name.
use Rattle.std.proofs.Common.{◌≡◌, ◌≢◌, ℕ, zero, suc, ◌+◌, Bool, true, false, cond, List, [], ◌∷◌, ◌++◌, map, filter, length, Option, Some, None, slice_get, refl, sym, ap, ◌∙◌, arith}
use Rattle.std.specs.List.{flat_map, position_from}
use Rattle.std.specs.Str.{bytes_eq}
use Rattle.std.proofs.lemmas.Bool.{and_parts}
use Rattle.std.proofs.lemmas.Slice.Eq.{bytes_eq-Decides}
use Rattle.const_pool.specs.References.{Reference}
use Rattle.const_pool.specs.BuiltIn.{built_in_names}
use Rattle.base_classes.specs.Declarations.{MemberDeclaration, ClassDeclaration}
use Rattle.base_classes.specs.BuiltInClasses.{built_in_classes}
use Rattle.base_classes.specs.Natives.{is_native, method_named, natives_of, native_methods, is_member, native_starts, is_reference, native_number}
use Rattle.base_classes.proofs.NameLemmas.{name_found}
use Rattle.base_classes.proofs.NativeLemmas.{position_found, is_named_by, start, stands}
use Rattle.base_classes.proofs.NativeNumbers.{starts_there}

-- ---- the first place in lists that follow one another

nowhere : {A : Type 0} (test : A → Bool) (xs : List A) (n : ℕ) → ((k : ℕ) (x : A) → slice_get xs k ≡ Some x → test x ≡ false)
    → position_from test n xs ≡ None
nowhere test [] n h = refl
nowhere test (x ∷ xs) n h = rw (h zero x refl) (nowhere test xs (n + 1) (λ k y at. h (suc k) y at))

-- nothing passes in the first list
behind : {A : Type 0} (test : A → Bool) (xs ys : List A) (n : ℕ) → ((k : ℕ) (x : A) → slice_get xs k ≡ Some x → test x ≡ false)
    → position_from test n (xs ++ ys) ≡ position_from test (n + length xs) ys
behind test [] ys n h = ap (λ (k : ℕ). position_from test k ys) (omega arith)
behind test (x ∷ xs) ys n h =
    rw (h zero x refl) (behind test xs ys (n + 1) (λ k y at. h (suc k) y at) ∙ ap (λ (k : ℕ). position_from test k ys) (omega arith))

-- nothing passes in the second list
in_front : {A : Type 0} (test : A → Bool) (xs ys : List A) (n : ℕ) → ((k : ℕ) (x : A) → slice_get ys k ≡ Some x → test x ≡ false)
    → position_from test n (xs ++ ys) ≡ position_from test n xs
in_front test [] ys n h = nowhere test ys n h
in_front test (x ∷ xs) ys n h = ap (λ (o : Option ℕ). cond (test x) (Some n) o) (in_front test xs ys (n + 1) h)

-- ---- the native methods of a class

text_is : (text : List ℕ) → bytes_eq text text ≡ true
text_is text = (bytes_eq-Decides text text).1 refl

-- a class's native methods are sought by name and descriptor alone
by_member : (class name descriptor : List ℕ) (ms : List MemberDeclaration) (n : ℕ)
    → position_from (is_reference (method_named class name descriptor)) n (map (λ m. method_named class m.name m.descriptor) ms) ≡ position_from (is_member name descriptor) n ms
by_member class name descriptor [] n = refl
by_member class name descriptor (m ∷ ms) n =
    rw (text_is class) (ap (λ (o : Option ℕ). cond (is_member name descriptor m) (Some n) o) (by_member class name descriptor ms (n + 1)))

-- those of a class of another name are others
is_other : (sought r : Reference) (class : List ℕ) → r.class ≡ class → class ≢ sought.class → is_reference sought r ≡ false
is_other sought r class is differs = by_test (is_reference sought r) refl
  where
    by_test : (b : Bool) → is_reference sought r ≡ b → is_reference sought r ≡ false
    by_test false same = same
    by_test true passes =
        let same : sought.class ≡ r.class = (bytes_eq-Decides sought.class r.class).0 (and_parts _ _ passes).0 in
        absurd (differs (sym is ∙ sym same))

others_of_class : (sought : Reference) (d : ClassDeclaration) → d.name ≢ sought.class
    → (k : ℕ) (r : Reference) → slice_get (natives_of d) k ≡ Some r → is_reference sought r ≡ false
others_of_class sought d differs k r at =
    let by = is_named_by d k r at in is_other sought r d.name (ap (λ (r : Reference). r.class) by.is) differs

others : (sought : Reference) (ds : List ClassDeclaration) → ((k : ℕ) (d : ClassDeclaration) → slice_get ds k ≡ Some d → d.name ≢ sought.class)
    → (k : ℕ) (r : Reference) → slice_get (flat_map natives_of ds) k ≡ Some r → is_reference sought r ≡ false
others sought ds differ k r at =
    let s = stands ds k r at in others_of_class sought s.class (differ s.place s.class s.class_at) s.within r s.at

-- ---- and of all classes

first_place : (ds : List ClassDeclaration) (p : ℕ) (d : ClassDeclaration) (name descriptor : List ℕ) (n : ℕ) → slice_get ds p ≡ Some d
    → ((k : ℕ) (e : ClassDeclaration) → slice_get ds k ≡ Some e → e.name ≡ d.name → k ≡ p)
    → position_from (is_reference (method_named d.name name descriptor)) n (flat_map natives_of ds)
    ≡ position_from (is_member name descriptor) (n + start ds p) (filter is_native d.methods)
first_place [] p d name descriptor n at only = absurd cc
first_place (e ∷ ds) zero d name descriptor n at only =
    let same : d ≡ e = cc in
    let apart : (k : ℕ) (c : ClassDeclaration) → slice_get ds k ≡ Some c → c.name ≢ d.name =
    λ k c there is. let wrong : suc k ≡ zero = only (suc k) c there is in absurd cc in
    in_front (is_reference (method_named d.name name descriptor)) (natives_of e) (flat_map natives_of ds) n (others (method_named d.name name descriptor) ds apart)
    ∙ ap (λ (c : ClassDeclaration). position_from (is_reference (method_named d.name name descriptor)) n (natives_of c)) (sym same)
    ∙ by_member d.name name descriptor (filter is_native d.methods) n
    ∙ ap (λ (k : ℕ). position_from (is_member name descriptor) k (filter is_native d.methods)) (omega arith)
first_place (e ∷ ds) (suc p) d name descriptor n at only =
    let apart : e.name ≢ d.name = λ is. let wrong : zero ≡ suc p = only zero e refl is in absurd cc in
    let later : (k : ℕ) (c : ClassDeclaration) → slice_get ds k ≡ Some c → c.name ≡ d.name → k ≡ p =
    λ k c there is. let both : suc k ≡ suc p = only (suc k) c there is in omega arith in
    behind (is_reference (method_named d.name name descriptor)) (natives_of e) (flat_map natives_of ds) n (others_of_class (method_named d.name name descriptor) e apart)
    ∙ first_place ds p d name descriptor (n + length (natives_of e)) at later
    ∙ ap (λ (k : ℕ). position_from (is_member name descriptor) k (filter is_native d.methods)) (omega arith)

-- what is found in the class of the name is the number
pub number_found : (place first : ℕ) (d : ClassDeclaration) (class name descriptor : List ℕ)
    → Some d ≡ slice_get built_in_classes place → Some first ≡ slice_get native_starts place → slice_get built_in_names place ≡ Some class
    → ((p : ℕ) → slice_get built_in_names p ≡ Some class → Some place ≡ Some p)
    → position_from (is_member name descriptor) first (filter is_native d.methods) ≡ native_number (method_named class name descriptor)
unfolding native_methods
number_found place first d class name descriptor at start_is class_is only =
    let its_class : d.name ≡ class = let e : Some d.name ≡ Some class = name_found place d at ∙ class_is in cc in
    let its_start : first ≡ 0 + start built_in_classes place = let e : Some first ≡ Some (0 + start built_in_classes place) = start_is ∙ starts_there place d at in cc in
    let alone : (k : ℕ) (e : ClassDeclaration) → slice_get built_in_classes k ≡ Some e → e.name ≡ d.name → k ≡ place =
    λ k e there is.
    let same = only k (sym (name_found k e (sym there)) ∙ ap (λ (t : List ℕ). Some t) (is ∙ its_class)) in cc in
    ap (λ (k : ℕ). position_from (is_member name descriptor) k (filter is_native d.methods)) its_start
    ∙ sym (first_place built_in_classes place d name descriptor 0 (sym at) alone)
    ∙ ap (λ (c : List ℕ). position_from (is_reference (method_named c name descriptor)) 0 (flat_map natives_of built_in_classes)) its_class

-- a class that has no place has no number
pub no_number : (class name descriptor : List ℕ) → ((p : ℕ) → slice_get built_in_names p ≡ Some class → ⊥)
    → None ≡ native_number (method_named class name descriptor)
unfolding native_methods
no_number class name descriptor nowhere_there =
    let differ : (k : ℕ) (d : ClassDeclaration) → slice_get built_in_classes k ≡ Some d → d.name ≢ class =
    λ k d there is. nowhere_there k (sym (name_found k d (sym there)) ∙ ap (λ (t : List ℕ). Some t) is) in
    sym (nowhere (is_reference (method_named class name descriptor)) (flat_map natives_of built_in_classes) 0 (others (method_named class name descriptor) built_in_classes differ))

-- ---- what a number says

is_same : (sought r : Reference) → is_reference sought r ≡ true → sought ≡ r
is_same sought r passes =
    let parts = and_parts _ _ passes in
    let members = and_parts _ _ parts.1 in
    let class_is : sought.class ≡ r.class = (bytes_eq-Decides _ _).0 parts.0 in
    let name_is : sought.member.name ≡ r.member.name = (bytes_eq-Decides _ _).0 members.0 in
    let descriptor_is : sought.member.descriptor ≡ r.member.descriptor = (bytes_eq-Decides _ _).0 members.1 in
    let same : method_named sought.class sought.member.name sought.member.descriptor ≡ method_named r.class r.member.name r.member.descriptor = cc in
    same

-- it is a place of the reference among the native methods
pub stands_at : (r : Reference) (n : ℕ) → native_number r ≡ Some n → slice_get native_methods n ≡ Some r
stands_at r n h =
    let found = position_found (is_reference r) native_methods 0 n h in
    let number : n ≡ found.place = found.number ∙ omega arith in
    ap (slice_get native_methods) number ∙ found.at ∙ ap (λ (r : Reference). Some r) (sym (is_same r found.item found.passed))
