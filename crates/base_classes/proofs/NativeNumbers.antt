-- The numbers of the native methods of the built-in classes.
use Rattle.std.proofs.Common.{◌≡◌, ◌≢◌, ℕ, ◌+◌, ◌<◌, true, List, filter, length, Option, Some, None, IfSome, IfNone, slice_get, refl, sym, ap, subst, ◌∙◌, arith}
use Rattle.std.specs.List.{flat_map, position_from}
use Rattle.std.proofs.lemmas.Bool.{and_parts, and_from}
use Rattle.std.proofs.lemmas.Slice.Eq.{bytes_eq-Decides}
use Rattle.const_pool.specs.References.{Reference}
use Rattle.const_pool.specs.BuiltIn.{built_in_names}
use Rattle.base_classes.specs.Declarations.{MemberDeclaration, ClassDeclaration}
use Rattle.base_classes.specs.BuiltInClasses.{built_in_classes}
use Rattle.base_classes.specs.ObjectClasses.{object_classes}
use Rattle.base_classes.specs.TextClasses.{text_classes}
use Rattle.base_classes.specs.StreamClasses.{stream_classes}
use Rattle.base_classes.specs.ValueClasses.{value_classes}
use Rattle.base_classes.specs.ThrowableClasses.{throwable_classes}
use Rattle.base_classes.specs.Natives.{is_native, method_named, natives_of, native_methods, is_member, native_starts}
use Rattle.base_classes.proofs.NameLemmas.{name_found}
use Rattle.std.proofs.lemmas.Option.{slice_get-map}
use Rattle.base_classes.proofs.NativeLemmas.{position_found, position_missed, is_named_by, start, has_start, number_at, stands, fits_from, fit_at}

-- what a find gave, by cases
pub if_some : {A : Type 0} (o : Option A) (P : A → Type 0) → ((x : A) → o ≡ Some x → P x) → IfSome o P
if_some (Some x) P h = h x refl
if_some None P h = tt

pub if_none : {A : Type 0} (o : Option A) (P : Type 0) → (o ≡ None → P) → IfNone o P
if_none (Some x) P h = tt
if_none None P h = h refl

starts_fit : fits_from 0 built_in_classes ≡ true
unfolding built_in_classes object_classes text_classes stream_classes value_classes throwable_classes
starts_fit = refl

pub numbers_fit : (place first : ℕ) (d : ClassDeclaration) → Some d ≡ slice_get built_in_classes place → Some first ≡ slice_get native_starts place
    → first + length d.methods < 65536
unfolding native_starts
numbers_fit place first d at start_is = fit_at 0 built_in_classes place first d starts_fit (sym at) (sym start_is)

-- each class has a start
pub starts_there : (place : ℕ) (d : ClassDeclaration) → Some d ≡ slice_get built_in_classes place → slice_get native_starts place ≡ Some (0 + start built_in_classes place)
unfolding native_starts
starts_there place d at = has_start 0 built_in_classes place d (sym at)

member_is : (name descriptor : List ℕ) (m : MemberDeclaration) → is_member name descriptor m ≡ true → (name ≡ m.name) × (descriptor ≡ m.descriptor)
member_is name descriptor m h =
    let parts = and_parts _ _ h in
    ((bytes_eq-Decides name m.name).0 parts.0, (bytes_eq-Decides descriptor m.descriptor).0 parts.1)

-- the number that is found is that of this native method
pub native_found : (place first : ℕ) (d : ClassDeclaration) (class name descriptor : List ℕ) (n : ℕ)
    → Some d ≡ slice_get built_in_classes place → Some first ≡ slice_get native_starts place → slice_get built_in_names place ≡ Some class
    → position_from (is_member name descriptor) first (filter is_native d.methods) ≡ Some n
    → slice_get native_methods n ≡ Some (method_named class name descriptor)
unfolding native_methods
native_found place first d class name descriptor n at start_is class_is h =
    let found = position_found (is_member name descriptor) (filter is_native d.methods) first n h in
    let m = found.item in
    let is = member_is name descriptor m found.passed in
    let its_class : d.name ≡ class = let e : Some d.name ≡ Some class = name_found place d at ∙ class_is in cc in
    let its_start : first ≡ 0 + start built_in_classes place = let e : Some first ≡ Some (0 + start built_in_classes place) = start_is ∙ starts_there place d at in cc in
    let within : slice_get (natives_of d) found.place ≡ Some (method_named d.name m.name m.descriptor) = slice_get-map (λ m. method_named d.name m.name m.descriptor) (filter is_native d.methods) found.place ∙ rw found.at refl in
    let there = number_at built_in_classes place d found.place (method_named d.name m.name m.descriptor) (sym at) within in
    let number : n ≡ start built_in_classes place + found.place =
    found.number ∙ ap (λ (k : ℕ). k + found.place) (its_start ∙ (let z : 0 + start built_in_classes place ≡ start built_in_classes place = omega arith in z)) in
    let names : method_named d.name m.name m.descriptor ≡ method_named class name descriptor = cc in
    ap (slice_get (flat_map natives_of built_in_classes)) number ∙ there ∙ ap (λ (r : Reference). Some r) names

-- a class that has no place has no native method
pub none_without_class : (class name descriptor : List ℕ) → ((p : ℕ) → slice_get built_in_names p ≡ Some class → ⊥)
    → (n : ℕ) → slice_get native_methods n ≢ Some (method_named class name descriptor)
unfolding native_methods
none_without_class class name descriptor nowhere n h =
    let s = stands built_in_classes n (method_named class name descriptor) h in
    let by = is_named_by s.class s.within (method_named class name descriptor) s.at in
    let its_class : s.class.name ≡ class = sym (ap (λ (r : Reference). r.class) by.is) in
    nowhere s.place (sym (name_found s.place s.class (sym s.class_at)) ∙ ap (λ (t : List ℕ). Some t) its_class)

-- where the class's search finds none, there is none
pub native_missed : (place first : ℕ) (d : ClassDeclaration) (class name descriptor : List ℕ)
    → Some d ≡ slice_get built_in_classes place → ((p : ℕ) → slice_get built_in_names p ≡ Some class → Some place ≡ Some p)
    → position_from (is_member name descriptor) first (filter is_native d.methods) ≡ None
    → (n : ℕ) → slice_get native_methods n ≢ Some (method_named class name descriptor)
unfolding native_methods
native_missed place first d class name descriptor at only h n there =
    let s = stands built_in_classes n (method_named class name descriptor) there in
    let by = is_named_by s.class s.within (method_named class name descriptor) s.at in
    let m = by.method in
    let its_class : s.class.name ≡ class = sym (ap (λ (r : Reference). r.class) by.is) in
    let same_place = only s.place (sym (name_found s.place s.class (sym s.class_at)) ∙ ap (λ (t : List ℕ). Some t) its_class) in
    let places : s.place ≡ place = cc in
    let same : s.class ≡ d = let e : Some s.class ≡ Some d = sym s.class_at ∙ ap (slice_get built_in_classes) places ∙ sym at in cc in
    let found : slice_get (filter is_native d.methods) s.within ≡ Some m = subst (λ c. slice_get (filter is_native c.methods) s.within ≡ Some m) same by.at in
    let its_name : name ≡ m.name = ap (λ (r : Reference). r.member.name) by.is in
    let its_descriptor : descriptor ≡ m.descriptor = ap (λ (r : Reference). r.member.descriptor) by.is in
    let passes : is_member name descriptor m ≡ true = and_from _ _ ((bytes_eq-Decides name m.name).1 its_name) ((bytes_eq-Decides descriptor m.descriptor).1 its_descriptor) in
    let fails = position_missed (is_member name descriptor) (filter is_native d.methods) first h s.within m found in
    cc
