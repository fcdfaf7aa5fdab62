-- A generated program has few methods: none of its classes, and none of the built-in ones, has more than a hundred.
use Rattle.std.proofs.Common.{◌≡◌, ℕ, suc, ◌+◌, ◌*◌, ◌≤◌, Bool, true, false, cond, List, [], ◌∷◌, ◌++◌, length, map, refl, ◌∙◌, subst, sym, length-append, arith}
use Rattle.std.specs.Prelude.{is_some, nat_le}
use Rattle.std.specs.List.{AllByRecursion, list_all}
use Rattle.std.proofs.lemmas.Bool.{leb-true, and_parts}
use Rattle.const_pool.specs.declared.class.ClassFile.{ClassFile}
use Rattle.const_pool.specs.declared.class.Member.{Member}
use Rattle.const_pool.specs.declared.pool.Const.{Const}
use Rattle.base_classes.specs.BuiltInClasses.{built_in_classes}
use Rattle.base_classes.specs.BuiltInFiles.{built_in_files}
use Rattle.base_classes.specs.Declarations.{ClassDeclaration, MemberDeclaration}
use Rattle.base_classes.specs.Making.{members_from, member_added, class_file_of}
use Rattle.base_classes.specs.ObjectClasses.{object_classes}
use Rattle.base_classes.specs.StreamClasses.{stream_classes}
use Rattle.base_classes.specs.TextClasses.{text_classes}
use Rattle.base_classes.specs.ThrowableClasses.{throwable_classes}
use Rattle.base_classes.specs.ValueClasses.{value_classes}
use Rattle.jvm_model.specs.Basis.Methods.{code_of}
use Rattle.jvm_model.specs.Basis.Programs.{coded_from, numbered_from}

abbrev pub HasFewMethods : ClassFile → Type 0
HasFewMethods c = length c.methods ≤ 100

coded-few : (class at : ℕ) (ms : List Member) → length (coded_from class at ms) ≤ length ms
coded-few class at [] = omega arith
coded-few class at (m ∷ ms) = by (is_some (code_of m)) (coded-few class (at + 1) ms)
  where
    by : (b : Bool) → length (coded_from class (at + 1) ms) ≤ length ms
        → length (cond b (record { class = class; position = at } ∷ coded_from class (at + 1) ms) (coded_from class (at + 1) ms)) ≤ suc (length ms)
    by true few = omega (arith, few)
    by false few = omega (arith, few)

pub numbered-few : (class : ℕ) (cs : List ClassFile) → AllByRecursion HasFewMethods cs → length (numbered_from class cs) ≤ 100 * length cs
numbered-few class [] few = omega arith
numbered-few class (c ∷ cs) few =
    let here = coded-few class 0 c.methods in
    let rest = numbered-few (class + 1) cs few.1 in
    let first = few.0 in
    omega (arith, here, rest, first, length-append (coded_from class 0 c.methods) (numbered_from (class + 1) cs))

-- ---- the built-in classes

members-count : (pool : List Const) (done : List Member) (ds : List MemberDeclaration) → length (members_from pool done ds).members ≡ length done + length ds
unfolding members_from
members-count pool done [] = omega arith
members-count pool done (d ∷ ds) =
    let made = member_added pool d in
    let rest = members-count made.pool (done ++ made.member ∷ []) ds in
    omega (arith, rest, length-append done (made.member ∷ []))

nothing-more : (n : ℕ) → 0 + n ≡ n
nothing-more n = omega arith

methods-count : (d : ClassDeclaration) → length (class_file_of d).methods ≡ length d.methods
unfolding class_file_of
methods-count d = members-count _ [] d.methods ∙ nothing-more (length d.methods)

abbrev declares_few : ClassDeclaration → Bool
declares_few d = nat_le (length d.methods) 100

files-few : (ds : List ClassDeclaration) → list_all declares_few ds ≡ true → AllByRecursion HasFewMethods (map class_file_of ds)
files-few [] few = tt
files-few (d ∷ ds) few =
    let parts = and_parts (declares_few d) (list_all declares_few ds) few in
    (subst (λ n. n ≤ 100) (sym (methods-count d)) (leb-true (length d.methods) 100 parts.0), files-few ds parts.1)

declared-few : list_all declares_few built_in_classes ≡ true
unfolding built_in_classes object_classes text_classes stream_classes value_classes throwable_classes
declared-few = refl

pub built_in-few : AllByRecursion HasFewMethods built_in_files
built_in-few = files-few built_in_classes declared-few

pub built_in-count : length built_in_files ≡ 53
unfolding built_in_classes object_classes text_classes stream_classes value_classes throwable_classes
built_in-count = refl
