-- What is computed over the whole table.
use Rattle.std.proofs.Common.{◌≡◌, true, refl, sym, ap, ◌∙◌, subst, map, List, [], ◌∷◌, length}
use Rattle.std.specs.Prelude.{IsTrue, nat_lt, ◌&&◌}
use Rattle.std.specs.List.{list_all, AllByRecursion}
use Rattle.std.proofs.lemmas.Bool.{and_parts, and_from, lt-ltb}
use Rattle.const_pool.specs.declared.class.ClassFile.{ClassFile}
use Rattle.const_pool.specs.ClassFile.{IsClassFile}
use Rattle.const_pool.specs.Pool.{has_gaps}
use Rattle.const_pool.proofs.Gaps.{has_gaps-from_pool}
use Rattle.base_classes.specs.Declarations.{ClassDeclaration}
use Rattle.base_classes.specs.BuiltInClasses.{built_in_classes, IsBare}
use Rattle.base_classes.specs.ObjectClasses.{object_classes}
use Rattle.base_classes.specs.TextClasses.{text_classes}
use Rattle.base_classes.specs.StreamClasses.{stream_classes}
use Rattle.base_classes.specs.ValueClasses.{value_classes}
use Rattle.base_classes.specs.ThrowableClasses.{throwable_classes}
use Rattle.base_classes.specs.Shown.{declaration_of}
use Rattle.base_classes.specs.Making.{entry_added, text_added, string_added, class_added, name_type_added, reference_added, instruction_added, code_from, code_added, attributes_added, member_added, members_from, superclass_added, interfaces_from, class_file_of, has_pool}
use Rattle.base_classes.proofs.WellFormed.{each, is_made, class_holds}

shown_back : map declaration_of (map class_file_of built_in_classes) ≡ built_in_classes
unfolding built_in_classes object_classes text_classes stream_classes value_classes throwable_classes entry_added text_added string_added class_added name_type_added reference_added instruction_added code_from code_added attributes_added member_added members_from superclass_added interfaces_from class_file_of
shown_back = refl

are_made : list_all is_made (map class_file_of built_in_classes) ≡ true
unfolding built_in_classes object_classes text_classes stream_classes value_classes throwable_classes entry_added text_added string_added class_added name_type_added reference_added instruction_added code_from code_added attributes_added member_added members_from superclass_added interfaces_from class_file_of is_made
are_made = refl

is_pool : (c : ClassFile) → is_made c ≡ true → (has_gaps c.pool && nat_lt (length c.pool) 65536) ≡ true
is_pool c h =
    let pool = (class_holds c h).0.pool in
    and_from (has_gaps c.pool) (nat_lt (length c.pool) 65536) (has_gaps-from_pool c.pool pool) (lt-ltb (length c.pool) 65536 pool.count)

have_pools : (ds : List ClassDeclaration) → list_all is_made (map class_file_of ds) ≡ true → list_all has_pool ds ≡ true
unfolding has_pool
have_pools [] h = refl
have_pools (d ∷ ds) h = let parts = and_parts _ _ h in and_from _ _ (is_pool (class_file_of d) parts.0) (have_pools ds parts.1)

pub all_have_pools : (ds : List ClassDeclaration) → ds ≡ built_in_classes → IsTrue (list_all has_pool ds)
all_have_pools ds is = subst (λ ds. IsTrue (list_all has_pool ds)) (sym is) (have_pools built_in_classes are_made)

-- ---- what holds of the class files that are made

pub all_declared : (classes : List ClassFile) → classes ≡ map class_file_of built_in_classes → map declaration_of classes ≡ built_in_classes
all_declared classes e = ap (map declaration_of) e ∙ shown_back

pub all_formed : (classes : List ClassFile) → classes ≡ map class_file_of built_in_classes → AllByRecursion IsClassFile classes
all_formed classes e = each is_made IsClassFile (λ c h. (class_holds c h).0) classes (subst (λ cs. list_all is_made cs ≡ true) (sym e) are_made)

pub all_bare : (classes : List ClassFile) → classes ≡ map class_file_of built_in_classes → AllByRecursion IsBare classes
all_bare classes e = each is_made IsBare (λ c h. (class_holds c h).1) classes (subst (λ cs. list_all is_made cs ≡ true) (sym e) are_made)
