-- The names of the class files behind a program's own are built-in ones.
use Rattle.std.proofs.Common.{◌≡◌, ℕ, true, false, Bool, List, [], ◌∷◌, map, Option, Some, None, refl, sym, ap, ◌∙◌}
use Rattle.std.specs.List.{list_any, list_all, AllByRecursion}
use Rattle.std.specs.Option.{option_map_or}
use Rattle.std.specs.Prelude.{unwrap_or}
use Rattle.std.proofs.lemmas.Bool.{and_parts}
use Rattle.const_pool.specs.declared.class.ClassFile.{ClassFile}
use Rattle.const_pool.specs.BuiltIn.{built_in_names}
use Rattle.base_classes.specs.BuiltInFiles.{built_in_files}
use Rattle.base_classes.specs.Declarations.{ClassDeclaration}
use Rattle.base_classes.specs.Shown.{class_at, declaration_of}
use Rattle.base_classes.proofs.Computed.{all_declared}
use Rattle.base_classes.proofs.NameLemmas.{names_are}
use Rattle.jvm_model.specs.Basis.Descriptors.{same_text}
use Rattle.jvm_model.specs.Basis.Programs.{name_of, has_built_in_name}

abbrev is_taken : List ℕ → Bool
is_taken name = list_any (same_text name) built_in_names

-- ---- their names are built-in ones

names-declared : (ks : List ClassFile) → map (λ d. d.name) (map declaration_of ks) ≡ map (λ k. class_at k.pool k.this_class) ks
names-declared [] = refl
names-declared (k ∷ ks) = ap (λ names. class_at k.pool k.this_class ∷ names) (names-declared ks)

names-shown : map (λ k. class_at k.pool k.this_class) built_in_files ≡ built_in_names
names-shown = sym (names-declared built_in_files) ∙ (ap (map (λ (d : ClassDeclaration). d.name)) (all_declared built_in_files refl) ∙ names_are)

all-taken : list_all is_taken built_in_names ≡ true
all-taken = refl

taken : (o : Option (List ℕ)) → is_taken (unwrap_or o []) ≡ true → option_map_or is_taken o false ≡ true
taken None e = e
taken (Some name) e = e

each-taken : (ks : List ClassFile) → list_all is_taken (map (λ k. class_at k.pool k.this_class) ks) ≡ true → AllByRecursion (λ k. has_built_in_name k ≡ true) ks
each-taken [] e = tt
each-taken (k ∷ ks) e = let parts = and_parts _ _ e in (taken (name_of k) parts.0, each-taken ks parts.1)

pub files-built_in : AllByRecursion (λ k. has_built_in_name k ≡ true) built_in_files
files-built_in = each-taken built_in_files (ap (list_all is_taken) names-shown ∙ all-taken)
