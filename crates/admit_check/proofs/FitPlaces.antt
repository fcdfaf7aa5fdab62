-- What holds of the built-in class files together: each is found by its name, and what it names above itself stands
-- before it.
use Rattle.std.proofs.Common.{◌≡◌, ℕ, ◌+◌, Bool, true, false, List, [], ◌∷◌, length, position, slice_get, refl}
use Rattle.std.specs.Prelude.{is_some, nat_lt, not, ◌&&◌, ◌==◌}
use Rattle.std.specs.Bool.{beq}
use Rattle.std.specs.List.{list_all}
use Rattle.std.specs.Option.{option_map_or}
use Rattle.const_pool.specs.declared.class.ClassFile.{ClassFile}
use Rattle.const_pool.specs.BuiltIn.{built_in_names}
use Rattle.base_classes.specs.BuiltInClasses.{built_in_classes}
use Rattle.base_classes.specs.BuiltInFiles.{built_in_files}
use Rattle.base_classes.specs.ObjectClasses.{object_classes}
use Rattle.base_classes.specs.TextClasses.{text_classes}
use Rattle.base_classes.specs.StreamClasses.{stream_classes}
use Rattle.base_classes.specs.ValueClasses.{value_classes}
use Rattle.base_classes.specs.ThrowableClasses.{throwable_classes}
use Rattle.base_classes.specs.Making.{entry_added, text_added, string_added, class_added, name_type_added, reference_added, instruction_added, code_from, code_added, attributes_added, member_added, members_from, superclass_added, interfaces_from, class_file_of}
use Rattle.jvm_model.specs.Classes.Kinds.{is_array_name}
use Rattle.jvm_model.specs.Classes.Load.{Need, class_needs}
use Rattle.jvm_model.specs.Basis.Methods.{has_flag}
use Rattle.jvm_model.specs.Basis.Programs.{has_built_in_name, has_name, name_of}

-- the first of the files with this name stands here
abbrev pub is_first_at : List ClassFile → ℕ → List ℕ → Bool
is_first_at files at name = option_map_or (λ k. k == at) (position (has_name name) files) false

-- a name of its own, which is no array's
abbrev pub is_named_at : List ClassFile → ℕ → ClassFile → Bool
is_named_at files at c = has_built_in_name c && option_map_or (λ name. is_first_at files at name && not (is_array_name name)) (name_of c) false

abbrev pub is_as_needed : Need → ClassFile → Bool
is_as_needed n c = beq (has_flag 512 c.access) n.interface

-- what is needed stands before this place, and is an interface or none as it has to be
abbrev pub is_before : List ClassFile → ℕ → Need → Bool
is_before files at n =
    not (is_array_name n.name)
    && option_map_or (λ k. nat_lt k at && option_map_or (is_as_needed n) (slice_get files k) false) (position (has_name n.name) files) false

abbrev pub stands_at : List ClassFile → ℕ → ClassFile → Bool
stands_at files at c = is_named_at files at c && list_all (is_before files at) (class_needs c)

-- each of these, of which the first stands here
abbrev pub stand_from : List ClassFile → ℕ → List ClassFile → Bool
stand_from files at [] = true
stand_from files at (c ∷ rest) = stands_at files at c && stand_from files (at + 1) rest

pub record AreOrdered (files : List ClassFile) : Type 0 where
  pub count : length files ≡ 53
  pub standing : stand_from files 0 files ≡ true
  -- there is one for each of the names
  pub names : list_all (λ name. is_some (position (has_name name) files)) built_in_names ≡ true

pub files-ordered : AreOrdered built_in_files
unfolding built_in_classes object_classes text_classes stream_classes value_classes throwable_classes entry_added text_added string_added class_added name_type_added reference_added instruction_added code_from code_added attributes_added member_added members_from superclass_added interfaces_from class_file_of
files-ordered = record { count = refl; standing = refl; names = refl }
