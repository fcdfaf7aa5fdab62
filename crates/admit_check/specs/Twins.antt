-- How the code finds members that agree: by texts that hold a name and a descriptor, each text once.
use Rattle.std.specs.Prelude.{ℕ, Bool, false, List, [], ◌∷◌, Option, Some, None, ◌||◌}
use Rattle.std.specs.List.{list_any}
use Rattle.std.specs.Option.{option_and_then, option_map}
use Rattle.const_pool.specs.declared.pool.Const.{Const}
use Rattle.const_pool.specs.declared.class.Member.{Member}
use Rattle.const_pool.specs.References.{named_text}
use Rattle.jvm_model.specs.Basis.Descriptors.{same_text}
use Rattle.admit_check.specs.Stages.{with_name}

-- a 0 before each unit of the name and a 1 before the descriptor, so that the text tells where the name ends
abbrev pub key_text : List ℕ → List ℕ → List ℕ
key_text [] descriptor = 1 ∷ descriptor
key_text (unit ∷ name) descriptor = 0 ∷ unit ∷ key_text name descriptor

abbrev pub member_key : List Const → Member → Option (List ℕ)
member_key pool m =
    option_and_then (λ name. option_map (key_text name) (named_text pool m.descriptor)) (named_text pool m.name)

abbrev pub has_key : List (List ℕ) → Option (List ℕ) → Bool
has_key keys None = false
has_key keys (Some key) = list_any (same_text key) keys

abbrev pub with_key : List (List ℕ) → Option (List ℕ) → List (List ℕ)
with_key keys None = keys
with_key keys (Some key) = with_name keys key

-- a key is there before
abbrev pub has_key_twice : List (List ℕ) → List (Option (List ℕ)) → Bool
has_key_twice keys [] = false
has_key_twice keys (key ∷ rest) = has_key keys key || has_key_twice (with_key keys key) rest
