-- The versions of a class's methods for an image of the class: where homes tell of a method the version that it has in
-- the image, else its original code.
use Rattle.std.specs.Prelude.{ℕ, ◌+◌, List, [], ◌∷◌, ◌++◌, length, slice_get, Option, Some}
use Rattle.std.specs.List.{AllByRecursion}
use Rattle.std.specs.List.Sorted.{IsStrictlyIncreasing}
use Rattle.std.specs.Option.{IfSome, option_and_then, option_flatten, option_map, option_map_or}
use Rattle.const_pool.specs.declared.class.ClassFile.{ClassFile}
use Rattle.const_pool.specs.declared.class.CodeAttribute.{CodeAttribute}
use Rattle.const_pool.specs.declared.class.Member.{Member}
use Rattle.code_model.specs.declared.laying.Homes.{Homes}
use Rattle.jvm_model.specs.declared.program.Program.{Program}
use Rattle.jvm_model.specs.Basis.Methods.{code_of, method_code}
use Rattle.jvm_model.specs.Basis.Programs.{class_at, number_of_method}
use Rattle.prepared_code.specs.Tables.{Version}
use Rattle.prepared_code.specs.Entries.{original_version}
use Rattle.prepared_code.specs.Prepared.{HasShortCodes}
use Rattle.prepared_code.specs.Rewritten.{rewritten_version}

-- ---- one method

-- a method with this original code and this number
abbrev pub version_by : Program → ℕ → ClassFile → CodeAttribute → Option Homes → Option CodeAttribute → Version
version_by p k image old (Some homes) (Some new) = rewritten_version k image new homes (length old.code)
version_by p k image old _ _ = original_version p k

-- at this position of its class
abbrev pub homes_at : List (Option Homes) → ℕ → Option Homes
homes_at homes at = option_flatten (slice_get homes at)

abbrev pub class_version : Program → ClassFile → List (Option Homes) → ℕ → CodeAttribute → ℕ → Version
class_version p image homes at old k = version_by p k image old (homes_at homes at) (method_code image at)

-- ---- all that have Code

abbrev pub alone : Option Version → List Version
alone x = option_map_or (λ version. version ∷ []) x []

abbrev pub member_version : Program → ℕ → ClassFile → List (Option Homes) → ℕ → Member → Option Version
member_version p class image homes at m =
    option_and_then (λ old. option_map (class_version p image homes at old) (number_of_method p class at)) (code_of m)

-- from this position on
abbrev pub versions_from : Program → ℕ → ClassFile → List (Option Homes) → ℕ → List Member → List Version
versions_from p class image homes at [] = []
versions_from p class image homes at (m ∷ rest) = alone (member_version p class image homes at m) ++ versions_from p class image homes (at + 1) rest

abbrev pub class_versions : Program → ℕ → ClassFile → List (Option Homes) → List Version
class_versions p class image homes = option_map_or (λ (c : ClassFile). versions_from p class image homes 0 c.methods) (class_at p class) []

-- ---- what that needs

abbrev pub AreRising : Homes → Type 0
AreRising homes = IsStrictlyIncreasing homes.from × IsStrictlyIncreasing homes.home

-- an image's codes are short, and its homes rise
pub record FitsImage (image : ClassFile) (homes : List (Option Homes)) : Type 0 where
  pub short : HasShortCodes image
  pub rising : AllByRecursion (λ (o : Option Homes). IfSome o AreRising) homes
