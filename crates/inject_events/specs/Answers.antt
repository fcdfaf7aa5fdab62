-- What the functions of rewriting owe: what is asked of a class, and which answer comes.
use Rattle.std.specs.Prelude.{◌≡◌, ℕ, ◌<◌, ◌≤◌, Bool, true, false, ◌&&◌, ◌||◌, List, [], ◌∷◌, length, Option, Some, None, is_some, Result, Ok, Err, IfSome, slice_get}
use Rattle.const_pool.specs.declared.class.ClassFile.{ClassFile}
use Rattle.const_pool.specs.declared.class.CodeAttribute.{CodeAttribute}
use Rattle.const_pool.specs.declared.class.Member.{Member}
use Rattle.code_model.specs.declared.instr.Code.{Code}
use Rattle.code_model.specs.Instructions.{IsReading}
use Rattle.jvm_model.specs.declared.event.Mark.{Mark}
use Rattle.jvm_model.specs.Rewriting.Images.{is_off}
use Rattle.jvm_model.specs.Basis.Methods.{code_of}
use Rattle.inject_events.specs.declared.error.Cause.{Cause}
use Rattle.inject_events.specs.declared.error.InjectError.{InjectError}
use Rattle.inject_events.specs.declared.error.InjectError.TheVariants as inject
use Rattle.inject_events.specs.declared.error.NoVersion.{NoVersion}
use Rattle.inject_events.specs.declared.error.NoVersion.TheVariants as version
use Rattle.inject_events.specs.Rewriting.{Refused, refused_of, all_plain}

-- the instructions of a code can be read
pub record IsReadableCode (bytes : List ℕ) : Type 0 where
  pub some : 0 < length bytes
  pub short : length bytes ≤ 65535
  pub reading : Code
  pub reads : IsReading bytes reading

pub record IsReadableBody (code : CodeAttribute) : Type 0 where
  pub readable : IsReadableCode code.code
  pub handlers : length code.handlers ≤ 65535

abbrev pub HasReadableBody : Member → Type 0
HasReadableBody m = IfSome (code_of m) IsReadableBody

abbrev pub HaveReadableBodies : List Member → Type 0
HaveReadableBodies methods = (k : ℕ) (m : Member) → slice_get methods k ≡ Some m → HasReadableBody m

-- Each code of the class can be read.
pub record IsReadableClass (c : ClassFile) : Type 0 where
  pub few : length c.methods ≤ 65535
  pub bodies : HaveReadableBodies c.methods

-- each marked method has Code
abbrev pub MarkedHaveCode : List Mark → List Member → Type 0
MarkedHaveCode [] methods = Unit {0}
MarkedHaveCode (mark ∷ marks) [] = Unit {0}
MarkedHaveCode (mark ∷ marks) (m ∷ methods) = (is_off mark ≡ false → is_some (code_of m) ≡ true) × MarkedHaveCode marks methods

-- the same as a test
abbrev pub can_be_marked : Mark → Member → Bool
can_be_marked mark m = is_off mark || is_some (code_of m)

abbrev pub can_all_be_marked : List Mark → List Member → Bool
can_all_be_marked [] methods = true
can_all_be_marked (mark ∷ marks) [] = true
can_all_be_marked (mark ∷ marks) (m ∷ methods) = can_be_marked mark m && can_all_be_marked marks methods

-- what was made, unless a limit would be passed or memory ran out
abbrev pub IsVersionAnswer : {A : Type 0} → Result A NoVersion → Option Cause → A → Type 0
IsVersionAnswer (Ok made) cause wanted = (cause ≡ None) × (made ≡ wanted)
IsVersionAnswer (Err (version.Limit why)) cause wanted = cause ≡ Some why
IsVersionAnswer (Err version.NoMemory) cause wanted = Unit {0}

abbrev pub IsImageAnswer : {A : Type 0} → Result A InjectError → Option Refused → A → Type 0
IsImageAnswer (Ok made) refused wanted = (refused ≡ None) × (made ≡ wanted)
IsImageAnswer (Err (inject.NotProfilable position why)) refused wanted = refused ≡ Some (position, why)
IsImageAnswer (Err inject.NoMemory) refused wanted = Unit {0}

-- Each method that has Code could be rewritten, as admission asks of a class. The numbers of the methods and which
-- marks they have make no difference.
abbrev pub IsProfilable : ClassFile → Type 0
IsProfilable c = refused_of c 0 (all_plain c) ≡ None
