-- What is invoked of a method, kept by its number (JVM Specification 2.11.8, 4.6).
use Rattle.std.specs.Prelude.{◌≡◌, ℕ, false, Some, None, IsSome, nat_lt, slice_get}
use Rattle.std.specs.Option.{option_and_then}
use Rattle.base_classes.specs.Natives.{native_methods, native_number}
use Rattle.jvm_model.specs.declared.program.Program.{Program}
use Rattle.jvm_model.specs.Instructions.InvocationRules.{method_reference}
use Rattle.jvm_model.specs.Basis.KindNumbers.{user_count}
use Rattle.jvm_model.specs.Classes.Lookup.{MemberPlace}
use Rattle.jvm_model.specs.Basis.Programs.{number_of_method}
use Rattle.jvm_model.specs.Classes.Selection.{is_abstract}
use Rattle.member_selection.specs.declared.known.Callee.{Callee}
use Rattle.member_selection.specs.declared.known.Callee.TheVariants as callee
use Rattle.member_selection.specs.declared.known.Chosen.{Chosen}
use Rattle.member_selection.specs.Members.{at_place}

-- a method that has Code
pub record IsCode (p : Program) (m : MemberPlace) (n : ℕ) : Type 0 where
  pub concrete : is_abstract p m ≡ false
  pub numbered : number_of_method p m.class m.position ≡ Some n

-- a native method of a built-in class
pub record IsNative (p : Program) (m : MemberPlace) (n : ℕ) : Type 0 where
  pub concrete : is_abstract p m ≡ false
  pub codeless : number_of_method p m.class m.position ≡ None
  pub built_in : nat_lt m.class (user_count p) ≡ false
  pub named : option_and_then native_number (method_reference p m) ≡ Some n
  pub stands : IsSome (slice_get native_methods n)

abbrev pub IsCallee : Callee → Program → MemberPlace → Type 0
IsCallee (callee.Code n) p m = IsCode p m n
IsCallee (callee.Native n) p m = IsNative p m n
IsCallee callee.Other p m = Unit {0}

abbrev pub chosen_place : Chosen → MemberPlace
chosen_place m = at_place m.place

-- what is invoked of the method
abbrev pub HasCallee : Program → Chosen → Type 0
HasCallee p m = IsCallee m.callee p (chosen_place m)
