-- Instructions as they are run (JVM Specification 6.5): the form that an instruction of a family has, and the rule of
-- that form.
use Rattle.std.specs.Prelude.{ℕ, Bool, true, false, Some}
use Rattle.heap_objects.specs.declared.datum.Datum.TheVariants as datum
use Rattle.heap_objects.specs.declared.Value.TheVariants.{Int}
use Rattle.const_pool.specs.declared.descriptor.Kind.{Kind}
use Rattle.const_pool.specs.declared.descriptor.Kind.TheVariants as kind
use Rattle.code_model.specs.declared.instr.Arg.{Arg}
use Rattle.code_model.specs.declared.instr.Arg.TheVariants as arg
use Rattle.jvm_model.specs.declared.family.Family.{Family}
use Rattle.jvm_model.specs.declared.family.Family.TheVariants as family
use Rattle.jvm_model.specs.declared.family.Test.{Test}
use Rattle.jvm_model.specs.declared.family.Test.TheVariants.{OfInts, WithZero, OfReferences, IsNull}
use Rattle.jvm_basic.specs.declared.hot.Hot.{Hot}
use Rattle.jvm_basic.specs.declared.hot.Hot.TheVariants as hot
use Rattle.jvm_basic.specs.Outcomes.{Rule, Leaves}
use Rattle.jvm_basic.specs.Rules.{gives, loads, stores, calculates, increments, branches, goes_to}

-- ---- the form

abbrev pub hot_load : Kind → ℕ → ℕ → Hot
hot_load kind.Int slot next = hot.LoadInt next slot
hot_load kind.Long slot next = hot.LoadLong next slot
hot_load kind.Ref slot next = hot.LoadReference next slot
hot_load _ slot next = hot.Cold

abbrev pub hot_store : Kind → ℕ → ℕ → Hot
hot_store kind.Int slot next = hot.StoreInt next slot
hot_store kind.Long slot next = hot.StoreLong next slot
hot_store kind.Ref slot next = hot.StoreReference next slot
hot_store _ slot next = hot.Cold

abbrev pub hot_branch : Test → ℕ → ℕ → Hot
hot_branch (OfInts comparison) target next = hot.IfInts next comparison target
hot_branch (WithZero comparison) target next = hot.IfZero next comparison target
hot_branch (OfReferences same) target next = hot.IfReferences next same target
hot_branch (IsNull null) target next = hot.IfNull next null target

-- an instruction of a family, with the place behind it
unfoldable pub hot_by : Family → Arg → ℕ → Hot
hot_by (family.Constant (datum.Int n)) a next = hot.Push next n
hot_by family.OperandConstant (arg.Value n) next = hot.Push next n
hot_by (family.Load k) (arg.Local slot) next = hot_load k slot next
hot_by (family.LoadFrom k slot) a next = hot_load k slot next
hot_by (family.Store k) (arg.Local slot) next = hot_store k slot next
hot_by (family.StoreTo k slot) a next = hot_store k slot next
hot_by (family.BinaryOfInts op) a next = hot.Calculate next op
hot_by family.Iinc (arg.Inc slot added) next = hot.Increment next slot added
hot_by (family.Branch test) (arg.Target target) next = hot_branch test target next
hot_by family.Goto (arg.Target target) next = hot.Goto target
hot_by _ _ next = hot.Cold

-- it is an element's, which no instruction is that sees its frame alone
abbrev pub is_element : Hot → Bool
is_element (hot.LoadElement k) = true
is_element (hot.StoreElement k) = true
is_element _ = false

-- ---- its rule

-- it sees its frame alone
abbrev pub is_alone : Hot → Bool
is_alone hot.Cold = false
is_alone (hot.LoadElement k) = false
is_alone (hot.StoreElement k) = false
is_alone _ = true

abbrev pub does_hot : Hot → Rule
does_hot (hot.Push next n) = gives (Some (Int n)) next
does_hot (hot.LoadInt next slot) = loads kind.Int (Some slot) next
does_hot (hot.LoadLong next slot) = loads kind.Long (Some slot) next
does_hot (hot.LoadReference next slot) = loads kind.Ref (Some slot) next
does_hot (hot.StoreInt next slot) = stores kind.Int (Some slot) next
does_hot (hot.StoreLong next slot) = stores kind.Long (Some slot) next
does_hot (hot.StoreReference next slot) = stores kind.Ref (Some slot) next
does_hot (hot.Calculate next op) = calculates op next
does_hot (hot.Increment next slot added) = increments (Some (slot, added)) next
does_hot (hot.IfInts next comparison target) = branches (OfInts comparison) (Some target) next
does_hot (hot.IfZero next comparison target) = branches (WithZero comparison) (Some target) next
does_hot (hot.IfReferences next same target) = branches (OfReferences same) (Some target) next
does_hot (hot.IfNull next null target) = branches (IsNull null) (Some target) next
does_hot (hot.Goto target) = goes_to (Some target)
does_hot _ = λ l o. Leaves
