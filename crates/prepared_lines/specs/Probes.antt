-- Whose probes rewritten code has.
use Rattle.std.specs.Prelude.{ℕ, List}
use Rattle.std.specs.Option.{option_and_then, option_map_or}
use Rattle.const_pool.specs.declared.class.ClassFile.{ClassFile}
use Rattle.code_model.specs.Instructions.{instruction_at}
use Rattle.jvm_model.specs.declared.event.EventKind.{EventKind}
use Rattle.jvm_model.specs.declared.event.EventKind.TheVariants as kind
use Rattle.jvm_model.specs.declared.event.Mark.{Mark}
use Rattle.jvm_model.specs.declared.event.Mark.TheVariants.{Off, Plain, Root}
use Rattle.jvm_model.specs.Rewriting.StandsFor.{invoked_probe}

-- whose entry probe is of this kind
abbrev pub mark_of_kind : EventKind → Mark
mark_of_kind kind.Root = Root
mark_of_kind kind.Enter = Plain
mark_of_kind kind.Leave = Off
mark_of_kind kind.Unwind = Off

-- The probe at a code's entry tells: it invokes a method behind sipush, which has three bytes.
abbrev pub entry_mark : ClassFile → List ℕ → Mark
entry_mark image code = option_map_or mark_of_kind (option_and_then (invoked_probe image) (instruction_at code 3)) Off
