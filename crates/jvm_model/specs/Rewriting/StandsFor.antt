-- How a machine that runs rewritten classes stands for the run of the original ones: its states are the same but for
-- where the frames stand. A frame stands at the home of its offset, in the version of its method. And which calls are
-- probes, and the mark of a method.
use Rattle.std.specs.Prelude.{ℕ, List, Option, Some, None, unwrap_or, slice_get, codes, ◌==◌, if◌then◌else◌}
use Rattle.std.specs.Option.{option_and_then}
use Rattle.const_pool.specs.declared.class.ClassFile.{ClassFile}
use Rattle.const_pool.specs.References.{Reference, named_method}
use Rattle.code_model.specs.declared.instr.Instr.{Instr}
use Rattle.code_model.specs.declared.instr.Arg.{Arg}
use Rattle.code_model.specs.declared.instr.Arg.TheVariants.{Pool}
use Rattle.code_model.specs.declared.laying.Homes.{Homes}
use Rattle.code_model.specs.Layout.{home_by}
use Rattle.jvm_model.specs.declared.event.EventKind.{EventKind}
use Rattle.jvm_model.specs.declared.event.EventKind.TheVariants.{Root, Enter, Leave, Unwind}
use Rattle.jvm_model.specs.declared.event.Mark.{Mark}
use Rattle.jvm_model.specs.declared.event.Mark.TheVariants.{Off}
use Rattle.jvm_model.specs.Codes.Moved.{Moving}
use Rattle.jvm_model.specs.Instructions.Rules.{is_reference}

-- ---- frames by homes

-- where each method's original offsets stand: where it has no homes it is the original
abbrev pub homes_at : List (Option Homes) → ℕ → Option Homes
homes_at homes method = unwrap_or (slice_get homes method) None

abbrev pub home_at : List (Option Homes) → ℕ → ℕ → ℕ
home_at homes method at = home_by (homes_at homes method) at

-- each frame at its home, and each return address at its home; a method has one version, which has its number
abbrev pub by_homes : List (Option Homes) → Moving
by_homes homes = record { version = λ version. version; home = home_at homes }

-- ---- probes

-- which probe a method is
abbrev pub probe_kind : Reference → Option EventKind
probe_kind r =
    if is_reference (codes "jfluid/Probe") (codes "root") (codes "(I)V") r then Some Root
    else if is_reference (codes "jfluid/Probe") (codes "enter") (codes "(I)V") r then Some Enter
    else if is_reference (codes "jfluid/Probe") (codes "leave") (codes "(I)V") r then Some Leave
    else if is_reference (codes "jfluid/Probe") (codes "unwind") (codes "(I)V") r then Some Unwind
    else None

-- the kind of the probe that an instruction invokes
abbrev pub invoked_kind : ClassFile → ℕ → Arg → Option EventKind
invoked_kind image op (Pool index) = if op == 184 then option_and_then probe_kind (named_method image.pool index) else None
invoked_kind image op _ = None

abbrev pub invoked_probe : ClassFile → Instr → Option EventKind
invoked_probe image i = invoked_kind image i.op i.arg

-- ---- marks

abbrev pub mark_at : List Mark → ℕ → Mark
mark_at marks method = unwrap_or (slice_get marks method) Off
