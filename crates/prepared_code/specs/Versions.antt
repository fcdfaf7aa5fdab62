-- The code that is run: versions of methods, each with what stands at its places, and the version that each method
-- begins in. Original code is the case in which a method has one version, and its places are its offsets.
use Rattle.std.specs.Prelude.{◌≡◌, ℕ, ◌-◌, ◌+◌, List, [], length, map, max, slice_get, unwrap_or, Bool, true, false, Option, Some, None, if◌then◌else◌}
use Rattle.std.specs.Option.{IfSome, option_and_then, option_flatten, option_map, option_map_or}
use Rattle.method_versions.specs.Tables.{current_in}
use Rattle.jvm_model.specs.declared.event.Mark.{Mark}
use Rattle.jvm_model.specs.declared.event.Mark.TheVariants.{Off}
use Rattle.jvm_model.specs.Basis.Data.{Catcher, Instruction, Listing, World}
use Rattle.jvm_model.specs.declared.instruction.Local.{Local}
use Rattle.jvm_model.specs.declared.instruction.Local.TheVariants.{Nop, Return}
use Rattle.jvm_model.specs.declared.instruction.Operation.{Operation}
use Rattle.jvm_model.specs.declared.instruction.Operation.TheVariants.{Within, Named, Athrow, Monitor, Newarray, Arraylength, LoadElement, StoreElement, LdcString}
use Rattle.jvm_model.specs.declared.instruction.Operation.TheVariants as operation
use Rattle.jvm_model.specs.Basis.Families.{family_of}
use Rattle.jvm_model.specs.Codes.Lines.{local_of, next_of, targets_of}
use Rattle.jvm_model.specs.declared.family.Family.{Family}
use Rattle.jvm_model.specs.declared.family.Family.TheVariants as family
use Rattle.jvm_basic.specs.Rules.{datum_in}
use Rattle.member_selection.specs.Objects.{HasDimensions}
use Rattle.prepared_code.specs.Lines.{IfNamedBy}
use Rattle.prepared_lines.specs.Lines.{hot_in}
use Rattle.prepared_lines.specs.declared.line.LocalAction.{LocalAction}
use Rattle.prepared_lines.specs.declared.line.LocalAction.TheVariants as local_action
use Rattle.prepared_lines.specs.declared.line.Line.{Line}
use Rattle.prepared_code.specs.declared.versions.Catching.{Catching}
use Rattle.prepared_code.specs.Tables.{Version, Versions, version_at}

-- ---- what is run

-- A program on an input, with the versions of its methods.
pub record Setup : Type 0 where
  pub world : World
  pub versions : Versions

-- ---- look-ups

abbrev pub line_in : ℕ → Version → Option Line
line_in place x = option_flatten (slice_get x.prepared.lines place)

-- at a place of a version
abbrev pub line_at : Versions → ℕ → ℕ → Option Line
line_at v version place = option_and_then (line_in place) (version_at v version)

-- a line keeps the family of its instruction, and what it does as it is run
pub record IsPreparedLine (l : Line) : Type 0 where
  pub family : l.family ≡ family_of l.instr.op
  pub hot : l.hot ≡ hot_in l.operation (family_of l.instr.op) l.instr.arg l.next

-- each line does, and the array's type that it names has the dimensions that it needs
pub record HasLines (v : Versions) : Type 0 where
  pub prepared : (version place : ℕ) → IfSome (line_at v version place) IsPreparedLine
  pub dimensions : (version place : ℕ) → IfSome (line_at v version place) (λ (l : Line). IfNamedBy l.operation l.next (λ n next. HasDimensions n))

-- each line of the version does
abbrev pub ArePrepared : Version → Type 0
ArePrepared x = (place : ℕ) → IfSome (line_in place x) IsPreparedLine

-- the same of one version
pub record HasOwnLines (x : Version) : Type 0 where
  pub prepared : ArePrepared x
  pub dimensions : (place : ℕ) → IfSome (line_in place x) (λ (l : Line). IfNamedBy l.operation l.next (λ n next. HasDimensions n))

-- The version in which a method begins. One that is none of the program's begins in a version that none is.
abbrev pub current_of : Versions → ℕ → ℕ
current_of v method = unwrap_or (current_in v.current method) (4294967296 + method)

-- The method that a version is of. One that is not held is of none of the program's, and each of these has its own.
abbrev pub method_of : Versions → ℕ → ℕ
method_of v version = option_map_or (λ (x : Version). x.method) (version_at v version) (max (version - 4294967296) (length v.current))

-- whose probes a version has: none where it is not held
abbrev pub mark_of : Versions → ℕ → Mark
mark_of v version = option_map_or (λ (x : Version). x.prepared.mark) (version_at v version) Off

-- where a version begins
abbrev pub first_of : Versions → ℕ → ℕ
first_of v version = option_map_or (λ (x : Version). x.prepared.first) (version_at v version) 0

-- ---- where a frame goes on behind its line

-- control never goes on behind these families (6.5)
abbrev pub is_last_family : Family → Bool
is_last_family family.Goto = true
is_last_family family.Switch = true
is_last_family family.Ret = true
is_last_family (family.Return k) = true
is_last_family _ = false

-- nor behind athrow
abbrev pub is_athrow : Operation LocalAction → Bool
is_athrow operation.Athrow = true
is_athrow _ = false

abbrev pub next_in : Line → Option ℕ
next_in line =
    if is_athrow line.operation then None
    else if is_last_family (family_of line.instr.op) then None else Some line.next

-- ---- the instruction that a line is

abbrev pub local_in : Line → Local
local_in line = unwrap_or (local_of (family_of line.instr.op) line.instr.arg (option_and_then datum_in line.constant)) Nop

abbrev pub operation_as : Line → Operation LocalAction → Operation Local
operation_as line (operation.Within local_action.Basic) = Within (local_in line)
operation_as line (operation.Within (local_action.Return k)) = Within (Return k)
operation_as line (operation.Named n) = Named n
operation_as line operation.Athrow = Athrow
operation_as line operation.Monitor = Monitor
operation_as line operation.Arraylength = Arraylength
operation_as line (operation.Newarray kind) = Newarray kind
operation_as line (operation.LoadElement k) = LoadElement k
operation_as line (operation.StoreElement k) = StoreElement k
operation_as line (operation.LdcString units) = LdcString units

abbrev pub operation_in : Line → Operation Local
operation_in line = operation_as line line.operation

-- with an operation
abbrev pub instruction_by : Operation Local → Line → Instruction
instruction_by op line = record { operation = op; own = line.instr.at; next = next_of op line.next; targets = targets_of line.instr.arg }

abbrev pub instruction_in : Line → Instruction
instruction_in line = record { operation = operation_in line; own = line.instr.at; next = next_in line; targets = targets_of line.instr.arg }

-- ---- the versions as a listing

abbrev pub catcher_in : Catching → Catcher
catcher_in h = record { start = h.start; finish = h.end; target = h.target; catches = h.catches }

abbrev pub handlers_in : Versions → ℕ → List Catcher
handlers_in v version = option_map_or (λ (x : Version). map catcher_in x.prepared.handlers) (version_at v version) []

abbrev pub listing_of : Versions → Listing
listing_of v = record {
  current = current_of v;
  first = first_of v;
  at = λ version place. option_map instruction_in (line_at v version place);
  handlers = handlers_in v;
}
