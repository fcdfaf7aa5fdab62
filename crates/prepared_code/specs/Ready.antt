-- What steps ask of the code that is run.
use Rattle.std.specs.Prelude.{◌≡◌, ◌≤◌, ◌⊎◌, ℕ, true, List, is_some, Some}
use Rattle.prepared_code.specs.Tables.{Versions, version_at}
use Rattle.std.specs.Option.{IfSome, option_and_then}
use Rattle.jvm_model.specs.Basis.Data.{Locals, Operands}
use Rattle.jvm_model.specs.declared.instruction.Local.{Local}
use Rattle.jvm_model.specs.declared.instruction.Operation.{Operation}
use Rattle.jvm_model.specs.declared.instruction.Operation.TheVariants.{Within}
use Rattle.jvm_model.specs.Basis.Families.{family_of}
use Rattle.jvm_model.specs.Codes.Lines.{local_of, next_of, targets_of}
use Rattle.jvm_model.specs.Instructions.LocalRules.{within}
use Rattle.jvm_model.specs.Soundness.Sound.{IsFit}
use Rattle.jvm_model.specs.declared.state.Entry.{Entry}
use Rattle.jvm_model.specs.declared.state.State.{State}
use Rattle.jvm_basic.specs.Rules.{datum_in, outcome_placed, rule_of}
use Rattle.prepared_lines.specs.declared.line.Line.{Line}
use Rattle.prepared_lines.specs.Lines.{operation_kept}
use Rattle.jvm_model.specs.Soundness.SoundListings.{IsSound, IsSoundEntry, IsSoundListing}
use Rattle.prepared_code.specs.Versions.{Setup, line_at, method_of, next_in, operation_in, listing_of}

-- the rule of jvm_basic is that of the model with the line's places put in
abbrev pub IsRuleOf : Line → Local → Type 0
IsRuleOf line l =
    (m : Locals) (o : Operands) → rule_of line.instr line.constant line.next m o ≡ outcome_placed line.next (targets_of line.instr.arg) m o (within l m o)

-- it is that of its family and operand
abbrev pub HasLocal : Line → Local → Type 0
HasLocal line l = local_of (family_of line.instr.op) line.instr.arg (option_and_then datum_in line.constant) ≡ Some l

-- a line is of an operation
pub record IsTied (line : Line) (op : Operation Local) : Type 0 where
  pub kept : operation_kept op ≡ line.operation
  pub next : next_of op line.next ≡ next_in line
  pub alone : (l : Local) → op ≡ Within l → IsRuleOf line l
  pub within : (l : Local) → op ≡ Within l → HasLocal line l

abbrev pub IsOwnLine : Line → Type 0
IsOwnLine line = IsTied line (operation_in line)

-- a version that is held, or none that will ever be
abbrev pub IsHeldVersion : Versions → ℕ → Type 0
IsHeldVersion v version = (is_some (version_at v version) ≡ true) ⊎ (4294967296 ≤ version)

-- a frame of a method can be in this version
abbrev pub RunsIn : Versions → ℕ → ℕ → Type 0
RunsIn v version method = (method_of v version ≡ method) × IsHeldVersion v version

-- each line is the instruction that it shows, a method begins in a version of its own, and its lines can be attempted
pub record CanRun (w : Setup) : Type 0 where
  pub fit : IsFit w.world.program
  pub lines : (version place : ℕ) → IfSome (line_at w.versions version place) IsOwnLine
  pub listing : IsSoundListing (RunsIn w.versions) w.world.program (listing_of w.versions)

-- all that is there is of classes that are loaded, and each frame's version is of its method
abbrev pub IsSoundIn : Setup → State → Type 0
IsSoundIn w s = IsSound (RunsIn w.versions) w.world.program s

abbrev pub IsSoundEntryIn : Setup → List ℕ → Entry → Type 0
IsSoundEntryIn w loaded e = IsSoundEntry (RunsIn w.versions) w.world.program loaded e
