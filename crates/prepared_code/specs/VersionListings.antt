-- Versions as listings: each has the code of its method by homes.
use Rattle.std.specs.Prelude.{◌≡◌, ◌≤◌, ◌<◌, ℕ, [], length, map, Option, Some, None, ◌==◌, if◌then◌else◌}
use Rattle.std.specs.Option.{option_map}
use Rattle.jvm_model.specs.declared.program.Program.{Program}
use Rattle.jvm_model.specs.Basis.Data.{Instruction}
use Rattle.jvm_model.specs.declared.instruction.Local.{Local}
use Rattle.jvm_model.specs.declared.instruction.Operation.{Operation}
use Rattle.jvm_model.specs.Codes.Moved.{HaveBounds, IsPlace, moved_catcher, moved_instruction}
use Rattle.jvm_model.specs.Codes.Originals.{original}
use Rattle.prepared_code.specs.Tables.{Version, Versions, version_at}
use Rattle.prepared_code.specs.Versions.{catcher_in, current_of, instruction_in, line_in}

-- an instruction of the method does this
pub record HasOperation (p : Program) (method : ℕ) (op : Operation Local) : Type 0 where
  pub place : ℕ
  pub instruction : Instruction
  pub there : (original p).at method place ≡ Some instruction
  pub does : instruction.operation ≡ op

-- `norm` tells the places of original code by method; `home` where each of them stands in the version.
pub record IsVersionOf (p : Program) (norm : ℕ → ℕ → ℕ) (x : Version) (home : ℕ → ℕ) : Type 0 where
  pub first : x.prepared.first ≡ home 0
  pub lines : (at : ℕ) → IsPlace norm x.method at → option_map instruction_in (line_in (home at) x) ≡ option_map (moved_instruction home) ((original p).at x.method at)
  pub only : (k : ℕ) (i : Instruction) → option_map instruction_in (line_in k x) ≡ Some i → HasOperation p x.method i.operation
  pub handlers : map catcher_in x.prepared.handlers ≡ map (moved_catcher home) ((original p).handlers x.method)
  pub rises : (a b : ℕ) → ((original p).handlers x.method ≡ [] → ⊥) → IsPlace norm x.method a → IsPlace norm x.method b → a < b → home a < home b

-- a method of the program begins in a version of its own
pub record HasCurrent (v : Versions) (method : ℕ) : Type 0 where
  pub version : Version
  pub held : version_at v (current_of v method) ≡ Some version
  pub own : version.method ≡ method

-- the versions of a program, with their homes by their numbers
pub record AreVersions (p : Program) (norm : ℕ → ℕ → ℕ) (homes : ℕ → ℕ → ℕ) (v : Versions) : Type 0 where
  pub each : (k : ℕ) (x : Version) → version_at v k ≡ Some x → IsVersionOf p norm x (homes k)
  pub unheld : (k : ℕ) → version_at v k ≡ None → homes k ≡ (λ at. at)
  pub current : (k : ℕ) → k < length p.methods → HasCurrent v k
  pub count : length v.current ≡ length p.methods
  pub far : (k : ℕ) → 4294967296 ≤ k → version_at v k ≡ None
  pub bounds : (k : ℕ) → HaveBounds norm k ((original p).handlers k)

-- ---- another table

-- the homes of the versions that are held; elsewhere each place is at home
abbrev pub homes_where : Option Version → (ℕ → ℕ) → ℕ → ℕ
homes_where None home = λ at. at
homes_where (Some x) home = home

-- of a table that may hold fewer versions
abbrev pub homes_left : Versions → (ℕ → ℕ → ℕ) → ℕ → ℕ → ℕ
homes_left v homes k = homes_where (version_at v k) (homes k)

-- of one that has a version more
abbrev pub homes_with : Versions → ℕ → (ℕ → ℕ) → (ℕ → ℕ → ℕ) → ℕ → ℕ → ℕ
homes_with v number home homes k = if k == number then home else homes_left v homes k
