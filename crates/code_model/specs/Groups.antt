-- What can be laid out or encoded: the instructions of a decoded code.
use Rattle.std.specs.Prelude.{◌≡◌, ℕ, ◌*◌, ◌^◌, ◌<◌, ◌≤◌, Bool, true, ◌==◌, List, [], ◌∷◌, length, take, drop, map, pos, ◌+ℤ◌, ◌-ℤ◌, Some, get_or, FitsSigned}
use Rattle.std.specs.Int.{Width, w8, w16, w32, byte_len}
use Rattle.std.specs.List.{AllByRecursion, list_any, list_all}
use Rattle.code_model.specs.declared.instr.Arg.{Arg}
use Rattle.code_model.specs.declared.instr.Arg.TheVariants.{Plain, Value, Pool, Local, Inc, Target, Table, Lookup, Interface, Multi, Array}
use Rattle.code_model.specs.declared.instr.Instr.{Instr}
use Rattle.code_model.specs.declared.instr.Code.{Code}
use Rattle.code_model.specs.declared.laying.Group.{Group}
use Rattle.code_model.specs.declared.laying.Laid.{Laid}
use Rattle.code_model.specs.Layout.{distance, width_of, fits_branch, instr_moved, place_of, group_end, home_in, place_in, home_of, laid_of, first_far}
use Rattle.code_model.specs.Instructions.{instruction_at, end_of, IsReading}

-- each number is a byte
abbrev pub IsBytes : List ℕ → Type 0
IsBytes bytes = (k : ℕ) → get_or bytes k 0 < 256

-- ---- operands

abbrev pub FitsNumber : Width → ℕ → Type 0
FitsNumber w n = n < 2 ^ (8 * byte_len w)

-- The numbers of an operand fit where they are spelled; of those without a fixed width the width is `w`.
abbrev pub FitsOperand : Width → Arg → Type 0
FitsOperand w Plain = Unit {0}
FitsOperand w (Value n) = FitsSigned w n
FitsOperand w (Pool index) = FitsNumber w index
FitsOperand w (Local slot) = FitsNumber w slot
FitsOperand w (Inc slot n) = FitsNumber w slot × FitsSigned w n
FitsOperand w (Target t) = 2 ≤ byte_len w
FitsOperand w (Table default low targets) = (1 ≤ length targets) × FitsSigned w32 low × FitsSigned w32 ((low +ℤ pos (length targets)) -ℤ pos 1)
FitsOperand w (Lookup default keys targets) = (length keys ≡ length targets) × (length keys < 2147483648) × AllByRecursion (FitsSigned w32) keys
FitsOperand w (Interface index count last) = FitsNumber w16 index × FitsNumber w8 count × FitsNumber w8 last
FitsOperand w (Multi index dimensions) = FitsNumber w16 index × FitsNumber w8 dimensions
FitsOperand w (Array kind) = FitsNumber w8 kind

-- each target comes to stand within a code, and a branch offset of four bytes reaches it
abbrev pub EachReached : (ℕ → ℕ) → ℕ → List ℕ → Type 0
EachReached home place ts = AllByRecursion (λ t. (home t ≤ 65535) × FitsSigned w32 (distance place (home t))) ts

-- The targets of an operand are within reach of an instruction at this place.
abbrev pub CanBranch : (ℕ → ℕ) → ℕ → Width → Arg → Type 0
CanBranch home place w (Target t) = (home t ≤ 65535) × FitsSigned w (distance place (home t))
CanBranch home place w (Table default low targets) = EachReached home place (default ∷ targets)
CanBranch home place w (Lookup default keys targets) = EachReached home place (default ∷ targets)
CanBranch home place w _ = Unit {0}

-- where an instruction may go on by its operand
abbrev pub targets_of : Arg → List ℕ
targets_of (Target t) = t ∷ []
targets_of (Table default low targets) = default ∷ targets
targets_of (Lookup default keys targets) = default ∷ targets
targets_of _ = []

-- ---- codes

-- an instruction whose numbers fit
abbrev pub FitsInstr : Instr → Type 0
FitsInstr i = FitsOperand (width_of i) i.arg

abbrev pub FitsGroup : Group → Type 0
FitsGroup g = FitsInstr g.instr

-- it goes on where it stands
abbrev pub IsUnmovedAt : Instr → Type 0
IsUnmovedAt i = fits_branch (λ t. t) i.at (width_of i) i.arg ≡ true

-- the instruction of a group ends within a code
abbrev pub EndsWithin : Group → Type 0
EndsWithin g = end_of g.instr ≤ 65535

abbrev pub instrs_of : List Group → List Instr
instrs_of groups = map (λ (g : Group). g.instr) groups

abbrev pub IsShort : List ℕ → Type 0
IsShort bytes = length bytes ≤ 16

-- The groups' instructions are, in order, those of a code that has a reading.
pub record AreGroups (groups : List Group) : Type 0 where
  pub bytes : List ℕ
  pub fits : IsBytes bytes
  pub reading : Code
  pub reads : IsReading bytes reading
  pub short : length bytes ≤ 65535
  pub some : 1 ≤ length groups
  pub instrs : instrs_of groups ≡ reading.instrs
  pub fronts : AllByRecursion (λ (g : Group). IsShort g.before) groups

-- an instruction of the bytes begins at this offset
abbrev pub IsStartIn : List ℕ → ℕ → Type 0
IsStartIn bytes at = (i : Instr) × (instruction_at bytes at ≡ Some i)

-- The code has a reading, and each target in it is the start of an instruction.
pub record IsEncodable (code : Code) : Type 0 where
  pub bytes : List ℕ
  pub fits : IsBytes bytes
  pub reads : IsReading bytes code
  pub short : length bytes ≤ 65535
  pub targets : AllByRecursion (λ (i : Instr). AllByRecursion (IsStartIn bytes) (targets_of i.arg)) code.instrs

-- ---- starts, as a test

-- whether an instruction begins at this offset
abbrev pub is_start : List Instr → ℕ → Bool
is_start instrs at = list_any (λ (i : Instr). i.at == at) instrs

abbrev pub are_starts : List Instr → List ℕ → Bool
are_starts instrs offsets = list_all (λ t. is_start instrs t) offsets

abbrev pub leads_to_starts : List Instr → Arg → Bool
leads_to_starts instrs arg = are_starts instrs (targets_of arg)

abbrev pub all_lead_to_starts : List Instr → Bool
all_lead_to_starts instrs = list_all (λ (i : Instr). leads_to_starts instrs i.arg) instrs

-- ---- layouts

-- What is laid out of a group: at the home of its instruction's offset stands what goes in front, and behind that, at
-- the place, the instruction, with each target where the homes have it. The next offset has its home where the group
-- ends.
pub record IsLaidIn (laid : Laid) (g : Group) : Type 0 where
  pub home : ℕ
  pub homed : home_in laid.homes g.instr.at ≡ Some home
  pub placed : place_in laid.homes g.instr.at ≡ Some (place_of home g)
  pub before : take (length g.before) (drop home laid.code) ≡ g.before
  pub stands : instruction_at laid.code (place_of home g) ≡ Some (instr_moved (home_of laid.homes) (place_of home g) g.instr)
  pub next : home_in laid.homes (end_of g.instr) ≡ Some (group_end home g)

abbrev pub AreLaidIn : Laid → List Group → Type 0
AreLaidIn laid groups = AllByRecursion (IsLaidIn laid) groups

-- the code would have this many bytes, which are too many
abbrev pub IsTooLong : List ℕ → List Group → List ℕ → ℕ → Type 0
IsTooLong front groups back len = (len ≡ length (laid_of front groups back).code) × (65535 < len)

-- its length would do, and this is the first branch that does not fit
abbrev pub IsTooFar : List ℕ → List Group → List ℕ → ℕ → Type 0
IsTooFar front groups back at = (first_far front groups ≡ Some at) × (length (laid_of front groups back).code ≤ 65535)
