-- Offsets that are carried over: homes and places rise strictly, and a place leads back to its offset.
use Rattle.std.specs.Prelude.{◌≡◌, ◌<◌, ℕ, ◌-◌, ◌==◌, ◌||◌, if◌then◌else◌, List, [], ◌∷◌, ◌++◌, length, map, get_or, Option, Some, None}
use Rattle.std.specs.List.Sorted.{IsStrictlyIncreasing}
use Rattle.code_model.specs.declared.instr.Instr.{Instr}
use Rattle.code_model.specs.declared.instr.Code.{Code}
use Rattle.code_model.specs.declared.laying.Homes.{Homes}
use Rattle.code_model.specs.Instructions.{IsReading}
use Rattle.code_model.specs.Groups.{is_start}
use Rattle.code_model.specs.Layout.{Spot, home_in, place_in}

-- of two offsets the greater one is carried to the greater number
abbrev pub RisesStrictly : (ℕ → Option ℕ) → Type 0
RisesStrictly carried = (a b x y : ℕ) → carried a ≡ Some x → carried b ≡ Some y → a < b → x < y

-- where the original code ends: the last of the offsets
abbrev pub code_end : Homes → ℕ
code_end moved = get_or moved.from (length moved.from - 1) 0

-- Each original start and the code's end has a home and a place, and all of them rise strictly.
pub record AreRising (moved : Homes) : Type 0 where
  pub starts : IsStrictlyIncreasing moved.from
  pub homes : IsStrictlyIncreasing moved.home
  pub places : IsStrictlyIncreasing moved.place
  pub each_home : length moved.home ≡ length moved.from
  pub each_place : length moved.place ≡ length moved.from
  pub by_home : RisesStrictly (home_in moved)
  pub by_place : RisesStrictly (place_in moved)

-- ---- code that stays as it was

-- the code is read from some bytes
abbrev pub IsRead : Code → Type 0
IsRead code = (bytes : List ℕ) × IsReading bytes code

-- the starts of its instructions, and its end
abbrev pub offsets_of : Code → List ℕ
offsets_of code = map (λ (i : Instr). i.at) code.instrs ++ code.len ∷ []

-- each of them is its own home and its own place
abbrev pub unmoved_homes : Code → Homes
unmoved_homes code = record { from = offsets_of code; home = offsets_of code; place = offsets_of code }

-- an instruction's start and the code's end stay where they are; nothing else has a home
abbrev pub own_offset : Code → ℕ → Option ℕ
own_offset code at = if is_start code.instrs at || code.len == at then Some at else None

abbrev pub StaysInPlace : Code → Homes → Type 0
StaysInPlace code moved = (at : ℕ) → (home_in moved at ≡ own_offset code at) × (place_in moved at ≡ own_offset code at)

-- the spots of instructions that stay where they are
abbrev pub own_spot : ℕ → Spot
own_spot at = record { from = at; home = at; place = at }

abbrev pub own_spots : List Instr → List Spot
own_spots instrs = map (λ (i : Instr). own_spot i.at) instrs
