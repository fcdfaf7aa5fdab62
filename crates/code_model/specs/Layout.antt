-- Code laid out anew: where each instruction comes to stand, and its bytes there (JVM Specification 4.7.3, 6.5). A
-- group is an original instruction with the bytes that go in front of it.
use Rattle.std.specs.Prelude.{ℕ, ◌+◌, ◌-◌, ◌*◌, min, Bool, true, List, [], ◌∷◌, ◌++◌, length, take, map, replicate, zip, Option, Some, None, ℤ, pos, ◌+ℤ◌, ◌-ℤ◌, int_le, unwrap_or, ◌==◌, ◌&&◌, ◌||◌, if◌then◌else◌}
use Rattle.std.specs.Int.{Width, w8, w16, w32, byte_len, cast_unsigned, to_be_bytes}
use Rattle.std.specs.List.{flat_map}
use Rattle.op_table.specs.declared.Form.{Form}
use Rattle.op_table.specs.declared.Form.TheVariants as form
use Rattle.code_model.specs.Operands.{slot_width, padding_len, form_of}
use Rattle.code_model.specs.declared.instr.Arg.{Arg}
use Rattle.code_model.specs.declared.instr.Arg.TheVariants.{Plain, Value, Pool, Local, Inc, Target, Table, Lookup, Interface, Multi, Array}
use Rattle.code_model.specs.declared.instr.Instr.{Instr}
use Rattle.code_model.specs.declared.laying.Group.{Group}
use Rattle.code_model.specs.declared.laying.Homes.{Homes}
use Rattle.code_model.specs.declared.laying.Laid.{Laid}

-- ---- the bytes of an instruction (6.5)

-- a big-endian number, and a signed one in two's complement
abbrev pub number_bytes : Width → ℕ → List ℕ
number_bytes w n = to_be_bytes w n

abbrev pub signed_bytes : Width → ℤ → List ℕ
signed_bytes w n = number_bytes w (cast_unsigned w n)

abbrev pub u1 : ℕ → List ℕ
u1 n = number_bytes w8 n

abbrev pub u2 : ℕ → List ℕ
u2 n = number_bytes w16 n

abbrev pub u4 : ℕ → List ℕ
u4 n = number_bytes w32 n

abbrev pub s4 : ℤ → List ℕ
s4 n = signed_bytes w32 n

-- how many bytes the number of an operand has, by its form; behind wide a slot and an increment have two
abbrev pub operand_width : Bool → Form → Width
operand_width wide form.Byte = w8
operand_width wide form.PoolByte = w8
operand_width wide form.Local = slot_width wide
operand_width wide form.Inc = slot_width wide
operand_width wide form.JumpWide = w32
operand_width wide _ = w16

-- a branch offset is relative to its own opcode
abbrev pub distance : ℕ → ℕ → ℤ
distance place target = pos target -ℤ pos place

-- a switch at this place has zeros behind its opcode, up to a multiple of four from the code's start
abbrev pub padding : ℕ → List ℕ
padding place = replicate (padding_len place) 0

-- the bytes of a branch offset to where `home` has the target
abbrev pub target_bytes : (ℕ → ℕ) → ℕ → Width → ℕ → List ℕ
target_bytes home place w t = signed_bytes w (distance place (home t))

-- a pair of a lookupswitch: a key, and where it leads
abbrev pub pair_bytes : (ℕ → ℕ) → ℕ → ℤ × ℕ → List ℕ
pair_bytes home place pair = s4 pair.0 ++ target_bytes home place w32 pair.1

-- What stands behind the opcode of an instruction at this place, with each target where `home` has it. The numbers of a
-- form without a fixed width have the width `w`.
abbrev pub operand_bytes : (ℕ → ℕ) → ℕ → Width → Arg → List ℕ
operand_bytes home place w Plain = []
operand_bytes home place w (Value n) = signed_bytes w n
operand_bytes home place w (Pool index) = number_bytes w index
operand_bytes home place w (Local slot) = number_bytes w slot
operand_bytes home place w (Inc slot n) = number_bytes w slot ++ signed_bytes w n
operand_bytes home place w (Target t) = target_bytes home place w t
operand_bytes home place w (Table default low targets) =
    padding place ++ (target_bytes home place w32 default ++ (s4 low ++ (s4 ((low +ℤ pos (length targets)) -ℤ pos 1)
    ++ flat_map (target_bytes home place w32) targets)))
operand_bytes home place w (Lookup default keys targets) =
    padding place ++ (target_bytes home place w32 default ++ (u4 (length keys) ++ flat_map (pair_bytes home place) (zip keys targets)))
operand_bytes home place w (Interface index count zero) = u2 index ++ (u1 count ++ u1 zero)
operand_bytes home place w (Multi index dimensions) = u2 index ++ u1 dimensions
operand_bytes home place w (Array kind) = u1 kind

-- how many bytes that is
abbrev pub operand_len : ℕ → Width → Arg → ℕ
operand_len place w Plain = 0
operand_len place w (Value n) = byte_len w
operand_len place w (Pool index) = byte_len w
operand_len place w (Local slot) = byte_len w
operand_len place w (Inc slot n) = byte_len w + byte_len w
operand_len place w (Target t) = byte_len w
operand_len place w (Table default low targets) = padding_len place + 12 + 4 * length targets
operand_len place w (Lookup default keys targets) = padding_len place + 8 + 8 * min (length keys) (length targets)
operand_len place w (Interface index count last) = 4
operand_len place w (Multi index dimensions) = 3
operand_len place w (Array kind) = 1

abbrev pub opcode_bytes : Bool → ℕ → List ℕ
opcode_bytes wide op = if wide then 196 ∷ op ∷ [] else op ∷ []

abbrev pub width_of : Instr → Width
width_of i = operand_width i.wide (form_of i.wide i.op)

-- the bytes of an instruction that stands at this place
abbrev pub instr_bytes : (ℕ → ℕ) → ℕ → Instr → List ℕ
instr_bytes home place i = opcode_bytes i.wide i.op ++ operand_bytes home place (width_of i) i.arg

-- how many bytes it takes there; where its targets lead makes no difference
abbrev pub size_at : ℕ → Instr → ℕ
size_at place i = length (instr_bytes (λ t. t) place i)

-- the same instruction at another place, with its targets where `home` has them
abbrev pub moved_arg : (ℕ → ℕ) → Arg → Arg
moved_arg home (Target t) = Target (home t)
moved_arg home (Table default low targets) = Table (home default) low (map home targets)
moved_arg home (Lookup default keys targets) = Lookup (home default) keys (map home targets)
moved_arg home Plain = Plain
moved_arg home (Value n) = Value n
moved_arg home (Pool index) = Pool index
moved_arg home (Local slot) = Local slot
moved_arg home (Inc slot n) = Inc slot n
moved_arg home (Interface index count zero) = Interface index count zero
moved_arg home (Multi index dimensions) = Multi index dimensions
moved_arg home (Array kind) = Array kind

abbrev pub instr_moved : (ℕ → ℕ) → ℕ → Instr → Instr
instr_moved home place i = record i { at = place; arg = moved_arg home i.arg }

-- ---- homes and places

-- Where an original offset comes to stand: its home, where what goes in front of its instruction begins, and its place,
-- where the instruction itself stands.
pub record Spot : Type 0 where
  pub from : ℕ
  pub home : ℕ
  pub place : ℕ

-- where a group's instruction stands, and where the group ends
abbrev pub place_of : ℕ → Group → ℕ
place_of at g = at + length g.before

abbrev pub group_end : ℕ → Group → ℕ
group_end at g = place_of at g + size_at (place_of at g) g.instr

-- the spots of groups that follow one another from here on
abbrev pub spots_from : ℕ → List Group → List Spot
spots_from at [] = []
spots_from at (g ∷ rest) = record { from = g.instr.at; home = at; place = place_of at g } ∷ spots_from (group_end at g) rest

-- where they end
abbrev pub end_from : ℕ → List Group → ℕ
end_from at [] = at
end_from at (g ∷ rest) = end_from (group_end at g) rest

-- where the original code ends: behind the last instruction
abbrev pub source_end : ℕ → List Group → ℕ
source_end end [] = end
source_end end (g ∷ rest) = source_end (g.instr.at + size_at g.instr.at g.instr) rest

-- the spot of each original offset, and then of the code's end, where the back begins
abbrev pub all_spots : List ℕ → List Group → List Spot
all_spots front groups =
    let code_end = end_from (length front) groups in
    spots_from (length front) groups ++ record { from = source_end 0 groups; home = code_end; place = code_end } ∷ []

abbrev pub homes_of : List ℕ → List Group → Homes
homes_of front groups =
    let spots = all_spots front groups in
    record { from = map (λ (s : Spot). s.from) spots; home = map (λ (s : Spot). s.home) spots; place = map (λ (s : Spot). s.place) spots }

-- homes with these spots added
abbrev pub with_spots : Homes → List Spot → Homes
with_spots homes spots = record {
  from = homes.from ++ map (λ (s : Spot). s.from) spots;
  home = homes.home ++ map (λ (s : Spot). s.home) spots;
  place = homes.place ++ map (λ (s : Spot). s.place) spots;
}

-- what stands in the second list where this number stands in the first
abbrev pub found_beside : List ℕ → List ℕ → ℕ → Option ℕ
found_beside (n ∷ numbers) (x ∷ others) wanted = if n == wanted then Some x else found_beside numbers others wanted
found_beside [] others wanted = None
found_beside (n ∷ numbers) [] wanted = None

-- the home and the place of an original offset, and the original offset of a place
abbrev pub home_in : Homes → ℕ → Option ℕ
home_in homes at = found_beside homes.from homes.home at

abbrev pub place_in : Homes → ℕ → Option ℕ
place_in homes at = found_beside homes.from homes.place at

abbrev pub origin_in : Homes → ℕ → Option ℕ
origin_in homes place = found_beside homes.place homes.from place

-- the original starts, without the code's end behind them
abbrev pub starts_in : Homes → List ℕ
starts_in homes = take (length homes.from - 1) homes.from

-- the original offset of the instruction at a place; where the code ends none of the original instructions stands
abbrev pub instruction_origin : Homes → ℕ → Option ℕ
instruction_origin homes place = found_beside homes.place (starts_in homes) place

-- where a target leads: each is the start of an instruction
abbrev pub home_of : Homes → ℕ → ℕ
home_of homes at = unwrap_or (home_in homes at) 0

-- where a target leads in code that is laid out with homes, or that stays as it was
abbrev pub home_by : Option Homes → ℕ → ℕ
home_by (Some homes) at = home_of homes at
home_by None at = at

-- ---- the code

abbrev pub groups_bytes : (ℕ → ℕ) → ℕ → List Group → List ℕ
groups_bytes home at [] = []
groups_bytes home at (g ∷ rest) = g.before ++ (instr_bytes home (place_of at g) g.instr ++ groups_bytes home (group_end at g) rest)

abbrev pub laid_of : List ℕ → List Group → List ℕ → Laid
laid_of front groups back =
    let homes = homes_of front groups in
    record { code = front ++ (groups_bytes (home_of homes) (length front) groups ++ back); homes = homes }

-- ---- branches that do not fit

-- a branch offset of two bytes
abbrev pub is_near : ℤ → Bool
is_near n = int_le (pos 0 -ℤ pos 32768) n && int_le n (pos 32767)

-- goto_w and jsr_w have a branch offset of four bytes, which reaches everywhere
abbrev pub fits_branch : (ℕ → ℕ) → ℕ → Width → Arg → Bool
fits_branch home place w (Target t) = byte_len w == 4 || is_near (distance place (home t))
fits_branch home place w _ = true

-- the original offset of the first branch of two bytes that does not fit
abbrev pub first_far_from : (ℕ → ℕ) → ℕ → List Group → Option ℕ
first_far_from home at [] = None
first_far_from home at (g ∷ rest) =
    if fits_branch home (place_of at g) (width_of g.instr) g.instr.arg then first_far_from home (group_end at g) rest else Some g.instr.at

abbrev pub first_far : List ℕ → List Group → Option ℕ
first_far front groups = first_far_from (home_of (homes_of front groups)) (length front) groups

-- ---- code as it was

-- the bytes of instructions where they stand, with padding zero
abbrev pub code_bytes : List Instr → List ℕ
code_bytes instrs = flat_map (λ (i : Instr). instr_bytes (λ t. t) i.at i) instrs
