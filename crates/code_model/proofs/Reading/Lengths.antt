-- How many bytes an operand and an instruction have, wherever their targets lead.
use Rattle.std.proofs.Common.{◌≡◌, ℕ, zero, suc, ◌+◌, ◌-◌, ◌*◌, ◌%◌, ◌≤◌, Bool, true, false, List, [], ◌∷◌, length, refl, sym, ap, ◌∙◌, arith}
use Rattle.std.specs.Prelude.{ℤ, zip, min}
use Rattle.std.specs.Int.{Width, w32, byte_len, bytes_high_first, cast_unsigned}
use Rattle.std.specs.List.{flat_map}
use Rattle.std.proofs.lemmas.List.{length-append, length-replicate}
use Rattle.std.proofs.lemmas.List.Concat.{flat_map-cons}
use Rattle.code_model.specs.declared.instr.Arg.{Arg}
use Rattle.code_model.specs.declared.instr.Arg.TheVariants.{Plain, Value, Pool, Local, Inc, Target, Table, Lookup, Interface, Multi, Array}
use Rattle.code_model.specs.declared.instr.Instr.{Instr}
use Rattle.code_model.specs.Operands.{padding_len}
use Rattle.code_model.specs.Layout.{number_bytes, target_bytes, padding, pair_bytes, operand_bytes, operand_len, opcode_bytes, width_of, instr_bytes, size_at}

length-bytes : (k n : ℕ) → length (bytes_high_first k n) ≡ k
length-bytes zero n = refl
length-bytes (suc k) n = ap suc (length-bytes k n)

pub length-number_bytes : (w : Width) (n : ℕ) → length (number_bytes w n) ≡ byte_len w
length-number_bytes w n = length-bytes (byte_len w) n

-- as many bytes as so many for each item
pub length-flat_map_each : {A : Type 0} (f : A → List ℕ) (n : ℕ) (xs : List A) → ((x : A) → length (f x) ≡ n) → length (flat_map f xs) ≡ n * length xs
length-flat_map_each f n [] each = omega arith
length-flat_map_each f n (x ∷ xs) each =
    ap length (flat_map-cons f x xs) ∙ length-append (f x) (flat_map f xs) ∙ (let rest = length-flat_map_each f n xs each in let first = each x in omega (arith, first, rest))

pub length-zip : {A B : Type 0} (xs : List A) (ys : List B) → length (zip xs ys) ≡ min (length xs) (length ys)
length-zip [] ys = omega arith
length-zip (x ∷ xs) [] = omega arith
length-zip (x ∷ xs) (y ∷ ys) = let rest = length-zip xs ys in omega arith

pub length-padding : (place : ℕ) → length (padding place) ≡ 3 - place % 4
length-padding place = length-replicate (3 - place % 4) 0

-- ---- operands

length-table : (home : ℕ → ℕ) (place : ℕ) (w : Width) (default : ℕ) (low : ℤ) (targets : List ℕ)
    → length (operand_bytes home place w (Table default low targets)) ≡ padding_len place + 12 + 4 * length targets
length-table home place w default low targets =
    length-append (padding place) _ ∙ (let cases = length-flat_map_each (target_bytes home place w32) 4 targets (λ t. refl) in omega (arith, length-padding place, cases))

length-lookup : (home : ℕ → ℕ) (place : ℕ) (w : Width) (default : ℕ) (keys : List ℤ) (targets : List ℕ)
    → length (operand_bytes home place w (Lookup default keys targets)) ≡ padding_len place + 8 + 8 * min (length keys) (length targets)
length-lookup home place w default keys targets =
    length-append (padding place) _ ∙ (let cases = length-flat_map_each (pair_bytes home place) 8 (zip keys targets) (λ p. refl) in omega (arith, length-padding place, cases, length-zip keys targets))

pub length-operand_bytes : (home : ℕ → ℕ) (place : ℕ) (w : Width) (arg : Arg) → length (operand_bytes home place w arg) ≡ operand_len place w arg
length-operand_bytes home place w Plain = refl
length-operand_bytes home place w (Value n) = length-number_bytes w _
length-operand_bytes home place w (Pool index) = length-number_bytes w index
length-operand_bytes home place w (Local slot) = length-number_bytes w slot
length-operand_bytes home place w (Inc slot n) =
    length-append (number_bytes w slot) _ ∙ ap (λ k. k + length (signed_part w n)) (length-number_bytes w slot) ∙ ap (λ k. byte_len w + k) (length-number_bytes w _)
  where
    signed_part : Width → ℤ → List ℕ
    signed_part v m = number_bytes v (cast_unsigned v m)
length-operand_bytes home place w (Target t) = length-number_bytes w _
length-operand_bytes home place w (Table default low targets) = length-table home place w default low targets
length-operand_bytes home place w (Lookup default keys targets) = length-lookup home place w default keys targets
length-operand_bytes home place w (Interface index count last) = refl
length-operand_bytes home place w (Multi index dimensions) = refl
length-operand_bytes home place w (Array kind) = refl

-- ---- instructions

pub length-instr_bytes : (home : ℕ → ℕ) (place : ℕ) (i : Instr) → length (instr_bytes home place i) ≡ size_at place i
length-instr_bytes home place i =
    length-append (opcode_bytes i.wide i.op) (operand_bytes home place (width_of i) i.arg)
    ∙ ap (λ n. length (opcode_bytes i.wide i.op) + n) (length-operand_bytes home place (width_of i) i.arg ∙ sym (length-operand_bytes (λ t. t) place (width_of i) i.arg))
    ∙ sym (length-append (opcode_bytes i.wide i.op) (operand_bytes (λ t. t) place (width_of i) i.arg))

pub size_at-is : (place : ℕ) (i : Instr) → size_at place i ≡ length (opcode_bytes i.wide i.op) + operand_len place (width_of i) i.arg
size_at-is place i =
    length-append (opcode_bytes i.wide i.op) (operand_bytes (λ t. t) place (width_of i) i.arg)
    ∙ ap (λ n. length (opcode_bytes i.wide i.op) + n) (length-operand_bytes (λ t. t) place (width_of i) i.arg)

some_opcode : (wide : Bool) (op : ℕ) → 1 ≤ length (opcode_bytes wide op)
some_opcode true op = omega arith
some_opcode false op = omega arith

-- an instruction has at least one byte
pub size_at-some : (place : ℕ) (i : Instr) → 1 ≤ size_at place i
size_at-some place i = let some = some_opcode i.wide i.op in omega (arith, size_at-is place i)

operand_len-near : (p q : ℕ) (w : Width) (arg : Arg) → operand_len p w arg + 5 ≤ 6 * operand_len q w arg + 5
operand_len-near p q w Plain = omega arith
operand_len-near p q w (Value n) = omega arith
operand_len-near p q w (Pool index) = omega arith
operand_len-near p q w (Local slot) = omega arith
operand_len-near p q w (Inc slot n) = omega arith
operand_len-near p q w (Target t) = omega arith
operand_len-near p q w (Table default low targets) = omega arith
operand_len-near p q w (Lookup default keys targets) = omega arith
operand_len-near p q w (Interface index count last) = omega arith
operand_len-near p q w (Multi index dimensions) = omega arith
operand_len-near p q w (Array kind) = omega arith

-- At another place its padding may be longer: it has at most six times as many bytes, less five.
pub size_at-near : (p q : ℕ) (i : Instr) → size_at p i + 5 ≤ 6 * size_at q i
size_at-near p q i =
    let some = some_opcode i.wide i.op in
    omega (arith, size_at-is p i, size_at-is q i, operand_len-near p q (width_of i) i.arg)

pub ruleset sizes = (size_at-is)
