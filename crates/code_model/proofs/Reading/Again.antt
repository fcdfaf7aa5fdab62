-- An instruction that was read is read again from its bytes, wherever they stand.
use Rattle.std.proofs.Common.{◌≡◌, ℕ, zero, suc, ◌+◌, ◌*◌, ◌^◌, ◌<◌, ◌≤◌, leb, cond, Bool, true, false, List, [], ◌∷◌, ◌++◌, length, map, get_or, Option, Some, refl, sym, ap, subst, ◌∙◌, append_assoc, arith}
use Rattle.std.specs.Prelude.{slice_get, ℤ, pos, negsuc, ◌+ℤ◌, ◌-ℤ◌, int_le, zip, FitsSigned}
use Rattle.std.specs.Int.{Width, w8, w16, w32, byte_len, from_be_bytes, to_be_bytes, cast_signed, cast_unsigned}
use Rattle.std.specs.List.{AllByRecursion, flat_map}
use mir.Val.{bits, hbits}
use Rattle.std.proofs.lemmas.Int.{ints, to_z-of_z}
use Rattle.std.proofs.lemmas.Bool.{le-leb, lt-ltb}
use Rattle.std.proofs.lemmas.List.{length-append, length-replicate, append-nil, get_or_at}
use Rattle.std.proofs.lemmas.Nat.{from_be_bytes-to_be_bytes_2, from_be_bytes-to_be_bytes_4}
use Rattle.std.proofs.lemmas.Option.{slice_get-get_or}
use Rattle.byte_formats.proofs.Conditions.{tested_from}
use Rattle.op_table.specs.declared.Form.{Form}
use Rattle.op_table.specs.declared.Form.TheVariants as form
use Rattle.op_table.specs.Opcodes.{row_of, groups}
use Rattle.code_model.specs.declared.instr.Arg.{Arg}
use Rattle.code_model.specs.declared.instr.Arg.TheVariants.{Plain, Value, Pool, Local, Inc, Target, Table, Lookup, Interface, Multi, Array}
use Rattle.code_model.specs.declared.instr.Instr.{Instr}
use Rattle.code_model.specs.Formats.{Format, AreInTurn, number, run, value_made, many, value_tested, either}
use Rattle.code_model.specs.Operands.{slot_width, padding_len, number_signed, target, target_reached, target_clamped, case_count, offsets_counted, is_count, keys_rise, key_of, target_of, pair, table, lookup, operand, form_of, instr_with, behind_opcode, behind_wide, is_wide, instruction}
use Rattle.code_model.specs.Layout.{number_bytes, signed_bytes, u4, s4, distance, padding, target_bytes, pair_bytes, operand_width, operand_bytes, opcode_bytes, width_of, instr_bytes, moved_arg, instr_moved}
use Rattle.code_model.specs.Instructions.{instruction_at}
use Rattle.code_model.specs.Groups.{FitsNumber, FitsOperand, CanBranch, EachReached}
pub use Rattle.code_model.specs.Groups.{IsBytes}
use Rattle.code_model.proofs.Reading.Lengths.{length-number_bytes, length-zip}
use Rattle.code_model.proofs.Reading.Spelled.{HasShape, IsInstr, instruction_spelled}
use Rattle.code_model.proofs.Reading.Readings.{stands_from, stands_to}

-- ---- numbers

-- what is known of the widths that operands have
pub record IsBack (w : Width) : Type 0 where
  pub again : (n : ℕ) → n < 2 ^ (8 * byte_len w) → from_be_bytes w (to_be_bytes w n) ≡ n
  pub bounded : (n : ℤ) → FitsSigned w n → cast_unsigned w n < 2 ^ (8 * byte_len w)

unsigned_fits : (w : Width) (n : ℤ) → 2 ^ bits w ≡ 2 * 2 ^ hbits w → 0 < 2 ^ hbits w → FitsSigned w n → cast_unsigned w n < 2 ^ bits w
unsigned_fits w (pos n) twice some fits = let f = fits.sfits in omega arith
unsigned_fits w (negsuc n) twice some fits = let f = fits.sfits in omega arith

back8 : IsBack w8
back8 = record { again = λ n lt. omega arith; bounded = λ n fits. unsigned_fits w8 n refl (omega arith) fits }

pub back16 : IsBack w16
back16 = record { again = λ n lt. from_be_bytes-to_be_bytes_2 n lt; bounded = λ n fits. unsigned_fits w16 n refl (omega arith) fits }

back32 : IsBack w32
back32 = record { again = λ n lt. from_be_bytes-to_be_bytes_4 n lt; bounded = λ n fits. unsigned_fits w32 n refl (omega arith) fits }

slot_back : (wide : Bool) → IsBack (slot_width wide)
slot_back true = back16
slot_back false = back8

-- one after the other, and a value that is made of what was spelled
turn : {A B : Type 0} (P : Format A) (Q : A → Format B) (front rest : List ℕ) (x : A) (y : B) → P.Spells front x → (Q x).Spells rest y → AreInTurn P Q (front ++ rest) y
turn P Q front rest x y first second = record { front = front; rest = rest; parts = refl; x = x; first = first; second = second }

pub made_of : {A B : Type 0} (P : Format A) (f : A → B) (text : List ℕ) (x : A) → P.Spells text x → AreInTurn P (λ a. value_made (f a)) text (f x)
made_of P f text x h = record { front = text; rest = []; parts = sym (append-nil text); x = x; first = h; second = (refl, refl) }

pub number_again : (at : ℕ) (w : Width) (n : ℕ) → IsBack w → FitsNumber w n → (number at w).Spells (number_bytes w n) n
number_again at w n back fits = (length-number_bytes w n, back.again n fits)

signed_again : (at : ℕ) (w : Width) (n : ℤ) → IsBack w → FitsSigned w n → (number_signed at w).Spells (signed_bytes w n) n
signed_again at w n back fits =
    let text = signed_bytes w n in
    record {
      front = text;
      rest = [];
      parts = sym (append-nil text);
      x = cast_unsigned w n;
      first = number_again at w (cast_unsigned w n) back (back.bounded n fits);
      second = (sym (to_z-of_z w n fits), refl);
    }

-- the two bytes of an unsigned number are those of a signed one
pub short_again : (at n : ℕ) → FitsNumber w16 n → (number_signed at w16).Spells (number_bytes w16 n) (cast_signed w16 n)
short_again at n fits = made_of (number at w16) (cast_signed w16) (number_bytes w16 n) n (number_again at w16 n back16 fits)

reached_back : (place h : ℕ) → h ≤ 65535 → h ≡ target_reached place (distance place h)
reached_back place h le =
    let there : pos place +ℤ (pos h -ℤ pos place) ≡ pos h = omega (arith, ints) in
    let whole : cond (leb h 65535) h 65535 ≡ h = ap (λ b. cond b h 65535) (le-leb h 65535 le) in
    sym whole ∙ ap target_clamped (sym there)

target_again : (home : ℕ → ℕ) (place : ℕ) (w : Width) (t : ℕ) → IsBack w → home t ≤ 65535 → FitsSigned w (distance place (home t)) → (target place w).Spells (target_bytes home place w t) (home t)
target_again home place w t back le fits =
    let text = target_bytes home place w t in
    record {
      front = text;
      rest = [];
      parts = sym (append-nil text);
      x = distance place (home t);
      first = signed_again place w (distance place (home t)) back fits;
      second = (reached_back place (home t) le, refl);
    }

many_again : {A B : Type 0} (P : Format B) (f : A → List ℕ) (g : A → B) (Q : A → Type 0) → ((x : A) → Q x → P.Spells (f x) (g x))
    → (xs : List A) → AllByRecursion Q xs → (many P (length xs)).Spells (flat_map f xs) (map g xs)
many_again P f g Q each [] all = (refl, refl)
many_again {B = B} P f g Q each (x ∷ xs) all =
    turn P _ (f x) (flat_map f xs) (g x) (g x ∷ map g xs) (each x all.0)
    (made_of (many P (length xs)) (λ (ys : List B). g x ∷ ys) (flat_map f xs) (map g xs) (many_again P f g Q each xs all.1))

-- ---- switches

cases_back : (low high : ℤ) (n : ℕ) → 1 ≤ n → high ≡ (low +ℤ pos n) -ℤ pos 1 → (int_le low high ≡ true) × (case_count low high ≡ n)
cases_back low high n some is = (grind (arith, ints), by_gap (high -ℤ low) refl)
  where
    by_gap : (z : ℤ) → high -ℤ low ≡ z → offsets_counted z ≡ n
    by_gap (pos m) gap = omega (arith, ints)
    by_gap (negsuc m) gap = absurd (omega (arith, ints))

table_again : (home : ℕ → ℕ) (place : ℕ) (w : Width) (default : ℕ) (low : ℤ) (targets : List ℕ) → FitsOperand w (Table default low targets) → EachReached home place (default ∷ targets)
    → (table place).Spells (operand_bytes home place w (Table default low targets)) (Table (home default) low (map home targets))
table_again home place w default low targets fits leads =
    let high = (low +ℤ pos (length targets)) -ℤ pos 1 in
    let count = cases_back low high (length targets) fits.0 refl in
    let cases = flat_map (target_bytes home place w32) targets in
    let each = many_again (target place w32) (target_bytes home place w32) home (λ t. (home t ≤ 65535) × FitsSigned w32 (distance place (home t)))
    (λ t q. target_again home place w32 t back32 q.0 q.1) targets leads.1 in
    let some_cases : (many (target place w32) (case_count low high)).Spells cases (map home targets) =
    subst (λ n. (many (target place w32) n).Spells cases (map home targets)) (sym count.1) each in
    turn (run place (padding_len place)) _ (padding place) _ (padding place) (Table (home default) low (map home targets)) (refl, length-replicate (padding_len place) 0)
    (turn (target place w32) _ (target_bytes home place w32 default) _ (home default) (Table (home default) low (map home targets)) (target_again home place w32 default back32 leads.0.0 leads.0.1)
    (turn (number_signed place w32) _ (s4 low) _ low (Table (home default) low (map home targets)) (signed_again place w32 low back32 fits.1)
    (turn (value_tested (number_signed place w32) (λ (h : ℤ). int_le low h) _) _ (s4 high) cases high (Table (home default) low (map home targets)) (tested_from (number_signed place w32) (λ (h : ℤ). int_le low h) (s4 high) high (signed_again place w32 high back32 fits.2) count.0)
    (made_of (many (target place w32) (case_count low high)) (λ (ts : List ℕ). Table (home default) low ts) cases (map home targets) some_cases))))

-- pairs with their targets where `home` has them
abbrev moved_pair : (ℕ → ℕ) → ℤ × ℕ → ℤ × ℕ
moved_pair home p = (p.0, home p.1)

abbrev IsPair : (ℕ → ℕ) → ℕ → ℤ × ℕ → Type 0
IsPair home place p = FitsSigned w32 p.0 × ((home p.1 ≤ 65535) × FitsSigned w32 (distance place (home p.1)))

pair_again : (home : ℕ → ℕ) (place : ℕ) (p : ℤ × ℕ) → IsPair home place p → (pair place).Spells (pair_bytes home place p) (moved_pair home p)
pair_again home place p q =
    turn (number_signed place w32) _ (s4 p.0) (target_bytes home place w32 p.1) p.0 (moved_pair home p) (signed_again place w32 p.0 back32 q.0)
    (made_of (target place w32) (λ (t : ℕ). (p.0, t)) (target_bytes home place w32 p.1) (home p.1) (target_again home place w32 p.1 back32 q.1.0 q.1.1))

pairs_fit : (home : ℕ → ℕ) (place : ℕ) (keys : List ℤ) (targets : List ℕ) → AllByRecursion (FitsSigned w32) keys → AllByRecursion (λ t. (home t ≤ 65535) × FitsSigned w32 (distance place (home t))) targets
    → AllByRecursion (IsPair home place) (zip keys targets)
pairs_fit home place [] targets fit lead = tt
pairs_fit home place (k ∷ keys) [] fit lead = tt
pairs_fit home place (k ∷ keys) (t ∷ targets) fit lead = ((fit.0, lead.0), pairs_fit home place keys targets fit.1 lead.1)

keys_back : (home : ℕ → ℕ) (keys : List ℤ) (targets : List ℕ) → length keys ≡ length targets → map key_of (map (moved_pair home) (zip keys targets)) ≡ keys
keys_back home [] targets e = refl
keys_back home (k ∷ keys) [] e = absurd cc
keys_back home (k ∷ keys) (t ∷ targets) e = ap (λ (ks : List ℤ). k ∷ ks) (keys_back home keys targets (omega arith))

targets_back : (home : ℕ → ℕ) (keys : List ℤ) (targets : List ℕ) → length keys ≡ length targets → map target_of (map (moved_pair home) (zip keys targets)) ≡ map home targets
targets_back home [] [] e = refl
targets_back home [] (t ∷ targets) e = absurd cc
targets_back home (k ∷ keys) [] e = absurd cc
targets_back home (k ∷ keys) (t ∷ targets) e = ap (λ (ts : List ℕ). home t ∷ ts) (targets_back home keys targets (omega arith))

lookup_again : (home : ℕ → ℕ) (place : ℕ) (w : Width) (default : ℕ) (keys : List ℤ) (targets : List ℕ) → FitsOperand w (Lookup default keys targets) → keys_rise keys ≡ true → EachReached home place (default ∷ targets)
    → (lookup place).Spells (operand_bytes home place w (Lookup default keys targets)) (Lookup (home default) keys (map home targets))
lookup_again home place w default keys targets fits rise leads =
    let old = zip keys targets in
    let pairs = map (moved_pair home) old in
    let text = flat_map (pair_bytes home place) old in
    let ks = keys_back home keys targets fits.0 in
    let ts = targets_back home keys targets fits.0 in
    let e = fits.0 in
    let count : length old ≡ length keys = omega (arith, length-zip keys targets) in
    let result = Lookup (home default) (map key_of pairs) (map target_of pairs) in
    let same : result ≡ Lookup (home default) keys (map home targets) = ap (λ (xs : List ℤ). Lookup (home default) xs (map target_of pairs)) ks ∙ ap (Lookup (home default) keys) ts in
    let all = many_again (pair place) (pair_bytes home place) (moved_pair home) (IsPair home place) (pair_again home place) old (pairs_fit home place keys targets fits.2 leads.1) in
    let spelled : (many (pair place) (length keys)).Spells text pairs = subst (λ n. (many (pair place) n).Spells text pairs) count all in
    let few : is_count (length keys) ≡ true = lt-ltb _ _ fits.1 in
    subst (λ (a : Arg). (lookup place).Spells (operand_bytes home place w (Lookup default keys targets)) a) same
    (turn (run place (padding_len place)) _ (padding place) _ (padding place) result (refl, length-replicate (padding_len place) 0)
    (turn (target place w32) _ (target_bytes home place w32 default) _ (home default) result (target_again home place w32 default back32 leads.0.0 leads.0.1)
    (turn (value_tested (number place w32) is_count _) _ (u4 (length keys)) text (length keys) result (tested_from (number place w32) is_count (u4 (length keys)) (length keys) (number_again place w32 (length keys) back32 (omega (arith, fits.1))) few)
    (made_of (value_tested (many (pair place) (length keys)) (λ (ps : List (ℤ × ℕ)). keys_rise (map key_of ps)) _) (λ (ps : List (ℤ × ℕ)). Lookup (home default) (map key_of ps) (map target_of ps)) text pairs (tested_from (many (pair place) (length keys)) (λ (ps : List (ℤ × ℕ)). keys_rise (map key_of ps)) text pairs spelled (ap keys_rise ks ∙ rise))))))

-- ---- operands

abbrev SpellsMoved : (ℕ → ℕ) → ℕ → Bool → Form → Arg → Type 0
SpellsMoved home place wide f arg = (operand f wide place).Spells (operand_bytes home place (operand_width wide f) arg) (moved_arg home arg)

-- what is known of the operand is known of what it is
module _ (home : ℕ → ℕ) (place : ℕ) (wide : Bool) (f : Form) (arg is : Arg) (same : arg ≡ is)
    (spelled : FitsOperand (operand_width wide f) is → CanBranch home place (operand_width wide f) is → SpellsMoved home place wide f is)
    (fits : FitsOperand (operand_width wide f) arg) (leads : CanBranch home place (operand_width wide f) arg) where
  known_again : SpellsMoved home place wide f arg
  known_again =
      subst (SpellsMoved home place wide f) (sym same)
      (spelled (subst (FitsOperand (operand_width wide f)) same fits) (subst (CanBranch home place (operand_width wide f)) same leads))

pub operand_again : (home : ℕ → ℕ) (place : ℕ) (wide : Bool) (f : Form) (arg : Arg) → HasShape f arg → FitsOperand (operand_width wide f) arg → CanBranch home place (operand_width wide f) arg
    → SpellsMoved home place wide f arg
operand_again home place wide form.Plain arg s fits leads = known_again home place wide form.Plain arg Plain s (λ f l. (refl, refl)) fits leads
operand_again home place wide form.Byte arg s fits leads =
    known_again home place wide form.Byte arg (Value s.0) s.1 (λ f l. made_of (number_signed place w8) Value (signed_bytes w8 s.0) s.0 (signed_again place w8 s.0 back8 f)) fits leads
operand_again home place wide form.Short arg s fits leads =
    known_again home place wide form.Short arg (Value s.0) s.1 (λ f l. made_of (number_signed place w16) Value (signed_bytes w16 s.0) s.0 (signed_again place w16 s.0 back16 f)) fits leads
operand_again home place wide form.PoolByte arg s fits leads =
    known_again home place wide form.PoolByte arg (Pool s.0) s.1 (λ f l. made_of (number place w8) Pool (number_bytes w8 s.0) s.0 (number_again place w8 s.0 back8 f)) fits leads
operand_again home place wide form.Pool arg s fits leads =
    known_again home place wide form.Pool arg (Pool s.0) s.1 (λ f l. made_of (number place w16) Pool (number_bytes w16 s.0) s.0 (number_again place w16 s.0 back16 f)) fits leads
operand_again home place wide form.Local arg s fits leads =
    let w = slot_width wide in
    known_again home place wide form.Local arg (Local s.0) s.1 (λ f l. made_of (number place w) Local (number_bytes w s.0) s.0 (number_again place w s.0 (slot_back wide) f)) fits leads
operand_again home place wide form.Inc arg s fits leads =
    let w = slot_width wide in
    known_again home place wide form.Inc arg (Inc s.0 s.1) s.2
    (λ f l. turn (number place w) _ (number_bytes w s.0) (signed_bytes w s.1) s.0 (Inc s.0 s.1) (number_again place w s.0 (slot_back wide) f.0)
    (made_of (number_signed place w) (Inc s.0) (signed_bytes w s.1) s.1 (signed_again place w s.1 (slot_back wide) f.1))) fits leads
operand_again home place wide form.Jump arg s fits leads =
    known_again home place wide form.Jump arg (Target s.0) s.1 (λ f l. made_of (target place w16) Target (target_bytes home place w16 s.0) (home s.0) (target_again home place w16 s.0 back16 l.0 l.1)) fits leads
operand_again home place wide form.JumpWide arg s fits leads =
    known_again home place wide form.JumpWide arg (Target s.0) s.1 (λ f l. made_of (target place w32) Target (target_bytes home place w32 s.0) (home s.0) (target_again home place w32 s.0 back32 l.0 l.1)) fits leads
operand_again home place wide form.Table arg s fits leads =
    known_again home place wide form.Table arg (Table s.0 s.1 s.2) s.3 (λ f l. table_again home place w16 s.0 s.1 s.2 f l) fits leads
operand_again home place wide form.Lookup arg s fits leads =
    known_again home place wide form.Lookup arg (Lookup s.0 s.1 s.2) s.3 (λ f l. lookup_again home place w16 s.0 s.1 s.2 f s.4 l) fits leads
operand_again home place wide form.Interface arg s fits leads =
    known_again home place wide form.Interface arg (Interface s.0 s.1 s.2) s.3
    (λ f l. turn (number place w16) _ (number_bytes w16 s.0) _ s.0 (Interface s.0 s.1 s.2) (number_again place w16 s.0 back16 f.0)
    (turn (number place w8) _ (number_bytes w8 s.1) _ s.1 (Interface s.0 s.1 s.2) (number_again place w8 s.1 back8 f.1)
    (made_of (number place w8) (Interface s.0 s.1) (number_bytes w8 s.2) s.2 (number_again place w8 s.2 back8 f.2)))) fits leads
operand_again home place wide form.Multi arg s fits leads =
    known_again home place wide form.Multi arg (Multi s.0 s.1) s.2
    (λ f l. turn (number place w16) _ (number_bytes w16 s.0) _ s.0 (Multi s.0 s.1) (number_again place w16 s.0 back16 f.0)
    (made_of (number place w8) (Multi s.0) (number_bytes w8 s.1) s.1 (number_again place w8 s.1 back8 f.1))) fits leads
operand_again home place wide form.Array arg s fits leads =
    known_again home place wide form.Array arg (Array s.0) s.1 (λ f l. made_of (number place w8) Array (number_bytes w8 s.0) s.0 (number_again place w8 s.0 back8 f)) fits leads
operand_again home place wide form.Wide arg s fits leads = absurd s
operand_again home place wide form.Unknown arg s fits leads = absurd s

-- ---- instructions

not_wide : (f : Form) (arg : Arg) → HasShape f arg → is_wide f ≡ false
not_wide form.Wide arg s = absurd s
not_wide form.Plain arg s = refl
not_wide form.Byte arg s = refl
not_wide form.Short arg s = refl
not_wide form.PoolByte arg s = refl
not_wide form.Pool arg s = refl
not_wide form.Local arg s = refl
not_wide form.Inc arg s = refl
not_wide form.Jump arg s = refl
not_wide form.JumpWide arg s = refl
not_wide form.Table arg s = refl
not_wide form.Lookup arg s = refl
not_wide form.Interface arg s = refl
not_wide form.Multi arg s = refl
not_wide form.Array arg s = refl
not_wide form.Unknown arg s = refl

wide_opcode : is_wide (row_of 196).form ≡ true
unfolding row_of groups
wide_opcode = refl

-- its operand is spelled, and so is the instruction
pub instr_of_operand : (at : ℕ) (wide : Bool) (op : ℕ) (text : List ℕ) (arg : Arg) → is_wide (form_of wide op) ≡ false → (operand (form_of wide op) wide at).Spells text arg
    → (instruction at).Spells (opcode_bytes wide op ++ text) (instr_with at wide op arg)
instr_of_operand at true op text arg other spelled =
    let behind = made_of (operand (form_of true op) true at) (λ (a : Arg). instr_with at true op a) text arg spelled in
    let second = turn (number at w8) (behind_opcode at true) (op ∷ []) text op (instr_with at true op arg) (refl, refl) behind in
    turn (number at w8) (λ (first : ℕ). either (is_wide (row_of first).form) (behind_wide at) (behind_opcode at false first)) (196 ∷ []) (op ∷ text) 196 (instr_with at true op arg) (refl, refl)
    (subst (λ (b : Bool). (either b (behind_wide at) (behind_opcode at false 196)).Spells (op ∷ text) (instr_with at true op arg)) (sym wide_opcode) second)
instr_of_operand at false op text arg other spelled =
    let behind = made_of (operand (form_of false op) false at) (λ (a : Arg). instr_with at false op a) text arg spelled in
    turn (number at w8) (λ (first : ℕ). either (is_wide (row_of first).form) (behind_wide at) (behind_opcode at false first)) (op ∷ []) text op (instr_with at false op arg) (refl, refl)
    (subst (λ (b : Bool). (either b (behind_wide at) (behind_opcode at false op)).Spells text (instr_with at false op arg)) (sym other) behind)

pub instruction_moved : (home : ℕ → ℕ) (place at : ℕ) (text : List ℕ) (i : Instr) → IsInstr at text i → IsBytes text → CanBranch home place (width_of i) i.arg
    → (instruction place).Spells (instr_bytes home place i) (instr_moved home place i)
instruction_moved home place at text i known fits leads =
    let operand = operand_again home place i.wide (form_of i.wide i.op) i.arg known.shape (known.fits fits) leads in
    instr_of_operand place i.wide i.op (operand_bytes home place (width_of i) i.arg) (moved_arg home i.arg) (not_wide (form_of i.wide i.op) i.arg known.shape) operand

pub bytes_among : (front text rest bytes : List ℕ) → bytes ≡ front ++ (text ++ rest) → IsBytes bytes → IsBytes text
bytes_among front text rest bytes parts fits = in_front text rest (λ k. behind front (text ++ rest) bytes parts fits k)
  where
    behind : (front others bytes : List ℕ) → bytes ≡ front ++ others → IsBytes bytes → IsBytes others
    behind [] others bytes parts fits k = subst (λ t. get_or t k 0 < 256) parts (fits k)
    behind (b ∷ front) others bytes parts fits k = behind front others (front ++ others) refl (λ j. subst (λ t. get_or t (suc j) 0 < 256) parts (fits (suc j))) k

    in_front : (text rest : List ℕ) → IsBytes (text ++ rest) → IsBytes text
    in_front [] rest fits k = omega arith
    in_front (b ∷ text) rest fits zero = fits 0
    in_front (b ∷ text) rest fits (suc k) = in_front text rest (λ j. fits (suc j)) k

-- behind other bytes the instruction stands at its place, with its targets where `home` has them
pub instruction_again : (bytes : List ℕ) (at : ℕ) (i : Instr) → instruction_at bytes at ≡ Some i → IsBytes bytes
    → (home : ℕ → ℕ) (p ys : List ℕ) (place : ℕ) → length p ≡ place → CanBranch home place (width_of i) i.arg → instruction_at (p ++ (instr_bytes home place i ++ ys)) place ≡ Some (instr_moved home place i)
instruction_again bytes at i here fits home p ys place len leads =
    let s = stands_from bytes at i here in
    let known = instruction_spelled at s.text i s.spelled in
    stands_to (p ++ (instr_bytes home place i ++ ys)) place (instr_moved home place i) (record {
      front = p;
      text = instr_bytes home place i;
      rest = ys;
      parts = refl;
      place = len;
      spelled = instruction_moved home place at s.text i known (bytes_among s.front s.text s.rest bytes s.parts fits) leads;
    })

-- ---- bytes among others

-- an operand that is spelled alike wherever it stands
abbrev pub IsUnmoved : Arg → Type 0
IsUnmoved (Target t) = ⊥
IsUnmoved (Table default low targets) = ⊥
IsUnmoved (Lookup default keys targets) = ⊥
IsUnmoved _ = Unit {0}

turn_elsewhere : {A B : Type 0} (P P' : Format A) (Q Q' : A → Format B) → ((text : List ℕ) (x : A) → P.Spells text x → P'.Spells text x) → ((x : A) (text : List ℕ) (y : B) → (Q x).Spells text y → (Q' x).Spells text y)
    → (text : List ℕ) (y : B) → AreInTurn P Q text y → AreInTurn P' Q' text y
turn_elsewhere P P' Q Q' first second text y h = record { front = h.front; rest = h.rest; parts = h.parts; x = h.x; first = first h.front h.x h.first; second = second h.x h.rest y h.second }

signed_elsewhere : (n m : ℕ) (w : Width) (text : List ℕ) (x : ℤ) → (number_signed n w).Spells text x → (number_signed m w).Spells text x
signed_elsewhere n m w text x h = turn_elsewhere (number n w) (number m w) _ _ (λ t y e. e) (λ y t z e. e) text x h

operand_elsewhere : (f : Form) (wide : Bool) (n m : ℕ) (text : List ℕ) (arg : Arg) → IsUnmoved arg → (operand f wide n).Spells text arg → (operand f wide m).Spells text arg
operand_elsewhere form.Plain wide n m text arg u h = h
operand_elsewhere form.Byte wide n m text arg u h = turn_elsewhere (number_signed n w8) (number_signed m w8) _ _ (signed_elsewhere n m w8) (λ y t z e. e) text arg h
operand_elsewhere form.Short wide n m text arg u h = turn_elsewhere (number_signed n w16) (number_signed m w16) _ _ (signed_elsewhere n m w16) (λ y t z e. e) text arg h
operand_elsewhere form.PoolByte wide n m text arg u h = turn_elsewhere (number n w8) (number m w8) _ _ (λ t y e. e) (λ y t z e. e) text arg h
operand_elsewhere form.Pool wide n m text arg u h = turn_elsewhere (number n w16) (number m w16) _ _ (λ t y e. e) (λ y t z e. e) text arg h
operand_elsewhere form.Local wide n m text arg u h = turn_elsewhere (number n (slot_width wide)) (number m (slot_width wide)) _ _ (λ t y e. e) (λ y t z e. e) text arg h
operand_elsewhere form.Inc wide n m text arg u h =
    turn_elsewhere (number n (slot_width wide)) (number m (slot_width wide)) _ _ (λ t y e. e)
    (λ y t z e. turn_elsewhere (number_signed n (slot_width wide)) (number_signed m (slot_width wide)) _ _ (signed_elsewhere n m (slot_width wide)) (λ y' t' z' e'. e') t z e) text arg h
operand_elsewhere form.Jump wide n m text arg u h = absurd (subst IsUnmoved h.second.0 u)
operand_elsewhere form.JumpWide wide n m text arg u h = absurd (subst IsUnmoved h.second.0 u)
operand_elsewhere form.Table wide n m text arg u h = absurd (subst IsUnmoved h.second.second.second.second.second.0 u)
operand_elsewhere form.Lookup wide n m text arg u h = absurd (subst IsUnmoved h.second.second.second.second.0 u)
operand_elsewhere form.Interface wide n m text arg u h =
    turn_elsewhere (number n w16) (number m w16) _ _ (λ t y e. e)
    (λ y t z e. turn_elsewhere (number n w8) (number m w8) _ _ (λ t' y' e'. e') (λ y' t' z' e'. turn_elsewhere (number n w8) (number m w8) _ _ (λ a b c. c) (λ a b c d. d) t' z' e') t z e) text arg h
operand_elsewhere form.Multi wide n m text arg u h =
    turn_elsewhere (number n w16) (number m w16) _ _ (λ t y e. e) (λ y t z e. turn_elsewhere (number n w8) (number m w8) _ _ (λ a b c. c) (λ a b c d. d) t z e) text arg h
operand_elsewhere form.Array wide n m text arg u h = turn_elsewhere (number n w8) (number m w8) _ _ (λ t y e. e) (λ y t z e. e) text arg h
operand_elsewhere form.Wide wide n m text arg u h = absurd h
operand_elsewhere form.Unknown wide n m text arg u h = absurd h

abbrev placed : ℕ → Instr → Instr
placed at i = record i { at = at }

behind_elsewhere : (n m : ℕ) (wide : Bool) (op : ℕ) (text : List ℕ) (i : Instr) → IsUnmoved i.arg → (behind_opcode n wide op).Spells text i → (behind_opcode m wide op).Spells text (placed m i)
behind_elsewhere n m wide op text i u h =
    let same : i ≡ instr_with n wide op h.x = h.second.0 in
    let arg : i.arg ≡ h.x = ap (λ (j : Instr). j.arg) same in
    record {
      front = h.front;
      rest = h.rest;
      parts = h.parts;
      x = h.x;
      first = operand_elsewhere (form_of wide op) wide n m h.front h.x (subst IsUnmoved arg u) h.first;
      second = (ap (placed m) same, h.second.1);
    }

pub instruction_elsewhere : (n m : ℕ) (text : List ℕ) (i : Instr) → IsUnmoved i.arg → (instruction n).Spells text i → (instruction m).Spells text (placed m i)
instruction_elsewhere n m text i u h =
    record { front = h.front; rest = h.rest; parts = h.parts; x = h.x; first = h.first; second = by_case (is_wide (row_of h.x).form) h.second }
  where
    by_case : (b : Bool) → (either b (behind_wide n) (behind_opcode n false h.x)).Spells h.rest i → (either b (behind_wide m) (behind_opcode m false h.x)).Spells h.rest (placed m i)
    by_case true e = record { front = e.front; rest = e.rest; parts = e.parts; x = e.x; first = e.first; second = behind_elsewhere n m true e.x e.rest i u e.second }
    by_case false e = behind_elsewhere n m false h.x h.rest i u e

-- an instruction of a part is one of the whole
pub instruction_at-among : (xs ys zs : List ℕ) (n m : ℕ) (i : Instr) → m ≡ length xs + n → IsUnmoved i.arg → instruction_at ys n ≡ Some i → instruction_at (xs ++ (ys ++ zs)) m ≡ Some (record i { at = m })
instruction_at-among xs ys zs n m i is u e =
    let s = stands_from ys n i e in
    let split : xs ++ (ys ++ zs) ≡ (xs ++ s.front) ++ (s.text ++ (s.rest ++ zs)) = ap (λ (t : List ℕ). xs ++ (t ++ zs)) s.parts ∙ simp append_assoc in
    stands_to (xs ++ (ys ++ zs)) m (placed m i) (record {
      front = xs ++ s.front;
      text = s.text;
      rest = s.rest ++ zs;
      parts = split;
      place = length-append xs s.front ∙ ap (λ k. length xs + k) s.place ∙ sym is;
      spelled = instruction_elsewhere n m s.text i u s.spelled;
    })

-- ---- reading behind other bytes

pub slice_get-behind : (p : List ℕ) (y : ℕ) (ys : List ℕ) (n : ℕ) → length p ≡ n → slice_get (p ++ y ∷ ys) n ≡ Some y
slice_get-behind p y ys n len =
    let some : ℕ → Option ℕ = λ m. Some m in
    slice_get-get_or (p ++ y ∷ ys) n 0 (omega (arith, length-append p (y ∷ ys))) ∙ ap some (get_or_at p y ys 0 n len)
