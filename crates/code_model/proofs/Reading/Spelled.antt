-- What is known of an operand and of an instruction that bytes spell: of which shape it is, how many bytes it has, and
-- that its numbers fit there again.
use Rattle.std.proofs.Common.{◌≡◌, ℕ, zero, suc, ◌+◌, ◌-◌, ◌*◌, ◌^◌, ◌<◌, ◌≤◌, leb, Bool, true, false, cond, List, [], ◌∷◌, ◌++◌, length, map, get_or, refl, sym, ap, subst, ◌∙◌, append_assoc, arith, T}
use Rattle.std.specs.Prelude.{ℤ, pos, negsuc, ◌+ℤ◌, ◌-ℤ◌, int_le, min, FitsSigned, ltb}
use Rattle.std.specs.Int.{Width, w8, w16, w32, byte_len, from_be_bytes, cast_signed}
use Rattle.std.specs.List.{AllByRecursion}
use mir.Val.{bits, hbits}
use Rattle.std.specs.Int.Signed.{◌≤ℤ◌, le_z_yes}
use Rattle.std.proofs.lemmas.Int.{ints}
use Rattle.std.proofs.lemmas.Bool.{ltb-true, ltb-false, leb-true}
use Rattle.std.proofs.lemmas.List.{length-append}
use Rattle.byte_formats.proofs.Conditions.{tested_to}
use Rattle.op_table.specs.declared.Form.{Form}
use Rattle.op_table.specs.declared.Form.TheVariants as form
use Rattle.op_table.specs.Opcodes.{row_of}
use Rattle.code_model.specs.declared.instr.Arg.{Arg}
use Rattle.code_model.specs.declared.instr.Arg.TheVariants.{Plain, Value, Pool, Local, Inc, Target, Table, Lookup, Interface, Multi, Array}
use Rattle.code_model.specs.declared.instr.Instr.{Instr}
use Rattle.code_model.specs.Formats.{Format, AreInTurn, number, value_made, many, either}
use Rattle.code_model.specs.Operands.{slot_width, number_signed, target, target_reached, target_clamped, case_count, offsets_counted, is_count, keys_rise, key_of, target_of, pair, table, lookup, operand, form_of, instr_with, behind_opcode, behind_wide, is_wide, instruction}
use Rattle.code_model.specs.Layout.{distance, operand_width, operand_len, opcode_bytes, width_of, size_at}
use Rattle.code_model.specs.Groups.{IsBytes, FitsNumber, FitsOperand, targets_of}
use Rattle.code_model.proofs.Reading.Lengths.{size_at-is}

-- ---- widths

-- what is known of the widths that operands have
pub record IsWide (w : Width) : Type 0 where
  pub below : (text : List ℕ) → IsBytes text → from_be_bytes w text < 2 ^ (8 * byte_len w)
  pub signs : (n : ℕ) → n < 2 ^ (8 * byte_len w) → FitsSigned w (cast_signed w n)

signed_fits : (w : Width) (n : ℕ) (low : Bool) → ltb n (2 ^ hbits w) ≡ low → 2 ^ bits w ≡ 2 * 2 ^ hbits w → 0 < 2 ^ hbits w → FitsSigned w (cond low (pos n) (negsuc (2 ^ bits w - suc n)))
signed_fits w n true is twice some = record { sfits = ltb-true n (2 ^ hbits w) is }
signed_fits w n false is twice some = record { sfits = let le = ltb-false n (2 ^ hbits w) is in omega arith }

wide8 : IsWide w8
wide8 = record { below = λ text fits. omega (arith, fits 0); signs = λ n lt. signed_fits w8 n _ refl refl (omega arith) }

wide16 : IsWide w16
wide16 = record { below = λ text fits. omega (arith, fits 0, fits 1); signs = λ n lt. signed_fits w16 n _ refl refl (omega arith) }

wide32 : IsWide w32
wide32 = record { below = λ text fits. omega (arith, fits 0, fits 1, fits 2, fits 3); signs = λ n lt. signed_fits w32 n _ refl refl (omega arith) }

pub slot_wide : (wide : Bool) → IsWide (slot_width wide)
slot_wide true = wide16
slot_wide false = wide8

-- ---- parts of bytes

fits_front : (front rest text : List ℕ) → text ≡ front ++ rest → IsBytes text → IsBytes front
fits_front [] rest text parts fits k = omega arith
fits_front (b ∷ front) rest text parts fits zero = let first = fits 0 in subst (λ t. get_or t 0 0 < 256) parts first
fits_front (b ∷ front) rest text parts fits (suc k) = fits_front front rest (front ++ rest) refl (λ j. subst (λ t. get_or t (suc j) 0 < 256) parts (fits (suc j))) k

fits_rest : (front rest text : List ℕ) → text ≡ front ++ rest → IsBytes text → IsBytes rest
fits_rest [] rest text parts fits k = subst (λ t. get_or t k 0 < 256) parts (fits k)
fits_rest (b ∷ front) rest text parts fits k = fits_rest front rest (front ++ rest) refl (λ j. subst (λ t. get_or t (suc j) 0 < 256) parts (fits (suc j))) k

module _ {A B : Type 0} {P : Format A} {Q : A → Format B} {text : List ℕ} {y : B} (h : AreInTurn P Q text y) where
  pub turn_len : length text ≡ length h.front + length h.rest
  turn_len = ap length h.parts ∙ length-append h.front h.rest

  pub front_fits : IsBytes text → IsBytes h.front
  front_fits fits = fits_front h.front h.rest text h.parts fits

  pub rest_fits : IsBytes text → IsBytes h.rest
  rest_fits fits = fits_rest h.front h.rest text h.parts fits

-- ---- numbers

pub number_fits : (at : ℕ) (w : Width) (text : List ℕ) (n : ℕ) → IsWide w → (number at w).Spells text n → IsBytes text → FitsNumber w n
number_fits at w text n wide h fits = subst (FitsNumber w) h.1 (wide.below text fits)

pub signed_len : (at : ℕ) (w : Width) (text : List ℕ) (n : ℤ) → (number_signed at w).Spells text n → length text ≡ byte_len w
signed_len at w text n h = let none = ap length h.second.1 in let first = h.first.0 in omega (arith, turn_len h)

pub signed_number : (at : ℕ) (w : Width) (text : List ℕ) (n : ℤ) → IsWide w → (number_signed at w).Spells text n → IsBytes text → FitsSigned w n
signed_number at w text n wide h fits = subst (FitsSigned w) (sym h.second.0) (wide.signs h.x (number_fits at w h.front h.x wide h.first (front_fits h fits)))

clamped-le : (z : ℤ) → target_clamped z ≤ 65535
clamped-le (pos n) = by_case (leb n 65535) refl
  where
    by_case : (b : Bool) → leb n 65535 ≡ b → cond b n 65535 ≤ 65535
    by_case true is = omega (arith, leb-true n 65535 is)
    by_case false is = omega arith
clamped-le (negsuc n) = omega arith

pub target_len : (at : ℕ) (w : Width) (text : List ℕ) (t : ℕ) → (target at w).Spells text t → length text ≡ byte_len w
target_len at w text t h = let none = ap length h.second.1 in let first = signed_len at w h.front h.x h.first in omega (arith, turn_len h)

pub target_le : (at : ℕ) (w : Width) (text : List ℕ) (t : ℕ) → (target at w).Spells text t → t ≤ 65535
target_le at w text t h = subst (λ n. n ≤ 65535) (sym h.second.0) (clamped-le (pos at +ℤ h.x))

-- ---- lists

pub record AreMany {A : Type 0} (P : Format A) (len n : ℕ) (text : List ℕ) (xs : List A) : Type 0 where
  pub count : length xs ≡ n
  pub long : length text ≡ len * n

pub many_spelled : {A : Type 0} (P : Format A) (len : ℕ) → ((text : List ℕ) (x : A) → P.Spells text x → length text ≡ len)
    → (n : ℕ) (text : List ℕ) (xs : List A) → (many P n).Spells text xs → AreMany P len n text xs
many_spelled P len each zero text xs h = record { count = ap length h.0; long = ap length h.1 ∙ omega arith }
many_spelled {A = A} P len each (suc n) text xs h =
    let rest = many_spelled P len each n h.second.front h.second.x h.second.first in
    let first = each h.front h.x h.first in
    let none = ap length h.second.second.1 in
    let value_made = ap (λ (ys : List A). length ys) h.second.second.0 in
    let outer = turn_len h in
    let inner = turn_len h.second in
    let so = rest.long in
    record { count = value_made ∙ ap suc rest.count; long = by_sum (length text) (length h.front) (length h.rest) (length h.second.front) (length h.second.rest) len n outer first inner so none }
  where
    by_sum : (t f r sf sr l n : ℕ) → t ≡ f + r → f ≡ l → r ≡ sf + sr → sf ≡ l * n → sr ≡ 0 → t ≡ l * suc n
    by_sum t f r sf sr l n e1 e2 e3 e4 e5 = grind arith

pub many_each : {A : Type 0} (P : Format A) (Q : A → Type 0) → ((text : List ℕ) (x : A) → IsBytes text → P.Spells text x → Q x)
    → (n : ℕ) (text : List ℕ) (xs : List A) → IsBytes text → (many P n).Spells text xs → AllByRecursion Q xs
many_each P Q each zero text xs fits h = subst (AllByRecursion Q) (sym h.0) tt
many_each P Q each (suc n) text xs fits h =
    let rest = many_each P Q each n h.second.front h.second.x (front_fits h.second (rest_fits h fits)) h.second.first in
    subst (AllByRecursion Q) (sym h.second.second.0) (each h.front h.x (front_fits h fits) h.first, rest)

-- ---- the forms

-- the operand of each form
abbrev pub HasShape : Form → Arg → Type 0
HasShape form.Plain arg = arg ≡ Plain
HasShape form.Byte arg = (n : ℤ) × (arg ≡ Value n)
HasShape form.Short arg = (n : ℤ) × (arg ≡ Value n)
HasShape form.PoolByte arg = (index : ℕ) × (arg ≡ Pool index)
HasShape form.Pool arg = (index : ℕ) × (arg ≡ Pool index)
HasShape form.Local arg = (slot : ℕ) × (arg ≡ Local slot)
HasShape form.Inc arg = (slot : ℕ) × (n : ℤ) × (arg ≡ Inc slot n)
HasShape form.Jump arg = (t : ℕ) × (arg ≡ Target t)
HasShape form.JumpWide arg = (t : ℕ) × (arg ≡ Target t)
HasShape form.Table arg = (default : ℕ) × (low : ℤ) × (targets : List ℕ) × (arg ≡ Table default low targets)
HasShape form.Lookup arg = (default : ℕ) × (keys : List ℤ) × (targets : List ℕ) × (arg ≡ Lookup default keys targets) × (keys_rise keys ≡ true)
HasShape form.Interface arg = (index : ℕ) × (count : ℕ) × (last : ℕ) × (arg ≡ Interface index count last)
HasShape form.Multi arg = (index : ℕ) × (dimensions : ℕ) × (arg ≡ Multi index dimensions)
HasShape form.Array arg = (kind : ℕ) × (arg ≡ Array kind)
HasShape form.Wide arg = ⊥
HasShape form.Unknown arg = ⊥

abbrev pub EachTarget : Arg → Type 0
EachTarget arg = AllByRecursion (λ t. t ≤ 65535) (targets_of arg)

-- a branch offset that leads into a code was spelled there
abbrev pub IsNearTo : ℕ → Width → Arg → Type 0
IsNearTo at w (Target t) = t < 65535 → FitsSigned w (distance at t)
IsNearTo at w _ = Unit {0}

-- what is known of an operand that bytes spell
pub record IsSpelled (f : Form) (wide : Bool) (at : ℕ) (text : List ℕ) (arg : Arg) : Type 0 where
  pub shape : HasShape f arg
  pub long : length text ≡ operand_len at (operand_width wide f) arg
  pub fits : IsBytes text → FitsOperand (operand_width wide f) arg
  pub targets : EachTarget arg
  pub near : IsBytes text → IsNearTo at (operand_width wide f) arg

-- one number
module _ {A : Type 0} (P : Format A) (make : A → Arg) (len : ℕ) (each : (text : List ℕ) (x : A) → P.Spells text x → length text ≡ len) where
  pub one_len : (text : List ℕ) (arg : Arg) (h : AreInTurn P (λ x. value_made (make x)) text arg) → length text ≡ len
  one_len text arg h = let none = ap length h.second.1 in let first = each h.front h.x h.first in omega (arith, turn_len h)

value_spelled : (f : Form) (wide : Bool) (at : ℕ) (w : Width) → IsWide w → w ≡ operand_width wide f → ((n : ℤ) → HasShape f (Value n))
    → (text : List ℕ) (arg : Arg) → AreInTurn (number_signed at w) (λ n. value_made (Value n)) text arg → IsSpelled f wide at text arg
value_spelled f wide at w iswide is shaped text arg h =
    let same : arg ≡ Value h.x = h.second.0 in
    let len = one_len (number_signed at w) Value (byte_len w) (signed_len at w) text arg h in
    subst (IsSpelled f wide at text) (sym same) (record {
      shape = shaped h.x;
      long = len ∙ ap byte_len is;
      fits = λ bytes. subst (λ v. FitsOperand v (Value h.x)) is (signed_number at w h.front h.x iswide h.first (front_fits h bytes));
      targets = tt;
      near = λ bytes. tt;
    })

number_spelled : (f : Form) (wide : Bool) (at : ℕ) (w : Width) (make : ℕ → Arg) → IsWide w → ((n : ℕ) → HasShape f (make n))
    → ((n : ℕ) → byte_len w ≡ operand_len at (operand_width wide f) (make n)) → ((n : ℕ) → FitsNumber w n → FitsOperand (operand_width wide f) (make n)) → ((n : ℕ) → EachTarget (make n)) → ((n : ℕ) → IsNearTo at (operand_width wide f) (make n))
    → (text : List ℕ) (arg : Arg) → AreInTurn (number at w) (λ n. value_made (make n)) text arg → IsSpelled f wide at text arg
number_spelled f wide at w make iswide shaped long fitting leading nearing text arg h =
    let same : arg ≡ make h.x = h.second.0 in
    let len = one_len (number at w) make (byte_len w) (λ t n e. e.0) text arg h in
    subst (IsSpelled f wide at text) (sym same) (record {
      shape = shaped h.x;
      long = len ∙ long h.x;
      fits = λ bytes. fitting h.x (number_fits at w h.front h.x iswide h.first (front_fits h bytes));
      targets = leading h.x;
      near = λ bytes. nearing h.x;
    })

-- a target that was not clamped is where its branch offset leads
unclamped : (at : ℕ) (d : ℤ) → target_reached at d < 65535 → distance at (target_reached at d) ≡ d
unclamped at d below = by_sum (pos at +ℤ d) refl below
  where
    by_kept : (n : ℕ) (b : Bool) → pos at +ℤ d ≡ pos n → cond b n 65535 < 65535 → pos (cond b n 65535) -ℤ pos at ≡ d
    by_kept n true e lt = omega (arith, ints)
    by_kept n false e lt = absurd (omega arith)

    by_sum : (z : ℤ) → pos at +ℤ d ≡ z → target_clamped z < 65535 → pos (target_clamped z) -ℤ pos at ≡ d
    by_sum (pos n) e lt = by_kept n (leb n 65535) e lt
    by_sum (negsuc n) e lt = absurd (omega arith)

target_near : (at : ℕ) (w : Width) (text : List ℕ) (t : ℕ) → IsWide w → (target at w).Spells text t → IsBytes text → t < 65535 → FitsSigned w (distance at t)
target_near at w text t iswide h bytes below =
    let same : t ≡ target_reached at h.x = h.second.0 in
    let back : distance at t ≡ h.x = ap (distance at) same ∙ unclamped at h.x (subst (λ n. n < 65535) same below) in
    subst (FitsSigned w) (sym back) (signed_number at w h.front h.x iswide h.first (front_fits h bytes))

branch_spelled : (f : Form) (wide : Bool) (at : ℕ) (w : Width) → IsWide w → 2 ≤ byte_len w → w ≡ operand_width wide f → ((t : ℕ) → HasShape f (Target t))
    → (text : List ℕ) (arg : Arg) → AreInTurn (target at w) (λ t. value_made (Target t)) text arg → IsSpelled f wide at text arg
branch_spelled f wide at w iswide two is shaped text arg h =
    let same : arg ≡ Target h.x = h.second.0 in
    let len = one_len (target at w) Target (byte_len w) (target_len at w) text arg h in
    subst (IsSpelled f wide at text) (sym same) (record {
      shape = shaped h.x;
      long = len ∙ ap byte_len is;
      fits = λ bytes. subst (λ v. 2 ≤ byte_len v) is two;
      targets = (target_le at w h.front h.x h.first, tt);
      near = λ bytes. subst (λ v. IsNearTo at v (Target h.x)) is (target_near at w h.front h.x iswide h.first (front_fits h bytes));
    })

inc_spelled : (wide : Bool) (at : ℕ) (text : List ℕ) (arg : Arg) → (operand form.Inc wide at).Spells text arg → IsSpelled form.Inc wide at text arg
inc_spelled wide at text arg h =
    let w = slot_width wide in
    let slot = h.x in
    let n = h.second.x in
    let same : arg ≡ Inc slot n = h.second.second.0 in
    let none = ap length h.second.second.1 in
    let one = h.first.0 in
    let two = signed_len at w h.second.front n h.second.first in
    subst (IsSpelled form.Inc wide at text) (sym same) (record {
      shape = (slot, n, refl);
      long = omega (arith, turn_len h, turn_len h.second);
      fits = λ bytes. (
        number_fits at w h.front slot (slot_wide wide) h.first (front_fits h bytes),
        signed_number at w h.second.front n (slot_wide wide) h.second.first (front_fits h.second (rest_fits h bytes)),
      );
      targets = tt;
      near = λ bytes. tt;
    })

interface_spelled : (wide : Bool) (at : ℕ) (text : List ℕ) (arg : Arg) → (operand form.Interface wide at).Spells text arg → IsSpelled form.Interface wide at text arg
interface_spelled wide at text arg h =
    let inner = h.second in
    let last = h.second.second in
    let same : arg ≡ Interface h.x inner.x last.x = last.second.0 in
    let none = ap length last.second.1 in
    let one = h.first.0 in
    let two = inner.first.0 in
    let three = last.first.0 in
    subst (IsSpelled form.Interface wide at text) (sym same) (record {
      shape = (h.x, inner.x, last.x, refl);
      long = omega (arith, turn_len h, turn_len inner, turn_len last);
      fits = λ bytes. (
        number_fits at w16 h.front h.x wide16 h.first (front_fits h bytes),
        number_fits at w8 inner.front inner.x wide8 inner.first (front_fits inner (rest_fits h bytes)),
        number_fits at w8 last.front last.x wide8 last.first (front_fits last (rest_fits inner (rest_fits h bytes))),
      );
      targets = tt;
      near = λ bytes. tt;
    })

multi_spelled : (wide : Bool) (at : ℕ) (text : List ℕ) (arg : Arg) → (operand form.Multi wide at).Spells text arg → IsSpelled form.Multi wide at text arg
multi_spelled wide at text arg h =
    let inner = h.second in
    let same : arg ≡ Multi h.x inner.x = inner.second.0 in
    let none = ap length inner.second.1 in
    let one = h.first.0 in
    let two = inner.first.0 in
    subst (IsSpelled form.Multi wide at text) (sym same) (record {
      shape = (h.x, inner.x, refl);
      long = omega (arith, turn_len h, turn_len inner);
      fits = λ bytes. (number_fits at w16 h.front h.x wide16 h.first (front_fits h bytes), number_fits at w8 inner.front inner.x wide8 inner.first (front_fits inner (rest_fits h bytes)));
      targets = tt;
      near = λ bytes. tt;
    })

-- ---- switches

-- a tableswitch's cases go from low to high
pub cases_from : (low high : ℤ) (n : ℕ) → int_le low high ≡ true → n ≡ case_count low high → (1 ≤ n) × ((low +ℤ pos n) -ℤ pos 1 ≡ high)
cases_from low high n is count = by_gap (high -ℤ low) refl count
  where
    by_gap : (z : ℤ) → high -ℤ low ≡ z → n ≡ offsets_counted z → (1 ≤ n) × ((low +ℤ pos n) -ℤ pos 1 ≡ high)
    by_gap (pos m) gap e = (omega arith, omega (arith, ints))
    by_gap (negsuc m) gap e =
        let le : low ≤ℤ high = le_z_yes (subst T (sym is) tt) in
        absurd (omega (arith, ints))

abbrev EachLe : List ℕ → Type 0
EachLe ts = AllByRecursion (λ t. t ≤ 65535) ts

table_spelled : (wide : Bool) (at : ℕ) (text : List ℕ) (arg : Arg) → (table at).Spells text arg → IsSpelled form.Table wide at text arg
table_spelled wide at text arg h =
    let d = h.second in
    let l = d.second in
    let g = l.second in
    let ts = g.second in
    let same : arg ≡ Table d.x l.x ts.x = ts.second.0 in
    let cases_spelled = many_spelled (target at w32) 4 (target_len at w32) (case_count l.x g.x) ts.front ts.x ts.first in
    let count = cases_spelled.count in
    let long = cases_spelled.long in
    let high_tested = tested_to (number_signed at w32) (λ high. int_le l.x high) g.front g.x g.first in
    let cases = cases_from l.x g.x (length ts.x) high_tested.1 count in
    let none = ap length ts.second.1 in
    let pad = ap length h.first.0 ∙ h.first.1 in
    let one = target_len at w32 d.front d.x d.first in
    let two = signed_len at w32 l.front l.x l.first in
    let three = signed_len at w32 g.front g.x high_tested.0 in
    subst (IsSpelled form.Table wide at text) (sym same) (record {
      shape = (d.x, l.x, ts.x, refl);
      long = by_sum (length ts.x) (turn_len h) (turn_len d) (turn_len l) (turn_len g) (turn_len ts) pad one two three (long ∙ ap (λ n. 4 * n) (sym count)) none;
      fits = λ bytes. (
          let at_low = rest_fits d (rest_fits h bytes) in
          let low = signed_number at w32 l.front l.x wide32 l.first (front_fits l at_low) in
          let high = signed_number at w32 g.front g.x wide32 high_tested.0 (front_fits g (rest_fits l at_low)) in
          (cases.0, low, subst (FitsSigned w32) (sym cases.1) high));
      targets = (target_le at w32 d.front d.x d.first, many_le at (case_count l.x g.x) ts.front ts.x ts.first);
      near = λ bytes. tt;
    })
  where
    by_sum : {a b c e f p q r s u v k : ℕ} (n : ℕ) → a ≡ p + b → b ≡ q + c → c ≡ r + e → e ≡ s + f → f ≡ u + v → p ≡ k → q ≡ 4 → r ≡ 4 → s ≡ 4 → u ≡ 4 * n → v ≡ 0 → a ≡ k + 12 + 4 * n
    by_sum n e1 e2 e3 e4 e5 e6 e7 e8 e9 e10 e11 = omega arith

    many_le : (at n : ℕ) (u ts : List ℕ) → (many (target at w32) n).Spells u ts → EachLe ts
    many_le at zero u ts e = subst EachLe (sym e.0) tt
    many_le at (suc n) u ts e = subst EachLe (sym e.second.second.0) (target_le at w32 e.front e.x e.first, many_le at n e.second.front e.second.x e.second.first)

pair_len : (at : ℕ) (text : List ℕ) (x : ℤ × ℕ) → (pair at).Spells text x → length text ≡ 8
pair_len at text x h =
    let none = ap length h.second.second.1 in
    let one = signed_len at w32 h.front h.x h.first in
    let two = target_len at w32 h.second.front h.second.x h.second.first in
    omega (arith, turn_len h, turn_len h.second)

pair_key : (at : ℕ) (text : List ℕ) (x : ℤ × ℕ) → IsBytes text → (pair at).Spells text x → FitsSigned w32 x.0
pair_key at text x bytes h =
    let key : x.0 ≡ h.x = ap key_of h.second.second.0 in
    subst (FitsSigned w32) (sym key) (signed_number at w32 h.front h.x wide32 h.first (front_fits h bytes))

pair_target : (at : ℕ) (text : List ℕ) (x : ℤ × ℕ) → (pair at).Spells text x → x.1 ≤ 65535
pair_target at text x h =
    let t : x.1 ≡ h.second.x = ap target_of h.second.second.0 in
    subst (λ n. n ≤ 65535) (sym t) (target_le at w32 h.second.front h.second.x h.second.first)

keys_fit : (pairs : List (ℤ × ℕ)) → AllByRecursion (λ (x : ℤ × ℕ). FitsSigned w32 x.0) pairs → AllByRecursion (FitsSigned w32) (map key_of pairs)
keys_fit [] h = tt
keys_fit (x ∷ pairs) h = (h.0, keys_fit pairs h.1)

targets_le : (at n : ℕ) (text : List ℕ) (pairs : List (ℤ × ℕ)) → (many (pair at) n).Spells text pairs → EachLe (map target_of pairs)
targets_le at zero text pairs h = subst (λ (xs : List (ℤ × ℕ)). EachLe (map target_of xs)) (sym h.0) tt
targets_le at (suc n) text pairs h =
    subst (λ (xs : List (ℤ × ℕ)). EachLe (map target_of xs)) (sym h.second.second.0) (pair_target at h.front h.x h.first, targets_le at n h.second.front h.second.x h.second.first)

length-keys : (pairs : List (ℤ × ℕ)) → length (map key_of pairs) ≡ length pairs
length-keys [] = refl
length-keys (x ∷ pairs) = ap suc (length-keys pairs)

length-targets : (pairs : List (ℤ × ℕ)) → length (map target_of pairs) ≡ length pairs
length-targets [] = refl
length-targets (x ∷ pairs) = ap suc (length-targets pairs)

lookup_spelled : (wide : Bool) (at : ℕ) (text : List ℕ) (arg : Arg) → (lookup at).Spells text arg → IsSpelled form.Lookup wide at text arg
lookup_spelled wide at text arg h =
    let d = h.second in
    let n = d.second in
    let ps = n.second in
    let keys = map key_of ps.x in
    let targets = map target_of ps.x in
    let same : arg ≡ Lookup d.x keys targets = ps.second.0 in
    let counted = tested_to (number at w32) is_count n.front n.x n.first in
    let rising = tested_to (many (pair at) n.x) (λ pairs. keys_rise (map key_of pairs)) ps.front ps.x ps.first in
    let pairs_spelled = many_spelled (pair at) 8 (pair_len at) n.x ps.front ps.x rising.0 in
    let count = pairs_spelled.count in
    let long = pairs_spelled.long in
    let none = ap length ps.second.1 in
    let pad = ap length h.first.0 ∙ h.first.1 in
    let one = target_len at w32 d.front d.x d.first in
    let two = counted.0.0 in
    let few : n.x < 2147483648 = ltb-true n.x 2147483648 counted.1 in
    let ks = length-keys ps.x in
    let us = length-targets ps.x in
    subst (IsSpelled form.Lookup wide at text) (sym same) (record {
      shape = (d.x, keys, targets, refl, rising.1);
      long = by_sum (turn_len h) (turn_len d) (turn_len n) (turn_len ps) pad one two long none (ks ∙ count) (us ∙ count);
      fits = λ bytes. (
        ks ∙ sym us,
        omega arith,
        keys_fit ps.x (many_each (pair at) (λ (x : ℤ × ℕ). FitsSigned w32 x.0) (pair_key at) n.x ps.front ps.x (front_fits ps (rest_fits n (rest_fits d (rest_fits h bytes)))) rising.0),
      );
      targets = (target_le at w32 d.front d.x d.first, targets_le at n.x ps.front ps.x rising.0);
      near = λ bytes. tt;
    })
  where
    by_sum : {a b c e p q r u v k m i j : ℕ} → a ≡ p + b → b ≡ q + c → c ≡ r + e → e ≡ u + v → p ≡ k → q ≡ 4 → r ≡ 4 → u ≡ 8 * m → v ≡ 0 → i ≡ m → j ≡ m → a ≡ k + 8 + 8 * min i j
    by_sum e1 e2 e3 e4 e5 e6 e7 e8 e9 e10 e11 = omega arith

plain_spelled : (wide : Bool) (at : ℕ) (text : List ℕ) (arg : Arg) → (arg ≡ Plain) × (text ≡ []) → IsSpelled form.Plain wide at text arg
plain_spelled wide at text arg h =
    subst (IsSpelled form.Plain wide at text) (sym h.0) (record { shape = refl; long = ap length h.1; fits = λ bytes. tt; targets = tt; near = λ bytes. tt })

pub operand_spelled : (f : Form) (wide : Bool) (at : ℕ) (text : List ℕ) (arg : Arg) → (operand f wide at).Spells text arg → IsSpelled f wide at text arg
operand_spelled form.Plain wide at text arg h = plain_spelled wide at text arg h
operand_spelled form.Byte wide at text arg h = value_spelled form.Byte wide at w8 wide8 refl (λ n. (n, refl)) text arg h
operand_spelled form.Short wide at text arg h = value_spelled form.Short wide at w16 wide16 refl (λ n. (n, refl)) text arg h
operand_spelled form.PoolByte wide at text arg h = number_spelled form.PoolByte wide at w8 Pool wide8 (λ n. (n, refl)) (λ n. refl) (λ n fits. fits) (λ n. tt) (λ n. tt) text arg h
operand_spelled form.Pool wide at text arg h = number_spelled form.Pool wide at w16 Pool wide16 (λ n. (n, refl)) (λ n. refl) (λ n fits. fits) (λ n. tt) (λ n. tt) text arg h
operand_spelled form.Local wide at text arg h = number_spelled form.Local wide at (slot_width wide) Local (slot_wide wide) (λ n. (n, refl)) (λ n. refl) (λ n fits. fits) (λ n. tt) (λ n. tt) text arg h
operand_spelled form.Inc wide at text arg h = inc_spelled wide at text arg h
operand_spelled form.Jump wide at text arg h = branch_spelled form.Jump wide at w16 wide16 (omega arith) refl (λ t. (t, refl)) text arg h
operand_spelled form.JumpWide wide at text arg h = branch_spelled form.JumpWide wide at w32 wide32 (omega arith) refl (λ t. (t, refl)) text arg h
operand_spelled form.Table wide at text arg h = table_spelled wide at text arg h
operand_spelled form.Lookup wide at text arg h = lookup_spelled wide at text arg h
operand_spelled form.Interface wide at text arg h = interface_spelled wide at text arg h
operand_spelled form.Multi wide at text arg h = multi_spelled wide at text arg h
operand_spelled form.Array wide at text arg h = number_spelled form.Array wide at w8 Array wide8 (λ n. (n, refl)) (λ n. refl) (λ n fits. fits) (λ n. tt) (λ n. tt) text arg h
operand_spelled form.Wide wide at text arg h = absurd h
operand_spelled form.Unknown wide at text arg h = absurd h

-- ---- instructions

-- what is known of an instruction that bytes spell
pub record IsInstr (at : ℕ) (text : List ℕ) (i : Instr) : Type 0 where
  pub here : i.at ≡ at
  pub shape : HasShape (form_of i.wide i.op) i.arg
  pub long : length text ≡ size_at at i
  pub op : IsBytes text → i.op < 256
  pub fits : IsBytes text → FitsOperand (width_of i) i.arg
  pub targets : EachTarget i.arg
  pub near : IsBytes text → IsNearTo at (width_of i) i.arg

behind_spelled : (at : ℕ) (wide : Bool) (op : ℕ) (head text : List ℕ) (i : Instr) → length head ≡ length (opcode_bytes wide op) → (IsBytes (head ++ text) → op < 256)
    → (behind_opcode at wide op).Spells text i → IsInstr at (head ++ text) i
behind_spelled at wide op head text i heads byte h =
    let o = operand_spelled (form_of wide op) wide at h.front h.x h.first in
    let same : i ≡ instr_with at wide op h.x = h.second.0 in
    let none = ap length h.second.1 in
    let long = o.long in
    subst (IsInstr at (head ++ text)) (sym same) (record {
      here = refl;
      shape = o.shape;
      long = length-append head text ∙ omega (arith, turn_len h) ∙ sym (size_at-is at (instr_with at wide op h.x));
      op = byte;
      fits = λ bytes. o.fits (front_fits h (fits_rest head text (head ++ text) refl bytes));
      targets = o.targets;
      near = λ bytes. o.near (front_fits h (fits_rest head text (head ++ text) refl bytes));
    })

byte_of : (at : ℕ) (text : List ℕ) (n : ℕ) → (number at w8).Spells text n → IsBytes text → n < 256
byte_of at text n h bytes = number_fits at w8 text n wide8 h bytes

instruction_by : (at : ℕ) (b : Bool) (op : ℕ) (head text : List ℕ) (i : Instr) → (number at w8).Spells head op
    → (either b (behind_wide at) (behind_opcode at false op)).Spells text i → IsInstr at (head ++ text) i
instruction_by at true op head text i first h =
    let second = behind_spelled at true h.x (head ++ h.front) h.rest i
    (length-append head h.front ∙ ap (λ n. n + length h.front) first.0 ∙ ap (λ n. 1 + n) h.first.0)
    (λ bytes. byte_of at h.front h.x h.first (fits_rest head h.front (head ++ h.front) refl (fits_front (head ++ h.front) h.rest _ refl bytes))) h.second in
    let whole : (head ++ h.front) ++ h.rest ≡ head ++ text = append_assoc head h.front h.rest ∙ ap (λ t. head ++ t) (sym h.parts) in
    subst (λ t. IsInstr at t i) whole second
instruction_by at false op head text i first h =
    behind_spelled at false op head text i first.0 (λ bytes. byte_of at head op first (fits_front head text (head ++ text) refl bytes)) h

pub instruction_spelled : (at : ℕ) (text : List ℕ) (i : Instr) → (instruction at).Spells text i → IsInstr at text i
instruction_spelled at text i h =
    subst (λ t. IsInstr at t i) (sym h.parts) (instruction_by at (is_wide (row_of h.x).form) h.x h.front h.rest i h.first h.second)
