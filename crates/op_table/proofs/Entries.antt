-- What the checker computes over the whole tables, and what it says at each entry.
use Rattle.std.proofs.Common.{◌≡◌, ℕ, ◌<◌, ◌≤◌, Bool, true, false, ◌||◌, ◌↔◌, map, length, get_or, Some, sym, ◌∙◌, subst, refl, arith}
use Rattle.std.specs.Prelude.{slice_get, nat_le, ◌==◌, IsTrue}
use Rattle.std.specs.Bool.{Decides, beq}
use Rattle.std.specs.Cmp.{booleans_Decides}
use Rattle.std.specs.Int.{is_in_range, IsInRange}
use Rattle.std.specs.List.{list_all, range_with_len}
use Rattle.std.proofs.lemmas.Bool.{false≢true}
use Rattle.std.proofs.lemmas.Bool.Decides.{Decides-and, nat_tests, Decides-eqb, Decides-or}
use Rattle.std.proofs.lemmas.List.FromFn.{length-range_with_len, get_or-range_with_len, length-map-range_with_len, get_or-map-range_with_len}
use Rattle.std.proofs.lemmas.List.Sums.{AllPass-from_list_all}
use Rattle.std.proofs.lemmas.Option.{slice_get_within, get_or_from_slice_get}
use Rattle.op_table.specs.declared.Form.{Form}
use Rattle.op_table.specs.declared.Form.TheVariants.{Table, Lookup, Wide, Unknown}
use Rattle.op_table.specs.declared.OpRow.{OpRow}
use Rattle.op_table.specs.declared.tables.TheConstants.{OPS, WIDE_OPS}
use Rattle.op_table.specs.Opcodes.{groups, row_of, wide_groups, wide_row_of, HasNoFixedSize, NeverGoesOn, IsReturn}

-- ---- the constants are the definitions' rows

pub ops_are : OPS ≡ map row_of (range_with_len 0 256)
unfolding row_of groups
ops_are = refl

pub wide_ops_are : WIDE_OPS ≡ map wide_row_of (range_with_len 0 256)
unfolding wide_row_of wide_groups
wide_ops_are = refl

-- the rule at each entry
entry_of : (f : ℕ → OpRow) (n i : ℕ) (r : OpRow) → slice_get (map f (range_with_len 0 n)) i ≡ Some r → r ≡ f i
entry_of f n i r h =
    let within = slice_get_within (map f (range_with_len 0 n)) i r h in
    let below : i < n = subst (λ k. i < k) (length-map-range_with_len f 0 n) within in
    sym (get_or_from_slice_get (map f (range_with_len 0 n)) i r r h) ∙ get_or-map-range_with_len f 0 n i i r below (omega arith)

pub row_at : (op : ℕ) (r : OpRow) → slice_get OPS op ≡ Some r → r ≡ row_of op
row_at op r h = entry_of row_of 256 op r (subst (λ rows. slice_get rows op ≡ Some r) ops_are h)

pub wide_row_at : (op : ℕ) (r : OpRow) → slice_get WIDE_OPS op ≡ Some r → r ≡ wide_row_of op
wide_row_at op r h = entry_of wide_row_of 256 op r (subst (λ rows. slice_get rows op ≡ Some r) wide_ops_are h)

-- ---- facts over the whole tables

-- what was computed of all holds of each
pub holds_below : (p : ℕ → Bool) (n k : ℕ) → list_all p (range_with_len 0 n) ≡ true → k < n → p k ≡ true
holds_below p n k e h =
    let within : k < length (range_with_len 0 n) = subst (λ m. k < m) (sym (length-range_with_len 0 n)) h in
    let here : get_or (range_with_len 0 n) k 0 ≡ k = get_or-range_with_len 0 n k 0 h ∙ omega arith in
    subst (λ m. p m ≡ true) here (AllPass-from_list_all p (range_with_len 0 n) e k 0 within)

abbrev has_no_fixed_size : Form → Bool
has_no_fixed_size Table = true
has_no_fixed_size Lookup = true
has_no_fixed_size Wide = true
has_no_fixed_size Unknown = true
has_no_fixed_size _ = false

Decides-has_no_fixed_size : (f : Form) → Decides (has_no_fixed_size f) (HasNoFixedSize f)
Decides-has_no_fixed_size Table = (λ h. tt, λ h. refl)
Decides-has_no_fixed_size Lookup = (λ h. tt, λ h. refl)
Decides-has_no_fixed_size Wide = (λ h. tt, λ h. refl)
Decides-has_no_fixed_size Unknown = (λ h. tt, λ h. refl)
Decides-has_no_fixed_size _ = (λ h. absurd (false≢true h), λ h. absurd h)

Decides-nat_le : (a b : ℕ) → Decides (nat_le a b) (a ≤ b)
Decides-nat_le a b = (λ e. grind (arith, nat_tests), λ h. grind (arith, nat_tests))

Decides-is_in_range : (lo hi c : ℕ) → Decides (is_in_range lo hi c) (IsInRange lo hi c)
Decides-is_in_range lo hi c = Decides-and (nat_le lo c) (nat_le c hi) (Decides-nat_le lo c) (Decides-nat_le c hi)

abbrev never_goes_on : ℕ → Bool
never_goes_on op = (op == 167) || (is_in_range 169 177 op || ((op == 191) || (op == 200)))

Decides-never_goes_on : (op : ℕ) → Decides (never_goes_on op) (NeverGoesOn op)
Decides-never_goes_on op =
    Decides-or (op == 167) _ (Decides-eqb op 167)
    (Decides-or (is_in_range 169 177 op) _ (Decides-is_in_range 169 177 op)
    (Decides-or (op == 191) (op == 200) (Decides-eqb op 191) (Decides-eqb op 200)))

returns_fit : list_all (λ op. beq (row_of op).returns (is_in_range 172 177 op)) (range_with_len 0 256) ≡ true
unfolding row_of groups
returns_fit = refl

none_returns : list_all (λ op. beq (wide_row_of op).returns false) (range_with_len 0 256) ≡ true
unfolding wide_row_of wide_groups
none_returns = refl

sizes_fit : list_all (λ op. beq ((row_of op).size == 0) (has_no_fixed_size (row_of op).form)) (range_with_len 0 256) ≡ true
unfolding row_of groups
sizes_fit = refl

ends_fit : list_all (λ op. beq (row_of op).ends (never_goes_on op)) (range_with_len 0 256) ≡ true
unfolding row_of groups
ends_fit = refl

wide_sizes_fit : list_all (λ op. beq ((wide_row_of op).size == 0) (has_no_fixed_size (wide_row_of op).form)) (range_with_len 0 256) ≡ true
unfolding wide_row_of wide_groups
wide_sizes_fit = refl

wide_ends_fit : list_all (λ op. beq (wide_row_of op).ends (op == 169)) (range_with_len 0 256) ≡ true
unfolding wide_row_of wide_groups
wide_ends_fit = refl

-- ---- those facts at each opcode

iff_from_decides : {P Q : Type 0} (b c : Bool) → b ≡ c → Decides b P → Decides c Q → P ↔ Q
iff_from_decides b c e p q = (λ h. q.0 (sym e ∙ p.1 h), λ h. p.0 (e ∙ q.1 h))

sizeless_at : (f : ℕ → OpRow) (op : ℕ) → list_all (λ k. beq ((f k).size == 0) (has_no_fixed_size (f k).form)) (range_with_len 0 256) ≡ true → op < 256 → ((f op).size ≡ 0) ↔ HasNoFixedSize (f op).form
sizeless_at f op e h =
    let agree = (booleans_Decides _ _).0 (holds_below (λ k. beq ((f k).size == 0) (has_no_fixed_size (f k).form)) 256 op e h) in
    iff_from_decides _ _ agree (Decides-eqb (f op).size 0) (Decides-has_no_fixed_size (f op).form)

ending_at : (f : ℕ → OpRow) (test : ℕ → Bool) (P : ℕ → Type 0) (op : ℕ) → list_all (λ k. beq (f k).ends (test k)) (range_with_len 0 256) ≡ true → Decides (test op) (P op) → op < 256 → IsTrue (f op).ends ↔ P op
ending_at f test P op e d h =
    let agree = (booleans_Decides _ _).0 (holds_below (λ k. beq (f k).ends (test k)) 256 op e h) in
    iff_from_decides (f op).ends (test op) agree (λ t. t, λ t. t) d

pub row_of-sizeless : (op : ℕ) → op < 256 → ((row_of op).size ≡ 0) ↔ HasNoFixedSize (row_of op).form
row_of-sizeless op h = sizeless_at row_of op sizes_fit h

pub row_of-ending : (op : ℕ) → op < 256 → IsTrue (row_of op).ends ↔ NeverGoesOn op
row_of-ending op h = ending_at row_of never_goes_on NeverGoesOn op ends_fit (Decides-never_goes_on op) h

pub wide_row_of-sizeless : (op : ℕ) → op < 256 → ((wide_row_of op).size ≡ 0) ↔ HasNoFixedSize (wide_row_of op).form
wide_row_of-sizeless op h = sizeless_at wide_row_of op wide_sizes_fit h

pub wide_row_of-ending : (op : ℕ) → op < 256 → IsTrue (wide_row_of op).ends ↔ (op ≡ 169)
wide_row_of-ending op h = ending_at wide_row_of (λ k. k == 169) (λ k. k ≡ 169) op wide_ends_fit (Decides-eqb op 169) h

pub row_of-returning : (op : ℕ) → op < 256 → IsTrue (row_of op).returns ↔ IsReturn op
row_of-returning op h =
    let agree = (booleans_Decides _ _).0 (holds_below (λ k. beq (row_of k).returns (is_in_range 172 177 k)) 256 op returns_fit h) in
    iff_from_decides (row_of op).returns (is_in_range 172 177 op) agree (λ t. t, λ t. t) (Decides-is_in_range 172 177 op)

pub wide_row_of-staying : (op : ℕ) → op < 256 → (wide_row_of op).returns ≡ false
wide_row_of-staying op h = (booleans_Decides _ _).0 (holds_below (λ k. beq (wide_row_of k).returns false) 256 op none_returns h)
