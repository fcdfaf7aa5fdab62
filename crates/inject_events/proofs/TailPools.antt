-- A pool with its tail is one of a class file, and what an entry of the pool named is named by it still.
use Rattle.std.proofs.Common.{◌≡◌, ℕ, zero, suc, ◌+◌, ◌<◌, ◌≤◌, ◌^◌, Bool, true, false, List, [], ◌∷◌, ◌++◌, length, Option, Some, slice_get, drop, refl, sym, ap, subst, ◌∙◌, arith}
use Rattle.std.specs.Option.{option_map_or}
use Rattle.std.specs.Prelude.{codes, nat_lt}
use Rattle.std.specs.List.{AllByRecursion, list_all}
use Rattle.std.proofs.lemmas.Bool.{and_parts, ltb-true}
use Rattle.std.proofs.lemmas.Option.{none-some, same_Some}
use Rattle.std.proofs.Math.Nat.{add-zero}
use Rattle.std.proofs.lemmas.List.{length-append}
use Rattle.jf_bytes.proofs.Lists.{slice_get-front}
use Rattle.const_pool.specs.declared.pool.Const.{Const}
use Rattle.const_pool.specs.declared.pool.Const.TheVariants.{Gap, Utf8, Integer, Float, Long, Double, Class, Text, Field, Method, InterfaceMethod, NameType}
use Rattle.const_pool.specs.Pool.{Names, IsEntry, AreEntries, IsPool, is_utf8, is_class, is_name_type}
use Rattle.const_pool.specs.Tail.{tail_entries, with_tail}
use Rattle.jvm_model.proofs.Images.ImagePools.{tail-entry}

-- ---- with more entries behind them

pub names-more : (kind : Const → Bool) (pool more : List Const) (i : ℕ) → Names kind pool i → Names kind (pool ++ more) i
names-more kind [] more i named = absurd cc
names-more kind (c ∷ pool) more zero named = named
names-more kind (c ∷ pool) more (suc i) named = names-more kind pool more i named

entry-more : (pool more : List Const) (c : Const) → IsEntry pool c → IsEntry (pool ++ more) c
entry-more pool more Gap is = is
entry-more pool more (Utf8 t) is = is
entry-more pool more (Integer n) is = is
entry-more pool more (Float n) is = is
entry-more pool more (Long n) is = is
entry-more pool more (Double n) is = is
entry-more pool more (Class i) is = (is.0, names-more is_utf8 pool more i is.1)
entry-more pool more (Text i) is = (is.0, names-more is_utf8 pool more i is.1)
entry-more pool more (Field c n) is = (is.0, is.1, names-more is_class pool more c is.2, names-more is_name_type pool more n is.3)
entry-more pool more (Method c n) is = (is.0, is.1, names-more is_class pool more c is.2, names-more is_name_type pool more n is.3)
entry-more pool more (InterfaceMethod c n) is = (is.0, is.1, names-more is_class pool more c is.2, names-more is_name_type pool more n is.3)
entry-more pool more (NameType n d) is = (is.0, is.1, names-more is_utf8 pool more n is.2, names-more is_utf8 pool more d is.3)

-- entries of the old pool, and behind them those of the tail
entries-more : (pool more rest : List Const) → AreEntries pool rest → AreEntries (pool ++ more) more → AreEntries (pool ++ more) (rest ++ more)
entries-more pool more [] are tail = tail
entries-more pool more (Gap ∷ rest) are tail = absurd are.0
entries-more pool more (Long n ∷ Gap ∷ rest) are tail = (are.0, entries-more pool more rest are.1 tail)
entries-more pool more (Double n ∷ Gap ∷ rest) are tail = (are.0, entries-more pool more rest are.1 tail)
entries-more pool more (Long n ∷ rest) are tail = absurd are
entries-more pool more (Double n ∷ rest) are tail = absurd are
entries-more pool more (Utf8 t ∷ rest) are tail = (are.0, entries-more pool more rest are.1 tail)
entries-more pool more (Integer n ∷ rest) are tail = (are.0, entries-more pool more rest are.1 tail)
entries-more pool more (Float n ∷ rest) are tail = (are.0, entries-more pool more rest are.1 tail)
entries-more pool more (Class i ∷ rest) are tail = (entry-more pool more (Class i) are.0, entries-more pool more rest are.1 tail)
entries-more pool more (Text i ∷ rest) are tail = (entry-more pool more (Text i) are.0, entries-more pool more rest are.1 tail)
entries-more pool more (Field c n ∷ rest) are tail = (entry-more pool more (Field c n) are.0, entries-more pool more rest are.1 tail)
entries-more pool more (Method c n ∷ rest) are tail = (entry-more pool more (Method c n) are.0, entries-more pool more rest are.1 tail)
entries-more pool more (InterfaceMethod c n ∷ rest) are tail = (entry-more pool more (InterfaceMethod c n) are.0, entries-more pool more rest are.1 tail)
entries-more pool more (NameType n d ∷ rest) are tail = (entry-more pool more (NameType n d) are.0, entries-more pool more rest are.1 tail)

-- ---- the tail

-- what is named so far behind the pool's own entries
pub names-tail : (kind : Const → Bool) (pool : List Const) (k : ℕ) (c : Const) → slice_get (tail_entries (length pool)) k ≡ Some c → kind c ≡ true → Names kind (with_tail pool) (length pool + k)
names-tail kind pool k c here is = ap (λ (o : Option Const). option_map_or kind o false) (tail-entry pool k ∙ here) ∙ is

names-first : (kind : Const → Bool) (pool : List Const) (c : Const) → slice_get (tail_entries (length pool)) 0 ≡ Some c → kind c ≡ true → Names kind (with_tail pool) (length pool)
names-first kind pool c here is = subst (Names kind (with_tail pool)) (add-zero (length pool)) (names-tail kind pool 0 c here is)

-- the units of a text of the tail
narrow : (t : List ℕ) → list_all (λ unit. nat_lt unit 65536) t ≡ true → AllByRecursion (λ unit. unit < 2 ^ 16) t
narrow [] is = tt
narrow (unit ∷ t) is =
    let both = and_parts (nat_lt unit 65536) (list_all (λ u. nat_lt u 65536) t) is in
    let below = ltb-true unit 65536 both.0 in
    (omega (arith, below), narrow t both.1)

tail-entries : (pool : List Const) → length pool + 18 ≤ 65535 → AreEntries (with_tail pool) (tail_entries (length pool))
tail-entries pool few =
    let n : ℕ = length pool in
    let text = names-tail is_utf8 pool in
    let descriptor : Names is_utf8 (with_tail pool) (n + 2) = names-tail is_utf8 pool 2 _ refl refl in
    let probe : Names is_class (with_tail pool) (n + 1) = names-tail is_class pool 1 _ refl refl in (
      (narrow (codes "jfluid/Probe") refl, omega arith),
      (
        (omega arith, names-first is_utf8 pool _ refl refl),
        (
          (narrow (codes "(I)V") refl, omega arith),
          (
            (narrow (codes "root") refl, omega arith),
            (
              (omega arith, omega arith, names-tail is_utf8 pool 3 _ refl refl, descriptor),
              (
                (omega arith, omega arith, probe, names-tail is_name_type pool 4 _ refl refl),
                (
                  (narrow (codes "enter") refl, omega arith),
                  (
                    (omega arith, omega arith, names-tail is_utf8 pool 6 _ refl refl, descriptor),
                    (
                      (omega arith, omega arith, probe, names-tail is_name_type pool 7 _ refl refl),
                      (
                        (narrow (codes "leave") refl, omega arith),
                        (
                          (omega arith, omega arith, names-tail is_utf8 pool 9 _ refl refl, descriptor),
                          (
                            (omega arith, omega arith, probe, names-tail is_name_type pool 10 _ refl refl),
                            (
                              (narrow (codes "unwind") refl, omega arith),
                              (
                                (omega arith, omega arith, names-tail is_utf8 pool 12 _ refl refl, descriptor),
                                (
                                  (omega arith, omega arith, probe, names-tail is_name_type pool 13 _ refl refl),
                                  (
                                    (narrow (codes "java/lang/Throwable") refl, omega arith),
                                    (
                                      (omega arith, names-tail is_utf8 pool 15 _ refl refl),
                                      (
                                        (narrow (codes "StackMapTable") refl, omega arith),
                                        tt,
                                      ),
                                    ),
                                  ),
                                ),
                              ),
                            ),
                          ),
                        ),
                      ),
                    ),
                  ),
                ),
              ),
            ),
          ),
        ),
      ),
    )

pub IsPool-with_tail : (pool : List Const) → IsPool pool → length pool + 18 ≤ 65535 → IsPool (with_tail pool)
IsPool-with_tail pool is few = record {
  count = let longer = length-append pool (tail_entries (length pool)) in omega arith;
  first = slice_get-front pool (tail_entries (length pool)) 0 Gap is.first;
  entries = λ rest same. by_first pool rest refl same;
}
  where
    by_first : (own rest : List Const) → pool ≡ own → own ++ tail_entries (length pool) ≡ Gap ∷ rest → AreEntries (with_tail pool) rest
    by_first [] rest same all = absurd (none-some Gap (sym (ap (λ (cs : List Const). slice_get cs 0) same) ∙ is.first))
    by_first (c ∷ own) rest same all =
        let gap : c ≡ Gap = same_Some c Gap (sym (ap (λ (cs : List Const). slice_get cs 0) same) ∙ is.first) in
        let entries = is.entries own (same ∙ ap (λ (x : Const). x ∷ own) gap) in
        let behind : own ++ tail_entries (length pool) ≡ rest = ap (drop 1) all in
        subst (AreEntries (with_tail pool)) behind (entries-more pool (tail_entries (length pool)) own entries (tail-entries pool few))
