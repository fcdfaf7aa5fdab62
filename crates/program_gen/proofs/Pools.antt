-- A pool of a gap and entries that take one index each.
use Rattle.std.proofs.Common.{◌≡◌, ◌≢◌, ℕ, zero, suc, ◌+◌, ◌<◌, ◌≤◌, ◌*◌, ◌^◌, Bool, true, false, List, [], ◌∷◌, ◌++◌, length, Option, Some, None, slice_get, refl, ap, sym, ◌∙◌, subst, length-append, arith}
use Rattle.std.specs.Option.{option_and_then, option_map_or, ok_or}
use Rattle.std.specs.Result.{result_ok}
use Rattle.std.specs.List.{AllByRecursion, AllZip, flat_map}
use Rattle.std.proofs.lemmas.Option.{same_Some}
use Rattle.jf_bytes.proofs.Lists.{slice_get-front, each_push}
use Rattle.const_pool.specs.declared.pool.Const.{Const}
use Rattle.const_pool.specs.declared.pool.Const.TheVariants.{Gap, Utf8, Integer, Float, Long, Double, Class, Text, Field, Method, InterfaceMethod, NameType}
use Rattle.const_pool.specs.declared.pool.PoolError.TheVariants.{BadIndex}
use Rattle.const_pool.specs.BuiltIn.{probe_class}
use Rattle.const_pool.specs.References.{◌>>=◌, named_text, text_entry}
use Rattle.const_pool.specs.Pool.{entry_of, IsPool, IsEntry, AreEntries, Names, has_gaps, gaps_due, is_wide, entry_bytes, pool_bytes}
use Rattle.program_gen.specs.Generated.{IsNoProbe}

pub seam : {A : Type 0} (xs : List A) (x : A) → slice_get (xs ++ x ∷ []) (length xs) ≡ Some x
seam [] x = refl
seam (y ∷ xs) x = seam xs x

pub each-by : {A : Type 0} (P Q : A → Type 0) → ((x : A) → P x → Q x) → (xs : List A) → AllByRecursion P xs → AllByRecursion Q xs
each-by P Q f [] h = tt
each-by P Q f (x ∷ xs) h = (f x h.0, each-by P Q f xs h.1)

pub zip-push : {A B : Type 0} (R : A → B → Type 0) (xs : List A) (ys : List B) (x : A) (y : B) → AllZip R xs ys → R x y → AllZip R (xs ++ x ∷ []) (ys ++ y ∷ [])
zip-push R [] [] x y h r = (r, tt)
zip-push R [] (b ∷ ys) x y h r = absurd h
zip-push R (a ∷ xs) [] x y h r = absurd h
zip-push R (a ∷ xs) (b ∷ ys) x y h r = (h.0, zip-push R xs ys x y h.1 r)

pub zip-by : {A B : Type 0} (R S : A → B → Type 0) → ((x : A) (y : B) → R x y → S x y) → (xs : List A) (ys : List B) → AllZip R xs ys → AllZip S xs ys
zip-by R S f [] [] h = tt
zip-by R S f [] (b ∷ ys) h = absurd h
zip-by R S f (a ∷ xs) [] h = absurd h
zip-by R S f (a ∷ xs) (b ∷ ys) h = (f a b h.0, zip-by R S f xs ys h.1)

pub zip-each : {A B : Type 0} (R : A → B → Type 0) (Q : B → Type 0) → ((x : A) (y : B) → R x y → Q y) → (xs : List A) (ys : List B) → AllZip R xs ys → AllByRecursion Q ys
zip-each R Q f [] [] h = tt
zip-each R Q f [] (b ∷ ys) h = absurd h
zip-each R Q f (a ∷ xs) [] h = absurd h
zip-each R Q f (a ∷ xs) (b ∷ ys) h = (f a b h.0, zip-each R Q f xs ys h.1)

-- ---- what an index names, in a longer pool

pub names-at : (kind : Const → Bool) (pool : List Const) (i : ℕ) (c : Const) → slice_get pool i ≡ Some c → kind c ≡ true → Names kind pool i
names-at kind pool i c h k = ap (λ (o : Option Const). option_map_or kind o false) h ∙ k

names-more : (kind : Const → Bool) (pool more : List Const) (i : ℕ) → Names kind pool i → Names kind (pool ++ more) i
names-more kind pool more i h = by (slice_get pool i) refl
  where
    by : (o : Option Const) → slice_get pool i ≡ o → Names kind (pool ++ more) i
    by (Some c) e = ap (λ (o : Option Const). option_map_or kind o false) (slice_get-front pool more i c e) ∙ sym (ap (λ (o : Option Const). option_map_or kind o false) e) ∙ h
    by None e = let no = sym (ap (λ (o : Option Const). option_map_or kind o false) e) ∙ h in absurd cc

entry-more : (pool more : List Const) (c : Const) → IsEntry pool c → IsEntry (pool ++ more) c
entry-more pool more Gap h = h
entry-more pool more (Utf8 t) h = h
entry-more pool more (Integer n) h = h
entry-more pool more (Float n) h = h
entry-more pool more (Long n) h = h
entry-more pool more (Double n) h = h
entry-more pool more (Class i) h = (h.0, names-more _ pool more i h.1)
entry-more pool more (Text i) h = (h.0, names-more _ pool more i h.1)
entry-more pool more (Field c n) h = (h.0, h.1, names-more _ pool more c h.2, names-more _ pool more n h.3)
entry-more pool more (Method c n) h = (h.0, h.1, names-more _ pool more c h.2, names-more _ pool more n h.3)
entry-more pool more (InterfaceMethod c n) h = (h.0, h.1, names-more _ pool more c h.2, names-more _ pool more n h.3)
entry-more pool more (NameType n d) h = (h.0, h.1, names-more _ pool more n h.2, names-more _ pool more d h.3)

-- ---- the pools that are made here

-- a class that is not that of the probes
pub record IsOtherClass (pool : List Const) (i : ℕ) : Type 0 where
  pub text : List ℕ
  pub at : slice_get pool i ≡ Some (Utf8 text)
  pub other : text ≢ probe_class

abbrev pub IsOther : List Const → Const → Type 0
IsOther pool (Class i) = IsOtherClass pool i
IsOther pool _ = Unit {0}

other-more : (pool more : List Const) (c : Const) → IsOther pool c → IsOther (pool ++ more) c
other-more pool more Gap h = tt
other-more pool more (Utf8 t) h = tt
other-more pool more (Integer n) h = tt
other-more pool more (Float n) h = tt
other-more pool more (Long n) h = tt
other-more pool more (Double n) h = tt
other-more pool more (Class i) h = record { text = h.text; at = slice_get-front pool more i _ h.at; other = h.other }
other-more pool more (Text i) h = tt
other-more pool more (Field c n) h = tt
other-more pool more (Method c n) h = tt
other-more pool more (InterfaceMethod c n) h = tt
other-more pool more (NameType n d) h = tt

pub record IsNarrow (pool : List Const) (c : Const) : Type 0 where
  pub entry : IsEntry pool c
  pub narrow : is_wide c ≡ false
  pub few : length (entry_bytes c) ≤ 258
  pub other : IsOther pool c

pub record IsGood (n : ℕ) (pool : List Const) : Type 0 where
  pub entries : List Const
  pub is : pool ≡ Gap ∷ entries
  pub each : AllByRecursion (IsNarrow pool) entries
  pub count : length pool ≤ n

narrow-more : (pool more : List Const) (c : Const) → IsNarrow pool c → IsNarrow (pool ++ more) c
narrow-more pool more c h = record { entry = entry-more pool more c h.entry; narrow = h.narrow; few = h.few; other = other-more pool more c h.other }

pub good-push : (n : ℕ) (pool : List Const) (c : Const) → IsGood n pool → IsNarrow pool c → IsGood (suc n) (pool ++ c ∷ [])
good-push n pool c g h =
    let longer : length (pool ++ c ∷ []) ≤ suc n = push-count pool c n g.count in
    record {
      entries = g.entries ++ c ∷ [];
      is = ap (λ (p : List Const). p ++ c ∷ []) g.is;
      each = each_push (IsNarrow (pool ++ c ∷ [])) g.entries c
          (each-by (IsNarrow pool) (IsNarrow (pool ++ c ∷ [])) (narrow-more pool (c ∷ [])) g.entries g.each)
          (narrow-more pool (c ∷ []) c h);
      count = longer;
    }
  where
    push-count : (pool : List Const) (c : Const) (n : ℕ) → length pool ≤ n → length (pool ++ c ∷ []) ≤ suc n
    push-count [] c n h = omega arith
    push-count (x ∷ pool) c zero h = absurd (omega arith)
    push-count (x ∷ pool) c (suc n) h = let rest = push-count pool c n (omega arith) in omega (arith, rest)

pub good-wider : (n m : ℕ) (pool : List Const) → n ≤ m → IsGood n pool → IsGood m pool
good-wider n m pool h g = record { entries = g.entries; is = g.is; each = g.each; count = let c = g.count in omega (arith, c) }

-- ---- they are pools

narrow-gaps : (pool xs : List Const) → AllByRecursion (IsNarrow pool) xs → gaps_due false xs ≡ true
narrow-gaps pool [] h = refl
narrow-gaps pool (Utf8 t ∷ xs) h = narrow-gaps pool xs h.1
narrow-gaps pool (Integer n ∷ xs) h = narrow-gaps pool xs h.1
narrow-gaps pool (Float n ∷ xs) h = narrow-gaps pool xs h.1
narrow-gaps pool (Class i ∷ xs) h = narrow-gaps pool xs h.1
narrow-gaps pool (Text i ∷ xs) h = narrow-gaps pool xs h.1
narrow-gaps pool (Field c n ∷ xs) h = narrow-gaps pool xs h.1
narrow-gaps pool (Method c n ∷ xs) h = narrow-gaps pool xs h.1
narrow-gaps pool (InterfaceMethod c n ∷ xs) h = narrow-gaps pool xs h.1
narrow-gaps pool (NameType n d ∷ xs) h = narrow-gaps pool xs h.1
narrow-gaps pool (Long n ∷ xs) h = let no = h.0.narrow in absurd cc
narrow-gaps pool (Double n ∷ xs) h = let no = h.0.narrow in absurd cc
narrow-gaps pool (Gap ∷ xs) h = absurd h.0.entry

narrow-entries : (pool xs : List Const) → AllByRecursion (IsNarrow pool) xs → AreEntries pool xs
narrow-entries pool [] h = tt
narrow-entries pool (Utf8 t ∷ xs) h = (h.0.entry, narrow-entries pool xs h.1)
narrow-entries pool (Integer n ∷ xs) h = (h.0.entry, narrow-entries pool xs h.1)
narrow-entries pool (Float n ∷ xs) h = (h.0.entry, narrow-entries pool xs h.1)
narrow-entries pool (Class i ∷ xs) h = (h.0.entry, narrow-entries pool xs h.1)
narrow-entries pool (Text i ∷ xs) h = (h.0.entry, narrow-entries pool xs h.1)
narrow-entries pool (Field c n ∷ xs) h = (h.0.entry, narrow-entries pool xs h.1)
narrow-entries pool (Method c n ∷ xs) h = (h.0.entry, narrow-entries pool xs h.1)
narrow-entries pool (InterfaceMethod c n ∷ xs) h = (h.0.entry, narrow-entries pool xs h.1)
narrow-entries pool (NameType n d ∷ xs) h = (h.0.entry, narrow-entries pool xs h.1)
narrow-entries pool (Long n ∷ xs) h = let no = h.0.narrow in absurd cc
narrow-entries pool (Double n ∷ xs) h = let no = h.0.narrow in absurd cc
narrow-entries pool (Gap ∷ xs) h = absurd h.0.entry

pub good-gaps : (n : ℕ) (pool : List Const) → IsGood n pool → has_gaps pool ≡ true
good-gaps n pool g = ap has_gaps g.is ∙ narrow-gaps pool g.entries g.each

pub good-pool : (n : ℕ) (pool : List Const) → n < 2 ^ 16 → IsGood n pool → IsPool pool
good-pool n pool h g = record {
  count = let c = g.count in omega (arith, c);
  first = ap (λ (p : List Const). slice_get p 0) g.is;
  entries = λ rest e. subst (AreEntries pool) (tail-is g.entries rest (sym g.is ∙ e)) (narrow-entries pool g.entries g.each);
}
  where
    tail-is : (xs ys : List Const) → Gap ∷ xs ≡ Gap ∷ ys → xs ≡ ys
    tail-is xs ys e = cc

-- ---- none names the class of the probes

pub text-named : (pool : List Const) (i : ℕ) (t : List ℕ) → slice_get pool i ≡ Some (Utf8 t) → named_text pool i ≡ Some t
text-named pool i t h = ap (λ (o : Option Const). result_ok (ok_or (option_and_then entry_of o) BadIndex >>= text_entry)) h

narrow-own : (pool : List Const) (c : Const) → IsNarrow pool c → IsNoProbe pool c
narrow-own pool Gap h = tt
narrow-own pool (Utf8 t) h = tt
narrow-own pool (Integer n) h = tt
narrow-own pool (Float n) h = tt
narrow-own pool (Long n) h = tt
narrow-own pool (Double n) h = tt
narrow-own pool (Class i) h = λ e. h.other.other (same_Some _ _ (sym (text-named pool i h.other.text h.other.at) ∙ e))
narrow-own pool (Text i) h = tt
narrow-own pool (Field c n) h = tt
narrow-own pool (Method c n) h = tt
narrow-own pool (InterfaceMethod c n) h = tt
narrow-own pool (NameType n d) h = tt

pub good-own : (n : ℕ) (pool : List Const) → IsGood n pool → AllByRecursion (IsNoProbe pool) pool
good-own n pool g = subst (AllByRecursion (IsNoProbe pool)) (sym g.is) (tt, each-by (IsNarrow pool) (IsNoProbe pool) (narrow-own pool) g.entries g.each)

pub good-start : IsGood 1 (Gap ∷ [])
good-start = record { entries = []; is = refl; each = tt; count = omega arith }

-- ---- how many bytes they have

few-bytes : (pool xs : List Const) → AllByRecursion (IsNarrow pool) xs → length (flat_map entry_bytes xs) ≤ 258 * length xs
few-bytes pool [] h = omega arith
few-bytes pool (x ∷ xs) h =
    let here = h.0.few in
    let rest = few-bytes pool xs h.1 in
    let both = length-append (entry_bytes x) (flat_map entry_bytes xs) in
    omega (arith, both)

pub good-bytes : (n : ℕ) (pool : List Const) → IsGood n pool → length (pool_bytes pool) ≤ 2 + 258 * n
good-bytes n pool g =
    let count = g.count in
    let entries = few-bytes pool g.entries g.each in
    let all : length (flat_map entry_bytes pool) ≡ length (flat_map entry_bytes g.entries) = ap (λ (p : List Const). length (flat_map entry_bytes p)) g.is in
    let longer : length pool ≡ suc (length g.entries) = ap length g.is in
    omega (arith, all, longer, entries, count)
