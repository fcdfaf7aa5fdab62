-- A member is found in its bucket first exactly where it is found first among all.
use Rattle.std.proofs.Common.{◌≡◌, ℕ, zero, suc, ◌+◌, ◌<◌, ◌%◌, Bool, true, false, List, [], ◌∷◌, ◌++◌, length, map, ap, ap₂, sym, subst, refl, ◌∙◌, arith, length-append, slice_get, slice_set}
use Rattle.std.specs.Prelude.{Some, find, position, replicate, unwrap_or, ◌==◌, if◌then◌else◌}
use Rattle.std.specs.List.{position_from}
use Rattle.std.specs.Option.{option_map, option_map_or}
use Rattle.std.proofs.lemmas.Iterator.Adapters.{position_from-zero}
use Rattle.std.proofs.lemmas.List.{append_assoc, append-nil, length-replicate, length-set}
use Rattle.std.proofs.lemmas.Bool.{and_parts, false≢true, eqb-true}
use Rattle.jf_bytes.proofs.Tests.{equals_itself}
use Rattle.const_pool.specs.declared.class.ClassFile.{ClassFile}
use Rattle.const_pool.specs.declared.class.Member.{Member}
use Rattle.const_pool.specs.declared.pool.Const.{Const}
use Rattle.const_pool.specs.References.{NameAndType, same_text_at}
use Rattle.jvm_model.specs.Basis.Methods.{is_member, method_from, method_named}
use Rattle.jvm_model.specs.Basis.SharedState.{field_named}
use Rattle.class_index.specs.declared.table.MemberBuckets.{MemberBuckets}
use Rattle.class_index.specs.Buckets.{bucket_at, buckets_of, filled_from, is_at, member_number, member_sought, number_of, table_of, with_position}
use Rattle.class_index.proofs.MemberTexts.{text_is}

-- ---- one bucket

bucket-set_same : (buckets : List (List ℕ)) (h : ℕ) (b : List ℕ) → h < length buckets → bucket_at (slice_set buckets h b) h ≡ b
bucket-set_same [] h b within = absurd (omega arith)
bucket-set_same (x ∷ buckets) zero b within = refl
bucket-set_same (x ∷ buckets) (suc h) b within = bucket-set_same buckets h b (omega arith)

bucket-set_other : (buckets : List (List ℕ)) (k h : ℕ) (b : List ℕ) → (k == h) ≡ false → bucket_at (slice_set buckets k b) h ≡ bucket_at buckets h
bucket-set_other [] k h b other = refl
bucket-set_other (x ∷ buckets) zero zero b other = absurd (false≢true (sym other))
bucket-set_other (x ∷ buckets) zero (suc h) b other = refl
bucket-set_other (x ∷ buckets) (suc k) zero b other = refl
bucket-set_other (x ∷ buckets) (suc k) (suc h) b other = bucket-set_other buckets k h b (less k h other)
  where
    less : (k h : ℕ) → (suc k == suc h) ≡ false → (k == h) ≡ false
    less k h e = grind (arith)

bucket-empty : (n h : ℕ) → bucket_at (replicate n []) h ≡ []
bucket-empty zero h = refl
bucket-empty (suc n) zero = refl
bucket-empty (suc n) (suc h) = bucket-empty n h

-- the positions whose members belong into it
abbrev own : ℕ → List Const → ℕ → ℕ → List Member → List ℕ
own size pool h at [] = []
own size pool h at (m ∷ ms) = if (member_number pool m % size) == h then at ∷ own size pool h (at + 1) ms else own size pool h (at + 1) ms

filled : (size : ℕ) (pool : List Const) (h at : ℕ) (ms : List Member) (buckets : List (List ℕ)) → h < length buckets
    → bucket_at (filled_from size pool at ms buckets) h ≡ bucket_at buckets h ++ own size pool h at ms
filled size pool h at [] buckets within = sym (append-nil (bucket_at buckets h))
filled size pool h at (m ∷ ms) buckets within =
    filled size pool h (at + 1) ms (with_position buckets (member_number pool m % size) at)
    (subst (λ n. h < n) (sym (length-set buckets (member_number pool m % size) (bucket_at buckets (member_number pool m % size) ++ at ∷ []))) within)
    ∙ by ((member_number pool m % size) == h) refl
  where
    by : (b : Bool) → ((member_number pool m % size) == h) ≡ b
        → bucket_at (with_position buckets (member_number pool m % size) at) h ++ own size pool h (at + 1) ms
        ≡ bucket_at buckets h ++ (if b then at ∷ own size pool h (at + 1) ms else own size pool h (at + 1) ms)
    by true same =
        let e = eqb-true (member_number pool m % size) h same in
        ap (λ k. bucket_at (with_position buckets k at) h ++ own size pool h (at + 1) ms) e
        ∙ (ap (λ l. l ++ own size pool h (at + 1) ms) (bucket-set_same buckets h (bucket_at buckets h ++ at ∷ []) within)
        ∙ append_assoc (bucket_at buckets h) (at ∷ []) (own size pool h (at + 1) ms))
    by false other =
        ap (λ l. l ++ own size pool h (at + 1) ms) (bucket-set_other buckets (member_number pool m % size) h (bucket_at buckets (member_number pool m % size) ++ at ∷ []) other)

filled-length : (size : ℕ) (pool : List Const) (at : ℕ) (ms : List Member) (buckets : List (List ℕ)) → length (filled_from size pool at ms buckets) ≡ length buckets
filled-length size pool at [] buckets = refl
filled-length size pool at (m ∷ ms) buckets =
    filled-length size pool (at + 1) ms (with_position buckets (member_number pool m % size) at)
    ∙ length-set buckets (member_number pool m % size) (bucket_at buckets (member_number pool m % size) ++ at ∷ [])

pub buckets-length : (pool : List Const) (members : List Member) → length (buckets_of pool members) ≡ length members + 1
buckets-length pool members = filled-length (length members + 1) pool 0 members (replicate (length members + 1) []) ∙ length-replicate (length members + 1) []

-- ---- a member that has the wanted texts has their number

number_is : (pool : List Const) (w : NameAndType) (m : Member) → is_member pool w m ≡ true → member_number pool m ≡ number_of w
number_is pool w m h =
    let parts = and_parts (same_text_at pool m.name w.name) (same_text_at pool m.descriptor w.descriptor) h in
    ap₂ (λ n d. number_of (record { name = unwrap_or n []; descriptor = unwrap_or d [] })) (text_is pool m.name w.name parts.0) (text_is pool m.descriptor w.descriptor parts.1)

stands_at : (before : List Member) (m : Member) (ms : List Member) → slice_get (before ++ m ∷ ms) (length before) ≡ Some m
stands_at [] m ms = refl
stands_at (x ∷ before) m ms = stands_at before m ms

module _ (size : ℕ) (pool : List Const) (w : NameAndType) where
  -- the members before come first
  found_first : (before ms : List Member)
      → find (is_at pool (before ++ ms) w) (own size pool (number_of w % size) (length before) ms) ≡ method_from pool w (length before) ms
  found_first before [] = refl
  found_first before (m ∷ ms) =
      by (is_member pool w m) ((member_number pool m % size) == (number_of w % size)) refl refl (moved (found_first (before ++ m ∷ []) ms))
    where
      moved : find (is_at pool ((before ++ m ∷ []) ++ ms) w) (own size pool (number_of w % size) (length (before ++ m ∷ [])) ms) ≡ method_from pool w (length (before ++ m ∷ [])) ms
          → find (is_at pool (before ++ m ∷ ms) w) (own size pool (number_of w % size) (length before + 1) ms) ≡ method_from pool w (length before + 1) ms
      moved h =
          let longer : length (before ++ m ∷ []) ≡ length before + 1 = length-append before (m ∷ []) in
          ap₂ (λ l n. find (is_at pool l w) (own size pool (number_of w % size) n ms)) (sym (append_assoc before (m ∷ []) ms)) (sym longer)
          ∙ (h ∙ ap (λ n. method_from pool w n ms) longer)

      here : (b : Bool) → is_member pool w m ≡ b → is_at pool (before ++ m ∷ ms) w (length before) ≡ b
      here b is = ap (λ o. option_map_or (is_member pool w) o false) (stands_at before m ms) ∙ is

      by : (a b : Bool) → is_member pool w m ≡ a → ((member_number pool m % size) == (number_of w % size)) ≡ b
          → find (is_at pool (before ++ m ∷ ms) w) (own size pool (number_of w % size) (length before + 1) ms) ≡ method_from pool w (length before + 1) ms
          → find (is_at pool (before ++ m ∷ ms) w)
          (if b then length before ∷ own size pool (number_of w % size) (length before + 1) ms else own size pool (number_of w % size) (length before + 1) ms)
          ≡ (if a then Some (length before) else method_from pool w (length before + 1) ms)
      by true true is same rest =
          ap (λ c. if c then Some (length before) else find (is_at pool (before ++ m ∷ ms) w) (own size pool (number_of w % size) (length before + 1) ms)) (here true is)
      by true false is same rest =
          absurd (false≢true (sym same ∙ (ap (λ n. (n % size) == (number_of w % size)) (number_is pool w m is) ∙ equals_itself (number_of w % size))))
      by false true is same rest =
          ap (λ c. if c then Some (length before) else find (is_at pool (before ++ m ∷ ms) w) (own size pool (number_of w % size) (length before + 1) ms)) (here false is) ∙ rest
      by false false is same rest = rest

pub sought_is : (pool : List Const) (members : List Member) (w : NameAndType) → member_sought pool members (buckets_of pool members) w ≡ method_from pool w 0 members
sought_is pool members w =
    ap (λ n. find (is_at pool members w) (bucket_at (buckets_of pool members) (number_of w % n))) (buckets-length pool members)
    ∙ (ap (find (is_at pool members w))
    (filled (length members + 1) pool (number_of w % (length members + 1)) 0 members (replicate (length members + 1) [])
    (subst (λ n. number_of w % (length members + 1) < n) (sym (length-replicate (length members + 1) [])) (small (number_of w) (length members)))
    ∙ ap (λ l. l ++ own (length members + 1) pool (number_of w % (length members + 1)) 0 members) (bucket-empty (length members + 1) (number_of w % (length members + 1))))
    ∙ found_first (length members + 1) pool w [] members)
  where
    small : (n k : ℕ) → n % (k + 1) < k + 1
    small n k = omega arith

from_is : (pool : List Const) (w : NameAndType) (n : ℕ) (ms : List Member) → method_from pool w n ms ≡ position_from (is_member pool w) n ms
from_is pool w n [] = refl
from_is pool w n (m ∷ ms) = ap (λ o. if is_member pool w m then Some n else o) (from_is pool w (n + 1) ms)

pub field_sought_is : (pool : List Const) (members : List Member) (w : NameAndType)
    → member_sought pool members (buckets_of pool members) w ≡ position (is_member pool w) members
field_sought_is pool members w = sought_is pool members w ∙ (from_is pool w 0 members ∙ sym (position_from-zero (is_member pool w) members))

pub slice_get-map : {A B : Type 0} (f : A → B) (xs : List A) (i : ℕ) → slice_get (map f xs) i ≡ option_map f (slice_get xs i)
slice_get-map f [] i = refl
slice_get-map f (x ∷ xs) zero = refl
slice_get-map f (x ∷ xs) (suc i) = slice_get-map f xs i

pub table_at : (cs : List ClassFile) (i : ℕ) → slice_get (map table_of cs) i ≡ option_map table_of (slice_get cs i)
table_at cs i = slice_get-map table_of cs i

pub method_found : (c : ClassFile) (t : MemberBuckets) (w : NameAndType) → t ≡ table_of c → member_sought c.pool c.methods t.methods w ≡ method_named c w
method_found c t w is = ap (λ (t : MemberBuckets). member_sought c.pool c.methods t.methods w) is ∙ sought_is c.pool c.methods w

pub field_found : (c : ClassFile) (t : MemberBuckets) (w : NameAndType) → t ≡ table_of c → member_sought c.pool c.fields t.fields w ≡ field_named w c
field_found c t w is = ap (λ (t : MemberBuckets). member_sought c.pool c.fields t.fields w) is ∙ field_sought_is c.pool c.fields w

some : (n k : ℕ) → n ≡ k + 1 → 0 < n
some n k e = omega (arith, e)

pub methods_some : (c : ClassFile) (t : MemberBuckets) → t ≡ table_of c → 0 < length t.methods
methods_some c t is = some (length t.methods) (length c.methods) (ap (λ (t : MemberBuckets). length t.methods) is ∙ buckets-length c.pool c.methods)

pub fields_some : (c : ClassFile) (t : MemberBuckets) → t ≡ table_of c → 0 < length t.fields
fields_some c t is = some (length t.fields) (length c.fields) (ap (λ (t : MemberBuckets). length t.fields) is ∙ buckets-length c.pool c.fields)
