-- Members agree exactly where their keys do.
use Rattle.std.proofs.Common.{◌≡◌, ℕ, Bool, true, false, List, [], ◌∷◌, ◌++◌, map, Option, Some, None, refl, sym, ap, ◌∙◌, eqb}
use Rattle.std.specs.Prelude.{◌&&◌, ◌||◌, if◌then◌else◌}
use Rattle.std.specs.List.{list_any}
use Rattle.std.specs.Option.{option_and_then, option_map}
use Rattle.std.proofs.Math.Bool.{and-false, and_assoc}
use Rattle.const_pool.specs.declared.pool.Const.{Const}
use Rattle.const_pool.specs.declared.class.Member.{Member}
use Rattle.const_pool.specs.References.{named_text}
use Rattle.jvm_model.specs.Basis.Descriptors.{same_text}
use Rattle.admit_check.specs.Shapes.{same_named, is_same_member, has_twin_behind, has_twins}
use Rattle.admit_check.specs.Twins.{key_text, member_key, has_key, with_key, has_key_twice}

-- ---- texts

pub same_key_text : (n m d e : List ℕ) → same_text (key_text n d) (key_text m e) ≡ (same_text n m && same_text d e)
same_key_text [] [] d e = refl
same_key_text [] (v ∷ m) d e = refl
same_key_text (u ∷ n) [] d e = refl
same_key_text (u ∷ n) (v ∷ m) d e = ap (λ b. eqb u v && b) (same_key_text n m d e) ∙ sym (and_assoc (eqb u v) (same_text n m) (same_text d e))

-- ---- keys, where a text may be missing

abbrev key_of : Option (List ℕ) → Option (List ℕ) → Option (List ℕ)
key_of name descriptor = option_and_then (λ n. option_map (key_text n) descriptor) name

same_keys : (n d m e : Option (List ℕ)) → same_named (key_of n d) (key_of m e) ≡ (same_named n m && same_named d e)
same_keys (Some n) (Some d) (Some m) (Some e) = same_key_text n m d e
same_keys (Some n) (Some d) (Some m) None = sym (and-false (same_text n m))
same_keys (Some n) None (Some m) (Some e) = sym (and-false (same_text n m))
same_keys (Some n) None (Some m) None = sym (and-false (same_text n m))
same_keys (Some n) (Some d) None e = refl
same_keys (Some n) None None e = refl
same_keys None d m e = refl

pub same_member : (pool : List Const) (a b : Member) → same_named (member_key pool a) (member_key pool b) ≡ is_same_member pool a b
same_member pool a b = same_keys (named_text pool a.name) (named_text pool a.descriptor) (named_text pool b.name) (named_text pool b.descriptor)

-- ---- the keys of those before

abbrev pub with_front : Option (List ℕ) → List (List ℕ) → List (List ℕ)
with_front None keys = keys
with_front (Some key) keys = key ∷ keys

abbrev pub keys_of : List Const → List Member → List (List ℕ)
keys_of pool [] = []
keys_of pool (m ∷ rest) = with_front (member_key pool m) (keys_of pool rest)

append-none : (keys : List (List ℕ)) → keys ++ [] ≡ keys
append-none [] = refl
append-none (key ∷ keys) = ap (λ rest. key ∷ rest) (append-none keys)

with_front-append : (key : Option (List ℕ)) (a b : List (List ℕ)) → with_front key (a ++ b) ≡ with_front key a ++ b
with_front-append None a b = refl
with_front-append (Some key) a b = refl

keys_of-push : (pool : List Const) (before : List Member) (m : Member) → keys_of pool (before ++ m ∷ []) ≡ keys_of pool before ++ with_front (member_key pool m) []
keys_of-push pool [] m = refl
keys_of-push pool (b ∷ before) m =
    ap (with_front (member_key pool b)) (keys_of-push pool before m) ∙ with_front-append (member_key pool b) (keys_of pool before) (with_front (member_key pool m) [])

with_key-new : (keys : List (List ℕ)) (key : Option (List ℕ)) → has_key keys key ≡ false → with_key keys key ≡ keys ++ with_front key []
with_key-new keys None new = sym (append-none keys)
with_key-new keys (Some key) new = ap (λ b. if b then keys else keys ++ key ∷ []) new

has_key-front : (key front : Option (List ℕ)) (keys : List (List ℕ)) → has_key (with_front front keys) key ≡ (same_named key front || has_key keys key)
has_key-front None None keys = refl
has_key-front None (Some f) keys = refl
has_key-front (Some k) None keys = refl
has_key-front (Some k) (Some f) keys = refl

has_key-none : (key : Option (List ℕ)) → has_key [] key ≡ false
has_key-none None = refl
has_key-none (Some k) = refl

has_key-of : (pool : List Const) (m : Member) (before : List Member) → has_key (keys_of pool before) (member_key pool m) ≡ list_any (is_same_member pool m) before
has_key-of pool m [] = has_key-none (member_key pool m)
has_key-of pool m (b ∷ before) =
    has_key-front (member_key pool m) (member_key pool b) (keys_of pool before)
    ∙ (ap (λ c. c || has_key (keys_of pool before) (member_key pool m)) (same_member pool m b)
    ∙ ap (λ c. is_same_member pool m b || c) (has_key-of pool m before))

or_step : (b c x y : Bool) → b ≡ c → (b ≡ false → x ≡ y) → (b || x) ≡ (c || y)
or_step true true x y e f = refl
or_step true false x y e f = cc e
or_step false true x y e f = cc e
or_step false false x y e f = f refl

twins-behind : (pool : List Const) (before rest : List Member) → has_key_twice (keys_of pool before) (map (member_key pool) rest) ≡ has_twin_behind pool before rest
twins-behind pool before [] = refl
twins-behind pool before (m ∷ rest) =
    or_step (has_key (keys_of pool before) (member_key pool m)) (list_any (is_same_member pool m) before) _ _ (has_key-of pool m before)
    (λ new. ap (λ keys. has_key_twice keys (map (member_key pool) rest)) (with_key-new (keys_of pool before) (member_key pool m) new ∙ sym (keys_of-push pool before m))
    ∙ twins-behind pool (before ++ m ∷ []) rest)

-- the walk over keys finds the members that agree
pub twins_by_keys : (pool : List Const) (members : List Member) → has_key_twice [] (map (member_key pool) members) ≡ has_twins pool members
twins_by_keys pool members = twins-behind pool [] members
