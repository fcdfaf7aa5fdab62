-- Bytes that are put to the begin of their room, with one more behind them.
use Rattle.std.proofs.Common.{◌≡◌, ℕ, ◌+◌, ◌-◌, ◌<◌, ◌≤◌, List, [], ◌∷◌, ◌++◌, length, take, drop, ap, sym, subst, ◌∙◌, append_assoc, length-append, arith}
use Rattle.std.specs.Prelude.{slice_set}
use Rattle.std.proofs.lemmas.List.{take_more_set, take-append-le, drop-take, length-drop, length-take-le, length-set, drop-append-le}
use Rattle.event_buffer.specs.Records.{leb128}
use Rattle.event_buffer.specs.Rooms.{room_of, between}
use Rattle.event_buffer.proofs.Leb128.{leb128-small}

turned-length : (from : ℕ) (bytes : List ℕ) → from ≤ length bytes → length (drop from bytes ++ take from bytes) ≡ length bytes
turned-length from bytes le =
    let sum = length-append (drop from bytes) (take from bytes) in
    omega (arith, sum, length-drop from bytes, length-take-le from bytes le)

turned-between : (from count : ℕ) (bytes : List ℕ) → from + count ≤ length bytes → take count (drop from bytes ++ take from bytes) ≡ drop from (take (from + count) bytes)
turned-between from count bytes le =
    take-append-le count (drop from bytes) (take from bytes) (omega (arith, length-drop from bytes, le)) ∙ sym (drop-take from count bytes)

pub moved-view : (from end : ℕ) (bytes ys : List ℕ) (byte : ℕ) → ys ≡ drop from bytes ++ take from bytes → from ≤ end → end ≤ length bytes
    → length (between from end bytes) < length bytes
    → room_of (between 0 (end - from + 1) (slice_set ys (end - from) byte)) (length (slice_set ys (end - from) byte)) ≡ room_of (between from end bytes ++ byte ∷ []) (length bytes)
moved-view from end bytes ys byte e order within less =
    let count : ℕ = end - from in
    let whole : from + count ≡ end = omega (arith, order) in
    let held : length (between from end bytes) ≡ count = omega (arith, length-drop from (take end bytes), length-take-le end bytes within) in
    let same : length ys ≡ length bytes = ap length e ∙ turned-length from bytes (omega (arith, order, within)) in
    let more : take (count + 1) (slice_set ys count byte) ≡ take count ys ++ byte ∷ [] = take_more_set ys count byte (omega (arith, same, held, less)) in
    let front : take count ys ≡ between from end bytes =
    ap (take count) e ∙ turned-between from count bytes (omega (arith, whole, within)) ∙ ap (λ n. drop from (take n bytes)) whole in
    ap (λ xs. room_of xs (length (slice_set ys count byte))) (more ∙ ap (λ xs. xs ++ byte ∷ []) front)
    ∙ ap (room_of (between from end bytes ++ byte ∷ [])) (length-set ys count byte ∙ same)

-- three bytes behind those that are held
three-more : (end : ℕ) (bytes : List ℕ) (a b c : ℕ) → end + 3 ≤ length bytes
    → take (end + 3) (slice_set (slice_set (slice_set bytes end a) (end + 1) b) (end + 2) c) ≡ take end bytes ++ a ∷ b ∷ c ∷ []
three-more end bytes a b c within =
    let one : List ℕ = slice_set bytes end a in
    let two : List ℕ = slice_set one (end + 1) b in
    let long_one : length one ≡ length bytes = length-set bytes end a in
    let long_two : length two ≡ length bytes = length-set one (end + 1) b ∙ long_one in
    let first : take (end + 1) one ≡ take end bytes ++ a ∷ [] = take_more_set bytes end a (omega (arith, within)) in
    let second : take (end + 1 + 1) two ≡ take (end + 1) one ++ b ∷ [] = take_more_set one (end + 1) b (omega (arith, within, long_one)) in
    let third : take (end + 2 + 1) (slice_set two (end + 2) c) ≡ take (end + 2) two ++ c ∷ [] = take_more_set two (end + 2) c (omega (arith, within, long_two)) in
    let at : end + 1 + 1 ≡ end + 2 = omega arith in
    let last : end + 2 + 1 ≡ end + 3 = omega arith in
    let both : take (end + 2) two ≡ (take end bytes ++ a ∷ []) ++ b ∷ [] = subst (λ n. take n two ≡ (take end bytes ++ a ∷ []) ++ b ∷ []) at (second ∙ ap (λ xs. xs ++ b ∷ []) first) in
    subst (λ n. take n (slice_set two (end + 2) c) ≡ take end bytes ++ a ∷ b ∷ c ∷ []) last
    (third ∙ (ap (λ xs. xs ++ c ∷ []) (both ∙ append_assoc (take end bytes) (a ∷ []) (b ∷ [])) ∙ append_assoc (take end bytes) (a ∷ b ∷ []) (c ∷ [])))

pub three-view : (from end : ℕ) (bytes : List ℕ) (a b c : ℕ) → from ≤ end → end + 3 ≤ length bytes
    → room_of (between from (end + 3) (slice_set (slice_set (slice_set bytes end a) (end + 1) b) (end + 2) c)) (length (slice_set (slice_set (slice_set bytes end a) (end + 1) b) (end + 2) c))
    ≡ room_of (between from end bytes ++ a ∷ b ∷ c ∷ []) (length bytes)
three-view from end bytes a b c order within =
    let one : List ℕ = slice_set bytes end a in
    let two : List ℕ = slice_set one (end + 1) b in
    let held : from ≤ length (take end bytes) = omega (arith, length-take-le end bytes (omega (arith, within)), order) in
    ap (λ xs. room_of (drop from xs) (length (slice_set two (end + 2) c))) (three-more end bytes a b c within)
    ∙ ap (λ xs. room_of xs (length (slice_set two (end + 2) c))) (drop-append-le from (take end bytes) (a ∷ b ∷ c ∷ []) held)
    ∙ ap (room_of (between from end bytes ++ a ∷ b ∷ c ∷ [])) (length-set two (end + 2) c ∙ (length-set one (end + 1) b ∙ length-set bytes end a))

-- a record of small numbers
pub small-record : (kind method more : ℕ) → method < 128 → more < 128 → kind ∷ (leb128 method ++ leb128 more) ≡ kind ∷ method ∷ more ∷ []
small-record kind method more m n = ap (λ xs. kind ∷ (xs ++ leb128 more)) (leb128-small method m) ∙ ap (λ xs. kind ∷ method ∷ xs) (leb128-small more n)
