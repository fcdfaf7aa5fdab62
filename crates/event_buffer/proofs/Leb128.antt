-- LEB128 read back, and its length.
use Rattle.std.proofs.Common.{◌≡◌, ℕ, zero, suc, ◌+◌, ◌-◌, ◌*◌, ◌/◌, ◌%◌, ◌<◌, ◌≤◌, ◌^◌, Bool, true, false, List, [], ◌∷◌, ◌++◌, length, refl, ap, sym, ◌∙◌, subst, if◌then◌else◌, arith}
use Rattle.std.specs.Prelude.{nat_lt}
use Rattle.std.proofs.lemmas.Bool.{ltb-true, ltb-false, lt-ltb, le-ltb}
use Rattle.std.proofs.lemmas.Nat.{div-add-mod'}
use Rattle.event_buffer.specs.Records.{leb128, leb128_within}
use Rattle.std.proofs.Common.{append_assoc, length-append}
use Rattle.event_buffer.specs.Rooms.{Room, room_of}
use Rattle.event_buffer.specs.Reading.{number_in, behind_number}

within-small : (k n : ℕ) → n < 128 → leb128_within k n ≡ n ∷ []
within-small zero n h = refl
within-small (suc k) n h = ap (λ b. if b then n ∷ [] else (n % 128 + 128) ∷ leb128_within k (n / 128)) (lt-ltb n 128 h)

within-large : (k n : ℕ) → 128 ≤ n → leb128_within (suc k) n ≡ (n % 128 + 128) ∷ leb128_within k (n / 128)
within-large k n h = ap (λ b. if b then n ∷ [] else (n % 128 + 128) ∷ leb128_within k (n / 128)) (le-ltb n 128 h)

pub quotient-below : (k n : ℕ) → n ≤ suc k → 128 ≤ n → n / 128 ≤ k
quotient-below k n h large = let parts = div-add-mod' n 128 in omega (arith, parts)

within-same : (j k n : ℕ) → n ≤ j → n ≤ k → leb128_within j n ≡ leb128_within k n
within-same zero k n p q = let h : n < 128 = omega arith in sym (within-small k n h)
within-same (suc j) zero n p q = let h : n < 128 = omega arith in within-small (suc j) n h
within-same (suc j) (suc k) n p q = by (nat_lt n 128) refl (λ large. within-same j k (n / 128) (quotient-below j n p large) (quotient-below k n q large))
  where
    by : (b : Bool) → nat_lt n 128 ≡ b → (128 ≤ n → leb128_within j (n / 128) ≡ leb128_within k (n / 128))
        → leb128_within (suc j) n ≡ leb128_within (suc k) n
    by true e rest = within-small (suc j) n (ltb-true n 128 e) ∙ sym (within-small (suc k) n (ltb-true n 128 e))
    by false e rest =
        let large = ltb-false n 128 e in
        within-large j n large ∙ ap (λ bytes. (n % 128 + 128) ∷ bytes) (rest large) ∙ sym (within-large k n large)

pub leb128-small : (n : ℕ) → n < 128 → leb128 n ≡ n ∷ []
unfolding leb128
leb128-small n h = within-small n n h

pub leb128-large : (n : ℕ) → 128 ≤ n → leb128 n ≡ (n % 128 + 128) ∷ leb128 (n / 128)
unfolding leb128
leb128-large zero h = absurd (omega arith)
leb128-large (suc n) h =
    within-large n (suc n) h
    ∙ ap (λ bytes. (suc n % 128 + 128) ∷ bytes) (within-same n (suc n / 128) (suc n / 128) (quotient-below n (suc n) (omega arith) h) (omega arith))

-- what is the number at the front, and what stands behind it
pub record IsFront (bytes : List ℕ) (n : ℕ) (rest : List ℕ) : Type 0 where
  pub value : number_in bytes ≡ n
  pub behind : behind_number bytes ≡ rest

front-small : (n : ℕ) (rest : List ℕ) → n < 128 → IsFront (n ∷ rest) n rest
front-small n rest h = record {
  value = ap (λ b. if b then n else (n - 128) + 128 * number_in rest) (lt-ltb n 128 h);
  behind = ap (λ b. if b then rest else behind_number rest) (lt-ltb n 128 h);
}

front-large : (byte : ℕ) (more : List ℕ) (n : ℕ) (rest : List ℕ) → 128 ≤ byte → IsFront more n rest → IsFront (byte ∷ more) ((byte - 128) + 128 * n) rest
front-large byte more n rest h front = record {
  value = ap (λ b. if b then byte else (byte - 128) + 128 * number_in more) (le-ltb byte 128 h) ∙ ap (λ m. (byte - 128) + 128 * m) front.value;
  behind = ap (λ b. if b then more else behind_number more) (le-ltb byte 128 h) ∙ front.behind;
}

front-within : (k n : ℕ) (rest : List ℕ) → n ≤ k → IsFront (leb128_within k n ++ rest) n rest
front-within zero n rest h = front-small n rest (omega arith)
front-within (suc k) n rest h = by (nat_lt n 128) refl (λ large. front-within k (n / 128) rest (quotient-below k n h large))
  where
    by : (b : Bool) → nat_lt n 128 ≡ b → (128 ≤ n → IsFront (leb128_within k (n / 128) ++ rest) (n / 128) rest)
        → IsFront (leb128_within (suc k) n ++ rest) n rest
    by true e later =
        let small = ltb-true n 128 e in
        subst (λ bytes. IsFront (bytes ++ rest) n rest) (sym (within-small (suc k) n small)) (front-small n rest small)
    by false e later =
        let large = ltb-false n 128 e in
        let parts = div-add-mod' n 128 in
        let same : ((n % 128 + 128) - 128) + 128 * (n / 128) ≡ n = omega (arith, parts) in
        let front = front-large (n % 128 + 128) (leb128_within k (n / 128) ++ rest) (n / 128) rest (omega arith) (later large) in
        subst (λ bytes. IsFront (bytes ++ rest) n rest) (sym (within-large k n large))
        (subst (λ m. IsFront ((n % 128 + 128) ∷ (leb128_within k (n / 128) ++ rest)) m rest) same front)

pub leb128-front : (n : ℕ) (rest : List ℕ) → IsFront (leb128 n ++ rest) n rest
unfolding leb128
leb128-front n rest = front-within n n rest (omega arith)

-- ---- its length

-- what so many bytes and one more hold
abbrev pub bound : ℕ → ℕ
bound zero = 128
bound (suc k) = 128 * bound k

pub length-leb128 : (k n : ℕ) → n < bound k → length (leb128 n) ≤ suc k
length-leb128 zero n h = let same = ap length (leb128-small n h) in omega (arith, same)
length-leb128 (suc k) n h = by (nat_lt n 128) refl (length-leb128 k (n / 128))
  where
    by : (b : Bool) → nat_lt n 128 ≡ b → (n / 128 < bound k → length (leb128 (n / 128)) ≤ suc k) → length (leb128 n) ≤ suc (suc k)
    by true e later = let same = ap length (leb128-small n (ltb-true n 128 e)) in omega (arith, same)
    by false e later =
        let same = ap length (leb128-large n (ltb-false n 128 e)) in
        let parts = div-add-mod' n 128 in
        let less : n / 128 < bound k = omega (arith, parts, h) in
        let rest = later less in
        omega (arith, same, rest)

pub length-leb128-wide : (n : ℕ) → n < 2 ^ 64 → length (leb128 n) ≤ 10
length-leb128-wide n h = length-leb128 9 n (omega arith)

pub length-leb128-narrow : (n : ℕ) → n < 2 ^ 32 → length (leb128 n) ≤ 5
length-leb128-narrow n h = length-leb128 4 n (omega arith)

-- ---- putting it byte by byte

pub room-small : (n used capacity : ℕ) → n < 128 → used + length (leb128 n) ≤ capacity → used < capacity
room-small n used capacity h room = let same = ap length (leb128-small n h) in omega (arith, same, room)

pub room-large : (n used capacity : ℕ) → 128 ≤ n → used + length (leb128 n) ≤ capacity → (used < capacity) × ((used + 1) + length (leb128 (n / 128)) ≤ capacity)
room-large n used capacity h room = let same = ap length (leb128-large n h) in (omega (arith, same, room), omega (arith, same, room))

pub room-rest : (items : List ℕ) (n byte capacity : ℕ) (first : Room) → 128 ≤ n → length items + length (leb128 n) ≤ capacity → first ≡ room_of (items ++ byte ∷ []) capacity
    → length first.items + length (leb128 (n / 128)) ≤ first.capacity
room-rest items n byte capacity first h room e =
    let longer : length first.items ≡ length items + 1 = ap (λ (b : Room). length b.items) e ∙ length-append items (byte ∷ []) in
    let same : first.capacity ≡ capacity = ap (λ (b : Room). b.capacity) e in
    let rest = (room-large n (length items) capacity h room).1 in
    omega (arith, longer, same, rest)

pub put-small : (items : List ℕ) (n capacity : ℕ) (last : Room) → n < 128 → last ≡ room_of (items ++ n ∷ []) capacity → last ≡ room_of (items ++ leb128 n) capacity
put-small items n capacity last h e = e ∙ ap (λ bytes. room_of (items ++ bytes) capacity) (sym (leb128-small n h))

pub put-large : (items : List ℕ) (n capacity : ℕ) (first last : Room) → 128 ≤ n → first ≡ room_of (items ++ (n % 128 + 128) ∷ []) capacity
    → last ≡ room_of (first.items ++ leb128 (n / 128)) first.capacity → last ≡ room_of (items ++ leb128 n) capacity
put-large items n capacity first last h e f =
    f ∙ ap (λ (b : Room). room_of (b.items ++ leb128 (n / 128)) b.capacity) e
    ∙ ap (λ bytes. room_of bytes capacity) (append_assoc items ((n % 128 + 128) ∷ []) (leb128 (n / 128)))
    ∙ ap (λ bytes. room_of (items ++ bytes) capacity) (sym (leb128-large n h))
