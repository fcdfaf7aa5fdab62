-- The entries of a constant pool, one index after the other.
use Rattle.std.proofs.Common.{◌≡◌, ℕ, ◌+◌, ◌<◌, List, [], ◌∷◌, ◌++◌, length, take, get_or, refl, sym, ap, ◌∙◌, ◌-◌, ◌^◌, min, add-one, append_assoc, arith}
use Rattle.std.specs.List.{flat_map}
use Rattle.std.specs.Option.{option_and_then, option_map_or}
use Rattle.std.proofs.Math.Seq.{take-suc}
use Rattle.std.proofs.lemmas.Grind.{flat_map-append}
use Rattle.std.proofs.lemmas.List.{append-nil, length-append}
use Rattle.std.proofs.lemmas.List.Concat.{flat_map-cons}
use Rattle.std.proofs.lemmas.Option.{slice_get-get_or}
use Rattle.const_pool.specs.declared.pool.Const.{Const}
use Rattle.const_pool.specs.declared.pool.Const.TheVariants.{Gap, Utf8, Integer, Float, Long, Double, Class, Text, Field, Method, InterfaceMethod, NameType}
use Rattle.const_pool.specs.Pool.{entry_of, entry_at, entry_bytes}
use Rattle.class_writer.specs.Room.{room}

-- a gap has no bytes, and so needs no case
entry_spelled : (c : Const) → entry_bytes c ≡ option_map_or entry_bytes (entry_of c) []
entry_spelled Gap = refl
entry_spelled (Utf8 t) = refl
entry_spelled (Integer n) = refl
entry_spelled (Float n) = refl
entry_spelled (Long n) = refl
entry_spelled (Double n) = refl
entry_spelled (Class i) = refl
entry_spelled (Text i) = refl
entry_spelled (Field c n) = refl
entry_spelled (Method c n) = refl
entry_spelled (InterfaceMethod c n) = refl
entry_spelled (NameType n d) = refl

-- the entries up to the next index
pub entries_more : (pool : List Const) (i : ℕ) → i < length pool
    → flat_map entry_bytes (take (i + 1) pool) ≡ flat_map entry_bytes (take i pool) ++ option_map_or entry_bytes (entry_at pool i) []
entries_more pool i lt =
    let c = get_or pool i Gap in
    let more : take (i + 1) pool ≡ take i pool ++ c ∷ [] = rw add-one (take-suc pool i Gap lt) in
    let one : flat_map entry_bytes (c ∷ []) ≡ entry_bytes c = flat_map-cons entry_bytes c [] ∙ append-nil (entry_bytes c) in
    let here : entry_bytes c ≡ option_map_or entry_bytes (entry_at pool i) [] = entry_spelled c ∙ ap (λ o. option_map_or entry_bytes (option_and_then entry_of o) []) (sym (slice_get-get_or pool i Gap lt)) in
    ap (flat_map entry_bytes) more ∙ flat_map-append entry_bytes (take i pool) (c ∷ []) ∙ ap (λ bytes. flat_map entry_bytes (take i pool) ++ bytes) (one ∙ here)

-- what was written, and the bytes of one more
pub grown : (start front done more out new : List ℕ) → out ≡ start ++ (front ++ done) → new ≡ out ++ more → new ≡ start ++ (front ++ (done ++ more))
grown start front done more out new so_far added = rw (added, so_far) (simp append_assoc)

-- the same for how many there are
pub room_grown : (front done more : List ℕ) (len n sum : ℕ) → len ≡ room (front ++ done) → n ≡ length more → sum ≡ min (len + n) (2 ^ 64 - 1) → sum ≡ room (front ++ (done ++ more))
room_grown front done more len n sum so_far here added =
    let all = length-append front (done ++ more) in
    let before = length-append front done in
    let both = length-append done more in
    omega (arith, all, before, both, so_far, here, added)
