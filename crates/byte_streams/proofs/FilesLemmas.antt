-- Looking a file up, one name after the other.
use Rattle.std.proofs.Common.{◌≡◌, ◌≤◌, ℕ, zero, suc, List, [], ◌∷◌, true, false, Some, None, length, map, drop, arith}
use Rattle.std.proofs.Math.Seq.{drop-nil}
use Rattle.std.specs.Prelude.{slice_get, bytes_eq}
use Rattle.std.specs.List.{zip}
use Rattle.byte_streams.specs.Streams.{Told, contents_at}

-- files that are drawn from two lists, names and contents
abbrev pub paired : {S V : Type 0} → (S → List ℕ) → (V → List ℕ) → List S → List V → Told
paired f g ns vs = zip (map f ns) (map g vs)

-- the first of what is left has another name
pub contents_at-skip : {S V : Type 0} (f : S → List ℕ) (g : V → List ℕ) (ns : List S) (vs : List V) (i : ℕ) (n : S) (name : List ℕ)
    → length ns ≡ length vs → slice_get ns i ≡ Some n → bytes_eq (f n) name ≡ false
    → contents_at (drop i (paired f g ns vs)) name ≡ contents_at (drop (suc i) (paired f g ns vs)) name
contents_at-skip f g [] vs i n name even here other = cc
contents_at-skip f g (x ∷ ns) [] i n name even here other = absurd (omega arith)
contents_at-skip f g (x ∷ ns) (y ∷ vs) zero n name even here other = let e : x ≡ n = cc in rw (e, other)
contents_at-skip f g (x ∷ ns) (y ∷ vs) (suc i) n name even here other =
    contents_at-skip f g ns vs i n name (omega arith) here other

-- the first of what is left has the name
pub contents_at-here : {S V : Type 0} (f : S → List ℕ) (g : V → List ℕ) (ns : List S) (vs : List V) (i : ℕ) (n : S) (v : V) (name : List ℕ)
    → slice_get ns i ≡ Some n → slice_get vs i ≡ Some v → bytes_eq (f n) name ≡ true
    → contents_at (drop i (paired f g ns vs)) name ≡ Some (g v)
contents_at-here f g [] vs i n v name here there same = cc
contents_at-here f g (x ∷ ns) [] i n v name here there same = cc
contents_at-here f g (x ∷ ns) (y ∷ vs) zero n v name here there same = let e : x ≡ n = cc in rw (e, same) (cc)
contents_at-here f g (x ∷ ns) (y ∷ vs) (suc i) n v name here there same = contents_at-here f g ns vs i n v name here there same

-- nothing is left
pub contents_at-past : {S V : Type 0} (f : S → List ℕ) (g : V → List ℕ) (ns : List S) (vs : List V) (i : ℕ) (name : List ℕ)
    → length ns ≤ i → contents_at (drop i (paired f g ns vs)) name ≡ None
contents_at-past f g [] vs i name past = rw drop-nil
contents_at-past f g (x ∷ ns) [] i name past = rw drop-nil
contents_at-past f g (x ∷ ns) (y ∷ vs) zero name past = absurd (omega arith)
contents_at-past f g (x ∷ ns) (y ∷ vs) (suc i) name past = contents_at-past f g ns vs i name (omega arith)
