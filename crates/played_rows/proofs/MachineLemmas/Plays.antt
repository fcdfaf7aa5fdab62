-- Lines that have come, one behind the other, and the first of which another thing came.
use Rattle.std.proofs.Common.{◌≡◌, ◌<◌, ◌≤◌, ◌+◌, ℕ, List, [], ◌∷◌, ◌++◌, drop, length, map, take, sym, subst}
use Rattle.std.specs.Prelude.{get_or}
use Rattle.std.proofs.lemmas.List.{take_all}
use Rattle.jvm_machine.specs.View.{View}
use Rattle.played_rows.specs.declared.machine.line.Line.{Line}
use Rattle.played_rows.specs.declared.machine.line.Placed.{Placed}
use Rattle.played_rows.specs.declared.machine.playing.Failure.{Failure}
use Rattle.played_rows.specs.Machine.Played.{FailsAt, IsOtherwise, IsPlayed, Plays, PlaysAll}
use Rattle.played_rows.proofs.ListLemmas.{parted, taken-more}

pub played : (line said : Line) (old new : View) → line ≡ said → IsPlayed said old new → IsPlayed line old new
played line said old new e h = subst (λ l. IsPlayed l old new) (sym e) h

abbrev pub lines_of : List Placed → List Line
lines_of xs = map (λ x. x.line) xs

-- ---- what has come

then-played : (lines : List Line) (line : Line) (first mid new : View) → Plays lines first mid → IsPlayed line mid new → Plays (lines ++ line ∷ []) first new
then-played _ line _ _ new (Plays.none v) h = Plays.more line [] v new new h (Plays.none new)
then-played _ line _ _ new (Plays.more x rest old mid last h plays) next =
    Plays.more x (rest ++ line ∷ []) old mid new h (then-played rest line mid last new plays next)

pub plays-next : (xs : List Placed) (i : ℕ) (x : Placed) (first old mid : View) → i < length xs → x ≡ get_or xs i x → Plays (lines_of (take i xs)) first old → IsPlayed x.line old mid
    → Plays (lines_of (take (i + 1) xs)) first mid
plays-next xs i x first old mid less is before line =
    subst (λ ls. Plays ls first mid) (taken-more (λ y. y.line) xs i x x less is)
    (then-played (lines_of (take i xs)) x.line first old mid before line)

-- no line is left
pub plays-all : (xs : List Placed) (i : ℕ) (first last : View) → length xs ≤ i → Plays (lines_of (take i xs)) first last → PlaysAll (lines_of xs) first
plays-all xs i first last end plays = (last, subst (λ ys. Plays (lines_of ys) first last) (take_all i xs end) plays)

-- of this line another thing came
pub fails-at : (xs : List Placed) (i : ℕ) (x : Placed) (failure : Failure) (first old : View) → i < length xs → x ≡ get_or xs i x → Plays (lines_of (take i xs)) first old
    → failure.number ≡ x.number → IsOtherwise old x.line failure.difference → FailsAt xs failure first
fails-at xs i x failure first old less is before number otherwise = record {
  before = take i xs;
  line = x;
  after = drop (i + 1) xs;
  there = parted xs i x x less is;
  stands = old;
  played = before;
  number = number;
  otherwise = otherwise;
}
