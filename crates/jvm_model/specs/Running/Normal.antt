-- The normal form without a count: what is reached by moves, and to which no move applies.
use Rattle.std.specs.Prelude.{◌≡◌, Some, None}
use Rattle.jvm_model.specs.Basis.Data.{Turn, Listing, World}
use Rattle.jvm_model.specs.Running.Moves.{move, then_turn}

-- by moves alone
pub data Reaches (w : World) (t : Listing) (b : Turn) : Turn → Type 0 where
  here : Reaches w t b b
  by_move : (a next : Turn) → move w t a.after ≡ Some next → Reaches w t b (then_turn a next) → Reaches w t b a

-- the second is the normal form of the first
pub record IsNormalForm (w : World) (t : Listing) (a b : Turn) : Type 0 where
  pub reached : Reaches w t b a
  pub stops : move w t b.after ≡ None
