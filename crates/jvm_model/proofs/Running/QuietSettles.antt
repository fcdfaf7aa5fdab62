-- The moves behind an instruction: there are none, but that the run returns where nothing is left.
use Rattle.std.proofs.Common.{◌≡◌, ℕ, zero, suc, None, refl, ap}
use Rattle.std.specs.Option.{option_map_or}
use Rattle.jvm_model.specs.Basis.Data.{Turn, Listing, World}
use Rattle.jvm_model.specs.Running.Moves.{move, then_turn, settles}

pub stops : (w : World) (t : Listing) (n : ℕ) (a : Turn) → move w t a.after ≡ None → settles w t n a ≡ a
stops w t zero a none = refl
stops w t (suc n) a none = ap (λ o. option_map_or (λ next. settles w t n (then_turn a next)) o a) none
