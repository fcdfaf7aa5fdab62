-- What a loop of moves needs: a move makes `left` less and keeps the normal form, and where none applies it is reached.
use Rattle.std.proofs.Common.{◌≡◌, Some, None, sym}
use Rattle.jvm_model.specs.Basis.Data.{Turn, Listing, World}
use Rattle.jvm_model.specs.Running.Moves.{move, then_turn, turn_settled}
use Rattle.jvm_model.specs.Running.Normal.{here, by_move}
use Rattle.jvm_model.proofs.Running.NormalForms.{settled-normal, one-normal-form}

pub moved-same : (w : World) (t : Listing) (a next : Turn) → move w t a.after ≡ Some next → turn_settled w t (then_turn a next) ≡ turn_settled w t a
moved-same w t a next e =
    let rest = settled-normal w t (then_turn a next) in
    one-normal-form w t a (turn_settled w t (then_turn a next)) (record { reached = by_move a next e rest.reached; stops = rest.stops })

pub moved-end : (w : World) (t : Listing) (a : Turn) → move w t a.after ≡ None → turn_settled w t a ≡ a
moved-end w t a e = sym (one-normal-form w t a a (record { reached = here; stops = e }))
