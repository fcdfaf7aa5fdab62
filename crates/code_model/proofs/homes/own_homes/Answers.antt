use Rattle.code_model.proofs.Offsets.Carried.{own_homes_made}
use Rattle.code_model.proofs.homes.own_homes.Goals as goal

pub returns : goal.returns
returns c =
    own_homes_made c.args.code.now c.in_ok-homes.homes c.add_own_spots.new.homes c.add_spot.new.homes c.as_slice.result.now c.in_ok-homes.ensures c.as_slice.ensures
    c.in_ok-add_own_spots.ensures c.in_ok-add_spot.ensures
