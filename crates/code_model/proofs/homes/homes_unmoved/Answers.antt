use Rattle.code_model.proofs.Offsets.Carried.{made_rise, made_stay}
use Rattle.code_model.proofs.homes.homes_unmoved.Goals as goal

pub returns-clause-same : goal.returns-clause-same
returns-clause-same c = made_stay c.args.code.now c.own_homes.result c.own_homes.ensures

pub returns-clause-rising : goal.returns-clause-rising
returns-clause-rising c = made_rise c.args.code.now c.requires c.own_homes.result c.own_homes.ensures
