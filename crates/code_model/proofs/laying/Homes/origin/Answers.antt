use Rattle.std.proofs.Common.{◌∙◌}
use Rattle.code_model.proofs.Offsets.Carried.{found-of, origin-only}
use Rattle.code_model.proofs.laying.Homes.origin.Goals as goal

pub returns-clause-found : goal.returns-clause-found
returns-clause-found c = found-of c.args.self.now c.requires c.args.place c.origin_at.result c.origin_at.ensures

pub returns-clause-only : goal.returns-clause-only
returns-clause-only c = λ at placed within. c.origin_at.ensures ∙ origin-only c.args.self.now c.requires c.args.place at placed within
