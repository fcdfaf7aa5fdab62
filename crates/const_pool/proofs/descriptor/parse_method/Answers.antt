use Rattle.const_pool.proofs.MethodTexts.{method_found, method_only, method_stuck}
use Rattle.const_pool.proofs.descriptor.parse_method.Goals as goal

pub returns-clause-found : goal.returns-clause-found
returns-clause-found c = method_found c.args.text.now c.read_method.result (rw c.units.ensures at c.read_method.ensures)

pub returns-clause-only : goal.returns-clause-only
returns-clause-only c = λ shape h. method_only c.args.text.now c.read_method.result shape (rw c.units.ensures at c.read_method.ensures) h

pub returns-clause-bad : goal.returns-clause-bad
returns-clause-bad c = λ at e. method_stuck c.args.text.now c.read_method.result at (rw c.units.ensures at c.read_method.ensures) e
