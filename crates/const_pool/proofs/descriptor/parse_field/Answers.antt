use Rattle.const_pool.proofs.FieldTexts.{field_found, field_only, field_stuck, field_memory}
use Rattle.const_pool.proofs.descriptor.parse_field.Goals as goal

pub returns-clause-found : goal.returns-clause-found
returns-clause-found c = field_found c.args.text.now c.read_field.result (rw c.units.ensures at c.read_field.ensures)

pub returns-clause-only : goal.returns-clause-only
returns-clause-only c = λ kind h. field_only c.args.text.now c.read_field.result kind (rw c.units.ensures at c.read_field.ensures) h

pub returns-clause-bad : goal.returns-clause-bad
returns-clause-bad c = λ at e. field_stuck c.args.text.now c.read_field.result at (rw c.units.ensures at c.read_field.ensures) e

pub returns-clause-no_memory : goal.returns-clause-no_memory
returns-clause-no_memory c = field_memory c.args.text.now c.read_field.result (rw c.units.ensures at c.read_field.ensures)
