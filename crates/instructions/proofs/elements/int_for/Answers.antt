use Rattle.std.proofs.Common.{ℤ, refl, to_z-of_z}
use Rattle.const_pool.specs.declared.descriptor.Kind.TheVariants as kind
use Rattle.heap_objects.specs.declared.datum.Datum.TheVariants as datum
use Rattle.heap_objects.specs.declared.element.ElementType.TheVariants as element
use Rattle.instructions.proofs.Attempts.QuickElements.{quick-index}
use Rattle.instructions.proofs.elements.int_for.Goals as goal

pub returns-clause-element : goal.returns-clause-element
returns-clause-element c =
    (quick-index kind.Int element.Int ℤ datum.Int c.args.array c.args.index _ c.args.heap.now c.int_at.result
    (to_z-of_z c.ranges.index) c.if-index-lt0.false refl c.int_at.ensures.ints c.int_at.ensures.found).0

pub returns-clause-slot : goal.returns-clause-slot
returns-clause-slot c =
    (quick-index kind.Int element.Int ℤ datum.Int c.args.array c.args.index _ c.args.heap.now c.int_at.result
    (to_z-of_z c.ranges.index) c.if-index-lt0.false refl c.int_at.ensures.ints c.int_at.ensures.found).1
