use Rattle.std.proofs.Common.{ℕ, refl, to_z-of_z}
use Rattle.const_pool.specs.declared.descriptor.Kind.TheVariants as kind
use Rattle.heap_objects.specs.declared.datum.Datum.TheVariants as datum
use Rattle.heap_objects.specs.declared.element.ElementType.TheVariants as element
use Rattle.instructions.proofs.Attempts.QuickElements.{quick-index}
use Rattle.instructions.proofs.elements.reference_for.Goals as goal

pub returns : goal.returns
returns c =
    (quick-index kind.Ref element.Reference ℕ datum.Ref c.args.array c.args.index _ c.args.heap.now c.reference_at.result
    (to_z-of_z c.ranges.index) c.if-index-lt0.false refl c.reference_at.ensures.references c.reference_at.ensures.found).0
