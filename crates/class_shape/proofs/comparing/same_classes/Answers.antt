use Rattle.std.proofs.Common.{sym}
use Rattle.const_pool.specs.References.{named_class}
use Rattle.class_shape.proofs.SameParts.{other_lengths}
use Rattle.class_shape.proofs.comparing.same_classes.Goals as goal

pub returns-then-indices-other_indices : goal.returns-then-indices-other_indices
returns-then-indices-other_indices c =
    sym (other_lengths (named_class c.args.pool.now) (named_class c.args.other.now) c.args.indices.now c.args.other_indices.now c.if-indices-other_indices.true)
