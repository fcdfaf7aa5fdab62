use Rattle.symbolic_references.specs.Runtimes.{linker_in}
use Rattle.member_selection.proofs.KindLemmas.{primitive}
use Rattle.symbolic_references.proofs.runtime.Runtime.make_primitives.Goals as goal

pub make_counted-requires : goal.make_counted-requires
make_counted-requires c = record { usable = primitive (linker_in c.args.self.now) c.heap-heap.ensures.objects.root c.args.kind c.requires }
