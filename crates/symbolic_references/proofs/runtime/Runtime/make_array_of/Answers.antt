use Rattle.symbolic_references.specs.Runtimes.{linker_in}
use Rattle.member_selection.proofs.KindLemmas.{over}
use Rattle.symbolic_references.proofs.runtime.Runtime.make_array_of.Goals as goal

pub make_counted-requires : goal.make_counted-requires
make_counted-requires c = record { usable = over (linker_in c.args.self.now) c.heap-heap.ensures.objects.root c.args.kind c.requires.usable }
