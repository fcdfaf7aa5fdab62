use Rattle.class_shape.proofs.SwapLaws.{one-swap, one-swap_fault, no-swap_fault, found, refused, only, first, taken}
use Rattle.class_shape.proofs.swap.read_swap.Goals as goal

pub returns-clause-found : goal.returns-clause-found
returns-clause-found c = found c.args.original.now c.args.bytes.now c.swap_in.result c.swap_in.ensures

pub returns-clause-only : goal.returns-clause-only
returns-clause-only c = λ image. only c.args.original.now c.args.bytes.now c.swap_in.result image c.swap_in.ensures

pub returns-clause-refused : goal.returns-clause-refused
returns-clause-refused c = refused c.args.original.now c.args.bytes.now c.swap_in.result c.swap_in.ensures

pub returns-clause-first_fault : goal.returns-clause-first_fault
returns-clause-first_fault c = λ refusal. first c.args.original.now c.args.bytes.now c.swap_in.result refusal c.swap_in.ensures

pub returns-clause-one_image : goal.returns-clause-one_image
returns-clause-one_image c = one-swap c.args.original.now c.args.bytes.now

pub returns-clause-one_fault : goal.returns-clause-one_fault
returns-clause-one_fault c = one-swap_fault c.args.original.now c.args.bytes.now

pub returns-clause-no_fault : goal.returns-clause-no_fault
returns-clause-no_fault c = no-swap_fault c.args.original.now c.args.bytes.now

pub returns-clause-image : goal.returns-clause-image
returns-clause-image c = λ image. taken c.args.original.now c.args.bytes.now c.swap_in.result image c.swap_in.ensures
