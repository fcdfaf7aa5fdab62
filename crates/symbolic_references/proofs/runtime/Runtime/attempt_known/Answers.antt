use Rattle.std.proofs.Common.{◌≡◌, true, rules}
use Rattle.frame_stack.specs.FrameLists.{top_operands}
use Rattle.jvm_model.specs.Instructions.SymbolicReference.{resolves}
use Rattle.member_selection.specs.Attempts.{attempts}
use Rattle.member_selection.specs.Resolved.{does_resolved}
use Rattle.symbolic_references.proofs.Again.{done_again}
use Rattle.symbolic_references.proofs.Carried.{asks_by, leaves_by}
use Rattle.symbolic_references.proofs.runtime.Runtime.attempt_known.Goals as goal

pub returns-clause-answer : goal.returns-clause-answer
returns-clause-answer c =
    let v = c.args.self.now in
    let n = c.args.reference.now in
    let f = c.args.frames.now in
    let does : resolves n (top_operands f.frames) ≡ true = search rules in
    asks_by c.do_resolved.result (does_resolved v.world c.args.known.now.kind n v.shared) (attempts v.world n v.shared f) f
    (done_again v n c.args.known.now f c.requires.known does) c.do_resolved.ensures.answer

pub returns-clause-runtime : goal.returns-clause-runtime
returns-clause-runtime c =
    let v = c.args.self.now in
    let n = c.args.reference.now in
    let f = c.args.frames.now in
    let does : resolves n (top_operands f.frames) ≡ true = search rules in
    leaves_by c.do_resolved.result (does_resolved v.world c.args.known.now.kind n v.shared) (attempts v.world n v.shared f) f
    (done_again v n c.args.known.now f c.requires.known does) c.do_resolved.new.self v c.do_resolved.ensures.runtime

pub returns-clause-known : goal.returns-clause-known
returns-clause-known c = record {
  resolved = c.requires.known.resolved;
  loads = c.requires.known.loads;
  found = c.do_resolved.ensures.found;
}
