use Rattle.std.proofs.Common.{◌≡◌, ◌∙◌, subst}
use Rattle.frame_stack.specs.FrameLists.{top_operands}
use Rattle.native_ops.specs.Methods.Calls.{IsAnswer}
use Rattle.symbolic_references.specs.NativeCalls.{native_answer, native_left, with_left}
use Rattle.member_selection.specs.Targets.{data_in}
use Rattle.symbolic_references.proofs.NativeLemmas.{leaves-numbered, runs-numbered}
use Rattle.symbolic_references.proofs.runtime.Runtime.run_numbered.Goals as goal

pub returns-clause-answer : goal.returns-clause-answer
returns-clause-answer c =
    let v = c.args.self.now in
    let f = c.args.frames.now in
    runs-numbered v c.args.number (data_in c.args.count (top_operands f.frames)) f c.args.count c.answer_native-native.result c.conclude.result c.conclude.ensures.done
    (subst (λ xs. IsAnswer c.answer_native-native.result (native_answer v c.args.number xs)) (c.as_slice.ensures ∙ c.in_ok-args.ensures) c.answer_native-native.ensures.answer)
    c.conclude.ensures.answer

pub returns-clause-runtime : goal.returns-clause-runtime
returns-clause-runtime c =
    let v = c.args.self.now in
    let f = c.args.frames.now in
    leaves-numbered v c.args.number (data_in c.args.count (top_operands f.frames)) f c.args.count c.answer_native-native.result c.conclude.result c.answer_native-native.new.self
    c.conclude.ensures.done
    (subst (λ xs. c.answer_native-native.new.self ≡ with_left (native_left v c.args.number xs c.answer_native-native.result) v) (c.as_slice.ensures ∙ c.in_ok-args.ensures)
    c.answer_native-native.ensures.runtime)
