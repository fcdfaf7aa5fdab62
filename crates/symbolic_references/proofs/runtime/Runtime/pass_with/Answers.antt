use Rattle.std.proofs.Common.{◌≡◌, subst}
use Rattle.frame_stack.specs.FrameLists.{top_operands}
use Rattle.native_ops.specs.Methods.Calls.{IsAnswer}
use Rattle.symbolic_references.specs.NativeCalls.{native_answer, native_left, with_left}
use Rattle.member_selection.specs.Targets.{data_in}
use Rattle.symbolic_references.proofs.PassingNatives.{native-ran}
use Rattle.symbolic_references.proofs.runtime.Runtime.pass_with.Goals as goal

pub returns-clause-passed : goal.returns-clause-passed
returns-clause-passed c =
    let v = c.args.self.now in
    let f = c.args.frames.now in
    let n = c.args.native in
    let given = data_in n.count (top_operands f.frames) in
    native-ran v n.number f n.count c.args.next given c.answer_native-native_answer.result c.pass_answer.result c.pass_answer.new.frames c.answer_native-native_answer.new.self
    c.recall.ensures c.requires.other c.requires.some c.requires.within
    (subst (λ xs. IsAnswer c.answer_native-native_answer.result (native_answer v n.number xs)) c.requires.args c.answer_native-native_answer.ensures.answer)
    (subst (λ xs. c.answer_native-native_answer.new.self ≡ with_left (native_left v n.number xs c.answer_native-native_answer.result) v) c.requires.args
    c.answer_native-native_answer.ensures.runtime)
    c.pass_answer.ensures.answer c.pass_answer.ensures.frames
