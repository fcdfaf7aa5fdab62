use Rattle.std.proofs.Common.{ap, sym, subst}
use Rattle.std.specs.Prelude.{drop, Some}
use Rattle.frame_stack.specs.FrameLists.{top_operands}
use Rattle.jvm_basic.specs.Outcomes.{top_locals}
use Rattle.jvm_model.specs.Basis.Data.{Done, Invokes}
use Rattle.jvm_model.specs.Instructions.InvocationRules.{invokes_selected}
use Rattle.jvm_model.specs.Instructions.NativeRules.{runs_number}
use Rattle.member_selection.specs.Callees.{IsCallee, chosen_place}
use Rattle.member_selection.specs.Targets.{data_in}
use Rattle.symbolic_references.proofs.CalleeLemmas.{code-invoked, native-invoked}
use Rattle.symbolic_references.proofs.Carried.{asks_by, leaves_by, still}
use Rattle.symbolic_references.proofs.runtime.Runtime.invoke_chosen.Goals as goal

pub returns-in-Code-clause-answer : goal.returns-in-Code-clause-answer
returns-in-Code-clause-answer c =
    let v = c.args.self.now in
    let l = top_locals c.args.frames.now.frames in
    let o = top_operands c.args.frames.now.frames in
    sym (ap (λ (d : Done). d.outcome) (code-invoked v.world (chosen_place c.args.m) (data_in c.args.count o) v.shared l (drop c.args.count o) c.in-Code.number
    (subst (λ x. IsCallee x v.world.program (chosen_place c.args.m)) c.in-Code.is c.requires.callee)))

pub returns-in-Code-clause-runtime : goal.returns-in-Code-clause-runtime
returns-in-Code-clause-runtime c =
    let v = c.args.self.now in
    let l = top_locals c.args.frames.now.frames in
    let o = top_operands c.args.frames.now.frames in
    still v (invokes_selected v.world (Some (chosen_place c.args.m)) (data_in c.args.count o) v.shared l (drop c.args.count o))
    (Invokes c.in-Code.number (data_in c.args.count o) (drop c.args.count o))
    (sym (code-invoked v.world (chosen_place c.args.m) (data_in c.args.count o) v.shared l (drop c.args.count o) c.in-Code.number
    (subst (λ x. IsCallee x v.world.program (chosen_place c.args.m)) c.in-Code.is c.requires.callee)))

pub run_numbered-requires-clause-stands : goal.run_numbered-requires-clause-stands
run_numbered-requires-clause-stands c =
    (subst (λ x. IsCallee x c.args.self.now.world.program (chosen_place c.args.m)) c.in-Native.is c.requires.callee).stands

pub returns-in-Native-clause-answer : goal.returns-in-Native-clause-answer
returns-in-Native-clause-answer c =
    let v = c.args.self.now in
    let f = c.args.frames.now in
    let l = top_locals f.frames in
    let o = top_operands f.frames in
    asks_by c.run_numbered.result (λ l o. runs_number v.world c.in-Native.number (data_in c.args.count o) v.shared l (drop c.args.count o))
    (λ l o. invokes_selected v.world (Some (chosen_place c.args.m)) (data_in c.args.count o) v.shared l (drop c.args.count o)) f
    (sym (native-invoked v.world (chosen_place c.args.m) (data_in c.args.count o) v.shared l (drop c.args.count o) c.in-Native.number
    (subst (λ x. IsCallee x v.world.program (chosen_place c.args.m)) c.in-Native.is c.requires.callee)))
    c.run_numbered.ensures.answer

pub returns-in-Native-clause-runtime : goal.returns-in-Native-clause-runtime
returns-in-Native-clause-runtime c =
    let v = c.args.self.now in
    let f = c.args.frames.now in
    let l = top_locals f.frames in
    let o = top_operands f.frames in
    leaves_by c.run_numbered.result (λ l o. runs_number v.world c.in-Native.number (data_in c.args.count o) v.shared l (drop c.args.count o))
    (λ l o. invokes_selected v.world (Some (chosen_place c.args.m)) (data_in c.args.count o) v.shared l (drop c.args.count o)) f
    (sym (native-invoked v.world (chosen_place c.args.m) (data_in c.args.count o) v.shared l (drop c.args.count o) c.in-Native.number
    (subst (λ x. IsCallee x v.world.program (chosen_place c.args.m)) c.in-Native.is c.requires.callee)))
    c.run_numbered.new.self v c.run_numbered.ensures.runtime
