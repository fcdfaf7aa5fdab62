use Rattle.std.proofs.Common.{ap, subst, sym, refl, ◌∙◌}
use Rattle.std.specs.Prelude.{IfOk, IfSome, OnOk, ◌≡◌, drop, length}
use Rattle.frame_stack.specs.FrameLists.{top_operands}
use Rattle.member_selection.specs.Answers.{done_on}
use Rattle.member_selection.specs.Attempts.{attempts, loaded_for, with_more}
use Rattle.member_selection.specs.Known.{IsKnown}
use Rattle.member_selection.specs.Outcomes.{outcome_by_rule, outcome_in_frame}
use Rattle.symbolic_references.specs.Runtimes.{after, linker_in}
use Rattle.symbolic_references.proofs.Again.{loads-in}
use Rattle.symbolic_references.proofs.Attempted.{asks-later, caller_later, leaves-later, same-linker}
use Rattle.symbolic_references.proofs.runtime.Runtime.attempt_loaded.Goals as goal

pub do_found-requires-clause-caller : goal.do_found-requires-clause-caller
do_found-requires-clause-caller c =
    caller_later (linker_in c.args.self.now) (linker_in c.find.new.self) _ c.in_ok-found.ensures.more c.args.reference.now c.requires.caller

pub do_found-requires-clause-loads : goal.do_found-requires-clause-loads
do_found-requires-clause-loads c =
    let v = c.args.self.now in
    loads-in (linker_in v) (linker_in c.find.new.self) v.shared.loaded (loaded_for v.world.program c.args.reference.now v.shared c.args.frames.now) c.args.reference.now
    (top_operands c.args.frames.now.frames) (ap linker_in c.in_ok-found.ensures.runtime) refl

pub returns-in-Ok-clause-answer : goal.returns-in-Ok-clause-answer
returns-in-Ok-clause-answer c =
    let v = c.args.self.now in
    let n = c.args.reference.now in
    let f = c.args.frames.now in
    subst (λ r. IfOk r (λ a. outcome_in_frame a f ≡ outcome_by_rule (attempts v.world n v.shared f) f)) c.in-Ok.is
    (asks-later c.args.self.now c.find.new.self c.args.reference.now c.args.frames.now c.in_ok-found.ensures.runtime c.do_found.result c.do_found.ensures.answer)

pub returns-in-Ok-clause-runtime : goal.returns-in-Ok-clause-runtime
returns-in-Ok-clause-runtime c =
    let v = c.args.self.now in
    let n = c.args.reference.now in
    let f = c.args.frames.now in
    subst (λ r. OnOk r (c.do_found.new.self ≡ after (done_on (attempts v.world n v.shared f) f) v)) c.in-Ok.is
    (leaves-later c.args.self.now c.find.new.self c.args.reference.now c.args.frames.now c.in_ok-found.ensures.runtime c.do_found.result c.do_found.new.self c.do_found.ensures.runtime)

pub returns-in-Ok-clause-learnt : goal.returns-in-Ok-clause-learnt
returns-in-Ok-clause-learnt c =
    subst (λ r. OnOk r (IfSome c.do_found.new.learnt (λ known. IsKnown (linker_in c.do_found.new.self) c.args.reference.now known))) c.in-Ok.is
    (subst (λ l. OnOk c.do_found.result (IfSome c.do_found.new.learnt (λ known. IsKnown l c.args.reference.now known)))
    (sym (same-linker c.do_found.new.self c.find.new.self c.do_found.ensures.world c.do_found.ensures.same_loaded)) c.do_found.ensures.learnt)

pub returns-in-Ok-clause-more : goal.returns-in-Ok-clause-more
returns-in-Ok-clause-more c =
    same-linker c.do_found.new.self c.find.new.self c.do_found.ensures.world c.do_found.ensures.same_loaded
    ∙ (c.in_ok-found.ensures.more
    ∙ ap (λ classes. with_more (linker_in c.args.self.now) (drop (length c.args.self.now.shared.loaded) classes)) (sym c.do_found.ensures.same_loaded))

pub returns-in-Err-clause-more : goal.returns-in-Err-clause-more
returns-in-Err-clause-more c =
    same-linker c.do_found.new.self c.find.new.self c.do_found.ensures.world c.do_found.ensures.same_loaded
    ∙ (c.in_ok-found.ensures.more
    ∙ ap (λ classes. with_more (linker_in c.args.self.now) (drop (length c.args.self.now.shared.loaded) classes)) (sym c.do_found.ensures.same_loaded))
