use Rattle.std.proofs.Common.{◌≡◌, Some, sym, ap, subst, ◌∙◌}
use Rattle.std.specs.Prelude.{IfNone}
use Rattle.std.specs.Option.{IfSome}
use Rattle.std.proofs.lemmas.Bool.{false≢true}
use Rattle.frame_stack.specs.FrameLists.{top_operands}
use Rattle.jvm_basic.specs.Outcomes.{top_locals}
use Rattle.member_selection.specs.Outcomes.{outcome_in_frame}
use Rattle.prepared_code.specs.declared.parts.Parts.{Parts}
use Rattle.prepared_code.specs.Originals.{setup_in}
use Rattle.prepared_code.specs.States.{state_in}
use Rattle.prepared_code.specs.Tables.{Versions}
use Rattle.prepared_code.specs.Versions.{line_at}
use Rattle.activations.specs.Applied.{acts_asked, on_parts}
use Rattle.instructions.specs.Acts.{named_in}
use Rattle.activations.proofs.ConcludedOutcomes.{stays-outcome}
use Rattle.prepared_code.proofs.Lines.KnownNames.{names-kept}
use Rattle.instructions.proofs.Attempts.NamedAttempts.{awaits-told, begins-on, goes-on, same-setup, takes-there}
use Rattle.instructions.proofs.Moves.Sounded.{caller-is-loaded}
use Rattle.instructions.proofs.Initializing.Beneath.{top-there}
use Rattle.instructions.proofs.attempting.attempt_name.Goals as goal

pub attempt_named-requires-clause-caller : goal.attempt_named-requires-clause-caller
attempt_named-requires-clause-caller c =
    caller-is-loaded (setup_in c.args.parts.now.runtime c.args.originals.now) c.args.initializing.now c.args.parts.now c.args.here c.requires.fit c.requires.sound c.requires.here c.requires.executing

pub conclude-requires-clause-takes : goal.conclude-requires-clause-takes
conclude-requires-clause-takes c =
    takes-there (setup_in c.args.parts.now.runtime c.args.originals.now) c.args.initializing.now c.args.here c.in-Some.line.now c.args.parts.now (subst (λ (v : Versions). line_at v c.args.here.version c.args.here.place ≡ Some c.in-Some.line.now) c.in_ok-outcome.ensures.versions c.in-Some.ensures.line)
    c.requires.named c.requires.here c.requires.executing (outcome_in_frame c.in_ok-outcome.outcome c.args.parts.now.frames) c.attempt_named.new.runtime (c.in_ok-outcome.ensures.answer) (c.in_ok-outcome.ensures.runtime)

pub returns-in_default-awaited-clause-state : goal.returns-in_default-awaited-clause-state
returns-in_default-awaited-clause-state c =
    let v = setup_in c.attempt_named.new.runtime c.attempt_named.new.self in
    let mid : Parts = record c.args.parts.now { runtime = c.attempt_named.new.runtime } in
    goes-on (setup_in c.args.parts.now.runtime c.args.originals.now) c.args.initializing.now c.args.here c.in-Some.line.now c.args.parts.now (subst (λ (v : Versions). line_at v c.args.here.version c.args.here.place ≡ Some c.in-Some.line.now) c.in_ok-outcome.ensures.versions c.in-Some.ensures.line)
    c.requires.named c.requires.here c.requires.executing (outcome_in_frame c.in_ok-outcome.outcome c.args.parts.now.frames) c.attempt_named.new.runtime (c.in_ok-outcome.ensures.answer) (c.in_ok-outcome.ensures.runtime)
    v c.conclude.new.parts (same-setup c.args.parts.now.runtime c.attempt_named.new.runtime c.args.originals.now c.attempt_named.new.self c.in_ok-outcome.ensures.world c.in_ok-outcome.ensures.versions)
    (stays-outcome c.in_ok-outcome.outcome (top_locals c.args.parts.now.frames.frames) (top_operands c.args.parts.now.frames.frames) (sym c.in_ok-awaited.ensures.answer ∙ c.in_default-awaited.is))
    (subst (λ o. IfNone o (state_in c.conclude.new.parts ≡ on_parts (λ s f. acts_asked v c.in-Some.line.now s f (outcome_in_frame c.in_ok-outcome.outcome c.args.parts.now.frames)) mid))
    c.in_default-awaited.is c.in_ok-awaited.ensures.state)

pub returns-in_default-awaited-clause-answer : goal.returns-in_default-awaited-clause-answer
returns-in_default-awaited-clause-answer c =
    sym c.in_default-awaited.is
    ∙ awaits-told (setup_in c.args.parts.now.runtime c.args.originals.now) c.args.initializing.now c.args.here c.in-Some.line.now c.args.parts.now (subst (λ (v : Versions). line_at v c.args.here.version c.args.here.place ≡ Some c.in-Some.line.now) c.in_ok-outcome.ensures.versions c.in-Some.ensures.line)
    c.requires.named c.requires.here c.requires.executing (outcome_in_frame c.in_ok-outcome.outcome c.args.parts.now.frames) c.attempt_named.new.runtime (c.in_ok-outcome.ensures.answer) (c.in_ok-outcome.ensures.runtime)
    c.in_ok-awaited.awaited c.in_ok-awaited.ensures.answer

pub returns-in_default-awaited-clause-known : goal.returns-in_default-awaited-clause-known
returns-in_default-awaited-clause-known c =
    names-kept c.attempt_named.new.self c.attempt_named.new.runtime c.conclude.new.parts.runtime c.in_ok-awaited.ensures.world c.in_ok-awaited.ensures.same_loaded c.in_ok-outcome.ensures.known

pub returns-clause-state : goal.returns-clause-state
returns-clause-state c =
    let mid : Parts = record c.args.parts.now { runtime = c.attempt_named.new.runtime } in
    c.in_ok-initialize.ensures.state
    ∙ begins-on (setup_in c.args.parts.now.runtime c.args.originals.now) c.args.initializing.now c.args.here c.in-Some.line.now c.args.parts.now (subst (λ (v : Versions). line_at v c.args.here.version c.args.here.place ≡ Some c.in-Some.line.now) c.in_ok-outcome.ensures.versions c.in-Some.ensures.line)
    c.requires.named c.requires.here c.requires.executing (outcome_in_frame c.in_ok-outcome.outcome c.args.parts.now.frames) c.attempt_named.new.runtime (c.in_ok-outcome.ensures.answer) (c.in_ok-outcome.ensures.runtime)
    c.in_ok-awaited.awaited c.in-Some-awaited.class c.conclude.new.parts c.in_ok-awaited.ensures.answer c.in-Some-awaited.is
    (subst (λ o. IfSome o (λ _. c.conclude.new.parts ≡ mid)) c.in-Some-awaited.is c.in_ok-awaited.ensures.begins)

pub returns-clause-answer : goal.returns-clause-answer
returns-clause-answer c =
    sym c.in-Some-awaited.is
    ∙ awaits-told (setup_in c.args.parts.now.runtime c.args.originals.now) c.args.initializing.now c.args.here c.in-Some.line.now c.args.parts.now (subst (λ (v : Versions). line_at v c.args.here.version c.args.here.place ≡ Some c.in-Some.line.now) c.in_ok-outcome.ensures.versions c.in-Some.ensures.line)
    c.requires.named c.requires.here c.requires.executing (outcome_in_frame c.in_ok-outcome.outcome c.args.parts.now.frames) c.attempt_named.new.runtime (c.in_ok-outcome.ensures.answer) (c.in_ok-outcome.ensures.runtime)
    c.in_ok-awaited.awaited c.in_ok-awaited.ensures.answer

pub returns-clause-known : goal.returns-clause-known
returns-clause-known c =
    names-kept c.attempt_named.new.self c.attempt_named.new.runtime c.initialize.new.parts.runtime (c.in_ok-initialize.ensures.world ∙ c.in_ok-awaited.ensures.world)
    (c.in_ok-initialize.ensures.same_loaded ∙ c.in_ok-awaited.ensures.same_loaded) c.in_ok-outcome.ensures.known

-- a line stands there
pub returns-in_default-clause-state : goal.returns-in_default-clause-state
returns-in_default-clause-state c = absurd
    (false≢true (ap named_in (c.in_default.ensures.kept
    ∙ (ap (λ (v : Versions). line_at v c.args.here.version c.args.here.place) c.in_ok-outcome.ensures.kept ∙ c.requires.ready c.args.here.place)) ∙ c.requires.named))

pub returns-in_default-clause-answer : goal.returns-in_default-clause-answer
returns-in_default-clause-answer c = absurd
    (false≢true (ap named_in (c.in_default.ensures.kept
    ∙ (ap (λ (v : Versions). line_at v c.args.here.version c.args.here.place) c.in_ok-outcome.ensures.kept ∙ c.requires.ready c.args.here.place)) ∙ c.requires.named))

pub returns-in_default-clause-known : goal.returns-in_default-clause-known
returns-in_default-clause-known c = absurd
    (false≢true (ap named_in (c.in_default.ensures.kept
    ∙ (ap (λ (v : Versions). line_at v c.args.here.version c.args.here.place) c.in_ok-outcome.ensures.kept ∙ c.requires.ready c.args.here.place)) ∙ c.requires.named))

pub conclude-requires-clause-top : goal.conclude-requires-clause-top
conclude-requires-clause-top c = top-there (setup_in c.args.parts.now.runtime c.args.originals.now) c.args.initializing.now c.args.parts.now c.args.here c.args.parts.now.frames.frames c.requires.here
