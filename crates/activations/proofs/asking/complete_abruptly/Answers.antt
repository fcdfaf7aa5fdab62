use Rattle.std.proofs.Common.{◌≡◌, Some, sym, ap, subst, ◌∙◌, rules, w32}
use Rattle.std.proofs.lemmas.Int.{to_z-of_z}
use Rattle.jvm_model.specs.declared.ending.Ending.TheVariants.{Exited}
use Rattle.jvm_model.specs.Instructions.Exceptions.{exception_name}
use Rattle.member_selection.specs.Answers.{abrupt_view}
use Rattle.prepared_code.specs.Originals.{setup_in}
use Rattle.prepared_code.specs.States.{state_in}
use Rattle.activations.specs.Applied.{acts_asked, on_parts}
use Rattle.activations.proofs.ConcludedOutcomes.{breaks-is, exits-is, raises-is, throws-is}
use Rattle.activations.proofs.asking.complete_abruptly.Goals as goal

pub returns-in_ok-raise_named-in-Raises-clause-state : goal.returns-in_ok-raise_named-in-Raises-clause-state
returns-in_ok-raise_named-in-Raises-clause-state c =
    let w = setup_in c.args.parts.now.runtime c.args.originals.now in
    subst (λ e. state_in c.raise_named.new.parts ≡ on_parts (λ s f. acts_asked w c.args.line.now s f (abrupt_view e)) c.args.parts.now) (sym c.in-Raises.is)
    (ap state_in c.in_ok-raise_named-in-Raises.ensures.state
    ∙ raises-is w c.args.line.now c.args.method c.args.parts.now (exception_name c.in-Raises.exception) c.in-Raises.message c.args.parts.now.frames.frames c.requires.top)

pub returns-in-Throws-clause-state : goal.returns-in-Throws-clause-state
returns-in-Throws-clause-state c =
    let w = setup_in c.args.parts.now.runtime c.args.originals.now in
    subst (λ e. state_in (record c.args.parts.now { thrown = Some c.in-Throws.object }) ≡ on_parts (λ s f. acts_asked w c.args.line.now s f (abrupt_view e)) c.args.parts.now) (sym c.in-Throws.is)
    (throws-is w c.args.line.now c.args.method c.args.parts.now c.in-Throws.object c.args.parts.now.frames.frames c.requires.top)

pub returns-in-Exits-clause-state : goal.returns-in-Exits-clause-state
returns-in-Exits-clause-state c =
    let w = setup_in c.args.parts.now.runtime c.args.originals.now in
    let p = c.args.parts.now in
    subst (λ n. state_in (record p { ending = Some (Exited n) }) ≡ on_parts (λ s f. acts_asked w c.args.line.now s f (abrupt_view c.args.completion)) p)
    (sym (to_z-of_z w32 c.in-Exits.status (search rules)))
    (subst (λ e. state_in (record p { ending = Some (Exited c.in-Exits.status) }) ≡ on_parts (λ s f. acts_asked w c.args.line.now s f (abrupt_view e)) p) (sym c.in-Exits.is)
    (exits-is w c.args.line.now c.args.method p c.in-Exits.status p.frames.frames c.requires.top))

pub returns-in-Breaks-clause-state : goal.returns-in-Breaks-clause-state
returns-in-Breaks-clause-state c =
    let w = setup_in c.args.parts.now.runtime c.args.originals.now in
    subst (λ e. state_in c.break_off.new.parts ≡ on_parts (λ s f. acts_asked w c.args.line.now s f (abrupt_view e)) c.args.parts.now) (sym c.in-Breaks.is)
    (ap state_in c.break_off.ensures ∙ breaks-is w c.args.line.now c.args.method c.args.parts.now c.args.parts.now.frames.frames c.requires.top)
