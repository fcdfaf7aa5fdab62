use Rattle.std.proofs.Common.{◌≡◌, refl, sym, subst, ap, ◌∙◌}
use Rattle.std.specs.Prelude.{IfOk, OnOk}
use Rattle.prepared_code.specs.Versions.{Setup}
use Rattle.instructions.specs.Acts.{attempts_on, awaited_in, awaited_on}
use Rattle.prepared_code.specs.Initializations.{state_of}
use Rattle.prepared_code.specs.Ready.{CanRun, IsSoundIn}
use Rattle.prepared_code.specs.Originals.{setup_in}
use Rattle.instructions.proofs.Initializing.Beneath.{nothing-there}
use Rattle.instructions.proofs.Attempts.NamedAttempts.{same-setup}
use Rattle.instructions.proofs.attempting.attempt.Goals as goal

pub returns-in_default-clause-answer : goal.returns-in_default-clause-answer
returns-in_default-clause-answer c =
    let w = setup_in c.args.parts.now.runtime c.args.originals.now in
    let p = c.args.parts.now in
    sym (ap (awaited_on w (state_of c.args.initializing.now p)) (nothing-there w c.args.initializing.now p (sym c.where_now.ensures ∙ c.in_default.is) c.requires.executing))

pub returns-in_default-clause-state : goal.returns-in_default-clause-state
returns-in_default-clause-state c =
    let w = setup_in c.args.parts.now.runtime c.args.originals.now in
    let p = c.args.parts.now in
    sym (ap (attempts_on w (state_of c.args.initializing.now p)) (nothing-there w c.args.initializing.now p (sym c.where_now.ensures ∙ c.in_default.is) c.requires.executing))

pub attempt_there-requires-clause-known : goal.attempt_there-requires-clause-known
attempt_there-requires-clause-known c = c.in_ok-prepare.ensures.known c.args.parts.now.runtime c.requires.known

pub attempt_there-requires-clause-fit : goal.attempt_there-requires-clause-fit
attempt_there-requires-clause-fit c = subst CanRun (sym (same-setup c.args.parts.now.runtime c.args.parts.now.runtime c.args.originals.now c.prepare.new.self refl c.in_ok-prepare.ensures.versions)) c.requires.fit

pub attempt_there-requires-clause-sound : goal.attempt_there-requires-clause-sound
attempt_there-requires-clause-sound c =
    subst (λ (w : Setup). IsSoundIn w (state_of c.args.initializing.now c.args.parts.now)) (sym (same-setup c.args.parts.now.runtime c.args.parts.now.runtime c.args.originals.now c.prepare.new.self refl c.in_ok-prepare.ensures.versions)) c.requires.sound

pub attempt_there-requires-clause-here : goal.attempt_there-requires-clause-here
attempt_there-requires-clause-here c = sym c.where_now.ensures ∙ c.in-Some.is

pub returns-clause-answer : goal.returns-clause-answer
returns-clause-answer c =
    subst (λ (w : Setup). IfOk c.attempt_there.result (λ o. o ≡ awaited_in w (state_of c.args.initializing.now c.args.parts.now))) (same-setup c.args.parts.now.runtime c.args.parts.now.runtime c.args.originals.now c.prepare.new.self refl c.in_ok-prepare.ensures.versions)
    c.attempt_there.ensures.answer

pub returns-clause-state : goal.returns-clause-state
returns-clause-state c =
    let s = state_of c.args.initializing.now c.args.parts.now in
    subst (λ (w : Setup). OnOk c.attempt_there.result (state_of c.attempt_there.new.initializing c.attempt_there.new.parts ≡ attempts_on w s s.stack)) (same-setup c.args.parts.now.runtime c.args.parts.now.runtime c.args.originals.now c.prepare.new.self refl c.in_ok-prepare.ensures.versions)
    c.attempt_there.ensures.state
