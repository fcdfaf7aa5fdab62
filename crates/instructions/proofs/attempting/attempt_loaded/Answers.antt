use Rattle.std.proofs.Common.{◌≡◌, refl, sym, subst, ap, ◌∙◌}
use Rattle.std.specs.Prelude.{IfNone, IfOk, is_some}
use Rattle.std.specs.Option.{IfSome}
use Rattle.jvm_model.specs.Running.Run.{with_classes_loaded}
use Rattle.prepared_code.specs.Versions.{Setup}
use Rattle.instructions.specs.Acts.{attempts_on, awaited_in, awaited_on}
use Rattle.prepared_code.specs.Initializations.{state_of}
use Rattle.prepared_code.specs.Ready.{CanRun, IsSoundIn}
use Rattle.activations.specs.Turning.{loads_in, loads_none}
use Rattle.prepared_code.specs.Originals.{setup_in}
use Rattle.instructions.proofs.Initializing.Beneath.{nothing-there}
use Rattle.instructions.proofs.Attempts.NamedAttempts.{same-setup}
use Rattle.instructions.proofs.Loads.LoadedApart.{nothing-loads}
use Rattle.instructions.proofs.attempting.attempt_loaded.Goals as goal

-- there is no frame
pub returns-in_default-clause-answer : goal.returns-in_default-clause-answer
returns-in_default-clause-answer c =
    let w = setup_in c.args.parts.now.runtime c.args.originals.now in
    let p = c.args.parts.now in
    sym (ap (awaited_on w (state_of c.args.initializing.now p)) (nothing-there w c.args.initializing.now p (sym c.where_now.ensures ∙ c.in_default.is) c.requires.executing))

pub returns-in_default-clause-state : goal.returns-in_default-clause-state
returns-in_default-clause-state c =
    let w = setup_in c.args.parts.now.runtime c.args.originals.now in
    let p = c.args.parts.now in
    sym (ap (attempts_on w (state_of c.args.initializing.now p)) (nothing-there w c.args.initializing.now p (sym c.where_now.ensures ∙ c.in_default.is) c.requires.executing))

pub returns-in_default-clause-some : goal.returns-in_default-clause-some
returns-in_default-clause-some c =
    sym (nothing-loads (setup_in c.args.parts.now.runtime c.args.originals.now) c.args.initializing.now c.args.parts.now c.requires.ending (sym c.where_now.ensures ∙ c.in_default.is) c.requires.executing)

pub attempt_loaded_there-requires-clause-known : goal.attempt_loaded_there-requires-clause-known
attempt_loaded_there-requires-clause-known c = c.in_ok-prepare.ensures.known c.args.parts.now.runtime c.requires.known

pub attempt_loaded_there-requires-clause-fit : goal.attempt_loaded_there-requires-clause-fit
attempt_loaded_there-requires-clause-fit c = subst CanRun (sym (same-setup c.args.parts.now.runtime c.args.parts.now.runtime c.args.originals.now c.prepare.new.self refl c.in_ok-prepare.ensures.versions)) c.requires.fit

pub attempt_loaded_there-requires-clause-sound : goal.attempt_loaded_there-requires-clause-sound
attempt_loaded_there-requires-clause-sound c =
    subst (λ (w : Setup). IsSoundIn w (state_of c.args.initializing.now c.args.parts.now)) (sym (same-setup c.args.parts.now.runtime c.args.parts.now.runtime c.args.originals.now c.prepare.new.self refl c.in_ok-prepare.ensures.versions)) c.requires.sound

pub attempt_loaded_there-requires-clause-here : goal.attempt_loaded_there-requires-clause-here
attempt_loaded_there-requires-clause-here c = sym c.where_now.ensures ∙ c.in-Some.is

pub returns-clause-some : goal.returns-clause-some
returns-clause-some c =
    subst (λ (w : Setup). IfOk c.attempt_loaded_there.result (λ o. is_some o ≡ loads_none w (state_of c.args.initializing.now c.args.parts.now))) (same-setup c.args.parts.now.runtime c.args.parts.now.runtime c.args.originals.now c.prepare.new.self refl c.in_ok-prepare.ensures.versions)
    c.attempt_loaded_there.ensures.some

pub returns-clause-answer : goal.returns-clause-answer
returns-clause-answer c =
    subst (λ (w : Setup). IfOk c.attempt_loaded_there.result (λ o. IfSome o (λ a. a ≡ awaited_in w (state_of c.args.initializing.now c.args.parts.now)))) (same-setup c.args.parts.now.runtime c.args.parts.now.runtime c.args.originals.now c.prepare.new.self refl c.in_ok-prepare.ensures.versions)
    c.attempt_loaded_there.ensures.answer

pub returns-clause-state : goal.returns-clause-state
returns-clause-state c =
    let s = state_of c.args.initializing.now c.args.parts.now in
    subst (λ (w : Setup). IfOk c.attempt_loaded_there.result (λ o. IfSome o (λ _. state_of c.attempt_loaded_there.new.initializing c.attempt_loaded_there.new.parts ≡ attempts_on w s s.stack)))
    (same-setup c.args.parts.now.runtime c.args.parts.now.runtime c.args.originals.now c.prepare.new.self refl c.in_ok-prepare.ensures.versions) c.attempt_loaded_there.ensures.state

pub returns-clause-loads : goal.returns-clause-loads
returns-clause-loads c =
    let s = state_of c.args.initializing.now c.args.parts.now in
    subst (λ (w : Setup). IfOk c.attempt_loaded_there.result (λ o. IfNone o (state_of c.attempt_loaded_there.new.initializing c.attempt_loaded_there.new.parts ≡ with_classes_loaded (loads_in w s) s)))
    (same-setup c.args.parts.now.runtime c.args.parts.now.runtime c.args.originals.now c.prepare.new.self refl c.in_ok-prepare.ensures.versions) c.attempt_loaded_there.ensures.loads
