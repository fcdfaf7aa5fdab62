use Rattle.std.proofs.Common.{true, sym, subst, ◌∙◌, arith}
use Rattle.std.proofs.lemmas.Bool.{false≢true, not-false}
use Rattle.jvm_model.specs.declared.due.Due.TheVariants.{Nothing}
use Rattle.interpreter.specs.Moves.Quickly.{TriesIf, TriesQuickly}
use Rattle.prepared_code.specs.Originals.{setup_in}
use Rattle.interpreter.proofs.Moves.QuickHands.{hands-quickly, quick-moves, quick-tries, sound-quickly, start-quickly}
use Rattle.interpreter.proofs.turns.quickly.go_quickly.Goals as goal

-- by moves
pub returns-then-hand-clause-goes : goal.returns-then-hand-clause-goes
returns-then-hand-clause-goes c =
    quick-moves (setup_in c.args.parts.now.runtime c.args.originals.now) c.args.initializing.now c.args.hand c.args.parts.now c.gone_to.result c.gone_to.ensures.left c.if-hand.true c.if-hand-2.false
    (sym c.is_at_rest.ensures ∙ c.if-not-is_at_rest.false) c.gone_to.ensures.due c.gone_to.ensures.passed

pub returns-then-hand-clause-hands : goal.returns-then-hand-clause-hands
returns-then-hand-clause-hands c =
    hands-quickly (setup_in c.args.parts.now.runtime c.args.originals.now) c.args.initializing.now c.args.hand c.args.parts.now c.gone_to.result c.args.parts.now
    (quick-moves (setup_in c.args.parts.now.runtime c.args.originals.now) c.args.initializing.now c.args.hand c.args.parts.now c.gone_to.result c.gone_to.ensures.left c.if-hand.true c.if-hand-2.false
    (sym c.is_at_rest.ensures ∙ c.if-not-is_at_rest.false) c.gone_to.ensures.due c.gone_to.ensures.passed)

pub returns-then-hand-clause-starts : goal.returns-then-hand-clause-starts
returns-then-hand-clause-starts c =
    start-quickly (setup_in c.args.parts.now.runtime c.args.originals.now) c.args.initializing.now c.args.hand c.args.parts.now c.gone_to.result c.args.parts.now
    (quick-moves (setup_in c.args.parts.now.runtime c.args.originals.now) c.args.initializing.now c.args.hand c.args.parts.now c.gone_to.result c.gone_to.ensures.left c.if-hand.true c.if-hand-2.false
    (sym c.is_at_rest.ensures ∙ c.if-not-is_at_rest.false) c.gone_to.ensures.due c.gone_to.ensures.passed) c.requires.fit

-- by a return
pub returns-clause-goes : goal.returns-clause-goes
returns-clause-goes c =
    let w = setup_in c.args.parts.now.runtime c.args.originals.now in
    let ms = c.args.initializing.now in
    let none = c.if-hand-gt0.false in
    quick-tries w ms c.args.hand c.args.parts.now c.gone_to-2.result c.gone_to-2.ensures.left c.end_told.new.parts Nothing c.if-hand.false (omega (arith, none))
    (subst (λ b. TriesQuickly w ms b c.args.parts.now Nothing c.end_told.new.parts) (sym (not-false c.args.hand.delivered c.if-not-hand.false))
    (subst (λ b. TriesIf b w ms true c.args.parts.now Nothing c.end_told.new.parts) c.if-not-end_told.false c.end_told.ensures.tries))
    c.gone_to-2.ensures.due c.gone_to-2.ensures.passed

pub returns-clause-hands : goal.returns-clause-hands
returns-clause-hands c = hands-quickly (setup_in c.args.parts.now.runtime c.args.originals.now) c.args.initializing.now c.args.hand c.args.parts.now c.gone_to-2.result c.end_told.new.parts (returns-clause-goes c)

pub returns-clause-sound : goal.returns-clause-sound
returns-clause-sound c =
    sound-quickly (setup_in c.args.parts.now.runtime c.args.originals.now) c.args.initializing.now c.args.hand c.args.parts.now c.gone_to-2.result c.end_told.new.parts (returns-clause-goes c) c.requires.fit

pub returns-clause-starts : goal.returns-clause-starts
returns-clause-starts c = λ moves undelivered start. absurd (false≢true (sym c.if-hand.false ∙ moves))

-- nothing was done
pub returns-then-not-end_told-clause-none : goal.returns-then-not-end_told-clause-none
returns-then-not-end_told-clause-none c =
    subst (λ b. TriesIf b (setup_in c.args.parts.now.runtime c.args.originals.now) c.args.initializing.now true c.args.parts.now Nothing c.end_told.new.parts) c.if-not-end_told.true c.end_told.ensures.tries
