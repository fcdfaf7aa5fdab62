use Rattle.std.proofs.Common.{◌≡◌, [], None, Some, nat_lt, sym, ap, ◌∙◌}
use Rattle.jvm_model.specs.Running.Applies.{most_live, new_frame, with_frame}
use Rattle.jvm_model.specs.Running.Moves.{raises}
use Rattle.jvm_model.specs.Basis.Programs.{initializer_of}
use Rattle.jvm_model.specs.Basis.SharedState.{stack_overflow}
use Rattle.prepared_code.specs.Initializations.{state_of}
use Rattle.prepared_code.specs.Originals.{setup_in}
use Rattle.activations.proofs.InitializerFrames.{live-of, method-begun, method-none, runs-begun, runs-over}
use Rattle.activations.proofs.initializing.run_initializer.Goals as goal
use Rattle.prepared_code.specs.Versions.{listing_of}

-- one activation too many
pub returns-then-not-may_begin-clause-begun : goal.returns-then-not-may_begin-clause-begun
returns-then-not-may_begin-clause-begun c =
    let w = setup_in c.args.parts.now.runtime c.args.originals.now in
    let found : initializer_of w.world.program c.args.class ≡ Some c.in-Some.method =
    ap (λ p. initializer_of p c.args.class) (sym c.program.ensures.program) ∙ (sym c.initializer_of.ensures ∙ c.in-Some.is) in
    method-none w (state_of c.args.initializing.now c.args.parts.now) c.args.class c.in-Some.method found
    (ap (λ n. nat_lt n most_live) (live-of c.args.initializing.now c.args.parts.now) ∙ (sym c.may_begin.ensures ∙ c.if-not-may_begin.true))

pub returns-then-not-may_begin-clause-state : goal.returns-then-not-may_begin-clause-state
returns-then-not-may_begin-clause-state c =
    let w = setup_in c.args.parts.now.runtime c.args.originals.now in
    let found : initializer_of w.world.program c.args.class ≡ Some c.in-Some.method =
    ap (λ p. initializer_of p c.args.class) (sym c.program.ensures.program) ∙ (sym c.initializer_of.ensures ∙ c.in-Some.is) in
    ap (state_of c.put_initialization.new.initializing) c.in_ok-raise.ensures.state
    ∙ (ap (λ x. raises w.world x stack_overflow None) c.in_ok-put_initialization.ensures.state
    ∙ sym (runs-over w (state_of c.args.initializing.now c.args.parts.now) c.args.class c.in-Some.method found
    (ap (λ n. nat_lt n most_live) (live-of c.args.initializing.now c.args.parts.now) ∙ (sym c.may_begin.ensures ∙ c.if-not-may_begin.true))))

-- it begins
pub returns-clause-begun : goal.returns-clause-begun
returns-clause-begun c =
    let w = setup_in c.args.parts.now.runtime c.args.originals.now in
    let found : initializer_of w.world.program c.args.class ≡ Some c.in-Some.method =
    ap (λ p. initializer_of p c.args.class) (sym c.program.ensures.program) ∙ (sym c.initializer_of.ensures ∙ c.in-Some.is) in
    method-begun w (state_of c.args.initializing.now c.args.parts.now) c.args.class c.in-Some.method found
    (ap (λ n. nat_lt n most_live) (live-of c.args.initializing.now c.args.parts.now) ∙ (sym c.may_begin.ensures ∙ c.if-not-may_begin.false))

pub returns-clause-state : goal.returns-clause-state
returns-clause-state c =
    let w = setup_in c.args.parts.now.runtime c.args.originals.now in
    let found : initializer_of w.world.program c.args.class ≡ Some c.in-Some.method =
    ap (λ p. initializer_of p c.args.class) (sym c.program.ensures.program) ∙ (sym c.initializer_of.ensures ∙ c.in-Some.is) in
    c.in_ok-begin_initializer.ensures.state
    ∙ (ap (λ x. with_frame x (new_frame w.world (listing_of w.versions) c.in-Some.method [])) c.in_ok-put_initialization.ensures.state
    ∙ sym (runs-begun w (state_of c.args.initializing.now c.args.parts.now) c.args.class c.in-Some.method found
    (ap (λ n. nat_lt n most_live) (live-of c.args.initializing.now c.args.parts.now) ∙ (sym c.may_begin.ensures ∙ c.if-not-may_begin.false))))
