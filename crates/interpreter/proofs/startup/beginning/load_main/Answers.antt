use Rattle.std.proofs.Common.{ap, ◌∙◌}
use Rattle.jvm_model.specs.Running.Run.{main_class}
use Rattle.member_selection.specs.Answers.{found_view}
use Rattle.prepared_code.specs.Initializations.{state_of}
use Rattle.prepared_code.specs.Originals.{setup_in}
use Rattle.prepared_code.proofs.Lines.KnownNames.{names-kept}
use Rattle.instructions.proofs.Attempts.NamedAttempts.{on-either}
use Rattle.interpreter.proofs.Loads.Starts.{begins-all, fits-room}
use Rattle.interpreter.proofs.startup.beginning.load_main.Goals as goal

pub make_arguments-requires : goal.make_arguments-requires
make_arguments-requires c =
    fits-room (setup_in c.args.parts.now.runtime c.args.originals.now) (state_of c.args.initializing.now c.args.parts.now) c.requires.at_start.before c.requires.fits

pub load_main-requires : goal.load_main-requires
load_main-requires c = record {
  known = names-kept c.args.originals.now c.args.parts.now.runtime c.make_arguments.new.self c.make_arguments.ensures.world c.make_arguments.ensures.same_loaded c.requires.known;
}

pub returns-clause-known : goal.returns-clause-known
returns-clause-known c =
    on-either c.begin_class.result
    (names-kept c.args.originals.now c.load_main.new.runtime c.begin_class.new.parts.runtime c.begin_class.ensures.world c.begin_class.ensures.same_loaded c.in_ok-found.ensures.known)

pub returns-clause-state : goal.returns-clause-state
returns-clause-state c =
    begins-all c.begin_class.result c.args.originals.now c.args.initializing.now c.args.parts.now c.main_class-class.result (state_of c.begin_class.new.initializing c.begin_class.new.parts)
    (found_view c.in_ok-found.found) c.make_arguments.new.self c.load_main.new.runtime c.requires.at_start.before c.in_ok-make_arguments.ensures.runtime c.in_ok-found.ensures.runtime
    c.in_ok-found.ensures.found (c.main_class-class.ensures ∙ ap main_class c.program.ensures.program) c.begin_class.ensures.state
