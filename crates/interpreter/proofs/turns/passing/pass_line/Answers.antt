use Rattle.std.proofs.Common.{◌≡◌, List, [], ◌∷◌, Option, Some, sym, subst, ◌∙◌}
use Rattle.std.specs.Option.{IfSome}
use Rattle.std.proofs.lemmas.Option.{none-some}
use Rattle.frame_stack.specs.FrameLists.{PlacedFrame}
use Rattle.prepared_lines.specs.declared.line.Line.{Line}
use Rattle.prepared_code.specs.declared.parts.Here.{Here}
use Rattle.prepared_code.specs.Runs.{IsLineIn, RunsVersion}
use Rattle.prepared_code.specs.States.{here_of}
use Rattle.prepared_code.specs.Tables.{Version, version_at}
use Rattle.prepared_code.specs.Versions.{Setup, line_at}
use Rattle.instructions.proofs.Attempts.ElementSteps.{stands-there}
use Rattle.interpreter.specs.Moves.Onward.{GoesOnward}
use Rattle.prepared_code.specs.Originals.{setup_in}
use Rattle.interpreter.proofs.Silent.GoingOnward.{onward-if}
use Rattle.interpreter.proofs.Silent.SilentSteps.{passes_none}
use Rattle.interpreter.proofs.turns.passing.pass_line.Goals as goal

-- the line stands where the frame does
at-here : (w : Setup) (x : Version) (fs : List PlacedFrame) (line : Line) (here : Here) → here_of fs ≡ Some here → RunsVersion w x fs → IsLineIn x fs line
    → line_at w.versions here.version here.place ≡ Some line
at-here w x [] line here stands runs is = absurd is
at-here w x (f ∷ fs) line here stands runs is =
    subst (λ (o : Option Here). IfSome o (λ h. line_at w.versions h.version h.place ≡ Some line)) stands (stands-there w x (f ∷ fs) line runs is)

-- and the version is the one with its number
at-version : (w : Setup) (x : Version) (fs : List PlacedFrame) (here : Here) → here_of fs ≡ Some here → RunsVersion w x fs
    → version_at w.versions here.version ≡ Some x
at-version w x [] here stands runs = absurd (none-some here stands)
at-version w x (f ∷ fs) here stands runs = subst (λ (o : Option Here). IfSome o (λ h. version_at w.versions h.version ≡ Some x)) stands runs

pub pass_return-requires-clause-runs : goal.pass_return-requires-clause-runs
pass_return-requires-clause-runs c =
    at-version (setup_in c.args.parts.now.runtime c.args.originals.now) c.args.version.now c.args.parts.now.frames.frames c.in-Some.here (sym c.where_now.ensures ∙ c.in-Some.is) c.requires.runs

pub pass_named-requires-clause-here : goal.pass_named-requires-clause-here
pass_named-requires-clause-here c = sym c.where_now.ensures ∙ c.in-Some.is

pub pass_named-requires-clause-line : goal.pass_named-requires-clause-line
pass_named-requires-clause-line c =
    at-here (setup_in c.args.parts.now.runtime c.args.originals.now) c.args.version.now c.args.parts.now.frames.frames c.args.line.now c.in-Some.here (sym c.where_now.ensures ∙ c.in-Some.is)
    c.requires.runs c.requires.stands

pub pass_return-requires-clause-here : goal.pass_return-requires-clause-here
pass_return-requires-clause-here c = sym c.where_now.ensures ∙ c.in-Some.is

pub pass_return-requires-clause-line : goal.pass_return-requires-clause-line
pass_return-requires-clause-line c =
    at-here (setup_in c.args.parts.now.runtime c.args.originals.now) c.args.version.now c.args.parts.now.frames.frames c.args.line.now c.in-Some.here (sym c.where_now.ensures ∙ c.in-Some.is)
    c.requires.runs c.requires.stands

pub returns-in_default : goal.returns-in_default
returns-in_default c = passes_none (setup_in c.args.parts.now.runtime c.args.originals.now) c.args.initializing.now c.args.parts.now c.requires.at_instruction

pub returns-in-Basic : goal.returns-in-Basic
returns-in-Basic c = passes_none (setup_in c.args.parts.now.runtime c.args.originals.now) c.args.initializing.now c.args.parts.now c.requires.at_instruction

pub returns-in_default-operation : goal.returns-in_default-operation
returns-in_default-operation c = passes_none (setup_in c.args.parts.now.runtime c.args.originals.now) c.args.initializing.now c.args.parts.now c.requires.at_instruction

pub pass_throw-requires-clause-here : goal.pass_throw-requires-clause-here
pass_throw-requires-clause-here c = sym c.where_now.ensures ∙ c.in-Some.is

pub pass_throw-requires-clause-line : goal.pass_throw-requires-clause-line
pass_throw-requires-clause-line c =
    at-here (setup_in c.args.parts.now.runtime c.args.originals.now) c.args.version.now c.args.parts.now.frames.frames c.args.line.now c.in-Some.here (sym c.where_now.ensures ∙ c.in-Some.is)
    c.requires.runs c.requires.stands

pub pass_measure-requires-clause-here : goal.pass_measure-requires-clause-here
pass_measure-requires-clause-here c = sym c.where_now.ensures ∙ c.in-Some.is

pub pass_measure-requires-clause-line : goal.pass_measure-requires-clause-line
pass_measure-requires-clause-line c =
    at-here (setup_in c.args.parts.now.runtime c.args.originals.now) c.args.version.now c.args.parts.now.frames.frames c.args.line.now c.in-Some.here (sym c.where_now.ensures ∙ c.in-Some.is)
    c.requires.runs c.requires.stands

pub returns-in-Athrow : goal.returns-in-Athrow
returns-in-Athrow c =
    let w = setup_in c.args.parts.now.runtime c.args.originals.now in
    let ms = c.args.initializing.now in
    subst (λ o. GoesOnward w ms c.args.parts.now o c.pass_throw.new.parts) (sym c.made_if.ensures)
    (onward-if w ms c.args.parts.now c.pass_throw.new.parts c.pass_throw.result c.pass_throw.ensures)

pub returns-in-Arraylength : goal.returns-in-Arraylength
returns-in-Arraylength c =
    let w = setup_in c.args.parts.now.runtime c.args.originals.now in
    let ms = c.args.initializing.now in
    subst (λ o. GoesOnward w ms c.args.parts.now o c.pass_measure.new.parts) (sym c.made_if-in-Arraylength.ensures)
    (onward-if w ms c.args.parts.now c.pass_measure.new.parts c.pass_measure.result c.pass_measure.ensures)
