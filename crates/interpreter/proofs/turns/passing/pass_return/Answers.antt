use Rattle.std.proofs.Common.{◌≡◌, ℕ, Option, Some, sym, ap, subst, ◌∙◌}
use Rattle.std.specs.Prelude.{not}
use Rattle.std.specs.Option.{option_map_or}
use Rattle.std.proofs.lemmas.Bool.{not-false}
use Rattle.jvm_model.specs.declared.event.Mark.TheVariants.{Off}
use Rattle.prepared_code.specs.Tables.{Version, Versions, version_at}
use Rattle.jvm_model.specs.Rewriting.Images.{is_off}
use Rattle.prepared_code.specs.Versions.{mark_of}
use Rattle.interpreter.specs.Moves.Onward.{GoesOnward}
use Rattle.interpreter.specs.Moves.Trying.{returns_by}
use Rattle.prepared_code.specs.Originals.{setup_in}
use Rattle.interpreter.proofs.Moves.QuickSteps.{stops-quickly}
use Rattle.interpreter.proofs.Silent.GoingOnward.{onward-if}
use Rattle.interpreter.proofs.turns.passing.pass_return.Goals as goal

-- the version that has a number has the probes that are looked up by it
probed-as : (v : Versions) (version : ℕ) (x : Version) → version_at v version ≡ Some x → not (is_off (mark_of v version)) ≡ not (is_off x.prepared.mark)
probed-as v version x there = ap (λ (o : Option Version). not (is_off (option_map_or (λ (x : Version). x.prepared.mark) o Off))) there

pub returns-then-is_probed : goal.returns-then-is_probed
returns-then-is_probed c =
    stops-quickly (setup_in c.args.parts.now.runtime c.args.originals.now) c.requires.run c.args.initializing.now c.args.parts.now c.args.here c.args.line.now c.requires.here c.requires.at_instruction c.requires.line
    (ap returns_by c.requires.ends)
    (probed-as (setup_in c.args.parts.now.runtime c.args.originals.now).versions c.args.here.version c.args.version.now c.requires.runs ∙ sym c.is_probed.ensures ∙ c.if-is_probed.true)

pub returns : goal.returns
returns c =
    let w = setup_in c.args.parts.now.runtime c.args.originals.now in
    let ms = c.args.initializing.now in
    subst (λ o. GoesOnward w ms c.args.parts.now o c.leave.new.parts) (sym c.made_if.ensures)
    (onward-if w ms c.args.parts.now c.leave.new.parts c.leave.result
    (c.leave.ensures.silent (not-false (is_off (mark_of w.versions c.args.here.version)) (probed-as w.versions c.args.here.version c.args.version.now c.requires.runs ∙ sym c.is_probed.ensures ∙ c.if-is_probed.false))))
