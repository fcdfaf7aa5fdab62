use Rattle.std.proofs.Common.{sym, ap, ◌∙◌, arith}
use Rattle.std.specs.Prelude.{not}
use Rattle.jvm_model.specs.Rewriting.Images.{is_off}
use Rattle.prepared_code.specs.Versions.{mark_of}
use Rattle.interpreter.proofs.Moves.Followed.{enters_top}
use Rattle.interpreter.proofs.turns.trying.enters.Goals as goal

pub returns-in-Some : goal.returns-in-Some
returns-in-Some c =
    c.is_marked.ensures
    ∙ (ap (λ version. not (is_off (mark_of c.args.originals.now.versions version))) c.current.ensures
    ∙ enters_top c.args.originals.now.versions c.args.depth c.args.frames.now.frames c.in-Some.field-0-0 c.in-Some.method (sym c.top.ensures ∙ c.in-Some.is)
    (omega (arith, c.if-depth.false, c.depth.ensures)))
