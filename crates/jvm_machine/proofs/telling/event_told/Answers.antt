use Rattle.std.proofs.Common.{Some, None, sym, ap, ◌∙◌}
use Rattle.jvm_model.specs.Turns.Pauses.{begin_kind}
use Rattle.prepared_code.specs.Versions.{mark_of}
use Rattle.jvm_machine.proofs.Probes.ToldFrames.{told-by, told_here}
use Rattle.jvm_machine.proofs.telling.event_told.Goals as goal

pub returns-in_err-here : goal.returns-in_err-here
returns-in_err-here c =
    c.from_residual.ensures
    ∙ sym (told-by (mark_of c.args.originals.now.versions) c.args.due c.args.clock c.args.parts.now c.args.initializing.now None (sym c.in_err-here.was ∙ c.where_now.ensures))

pub returns-in-Ends : goal.returns-in-Ends
returns-in-Ends c =
    let v = mark_of c.args.originals.now.versions in
    sym (told-by v c.args.due c.args.clock c.args.parts.now c.args.initializing.now (Some c.in_ok-here.here) (sym c.in_ok-here.was ∙ c.where_now.ensures)
    ∙ ap (λ d. told_here v d c.args.clock (Some c.in_ok-here.here)) c.in-Ends.is)

pub returns-in-Begins : goal.returns-in-Begins
returns-in-Begins c =
    let v = mark_of c.args.originals.now.versions in
    ap (λ k. Some (record { kind = k; method = c.in_ok-here.here.method; clock = c.args.clock })) (c.begin_kind-kind.ensures ∙ ap begin_kind c.mark.ensures)
    ∙ sym (told-by v c.args.due c.args.clock c.args.parts.now c.args.initializing.now (Some c.in_ok-here.here) (sym c.in_ok-here.was ∙ c.where_now.ensures)
    ∙ ap (λ d. told_here v d c.args.clock (Some c.in_ok-here.here)) c.in-Begins.is)
