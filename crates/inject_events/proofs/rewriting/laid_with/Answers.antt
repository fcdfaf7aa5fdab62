-- the instructions are those of a reading
use Rattle.std.proofs.Common.{List, ap, ◌∙◌, arith}
use Rattle.std.specs.Prelude.{map}
use Rattle.code_model.specs.declared.laying.Group.{Group}
use Rattle.code_model.specs.declared.laying.Laid.{Laid}
use Rattle.code_model.specs.Layout.{homes_of}
use Rattle.jvm_model.specs.Rewriting.Versions.{group_of}
use Rattle.inject_events.proofs.InstrsIn.{AreGroups-in, rise-in}
use Rattle.inject_events.proofs.rewriting.laid_with.Goals as goal

pub lay_out-requires-clause-groups : goal.lay_out-requires-clause-groups
lay_out-requires-clause-groups c =
    let leave = c.args.probes.now.leave in
    AreGroups-in leave c.args.code.now c.as_slice.result.now (λ k. (c.type_inv.code k).fits) c.requires (omega arith)
    (c.as_slice.ensures ∙ (c.in_ok-groups.ensures ∙ ap (map (group_of leave)) c.in_ok-instrs.ensures.instrs))

pub returns-in-Ok-clause-rises : goal.returns-in-Ok-clause-rises
returns-in-Ok-clause-rises c =
    let probes = c.args.probes.now in
    rise-in probes.entry probes.leave probes.unwind c.args.code.now c.in-Ok.laid.homes c.requires
    (ap (λ (l : Laid). l.homes) c.in-Ok.ensures.laid ∙ ap (λ (gs : List Group). homes_of probes.entry gs) (c.as_slice.ensures ∙ (c.in_ok-groups.ensures ∙ ap (map (group_of probes.leave)) c.in_ok-instrs.ensures.instrs)))
