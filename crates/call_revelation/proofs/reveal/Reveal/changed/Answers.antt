use Rattle.std.proofs.Common.{ap, ap₂, ◌∙◌}
use Rattle.std.specs.Prelude.{filter_map, slice_get}
use Rattle.jvm_model.specs.Classes.Load.{is_among}
use Rattle.call_revelation.proofs.Revelations.Shown.{classes-changed}
use Rattle.call_revelation.proofs.reveal.Reveal.changed.Goals as goal

pub returns : goal.returns
returns c = λ before shown.
    c.in_ok-all.ensures
    ∙ (ap₂ (λ classes ranks. filter_map (slice_get classes) ranks) c.as_slice.ensures.classes c.as_slice-2.ensures.value
    ∙ classes-changed c.args.program.now c.args.self.now c.requires before shown c.as_slice.ensures.distinct c.put_in_order.new.ranks.items c.put_in_order.ensures.rising
    (λ rank. c.put_in_order.ensures.same rank ∙ ap (is_among rank) c.in_ok-ranks.ensures))
