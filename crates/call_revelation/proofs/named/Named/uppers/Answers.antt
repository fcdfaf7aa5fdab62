use Rattle.std.proofs.Common.{ap, sym, ◌∙◌}
use Rattle.std.specs.Prelude.{flat_map, ◌||◌}
use Rattle.jvm_model.specs.Classes.Load.{is_among}
use Rattle.jvm_model.proofs.Loading.Among.{among-append}
use Rattle.possible_callees.specs.Tables.{list_at}
use Rattle.call_revelation.specs.CalledClasses.{own_of}
use Rattle.call_revelation.proofs.named.Named.uppers.Goals as goal

pub returns : goal.returns
returns c = λ upper.
    let v = c.args.self.now in
    let more = flat_map (list_at v.above.items) c.args.direct.now in
    ap (is_among upper) (c.in_ok-uppers.ensures ∙ c.as_slice.ensures)
    ∙ (c.in_ok-add_above.ensures upper
    ∙ (ap (λ l. is_among upper l || is_among upper more) c.in_ok-found.ensures ∙ sym (among-append upper (own_of v c.args.class) more)))
