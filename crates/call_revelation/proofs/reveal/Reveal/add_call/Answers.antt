use Rattle.std.proofs.Common.{subst, sym}
use Rattle.std.specs.Prelude.{OnOk}
use Rattle.possible_callees.specs.Tables.{Adds}
use Rattle.possible_callees.proofs.Numbers.Adding.{adds-nothing}
use Rattle.call_revelation.specs.Books.{called_by}
use Rattle.call_revelation.proofs.reveal.Reveal.add_call.Goals as goal

pub returns-in-Some : goal.returns-in-Some
returns-in-Some c =
    subst (λ l. OnOk c.add_called.result (Adds c.args.found.now c.add_called.new.found l))
    (sym (c.in-Some.ensures.begins (called_by c.args.linker.now.program c.args.new c.args.class))) c.add_called.ensures

pub returns-in-None : goal.returns-in-None
returns-in-None c =
    subst (λ l. Adds c.args.found.now c.args.found.now l) (sym (c.in-None.ensures.begins (called_by c.args.linker.now.program c.args.new c.args.class))) (adds-nothing c.args.found.now)
