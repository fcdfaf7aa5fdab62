use Rattle.std.proofs.Common.{ap, sym, ◌∙◌}
use Rattle.std.specs.Prelude.{flat_map}
use Rattle.std.proofs.lemmas.Result.{on_ok_weaker}
use Rattle.std.proofs.lemmas.Bool.{or_right}
use Rattle.jvm_model.specs.Classes.Load.{is_among}
use Rattle.possible_callees.specs.Tables.{Adds}
use Rattle.call_revelation.specs.CalledClasses.{HasCalled, called_class}
use Rattle.call_revelation.proofs.named.Named.add_read.Goals as goal

pub returns-clause-called : goal.returns-clause-called
returns-clause-called c =
    let p = c.args.linker.now.program in
    let old = c.args.self.now.classes in
    let new = c.add_all_called.new.self in
    let made = flat_map (called_class p) c.as_slice-references.result.now in
    let to : Adds old new.classes made → HasCalled p new c.args.method =
    λ adds class h. adds class ∙ or_right (is_among class old) (is_among class made)
    (ap (λ l. is_among class (flat_map (called_class p) l))
    (c.as_slice-references.ensures ∙ c.requires.book.read c.args.method c.in-Some.references.now (sym c.in-Some.ensures)) ∙ h) in
    on_ok_weaker c.add_all_called.result to c.add_all_called.ensures.called
