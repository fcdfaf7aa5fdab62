use Rattle.std.proofs.Common.{◌≡◌, false, rules, subst, sym}
use Rattle.std.specs.Prelude.{slice_set}
use Rattle.jvm_model.specs.Profiling.Revealed.{without_method}
use Rattle.call_revelation.specs.Flags.{AreFlagged}
use Rattle.call_revelation.proofs.Revelations.FlagLemmas.{flagged-less}
use Rattle.call_revelation.proofs.selection.SelectedMethods.deselect.Goals as goal

pub invariant_of-self : goal.invariant_of-self
invariant_of-self c =
    let methods : c.in_ok-methods.methods ≡ without_method c.args.method c.self.inside.methods = search rules in
    subst (λ l. AreFlagged l c.in_ok-methods.methods) (sym c.put.ensures)
    (subst (AreFlagged (slice_set c.self.inside.flags c.args.method false)) (sym methods)
    (flagged-less c.self.inside.flags c.self.inside.methods c.args.method c.self.invariant))
