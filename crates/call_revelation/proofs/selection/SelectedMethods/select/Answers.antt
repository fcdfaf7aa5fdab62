use Rattle.std.proofs.Common.{◌≡◌, ◌∷◌, rules, subst, sym, true}
use Rattle.std.specs.Prelude.{slice_set}
use Rattle.jvm_model.specs.Profiling.Revealed.{without_method}
use Rattle.call_revelation.specs.Flags.{AreFlagged}
use Rattle.call_revelation.proofs.Revelations.FlagLemmas.{flagged-more, flagged-padded}
use Rattle.call_revelation.proofs.selection.SelectedMethods.select.Goals as goal

pub invariant_of-self-2 : goal.invariant_of-self-2
invariant_of-self-2 c =
    let methods : c.in_ok-methods.methods ≡ c.args.method ∷ without_method c.args.method c.self.inside.methods = search rules in
    subst (λ l. AreFlagged l c.in_ok-methods.methods) (sym c.set.ensures)
    (subst (AreFlagged (slice_set c.make_room.new.items c.args.method true)) (sym methods)
    (flagged-more c.make_room.new.items c.self.inside.methods c.args.method
    (flagged-padded c.self.inside.flags c.make_room.new.items c.self.inside.methods c.make_room.ensures.padded c.self.invariant)
    c.in_ok-make_room.ensures.room))
