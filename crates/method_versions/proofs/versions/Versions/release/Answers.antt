use Rattle.std.proofs.Common.{◌≡◌, ◌++◌, sym, ap, subst, ◌∙◌}
use Rattle.std.specs.Prelude.{None, true, not, ◌==◌, ◌&&◌, if◌then◌else◌}
use Rattle.std.specs.List.{list_all}
use Rattle.frame_stack.specs.FrameLists.{pins_of}
use Rattle.method_versions.specs.Tables.{held_in}
use Rattle.method_versions.proofs.Releasing.{none-free}
use Rattle.method_versions.proofs.versions.Versions.release.Goals as goal

pub returns-then-are_pinned-clause-held : goal.returns-then-are_pinned-clause-held
returns-then-are_pinned-clause-held g c k =
    let fs = c.args.frames.now.frames in
    let numbers = c.self.inside.superseded.items in
    let held = held_in (c.self.inside.first.items ++ c.self.inside.later.slots) k in
    let all = subst (λ ns. list_all (λ n. not (pins_of n fs == 0)) ns ≡ true) c.as_slice.ensures.value (sym c.are_pinned.ensures ∙ c.if-are_pinned.true) in
    rw (← c.self.view_is)
    (ap (λ b. if b then None else held)
    (sym (ap (λ b. b && pins_of k fs == 0) (c.self.invariant.listed k) ∙ none-free fs numbers k all)))
