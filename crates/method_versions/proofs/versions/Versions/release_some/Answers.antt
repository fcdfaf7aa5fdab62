use Rattle.std.proofs.Common.{◌≡◌, ◌++◌, ℕ, sym, ap, subst, ◌∙◌, arith}
use Rattle.std.specs.Prelude.{None, ◌==◌, ◌&&◌, if◌then◌else◌}
use Rattle.frame_stack.specs.FrameLists.{pins_of}
use Rattle.method_versions.specs.Tables.{held_but, held_in, is_listed}
use Rattle.method_versions.proofs.Releasing.{far-left, listed-left, own-left}
use Rattle.method_versions.proofs.versions.Versions.release_some.Goals as goal

pub invariant_of-self : goal.invariant_of-self
invariant_of-self g c =
    let fs = c.args.frames.now.frames in
    let before = c.self.inside.first.items ++ c.self.inside.later.slots in
    let after = c.drop_unpinned.new.first.items ++ c.drop_unpinned.new.later.slots in
    let numbers = c.self.inside.superseded.items in
    let is = c.self.invariant in
    let held = subst (λ ns. (k : ℕ) → held_in after k ≡ held_but ns fs before k) c.as_slice.ensures.value c.drop_unpinned.ensures.held in
    record {
      own = own-left fs before after c.self.inside.current.items numbers is.listed held is.own;
      methods = c.drop_unpinned.ensures.first ∙ is.methods;
      few = omega (arith, c.drop_unpinned.ensures.first, is.few);
      far = far-left fs before after c.self.inside.current.items numbers is.listed held is.far;
      listed = λ k. listed-left fs before after c.self.inside.current.items numbers is.listed held k ∙ ap (is_listed k) (sym c.keep_pinned.ensures.kept);
    }

pub returns-clause-held : goal.returns-clause-held
returns-clause-held g c k =
    let fs = c.args.frames.now.frames in
    let before = c.self.inside.first.items ++ c.self.inside.later.slots in
    rw (← c.self.view_is)
    (c.drop_unpinned.ensures.held k
    ∙ (ap (λ ns. held_but ns fs before k) c.as_slice.ensures.value
    ∙ ap (λ b. if b && pins_of k fs == 0 then None else held_in before k) (sym (c.self.invariant.listed k))))
