use Rattle.std.proofs.Common.{◌≡◌, ◌++◌, Option, Some, ap, sym, subst, ◌∙◌, arith}
use Rattle.std.specs.Prelude.{◌==◌, is_some, if◌then◌else◌}
use Rattle.std.specs.Option.{option_copied, option_map}
use Rattle.method_versions.specs.declared.versions.Held.{Held}
use Rattle.method_versions.specs.Tables.{held_in, method_in, prepared_anew}
use Rattle.method_versions.proofs.Replacing.{far-replaced, listed-replaced, none-anew, own-replaced}
use Rattle.method_versions.proofs.versions.Versions.replace.Goals as goal

pub put_at-requires : goal.put_at-requires
put_at-requires g c =
    let before = c.self.inside.first.items ++ c.self.inside.later.slots in
    let x : Held g.row.T.Denot = c.in-Some.held.now in
    let there : held_in before c.args.number ≡ Some x = subst (λ t. held_in t.slots c.args.number ≡ Some x) (sym c.self.view_is) (sym c.get.ensures ∙ ap option_copied c.in-Some.is) in
    ap is_some there

pub invariant_of-self : goal.invariant_of-self
invariant_of-self g c =
    let before = c.self.inside.first.items ++ c.self.inside.later.slots in
    let after = c.put_at.new.first.items ++ c.put_at.new.later.slots in
    let x : Held g.row.T.Denot = c.in-Some.held.now in
    let v : Held g.row.T.Denot = record { method = x.method; prepared = c.args.prepared } in
    let there : held_in before c.args.number ≡ Some x = subst (λ t. held_in t.slots c.args.number ≡ Some x) (sym c.self.view_is) (sym c.get.ensures ∙ ap option_copied c.in-Some.is) in
    let same : method_in before c.args.number ≡ Some v.method = ap (option_map (λ (h : Held g.row.T.Denot). h.method)) there in
    record {
      own = own-replaced before after c.args.number v same c.put_at.ensures.held c.self.inside.current.items c.self.invariant.own;
      methods = c.put_at.ensures.first ∙ c.self.invariant.methods;
      few = omega (arith, c.put_at.ensures.first, c.self.invariant.few);
      far = far-replaced before after c.args.number v same c.put_at.ensures.held c.self.invariant.far;
      listed = listed-replaced before after c.args.number v same c.put_at.ensures.held c.self.inside.current.items c.self.inside.superseded.items c.self.invariant.listed;
    }

pub returns-clause-held : goal.returns-clause-held
returns-clause-held g c k =
    let before = c.self.inside.first.items ++ c.self.inside.later.slots in
    let x : Held g.row.T.Denot = c.in-Some.held.now in
    let there : held_in before c.args.number ≡ Some x = subst (λ t. held_in t.slots c.args.number ≡ Some x) (sym c.self.view_is) (sym c.get.ensures ∙ ap option_copied c.in-Some.is) in
    rw (← c.self.view_is)
    (c.put_at.ensures.held k
    ∙ ap (λ (o : Option (Held g.row.T.Denot)). if k == c.args.number then o else held_in before k)
    (sym (ap (option_map (prepared_anew c.args.prepared)) there)))

pub returns-in_default-clause-held : goal.returns-in_default-clause-held
returns-in_default-clause-held g c = none-anew c.args.self.now c.args.number c.args.prepared (sym c.get.ensures ∙ ap option_copied c.in_default.is)
