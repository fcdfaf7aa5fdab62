use Rattle.std.proofs.Common.{◌≡◌, ◌≤◌, refl, sym, ap, subst, ◌∙◌, false}
use Rattle.jvm_model.specs.declared.event.Act.{Act}
use Rattle.profile_session.specs.Sessions.{Profiling, profiling_in}
use Rattle.profile_session.proofs.Sessions.Sessions.{accepts, act-world, acted-stands, breaks-off, refused, ungathered}
use Rattle.profile_session.proofs.session.Session.act.Goals as goal

pub returns-then-is_over-clause-err : goal.returns-then-is_over-clause-err
returns-then-is_over-clause-err c =
    let whole = sym (ap (λ (v : Profiling). v.broken) c.self.view_is) ∙ c.if-self.false in
    record { whole = whole; over = sym (c.is_over.ensures whole) ∙ c.if-is_over.true; same = refl }

pub returns-in-Some-clause-err : goal.returns-in-Some-clause-err
returns-in-Some-clause-err c =
    let whole = sym (ap (λ (v : Profiling). v.broken) c.self.view_is) ∙ c.if-self.false in
    refused c.args.self.now c.args.select c.is_selected.result c.args.method c.in-Some.error whole (sym (c.is_over.ensures whole) ∙ c.if-is_over.false) (c.is_selected.ensures whole)
    (sym c.refusal.ensures ∙ c.in-Some.is)

pub act-requires-clause-fit : goal.act-requires-clause-fit
act-requires-clause-fit c = (c.self.invariant c.if-self.false).stands.rests.is.fit

pub act-requires-clause-shown : goal.act-requires-clause-shown
act-requires-clause-shown c = (c.self.invariant c.if-self.false).stands.rests.is.shown

pub invariant_of-self-2 : goal.invariant_of-self-2
invariant_of-self-2 c same =
    let whole = sym (ap (λ (v : Profiling). v.broken) c.self.view_is) ∙ c.if-self.false in
    let going = sym (c.is_over.ensures whole) ∙ c.if-is_over.false in
    let a : Act = record { moment = c.clock-moment.result; select = c.args.select; method = c.args.method } in
    ungathered c.act.new.self (acted-stands c.self.inside.parts c.act.new.self a (c.self.invariant c.if-self.false).stands c.clock-moment.ensures
    (λ yes. subst (λ (v : Profiling). 1 ≤ v.clock) (sym c.self.view_is) (c.requires whole going (sym (ap (λ (v : Profiling). v.started) c.self.view_is) ∙ yes)))
    c.in-Ok.ensures)

pub returns-clause-ok : goal.returns-clause-ok
returns-clause-ok c =
    let whole = sym (ap (λ (v : Profiling). v.broken) c.self.view_is) ∙ c.if-self.false in
    let going = sym (c.is_over.ensures whole) ∙ c.if-is_over.false in
    let g = c.self.inside.gathered in
    let now : profiling_in false g c.self.inside.parts ≡ c.args.self.now = ap (λ b. profiling_in b g c.self.inside.parts) (sym c.if-self.false) ∙ c.self.view_is in
    let a : Act = record { moment = c.clock-moment.result; select = c.args.select; method = c.args.method } in
    let stands = acted-stands c.self.inside.parts c.act.new.self a (c.self.invariant c.if-self.false).stands c.clock-moment.ensures
    (λ yes. subst (λ (v : Profiling). 1 ≤ v.clock) (sym c.self.view_is) (c.requires whole going (sym (ap (λ (v : Profiling). v.started) c.self.view_is) ∙ yes)))
    c.in-Ok.ensures in
    accepts c.self.inside.parts c.act.new.self c.args.self.now g a stands now going c.clock-moment.ensures c.is_selected.result (c.is_selected.ensures whole)
    (sym c.refusal.ensures ∙ c.in_default.is) c.in-Ok.ensures

pub returns-in_default-act-clause-err : goal.returns-in_default-act-clause-err
returns-in_default-act-clause-err c =
    let whole = sym (ap (λ (v : Profiling). v.broken) c.self.view_is) ∙ c.if-self.false in
    let a : Act = record { moment = c.clock-moment.result; select = c.args.select; method = c.args.method } in
    breaks-off c.self.inside.parts c.act.new.self c.args.self.now c.self.inside.broken c.self.inside.gathered c.self.inside.gathered c.self.view_is whole
    (sym (c.is_over.ensures whole) ∙ c.if-is_over.false) (act-world c.self.inside.parts c.act.new.self a c.act.result c.act.ensures)
