use Rattle.std.proofs.Common.{◌≡◌, refl, sym, ap, ap₂, subst, ◌∙◌}
use Rattle.jvm_machine.specs.View.{View, machine_made}
use Rattle.profile_session.specs.Beginning.{CanBeProfiled, IsFirst}
use Rattle.profile_session.specs.Sessions.{Profiling, profiling_of}
use Rattle.profile_session.proofs.Sessions.FirstParts.{begun-stands}
use Rattle.profile_session.proofs.beginning.begin.Goals as goal

pub reveal_first-requires-clause-whole : goal.reveal_first-requires-clause-whole
reveal_first-requires-clause-whole c = ap (λ (v : View). v.broken) (c.deref.ensures ∙ c.requires.fresh)

pub reveal_first-requires-clause-before_the_run : goal.reveal_first-requires-clause-before_the_run
reveal_first-requires-clause-before_the_run c = ap (λ (v : View). v.started) (c.deref.ensures ∙ c.requires.fresh)

pub reveal_first-requires-clause-profilable : goal.reveal_first-requires-clause-profilable
reveal_first-requires-clause-profilable c = subst (λ (v : View). CanBeProfiled v.program) (sym c.deref.ensures) c.requires.profilable

pub returns-clause-stands : goal.returns-clause-stands
returns-clause-stands c =
    begun-stands _ (subst (λ (v : View). v ≡ machine_made v.program v.input) (sym c.into_inner.ensures) c.requires.fresh)
    (subst (λ (v : View). CanBeProfiled v.program) (sym c.into_inner.ensures) c.requires.profilable)
    (subst (λ (v : View). IsFirst v c.in_ok-reveal.reveal) (c.deref.ensures ∙ sym c.into_inner.ensures) c.in_ok-reveal.ensures)
    c.new-2.ensures c.in_ok-buffer.ensures refl c.new-3.ensures c.new-4.ensures

pub returns-clause-seen : goal.returns-clause-seen
returns-clause-seen c =
    ap₂ (λ (v : View) acts. let q : Profiling = record (profiling_of v.program v.input) { acts = acts; started = v.started; clock = v.clock; live = v.live; stale = v.stale } in q) c.into_inner.ensures c.new-4.ensures
    ∙ ap (λ (v : View). let q : Profiling = record (profiling_of c.args.vm.value.program c.args.vm.value.input) { started = v.started; clock = v.clock; live = v.live; stale = v.stale } in q) c.requires.fresh
