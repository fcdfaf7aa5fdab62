use Rattle.std.proofs.Common.{◌≡◌, ℕ, List, ap, sym, subst, ◌∙◌}
use Rattle.jvm_machine.specs.View.{View, machine_made}
use Rattle.jvm_model.specs.declared.program.Program.{Program}
use Rattle.profile_session.specs.Beginning.{CanBeProfiled}
use Rattle.jfluid_cli.proofs.Runs.Profiled.{profiled}
use Rattle.jfluid_cli.proofs.making.session_of.Goals as goal

made-again : (v : View) (p : Program) (input : List ℕ) → v ≡ machine_made p input → v ≡ machine_made v.program v.input
made-again v p input is = is ∙ sym (ap (λ (x : View). machine_made x.program x.input) is)

pub new-requires-clause-fresh : goal.new-requires-clause-fresh
new-requires-clause-fresh c = made-again c.in_ok-vm.vm.value c.args.program c.args.input.items c.in_ok-vm.ensures

pub new-requires-clause-profilable : goal.new-requires-clause-profilable
new-requires-clause-profilable c =
    subst CanBeProfiled (sym (ap (λ (v : View). v.program) c.in_ok-vm.ensures)) (profiled c.args.program c.requires)
