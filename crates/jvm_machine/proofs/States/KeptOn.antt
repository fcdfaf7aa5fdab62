-- What a machine keeps to where its runtime goes on: of the same world, with the same classes loaded.
use Rattle.std.proofs.Common.{◌≡◌, ℕ, Bool, false, sym, ap, ap₂, subst, ◌∙◌}
use Rattle.jvm_model.specs.declared.state.State.{State}
use Rattle.jvm_model.specs.Basis.Data.{World}
use Rattle.interpreter.specs.declared.turns.hands.Hand.{Hand}
use Rattle.prepared_code.specs.Originals.{AreNamesKnown, OriginalsView, setup_in, setup_of}
use Rattle.prepared_code.specs.Tables.{Versions}
use Rattle.prepared_code.specs.Versions.{Setup}
use Rattle.symbolic_references.specs.Runtimes.{RuntimeView}
use Rattle.prepared_code.proofs.Lines.KnownNames.{names-kept}
use Rattle.jvm_machine.specs.Machine.{IsMachine, IsTidy, Keeps, state_seen}

-- what runs them is the same
pub same-setup : (r r1 : RuntimeView) (o o1 : OriginalsView) → r1.world ≡ r.world → o1.versions ≡ o.versions → setup_in r1 o1 ≡ setup_in r o
same-setup r r1 o o1 world versions = ap₂ (λ (x : World) (v : Versions). let w : Setup = record { world = x; versions = v } in w) world versions

-- they are of one program still
pub same-program : (r r1 : RuntimeView) (o o1 : OriginalsView) → r1.world ≡ r.world → o1.program ≡ o.program → r.world.program ≡ o.program → r1.world.program ≡ o1.program
same-program r r1 o o1 world program one = ap (λ (x : World). x.program) world ∙ one ∙ sym program

pub keeps-on : {hand : Hand} {started broken : Bool} {clock : ℕ} {s : State} (o : OriginalsView) (r r1 : RuntimeView) → r1.world ≡ r.world → r1.shared.loaded ≡ r.shared.loaded
    → r.world.program ≡ o.program → (broken ≡ false → AreNamesKnown o r) → IsMachine (setup_in r o) hand (state_seen (setup_in r o) s started broken clock hand) s
    → (broken ≡ false → IsTidy o.versions s.stack) → Keeps o r1 hand started broken clock s
keeps-on {hand} {started} {broken} {clock} {s} o r r1 world loaded program known machine tidy = record {
  machine = subst (λ (x : World). IsMachine (setup_of x o) hand (state_seen (setup_of x o) s started broken clock hand) s) (sym world) machine;
  program = ap (λ (x : World). x.program) world ∙ program;
  known = λ whole. names-kept o r r1 world loaded (known whole);
  tidy = tidy;
}
