use Rattle.std.proofs.Common.{refl, sym, ap, subst, ◌∙◌}
use Rattle.jvm_machine.specs.Advances.{Advances}
use Rattle.jvm_machine.specs.Probes.{IfLeaves}
use Rattle.jvm_machine.specs.Turns.{Turns}
use Rattle.jvm_machine.specs.View.{View}
use Rattle.jvm_machine.proofs.Versions.HeldVersions.{never-stale}
use Rattle.jvm_machine.proofs.States.Shown.{over-ends}
use Rattle.jvm_machine.proofs.Steps.Turned.{rests-then, turned}
use Rattle.jvm_machine.proofs.machine.Vm.step_fully.Goals as goal

pub returns-then-is_over : goal.returns-then-is_over
returns-then-is_over c =
    let whole = sym (ap (λ (v : View). v.broken) c.self.view_is) ∙ c.if-self.false in
    record {
      turns = over-ends c.args.self.now whole (sym (c.is_over.ensures whole) ∙ c.if-is_over.true);
      held = never-stale c.self.invariant c.self.view_is;
    }

pub advance-requires-clause-going : goal.advance-requires-clause-going
advance-requires-clause-going c = sym (c.if-is_over.ensures (sym (ap (λ (v : View). v.broken) c.self.view_is) ∙ c.if-self.false))

pub turn-requires-clause-rests : goal.turn-requires-clause-rests
turn-requires-clause-rests c =
    rests-then c.args.self.now c.advance.new.self c.in-Ok-Due.due (subst (λ t. Advances c.args.self.now t c.advance.new.self) c.in-Ok-Due.field-0-is c.in-Ok-Due.ensures.ok)

pub returns-in-Ok-Due : goal.returns-in-Ok-Due
returns-in-Ok-Due c =
    let whole = sym (ap (λ (v : View). v.broken) c.self.view_is) ∙ c.if-self.false in
    record {
      turns = subst (λ t. Turns c.args.self.now t c.advance.new.self) (sym c.turn.ensures)
          (turned c.args.self.now c.advance.new.self c.in-Ok-Due.due whole (sym (c.if-is_over.ensures whole))
          (subst (λ t. Advances c.args.self.now t c.advance.new.self) c.in-Ok-Due.field-0-is c.in-Ok-Due.ensures.ok)
          (subst (λ t. IfLeaves t c.advance.new.self) c.in-Ok-Due.field-0-is c.in-Ok-Due.ensures.leaves));
      held = c.in-Ok-Due.ensures.held;
    }

pub returns-in-Err : goal.returns-in-Err
returns-in-Err c =
    let whole = sym (ap (λ (v : View). v.broken) c.self.view_is) ∙ c.if-self.false in
    record {
      turns = record { whole = whole; went_on = sym (c.if-is_over.ensures whole); stepped = c.in-Err.ensures.err };
      held = c.in-Err.ensures.held;
    }

pub returns-then-self : goal.returns-then-self
returns-then-self c = record {
  turns = record { broken = ap (λ (v : View). v.broken) (sym c.self.view_is) ∙ c.if-self.true; same = refl };
  held = never-stale c.self.invariant c.self.view_is;
}
