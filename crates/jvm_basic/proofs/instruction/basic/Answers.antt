-- the laws of the rule
use Rattle.std.proofs.Common.{◌≡◌, ◌∙◌, sym, subst, rules, arith}
use Rattle.std.specs.Prelude.{IsTrue, ◌↔◌}
use Rattle.frame_stack.specs.FrameLists.{top_operands}
use Rattle.jvm_basic.specs.declared.effect.Effect.{Effect}
use Rattle.jvm_basic.specs.declared.effect.Effect.TheVariants.{Throws, Bad, Other}
use Rattle.jvm_model.specs.Basis.Families.{family_of}
use Rattle.jvm_basic.specs.Laws.{is_elsewhere, divides_by_zero}
use Rattle.jvm_basic.specs.Needs.{is_bad}
use Rattle.jvm_basic.specs.Outcomes.{effect_of, after}
use Rattle.jvm_basic.specs.Rules.{arithmetic_exception, does, rule_of}
use Rattle.jvm_basic.proofs.PlacedOutcomes.{effect-is, after-is}
use Rattle.jvm_basic.proofs.Exact.{other-exactly, throws-exactly, throws-only, kept-unless-next}
use Rattle.jvm_basic.proofs.ItsOperand.{has-its-operand}
use Rattle.jvm_basic.proofs.Fitting.{arithmetic-is-named}
use Rattle.jvm_basic.proofs.Needed.{bad-exactly}
use Rattle.jvm_basic.proofs.instruction.basic.Goals as goal

-- the effect and the frames are the rule's
told : (c : goal.After-do_family) → c.do_family.result ≡ effect_of (rule_of c.args.instr.now c.args.constant c.args.next) c.args.frames.now
told c =
    effect_told c ∙ effect-is (family_of c.args.instr.now.op) c.args.instr.now.arg c.args.constant c.args.next c.args.frames.now
  where
    effect_told : (c : goal.After-do_family) → c.do_family.result ≡ effect_of (does (family_of c.args.instr.now.op) c.args.instr.now.arg c.args.constant c.args.next) c.args.frames.now
    effect_told c = search rules

made : (c : goal.After-do_family) → c.do_family.new.frames ≡ after (rule_of c.args.instr.now c.args.constant c.args.next) c.args.frames.now
made c =
    frames_made c ∙ after-is (family_of c.args.instr.now.op) c.args.instr.now.arg c.args.constant c.args.next c.args.frames.now
  where
    frames_made : (c : goal.After-do_family) → c.do_family.new.frames ≡ after (does (family_of c.args.instr.now.op) c.args.instr.now.arg c.args.constant c.args.next) c.args.frames.now
    frames_made c = search rules

pub returns : goal.returns
returns c =
    let i = c.args.instr.now in
    let s = c.args.frames.now in
    let is = sym (told c) in
    record {
      effect = told c;
      frames = made c;
      kept = λ apart. made c ∙ kept-unless-next (rule_of i c.args.constant c.args.next) s (λ e. apart (told c ∙ e));
      bad = subst (λ (e : Effect). (e ≡ Bad) ↔ IsTrue (is_bad i c.args.constant c.args.next s)) is (bad-exactly i c.args.constant c.args.next s);
      other = subst (λ (e : Effect). (e ≡ Other) ↔ IsTrue (is_elsewhere i.op)) is (other-exactly i c.args.constant c.args.next s (omega arith));
      throws = subst (λ (e : Effect). (e ≡ Throws arithmetic_exception) ↔ IsTrue (divides_by_zero (family_of i.op) (top_operands s.frames))) is (throws-exactly i c.args.constant c.args.next s);
      operand = has-its-operand i (omega arith);
      named = arithmetic-is-named;
      only = λ class e. throws-only i c.args.constant c.args.next s class (is ∙ e);
    }
