use Rattle.std.proofs.Common.{◌≡◌, true, drop, Some, sym, ap, subst, refl, ◌∙◌}
use Rattle.frame_stack.specs.FrameLists.{top_operands}
use Rattle.jvm_basic.specs.Outcomes.{top_locals}
use Rattle.symbolic_references.proofs.Quiet.{set-after}
use Rattle.std.proofs.lemmas.List.{append-nil}
use Rattle.jvm_model.specs.Basis.Data.{Done, GoesOn, Next}
use Rattle.jvm_model.specs.Instructions.FieldRules.{field_held, kind_by, sets_static}
use Rattle.jvm_model.specs.Classes.Layouts.{held_by}
use Rattle.jvm_model.specs.Instructions.SymbolicReference.{unless_refused}
use Rattle.jvm_model.specs.declared.instruction.SymbolicReference.TheVariants.{Putstatic}
use Rattle.jvm_model.specs.Instructions.Rules.{class_initialized}
use Rattle.jvm_model.specs.Basis.SharedState.{phase_of}
use Rattle.member_selection.specs.Answers.{done_on}
use Rattle.member_selection.specs.Known.{IsFoundAs}
use Rattle.member_selection.specs.Members.{at_place}
use Rattle.symbolic_references.specs.Passing.{IfPassed}
use Rattle.member_selection.specs.Resolved.{puts_static}
use Rattle.symbolic_references.proofs.PassingLemmas.{not-moved, passed-on, when-usable}
use Rattle.symbolic_references.proofs.runtime.Runtime.pass_putstatic.Goals as goal

pub returns-then-not-pass_by-clause-passed : goal.returns-then-not-pass_by-clause-passed
returns-then-not-pass_by-clause-passed c =
    let q = GoesOn (top_locals c.args.frames.now.frames) (drop 1 (top_operands c.args.frames.now.frames)) Next in (
      not-moved q c.args.next c.args.frames.now c.pass_by.new.frames
          (sym c.pass_by.ensures.answer ∙ c.if-not-pass_by.true) c.pass_by.ensures.frames,
      refl,
    )

pub returns-clause-passed : goal.returns-clause-passed
returns-clause-passed c =
    let v = c.args.self.now in
    let p = v.world.program in
    let r = c.args.member.now in
    let s = v.shared in
    let f = c.args.frames.now in
    let l = top_locals f.frames in
    let o = top_operands f.frames in
    let m = at_place c.in-Static.place in
    let left = c.put_static_at.new.self in
    let there = subst (λ x. IsFoundAs x p c.args.kind (Putstatic r)) c.in-Static.is c.requires.found in
    let set : Done = sets_static m (Some c.in-Some.datum) s l o in
    let given : field_held (kind_by r) o ≡ Some c.in-Some.datum =
    sym (sym c.in-Some.is ∙ (c.field_held.ensures ∙ ap (λ k. field_held k o) (c.held_by.ensures ∙ (ap held_by c.units.ensures ∙ ap held_by c.descriptor.ensures)))) in
    let same : set ≡ done_on (puts_static p c.args.kind r s) f =
    when-usable p (phase_of s m.class) m.class s set (sym c.is_usable.ensures ∙ c.if-not-is_usable.false)
    ∙ (ap (λ d. class_initialized p m.class s (sets_static m d s l o)) (sym given)
    ∙ ap (λ found. unless_refused s found (λ m. class_initialized p m.class s (sets_static m (field_held (kind_by r) o) s l o))) (sym there)) in
    subst (λ d. IfPassed true d c.args.next f v c.pass_by.new.frames left) same
    (passed-on set f c.pass_by.new.frames c.args.next v left
    (sym c.pass_by.ensures.answer ∙ c.if-not-pass_by.false)
    c.pass_by.ensures.frames
    (c.put_static_at.ensures.runtime ∙ set-after v set (sym (append-nil v.output))))
