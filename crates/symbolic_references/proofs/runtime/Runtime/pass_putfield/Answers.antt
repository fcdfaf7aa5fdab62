use Rattle.std.proofs.Common.{◌≡◌, true, drop, Some, sym, ap, subst, refl, ◌∙◌}
use Rattle.frame_stack.specs.FrameLists.{top_operands}
use Rattle.jvm_basic.specs.Outcomes.{top_locals}
use Rattle.symbolic_references.proofs.Quiet.{set-after}
use Rattle.std.proofs.lemmas.List.{append-nil}
use Rattle.jvm_model.specs.Basis.Data.{GoesOn, Next}
use Rattle.jvm_model.specs.Instructions.FieldRules.{kind_by, putting_of}
use Rattle.jvm_model.specs.Classes.Layouts.{held_by}
use Rattle.jvm_model.specs.declared.instruction.SymbolicReference.TheVariants.{Putfield}
use Rattle.member_selection.specs.Answers.{done_on}
use Rattle.symbolic_references.specs.Fields.{putting_view, writes}
use Rattle.member_selection.specs.Known.{IsField, IsFoundAs}
use Rattle.member_selection.specs.Members.{at_place}
use Rattle.symbolic_references.specs.Passing.{IfPassed}
use Rattle.member_selection.specs.Resolved.{puts_instance}
use Rattle.symbolic_references.proofs.PassingLemmas.{not-moved, passed-on, puts-written}
use Rattle.symbolic_references.proofs.runtime.Runtime.pass_putfield.Goals as goal

pub returns-then-not-pass_by-clause-passed : goal.returns-then-not-pass_by-clause-passed
returns-then-not-pass_by-clause-passed c =
    let q = GoesOn (top_locals c.args.frames.now.frames) (drop 2 (top_operands c.args.frames.now.frames)) Next in (
      not-moved q c.args.next c.args.frames.now c.pass_by.new.frames
          (sym c.pass_by.ensures.answer ∙ c.if-not-pass_by.true) c.pass_by.ensures.frames,
      refl,
    )

pub returns-clause-passed : goal.returns-clause-passed
returns-clause-passed c =
    let v = c.args.self.now in
    let p = v.world.program in
    let r = c.args.member.now in
    let s = v.shared in
    let f = c.args.frames.now in
    let l = top_locals f.frames in
    let o = top_operands f.frames in
    let left = c.put_at.new.self in
    let there : IsField p c.args.kind r c.in-Field.field c.in-Field.slot c.in-Field.last = subst (λ x. IsFoundAs x p c.args.kind (Putfield r)) c.in-Field.is c.requires.found in
    let given : putting_of (kind_by r) o ≡ Some (putting_view c.in-Some.putting) =
    sym (c.in-Some.ensures ∙ ap (λ k. putting_of k o) (c.held_by.ensures ∙ (ap held_by c.units.ensures ∙ ap held_by c.descriptor.ensures))) in
    let set = writes c.in-Ok.owner c.in-Field.slot c.in-Some.putting.datum s l o in
    let same : set ≡ done_on (puts_instance p c.args.kind r s) f =
    puts-written p c.args.kind r (at_place c.in-Field.field) s l o (putting_view c.in-Some.putting) c.in-Ok.owner c.in-Field.slot
    given c.in-Ok.ensures.owner there.stands there.named in
    subst (λ d. IfPassed true d c.args.next f v c.pass_by.new.frames left) same
    (passed-on set f c.pass_by.new.frames c.args.next v left
    (sym c.pass_by.ensures.answer ∙ c.if-not-pass_by.false)
    c.pass_by.ensures.frames
    (c.put_at.ensures.runtime ∙ set-after v set (sym (append-nil v.output))))
