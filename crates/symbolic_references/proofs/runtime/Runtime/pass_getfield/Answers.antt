use Rattle.std.proofs.Common.{sym, ap, subst, refl, ◌∙◌}
use Rattle.frame_stack.specs.FrameLists.{top_operands, with_frames}
use Rattle.jvm_basic.specs.Outcomes.{top_locals}
use Rattle.jvm_model.specs.Basis.Data.{Done}
use Rattle.jvm_model.specs.Instructions.FieldRules.{gets_of}
use Rattle.jvm_model.specs.Instructions.SymbolicReference.{unless_refused}
use Rattle.jvm_model.specs.declared.instruction.SymbolicReference.TheVariants.{Getfield}
use Rattle.jvm_model.specs.Basis.Values.{ref_of}
use Rattle.member_selection.specs.Answers.{done_on, frames_after, goes_on}
use Rattle.member_selection.specs.Known.{IsField, IsFoundAs}
use Rattle.member_selection.specs.Resolved.{gets_instance}
use Rattle.symbolic_references.proofs.PassingLemmas.{passed-by}
use Rattle.symbolic_references.proofs.Quiet.{keeps, shared_getfield, writes_getfield}
use Rattle.symbolic_references.proofs.runtime.Runtime.pass_getfield.Goals as goal

pub returns : goal.returns
returns c =
    let v = c.args.self.now in
    let p = v.world.program in
    let r = c.args.member.now in
    let s = v.shared in
    let f = c.args.frames.now in
    let l = top_locals f.frames in
    let o = top_operands f.frames in
    let d : Done = done_on (gets_instance p c.args.kind r s) f in
    let there : IsField p c.args.kind r c.in-Field.field c.in-Field.slot c.in-Field.last = subst (λ x. IsFoundAs x p c.args.kind (Getfield r)) c.in-Field.is c.requires.found in
    let same = ap (λ found. unless_refused s found (λ m. gets_of p r m (ref_of o) s l o)) (sym there.named) in
    let told = c.read_known-outcome.ensures.answer ∙ ap (λ (d : Done). d.outcome) same in
    passed-by d f c.pass_by.new.frames c.args.next v v c.pass_by.result
    (c.pass_by.ensures.answer ∙ ap (λ q. goes_on q f.frames) told)
    (c.pass_by.ensures.frames ∙ ap (λ q. with_frames (frames_after q c.args.next f.frames) f) told)
    (keeps v d (shared_getfield p c.args.kind r s l o v.output) (writes_getfield p c.args.kind r s l o v.output)) refl
