use Rattle.std.proofs.Common.{◌≡◌, sym, ap, subst, refl, ◌∙◌}
use Rattle.std.specs.Option.{option_map}
use Rattle.frame_stack.specs.FrameLists.{top_operands, with_frames}
use Rattle.jvm_basic.specs.Outcomes.{top_locals}
use Rattle.jvm_model.specs.Basis.Data.{Done}
use Rattle.jvm_model.specs.Instructions.FieldRules.{pushes_static, static_field}
use Rattle.jvm_model.specs.Instructions.LocalRules.{pushes}
use Rattle.jvm_model.specs.Instructions.SymbolicReference.{unless_refused}
use Rattle.jvm_model.specs.declared.instruction.SymbolicReference.TheVariants.{Getstatic}
use Rattle.jvm_model.specs.Instructions.ObjectRules.{done}
use Rattle.jvm_model.specs.Basis.SharedState.{phase_of, static_at}
use Rattle.jvm_model.specs.Basis.Values.{as_value}
use Rattle.member_selection.specs.Answers.{done_on, frames_after, goes_on}
use Rattle.member_selection.specs.Known.{IsFoundAs}
use Rattle.member_selection.specs.Members.{at_place}
use Rattle.member_selection.specs.Resolved.{gets_static}
use Rattle.symbolic_references.proofs.PassingLemmas.{passed-by, when-usable}
use Rattle.symbolic_references.proofs.Quiet.{keeps, shared_getstatic, writes_getstatic}
use Rattle.symbolic_references.proofs.runtime.Runtime.pass_getstatic.Goals as goal

pub returns : goal.returns
returns c =
    let v = c.args.self.now in
    let p = v.world.program in
    let r = c.args.member.now in
    let s = v.shared in
    let f = c.args.frames.now in
    let l = top_locals f.frames in
    let o = top_operands f.frames in
    let m = at_place c.in-Static.field in
    let d : Done = done_on (gets_static p c.args.kind r s) f in
    let pushed : Done = done s (pushes (option_map as_value (static_at s (static_field m))) l o) in
    let there = subst (λ x. IsFoundAs x p c.args.kind (Getstatic r)) c.in-Static.is c.requires.found in
    let same : pushed ≡ d =
    when-usable p (phase_of s m.class) m.class s pushed (sym c.is_usable.ensures ∙ c.if-not-is_usable.false)
    ∙ ap (λ found. unless_refused s found (λ m. pushes_static p m s l o)) (sym there) in
    let told = c.push_static_field-outcome.ensures.answer ∙ ap (λ (d : Done). d.outcome) same in
    passed-by d f c.pass_by.new.frames c.args.next v v c.pass_by.result
    (c.pass_by.ensures.answer ∙ ap (λ q. goes_on q f.frames) told)
    (c.pass_by.ensures.frames ∙ ap (λ q. with_frames (frames_after q c.args.next f.frames) f) told)
    (keeps v d (shared_getstatic p c.args.kind r s l o v.output) (writes_getstatic p c.args.kind r s l o v.output)) refl
