use Rattle.std.proofs.Common.{◌≡◌, subst, sym}
use Rattle.frame_stack.specs.FrameLists.{top_operands}
use Rattle.jvm_basic.specs.Outcomes.{top_locals}
use Rattle.jvm_model.specs.Basis.Values.{int_of}
use Rattle.jvm_model.specs.Instructions.ConstantRules.{pushes_object_of}
use Rattle.jvm_model.specs.Instructions.CreationRules.{array_over, counts_of, makes_by_counts}
use Rattle.jvm_model.specs.Instructions.ObjectRules.{makes}
use Rattle.symbolic_references.specs.Leaving.{Leaves}
use Rattle.member_selection.specs.Resolved.{does_resolved, gets_instance, gets_static, makes_new, puts_instance, puts_static}
use Rattle.symbolic_references.specs.Runtimes.{after}
use Rattle.symbolic_references.proofs.Quiet.{keeps, leaves_set, on_ok, shared_getfield, shared_getstatic, writes_anewarray, writes_arrays, writes_class, writes_getfield, writes_getstatic, writes_new, writes_putfield, writes_putstatic}
use Rattle.symbolic_references.proofs.runtime.Runtime.do_resolved.Goals as goal

pub returns-in-New-clause-runtime : goal.returns-in-New-clause-runtime
returns-in-New-clause-runtime c =
    let v = c.args.self.now in
    let l = top_locals c.args.frames.now.frames in
    let o = top_operands c.args.frames.now.frames in
    subst (λ n. Leaves c.make_new.result c.make_new.new.self (does_resolved v.world c.args.kind n v.shared) c.args.frames.now v) (sym c.in-New.is)
    (leaves_set c.make_new.result c.make_new.new.self v (makes_new v.world.program c.args.kind v.shared l o) (writes_new v.world.program c.args.kind v.shared l o v.output) c.make_new.ensures.runtime)

pub returns-in-Getfield-clause-runtime : goal.returns-in-Getfield-clause-runtime
returns-in-Getfield-clause-runtime c =
    let v = c.args.self.now in
    let r = c.in-Getfield.member in
    let l = top_locals c.args.frames.now.frames in
    let o = top_operands c.args.frames.now.frames in
    subst (λ n. Leaves c.get_field.result v (does_resolved v.world c.args.kind n v.shared) c.args.frames.now v) (sym c.in-Getfield.is)
    (on_ok c.get_field.result (v ≡ after (gets_instance v.world.program c.args.kind c.in-Getfield.member v.shared l o) v) (keeps v (gets_instance v.world.program c.args.kind c.in-Getfield.member v.shared l o) (shared_getfield v.world.program c.args.kind r v.shared l o v.output) (writes_getfield v.world.program c.args.kind r v.shared l o v.output)))

pub returns-in-Putfield-clause-runtime : goal.returns-in-Putfield-clause-runtime
returns-in-Putfield-clause-runtime c =
    let v = c.args.self.now in
    let r = c.in-Putfield.member in
    let l = top_locals c.args.frames.now.frames in
    let o = top_operands c.args.frames.now.frames in
    subst (λ n. Leaves c.put_field.result c.put_field.new.self (does_resolved v.world c.args.kind n v.shared) c.args.frames.now v) (sym c.in-Putfield.is)
    (leaves_set c.put_field.result c.put_field.new.self v (puts_instance v.world.program c.args.kind c.in-Putfield.member v.shared l o) (writes_putfield v.world.program c.args.kind r v.shared l o v.output) c.put_field.ensures.runtime)

pub returns-in-Getstatic-clause-runtime : goal.returns-in-Getstatic-clause-runtime
returns-in-Getstatic-clause-runtime c =
    let v = c.args.self.now in
    let r = c.in-Getstatic.member in
    let l = top_locals c.args.frames.now.frames in
    let o = top_operands c.args.frames.now.frames in
    subst (λ n. Leaves c.get_static.result v (does_resolved v.world c.args.kind n v.shared) c.args.frames.now v) (sym c.in-Getstatic.is)
    (on_ok c.get_static.result (v ≡ after (gets_static v.world.program c.args.kind c.in-Getstatic.member v.shared l o) v) (keeps v (gets_static v.world.program c.args.kind c.in-Getstatic.member v.shared l o) (shared_getstatic v.world.program c.args.kind r v.shared l o v.output) (writes_getstatic v.world.program c.args.kind r v.shared l o v.output)))

pub returns-in-Putstatic-clause-runtime : goal.returns-in-Putstatic-clause-runtime
returns-in-Putstatic-clause-runtime c =
    let v = c.args.self.now in
    let r = c.in-Putstatic.member in
    let l = top_locals c.args.frames.now.frames in
    let o = top_operands c.args.frames.now.frames in
    subst (λ n. Leaves c.put_static.result c.put_static.new.self (does_resolved v.world c.args.kind n v.shared) c.args.frames.now v) (sym c.in-Putstatic.is)
    (leaves_set c.put_static.result c.put_static.new.self v (puts_static v.world.program c.args.kind c.in-Putstatic.member v.shared l o) (writes_putstatic v.world.program c.args.kind r v.shared l o v.output) c.put_static.ensures.runtime)

pub returns-in-Anewarray-clause-runtime : goal.returns-in-Anewarray-clause-runtime
returns-in-Anewarray-clause-runtime c =
    let v = c.args.self.now in
    let l = top_locals c.args.frames.now.frames in
    let o = top_operands c.args.frames.now.frames in
    subst (λ n. Leaves c.make_array_of.result c.make_array_of.new.self (does_resolved v.world c.args.kind n v.shared) c.args.frames.now v) (sym c.in-Anewarray.is)
    (leaves_set c.make_array_of.result c.make_array_of.new.self v (makes (array_over c.args.kind) (int_of o) v.shared l o) (writes_anewarray v.world.program c.args.kind v.shared l o v.output) c.make_array_of.ensures.runtime)

pub returns-in-Multianewarray-clause-runtime : goal.returns-in-Multianewarray-clause-runtime
returns-in-Multianewarray-clause-runtime c =
    let v = c.args.self.now in
    let l = top_locals c.args.frames.now.frames in
    let o = top_operands c.args.frames.now.frames in
    subst (λ n. Leaves c.make_arrays.result c.make_arrays.new.self (does_resolved v.world c.args.kind n v.shared) c.args.frames.now v) (sym c.in-Multianewarray.is)
    (leaves_set c.make_arrays.result c.make_arrays.new.self v (makes_by_counts c.args.kind c.in-Multianewarray.dimensions (counts_of c.in-Multianewarray.dimensions o) v.shared l o) (writes_arrays v.world.program c.args.kind v.shared l o v.output c.in-Multianewarray.dimensions) c.make_arrays.ensures.runtime)

pub returns-in-LdcClass-clause-runtime : goal.returns-in-LdcClass-clause-runtime
returns-in-LdcClass-clause-runtime c =
    let v = c.args.self.now in
    let l = top_locals c.args.frames.now.frames in
    let o = top_operands c.args.frames.now.frames in
    subst (λ n. Leaves c.push_class_object.result c.push_class_object.new.self (does_resolved v.world c.args.kind n v.shared) c.args.frames.now v) (sym c.in-LdcClass.is)
    (leaves_set c.push_class_object.result c.push_class_object.new.self v (pushes_object_of c.args.kind v.shared l o) (writes_class v.world.program c.args.kind v.shared l o v.output) c.push_class_object.ensures.runtime)
