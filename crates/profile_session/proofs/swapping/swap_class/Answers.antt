use Rattle.std.proofs.Common.{sym, ap, subst, ◌∙◌, List}
use Rattle.jvm_model.specs.declared.event.Mark.{Mark}
use Rattle.jvm_model.specs.declared.program.Program.{Program}
use Rattle.call_revelation.specs.Reveals.{IsRevelation, now_of}
use Rattle.jvm_machine.specs.Installs.{with_class}
use Rattle.hotswap.specs.Redefining.{IsRefused, SpellsImage}
use Rattle.profile_session.specs.Swapping.{IsMade}
use Rattle.profile_session.specs.Images.{AreImageable}
use Rattle.profile_session.proofs.Swaps.Imaging.{redefined, taken-as}
use Rattle.profile_session.proofs.swapping.swap_class.Goals as goal

pub make-requires-clause-revelation : goal.make-requires-clause-revelation
make-requires-clause-revelation c = subst (λ (p : Program). IsRevelation p c.args.reveal.now) (sym c.program.ensures) c.requires.revelation

pub make-requires-clause-imageable : goal.make-requires-clause-imageable
make-requires-clause-imageable c = subst AreImageable (sym c.program.ensures) c.requires.imageable

pub redefine-requires-clause-formed : goal.redefine-requires-clause-formed
redefine-requires-clause-formed c =
    record { formed = c.requires.imageable.formed; methods = c.requires.imageable.numbered_are; operations = c.requires.imageable.operations }

pub redefine-requires-clause-image : goal.redefine-requires-clause-image
redefine-requires-clause-image c =
    let p = c.args.vm.now.program in
    let m = c.in_ok-made.made in
    let is = subst (λ (p : Program). IsMade p (now_of c.args.reveal.now) c.args.class m) c.program.ensures c.in_ok-made.ensures in
    subst (λ bytes. SpellsImage p c.args.class bytes c.deref-2.result.now c.as_slice.result.now) (sym c.deref.ensures.value)
    (subst (λ marks. SpellsImage p c.args.class m.bytes.items marks c.as_slice.result.now) (sym c.deref-2.ensures.value)
    (subst (λ homes. SpellsImage p c.args.class m.bytes.items m.marks.items homes) (sym c.as_slice.ensures) (redefined p (now_of c.args.reveal.now) c.args.class m is)))

pub returns-in-Ok-clause-vm : goal.returns-in-Ok-clause-vm
returns-in-Ok-clause-vm c =
    let p = c.args.vm.now.program in
    let is = subst (λ (p : Program). IsMade p (now_of c.args.reveal.now) c.args.class c.in_ok-made.made) c.program.ensures c.in_ok-made.ensures in
    c.in-Ok.ensures.ok ∙ ap (λ (marks : List Mark). with_class c.args.class marks c.args.vm.now) (c.deref-2.ensures.value ∙ is.marks)

pub unreachable-requires : goal.unreachable-requires
unreachable-requires c =
    let p = c.args.vm.now.program in
    let m = c.in_ok-made.made in
    let is = subst (λ (p : Program). IsMade p (now_of c.args.reveal.now) c.args.class m) c.program.ensures c.in_ok-made.ensures in
    taken-as p (now_of c.args.reveal.now) c.args.class m c.requires.imageable is c.in-Err-Unreadable.field-0
    (subst (λ bytes. IsRefused p c.args.class bytes c.in-Err-Unreadable.field-0) c.deref.ensures.value (c.in-Err-Unreadable.ensures.refused (λ h. (let e = sym c.in-Err-Unreadable.field-0-is ∙ h in cc))))

pub unreachable-requires-in-Err-NotSameShape : goal.unreachable-requires-in-Err-NotSameShape
unreachable-requires-in-Err-NotSameShape c =
    let p = c.args.vm.now.program in
    let m = c.in_ok-made.made in
    let is = subst (λ (p : Program). IsMade p (now_of c.args.reveal.now) c.args.class m) c.program.ensures c.in_ok-made.ensures in
    taken-as p (now_of c.args.reveal.now) c.args.class m c.requires.imageable is c.in-Err-NotSameShape.field-0
    (subst (λ bytes. IsRefused p c.args.class bytes c.in-Err-NotSameShape.field-0) c.deref.ensures.value (c.in-Err-NotSameShape.ensures.refused (λ h. (let e = sym c.in-Err-NotSameShape.field-0-is ∙ h in cc))))
