use Rattle.std.proofs.Common.{rules, ap, inl, inr, subst, sym, ◌∙◌}
use Rattle.const_pool.specs.ClassFile.{Spells}
use Rattle.std.specs.Option.{IfNone, IfSome}
use Rattle.jvm_model.specs.Classes.Load.{is_among}
use Rattle.played_rows.specs.Machine.Played.{FitsMarks, IsOtherwise}
use Rattle.played_rows.specs.Machine.Ready.{IsImageFile}
use Rattle.program_fit.proofs.Runs.{runnable}
use Rattle.played_rows.proofs.MachineLemmas.Images.{image-known, never-refused, spells-image}
use Rattle.played_rows.proofs.MachineLemmas.Stays.{installed-ready}
use Rattle.played_rows.proofs.machine.installing.install.Goals as goal

pub redefine-requires-clause-image : goal.redefine-requires-clause-image
redefine-requires-clause-image c = spells-image c.args.vm.now.program c.args.class c.in_ok-bytes.bytes.items c.deref.result.now c.args.marks.now c.in-Some.image.class c.in-Some.image.homes c.as_slice.result.now
    (subst (λ o. IfSome o (λ image. IsImageFile c.args.vm.now.program c.args.class c.args.marks.now image.class image.homes)) c.in-Some.is c.in_ok-image.ensures.image)
    c.in_ok-bytes.ensures.spelled c.deref.ensures.value c.as_slice.ensures

pub returns-in-Ok-clause-ready : goal.returns-in-Ok-clause-ready
returns-in-Ok-clause-ready c = λ e. installed-ready c.args.vm.now c.redefine.new.vm c.args.class c.args.marks.now c.requires c.in-Ok.ensures.ok

pub redefine-requires-clause-formed : goal.redefine-requires-clause-formed
redefine-requires-clause-formed c = (runnable c.args.vm.now.program c.requires.admitted).formed

pub redefine-requires-clause-known : goal.redefine-requires-clause-known
redefine-requires-clause-known c = image-known c.args.vm.now.program c.args.class c.args.marks.now c.in-Some.image.class c.in-Some.image.homes
    (subst (λ o. IfSome o (λ image. IsImageFile c.args.vm.now.program c.args.class c.args.marks.now image.class image.homes)) c.in-Some.is c.in_ok-image.ensures.image)

pub returns-then-not-is_loaded-clause-otherwise : goal.returns-then-not-is_loaded-clause-otherwise
returns-then-not-is_loaded-clause-otherwise c = IsOtherwise.not_marked c.args.class c.args.marks.now
    (inl (ap (is_among c.args.class) (sym (c.linker.ensures.loaded c.requires.whole)) ∙ (sym c.is_loaded.ensures ∙ c.if-not-is_loaded.true)))

pub returns-in_default-clause-otherwise : goal.returns-in_default-clause-otherwise
returns-in_default-clause-otherwise c = IsOtherwise.not_marked c.args.class c.args.marks.now
    (inr (subst (λ o. IfNone o (FitsMarks c.args.vm.now.program c.args.class c.args.marks.now → ⊥)) c.in_default.is c.in_ok-image.ensures.unfit))

pub returns-clause-otherwise : goal.returns-clause-otherwise
returns-clause-otherwise c =
    absurd (never-refused c.args.vm.now.program c.args.class c.deref.result.now c.args.marks.now c.in-Some.image.class c.in-Some.image.homes c.in-Err.refusal
    c.requires.admitted
    (subst (λ o. IfSome o (λ image. IsImageFile c.args.vm.now.program c.args.class c.args.marks.now image.class image.homes)) c.in-Some.is c.in_ok-image.ensures.image)
    (subst (λ b. Spells b c.in-Some.image.class) (sym c.deref.ensures.value) c.in_ok-bytes.ensures.spelled)
    (c.in-Err.ensures.refused (search rules)))
