-- The first cause of a version, and the images of methods one by one.
use Rattle.std.proofs.Common.{◌≡◌, ℕ, List, Option, Some, None, Result, sym, ap, subst, ◌∙◌}
use Rattle.std.specs.Option.{option_or}
use Rattle.const_pool.specs.declared.class.CodeAttribute.{CodeAttribute}
use Rattle.code_model.specs.declared.laying.Laid.{Laid}
use Rattle.const_pool.specs.declared.class.Member.{Member}
use Rattle.jvm_model.specs.declared.event.Mark.{Mark}
use Rattle.jvm_model.specs.Basis.Methods.{code_of}
use Rattle.inject_events.specs.declared.methods.MethodImage.{MethodImage}
use Rattle.inject_events.specs.declared.error.Cause.{Cause}
use Rattle.inject_events.specs.declared.error.NoVersion.{NoVersion}
use Rattle.inject_events.specs.declared.probes.Probes.{Probes}
use Rattle.inject_events.specs.declared.settings.Setting.{Setting}
use Rattle.inject_events.specs.declared.versions.Version.{Version}
use Rattle.inject_events.specs.Answers.{IsVersionAnswer}
use Rattle.inject_events.specs.Probing.{laid_with, image_with}
use Rattle.inject_events.specs.Settings.{probes_in}
use Rattle.inject_events.specs.Rewriting.{version_cause, cause_of_coded, image_of_coded, instrs_in, layout_cause, size_cause, version_around, version_of, code_cause}

pub answer-around : (s : Setting) (number : ℕ) (mark : Mark) (old : CodeAttribute) (probes : Probes) (bytes : List ℕ) (laid : Laid) (answer : Result Version NoVersion)
    → probes ≡ probes_in s.tail number mark → bytes ≡ old.code → layout_cause probes (instrs_in bytes) ≡ None → laid ≡ laid_with probes (instrs_in bytes)
    → IsVersionAnswer answer (size_cause (version_around s old laid).code) (version_around s old laid) → IsVersionAnswer answer (code_cause s number mark old) (version_of s number mark old)
answer-around s number mark old probes bytes laid answer told code none laid_out around =
    let fits : layout_cause (probes_in s.tail number mark) (instrs_in old.code) ≡ None = subst (λ (p : Probes). layout_cause p (instrs_in old.code) ≡ None) told (subst (λ (bs : List ℕ). layout_cause probes (instrs_in bs) ≡ None) code none) in
    let is : laid ≡ laid_with (probes_in s.tail number mark) (instrs_in old.code) = laid_out ∙ (ap (λ (bs : List ℕ). laid_with probes (instrs_in bs)) code ∙ ap (λ (p : Probes). laid_with p (instrs_in old.code)) told) in
    let whole : IsVersionAnswer answer (size_cause (version_of s number mark old).code) (version_of s number mark old) = subst (λ (l : Laid). IsVersionAnswer answer (size_cause (version_around s old l).code) (version_around s old l)) is around in
    subst (λ (o : Option Cause). IsVersionAnswer answer (option_or o (size_cause (version_of s number mark old).code)) (version_of s number mark old)) (sym fits) whole

pub made-image : (s : Setting) (number : ℕ) (mark : Mark) (m : Member) (old : CodeAttribute) (version : Version) (image : MethodImage) → Some old ≡ code_of m
    → version_cause s number mark old ≡ None → version ≡ version_of s number mark old → image ≡ image_with version m
    → (cause_of_coded s number mark (code_of m) ≡ None) × (image ≡ image_of_coded s number mark m (code_of m))
made-image s number mark m old version image coded none is made =
    subst (λ (o : Option CodeAttribute). (cause_of_coded s number mark o ≡ None) × (image ≡ image_of_coded s number mark m o)) coded
    (none, made ∙ ap (λ (v : Version). image_with v m) is)
