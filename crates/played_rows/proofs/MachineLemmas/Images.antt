-- The image of a class of an admitted program, from its bytes.
use Rattle.std.proofs.Common.{◌≡◌, ℕ, ◌<◌, ◌≤◌, List, length, Option, Some, ap, subst, sym, ◌∙◌}
use Rattle.std.proofs.lemmas.Option.{same_Some, slice_get_within}
use Rattle.jf_bytes.proofs.Lists.{each_at}
use Rattle.const_pool.specs.declared.class.ClassFile.{ClassFile}
use Rattle.const_pool.specs.ClassFile.{IsClassFile, Spells}
use Rattle.code_model.specs.declared.laying.Homes.{Homes}
use Rattle.jvm_model.specs.declared.event.Mark.{Mark}
use Rattle.jvm_model.specs.declared.program.Program.{Program}
use Rattle.jvm_model.specs.Rewriting.Images.{IsImage}
use Rattle.jvm_model.specs.Basis.Programs.{class_at}
use Rattle.jvm_model.specs.Profiling.Swaps.{first_number}
use Rattle.class_reader.proofs.Files.{one_class}
use Rattle.class_shape.specs.declared.error.SwapError.{SwapError}
use Rattle.class_shape.specs.ClassShapes.{HasSameShape}
use Rattle.class_shape.proofs.ImageShapes.{image-shape}
use Rattle.class_shape.proofs.SwapLaws.{no-swap_fault}
use Rattle.inject_events.specs.Answers.{IsReadableClass, MarkedHaveCode}
use Rattle.hotswap.specs.Redefining.{IsRefused, SpellsImage}
use Rattle.jvm_machine.specs.Installs.{IsImageOf}
use Rattle.program_fit.specs.Runnable.{IsAdmitted}
use Rattle.played_rows.specs.Machine.Played.{FitsMarks}
use Rattle.played_rows.specs.Machine.Ready.{IsImageFile, IsUnfit}

pub few-methods : (p : Program) → IsAdmitted p → length p.methods ≤ 32768
few-methods p a = a.is.sound.few

pub readable : (p : Program) (class : ℕ) (c : ClassFile) → IsAdmitted p → class_at p class ≡ Some c → IsReadableClass c
readable p class c a there = each_at IsReadableClass p.classes class c a.is.readable there

-- what `instrument` makes of the class
pub image-file : (p : Program) (class : ℕ) (marks : List Mark) (c image : ClassFile) (homes : List (Option Homes)) → IsAdmitted p → class_at p class ≡ Some c → length marks ≡ length c.methods → MarkedHaveCode marks c.methods
    → (MarkedHaveCode marks c.methods → IsImage c (first_number p class) marks image homes) → (IsClassFile c → IsClassFile image) → IsImageFile p class marks image homes
image-file p class marks c image homes a there counted have made formed = record {
  made = record { file = c; there = there; counted = counted; imaged = made have };
  formed = formed (each_at IsClassFile p.classes class c a.is.sound.formed there);
}

-- where this class cannot have the marks, no class at its position can
pub fits-no-marks : (p : Program) (class : ℕ) (marks : List Mark) (c : ClassFile) → class_at p class ≡ Some c
    → (length marks ≡ length c.methods → MarkedHaveCode marks c.methods → ⊥) → FitsMarks p class marks → ⊥
fits-no-marks p class marks c there unfit fits =
    let same : fits.file ≡ c = same_Some fits.file c (sym fits.there ∙ there) in
    unfit (fits.counted ∙ ap (λ (f : ClassFile). length f.methods) same) (subst (λ (f : ClassFile). MarkedHaveCode marks f.methods) same fits.coded)

-- its bytes spell nothing else
spells-only : (p : Program) (class : ℕ) (bytes : List ℕ) (marks : List Mark) (image : ClassFile) (homes : List (Option Homes)) → IsImageFile p class marks image homes → Spells bytes image
    → SpellsImage p class bytes marks homes
spells-only p class bytes marks image homes file spelled =
    λ original other there swap. subst (λ x. IsImageOf p class marks x homes) (one_class bytes image other spelled swap.spelled) file.made

pub spells-image : (p : Program) (class : ℕ) (bytes same : List ℕ) (marks : List Mark) (image : ClassFile) (homes stay : List (Option Homes)) → IsImageFile p class marks image homes → Spells bytes image
    → same ≡ bytes → stay ≡ homes → SpellsImage p class same marks stay
spells-image p class bytes same marks image homes stay file spelled e h =
    subst (λ b. SpellsImage p class b marks stay) (sym e) (subst (λ hs. SpellsImage p class bytes marks hs) (sym h) (spells-only p class bytes marks image homes file spelled))

-- bytes that redefine no class
pub spells-none : (p : Program) (class : ℕ) (bytes : List ℕ) (marks : List Mark) (homes : List (Option Homes)) → IsUnfit p class bytes → SpellsImage p class bytes marks homes
spells-none p class bytes marks homes unfit = λ original other there swap. absurd (unfit original other there swap)

-- a class that has an image is one of the program's
pub image-known : (p : Program) (class : ℕ) (marks : List Mark) (image : ClassFile) (homes : List (Option Homes)) → IsImageFile p class marks image homes → class < length p.classes
image-known p class marks image homes file = slice_get_within p.classes class file.made.file file.made.there

-- the bytes of an image redefine its class
pub never-refused : (p : Program) (class : ℕ) (bytes : List ℕ) (marks : List Mark) (image : ClassFile) (homes : List (Option Homes)) (refusal : SwapError) → IsAdmitted p
    → IsImageFile p class marks image homes → Spells bytes image → IsRefused p class bytes refusal → ⊥
never-refused p class bytes marks image homes refusal a file spelled refused =
    let formed = each_at IsClassFile p.classes class file.made.file a.is.sound.formed file.made.there in
    let same = same_Some file.made.file refused.original (sym file.made.there ∙ refused.is) in
    let shape = image-shape file.made.file image formed
    (record { first = first_number p class; marks = marks; homes = homes; made = file.made.imaged }) in
    no-swap_fault refused.original bytes image refusal
    (record { spelled = spelled; shape = subst (λ c. HasSameShape c image) same shape }) refused.fault
