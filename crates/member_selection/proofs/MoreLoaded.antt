-- What a load leaves is what was loaded, with more classes.
use Rattle.std.proofs.Common.{◌≡◌, ℕ, List, [], ap, sym, subst, refl, ◌∙◌}
use Rattle.std.proofs.lemmas.List.{append-nil}
use Rattle.std.specs.Prelude.{drop, length}
use Rattle.jvm_model.specs.Classes.Load.{load_of}
use Rattle.jvm_model.specs.declared.instruction.SymbolicReference.TheVariants.{New}
use Rattle.jvm_model.proofs.Loading.LoadsAgain.{newly-loaded}
use Rattle.class_linker.specs.Linkers.{LinkerView}
use Rattle.member_selection.specs.Attempts.{linker_with, with_more}
use Rattle.std.proofs.Math.Seq.{drop-length}

pub more-loaded : (l : LinkerView) (name : List ℕ)
    → linker_with l (load_of l.program l.loaded name).loaded ≡ with_more l (drop (length l.loaded) (load_of l.program l.loaded name).loaded)
more-loaded l name = ap (λ classes. linker_with l classes) (sym (newly-loaded l.program l.loaded (New name) [] refl))

pub more-by : (l new : LinkerView) (name : List ℕ) → new ≡ linker_with l (load_of l.program l.loaded name).loaded
    → new ≡ with_more l (drop (length l.loaded) new.loaded)
more-by l new name is = subst (λ (x : LinkerView). x ≡ with_more l (drop (length l.loaded) x.loaded)) (sym is) (more-loaded l name)

pub none-more : (l : LinkerView) → l ≡ with_more l (drop (length l.loaded) l.loaded)
none-more l = sym (ap (λ more. with_more l more) (drop-length l.loaded) ∙ ap (λ classes. linker_with l classes) (append-nil l.loaded))
