-- The class of an invokespecial of a method that was read is loaded where the method's is.
use Rattle.std.proofs.Common.{◌≡◌, ℕ, List, [], ◌++◌, ◌∷◌, ap, refl, subst, sym, ◌∙◌}
use Rattle.std.specs.Prelude.{Some, flat_map, ◌||◌}
use Rattle.std.specs.List.{AllByRecursion}
use Rattle.jf_bytes.proofs.Lists.{each_at}
use Rattle.jvm_model.specs.declared.program.Program.{Program}
use Rattle.jvm_model.specs.Classes.Load.{is_among}
use Rattle.jvm_model.specs.Profiling.Revelation.{symbolic_references_of}
use Rattle.jvm_model.specs.Soundness.Sound.{HasClass, HasLoadedCaller, IsFit}
use Rattle.jvm_model.specs.Profiling.Targets.{begun_by, operations_of}
use Rattle.jvm_model.specs.declared.instruction.SymbolicReference.{SymbolicReference}
use Rattle.possible_callees.specs.Tables.{Adds, list_at}
use Rattle.possible_callees.proofs.Numbers.Adding.{adds-then}
use Rattle.possible_callees.proofs.References.CallerLemmas.{callers-loaded}
use Rattle.call_revelation.specs.declared.uses.Use.{Use}
use Rattle.call_revelation.specs.Books.{Codes, IsBook, called_from, code_at, methods_gathered, symbolic_reference_at, of_entered}
use Rattle.call_revelation.proofs.Classes.LoadStep.{read-at}

module _ (p : Program) (loaded : List ℕ) (codes : Codes) (waiting calls : List (List Use)) (book : IsBook p codes waiting calls) (fit : IsFit p) where
  pub loaded-caller : (u : Use) (n : SymbolicReference) → symbolic_reference_at codes u ≡ Some n → HasClass p loaded u.caller → HasLoadedCaller p loaded n
  loaded-caller u n e has =
      each_at (HasLoadedCaller p loaded) (symbolic_references_of (operations_of p u.caller)) u.at n (callers-loaded p loaded fit u.caller has)
      (read-at p codes waiting calls book [] u (code_at codes u.caller) n refl e)

  pub callers-there : (method : ℕ) (ns : List SymbolicReference) → code_at codes method ≡ Some ns → HasClass p loaded method
      → AllByRecursion (HasLoadedCaller p loaded) ns
  callers-there method ns e has =
      subst (AllByRecursion (HasLoadedCaller p loaded)) (sym (book.read method ns e)) (callers-loaded p loaded fit method has)

-- what was gathered of calls and of what waits
pub gathered-both : (p : Program) (loaded : List ℕ) (new : ℕ) (entered : List ℕ) (codes : Codes) (waiting calls : List (List Use)) (supertypes all none called found : List ℕ)
    → none ≡ [] → all ≡ loaded ++ new ∷ [] → Adds none called (flat_map (called_from p loaded new entered codes calls) supertypes)
    → Adds called found (flat_map (of_entered entered codes (begun_by p all)) (list_at waiting new))
    → (m : ℕ) → is_among m found ≡ is_among m (methods_gathered p loaded new entered codes waiting calls supertypes)
gathered-both p loaded new entered codes waiting calls supertypes all none called found empty is first second m =
    let calling = flat_map (called_from p loaded new entered codes calls) supertypes in
    adds-then none called found calling (flat_map (of_entered entered codes (begun_by p all)) (list_at waiting new)) first second m
    ∙ (ap (λ l. is_among m l || is_among m (calling ++ flat_map (of_entered entered codes (begun_by p all)) (list_at waiting new))) empty
    ∙ ap (λ l. is_among m (calling ++ flat_map (of_entered entered codes (begun_by p l)) (list_at waiting new))) is)
