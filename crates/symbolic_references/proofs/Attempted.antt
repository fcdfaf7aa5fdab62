-- What is loaded before an attempt, and what is found.
use Rattle.std.proofs.Common.{◌≡◌, ℕ, true, false, List, [], ◌++◌, ap, sym, subst, refl, ◌∙◌}
use Rattle.std.proofs.lemmas.List.{append-nil}
use Rattle.std.specs.Prelude.{Result, Ok, Err, OnOk, drop, length, if◌then◌else◌}
use Rattle.frame_stack.specs.FrameLists.{FramesView, top_operands}
use Rattle.heap_objects.specs.Heaps.{HeapView}
use Rattle.jvm_basic.specs.Outcomes.{top_locals}
use Rattle.jvm_model.specs.declared.program.Program.{Program}
use Rattle.jvm_model.specs.declared.state.Shared.{Shared}
use Rattle.jvm_model.specs.Basis.Data.{Operands, World, Done}
use Rattle.jvm_model.specs.Classes.Load.{load_of}
use Rattle.jvm_model.specs.Instructions.SymbolicReference.{newly_loaded, resolved_kind, resolved_name, resolves, unless_refused}
use Rattle.jvm_model.specs.declared.instruction.SymbolicReference.{SymbolicReference}
use Rattle.jvm_model.specs.declared.instruction.SymbolicReference.TheVariants.{Invokespecial}
use Rattle.jvm_model.specs.Instructions.ReferenceRules.{does_named}
use Rattle.jvm_model.specs.Instructions.ObjectRules.{done}
use Rattle.jvm_model.proofs.Loading.LoadsAgain.{newly-loaded, resolved-again}
use Rattle.class_linker.specs.Linkers.{LinkerView}
use Rattle.member_selection.specs.declared.outcome.AbruptCompletion.{AbruptCompletion}
use Rattle.member_selection.specs.Answers.{done_on, abrupt_view}
use Rattle.jf_bytes.specs.declared.error.NoMemory.{NoMemory}
use Rattle.member_selection.specs.declared.outcome.Outcome.{Outcome as TheOutcome}
use Rattle.member_selection.specs.Outcomes.{Asks, outcome_in_frame}
use Rattle.symbolic_references.specs.Leaving.{Leaves}
use Rattle.member_selection.specs.Attempts.{attempts, loaded_for, with_more}
use Rattle.symbolic_references.specs.Natives.{HasBuiltIn}
use Rattle.member_selection.specs.Objects.{HasLoadedCaller}
use Rattle.symbolic_references.specs.declared.program_tables.ProgramTables.{ProgramTables}
use Rattle.jvm_model.specs.Basis.SharedState.{kind_for, string}
use Rattle.symbolic_references.specs.ProgramFacts.{HasExceptions, exception_kind}
use Rattle.symbolic_references.specs.Runtimes.{IsRuntime, RuntimeView, after, with_loaded}
use Rattle.member_selection.specs.Resolved.{does_resolved, skips}
use Rattle.symbolic_references.proofs.Behind.{behind, skipped}
use Rattle.member_selection.proofs.ObjectLemmas.{loaded_more, objects_more, usable_more}
use Rattle.std.proofs.Common.{Bool, Some}
use Rattle.std.specs.Prelude.{IfOk}
use Rattle.member_selection.specs.Attempts.{IsFound}
use Rattle.member_selection.specs.Answers.{found_view}
use Rattle.member_selection.specs.Objects.{IsResolved}
use Rattle.symbolic_references.specs.Runtimes.{linker_in}
use Rattle.member_selection.specs.Selections.{Slots}

-- ---- what is loaded

pub nothing_loaded : (p : Program) (loaded : List ℕ) (n : SymbolicReference) (o : Operands) → resolves n o ≡ false → loaded ≡ loaded ++ newly_loaded p loaded n o
nothing_loaded p loaded n o is =
    sym (append-nil loaded)
    ∙ sym (ap (λ b. loaded ++ (if b then drop (length loaded) (load_of p loaded (resolved_name n)).loaded else [])) is)

pub all_loaded : (p : Program) (loaded after : List ℕ) (n : SymbolicReference) (o : Operands) → resolves n o ≡ true → after ≡ (load_of p loaded (resolved_name n)).loaded
    → after ≡ loaded ++ newly_loaded p loaded n o
all_loaded p loaded after n o is e = e ∙ sym (newly-loaded p loaded n o is)

-- ---- what is done then

pub done_skipped : (w : World) (n : SymbolicReference) (s : Shared) (f : FramesView) → resolves n (top_operands f.frames) ≡ false
    → done s (skips n (top_locals f.frames) (top_operands f.frames)) ≡ done_on (does_named w n s) f
done_skipped w n s f is = sym (skipped w n s (top_locals f.frames) (top_operands f.frames) is)

pub done_refused : (w : World) (n : SymbolicReference) (s : Shared) (f : FramesView) (e : AbruptCompletion) → resolves n (top_operands f.frames) ≡ true
    → Err (abrupt_view e) ≡ resolved_kind w.program s.loaded (resolved_name n) → done s (abrupt_view e) ≡ done_on (does_named w n s) f
done_refused w n s f e is found =
    sym (behind w n s (top_locals f.frames) (top_operands f.frames) is
    ∙ ap (λ r. unless_refused s r (λ kind. does_resolved w kind n s (top_locals f.frames) (top_operands f.frames))) (sym found))

pub done_found : (w : World) (n : SymbolicReference) (s : Shared) (f : FramesView) (kind : ℕ) → resolves n (top_operands f.frames) ≡ true
    → Ok kind ≡ resolved_kind w.program s.loaded (resolved_name n) → done_on (does_resolved w kind n s) f ≡ done_on (does_named w n s) f
done_found w n s f kind is found =
    sym (behind w n s (top_locals f.frames) (top_operands f.frames) is
    ∙ ap (λ r. unless_refused s r (λ kind. does_resolved w kind n s (top_locals f.frames) (top_operands f.frames))) (sym found))

-- ---- with what is loaded then

module _ (l new : LinkerView) (more : List ℕ) (is : new ≡ with_more l more) where
  caller_more : (n : SymbolicReference) → HasLoadedCaller l n → HasLoadedCaller (with_more l more) n
  caller_more (Invokespecial caller r interface) has = λ class named. loaded_more l more class (has class named)
  caller_more n has = tt

  pub caller_later : (n : SymbolicReference) → HasLoadedCaller l n → HasLoadedCaller new n
  caller_later n has = subst (λ v. HasLoadedCaller v n) (sym is) (caller_more n has)

  built_in_more : HasBuiltIn l → HasBuiltIn (with_more l more)
  built_in_more has = record { whole = has.whole; each = λ class above within. loaded_more l more class (has.each class above within) }

  exceptions_more : HasExceptions l → HasExceptions (with_more l more)
  exceptions_more has = record {
    each = λ e. usable_more l more (exception_kind l.program e) (has.each e);
    text = usable_more l more (kind_for l.program string) has.text;
  }

  -- what a runtime keeps to
  pub runtime_later : (t : ProgramTables) (kept : Slots) (h : HeapView) → IsRuntime l t kept h → IsRuntime new t kept h
  runtime_later t kept h has =
      subst (λ v. IsRuntime v t kept h) (sym is)
      (record {
        tables = has.tables;
        built_in = built_in_more has.built_in;
        exceptions = exceptions_more has.exceptions;
        selections = has.selections;
        objects = objects_more l more h has.objects;
      })

-- ---- an attempt, behind what it loads

module _ (v m : RuntimeView) (n : SymbolicReference) (f : FramesView) (mid : m ≡ with_loaded (loaded_for v.world.program n v.shared f) v) where
  pub attempted : done_on (does_named m.world n m.shared) f ≡ done_on (attempts v.world n v.shared f) f
  attempted = ap (λ (x : RuntimeView). done_on (does_named x.world n x.shared) f) mid

  pub asks-later : (result : Result TheOutcome NoMemory) → Asks result (does_named m.world n m.shared) f → Asks result (attempts v.world n v.shared f) f
  asks-later result = subst (λ (d : Done). IfOk result (λ a. outcome_in_frame a f ≡ d.outcome)) attempted

  pub leaves-later : (result : Result TheOutcome NoMemory) (new : RuntimeView) → Leaves result new (does_named m.world n m.shared) f m
      → Leaves result new (attempts v.world n v.shared f) f v
  leaves-later result new = subst (λ x. OnOk result (new ≡ x)) (ap (λ (x : RuntimeView). after (done_on (does_named x.world n x.shared) f) x) mid)

-- ---- what is found

pub found_by : (l : LinkerView) (n : SymbolicReference) (o : Operands) (r : Result ℕ AbruptCompletion) → resolves n o ≡ true
    → found_view r ≡ resolved_kind l.program l.loaded (resolved_name n) → IfOk r (λ kind. IsResolved l (resolved_name n) kind) → IsFound l n o (Some r)
found_by l n o (Ok kind) is found resolved = (is, found, resolved)
found_by l n o (Err e) is found resolved = (is, found)

pub resolved_later : (l new : LinkerView) (n : SymbolicReference) (o : Operands) (r : Result ℕ AbruptCompletion) → resolves n o ≡ true
    → new.program ≡ l.program → new.loaded ≡ (load_of l.program l.loaded (resolved_name n)).loaded
    → found_view r ≡ resolved_kind l.program l.loaded (resolved_name n) → found_view r ≡ resolved_kind new.program new.loaded (resolved_name n)
resolved_later l new n o r is e f found =
    found
    ∙ (sym (resolved-again l.program l.loaded n o is)
    ∙ (ap (λ classes. resolved_kind l.program classes (resolved_name n)) (sym (f ∙ sym (newly-loaded l.program l.loaded n o is)))
    ∙ ap (λ p. resolved_kind p new.loaded (resolved_name n)) (sym e)))

pub loaded-by : (v : RuntimeView) (n : SymbolicReference) (f : FramesView) → resolves n (top_operands f.frames) ≡ true
    → with_loaded (load_of v.world.program v.shared.loaded (resolved_name n)).loaded v ≡ with_loaded (loaded_for v.world.program n v.shared f) v
loaded-by v n f is = ap (λ classes. with_loaded classes v) (sym (newly-loaded v.world.program v.shared.loaded n (top_operands f.frames) is))

pub loaded-none : (v : RuntimeView) (n : SymbolicReference) (f : FramesView) → resolves n (top_operands f.frames) ≡ false
    → v ≡ with_loaded (loaded_for v.world.program n v.shared f) v
loaded-none v n f is =
    sym (ap (λ more. with_loaded (v.shared.loaded ++ more) v) (nothing-by v.world.program v.shared.loaded n (resolves n (top_operands f.frames)) is)
    ∙ ap (λ classes. with_loaded classes v) (append-nil v.shared.loaded))
  where
    nothing-by : (p : Program) (loaded : List ℕ) (n : SymbolicReference) (b : Bool) → b ≡ false
        → (if b then drop (length loaded) (load_of p loaded (resolved_name n)).loaded else []) ≡ []
    nothing-by p loaded n true is = absurd (let no : true ≡ false → ⊥ = λ e. cc in no is)
    nothing-by p loaded n false is = refl

pub same-linker : (a b : RuntimeView) → a.world ≡ b.world → a.shared.loaded ≡ b.shared.loaded → linker_in a ≡ linker_in b
same-linker a b world loaded =
    ap (λ (w : World). let l : LinkerView = record { program = w.program; loaded = a.shared.loaded } in l) world
    ∙ ap (λ classes. let l : LinkerView = record { program = b.world.program; loaded = classes } in l) loaded
