-- An instruction whose names are known does what its attempt does: it loads nothing, and finds the kind.
use Rattle.std.proofs.Common.{◌≡◌, ℕ, suc, ◌+◌, Bool, true, false, List, [], ◌∷◌, ◌++◌, ap, sym, subst, refl, ◌∙◌, arith}
use Rattle.std.proofs.lemmas.List.{append-nil}
use Rattle.std.proofs.Math.Seq.{drop-length}
use Rattle.std.specs.Prelude.{Option, Some, None, Ok, drop, length, ◌==◌, if◌then◌else◌}
use Rattle.frame_stack.specs.FrameLists.{FramesView, top_operands}
use Rattle.jvm_model.specs.declared.program.Program.{Program}
use Rattle.jvm_model.specs.declared.state.Shared.{Shared}
use Rattle.jvm_model.specs.Basis.Data.{Operands}
use Rattle.jvm_model.specs.Classes.Kinds.{Element, Primitive, Named, kind_named, meaning_of}
use Rattle.jvm_model.specs.Classes.Load.{Fault, Loading, There, Begun, Fresh, behind_needs, by_load_state, loading_done, is_among, load_element, load_named, load_needs, load_of, needs_of, load_state_of}
use Rattle.jvm_model.specs.Basis.Programs.{class_named}
use Rattle.jvm_model.proofs.Loading.LoadsAgain.{newly-again, newly-loaded}
use Rattle.jvm_model.specs.Instructions.SymbolicReference.{kind_unless, newly_loaded, resolved_kind, resolved_name, resolves}
use Rattle.jvm_model.specs.declared.instruction.SymbolicReference.{SymbolicReference}
use Rattle.jvm_model.specs.Instructions.ReferenceRules.{does_named}
use Rattle.jvm_model.specs.Instructions.ObjectRules.{done as done_with}
use Rattle.jvm_model.proofs.Loading.Among.{among-front}
use Rattle.class_linker.specs.Linkers.{LinkerView}
use Rattle.member_selection.specs.declared.known.Known.{Known}
use Rattle.jvm_basic.specs.Outcomes.{top_locals}
use Rattle.member_selection.specs.Answers.{done_on}
use Rattle.symbolic_references.specs.Runtimes.{RuntimeView, linker_in}
use Rattle.member_selection.specs.Attempts.{attempts, linker_with, loaded_for, loads_nothing, shared_loaded}
use Rattle.member_selection.specs.Known.{IsFoundAs, IsKnown, LoadsNothing}
use Rattle.member_selection.specs.Objects.{IsResolved}
use Rattle.member_selection.specs.Resolved.{does_resolved, skips}
use Rattle.symbolic_references.proofs.Attempted.{done_found, done_skipped}
use Rattle.member_selection.proofs.Loads.{Loads, loads}
use Rattle.member_selection.proofs.ObjectLemmas.{usable_more}
use Rattle.member_selection.specs.Attempts.{with_more}

nothing-by : (p : Program) (loaded : List ℕ) (n : SymbolicReference) (b : Bool) → load_of p loaded (resolved_name n) ≡ loading_done loaded
    → (if b then drop (length loaded) (load_of p loaded (resolved_name n)).loaded else []) ≡ []
nothing-by p loaded n true is = ap (λ (l : Loading). drop (length loaded) l.loaded) is ∙ drop-length loaded
nothing-by p loaded n false is = refl

pub nothing-new : (p : Program) (loaded : List ℕ) (n : SymbolicReference) (o : Operands) → load_of p loaded (resolved_name n) ≡ loading_done loaded → newly_loaded p loaded n o ≡ []
nothing-new p loaded n o is = nothing-by p loaded n (resolves n o) is

pub same-shared : (p : Program) (n : SymbolicReference) (s : Shared) (f : FramesView) → load_of p s.loaded (resolved_name n) ≡ loading_done s.loaded → shared_loaded p n s f ≡ s
same-shared p n s f is =
    ap (λ more. record s { loaded = s.loaded ++ more }) (nothing-new p s.loaded n (top_operands f.frames) is)
    ∙ ap (λ classes. record s { loaded = classes }) (append-nil s.loaded)

pub kind-there : (p : Program) (loaded name : List ℕ) (kind : ℕ) → load_of p loaded name ≡ loading_done loaded → kind_named p name ≡ Some kind
    → Ok kind ≡ resolved_kind p loaded name
kind-there p loaded name kind is named =
    sym (ap (λ (l : Loading). kind_unless l.fault (kind_named p name)) is ∙ ap (λ o. kind_unless None o) named)

module _ (v : RuntimeView) (n : SymbolicReference) (k : Known) (f : FramesView) (known : IsKnown (linker_in v) n k) where
  same : does_named v.world n v.shared (top_locals f.frames) (top_operands f.frames) ≡ done_on (attempts v.world n v.shared f) f
  same =
      sym (ap (λ (t : Shared). does_named v.world n t (top_locals f.frames) (top_operands f.frames)) (same-shared v.world.program n v.shared f known.loads))

  pub done_again : resolves n (top_operands f.frames) ≡ true
      → done_on (does_resolved v.world k.kind n v.shared) f ≡ done_on (attempts v.world n v.shared f) f
  done_again is =
      done_found v.world n v.shared f k.kind is (kind-there v.world.program v.shared.loaded (resolved_name n) k.kind known.loads known.resolved.named) ∙ same

  pub skipped_again : resolves n (top_operands f.frames) ≡ false
      → done_with v.shared (skips n (top_locals f.frames) (top_operands f.frames)) ≡ done_on (attempts v.world n v.shared f) f
  skipped_again is = done_skipped v.world n v.shared f is ∙ same

-- ---- behind a resolution there is nothing more to load

pub loads-now : (p : Program) (before loaded : List ℕ) (n : SymbolicReference) (o : Operands) → loaded ≡ before ++ newly_loaded p before n o
    → resolves n o ≡ true → (load_of p loaded (resolved_name n)).loaded ≡ loaded
loads-now p before loaded n o is does =
    sym (newly-loaded p loaded n o does)
    ∙ (ap (λ more. loaded ++ more) (ap (λ classes. newly_loaded p classes n o) is ∙ newly-again p before n o) ∙ append-nil loaded)

no-fault : (o : Option Fault) (kind : Option ℕ) (k : ℕ) → Ok k ≡ kind_unless o kind → o ≡ None
no-fault None kind k e = refl
no-fault (Some fault) kind k e = absurd (let no : Ok k ≡ kind_unless (Some fault) kind → ⊥ = λ e. cc in no e)

pub loads-done : (p : Program) (loaded name : List ℕ) (kind : ℕ) → Ok kind ≡ resolved_kind p loaded name → (load_of p loaded name).loaded ≡ loaded
    → load_of p loaded name ≡ loading_done loaded
loads-done p loaded name kind found is =
    let none : (load_of p loaded name).fault ≡ None = no-fault (load_of p loaded name).fault (kind_named p name) kind found in
    ap (λ classes. let v : Loading = record { loaded = classes; fault = (load_of p loaded name).fault } in v) is
    ∙ ap (λ o. let v : Loading = record { loaded = loaded; fault = o } in v) none

pub loads-in : (l new : LinkerView) (before after : List ℕ) (n : SymbolicReference) (o : Operands) → new ≡ linker_with l after
    → after ≡ before ++ newly_loaded l.program before n o → resolves n o ≡ true → (load_of new.program new.loaded (resolved_name n)).loaded ≡ new.loaded
loads-in l new before after n o is more does =
    subst (λ (v : LinkerView). (load_of v.program v.loaded (resolved_name n)).loaded ≡ v.loaded) (sym is) (loads-now l.program before after n o more does)

-- ---- what is known stays known

stays-element : (p : Program) (n : ℕ) (big : List ℕ) (e : Element)
    → ((name : List ℕ) → e ≡ Named name → (class : ℕ) × (class_named p name ≡ Some class) × (is_among class big ≡ true))
    → load_element e big (λ name. by_load_state (load_state_of [] big (class_named p name)) name big
    (λ class. behind_needs class (load_needs p (load_named p n ([] ++ class ∷ [])) (needs_of p class) big))) ≡ loading_done big
stays-element p n big (Primitive code) has = refl
stays-element p n big (Named own) has = by (has own refl)
  where
    fresh : ℕ → Loading
    fresh class = behind_needs class (load_needs p (load_named p n ([] ++ class ∷ [])) (needs_of p class) big)

    by : (class : ℕ) × (class_named p own ≡ Some class) × (is_among class big ≡ true)
        → by_load_state (load_state_of [] big (class_named p own)) own big fresh ≡ loading_done big
    by (class, named, there) =
        ap (λ o. by_load_state (load_state_of [] big o) own big fresh) named
        ∙ ap (λ b. by_load_state (if b then There else if is_among class [] then Begun else Fresh class) own big fresh) there

pub loads-more : (p : Program) (loaded more name : List ℕ) → load_of p loaded name ≡ loading_done loaded → load_of p (loaded ++ more) name ≡ loading_done (loaded ++ more)
loads-more p loaded more name is =
    let one : length p.classes + 1 ≡ suc (length p.classes) = omega arith in
    subst (λ depth. load_named p depth [] name (loaded ++ more) ≡ loading_done (loaded ++ more)) (sym one)
    (stays-element p (length p.classes) (loaded ++ more) (meaning_of name).element
    (λ own e. by own (there.class own e)))
  where
    there : Loads p (meaning_of name).element (load_of p loaded name)
    there = loads p name loaded (ap (λ (l : Loading). l.fault) is)

    by : (own : List ℕ) → (class : ℕ) × (class_named p own ≡ Some class) × (is_among class (load_of p loaded name).loaded ≡ true)
        → (class : ℕ) × (class_named p own ≡ Some class) × (is_among class (loaded ++ more) ≡ true)
    by own (class, named, among) =
        (class, named, among-front class loaded more (ap (λ (l : Loading). is_among class l.loaded) (sym is) ∙ among))

pub known-more : (l : LinkerView) (more : List ℕ) (n : SymbolicReference) (k : Known) → IsKnown l n k → IsKnown (with_more l more) n k
known-more l more n k is = record {
  resolved = record { named = is.resolved.named; dimensions = is.resolved.dimensions; usable = usable_more l more k.kind is.resolved.usable };
  loads = loads-more l.program l.loaded more (resolved_name n) is.loads;
  found = is.found;
}

pub loaded_again : (l : LinkerView) (n : SymbolicReference) (k : Known) (s : Shared) (f : FramesView) → l.loaded ≡ s.loaded → IsKnown l n k
    → l.loaded ≡ loaded_for l.program n s f
loaded_again l n k s f linked known =
    linked ∙ ap (λ (t : Shared). t.loaded)
    (sym (same-shared l.program n s f (subst (λ classes. load_of l.program classes (resolved_name n) ≡ loading_done classes) linked known.loads)))

pub loads_none : (l : LinkerView) (n : SymbolicReference) (k : Known) (s : Shared) (f : FramesView) → l.loaded ≡ s.loaded → IsKnown l n k
    → loads_nothing l.program s.loaded n (top_operands f.frames) ≡ true
loads_none l n k s f linked known =
    ap (λ (classes : List ℕ). length classes == 0)
    (nothing-new l.program s.loaded n (top_operands f.frames) (subst (λ classes. load_of l.program classes (resolved_name n) ≡ loading_done classes) linked known.loads))

-- what is known behind a resolution
pub known_found : (l : LinkerView) (n : SymbolicReference) (k : Known) → Ok k.kind ≡ resolved_kind l.program l.loaded (resolved_name n) → IsResolved l (resolved_name n) k.kind
    → LoadsNothing l n → IsFoundAs k.found l.program k.kind n → IsKnown l n k
known_found l n k found resolved loads as_found = record {
  resolved = resolved;
  loads = loads-done l.program l.loaded (resolved_name n) k.kind found loads;
  found = as_found;
}
