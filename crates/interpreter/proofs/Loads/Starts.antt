-- The start: what was found for the main class's name is what the model's start goes on with.
use Rattle.std.proofs.Common.{◌≡◌, ◌+◌, ◌≤◌, ℕ, List, [], true, Option, Some, None, refl, sym, ap, subst, ◌∙◌}
use Rattle.std.specs.Prelude.{Result, OnOk}
use Rattle.std.proofs.lemmas.Bool.{leb-true}
use Rattle.std.proofs.lemmas.Result.{on_ok_weaker}
use Rattle.jf_bytes.specs.declared.error.NoMemory.{NoMemory}
use Rattle.jvm_model.specs.declared.state.Shared.{Shared}
use Rattle.jvm_model.specs.declared.state.State.{State}
use Rattle.jvm_model.specs.Basis.Data.{Outcome}
use Rattle.jvm_model.specs.declared.instruction.SymbolicReference.TheVariants.{New}
use Rattle.jvm_model.specs.Classes.Load.{Fault, load_of}
use Rattle.jvm_model.specs.Instructions.SymbolicReference.{kind_unless, resolved_kind}
use Rattle.jvm_model.specs.Running.Run.{arguments_made, before, main_class, main_classes, main_loading, run_opened, starts_if, starts_unless}
use Rattle.jvm_model.specs.Basis.SharedState.{arguments_cost, arguments_fit, with_arguments}
use Rattle.jvm_model.proofs.Loading.LoadsAgain.{newly-loaded}
use Rattle.interpreter.specs.Machine.Before.{begun_by}
use Rattle.activations.specs.Initializing.{begins_class}
use Rattle.prepared_code.specs.Prepared.{main_name}
use Rattle.instructions.proofs.Attempts.LineActs.{with-loaded}
use Rattle.prepared_code.specs.declared.initializations.Initialization.{Initialization}
use Rattle.prepared_code.specs.declared.parts.Parts.{Parts}
use Rattle.prepared_code.specs.Initializations.{state_of}
use Rattle.prepared_code.specs.Originals.{OriginalsView, setup_in}
use Rattle.prepared_code.specs.Versions.{Setup}
use Rattle.symbolic_references.specs.Runtimes.{RuntimeView, with_heap, with_loaded}

-- by the fault that stopped the loading, on an empty stack
fault-begins : (w : Setup) (fault : Option Fault) (kind : Option ℕ) (s : State) → s.stack ≡ []
    → begun_by w.world (main_class w.world.program) (kind_unless fault kind) s ≡ starts_unless w.world fault s
fault-begins w (Some fault) kind s empty = refl
fault-begins w None None s empty = ap (λ es. begins_class (main_class w.world.program) (record s { stack = es })) empty ∙ ap (λ es. starts_unless w.world None (record s { stack = es })) (sym empty)
fault-begins w None (Some kind) s empty = ap (λ es. begins_class (main_class w.world.program) (record s { stack = es })) empty ∙ ap (λ es. starts_unless w.world None (record s { stack = es })) (sym empty)

-- what is shared once the arguments are made and the main class is loaded
abbrev pub shared_opened : Setup → Shared → Shared
shared_opened w s = record s {
  heap = with_arguments w.world.program s.heap;
  loaded = (load_of w.world.program s.loaded (main_name w.world.program)).loaded;
}

opens : (w : Setup) → record (before w.world) { shared = shared_opened w (before w.world).shared } ≡ run_opened w.world
opens w =
    ap (λ loaded. record (before w.world) { shared = record (before w.world).shared { heap = with_arguments w.world.program (before w.world).shared.heap; loaded = loaded } })
    (sym (newly-loaded w.world.program (before w.world).shared.loaded (New (main_name w.world.program)) [] refl))
    ∙ sym (with-loaded (main_classes w.world) (arguments_made w.world (before w.world)))

pub begins-main : (w : Setup) (old after : State) (found : Result ℕ Outcome) → old ≡ before w.world
    → found ≡ resolved_kind w.world.program old.shared.loaded (main_name w.world.program)
    → after ≡ begun_by w.world (main_class w.world.program) found (record old { shared = shared_opened w old.shared }) → after ≡ starts_if w.world true
begins-main w old after found is delivered begins =
    begins
    ∙ (ap (λ x. begun_by w.world (main_class w.world.program) x (record old { shared = shared_opened w old.shared })) delivered
    ∙ (ap (λ (s : State). begun_by w.world (main_class w.world.program) (resolved_kind w.world.program s.shared.loaded (main_name w.world.program)) (record s { shared = shared_opened w s.shared })) is
    ∙ (fault-begins w (main_loading w.world).fault _ (record (before w.world) { shared = shared_opened w (before w.world).shared }) refl
    ∙ ap (starts_unless w.world (main_loading w.world).fault) (opens w))))

-- by what the code has found, over the arguments that it has made, with the classes that it has loaded
pub begins-all : {A : Type 0} (result : Result A NoMemory) (o : OriginalsView) (ms : List Initialization) (p : Parts) (class : ℕ) (after : State) (found : Result ℕ Outcome)
    (opened left : RuntimeView) → state_of ms p ≡ before p.runtime.world → opened ≡ with_heap (with_arguments p.runtime.world.program p.runtime.shared.heap) p.runtime
    → left ≡ with_loaded (load_of opened.world.program opened.shared.loaded (main_name opened.world.program)).loaded opened
    → found ≡ resolved_kind opened.world.program opened.shared.loaded (main_name opened.world.program) → class ≡ main_class left.world.program
    → OnOk result (after ≡ begun_by left.world class found (state_of ms (record p { runtime = left })))
    → OnOk result (after ≡ starts_if p.runtime.world true)
begins-all result o ms p class after found opened left start made loads delivered main begins =
    on_ok_weaker result
    (λ e. begins-main (setup_in p.runtime o) (state_of ms p) after found start
    (delivered ∙ ap (λ (r : RuntimeView). resolved_kind r.world.program r.shared.loaded (main_name r.world.program)) made)
    (e ∙ (ap (λ (r : RuntimeView). begun_by r.world class found (state_of ms (record p { runtime = r }))) left-is
    ∙ ap (λ k. begun_by p.runtime.world k found (state_of ms (record p { runtime = all }))) (main ∙ ap (λ (r : RuntimeView). main_class r.world.program) left-is))))
    begins
  where
    opening : RuntimeView
    opening = with_heap (with_arguments p.runtime.world.program p.runtime.shared.heap) p.runtime

    all : RuntimeView
    all = with_loaded (load_of p.runtime.world.program p.runtime.shared.loaded (main_name p.runtime.world.program)).loaded opening

    left-is : left ≡ all
    left-is = loads ∙ ap (λ (r : RuntimeView). with_loaded (load_of r.world.program r.shared.loaded (main_name r.world.program)).loaded r) made

-- before the start there is room for arguments that fit, in the program's heap
pub fits-room : (w : Setup) (s : State) → s ≡ before w.world → arguments_fit w.world.program ≡ true → s.shared.heap.used + arguments_cost w.world.program.args ≤ s.shared.heap.limit
fits-room w s is fits =
    subst (λ (x : State). x.shared.heap.used + arguments_cost w.world.program.args ≤ x.shared.heap.limit) (sym is)
    (leb-true ((before w.world).shared.heap.used + arguments_cost w.world.program.args) w.world.program.heap fits)
