-- The classes that the start has loaded before its moves.
use Rattle.std.proofs.Common.{◌≡◌, ℕ, Bool, true, false, List, ◌++◌, Option, Some, None, refl, sym, ap, ◌∙◌}
use Rattle.std.proofs.lemmas.List.{append-nil}
use Rattle.jvm_model.specs.declared.state.State.{State}
use Rattle.jvm_model.specs.Classes.Load.{Fault, error_of}
use Rattle.jvm_model.specs.Instructions.SymbolicReference.{message_of}
use Rattle.jvm_model.specs.Running.Run.{arguments_made, before, loads_if, main_classes, main_loading, main_loads, run_opened, starts_if, starts_unless}
use Rattle.jvm_model.specs.Basis.SharedState.{arguments_fit, null}
use Rattle.prepared_code.specs.declared.initializations.Initialization.{Initialization}
use Rattle.prepared_code.specs.declared.parts.Parts.{Parts}
use Rattle.prepared_code.specs.Initializations.{state_of}
use Rattle.prepared_code.specs.Versions.{Setup}
use Rattle.instructions.proofs.Attempts.LineActs.{with-loaded}
use Rattle.jvm_model.proofs.Loading.LoadedMoves.{made-loaded}

module _ (w : Setup) where
  -- what stops its loading loads nothing
  unless-loaded : (s : State) (fault : Option Fault) → (starts_unless w.world fault s).shared.loaded ≡ s.shared.loaded
  unless-loaded s None = refl
  unless-loaded s (Some fault) = made-loaded w.world s.shared (error_of fault) (message_of fault) null

  if-loaded : (fit : Bool) → (starts_if w.world fit).shared.loaded ≡ (before w.world).shared.loaded ++ loads_if w.world fit
  if-loaded true =
      unless-loaded (run_opened w.world) (main_loading w.world).fault
      ∙ ap (λ (x : State). x.shared.loaded) (with-loaded (main_classes w.world) (arguments_made w.world (before w.world)))
  if-loaded false = sym (append-nil (before w.world).shared.loaded)

  pub begun-loads : (ms_old ms : List Initialization) (old new : Parts) → arguments_fit w.world.program ≡ true → state_of ms_old old ≡ before w.world → state_of ms new ≡ starts_if w.world true
      → new.runtime.shared.loaded ≡ old.runtime.shared.loaded ++ main_loads w.world
  begun-loads ms_old ms old new fits start begun =
      ap (λ (x : State). x.shared.loaded) begun
      ∙ (if-loaded true
      ∙ (ap (λ b. (before w.world).shared.loaded ++ loads_if w.world b) (sym fits)
      ∙ ap (λ (x : State). x.shared.loaded ++ main_loads w.world) (sym start)))

  -- without room for the arguments nothing is loaded
  pub begun-none : (classes : List ℕ) → arguments_fit w.world.program ≡ false → classes ≡ classes ++ main_loads w.world
  begun-none classes isnt = sym (ap (λ b. classes ++ loads_if w.world b) isnt ∙ append-nil classes)
