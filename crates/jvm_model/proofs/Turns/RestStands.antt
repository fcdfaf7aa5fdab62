-- What is left of a step over versions stands for what is left of it over the original code, whichever of the two kinds
-- it is; and classes are loaded alike. The listing of versions may be another one than before: each of these laws goes
-- by the listing that is in force then.
use Rattle.std.proofs.Common.{◌≡◌, ℕ, List, [], ◌∷◌, Option, Some, None, refl, sym, ap, ◌∙◌}
use Rattle.std.specs.Option.{option_map}
use Rattle.jvm_model.specs.Basis.Data.{Frame, Entry, Active, Initializing, Ending, State, Instruction, Listing, World}
use Rattle.jvm_model.specs.Running.Run.{with_classes_loaded}
use Rattle.jvm_model.specs.Turns.Rest.{classes_loaded_at, loads_on, step_loads, Todo, Attempt, Moves, rest}
use Rattle.jvm_model.specs.Codes.Moved.{Moving, state_moved, moved_frame, moved_stack, moved_instruction, ArePlaces, IsMovedListing, at_homes, IsPlaced}
use Rattle.jvm_model.specs.Rewriting.StandsForRun.{listing_named, versions_forgotten, norm_by, StandsFor, IsOfVersions}
use Rattle.jvm_model.proofs.Running.Operations.{loads-moves}
use Rattle.jvm_model.proofs.Relocated.StepMoves.{placed-places}
use Rattle.jvm_model.proofs.Relocated.StandsForRun.{named-original, step-stands_for, step-same_changes, moves-stand_for, moves-same_changes}

-- ---- loads

module _ (norm : ℕ → ℕ → ℕ) (w : World) (m : Moving) (t u : Listing) (agrees : IsMovedListing norm m t u) where
  at-moves : (s : State) (f : Frame) (i : Option Instruction) → classes_loaded_at w (state_moved m s) (moved_frame m f) (option_map (moved_instruction (m.home f.version)) i) ≡ classes_loaded_at w s f i
  at-moves s f None = refl
  at-moves s f (Some i) = loads-moves (m.home f.version) w i.operation s.shared f.operands

  on-moves : (s : State) (ending : Option Ending) (stack : List Entry) → ArePlaces norm stack → loads_on w u (state_moved m s) ending (moved_stack m stack) ≡ loads_on w t s ending stack
  on-moves s None (Active f ∷ below) are = ap (classes_loaded_at w (state_moved m s) (moved_frame m f)) (agrees.lines f.version f.place are.0) ∙ at-moves s f (t.at f.version f.place)
  on-moves s None [] are = refl
  on-moves s None (Initializing c part ∷ below) are = refl
  on-moves s (Some e) stack are = refl

  pub loads-same : (s : State) → IsPlaced norm s → step_loads w u (state_moved m s) ≡ step_loads w t s
  loads-same s placed = on-moves s s.ending s.stack (placed-places norm s.stack placed)

  loaded-elsewhere : (classes : List ℕ) (s : State) → with_classes_loaded classes (state_moved m s) ≡ state_moved m (with_classes_loaded classes s)
  loaded-elsewhere [] s = refl
  loaded-elsewhere (c ∷ more) s = refl

loaded-placed : (norm : ℕ → ℕ → ℕ) (classes : List ℕ) (s : State) → IsPlaced norm s → IsPlaced norm (with_classes_loaded classes s)
loaded-placed norm [] s placed = placed
loaded-placed norm (c ∷ more) s placed = placed

pub loaded-stands_for : (norm : ℕ → ℕ → ℕ) (method_of : ℕ → ℕ) (homes : ℕ → ℕ → ℕ) (classes : List ℕ) (versioned original : State) → StandsFor norm method_of homes versioned original
    → StandsFor norm method_of homes (with_classes_loaded classes versioned) (with_classes_loaded classes original)
loaded-stands_for norm method_of homes [] versioned original stands = stands
loaded-stands_for norm method_of homes (c ∷ more) versioned original stands = record {
  between = with_classes_loaded (c ∷ more) stands.between;
  versioned_is = ap (with_classes_loaded (c ∷ more)) stands.versioned_is;
  original_is = ap (with_classes_loaded (c ∷ more)) stands.original_is;
  at_places = stands.at_places;
}

-- ---- what is left

module _ (norm : ℕ → ℕ → ℕ) (w : World) (t : Listing) (own : IsMovedListing norm (at_homes norm) t t) (method_of current : ℕ → ℕ) (homes : ℕ → ℕ → ℕ) (u : Listing)
    (is : IsOfVersions norm method_of current homes t u) (versioned original : State) (stands : StandsFor norm method_of homes versioned original) where
  pub rest-stands_for : (l : Todo) → StandsFor norm method_of homes (rest w u l versioned).after (rest w t l original).after
  rest-stands_for Attempt = step-stands_for norm w t own method_of current homes u is versioned original stands
  rest-stands_for Moves = moves-stand_for norm w t own method_of current homes u is versioned original stands

  pub rest-same_changes : (l : Todo) → (rest w u l versioned).changes ≡ (rest w t l original).changes
  rest-same_changes Attempt = step-same_changes norm w t own method_of current homes u is versioned original stands
  rest-same_changes Moves = moves-same_changes norm w t own method_of current homes u is versioned original stands

  pub step_loads-same : step_loads w u versioned ≡ step_loads w t original
  step_loads-same =
      let s : State = stands.between in
      let mid : Listing = listing_named method_of current t in
      ap (step_loads w u) stands.versioned_is
      ∙ (loads-same (norm_by method_of norm) w (at_homes homes) mid u is.agrees s stands.at_places
      ∙ (sym (loads-same (norm_by method_of norm) w (versions_forgotten method_of) mid t (named-original norm w t own method_of current is.begins) s stands.at_places)
      ∙ ap (step_loads w t) (sym stands.original_is)))
