-- What changes tell by the versions of the live activations is what the event list of a trace has, where the versions'
-- marks are those of the marking.
use Rattle.std.proofs.Common.{◌≡◌, ℕ, zero, suc, List, [], ◌∷◌, ◌++◌, map, Some, None, option_and_then, slice_get, slice_set, refl, sym, ap, ap₂, ◌∙◌}
use Rattle.std.specs.Option.{option_map_or}
use Rattle.std.proofs.lemmas.Option.{slice_get_within, same_Some}
use Rattle.jvm_model.specs.declared.event.EventKind.{EventKind}
use Rattle.jvm_model.specs.declared.event.EventKind.TheVariants as kind
use Rattle.jvm_model.specs.Basis.Data.{Change, Loads, Began, Left, Unwound}
use Rattle.jvm_model.specs.Profiling.Activations.{Activation, Trace, current, with_begin, without_current, with_end, trace_changed, all_changed}
use Rattle.jvm_model.specs.Profiling.EventLists.{Marking, end_events, end_of, events_told, all_told}
use Rattle.jvm_model.specs.Turns.Told.{Held, without_held, held_after, end_told, change_told, changes_told, all_held, held_of, nothing_held, held_at, held_in}
use Rattle.jvm_model.proofs.Events.Chains.{slice_get-append_left, slice_get_at}
use Rattle.jvm_model.proofs.Events.Traces.{AreLive, IsTrace, changed-keeps, ended_in, ended_at-found}

module _ (marking : Marking) where
  -- ---- the live activations after a change

  held-push : (activations : List Activation) (a : Activation) (live : List ℕ) → AreLive activations live → map (held_at marking (activations ++ a ∷ [])) live ≡ map (held_at marking activations) live
  held-push activations a [] are = refl
  held-push activations a (number ∷ rest) are = ap₂ ◌∷◌
      (ap (λ o. option_map_or (held_of marking) o nothing_held) (slice_get-append_left activations (a ∷ []) number (slice_get_within activations number are.0.activation are.0.found)))
      (held-push activations a rest are.1)

  held_at-set : (activations : List Activation) (number : ℕ) (a : Activation) (step other : ℕ) → slice_get activations number ≡ Some a
      → held_at marking (slice_set activations number (ended_in step a)) other ≡ held_at marking activations other
  held_at-set [] number a step other found = refl
  held_at-set (b ∷ rest) zero a step zero found = ap (held_of marking) (sym (same_Some b a found))
  held_at-set (b ∷ rest) zero a step (suc other) found = refl
  held_at-set (b ∷ rest) (suc number) a step zero found = refl
  held_at-set (b ∷ rest) (suc number) a step (suc other) found = held_at-set rest number a step other found

  held-set : (activations : List Activation) (number : ℕ) (a : Activation) (step : ℕ) → slice_get activations number ≡ Some a
      → (live : List ℕ) → map (held_at marking (slice_set activations number (ended_in step a))) live ≡ map (held_at marking activations) live
  held-set activations number a step found [] = refl
  held-set activations number a step found (other ∷ rest) = ap₂ ◌∷◌ (held_at-set activations number a step other found) (held-set activations number a step found rest)

  begin-held : (step method : ℕ) (t : Trace) → IsTrace t → held_in marking (with_begin step method t) ≡ record { method = method; mark = marking step method } ∷ held_in marking t
  begin-held step method t is =
      let a : Activation = record { method = method; parent = current t.live; begin = step; «end» = None } in
      ap₂ ◌∷◌ (ap (λ o. option_map_or (held_of marking) o nothing_held) (slice_get_at t.activations a [])) (held-push t.activations a t.live is)

  end-held : (step : ℕ) (t : Trace) → IsTrace t → held_in marking (with_end step t) ≡ without_held (held_in marking t)
  end-held step t is = ends t.live refl is where
    ends : (live : List ℕ) → t.live ≡ live → AreLive t.activations live → held_in marking (without_current step live t) ≡ without_held (map (held_at marking t.activations) live)
    ends [] e are = ap (map (held_at marking t.activations)) e
    ends (number ∷ rest) e are =
        ap (λ (activations : List Activation). map (held_at marking activations) rest) (ended_at-found step number t.activations are.0.activation are.0.found)
        ∙ held-set t.activations number are.0.activation step are.0.found rest

  pub changed-held : (step : ℕ) (t : Trace) (c : Change) → IsTrace t → held_in marking (trace_changed step t c) ≡ held_after (marking step) (held_in marking t) c
  changed-held step t (Loads classes) is = refl
  changed-held step t (Began method) is = begin-held step method t is
  changed-held step t Left is = end-held step t is
  changed-held step t Unwound is = end-held step t is

  -- those after a step
  pub all_changed-held : (step : ℕ) (t : Trace) (changes : List Change) → IsTrace t → held_in marking (all_changed step t changes) ≡ all_held (marking step) (held_in marking t) changes
  all_changed-held step t [] is = refl
  all_changed-held step t (c ∷ more) is =
      all_changed-held step (trace_changed step t c) more (changed-keeps step t c is) ∙ ap (λ live. all_held (marking step) live more) (changed-held step t c is)

  -- ---- what a change tells

  end-told : (k : EventKind) (step : ℕ) (t : Trace) → IsTrace t → end_of marking k step t ≡ end_told k step (held_in marking t)
  end-told k step t is = ends t.live is where
    ends : (live : List ℕ) → AreLive t.activations live
        → option_map_or (λ (a : Activation). end_events k step a.method (marking a.begin a.method)) (option_and_then (slice_get t.activations) (current live)) []
        ≡ end_told k step (map (held_at marking t.activations) live)
    ends [] are = refl
    ends (number ∷ rest) are =
        ap (λ o. option_map_or (λ (a : Activation). end_events k step a.method (marking a.begin a.method)) o []) are.0.found
        ∙ ap (λ o. (let h : Held = option_map_or (held_of marking) o nothing_held in end_events k step h.method h.mark)) (sym are.0.found)

  change-told : (step : ℕ) (t : Trace) (c : Change) → IsTrace t → events_told marking step t c ≡ change_told (marking step) step (held_in marking t) c
  change-told step t (Loads classes) is = refl
  change-told step t (Began method) is = refl
  change-told step t Left is = end-told kind.Leave step t is
  change-told step t Unwound is = end-told kind.Unwind step t is

  -- The events of a step are those that its changes tell by the versions of the live activations.
  pub all-told : (step : ℕ) (t : Trace) (changes : List Change) → IsTrace t → all_told marking step t changes ≡ changes_told (marking step) step (held_in marking t) changes
  all-told step t [] is = refl
  all-told step t (c ∷ more) is = ap₂ ◌++◌ (change-told step t c is)
      (all-told step (trace_changed step t c) more (changed-keeps step t c is)
      ∙ ap (λ live. changes_told (marking step) step live more) (changed-held step t c is))
