-- What holds of every trace: which activations are live, and that their methods are changed as told. Each change keeps
-- it, so all changes of a step do, and the trace of a run has it.
use Rattle.std.proofs.Common.{◌≡◌, ℕ, zero, suc, List, [], ◌∷◌, ◌++◌, length, map, Some, None, slice_get, slice_set, refl, sym, ap, ap₂, subst, ◌∙◌, inl, inr}
use Rattle.std.specs.Bool.{⊤}
use Rattle.std.specs.Option.{option_map_or}
use Rattle.std.proofs.lemmas.Bool.{cases_eq}
use Rattle.std.proofs.lemmas.Option.{slice_get_within, same_Some}
use Rattle.jf_bytes.proofs.Lists.{slice_get-set_same}
use Rattle.jvm_model.specs.Basis.Data.{Listing, World, Change, Loads, Began, Left, Unwound, State}
use Rattle.jvm_model.specs.Running.Run.{start, step, turn_in, turn_in-zero, turn_in-suc}
use Rattle.jvm_model.specs.Running.Changes.{methods, without_first, methods_after_change, methods_after_changes}
use Rattle.jvm_model.specs.Profiling.Activations.{Activation, Trace, no_trace, current, with_begin, ended_at, without_current, with_end, trace_changed, all_changed, trace_in, trace_in-zero, trace_in-suc}
use Rattle.jvm_model.proofs.Events.Chains.{slice_get-append_left, slice_get_at, IsBelow}

-- ---- live activations

-- The live activation with this number: it is there, the next live one invoked it, and that one began before it.
pub record IsLive (activations : List Activation) (number : ℕ) (rest : List ℕ) : Type 0 where
  pub activation : Activation
  pub found : slice_get activations number ≡ Some activation
  pub invoked : activation.parent ≡ current rest
  pub earlier : IsBelow number (current rest)

abbrev pub AreLive : List Activation → List ℕ → Type 0
AreLive activations [] = ⊤
AreLive activations (number ∷ rest) = IsLive activations number rest × AreLive activations rest

abbrev pub IsTrace : Trace → Type 0
IsTrace t = AreLive t.activations t.live

pub current-below : (activations : List Activation) (live : List ℕ) → AreLive activations live → IsBelow (length activations) (current live)
current-below activations [] are = tt
current-below activations (number ∷ rest) are = slice_get_within activations number are.0.activation are.0.found

-- ---- an activation begins

live-push : (activations : List Activation) (a : Activation) (live : List ℕ) → AreLive activations live → AreLive (activations ++ a ∷ []) live
live-push activations a [] are = tt
live-push activations a (number ∷ rest) are = (
  record {
    activation = are.0.activation;
    found = slice_get-append_left activations (a ∷ []) number (slice_get_within activations number are.0.activation are.0.found) ∙ are.0.found;
    invoked = are.0.invoked;
    earlier = are.0.earlier;
  },
  live-push activations a rest are.1,
)

begin-keeps : (step method : ℕ) (t : Trace) → IsTrace t → IsTrace (with_begin step method t)
begin-keeps step method t is =
    let a : Activation = record { method = method; parent = current t.live; begin = step; «end» = None } in (
      record {
        activation = a;
        found = slice_get_at t.activations a [];
        invoked = refl;
        earlier = current-below t.activations t.live is;
      },
      live-push t.activations a t.live is,
    )

-- ---- an activation ends

-- the same activation, ended in a step
abbrev pub ended_in : ℕ → Activation → Activation
ended_in step a = record a { «end» = Some step }

pub ended_at-found : (step number : ℕ) (activations : List Activation) (a : Activation) → slice_get activations number ≡ Some a → ended_at step number activations ≡ slice_set activations number (ended_in step a)
ended_at-found step number activations a found = ap (λ o. option_map_or (λ (b : Activation). slice_set activations number (ended_in step b)) o activations) found

slice_get-set_other : {X : Type 0} (xs : List X) (i j : ℕ) (y : X) → (j ≡ i → ⊥) → slice_get (slice_set xs i y) j ≡ slice_get xs j
slice_get-set_other [] i j y other = refl
slice_get-set_other (x ∷ xs) zero zero y other = absurd (other refl)
slice_get-set_other (x ∷ xs) zero (suc j) y other = refl
slice_get-set_other (x ∷ xs) (suc i) zero y other = refl
slice_get-set_other (x ∷ xs) (suc i) (suc j) y other = slice_get-set_other xs i j y (λ same. other (ap suc same))

live_one-set : (activations : List Activation) (number : ℕ) (a : Activation) (step : ℕ) → slice_get activations number ≡ Some a
    → (other : ℕ) (rest : List ℕ) → IsLive activations other rest → IsLive (slice_set activations number (ended_in step a)) other rest
live_one-set activations number a step found other rest is = elim (cases_eq other number) [
  | inl same ↦
      let at : slice_get activations other ≡ Some a = ap (slice_get activations) same ∙ found in
      let one : is.activation ≡ a = same_Some is.activation a (sym is.found ∙ at) in
      record {
        activation = ended_in step a;
        found = ap (slice_get (slice_set activations number (ended_in step a))) same ∙ slice_get-set_same activations number (ended_in step a) (slice_get_within activations number a found);
        invoked = ap (λ (b : Activation). b.parent) (sym one) ∙ is.invoked;
        earlier = is.earlier;
      }
  | inr different ↦ record {
    activation = is.activation;
    found = slice_get-set_other activations number other (ended_in step a) different ∙ is.found;
    invoked = is.invoked;
    earlier = is.earlier;
  }
]

live-set : (activations : List Activation) (number : ℕ) (a : Activation) (step : ℕ) → slice_get activations number ≡ Some a
    → (live : List ℕ) → AreLive activations live → AreLive (slice_set activations number (ended_in step a)) live
live-set activations number a step found [] are = tt
live-set activations number a step found (other ∷ rest) are = (live_one-set activations number a step found other rest are.0, live-set activations number a step found rest are.1)

end-keeps : (step : ℕ) (t : Trace) → IsTrace t → IsTrace (with_end step t)
end-keeps step t is = keeps t.live is where
  keeps : (live : List ℕ) → AreLive t.activations live → IsTrace (without_current step live t)
  keeps [] are = is
  keeps (number ∷ rest) are = subst (λ activations. AreLive activations rest) (sym (ended_at-found step number t.activations are.0.activation are.0.found))
      (live-set t.activations number are.0.activation step are.0.found rest are.1)

-- ---- changes

pub changed-keeps : (step : ℕ) (t : Trace) (c : Change) → IsTrace t → IsTrace (trace_changed step t c)
changed-keeps step t (Loads classes) is = is
changed-keeps step t (Began method) is = begin-keeps step method t is
changed-keeps step t Left is = end-keeps step t is
changed-keeps step t Unwound is = end-keeps step t is

pub all_changed-keeps : (step : ℕ) (t : Trace) (changes : List Change) → IsTrace t → IsTrace (all_changed step t changes)
all_changed-keeps step t [] is = is
all_changed-keeps step t (c ∷ more) is = all_changed-keeps step (trace_changed step t c) more (changed-keeps step t c is)

pub no_trace-is : IsTrace no_trace
no_trace-is = tt

pub trace_in-is : (w : World) (t : Listing) (n : ℕ) → IsTrace (trace_in w t n)
trace_in-is w t zero = subst IsTrace (sym (trace_in-zero w t)) (all_changed-keeps 0 no_trace (turn_in w t 0).changes no_trace-is)
trace_in-is w t (suc n) = subst IsTrace (sym (trace_in-suc w t n)) (all_changed-keeps (suc n) (trace_in w t n) (turn_in w t (suc n)).changes (trace_in-is w t n))

-- ---- the methods of the live activations

-- the method of the activation with this number
abbrev pub method_at : List Activation → ℕ → ℕ
method_at activations number = option_map_or (λ (a : Activation). a.method) (slice_get activations number) 0

abbrev pub live_methods : Trace → List ℕ
live_methods t = map (method_at t.activations) t.live

methods-push : (activations : List Activation) (a : Activation) (live : List ℕ) → AreLive activations live → map (method_at (activations ++ a ∷ [])) live ≡ map (method_at activations) live
methods-push activations a [] are = refl
methods-push activations a (number ∷ rest) are = ap₂ ◌∷◌
    (ap (λ o. option_map_or (λ (b : Activation). b.method) o 0) (slice_get-append_left activations (a ∷ []) number (slice_get_within activations number are.0.activation are.0.found)))
    (methods-push activations a rest are.1)

method_at-set : (activations : List Activation) (number : ℕ) (a : Activation) (step other : ℕ) → slice_get activations number ≡ Some a
    → method_at (slice_set activations number (ended_in step a)) other ≡ method_at activations other
method_at-set [] number a step other found = refl
method_at-set (b ∷ rest) zero a step zero found = ap (λ (x : Activation). x.method) (sym (same_Some b a found))
method_at-set (b ∷ rest) zero a step (suc other) found = refl
method_at-set (b ∷ rest) (suc number) a step zero found = refl
method_at-set (b ∷ rest) (suc number) a step (suc other) found = method_at-set rest number a step other found

methods-set : (activations : List Activation) (number : ℕ) (a : Activation) (step : ℕ) → slice_get activations number ≡ Some a
    → (live : List ℕ) → map (method_at (slice_set activations number (ended_in step a))) live ≡ map (method_at activations) live
methods-set activations number a step found [] = refl
methods-set activations number a step found (other ∷ rest) = ap₂ ◌∷◌ (method_at-set activations number a step other found) (methods-set activations number a step found rest)

-- the begin of an activation puts its method on top
begin-methods : (step method : ℕ) (t : Trace) → IsTrace t → live_methods (with_begin step method t) ≡ method ∷ live_methods t
begin-methods step method t is =
    let a : Activation = record { method = method; parent = current t.live; begin = step; «end» = None } in
    ap₂ ◌∷◌ (ap (λ o. option_map_or (λ (b : Activation). b.method) o 0) (slice_get_at t.activations a [])) (methods-push t.activations a t.live is)

-- the end of the current one takes its method off
end-methods : (step : ℕ) (t : Trace) → IsTrace t → live_methods (with_end step t) ≡ without_first (live_methods t)
end-methods step t is = ends t.live refl is where
  ends : (live : List ℕ) → t.live ≡ live → AreLive t.activations live → live_methods (without_current step live t) ≡ without_first (map (method_at t.activations) live)
  ends [] e are = ap (map (method_at t.activations)) e
  ends (number ∷ rest) e are =
      ap (λ (activations : List Activation). map (method_at activations) rest) (ended_at-found step number t.activations are.0.activation are.0.found)
      ∙ methods-set t.activations number are.0.activation step are.0.found rest

pub changed-methods : (step : ℕ) (t : Trace) (c : Change) → IsTrace t → live_methods (trace_changed step t c) ≡ methods_after_change (live_methods t) c
changed-methods step t (Loads classes) is = refl
changed-methods step t (Began method) is = begin-methods step method t is
changed-methods step t Left is = end-methods step t is
changed-methods step t Unwound is = end-methods step t is

-- The methods of the live activations are changed as told.
pub all_changed-methods : (step : ℕ) (t : Trace) (changes : List Change) → IsTrace t → live_methods (all_changed step t changes) ≡ methods_after_changes (live_methods t) changes
all_changed-methods step t [] is = refl
all_changed-methods step t (c ∷ more) is =
    all_changed-methods step (trace_changed step t c) more (changed-keeps step t c is) ∙ ap (λ ms. methods_after_changes ms more) (changed-methods step t c is)

-- That frames are changed as told, at the start and in each step over a listing.
pub record FramesFollow (w : World) (t : Listing) : Type 0 where
  pub starts : methods (start w t).after.stack ≡ methods_after_changes [] (start w t).changes
  pub steps : (s : State) → methods (step w t s).after.stack ≡ methods_after_changes (methods s.stack) (step w t s).changes

-- Then the live activations are the frames, one for one, each of its frame's method.
pub live-follow : (w : World) (t : Listing) → FramesFollow w t → (n : ℕ) → live_methods (trace_in w t n) ≡ methods (turn_in w t n).after.stack
live-follow w t follow zero =
    ap live_methods (trace_in-zero w t)
    ∙ (all_changed-methods 0 no_trace (turn_in w t 0).changes no_trace-is
    ∙ subst (λ first. methods_after_changes [] first.changes ≡ methods first.after.stack) (sym (turn_in-zero w t)) (sym follow.starts))
live-follow w t follow (suc n) =
    ap live_methods (trace_in-suc w t n)
    ∙ (all_changed-methods (suc n) (trace_in w t n) (turn_in w t (suc n)).changes (trace_in-is w t n)
    ∙ (ap (λ ms. methods_after_changes ms (turn_in w t (suc n)).changes) (live-follow w t follow n)
    ∙ subst (λ next. methods_after_changes (methods (turn_in w t n).after.stack) next.changes ≡ methods next.after.stack) (sym (turn_in-suc w t n)) (sym (follow.steps (turn_in w t n).after))))

-- ---- what is told of an end
