-- The activations of a run (JVM Specification 2.6): which method was invoked by which activation, in which step it
-- began, and in which it ended. The changes of each step are folded, one after another.
use Rattle.std.specs.Prelude.{◌≡◌, ℕ, zero, suc, List, [], ◌∷◌, ◌++◌, length, Option, Some, None, refl, slice_get, slice_set}
use Rattle.std.specs.Option.{option_map_or}
use Rattle.jvm_model.specs.Basis.Data.{Change, Loads, Began, Left, Unwound, Listing, World}
use Rattle.jvm_model.specs.Running.Run.{turn_in}
use Rattle.jvm_model.specs.Codes.Originals.{original}

-- An activation: its method, the number of the activation that invoked it, the step in which it began, and the step in
-- which it ended, if it has.
pub record Activation : Type 0 where
  pub method : ℕ
  pub parent : Option ℕ
  pub begin : ℕ
  pub «end» : Option ℕ

-- All activations so far, in order of begin, which numbers them; and the numbers of the live ones, the current one
-- first.
pub record Trace : Type 0 where
  pub activations : List Activation
  pub live : List ℕ

abbrev pub no_trace : Trace
no_trace = record { activations = []; live = [] }

-- the current one, if there is one
abbrev pub current : List ℕ → Option ℕ
current [] = None
current (a ∷ rest) = Some a

-- an activation of the method begins in a step
abbrev pub with_begin : ℕ → ℕ → Trace → Trace
with_begin step method t = record {
  activations = t.activations ++ record { method = method; parent = current t.live; begin = step; «end» = None } ∷ [];
  live = length t.activations ∷ t.live;
}

-- the current activation ends in a step
abbrev pub ended_at : ℕ → ℕ → List Activation → List Activation
ended_at step a activations = option_map_or (λ (activation : Activation). slice_set activations a (record activation { «end» = Some step })) (slice_get activations a) activations

abbrev pub without_current : ℕ → List ℕ → Trace → Trace
without_current step [] t = t
without_current step (a ∷ rest) t = record { activations = ended_at step a t.activations; live = rest }

abbrev pub with_end : ℕ → Trace → Trace
with_end step t = without_current step t.live t

-- ---- what a step does to them

abbrev pub trace_changed : ℕ → Trace → Change → Trace
trace_changed step t (Loads classes) = t
trace_changed step t (Began method) = with_begin step method t
trace_changed step t Left = with_end step t
trace_changed step t Unwound = with_end step t

abbrev pub all_changed : ℕ → Trace → List Change → Trace
all_changed step t [] = t
all_changed step t (c ∷ more) = all_changed step (trace_changed step t c) more

-- the activations after so many steps over a listing; the start is step 0
unfoldable pub trace_in : World → Listing → ℕ → Trace
trace_in w t zero = all_changed 0 no_trace (turn_in w t 0).changes
trace_in w t (suc n) = all_changed (suc n) (trace_in w t n) (turn_in w t (suc n)).changes

abbrev pub trace : World → ℕ → Trace
trace w n = trace_in w (original w.program) n

-- those before a step
abbrev pub trace_before : World → ℕ → Trace
trace_before w zero = no_trace
trace_before w (suc n) = trace w n

-- ---- how they go on: all that is needed of the recursion

pub trace_in-zero : (w : World) (t : Listing) → trace_in w t 0 ≡ all_changed 0 no_trace (turn_in w t 0).changes
unfolding trace_in
trace_in-zero w t = refl

pub trace_in-suc : (w : World) (t : Listing) (n : ℕ) → trace_in w t (suc n) ≡ all_changed (suc n) (trace_in w t n) (turn_in w t (suc n)).changes
unfolding trace_in
trace_in-suc w t n = refl
