-- How many entries are told: as many at most as activations begin, so one a step at most.
use Rattle.std.proofs.Common.{◌≡◌, ℕ, zero, suc, ◌+◌, ◌≤◌, List, [], ◌∷◌, ◌++◌, Option, Some, None, ap, arith}
use Rattle.std.specs.Option.{option_map_or}
use Rattle.jvm_model.specs.declared.event.Event.{Event}
use Rattle.jvm_model.specs.declared.event.EventKind.{EventKind}
use Rattle.jvm_model.specs.declared.event.EventKind.TheVariants as kind
use Rattle.jvm_model.specs.declared.event.Mark.{Mark}
use Rattle.jvm_model.specs.declared.event.Mark.TheVariants.{Off, Plain, Root}
use Rattle.jvm_model.specs.Basis.Data.{World, Change, Loads, Began, Left, Unwound}
use Rattle.jvm_model.specs.Running.Run.{turn}
use Rattle.jvm_model.specs.Codes.Originals.{original}
use Rattle.jvm_model.specs.Running.Changes.{begun_count}
use Rattle.jvm_model.specs.Profiling.Activations.{Activation, Trace, trace_changed, trace_before}
use Rattle.jvm_model.specs.Profiling.EventLists.{Marking, begin_events, end_events, current_activation, end_of, events_told, all_told, step_events, events_of, events_of-zero, events_of-suc, entries_by, entries}
use Rattle.jvm_model.proofs.Events.Order.{run-begins}

pub entries-append : (xs ys : List Event) → entries (xs ++ ys) ≡ entries xs + entries ys
entries-append [] ys = omega arith
entries-append (e ∷ xs) ys = omega (arith, entries-append xs ys)

begin-entries : (step method : ℕ) (mark : Mark) → entries (begin_events step method mark) ≤ 1
begin-entries step method Root = omega arith
begin-entries step method Plain = omega arith
begin-entries step method Off = omega arith

end-entries : (k : EventKind) → entries_by k ≡ 0 → (step method : ℕ) (mark : Mark) → entries (end_events k step method mark) ≡ 0
end-entries k none step method Root = omega (arith, none)
end-entries k none step method Plain = omega (arith, none)
end-entries k none step method Off = omega arith

end_of-entries : (marking : Marking) (k : EventKind) → entries_by k ≡ 0 → (step : ℕ) (t : Trace) → entries (end_of marking k step t) ≡ 0
end_of-entries marking k none step t = by (current_activation t) where
  by : (found : Option Activation) → entries (option_map_or (λ (a : Activation). end_events k step a.method (marking a.begin a.method)) found []) ≡ 0
  by None = omega arith
  by (Some a) = end-entries k none step a.method (marking a.begin a.method)

pub all_told-entries : (marking : Marking) (step : ℕ) (t : Trace) (changes : List Change) → entries (all_told marking step t changes) ≤ begun_count changes
all_told-entries marking step t [] = omega arith
all_told-entries marking step t (Loads classes ∷ more) = all_told-entries marking step t more
all_told-entries marking step t (Began method ∷ more) =
    let next = trace_changed step t (Began method) in
    omega (arith, entries-append (events_told marking step t (Began method)) (all_told marking step next more), begin-entries step method (marking step method), all_told-entries marking step next more)
all_told-entries marking step t (Left ∷ more) =
    let next = trace_changed step t Left in
    omega (arith, entries-append (events_told marking step t Left) (all_told marking step next more), end_of-entries marking kind.Leave (omega arith) step t, all_told-entries marking step next more)
all_told-entries marking step t (Unwound ∷ more) =
    let next = trace_changed step t Unwound in
    omega (arith, entries-append (events_told marking step t Unwound) (all_told marking step next more), end_of-entries marking kind.Unwind (omega arith) step t, all_told-entries marking step next more)

-- one a step at most
pub step_events-entries : (marking : Marking) (w : World) (n : ℕ) → entries (step_events marking w n) ≤ 1
step_events-entries marking w n = omega (arith, all_told-entries marking n (trace_before w n) (turn w n).changes, run-begins w (original w.program) n)

-- and so at most one more than steps
pub events_of-entries : (marking : Marking) (w : World) (n : ℕ) → entries (events_of marking w n) ≤ suc n
events_of-entries marking w zero = omega (arith, ap entries (events_of-zero marking w), step_events-entries marking w 0)
events_of-entries marking w (suc n) = omega (
  arith,
  ap entries (events_of-suc marking w n),
  entries-append (events_of marking w n) (step_events marking w (suc n)),
  events_of-entries marking w n,
  step_events-entries marking w (suc n),
)
