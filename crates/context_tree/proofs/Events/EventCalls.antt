-- An event that is no entry makes no call more, in any profile.
use Rattle.std.proofs.Common.{◌≡◌, ℕ, ◌+◌, ◌-◌, ◌≤◌, Bool, true, false, List, [], ◌∷◌, map, sum_by, if◌then◌else◌, refl, sym, ap, ap₂, ◌∙◌, arith}
use Rattle.std.proofs.lemmas.List.Sums.{sum_by-cons}
use Rattle.jvm_model.specs.declared.event.Event.{Event}
use Rattle.jvm_model.specs.declared.event.EventKind.{EventKind}
use Rattle.jvm_model.specs.declared.event.EventKind.TheVariants.{Root, Enter, Leave, Unwind}
use Rattle.jvm_model.specs.Profiling.Paths.{Context}
use Rattle.jvm_model.specs.Profiling.EventLists.{entries_by}
use Rattle.context_tree.specs.Profiles.{Profile, has_path, with_own, steps_credited, event_told, event_taken, calls_of}

with_own-calls : (path : List ℕ) (steps : ℕ) (c : Context) → (with_own path steps c).calls ≡ c.calls
with_own-calls path steps c = by (has_path path c) where
  by : (b : Bool) → (if b then record c { own = c.own + steps } else c).calls ≡ c.calls
  by true = refl
  by false = refl

calls-credited : (path : List ℕ) (steps : ℕ) (cs : List Context) → sum_by (λ (c : Context). c.calls) (map (with_own path steps) cs) ≡ sum_by (λ (c : Context). c.calls) cs
calls-credited path steps [] = refl
calls-credited path steps (c ∷ cs) =
    sum_by-cons (λ (x : Context). x.calls) (with_own path steps c) (map (with_own path steps) cs)
    ∙ (ap₂ ◌+◌ (with_own-calls path steps c) (calls-credited path steps cs) ∙ sym (sum_by-cons (λ (x : Context). x.calls) c cs))

pub calls_of-credited : (clock : ℕ) (p : Profile) → calls_of (steps_credited clock p) ≡ calls_of p
calls_of-credited clock p = calls-credited p.open (clock - p.clock) p.contexts

-- What a tree says of its calls after an event, by the event's kind.
pub calls_of-taken : (p q : Profile) (e : Event) → q ≡ event_taken p e → calls_of q ≤ calls_of p + 1 → calls_of q ≤ calls_of p + entries_by e.kind
calls_of-taken p q e is le = by e.kind (ap calls_of is) where
  by : (k : EventKind) → calls_of q ≡ calls_of (event_told k e.method (steps_credited e.clock p)) → calls_of q ≤ calls_of p + entries_by k
  by Root same = omega (arith, le)
  by Enter same = omega (arith, le)
  by Leave same = omega (arith, same, calls_of-credited e.clock p)
  by Unwind same = omega (arith, same, calls_of-credited e.clock p)
