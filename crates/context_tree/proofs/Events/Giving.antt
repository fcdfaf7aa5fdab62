-- An event's change of the open path and the steps before it may be told in either order.
use Rattle.std.proofs.Common.{◌≡◌, ℕ, ◌+◌, ◌-◌, Bool, true, false, ◌||◌, List, [], ◌∷◌, ◌++◌, refl, ap, sym, ◌∙◌, map, if◌then◌else◌}
use Rattle.std.specs.List.{list_any}
use Rattle.std.proofs.lemmas.List.{map-append}
use Rattle.jvm_model.specs.declared.event.EventKind.{EventKind}
use Rattle.jvm_model.specs.declared.event.EventKind.TheVariants.{Root, Enter, Leave, Unwind}
use Rattle.jvm_model.specs.Profiling.Paths.{Context, same_path, is_outside}
use Rattle.context_tree.specs.Profiles.{Profile, has_path, with_own, with_call, call_begun, path_opened, event_told, steps_credited}
use Rattle.context_tree.proofs.Paths.SamePaths.{path-goes_on}

-- the steps since the last clock were made in this path
abbrev pub credited_in : List ℕ → ℕ → Profile → Profile
credited_in path clock p = record p { contexts = map (with_own path (clock - p.clock)) p.contexts; clock = clock }

path-with_own : (P : List ℕ) (s : ℕ) (c : Context) → (with_own P s c).path ≡ c.path
path-with_own P s c = by (has_path P c)
  where
    by : (b : Bool) → (if b then record c { own = c.own + s } else c).path ≡ c.path
    by true = refl
    by false = refl

list_any-with_own : (path P : List ℕ) (s : ℕ) (cs : List Context) → list_any (has_path path) (map (with_own P s) cs) ≡ list_any (has_path path) cs
list_any-with_own path P s [] = refl
list_any-with_own path P s (c ∷ cs) =
    ap (λ q. same_path path q || list_any (has_path path) (map (with_own P s) cs)) (path-with_own P s c) ∙ ap (λ b. same_path path c.path || b) (list_any-with_own path P s cs)

-- a call and steps of one context
both : (a b : Bool) (s : ℕ) (c : Context)
    → (if a then record (if b then record c { own = c.own + s } else c) { calls = (if b then record c { own = c.own + s } else c).calls + 1 } else (if b then record c { own = c.own + s } else c))
    ≡ (if b then record (if a then record c { calls = c.calls + 1 } else c) { own = (if a then record c { calls = c.calls + 1 } else c).own + s } else (if a then record c { calls = c.calls + 1 } else c))
both true true s c = refl
both true false s c = refl
both false true s c = refl
both false false s c = refl

call_and_own : (path P : List ℕ) (s : ℕ) (c : Context) → with_call path (with_own P s c) ≡ with_own P s (with_call path c)
call_and_own path P s c =
    ap (λ q. if same_path path q then record (with_own P s c) { calls = (with_own P s c).calls + 1 } else with_own P s c) (path-with_own P s c)
    ∙ both (has_path path c) (has_path P c) s c
    ∙ sym (ap (λ q. if same_path P q then record (with_call path c) { own = (with_call path c).own + s } else with_call path c) (path-with_call (has_path path c)))
  where
    path-with_call : (b : Bool) → (if b then record c { calls = c.calls + 1 } else c).path ≡ c.path
    path-with_call true = refl
    path-with_call false = refl

calls_and_own : (path P : List ℕ) (s : ℕ) (cs : List Context) → map (with_call path) (map (with_own P s) cs) ≡ map (with_own P s) (map (with_call path) cs)
calls_and_own path P s [] = refl
calls_and_own path P s (c ∷ cs) =
    ap (λ d. d ∷ map (with_call path) (map (with_own P s) cs)) (call_and_own path P s c) ∙ ap (λ l. with_own P s (with_call path c) ∷ l) (calls_and_own path P s cs)

call_begun-with_own : (path P : List ℕ) (s : ℕ) (cs : List Context) → same_path P path ≡ false → call_begun path (map (with_own P s) cs) ≡ map (with_own P s) (call_begun path cs)
call_begun-with_own path P s cs h =
    ap (λ b. if b then map (with_call path) (map (with_own P s) cs) else map (with_own P s) cs ++ new ∷ []) (list_any-with_own path P s cs) ∙ by (list_any (has_path path) cs)
  where
    new : Context
    new = record { path = path; calls = 1; own = 0 }

    by : (b : Bool) → (if b then map (with_call path) (map (with_own P s) cs) else map (with_own P s) cs ++ new ∷ []) ≡ map (with_own P s) (if b then map (with_call path) cs else cs ++ new ∷ [])
    by true = calls_and_own path P s cs
    by false =
        ap (λ c. map (with_own P s) cs ++ c ∷ []) (sym (ap (λ b. if b then record new { own = 0 + s } else new) h)) ∙ sym (map-append (with_own P s) cs (new ∷ []))

opened-credited : (method clock : ℕ) (p : Profile) → path_opened method (steps_credited clock p) ≡ credited_in p.open clock (path_opened method p)
opened-credited method clock p =
    ap (λ (l : List Context). record { contexts = l; «open» = p.open ++ method ∷ []; clock = clock })
    (call_begun-with_own (p.open ++ method ∷ []) p.open (clock - p.clock) p.contexts (path-goes_on p.open method))

pub told-credited : (kind : EventKind) (method clock : ℕ) (p : Profile) → event_told kind method (steps_credited clock p) ≡ credited_in p.open clock (event_told kind method p)
told-credited Root method clock p = opened-credited method clock p
told-credited Enter method clock p = by (is_outside p.open)
  where
    by : (b : Bool) → (if b then steps_credited clock p else path_opened method (steps_credited clock p)) ≡ credited_in p.open clock (if b then p else path_opened method p)
    by true = refl
    by false = opened-credited method clock p
told-credited Leave method clock p = refl
told-credited Unwind method clock p = refl
