-- Which marks an event of a revelation can change: so that it looks at these methods alone.
use Rattle.std.proofs.Common.{◌≡◌, ℕ, Bool, true, false, List, [], ◌∷◌, ◌++◌, if◌then◌else◌, refl, ap, ◌∙◌, inl, inr}
use Rattle.std.specs.Prelude.{◌==◌, ◌||◌, ◌⊎◌}
use Rattle.std.specs.List.{list_any}
use Rattle.std.proofs.lemmas.Bool.{false≢true}
use Rattle.jvm_model.specs.declared.event.Act.{Act}
use Rattle.jvm_model.specs.declared.event.Mark.TheVariants.{Off, Plain, Root}
use Rattle.jvm_model.specs.Basis.Data.{Program, Local, Operation}
use Rattle.jvm_model.specs.Classes.Load.{is_among}
use Rattle.jvm_model.specs.Soundness.Sound.{HasSupertypes}
use Rattle.jvm_model.proofs.Revealing.Gained.{gained-targets, targets-gain}
use Rattle.jvm_model.proofs.Revealing.Growing.{targets-grow}
use Rattle.jvm_model.proofs.Events.Marked.{among-chosen}
use Rattle.jvm_model.proofs.Loading.Among.{or-exchanged}
use Rattle.jvm_model.specs.Profiling.Points.{Standing, methods_selected, has_class, is_target, mark_in, with_entered}
use Rattle.jvm_model.specs.Profiling.Revelation.{gained_in}
use Rattle.jvm_model.specs.Profiling.Targets.{targets_in}

module _ (p : Program) (code : ℕ → List (Operation Local)) where
  -- an action changes the mark of its own method alone
  pub act-changes : (s : Standing) (act : Act) (m : ℕ) → (act.method == m) ≡ false → mark_in p code (record s { selected = methods_selected act s.selected }) m ≡ mark_in p code s m
  act-changes s act m other =
      let same : is_among m (methods_selected act s.selected) ≡ is_among m s.selected = among-chosen act s.selected m ∙ ap (λ b. if b then act.select else is_among m s.selected) other in
      ap (λ b. if has_class p s.loaded m then (if b then Root else if is_target p code s.loaded s.entered m then Plain else Off) else Off) same

  -- a method that is entered changes the marks of its targets alone, and where it was entered before, none
  pub enter-changes : (s : Standing) (method m : ℕ) → is_among m (targets_in p s.loaded (code method)) ≡ false
      → mark_in p code (record s { entered = with_entered method s.entered }) m ≡ mark_in p code s m
  enter-changes s method m none = by (is_among method s.entered)
    where
      by : (b : Bool) → mark_in p code (record s { entered = if b then s.entered else method ∷ s.entered }) m ≡ mark_in p code s m
      by true = refl
      by false =
          ap (λ b. if has_class p s.loaded m then (if is_among m s.selected then Root else if b || is_target p code s.loaded s.entered m then Plain else Off) else Off) none

  -- ---- one class more

  -- gained by an entered method
  abbrev pub is_gained : List ℕ → ℕ → List ℕ → ℕ → Bool
  is_gained loaded new entered m = list_any (λ caller. is_among m (gained_in p loaded new (code caller))) entered

  module _ (loaded : List ℕ) (new : ℕ) (above : HasSupertypes p loaded) (fresh : is_among new loaded ≡ false) (m : ℕ) where
    -- of two tests, one is what either of two others is
    both-ways : (a b c : Bool) → (c ≡ true → (a ≡ true) ⊎ (b ≡ true)) → (a ≡ true → c ≡ true) → (b ≡ true → c ≡ true) → c ≡ (a || b)
    both-ways true b c split first second = first refl
    both-ways false true c split first second = second refl
    both-ways false false true split first second = elim (split refl) [ inl e ↦ absurd (false≢true e) | inr e ↦ absurd (false≢true e) ]
    both-ways false false false split first second = refl

    one-caller : (operations : List (Operation Local))
        → is_among m (targets_in p (loaded ++ new ∷ []) operations) ≡ (is_among m (targets_in p loaded operations) || is_among m (gained_in p loaded new operations))
    one-caller operations =
        both-ways (is_among m (targets_in p loaded operations)) (is_among m (gained_in p loaded new operations)) (is_among m (targets_in p (loaded ++ new ∷ []) operations))
        (targets-gain p loaded new above fresh operations m) (targets-grow p loaded (new ∷ []) operations m) (gained-targets p loaded new above fresh operations m)

    -- The targets of what is entered are those before and those that are gained.
    pub load-targets : (entered : List ℕ) → is_target p code (loaded ++ new ∷ []) entered m ≡ (is_target p code loaded entered m || is_gained loaded new entered m)
    load-targets [] = refl
    load-targets (caller ∷ rest) =
        ap (λ b. b || is_target p code (loaded ++ new ∷ []) rest m) (one-caller (code caller))
        ∙ (ap (λ b. (is_among m (targets_in p loaded (code caller)) || is_among m (gained_in p loaded new (code caller))) || b) (load-targets rest)
        ∙ or-exchanged (is_among m (targets_in p loaded (code caller))) (is_among m (gained_in p loaded new (code caller))) (is_target p code loaded rest m) (is_gained loaded new rest m))
