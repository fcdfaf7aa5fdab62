-- Steps that tell nothing change nothing but the clock.
use Rattle.std.proofs.Common.{◌≡◌, ℕ, zero, suc, ◌+◌, Bool, true, false, not, ◌&&◌, ◌||◌, ◌==◌, List, [], ◌∷◌, ◌++◌, if◌then◌else◌, refl, sym, ap, ap₂, subst, ◌∙◌}
use Rattle.std.specs.Prelude.{fold, filter}
use Rattle.std.specs.List.{list_any, enumerate_from}
use Rattle.std.proofs.lemmas.List.{append-nil}
use Rattle.std.proofs.Math.Bool.{and-false}
use Rattle.jvm_model.specs.declared.event.Act.{Act}
use Rattle.jvm_model.specs.declared.event.Event.{Event}
use Rattle.jvm_model.specs.declared.program.MethodPlace.{MethodPlace}
use Rattle.jvm_model.specs.declared.program.Program.{Program}
use Rattle.jvm_model.specs.Basis.Data.{World}
use Rattle.jvm_model.specs.declared.instruction.Local.{Local}
use Rattle.jvm_model.specs.declared.instruction.Operation.{Operation}
use Rattle.jvm_model.specs.Profiling.EventLists.{Marking, step_events}
use Rattle.jvm_model.specs.Profiling.Paths.{is_inside}
use Rattle.jvm_model.specs.Running.Run.{turn}
use Rattle.jvm_machine.specs.Several.{Passes, none, more}
use Rattle.jvm_machine.specs.Turns.{Settles}
use Rattle.jvm_machine.specs.View.{View, clock_advanced, step_begun, is_resting, loads_next, next_stop, step_rested}
use Rattle.jvm_model.specs.Soundness.Whole.{IsWhole}
use Rattle.jvm_model.specs.Soundness.Calls.{AreFrom, loads_of}
use Rattle.jvm_model.specs.Profiling.Points.{Standing, acts_at, acts_behind, methods_selected, is_empty, mark_in, marking_of}
use Rattle.context_tree.specs.Seen.{Seen, first_seen, seen_act, seen_acts, seen_before, seen_before-zero, seen_before-suc, seen_end, seen_event, seen_load}
use Rattle.jvm_model.specs.Profiling.Swaps.{differs, same_mark}
use Rattle.jvm_model.specs.Profiling.Targets.{operations_of}
use Rattle.jvm_model.specs.Profiling.Revealed.{Revealed, changed_of, stand_of}
use Rattle.call_revelation.proofs.Revelations.Shown.{same-itself}
use Rattle.profile_session.specs.Keeping.{Kept, at_point, is_idle, kept_before, kept_end, marks_seen, methods_revealed, swapped_now}
use Rattle.profile_session.specs.Standing.{AtRest}
use Rattle.profile_session.proofs.Points.Joins.{kept-seen}
use Rattle.profile_session.proofs.Turns.Steps.{begins, settles}

-- ---- where nothing has changed no class is swapped

no-difference : (p : Program) (code : ℕ → List (Operation Local)) (s : Standing) (class : ℕ) → differs p code s s class ≡ false
no-difference p code s class = by (enumerate_from 0 p.methods) where
  by : (l : List (ℕ × MethodPlace)) → list_any (λ (e : ℕ × MethodPlace). e.1.class == class && not (same_mark (mark_in p code s e.0) (mark_in p code s e.0))) l ≡ false
  by [] = refl
  by (e ∷ l) = ap₂ (λ a b. a || b) (ap (λ b. e.1.class == class && not b) (same-itself (mark_in p code s e.0)) ∙ and-false (e.1.class == class)) (by l)

none-filtered : (test : ℕ → Bool) → ((n : ℕ) → test n ≡ false) → (l : List ℕ) → filter test l ≡ []
none-filtered test never [] = refl
none-filtered test never (n ∷ l) = ap (λ b. if b then n ∷ filter test l else filter test l) (never n) ∙ none-filtered test never l

pub none-changed : (p : Program) (r : Revealed) → changed_of p r r ≡ []
none-changed p r = none-filtered (differs p (operations_of p) (stand_of r) (stand_of r)) (no-difference p (operations_of p) (stand_of r)) r.loaded

-- ---- where nothing is selected and no path is open, nothing is entered

abbrev Idles : Seen → Type 0
Idles s = is_idle s ≡ true → s.entered ≡ []

end-idles : (s : Seen) → Idles (seen_end s)
end-idles s = by (is_empty s.selected && not (is_inside s.open)) refl where
  by : (b : Bool) → is_idle s ≡ b → Idles (if b then record s { entered = [] } else s)
  by true e = λ idle. refl
  by false e = λ idle. absurd (let h : false ≡ true = sym e ∙ idle in cc)

acts-idle : (acts : List Act) (s : Seen) → Idles s → Idles (seen_acts s acts)
acts-idle [] s is = is
acts-idle (act ∷ rest) s is = acts-idle rest (seen_act s act) (end-idles (record s { selected = methods_selected act s.selected }))

pub before-idle : (acts : List Act) (w : World) (marking : Marking) (n : ℕ) → Idles (seen_before acts w marking n)
before-idle acts w marking zero = subst Idles (sym (seen_before-zero acts w marking)) (acts-idle (acts_at 0 acts) (first_seen w) (λ idle. refl))
before-idle acts w marking (suc n) =
    subst Idles (sym (seen_before-suc acts w marking n))
    (acts-idle (acts_behind n acts) (seen_end (fold seen_event (seen_load (seen_before acts w marking n) (loads_of (turn w n).changes)) (step_events marking w n)))
    (end-idles (fold seen_event (seen_load (seen_before acts w marking n) (loads_of (turn w n).changes)) (step_events marking w n))))

end-same : (p : Program) (clock : ℕ) (k : Kept) → Idles k.seen → kept_end p clock k ≡ k
end-same p clock k idles = by (is_idle k.seen) refl where
  by : (b : Bool) → is_idle k.seen ≡ b → (let r : Kept = if b then at_point p clock k (record k.seen { entered = [] }) else k in r) ≡ k
  by false e = refl
  by true e =
      ap (λ l. at_point p clock k (record k.seen { entered = l })) (sym (idles e))
      ∙ ap (λ l. let r : Kept = record k { swaps = l } in r) (ap (λ l. k.swaps ++ swapped_now p clock (methods_revealed k.seen) l) (none-changed p (methods_revealed k.seen)) ∙ append-nil k.swaps)

pub before-ended : (acts : List Act) (w : World) (clock n : ℕ) (k : Kept) → k ≡ kept_before acts w n → kept_end w.program clock k ≡ k
before-ended acts w clock n k e = end-same w.program clock k (subst Idles (sym (ap (λ (k : Kept). k.seen) e ∙ kept-seen acts w (marking_of acts w) n)) (before-idle acts w (marking_of acts w) n))

module _ (w : World) (is : IsWhole w.program) (acts : List Act) (from : AreFrom 0 acts) where
  begun-is : (v : View) → is_resting v ≡ true → step_begun v ≡ clock_advanced v
  begun-is v e = ap (λ b. let r : View = if b then clock_advanced v else v in r) e

  -- a step that is settled by one turn
  pub passes : (es : List Event) (k : Kept) (old new : View) → AtRest acts w es k old → Settles old new → AtRest acts w es k new
  passes es k old new r s =
      let at = begun-is old r.resting in
      let in_step = begins w is acts from es k old r s.went_on (ap loads_next (sym at) ∙ s.loads) in
      let v : View = clock_advanced old in
      let same : kept_end w.program v.clock k ≡ k = before-ended acts w v.clock (if old.started then old.clock + 1 else 0) k r.kept in
      let stepped : new ≡ step_rested v = s.stepped ∙ ap (λ (v : View). let r : View = step_rested v in r) at in
      let marked : old.marks ≡ marks_seen w.program (kept_end w.program v.clock k).seen = r.marks ∙ ap (λ (k : Kept). marks_seen w.program k.seen) (sym same) in
      subst (λ k. AtRest acts w es k new) same
      (settles w is acts from es k v in_step (ap (λ v. (next_stop v).due) (sym at) ∙ s.all) new
      (stepped ∙ ap (λ l. let r : View = record (step_rested v) { marks = l } in r) marked))

  pub all-pass : (es : List Event) (k : Kept) (old : View) (n : ℕ) (new : View) → Passes old n new → AtRest acts w es k old → AtRest acts w es k new
  all-pass es k old _ _ none r = r
  all-pass es k old _ _ (more n mid new before s) r = passes es k mid new (all-pass es k old n mid before r) s
