-- A step that begins with an attempt stops at the first of its changes that is told.
use Rattle.std.proofs.Common.{◌+◌, length, arith, nat_lt, append-nil, append_assoc, ◌≡◌, ℕ, suc, Bool, true, false, List, [], ◌∷◌, ◌++◌, Option, Some, None, ◌==◌, ◌&&◌, if◌then◌else◌, refl, sym, ap, subst, ◌∙◌}
use Rattle.std.specs.Option.{IfSome, option_map_or}
use Rattle.std.proofs.lemmas.Bool.{and_parts}
use Rattle.jvm_model.specs.declared.event.EventKind.{EventKind}
use Rattle.jvm_model.specs.declared.event.EventKind.TheVariants as kind
use Rattle.jvm_model.specs.declared.event.Mark.{Mark}
use Rattle.jvm_model.specs.declared.event.Mark.TheVariants.{Off, Plain, Root}
use Rattle.jvm_model.specs.Rewriting.Images.{is_off}
use Rattle.jvm_model.specs.Basis.Data.{Datum, Locals, Operands, Shared, Local, Operation, Within, Return, Frame, Entry, Active, Initializing, Ending, State, Change, Began, Left, Unwound, Turn, Instruction, Outcome, GoesOn, Subroutine, Invokes, Returns, Throws, Raises, Initializes, Exits, Breaks, Done, Listing, World}
use Rattle.const_pool.specs.declared.descriptor.Kind.{Kind}
use Rattle.jvm_model.specs.Basis.Values.{datum_of}
use Rattle.jvm_model.specs.Instructions.LocalRules.{returns, returns_datum}
use Rattle.jvm_model.specs.Instructions.Does.{does, loads}
use Rattle.jvm_model.specs.Running.Applies.{breaks, still, applies, has_room, live_in, most_live}
use Rattle.jvm_model.specs.Running.Run.{starts, steps_on, steps_by, steps_at, with_classes_loaded, loaded_turn, attempt, has_no_changes, is_ready, is_going_on, goes_again}
use Rattle.jvm_model.specs.Basis.SharedState.{phase_of}
use Rattle.jvm_model.specs.Running.Moves.{move, then_turn, turn_settled}
use Rattle.jvm_model.specs.Turns.Told.{Held, frame_held, held_after, all_held, helds, mark_now}
use Rattle.jvm_model.specs.Turns.Rest.{classes_loaded_at, loads_on, step_loads, Attempt, Moves, rest, IsPart}
use Rattle.jvm_model.specs.Turns.Pauses.{later_of, end_due, Due, Nothing, Ends, Begins, unless_off, change_due, Stop, stop_by, stop_in, stop_from, Pause, step_paused, passed_by, stop_of, IsPaused, is_end, Unwinds}
use Rattle.jvm_model.specs.Turns.StepPauses.{ends_by, is_at_return, frame_pause, stack_pause, step_pause, is_return, leave_due, IsStepPaused, is_nothing, again_pause, pause_behind, turn_pause, instruction_attempted}
use Rattle.jvm_model.proofs.Events.Helds.{applies-tells, moves-tell}
use Rattle.jvm_model.proofs.Turns.Rests.{settled-still, nothing-left, no-part, move-part}
use Rattle.jvm_model.proofs.Turns.Pausing.{paused-is}

-- The pause on the way to a turn: of its changes, those before what is left.
pub record IsTurnPaused (w : World) (t : Listing) (v : ℕ → Mark) (told : Bool) (n : ℕ) (live : List Held) (x : Turn) (p : Pause) : Type 0 where
  pub changes : List Change
  pub same : x.after ≡ (rest w t Moves p.state).after
  pub tells : x.changes ≡ changes ++ (rest w t Moves p.state).changes
  pub count : p.passed ≡ passed_by n changes
  pub stops : stop_from (mark_now v t) told n live x.changes ≡ stop_of v p
  pub ends : p.due ≡ Nothing → move w t p.state ≡ None
  pub unwinds : is_end p.due ≡ true → Unwinds w t p.state
  pub later : later_of p.due ≡ Moves

-- what was told before is the end of the current activation, at a return; and nothing else is an end that is told
pub data MayTell (marks : ℕ → Mark) (live : List Held) : Bool → List Change → Type 0 where
  told_before : MayTell marks live true (Left ∷ [])
  silent : MayTell marks live false []
  begins : (c : Change) → change_due marks live c ≡ Begins → MayTell marks live false (c ∷ [])
  quiet : (c : Change) → change_due marks live c ≡ Nothing → MayTell marks live false (c ∷ [])

end-goes_on : (k : EventKind) (live : List Held) (begun later : Pause) → pause_behind (end_due k live) begun later ≡ later
end-goes_on k [] begun later = refl
end-goes_on k (h ∷ more) begun later = by h.mark where
  by : (m : Mark) → pause_behind (unless_off m (Ends k)) begun later ≡ later
  by Off = refl
  by Plain = refl
  by Root = refl

-- ---- counts of changes

passed_by-is : (n : ℕ) (changes : List Change) → passed_by n changes ≡ n + length changes
passed_by-is n [] = omega arith
passed_by-is n (c ∷ more) = let h = passed_by-is (suc n) more in omega arith

quiet-count : (n : ℕ) (changes : List Change) → has_no_changes changes ≡ (passed_by n changes == n)
quiet-count n [] = sym (grind (arith))
quiet-count n (c ∷ more) = sym (let h : passed_by n (c ∷ more) ≡ n + length (c ∷ more) = passed_by-is n (c ∷ more) in ap (λ k. k == n) h ∙ grind (arith))

-- where nothing has changed nothing is due
quiet-due : (marks : ℕ → Mark) (told : Bool) (n : ℕ) (live : List Held) (changes : List Change) → has_no_changes changes ≡ true → (stop_from marks told n live changes).due ≡ Nothing
quiet-due marks true n live [] e = refl
quiet-due marks false n live [] e = refl
quiet-due marks told n live (c ∷ more) e = absurd (let h : false ≡ true = e in cc)

quiet-empty : (changes : List Change) → has_no_changes changes ≡ true → changes ≡ []
quiet-empty [] e = refl
quiet-empty (c ∷ more) e = absurd (let h : false ≡ true = e in cc)

due-nothing : (d : Due) → is_nothing d ≡ true → d ≡ Nothing
due-nothing Nothing e = refl
due-nothing (Ends k) e = absurd (let h : false ≡ true = e in cc)
due-nothing Begins e = absurd (let h : false ≡ true = e in cc)

module _ (w : World) (t : Listing) (v : ℕ → Mark) where
  abbrev marks : ℕ → Mark
  marks = mark_now v t

  all-changes : (a : Turn) → (turn_settled w t a).changes ≡ a.changes ++ (rest w t Moves a.after).changes
  all-changes a = ap (λ (b : Turn). b.changes) (settled-still w t a)

  -- behind the changes of the instruction, and with what the pause of the moves behind it comes to
  turn-on : (told : Bool) (n : ℕ) (live : List Held) (after : State) (changes : List Change) (p : Pause)
      → stop_from marks told n live (changes ++ (rest w t Moves after).changes) ≡ stop_in marks (passed_by n changes) (helds v after.stack) (rest w t Moves after).changes
      → ((more : List Change) → passed_by (passed_by n changes) more ≡ passed_by n (changes ++ more))
      → IsPaused w t v (passed_by n changes) after p → IsTurnPaused w t v told n live (turn_settled w t (record { after = after; changes = changes })) p
  turn-on told n live after changes p goes counts is =
      let a : Turn = record { after = after; changes = changes } in
      record {
        changes = changes ++ is.changes;
        same = ap (λ (b : Turn). b.after) (settled-still w t a) ∙ is.part.same;
        tells = all-changes a ∙ (ap (λ cs. changes ++ cs) is.part.tells ∙ sym (append_assoc changes is.changes (rest w t Moves p.state).changes));
        count = is.count ∙ counts is.changes;
        stops = ap (stop_from marks told n live) (all-changes a) ∙ (goes ∙ is.stops);
        ends = is.ends;
        unwinds = is.unwinds;
        later = is.later;
      }

  turn-by : (told : Bool) (n : ℕ) (live : List Held) (after : State) (changes : List Change) → MayTell marks live told changes
      → helds v after.stack ≡ all_held marks live changes
      → IsTurnPaused w t v told n live (turn_settled w t (record { after = after; changes = changes })) (turn_pause w t v n live (record { after = after; changes = changes }))
  turn-by _ n live after _ told_before held =
      subst (IsTurnPaused w t v true n live (turn_settled w t (record { after = after; changes = Left ∷ [] }))) (sym (end-goes_on kind.Leave live (record { state = after; passed = suc n; due = Begins }) (step_paused w t v (suc n) after)))
      (turn-on true n live after (Left ∷ []) (step_paused w t v (suc n) after) (ap (λ l. stop_in marks (suc n) l (rest w t Moves after).changes) (sym held)) (λ more. refl) (paused-is w t v (suc n) after))
  turn-by _ n live after _ silent held =
      turn-on false n live after [] (step_paused w t v n after) (ap (λ l. stop_in marks n l (rest w t Moves after).changes) (sym held)) (λ more. refl) (paused-is w t v n after)
  turn-by _ n live after _ (quiet c due) held =
      let later : Stop = stop_in marks (suc n) (held_after marks live c) (rest w t Moves after).changes in
      subst (λ d. IsTurnPaused w t v false n live (turn_settled w t (record { after = after; changes = c ∷ [] })) (pause_behind d (record { state = after; passed = suc n; due = Begins }) (step_paused w t v (suc n) after))) (sym due)
      (turn-on false n live after (c ∷ []) (step_paused w t v (suc n) after)
      (ap (λ d. stop_by live (held_after marks live c) n d later) due ∙ ap (λ l. stop_in marks (suc n) l (rest w t Moves after).changes) (sym held)) (λ more. refl) (paused-is w t v (suc n) after))
  turn-by _ n live after _ (begins c due) held =
      let a : Turn = record { after = after; changes = c ∷ [] } in
      let later : Stop = stop_in marks (suc n) (held_after marks live c) (rest w t Moves after).changes in
      subst (λ d. IsTurnPaused w t v false n live (turn_settled w t a) (pause_behind d (record { state = after; passed = suc n; due = Begins }) (step_paused w t v (suc n) after))) (sym due)
      (record {
        changes = c ∷ [];
        same = ap (λ (b : Turn). b.after) (settled-still w t a);
        tells = all-changes a;
        count = refl;
        stops = ap (stop_in marks n live) (all-changes a) ∙ (ap (λ d. stop_by live (held_after marks live c) n d later) due
            ∙ ap (λ l. record { live = l; passed = suc n; due = Begins }) (sym held));
        ends = λ nothing. (let e : Begins ≡ Nothing = nothing in cc);
        unwinds = λ end. (let h : false ≡ true = end in cc);
        later = refl;
      })

  -- ---- what an instruction changes

  may-quiet : (live : List Held) (m : ℕ) (mark : Mark) → marks m ≡ mark → MayTell marks live false (Began m ∷ [])
  may-quiet live m Off e = quiet (Began m) (ap (λ k. unless_off k Begins) e)
  may-quiet live m Plain e = begins (Began m) (ap (λ k. unless_off k Begins) e)
  may-quiet live m Root e = begins (Began m) (ap (λ k. unless_off k Begins) e)

  may-choose : (live : List Held) (b : Bool) (x y : Turn) → MayTell marks live false x.changes → MayTell marks live false y.changes → MayTell marks live false (if b then x else y).changes
  may-choose live true x y p q = p
  may-choose live false x y p q = q

  may-leave : (live : List Held) (f : Frame) → is_off (v f.version) ≡ true → MayTell marks (frame_held v f ∷ live) false (Left ∷ [])
  may-leave live f off = quiet Left (ap (λ b. if b then Nothing else Ends kind.Leave) off)

  -- where no probe has told: nothing ends, or the version is an original
  may-tell : (i : Instruction) (outcome : Outcome) (s : State) (f : Frame) → (ends_by outcome ≡ true → is_off (v f.version) ≡ true)
      → MayTell marks (frame_held v f ∷ helds v s.stack) false (applies w t i outcome s f).changes
  may-tell i (GoesOn l o to) s f off = silent
  may-tell i Subroutine s f off = silent
  may-tell i (Invokes m args below) s f off =
      let live : List Held = frame_held v f ∷ helds v s.stack in
      may-choose live (has_room w m args) _ _ (may-choose live (nat_lt (suc (live_in s.stack)) most_live) _ _ (may-quiet live m (marks m) refl) silent) silent
  may-tell i (Returns d) s f off = may-leave (helds v s.stack) f (off refl)
  may-tell i (Throws r) s f off = silent
  may-tell i (Raises c message) s f off = silent
  may-tell i (Initializes c) s f off = silent
  may-tell i (Exits n) s f off = silent
  may-tell i (Breaks true) s f off = may-leave (helds v s.stack) f (off refl)
  may-tell i (Breaks false) s f off = silent

  -- where one has told, it ends
  has-told : (i : Instruction) (outcome : Outcome) (s : State) (f : Frame) → ends_by outcome ≡ true → MayTell marks (frame_held v f ∷ helds v s.stack) true (applies w t i outcome s f).changes
  has-told i (Returns d) s f e = told_before
  has-told i (Breaks true) s f e = told_before
  has-told i (Breaks false) s f e = absurd (let h : false ≡ true = e in cc)
  has-told i (GoesOn l o to) s f e = absurd (let h : false ≡ true = e in cc)
  has-told i Subroutine s f e = absurd (let h : false ≡ true = e in cc)
  has-told i (Invokes m args below) s f e = absurd (let h : false ≡ true = e in cc)
  has-told i (Throws r) s f e = absurd (let h : false ≡ true = e in cc)
  has-told i (Raises c message) s f e = absurd (let h : false ≡ true = e in cc)
  has-told i (Initializes c) s f e = absurd (let h : false ≡ true = e in cc)
  has-told i (Exits n) s f e = absurd (let h : false ≡ true = e in cc)

  attempted-held : (i : Instruction) (s : State) (f : Frame) → helds v (instruction_attempted w t i s f).after.stack ≡ all_held marks (frame_held v f ∷ helds v s.stack) (instruction_attempted w t i s f).changes
  attempted-held i s f =
      let d : Done = does w i.operation s.shared f.locals f.operands in
      applies-tells v w t i d.outcome (record s { shared = d.shared; output = s.output ++ d.wrote }) f

  attempt-paused : (told : Bool) (n : ℕ) (i : Instruction) (s : State) (f : Frame) → MayTell marks (frame_held v f ∷ helds v s.stack) told (instruction_attempted w t i s f).changes
      → IsTurnPaused w t v told n (frame_held v f ∷ helds v s.stack) (attempt w t i s f) (turn_pause w t v n (frame_held v f ∷ helds v s.stack) (instruction_attempted w t i s f))
  attempt-paused told n i s f may = turn-by told n (frame_held v f ∷ helds v s.stack) (instruction_attempted w t i s f).after (instruction_attempted w t i s f).changes may (attempted-held i s f)

  -- ---- once more

  -- where nothing is due, the state at the pause is the turn's, and its changes are those behind it
  at-end : (told : Bool) (n : ℕ) (live : List Held) (x : Turn) (p : Pause) (is : IsTurnPaused w t v told n live x p) → p.due ≡ Nothing → (x.after ≡ p.state) × (x.changes ≡ is.changes)
  at-end told n live x p is nothing =
      let none = nothing-left w t p.state (is.ends nothing) in (
        is.same ∙ ap (λ (a : Turn). a.after) none,
        is.tells ∙ (ap (λ (a : Turn). is.changes ++ a.changes) none ∙ append-nil is.changes),
      )

  again-test : (n : ℕ) (live : List Held) (c : ℕ) (x : Turn) (p : Pause) → IsTurnPaused w t v false n live x p → (d : Due) → p.due ≡ d
      → (has_no_changes x.changes && is_ready (phase_of x.after.shared c) && is_going_on x.after.ending x.after.thrown)
      ≡ (is_nothing d && p.passed == n && is_ready (phase_of p.state.shared c) && is_going_on p.state.ending p.state.thrown)
  again-test n live c x p is Nothing due =
      let end = at-end false n live x p is due in
      let same : has_no_changes x.changes ≡ (p.passed == n) = ap has_no_changes end.1 ∙ (quiet-count n is.changes ∙ ap (λ k. k == n) (sym is.count)) in
      ap (λ b. b && is_ready (phase_of x.after.shared c) && is_going_on x.after.ending x.after.thrown) same
      ∙ ap (λ (s : State). p.passed == n && is_ready (phase_of s.shared c) && is_going_on s.ending s.thrown) end.0
  again-test n live c x p is (Ends k) due = ap (λ b. b && is_ready (phase_of x.after.shared c) && is_going_on x.after.ending x.after.thrown) (busy is_q refl) where
    is_q : Bool
    is_q = has_no_changes x.changes

    busy : (b : Bool) → has_no_changes x.changes ≡ b → b ≡ false
    busy false e = refl
    busy true e = absurd (let h : Ends k ≡ Nothing = sym due ∙ (ap (λ (s : Stop). s.due) (sym is.stops) ∙ quiet-due marks false n live x.changes e) in cc)
  again-test n live c x p is Begins due = ap (λ b. b && is_ready (phase_of x.after.shared c) && is_going_on x.after.ending x.after.thrown) (busy is_q refl) where
    is_q : Bool
    is_q = has_no_changes x.changes

    busy : (b : Bool) → has_no_changes x.changes ≡ b → b ≡ false
    busy false e = refl
    busy true e = absurd (let h : Begins ≡ Nothing = sym due ∙ (ap (λ (s : Stop). s.due) (sym is.stops) ∙ quiet-due marks false n live x.changes e) in cc)

  chosen-paused : (n : ℕ) (live : List Held) (b d : Bool) → b ≡ d → (x y : Turn) (p q : Pause) → IsTurnPaused w t v false n live x p
      → (d ≡ true → IsTurnPaused w t v false n live y q) → IsTurnPaused w t v false n live (if b then y else x) (if d then q else p)
  chosen-paused n live true true e x y p q is second = second refl
  chosen-paused n live false false e x y p q is second = is
  chosen-paused n live true false e x y p q is second = absurd (let h : true ≡ false = e in cc)
  chosen-paused n live false true e x y p q is second = absurd (let h : false ≡ true = e in cc)

  turn-parts : (x : Turn) (s : State) → x.after ≡ s → x.changes ≡ [] → x ≡ still s
  turn-parts x s e f = ap (λ a. record { after = a; changes = x.changes }) e ∙ ap (λ cs. record { after = s; changes = cs }) f

  second-paused : (n : ℕ) (live : List Held) (i : Instruction) (s : State) (f : Frame) (x : Turn) (p q : Pause) → x ≡ still p.state
      → IsTurnPaused w t v false n live (attempt w t i (record p.state { stack = s.stack }) f) q
      → IsTurnPaused w t v false n live (then_turn x (attempt w t i (record x.after { stack = s.stack }) f)) q
  second-paused n live i s f x p q e is = subst (λ (y : Turn). IsTurnPaused w t v false n live (then_turn y (attempt w t i (record y.after { stack = s.stack }) f)) q) (sym e) is

  again-paused : (n : ℕ) (i : Instruction) (s : State) (f : Frame) (c : Option ℕ) (x : Turn) (p : Pause)
      → ((s' : State) → s'.stack ≡ s.stack → MayTell marks (frame_held v f ∷ helds v s'.stack) false (instruction_attempted w t i s' f).changes)
      → IsTurnPaused w t v false n (frame_held v f ∷ helds v s.stack) x p
      → IsTurnPaused w t v false n (frame_held v f ∷ helds v s.stack) (goes_again w t i s f c x) (again_pause w t v n (frame_held v f ∷ helds v s.stack) i s f c p)
  again-paused n i s f None x p may is = is
  again-paused n i s f (Some c) x p may is =
      let live : List Held = frame_held v f ∷ helds v s.stack in
      let s' : State = record p.state { stack = s.stack } in
      let q : Pause = turn_pause w t v n live (instruction_attempted w t i s' f) in
      let quiet : Bool = is_nothing p.due && p.passed == n in
      let ready : Bool = is_ready (phase_of p.state.shared c) in
      let on : Bool = is_going_on p.state.ending p.state.thrown in
      chosen-paused n live
      (has_no_changes x.changes && is_ready (phase_of x.after.shared c) && is_going_on x.after.ending x.after.thrown) (quiet && ready && on)
      (again-test n live c x p is p.due refl) x (then_turn x (attempt w t i (record x.after { stack = s.stack }) f)) p q is
      (λ yes.
      let nothing : p.due ≡ Nothing = due-nothing p.due (and_parts (is_nothing p.due) (p.passed == n) (and_parts quiet ready (and_parts (quiet && ready) on yes).0).0).0 in
      let all : (has_no_changes x.changes && is_ready (phase_of x.after.shared c) && is_going_on x.after.ending x.after.thrown) ≡ true = again-test n live c x p is p.due refl ∙ yes in
      let still_so : has_no_changes x.changes ≡ true =
      (and_parts (has_no_changes x.changes) (is_ready (phase_of x.after.shared c)) (and_parts (has_no_changes x.changes && is_ready (phase_of x.after.shared c)) (is_going_on x.after.ending x.after.thrown) all).0).0 in
      second-paused n live i s f x p q (turn-parts x p.state (at-end false n live x p is nothing).0 (quiet-empty x.changes still_so))
      (attempt-paused false n i s' f (may s' refl)))

  -- ---- a step

  -- where its classes are loaded a step is its attempts
  at-rest : (s : State) (f : Frame) (i : Instruction) → loads w i.operation s.shared f.operands ≡ [] → steps_at w t s f (Some i) ≡ steps_by w t i s f (does w i.operation s.shared f.locals f.operands)
  at-rest s f i loaded =
      ap (λ cs. loaded_turn cs (steps_by w t i (with_classes_loaded cs s) f (does w i.operation (with_classes_loaded cs s).shared f.locals f.operands))) loaded

  pub return-ends : (op : Operation Local) (s : Shared) (l : Locals) (o : Operands) → is_return op ≡ true → ends_by (does w op s l o).outcome ≡ true
  return-ends (Within (Return k)) s l o e = returns-end k o where
    datum-ends : (d : Option Datum) → ends_by (returns_datum d) ≡ true
    datum-ends None = refl
    datum-ends (Some d) = refl

    returns-end : (k : Option Kind) (o : Operands) → ends_by (returns k o) ≡ true
    returns-end None o = refl
    returns-end (Some k) [] = refl
    returns-end (Some k) (x ∷ below) = datum-ends (datum_of k x)
  return-ends _ s l o e = absurd (let h : false ≡ true = e in cc)

  pub ends-start : (outcome : Outcome) → ends_by outcome ≡ true → starts outcome ≡ None
  ends-start (Returns d) e = refl
  ends-start (Breaks ends) e = refl
  ends-start _ e = absurd (let h : false ≡ true = e in cc)

  -- Only returns end an activation: a law of the rules.
  module _ (only : (op : Operation Local) (s : Shared) (l : Locals) (o : Operands) → ends_by (does w op s l o).outcome ≡ true → is_return op ≡ true) where
    -- where no probe tells of a return that is attempted, its version is an original
    off-unless : (m : Mark) (op : Operation Local) → leave_due false m op ≡ false → is_return op ≡ true → is_off m ≡ true
    off-unless Off op e r = refl
    off-unless Plain op e r = absurd (let h : true ≡ false = sym r ∙ e in cc)
    off-unless Root op e r = absurd (let h : true ≡ false = sym r ∙ e in cc)

    told-once : (m : Mark) (op : Operation Local) → leave_due true m op ≡ false
    told-once m op = refl

    line-paused : (told : Bool) (n : ℕ) (s : State) (f : Frame) (i : Instruction) → (told ≡ true → is_return i.operation ≡ true) → leave_due told (v f.version) i.operation ≡ false
        → IsTurnPaused w t v told n (frame_held v f ∷ helds v s.stack) (steps_by w t i s f (does w i.operation s.shared f.locals f.operands))
        (again_pause w t v n (frame_held v f ∷ helds v s.stack) i s f (starts (does w i.operation s.shared f.locals f.operands).outcome)
        (turn_pause w t v n (frame_held v f ∷ helds v s.stack) (instruction_attempted w t i s f)))
    line-paused true n s f i is none_due =
        let d : Done = does w i.operation s.shared f.locals f.operands in
        let live : List Held = frame_held v f ∷ helds v s.stack in
        let ends : ends_by d.outcome ≡ true = return-ends i.operation s.shared f.locals f.operands (is refl) in
        subst (λ c. IsTurnPaused w t v true n live (goes_again w t i s f c (attempt w t i s f)) (again_pause w t v n live i s f c (turn_pause w t v n live (instruction_attempted w t i s f)))) (sym (ends-start d.outcome ends))
        (attempt-paused true n i s f (has-told i d.outcome (record s { shared = d.shared; output = s.output ++ d.wrote }) f ends))
    line-paused false n s f i is none_due =
        let d : Done = does w i.operation s.shared f.locals f.operands in
        again-paused n i s f (starts d.outcome) (attempt w t i s f) (turn_pause w t v n (frame_held v f ∷ helds v s.stack) (instruction_attempted w t i s f))
        (λ s' same. may s') (attempt-paused false n i s f (may s))
      where
        may : (s' : State) → MayTell marks (frame_held v f ∷ helds v s'.stack) false (instruction_attempted w t i s' f).changes
        may s' =
            let d : Done = does w i.operation s'.shared f.locals f.operands in
            may-tell i d.outcome (record s' { shared = d.shared; output = s'.output ++ d.wrote }) f
            (λ ends. off-unless (v f.version) i.operation none_due (only i.operation s'.shared f.locals f.operands ends))

    from-turn : (told : Bool) (n : ℕ) (s : State) (x : Turn) (p : Pause) → rest w t Attempt s ≡ x → IsTurnPaused w t v told n (helds v s.stack) x p → IsStepPaused w t v told n s p
    from-turn told n s x p e is = record {
      todo = Moves;
      changes = is.changes;
      part = record { same = ap (λ (a : Turn). a.after) e ∙ is.same; tells = ap (λ (a : Turn). a.changes) e ∙ is.tells };
      count = is.count;
      stops = ap (λ (a : Turn). stop_from marks told n (helds v s.stack) a.changes) e ∙ is.stops;
      ends = λ nothing. nothing-left w t p.state (is.ends nothing);
      awaits = is.unwinds;
      loaded = tt;
      later = λ other. sym is.later;
    }

    -- ---- before a return of which a probe tells

    applies-left : (i : Instruction) (outcome : Outcome) (s : State) (f : Frame) → ends_by outcome ≡ true → (applies w t i outcome s f).changes ≡ Left ∷ []
    applies-left i (Returns d) s f e = refl
    applies-left i (Breaks true) s f e = refl
    applies-left i (Breaks false) s f e = absurd (let h : false ≡ true = e in cc)
    applies-left i _ s f e = absurd (let h : false ≡ true = e in cc)

    leave-parts : (m : Mark) (op : Operation Local) → leave_due false m op ≡ true → (is_return op ≡ true) × (unless_off m (Ends kind.Leave) ≡ Ends kind.Leave)
    leave-parts Off op e = absurd (let h : false ≡ true = e in cc)
    leave-parts Plain op e = (e, refl)
    leave-parts Root op e = (e, refl)

    leave-stops : (n : ℕ) (s : State) (f : Frame) (i : Instruction) → leave_due false (v f.version) i.operation ≡ true
        → stop_in marks n (frame_held v f ∷ helds v s.stack) (steps_by w t i s f (does w i.operation s.shared f.locals f.operands)).changes
        ≡ record { live = frame_held v f ∷ helds v s.stack; passed = n; due = Ends kind.Leave }
    leave-stops n s f i e =
        let d : Done = does w i.operation s.shared f.locals f.operands in
        let live : List Held = frame_held v f ∷ helds v s.stack in
        let parts = leave-parts (v f.version) i.operation e in
        let ends : ends_by d.outcome ≡ true = return-ends i.operation s.shared f.locals f.operands parts.0 in
        let a : Turn = instruction_attempted w t i s f in
        let later : List Change = (rest w t Moves a.after).changes in
        ap (λ c. stop_in marks n live (goes_again w t i s f c (attempt w t i s f)).changes) (ends-start d.outcome ends)
        ∙ (ap (stop_in marks n live) (all-changes a)
        ∙ (ap (λ cs. stop_in marks n live (cs ++ later)) (applies-left i d.outcome (record s { shared = d.shared; output = s.output ++ d.wrote }) f ends)
        ∙ ap (λ due. stop_by live (helds v s.stack) n due (stop_in marks (suc n) (helds v s.stack) later)) parts.1))

    -- ---- all of it

    frame-paused : (told : Bool) (n : ℕ) (s : State) (f : Frame) (o : Option Instruction) → (told ≡ true → option_map_or (λ (i : Instruction). is_return i.operation) o false ≡ true)
        → classes_loaded_at w s f o ≡ [] → rest w t Attempt (record s { stack = Active f ∷ s.stack }) ≡ steps_at w t s f o
        → step_loads w t (record s { stack = Active f ∷ s.stack }) ≡ []
        → (option_map_or (λ (i : Instruction). is_return i.operation) o false ≡ true → is_at_return t s.ending (Active f ∷ s.stack) ≡ true)
        → IsStepPaused w t v told n (record s { stack = Active f ∷ s.stack }) (frame_pause w t v told n s f o)
    frame-paused true n s f None is loaded same whole_loaded at = absurd (let h : false ≡ true = is refl in cc)
    frame-paused false n s f None is loaded same whole_loaded at =
        from-turn false n (record s { stack = Active f ∷ s.stack }) (still (breaks s f 0)) (record { state = breaks s f 0; passed = n; due = Nothing }) same
        (record { changes = []; same = sym (ap (λ (a : Turn). a.after) (nothing-left w t (breaks s f 0) refl)); tells = sym (ap (λ (a : Turn). a.changes) (nothing-left w t (breaks s f 0) refl)); count = refl; stops = refl; ends = λ nothing. refl; unwinds = λ end. (let h : false ≡ true = end in cc); later = refl })
    frame-paused told n s f (Some i) is loaded same whole_loaded at = by (leave_due told (v f.version) i.operation) refl where
      whole : State
      whole = record s { stack = Active f ∷ s.stack }

      left : (told : Bool) → leave_due told (v f.version) i.operation ≡ true → IsStepPaused w t v told n whole (record { state = whole; passed = n; due = Ends kind.Leave })
      left true e = absurd (let h : false ≡ true = e in cc)
      left false e = record {
        todo = Attempt;
        changes = [];
        part = no-part w t Attempt whole;
        count = refl;
        stops = ap (λ (a : Turn). stop_in marks n (frame_held v f ∷ helds v s.stack) a.changes) (same ∙ at-rest s f i loaded) ∙ leave-stops n s f i e;
        ends = λ nothing. (let h : Ends kind.Leave ≡ Nothing = nothing in cc);
        awaits = λ end. at (leave-parts (v f.version) i.operation e).0;
        loaded = whole_loaded;
        later = λ other. refl;
      }

      by : (b : Bool) → leave_due told (v f.version) i.operation ≡ b
          → IsStepPaused w t v told n whole (if b then record { state = whole; passed = n; due = Ends kind.Leave }
          else again_pause w t v n (frame_held v f ∷ helds v s.stack) i s f (starts (does w i.operation s.shared f.locals f.operands).outcome)
          (turn_pause w t v n (frame_held v f ∷ helds v s.stack) (instruction_attempted w t i s f)))
      by true e = left told e
      by false e = from-turn told n whole (steps_by w t i s f (does w i.operation s.shared f.locals f.operands)) _ (same ∙ at-rest s f i loaded) (line-paused told n s f i is e)

    silent-paused : (n : ℕ) (s : State) → rest w t Attempt s ≡ still s → step_loads w t s ≡ [] → IsStepPaused w t v false n s (record { state = s; passed = n; due = Nothing })
    silent-paused n s same loaded = record {
      todo = Attempt;
      changes = [];
      part = no-part w t Attempt s;
      count = refl;
      stops = ap (λ (a : Turn). stop_in marks n (helds v s.stack) a.changes) same;
      ends = λ nothing. same;
      awaits = λ end. (let h : false ≡ true = end in cc);
      loaded = loaded;
      later = λ other. absurd (other refl);
    }

    stack-paused : (told : Bool) (n : ℕ) (s : State) (ending : Option Ending) (stack : List Entry) → (told ≡ true → is_at_return t ending stack ≡ true)
        → loads_on w t s ending stack ≡ [] → s.ending ≡ ending → s.stack ≡ stack → rest w t Attempt s ≡ steps_on w t s ending stack → step_loads w t s ≡ []
        → IsStepPaused w t v told n s (stack_pause w t v told n s ending stack)
    stack-paused told n s None (Active f ∷ below) is loaded e top same all =
        let s' : State = record s { stack = below } in
        subst (λ stack. IsStepPaused w t v told n (record s { stack = stack }) (frame_pause w t v told n s' f (t.at f.version f.place))) (sym top)
        (frame-paused told n s' f (t.at f.version f.place) is loaded (ap (λ stack. rest w t Attempt (record s { stack = stack })) (sym top) ∙ same)
        (ap (λ stack. step_loads w t (record s { stack = stack })) (sym top) ∙ all)
        (λ at. ap (λ ending. is_at_return t ending (Active f ∷ below)) e ∙ at))
    stack-paused true n s None [] is loaded e top same all = absurd (let h : false ≡ true = is refl in cc)
    stack-paused true n s None (Initializing c part ∷ below) is loaded e top same all = absurd (let h : false ≡ true = is refl in cc)
    stack-paused true n s (Some x) stack is loaded e top same all = absurd (let h : false ≡ true = is refl in cc)
    stack-paused false n s None [] is loaded e top same all = silent-paused n s same all
    stack-paused false n s None (Initializing c part ∷ below) is loaded e top same all = silent-paused n s same all
    stack-paused false n s (Some x) stack is loaded e top same all = silent-paused n s same all

    pub step-paused : (told : Bool) (n : ℕ) (s : State) → (told ≡ true → is_at_return t s.ending s.stack ≡ true) → step_loads w t s ≡ [] → IsStepPaused w t v told n s (step_pause w t v told n s)
    step-paused told n s is loaded = stack-paused told n s s.ending s.stack is loaded refl refl refl loaded

-- ---- behind the event of an unwinding

-- The current activation is unwound next; what is left is what is left of the state without it.
pub unwound-paused : (w : World) (t : Listing) (v : ℕ → Mark) (n : ℕ) (s after : State) → move w t s ≡ Some (record { after = after; changes = Unwound ∷ [] })
    → IsTurnPaused w t v true n (helds v s.stack) (rest w t Moves s) (step_paused w t v (suc n) after)
unwound-paused w t v n s after e =
    let x : Turn = record { after = after; changes = Unwound ∷ [] } in
    let part : IsPart w t Moves s (Unwound ∷ []) Moves after = move-part w t s x e in
    let later : IsPaused w t v (suc n) after (step_paused w t v (suc n) after) = paused-is w t v (suc n) after in
    let held : helds v after.stack ≡ held_after (mark_now v t) (helds v s.stack) Unwound =
    subst (λ o. IfSome o (λ (next : Turn). helds v next.after.stack ≡ all_held (mark_now v t) (helds v s.stack) next.changes)) e (moves-tell v w t s s.ending s.thrown s.stack refl) in
    record {
      changes = Unwound ∷ later.changes;
      same = part.same ∙ later.part.same;
      tells = part.tells ∙ ap (λ cs. Unwound ∷ cs) later.part.tells;
      count = later.count;
      stops = ap (stop_from (mark_now v t) true n (helds v s.stack)) part.tells
          ∙ (ap (λ live. stop_in (mark_now v t) (suc n) live (rest w t Moves after).changes) (sym held) ∙ later.stops);
      ends = later.ends;
      unwinds = later.unwinds;
      later = later.later;
    }
