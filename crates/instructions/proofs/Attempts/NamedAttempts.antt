-- An attempt of a line that names something, by what its instruction asks for.
use Rattle.std.proofs.Common.{◌≡◌, ℕ, suc, true, List, [], ◌∷◌, length, map, Option, Some, None, refl, sym, ap, subst, ◌∙◌}
use Rattle.std.proofs.lemmas.Bool.{false≢true}
use Rattle.std.proofs.lemmas.Option.{same_Some, none-some}
use Rattle.frame_stack.specs.FrameLists.{PlacedFrame, top_operands}
use Rattle.jvm_basic.specs.Outcomes.{top_locals}
use Rattle.jvm_model.specs.declared.state.State.{State}
use Rattle.jvm_model.specs.declared.instruction.SymbolicReference.{SymbolicReference}
use Rattle.jvm_model.specs.declared.instruction.Operation.{Operation}
use Rattle.jvm_model.specs.declared.instruction.Operation.TheVariants as operation
use Rattle.jvm_model.specs.Basis.Data.{Done, Initializes, Outcome}
use Rattle.jvm_model.specs.Running.Run.{starts}
use Rattle.member_selection.specs.Answers.{done_on}
use Rattle.member_selection.specs.Attempts.{attempts, shared_loaded}
use Rattle.member_selection.specs.Outcomes.{outcome_by_rule}
use Rattle.symbolic_references.specs.Runtimes.{RuntimeView, after}
use Rattle.prepared_lines.specs.declared.line.LocalAction.{LocalAction}
use Rattle.prepared_lines.specs.declared.line.Line.{Line}
use Rattle.prepared_code.specs.declared.initializations.Initialization.{Initialization}
use Rattle.prepared_code.specs.declared.parts.Here.{Here}
use Rattle.prepared_code.specs.declared.parts.Parts.{Parts}
use Rattle.instructions.specs.Acts.{acts, acts_by, attempts_on, awaited_by, awaited_in, awaited_on, becomes_beneath, class_awaited, is_named, named_in}
use Rattle.activations.specs.Applied.{acts_asked, on_parts, on_top, placed_line}
use Rattle.activations.specs.TakenArguments.{TakesArguments, done_top}
use Rattle.activations.specs.Initializing.{begins_class}
use Rattle.prepared_code.specs.Lines.{IfNamed, IfNamedBy}
use Rattle.prepared_code.specs.Originals.{OriginalsView, setup_in}
use Rattle.prepared_code.specs.Initializations.{initialization_on, stack_of, state_of, with_initializations}
use Rattle.prepared_code.specs.States.{active, frame_in, here_of, state_in, state_with}
use Rattle.prepared_code.specs.Versions.{Setup, line_at, listing_of}
use Rattle.prepared_code.proofs.Initializing.InitializingStacks.{length-active}
use Rattle.instructions.proofs.Initializing.Beneath.{does-there}
use Rattle.instructions.proofs.Initializing.Carried.{applies-carried}
use Rattle.instructions.proofs.Attempts.LineActs.{starts-some}
use Rattle.activations.proofs.ConcludedOutcomes.{stays}
use Rattle.instructions.proofs.Attempts.NamedLaws.{asks-takes, is-named}
use Rattle.activations.proofs.TurnsCarried.{top-frame}
use Rattle.std.specs.Prelude.{OnOk, Result, Ok, Err}

-- ---- the world stays

pub same-setup : (r s : RuntimeView) (o p : OriginalsView) → s.world ≡ r.world → p.versions ≡ o.versions → setup_in s p ≡ setup_in r o
same-setup r s o p world versions =
    ap (λ x. let w : Setup = record { world = x; versions = p.versions } in w) world
    ∙ ap (λ x. let w : Setup = record { world = r.world; versions = x } in w) versions

-- ---- a line that names something

pub record Names (lo : Option Line) : Type 0 where
  pub line : Line
  pub kept : SymbolicReference
  pub there : lo ≡ Some line
  pub named : line.operation ≡ operation.Named kept

names-by : (a : Operation LocalAction) → is_named a ≡ true → (n : SymbolicReference) × (a ≡ operation.Named n)
names-by (operation.Named n) is = (n, refl)
names-by (operation.Within i) is = absurd (false≢true is)
names-by operation.Athrow is = absurd (false≢true is)
names-by operation.Monitor is = absurd (false≢true is)
names-by operation.Arraylength is = absurd (false≢true is)
names-by (operation.Newarray kind) is = absurd (false≢true is)
names-by (operation.LoadElement k) is = absurd (false≢true is)
names-by (operation.StoreElement k) is = absurd (false≢true is)
names-by (operation.LdcString units) is = absurd (false≢true is)

pub names-there : (lo : Option Line) → named_in lo ≡ true → Names lo
names-there None is = absurd (false≢true is)
names-there (Some line) is = let found = names-by line.operation is in record { line = line; kept = found.0; there = refl; named = found.1 }

-- what holds of it where it is known
pub held : (lo : Option Line) (names : Names lo) (Holds : SymbolicReference → ℕ → Type 0) → IfNamed lo Holds → Holds names.kept names.line.next
held lo names Holds if_named =
    subst (λ a. IfNamedBy a names.line.next Holds) names.named (subst (λ o. IfNamed o Holds) names.there if_named)

-- ---- the parts where it has answered

module _ (w : Setup) (ms : List Initialization) (here : Here) (line : Line) (p : Parts) (found : line_at w.versions here.version here.place ≡ Some line)
    (is : named_in (line_at w.versions here.version here.place) ≡ true) (at : here_of p.frames.frames ≡ Some here)
    (none : initialization_on (length p.frames.frames) ms ≡ None) (q : Outcome) (left : RuntimeView)
    (answers : IfNamed (line_at w.versions here.version here.place) (λ n next. q ≡ outcome_by_rule (attempts w.world n p.runtime.shared p.frames) p.frames))
    (leaves : IfNamed (line_at w.versions here.version here.place) (λ n next. left ≡ after (done_on (attempts w.world n p.runtime.shared p.frames) p.frames) p.runtime)) where
  by_name : (n : SymbolicReference) × (line.operation ≡ operation.Named n)
  by_name = names-by line.operation (sym (ap named_in found) ∙ is)

  abbrev names : Names (line_at w.versions here.version here.place)
  names = record { line = line; kept = by_name.0; there = found; named = by_name.1 }

  abbrev n : SymbolicReference
  n = by_name.0

  -- the state before
  abbrev s : State
  s = state_of ms p

  abbrev mid : Parts
  mid = record p { runtime = left }

  answer-is : q ≡ (done_top w n p.runtime.shared p.frames.frames).outcome
  answer-is =
      held (line_at w.versions here.version here.place) names (λ n next. q ≡ outcome_by_rule (attempts w.world n p.runtime.shared p.frames) p.frames) answers

  abbrev reached : List PlacedFrame → Parts
  reached all = record p { runtime = after (done_top w n p.runtime.shared all) p.runtime }

  mid-is : mid ≡ reached p.frames.frames
  mid-is =
      ap (λ (r : RuntimeView). let q : Parts = record p { runtime = r } in q)
      (held (line_at w.versions here.version here.place) names (λ n next. left ≡ after (done_on (attempts w.world n p.runtime.shared p.frames) p.frames) p.runtime) leaves)

  -- the arguments of a method that it invokes
  pub takes-there : TakesArguments q (top_operands p.frames.frames)
  takes-there =
      let l = top_locals p.frames.frames in
      let o = top_operands p.frames.frames in
      let d : Done = done_top w n p.runtime.shared p.frames.frames in
      let law = is-named (shared_loaded w.world.program n p.runtime.shared p.frames) o w n l in
      subst (λ (x : Outcome). TakesArguments x o) (sym answer-is) (asks-takes d.shared o d.outcome law.asks)

  -- beneath the initializations
  carried-by : (x : Outcome) (all : List PlacedFrame) → x ≡ (done_top w n p.runtime.shared all).outcome → stays x ≡ true → here_of all ≡ Some here
      → initialization_on (length all) ms ≡ None
      → with_initializations ms (on_top (λ s f. acts_asked w line s f x) (reached all) all) ≡ becomes_beneath ms (acts w line) p all
  carried-by x [] told kept is free = absurd (none-some here is)
  carried-by x (f ∷ fs) told kept is free =
      let mid : Parts = reached (f ∷ fs) in
      applies-carried ms w (listing_of w.versions) (placed_line line) x kept (state_with fs mid) (frame_in f)
      (ap (λ k. initialization_on (suc k) ms) (length-active fs) ∙ free)
      ∙ (ap (acts_asked w line (with_initializations ms (state_with fs mid)) (frame_in f)) told
      ∙ sym (ap (acts_by w line (with_initializations ms (state_with fs p)) (frame_in f)) by_name.1))

  pub goes-on : (v : Setup) (new : Parts) → v ≡ w → stays q ≡ true
      → state_in new ≡ on_parts (λ s f. acts_asked v line s f q) mid → state_of ms new ≡ attempts_on w s s.stack
  goes-on v new same kept made =
      ap (with_initializations ms)
      (subst (λ (u : Setup). state_in new ≡ on_parts (λ s f. acts_asked u line s f q) mid) same made
      ∙ ap (λ (m : Parts). on_parts (λ s f. acts_asked w line s f q) m) mid-is)
      ∙ (carried-by q p.frames.frames answer-is kept at none
      ∙ does-there w ms p line here at none found)

  begins-by : (c : ℕ) (all : List PlacedFrame) → (done_top w n p.runtime.shared all).outcome ≡ Initializes c → here_of all ≡ Some here
      → initialization_on (length all) ms ≡ None → begins_class c (with_initializations ms (state_with all (reached all))) ≡ becomes_beneath ms (acts w line) p all
  begins-by c [] asks is free = absurd (none-some here is)
  begins-by c (f ∷ fs) asks is free =
      let mid : Parts = reached (f ∷ fs) in
      ap (λ es. begins_class c (record (state_with (f ∷ fs) mid) { stack = es })) (top-frame ms f fs free)
      ∙ (sym (ap (acts_asked w line (with_initializations ms (state_with fs mid)) (frame_in f)) asks)
      ∙ sym (ap (acts_by w line (with_initializations ms (state_with fs p)) (frame_in f)) by_name.1))

  pub begins-on : (o : Option ℕ) (c : ℕ) (new : Parts) → o ≡ starts q → o ≡ Some c → new ≡ mid
      → begins_class c (state_of ms new) ≡ attempts_on w s s.stack
  begins-on o c new told some same =
      ap (λ (m : Parts). begins_class c (state_of ms m)) (same ∙ mid-is)
      ∙ (begins-by c p.frames.frames (sym answer-is ∙ starts-some q c (sym told ∙ some)) at none
      ∙ does-there w ms p line here at none found)

  -- the class that it awaits
  awaits-by : (fs : List PlacedFrame) → here_of fs ≡ Some here → initialization_on (length fs) ms ≡ None
      → awaited_on w s (stack_of (map active fs) ms) ≡ starts (done_top w n p.runtime.shared fs).outcome
  awaits-by [] is free = absurd (none-some here is)
  awaits-by (f ∷ fs) is free =
      let same : record { version = f.version; method = f.method; place = f.place } ≡ here = same_Some _ here is in
      let under : State = record s { stack = stack_of (map active fs) ms } in
      ap (awaited_on w s) (top-frame ms f fs free)
      ∙ (ap (λ (h : Here). awaited_by w under (frame_in f) (line_at w.versions h.version h.place)) same
      ∙ (ap (awaited_by w under (frame_in f)) found
      ∙ ap (class_awaited w under (frame_in f)) by_name.1))

  pub awaits-told : (o : Option ℕ) → o ≡ starts q → o ≡ awaited_in w s
  awaits-told o told = told ∙ (ap starts answer-is ∙ sym (awaits-by p.frames.frames at none))

pub on-either : {A E P : Type 0} (r : Result A E) → P → OnOk r P
on-either (Ok x) holds = holds
on-either (Err e) holds = tt
