-- What an attempt does to the frames of a machine it does beneath its initializations.
use Rattle.std.proofs.Common.{◌≡◌, ℕ, suc, ◌-◌, true, false, List, [], ◌∷◌, length, map, Option, Some, None, refl, sym, ap, subst, ◌∙◌, arith}
use Rattle.std.specs.Prelude.{Result, OnOk, is_some}
use Rattle.jf_bytes.specs.declared.error.NoMemory.{NoMemory}
use Rattle.std.proofs.lemmas.Bool.{false≢true}
use Rattle.std.proofs.lemmas.Option.{same_Some, none-some}
use Rattle.const_pool.specs.declared.descriptor.Kind.{Kind}
use Rattle.frame_stack.specs.FrameLists.{PlacedFrame}
use Rattle.jvm_model.specs.declared.ending.Ending.TheVariants.{Unverifiable}
use Rattle.jvm_model.specs.declared.state.Frame.{Frame}
use Rattle.jvm_model.specs.declared.state.State.{State}
use Rattle.jvm_model.specs.declared.instruction.Operation.{Operation}
use Rattle.jvm_model.specs.declared.instruction.Operation.TheVariants as operation
use Rattle.prepared_lines.specs.declared.line.LocalAction.{LocalAction}
use Rattle.prepared_lines.specs.declared.line.LocalAction.TheVariants as local_action
use Rattle.prepared_lines.specs.declared.line.Line.{Line}
use Rattle.prepared_code.specs.declared.initializations.Initialization.{Initialization}
use Rattle.prepared_code.specs.declared.parts.Here.{Here}
use Rattle.prepared_code.specs.declared.parts.Parts.{Parts}
use Rattle.instructions.specs.Acts.{BecomesBeneath, acts, acts_by, attempts_line, attempts_on, class_awaited, awaited_by, awaited_in, awaited_on, becomes_beneath, is_named, named_in}
use Rattle.activations.specs.Applied.{IsTop, acts_end, run_ended, on_top}
use Rattle.prepared_code.specs.Initializations.{initializing_entry, initialization_on, stack_of, state_of, with_initializations}
use Rattle.prepared_code.specs.States.{active, frame_in, here_of, state_in, state_with}
use Rattle.instructions.proofs.Loads.ActsLoad.{attempts-keep}
use Rattle.instructions.proofs.Initializing.Carried.{end-carried, goes_within, line-carried}
use Rattle.prepared_code.proofs.Initializing.InitializingStacks.{length-active}
use Rattle.activations.proofs.TurnsCarried.{top-frame}
use Rattle.prepared_code.proofs.Initializing.InitializingStacks.{none-left, stack-empty, stack-on}
use Rattle.prepared_code.specs.Versions.{Setup, line_at}

module _ (w : Setup) (line : Line) (ms : List Initialization) (p new : Parts) (method : ℕ) where
  pub does-beneath : (fs : List PlacedFrame) → IsTop method fs → initialization_on (length fs) ms ≡ None → is_named line.operation ≡ false
      → (goes_within line.operation ≡ false → initialization_on (length fs - 1) ms ≡ None) → state_in new ≡ on_top (acts w line) p fs
      → state_of ms new ≡ becomes_beneath ms (acts w line) p fs
  does-beneath [] top none awaits beneath_it e = absurd top
  does-beneath (f ∷ fs) top none awaits beneath_it e =
      let less : length (f ∷ fs) - 1 ≡ length fs = omega arith in
      ap (with_initializations ms) e
      ∙ line-carried ms w line (state_with fs p) (frame_in f) fs refl (ap (λ n. initialization_on (suc n) ms) (length-active fs) ∙ none) awaits
      (λ ends. ap (λ n. initialization_on n ms) (length-active fs) ∙ (ap (λ n. initialization_on n ms) (sym less) ∙ beneath_it ends))

  -- a return of a static initializer
  pub ends-beneath : (k : Option Kind) → line.operation ≡ operation.Within (local_action.Return k) → (fs : List PlacedFrame) → IsTop method fs
      → is_some (initialization_on (length fs - 1) ms) ≡ true → state_in new ≡ on_top (acts_end line k) p fs
      → state_of ms new ≡ becomes_beneath ms (acts w line) p fs
  ends-beneath k is [] top some e = absurd top
  ends-beneath k is (f ∷ fs) top some e = by (initialization_on (length fs) ms) refl (ap (λ n. is_some (initialization_on n ms)) (sym less) ∙ some) where
    less : length (f ∷ fs) - 1 ≡ length fs
    less = omega arith

    by : (o : Option Initialization) → initialization_on (length fs) ms ≡ o → is_some o ≡ true → state_of ms new ≡ acts w line (with_initializations ms (state_with fs p)) (frame_in f)
    by None there isnt = absurd (false≢true isnt)
    by (Some m) there isnt =
        let on = stack-on (map active fs) ms m (ap (λ n. initialization_on n ms) (length-active fs) ∙ there) in
        ap (with_initializations ms) e
        ∙ (end-carried ms w line k (state_with fs p) (frame_in f) m.class on.0 m.part on.1
        ∙ sym (ap (acts_by w line (with_initializations ms (state_with fs p)) (frame_in f)) is))

-- no return
pub within-unless : (a : Operation LocalAction) → ((k : Option Kind) → a ≡ operation.Within (local_action.Return k) → ⊥) → goes_within a ≡ false → ⊥
within-unless (operation.Within (local_action.Return k)) isnt h = isnt k refl
within-unless (operation.Within local_action.Basic) isnt h = false≢true (sym h)
within-unless (operation.Named n) isnt h = false≢true (sym h)
within-unless operation.Athrow isnt h = false≢true (sym h)
within-unless operation.Monitor isnt h = false≢true (sym h)
within-unless operation.Arraylength isnt h = false≢true (sym h)
within-unless (operation.Newarray kind) isnt h = false≢true (sym h)
within-unless (operation.LoadElement k) isnt h = false≢true (sym h)
within-unless (operation.StoreElement k) isnt h = false≢true (sym h)
within-unless (operation.LdcString units) isnt h = false≢true (sym h)

-- ---- what stands at the top

module _ (w : Setup) (ms : List Initialization) (p : Parts) where
  abbrev s : State
  s = state_of ms p

  -- nothing
  nothing-by : (fs : List PlacedFrame) → here_of fs ≡ None → initialization_on (length fs) ms ≡ None → stack_of (map active fs) ms ≡ []
  nothing-by [] is none = stack-empty ms ∙ ap (map initializing_entry) (none-left ms none)
  nothing-by (f ∷ fs) is none = absurd (none-some _ (sym is))

  pub nothing-there : here_of p.frames.frames ≡ None → initialization_on (length p.frames.frames) ms ≡ None → stack_of (map active p.frames.frames) ms ≡ []
  nothing-there is none = nothing-by p.frames.frames is none

  -- a frame that stands at a line that names nothing
  unnamed-by : (lo : Option Line) → named_in lo ≡ false → (x : State) (f : Frame) → awaited_by w x f lo ≡ None
  unnamed-by None is x f = refl
  unnamed-by (Some line) is x f = by line.operation is where
    by : (a : Operation LocalAction) → is_named a ≡ false → class_awaited w x f a ≡ None
    by (operation.Named n) is = absurd (false≢true (sym is))
    by (operation.Within i) is = refl
    by operation.Athrow is = refl
    by operation.Monitor is = refl
    by operation.Arraylength is = refl
    by (operation.Newarray kind) is = refl
    by (operation.LoadElement k) is = refl
    by (operation.StoreElement k) is = refl
    by (operation.LdcString units) is = refl

  awaits-by : (fs : List PlacedFrame) (here : Here) → here_of fs ≡ Some here → initialization_on (length fs) ms ≡ None
      → named_in (line_at w.versions here.version here.place) ≡ false → awaited_on w s (stack_of (map active fs) ms) ≡ None
  awaits-by [] here is none unnamed = absurd (none-some here is)
  awaits-by (f ∷ fs) here is none unnamed =
      let same : record { version = f.version; method = f.method; place = f.place } ≡ here = same_Some _ here is in
      let under : State = record s { stack = stack_of (map active fs) ms } in
      ap (awaited_on w s) (top-frame ms f fs none)
      ∙ (ap (λ (h : Here). awaited_by w under (frame_in f) (line_at w.versions h.version h.place)) same
      ∙ unnamed-by (line_at w.versions here.version here.place) unnamed under (frame_in f))

  pub awaits-unnamed : (here : Here) → here_of p.frames.frames ≡ Some here → initialization_on (length p.frames.frames) ms ≡ None
      → named_in (line_at w.versions here.version here.place) ≡ false → awaited_in w s ≡ None
  awaits-unnamed here is none unnamed = awaits-by p.frames.frames here is none unnamed

  loads-by : (fs : List PlacedFrame) (here : Here) → here_of fs ≡ Some here → initialization_on (length fs) ms ≡ None
      → named_in (line_at w.versions here.version here.place) ≡ false → (attempts_on w s (stack_of (map active fs) ms)).shared.loaded ≡ p.runtime.shared.loaded
  loads-by [] here is none unnamed = absurd (none-some here is)
  loads-by (f ∷ fs) here is none unnamed =
      let same : record { version = f.version; method = f.method; place = f.place } ≡ here = same_Some _ here is in
      let under : State = record s { stack = stack_of (map active fs) ms } in
      ap (λ es. (attempts_on w s es).shared.loaded) (top-frame ms f fs none)
      ∙ (ap (λ (h : Here). (attempts_line w under (frame_in f) (line_at w.versions h.version h.place)).shared.loaded) same
      ∙ attempts-keep w under (frame_in f) (line_at w.versions here.version here.place)
      (λ line found. sym (ap named_in found) ∙ unnamed))

  pub loads-unnamed : (here : Here) → here_of p.frames.frames ≡ Some here → initialization_on (length p.frames.frames) ms ≡ None
      → named_in (line_at w.versions here.version here.place) ≡ false → (after : State) → after ≡ attempts_on w s (stack_of (map active p.frames.frames) ms)
      → p.runtime.shared.loaded ≡ after.shared.loaded
  loads-unnamed here is none unnamed after attempted =
      sym (ap (λ (x : State). x.shared.loaded) attempted ∙ loads-by p.frames.frames here is none unnamed)

  breaks-by : (fs : List PlacedFrame) (here : Here) → here_of fs ≡ Some here → initialization_on (length fs) ms ≡ None → line_at w.versions here.version here.place ≡ None
      → record s { stack = stack_of (map active fs) ms; ending = Some (Unverifiable here.method 0) } ≡ attempts_on w s (stack_of (map active fs) ms)
  breaks-by [] here is none found = absurd (none-some here is)
  breaks-by (f ∷ fs) here is none found =
      let same : record { version = f.version; method = f.method; place = f.place } ≡ here = same_Some _ here is in
      let at : line_at w.versions f.version f.place ≡ None = ap (λ (h : Here). line_at w.versions h.version h.place) same ∙ found in
      ap (λ (h : Here). record s { stack = stack_of (map active (f ∷ fs)) ms; ending = Some (Unverifiable h.method 0) }) (sym same)
      ∙ (ap (λ es. record s { stack = es; ending = Some (Unverifiable f.method 0) }) (top-frame ms f fs none)
      ∙ sym (ap (attempts_on w s) (top-frame ms f fs none)
      ∙ ap (attempts_line w (record s { stack = stack_of (map active fs) ms }) (frame_in f)) at))

  pub breaks-there : (here : Here) → here_of p.frames.frames ≡ Some here → initialization_on (length p.frames.frames) ms ≡ None → line_at w.versions here.version here.place ≡ None
      → state_of ms (run_ended here.method 0 p) ≡ attempts_on w s (stack_of (map active p.frames.frames) ms)
  breaks-there here is none found = breaks-by p.frames.frames here is none found

  does-by : (line : Line) (fs : List PlacedFrame) (here : Here) → here_of fs ≡ Some here → initialization_on (length fs) ms ≡ None → line_at w.versions here.version here.place ≡ Some line
      → becomes_beneath ms (acts w line) p fs ≡ attempts_on w s (stack_of (map active fs) ms)
  does-by line [] here is none found = absurd (none-some here is)
  does-by line (f ∷ fs) here is none found =
      let same : record { version = f.version; method = f.method; place = f.place } ≡ here = same_Some _ here is in
      let at : line_at w.versions f.version f.place ≡ Some line = ap (λ (h : Here). line_at w.versions h.version h.place) same ∙ found in
      sym (ap (attempts_on w s) (top-frame ms f fs none)
      ∙ ap (attempts_line w (record s { stack = stack_of (map active fs) ms }) (frame_in f)) at)

  pub does-there : (line : Line) (here : Here) → here_of p.frames.frames ≡ Some here → initialization_on (length p.frames.frames) ms ≡ None
      → line_at w.versions here.version here.place ≡ Some line
      → becomes_beneath ms (acts w line) p p.frames.frames ≡ attempts_on w s (stack_of (map active p.frames.frames) ms)
  does-there line here is none found = does-by line p.frames.frames here is none found

  -- what the code has done by the line
  pub done-there : {A : Type 0} (result : Result A NoMemory) (new : Parts) (line : Line) (here : Here) → here_of p.frames.frames ≡ Some here
      → initialization_on (length p.frames.frames) ms ≡ None → line_at w.versions here.version here.place ≡ Some line → BecomesBeneath result ms new (acts w line) p
      → OnOk result (state_of ms new ≡ attempts_on w s (stack_of (map active p.frames.frames) ms))
  done-there result new line here is none found made = subst (λ (x : State). OnOk result (state_of ms new ≡ x)) (does-there line here is none found) made

  -- where no line is there is no method
  pub top-there : (here : Here) (fs : List PlacedFrame) → here_of fs ≡ Some here → IsTop here.method fs
  top-there here [] is = none-some here is
  top-there here (f ∷ fs) is = ap (λ (h : Here). h.method) (sym (same_Some _ here is))
