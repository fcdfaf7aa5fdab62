-- The frame that begins on a caller is the one that a method begins with, where its arguments are data that fit.
use Rattle.std.proofs.Common.{◌≡◌, ℕ, suc, ◌-◌, Bool, true, false, List, [], ◌∷◌, ◌++◌, length, drop, take, cond, Option, Some, None, Result, refl, sym, ap, ◌∙◌}
use Rattle.std.specs.Prelude.{is_some, map, nat_le, nat_lt, replicate, reverse, ◌&&◌}
use Rattle.std.specs.Option.{option_and_then, option_map}
use Rattle.std.specs.Result.{OnOk}
use Rattle.std.proofs.lemmas.Option.{none-some, same_Some}
use Rattle.std.proofs.lemmas.Result.{on_ok_weaker}
use Rattle.jf_bytes.specs.declared.error.NoMemory.{NoMemory}
use Rattle.heap_objects.specs.declared.datum.Datum.{Datum}
use Rattle.heap_objects.specs.declared.Value.{Value}
use Rattle.const_pool.specs.declared.descriptor.Kind.{Kind}
use Rattle.frame_stack.specs.Widths.{height_of, slots_of_all}
use Rattle.frame_stack.specs.FrameLists.{PlacedFrame}
use Rattle.jvm_model.specs.declared.state.State.{State}
use Rattle.jvm_model.specs.Basis.Data.{Locals, Operands, Invokes, Turn}
use Rattle.jvm_model.specs.Basis.Programs.{max_locals_of, max_stack_of}
use Rattle.jvm_model.specs.Basis.Values.{data_of, datum_of, arguments_spread}
use Rattle.jvm_model.specs.Instructions.Rules.{invokes as invokes_outcome}
use Rattle.jvm_model.specs.Running.Applies.{still, breaks, begins, live_in, most_live, with_frame, applies}
use Rattle.prepared_code.specs.declared.parts.Parts.{Parts}
use Rattle.prepared_lines.specs.declared.line.Line.{Line}
use Rattle.jvm_model.specs.declared.exception.Exception.TheVariants.{StackOverflow}
use Rattle.activations.specs.Applied.{run_ended, placed_line, raising}
use Rattle.activations.specs.Invoking.{method_called, may_begin}
use Rattle.prepared_code.specs.States.{active, frame_in, state_with, state_in}
use Rattle.activations.specs.Arguments.{can_begin, with_begun}
use Rattle.activations.specs.TakenArguments.{Takes}
use Rattle.activations.proofs.Arguments.{spread-data, length-slots, height-reverse, enough-data}
use Rattle.prepared_code.specs.Versions.{Setup, listing_of, current_of, first_of}

pub live-is : (fs : List PlacedFrame) → live_in (map active fs) ≡ length fs
live-is [] = refl
live-is (f ∷ fs) = ap suc (live-is fs)

pub same-length : (ks : List Kind) (vs : List Value) (ds : List Datum) → data_of ks vs ≡ Some ds → length ds ≡ length ks
same-length [] [] ds e = ap length (sym (same_Some [] ds e))
same-length [] (v ∷ vs) ds e = absurd (none-some ds e)
same-length (k ∷ ks) [] ds e = absurd (none-some ds e)
same-length (k ∷ ks) (v ∷ vs) ds e = by_first (datum_of k v) (data_of ks vs) (same-length ks vs) e where
  by_first : (first : Option Datum) (rest : Option (List Datum)) → ((xs : List Datum) → rest ≡ Some xs → length xs ≡ length ks)
      → option_and_then (λ d. option_map (λ xs. d ∷ xs) rest) first ≡ Some ds → length ds ≡ suc (length ks)
  by_first None rest r e = absurd (none-some ds e)
  by_first (Some d) None r e = absurd (none-some ds e)
  by_first (Some d) (Some xs) r e = ap length (sym (same_Some (d ∷ xs) ds e)) ∙ ap suc (r xs refl)

module _ (w : Setup) (line : Line) (callee : ℕ) (p : Parts) (f : PlacedFrame) (fs : List PlacedFrame) where
  abbrev most : ℕ
  most = max_locals_of w.world callee

  abbrev taken : ℕ → List Value
  taken count = take count f.operands

  -- the limit of live activations, as the model has it
  abbrev few_live : Bool
  few_live = nat_lt (suc (live_in (map active fs))) most_live

  abbrev thrown : State
  thrown = state_with (f ∷ fs) (raising w.world StackOverflow None p)

  -- the state where the callee begins with these locals, if they are so many at most
  abbrev state_by : ℕ → ℕ → Locals → State
  state_by count depth locals =
      cond (nat_le depth most)
      (cond few_live
      (with_frame (with_frame (state_with fs p) (record (frame_in f) { operands = drop count f.operands })) (record {
        method = callee;
        version = current_of w.versions callee;
        place = first_of w.versions (current_of w.versions callee);
        locals = locals ++ replicate (most - depth) None;
        operands = [];
        max_locals = most;
        max_stack = max_stack_of w.world callee;
      }))
      thrown)
      (breaks (state_with fs p) (frame_in f) line.instr.at)

  abbrev begun_by : Bool → ℕ → State
  begun_by b count =
      cond b (cond few_live (state_with (with_begun true w callee count (f ∷ fs)) p) thrown)
      (state_with (f ∷ fs) (run_ended f.method line.instr.at p))

  abbrev begins_here : ℕ → List Datum → Turn
  begins_here count args = begins w.world (listing_of w.versions) (state_with fs p) (frame_in f) callee args (drop count f.operands)

  by_data : (ks : List Kind) (args : Option (List Datum)) → data_of ks (reverse (taken (length ks))) ≡ args
      → (applies w.world (listing_of w.versions) (placed_line line) (invokes_outcome callee (length ks) args f.operands) (state_with fs p) (frame_in f)).after
      ≡ begun_by (is_some args && can_begin w.world callee (length ks) (f ∷ fs)) (length ks)
  by_data ks None e = refl
  by_data ks (Some args) e =
      let values : List Value = reverse (taken (length ks)) in
      let same : arguments_spread args ≡ slots_of_all values = spread-data ks values args e in
      let long : length (arguments_spread args) ≡ height_of (taken (length ks)) = ap length same ∙ (length-slots values ∙ height-reverse (taken (length ks))) in
      split (nat_le (length (arguments_spread args)) most) few_live
      ∙ (ap (state_by (length ks) (length (arguments_spread args))) same
      ∙ (ap (λ n. state_by (length ks) n (slots_of_all values)) long
      ∙ ap (λ b. begun_by (b && nat_le (height_of (taken (length ks))) most) (length ks)) (sym (enough-data ks f.operands args e))))
    where
      -- what is left of a choice between turns
      split : (b few : Bool)
          → (cond b (cond few (begins_here (length ks) args) (still thrown)) (still (breaks (state_with fs p) (frame_in f) line.instr.at))).after
          ≡ cond b (cond few (begins_here (length ks) args).after thrown) (breaks (state_with fs p) (frame_in f) line.instr.at)
      split true true = refl
      split true false = refl
      split false few = refl

  -- as a method that was named takes them
  pub calls-is : (method : ℕ) (args : List Datum) (below : Operands) → method ≡ f.method → Takes f.operands args below
      → (applies w.world (listing_of w.versions) (placed_line line) (Invokes callee args below) (state_with fs p) (frame_in f)).after
      ≡ method_called w method line.instr.at callee (length args) (f ∷ fs) p (may_begin (f ∷ fs)) (can_begin w.world callee (length args) (f ∷ fs))
  calls-is method args below same takes =
      let ks : List Kind = takes.kinds in
      let many : length ks ≡ length args = sym (same-length ks (reverse (taken (length ks))) args takes.are) in
      ap (λ o. (applies w.world (listing_of w.versions) (placed_line line) (Invokes callee args o) (state_with fs p) (frame_in f)).after)
      (takes.off ∙ ap (λ n. drop n f.operands) (sym many))
      ∙ (by_data ks (Some args) takes.are
      ∙ (ap (λ n. begun_by (can_begin w.world callee n (f ∷ fs)) n) many
      ∙ (ap (λ n. with_few (nat_lt (suc n) most_live)) (live-is fs)
      ∙ (ap with_end (sym same)
      ∙ either (can_begin w.world callee (length args) (f ∷ fs))))))
    where
      -- by how many are live, and where the run ends
      with_few : Bool → State
      with_few few =
          cond (can_begin w.world callee (length args) (f ∷ fs)) (cond few (state_with (with_begun true w callee (length args) (f ∷ fs)) p) thrown)
          (state_with (f ∷ fs) (run_ended f.method line.instr.at p))

      with_end : ℕ → State
      with_end m =
          cond (can_begin w.world callee (length args) (f ∷ fs)) (cond (may_begin (f ∷ fs)) (state_with (with_begun true w callee (length args) (f ∷ fs)) p) thrown)
          (state_with (f ∷ fs) (run_ended m line.instr.at p))

      either : (b : Bool)
          → cond b (cond (may_begin (f ∷ fs)) (state_with (with_begun true w callee (length args) (f ∷ fs)) p) thrown) (state_with (f ∷ fs) (run_ended method line.instr.at p))
          ≡ method_called w method line.instr.at callee (length args) (f ∷ fs) p (may_begin (f ∷ fs)) b
      either true = refl
      either false = refl

-- what the code has done, as a state
pub came-to : (result : Result (Unit {0}) NoMemory) (new done : Parts) (state : State) → state_in done ≡ state → OnOk result (new ≡ done)
    → OnOk result (state_in new ≡ state)
came-to result new done state same made = on_ok_weaker result (λ (e : new ≡ done). ap state_in e ∙ same) made
