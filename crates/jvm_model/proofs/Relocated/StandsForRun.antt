-- A machine that runs versions stands for the run of the original code, step by step.
use Rattle.std.proofs.Common.{◌≡◌, ℕ, map, List, [], ◌∷◌, Option, Some, None, refl, sym, ap, ◌∙◌}
use Rattle.std.specs.Option.{option_map}
use Rattle.std.proofs.lemmas.List.{map-id}
use Rattle.jvm_model.specs.Basis.Data.{Entry, Active, Initializing, State, Turn, Instruction, Catcher, Listing, World}
use Rattle.jvm_model.specs.Running.Applies.{still}
use Rattle.jvm_model.specs.Running.Moves.{turn_settled}
use Rattle.jvm_model.specs.Running.Run.{step, start}
use Rattle.jvm_model.specs.Codes.Moved.{moved_locals, moved_operands, moved_frame, moved_stack, moved_turn, moved_instruction, moved_catcher, IsMovedListing, at_homes}
use Rattle.jvm_model.specs.Rewriting.StandsForRun.{listing_named, versions_forgotten, norm_by, StandsFor, IsOfVersions, KeepVersions}
use Rattle.jvm_model.proofs.Relocated.StepMoves.{settled-moves, settled-placed, step-moves, step-placed, start-moves, start-placed}

same-instruction : (i : Option Instruction) → i ≡ option_map (moved_instruction (λ place. place)) i
same-instruction None = refl
same-instruction (Some i) = ap (λ (next : Option ℕ). Some (record i { next = next; targets = i.targets })) (same-next i.next)
    ∙ ap (λ (targets : List ℕ). Some (record (moved_instruction (λ place. place) i) { targets = targets })) (sym (map-id i.targets))
  where
    same-next : (next : Option ℕ) → next ≡ option_map (λ place. place) next
    same-next None = refl
    same-next (Some k) = refl

same-handlers : (hs : List Catcher) → hs ≡ map (moved_catcher (λ place. place)) hs
same-handlers [] = refl
same-handlers (h ∷ hs) = ap (λ (l : List Catcher). h ∷ l) (same-handlers hs)

module _ (norm : ℕ → ℕ → ℕ) (w : World) (t : Listing) (own : IsMovedListing norm (at_homes norm) t t) (method_of current : ℕ → ℕ) where
  -- the original code under versions is placed where the original is
  pub named-own : IsMovedListing (norm_by method_of norm) (at_homes (norm_by method_of norm)) (listing_named method_of current t) (listing_named method_of current t)
  named-own = record {
    current = λ k. refl;
    first = λ v. own.first (method_of v);
    lines = λ v at. own.lines (method_of v) at;
    handlers = λ v. own.handlers (method_of v);
    bounds = λ v. own.bounds (method_of v);
    rises = λ v. own.rises (method_of v);
  }

  -- and without them it is the original
  pub named-original : ((k : ℕ) → t.current k ≡ method_of (current k)) → IsMovedListing (norm_by method_of norm) (versions_forgotten method_of) (listing_named method_of current t) t
  named-original begins = record {
    current = begins;
    first = λ v. refl;
    lines = λ v at is. same-instruction (t.at (method_of v) at);
    handlers = λ v. same-handlers (t.handlers (method_of v));
    bounds = λ v. own.bounds (method_of v);
    rises = λ v a b some here there less. less;
  }

  module _ (homes : ℕ → ℕ → ℕ) (u : Listing) (is : IsOfVersions norm method_of current homes t u) where
    -- ---- a step

    module _ (versioned original : State) (stands : StandsFor norm method_of homes versioned original) where
      versioned-step : step w u versioned ≡ moved_turn (at_homes homes) (step w (listing_named method_of current t) stands.between)
      versioned-step = ap (step w u) stands.versioned_is ∙ step-moves (norm_by method_of norm) w (at_homes homes) (listing_named method_of current t) u named-own is.agrees stands.between stands.at_places

      original-step : step w t original ≡ moved_turn (versions_forgotten method_of) (step w (listing_named method_of current t) stands.between)
      original-step = ap (step w t) stands.original_is ∙ step-moves (norm_by method_of norm) w (versions_forgotten method_of) (listing_named method_of current t) t named-own (named-original is.begins) stands.between stands.at_places

      pub step-stands_for : StandsFor norm method_of homes (step w u versioned).after (step w t original).after
      step-stands_for = record {
        between = (step w (listing_named method_of current t) stands.between).after;
        versioned_is = ap (λ (a : Turn). a.after) versioned-step;
        original_is = ap (λ (a : Turn). a.after) original-step;
        at_places = step-placed (norm_by method_of norm) w (listing_named method_of current t) named-own stands.between stands.at_places;
      }

      pub step-same_changes : (step w u versioned).changes ≡ (step w t original).changes
      step-same_changes = ap (λ (a : Turn). a.changes) versioned-step ∙ sym (ap (λ (a : Turn). a.changes) original-step)

      -- ---- moves alone

      versioned-moves : turn_settled w u (still versioned) ≡ moved_turn (at_homes homes) (turn_settled w (listing_named method_of current t) (still stands.between))
      versioned-moves =
          ap (λ s. turn_settled w u (still s)) stands.versioned_is
          ∙ settled-moves (norm_by method_of norm) w (listing_named method_of current t) named-own (at_homes homes) u is.agrees (still stands.between) stands.at_places

      original-moves : turn_settled w t (still original) ≡ moved_turn (versions_forgotten method_of) (turn_settled w (listing_named method_of current t) (still stands.between))
      original-moves =
          ap (λ s. turn_settled w t (still s)) stands.original_is
          ∙ settled-moves (norm_by method_of norm) w (listing_named method_of current t) named-own (versions_forgotten method_of) t (named-original is.begins) (still stands.between) stands.at_places

      pub moves-stand_for : StandsFor norm method_of homes (turn_settled w u (still versioned)).after (turn_settled w t (still original)).after
      moves-stand_for = record {
        between = (turn_settled w (listing_named method_of current t) (still stands.between)).after;
        versioned_is = ap (λ (a : Turn). a.after) versioned-moves;
        original_is = ap (λ (a : Turn). a.after) original-moves;
        at_places = settled-placed (norm_by method_of norm) w (listing_named method_of current t) named-own (still stands.between) stands.at_places;
      }

      pub moves-same_changes : (turn_settled w u (still versioned)).changes ≡ (turn_settled w t (still original)).changes
      moves-same_changes = ap (λ (a : Turn). a.changes) versioned-moves ∙ sym (ap (λ (a : Turn). a.changes) original-moves)

    -- ---- the start

    versioned-start : start w u ≡ moved_turn (at_homes homes) (start w (listing_named method_of current t))
    versioned-start = start-moves (norm_by method_of norm) w (at_homes homes) (listing_named method_of current t) u named-own is.agrees

    original-start : start w t ≡ moved_turn (versions_forgotten method_of) (start w (listing_named method_of current t))
    original-start = start-moves (norm_by method_of norm) w (versions_forgotten method_of) (listing_named method_of current t) t named-own (named-original is.begins)

    pub start-stands_for : StandsFor norm method_of homes (start w u).after (start w t).after
    start-stands_for = record {
      between = (start w (listing_named method_of current t)).after;
      versioned_is = ap (λ (a : Turn). a.after) versioned-start;
      original_is = ap (λ (a : Turn). a.after) original-start;
      at_places = start-placed (norm_by method_of norm) w (listing_named method_of current t) named-own;
    }

    pub start-same_changes : (start w u).changes ≡ (start w t).changes
    start-same_changes = ap (λ (a : Turn). a.changes) versioned-start ∙ sym (ap (λ (a : Turn). a.changes) original-start)

-- ---- what is not of frames is the same

pub stands_for-same : (norm : ℕ → ℕ → ℕ) (method_of : ℕ → ℕ) (homes : ℕ → ℕ → ℕ) (versioned original : State) → StandsFor norm method_of homes versioned original
    → record versioned { stack = [] } ≡ record original { stack = [] }
stands_for-same norm method_of homes versioned original stands =
    ap (λ (s : State). record s { stack = [] }) stands.versioned_is ∙ sym (ap (λ (s : State). record s { stack = [] }) stands.original_is)

-- ---- versions come and go where no frame runs them

module _ (old new : ℕ → ℕ) (olds news : ℕ → ℕ → ℕ) where
  pub at_homes-kept : (stack : List Entry) → KeepVersions old new olds news stack → moved_stack (at_homes olds) stack ≡ moved_stack (at_homes news) stack
  at_homes-kept [] keeps = refl
  at_homes-kept (Active f ∷ below) keeps =
      ap (λ (h : ℕ → ℕ). Active (record f { place = h f.place; locals = moved_locals h f.locals; operands = moved_operands h f.operands }) ∷ moved_stack (at_homes olds) below) (sym keeps.1)
      ∙ ap (λ stack. Active (moved_frame (at_homes news) f) ∷ stack) (at_homes-kept below keeps.2)
  at_homes-kept (Initializing c part ∷ below) keeps = ap (λ stack. Initializing c part ∷ stack) (at_homes-kept below keeps)

  pub forgotten-kept : (stack : List Entry) → KeepVersions old new olds news stack → moved_stack (versions_forgotten old) stack ≡ moved_stack (versions_forgotten new) stack
  forgotten-kept [] keeps = refl
  forgotten-kept (Active f ∷ below) keeps =
      ap (λ (v : ℕ). Active (record (moved_frame (versions_forgotten old) f) { version = v }) ∷ moved_stack (versions_forgotten old) below) (sym keeps.0)
      ∙ ap (λ stack. Active (moved_frame (versions_forgotten new) f) ∷ stack) (forgotten-kept below keeps.2)
  forgotten-kept (Initializing c part ∷ below) keeps = ap (λ stack. Initializing c part ∷ stack) (forgotten-kept below keeps)

  pub placed-kept : (norm : ℕ → ℕ → ℕ) (stack : List Entry) → KeepVersions old new olds news stack
      → moved_stack (at_homes (norm_by old norm)) stack ≡ moved_stack (at_homes (norm_by new norm)) stack
  placed-kept norm [] keeps = refl
  placed-kept norm (Active f ∷ below) keeps =
      ap (λ (v : ℕ). Active (record f { place = norm v f.place; locals = moved_locals (norm v) f.locals; operands = moved_operands (norm v) f.operands }) ∷ moved_stack (at_homes (norm_by old norm)) below) (sym keeps.0)
      ∙ ap (λ stack. Active (moved_frame (at_homes (norm_by new norm)) f) ∷ stack) (placed-kept norm below keeps.2)
  placed-kept norm (Initializing c part ∷ below) keeps = ap (λ stack. Initializing c part ∷ stack) (placed-kept norm below keeps)

  pub stands_for-kept : (norm : ℕ → ℕ → ℕ) (versioned original : State) → (stands : StandsFor norm old olds versioned original) → KeepVersions old new olds news stands.between.stack
      → StandsFor norm new news versioned original
  stands_for-kept norm versioned original stands keeps =
      let s : State = stands.between in
      record {
        between = s;
        versioned_is = stands.versioned_is ∙ ap (λ stack. record s { stack = stack }) (at_homes-kept s.stack keeps);
        original_is = stands.original_is ∙ ap (λ stack. record s { stack = stack }) (forgotten-kept s.stack keeps);
        at_places = sym (placed-kept norm s.stack keeps) ∙ stands.at_places;
      }
