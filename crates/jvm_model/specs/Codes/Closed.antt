-- Code that stays within itself: where a frame can stand at a place, it goes on at such places alone.
use Rattle.std.specs.Prelude.{◌≡◌, ℕ, Bool, true, map, Option, Some, if◌then◌else◌}
use Rattle.std.specs.Option.{IfSome, option_map, option_and_then}
use Rattle.std.specs.List.{AllByRecursion}
use Rattle.jvm_model.specs.Basis.Data.{Instruction, Catcher, Listing}
use Rattle.jvm_model.specs.Codes.Moved.{moved_instruction, moved_catcher}

-- a handler's range begins and ends at places, and its code begins at one
abbrev pub IsWithin : (ℕ → ℕ → Bool) → ℕ → Catcher → Type 0
IsWithin is_place v h = (is_place v h.start ≡ true) × (is_place v h.finish ≡ true) × (is_place v h.target ≡ true)

-- `is_place` tells the places: the starts of instructions, and, where handlers name it, the code's end.
pub record IsClosed (is_place : ℕ → ℕ → Bool) (t : Listing) : Type 0 where
  pub start : (v : ℕ) → is_place v 0 ≡ true
  pub first : (v : ℕ) → is_place v (t.first v) ≡ true
  pub next : (v at : ℕ) (i : Instruction) → is_place v at ≡ true → t.at v at ≡ Some i → IfSome i.next (λ k. is_place v k ≡ true)
  pub targets : (v at : ℕ) (i : Instruction) → is_place v at ≡ true → t.at v at ≡ Some i → AllByRecursion (λ k. is_place v k ≡ true) i.targets
  pub handlers : (v : ℕ) → AllByRecursion (IsWithin is_place v) (t.handlers v)

-- each place as it is, and any other number as 0
abbrev pub norm_of : (ℕ → ℕ → Bool) → ℕ → ℕ → ℕ
norm_of is_place v at = if is_place v at then at else 0

-- The listing with each instruction at its home; `origin` reads homes backwards, and gives None where nothing of the
-- code stands.
abbrev pub laid_out : (ℕ → ℕ → ℕ) → (ℕ → ℕ → Option ℕ) → Listing → Listing
laid_out home origin t = record {
  current = t.current;
  first = λ v. home v (t.first v);
  at = λ v place. option_and_then (λ at. option_map (moved_instruction (home v)) (t.at v at)) (origin v place);
  handlers = λ v. map (moved_catcher (home v)) (t.handlers v);
}
