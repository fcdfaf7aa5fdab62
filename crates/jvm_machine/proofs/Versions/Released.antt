-- Superseded versions are dropped: the marks that are seen stay, and what a machine keeps to.
use Rattle.std.proofs.Common.{◌≡◌, ℕ, zero, suc, ◌+◌, ◌<◌, Bool, true, false, List, [], ◌∷◌, length, map, Option, Some, None, refl, sym, ap, ap₂, ◌∙◌, arith}
use Rattle.std.specs.Prelude.{slice_get, unwrap_or, ◌==◌, ◌&&◌, if◌then◌else◌}
use Rattle.std.specs.Option.{option_map_or}
use Rattle.std.proofs.lemmas.Option.{none-some}
use Rattle.frame_stack.specs.FrameLists.{PlacedFrame, pins_of}
use Rattle.method_versions.specs.Tables.{is_superseded_in}
use Rattle.jvm_model.specs.declared.event.Mark.TheVariants.{Off}
use Rattle.jvm_model.specs.declared.state.State.{State}
use Rattle.jvm_model.specs.Basis.Data.{Turn}
use Rattle.jvm_model.specs.Turns.Told.{Held, helds}
use Rattle.interpreter.specs.declared.turns.hands.Hand.{Hand}
use Rattle.interpreter.specs.Moves.Hands.{HasInHand}
use Rattle.prepared_code.specs.Ready.{IsHeldVersion, IsSoundIn}
use Rattle.prepared_code.specs.Standing.{HasVersions, IsPinned, places_of}
use Rattle.prepared_code.specs.Tables.{Releases, Version, Versions, version_at}
use Rattle.prepared_code.specs.Versions.{Setup, current_of, mark_of}
use Rattle.prepared_code.specs.VersionListings.{HasCurrent, homes_left}
use Rattle.prepared_code.proofs.Tables.StandingSteps.{has-left}
use Rattle.prepared_code.proofs.Tables.VersionsRun.{same-left}
use Rattle.jvm_machine.specs.Machine.{Stands, marks_of}
use Rattle.jvm_machine.proofs.Versions.Kept.{AreKept, hand-stays, same-helds, sound-stays, stands-stays}

-- a number that is listed is of a place in the list
pub in-list : (xs : List ℕ) (i n : ℕ) → slice_get xs i ≡ Some n → i < length xs
in-list [] i n e = absurd (none-some n e)
in-list (x ∷ xs) zero n e = omega arith
in-list (x ∷ xs) (suc i) n e = let lt = in-list xs i n e in omega arith

-- two functions that agree on each number of a list
pub map-same : {B : Type 0} (f g : ℕ → B) (xs : List ℕ) → ((i n : ℕ) → slice_get xs i ≡ Some n → f n ≡ g n) → map f xs ≡ map g xs
map-same f g [] each = refl
map-same f g (x ∷ xs) each = ap₂ ◌∷◌ (each 0 x refl) (map-same f g xs (λ i n e. each (suc i) n e))

module _ (w : Setup) (homes : ℕ → ℕ → ℕ) (has : HasVersions w homes) (fs : List PlacedFrame) (after : Versions) (released : Releases fs w.versions after) where
  abbrev v : Versions
  v = w.versions

  abbrev pub then_homes : ℕ → ℕ → ℕ
  then_homes = homes_left after homes

  abbrev pub then_setup : Setup
  then_setup = record w { versions = after }

  pub has-then : HasVersions then_setup then_homes
  has-then = has-left w fs after released homes has

  count : length after.current ≡ length v.current
  count = ap length released.current

  same : (k : ℕ) → IsHeldVersion v k → (pins_of k fs == 0) ≡ false → (version_at after k ≡ version_at v k) × (then_homes k ≡ homes k)
  same = same-left w.world.program (places_of w.world.program) homes v has.are fs after released

  -- a version in which a method begins stays
  stays-current : (i n : ℕ) → slice_get v.current i ≡ Some n → version_at after n ≡ version_at v n
  stays-current i n e =
      by (is_superseded_in v.slots v.current n && pins_of n fs == 0) refl
    where
      few : i < length w.world.program.methods
      few = let lt = in-list v.current i n e in let c = has.are.count in omega (arith, lt, c)

      now : HasCurrent after i
      now = has-then.are.current i few

      here : current_of after i ≡ n
      here = ap (λ o. unwrap_or o (4294967296 + i)) (ap (λ ks. slice_get ks i) released.current ∙ e)

      by : (b : Bool) → (is_superseded_in v.slots v.current n && pins_of n fs == 0) ≡ b → version_at after n ≡ version_at v n
      by true due = absurd (none-some now.version (sym (released.held n ∙ ap (λ b. if b then None else version_at v n) due) ∙ (ap (version_at after) (sym here) ∙ now.held)))
      by false due = released.held n ∙ ap (λ b. if b then None else version_at v n) due

  pub same-marks : marks_of after ≡ marks_of v
  same-marks =
      ap (map (mark_of after)) released.current
      ∙ map-same (mark_of after) (mark_of v) v.current (λ i n e. ap (λ (o : Option Version). option_map_or (λ x. x.prepared.mark) o Off) (stays-current i n e))

  pub helds-left : (s : State) → AreKept v s.stack → IsPinned fs s.stack → helds (mark_of after) s.stack ≡ helds (mark_of v) s.stack
  helds-left s are pinned = same-helds w homes has fs after then_homes count same s.stack are pinned

  pub hand-left : (turn : Turn) (hand : Hand) (live : List Held) (s : State) → AreKept v s.stack → IsPinned fs s.stack → HasInHand w homes turn hand live s → HasInHand then_setup then_homes turn hand live s
  hand-left turn hand live s are pinned h = hand-stays w homes has fs after then_homes count same turn hand live s are pinned h

  pub sound-left : (s : State) → IsPinned fs s.stack → IsSoundIn w s → IsSoundIn then_setup s
  sound-left s pinned is = sound-stays w homes has fs after then_homes count same s pinned is

  pub stands-left : (s from_original : State) → IsPinned fs s.stack → IsSoundIn w s → Stands w homes s from_original → Stands then_setup then_homes s from_original
  stands-left s from_original pinned is stands = stands-stays w homes has fs after then_homes count same s from_original pinned is stands
