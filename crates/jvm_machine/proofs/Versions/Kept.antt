-- Another table that holds what the frames run: what is in hand stays in hand, and what stands for the run stands for
-- it.
use Rattle.std.proofs.Common.{◌≡◌, ℕ, Bool, true, false, List, [], ◌∷◌, length, Option, Some, None, refl, sym, ap, ap₂, subst, ◌∙◌, inl, inr}
use Rattle.std.specs.Prelude.{max, ◌-◌, ◌==◌}
use Rattle.std.specs.List.{AllByRecursion}
use Rattle.std.specs.Option.{option_map_or}
use Rattle.frame_stack.specs.FrameLists.{PlacedFrame, pins_of}
use Rattle.jvm_model.specs.declared.event.Mark.TheVariants.{Off}
use Rattle.jvm_model.specs.declared.state.Entry.{Entry}
use Rattle.jvm_model.specs.declared.state.Entry.TheVariants.{Active, Initializing}
use Rattle.jvm_model.specs.declared.state.State.{State}
use Rattle.jvm_model.specs.Basis.Data.{Turn, World}
use Rattle.jvm_model.specs.Classes.Load.{Fault}
use Rattle.jvm_model.specs.Codes.Originals.{original}
use Rattle.jvm_model.specs.Running.Run.{arguments_made, before, main_classes, main_loading, run_opened, starts_if, starts_unless, starts_with, with_classes_loaded}
use Rattle.jvm_model.specs.Basis.SharedState.{arguments_fit}
use Rattle.jvm_model.specs.Soundness.SoundListings.{IsSoundEntry}
use Rattle.jvm_model.specs.Rewriting.StandsForRun.{KeepVersions}
use Rattle.jvm_model.specs.Turns.Told.{Held, helds}
use Rattle.jvm_model.proofs.Turns.HandBegins.{hand-kept}
use Rattle.interpreter.specs.declared.turns.hands.Hand.{Hand}
use Rattle.interpreter.specs.Moves.Hands.{HasInHand, todo_of, versioned_in}
use Rattle.prepared_code.specs.Ready.{IsHeldVersion, IsSoundIn, RunsIn}
use Rattle.prepared_code.specs.Standing.{HasVersions, IsPinned, places_of}
use Rattle.prepared_code.specs.Tables.{Version, Versions, version_at}
use Rattle.prepared_code.specs.Versions.{Setup, mark_of, method_of}
use Rattle.prepared_code.proofs.Tables.VersionsRun.{kept-entries, kept-stands}
use Rattle.jvm_machine.specs.Machine.{IsSoundOnce, Stands}

-- each frame runs a version that is held, or none that will ever be
abbrev pub IsKeptEntry : Versions → Entry → Type 0
IsKeptEntry v (Active f) = IsHeldVersion v f.version
IsKeptEntry v (Initializing class part) = Unit {0}

abbrev pub AreKept : Versions → List Entry → Type 0
AreKept v stack = AllByRecursion (IsKeptEntry v) stack

-- ---- where nothing runs

loaded-kept : (v : Versions) (classes : List ℕ) (s : State) → AreKept v s.stack → AreKept v (with_classes_loaded classes s).stack
loaded-kept v [] s are = are
loaded-kept v (c ∷ more) s are = are

pub starts-kept : (v : Versions) (w : World) → AreKept v (starts_with w).stack
starts-kept v w = by (arguments_fit w.program) where
  unless-kept : (o : Option Fault) → AreKept v (starts_unless w o (run_opened w)).stack
  unless-kept None = (tt, tt)
  unless-kept (Some fault) = loaded-kept v (main_classes w) (arguments_made w (before w)) tt

  by : (b : Bool) → AreKept v (starts_if w b).stack
  by true = unless-kept (main_loading w).fault
  by false = tt

-- ---- what is sound

module _ (w : Setup) where
  sound-kept : (loaded : List ℕ) (stack : List Entry) → AllByRecursion (IsSoundEntry (RunsIn w.versions) w.world.program loaded) stack → AreKept w.versions stack
  sound-kept loaded [] each = tt
  sound-kept loaded (Active f ∷ below) each = (each.0.1.1, sound-kept loaded below each.1)
  sound-kept loaded (Initializing class part ∷ below) each = (tt, sound-kept loaded below each.1)

  pub kept-of-sound : (s : State) → IsSoundIn w s → AreKept w.versions s.stack
  kept-of-sound s is = sound-kept s.shared.loaded s.stack is.stack

  pub kept-once : (hand : Hand) (s : State) → IsSoundOnce w hand s → AreKept w.versions s.stack
  kept-once hand s (inl is) = kept-of-sound s is
  kept-once hand s (inr is) = subst (λ (z : State). AreKept w.versions z.stack) (sym is.begins) (starts-kept w.versions w.world)

-- ---- another table

module _ (w : Setup) (homes : ℕ → ℕ → ℕ) (has : HasVersions w homes) (fs : List PlacedFrame) (after : Versions) (news : ℕ → ℕ → ℕ) (count : length after.current ≡ length w.versions.current)
    (same : (k : ℕ) → IsHeldVersion w.versions k → (pins_of k fs == 0) ≡ false → (version_at after k ≡ version_at w.versions k) × (news k ≡ homes k)) where
  abbrev v : Versions
  v = w.versions

  abbrev u : Setup
  u = record w { versions = after }

  same-method : (k : ℕ) → version_at after k ≡ version_at v k → method_of after k ≡ method_of v k
  same-method k is =
      ap (λ (o : Option Version). option_map_or (λ y. y.method) o (max (k - 4294967296) (length after.current))) is
      ∙ ap (λ n. option_map_or (λ (y : Version). y.method) (version_at v k) (max (k - 4294967296) n)) count

  same-mark : (k : ℕ) → version_at after k ≡ version_at v k → mark_of after k ≡ mark_of v k
  same-mark k is = ap (λ (o : Option Version). option_map_or (λ y. y.prepared.mark) o Off) is

  all-keep : (stack : List Entry) → AreKept v stack → IsPinned fs stack → KeepVersions (method_of v) (method_of after) homes news stack
  all-keep [] are pinned = tt
  all-keep (Active f ∷ below) are pinned =
      let one = same f.version are.0 pinned.0 in (same-method f.version one.0, one.1, all-keep below are.1 pinned.1)
  all-keep (Initializing class part ∷ below) are pinned = all-keep below are.1 pinned.1

  pub same-helds : (stack : List Entry) → AreKept v stack → IsPinned fs stack → helds (mark_of after) stack ≡ helds (mark_of v) stack
  same-helds [] are pinned = refl
  same-helds (Active f ∷ below) are pinned =
      ap₂ (λ mark live. record { method = f.method; mark = mark } ∷ live) (same-mark f.version (same f.version are.0 pinned.0).0) (same-helds below are.1 pinned.1)
  same-helds (Initializing class part ∷ below) are pinned = same-helds below are.1 pinned.1

  pub hand-stays : (turn : Turn) (hand : Hand) (live : List Held) (s : State) → AreKept v s.stack → IsPinned fs s.stack → HasInHand w homes turn hand live s → HasInHand u news turn hand live s
  hand-stays turn hand live s are pinned h =
      hand-kept w.world (original w.world.program) (versioned_in w homes) (versioned_in u news) turn hand.passed hand.delivered live (todo_of hand.moves) s h refl
      (all-keep s.stack are pinned) (same-helds s.stack are pinned)

  pub sound-stays : (s : State) → IsPinned fs s.stack → IsSoundIn w s → IsSoundIn u s
  sound-stays s pinned is = record {
    shared = is.shared;
    stack = kept-entries w.world.program (places_of w.world.program) homes v has.are fs after news count same s.shared.loaded s.stack is.stack pinned;
    main = is.main;
  }

  pub once-stays : (hand : Hand) (s : State) → IsPinned fs s.stack → IsSoundOnce w hand s → IsSoundOnce u hand s
  once-stays hand s pinned (inl is) = inl (sound-stays s pinned is)
  once-stays hand s pinned (inr is) = inr (record { moves = is.moves; undelivered = is.undelivered; begins = is.begins })

  pub stands-stays : (s from_original : State) → IsPinned fs s.stack → IsSoundIn w s → Stands w homes s from_original → Stands u news s from_original
  stands-stays s from_original pinned is stands =
      kept-stands w.world.program (places_of w.world.program) homes v has.are fs after news count same s from_original stands is.stack pinned
