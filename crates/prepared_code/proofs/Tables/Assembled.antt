-- All of it together: the original code of a program whose codes are closed, a version of a method more, and a step:
-- the machine stands for the run.
use Rattle.std.proofs.Common.{◌≡◌, ◌≤◌, ◌<◌, ℕ, List, length, refl}
use Rattle.std.specs.List.{AllByRecursion}
use Rattle.jvm_model.specs.declared.program.Program.{Program}
use Rattle.jvm_model.specs.declared.state.State.{State}
use Rattle.jvm_model.specs.Codes.Closed.{norm_of}
use Rattle.jvm_model.specs.Basis.Data.{World}
use Rattle.jvm_model.specs.Codes.Originals.{original}
use Rattle.jvm_model.specs.Running.Run.{start, step}
use Rattle.jvm_model.specs.Rewriting.StandsForRun.{StandsFor}
use Rattle.jvm_model.proofs.Relocated.StandsForRun.{start-stands_for}
use Rattle.prepared_code.specs.Tables.{IsAdded, Version, Versions}
use Rattle.prepared_code.specs.Entries.{original_versions}
use Rattle.jvm_model.specs.Codes.ProgramPlaces.{HasClosedCodes, is_place_in}
use Rattle.prepared_code.specs.Ready.{RunsIn}
use Rattle.jvm_model.specs.Soundness.SoundListings.{IsSoundEntry}
use Rattle.prepared_code.specs.Versions.{current_of, method_of, listing_of}
use Rattle.frame_stack.specs.FrameLists.{PlacedFrame}
use Rattle.prepared_code.specs.Standing.{IsPinned}
use Rattle.prepared_code.specs.VersionListings.{AreVersions, IsVersionOf, homes_with}
use Rattle.jvm_model.proofs.Relocated.ClosedPrograms.{program-agrees}
use Rattle.prepared_code.proofs.Tables.OriginalListings.{original-are}
use Rattle.prepared_code.proofs.Tables.VersionsAgree.{versions-agree}
use Rattle.prepared_code.proofs.Tables.VersionsRun.{added-versions, count-added, kept-stands, same-added, step-stands}

module _ (w : World) (closed : HasClosedCodes w.program) where
  abbrev p : Program
  p = w.program

  abbrev norm : ℕ → ℕ → ℕ
  norm = norm_of (is_place_in p)

  abbrev still : ℕ → ℕ → ℕ
  still = λ k at. at

  pub at-first : length p.methods ≤ 4294967296 → AreVersions p norm still (original_versions p)
  at-first few = original-are p norm few (program-agrees p closed).bounds

  -- the start over original code as versions
  pub starts : (few : length p.methods ≤ 4294967296)
      → StandsFor norm (method_of (original_versions p)) still (start w (listing_of (original_versions p))).after (start w (original p)).after
  starts few =
      let v : Versions = original_versions p in
      start-stands_for norm w (original p) (program-agrees p closed) (method_of v) (current_of v) still (listing_of v) (versions-agree p norm still v (at-first few))

  module _ (homes : ℕ → ℕ → ℕ) (v : Versions) (are : AreVersions p norm homes v) (versioned from_original : State) (stands : StandsFor norm (method_of v) homes versioned from_original) where
    -- a step
    pub steps : (after : State) → after ≡ (step w (listing_of v) versioned).after → StandsFor norm (method_of v) homes after (step w (original p) from_original).after
    steps after made = step-stands p norm homes v are w refl (program-agrees p closed) versioned from_original after stands made

    -- a version more, and a step
    pub adds : (fs : List PlacedFrame) (number : ℕ) (x : Version) (home : ℕ → ℕ) (more : Versions) → IsAdded fs number x v more → IsVersionOf p norm x home → x.method < length p.methods
        → AllByRecursion (IsSoundEntry (RunsIn v) p versioned.shared.loaded) versioned.stack → IsPinned fs versioned.stack → (after : State) → after ≡ (step w (listing_of more) versioned).after
        → StandsFor norm (method_of more) (homes_with more number home homes) after (step w (original p) from_original).after
    adds fs number x home more added is own each pinned after made =
        let news : ℕ → ℕ → ℕ = homes_with more number home homes in
        step-stands p norm news more (added-versions p norm homes v are fs number x home more added is own) w refl (program-agrees p closed) versioned from_original after
        (kept-stands p norm homes v are fs more news (count-added p norm homes v are fs number x home more added) (same-added p norm homes v are fs number x home more added)
        versioned from_original stands each pinned)
        made
