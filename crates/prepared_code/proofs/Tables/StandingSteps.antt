-- What stands for the run of original code stands for it behind the start, behind a step, and with versions more.
use Rattle.std.proofs.Common.{◌≡◌, ℕ, zero, suc, ◌+◌, ◌≤◌, false, List, [], ◌∷◌, ◌++◌, length, map, Option, refl, sym, ap, subst, ◌∙◌, arith}
use Rattle.std.specs.Prelude.{cond, ◌==◌}
use Rattle.std.specs.List.{AllByRecursion}
use Rattle.std.proofs.lemmas.Bool.{eq-eqb, ne_eqb}
use Rattle.std.proofs.lemmas.List.{append_assoc, append-nil}
use Rattle.std.proofs.lemmas.List.Sums.{sum_by-append, sum_by-cons}
use Rattle.frame_stack.specs.FrameLists.{PlacedFrame, pins_of}
use Rattle.jvm_model.specs.declared.program.Program.{Program}
use Rattle.jvm_model.specs.declared.state.Entry.{Entry}
use Rattle.jvm_model.specs.declared.state.State.{State}
use Rattle.jvm_model.specs.Basis.Data.{Turn, World}
use Rattle.jvm_model.specs.Codes.Originals.{original}
use Rattle.jvm_model.specs.Running.Run.{run, start, step, turn_in-zero, turn_in-suc}
use Rattle.jvm_model.specs.Soundness.Sound.{IsFit}
use Rattle.jvm_model.specs.Rewriting.StandsForRun.{StandsFor}
use Rattle.jvm_model.proofs.Relocated.StandsForRun.{start-stands_for}
use Rattle.prepared_code.specs.Tables.{Adds, IsAdded, Releases, Version, Versions}
use Rattle.const_pool.specs.declared.class.ClassFile.{ClassFile}
use Rattle.code_model.specs.declared.laying.Homes.{Homes}
use Rattle.prepared_code.specs.ClassVersions.{class_versions}
use Rattle.prepared_code.specs.Entries.{original_versions}
use Rattle.prepared_code.specs.OriginalRun.{original_setup}
use Rattle.jvm_model.specs.Codes.ProgramPlaces.{HasClosedCodes}
use Rattle.prepared_code.specs.Ready.{CanRun, IsOwnLine, IsSoundIn, RunsIn}
use Rattle.prepared_code.specs.declared.initializations.Initialization.{Initialization}
use Rattle.prepared_code.specs.declared.parts.Parts.{Parts}
use Rattle.prepared_code.specs.Initializations.{above, beneath, initializing_entry, stack_of, state_of}
use Rattle.prepared_code.specs.States.{active}
use Rattle.prepared_code.specs.Runs.{steps_from, steps_from-zero, steps_from-suc}
use Rattle.prepared_code.specs.Standing.{AreMethodImages, HasVersions, IsPinned, IsOfProgram, IsRunOf, IsSetUp, places_of}
use Rattle.prepared_code.specs.Versions.{Setup, current_of, method_of, listing_of}
use Rattle.prepared_code.specs.VersionListings.{homes_left, homes_with}
use Rattle.prepared_code.proofs.Tables.Added.{lines-added, lines-left}
use Rattle.prepared_code.proofs.Tables.Assembled.{at-first}
use Rattle.jvm_model.proofs.Relocated.ClosedPrograms.{program-agrees}
use Rattle.prepared_code.proofs.Images.ClassVersionLaws.{versions-of}
use Rattle.prepared_code.proofs.Tables.OriginalVersions.{original-own}
use Rattle.jvm_model.proofs.Soundness.SoundListingRuns.{sound-start, sound-step}
use Rattle.prepared_code.proofs.Tables.VersionsAgree.{versions-agree}
use Rattle.prepared_code.proofs.Tables.VersionsRun.{added-versions, count-added, kept-entries, kept-stands, left-versions, same-added, same-left, step-stands, versions-can-run}

-- ---- original code is set up so

pub original-set_up : (w : World) → IsFit w.program → HasClosedCodes w.program → length w.program.methods ≤ 4294967296 → IsSetUp (original_setup w)
original-set_up w fit closed few = record {
  homes = λ k at. at;
  has = record { fit = fit; closed = closed; are = at-first w closed few; lines = original-own w.program };
}

-- ---- it can be run

pub set-up-runs : (w : Setup) (homes : ℕ → ℕ → ℕ) → HasVersions w homes → CanRun w
set-up-runs w homes has = versions-can-run w.world.program (places_of w.world.program) homes w.versions has.are w.world.input has.fit has.lines

pub run-of-starts : (w : Setup) → IsSetUp w → (after : State) → after ≡ (start w.world (listing_of w.versions)).after → IsRunOf w 0 after
run-of-starts w set after made =
    let p : Program = w.world.program in
    let v : Versions = w.versions in
    let started : StandsFor (places_of p) (method_of v) set.homes (start w.world (listing_of v)).after (start w.world (original p)).after =
    start-stands_for (places_of p) w.world (original p) (program-agrees p set.has.closed) (method_of v) (current_of v) set.homes (listing_of v)
    (versions-agree p (places_of p) set.homes v set.has.are) in
    record {
      homes = set.homes;
      has = set.has;
      stands = subst (λ s. StandsFor (places_of p) (method_of v) set.homes s (run w.world 0)) (sym made)
          (subst (λ (a : Turn). StandsFor (places_of p) (method_of v) set.homes (start w.world (listing_of v)).after a.after) (sym (turn_in-zero w.world (original p))) started);
      sound = subst (IsSoundIn w) (sym made) (sound-start (RunsIn v) w.world set.has.fit (listing_of v) (set-up-runs w set.homes set.has).listing);
    }

pub run-of-steps : (w : Setup) (clock : ℕ) (s after : State) → IsRunOf w clock s → after ≡ (step w.world (listing_of w.versions) s).after → IsRunOf w (suc clock) after
run-of-steps w clock s after is made =
    let p : Program = w.world.program in
    let v : Versions = w.versions in
    record {
      homes = is.homes;
      has = is.has;
      stands = subst (λ (a : Turn). StandsFor (places_of p) (method_of v) is.homes after a.after) (sym (turn_in-suc w.world (original p) clock))
          (step-stands p (places_of p) is.homes v is.has.are w.world refl (program-agrees p is.has.closed) s (run w.world clock) after is.stands made);
      sound = subst (IsSoundIn w) (sym made) (sound-step (RunsIn v) w.world is.has.fit (listing_of v) (set-up-runs w is.homes is.has).listing s is.sound);
    }

pub run-of-more : (w : Setup) (clock n : ℕ) (s : State) → IsRunOf w clock s → IsRunOf w (clock + n) (steps_from w n s)
run-of-more w clock zero s is =
    let same : clock ≡ clock + 0 = omega arith in
    subst (λ k. IsRunOf w k (steps_from w 0 s)) same (subst (IsRunOf w clock) (sym (steps_from-zero w s)) is)
run-of-more w clock (suc n) s is =
    let same : suc (clock + n) ≡ clock + suc n = omega arith in
    subst (λ k. IsRunOf w k (steps_from w (suc n) s)) same
    (run-of-steps w (clock + n) (steps_from w n s) (steps_from w (suc n) s) (run-of-more w clock n s is) (steps_from-suc w n s))

-- ---- another table

-- with these versions
abbrev pub with_table : Versions → Setup → Setup
with_table v w = record w { versions = v }

module _ (w : Setup) (fs : List PlacedFrame) (after : Versions) where
  abbrev p : Program
  p = w.world.program

  abbrev v : Versions
  v = w.versions

  -- superseded versions are dropped
  module _ (released : Releases fs v after) where
    pub has-left : (homes : ℕ → ℕ → ℕ) → HasVersions w homes → HasVersions (with_table after w) (homes_left after homes)
    has-left homes has = record {
      fit = has.fit;
      closed = has.closed;
      are = left-versions p (places_of p) homes v has.are fs after released;
      lines = lines-left IsOwnLine fs v after released has.lines;
    }

    pub run-of-left : (clock : ℕ) (s : State) → IsPinned fs s.stack → IsRunOf w clock s → IsRunOf (with_table after w) clock s
    run-of-left clock s pinned is =
        let count : length after.current ≡ length v.current = ap length released.current in
        let same = same-left p (places_of p) is.homes v is.has.are fs after released in
        record {
          homes = homes_left after is.homes;
          has = has-left is.homes is.has;
          stands = kept-stands p (places_of p) is.homes v is.has.are fs after (homes_left after is.homes) count same s (run w.world clock) is.stands is.sound.stack pinned;
          sound = record {
            shared = is.sound.shared;
            stack = kept-entries p (places_of p) is.homes v is.has.are fs after (homes_left after is.homes) count same s.shared.loaded s.stack is.sound.stack pinned;
            main = is.sound.main;
          };
        }

  -- a version more
  module _ (number : ℕ) (x : Version) (of : IsOfProgram p x) (added : IsAdded fs number x v after) where
    pub has-one : (homes : ℕ → ℕ → ℕ) → HasVersions w homes → HasVersions (with_table after w) (homes_with after number of.home homes)
    has-one homes has = record {
      fit = has.fit;
      closed = has.closed;
      are = added-versions p (places_of p) homes v has.are fs number x of.home after added of.version of.own;
      lines = lines-added IsOwnLine fs number x v after added of.lines has.lines;
    }

    pub set-up-one : IsSetUp w → IsSetUp (with_table after w)
    set-up-one set = record { homes = homes_with after number of.home set.homes; has = has-one set.homes set.has }

    pub run-of-one : (clock : ℕ) (s : State) → IsPinned fs s.stack → IsRunOf w clock s → IsRunOf (with_table after w) clock s
    run-of-one clock s pinned is =
        let news : ℕ → ℕ → ℕ = homes_with after number of.home is.homes in
        let count = count-added p (places_of p) is.homes v is.has.are fs number x of.home after added in
        let same = same-added p (places_of p) is.homes v is.has.are fs number x of.home after added in
        record {
          homes = news;
          has = has-one is.homes is.has;
          stands = kept-stands p (places_of p) is.homes v is.has.are fs after news count same s (run w.world clock) is.stands is.sound.stack pinned;
          sound = record {
            shared = is.sound.shared;
            stack = kept-entries p (places_of p) is.homes v is.has.are fs after news count same s.shared.loaded s.stack is.sound.stack pinned;
            main = is.sound.main;
          };
        }

-- ---- versions more

pub set-up-all : (fs : List PlacedFrame) (xs : List Version) (w : Setup) (after : Versions) → AllByRecursion (IsOfProgram w.world.program) xs → Adds fs xs w.versions after
    → IsSetUp w → IsSetUp (with_table after w)
set-up-all fs [] w after of adds set = subst (λ (v : Versions). IsSetUp (with_table v w)) (sym adds) set
set-up-all fs (x ∷ xs) w after of adds set =
    set-up-all fs xs (with_table adds.1 w) after of.1 adds.3 (set-up-one w fs adds.1 adds.0 x of.0 adds.2 set)

pub run-of-all : (fs : List PlacedFrame) (xs : List Version) (w : Setup) (after : Versions) (clock : ℕ) (s : State) → AllByRecursion (IsOfProgram w.world.program) xs
    → Adds fs xs w.versions after → IsPinned fs s.stack → IsRunOf w clock s → IsRunOf (with_table after w) clock s
run-of-all fs [] w after clock s of adds pinned is = subst (λ (v : Versions). IsRunOf (with_table v w) clock s) (sym adds) is
run-of-all fs (x ∷ xs) w after clock s of adds pinned is =
    run-of-all fs xs (with_table adds.1 w) after clock s of.1 adds.3 pinned (run-of-one w fs adds.1 adds.0 x of.0 adds.2 clock s pinned is)

-- ---- the frames of parts are theirs

own-pin : (front : List PlacedFrame) (f : PlacedFrame) (below : List PlacedFrame) → (pins_of f.version (front ++ f ∷ below) == 0) ≡ false
own-pin front f below =
    let all = sum_by-append (λ (g : PlacedFrame). cond (g.version == f.version) 1 0) front (f ∷ below) in
    let top = sum_by-cons (λ (g : PlacedFrame). cond (g.version == f.version) 1 0) f below in
    let one : ℕ = 1 in
    let here : cond (f.version == f.version) one 0 ≡ one = ap (λ b. cond b one 0) (eq-eqb f.version f.version refl) in
    ne_eqb (pins_of f.version (front ++ f ∷ below)) 0 (λ none. absurd (omega (arith, none, all, top, here)))

module _ (all : List PlacedFrame) where
  behind-initializing : (ms : List Initialization) (stack : List Entry) → IsPinned all stack → IsPinned all (map initializing_entry ms ++ stack)
  behind-initializing [] stack pinned = pinned
  behind-initializing (m ∷ ms) stack pinned = (tt, behind-initializing ms stack pinned)

  pub pinned-stack : (front fs : List PlacedFrame) (ms : List Initialization) → all ≡ front ++ fs → IsPinned all (stack_of (map active fs) ms)
  unfolding stack_of above beneath
  pinned-stack front [] ms whole = subst (IsPinned all) (append-nil (map initializing_entry ms)) (behind-initializing ms [] tt)
  pinned-stack front (f ∷ below) ms whole =
      behind-initializing (above (suc (length (map active below))) ms) (active f ∷ stack_of (map active below) (beneath (suc (length (map active below))) ms)) (
        subst (λ fs. (pins_of f.version fs == 0) ≡ false) (sym whole) (own-pin front f below),
        pinned-stack (front ++ f ∷ []) below (beneath (suc (length (map active below))) ms) (whole ∙ sym (append_assoc front (f ∷ []) below)),
      )

pub parts-pinned : (ms : List Initialization) (parts : Parts) → IsPinned parts.frames.frames (state_of ms parts).stack
parts-pinned ms parts = pinned-stack parts.frames.frames [] parts.frames.frames ms refl

-- what stands for the run stands for it when superseded versions are dropped
pub run-of-released : (old new : Setup) (ms : List Initialization) (parts : Parts) (clock : ℕ) → new.world ≡ old.world → Releases parts.frames.frames old.versions new.versions
    → IsRunOf old clock (state_of ms parts) → IsRunOf new clock (state_of ms parts)
run-of-released old new ms parts clock same released is =
    let whole : with_table new.versions old ≡ new = ap (λ (x : World). let u : Setup = record { world = x; versions = new.versions } in u) (sym same) in
    subst (λ (u : Setup). IsRunOf u clock (state_of ms parts)) whole
    (run-of-left old parts.frames.frames new.versions released clock (state_of ms parts) (parts-pinned ms parts) is)

-- ---- what is made, and what is installed

pub made-set_up : (w : Setup) (p : Program) → w.world.program ≡ p → w.versions ≡ original_versions p → length p.methods ≤ 4294967296 → IsFit p → HasClosedCodes p → IsSetUp w
made-set_up w p same made few fit closed =
    let whole : w ≡ original_setup w.world = ap (λ (v : Versions). let u : Setup = record { world = w.world; versions = v } in u) (made ∙ ap original_versions (sym same)) in
    subst IsSetUp (sym whole)
    (original-set_up w.world (subst IsFit (sym same) fit) (subst HasClosedCodes (sym same) closed) (subst (λ (q : Program). length q.methods ≤ 4294967296) (sym same) few))

module _ (w : Setup) (class : ℕ) (image : ClassFile) (homes : List (Option Homes)) (are : AreMethodImages w.world.program class image homes) (fs : List PlacedFrame)
    (after : Setup) (same : after.world ≡ w.world) (adds : Adds fs (class_versions w.world.program class image homes) w.versions after.versions) where
  each-of : HasClosedCodes w.world.program → AllByRecursion (IsOfProgram w.world.program) (class_versions w.world.program class image homes)
  each-of closed = versions-of w.world.program closed class image homes are

  whole : with_table after.versions w ≡ after
  whole = ap (λ (x : World). let u : Setup = record { world = x; versions = after.versions } in u) (sym same)

  pub installed-set_up : IsSetUp w → IsSetUp after
  installed-set_up set = subst IsSetUp whole (set-up-all fs (class_versions w.world.program class image homes) w after.versions (each-of set.has.closed) adds set)

  pub installed-stands : (clock : ℕ) (s : State) → IsPinned fs s.stack → IsRunOf w clock s → IsRunOf after clock s
  installed-stands clock s pinned is =
      subst (λ (u : Setup). IsRunOf u clock s) whole
      (run-of-all fs (class_versions w.world.program class image homes) w after.versions clock s (each-of is.has.closed) adds pinned is)
