-- Versions of a class are added: what is in hand stays in hand, whatever of the step is done, and live activations keep
-- their marks.
use Rattle.std.proofs.Common.{◌≡◌, ◌<◌, ◌^◌, ℕ, Bool, true, false, List, [], ◌∷◌, length, Option, Result, Ok, Err, refl, sym, ap, ap₂, subst, ◌∙◌}
use Rattle.std.specs.Prelude.{OnErr, OnOk, ◌==◌}
use Rattle.std.specs.List.{AllByRecursion}
use Rattle.std.proofs.lemmas.List.{length-map}
use Rattle.jf_bytes.specs.declared.error.NoMemory.{NoMemory}
use Rattle.const_pool.specs.declared.class.ClassFile.{ClassFile}
use Rattle.code_model.specs.declared.laying.Homes.{Homes}
use Rattle.frame_stack.specs.FrameLists.{PlacedFrame, pins_of}
use Rattle.jvm_model.specs.declared.event.Mark.{Mark}
use Rattle.jvm_model.specs.declared.state.State.{State}
use Rattle.jvm_model.specs.Basis.Data.{World}
use Rattle.jvm_model.specs.Running.Run.{turn}
use Rattle.jvm_model.specs.Turns.Told.{helds}
use Rattle.interpreter.specs.declared.turns.hands.Hand.{Hand}
use Rattle.prepared_code.specs.ClassVersions.{class_versions}
use Rattle.interpreter.specs.Moves.Hands.{HasInHand}
use Rattle.prepared_code.specs.Ready.{IsHeldVersion}
use Rattle.prepared_code.specs.Standing.{IsOfProgram, IsPinned, places_of}
use Rattle.prepared_code.specs.Tables.{Adds, IsAdded, Version, Versions, version_at}
use Rattle.prepared_code.specs.Versions.{Setup, mark_of}
use Rattle.prepared_code.specs.VersionListings.{homes_with}
use Rattle.prepared_code.proofs.Images.ClassVersionLaws.{versions-of}
use Rattle.prepared_code.proofs.Tables.StandingSteps.{has-one}
use Rattle.prepared_code.proofs.Tables.VersionsRun.{count-added, same-added}
use Rattle.jvm_machine.specs.Installs.{IsFormed, IsImageOf, marks_over, with_class}
use Rattle.jvm_machine.specs.Machine.{IsMachine, marks_of, state_seen}
use Rattle.jvm_machine.specs.View.{View, is_resting, run_state}
use Rattle.jvm_machine.proofs.Versions.ImagedMethods.{method-images, version-marked}
use Rattle.jvm_machine.proofs.Versions.Kept.{AreKept, hand-stays, kept-of-sound, kept-once, once-stays, same-helds, sound-stays, stands-stays}
use Rattle.jvm_machine.proofs.Versions.MarkedClasses.{class-marks, marks-all}

module _ (started broken : Bool) (clock : ℕ) (hand : Hand) (s : State) (whole : broken ≡ false) where
  abbrev view : Setup → View
  view w = state_seen w s started broken clock hand

  -- the frames run held versions
  machine-kept : (w : Setup) → IsMachine w hand (view w) s → AreKept w.versions s.stack
  machine-kept w is = by started refl (is_resting (view w)) refl where
    by : (b : Bool) → started ≡ b → (r : Bool) → is_resting (view w) ≡ r → AreKept w.versions s.stack
    by b f false e = kept-once w hand s ((is.whole whole).sound e)
    by true f true e = kept-of-sound w s ((is.whole whole).rests e f)
    by false f true e = subst (λ (z : State). AreKept w.versions z.stack) (sym ((is.whole whole).first f).before) tt

  -- ---- a version more

  module _ (w : Setup) (fs : List PlacedFrame) (after : Versions) (number : ℕ) (x : Version) (of : IsOfProgram w.world.program x) (added : IsAdded fs number x w.versions after)
      (pinned : IsPinned fs s.stack) (is : IsMachine w hand (view w) s) where
    abbrev u : Setup
    u = record w { versions = after }

    abbrev news : ℕ → ℕ → ℕ
    news = homes_with after number of.home is.homes

    count : length after.current ≡ length w.versions.current
    count = count-added w.world.program (places_of w.world.program) is.homes w.versions is.has.are fs number x of.home after added

    same : (k : ℕ) → IsHeldVersion w.versions k → (pins_of k fs == 0) ≡ false → (version_at after k ≡ version_at w.versions k) × (news k ≡ is.homes k)
    same = same-added w.world.program (places_of w.world.program) is.homes w.versions is.has.are fs number x of.home after added

    are : AreKept w.versions s.stack
    are = machine-kept w is

    pub one-helds : helds (mark_of after) s.stack ≡ helds (mark_of w.versions) s.stack
    one-helds = same-helds w is.homes is.has fs after news count same s.stack are pinned

    pub one-machine : IsMachine u hand (view u) s
    one-machine =
        let now = is.whole whole in
        record {
          homes = news;
          has = has-one w fs after number x of added is.homes is.has;
          before_the_run = λ unstarted. let e = is.before_the_run unstarted in record { clock = e.clock; passed = e.passed; delivered = e.delivered };
          whole = λ unbroken. record {
            stands = λ resting yes. stands-stays w is.homes is.has fs after news count same s (run_state (view w)) pinned (now.rests resting yes) (now.stands resting yes);
            rests = λ resting yes. sound-stays w is.homes is.has fs after news count same s pinned (now.rests resting yes);
            in_hand = λ busy. subst (λ live. HasInHand u news (turn w.world clock) hand live s) (sym one-helds)
                (hand-stays w is.homes is.has fs after news count same (turn w.world clock) hand (helds (mark_of w.versions) s.stack) s are pinned (now.in_hand busy));
            sound = λ busy. once-stays w is.homes is.has fs after news count same hand s pinned (now.sound busy);
            first = now.first;
          };
        }

  -- ---- versions more

  all-machine : (fs : List PlacedFrame) (xs : List Version) (w : Setup) (after : Versions) → AllByRecursion (IsOfProgram w.world.program) xs → Adds fs xs w.versions after → IsPinned fs s.stack
      → IsMachine w hand (view w) s → IsMachine (record w { versions = after }) hand (view (record w { versions = after })) s
  all-machine fs [] w after of adds pinned is = subst (λ (v : Versions). IsMachine (record w { versions = v }) hand (view (record w { versions = v })) s) (sym adds) is
  all-machine fs (x ∷ xs) w after of adds pinned is =
      all-machine fs xs (record w { versions = adds.1 }) after of.1 adds.3 pinned (one-machine w fs adds.1 adds.0 x of.0 adds.2 pinned is)

  all-helds : (fs : List PlacedFrame) (xs : List Version) (w : Setup) (after : Versions) → AllByRecursion (IsOfProgram w.world.program) xs → Adds fs xs w.versions after → IsPinned fs s.stack
      → IsMachine w hand (view w) s → helds (mark_of after) s.stack ≡ helds (mark_of w.versions) s.stack
  all-helds fs [] w after of adds pinned is = ap (λ (v : Versions). helds (mark_of v) s.stack) adds
  all-helds fs (x ∷ xs) w after of adds pinned is =
      all-helds fs xs (record w { versions = adds.1 }) after of.1 adds.3 pinned (one-machine w fs adds.1 adds.0 x of.0 adds.2 pinned is)
      ∙ one-helds w fs adds.1 adds.0 x of.0 adds.2 pinned is

  -- ---- those of a class

  module _ (w : Setup) (fs : List PlacedFrame) (pinned : IsPinned fs s.stack) (is : IsMachine w hand (view w) s) (formed : IsFormed w.world.program) (class : ℕ) (marks : List Mark)
      (image : ClassFile) (homes : List (Option Homes)) (of : IsImageOf w.world.program class marks image homes) (few : length image.pool < 2 ^ 16) (after : Setup) (world : after.world ≡ w.world)
      (adds : Adds fs (class_versions w.world.program class image homes) w.versions after.versions) where
    each : AllByRecursion (IsOfProgram w.world.program) (class_versions w.world.program class image homes)
    each = versions-of w.world.program is.has.closed class image homes (method-images w.world.program formed is.has.closed class marks image homes of)

    whole-after : record w { versions = after.versions } ≡ after
    whole-after = ap (λ (x : World). let z : Setup = record { world = x; versions = after.versions } in z) (sym world)

    pub installed-machine : IsMachine after hand (view after) s
    installed-machine =
        subst (λ (z : Setup). IsMachine z hand (view z) s) whole-after
        (all-machine fs (class_versions w.world.program class image homes) w after.versions each adds pinned is)

    then-marks : marks_of after.versions ≡ marks_over class marks w.world.program.methods (marks_of w.versions)
    then-marks =
        marks-all fs (class_versions w.world.program class image homes) w is.homes after.versions is.has each adds
        ∙ class-marks w.world.program formed.methods class of.file of.there image marks homes
        (version-marked w.world.program formed is.has.closed class marks image homes of few) (marks_of w.versions) (length-map w.versions.current (mark_of w.versions) ∙ is.has.are.count)

    pub installed-seen : view after ≡ with_class class marks (view w)
    installed-seen =
        ap view (sym whole-after)
        ∙ ap₂ (λ ms live. record (view w) { marks = ms; live = live }) then-marks
        (all-helds fs (class_versions w.world.program class image homes) w after.versions each adds pinned is)

-- ---- whatever the answer is

pub either-way : {A : Type 0} (P : Type 0) (r : Result A NoMemory) → OnOk r P → OnErr r P → P
either-way P (Ok a) ok err = ok
either-way P (Err e) ok err = err

pub on-ok-then : {A : Type 0} (P Q : Type 0) (r : Result A NoMemory) → (P → Q) → OnOk r P → OnOk r Q
on-ok-then P Q (Ok a) then_is ok = then_is ok
on-ok-then P Q (Err e) then_is ok = ok

pub on-err-then : {A : Type 0} (P Q : Type 0) (r : Result A NoMemory) → (P → Q) → OnErr r P → OnErr r Q
on-err-then P Q (Ok a) then_is err = err
on-err-then P Q (Err e) then_is err = then_is err
