-- What marks at points rest on: in a run of a whole program, whatever begins is a target of its parent's method, and so
-- each activation begins in a version that suits it.
use Rattle.std.proofs.Common.{◌≡◌, ℕ, ◌≤◌, true, List, [], length, is_some, arith}
use Rattle.jvm_model.specs.declared.event.Act.{Act}
use Rattle.jvm_model.specs.Profiling.Activations.{trace_before}
use Rattle.jvm_model.specs.Soundness.Calls.{AreFrom, IsTold}
use Rattle.jvm_model.specs.Soundness.Climbing.{HasBareObject}
use Rattle.jvm_model.specs.Basis.Data.{World}
use Rattle.jvm_model.specs.Profiling.Points.{marking_of}
use Rattle.jvm_model.specs.Basis.Programs.{place_of_method}
use Rattle.jvm_model.specs.Profiling.Revelation.{IsLoadOrder}
use Rattle.jvm_model.specs.Running.Run.{before, run, turn}
use Rattle.jvm_model.specs.Soundness.Sound.{IsFit}
use Rattle.jvm_model.specs.Soundness.Suited.{StaySuited}
use Rattle.jvm_model.specs.Profiling.Targets.{operations_of}
use Rattle.jvm_model.specs.Soundness.Whole.{HasSoundCodes, IsWhole}
use Rattle.jvm_model.proofs.Revealing.CalledRuns.{RunStands, run-sound, run-told, start-loaded}
use Rattle.jvm_model.proofs.Relocated.ClosedBy.{closed-by}
use Rattle.jvm_model.proofs.Loading.Library.{library-bare, library-order}
use Rattle.jvm_model.proofs.Loading.LoadOrder.{before-order, load-order}
use Rattle.jvm_model.proofs.Events.Marked.{suits-run}
use Rattle.jvm_model.proofs.Soundness.Ranked.{AreInOrder, none-ranked, order-ranked, ranked-climbs, run-keeps, run-ranked}
use Rattle.jvm_model.proofs.Relocated.StandingFrames.{closed-stands, places-stand}

-- What is asked of a program: that it is fit, that nothing stands above java/lang/Object, that the built-in classes
-- stand each behind what it needs, that its main method is one, and that its codes are such as admission accepts.
pub record IsRevealable (w : World) : Type 0 where
  pub fit : IsFit w.program
  pub bare : HasBareObject w.program
  pub order : AreInOrder w.program [] (before w).shared.loaded
  pub main : is_some (place_of_method w.program w.program.main) ≡ true
  pub codes : HasSoundCodes w.program

module _ (w : World) (is : IsRevealable w) where
  -- some classes are built in
  some : 2 ≤ length w.program.classes
  some = let whole : 53 ≤ length w.program.classes = is.fit.before.whole in omega (arith, whole)

  pub stands : RunStands w is.fit is.bare (operations_of w.program) is.main
  stands =
      let sound = run-sound w is.fit is.bare (operations_of w.program) is.main in
      record {
        at = λ n. places-stand w is.fit is.bare is.main (run w n).shared.loaded (run w n).stack (sound n).stack (closed-stands w (closed-by w.program is.codes) n);
        climbs = λ n. ranked-climbs w.program some (run w n).shared.loaded
            (run-ranked w is.fit (order-ranked w.program [] (before w).shared.loaded is.order (none-ranked w.program))
            (start-loaded w is.fit is.bare (operations_of w.program) is.main) sound n);
      }

  pub calls-told : (n : ℕ) → IsTold w (operations_of w.program) n
  calls-told = run-told w is.fit is.bare (operations_of w.program) is.main stands

  pub run-suits : (acts : List Act) → AreFrom 0 acts → (n : ℕ) → StaySuited acts (marking_of acts w) n (trace_before w n) (turn w n).changes
  run-suits acts from = suits-run acts w (operations_of w.program) from calls-told

  -- the classes that are loaded come each once, behind what stands above them
  pub run-order : (n : ℕ) → IsLoadOrder w.program [] (run w n).shared.loaded
  run-order =
      run-keeps w is.fit (IsLoadOrder w.program []) (load-order w.program) (before-order w is.order)
      (start-loaded w is.fit is.bare (operations_of w.program) is.main) (run-sound w is.fit is.bare (operations_of w.program) is.main)

pub revealable : (w : World) → IsWhole w.program → IsRevealable w
revealable w is = record {
  fit = is.fit;
  bare = library-bare w.program is.fit is.own is.classes is.methods is.free;
  order = library-order w.program is.fit is.own is.classes is.methods is.free;
  main = is.main;
  codes = is.codes;
}
