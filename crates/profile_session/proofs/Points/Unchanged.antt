-- A point at which nothing is revealed that was not before: no class changes its marks, and nothing is swapped.
use Rattle.std.proofs.Common.{◌≡◌, ℕ, ◌+◌, Bool, true, false, not, List, [], ◌∷◌, ◌++◌, refl, sym, ap, ap₂, ◌∙◌}
use Rattle.std.specs.Prelude.{◌||◌, ◌&&◌, ◌==◌, filter, if◌then◌else◌}
use Rattle.std.specs.List.{list_any, enumerate_from}
use Rattle.std.proofs.lemmas.List.{append-nil}
use Rattle.std.proofs.Math.Bool.{and-false}
use Rattle.jvm_model.specs.declared.program.MethodPlace.{MethodPlace}
use Rattle.jvm_model.specs.declared.program.Program.{Program}
use Rattle.jvm_model.specs.Classes.Load.{is_among}
use Rattle.jvm_model.specs.Profiling.Points.{mark_in}
use Rattle.jvm_model.specs.Profiling.Revealed.{Revealed, changed_of, stand_of, with_method_entered}
use Rattle.jvm_model.specs.Profiling.Swaps.{differs, same_mark}
use Rattle.jvm_model.specs.Profiling.Targets.{operations_of}
use Rattle.call_revelation.proofs.Revelations.Shown.{same-itself}
use Rattle.profile_session.specs.declared.parts.Parts.{Parts}
use Rattle.profile_session.specs.Keeping.{swapped_now}
use Rattle.profile_session.specs.Parts.{AreFit, AreShown, IsPoint, Shows, revealed_in}
use Rattle.profile_session.proofs.Points.Points.{point-by}
use Rattle.profile_session.proofs.Swaps.SwappedClasses.{changed-shown}

-- no mark differs from itself
differs-nowhere : (p : Program) (r : Revealed) (class n : ℕ) (l : List MethodPlace)
    → list_any (λ (e : ℕ × MethodPlace). e.1.class == class && not (same_mark (mark_in p (operations_of p) (stand_of r) e.0) (mark_in p (operations_of p) (stand_of r) e.0))) (enumerate_from n l) ≡ false
differs-nowhere p r class n [] = refl
differs-nowhere p r class n (x ∷ l) =
    ap₂ (λ a b. a || b)
    (ap (λ b. x.class == class && not b) (same-itself (mark_in p (operations_of p) (stand_of r) n)) ∙ and-false (x.class == class))
    (differs-nowhere p r class (n + 1) l)

none-left : (f : ℕ → Bool) (l : List ℕ) → ((x : ℕ) → f x ≡ false) → filter f l ≡ []
none-left f [] never = refl
none-left f (x ∷ l) never = ap (λ b. if b then x ∷ filter f l else filter f l) (never x) ∙ none-left f l never

pub unchanged : (p : Program) (r : Revealed) → changed_of p r r ≡ []
unchanged p r = none-left (differs p (operations_of p) (stand_of r) (stand_of r)) r.loaded (λ class. differs-nowhere p r class 0 p.methods)

shows-itself : (x : Parts) → AreFit x → AreShown x → Shows x x
shows-itself x fit shown =
    let p = x.vm.program in
    let r = revealed_in x in
    record {
      same = refl;
      vm = ap (λ marks. record x.vm { marks = marks }) (fit.marks ∙ shown);
      now = refl;
      swaps = sym (ap (λ l. x.swaps ++ swapped_now p x.vm.clock r l) (changed-shown p x.reveal.shown r r shown ∙ unchanged p r) ∙ append-nil x.swaps);
      fit = fit;
      shown = shown;
    }

-- a method that was entered before
pub point-itself : (x : Parts) (method : ℕ) → AreFit x → AreShown x → is_among method (revealed_in x).entered ≡ true → IsPoint x (with_method_entered method (revealed_in x)) x
point-itself x method fit shown known =
    let r = revealed_in x in
    point-by x x x.reveal (with_method_entered method r) shown refl
    (sym (ap (λ b. record r { entered = if b then r.entered else method ∷ r.entered }) known))
    (shows-itself x fit shown)
