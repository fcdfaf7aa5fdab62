-- The points of a run in order, each with what stands at it, and the classes whose marks change at one, with their
-- images.
use Rattle.std.specs.Prelude.{◌≡◌, refl, ℕ, zero, suc, Bool, true, false, not, List, [], ◌∷◌, ◌++◌, map, filter, count_by, nat_lt, Option, Some, unwrap_or, ◌==◌, ◌&&◌, if◌then◌else◌}
use Rattle.std.specs.List.{list_any, enumerate_from}
use Rattle.std.specs.Option.{option_map_or}
use Rattle.const_pool.specs.declared.class.ClassFile.{ClassFile}
use Rattle.const_pool.specs.declared.class.Member.{Member}
use Rattle.const_pool.specs.ClassFile.{Spells}
use Rattle.code_model.specs.declared.laying.Homes.{Homes}
use Rattle.jvm_model.specs.declared.event.Act.{Act}
use Rattle.jvm_model.specs.declared.event.Mark.{Mark}
use Rattle.jvm_model.specs.declared.event.Mark.TheVariants.{Off, Plain, Root}
use Rattle.jvm_model.specs.Basis.Data.{MethodPlace, Program, Change, Loads, Began, Left, Unwound, Local, Operation, Listing, World}
use Rattle.jvm_model.specs.Rewriting.Images.{IsImage}
use Rattle.jvm_model.specs.Basis.Programs.{class_at, no_class, number_of_method}
use Rattle.jvm_model.specs.Running.Run.{turn_in}
use Rattle.jvm_model.specs.Profiling.Points.{Standing, nothing, standing_settled, acts_at, acts_behind, after_act, after_change, after_changes, is_profiled, mark_in, standing_in}

-- a point of a step, with what stands there
pub record Point : Type 0 where
  pub clock : ℕ
  pub standing : Standing

abbrev pub point : ℕ → Standing → Point
point clock s = record { clock = clock; standing = s }

-- behind a load, and behind the begin of a profiled activation
abbrev pub change_point : List Act → ℕ → Change → Standing → List Point
change_point acts step (Loads classes) s = point step s ∷ []
change_point acts step (Began method) s = if is_profiled acts s.trace then point step s ∷ [] else []
change_point acts step Left s = []
change_point acts step Unwound s = []

abbrev pub change_points : List Act → ℕ → Standing → List Change → List Point
change_points acts step s [] = []
change_points acts step s (c ∷ more) =
    let next = after_change acts step s c in change_point acts step c next ++ change_points acts step next more

-- behind each action
abbrev pub act_points : List Act → ℕ → Standing → List Act → List Point
act_points acts step s [] = []
act_points acts step s (act ∷ more) = let next = after_act acts s act in point step next ∷ act_points acts step next more

-- of a step: those of its changes, its end, and those of the actions behind it
abbrev pub step_points : List Act → ℕ → Standing → List Change → List Point
step_points acts step s changes =
    let «end» = standing_settled acts (after_changes acts step s changes) in
    change_points acts step s changes ++ point step «end» ∷ act_points acts step «end» (acts_behind step acts)

-- of the start and so many steps over a listing
unfoldable pub points_in : List Act → World → Listing → ℕ → List Point
points_in acts w t zero = act_points acts 0 (nothing w) (acts_at 0 acts) ++ step_points acts 0 (standing_in acts w t 0) (turn_in w t 0).changes
points_in acts w t (suc n) = points_in acts w t n ++ step_points acts (suc n) (standing_in acts w t (suc n)) (turn_in w t (suc n)).changes

-- ---- swaps

abbrev pub same_mark : Mark → Mark → Bool
same_mark Off Off = true
same_mark Plain Plain = true
same_mark Root Root = true
same_mark _ _ = false

-- a method of the class has another mark
abbrev pub differs : Program → (ℕ → List (Operation Local)) → Standing → Standing → ℕ → Bool
differs p code before now class =
    list_any (λ (e : ℕ × MethodPlace). e.1.class == class && not (same_mark (mark_in p code before e.0) (mark_in p code now e.0))) (enumerate_from 0 p.methods)

-- the marks of the methods of a class, in its order; one without Code has none but Off
abbrev pub marks_of_class : Program → (ℕ → List (Operation Local)) → Standing → ℕ → List Mark
marks_of_class p code s class =
    map (λ (e : ℕ × Member). option_map_or (mark_in p code s) (number_of_method p class e.0) Off) (enumerate_from 0 (unwrap_or (class_at p class) no_class).methods)

-- a class is swapped at a clock for the image with these marks
pub record Swapped : Type 0 where
  pub clock : ℕ
  pub class : ℕ
  pub marks : List Mark

abbrev pub class_swapped : Program → (ℕ → List (Operation Local)) → Point → ℕ → Swapped
class_swapped p code now class = record { clock = now.clock; class = class; marks = marks_of_class p code now.standing class }

abbrev pub swapped_at : Program → (ℕ → List (Operation Local)) → Standing → Point → List Swapped
swapped_at p code before now = map (class_swapped p code now) (filter (differs p code before now.standing) now.standing.loaded)

-- in the order of the points, and at each in load order
abbrev pub swaps_from : Program → (ℕ → List (Operation Local)) → Standing → List Point → List Swapped
swaps_from p code before [] = []
swaps_from p code before (now ∷ more) = swapped_at p code before now ++ swaps_from p code now.standing more

abbrev pub swaps_in : List Act → World → Listing → (ℕ → List (Operation Local)) → ℕ → List Swapped
swaps_in acts w t code n = swaps_from w.program code (nothing w) (points_in acts w t n)

-- how many methods with Code the classes in front of a class have: the number of its first one
abbrev pub first_number : Program → ℕ → ℕ
first_number p class = count_by (λ (place : MethodPlace). nat_lt place.class class) p.methods

-- the bytes in an entry: those that spell the class's image for its marks
pub record HasBytes (p : Program) (entry : Swapped) (bytes : List ℕ) : Type 0 where
  pub class : ClassFile
  pub image : ClassFile
  pub homes : List (Option Homes)
  pub found : class_at p entry.class ≡ Some class
  pub imaged : IsImage class (first_number p entry.class) entry.marks image homes
  pub spelled : Spells bytes image

-- ---- the last point before an activation begins

-- all points before a step
abbrev pub points_before : List Act → World → Listing → ℕ → List Point
points_before acts w t zero = act_points acts 0 (nothing w) (acts_at 0 acts)
points_before acts w t (suc n) = points_in acts w t n

-- what stands at the last of these points, or else this
abbrev pub last_standing : Standing → List Point → Standing
last_standing s [] = s
last_standing s (p ∷ more) = last_standing p.standing more

pub points_in-zero : (acts : List Act) (w : World) (t : Listing)
    → points_in acts w t 0 ≡ act_points acts 0 (nothing w) (acts_at 0 acts) ++ step_points acts 0 (standing_in acts w t 0) (turn_in w t 0).changes
unfolding points_in
points_in-zero acts w t = refl

pub points_in-suc : (acts : List Act) (w : World) (t : Listing) (n : ℕ)
    → points_in acts w t (suc n) ≡ points_in acts w t n ++ step_points acts (suc n) (standing_in acts w t (suc n)) (turn_in w t (suc n)).changes
unfolding points_in
points_in-suc acts w t n = refl
