-- What a law on the steps of a run says of calls: each activation that begins is of a method of a loaded class, and one
-- that has a parent is a target of the parent's method, over the classes that are loaded by then.
use Rattle.std.specs.Prelude.{◌≡◌, ◌≤◌, ℕ, zero, suc, Bool, true, false, List, [], ◌∷◌, ◌++◌, length, Some, unwrap_or, ◌==◌, ◌||◌}
use Rattle.std.specs.Option.{option_map_or}
use Rattle.const_pool.specs.declared.class.ClassFile.{ClassFile}
use Rattle.const_pool.specs.declared.class.CodeAttribute.{CodeAttribute}
use Rattle.jvm_model.specs.Basis.Methods.{method_code}
use Rattle.jvm_model.specs.declared.event.Act.{Act}
use Rattle.jvm_model.specs.Basis.Data.{Program, Entry, Active, Initializing, Change, Loads, Began, Left, Unwound, Local, Operation, World}
use Rattle.jvm_model.specs.Codes.Places.{is_place}
use Rattle.jvm_model.specs.Basis.Programs.{by_number}
use Rattle.jvm_model.specs.Running.Changes.{methods, without_first}
use Rattle.jvm_model.specs.Classes.Load.{is_among}
use Rattle.jvm_model.specs.Running.Run.{before, run, turn}
use Rattle.jvm_model.specs.Profiling.Points.{has_class}
use Rattle.jvm_model.specs.Profiling.Targets.{targets_in}

-- moments do not fall
abbrev pub AreFrom : ℕ → List Act → Type 0
AreFrom least [] = Unit {0}
AreFrom least (act ∷ more) = (least ≤ act.moment) × AreFrom act.moment more

-- on these live methods, the current one first
abbrev pub IsCalled : Program → (ℕ → List (Operation Local)) → List ℕ → List ℕ → ℕ → Type 0
IsCalled p code loaded [] method = Unit {0}
IsCalled p code loaded (caller ∷ rest) method = is_among method (targets_in p loaded (code caller)) ≡ true

abbrev pub AreCalled : Program → (ℕ → List (Operation Local)) → List ℕ → List ℕ → List Change → Type 0
AreCalled p code loaded live [] = Unit {0}
AreCalled p code loaded live (Loads classes ∷ more) = AreCalled p code loaded live more
AreCalled p code loaded live (Began method ∷ more) =
    (has_class p loaded method ≡ true) × IsCalled p code loaded live method × AreCalled p code loaded (method ∷ live) more
AreCalled p code loaded live (Left ∷ more) = AreCalled p code loaded (without_first live) more
AreCalled p code loaded live (Unwound ∷ more) = AreCalled p code loaded (without_first live) more

-- the classes that a step loads
abbrev pub loads_of : List Change → List ℕ
loads_of [] = []
loads_of (Loads classes ∷ more) = classes ++ loads_of more
loads_of (Began method ∷ more) = loads_of more
loads_of (Left ∷ more) = loads_of more
loads_of (Unwound ∷ more) = loads_of more

-- what is loaded, and of which methods the frames are, before a step
abbrev pub loaded_before : World → ℕ → List ℕ
loaded_before w zero = (before w).shared.loaded
loaded_before w (suc n) = (run w n).shared.loaded

abbrev pub methods_before : World → ℕ → List ℕ
methods_before w zero = []
methods_before w (suc n) = methods (run w n).stack

-- what a step tells to load is what it loads, and what begins is called
pub record IsTold (w : World) (code : ℕ → List (Operation Local)) (n : ℕ) : Type 0 where
  pub loads : (run w n).shared.loaded ≡ loaded_before w n ++ loads_of (turn w n).changes
  pub calls : AreCalled w.program code (run w n).shared.loaded (methods_before w n) (turn w n).changes

-- ---- where frames stand

-- the code's end, at which ranges of handlers can end
abbrev pub is_code_end : ClassFile → ℕ → ℕ → Bool
is_code_end c position at = option_map_or (λ (code : CodeAttribute). length code.code == at) (method_code c position) false

-- the places of a method: the starts of its instructions, and its code's end
abbrev pub places_of : Program → ℕ → ℕ → Bool
places_of p method at = unwrap_or (by_number p (λ c position. Some (is_place c position at || is_code_end c position at)) method) true

-- the current frame, if it is on top
abbrev pub StandsAtPlace : Program → List Entry → Type 0
StandsAtPlace p [] = Unit {0}
StandsAtPlace p (Active f ∷ below) = places_of p f.version f.place ≡ true
StandsAtPlace p (Initializing class part ∷ below) = Unit {0}
