-- What marks look at: all that a revelation keeps of what stands at a moment.
use Rattle.std.specs.Prelude.{ℕ, not, List, [], ◌∷◌, map, filter, ◌==◌}
use Rattle.std.specs.List.{enumerate_from}
use Rattle.jvm_model.specs.declared.event.Mark.{Mark}
use Rattle.jvm_model.specs.Profiling.Activations.{no_trace}
use Rattle.jvm_model.specs.Basis.Data.{MethodPlace, Program}
use Rattle.jvm_model.specs.Profiling.Points.{Standing, mark_in, with_entered}
use Rattle.jvm_model.specs.Profiling.Swaps.{differs}
use Rattle.jvm_model.specs.Profiling.Targets.{operations_of}

-- the selected methods, the entered ones, and the loaded classes in load order
pub record Revealed : Type 0 where
  pub selected : List ℕ
  pub entered : List ℕ
  pub loaded : List ℕ

-- as it stands where nothing has begun, since no mark looks at activations
abbrev pub stand_of : Revealed → Standing
stand_of r = record { selected = r.selected; entered = r.entered; loaded = r.loaded; trace = no_trace }

abbrev pub revealed_in : Standing → Revealed
revealed_in s = record { selected = s.selected; entered = s.entered; loaded = s.loaded }

-- ---- marks

abbrev pub mark_of : Program → Revealed → ℕ → Mark
mark_of p r method = mark_in p (operations_of p) (stand_of r) method

-- of all methods, by their numbers
abbrev pub marks_of : Program → Revealed → List Mark
marks_of p r = map (λ (e : ℕ × MethodPlace). mark_of p r e.0) (enumerate_from 0 p.methods)

-- the loaded classes with a method that has another mark, in load order
abbrev pub changed_of : Program → Revealed → Revealed → List ℕ
changed_of p before now = filter (differs p (operations_of p) (stand_of before) (stand_of now)) now.loaded

-- ---- what becomes of it

abbrev pub without_method : ℕ → List ℕ → List ℕ
without_method method methods = filter (λ m. not (m == method)) methods

abbrev pub with_selected : ℕ → Revealed → Revealed
with_selected method r = record r { selected = method ∷ without_method method r.selected }

abbrev pub without_selected : ℕ → Revealed → Revealed
without_selected method r = record r { selected = without_method method r.selected }

abbrev pub with_method_entered : ℕ → Revealed → Revealed
with_method_entered method r = record r { entered = with_entered method r.entered }

abbrev pub with_loaded : List ℕ → Revealed → Revealed
with_loaded loaded r = record r { loaded = loaded }

-- at a quiet point
abbrev pub with_none_entered : Revealed → Revealed
with_none_entered r = record r { entered = [] }
