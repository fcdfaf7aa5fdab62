-- invokespecial of a method of an array type takes what the caller's superclass has, though no loaded class is named.
use Rattle.std.specs.Prelude.{◌≡◌, [], ◌∷◌, Some, refl, codes}
use Rattle.base_classes.specs.BuiltInClasses.{built_in_classes}
use Rattle.base_classes.specs.ObjectClasses.{object_classes}
use Rattle.base_classes.specs.TextClasses.{text_classes}
use Rattle.base_classes.specs.StreamClasses.{stream_classes}
use Rattle.base_classes.specs.ValueClasses.{value_classes}
use Rattle.base_classes.specs.ThrowableClasses.{throwable_classes}
use Rattle.base_classes.specs.Natives.{native_methods}
use Rattle.native_effects.specs.Inputs.KindsViews.{is_among}
use Rattle.native_ops.specs.Methods.Rows.{rows}
use Rattle.jvm_model.specs.Basis.Data.{Returned, Named, Anewarray, Began}
use Rattle.jvm_model.specs.declared.event.EventKind.TheVariants as kind
use Rattle.jvm_model.specs.declared.event.Mark.TheVariants.{Plain, Root}
use Rattle.jvm_model.specs.Running.Run.{turn_in}
use Rattle.jvm_model.specs.Profiling.Activations.{trace_in}
use Rattle.jvm_model.proofs.Worked.WorkedLibrary.{class}
use Rattle.jvm_model.proofs.Worked.WorkedPrograms.{Sketches, after, alone, at, call_special, changes_of, contexts_by, instance, int, ireturn, main_routine, member, pop, returns, selecting, sketch}
use Rattle.jvm_model.specs.Profiling.Points.{standing_in}
use Rattle.jvm_model.proofs.Worked.WorkedPoints.{events_by, event, swaps_by, swap}
use Rattle.jvm_model.specs.Profiling.Swaps.{points_in}

-- Baz's hashCode is method 0, and Bar's main is method 1
abbrev of_array : Sketches
of_array = record {
  classes = alone (codes "Baz") (instance (member (codes "hashCode") (codes "()I")) 1 1 (at 0 1 (int 1) ∷ at 1 1 ireturn ∷ []) ∷ [])
      ∷ sketch (class (codes "Bar") (codes "Baz") []) (
      main_routine 1 (
      at 0 1 (int 0) ∷ at 1 3 (Named (Anewarray (codes "Bar")))
      ∷ at 4 3 (call_special (codes "Bar") (codes "[LBar;") (codes "hashCode") (codes "()I")) ∷ at 7 1 pop ∷ at 8 1 returns ∷ [])
      ∷ [])
      ∷ [];
  main = 1;
}

of_array-begins : changes_of of_array 3 ≡ Began 0 ∷ []
unfolding turn_in native_methods rows built_in_classes object_classes text_classes stream_classes value_classes throwable_classes is_among
of_array-begins = refl

of_array-returns : (after of_array 7).ending ≡ Some Returned
unfolding turn_in native_methods rows built_in_classes object_classes text_classes stream_classes value_classes throwable_classes is_among
of_array-returns = refl

-- main is selected before the start
of_array-contexts : contexts_by of_array (selecting 1) 7 ≡ record { path = 1 ∷ []; calls = 1; own = 5 } ∷ record { path = 1 ∷ 0 ∷ []; calls = 1; own = 2 } ∷ []
unfolding trace_in turn_in native_methods rows built_in_classes object_classes text_classes stream_classes value_classes throwable_classes is_among
of_array-contexts = refl

of_array-events : events_by (selecting 1) of_array 7 ≡ event kind.Root 1 0 ∷ event kind.Enter 0 3 ∷ event kind.Leave 0 5 ∷ event kind.Leave 1 7 ∷ []
unfolding standing_in trace_in turn_in native_methods rows built_in_classes object_classes text_classes stream_classes value_classes throwable_classes is_among
of_array-events = refl

-- Bar is class 1 and Baz class 0
of_array-swaps : swaps_by (selecting 1) of_array 7 ≡ swap 0 1 (Root ∷ []) ∷ swap 0 0 (Plain ∷ []) ∷ []
unfolding points_in standing_in trace_in turn_in native_methods rows built_in_classes object_classes text_classes stream_classes value_classes throwable_classes is_among
of_array-swaps = refl
