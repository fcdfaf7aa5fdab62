-- How long versions are there: the method 0 begins in the version 0, and then in the version 1.
use Rattle.std.proofs.Common.{◌≡◌, ℕ, List, [], ◌∷◌, Some, None, refl, map}
use Rattle.std.specs.Prelude.{Option}
use Rattle.frame_stack.specs.FrameLists.{PlacedFrame, no_frames, with_new_frame}
use Rattle.method_versions.specs.declared.versions.Held.{Held}
use Rattle.method_versions.specs.Tables.{Table, held_with, held_for, current_of}

abbrev version : ℕ → Held ℕ
version prepared = record { method = 0; prepared = prepared }

abbrev first : Table ℕ
first = record { slots = Some (version 97) ∷ []; current = 0 ∷ []; spare = 3 }

abbrev one : List PlacedFrame
one = (with_new_frame 0 0 0 0 0 no_frames).frames

-- the former version stays while a frame runs it
run_by_one : map (held_with 1 (version 98) one first) (0 ∷ 1 ∷ []) ≡ Some (version 97) ∷ Some (version 98) ∷ []
run_by_one = refl

-- and is gone at once where none does
run_by_none : map (held_with 1 (version 98) [] first) (0 ∷ 1 ∷ []) ≡ None ∷ Some (version 98) ∷ []
run_by_none = refl

abbrev second : Table ℕ
second = record { slots = Some (version 97) ∷ Some (version 98) ∷ []; current = 1 ∷ []; spare = 2 }

begins_anew : current_of second 0 ≡ Some 1
begins_anew = refl

-- likewise where frames are over
still_run : map (held_for one second) (0 ∷ 1 ∷ []) ≡ Some (version 97) ∷ Some (version 98) ∷ []
still_run = refl

released : map (held_for [] second) (0 ∷ 1 ∷ []) ≡ None ∷ Some (version 98) ∷ []
released = refl
