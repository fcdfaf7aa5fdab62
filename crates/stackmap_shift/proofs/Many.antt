-- Reading frames one after the other, each behind the one before, as a loop does.
use Rattle.std.proofs.Common.{◌≡◌, ◌≢◌, ℕ, suc, ◌-◌, ◌+◌, ◌≤◌, ◌<◌, List, [], ◌∷◌, ◌++◌, Option, Some, Ok, Err, refl, sym, ap, ◌∙◌, arith}
use Rattle.std.proofs.lemmas.List.{append-nil}
use Rattle.byte_formats.proofs.Many.{with_front-cons}
use Rattle.stackmap_shift.specs.declared.error.FrameError.{FrameError}
use Rattle.stackmap_shift.specs.declared.error.FrameError.TheVariants.{NoMemory}
use Rattle.stackmap_shift.specs.declared.frames.Frame.{Frame}
use Rattle.stackmap_shift.specs.Tables.{Read, with_front}
use Rattle.stackmap_shift.specs.Frames.{frame_at, frames_at}

with_front-frames_at : (limit : ℕ) (front : List Frame) (n : ℕ) (before : Option ℕ) (bytes : List ℕ) (x : Frame) (after : List ℕ) → frame_at before limit bytes ≡ Ok (x, after)
    → with_front front (frames_at (suc n) before limit bytes) ≡ with_front (front ++ x ∷ []) (frames_at n (Some x.at) limit after)
unfolding frames_at
with_front-frames_at limit front n before bytes x after h = rw h (with_front-cons front x (frames_at n (Some x.at) limit after))

pub frames_go_on : (limit : ℕ) (front : List Frame) (count i : ℕ) (before : Option ℕ) (bytes : List ℕ) (x : Frame) (after : List ℕ) (total : Read (List Frame)) → i < count → frame_at before limit bytes ≡ Ok (x, after)
    → with_front front (frames_at (count - i) before limit bytes) ≡ total → with_front (front ++ x ∷ []) (frames_at (count - (i + 1)) (Some x.at) limit after) ≡ total
frames_go_on limit front count i before bytes x after total lt h so_far =
    let k : count - i ≡ suc (count - (i + 1)) = omega arith in
    let one : with_front front (frames_at (count - i) before limit bytes) ≡ with_front (front ++ x ∷ []) (frames_at (count - (i + 1)) (Some x.at) limit after) = rw k (with_front-frames_at limit front (count - (i + 1)) before bytes x after h) in
    sym one ∙ so_far

pub frames_end : (limit : ℕ) (e : FrameError) (front : List Frame) (count i : ℕ) (before : Option ℕ) (bytes : List ℕ) (total : Read (List Frame)) → i < count → (e ≢ NoMemory → frame_at before limit bytes ≡ Err e)
    → with_front front (frames_at (count - i) before limit bytes) ≡ total → e ≢ NoMemory → total ≡ Err e
unfolding frames_at
frames_end limit e front count i before bytes total lt failed so_far fault =
    let k : count - i ≡ suc (count - (i + 1)) = omega arith in
    let one : with_front front (frames_at (count - i) before limit bytes) ≡ Err e = rw (k, failed fault) refl in
    sym so_far ∙ one

pub frames_done : (limit : ℕ) (front : List Frame) (count i : ℕ) (before : Option ℕ) (bytes : List ℕ) (total : Read (List Frame)) → count ≤ i → with_front front (frames_at (count - i) before limit bytes) ≡ total → total ≡ Ok (front, bytes)
unfolding frames_at
frames_done limit front count i before bytes total le so_far =
    let k : count - i ≡ 0 = omega arith in
    let one : with_front front (frames_at (count - i) before limit bytes) ≡ Ok (front, bytes) = rw k (ap (λ (xs : List Frame). Ok (xs, bytes)) (append-nil front)) in
    sym so_far ∙ one
