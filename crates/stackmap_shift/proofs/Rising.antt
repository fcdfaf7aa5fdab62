-- Offsets that rise: with one more frame, and moved.
use Rattle.std.proofs.Common.{◌≡◌, ℕ, zero, suc, ◌<◌, List, [], ◌∷◌, ◌++◌, length, get_or, Option, Some, None, refl, sym, ◌∙◌, inl, inr, arith}
use Rattle.std.specs.Prelude.{All, Contains, slice_get, slice_index_or, unwrap_or}
use Rattle.std.specs.List.{AllByRecursion}
use Rattle.std.proofs.lemmas.Bool.{cases_lt}
use Rattle.std.proofs.lemmas.List.{length-map, length-append}
use Rattle.std.proofs.lemmas.List.Elements.{All-from_recursion, recursion_from_All, All-push}
use Rattle.code_model.specs.declared.laying.Homes.{Homes}
use Rattle.code_model.specs.Layout.{home_of}
use Rattle.code_model.proofs.Offsets.Searches.{rise-lt, rise-le, home_of-at}
use Rattle.stackmap_shift.specs.declared.frames.FrameKind.{FrameKind}
use Rattle.stackmap_shift.specs.declared.frames.FrameKind.TheVariants.{Same, OneItem, Chop, Append, Full}
use Rattle.stackmap_shift.specs.declared.frames.Frame.{Frame}
use Rattle.stackmap_shift.specs.Moves.{moved_type, moved_kind, moved_frame, moved_frames}
use Rattle.stackmap_shift.specs.Conditions.{FitsKind, FitsFrame, IsBehind, Rise, last_offset, AreWritable, AreHomes, EachStands}

-- ---- one more frame

pub last_offset-push : (before : Option ℕ) (frames : List Frame) (frame : Frame) → last_offset before (frames ++ frame ∷ []) ≡ Some frame.at
last_offset-push before [] frame = refl
last_offset-push before (f ∷ frames) frame = last_offset-push (Some f.at) frames frame

pub Rise-push : (before : Option ℕ) (frames : List Frame) (frame : Frame) → Rise before frames → IsBehind (last_offset before frames) frame.at → Rise before (frames ++ frame ∷ [])
Rise-push before [] frame rise behind = (behind, tt)
Rise-push before (f ∷ frames) frame rise behind = (rise.0, Rise-push (Some f.at) frames frame rise.1 behind)

-- ---- homes

slice_get-or : (xs : List ℕ) (i : ℕ) → unwrap_or (slice_get xs i) 0 ≡ get_or xs i 0
slice_get-or [] i = refl
slice_get-or (x ∷ xs) zero = refl
slice_get-or (x ∷ xs) (suc i) = slice_get-or xs i

-- what is contained stands at an index
same_at : (xs : List ℕ) (i x : ℕ) → i < length xs → slice_index_or xs i x ≡ x → get_or xs i 0 ≡ x
same_at [] i x lt e = absurd (omega arith)
same_at (y ∷ xs) zero x lt e = e
same_at (y ∷ xs) (suc i) x lt e = same_at xs i x (omega arith) e

-- the home of a start
home_of-start : (homes : Homes) (at : ℕ) → AreHomes homes → (at_start : Contains homes.from at) → home_of homes at ≡ get_or homes.home at_start.0 0
home_of-start homes at are start =
    let here : get_or homes.from start.0 0 ≡ at = same_at homes.from start.0 at start.1 start.2 in
    sym (home_of-at homes start.0 at are.starts start.1 here) ∙ slice_get-or homes.home start.0

-- a later start has a later home
pub home_of-rises : (homes : Homes) (a b : ℕ) → AreHomes homes → Contains homes.from a → Contains homes.from b → a < b → home_of homes a < home_of homes b
home_of-rises homes a b are at_a at_b lt = rw (home_of-start homes a are at_a, home_of-start homes b are at_b) (elim (cases_lt at_a.0 at_b.0) [
  | inl below ↦ rise-lt homes.home are.homes at_a.0 at_b.0 below (omega (arith, are.each, at_b.1))
  | inr above ↦
      let order = rise-le homes.from are.starts at_b.0 at_a.0 above at_a.1 in
      absurd (omega (arith, order, same_at homes.from at_a.0 a at_a.1 at_a.2, same_at homes.from at_b.0 b at_b.1 at_b.2))
])

-- ---- moved frames

moved-FitsKind : (homes : Homes) (kind : FrameKind) → FitsKind kind → FitsKind (moved_kind homes kind)
moved-FitsKind homes Same fits = fits
moved-FitsKind homes (OneItem item) fits = fits
moved-FitsKind homes (Chop count) fits = fits
moved-FitsKind homes (Append locals) fits = let same = length-map locals (moved_type homes) in (omega (arith, fits.0), omega (arith, fits.1))
moved-FitsKind homes (Full locals operands) fits =
    let same_locals = length-map locals (moved_type homes) in
    let same_operands = length-map operands (moved_type homes) in
    (omega (arith, fits.0), omega (arith, fits.1))

moved_frames-fit : (homes : Homes) (frames : List Frame) → AllByRecursion FitsFrame frames → AllByRecursion FitsFrame (moved_frames homes frames)
moved_frames-fit homes [] fit = tt
moved_frames-fit homes (f ∷ frames) fit = (moved-FitsKind homes f.kind fit.0, moved_frames-fit homes frames fit.1)

moved_frames-rise : (homes : Homes) (before : ℕ) (frames : List Frame) → AreHomes homes → Contains homes.from before → AllByRecursion (λ (f : Frame). Contains homes.from f.at) frames
    → Rise (Some before) frames → Rise (Some (home_of homes before)) (moved_frames homes frames)
moved_frames-rise homes before [] are at_before stand rise = tt
moved_frames-rise homes before (f ∷ frames) are at_before stand rise = (home_of-rises homes before f.at are at_before stand.0 rise.0, moved_frames-rise homes f.at frames are stand.0 stand.1 rise.1)

moved_frames-rise_all : (homes : Homes) (frames : List Frame) → AreHomes homes → AllByRecursion (λ (f : Frame). Contains homes.from f.at) frames → Rise None frames → Rise None (moved_frames homes frames)
moved_frames-rise_all homes [] are stand rise = tt
moved_frames-rise_all homes (f ∷ frames) are stand rise = (tt, moved_frames-rise homes f.at frames are stand.0 stand.1 rise.1)

pub moved_frames-writable : (homes : Homes) (frames : List Frame) → AreHomes homes → EachStands homes.from frames → AreWritable frames → AreWritable (moved_frames homes frames)
moved_frames-writable homes frames are stand writable =
    let same = length-map frames (moved_frame homes) in
    record {
      few = omega (arith, writable.few);
      rise = moved_frames-rise_all homes frames are (recursion_from_All (λ (f : Frame). Contains homes.from f.at) frames stand) writable.rise;
      fit = All-from_recursion FitsFrame (moved_frames homes frames) (moved_frames-fit homes frames (recursion_from_All FitsFrame frames writable.fit));
    }

-- ---- a frame behind moved ones

-- what is behind each frame is behind the last
behind_last : (before : Option ℕ) (frames : List Frame) (at : ℕ) → IsBehind before at → AllByRecursion (λ (f : Frame). f.at < at) frames → IsBehind (last_offset before frames) at
behind_last before [] at behind below = behind
behind_last before (f ∷ frames) at behind below = behind_last (Some f.at) frames at below.0 below.1

moved_frames-below : (homes : Homes) (frames : List Frame) (at : ℕ) → AreHomes homes → Contains homes.from at → AllByRecursion (λ (f : Frame). Contains homes.from f.at) frames
    → AllByRecursion (λ (f : Frame). f.at < at) frames → AllByRecursion (λ (f : Frame). f.at < home_of homes at) (moved_frames homes frames)
moved_frames-below homes [] at are at_start stand below = tt
moved_frames-below homes (f ∷ frames) at are at_start stand below = (home_of-rises homes f.at at are stand.0 at_start below.0, moved_frames-below homes frames at are at_start stand.1 below.1)

-- So a frame at the home of an offset behind all frames can be added to them, such as the frame of a handler at the
-- code's end.
pub moved_frames-push : (homes : Homes) (frames : List Frame) (at : ℕ) (kind : FrameKind) → AreHomes homes → EachStands homes.from frames → Contains homes.from at → All (λ (f : Frame). f.at < at) frames
    → AreWritable frames → length frames < 65535 → FitsKind kind → AreWritable (moved_frames homes frames ++ record { at = home_of homes at; kind = kind } ∷ [])
moved_frames-push homes frames at kind are stand at_start below writable few fits =
    let moved = moved_frames homes frames in
    let added : Frame = record { at = home_of homes at; kind = kind } in
    let whole = moved_frames-writable homes frames are stand writable in
    let each = moved_frames-below homes frames at are at_start (recursion_from_All (λ (f : Frame). Contains homes.from f.at) frames stand) (recursion_from_All (λ (f : Frame). f.at < at) frames below) in
    record {
      few = omega (arith, length-append moved (added ∷ []), length-map frames (moved_frame homes));
      rise = Rise-push None moved added whole.rise (behind_last None moved (home_of homes at) tt each);
      fit = All-push FitsFrame moved added whole.fit fits;
    }
