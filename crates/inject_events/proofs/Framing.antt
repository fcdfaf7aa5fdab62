-- Frames that were moved, with one more, can be written where they rise.
use Rattle.std.proofs.Common.{◌≡◌, ℕ, true, List, [], ◌∷◌, length, Option, Some, None, arith}
use Rattle.std.specs.Prelude.{All, nat_le}
use Rattle.std.specs.List.{AllByRecursion}
use Rattle.std.proofs.lemmas.Bool.{and_parts, ltb-true, leb-true}
use Rattle.std.proofs.lemmas.List.{length-map}
use Rattle.std.proofs.lemmas.List.Elements.{All-from_recursion, recursion_from_All}
use Rattle.code_model.specs.declared.laying.Homes.{Homes}
use Rattle.stackmap_shift.specs.declared.frames.Frame.{Frame}
use Rattle.stackmap_shift.specs.declared.frames.FrameKind.{FrameKind}
use Rattle.stackmap_shift.specs.declared.frames.FrameKind.TheVariants.{Same, OneItem, Chop, Append, Full}
use Rattle.stackmap_shift.specs.Conditions.{FitsKind, FitsFrame, IsBehind, Rise, AreWritable}
use Rattle.stackmap_shift.specs.Moves.{moved_type, moved_kind}
use Rattle.inject_events.specs.declared.settings.Setting.{Setting}
use Rattle.jvm_model.specs.Rewriting.ImageTables.{is_behind, rise_from, is_writable}
use Rattle.inject_events.specs.Tables.{version_frames}

-- ---- whether they rise

behind_is : (before : Option ℕ) (at : ℕ) → is_behind before at ≡ true → IsBehind before at
behind_is None at is = tt
behind_is (Some n) at is = ltb-true n at is

Rise-rise_from : (before : Option ℕ) (frames : List Frame) → rise_from before frames ≡ true → Rise before frames
Rise-rise_from before [] is = tt
Rise-rise_from before (frame ∷ rest) is =
    let both = and_parts (is_behind before frame.at) (rise_from (Some frame.at) rest) is in
    (behind_is before frame.at both.0, Rise-rise_from (Some frame.at) rest both.1)

pub AreWritable-is : (frames : List Frame) → is_writable frames ≡ true → All FitsFrame frames → AreWritable frames
AreWritable-is frames is fit =
    let both = and_parts (nat_le (length frames) 65535) (rise_from None frames) is in
    record { few = leb-true (length frames) 65535 both.0; rise = Rise-rise_from None frames both.1; fit = fit }

-- ---- whether they fit

fits-moved : (homes : Homes) (kind : FrameKind) → FitsKind kind → FitsKind (moved_kind homes kind)
fits-moved homes Same fits = fits
fits-moved homes (OneItem item) fits = fits
fits-moved homes (Chop count) fits = fits
fits-moved homes (Append locals) fits = let same = length-map locals (moved_type homes) in (omega (arith, fits.0), omega (arith, fits.1))
fits-moved homes (Full locals operands) fits =
    let same = length-map locals (moved_type homes) in
    let alike = length-map operands (moved_type homes) in
    (omega (arith, fits.0), omega (arith, fits.1))

fit-frames : (s : Setting) (homes : Homes) (end : ℕ) (frames : List Frame) → AllByRecursion FitsFrame frames → AllByRecursion FitsFrame (version_frames s homes end frames)
fit-frames s homes end [] fit = ((omega arith, omega arith), tt)
fit-frames s homes end (frame ∷ frames) fit = (fits-moved homes frame.kind fit.0, fit-frames s homes end frames fit.1)

pub FitsFrame-version : (s : Setting) (homes : Homes) (end : ℕ) (frames : List Frame) → All FitsFrame frames → All FitsFrame (version_frames s homes end frames)
FitsFrame-version s homes end frames fit = All-from_recursion FitsFrame (version_frames s homes end frames) (fit-frames s homes end frames (recursion_from_All FitsFrame frames fit))
