-- What is shown of a run: its images and its report, or the images as far as they were put.
use Rattle.std.proofs.Common.{ℕ, Bool, inl}
use Rattle.std.specs.Prelude.{Result, Ok, Err, MatchResult}
use Rattle.profile_session.specs.Sessions.{Profiling}
use Rattle.jfluid_cli.specs.declared.refusal.Refusal.{Refusal}
use Rattle.jfluid_cli.specs.Calls.{IsReported, IsShown}
use Rattle.jfluid_cli.specs.Images.{IsImaged}
use Rattle.jfluid_cli.specs.Sinks.{SinkView}

-- the report behind all images
pub shown-behind : (r : Result ℕ Refusal) (summary asked : Bool) (v : Profiling) (before after old new : SinkView) (E : Refusal → Type 0)
    → IsImaged asked v before after → MatchResult r (IsReported summary v old new) E
    → MatchResult r (IsShown summary asked v before after old new) E
shown-behind (Ok status) summary asked v before after old new E imaged reported = inl (imaged, reported)
shown-behind (Err refusal) summary asked v before after old new E imaged untold = untold
