use Rattle.std.proofs.Common.{ap, map, refl, ◌∙◌}
use Rattle.std.specs.String.{string_bytes}
use Rattle.played_rows.proofs.RevelationLemmas.FileLemmas.{more-read, none-read, one-unread}
use Rattle.played_rows.proofs.revelation.parts.read_files.Goals as goal

pub loop-path-init : goal.loop-path-init
loop-path-init g c = (refl, none-read _ _ _ (ap (map (λ v. v.items)) c.new.ensures.items) c.new-2.ensures.bytes)

pub loop-path-preserved : goal.loop-path-preserved
loop-path-preserved g c = (
  c.add_file.ensures.stay ∙ c.loop-path.invariant.0,
  more-read (λ path. string_bytes path) c.args.paths.now c.loop-path.path-index c.path-item.result _ _ _ _ _ _ _
      c.loop-path-test.true c.path-item.is c.loop-path.invariant.0 c.as_str.ensures.value c.loop-path.invariant.1
      c.in-Ok.ensures.added,
)

pub returns-in-Err-clause-fails : goal.returns-in-Err-clause-fails
returns-in-Err-clause-fails g c =
    one-unread (λ path. string_bytes path) c.args.paths.now c.loop-path.path-index c.path-item.result _ c.in-Err.error
    c.loop-path-test.true c.path-item.is c.as_str.ensures.value c.in-Err.ensures.fails
