use Rattle.std.proofs.Common.{List, ℕ, Option, ◌+◌, take, sym, subst, ◌∙◌, refl, Bor}
use Rattle.byte_streams.specs.Streams.{Told}
use Rattle.command_line.specs.Words.{texts}
use Rattle.jfluid_cli.specs.Contents.{AreFetched, IsFrontFor}
use Rattle.jfluid_cli.specs.Sinks.{files_view}
use Rattle.jfluid_cli.proofs.Runs.BeforeTheRun.{one-refusal, one-fault}
use Rattle.jfluid_cli.proofs.Reports.Pairs.{there-among, zip-more}
use Rattle.jfluid_cli.proofs.loading.fetch_all.Goals as goal

abbrev word : Bor (List ℕ) → List ℕ
word s = s.now

pub returns-in-Err-clause-refused : goal.returns-in-Err-clause-refused
returns-in-Err-clause-refused g c =
    let is = there-among word c.args.names.now c.loop-at.at c.word_at.result.now c.loop-at-test.true c.word_at.ensures in
    let mid = files_view (g.F.Files.faults c.loop-at.files) (g.F.Files.last_failed c.loop-at.files) in
    let new = files_view (g.F.Files.faults c.fetch.new.files) (g.F.Files.last_failed c.fetch.new.files) in
    one-refusal (g.F.Files.contents c.args.files.now) (texts c.args.names.now) c.loop-at.all c.loop-at.at
    c.word_at.result.now mid new c.in-Err.refusal is.within c.loop-at.invariant.fetched c.in-Err.ensures.failed

pub returns-in-Err-clause-cause : goal.returns-in-Err-clause-cause
returns-in-Err-clause-cause g c = λ named.
    let is = there-among word c.args.names.now c.loop-at.at c.word_at.result.now c.loop-at-test.true c.word_at.ensures in
    let mid = files_view (g.F.Files.faults c.loop-at.files) (g.F.Files.last_failed c.loop-at.files) in
    let new = files_view (g.F.Files.faults c.fetch.new.files) (g.F.Files.last_failed c.fetch.new.files) in
    one-fault named (texts c.args.names.now) c.loop-at.at c.word_at.result.now _ mid new
    c.in-Err.refusal is.there c.loop-at.invariant.without_fault c.in-Err.ensures.failed

pub loop-at-preserved : goal.loop-at-preserved
loop-at-preserved g c =
    let is = there-among word c.args.names.now c.loop-at.at c.word_at.result.now c.loop-at-test.true c.word_at.ensures in
    record {
      fetched = subst (λ (all : List (List ℕ)). AreFetched (g.F.Files.contents c.args.files.now)
          (take (c.loop-at.at + 1) (texts c.args.names.now)) all) (sym c.in-Ok-push.ensures.items)
          (zip-more (IsFrontFor (g.F.Files.contents c.args.files.now)) (texts c.args.names.now)
          c.loop-at.all c.loop-at.at c.word_at.result.now c.in-Ok.bytes is.within is.is
          c.loop-at.invariant.fetched
          (subst (λ (told : Option Told). IsFrontFor told c.word_at.result.now c.in-Ok.bytes)
          c.loop-at.invariant.stay c.in-Ok.ensures.found));
      stay = c.in-Ok.ensures.stay ∙ c.loop-at.invariant.stay;
      without_fault = c.in-Ok.ensures.without_fault refl ∙ c.loop-at.invariant.without_fault;
    }
