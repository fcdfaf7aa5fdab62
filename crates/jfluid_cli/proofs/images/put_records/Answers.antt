use Rattle.std.proofs.Common.{ℕ, List, Option, length, take, refl, sym, ap, ◌∙◌, add-one}
use Rattle.std.proofs.lemmas.Option.{slice_get_read}
use Rattle.std.specs.Io.KnownBytes.{append_known}
use Rattle.byte_streams.proofs.StreamLemmas.{append_known-append, PutsPrefix-second}
use Rattle.jfluid_cli.specs.Images.{swap_record, swap_records}
use Rattle.jfluid_cli.proofs.Reports.Outputs.{PutsPrefix-longer}
use Rattle.jfluid_cli.proofs.Reports.Records.{records-front, records-more}
use Rattle.jfluid_cli.proofs.images.put_records.Goals as goal

pub loop-swap-preserved : goal.loop-swap-preserved
loop-swap-preserved g c =
    let swaps = c.args.swaps.now in
    let at = c.loop-swap.swap-index in
    let swap = c.swap-item.result in
    let there = slice_get_read swaps (length swaps) at swap refl c.loop-swap-test.true c.swap-item.is in
    let old = g.G.Sink.taken c.args.images.now in
    record {
      put = c.in_ok-put_record.ensures.all
          ∙ (ap (λ (known : Option (List ℕ)). append_known known (swap_record swap)) c.loop-swap.invariant.put
          ∙ (append_known-append old (swap_records (take at swaps)) (swap_record swap)
          ∙ ap (append_known old)
          (sym (records-more swaps at swap there)
          ∙ ap (λ n. swap_records (take n swaps)) (sym (add-one at)))));
      without_fault = c.in_ok-put_record.ensures.cause ∙ c.loop-swap.invariant.without_fault;
    }

pub returns-in_err-put_record-clause-prefix : goal.returns-in_err-put_record-clause-prefix
returns-in_err-put_record-clause-prefix g c =
    let swaps = c.args.swaps.now in
    let at = c.loop-swap.swap-index in
    let swap = c.swap-item.result in
    let there = slice_get_read swaps (length swaps) at swap refl c.loop-swap-test.true c.swap-item.is in
    let old = g.G.Sink.taken c.args.images.now in
    let new = g.G.Sink.taken c.put_record.new.images in
    PutsPrefix-longer old new _ (swap_records swaps) (records-front swaps at swap there)
    (PutsPrefix-second old (g.G.Sink.taken c.loop-swap.images) new (swap_records (take at swaps)) (swap_record swap)
    c.loop-swap.invariant.put c.put_record.ensures.prefix)
