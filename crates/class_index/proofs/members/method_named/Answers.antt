use Rattle.std.proofs.Common.{◌∙◌, ap₂}
use Rattle.class_index.specs.Buckets.{member_sought}
use Rattle.class_index.specs.Members.{wanted_view}
use Rattle.class_index.proofs.BucketLemmas.{method_found}
use Rattle.class_index.proofs.members.method_named.Goals as goal

pub returns : goal.returns
returns c =
    c.member_sought.ensures
    ∙ (ap₂ (λ ms bs. member_sought c.args.file.now.pool ms bs (wanted_view c.args.wanted.now)) c.as_slice-members.ensures c.as_slice.ensures
    ∙ method_found c.args.file.now c.args.table.now (wanted_view c.args.wanted.now) c.requires)
