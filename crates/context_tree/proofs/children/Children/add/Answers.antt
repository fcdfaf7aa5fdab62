use Rattle.std.proofs.Common.{nat_eq, ◌∙◌}
use Rattle.indexmap.proofs.CallerLemmas.{insert_entry-new}
use Rattle.context_tree.proofs.children.Children.add.Goals as goal

pub returns : goal.returns
returns c = rw (← c.self.view_is) (c.in_ok-insert.ensures.entries ∙ insert_entry-new nat_eq c.self.inside.entries c.args.method c.args.number (rw (c.self.view_is) (c.requires)))
