use Rattle.std.proofs.Common.{◌≡◌, false, ap, rules, sym, ◌∙◌}
use Rattle.std.specs.Prelude.{Some, None, slice_get, ◌==◌}
use Rattle.possible_callees.specs.Ranks.{rank_of}
use Rattle.possible_callees.proofs.Classes.RankLemmas.{no-rank, not-that, other-rank, this-rank}
use Rattle.possible_callees.proofs.load_order.LoadOrder.rank.Goals as goal

pub returns-in_err-rank : goal.returns-in_err-rank
returns-in_err-rank c =
    let none : slice_get c.self.inside.ranks c.args.class ≡ None = search rules in
    let result : c.from_residual.result ≡ None = search rules in
    result ∙ (sym (no-rank c.self.inside.ranks c.self.inside.classes c.self.invariant c.args.class none) ∙ ap (rank_of c.args.class) c.self.view_is)

pub returns-in_err-at : goal.returns-in_err-at
returns-in_err-at c =
    let kept : slice_get c.self.inside.ranks c.args.class ≡ Some c.in_ok-rank.rank = search rules in
    let none : slice_get c.self.inside.classes c.in_ok-rank.rank ≡ None = search rules in
    let result : c.from_residual-in_err-at.result ≡ None = search rules in
    result ∙ (sym (other-rank c.self.inside.ranks c.self.inside.classes c.self.invariant c.args.class c.in_ok-rank.rank None kept none (λ e. cc))
    ∙ ap (rank_of c.args.class) c.self.view_is)

pub returns-then-branch-class : goal.returns-then-branch-class
returns-then-branch-class c =
    let there : slice_get c.self.inside.classes c.in_ok-rank.rank ≡ Some c.args.class = search rules in
    sym (sym (ap (rank_of c.args.class) c.self.view_is) ∙ this-rank c.self.inside.ranks c.self.inside.classes c.self.invariant c.args.class c.in_ok-rank.rank there)

pub returns-else-branch-class : goal.returns-else-branch-class
returns-else-branch-class c =
    let kept : slice_get c.self.inside.ranks c.args.class ≡ Some c.in_ok-rank.rank = search rules in
    let there : slice_get c.self.inside.classes c.in_ok-rank.rank ≡ Some c.in_ok-at.field-0 = search rules in
    let other : (c.in_ok-at.field-0 == c.args.class) ≡ false = search rules in
    sym (sym (ap (rank_of c.args.class) c.self.view_is)
    ∙ other-rank c.self.inside.ranks c.self.inside.classes c.self.invariant c.args.class c.in_ok-rank.rank (Some c.in_ok-at.field-0) kept there
    (not-that c.in_ok-at.field-0 c.args.class other))
