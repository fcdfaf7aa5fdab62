use Rattle.std.proofs.Common.{◌≡◌, false, length, rules, subst, sym}
use Rattle.std.specs.Prelude.{slice_set}
use Rattle.jvm_model.specs.Classes.Load.{is_among}
use Rattle.possible_callees.specs.Ranks.{IsRanked}
use Rattle.possible_callees.proofs.Classes.RankLemmas.{ranked-more, ranked-padded}
use Rattle.possible_callees.proofs.load_order.LoadOrder.add.Goals as goal

pub invariant_of-self : goal.invariant_of-self
invariant_of-self c =
    ranked-padded c.self.inside.ranks c.make_room.new.items c.self.inside.classes c.make_room.ensures.padded c.self.invariant

pub invariant_of-self-in_err-push : goal.invariant_of-self-in_err-push
invariant_of-self-in_err-push c =
    subst (IsRanked c.make_room.new.items) (sym c.in_err-push.ensures.items)
    (ranked-padded c.self.inside.ranks c.make_room.new.items c.self.inside.classes c.make_room.ensures.padded c.self.invariant)

pub invariant_of-self-2 : goal.invariant_of-self-2
invariant_of-self-2 c =
    let fresh : is_among c.args.class c.self.inside.classes ≡ false = search rules in
    let ranks : c.set.new.self ≡ slice_set c.make_room.new.items c.args.class (length c.self.inside.classes) = search rules in
    subst (λ l. IsRanked l c.push.new.self) (sym ranks)
    (subst (IsRanked (slice_set c.make_room.new.items c.args.class (length c.self.inside.classes))) (sym c.in_ok-push.ensures.items)
    (ranked-more c.make_room.new.items c.self.inside.classes c.args.class
    (ranked-padded c.self.inside.ranks c.make_room.new.items c.self.inside.classes c.make_room.ensures.padded c.self.invariant) fresh
    c.in_ok-make_room.ensures.room))
