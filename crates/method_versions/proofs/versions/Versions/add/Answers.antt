use Rattle.std.proofs.Common.{◌≡◌, ◌<◌, ◌+◌, ◌-◌, ◌++◌, true, false, refl, sym, ap, ◌∙◌, arith}
use Rattle.std.specs.Prelude.{◌==◌, if◌then◌else◌, Some, length, min, vec_capacity}
use Rattle.std.proofs.lemmas.Bool.{eq-eqb, ne_eqb}
use Rattle.std.proofs.lemmas.List.{length-set}
use Rattle.slab.specs.Slab.{slab_len}
use Rattle.frame_stack.specs.FrameLists.{pins_of}
use Rattle.method_versions.specs.declared.versions.Held.{Held}
use Rattle.method_versions.specs.Tables.{held_besides, held_in, is_listed, spare_of}
use Rattle.method_versions.proofs.Adding.{far-added, listed-dropped, listed-kept, own-added, put-dropped, put-kept}
use Rattle.method_versions.proofs.Slots.{fits, inserted, read-there, vacant-there}
use Rattle.method_versions.proofs.versions.Versions.add.Goals as goal

pub invariant_of-self : goal.invariant_of-self
invariant_of-self g c =
    let inside = c.self.inside in
    let fs = c.args.frames.now.frames in
    let first = inside.first.items in
    let current = inside.current.items in
    let method = c.args.method in
    let former = c.index-former.result.now in
    let before = first ++ inside.later.slots in
    let put = first ++ c.insert_reserved.new.self.slots in
    let new = c.len.result + c.insert_reserved.result in
    let v : Held g.row.T.Denot = record { method = method; prepared = c.args.prepared } in
    let many : c.len.result ≡ length first = c.len.ensures ∙ inside.first.ok.0 in
    let lt : method < length current = rw (← c.self.view_is) at c.requires.method in
    let here = read-there current method former lt c.index-former.ensures in
    let vacant = vacant-there first inside.later c.len.result c.insert_reserved.result many c.insert_reserved.ensures.was_vacant in
    let puts = inserted first inside.later c.insert_reserved.new.self c.len.result c.insert_reserved.result v many c.insert_reserved.ensures.updates in
    let room : 0 < spare_of (length first + inside.later.capacity) (min (inside.later.capacity - slab_len inside.later) (vec_capacity inside.superseded - length inside.superseded.items)) = rw (← c.self.view_is) at c.requires.room in
    let bound = fits (length first + inside.later.capacity) _ room in
    let small : new < 4294967296 = omega (arith, bound, many, c.insert_reserved.ensures.key_in_range, c.insert_reserved.ensures.capacity) in
    let free : (pins_of former fs == 0) ≡ true = eq-eqb (pins_of former fs) 0 (sym c.pins.ensures ∙ c.if-pins-eq0.true) in
    let after = c.drop_at.new.first.items ++ c.drop_at.new.later.slots in
    let held = put-dropped before current method new former v fs refl c.self.invariant.own here lt vacant put puts after c.drop_at.ensures.held free in
    record {
      own = own-added before current method new former v fs refl c.self.invariant.own here lt vacant after held;
      methods = c.drop_at.ensures.first ∙ (c.self.invariant.methods ∙ sym (length-set current method new));
      few = omega (arith, c.drop_at.ensures.first, c.self.invariant.few);
      far = far-added before current method new former v fs refl c.self.invariant.own here lt vacant after held small c.self.invariant.far;
      listed = listed-dropped before current method new former v fs refl c.self.invariant.own here lt vacant after held free inside.superseded.items c.self.invariant.listed;
    }

pub invariant_of-self-else-pins-eq0 : goal.invariant_of-self-else-pins-eq0
invariant_of-self-else-pins-eq0 g c =
    let inside = c.self.inside in
    let fs = c.args.frames.now.frames in
    let first = inside.first.items in
    let current = inside.current.items in
    let method = c.args.method in
    let former = c.index-former.result.now in
    let before = first ++ inside.later.slots in
    let put = first ++ c.insert_reserved.new.self.slots in
    let new = c.len.result + c.insert_reserved.result in
    let v : Held g.row.T.Denot = record { method = method; prepared = c.args.prepared } in
    let many : c.len.result ≡ length first = c.len.ensures ∙ inside.first.ok.0 in
    let lt : method < length current = rw (← c.self.view_is) at c.requires.method in
    let here = read-there current method former lt c.index-former.ensures in
    let vacant = vacant-there first inside.later c.len.result c.insert_reserved.result many c.insert_reserved.ensures.was_vacant in
    let puts = inserted first inside.later c.insert_reserved.new.self c.len.result c.insert_reserved.result v many c.insert_reserved.ensures.updates in
    let room : 0 < spare_of (length first + inside.later.capacity) (min (inside.later.capacity - slab_len inside.later) (vec_capacity inside.superseded - length inside.superseded.items)) = rw (← c.self.view_is) at c.requires.room in
    let bound = fits (length first + inside.later.capacity) _ room in
    let small : new < 4294967296 = omega (arith, bound, many, c.insert_reserved.ensures.key_in_range, c.insert_reserved.ensures.capacity) in
    let pinned : (pins_of former fs == 0) ≡ false = ne_eqb (pins_of former fs) 0 (λ none. c.if-pins-eq0.false (c.pins.ensures ∙ none)) in
    let held = put-kept before current method new former v fs refl c.self.invariant.own here lt vacant put puts pinned in
    record {
      own = own-added before current method new former v fs refl c.self.invariant.own here lt vacant put held;
      methods = c.self.invariant.methods ∙ sym (length-set current method new);
      few = c.self.invariant.few;
      far = far-added before current method new former v fs refl c.self.invariant.own here lt vacant put held small c.self.invariant.far;
      listed = λ k. listed-kept before current method new former v fs refl c.self.invariant.own here lt vacant put held pinned inside.superseded.items c.self.invariant.listed k ∙ ap (is_listed k) (sym c.push_reserved.ensures.items);
    }

pub returns-then-pins-eq0-clause-vacant : goal.returns-then-pins-eq0-clause-vacant
returns-then-pins-eq0-clause-vacant g c =
    rw (← c.self.view_is)
    (vacant-there c.self.inside.first.items c.self.inside.later c.len.result c.insert_reserved.result (c.len.ensures ∙ c.self.inside.first.ok.0) c.insert_reserved.ensures.was_vacant)

pub returns-else-pins-eq0-clause-vacant : goal.returns-else-pins-eq0-clause-vacant
returns-else-pins-eq0-clause-vacant g c =
    rw (← c.self.view_is)
    (vacant-there c.self.inside.first.items c.self.inside.later c.len.result c.insert_reserved.result (c.len.ensures ∙ c.self.inside.first.ok.0) c.insert_reserved.ensures.was_vacant)

pub returns-then-pins-eq0-clause-held : goal.returns-then-pins-eq0-clause-held
returns-then-pins-eq0-clause-held g c number =
    let inside = c.self.inside in
    let fs = c.args.frames.now.frames in
    let first = inside.first.items in
    let current = inside.current.items in
    let method = c.args.method in
    let former = c.index-former.result.now in
    let before = first ++ inside.later.slots in
    let put = first ++ c.insert_reserved.new.self.slots in
    let new = c.len.result + c.insert_reserved.result in
    let v : Held g.row.T.Denot = record { method = method; prepared = c.args.prepared } in
    let many : c.len.result ≡ length first = c.len.ensures ∙ inside.first.ok.0 in
    let lt : method < length current = rw (← c.self.view_is) at c.requires.method in
    let here = read-there current method former lt c.index-former.ensures in
    let vacant = vacant-there first inside.later c.len.result c.insert_reserved.result many c.insert_reserved.ensures.was_vacant in
    let puts = inserted first inside.later c.insert_reserved.new.self c.len.result c.insert_reserved.result v many c.insert_reserved.ensures.updates in
    let free : (pins_of former fs == 0) ≡ true = eq-eqb (pins_of former fs) 0 (sym c.pins.ensures ∙ c.if-pins-eq0.true) in
    let after = c.drop_at.new.first.items ++ c.drop_at.new.later.slots in
    let held = put-dropped before current method new former v fs refl c.self.invariant.own here lt vacant put puts after c.drop_at.ensures.held free in
    rw (← c.self.view_is) (held number ∙ ap (λ o. if number == new then Some v else held_besides fs o number (held_in before number)) (sym here))

pub returns-else-pins-eq0-clause-held : goal.returns-else-pins-eq0-clause-held
returns-else-pins-eq0-clause-held g c number =
    let inside = c.self.inside in
    let fs = c.args.frames.now.frames in
    let first = inside.first.items in
    let current = inside.current.items in
    let method = c.args.method in
    let former = c.index-former.result.now in
    let before = first ++ inside.later.slots in
    let put = first ++ c.insert_reserved.new.self.slots in
    let new = c.len.result + c.insert_reserved.result in
    let v : Held g.row.T.Denot = record { method = method; prepared = c.args.prepared } in
    let many : c.len.result ≡ length first = c.len.ensures ∙ inside.first.ok.0 in
    let lt : method < length current = rw (← c.self.view_is) at c.requires.method in
    let here = read-there current method former lt c.index-former.ensures in
    let vacant = vacant-there first inside.later c.len.result c.insert_reserved.result many c.insert_reserved.ensures.was_vacant in
    let puts = inserted first inside.later c.insert_reserved.new.self c.len.result c.insert_reserved.result v many c.insert_reserved.ensures.updates in
    let pinned : (pins_of former fs == 0) ≡ false = ne_eqb (pins_of former fs) 0 (λ none. c.if-pins-eq0.false (c.pins.ensures ∙ none)) in
    let held = put-kept before current method new former v fs refl c.self.invariant.own here lt vacant put puts pinned in
    rw (← c.self.view_is) (held number ∙ ap (λ o. if number == new then Some v else held_besides fs o number (held_in before number)) (sym here))
