-- An action, and what the tree takes, over a session's parts.
use Rattle.std.proofs.Common.{◌≡◌, ℕ, ◌≤◌, Bool, true, false, not, ◌&&◌, List, [], ◌∷◌, ◌++◌, length, if◌then◌else◌, refl, sym, ap, ap₂, subst, ◌∙◌, arith}
use Rattle.std.specs.Prelude.{fold}
use Rattle.jvm_model.specs.declared.event.Act.{Act}
use Rattle.jvm_model.specs.declared.program.Program.{Program}
use Rattle.jvm_model.specs.Profiling.EventLists.{entries}
use Rattle.jvm_model.specs.Profiling.Points.{is_empty}
use Rattle.jvm_model.specs.Profiling.Paths.{is_inside}
use Rattle.jvm_model.specs.Profiling.Revealed.{Revealed, marks_of, with_none_entered}
use Rattle.jvm_machine.specs.View.{View}
use Rattle.call_revelation.specs.declared.reveal.Reveal.{Reveal}
use Rattle.call_revelation.specs.Reveals.{IsRevelation, now_of}
use Rattle.context_tree.specs.Counts.{AreInOrder}
use Rattle.context_tree.specs.Profiles.{Profile, calls_of, steps_credited, event_taken}
use Rattle.context_tree.specs.Seen.{Seen, seen_act}
use Rattle.context_tree.proofs.Events.EventCalls.{calls_of-credited}
use Rattle.profile_session.specs.declared.parts.Parts.{Parts}
use Rattle.profile_session.specs.Keeping.{at_point, is_idle, methods_revealed}
use Rattle.profile_session.specs.Parts.{Acts, AreFit, Brings, Drains, IsPoint, chosen_by, kept_in, profile_in, revealed_in, seen_by}
use Rattle.profile_session.proofs.Points.Points.{Reveals, reveals-same}

-- ---- what an action makes of the revelation

abbrev acted : Parts → Act → Revealed
acted x act = methods_revealed (seen_act (kept_in x).seen act)

settled-loaded : (r : Revealed) (b : Bool) → (let q : Revealed = if b then with_none_entered r else r in q).loaded ≡ r.loaded
settled-loaded r true = refl
settled-loaded r false = refl

settled-seen : (r : Revealed) (path : List ℕ) (b : Bool)
    → (let q : Revealed = if b then with_none_entered r else r in q) ≡ methods_revealed (let s : Seen = if b then record (seen_by r path) { entered = [] } else seen_by r path in s)
settled-seen r path true = refl
settled-seen r path false = refl

pub acted-reveals : (x : Parts) (r1 r2 : Reveal) (act : Act) (idle : Bool) → AreFit x → ((p : Program) → IsRevelation p x.reveal → IsRevelation p r1) → now_of r1 ≡ chosen_by act (revealed_in x)
    → r1.shown ≡ x.reveal.shown → idle ≡ is_idle (kept_in (record x { reveal = r1 })).seen → ((p : Program) → IsRevelation p r1 → IsRevelation p r2)
    → ((p : Program) → IsRevelation p r1 → now_of r2 ≡ (if idle then with_none_entered (now_of r1) else now_of r1)) → r2.shown ≡ r1.shown → Reveals x r2 (acted x act)
acted-reveals x r1 r2 act idle fit first first_now first_shown idle_is second second_now second_shown =
    let p = x.vm.program in
    let rev = first p fit.revelation in
    let r : Revealed = chosen_by act (revealed_in x) in
    let path = (profile_in x).open in
    let at : idle ≡ is_idle (seen_by r path) = idle_is ∙ ap (λ (r : Revealed). is_idle (seen_by r path)) first_now in
    let is : now_of r2 ≡ acted x act =
    second_now p rev ∙ (ap (λ (r : Revealed). let q : Revealed = if idle then with_none_entered r else r in q) first_now
    ∙ (settled-seen r path idle ∙ ap (λ b. methods_revealed (let s : Seen = if b then record (seen_by r path) { entered = [] } else seen_by r path in s)) at)) in
    reveals-same x r2 (acted x act) (second p rev) is (second_shown ∙ first_shown)
    (sym (ap (λ (r : Revealed). r.loaded) (settled-seen r path (is_idle (seen_by r path)))) ∙ settled-loaded r (is_idle (seen_by r path)))

end-path : (s : Seen) (b : Bool) → (let q : Seen = if b then record s { entered = [] } else s in q) ≡ seen_by (methods_revealed (let q : Seen = if b then record s { entered = [] } else s in q)) s.open
end-path s true = refl
end-path s false = refl

pub acted-by : (x y : Parts) (act : Act) (acts : List Act) → IsPoint x (acted x act) y → acts ≡ y.acts ++ act ∷ [] → Acts x act (record y { acts = acts })
acted-by x y act acts n is =
    let s : Seen = record (kept_in x).seen { selected = (chosen_by act (revealed_in x)).selected } in
    let f = n.fit in
    record {
      kept = n.kept ∙ ap (at_point x.vm.program x.vm.clock (kept_in x)) (sym (end-path s (is_empty s.selected && not (is_inside s.open))));
      profile = n.profile;
      calls = n.calls;
      vm = n.vm ∙ ap (λ r. let v : View = record x.vm { marks = marks_of x.vm.program r } in v) (sym n.now);
      fit = record {
        whole = f.whole;
        tidy = f.tidy;
        revelation = f.revelation;
        imageable = f.imageable;
        root = f.root;
        marks = f.marks;
        depth = f.depth;
        shallow = f.shallow;
        few = f.few;
        order = f.order;
        last = f.last;
        room = f.room;
      };
      shown = n.shown;
      acts = is ∙ ap (λ l. l ++ act ∷ []) n.acts;
    }

-- ---- the tree

pub credit-later : (x y : Parts) → Drains x y → y.tree.clock ≤ y.vm.clock
credit-later x y d = subst (λ es. AreInOrder y.tree.clock es y.vm.clock) d.empty d.fit.order

pub brought : (x y : Parts) (tree : Profile) → Drains x y → tree ≡ steps_credited y.vm.clock y.tree → Brings x (record y { tree = tree })
brought x y tree d is =
    let clock : y.vm.clock ≡ x.vm.clock = ap (λ (z : Parts). z.vm.clock) d.same in
    let all : y.tree ≡ profile_in x = sym (ap (fold event_taken y.tree) d.empty) ∙ d.profile in
    let tree_is : tree ≡ steps_credited x.vm.clock (profile_in x) = is ∙ ap₂ steps_credited clock all in
    let new : Parts = record y { tree = tree } in
    let profile : profile_in new ≡ tree = ap (fold event_taken tree) d.empty in
    let calls : calls_of tree ≡ calls_of y.tree = ap calls_of is ∙ calls_of-credited y.vm.clock y.tree in
    let none : entries y.buffer.events ≡ 0 = ap entries d.empty in
    let f = d.fit in
    let open_is : (profile_in new).open ≡ (profile_in y).open =
    ap (λ (q : Profile). q.open) (profile ∙ is) ∙ sym (ap (λ es. (fold event_taken y.tree es).open) d.empty) in
    let at : tree.clock ≡ y.vm.clock = ap (λ (q : Profile). q.clock) is in
    record {
      same = ap (λ (z : Parts). let q : Parts = record z { tree = tree } in q) d.same;
      tree = tree_is;
      profile = profile ∙ tree_is;
      calls = (let c = d.calls in omega (arith, c, calls));
      fit = record {
        whole = f.whole;
        tidy = f.tidy;
        revelation = f.revelation;
        imageable = f.imageable;
        root = f.root;
        marks = f.marks;
        depth = f.depth ∙ ap length (sym open_is);
        shallow = f.shallow;
        few = (let c = f.few in omega (arith, c, calls));
        order = subst (λ es. AreInOrder tree.clock es y.vm.clock) (sym d.empty) (omega (arith, at));
        last = f.last;
        room = f.room;
      };
    }
