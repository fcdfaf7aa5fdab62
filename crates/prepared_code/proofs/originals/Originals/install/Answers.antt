use Rattle.std.proofs.Common.{◌≡◌, true, length, refl, sym, ap, subst, ◌∙◌}
use Rattle.std.specs.List.{AllByRecursion}
use Rattle.std.proofs.lemmas.Result.{on_ok_weaker}
use Rattle.jvm_model.specs.declared.program.Program.{Program}
use Rattle.jvm_model.specs.declared.state.State.{State}
use Rattle.std.proofs.Common.{ℕ}
use Rattle.symbolic_references.specs.Runtimes.{linker_in}
use Rattle.prepared_code.specs.ClassVersions.{class_versions}
use Rattle.prepared_code.specs.Kept.{AreKnown}
use Rattle.prepared_code.specs.Originals.{OriginalsView}
use Rattle.prepared_code.specs.Making.{AreBare, with_lines}
use Rattle.prepared_code.specs.Prepared.{IsPrepared}
use Rattle.prepared_code.specs.Standing.{AreMethodImages, IsPinned, IsRunOf, IsSetUp}
use Rattle.prepared_code.specs.Tables.{Adds, AreOfMethods, Version, Versions}
use Rattle.prepared_code.specs.Versions.{HasOwnLines, Setup}
use Rattle.prepared_code.proofs.Tables.Added.{adds-count, either, has-lines-all}
use Rattle.prepared_code.proofs.Lines.CellLemmas.{nil-known}
use Rattle.prepared_code.proofs.Images.ClassVersionLaws.{versions-below, versions-have, versions-keep}
use Rattle.prepared_code.proofs.Tables.Made.{adds-made, bare-adds}
use Rattle.prepared_code.proofs.Tables.StandingSteps.{installed-set_up, installed-stands}
use Rattle.prepared_code.proofs.originals.Originals.install.Goals as goal

pub add_all-requires : goal.add_all-requires
add_all-requires c =
    let p : Program = c.self.inside.index.value in
    let made : c.in_ok-more.more ≡ class_versions p c.args.class c.args.image.now c.args.homes.now =
    c.in_ok-more.ensures ∙ ap (λ (q : Program). class_versions q c.args.class c.args.image.now c.args.homes.now) (c.program-program.ensures.all ∙ c.as_ref.ensures) in
    subst (λ n. AreOfMethods n c.in_ok-more.more) (sym c.self.invariant.prepared.count)
    (subst (λ xs. AreOfMethods (length p.methods) xs) (sym made) (versions-below p c.args.class c.args.image.now c.args.homes.now))

pub invariant_of-self : goal.invariant_of-self
invariant_of-self c =
    let p : Program = c.self.inside.index.value in
    let made : c.in_ok-more.more ≡ class_versions p c.args.class c.args.image.now c.args.homes.now =
    c.in_ok-more.ensures ∙ ap (λ (q : Program). class_versions q c.args.class c.args.image.now c.args.homes.now) (c.program-program.ensures.all ∙ c.as_ref.ensures) in
    let was = c.self.invariant.prepared in
    let old = c.self.inside.versions in
    let new = c.add_all.new.self in
    let fs = c.args.frames.now.frames in
    let own = subst (λ xs. AllByRecursion HasOwnLines xs) (sym made) (versions-keep p c.args.class c.args.image.now c.args.homes.now) in
    let have = subst (λ xs. AllByRecursion (λ (x : Version). x.prepared.has_lines ≡ true) xs) (sym made) (versions-have p c.args.class c.args.image.now c.args.homes.now) in
    record {
      prepared =
          either c.add_all.result c.add_all.ensures.ok c.add_all.ensures.err
          (λ adds. record {
            fits = was.fits;
            few = was.few;
            numbered = was.numbered;
            lines = has-lines-all fs c.in_ok-more.more (with_lines p old) (with_lines p new) (adds-made p fs c.in_ok-more.more old new have adds) own was.lines;
            count = adds-count fs c.in_ok-more.more old new adds ∙ was.count;
          })
          (λ same. subst (λ (v : Versions). IsPrepared p (with_lines p v)) (sym same) was);
      bare = either c.add_all.result c.add_all.ensures.ok c.add_all.ensures.err (λ adds. bare-adds p fs c.in_ok-more.more old new have adds c.self.invariant.bare)
          (λ same. subst (AreBare p) (sym same) c.self.invariant.bare);
    }

pub returns-clause-ok : goal.returns-clause-ok
returns-clause-ok c =
    let p : Program = c.self.inside.index.value in
    let made : c.in_ok-more.more ≡ class_versions p c.args.class c.args.image.now c.args.homes.now =
    c.in_ok-more.ensures ∙ ap (λ (q : Program). class_versions q c.args.class c.args.image.now c.args.homes.now) (c.program-program.ensures.all ∙ c.as_ref.ensures) in
    let old = c.self.inside.versions in
    let new = c.add_all.new.self in
    let fs = c.args.frames.now.frames in
    let have = subst (λ xs. AllByRecursion (λ (x : Version). x.prepared.has_lines ≡ true) xs) (sym made) (versions-have p c.args.class c.args.image.now c.args.homes.now) in
    on_ok_weaker c.add_all.result
    (λ adds. subst (λ (o : OriginalsView). Adds fs (class_versions o.program c.args.class c.args.image.now c.args.homes.now) o.versions (with_lines p new)) c.self.view_is
    (subst (λ xs. Adds fs xs (with_lines p old) (with_lines p new)) made (adds-made p fs c.in_ok-more.more old new have adds)))
    c.add_all.ensures.ok

pub returns-clause-known : goal.returns-clause-known
returns-clause-known c r known =
    let v = with_lines c.self.inside.index.value c.add_all.new.self in
    subst (AreKnown (linker_in r) v) (sym c.new-none.ensures) (nil-known (linker_in r) v)

pub returns-clause-set_up : goal.returns-clause-set_up
returns-clause-set_up c world same =
    let p : Program = c.self.inside.index.value in
    let made : c.in_ok-more.more ≡ class_versions p c.args.class c.args.image.now c.args.homes.now =
    c.in_ok-more.ensures ∙ ap (λ (q : Program). class_versions q c.args.class c.args.image.now c.args.homes.now) (c.program-program.ensures.all ∙ c.as_ref.ensures) in
    let fs = c.args.frames.now.frames in
    let old = c.self.inside.versions in
    let new = c.add_all.new.self in
    let have = subst (λ xs. AllByRecursion (λ (x : Version). x.prepared.has_lines ≡ true) xs) (sym made) (versions-have p c.args.class c.args.image.now c.args.homes.now) in
    let here : world.program ≡ p = same ∙ sym (ap (λ (o : OriginalsView). o.program) c.self.view_is) in
    let before : Setup = record { world = world; versions = with_lines p old } in
    let after : Setup = record { world = world; versions = with_lines p new } in
    on_ok_weaker c.add_all.result
    (λ adds. subst (λ (o : OriginalsView). let w : Setup = record { world = world; versions = o.versions } in AreMethodImages world.program c.args.class c.args.image.now c.args.homes.now → IsSetUp w → IsSetUp after) c.self.view_is
    (λ are set. installed-set_up before c.args.class c.args.image.now c.args.homes.now are fs after refl
    (subst (λ (q : Program). Adds fs (class_versions q c.args.class c.args.image.now c.args.homes.now) before.versions after.versions) (sym here)
    (subst (λ xs. Adds fs xs before.versions after.versions) made (adds-made p fs c.in_ok-more.more old new have adds))) set))
    c.add_all.ensures.ok

pub returns-clause-stands : goal.returns-clause-stands
returns-clause-stands c world same =
    let p : Program = c.self.inside.index.value in
    let made : c.in_ok-more.more ≡ class_versions p c.args.class c.args.image.now c.args.homes.now =
    c.in_ok-more.ensures ∙ ap (λ (q : Program). class_versions q c.args.class c.args.image.now c.args.homes.now) (c.program-program.ensures.all ∙ c.as_ref.ensures) in
    let fs = c.args.frames.now.frames in
    let old = c.self.inside.versions in
    let new = c.add_all.new.self in
    let have = subst (λ xs. AllByRecursion (λ (x : Version). x.prepared.has_lines ≡ true) xs) (sym made) (versions-have p c.args.class c.args.image.now c.args.homes.now) in
    let here : world.program ≡ p = same ∙ sym (ap (λ (o : OriginalsView). o.program) c.self.view_is) in
    let before : Setup = record { world = world; versions = with_lines p old } in
    let after : Setup = record { world = world; versions = with_lines p new } in
    on_ok_weaker c.add_all.result
    (λ adds. subst (λ (o : OriginalsView). let w : Setup = record { world = world; versions = o.versions } in AreMethodImages world.program c.args.class c.args.image.now c.args.homes.now → (clock : ℕ) (s : State) → IsPinned fs s.stack → IsRunOf w clock s → IsRunOf after clock s) c.self.view_is
    (λ are clock s pinned is. installed-stands before c.args.class c.args.image.now c.args.homes.now are fs after refl
    (subst (λ (q : Program). Adds fs (class_versions q c.args.class c.args.image.now c.args.homes.now) before.versions after.versions) (sym here)
    (subst (λ xs. Adds fs xs before.versions after.versions) made (adds-made p fs c.in_ok-more.more old new have adds))) clock s pinned is))
    c.add_all.ensures.ok
