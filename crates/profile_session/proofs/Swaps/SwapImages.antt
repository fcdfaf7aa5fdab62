-- The bytes in each entry of the swap list spell the image of its class for its marks.
use Rattle.std.proofs.Common.{◌≡◌, ℕ, ◌+◌, Bool, true, false, not, ◌&&◌, ◌==◌, List, [], ◌∷◌, ◌++◌, length, map, Option, Some, if◌then◌else◌, refl, sym, ap, subst, ◌∙◌}
use Rattle.std.specs.Prelude.{filter, unwrap_or, Ok}
use Rattle.std.specs.List.{AllByRecursion}
use Rattle.std.proofs.lemmas.Bool.{and_parts, eqb-true}
use Rattle.jf_bytes.proofs.Lists.{each_at}
use Rattle.const_pool.specs.declared.class.ClassFile.{ClassFile}
use Rattle.const_pool.specs.ClassFile.{IsClassFile, class_bytes}
use Rattle.jvm_model.specs.declared.program.MethodPlace.{MethodPlace}
use Rattle.jvm_model.specs.declared.program.Program.{Program}
use Rattle.jvm_model.specs.Profiling.Points.{Standing, mark_in}
use Rattle.jvm_model.specs.Basis.Programs.{class_at, no_class}
use Rattle.jvm_model.specs.Profiling.Revealed.{Revealed, revealed_in}
use Rattle.jvm_model.specs.Profiling.Swaps.{HasBytes, Point, Swapped, differs, first_number, same_mark, class_swapped, swapped_at, swaps_from}
use Rattle.jvm_model.specs.Profiling.Targets.{operations_of}
use Rattle.inject_events.specs.declared.image.Image.{Image}
use Rattle.inject_events.specs.Answers.{IsProfilable, IsReadableClass, MarkedHaveCode}
use Rattle.inject_events.specs.Rewriting.{image_of}
use Rattle.inject_events.proofs.Formed.{IsClassFile-image}
use Rattle.inject_events.proofs.Images.{IsImage-answer}
use Rattle.inject_events.proofs.Profilable.{refused_of-profilable}
use Rattle.profile_session.specs.Images.{AreImageable, class_in, image_bytes, image_bytes-is, marks_for}
use Rattle.profile_session.specs.Keeping.{swap_of}
use Rattle.profile_session.specs.Sessions.{AreSwapsOf}
use Rattle.profile_session.proofs.Swaps.Imaging.{marks-coded, marks-count}
use Rattle.profile_session.proofs.Swaps.MethodPlaces.{class-of}
use Rattle.profile_session.proofs.Swaps.SwappedClasses.{pair-with}

-- an entry is of a class of the program, with the marks of something revealed
record IsEntry (p : Program) (e : Swapped) : Type 0 where
  now : Revealed
  marks_are : e.marks ≡ marks_for p now e.class
  class_is : ClassFile
  found : class_at p e.class ≡ Some class_is

module _ (p : Program) (is : AreImageable p) where
  has-bytes : (e : Swapped) → IsEntry p e → HasBytes p e (image_bytes p e.class e.marks)
  has-bytes e entry =
      let c = entry.class_is in
      let same : class_in p e.class ≡ c = ap (λ (o : Option ClassFile). unwrap_or o no_class) entry.found in
      let first = first_number p e.class in
      let marks = e.marks in
      let readable = each_at IsReadableClass p.classes e.class c is.readable entry.found in
      let counted : length marks ≡ length c.methods =
      ap length entry.marks_are ∙ (marks-count p entry.now e.class ∙ ap (λ (c : ClassFile). length c.methods) same) in
      let coded : MarkedHaveCode marks c.methods =
      subst (λ marks. MarkedHaveCode marks c.methods) (sym entry.marks_are)
      (subst (λ (c : ClassFile). MarkedHaveCode (marks_for p entry.now e.class) c.methods) same (marks-coded p entry.now is.numbered_are e.class)) in
      let none = refused_of-profilable c first marks counted coded (each_at IsProfilable p.classes e.class c is.profilable entry.found) in
      let image : Image = image_of c first marks in
      let bytes : image_bytes p e.class marks ≡ class_bytes image.class =
      image_bytes-is p e.class marks ∙ ap (λ (c : ClassFile). class_bytes (image_of c first marks).class) same in
      record {
        class = c;
        image = image.class;
        homes = image.homes;
        found = entry.found;
        imaged = IsImage-answer c first marks (Ok image) readable counted (none, refl) coded;
        spelled = record { spelled = bytes; formed = IsClassFile-image c first marks (each_at IsClassFile p.classes e.class c is.formed entry.found) readable none };
      }

  swaps-of-entries : (es : List Swapped) → AllByRecursion (IsEntry p) es → AreSwapsOf p es (map (swap_of p) es)
  swaps-of-entries [] all = tt
  swaps-of-entries (e ∷ es) all = (record { clock = refl; class = refl; bytes = has-bytes e all.0 }, swaps-of-entries es all.1)

  -- ---- each entry is one

  class-found : (before now : Standing) (class : ℕ) → differs p (operations_of p) before now class ≡ true → (c : ClassFile) × (class_at p class ≡ Some c)
  class-found before now class other =
      let test : ℕ × MethodPlace → Bool =
      λ (e : ℕ × MethodPlace). e.1.class == class && not (same_mark (mark_in p (operations_of p) before e.0) (mark_in p (operations_of p) now e.0)) in
      let found = pair-with test 0 p.methods other in
      let parts = and_parts (found.place.class == class) (not (same_mark (mark_in p (operations_of p) before (0 + found.at)) (mark_in p (operations_of p) now (0 + found.at)))) found.holds in
      let at : found.place.class ≡ class = eqb-true found.place.class class parts.0 in
      let there = class-of p is.numbered_are found.at found.place found.found in
      (there.class, ap (class_at p) (sym at) ∙ there.found)

  at-point : (before : Standing) (now : Point) (classes : List ℕ)
      → AllByRecursion (IsEntry p) (map (class_swapped p (operations_of p) now) (filter (differs p (operations_of p) before now.standing) classes))
  at-point before now [] = tt
  at-point before now (c ∷ classes) = by (differs p (operations_of p) before now.standing c) refl (at-point before now classes) where
    by : (b : Bool) → differs p (operations_of p) before now.standing c ≡ b
        → AllByRecursion (IsEntry p) (map (class_swapped p (operations_of p) now) (filter (differs p (operations_of p) before now.standing) classes))
        → AllByRecursion (IsEntry p) (map (class_swapped p (operations_of p) now) (if b then c ∷ filter (differs p (operations_of p) before now.standing) classes else filter (differs p (operations_of p) before now.standing) classes))
    by true e rest =
        let found = class-found before now.standing c e in
        (record { now = revealed_in now.standing; marks_are = refl; class_is = found.0; found = found.1 }, rest)
    by false e rest = rest

  all-both : (a b : List Swapped) → AllByRecursion (IsEntry p) a → AllByRecursion (IsEntry p) b → AllByRecursion (IsEntry p) (a ++ b)
  all-both [] b all more = more
  all-both (x ∷ a) b all more = (all.0, all-both a b all.1 more)

  all-entries : (before : Standing) (points : List Point) → AllByRecursion (IsEntry p) (swaps_from p (operations_of p) before points)
  all-entries before [] = tt
  all-entries before (now ∷ more) =
      all-both (swapped_at p (operations_of p) before now) (swaps_from p (operations_of p) now.standing more) (at-point before now now.standing.loaded) (all-entries now.standing more)

  pub swap-images : (before : Standing) (points : List Point)
      → AreSwapsOf p (swaps_from p (operations_of p) before points) (map (swap_of p) (swaps_from p (operations_of p) before points))
  swap-images before points = swaps-of-entries (swaps_from p (operations_of p) before points) (all-entries before points)
