-- What redefines a class: the image for the marks of now, and its bytes.
use Rattle.std.proofs.Common.{◌≡◌, ℕ, suc, ◌+◌, ◌≤◌, true, false, List, [], ◌∷◌, map, length, Option, Some, None, slice_get, refl, sym, ap, ap₂, subst, ◌∙◌, arith, zero-add}
use Rattle.std.specs.Prelude.{is_some, unwrap_or}
use Rattle.std.specs.List.{enumerate_from, range_with_len}
use Rattle.std.specs.Option.{option_map_or}
use Rattle.std.proofs.lemmas.Option.{same_Some}
use Rattle.jf_bytes.proofs.Lists.{each_at}
use Rattle.const_pool.specs.declared.class.ClassFile.{ClassFile}
use Rattle.const_pool.specs.declared.class.Member.{Member}
use Rattle.const_pool.specs.ClassFile.{IsClassFile, Spells, class_bytes}
use Rattle.class_reader.proofs.Files.{one_class}
use Rattle.jvm_model.specs.declared.event.Mark.{Mark}
use Rattle.jvm_model.specs.declared.event.Mark.TheVariants.{Off}
use Rattle.jvm_model.specs.declared.program.Program.{Program}
use Rattle.jvm_model.specs.Rewriting.Images.{IsImage, is_off}
use Rattle.jvm_model.specs.Basis.Methods.{code_of}
use Rattle.jvm_model.specs.Basis.Programs.{no_class, number_of_method, methods_numbered}
use Rattle.jvm_model.specs.Profiling.Revealed.{Revealed, mark_of}
use Rattle.jvm_model.specs.Profiling.Swaps.{first_number}
use Rattle.inject_events.specs.declared.image.Image.{Image}
use Rattle.inject_events.specs.Answers.{IsReadableClass, MarkedHaveCode}
use Rattle.inject_events.specs.Rewriting.{image_of}
use Rattle.jvm_machine.specs.Installs.{IsImageOf}
use Rattle.class_shape.specs.declared.error.SwapError.{SwapError}
use Rattle.class_shape.specs.Swaps.{IsSomeImage}
use Rattle.class_shape.proofs.ImageShapes.{image-shape}
use Rattle.class_shape.proofs.SwapLaws.{no-swap_fault}
use Rattle.hotswap.specs.Redefining.{IsRefused, SpellsImage}
use Rattle.profile_session.specs.declared.swapping.Redefinition.{Redefinition}
use Rattle.profile_session.specs.Images.{AreImageable, class_in, image_bytes-is, image_for, marks_for}
use Rattle.profile_session.specs.Swapping.{IsImaged, IsMade, mark_at_position}
use Rattle.profile_session.proofs.Swaps.MethodPlaces.{number-coded}

-- ---- marks

range-members : (f : ℕ → Mark) (n : ℕ) (l : List Member) → map f (range_with_len n (length l)) ≡ map (λ (e : ℕ × Member). f e.0) (enumerate_from n l)
range-members f n [] = refl
range-members f n (m ∷ l) = ap (λ ms. f n ∷ ms) (range-members f (n + 1) l)

pub marks-are : (p : Program) (r : Revealed) (class count : ℕ) → count ≡ length (class_in p class).methods → map (mark_at_position p r class) (range_with_len 0 count) ≡ marks_for p r class
marks-are p r class count e =
    ap (λ n. map (mark_at_position p r class) (range_with_len 0 n)) e ∙ range-members (mark_at_position p r class) 0 (class_in p class).methods

length-members : (f : ℕ → Mark) (n : ℕ) (l : List Member) → length (map (λ (e : ℕ × Member). f e.0) (enumerate_from n l)) ≡ length l
length-members f n [] = refl
length-members f n (m ∷ l) = ap suc (length-members f (n + 1) l)

pub marks-count : (p : Program) (r : Revealed) (class : ℕ) → length (marks_for p r class) ≡ length (class_in p class).methods
marks-count p r class = length-members (mark_at_position p r class) 0 (class_in p class).methods

members-coded : (f : ℕ → Mark) (n : ℕ) (l : List Member) → ((i : ℕ) (m : Member) → slice_get l i ≡ Some m → is_off (f (n + i)) ≡ false → is_some (code_of m) ≡ true)
    → MarkedHaveCode (map (λ (e : ℕ × Member). f e.0) (enumerate_from n l)) l
members-coded f n [] each = tt
members-coded f n (m ∷ l) each =
    let e : n + 0 ≡ n = omega arith in (
      λ on. each 0 m refl (ap (λ k. is_off (f k)) e ∙ on),
      members-coded f (n + 1) l (λ i x found on. let q : n + suc i ≡ n + 1 + i = omega arith in each (suc i) x found (ap (λ k. is_off (f k)) q ∙ on)),
    )

pub marks-coded : (p : Program) (r : Revealed) → p.methods ≡ methods_numbered p.classes → (class : ℕ) → MarkedHaveCode (marks_for p r class) (class_in p class).methods
marks-coded p r are class =
    members-coded (mark_at_position p r class) 0 (class_in p class).methods (λ i m there on.
    by i m there (number_of_method p class i) refl (ap (λ k. is_off (mark_at_position p r class k)) (sym (zero-add i)) ∙ on))
  where
    by : (i : ℕ) (m : Member) → slice_get (class_in p class).methods i ≡ Some m → (o : Option ℕ) → number_of_method p class i ≡ o → is_off (mark_at_position p r class i) ≡ false
        → is_some (code_of m) ≡ true
    by i m there (Some k) e on = number-coded p are class i k m e there
    by i m there None e on =
        absurd (let h : true ≡ false = sym (ap (λ o. is_off (option_map_or (mark_of p r) o Off)) e) ∙ on in cc)

-- ---- the image

pub few-methods : (p : Program) → AreImageable p → (class : ℕ) → length (class_in p class).methods ≤ 65535
few-methods p is class = by (slice_get p.classes class) refl where
  by : (o : Option ClassFile) → slice_get p.classes class ≡ o → length (unwrap_or o no_class).methods ≤ 65535
  by None e = omega arith
  by (Some c) e = (each_at IsReadableClass p.classes class c is.readable e).few

pub imaged : (p : Program) (class : ℕ) (original : ClassFile) (first : ℕ) (marks : List Mark) (image : Image) → AreImageable p → slice_get p.classes class ≡ Some original
    → length marks ≡ length (class_in p class).methods → MarkedHaveCode marks (class_in p class).methods → first ≡ first_number p class
    → image ≡ image_of original first marks → (MarkedHaveCode marks original.methods → IsImage original first marks image.class image.homes)
    → (IsClassFile original → IsClassFile image.class) → IsImaged p class marks image
imaged p class original first marks image is there counted coded first_is image_is made formed =
    let same : class_in p class ≡ original = ap (λ (o : Option ClassFile). unwrap_or o no_class) there in
    record {
      is = image_is ∙ ap₂ (λ (c : ClassFile) n. image_of c n marks) (sym same) first_is;
      formed = formed (each_at IsClassFile p.classes class original is.formed there);
      made = record {
        file = original;
        there = there;
        counted = counted ∙ ap (λ (c : ClassFile). length c.methods) same;
        imaged = subst (λ n. IsImage original n marks image.class image.homes) first_is (made (subst (λ (c : ClassFile). MarkedHaveCode marks c.methods) same coded));
      };
    }

-- ---- its bytes

pub redefined : (p : Program) (r : Revealed) (class : ℕ) (m : Redefinition) → IsMade p r class m → SpellsImage p class m.bytes.items m.marks.items m.homes
redefined p r class m is = λ original image there swap.
    let i = is.imaged in
    let bytes : m.bytes.items ≡ class_bytes is.image.class =
    is.bytes ∙ (image_bytes-is p class (marks_for p r class) ∙ ap (λ (x : Image). class_bytes x.class) (sym i.is)) in
    let spelled : Spells m.bytes.items is.image.class = record { spelled = bytes; formed = i.formed } in
    let one : image ≡ is.image.class = one_class m.bytes.items image is.image.class swap.spelled spelled in
    subst (λ c. IsImageOf p class m.marks.items c m.homes) (sym one)
    (subst (λ marks. IsImageOf p class marks is.image.class m.homes) (sym is.marks)
    (subst (λ homes. IsImageOf p class (marks_for p r class) is.image.class homes) (sym is.homes) i.made))

-- they redefine the class
pub taken-as : (p : Program) (r : Revealed) (class : ℕ) (m : Redefinition) → AreImageable p → IsMade p r class m → (e : SwapError) → IsRefused p class m.bytes.items e → ⊥
taken-as p r class m imageable is e refused =
    let i = is.imaged in
    let original = refused.original in
    let bytes : m.bytes.items ≡ class_bytes is.image.class =
    is.bytes ∙ (image_bytes-is p class (marks_for p r class) ∙ ap (λ (x : Image). class_bytes x.class) (sym i.is)) in
    let spelled : Spells m.bytes.items is.image.class = record { spelled = bytes; formed = i.formed } in
    let one : i.made.file ≡ original = same_Some i.made.file original (sym i.made.there ∙ refused.is) in
    let imaged = subst (λ (c : ClassFile). IsImage c (first_number p class) (marks_for p r class) is.image.class is.image.homes) one i.made.imaged in
    let formed = each_at IsClassFile p.classes class original imageable.formed refused.is in
    let some : IsSomeImage original is.image.class = record { first = first_number p class; marks = marks_for p r class; homes = is.image.homes; made = imaged } in
    no-swap_fault original m.bytes.items is.image.class e (record { spelled = spelled; shape = image-shape original is.image.class formed some }) refused.fault

pub made-by : (p : Program) (r : Revealed) (class count : ℕ) (m : Redefinition) (image : Image) → count ≡ length (class_in p class).methods
    → m.marks.items ≡ map (mark_at_position p r class) (range_with_len 0 count) → IsImaged p class m.marks.items image → m.homes ≡ image.homes → Spells m.bytes.items image.class
    → IsMade p r class m
made-by p r class count m image counted marks i homes spelled =
    let same : m.marks.items ≡ marks_for p r class = marks ∙ marks-are p r class count counted in
    record {
      marks = same;
      image = image;
      imaged = subst (λ marks. IsImaged p class marks image) same i;
      homes = homes;
      bytes = spelled.spelled ∙ (ap (λ (x : Image). class_bytes x.class) (i.is ∙ ap (image_for p class) same) ∙ sym (image_bytes-is p class (marks_for p r class)));
    }
