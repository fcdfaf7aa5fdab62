-- A point of a session's parts: this is revealed now, and the classes whose marks have changed were swapped.
use Rattle.std.proofs.Common.{◌≡◌, ℕ, ◌≤◌, true, false, List, [], ◌++◌, length, refl, sym, ap, ap₂, subst, ◌∙◌, ◌<◌}
use Rattle.std.specs.Prelude.{Option, Some, None}
use Rattle.std.specs.Option.{option_map_or}
use Rattle.std.proofs.lemmas.List.{append-nil}
use Rattle.std.proofs.lemmas.Option.{slice_get_within}
use Rattle.jvm_model.specs.declared.program.MethodPlace.{MethodPlace}
use Rattle.jvm_model.specs.declared.program.Program.{Program}
use Rattle.jvm_model.specs.Basis.KindNumbers.{user_count}
use Rattle.jvm_model.specs.Classes.Load.{is_among}
use Rattle.jvm_model.specs.Profiling.Points.{has_class}
use Rattle.jvm_model.specs.Basis.Programs.{place_of_method}
use Rattle.jvm_model.specs.Profiling.Revealed.{Revealed, changed_of, marks_of, with_loaded}
use Rattle.jvm_model.specs.Soundness.Sound.{HasClass}
use Rattle.jvm_model.proofs.Loading.Among.{among-front}
use Rattle.class_linker.specs.Linkers.{LinkerView}
use Rattle.possible_callees.specs.Tables.{IsPrefix}
use Rattle.call_revelation.specs.declared.reveal.Reveal.{Reveal}
use Rattle.call_revelation.specs.Reveals.{IsAhead, IsRevelation, now_of}
use Rattle.jvm_machine.specs.View.{View, run_state}
use Rattle.context_tree.specs.Counts.{AreInOrder}
use Rattle.context_tree.specs.Profiles.{Profile}
use Rattle.context_tree.specs.Seen.{Seen}
use Rattle.event_buffer.specs.Buffers.{last_clock}
use Rattle.profile_session.specs.declared.parts.Parts.{Parts}
use Rattle.profile_session.specs.declared.swap.Swap.{Swap}
use Rattle.profile_session.specs.Images.{AreImageable}
use Rattle.profile_session.specs.Keeping.{Kept, swapped_now}
use Rattle.profile_session.specs.Parts.{AreFit, AreShown, CanLoad, IsGrown, IsPoint, IsShowable, Shows, calls_in, changed_from, linking, loaded_in, profile_in, revealed_in, seen_by}
use Rattle.profile_session.specs.Swapping.{HasSwapped, with_classes}
use Rattle.profile_session.proofs.Swaps.SwappedClasses.{all-swapped, changed-shown}

-- ---- what is shown

abbrev changed : Parts → List ℕ
changed x = changed_from x.vm.program x.reveal.shown (revealed_in x)

pub shown-by : (x : Parts) (vm : View) (reveal : Reveal) (swaps : List Swap) (classes : List ℕ) → AreFit x → (able : IsShowable x)
    → classes ≡ changed_of x.vm.program able.before (revealed_in x) → HasSwapped x.vm.program (revealed_in x) classes x.vm vm x.swaps swaps
    → IsRevelation x.vm.program reveal → now_of reveal ≡ revealed_in x → reveal.shown ≡ marks_of x.vm.program (revealed_in x)
    → Shows x (record x { vm = vm; reveal = reveal; swaps = swaps })
shown-by x vm reveal swaps classes fit able which swapped rev now_same shown =
    let p = x.vm.program in
    let now = revealed_in x in
    let vm_is : vm ≡ record x.vm { marks = marks_of p now } =
    swapped.vm ∙ (ap (λ l. with_classes p now l x.vm) which ∙ all-swapped p able.before now fit.imageable.numbered_are able.grown x.vm refl (fit.marks ∙ able.shown)) in
    let program : vm.program ≡ p = ap (λ (v : View). v.program) vm_is in
    record {
      same = refl;
      vm = vm_is;
      now = now_same;
      swaps = swapped.swaps ∙ ap (λ l. x.swaps ++ swapped_now p x.vm.clock now l) (which ∙ sym (changed-shown p x.reveal.shown able.before now able.shown));
      fit = record {
        whole = ap (λ (v : View). v.broken) vm_is ∙ fit.whole;
        tidy = ap (λ (v : View). v.stale) vm_is ∙ fit.tidy;
        revelation = subst (λ p. IsRevelation p reveal) (sym program) rev;
        imageable = subst (λ p. AreImageable p) (sym program) fit.imageable;
        root = ap₂ (λ (p : Program) (r : Revealed). is_among (user_count p) r.loaded) program now_same ∙ fit.root;
        marks = ap (λ (v : View). v.marks) vm_is ∙ sym shown;
        depth = fit.depth;
        shallow = fit.shallow;
        few = fit.few;
        order = subst (λ n. AreInOrder x.tree.clock x.buffer.events n) (sym (ap (λ (v : View). v.clock) vm_is)) fit.order;
        last = subst (λ n. last_clock x.buffer ≤ n) (sym (ap (λ (v : View). v.clock) vm_is)) fit.last;
        room = fit.room;
      };
      shown = shown ∙ ap₂ marks_of (sym program) (sym now_same);
    }

-- ---- where this is revealed

pub fit-with : (x : Parts) (r : Reveal) → AreFit x → IsRevelation x.vm.program r → r.shown ≡ x.reveal.shown → IsGrown (revealed_in x) (now_of r) → AreFit (record x { reveal = r })
fit-with x r fit rev shown grown = record {
  whole = fit.whole;
  tidy = fit.tidy;
  revelation = rev;
  imageable = fit.imageable;
  root = grown (user_count x.vm.program) fit.root;
  marks = fit.marks ∙ sym shown;
  depth = fit.depth;
  shallow = fit.shallow;
  few = fit.few;
  order = fit.order;
  last = fit.last;
  room = fit.room;
}

pub showable : (x : Parts) (r : Reveal) → AreShown x → r.shown ≡ x.reveal.shown → IsGrown (revealed_in x) (now_of r) → IsShowable (record x { reveal = r })
showable x r shown same grown = record { before = revealed_in x; shown = same ∙ shown; grown = grown }

pub point-at : (x new : Parts) (r : Reveal) → AreShown x → r.shown ≡ x.reveal.shown → Shows (record x { reveal = r }) new → IsPoint x (now_of r) new
point-at x new r shown stays s =
    let p = x.vm.program in
    let path : profile_in new ≡ profile_in x = ap profile_in s.same in
    let which : changed_from p r.shown (now_of r) ≡ changed_of p (revealed_in x) (now_of r) = changed-shown p r.shown (revealed_in x) (now_of r) (stays ∙ shown) in
    record {
      kept = ap₂ (λ (s : Seen) (l : List Swap). let k : Kept = record { seen = s; swaps = l } in k) (ap₂ seen_by s.now (ap (λ (q : Profile). q.open) path))
          (s.swaps ∙ ap (λ l. x.swaps ++ swapped_now p x.vm.clock (now_of r) l) which);
      profile = path;
      calls = ap calls_in s.same;
      vm = s.vm;
      now = s.now;
      fit = s.fit;
      shown = s.shown;
      acts = ap (λ (y : Parts). y.acts) s.same;
    }

pub point-by : (x new : Parts) (r : Reveal) (now : Revealed) → AreShown x → r.shown ≡ x.reveal.shown → now_of r ≡ now → Shows (record x { reveal = r }) new → IsPoint x now new
point-by x new r now shown stays is s = subst (λ (now : Revealed). IsPoint x now new) is (point-at x new r shown stays s)

-- ---- no class is lost

pub grown-same : (a b : Revealed) → b.loaded ≡ a.loaded → IsGrown a b
grown-same a b e = λ class h. ap (is_among class) e ∙ h

pub grown-front : (a b : Revealed) (loaded : List ℕ) → IsPrefix a.loaded loaded → b.loaded ≡ loaded → IsGrown a b
grown-front a b loaded front e = λ class h. ap (is_among class) (e ∙ front.is) ∙ among-front class a.loaded front.rest h

-- ---- what is asked of the linker

pub linked : (l : LinkerView) (v : View) → l.program ≡ v.program → l.loaded ≡ (run_state v).shared.loaded → l ≡ linking v
linked l v program loaded = ap₂ (λ (p : Program) (loaded : List ℕ). let l : LinkerView = record { program = p; loaded = loaded } in l) program loaded

pub ahead-of : (x : Parts) (l : LinkerView) → AreFit x → l ≡ linking x.vm → IsPrefix x.reveal.lineage.loaded (loaded_in x) → IsAhead l x.reveal
ahead-of x l fit is front =
    let grown : IsGrown (revealed_in x) (record (revealed_in x) { loaded = loaded_in x }) = grown-front (revealed_in x) (record (revealed_in x) { loaded = loaded_in x }) (loaded_in x) front refl in
    subst (λ (l : LinkerView). IsAhead l x.reveal) (sym is) (record { loaded = grown; root = grown (user_count x.vm.program) fit.root })

pub prefix-same : (xs ys : List ℕ) → xs ≡ ys → IsPrefix xs ys
prefix-same xs ys e = record { rest = []; is = sym e ∙ sym (append-nil xs) }

-- ---- a method whose class is loaded

pub class-loaded : (p : Program) (loaded : List ℕ) (method : ℕ) → has_class p loaded method ≡ true → HasClass p loaded method
class-loaded p loaded method is = λ place found.
    sym (ap (λ o. option_map_or (λ (place : MethodPlace). is_among place.class loaded) o false) found) ∙ is

pub method-within : (p : Program) (loaded : List ℕ) (method : ℕ) → has_class p loaded method ≡ true → method < length p.methods
method-within p loaded method is = by (place_of_method p method) refl where
  by : (o : Option MethodPlace) → place_of_method p method ≡ o → method < length p.methods
  by (Some place) e = slice_get_within p.methods method place e
  by None e = absurd (let h : false ≡ true = sym (ap (λ o. option_map_or (λ (place : MethodPlace). is_among place.class loaded) o false) e) ∙ is in cc)

-- ---- what a revelation does

-- this is revealed, nothing else is shown, and no class is lost
pub record Reveals (x : Parts) (r : Reveal) (now : Revealed) : Type 0 where
  pub revelation : IsRevelation x.vm.program r
  pub shown : r.shown ≡ x.reveal.shown
  pub is : now_of r ≡ now
  pub grown : IsGrown (revealed_in x) (now_of r)

pub reveals-same : (x : Parts) (r : Reveal) (now : Revealed) → IsRevelation x.vm.program r → now_of r ≡ now → r.shown ≡ x.reveal.shown → now.loaded ≡ x.reveal.lineage.loaded → Reveals x r now
reveals-same x r now rev is shown loaded =
    record { revelation = rev; shown = shown; is = is; grown = grown-same (revealed_in x) (now_of r) (ap (λ (r : Revealed). r.loaded) is ∙ loaded) }

pub reveals-linked : (x : Parts) (r : Reveal) (l : LinkerView) (now : Revealed) → l ≡ linking x.vm → IsRevelation l.program r → now_of r ≡ now → r.shown ≡ x.reveal.shown
    → now.loaded ≡ x.reveal.lineage.loaded → Reveals x r now
reveals-linked x r l now link rev is shown loaded = reveals-same x r now (subst (λ (l : LinkerView). IsRevelation l.program r) link rev) is shown loaded

pub reveals-loads : (x : Parts) (r : Reveal) (l : LinkerView) → l ≡ linking x.vm → CanLoad x → IsRevelation l.program r → now_of r ≡ with_loaded l.loaded (revealed_in x)
    → r.shown ≡ x.reveal.shown → Reveals x r (with_loaded (loaded_in x) (revealed_in x))
reveals-loads x r l link able rev is shown =
    let is_now : now_of r ≡ with_loaded (loaded_in x) (revealed_in x) = is ∙ ap (λ (l : LinkerView). with_loaded l.loaded (revealed_in x)) link in
    record {
      revelation = subst (λ (l : LinkerView). IsRevelation l.program r) link rev;
      shown = shown;
      is = is_now;
      grown = grown-front (revealed_in x) (now_of r) (loaded_in x) able.prefix (ap (λ (r : Revealed). r.loaded) is_now);
    }

pub fit-of : (x : Parts) (r : Reveal) (now : Revealed) → AreFit x → Reveals x r now → AreFit (record x { reveal = r })
fit-of x r now fit is = fit-with x r fit is.revelation is.shown is.grown

pub showable-of : (x : Parts) (r : Reveal) (now : Revealed) → AreShown x → Reveals x r now → IsShowable (record x { reveal = r })
showable-of x r now shown is = showable x r shown is.shown is.grown

pub point-of : (x new : Parts) (r : Reveal) (now : Revealed) → AreShown x → Reveals x r now → Shows (record x { reveal = r }) new → IsPoint x now new
point-of x new r now shown is s = point-by x new r now shown is.shown is.is s
