-- Classes that are loaded one after the other.
use Rattle.std.proofs.Common.{◌≡◌, ℕ, ◌+◌, ◌<◌, false, List, [], ◌∷◌, ◌++◌, length, drop, get_or, ap, sym, subst, refl, ◌∙◌}
use Rattle.std.specs.List.{AllByRecursion}
use Rattle.std.proofs.lemmas.List.{drop_more, append_assoc, append-nil}
use Rattle.std.proofs.lemmas.Bool.{or_right}
use Rattle.jvm_model.specs.declared.program.Program.{Program}
use Rattle.jvm_model.specs.Classes.Load.{is_among}
use Rattle.jvm_model.specs.Profiling.Revelation.{IsLoadOrder}
use Rattle.jvm_model.specs.Soundness.Sound.{HasSupertypes}
use Rattle.jvm_model.proofs.Loading.LoadOrder.{order-behind}
use Rattle.jvm_model.proofs.Loading.Among.{among-append}
use Rattle.class_linker.specs.Linkers.{IsLoaded, LinkerView}
use Rattle.possible_callees.specs.Tables.{IsPrefix}
use Rattle.possible_callees.proofs.Numbers.Fronts.{front-drop}
use Rattle.possible_callees.proofs.References.TargetLemmas.{all-behind}
use Rattle.call_revelation.specs.declared.reveal.Reveal.{Reveal}
use Rattle.call_revelation.specs.Reveals.{AreLoading, IsAhead, IsGrown, IsRevelation}
use Rattle.call_revelation.proofs.Revelations.Grown.{grown-self, grown-then}
use Rattle.call_revelation.proofs.Revelations.Marking.{ahead-more}

ordered-above : (p : Program) (loaded rest : List ℕ) → IsLoadOrder p loaded rest → HasSupertypes p loaded
ordered-above p loaded [] order = order
ordered-above p loaded (class ∷ rest) order = order.0

pub loading-first : (l : LinkerView) (r : Reveal) (classes : List ℕ) → IsRevelation l.program r → IsAhead l r → IsLoadOrder l.program r.lineage.loaded classes
    → AllByRecursion (IsLoaded l) classes → AreLoading l r r classes classes
loading-first l r classes is ahead order linked = record {
  revelation = is;
  grown = grown-self l.program r is.kept;
  ahead = ahead;
  loaded = refl;
  order = order;
  linked = linked;
}

module _ (l : LinkerView) (first now : Reveal) (classes : List ℕ) (i : ℕ) (within : i < length classes) (so : AreLoading l first now classes (drop i classes)) where
  abbrev class : ℕ
  class = get_or classes i 0

  behind : drop i classes ≡ class ∷ drop (i + 1) classes
  behind = drop_more classes i 0 within

  in-order : IsLoadOrder l.program now.lineage.loaded (class ∷ drop (i + 1) classes)
  in-order = subst (IsLoadOrder l.program now.lineage.loaded) behind so.order

  in-linker : AllByRecursion (IsLoaded l) (class ∷ drop (i + 1) classes)
  in-linker = subst (AllByRecursion (IsLoaded l)) behind so.linked

  pub next-above : HasSupertypes l.program now.lineage.loaded
  next-above = in-order.0

  -- and with the class
  pub next-all : HasSupertypes l.program (now.lineage.loaded ++ class ∷ [])
  next-all = ordered-above l.program (now.lineage.loaded ++ class ∷ []) (drop (i + 1) classes) in-order.2

  pub next-fresh : is_among class now.lineage.loaded ≡ false
  next-fresh = in-order.1

  pub next-linked : IsLoaded l class
  next-linked = in-linker.0

  pub loading-next : (next : Reveal) → IsGrown l.program now next → next.lineage.loaded ≡ now.lineage.loaded ++ class ∷ [] → IsRevelation l.program next
      → AreLoading l first next classes (drop (i + 1) classes)
  loading-next next grown loaded is = record {
    revelation = is;
    grown = grown-then l.program first now next so.grown grown;
    ahead = ahead-more l now class next so.ahead next-linked loaded;
    loaded =
        ap (λ k. k ++ drop (i + 1) classes) loaded
        ∙ (append_assoc now.lineage.loaded (class ∷ []) (drop (i + 1) classes)
        ∙ (ap (λ k. now.lineage.loaded ++ k) (sym behind) ∙ so.loaded));
    order = subst (λ k. IsLoadOrder l.program k (drop (i + 1) classes)) (sym loaded) in-order.2;
    linked = in-linker.1;
  }

pub all-loaded : (l : LinkerView) (first now : Reveal) (classes rest : List ℕ) → rest ≡ [] → AreLoading l first now classes rest
    → now.lineage.loaded ≡ first.lineage.loaded ++ classes
all-loaded l first now classes rest none so = sym (append-nil now.lineage.loaded) ∙ (ap (λ k. now.lineage.loaded ++ k) (sym none) ∙ so.loaded)

-- ---- what a linker has loaded behind a list

pub behind-linked : (l : LinkerView) (a : List ℕ) (front : IsPrefix a l.loaded) → AllByRecursion (IsLoaded l) (drop (length a) l.loaded)
behind-linked l a front =
    all-behind l.loaded (drop (length a) l.loaded)
    (λ x h. ap (is_among x) front.is
    ∙ (among-append x a front.rest ∙ or_right (is_among x a) (is_among x front.rest) (sym (ap (is_among x) (front-drop a l.loaded front)) ∙ h)))

pub behind-order : (p : Program) (a all : List ℕ) (front : IsPrefix a all) → IsLoadOrder p [] all → IsLoadOrder p a (drop (length a) all)
behind-order p a all front order =
    subst (IsLoadOrder p a) (sym (front-drop a all front)) (order-behind p [] a front.rest (subst (IsLoadOrder p []) front.is order))

pub behind-whole : (a all : List ℕ) (front : IsPrefix a all) → a ++ drop (length a) all ≡ all
behind-whole a all front = ap (λ k. a ++ k) (front-drop a all front) ∙ sym front.is
