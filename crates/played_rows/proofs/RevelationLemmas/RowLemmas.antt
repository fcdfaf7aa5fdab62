-- What comes of one item, and of all that is left.
use Rattle.std.proofs.Common.{◌≡◌, ◌≢◌, ◌<◌, ◌≤◌, ◌+◌, ℕ, true, false, List, ◌∷◌, Some, None, drop, length, ap, sym, ◌∙◌, subst, refl}
use Rattle.std.specs.Prelude.{Option, get_or}
use Rattle.std.proofs.lemmas.List.{drop_all}
use Rattle.jvm_model.specs.declared.program.Program.{Program}
use Rattle.jvm_model.specs.Profiling.Revealed.{marks_of, with_loaded}
use Rattle.class_linker.specs.Linkers.{LinkerView}
use Rattle.call_revelation.specs.declared.reveal.Reveal.{Reveal}
use Rattle.played_rows.specs.declared.revelation.item.Difference.{Difference}
use Rattle.played_rows.specs.declared.revelation.item.Difference.TheVariants.{Came, NotLoaded}
use Rattle.played_rows.specs.declared.revelation.item.Fact.{Fact}
use Rattle.played_rows.specs.declared.revelation.item.Happening.{Happening}
use Rattle.played_rows.specs.declared.revelation.item.Happening.TheVariants.{Deselected, Entered, Loaded, Quiet, Selected, Shown}
use Rattle.played_rows.specs.declared.revelation.item.Item.{Item}
use Rattle.played_rows.specs.declared.revelation.item.Item.TheVariants.{Happens, Is}
use Rattle.played_rows.specs.Revelation.Rows.{Comes, Differs, Passes, Seen, behind, can_be_asked, can_be_told, first, revealed_by, shown_by}
use Rattle.played_rows.specs.Revelation.Scenes.{GoesOn, HasHappened, IsFollowed, IsFresh, IsReady, IsSeen, IsToldOf, StopsAt, marks_shown, methods_revealed}
use Rattle.played_rows.proofs.ListLemmas.{rest-more}

-- ---- one item

-- which marks are shown behind a happening
shown-behind : (happening : Happening) (l : LinkerView) (r : Reveal) (s : Seen) → IsSeen l r s
    → marks_shown happening l r ≡ marks_of l.program (shown_by happening s)
shown-behind (Loaded name) l r s seen = seen.shown
shown-behind (Entered method times) l r s seen = seen.shown
shown-behind (Selected method) l r s seen = seen.shown
shown-behind (Deselected method) l r s seen = seen.shown
shown-behind Quiet l r s seen = seen.shown
shown-behind Shown l r s seen = ap (marks_of l.program) seen.now

goes-on : (happening : Happening) (l : LinkerView) (r : Reveal) (next : LinkerView) (after : Reveal) → HasHappened happening l r next after
    → can_be_asked l.program (methods_revealed l r) (Happens happening) ≡ true → GoesOn (Happens happening) l r next after
goes-on happening l r next after has can = record {
  ready = has.ready;
  program = has.program;
  passes = λ s seen. ap (λ n. can_be_asked l.program n (Happens happening)) (sym seen.now) ∙ can;
  seen = λ s seen. record {
    now = has.now ∙ ap (revealed_by l.program happening) seen.now;
    shown = has.shown ∙ (shown-behind happening l r s seen ∙ ap (λ p. marks_of p (shown_by happening s)) (sym has.program));
  };
}

-- where it is this one
pub goes-on-as : (happening said : Happening) (l : LinkerView) (r : Reveal) (next : LinkerView) (after : Reveal) → happening ≡ said
    → HasHappened said l r next after → can_be_asked l.program (methods_revealed l r) (Happens said) ≡ true → GoesOn (Happens happening) l r next after
goes-on-as happening said l r next after e has can =
    subst (λ h. GoesOn (Happens h) l r next after) (sym e) (goes-on said l r next after has can)

pub cannot-happen : (happening : Happening) (l : LinkerView) (r : Reveal) → can_be_asked l.program (methods_revealed l r) (Happens happening) ≡ false
    → StopsAt (Happens happening) l r NotLoaded
cannot-happen happening l r cannot s seen = ap (λ n. can_be_asked l.program n (Happens happening)) (sym seen.now) ∙ cannot

pub untold : (fact : Fact) (l : LinkerView) (r : Reveal) → can_be_told l.program (methods_revealed l r) fact ≡ false → StopsAt (Is fact) l r NotLoaded
untold fact l r cannot s seen = ap (λ n. can_be_told l.program n fact) (sym seen.now) ∙ cannot

pub fact-holds : (fact came : Fact) (l : LinkerView) (r after : Reveal) → IsFollowed l r after → IsToldOf l r fact came → came ≡ fact → GoesOn (Is fact) l r l after
fact-holds fact came l r after by is same = record {
  ready = by.ready;
  program = refl;
  passes = subst (IsToldOf l r fact) same is;
  seen = λ s seen. record { now = ap (with_loaded l.loaded) by.now ∙ seen.now; shown = by.shown ∙ seen.shown };
}

pub fact-differs : (fact came : Fact) (l : LinkerView) (r : Reveal) → IsToldOf l r fact came → came ≢ fact → StopsAt (Is fact) l r (Came came)
fact-differs fact came l r is other s seen = (is s seen, other)

-- ---- what is left of a row

-- what comes of the rest comes of all, from what is seen now
pub record IsGoing (p : Program) (items : List Item) (start : Seen) (l : LinkerView) (r : Reveal) (rest : List Item) : Type 0 where
  pub ready : IsReady l r
  pub program : l.program ≡ p
  pub stands : Seen
  pub seen : IsSeen l r stands
  pub comes : (found : Option Difference) → Comes p rest stands found → Comes p items start found

pub going-first : (items : List Item) (l : LinkerView) (r : Reveal) → IsFresh l r → IsGoing l.program items (first l.loaded) l r items
going-first items l r is = record { ready = is.ready; program = refl; stands = first l.loaded; seen = is.seen; comes = λ found comes. comes }

-- one item more
one-more : (p : Program) (items : List Item) (start : Seen) (l : LinkerView) (r : Reveal) (next : LinkerView) (after : Reveal) (x : Item) (rest : List Item)
    → IsGoing p items start l r (x ∷ rest) → GoesOn x l r next after → IsGoing p items start next after rest
one-more p items start l r next after x rest is on = record {
  ready = on.ready;
  program = on.program ∙ is.program;
  stands = behind p x is.stands;
  seen = subst (λ q. IsSeen next after (behind q x is.stands)) is.program (on.seen is.stands is.seen);
  comes = λ found comes. is.comes found (Comes.more x rest is.stands found (subst (λ q. Passes q is.stands x) is.program (on.passes is.stands is.seen)) comes);
}

pub going-next : (p : Program) (items : List Item) (start : Seen) (l : LinkerView) (r : Reveal) (next : LinkerView) (after : Reveal) (i : ℕ) (x : Item)
    → i < length items → x ≡ get_or items i x → IsGoing p items start l r (drop i items) → GoesOn x l r next after
    → IsGoing p items start next after (drop (i + 1) items)
going-next p items start l r next after i x less e is on =
    one-more p items start l r next after x (drop (i + 1) items) (subst (IsGoing p items start l r) (rest-more items i x less e) is) on

pub comes-none : (p : Program) (items : List Item) (start : Seen) (l : LinkerView) (r : Reveal) (i : ℕ) → length items ≤ i
    → IsGoing p items start l r (drop i items) → Comes p items start None
comes-none p items start l r i end is = is.comes None (subst (λ rest. Comes p rest is.stands None) (sym (drop_all i items end)) (Comes.all is.stands))

pub comes-some : (p : Program) (items : List Item) (start : Seen) (l : LinkerView) (r : Reveal) (i : ℕ) (x : Item) (difference : Difference)
    → i < length items → x ≡ get_or items i x → IsGoing p items start l r (drop i items) → StopsAt x l r difference → Comes p items start (Some difference)
comes-some p items start l r i x difference less e is stops =
    is.comes (Some difference) (subst (λ rest. Comes p rest is.stands (Some difference)) (sym (rest-more items i x less e))
    (Comes.stops x (drop (i + 1) items) is.stands difference (subst (λ q. Differs q is.stands x difference) is.program (stops is.stands is.seen))))
