-- A table with versions more, or fewer, has lines of theirs and of those that stay.
use Rattle.std.proofs.Common.{◌≡◌, ◌<◌, ℕ, zero, suc, Bool, true, false, List, [], ◌∷◌, ◌++◌, length, Option, Some, None, Result, Ok, Err, refl, sym, ap, subst, ◌∙◌, arith}
use Rattle.std.specs.Prelude.{◌==◌, ◌&&◌, slice_get, slice_index_or, OnErr, OnOk, if◌then◌else◌}
use Rattle.std.specs.List.{AllByRecursion}
use Rattle.std.specs.Option.{IfSome, option_and_then}
use Rattle.std.proofs.lemmas.List.{ext_get_or, length-set}
use Rattle.frame_stack.specs.FrameLists.{PlacedFrame, pins_of}
use Rattle.method_versions.specs.Tables.{held_besides, is_number, is_superseded_in}
use Rattle.member_selection.specs.Objects.{HasDimensions}
use Rattle.prepared_lines.specs.declared.line.Line.{Line}
use Rattle.prepared_code.specs.Lines.{IfNamedBy}
use Rattle.prepared_code.specs.Tables.{Adds, AreAllCurrent, AreOfMethods, IsAdded, Releases, Version, Versions, version_at}
use Rattle.prepared_code.specs.Versions.{HasLines, HasOwnLines, IsPreparedLine, line_at, line_in}

module _ (P : Line → Type 0) where
  abbrev AreLines : Versions → Type 0
  AreLines v = (version place : ℕ) → IfSome (line_at v version place) P

  abbrev at : ℕ → Option Version → Type 0
  at place o = IfSome (option_and_then (line_in place) o) P

  -- what is held, or nothing
  left-or-none : (v : Versions) (k place : ℕ) (b : Bool) → AreLines v → at place (if b then None else version_at v k)
  left-or-none v k place true each = tt
  left-or-none v k place false each = each k place

  pub lines-added : (fs : List PlacedFrame) (number : ℕ) (x : Version) (v after : Versions) → IsAdded fs number x v after → ((place : ℕ) → IfSome (line_in place x) P) → AreLines v → AreLines after
  lines-added fs number x v after added own each k place = subst (at place) (sym (added.held k)) (by (k == number)) where
    by : (b : Bool) → at place (if b then Some x else held_besides fs (slice_get v.current x.method) k (version_at v k))
    by true = own place
    by false = left-or-none v k place (is_number k (slice_get v.current x.method) && pins_of k fs == 0) each

  pub lines-all : (fs : List PlacedFrame) (xs : List Version) (v after : Versions) → Adds fs xs v after → AllByRecursion (λ (x : Version). (place : ℕ) → IfSome (line_in place x) P) xs
      → AreLines v → AreLines after
  lines-all fs [] v after adds own each = subst AreLines (sym adds) each
  lines-all fs (x ∷ xs) v after adds own each = lines-all fs xs adds.1 after adds.3 own.1 (lines-added fs adds.0 x v adds.1 adds.2 own.0 each)

  pub lines-left : (fs : List PlacedFrame) (v after : Versions) → Releases fs v after → AreLines v → AreLines after
  lines-left fs v after released each k place =
      subst (at place) (sym (released.held k)) (left-or-none v k place (is_superseded_in v.slots v.current k && pins_of k fs == 0) each)

abbrev CanHave : Line → Type 0
CanHave l = IfNamedBy l.operation l.next (λ n next. HasDimensions n)

prepared-of : (xs : List Version) → AllByRecursion HasOwnLines xs → AllByRecursion (λ (x : Version). (place : ℕ) → IfSome (line_in place x) IsPreparedLine) xs
prepared-of [] each = tt
prepared-of (x ∷ xs) each = (each.0.prepared, prepared-of xs each.1)

dimensions-of : (xs : List Version) → AllByRecursion HasOwnLines xs → AllByRecursion (λ (x : Version). (place : ℕ) → IfSome (line_in place x) CanHave) xs
dimensions-of [] each = tt
dimensions-of (x ∷ xs) each = (each.0.dimensions, dimensions-of xs each.1)

pub has-lines-all : (fs : List PlacedFrame) (xs : List Version) (v after : Versions) → Adds fs xs v after → AllByRecursion HasOwnLines xs → HasLines v → HasLines after
has-lines-all fs xs v after adds own lines = record {
  prepared = lines-all IsPreparedLine fs xs v after adds (prepared-of xs own) lines.prepared;
  dimensions = lines-all CanHave fs xs v after adds (dimensions-of xs own) lines.dimensions;
}

pub has-lines-left : (fs : List PlacedFrame) (v after : Versions) → Releases fs v after → HasLines v → HasLines after
has-lines-left fs v after released lines = record {
  prepared = lines-left IsPreparedLine fs v after released lines.prepared;
  dimensions = lines-left CanHave fs v after released lines.dimensions;
}

-- ---- one behind the other

pub adds-more : (fs : List PlacedFrame) (xs : List Version) (x : Version) (number : ℕ) (v between after : Versions) → Adds fs xs v between → IsAdded fs number x between after
    → Adds fs (xs ++ x ∷ []) v after
adds-more fs [] x number v between after adds added = (number, after, subst (λ (u : Versions). IsAdded fs number x u after) adds added, refl)
adds-more fs (y ∷ xs) x number v between after adds added = (adds.0, adds.1, adds.2, adds-more fs xs x number adds.1 between after adds.3 added)

-- as many methods begin in versions
pub adds-count : (fs : List PlacedFrame) (xs : List Version) (v after : Versions) → Adds fs xs v after → length after.current ≡ length v.current
adds-count fs [] v after adds = ap (λ (u : Versions). length u.current) adds
adds-count fs (x ∷ xs) v after adds = adds-count fs xs adds.1 after adds.3 ∙ (ap length adds.2.current ∙ length-set v.current x.method adds.0)

-- nothing goes where nothing is superseded
pub none-released : (fs : List PlacedFrame) (v after : Versions) → Releases fs v after → AreAllCurrent v → after ≡ v
none-released fs v after released current =
    let slots : after.slots ≡ v.slots =
    ext_get_or None after.slots v.slots released.count
    (λ k lt. released.held k ∙ ap (λ b. if b && pins_of k fs == 0 then None else version_at v k) (current k)) in
    ap (λ (xs : List (Option Version)). let u : Versions = record { slots = xs; current = after.current } in u) slots
    ∙ ap (λ (ks : List ℕ). let u : Versions = record { slots = v.slots; current = ks } in u) released.current

pub of-methods-at : (count : ℕ) (xs : List Version) (i : ℕ) (d : Version) → AreOfMethods count xs → i < length xs → (slice_index_or xs i d).method < count
of-methods-at count [] i d each lt = absurd (omega arith)
of-methods-at count (x ∷ xs) zero d each lt = each.0
of-methods-at count (x ∷ xs) (suc i) d each lt = of-methods-at count xs i d each.1 (omega arith)

-- where an answer changes a table or leaves it
pub either : {A B C : Type 0} {E : Type 0} (r : Result (Unit {0}) E) → OnOk r A → OnErr r B → (A → C) → (B → C) → C
either (Ok u) a b f g = f a
either (Err e) a b f g = g b
