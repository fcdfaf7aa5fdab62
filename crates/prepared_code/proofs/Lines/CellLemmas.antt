-- What is known at a place is known there alone, and stays known.
use Rattle.std.proofs.Common.{◌≡◌, ◌⊎◌, ℕ, zero, suc, Bool, true, false, List, [], ◌∷◌, ◌++◌, Option, Some, None, ap, sym, subst, refl, ◌∙◌, inl, inr}
use Rattle.std.specs.Prelude.{◌==◌, ◌&&◌, slice_get, slice_set, if◌then◌else◌}
use Rattle.std.specs.Option.{IfSome, option_and_then}
use Rattle.std.proofs.lemmas.Option.{none-some}
use Rattle.frame_stack.specs.FrameLists.{PlacedFrame, pins_of}
use Rattle.method_versions.specs.Tables.{is_superseded_in}
use Rattle.class_linker.specs.Linkers.{LinkerView}
use Rattle.jvm_model.specs.declared.instruction.SymbolicReference.{SymbolicReference}
use Rattle.jvm_model.specs.declared.instruction.Operation.{Operation}
use Rattle.jvm_model.specs.declared.instruction.Operation.TheVariants as operation
use Rattle.member_selection.specs.Attempts.{with_more}
use Rattle.member_selection.specs.declared.known.Known.{Known}
use Rattle.member_selection.specs.Known.{IsKnown}
use Rattle.symbolic_references.proofs.Again.{known-more}
use Rattle.prepared_code.specs.Cells.{Keeps, KeepsItem, Learns, Rows, cell_at, item_at}
use Rattle.prepared_code.specs.Kept.{AreKnown, IsLater}
use Rattle.prepared_code.specs.Lines.{IfNamed, IfNamedBy}
use Rattle.prepared_code.specs.Tables.{Releases, Versions, version_at}
use Rattle.prepared_code.specs.Versions.{line_at, line_in}
use Rattle.prepared_lines.specs.declared.line.LocalAction.{LocalAction}
use Rattle.prepared_lines.specs.declared.line.Line.{Line}

same-known : (a b : Known) → Some a ≡ Some b → b ≡ a
same-known a b e = cc

-- ---- a place or a row more, where nothing is known

pub item_more : (row : List (Option Known)) (place : ℕ) → item_at (row ++ None ∷ []) place ≡ item_at row place
item_more [] zero = refl
item_more [] (suc place) = refl
item_more (x ∷ xs) zero = refl
item_more (x ∷ xs) (suc place) = item_more xs place

pub cell_more : (rows : Rows) (version place : ℕ) → cell_at (rows ++ [] ∷ []) version place ≡ cell_at rows version place
cell_more [] zero place = refl
cell_more [] (suc version) place = refl
cell_more (row ∷ rows) zero place = refl
cell_more (row ∷ rows) (suc version) place = cell_more rows version place

-- ---- what is kept besides

abbrev OneOf : {A : Type 0} → Option A → ℕ → ℕ → A → A → Type 0
OneOf old other place k known = (old ≡ Some k) ⊎ ((other ≡ place) × (k ≡ known))

next-place : (old : Option Known) (other place : ℕ) (k known : Known) → OneOf old other place k known → OneOf old (suc other) (suc place) k known
next-place old other place k known (inl is) = inl is
next-place old other place k known (inr is) = inr (ap suc is.0, is.1)

set-item : (row : List (Option Known)) (place other : ℕ) (known k : Known) → item_at (slice_set row place (Some known)) other ≡ Some k
    → OneOf (item_at row other) other place k known
set-item [] place other known k e = inl e
set-item (x ∷ xs) zero zero known k e = inr (refl, same-known known k e)
set-item (x ∷ xs) zero (suc other) known k e = inl e
set-item (x ∷ xs) (suc place) zero known k e = inl e
set-item (x ∷ xs) (suc place) (suc other) known k e = next-place (item_at xs other) other place k known (set-item xs place other known k e)

pub item_put : (row : List (Option Known)) (place : ℕ) (known : Known) → KeepsItem place known row (slice_set row place (Some known))
item_put row place known = record { each = λ other k e. set-item row place other known k e }

pub item_same : (row : List (Option Known)) (place : ℕ) (known : Known) → KeepsItem place known row row
item_same row place known = record { each = λ other k e. inl e }

-- with a longer row before
pub item_kept : (row old : List (Option Known)) (place : ℕ) (known : Known) → ((other : ℕ) → item_at row other ≡ item_at old other) → KeepsItem place known old row
item_kept row old place known same = record { each = λ other k e. inl (sym (same other) ∙ e) }

pub item_behind : (row old new : List (Option Known)) (place : ℕ) (known : Known) → ((other : ℕ) → item_at row other ≡ item_at old other) → KeepsItem place known row new
    → KeepsItem place known old new
item_behind row old new place known same keeps = record {
  each = λ other k e. subst (λ o. OneOf o other place k known) (same other) (keeps.each other k e);
}

abbrev OneCell : Rows → ℕ → ℕ → ℕ → ℕ → Known → Known → Type 0
OneCell old v other version place k known = (cell_at old v other ≡ Some k) ⊎ ((v ≡ version) × (other ≡ place) × (k ≡ known))

next-row : (old : Rows) (row : List (Option Known)) (v other version place : ℕ) (k known : Known) → OneCell old v other version place k known
    → OneCell (row ∷ old) (suc v) other (suc version) place k known
next-row old row v other version place k known (inl is) = inl is
next-row old row v other version place k known (inr (a, b, c)) = inr (ap suc a, b, c)

in-row : (old : List (Option Known)) (rows : Rows) (other place : ℕ) (k known : Known) → OneOf (item_at old other) other place k known
    → OneCell (old ∷ rows) 0 other 0 place k known
in-row old rows other place k known (inl is) = inl is
in-row old rows other place k known (inr is) = inr (refl, is.0, is.1)

set-cell : (rows : Rows) (version v other place : ℕ) (known k : Known) (row old : List (Option Known)) → slice_get rows version ≡ Some old
    → KeepsItem place known old row → cell_at (slice_set rows version row) v other ≡ Some k → OneCell rows v other version place k known
set-cell [] version v other place known k row old there keeps e = absurd (none-some old there)
set-cell (x ∷ xs) zero zero other place known k row old there keeps e =
    subst (λ r. OneCell (r ∷ xs) 0 other 0 place k known) (let same : Some x ≡ Some old → old ≡ x = λ e. cc in same there)
    (in-row old xs other place k known (keeps.each other k e))
set-cell (x ∷ xs) zero (suc v) other place known k row old there keeps e = inl e
set-cell (x ∷ xs) (suc version) zero other place known k row old there keeps e = inl e
set-cell (x ∷ xs) (suc version) (suc v) other place known k row old there keeps e =
    next-row xs x v other version place k known (set-cell xs version v other place known k row old there keeps e)

pub cell_put : (rows : Rows) (version place : ℕ) (known : Known) (row old : List (Option Known)) → slice_get rows version ≡ Some old
    → KeepsItem place known old row → Keeps version place known rows (slice_set rows version row)
cell_put rows version place known row old there keeps = record { each = λ v other k e. set-cell rows version v other place known k row old there keeps e }

pub keeps_same : (rows : Rows) (version place : ℕ) (known : Known) → Keeps version place known rows rows
keeps_same rows version place known = record { each = λ v other k e. inl e }

pub cells_same : (new old : Rows) (version place : ℕ) (known : Known) → ((v other : ℕ) → cell_at new v other ≡ cell_at old v other) → Keeps version place known old new
cells_same new old version place known same = record { each = λ v other k e. inl (sym (same v other) ∙ e) }

-- with rows more before
pub keeps_behind : (old between new : Rows) (version place : ℕ) (known : Known) → ((v other : ℕ) → cell_at between v other ≡ cell_at old v other)
    → Keeps version place known between new → Keeps version place known old new
keeps_behind old between new version place known same keeps = record {
  each = λ v other k e. by v other k (keeps.each v other k e);
}
  where
    by : (v other : ℕ) (k : Known) → OneCell between v other version place k known → OneCell old v other version place k known
    by v other k (inl is) = inl (sym (same v other) ∙ is)
    by v other k (inr is) = inr is

-- ---- what is known

pub nil-known : (l : LinkerView) (v : Versions) → AreKnown l v []
nil-known l v = record { each = λ version place k e. absurd (none-some k e) }

pub known-kept : (l : LinkerView) (v : Versions) (old new : Rows) (version place : ℕ) (known : Known) → Keeps version place known old new → AreKnown l v old
    → IfNamed (line_at v version place) (λ n next. IsKnown l n known) → AreKnown l v new
known-kept l v old new version place known keeps are one = record {
  each = λ version2 other k e. by version2 other k (keeps.each version2 other k e);
}
  where
    by : (version2 other : ℕ) (k : Known) → OneCell old version2 other version place k known → IfNamed (line_at v version2 other) (λ n next. IsKnown l n k)
    by version2 other k (inl is) = are.each version2 other k is
    by version2 other k (inr (same_version, same_place, is)) =
        subst (λ k. IfNamed (line_at v version2 other) (λ n next. IsKnown l n k)) (sym is)
        (subst (λ at. IfNamed (line_at v version2 at) (λ n next. IsKnown l n known)) (sym same_place)
        (subst (λ u. IfNamed (line_at v u place) (λ n next. IsKnown l n known)) (sym same_version) one))

-- ---- with more loaded

by-operation : (a : Operation LocalAction) (next : ℕ) (P Q : SymbolicReference → ℕ → Type 0) → ((n : SymbolicReference) (next : ℕ) → P n next → Q n next) → IfNamedBy a next P → IfNamedBy a next Q
by-operation (operation.Named n) next P Q f h = f _ next h
by-operation (operation.Within i) next P Q f h = tt
by-operation operation.Athrow next P Q f h = tt
by-operation operation.Monitor next P Q f h = tt
by-operation operation.Arraylength next P Q f h = tt
by-operation (operation.Newarray k) next P Q f h = tt
by-operation (operation.LoadElement k) next P Q f h = tt
by-operation (operation.StoreElement k) next P Q f h = tt
by-operation (operation.LdcString units) next P Q f h = tt

by-line : (o : Option Line) (P Q : SymbolicReference → ℕ → Type 0) → ((n : SymbolicReference) (next : ℕ) → P n next → Q n next) → IfNamed o P → IfNamed o Q
by-line None P Q f h = tt
by-line (Some line) P Q f h = by-operation line.operation line.next P Q f h

pub known-later : (l new : LinkerView) (v : Versions) (rows : Rows) → IsLater l new → AreKnown l v rows → AreKnown new v rows
known-later l new v rows later are = record {
  each = λ version place k e.
      by-line (line_at v version place) (λ n next. IsKnown l n k) (λ n next. IsKnown new n k)
      (λ n next is. later.keeps n k is) (are.each version place k e);
}

pub later_same : (l new : LinkerView) → new ≡ l → IsLater l new
later_same l new same = record { keeps = λ n k is. subst (λ v. IsKnown v n k) (sym same) is }

pub later_more : (l new : LinkerView) (more : List ℕ) → new ≡ with_more l more → IsLater l new
later_more l new more is = record { keeps = λ n k known. subst (λ v. IsKnown v n k) (sym is) (known-more l more n k known) }

-- what was learnt by an attempt is kept
pub known-learnt : (l new : LinkerView) (v : Versions) (rows after : Rows) (version place : ℕ) (learnt : Option Known) → IsLater l new → AreKnown l v rows
    → Learns version place learnt rows after → IfSome learnt (λ k. IfNamed (line_at v version place) (λ n next. IsKnown new n k)) → AreKnown new v after
known-learnt l new v rows after version place None later are learns one = subst (AreKnown new v) (sym learns) (known-later l new v rows later are)
known-learnt l new v rows after version place (Some k) later are learns one =
    known-kept new v rows after version place k learns (known-later l new v rows later are) one

-- ---- the line that stands at a place

pub learnt-at : (new : LinkerView) (v : Versions) (version place : ℕ) (line : Line) (learnt : Option Known) → line_at v version place ≡ Some line
    → IfSome learnt (λ k. IfNamedBy line.operation line.next (λ n next. IsKnown new n k))
    → IfSome learnt (λ k. IfNamed (line_at v version place) (λ n next. IsKnown new n k))
learnt-at new v version place line learnt is one =
    subst (λ o. IfSome learnt (λ k. IfNamed o (λ n next. IsKnown new n k))) (sym is) one

pub known-at : (l : LinkerView) (v : Versions) (rows : Rows) (version place : ℕ) (k : Known) (line : Line) → AreKnown l v rows
    → cell_at rows version place ≡ Some k → line_at v version place ≡ Some line → IfNamedBy line.operation line.next (λ n next. IsKnown l n k)
known-at l v rows version place k line are there is =
    subst (λ o. IfNamed o (λ n next. IsKnown l n k)) is (are.each version place k there)

-- what the line's own attempts leave
pub renewed : (l : LinkerView) (v : Versions) (rows after : Rows) (version place : ℕ) (k : Known) (line : Line) → line_at v version place ≡ Some line
    → Keeps version place k rows after → AreKnown l v rows → IfNamedBy line.operation line.next (λ n next. IsKnown l n k) → AreKnown l v after
renewed l v rows after version place k line is keeps are one =
    known-kept l v rows after version place k keeps are (subst (λ o. IfNamed o (λ n next. IsKnown l n k)) (sym is) one)

pub learnt-kept : (l new : LinkerView) (v : Versions) (rows after : Rows) (version place : ℕ) (learnt : Option Known) (line : Line) → line_at v version place ≡ Some line
    → IsLater l new → AreKnown l v rows → Learns version place learnt rows after
    → IfSome learnt (λ k. IfNamedBy line.operation line.next (λ n next. IsKnown new n k)) → AreKnown new v after
learnt-kept l new v rows after version place learnt line is later are learns one =
    known-learnt l new v rows after version place learnt later are learns (learnt-at new v version place line learnt is one)

-- ---- versions that are dropped

pub known-left : (l : LinkerView) (fs : List PlacedFrame) (v after : Versions) (rows : Rows) → Releases fs v after → AreKnown l v rows → AreKnown l after rows
known-left l fs v after rows released are = record {
  each = λ version place k e.
      subst (λ o. IfNamed (option_and_then (line_in place) o) (λ n next. IsKnown l n k)) (sym (released.held version))
      (by version place k (is_superseded_in v.slots v.current version && pins_of version fs == 0) (are.each version place k e));
}
  where
    by : (version place : ℕ) (k : Known) (b : Bool) → IfNamed (line_at v version place) (λ n next. IsKnown l n k)
        → IfNamed (option_and_then (line_in place) (if b then None else version_at v version)) (λ n next. IsKnown l n k)
    by version place k true is = tt
    by version place k false is = is
