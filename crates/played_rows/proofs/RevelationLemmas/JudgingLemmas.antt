-- Verdicts one by one.
use Rattle.std.proofs.Common.{◌≡◌, ◌<◌, ◌+◌, ℕ, Bool, true, false, cond, List, [], ◌∷◌, ◌++◌, drop, length, map, take, sym, subst}
use Rattle.std.specs.Prelude.{Option, Some, None, Result, Ok, Err, IfErr, IfOk, codes, get_or}
use Rattle.std.specs.List.{AllByRecursion, AllZip, filter}
use Rattle.std.specs.String.{string_bytes}
use Rattle.std.proofs.lemmas.List.{append-nil}
use Rattle.std.proofs.lemmas.List.Elements.{filter-append}
use Rattle.jf_bytes.specs.Unicode.{utf16_of}
use Rattle.const_pool.specs.declared.class.ClassFile.{ClassFile}
use Rattle.class_reader.specs.Files.{IsFile}
use Rattle.plan_text.specs.Lines.{silent_plan}
use Rattle.admit_check.specs.Admission.{admission_of}
use Rattle.jvm_model.specs.declared.program.Program.{Program}
use Rattle.jvm_model.specs.Classes.Load.{load_of}
use Rattle.class_linker.specs.Linkers.{LinkerView, linker_of}
use Rattle.played_rows.specs.declared.revelation.item.Difference.{Difference}
use Rattle.played_rows.specs.declared.revelation.item.Item.{Item}
use Rattle.played_rows.specs.declared.revelation.judging.Verdict.{Verdict}
use Rattle.played_rows.specs.declared.revelation.parts.RowError.{RowError}
use Rattle.played_rows.specs.declared.revelation.parts.RowError.TheVariants.{Missing, NotText, NotRead, NotAdmitted, NoRoot, Unknown, NoMemory}
use Rattle.played_rows.specs.Revelation.Judging.{AddsVerdict, AreUnadmitted, AreUnmade, IsJudged, IsProgramOf, IsToldOfRow, IsUnbegun, IsUnplayed, IsUnread, IsVerdict, root_name}
use Rattle.played_rows.specs.Revelation.Reading.{IsRead}
use Rattle.played_rows.specs.Revelation.Rows.{Comes, first}
use Rattle.played_rows.specs.Revelation.Lines.{is_row}
use Rattle.played_rows.proofs.ListLemmas.{parted-each, taken-more}

zip-append : {A B : Type 0} (R : A → B → Type 0) (xs more : List A) (ys others : List B) → AllZip R xs ys → AllZip R more others
    → AllZip R (xs ++ more) (ys ++ others)
zip-append R [] more [] others z also = also
zip-append R [] more (y ∷ ys) others z also = absurd z
zip-append R (x ∷ xs) more [] others z also = absurd z
zip-append R (x ∷ xs) more (y ∷ ys) others z also = (z.0, zip-append R xs more ys others z.1 also)

-- ---- a place more

pub formed-more : {A : Type 0} (P : A → Type 0) (old new : List A) (x : A) → AllByRecursion P old → P x → new ≡ old ++ x ∷ [] → AllByRecursion P new
formed-more {A = A} P old new x all holds put = subst (AllByRecursion P) (sym put) (by old all)
  where
    by : (xs : List A) → AllByRecursion P xs → AllByRecursion P (xs ++ x ∷ [])
    by [] all = (holds, tt)
    by (y ∷ ys) all = (all.0, by ys all.1)

pub zip-next : {A B : Type 0} (R : List ℕ → B → Type 0) (f : A → List ℕ) (xs : List A) (i : ℕ) (x d : A) (text : List ℕ) (old new : List B) (y : B)
    → i < length xs → x ≡ get_or xs i d → text ≡ f x → AllZip R (map f (take i xs)) old → R text y → new ≡ old ++ y ∷ []
    → AllZip R (map f (take (i + 1) xs)) new
zip-next R f xs i x d text old new y less is named zip holds put =
    subst (λ texts. AllZip R texts new) (taken-more f xs i x d less is)
    (subst (AllZip R (map f (take i xs) ++ f x ∷ [])) (sym put)
    (zip-append R (map f (take i xs)) (f x ∷ []) old (y ∷ []) zip (subst (λ t. R t y) named holds, tt)))

pub verdict-next : {A : Type 0} (R : List ℕ → Verdict → Type 0) (f : A → List ℕ) (xs : List A) (i : ℕ) (x d : A) (line : List ℕ) (old new : List Verdict)
    → i < length xs → x ≡ get_or xs i d → line ≡ f x → AllZip R (filter is_row (map f (take i xs))) old → AddsVerdict R line old new
    → AllZip R (filter is_row (map f (take (i + 1) xs))) new
verdict-next R f xs i x d line old new less is named zip added =
    let front = map f (take i xs) in
    subst (λ texts. AllZip R (filter is_row texts) new) (taken-more f xs i x d less is)
    (subst (λ rows. AllZip R rows new) (sym (filter-append is_row front (f x ∷ [])))
    (subst (AllZip R (filter is_row front ++ filter is_row (f x ∷ []))) (sym added.put)
    (zip-append R (filter is_row front) (filter is_row (f x ∷ [])) old added.more zip
    (subst (λ t. AllZip R (filter is_row (t ∷ [])) added.more) named added.each))))

-- ---- a row

pub judged : (files : List (List ℕ)) (row : List ℕ) (p : Program) (said : Option (List Item)) (items asked : List Item) (l : LinkerView)
    (came found : Option Difference) → IsProgramOf files p → IsRead p row said → said ≡ Some items → l ≡ linker_of p → asked ≡ items
    → Comes l.program asked (first (load_of l.program l.loaded root_name).loaded) came → came ≡ found → IsJudged files row found
judged files row p said items asked l came found of read says starts same comes is = record {
  program = p;
  of = of;
  items = items;
  read = subst (IsRead p row) says read;
  comes =
      subst (Comes p items (first (load_of p [] root_name).loaded)) is
      (subst (λ xs. Comes p xs (first (load_of p [] root_name).loaded) came) same
      (subst (λ (l : LinkerView). Comes l.program asked (first (load_of l.program l.loaded root_name).loaded) came) starts comes));
}

pub program-made : {E : Type 0} (files : List (List ℕ)) (classes : List ClassFile) (r : Result Program E) → AllZip IsFile files classes
    → IfOk r (λ p. admission_of classes (utf16_of (codes "Main")) silent_plan ≡ Ok p) → IfOk r (IsProgramOf files)
program-made files classes (Ok p) read admitted = record { classes = classes; read = read; admitted = admitted }
program-made files classes (Err e) read admitted = tt

-- ---- why a row is not played

pub none-made : {A : Type 0} (f : A → List ℕ) (xs : List A) (i : ℕ) (x d : A) (bytes : List ℕ) (error : RowError) → i < length xs → x ≡ get_or xs i d → bytes ≡ f x
    → IsUnread bytes error → AreUnmade (map f xs) error
none-made f xs i x d bytes (Missing name) less is named unread = unread
none-made f xs i x d bytes (NotText name) less is named unread = unread
none-made f xs i x d bytes NotRead less is named unread = record {
  before = map f (take i xs);
  bytes = f x;
  after = map f (drop (i + 1) xs);
  there = parted-each f xs i x d less is;
  unread = subst (λ b. IsUnread b NotRead) named unread;
}
none-made f xs i x d bytes NotAdmitted less is named unread = absurd unread
none-made f xs i x d bytes NoRoot less is named unread = unread
none-made f xs i x d bytes Unknown less is named unread = unread
none-made f xs i x d bytes NoMemory less is named unread = tt

none-admitted : (files : List (List ℕ)) (classes : List ClassFile) (error : RowError) → AllZip IsFile files classes → AreUnadmitted classes error → AreUnmade files error
none-admitted files classes (Missing name) read refused = refused
none-admitted files classes (NotText name) read refused = refused
none-admitted files classes NotRead read refused = absurd refused
none-admitted files classes NotAdmitted read refused = (classes, read, refused)
none-admitted files classes NoRoot read refused = refused
none-admitted files classes Unknown read refused = refused
none-admitted files classes NoMemory read refused = tt

pub program-unmade : (files : List (List ℕ)) (classes : List ClassFile) (r : Result Program RowError) → AllZip IsFile files classes → IfErr r (AreUnadmitted classes)
    → IfErr r (AreUnmade files)
program-unmade files classes (Ok p) read refused = tt
program-unmade files classes (Err e) read refused = none-admitted files classes e read refused

unbegun-of : (files : List (List ℕ)) (row : List ℕ) (p : Program) (error : RowError) → IsProgramOf files p → IsUnbegun (linker_of p) error → IsUnplayed files row error
unbegun-of files row p (Missing name) of is = is
unbegun-of files row p (NotText name) of is = is
unbegun-of files row p NotRead of is = absurd is
unbegun-of files row p NotAdmitted of is = absurd is
unbegun-of files row p NoRoot of is = (p, of, is)
unbegun-of files row p Unknown of is = absurd is
unbegun-of files row p NoMemory of is = tt

pub unbegun : (files : List (List ℕ)) (row : List ℕ) (p : Program) (l : LinkerView) (error : RowError) → IsProgramOf files p → l ≡ linker_of p → IsUnbegun l error
    → IsUnplayed files row error
unbegun files row p l error of starts is = unbegun-of files row p error of (subst (λ m. IsUnbegun m error) starts is)

-- ---- a verdict

module _ {A : Type 0} (files : List (List ℕ)) (timed : Bool) (row : List ℕ) (v : Verdict) where
  pub told-took : (told : Option A) → timed ≡ true → IsToldOfRow files row told → v.has_passed ≡ true → IsVerdict files timed row v
  told-took None is judged passed = IsVerdict.took None is judged passed
  told-took (Some t) is judged passed = IsVerdict.took (Some judged.0) is judged.1 passed

  pub told-differs : (told : Option A) (t : A) (text : List ℕ) → timed ≡ false → IsToldOfRow files row told → told ≡ Some t
      → string_bytes v.line ≡ row ++ (codes ": " ++ text) → v.has_passed ≡ false → IsVerdict files timed row v
  told-differs None t text is judged e line passed = absurd cc
  told-differs (Some u) t text is judged e line passed = IsVerdict.differs judged.0 text is judged.1 line passed

-- ---- a line

module _ (R : List ℕ → Verdict → Type 0) (line : List ℕ) where
  one-row : (v : Verdict) (b : Bool) → b ≡ true → R line v → AllZip R (cond b (line ∷ []) []) (v ∷ [])
  one-row v true e holds = (holds, tt)
  one-row v false e holds = absurd cc

  no-row : (b : Bool) → b ≡ false → AllZip R (cond b (line ∷ []) []) []
  no-row true e = absurd cc
  no-row false e = tt

  pub row-added : (old new : List Verdict) (v : Verdict) → is_row line ≡ true → R line v → new ≡ old ++ v ∷ [] → AddsVerdict R line old new
  row-added old new v is holds put = record { more = v ∷ []; each = one-row v (is_row line) is holds; put = put }

  pub none-added : (old : List Verdict) → is_row line ≡ false → AddsVerdict R line old old
  none-added old is = record { more = []; each = no-row (is_row line) is; put = sym (append-nil old) }
