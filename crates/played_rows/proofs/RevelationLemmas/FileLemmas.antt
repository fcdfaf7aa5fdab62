-- Files that are read, one by one.
use Rattle.std.proofs.Common.{◌≡◌, ◌<◌, ◌+◌, ℕ, List, [], ◌∷◌, ◌++◌, length, map, take, drop, ap, sym, subst, ◌∙◌}
use Rattle.std.specs.Prelude.{Option, get_or}
use Rattle.byte_streams.specs.Streams.{Told}
use Rattle.played_rows.specs.Revelation.Files.{AreRead, IsAdded, IsOneUnread, IsUnread}
use Rattle.played_rows.specs.declared.revelation.parts.RowError.{RowError}
use Rattle.played_rows.proofs.ListLemmas.{parted-each, taken-more}

pub none-read : (told : Option Told) (classes : List (List ℕ)) (rows : List ℕ) → classes ≡ [] → rows ≡ [] → AreRead told [] classes rows
none-read told classes rows no_classes no_rows =
    subst (λ cs. AreRead told [] cs rows) (sym no_classes) (subst (AreRead told [] []) (sym no_rows) AreRead.none)

pub more-read : {A : Type 0} (f : A → List ℕ) (xs : List A) (i : ℕ) (x : A) (here told : Option Told) (path : List ℕ)
    (classes new_classes : List (List ℕ)) (rows new_rows : List ℕ) → i < length xs → x ≡ get_or xs i x → here ≡ told → path ≡ f x
    → AreRead told (map f (take i xs)) classes rows → IsAdded here path classes rows new_classes new_rows
    → AreRead told (map f (take (i + 1) xs)) new_classes new_rows
more-read f xs i x here told path classes new_classes rows new_rows less is same named read added =
    subst (λ paths. AreRead told paths new_classes new_rows)
    (taken-more f xs i x x less is)
    (AreRead.more (f x) (map f (take i xs)) classes rows new_classes new_rows read
    (subst (λ name. IsAdded told name classes rows new_classes new_rows) named
    (subst (λ t. IsAdded t path classes rows new_classes new_rows) same added)))

pub one-unread : {A : Type 0} (f : A → List ℕ) (xs : List A) (i : ℕ) (x : A) (path : List ℕ) (error : RowError) → i < length xs → x ≡ get_or xs i x → path ≡ f x
    → IsUnread path error → IsOneUnread (map f xs) error
one-unread f xs i x path error less is named unread = record {
  before = map f (take i xs);
  path = path;
  after = map f (drop (i + 1) xs);
  there = parted-each f xs i x x less is ∙ ap (λ t. map f (take i xs) ++ (t ∷ map f (drop (i + 1) xs))) (sym named);
  unread = unread;
}
