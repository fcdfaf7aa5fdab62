-- Classes of files, one by one.
use Rattle.std.proofs.Common.{◌≡◌, ◌<◌, ◌+◌, ℕ, List, [], ◌∷◌, ◌++◌, length, map, take, sym, subst}
use Rattle.std.specs.Prelude.{Option, true, codes, get_or}
use Rattle.std.specs.Str.{bytes_eq}
use Rattle.byte_streams.specs.Streams.{Told}
use Rattle.const_pool.specs.declared.class.ClassFile.{ClassFile}
use Rattle.class_reader.specs.Files.{IsFile}
use Rattle.played_rows.specs.Files.{IsFileAt}
use Rattle.played_rows.specs.Machine.Making.{AddsClass, AreClasses}
use Rattle.played_rows.specs.Machine.Words.{rest_of, word_of}
use Rattle.played_rows.proofs.ListLemmas.{taken-more}

pub no-classes : (told : Option Told) (classes : List ClassFile) → classes ≡ [] → AreClasses told [] classes
no-classes told classes e = subst (AreClasses told []) (sym e) AreClasses.none

pub class-more : {A : Type 0} (f : A → List ℕ) (xs : List A) (i : ℕ) (x d : A) (here told : Option Told) (text : List ℕ) (old new : List ClassFile)
    → i < length xs → x ≡ get_or xs i d → here ≡ told → text ≡ f x → AreClasses told (map f (take i xs)) old
    → AddsClass here text old new → AreClasses told (map f (take (i + 1) xs)) new
class-more f xs i x d here told text old new less is same named read added =
    subst (λ texts. AreClasses told texts new)
    (taken-more f xs i x d less is)
    (AreClasses.more (map f (take i xs)) (f x) old new read
    (subst (λ t. AddsClass told t old new) named (subst (λ t. AddsClass t text old new) same added)))

pub class-added : (told : Option Told) (text path : List ℕ) (old new : List ClassFile) (c : ClassFile) → bytes_eq (word_of text) (codes "class") ≡ true
    → path ≡ rest_of text → (bytes : List ℕ) × IsFileAt told path bytes × IsFile bytes c → new ≡ old ++ c ∷ [] → AddsClass told text old new
class-added told text path old new c is named file put =
    subst (AddsClass told text old) (sym put)
    (AddsClass.class old file.0 c is (subst (λ p. IsFileAt told p file.0) named file.1) file.2)
