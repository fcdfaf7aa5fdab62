-- What the files tell, from the fronts of files that were fetched.
use Rattle.std.proofs.Common.{◌≡◌, ℕ, zero, suc, ◌+◌, ◌<◌, ◌≤◌, List, [], ◌∷◌, length, take, Option, Some, None, refl, sym, ap, subst, ◌∙◌, arith, inl, inr}
use Rattle.std.specs.Prelude.{◌⊎◌, slice_get}
use Rattle.std.specs.List.{AllZip}
use Rattle.std.specs.Option.{option_map}
use Rattle.std.proofs.lemmas.Bool.{cases_lt}
use Rattle.std.proofs.lemmas.List.{length-take, take_all}
use Rattle.std.proofs.lemmas.Option.{same_Some, none-some}
use Rattle.byte_streams.specs.Streams.{Told, contents_at, IsToldAs}
use Rattle.const_pool.specs.declared.class.ClassFile.{ClassFile}
use Rattle.class_reader.specs.declared.error.ReadError.{ReadError}
use Rattle.class_reader.specs.Files.{most_bytes, IsFirstFault}
use Rattle.jfluid_cli.specs.Contents.{AreFetched, AreFiles, AreToldAs, IsFaultAt, IsFrontFor}
use Rattle.jfluid_cli.proofs.Reports.Pairs.{zip-take}

-- ---- one file

-- what was fetched of contents: all of them, or a front of longer ones
abbrev pub IsFrontOf : List ℕ → List ℕ → Type 0
IsFrontOf content front = (content ≡ front) ⊎ (take (most_bytes + 1) content ≡ front)

pub record HasContent (told : Option Told) (word front : List ℕ) : Type 0 where
  pub content : List ℕ
  pub told_as : IsToldAs told word content
  pub front_is : IsFrontOf content front

content-some : (files : Told) (word front : List ℕ) (o : Option (List ℕ)) → contents_at files word ≡ o
    → option_map (take (most_bytes + 1)) o ≡ Some front → HasContent (Some files) word front
content-some files word front None e is = absurd (none-some front is)
content-some files word front (Some content) e is = record {
  content = content;
  told_as = e;
  front_is = inr (same_Some (take (most_bytes + 1) content) front is);
}

told-content : (told : Option Told) (word front : List ℕ) → IsFrontFor told word front
    → HasContent told word front
told-content None word front is = record { content = front; told_as = tt; front_is = inl refl }
told-content (Some files) word front is =
    content-some files word front (contents_at files word) refl is

-- a front that is short is the whole
take_short : (n : ℕ) (content front : List ℕ) → take (n + 1) content ≡ front → length front ≤ n
    → content ≡ front
take_short n content front e short =
    let len : length content ≤ n + 1 = omega (arith, length-take (n + 1) content, ap length e) in
    sym (take_all (n + 1) content len) ∙ e

front-short : (content front : List ℕ) → IsFrontOf content front → length front ≤ most_bytes
    → content ≡ front
front-short content front (inl same) short = same
front-short content front (inr is) short = take_short most_bytes content front is short

content-short : (content front : List ℕ) → IsFrontOf content front → length content ≤ most_bytes
    → content ≡ front
content-short content front (inl same) short = same
content-short content front (inr is) short =
    sym (take_all (most_bytes + 1) content (omega (arith, short))) ∙ is

-- a file that is too long has the same first fault as its front
fault-long : (content front : List ℕ) (fault : ReadError) → take (most_bytes + 1) content ≡ front
    → most_bytes < length front → IsFirstFault front fault → IsFirstFault content fault
fault-long content front fault e long (inl (more, is)) =
    inl (omega (arith, ap length e, length-take (most_bytes + 1) content, long), is)
fault-long content front fault e long (inr (short, image)) = absurd (omega (arith, long, short))

-- the first fault of a front is that of the whole
front-fault : (content front : List ℕ) (fault : ReadError) → IsFrontOf content front
    → IsFirstFault front fault → IsFirstFault content fault
front-fault content front fault (inl same) first =
    subst (λ (bs : List ℕ). IsFirstFault bs fault) (sym same) first
front-fault content front fault (inr is) first = elim (cases_lt most_bytes (length front)) [
  | inl long ↦ fault-long content front fault is long first
  | inr short ↦ subst (λ (bs : List ℕ). IsFirstFault bs fault)
      (sym (take_short most_bytes content front is short)) first
]

-- ---- several files

-- what the files tell under the words, and the fronts that were fetched of it
pub record HaveContents (told : Option Told) (words fronts : List (List ℕ)) : Type 0 where
  pub contents : List (List ℕ)
  pub told_as : AreToldAs told words contents
  pub fronts_are : AllZip IsFrontOf contents fronts

pub told-contents : (told : Option Told) (words fronts : List (List ℕ)) → AreFetched told words fronts
    → HaveContents told words fronts
told-contents told [] [] fetched = record { contents = []; told_as = tt; fronts_are = tt }
told-contents told [] (front ∷ fronts) fetched = absurd fetched
told-contents told (word ∷ words) [] fetched = absurd fetched
told-contents told (word ∷ words) (front ∷ fronts) fetched =
    let one = told-content told word front fetched.0 in
    let more = told-contents told words fronts fetched.1 in
    record {
      contents = one.content ∷ more.contents;
      told_as = (one.told_as, more.told_as);
      fronts_are = (one.front_is, more.fronts_are);
    }

both : (x y : List ℕ) (xs ys : List (List ℕ)) → x ≡ y → xs ≡ ys → x ∷ xs ≡ y ∷ ys
both x y xs ys e f = cc (e, f)

-- fronts that are class files are the whole files
pub fronts-files : (contents fronts : List (List ℕ)) (classes : List ClassFile)
    → AllZip IsFrontOf contents fronts → AreFiles fronts classes → contents ≡ fronts
fronts-files [] [] classes fs files = refl
fronts-files [] (front ∷ fronts) classes fs files = absurd fs
fronts-files (content ∷ contents) [] classes fs files = absurd fs
fronts-files (content ∷ contents) (front ∷ fronts) [] fs files = absurd files
fronts-files (content ∷ contents) (front ∷ fronts) (c ∷ classes) fs files =
    both content front contents fronts (front-short content front fs.0 files.0.short)
    (fronts-files contents fronts classes fs.1 files.1)

-- class files were fetched whole
pub files-fronts : (contents fronts : List (List ℕ)) (classes : List ClassFile)
    → AllZip IsFrontOf contents fronts → AreFiles contents classes → contents ≡ fronts
files-fronts [] [] classes fs files = refl
files-fronts [] (front ∷ fronts) classes fs files = absurd fs
files-fronts (content ∷ contents) [] classes fs files = absurd fs
files-fronts (content ∷ contents) (front ∷ fronts) [] fs files = absurd files
files-fronts (content ∷ contents) (front ∷ fronts) (c ∷ classes) fs files =
    both content front contents fronts (content-short content front fs.0 files.0.short)
    (files-fronts contents fronts classes fs.1 files.1)

-- the contents at a position, of which this is a front
record HasFrontAt (contents : List (List ℕ)) (at : ℕ) (front : List ℕ) : Type 0 where
  content : List ℕ
  there : slice_get contents at ≡ Some content
  front_is : IsFrontOf content front

front-at : (contents fronts : List (List ℕ)) (at : ℕ) (front : List ℕ)
    → AllZip IsFrontOf contents fronts → slice_get fronts at ≡ Some front → HasFrontAt contents at front
front-at [] [] at front fs e = absurd (none-some front e)
front-at [] (first ∷ fronts) at front fs e = absurd fs
front-at (content ∷ contents) [] at front fs e = absurd fs
front-at (content ∷ contents) (first ∷ fronts) zero front fs e = record {
  content = content;
  there = refl;
  front_is = subst (IsFrontOf content) (same_Some first front e) fs.0;
}
front-at (content ∷ contents) (first ∷ fronts) (suc at) front fs e =
    let more = front-at contents fronts at front fs.1 e in
    record { content = more.content; there = more.there; front_is = more.front_is }

-- the first fault of the fronts is that of the files
pub fronts-fault : (contents fronts : List (List ℕ)) (at : ℕ) (fault : ReadError)
    → AllZip IsFrontOf contents fronts → IsFaultAt fronts at fault → IsFaultAt contents at fault
fronts-fault contents fronts at fault fs is =
    let here = front-at contents fronts at is.bytes fs is.there in
    let whole : take at contents ≡ take at fronts =
    fronts-files (take at contents) (take at fronts) is.classes
    (zip-take IsFrontOf at contents fronts fs) is.earlier in
    record {
      bytes = here.content;
      there = here.there;
      first = front-fault here.content is.bytes fault here.front_is is.first;
      classes = is.classes;
      earlier = subst (λ (xs : List (List ℕ)). AreFiles xs is.classes) (sym whole) is.earlier;
    }
