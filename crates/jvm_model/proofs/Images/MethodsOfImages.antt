-- What an image has of each method of its class.
use Rattle.std.proofs.Common.{◌≡◌, ℕ, zero, suc, ◌+◌, Bool, true, false, List, [], ◌∷◌, ◌++◌, length, slice_get, Option, Some, None, refl, sym, ap, subst, ◌∙◌, arith}
use Rattle.std.specs.Prelude.{map, MatchBool}
use Rattle.std.specs.Option.{option_and_then}
use Rattle.std.proofs.lemmas.Option.{same_Some, none-some}
use Rattle.jf_bytes.proofs.Options.{and_then_parts}
use Rattle.const_pool.specs.declared.class.ClassFile.{ClassFile}
use Rattle.const_pool.specs.declared.class.CodeAttribute.{CodeAttribute}
use Rattle.const_pool.specs.declared.class.Member.{Member}
use Rattle.const_pool.specs.declared.pool.Const.{Const}
use Rattle.const_pool.specs.Tail.{tail_entries}
use Rattle.code_model.specs.declared.laying.Homes.{Homes}
use Rattle.jvm_model.specs.declared.event.Mark.{Mark}
use Rattle.jvm_model.specs.declared.event.Mark.TheVariants.{Off, Plain, Root}
use Rattle.jvm_model.specs.Rewriting.Images.{all_off, IsMarkedMember, IsMemberImage, next_number, number_behind, AreMemberImages, IsOriginal, IsRewritten, IsImage}
use Rattle.jvm_model.specs.Basis.Methods.{code_of, method_code}
use Rattle.jvm_model.specs.Rewriting.Versions.{IsVersion}
use Rattle.jvm_model.proofs.Images.ImageMethods.{code_of-marked}

-- ---- the method at each position

-- its mark, what it is in the image, and its homes
pub record HasMember (c : ClassFile) (first : ℕ) (methods : List Member) (marks : List Mark) (news : List Member) (homes : List (Option Homes)) (k : ℕ) (old : Member) : Type 0 where
  pub mark : Mark
  pub new : Member
  pub home : Option Homes
  pub marked : slice_get marks k ≡ Some mark
  pub is : slice_get news k ≡ Some new
  pub housed : slice_get homes k ≡ Some home
  pub image : IsMemberImage c (number_behind first methods k) mark old new home

nth-member : (c : ClassFile) (first : ℕ) (marks : List Mark) (olds news : List Member) (homes : List (Option Homes)) (k : ℕ) (old : Member)
    → AreMemberImages c first marks olds news homes → slice_get olds k ≡ Some old → HasMember c first olds marks news homes k old
nth-member c first [] [] [] [] k old are e = absurd (none-some old e)
nth-member c first (mark ∷ marks) (o ∷ olds) (n ∷ news) (h ∷ homes) zero old are e = record {
  mark = mark;
  new = n;
  home = h;
  marked = refl;
  is = refl;
  housed = refl;
  image = subst (λ (m : Member). IsMemberImage c first mark m n h) (same_Some o old e) are.0;
}
nth-member c first (mark ∷ marks) (o ∷ olds) (n ∷ news) (h ∷ homes) (suc k) old are e =
    let rest = nth-member c (next_number first o) marks olds news homes k old are.1 e in
    record { mark = rest.mark; new = rest.new; home = rest.home; marked = rest.marked; is = rest.is; housed = rest.housed; image = rest.image }
nth-member c first [] (o ∷ olds) news homes k old are e = absurd are
nth-member c first (mark ∷ marks) (o ∷ olds) [] homes k old are e = absurd are
nth-member c first (mark ∷ marks) (o ∷ olds) (n ∷ news) [] k old are e = absurd are
nth-member c first (mark ∷ marks) [] news homes k old are e = absurd (none-some old e)
nth-member c first [] [] (n ∷ news) homes k old are e = absurd (none-some old e)
nth-member c first [] [] [] (h ∷ homes) k old are e = absurd (none-some old e)

-- where all are Off
nth-original : (c : ClassFile) (first number : ℕ) (marks : List Mark) (all olds : List Member) (k : ℕ) (old : Member) → all_off marks ≡ true → length marks ≡ length olds → slice_get olds k ≡ Some old
    → (slice_get marks k ≡ Some Off) × (slice_get (map (λ (m : Member). let none : Option Homes = None in none) olds) k ≡ Some None)
nth-original c first number marks all [] k old off counted e = absurd (none-some old e)
nth-original c first number [] all (o ∷ olds) k old off counted e = absurd (omega (arith, counted))
nth-original c first number (Off ∷ marks) all (o ∷ olds) zero old off counted e = (refl, refl)
nth-original c first number (Off ∷ marks) all (o ∷ olds) (suc k) old off counted e = nth-original c first number marks all olds k old off (omega (arith, counted)) e
nth-original c first number (Plain ∷ marks) all (o ∷ olds) k old off counted e = absurd cc
nth-original c first number (Root ∷ marks) all (o ∷ olds) k old off counted e = absurd cc

member-original : (c : ClassFile) (first : ℕ) (marks : List Mark) (image : ClassFile) (homes : List (Option Homes)) (k : ℕ) (old : Member)
    → all_off marks ≡ true → length marks ≡ length c.methods → IsOriginal c image homes → slice_get c.methods k ≡ Some old → HasMember c first c.methods marks image.methods homes k old
member-original c first marks image homes k old off counted is e =
    let parts = nth-original c first 0 marks [] c.methods k old off counted e in
    record {
      mark = Off;
      new = old;
      home = None;
      marked = parts.0;
      is = ap (λ (x : ClassFile). slice_get x.methods k) is.class_stays ∙ e;
      housed = ap (λ (hs : List (Option Homes)). slice_get hs k) is.unmoved ∙ parts.1;
      image = (refl, refl);
    }

-- of each method of a class its image has a member, with homes where it is marked; methods that have Code are numbered
pub image-member : (c : ClassFile) (first : ℕ) (marks : List Mark) (image : ClassFile) (homes : List (Option Homes)) (k : ℕ) (old : Member)
    → IsImage c first marks image homes → length marks ≡ length c.methods → slice_get c.methods k ≡ Some old → HasMember c first c.methods marks image.methods homes k old
image-member c first marks image homes k old is counted e = by_test (all_off marks) refl is
  where
    by_test : (b : Bool) → all_off marks ≡ b → MatchBool b (IsOriginal c image homes) (IsRewritten c first marks image homes) → HasMember c first c.methods marks image.methods homes k old
    by_test true off original = member-original c first marks image homes k old off counted original e
    by_test false off rewritten = nth-member c first marks c.methods image.methods homes k old rewritten.methods e

-- ---- what stays

-- what an instruction looks at: the entries of the class's pool, which come first, and the class's own index
pub record StaysLike (c image : ClassFile) : Type 0 where
  pub more : List Const
  pub pool : image.pool ≡ c.pool ++ more
  pub this : image.this_class ≡ c.this_class

append-nothing : {A : Type 0} (xs : List A) → xs ≡ xs ++ []
append-nothing [] = refl
append-nothing (x ∷ xs) = ap (λ ys. x ∷ ys) (append-nothing xs)

pub image-stays : (c : ClassFile) (first : ℕ) (marks : List Mark) (image : ClassFile) (homes : List (Option Homes)) → IsImage c first marks image homes → StaysLike c image
image-stays c first marks image homes is = by_test (all_off marks) is
  where
    by_test : (b : Bool) → MatchBool b (IsOriginal c image homes) (IsRewritten c first marks image homes) → StaysLike c image
    by_test true original = record {
      more = [];
      pool = ap (λ (x : ClassFile). x.pool) original.class_stays ∙ append-nothing c.pool;
      this = ap (λ (x : ClassFile). x.this_class) original.class_stays;
    }
    by_test false rewritten = record {
      more = tail_entries (length c.pool);
      pool = ap (λ (x : ClassFile). x.pool) rewritten.rest;
      this = ap (λ (x : ClassFile). x.this_class) rewritten.rest;
    }

-- a method keeps its name, its descriptor and its flags
pub record IsSameMethod (old new : Member) : Type 0 where
  pub name : new.name ≡ old.name
  pub descriptor : new.descriptor ≡ old.descriptor
  pub access : new.access ≡ old.access

-- ---- the versions of methods with Code

-- The version of a marked method: its Code in the image, and its homes.
pub record HasVersion (c : ClassFile) (number : ℕ) (mark : Mark) (image : ClassFile) (homes : List (Option Homes)) (k : ℕ) (old : CodeAttribute) : Type 0 where
  pub new : CodeAttribute
  pub moved : Homes
  pub coded : method_code image k ≡ Some new
  pub housed : slice_get homes k ≡ Some (Some moved)
  pub version : IsVersion (length c.pool) number mark old new moved

-- a method that is not marked keeps its Code, and has no homes
pub record HasOriginal (image : ClassFile) (homes : List (Option Homes)) (k : ℕ) (old : CodeAttribute) : Type 0 where
  pub coded : method_code image k ≡ Some old
  pub housed : slice_get homes k ≡ Some None

abbrev pub HasCodeFor : ClassFile → ℕ → Mark → ClassFile → List (Option Homes) → ℕ → CodeAttribute → Type 0
HasCodeFor c number Off image homes k old = HasOriginal image homes k old
HasCodeFor c number Plain image homes k old = HasVersion c number Plain image homes k old
HasCodeFor c number Root image homes k old = HasVersion c number Root image homes k old

marked-version : (c : ClassFile) (number : ℕ) (mark : Mark) (image : ClassFile) (homes : List (Option Homes)) (k : ℕ) (m new : Member) (home : Option Homes) (moved : Homes) (old : CodeAttribute)
    → code_of m ≡ Some old → slice_get image.methods k ≡ Some new → slice_get homes k ≡ Some home → IsMarkedMember c number mark m new moved → home ≡ Some moved
    → HasVersion c number mark image homes k old
marked-version c number mark image homes k m new home moved old coded at housed is home_is = record {
  new = is.after;
  moved = moved;
  coded = ap (option_and_then code_of) at ∙ code_of-marked c number mark m new moved is;
  housed = housed ∙ ap (λ (h : Option Homes). let o : Option (Option Homes) = Some h in o) home_is;
  version = subst (λ (x : CodeAttribute). IsVersion (length c.pool) number mark x is.after moved) (same_Some is.before old (sym is.coded ∙ coded)) is.version;
}

member-code : (c : ClassFile) (number : ℕ) (mark : Mark) (image : ClassFile) (homes : List (Option Homes)) (k : ℕ) (m new : Member) (home : Option Homes) (old : CodeAttribute)
    → code_of m ≡ Some old → slice_get image.methods k ≡ Some new → slice_get homes k ≡ Some home → IsMemberImage c number mark m new home → HasCodeFor c number mark image homes k old
member-code c number Off image homes k m new home old coded at housed is = record {
  coded = ap (option_and_then code_of) at ∙ (ap code_of is.0 ∙ coded);
  housed = housed ∙ ap (λ (h : Option Homes). let o : Option (Option Homes) = Some h in o) is.1;
}
member-code c number Plain image homes k m new home old coded at housed is = marked-version c number Plain image homes k m new home is.0 old coded at housed is.1 is.2
member-code c number Root image homes k m new home old coded at housed is = marked-version c number Root image homes k m new home is.0 old coded at housed is.1 is.2

-- the Code of the method at a position, by its mark
pub record HasMarkedCode (c : ClassFile) (first : ℕ) (marks : List Mark) (image : ClassFile) (homes : List (Option Homes)) (k : ℕ) (old : CodeAttribute) : Type 0 where
  pub mark : Mark
  pub marked : slice_get marks k ≡ Some mark
  pub has : HasCodeFor c (number_behind first c.methods k) mark image homes k old

pub image-code : (c : ClassFile) (first : ℕ) (marks : List Mark) (image : ClassFile) (homes : List (Option Homes)) (k : ℕ) (old : CodeAttribute)
    → IsImage c first marks image homes → length marks ≡ length c.methods → method_code c k ≡ Some old → HasMarkedCode c first marks image homes k old
image-code c first marks image homes k old is counted e =
    let found = and_then_parts code_of (slice_get c.methods k) old e in
    let member = image-member c first marks image homes k found.0 is counted found.1 in
    record {
      mark = member.mark;
      marked = member.marked;
      has = member-code c (number_behind first c.methods k) member.mark image homes k found.0 member.new member.home old found.2 member.is member.housed member.image;
    }
