-- An image has the shape of its class: its pool has the class's entries in front, and a method keeps its flags and its
-- indices.
use Rattle.std.proofs.Common.{◌≡◌, ℕ, Bool, true, false, List, [], ◌∷◌, ◌++◌, map, length, slice_get, Option, Some, None, is_some, refl, sym, ap, subst, ◌∙◌, ◌⊎◌, inl, inr}
use Rattle.std.specs.Prelude.{MatchBool}
use Rattle.std.specs.List.{AllByRecursion}
use Rattle.std.specs.Option.{ok_or, option_and_then, option_map_or}
use Rattle.std.specs.Result.{result_ok}
use Rattle.std.proofs.lemmas.List.{length-map}
use Rattle.jf_bytes.proofs.Options.{is_some_parts}
use Rattle.jf_bytes.proofs.Lists.{slice_get-front}
use Rattle.const_pool.specs.declared.class.ClassFile.{ClassFile}
use Rattle.const_pool.specs.declared.class.Member.{Member}
use Rattle.const_pool.specs.declared.class.Attribute.{Attribute}
use Rattle.const_pool.specs.declared.pool.Const.{Const}
use Rattle.const_pool.specs.declared.pool.Const.TheVariants as const
use Rattle.const_pool.specs.declared.pool.PoolError.TheVariants.{BadIndex}
use Rattle.const_pool.specs.ClassFile.{IsClassFile, IsMember, IsFieldAttribute, IsMethodAttribute, IsU2}
use Rattle.const_pool.specs.Pool.{IsPool, Names, entry_of, is_class, is_utf8}
use Rattle.const_pool.specs.References.{class_entry, named_class, named_text, text_entry, ◌>>=◌}
use Rattle.const_pool.specs.Tail.{tail_entries}
use Rattle.code_model.specs.declared.laying.Homes.{Homes}
use Rattle.jvm_model.specs.declared.event.Mark.{Mark}
use Rattle.jvm_model.specs.declared.event.Mark.TheVariants.{Off, Plain, Root}
use Rattle.jvm_model.specs.Rewriting.Images.{all_off, next_number, IsMemberImage, AreMemberImages, IsOriginal, IsRewritten}
use Rattle.jvm_model.proofs.Images.ImagePools.{named_text-more, named_class-more}
use Rattle.jvm_model.proofs.Soundness.PoolTexts.{have-texts, named-there}
use Rattle.class_shape.specs.ClassShapes.{Heading, HasSameShape, heading_of, shape_in}
use Rattle.class_shape.specs.Swaps.{IsSomeImage}

-- ---- what the pool names, with more entries behind

text-found : (o : Option Const) → option_map_or is_utf8 o false ≡ true → is_some (result_ok (ok_or (option_and_then entry_of o) BadIndex >>= text_entry)) ≡ true
text-found (Some (const.Utf8 t)) h = refl
text-found (Some _) h = absurd cc
text-found None h = absurd cc

text-same : (pool more : List Const) (i : ℕ) → Names is_utf8 pool i → named_text pool i ≡ named_text (pool ++ more) i
text-same pool more i named =
    let text = is_some_parts (named_text pool i) (text-found (slice_get pool i) named) in
    text.1 ∙ sym (named_text-more pool more i text.0 text.1)

gap-named : (pool : List Const) (i : ℕ) → slice_get pool i ≡ Some const.Gap → named_class pool i ≡ None
gap-named pool i e = ap (λ o. result_ok (ok_or (option_and_then entry_of o) BadIndex >>= class_entry pool)) e

named-same : (pool more : List Const) (i : ℕ) → IsPool pool → Names is_class pool i → named_class pool i ≡ named_class (pool ++ more) i
named-same pool more i formed named =
    let name = is_some_parts (named_class pool i) (named-there pool (have-texts pool formed) i named) in
    name.1 ∙ sym (named_class-more pool more i name.0 name.1)

-- 0 names nothing
class-same : (pool more : List Const) (i : ℕ) → IsPool pool → (i ≡ 0) ⊎ Names is_class pool i → named_class pool i ≡ named_class (pool ++ more) i
class-same pool more i formed (inl none) =
    let gap : slice_get pool i ≡ Some const.Gap = ap (slice_get pool) none ∙ formed.first in
    gap-named pool i gap ∙ sym (gap-named (pool ++ more) i (slice_get-front pool more i const.Gap gap))
class-same pool more i formed (inr named) = named-same pool more i formed named

classes-same : (pool more : List Const) (is : List ℕ) → IsPool pool → AllByRecursion (λ i. IsU2 i × Names is_class pool i) is
    → map (named_class pool) is ≡ map (named_class (pool ++ more)) is
classes-same pool more [] formed all = refl
classes-same pool more (i ∷ is) formed all =
    ap (λ name. name ∷ map (named_class pool) is) (named-same pool more i formed all.0.1)
    ∙ ap (λ names. named_class (pool ++ more) i ∷ names) (classes-same pool more is formed all.1)

-- ---- members

member-same : (IsAttribute : List Const → Attribute → Type 0) (pool more : List Const) (m : Member) → IsMember IsAttribute pool m → shape_in pool m ≡ shape_in (pool ++ more) m
member-same IsAttribute pool more m formed =
    ap (λ name. record (shape_in pool m) { name = name }) (text-same pool more m.name formed.named)
    ∙ ap (λ descriptor. record (shape_in (pool ++ more) m) { descriptor = descriptor }) (text-same pool more m.descriptor formed.described)

fields-same : (pool more : List Const) (ms : List Member) → AllByRecursion (IsMember IsFieldAttribute pool) ms
    → map (shape_in pool) ms ≡ map (shape_in (pool ++ more)) ms
fields-same pool more [] all = refl
fields-same pool more (m ∷ ms) all =
    ap (λ shape. shape ∷ map (shape_in pool) ms) (member-same IsFieldAttribute pool more m all.0)
    ∙ ap (λ shapes. shape_in (pool ++ more) m ∷ shapes) (fields-same pool more ms all.1)

-- a method's image has its flags and its indices
image-same : (c : ClassFile) (pool : List Const) (number : ℕ) (mark : Mark) (old new : Member) (homes : Option Homes) → IsMemberImage c number mark old new homes
    → shape_in pool old ≡ shape_in pool new
image-same c pool number Off old new homes is = ap (shape_in pool) (sym is.0)
image-same c pool number Plain old new homes is = ap (shape_in pool) (sym is.1.replaced)
image-same c pool number Root old new homes is = ap (shape_in pool) (sym is.1.replaced)

methods-same : (c : ClassFile) (more : List Const) (number : ℕ) (marks : List Mark) (olds news : List Member) (homes : List (Option Homes))
    → AllByRecursion (IsMember IsMethodAttribute c.pool) olds → AreMemberImages c number marks olds news homes
    → map (shape_in c.pool) olds ≡ map (shape_in (c.pool ++ more)) news
methods-same c more number [] [] [] [] all are = refl
methods-same c more number (mark ∷ marks) (old ∷ olds) (new ∷ news) (h ∷ homes) all are =
    ap (λ shape. shape ∷ map (shape_in c.pool) olds)
    (member-same IsMethodAttribute c.pool more old all.0 ∙ image-same c (c.pool ++ more) number mark old new h are.0)
    ∙ ap (λ shapes. shape_in (c.pool ++ more) new ∷ shapes) (methods-same c more (next_number number old) marks olds news homes all.1 are.1)
methods-same c more number [] (old ∷ olds) news homes all are = absurd are
methods-same c more number [] [] (new ∷ news) homes all are = absurd are
methods-same c more number [] [] [] (h ∷ homes) all are = absurd are
methods-same c more number (mark ∷ marks) [] news homes all are = absurd are
methods-same c more number (mark ∷ marks) (old ∷ olds) [] homes all are = absurd are
methods-same c more number (mark ∷ marks) (old ∷ olds) (new ∷ news) [] all are = absurd are

-- ---- the image

-- a class with more entries and with other methods that have the same shapes
more-same : (c : ClassFile) (more : List Const) (methods : List Member) → IsClassFile c
    → map (shape_in c.pool) c.methods ≡ map (shape_in (c.pool ++ more)) methods → HasSameShape c (record c { pool = c.pool ++ more; methods = methods })
more-same c more methods formed same =
    let pool = c.pool ++ more in
    let h : Heading = heading_of c in
    let this = named_class pool c.this_class in
    let above = named_class pool c.super_class in
    let interfaces = map (named_class pool) c.interfaces in
    let counted : length c.methods ≡ length methods = sym (length-map c.methods (shape_in c.pool)) ∙ (ap length same ∙ length-map methods (shape_in pool)) in
    record {
      heading =
          ap (λ n. record h { name = n }) (named-same c.pool more c.this_class formed.pool formed.this_class)
          ∙ (ap (λ n. record h { name = this; superclass = n }) (class-same c.pool more c.super_class formed.pool formed.super_class)
          ∙ (ap (λ ns. record h { name = this; superclass = above; interfaces = ns }) (classes-same c.pool more c.interfaces formed.pool formed.interfaces)
          ∙ ap (λ n. record h { name = this; superclass = above; interfaces = interfaces; method_count = n }) counted));
      fields = fields-same c.pool more c.fields formed.fields;
      methods = same;
    }

pub image-shape : (c image : ClassFile) → IsClassFile c → IsSomeImage c image → HasSameShape c image
image-shape c image formed is = by (all_off is.marks) is.made
  where
    by : (b : Bool) → MatchBool b (IsOriginal c image is.homes) (IsRewritten c is.first is.marks image is.homes) → HasSameShape c image
    by true made = subst (HasSameShape c) (sym made.class_stays) (record { heading = refl; fields = refl; methods = refl })
    by false made =
        subst (HasSameShape c) (sym made.rest)
        (more-same c (tail_entries (length c.pool)) image.methods formed
        (methods-same c (tail_entries (length c.pool)) is.first is.marks c.methods image.methods is.homes formed.methods made.methods))
