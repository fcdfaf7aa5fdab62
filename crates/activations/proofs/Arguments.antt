-- Values on top of a caller as the arguments of a method: their kinds, and the locals that they take.
use Rattle.std.proofs.Common.{◌≡◌, ℕ, zero, suc, ◌+◌, ◌-◌, ◌<◌, ◌≤◌, Bool, true, List, [], ◌∷◌, ◌++◌, length, take, min, Option, Some, None, refl, sym, ap, ◌∙◌, ⊎_elim, arith}
use Rattle.std.specs.Prelude.{nat_le, slice_get, reverse}
use Rattle.std.specs.Option.{option_and_then, option_map}
use Rattle.std.proofs.lemmas.Bool.{cases_lt, le-leb}
use Rattle.std.proofs.lemmas.List.{length-map, length-reverse, length-take, reverse-append}
use Rattle.std.proofs.lemmas.Option.{same_Some, none-some}
use Rattle.heap_objects.specs.declared.datum.Datum.{Datum}
use Rattle.heap_objects.specs.declared.datum.Datum.TheVariants as datum
use Rattle.heap_objects.specs.declared.Value.{Value}
use Rattle.heap_objects.specs.declared.Value.TheVariants.{Int, Long, Ref, Addr}
use Rattle.const_pool.specs.declared.descriptor.Kind.{Kind}
use Rattle.const_pool.specs.declared.descriptor.Kind.TheVariants as kind
use Rattle.frame_stack.specs.Widths.{width, height_of, slots_of_all}
use Rattle.jvm_model.specs.Basis.Data.{Operands}
use Rattle.jvm_model.specs.Basis.Values.{as_value, datum_of, data_of, arguments_spread}
use Rattle.member_selection.specs.Targets.{as_datum, data_in}
use Rattle.member_selection.proofs.Arguments.{data_of-unequal}

-- ---- values of their parameters' kinds

-- such a value is its datum
as_value-datum : (k : Kind) (v : Value) (d : Datum) → datum_of k v ≡ Some d → v ≡ as_value d
as_value-datum kind.Int (Int n) d e = ap as_value (same_Some (datum.Int n) d e)
as_value-datum kind.Bool (Int n) d e = ap as_value (same_Some (datum.Int n) d e)
as_value-datum kind.Byte (Int n) d e = ap as_value (same_Some (datum.Int n) d e)
as_value-datum kind.Char (Int n) d e = ap as_value (same_Some (datum.Int n) d e)
as_value-datum kind.Short (Int n) d e = ap as_value (same_Some (datum.Int n) d e)
as_value-datum kind.Long (Long n) d e = ap as_value (same_Some (datum.Long n) d e)
as_value-datum kind.Ref (Ref r) d e = ap as_value (same_Some (datum.Ref r) d e)
as_value-datum _ _ d e = absurd (none-some d e)

spread-one : (d : Datum) (ds : List Datum) (vs : List Value) → arguments_spread ds ≡ slots_of_all vs → arguments_spread (d ∷ ds) ≡ slots_of_all (as_value d ∷ vs)
spread-one (datum.Int n) ds vs e = ap (λ l. Some (Int n) ∷ l) e
spread-one (datum.Long n) ds vs e = ap (λ l. Some (Long n) ∷ None ∷ l) e
spread-one (datum.Ref r) ds vs e = ap (λ l. Some (Ref r) ∷ l) e

-- so the data take the locals that the values take
pub spread-data : (ks : List Kind) (vs : List Value) (ds : List Datum) → data_of ks vs ≡ Some ds → arguments_spread ds ≡ slots_of_all vs
spread-data [] [] ds e = ap arguments_spread (sym (same_Some [] ds e))
spread-data [] (v ∷ vs) ds e = absurd (none-some ds e)
spread-data (k ∷ ks) [] ds e = absurd (none-some ds e)
spread-data (k ∷ ks) (v ∷ vs) ds e = by_first (datum_of k v) (data_of ks vs) refl (spread-data ks vs) e where
  by_first : (first : Option Datum) (rest : Option (List Datum)) → datum_of k v ≡ first → ((xs : List Datum) → rest ≡ Some xs → arguments_spread xs ≡ slots_of_all vs)
      → option_and_then (λ d. option_map (λ xs. d ∷ xs) rest) first ≡ Some ds → arguments_spread ds ≡ slots_of_all (v ∷ vs)
  by_first None rest f r e = absurd (none-some ds e)
  by_first (Some d) None f r e = absurd (none-some ds e)
  by_first (Some d) (Some xs) f r e =
      ap arguments_spread (sym (same_Some (d ∷ xs) ds e)) ∙ (spread-one d xs vs (r xs refl) ∙ ap (λ x. slots_of_all (x ∷ vs)) (sym (as_value-datum k v d f)))

-- ---- slots and heights

height-first : (v : Value) (vs : List Value) → length (slots_of_all (v ∷ vs)) ≡ width v + length (slots_of_all vs)
height-first (Int n) vs = omega arith
height-first (Long n) vs = omega arith
height-first (Ref r) vs = omega arith
height-first (Addr t) vs = omega arith

pub length-slots : (vs : List Value) → length (slots_of_all vs) ≡ height_of vs
length-slots [] = refl
length-slots (v ∷ vs) = height-first v vs ∙ ap (λ n. width v + n) (length-slots vs)

height-append : (xs ys : List Value) → height_of (xs ++ ys) ≡ height_of xs + height_of ys
height-append [] ys = omega arith
height-append (v ∷ xs) ys = let rest = height-append xs ys in omega (arith, rest)

pub height-reverse : (vs : List Value) → height_of (reverse vs) ≡ height_of vs
height-reverse [] = refl
height-reverse (v ∷ vs) =
    ap height_of (reverse-append (v ∷ []) vs) ∙ (height-append (reverse vs) (v ∷ []) ∙ (let rest = height-reverse vs in omega (arith, rest)))

-- ---- the callee

-- so many operands are there as there are data
pub enough-data : (ks : List Kind) (o : Operands) (args : List Datum) → data_of ks (reverse (take (length ks) o)) ≡ Some args → nat_le (length ks) (length o) ≡ true
enough-data ks o args e =
    ⊎_elim
    (λ (few : length o < length ks).
    let values : List Value = reverse (take (length ks) o) in
    let len : length values ≡ min (length ks) (length o) = length-reverse (take (length ks) o) ∙ length-take (length ks) o in
    absurd (none-some args (sym (data_of-unequal ks values (λ same. absurd (omega arith))) ∙ e)))
    (λ (enough : length ks ≤ length o). le-leb _ _ enough)
    (cases_lt (length o) (length ks))

-- ---- so many of the topmost operands

pub length-data : (count : ℕ) (o : Operands) → count ≤ length o → length (data_in count o) ≡ count
length-data count o enough =
    let all : length (data_in count o) ≡ length (reverse (take count o)) = length-map (reverse (take count o)) as_datum in
    let back : length (reverse (take count o)) ≡ length (take count o) = length-reverse (take count o) in
    let len : length (take count o) ≡ min count (length o) = length-take count o in
    omega (arith, all, back, len, enough)

-- one more takes its own locals besides
pub height-next : (vs : List Value) (i : ℕ) (v : Value) → slice_get vs i ≡ Some v → height_of (take (suc i) vs) ≡ height_of (take i vs) + width v
height-next [] i v e = absurd (none-some v e)
height-next (x ∷ vs) zero v e = let same : width x ≡ width v = ap width (same_Some x v e) in omega (arith, same)
height-next (x ∷ vs) (suc i) v e = let rest = height-next vs i v e in omega (arith, rest)

pub within-next : (vs : List Value) (i : ℕ) (v : Value) → slice_get vs i ≡ Some v → i < length vs
within-next [] i v e = absurd (none-some v e)
within-next (x ∷ vs) zero v e = omega arith
within-next (x ∷ vs) (suc i) v e = let rest = within-next vs i v e in omega (arith, rest)
