-- Values on top of a frame as the arguments of a method.
use Rattle.std.proofs.Common.{drop-cons, ◌≡◌, ◌≢◌, ℕ, zero, suc, ◌+◌, ◌-◌, ◌<◌, ◌≤◌, Bool, true, false, List, [], ◌∷◌, ◌++◌, length, drop, take, map, get_or, min, cond, Option, Some, None, refl, sym, ap, ◌∙◌, ⊎_elim, add-one, arith, subst}
use Rattle.std.specs.Prelude.{is_some, slice_get, reverse, ℤ}
use Rattle.frame_stack.specs.Tops.{int_of, reference_of}
use Rattle.std.specs.Option.{option_and_then, option_map}
use Rattle.std.proofs.Math.Seq.{take-suc}
use Rattle.std.proofs.lemmas.Bool.{cases_lt}
use Rattle.std.proofs.lemmas.List.{length-reverse, length-take, reverse-append, get_or-reverse, get_or-take}
use Rattle.std.proofs.lemmas.Option.{same_Some, none-some, get_or_from_slice_get, slice_get-get_or, slice_get_within}
use Rattle.heap_objects.specs.declared.datum.Datum.{Datum}
use Rattle.heap_objects.specs.declared.datum.Datum.TheVariants as datum
use Rattle.heap_objects.specs.declared.Value.{Value}
use Rattle.heap_objects.specs.declared.Value.TheVariants.{Int, Long, Ref, Addr}
use Rattle.const_pool.specs.declared.descriptor.Kind.{Kind}
use Rattle.const_pool.specs.declared.descriptor.Kind.TheVariants as kind
use Rattle.frame_stack.proofs.Passing.{get-none}
use Rattle.jvm_model.specs.Basis.Data.{Operands}
use Rattle.const_pool.specs.Descriptors.{slot_count, slots}
use Rattle.const_pool.specs.References.{NameAndType}
use Rattle.std.proofs.lemmas.List.Sums.{sum_by-cons}
use Rattle.const_pool.specs.declared.descriptor.Shape.{Shape}
use Rattle.jvm_model.specs.Basis.Descriptors.{shape_of}
use Rattle.jvm_model.specs.Instructions.InvocationRules.{arguments_by, receiver_in, with_receiver}
use Rattle.jvm_model.specs.Basis.Values.{arguments, data_of, datum_of}
use Rattle.jvm_model.proofs.Running.Shapes.{method_sound}
use Rattle.jvm_model.specs.Basis.MemberNames.{descriptor_params}
use Rattle.member_selection.specs.Targets.{as_datum, data_in, is_reference, reference_in}

-- as many values as parameters, or there are no such data
pub data_of-unequal : (ks : List Kind) (vs : List Value) → length ks ≢ length vs → data_of ks vs ≡ None
data_of-unequal [] [] ne = absurd (ne refl)
data_of-unequal [] (v ∷ vs) ne = refl
data_of-unequal (k ∷ ks) [] ne = refl
data_of-unequal (k ∷ ks) (v ∷ vs) ne =
    ap (λ rest. option_and_then (λ d. option_map (λ ds. d ∷ ds) rest) (datum_of k v)) (data_of-unequal ks vs (λ e. ne (ap suc e))) ∙ no_more (datum_of k v)
  where
    no_more : (o : Option Datum) → option_and_then (λ d. option_map (λ ds. d ∷ ds) (let rest : Option (List Datum) = None in rest)) o ≡ None
    no_more None = refl
    no_more (Some d) = refl

-- ---- the test of the values

-- all are of their kinds from here on, or from the next one on and here
is_some-first : (o : Option Datum) (rest : Option (List Datum)) → is_some (option_and_then (λ d. option_map (λ ds. d ∷ ds) rest) o) ≡ cond (is_some o) (is_some rest) false
is_some-first None rest = refl
is_some-first (Some d) None = refl
is_some-first (Some d) (Some ds) = refl

pub data_of-next : (ks : List Kind) (vs : List Value) (i : ℕ) (k : Kind) (v : Value) → i < length ks → length ks ≡ length vs → k ≡ get_or ks i k → v ≡ get_or vs i v
    → is_some (data_of (drop i ks) (drop i vs)) ≡ cond (is_some (datum_of k v)) (is_some (data_of (drop (i + 1) ks) (drop (i + 1) vs))) false
data_of-next ks vs i k v lt same kis vis =
    let ksplit : drop i ks ≡ k ∷ drop (i + 1) ks = drop-cons ks i k lt ∙ (ap (λ x. x ∷ drop (suc i) ks) (sym kis) ∙ ap (λ n. k ∷ drop n ks) (sym (add-one i))) in
    let vsplit : drop i vs ≡ v ∷ drop (i + 1) vs = drop-cons vs i v (omega arith) ∙ (ap (λ x. x ∷ drop (suc i) vs) (sym vis) ∙ ap (λ n. v ∷ drop n vs) (sym (add-one i))) in
    ap (λ x. is_some (data_of x (drop i vs))) ksplit
    ∙ (ap (λ y. is_some (data_of (k ∷ drop (i + 1) ks) y)) vsplit
    ∙ is_some-first (datum_of k v) (data_of (drop (i + 1) ks) (drop (i + 1) vs)))

-- the i-th argument, by how many operands are above it
argument-at : (o : Operands) (n i : ℕ) (v : Value) → slice_get o (n - 1 - i) ≡ Some v → i < n → n ≤ length o → v ≡ get_or (reverse (take n o)) i v
argument-at o n i v e lt enough =
    let len : length (take n o) ≡ n = length-take n o ∙ (let m : min n (length o) ≡ n = omega arith in m) in
    sym
    (get_or-reverse (take n o) i v (omega arith)
    ∙ (ap (λ m. get_or (take n o) (m - 1 - i) v) len
    ∙ (get_or-take n o (n - 1 - i) v (omega arith)
    ∙ get_or_from_slice_get o (n - 1 - i) v v e)))

-- an operand that was found among so many; a deeper one was found before it
pub enough-found : (o : Operands) (n i : ℕ) (v : Value) → slice_get o (n - 1 - i) ≡ Some v → i < n → (0 < i → n ≤ length o) → n ≤ length o
enough-found o n zero v e lt before = let within = slice_get_within o (n - 1 - 0) v e in omega arith
enough-found o n (suc i) v e lt before = before (omega arith)

-- the test of one more parameter; a list has it at its place
kinds-next : (ks : List Kind) (o : Operands) (i : ℕ) (d : Kind) (v : Value) → i < length ks → (0 < i → length ks ≤ length o) → slice_get o (length ks - 1 - i) ≡ Some v
    → is_some (data_of (drop i ks) (drop i (reverse (take (length ks) o))))
    ≡ cond (is_some (datum_of (get_or ks i d) v)) (is_some (data_of (drop (i + 1) ks) (drop (i + 1) (reverse (take (length ks) o))))) false
kinds-next ks o i d v lt before e =
    let enough = enough-found o (length ks) i v e lt before in
    let len : length ks ≡ length (reverse (take (length ks) o)) =
    sym (length-reverse (take (length ks) o) ∙ (length-take (length ks) o ∙ (let m : min (length ks) (length o) ≡ length ks = omega arith in m))) in
    data_of-next ks (reverse (take (length ks) o)) i (get_or ks i d) v lt len
    (sym (get_or_from_slice_get ks i (get_or ks i d) (get_or ks i d) (slice_get-get_or ks i d lt)))
    (argument-at o (length ks) i v e lt enough)

pub kinds-by : (ks : List Kind) (o : Operands) (i : ℕ) (d : Kind) (v : Value) (b : Bool) → i < length ks → (0 < i → length ks ≤ length o) → slice_get o (length ks - 1 - i) ≡ Some v
    → is_some (datum_of (get_or ks i d) v) ≡ b
    → is_some (data_of (drop i ks) (drop i (reverse (take (length ks) o)))) ≡ cond b (is_some (data_of (drop (i + 1) ks) (drop (i + 1) (reverse (take (length ks) o))))) false
kinds-by ks o i d v b lt before e is =
    kinds-next ks o i d v lt before e ∙ ap (λ x. cond x (is_some (data_of (drop (i + 1) ks) (drop (i + 1) (reverse (take (length ks) o))))) false) is

-- one is missing
pub kinds-missing : (ks : List Kind) (o : Operands) (i : ℕ) → i < length ks → slice_get o (length ks - 1 - i) ≡ None → is_some (data_of ks (reverse (take (length ks) o))) ≡ false
kinds-missing ks o i lt e =
    let few = get-none o (length ks - 1 - i) e in
    let len : length (reverse (take (length ks) o)) ≡ min (length ks) (length o) = length-reverse (take (length ks) o) ∙ length-take (length ks) o in
    ap is_some (data_of-unequal ks (reverse (take (length ks) o)) (λ same. absurd (omega arith)))

-- ---- the data

-- a value of its parameter's kind is its datum
datum-is : (k : Kind) (v : Value) (d : Datum) → datum_of k v ≡ Some d → d ≡ as_datum v
datum-is kind.Int (Int n) d e = sym (same_Some (datum.Int n) d e)
datum-is kind.Bool (Int n) d e = sym (same_Some (datum.Int n) d e)
datum-is kind.Byte (Int n) d e = sym (same_Some (datum.Int n) d e)
datum-is kind.Char (Int n) d e = sym (same_Some (datum.Int n) d e)
datum-is kind.Short (Int n) d e = sym (same_Some (datum.Int n) d e)
datum-is kind.Long (Long n) d e = sym (same_Some (datum.Long n) d e)
datum-is kind.Ref (Ref r) d e = sym (same_Some (datum.Ref r) d e)
datum-is _ _ d e = absurd (none-some d e)

data-are : (ks : List Kind) (vs : List Value) (ds : List Datum) → data_of ks vs ≡ Some ds → ds ≡ map as_datum vs
data-are [] [] ds e = sym (same_Some [] ds e)
data-are [] (v ∷ vs) ds e = absurd (none-some ds e)
data-are (k ∷ ks) [] ds e = absurd (none-some ds e)
data-are (k ∷ ks) (v ∷ vs) ds e = by_first (datum_of k v) (data_of ks vs) refl (data-are ks vs) e where
  by_first : (first : Option Datum) (rest : Option (List Datum)) → datum_of k v ≡ first → ((xs : List Datum) → rest ≡ Some xs → xs ≡ map as_datum vs)
      → option_and_then (λ d. option_map (λ xs. d ∷ xs) rest) first ≡ Some ds → ds ≡ map as_datum (v ∷ vs)
  by_first None rest f r e = absurd (none-some ds e)
  by_first (Some d) None f r e = absurd (none-some ds e)
  by_first (Some d) (Some xs) f r e =
      sym (same_Some (d ∷ xs) ds e) ∙ (ap (λ x. x ∷ xs) (datum-is k v d f) ∙ ap (λ x. as_datum v ∷ x) (r xs refl))

-- where each is of its kind the data are those of as many operands
pub data-found : (ks : List Kind) (o : Operands) → is_some (arguments ks o) ≡ true → arguments ks o ≡ Some (data_in (length ks) o)
data-found ks o there = by (arguments ks o) refl there where
  by : (found : Option (List Datum)) → arguments ks o ≡ found → is_some found ≡ true → found ≡ Some (data_in (length ks) o)
  by None e there = absurd (let no : false ≡ true → ⊥ = λ e. cc in no there)
  by (Some ds) e there = ap Some (data-are ks (reverse (take (length ks) o)) ds e)

-- and so many are there
pub data-enough : (ks : List Kind) (o : Operands) → is_some (arguments ks o) ≡ true → length ks ≤ length o
data-enough ks o there =
    ⊎_elim
    (λ (few : length o < length ks).
    let values : List Value = reverse (take (length ks) o) in
    let len : length values ≡ min (length ks) (length o) = length-reverse (take (length ks) o) ∙ length-take (length ks) o in
    absurd (let no : false ≡ true → ⊥ = λ e. cc in no (sym (ap is_some (data_of-unequal ks values (λ same. absurd (omega arith)))) ∙ there)))
    (λ (enough : length ks ≤ length o). enough)
    (cases_lt (length o) (length ks))

-- the operand below as many is the first of one more
pub first-below : (o : Operands) (n : ℕ) (v : Value) → slice_get o n ≡ Some v → reverse (take (suc n) o) ≡ v ∷ reverse (take n o)
first-below o n v e =
    ap reverse (take-suc o n v (slice_get_within o n v e) ∙ ap (λ x. take n o ++ x ∷ []) (get_or_from_slice_get o n v v e))
    ∙ reverse-append (take n o) (v ∷ [])

pub receiver-first : (o : Operands) (n : ℕ) (v : Value) → slice_get o n ≡ Some v → receiver_in (data_in (suc n) o) ≡ receiver_in (as_datum v ∷ [])
receiver-first o n v e = ap (λ vs. receiver_in (map as_datum vs)) (first-below o n v e) ∙ head v (reverse (take n o)) where
  head : (v : Value) (vs : List Value) → receiver_in (as_datum v ∷ map as_datum vs) ≡ receiver_in (as_datum v ∷ [])
  head (Int n) vs = refl
  head (Long n) vs = refl
  head (Ref r) vs = refl
  head (Addr t) vs = refl

-- ---- with a receiver below

abbrev below_by : Bool → List Kind → Operands → Option (List Datum)
below_by b ks o = cond b (option_map (λ ds. data_in (suc (length ks)) o) (arguments ks o)) None

below-found : (ks : List Kind) (o : Operands) (v : Value) → slice_get o (length ks) ≡ Some v → arguments (kind.Ref ∷ ks) o ≡ below_by (is_reference (Some v)) ks o
below-found ks o v e =
    ap (data_of (kind.Ref ∷ ks)) (first-below o (length ks) v e) ∙ by_value v e (arguments ks o) refl
  where
    none : (found : Option (List Datum)) → option_and_then (λ d. option_map (λ ds. d ∷ ds) found) (let no : Option Datum = None in no) ≡ None
    none found = refl

    by_value : (v : Value) → slice_get o (length ks) ≡ Some v → (found : Option (List Datum)) → arguments ks o ≡ found
        → data_of (kind.Ref ∷ ks) (v ∷ reverse (take (length ks) o)) ≡ below_by (is_reference (Some v)) ks o
    by_value (Int n) e found is = refl
    by_value (Long n) e found is = refl
    by_value (Addr t) e found is = refl
    by_value (Ref r) e None is = ap (option_map (λ ds. datum.Ref r ∷ ds)) is ∙ sym (ap (option_map (λ ds. data_in (suc (length ks)) o)) is)
    by_value (Ref r) e (Some ds) is =
        ap (option_map (λ ds. datum.Ref r ∷ ds)) is
        ∙ (ap (λ x. let o : Option (List Datum) = Some (datum.Ref r ∷ x) in o) (data-are ks (reverse (take (length ks) o)) ds is)
        ∙ (ap (λ vs. let o : Option (List Datum) = Some (map as_datum vs) in o) (sym (first-below o (length ks) (Ref r) e))
        ∙ sym (ap (option_map (λ ds. data_in (suc (length ks)) o)) is)))

pub with-below : (ks : List Kind) (o : Operands) (b : Bool) → is_reference (slice_get o (length ks)) ≡ b → arguments (kind.Ref ∷ ks) o ≡ below_by b ks o
with-below ks o b is = by (slice_get o (length ks)) refl is where
  by : (found : Option Value) → slice_get o (length ks) ≡ found → is_reference found ≡ b → arguments (kind.Ref ∷ ks) o ≡ below_by b ks o
  by (Some v) e is = below-found ks o v e ∙ ap (λ x. below_by x ks o) is
  by None e is =
      let few = get-none o (length ks) e in
      let values : List Value = reverse (take (suc (length ks)) o) in
      let len : length values ≡ min (suc (length ks)) (length o) = length-reverse (take (suc (length ks)) o) ∙ length-take (suc (length ks)) o in
      data_of-unequal (kind.Ref ∷ ks) values (λ same. absurd (omega arith))
      ∙ ap (λ x. below_by x ks o) is

pub receiver-some : (ks : List Kind) (o : Operands) (n : ℕ) → n ≡ length ks → Some (data_in n o) ≡ arguments ks o → is_reference (slice_get o n) ≡ true
    → Some (data_in (n + 1) o) ≡ arguments (kind.Ref ∷ ks) o
receiver-some ks o n len is ref =
    sym
    (with-below ks o true (ap (λ k. is_reference (slice_get o k)) (sym len) ∙ ref)
    ∙ (ap (option_map (λ ds. data_in (suc (length ks)) o)) (sym is)
    ∙ (let more : suc (length ks) ≡ n + 1 = omega arith in ap (λ k. let x : Option (List Datum) = Some (data_in k o) in x) more)))

pub receiver-none : (ks : List Kind) (o : Operands) (n : ℕ) → n ≡ length ks → is_reference (slice_get o n) ≡ false → None ≡ arguments (kind.Ref ∷ ks) o
receiver-none ks o n len ref = sym (with-below ks o false (ap (λ k. is_reference (slice_get o k)) (sym len) ∙ ref))

pub none-below : (ks : List Kind) (o : Operands) → None ≡ arguments ks o → None ≡ arguments (kind.Ref ∷ ks) o
none-below ks o is = sym (with-below ks o (is_reference (slice_get o (length ks))) refl ∙ by (is_reference (slice_get o (length ks)))) where
  by : (b : Bool) → below_by b ks o ≡ None
  by true = ap (option_map (λ ds. data_in (suc (length ks)) o)) (sym is)
  by false = refl

-- ---- the receiver

pub receiver-is : (o : Operands) (n : ℕ) → n ≢ 0 → n ≤ length o → reference_in (slice_get o (n - 1)) ≡ receiver_in (data_in n o)
receiver-is o zero ne le = absurd (ne refl)
receiver-is o (suc n) ne le =
    ap (λ k. reference_in (slice_get o k)) (let less : suc n - 1 ≡ n = omega arith in less) ∙ by (slice_get o n) refl
  where
    by : (found : Option Value) → slice_get o n ≡ found → reference_in (slice_get o n) ≡ receiver_in (data_in (suc n) o)
    by None e = let few = get-none o n e in absurd (omega arith)
    by (Some v) e = ap reference_in e ∙ (of_value v ∙ sym (receiver-first o n v e))
      where
        of_value : (v : Value) → reference_in (Some v) ≡ receiver_in (as_datum v ∷ [])
        of_value (Int n) = refl
        of_value (Long n) = refl
        of_value (Ref r) = refl
        of_value (Addr t) = refl

-- ---- by a descriptor

pub by-params : (instance : Bool) (m : NameAndType) (o : Operands) → arguments_by instance m o ≡ option_and_then (λ ks. arguments (with_receiver instance ks) o) (descriptor_params m.descriptor)
by-params instance m o = by (shape_of m.descriptor) where
  by : (shape : Option Shape) → option_and_then (λ (s : Shape). arguments (with_receiver instance s.params) o) shape
      ≡ option_and_then (λ ks. arguments (with_receiver instance ks) o) (option_map (λ (s : Shape). s.params) shape)
  by None = refl
  by (Some s) = refl

some-slots : (ks : List Kind) → length ks ≤ slot_count ks
some-slots [] = omega arith
some-slots (k ∷ ks) =
    let rest = some-slots ks in
    let one = positive k in
    let count : slot_count (k ∷ ks) ≡ slots k + slot_count ks = sum_by-cons slots k ks in
    omega (arith, rest, one, count)
  where
    positive : (k : Kind) → 1 ≤ slots k
    positive kind.Long = omega arith
    positive kind.Double = omega arith
    positive _ = omega arith

pub few-params : (descriptor : List ℕ) (ks : List Kind) → descriptor_params descriptor ≡ Some ks → length ks ≤ 255
few-params descriptor ks e = by (shape_of descriptor) refl e where
  by : (shape : Option Shape) → shape_of descriptor ≡ shape → option_map (λ (s : Shape). s.params) shape ≡ Some ks → length ks ≤ 255
  by None is e = absurd (none-some ks e)
  by (Some s) is e =
      let most = (method_sound descriptor s is).most in
      let least = some-slots s.params in
      subst (λ xs. length xs ≤ 255) (same_Some s.params ks e) (omega (arith, most, least))

pub by-shape : (instance : Bool) (m : NameAndType) (o : Operands) (ks : List Kind) → descriptor_params m.descriptor ≡ Some ks → arguments (with_receiver instance ks) o ≡ arguments_by instance m o
by-shape instance m o ks e = sym (by-params instance m o ∙ ap (option_and_then (λ ks. arguments (with_receiver instance ks) o)) e)

pub no-shape : (instance : Bool) (m : NameAndType) (o : Operands) → descriptor_params m.descriptor ≡ None → None ≡ arguments_by instance m o
no-shape instance m o e = sym (by-params instance m o ∙ ap (option_and_then (λ ks. arguments (with_receiver instance ks) o)) e)

-- ---- what stands on top

pub int_there : (o : Operands) (n : ℤ) → int_of o ≡ Some n → slice_get o 0 ≡ Some (Int n)
int_there (Int m ∷ below) n is = ap (λ m. Some (Int m)) (same_Some m n is)
int_there (Long m ∷ below) n is = absurd (none-some n is)
int_there (Ref r ∷ below) n is = absurd (none-some n is)
int_there (Addr t ∷ below) n is = absurd (none-some n is)
int_there [] n is = absurd (none-some n is)

pub reference_there : (o : Operands) (r : ℕ) → reference_of o ≡ Some r → slice_get o 0 ≡ Some (Ref r)
reference_there (Ref m ∷ below) r is = ap (λ m. Some (Ref m)) (same_Some m r is)
reference_there (Int m ∷ below) r is = absurd (none-some r is)
reference_there (Long m ∷ below) r is = absurd (none-some r is)
reference_there (Addr t ∷ below) r is = absurd (none-some r is)
reference_there [] r is = absurd (none-some r is)

-- the only parameter is of ints, and an int is there
pub one-int : (ks : List Kind) (o : Operands) (k : Kind) (n : ℤ) → length ks ≡ 1 → is_some (datum_of (get_or ks 0 k) (Int n)) ≡ true → int_of o ≡ Some n → is_some (arguments ks o) ≡ true
one-int [] o k n len is there = absurd (omega (arith, len))
one-int (k1 ∷ k2 ∷ ks) o k n len is there = absurd (omega (arith, len))
one-int (k1 ∷ []) (Int m ∷ below) k n len is there =
    is_some-first (datum_of k1 (Int m)) (Some [])
    ∙ (ap (λ x. cond (is_some (datum_of k1 (Int x))) true false) (same_Some m n there)
    ∙ ap (λ b. cond b true false) is)
one-int (k1 ∷ []) (Long m ∷ below) k n len is there = absurd (none-some n there)
one-int (k1 ∷ []) (Ref r ∷ below) k n len is there = absurd (none-some n there)
one-int (k1 ∷ []) (Addr t ∷ below) k n len is there = absurd (none-some n there)
one-int (k1 ∷ []) [] k n len is there = absurd (none-some n there)
