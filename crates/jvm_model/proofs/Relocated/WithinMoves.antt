-- What an instruction asks for does not depend on what its return addresses are: it moves with them.
use Rattle.std.proofs.Common.{◌≡◌, ℕ, zero, suc, ◌+◌, slice_get, slice_set, drop, length, map, Bool, true, false, List, [], ◌∷◌, Option, Some, None, is_some, nat_le, ◌&&◌, if◌then◌else◌, ℤ, refl, ap, ◌∙◌}
use Rattle.std.specs.Option.{option_map, option_flatten}
use Rattle.std.specs.Int.{w32, w64}
use Rattle.std.proofs.lemmas.List.{drop-map, length-map}
use Rattle.std.proofs.lemmas.Option.{slice_get-map}
use Rattle.heap_objects.specs.declared.datum.Datum.TheVariants as datum
use Rattle.heap_objects.specs.declared.Value.TheVariants.{Int, Long, Ref, Addr}
use Rattle.const_pool.specs.declared.descriptor.Kind.{Kind}
use Rattle.const_pool.specs.declared.descriptor.Kind.TheVariants as kind
use Rattle.int_ops.specs.Arithmetic.{wrapped_sum}
use Rattle.frame_stack.specs.Widths.{is_long, width}
use Rattle.frame_stack.specs.FrameLists.{is_long_slot, without_long_before, with_value as with_slot}
use Rattle.jvm_model.specs.Basis.Data.{Datum, Value, Locals, Operands, IntOperator, LongOperator, Division, LongShift, OfInt, OfLong, Test, WithZero, OfInts, OfReferences, IsNull, StackForm, Keys, Local, Nop, Constant, Load, Store, ManageStack, BinaryOfInts, BinaryOfLongs, DivisionOfInts, DivisionOfLongs, ShiftOfLong, UnaryOfInt, UnaryOfLong, Lcmp, Iinc, Branch, Goto, Switch, Jsr, Ret, Return, Next, Outcome, GoesOn, Breaks}
use Rattle.jvm_model.specs.Basis.Values.{as_value, datum_of, has_kind, local_loaded, is_storable, local_in, has_slots, local_stored, with_value, same_width, has_form, puts_on, managed_stack}
use Rattle.jvm_model.specs.Basis.StackForms.{forms_of}
use Rattle.jvm_model.specs.Instructions.LocalRules.{pushes, leaves, stores, increments, number_divided, of_int, of_long, calculates, calculates_long, shifts, compares_longs, divides_these, divides_ints, divides_longs, converts_int, converts_long, where_if, holds, tests, goes_if, branches, switches, goes_back, returns_datum, returns, within}
use Rattle.jvm_model.specs.Codes.Moved.{moved_value, moved_slot, moved_locals, moved_operands, moved_where, moved_outcome}

set-moves : {A B : Type 0} (f : A → B) (xs : List A) (i : ℕ) (x : A) → slice_set (map f xs) i (f x) ≡ map f (slice_set xs i x)
set-moves f [] i x = refl
set-moves f (y ∷ xs) zero x = refl
set-moves f (y ∷ xs) (suc i) x = ap (λ l. f y ∷ l) (set-moves f xs i x)

module _ (h : ℕ → ℕ) where
  -- ---- values

  pub datum-moves : (d : Datum) → as_value d ≡ moved_value h (as_value d)
  datum-moves (datum.Int n) = refl
  datum-moves (datum.Long n) = refl
  datum-moves (datum.Ref r) = refl

  pub found-moves : (d : Option Datum) → option_map as_value d ≡ option_map (moved_value h) (option_map as_value d)
  found-moves None = refl
  found-moves (Some d) = ap Some (datum-moves d)

  -- no datum is a return address
  pub kind-moves : (k : Kind) (v : Value) → datum_of k (moved_value h v) ≡ datum_of k v
  kind-moves k (Int n) = refl
  kind-moves k (Long n) = refl
  kind-moves k (Ref r) = refl
  kind-moves kind.Int (Addr t) = refl
  kind-moves _ (Addr t) = refl

  has_kind-moves : (k : Kind) (v : Value) → has_kind k (moved_value h v) ≡ has_kind k v
  has_kind-moves k v = ap is_some (kind-moves k v)

  kept-moves : (b : Bool) (v : Value) → (if b then Some (moved_value h v) else None) ≡ option_map (moved_value h) (if b then Some v else None)
  kept-moves true v = refl
  kept-moves false v = refl

  pub long-moves : (v : Value) → is_long (moved_value h v) ≡ is_long v
  long-moves (Long n) = refl
  long-moves _ = refl

  width-moves : (v : Value) → width (moved_value h v) ≡ width v
  width-moves v = ap (λ b. if b then 2 else 1) (long-moves v)

  pub with-moves : (v : Option Value) (o : Operands) → with_value (option_map (moved_value h) v) (moved_operands h o) ≡ moved_operands h (with_value v o)
  with-moves None o = refl
  with-moves (Some v) o = refl

  -- ---- loads

  pushes-moves : (v : Option Value) (l : Locals) (o : Operands) → pushes (option_map (moved_value h) v) (moved_locals h l) (moved_operands h o) ≡ moved_outcome h (pushes v l o)
  pushes-moves None l o = refl
  pushes-moves (Some v) l o = refl

  pub pushed-moves : (d : Option Datum) (l : Locals) (o : Operands)
      → pushes (option_map as_value d) (moved_locals h l) (moved_operands h o) ≡ moved_outcome h (pushes (option_map as_value d) l o)
  pushed-moves d l o = ap (λ v. pushes v (moved_locals h l) (moved_operands h o)) (found-moves d) ∙ pushes-moves (option_map as_value d) l o

  loaded-moves : (k : Kind) (found : Option (Option Value)) → local_loaded k (option_map (moved_slot h) found) ≡ option_map (moved_value h) (local_loaded k found)
  loaded-moves k (Some (Some v)) = ap (λ b. if b then Some (moved_value h v) else None) (has_kind-moves k v) ∙ kept-moves (has_kind k v) v
  loaded-moves k (Some None) = refl
  loaded-moves k None = refl

  load-moves : (k : Kind) (slot : ℕ) (l : Locals) (o : Operands)
      → pushes (local_loaded k (slice_get (moved_locals h l) slot)) (moved_locals h l) (moved_operands h o) ≡ moved_outcome h (pushes (local_loaded k (slice_get l slot)) l o)
  load-moves k slot l o =
      let pushed : Option Value → Outcome = λ v. pushes v (moved_locals h l) (moved_operands h o) in
      ap (λ found. pushed (local_loaded k found)) (slice_get-map (moved_slot h) l slot)
      ∙ (ap pushed (loaded-moves k (slice_get l slot)) ∙ pushes-moves (local_loaded k (slice_get l slot)) l o)

  -- ---- stores

  storable-moves : (k : Kind) (v : Value) → is_storable k (moved_value h v) ≡ is_storable k v
  storable-moves kind.Ref (Addr t) = refl
  storable-moves k v = has_kind-moves k v

  read-moves : (found : Option (Option Value)) → option_flatten (option_map (moved_slot h) found) ≡ option_map (moved_value h) (option_flatten found)
  read-moves None = refl
  read-moves (Some v) = refl

  local-moves : (l : Locals) (slot : ℕ) → local_in (moved_locals h l) slot ≡ option_map (moved_value h) (local_in l slot)
  local-moves l slot = ap option_flatten (slice_get-map (moved_slot h) l slot) ∙ read-moves (slice_get l slot)

  long_slot-moves : (v : Option Value) → is_long_slot (option_map (moved_value h) v) ≡ is_long_slot v
  long_slot-moves None = refl
  long_slot-moves (Some v) = long-moves v

  chosen_locals-moves : (b : Bool) (x x' y y' : Locals) → x' ≡ moved_locals h x → y' ≡ moved_locals h y → (if b then x' else y') ≡ moved_locals h (if b then x else y)
  chosen_locals-moves true x x' y y' p q = p
  chosen_locals-moves false x x' y y' p q = q

  before-moves : (slot : ℕ) (l : Locals) → without_long_before slot (moved_locals h l) ≡ moved_locals h (without_long_before slot l)
  before-moves zero l = refl
  before-moves (suc k) l =
      ap (λ b. if b then slice_set (moved_locals h l) k None else moved_locals h l) (ap is_long_slot (local-moves l k) ∙ long_slot-moves (local_in l k))
      ∙ chosen_locals-moves (is_long_slot (local_in l k)) (slice_set l k None) _ l _ (set-moves (moved_slot h) l k None) refl

  slot-moves : (slot : ℕ) (v : Value) (l : Locals) → with_slot slot (moved_value h v) (moved_locals h l) ≡ moved_locals h (with_slot slot v l)
  slot-moves slot v l =
      let set : slice_set (moved_locals h l) slot (Some (moved_value h v)) ≡ moved_locals h (slice_set l slot (Some v)) = set-moves (moved_slot h) l slot (Some v) in
      ap (λ b. if b then slice_set (slice_set (moved_locals h l) slot (Some (moved_value h v))) (slot + 1) None else slice_set (moved_locals h l) slot (Some (moved_value h v))) (long-moves v)
      ∙ chosen_locals-moves (is_long v) (slice_set (slice_set l slot (Some v)) (slot + 1) None) _ (slice_set l slot (Some v)) _
      (ap (λ x. slice_set x (slot + 1) None) set ∙ set-moves (moved_slot h) (slice_set l slot (Some v)) (slot + 1) None) set

  stored-moves : (l : Locals) (slot : ℕ) (v : Value) → local_stored (moved_locals h l) slot (moved_value h v) ≡ moved_locals h (local_stored l slot v)
  stored-moves l slot v = ap (with_slot slot (moved_value h v)) (before-moves slot l) ∙ slot-moves slot v (without_long_before slot l)

  slots-moves : (l : Locals) (slot : ℕ) (v : Value) → has_slots (moved_locals h l) slot (moved_value h v) ≡ has_slots l slot v
  slots-moves l slot v = ap (λ n. nat_le (slot + width (moved_value h v)) n) (length-map l (moved_slot h)) ∙ ap (λ n. nat_le (slot + n) (length l)) (width-moves v)

  chosen_outcome-moves : (b : Bool) (x x' y y' : Outcome) → x' ≡ moved_outcome h x → y' ≡ moved_outcome h y → (if b then x' else y') ≡ moved_outcome h (if b then x else y)
  chosen_outcome-moves true x x' y y' p q = p
  chosen_outcome-moves false x x' y y' p q = q

  stores-moves : (k : Kind) (slot : ℕ) (l : Locals) (o : Operands) → stores k slot (moved_locals h l) (moved_operands h o) ≡ moved_outcome h (stores k slot l o)
  stores-moves k slot l [] = refl
  stores-moves k slot l (v ∷ below) =
      ap (λ b. if b then GoesOn (local_stored (moved_locals h l) slot (moved_value h v)) (moved_operands h below) Next else Breaks false)
      (ap (λ b. b && has_slots (moved_locals h l) slot (moved_value h v)) (storable-moves k v) ∙ ap (λ b. is_storable k v && b) (slots-moves l slot v))
      ∙ chosen_outcome-moves (is_storable k v && has_slots l slot v) (GoesOn (local_stored l slot v) below Next) _ (Breaks false) _
      (ap (λ x. GoesOn x (moved_operands h below) Next) (stored-moves l slot v)) refl

  -- ---- stack instructions, all nine

  form-moves : (form : List Bool) (o : Operands) → has_form form (moved_operands h o) ≡ has_form form o
  form-moves [] o = refl
  form-moves (long ∷ more) [] = refl
  form-moves (long ∷ more) (v ∷ below) =
      ap (λ b. same_width long b && has_form more (moved_operands h below)) (long-moves v)
      ∙ ap (λ b. same_width long (is_long v) && b) (form-moves more below)

  puts_on-moves : (is : List ℕ) (o below : Operands) → puts_on is (moved_operands h o) (moved_operands h below) ≡ moved_operands h (puts_on is o below)
  puts_on-moves [] o below = refl
  puts_on-moves (i ∷ is) o below =
      ap (λ x. with_value x (puts_on is (moved_operands h o) (moved_operands h below))) (slice_get-map (moved_value h) o i)
      ∙ (ap (with_value (option_map (moved_value h) (slice_get o i))) (puts_on-moves is o below)
      ∙ with-moves (slice_get o i) (puts_on is o below))

  -- by one form, once the others are known to move
  form_put-moves : (b : Bool) (form : StackForm) (o : Operands) (other' other : Option Operands) → other' ≡ option_map (moved_operands h) other
      → (if b then Some (puts_on form.puts (moved_operands h o) (drop (length form.takes) (moved_operands h o))) else other')
      ≡ option_map (moved_operands h) (if b then Some (puts_on form.puts o (drop (length form.takes) o)) else other)
  form_put-moves true form o other' other same =
      ap (λ below. Some (puts_on form.puts (moved_operands h o) below)) (drop-map (moved_value h) (length form.takes) o)
      ∙ ap Some (puts_on-moves form.puts o (drop (length form.takes) o))
  form_put-moves false form o other' other same = same

  managed_stack-moves : (forms : List StackForm) (o : Operands) → managed_stack forms (moved_operands h o) ≡ option_map (moved_operands h) (managed_stack forms o)
  managed_stack-moves [] o = refl
  managed_stack-moves (form ∷ more) o =
      ap (λ b. if b then Some (puts_on form.puts (moved_operands h o) (drop (length form.takes) (moved_operands h o))) else managed_stack more (moved_operands h o)) (form-moves form.takes o)
      ∙ form_put-moves (has_form form.takes o) form o _ (managed_stack more o) (managed_stack-moves more o)

  leaves-moves : (o : Option Operands) (l : Locals) → leaves (option_map (moved_operands h) o) (moved_locals h l) ≡ moved_outcome h (leaves o l)
  leaves-moves None l = refl
  leaves-moves (Some o) l = refl

  -- ---- arithmetic, all operators

  calculates-moves : (op : IntOperator) (l : Locals) (o : Operands) → calculates op (moved_locals h l) (moved_operands h o) ≡ moved_outcome h (calculates op l o)
  calculates-moves op l (Int b ∷ Int a ∷ below) = refl
  calculates-moves op l _ = refl

  calculates_long-moves : (op : LongOperator) (l : Locals) (o : Operands) → calculates_long op (moved_locals h l) (moved_operands h o) ≡ moved_outcome h (calculates_long op l o)
  calculates_long-moves op l (Long b ∷ Long a ∷ below) = refl
  calculates_long-moves op l _ = refl

  shifts-moves : (op : LongShift) (l : Locals) (o : Operands) → shifts op (moved_locals h l) (moved_operands h o) ≡ moved_outcome h (shifts op l o)
  shifts-moves op l (Int n ∷ Long a ∷ below) = refl
  shifts-moves op l _ = refl

  compares_longs-moves : (l : Locals) (o : Operands) → compares_longs (moved_locals h l) (moved_operands h o) ≡ moved_outcome h (compares_longs l o)
  compares_longs-moves l (Long b ∷ Long a ∷ below) = refl
  compares_longs-moves l _ = refl

  -- a quotient takes the place of two operands
  int_quotient-moves : (q : Option ℤ) (v w : Value) (l : Locals) (o : Operands)
      → divides_these (Some (option_map Int q)) (moved_locals h l) (moved_operands h (v ∷ w ∷ o)) ≡ moved_outcome h (divides_these (Some (option_map Int q)) l (v ∷ w ∷ o))
  int_quotient-moves None v w l o = refl
  int_quotient-moves (Some n) v w l o = refl

  long_quotient-moves : (q : Option ℤ) (v w : Value) (l : Locals) (o : Operands)
      → divides_these (Some (option_map Long q)) (moved_locals h l) (moved_operands h (v ∷ w ∷ o)) ≡ moved_outcome h (divides_these (Some (option_map Long q)) l (v ∷ w ∷ o))
  long_quotient-moves None v w l o = refl
  long_quotient-moves (Some n) v w l o = refl

  divides_ints-moves : (op : Division) (l : Locals) (o : Operands) → divides_ints op (moved_locals h l) (moved_operands h o) ≡ moved_outcome h (divides_ints op l o)
  divides_ints-moves op l (Int b ∷ Int a ∷ below) = int_quotient-moves (number_divided op w32 a b) (Int b) (Int a) l below
  divides_ints-moves op l _ = refl

  divides_longs-moves : (op : Division) (l : Locals) (o : Operands) → divides_longs op (moved_locals h l) (moved_operands h o) ≡ moved_outcome h (divides_longs op l o)
  divides_longs-moves op l (Long b ∷ Long a ∷ below) = long_quotient-moves (number_divided op w64 a b) (Long b) (Long a) l below
  divides_longs-moves op l _ = refl

  converts_int-moves : (op : OfInt) (l : Locals) (o : Operands) → converts_int op (moved_locals h l) (moved_operands h o) ≡ moved_outcome h (converts_int op l o)
  converts_int-moves op l (Int n ∷ below) = ap (λ v. GoesOn (moved_locals h l) (v ∷ moved_operands h below) Next) (datum-moves (of_int op n))
  converts_int-moves op l _ = refl

  converts_long-moves : (op : OfLong) (l : Locals) (o : Operands) → converts_long op (moved_locals h l) (moved_operands h o) ≡ moved_outcome h (converts_long op l o)
  converts_long-moves op l (Long n ∷ below) = ap (λ v. GoesOn (moved_locals h l) (v ∷ moved_operands h below) Next) (datum-moves (of_long op n))
  converts_long-moves op l _ = refl

  increments-moves : (slot : ℕ) (d : ℤ) (found : Option Value) (l : Locals) (o : Operands)
      → increments slot d (option_map (moved_value h) found) (moved_locals h l) (moved_operands h o) ≡ moved_outcome h (increments slot d found l o)
  increments-moves slot d (Some (Int n)) l o = ap (λ x. GoesOn x (moved_operands h o) Next) (stored-moves l slot (Int (wrapped_sum w32 n d)))
  increments-moves slot d _ l o = refl

  -- ---- branches, all tests, and switches

  where-moves : (b : Bool) → where_if b ≡ moved_where h (where_if b)
  where-moves true = refl
  where-moves false = refl

  -- no test sees a return address
  holds-moves : (test : Test) (o : Operands) → holds test (moved_operands h o) ≡ holds test o
  holds-moves (WithZero c) (Int n ∷ below) = refl
  holds-moves (OfInts c) (Int b ∷ Int a ∷ below) = refl
  holds-moves (OfReferences same) (Ref b ∷ Ref a ∷ below) = refl
  holds-moves (IsNull null) (Ref r ∷ below) = refl
  holds-moves _ _ = refl

  goes_if-moves : (b : Option Bool) (taken : ℕ) (l : Locals) (o : Operands) → goes_if b taken (moved_locals h l) (moved_operands h o) ≡ moved_outcome h (goes_if b taken l o)
  goes_if-moves None taken l o = refl
  goes_if-moves (Some b) taken l o =
      ap (λ below. GoesOn (moved_locals h l) below (where_if b)) (drop-map (moved_value h) taken o)
      ∙ ap (GoesOn (moved_locals h l) (moved_operands h (drop taken o))) (where-moves b)

  branches-moves : (test : Test) (l : Locals) (o : Operands) → branches test (moved_locals h l) (moved_operands h o) ≡ moved_outcome h (branches test l o)
  branches-moves test l o =
      ap (λ b. goes_if b (tests test) (moved_locals h l) (moved_operands h o)) (holds-moves test o) ∙ goes_if-moves (holds test o) (tests test) l o

  switches-moves : (keys : Keys) (l : Locals) (o : Operands) → switches keys (moved_locals h l) (moved_operands h o) ≡ moved_outcome h (switches keys l o)
  switches-moves keys l (Int n ∷ below) = refl
  switches-moves keys l _ = refl

  -- ---- subroutines and returns

  back-moves : (found : Option Value) (l : Locals) (o : Operands)
      → goes_back (option_map (moved_value h) found) (moved_locals h l) (moved_operands h o) ≡ moved_outcome h (goes_back found l o)
  back-moves (Some (Addr t)) l o = refl
  back-moves _ l o = refl

  returned-moves : (d : Option Datum) → returns_datum d ≡ moved_outcome h (returns_datum d)
  returned-moves None = refl
  returned-moves (Some d) = refl

  returns-moves : (k : Option Kind) (o : Operands) → returns k (moved_operands h o) ≡ moved_outcome h (returns k o)
  returns-moves None o = refl
  returns-moves (Some k) [] = refl
  returns-moves (Some k) (v ∷ below) = ap returns_datum (kind-moves k v) ∙ returned-moves (datum_of k v)

  -- ---- every instruction

  pub within-moves : (i : Local) (l : Locals) (o : Operands) → within i (moved_locals h l) (moved_operands h o) ≡ moved_outcome h (within i l o)
  within-moves Nop l o = refl
  within-moves (Constant d) l o = ap (λ v. GoesOn (moved_locals h l) (v ∷ moved_operands h o) Next) (datum-moves d)
  within-moves (Load k slot) l o = load-moves k slot l o
  within-moves (Store k slot) l o = stores-moves k slot l o
  within-moves (ManageStack op) l o = ap (λ x. leaves x (moved_locals h l)) (managed_stack-moves (forms_of op) o) ∙ leaves-moves (managed_stack (forms_of op) o) l
  within-moves (BinaryOfInts op) l o = calculates-moves op l o
  within-moves (BinaryOfLongs op) l o = calculates_long-moves op l o
  within-moves (DivisionOfInts op) l o = divides_ints-moves op l o
  within-moves (DivisionOfLongs op) l o = divides_longs-moves op l o
  within-moves (ShiftOfLong op) l o = shifts-moves op l o
  within-moves (UnaryOfInt op) l o = converts_int-moves op l o
  within-moves (UnaryOfLong op) l o = converts_long-moves op l o
  within-moves Lcmp l o = compares_longs-moves l o
  within-moves (Iinc slot d) l o =
      ap (λ x. increments slot d x (moved_locals h l) (moved_operands h o)) (local-moves l slot) ∙ increments-moves slot d (local_in l slot) l o
  within-moves (Branch test) l o = branches-moves test l o
  within-moves Goto l o = refl
  within-moves (Switch keys) l o = switches-moves keys l o
  within-moves Jsr l o = refl
  within-moves (Ret slot) l o =
      ap (λ x. goes_back x (moved_locals h l) (moved_operands h o)) (local-moves l slot) ∙ back-moves (local_in l slot) l o
  within-moves (Return k) l o = returns-moves k o
