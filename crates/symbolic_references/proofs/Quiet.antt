-- Instructions that write nothing, and those that change nothing that is shared.
use Rattle.std.proofs.Common.{◌≡◌, ℕ, ◌+◌, Bool, true, false, List, [], ◌++◌, ap, sym, refl, ◌∙◌}
use Rattle.std.proofs.lemmas.List.{append-nil}
use Rattle.std.specs.Prelude.{Option, Some, None, Result, Ok, Err, OnOk, length, map, ℤ, pos, negsuc, nat_le, if◌then◌else◌}
use Rattle.heap_objects.specs.Heaps.{HeapView, with_instance, with_text}
use Rattle.jvm_model.specs.Classes.Layouts.{layout}
use Rattle.jvm_model.specs.declared.program.Program.{Program}
use Rattle.jvm_model.specs.declared.state.Shared.{Shared}
use Rattle.jvm_model.specs.Instructions.ConstantRules.{pushes_object_of}
use Rattle.jvm_model.specs.Instructions.CreationRules.{allocates, array_over, has_no_instances, instantiation_error, is_text_class, slots_of_arrays, with_arrays, zero_of, counts_of, lengths_of, makes_arrays, makes_by_counts, makes_instance, makes_object}
use Rattle.jvm_model.specs.declared.state.Phase.{Phase}
use Rattle.jvm_model.specs.declared.state.Phase.TheVariants.{Fresh, Running, Ready, Erroneous}
use Rattle.heap_objects.specs.declared.datum.Datum.{Datum}
use Rattle.jvm_model.specs.Basis.Data.{Locals, Operands, Outcome, Raises, Done}
use Rattle.jvm_model.specs.Instructions.FieldRules.{Putting, gets_of, kind_by, field_held, puts_into, putting_of, sets_static}
use Rattle.jvm_model.specs.Classes.Lookup.{MemberPlace}
use Rattle.jvm_model.specs.Instructions.SymbolicReference.{unless_refused}
use Rattle.jvm_model.specs.Instructions.ObjectRules.{done, makes}
use Rattle.jvm_model.specs.Instructions.Rules.{when_ready}
use Rattle.jvm_model.specs.Basis.SharedState.{class_of_kind, phase_of}
use Rattle.jvm_model.specs.Basis.Values.{int_of, ref_of}
use Rattle.const_pool.specs.References.{Reference}
use Rattle.member_selection.specs.Resolved.{field_found, gets_instance, gets_static, makes_new, puts_instance, puts_static}
use Rattle.member_selection.specs.declared.outcome.Outcome.{Outcome as TheOutcome}
use Rattle.jf_bytes.specs.declared.error.NoMemory.{NoMemory}
use Rattle.symbolic_references.specs.Runtimes.{RuntimeView, after, with_shared}

-- ---- by cases on what a rule finds

unless-by : {A : Type 0} (P : Done → Type 0) (s : Shared) (r : Result A Outcome) (rule : A → Done)
    → ((q : Outcome) → P (done s q)) → ((x : A) → P (rule x)) → P (unless_refused s r rule)
unless-by P s (Ok x) rule refused found = found x
unless-by P s (Err q) rule refused found = refused q

ready-by : (P : Done → Type 0) (p : Program) (o : Option Phase) (class : ℕ) (s : Shared) (d : Done)
    → ((q : Outcome) → P (done s q)) → P d → P (when_ready p o class s d)
ready-by P p (Some Ready) class s d refused goes = goes
ready-by P p (Some Running) class s d refused goes = goes
ready-by P p (Some Fresh) class s d refused goes = refused _
ready-by P p (Some Erroneous) class s d refused goes = refused _
ready-by P p None class s d refused goes = refused _

-- ---- what is written

abbrev IsSilent : Done → Type 0
IsSilent d = d.wrote ≡ []

abbrev Leaves : Shared → Done → Type 0
Leaves s d = d.shared ≡ s

gets-leaves : (p : Program) (r : Reference) (m : MemberPlace) (o' : Option ℕ) (s : Shared) (l : Locals) (o : Operands) → Leaves s (gets_of p r m o' s l o)
gets-leaves p r m None s l o = refl
gets-leaves p r m (Some object) s l o = unless-by (Leaves s) s _ _ (λ q. refl) (λ owner. refl)

gets-silent : (p : Program) (r : Reference) (m : MemberPlace) (o' : Option ℕ) (s : Shared) (l : Locals) (o : Operands) → IsSilent (gets_of p r m o' s l o)
gets-silent p r m None s l o = refl
gets-silent p r m (Some object) s l o = unless-by IsSilent s _ _ (λ q. refl) (λ owner. refl)

puts-silent : (p : Program) (r : Reference) (m : MemberPlace) (x : Option Putting) (s : Shared) (l : Locals) (o : Operands) → IsSilent (puts_into p r m x s l o)
puts-silent p r m None s l o = refl
puts-silent p r m (Some x) s l o = unless-by IsSilent s _ _ (λ q. refl) (λ owner. refl)

sets-silent : (m : MemberPlace) (x : Option Datum) (s : Shared) (l : Locals) (o : Operands) → IsSilent (sets_static m x s l o)
sets-silent m None s l o = refl
sets-silent m (Some d) s l o = refl

if-by : (P : Done → Type 0) (b : Bool) (x y : Done) → P x → P y → P (if b then x else y)
if-by P true x y first second = first
if-by P false x y first second = second

allocates-silent : (slots : ℕ) (make : HeapView → HeapView) (taken : ℕ) (s : Shared) (l : Locals) (o : Operands) → IsSilent (allocates slots make taken s l o)
allocates-silent slots make taken s l o = if-by IsSilent (nat_le (s.heap.used + slots) s.heap.limit) _ _ refl refl

instance-silent : (p : Program) (kind class : ℕ) (s : Shared) (l : Locals) (o : Operands) → IsSilent (makes_instance p kind class s l o)
instance-silent p kind class s l o =
    if-by IsSilent (has_no_instances p class) (done s (Raises instantiation_error None)) (makes_object p kind class s l o) refl
    (if-by IsSilent (is_text_class p class) (allocates 1 (with_text kind []) 0 s l o)
    (allocates (1 + length (layout p class)) (with_instance kind (map zero_of (layout p class))) 0 s l o)
    (allocates-silent 1 (with_text kind []) 0 s l o)
    (allocates-silent (1 + length (layout p class)) (with_instance kind (map zero_of (layout p class))) 0 s l o))

makes-silent : (kind : ℕ) (count : Option ℤ) (s : Shared) (l : Locals) (o : Operands) → IsSilent (makes kind count s l o)
makes-silent kind None s l o = refl
makes-silent kind (Some (negsuc n)) s l o = refl
makes-silent kind (Some (pos count)) s l o = if-by IsSilent (nat_le (s.heap.used + (1 + count)) s.heap.limit) _ _ refl refl

arrays-silent : (kind dimensions : ℕ) (lengths : Option (List ℕ)) (s : Shared) (l : Locals) (o : Operands) → IsSilent (makes_arrays kind dimensions lengths s l o)
arrays-silent kind dimensions None s l o = refl
arrays-silent kind dimensions (Some lengths) s l o = allocates-silent (slots_of_arrays lengths) (with_arrays kind lengths) dimensions s l o

counts-silent : (kind dimensions : ℕ) (counts : Option (List ℤ)) (s : Shared) (l : Locals) (o : Operands) → IsSilent (makes_by_counts kind dimensions counts s l o)
counts-silent kind dimensions None s l o = refl
counts-silent kind dimensions (Some counts) s l o = arrays-silent kind dimensions (lengths_of counts) s l o

nothing : (output : List ℕ) (d : Done) → d.wrote ≡ [] → output ≡ output ++ d.wrote
nothing output d silent = sym (append-nil output) ∙ ap (λ w. output ++ w) (sym silent)

module _ (p : Program) (kind : ℕ) (r : Reference) (s : Shared) (l : Locals) (o : Operands) (output : List ℕ) where
  pub writes_getfield : output ≡ output ++ (gets_instance p kind r s l o).wrote
  writes_getfield =
      nothing output (gets_instance p kind r s l o)
      (unless-by IsSilent s (field_found p kind false r) _ (λ q. refl) (λ m. gets-silent p r m (ref_of o) s l o))

  pub writes_putfield : output ≡ output ++ (puts_instance p kind r s l o).wrote
  writes_putfield =
      nothing output (puts_instance p kind r s l o)
      (unless-by IsSilent s (field_found p kind false r) _ (λ q. refl) (λ m. puts-silent p r m (putting_of (kind_by r) o) s l o))

  pub writes_getstatic : output ≡ output ++ (gets_static p kind r s l o).wrote
  writes_getstatic =
      nothing output (gets_static p kind r s l o)
      (unless-by IsSilent s (field_found p kind true r) _ (λ q. refl)
      (λ m. ready-by IsSilent p (phase_of s m.class) m.class s _ (λ q. refl) refl))

  pub writes_putstatic : output ≡ output ++ (puts_static p kind r s l o).wrote
  writes_putstatic =
      nothing output (puts_static p kind r s l o)
      (unless-by IsSilent s (field_found p kind true r) _ (λ q. refl)
      (λ m. ready-by IsSilent p (phase_of s m.class) m.class s _ (λ q. refl) (sets-silent m (field_held (kind_by r) o) s l o)))

  pub shared_getfield : s ≡ (gets_instance p kind r s l o).shared
  shared_getfield =
      sym (unless-by (Leaves s) s (field_found p kind false r) _ (λ q. refl) (λ m. gets-leaves p r m (ref_of o) s l o))

  pub shared_getstatic : s ≡ (gets_static p kind r s l o).shared
  shared_getstatic =
      sym (unless-by (Leaves s) s (field_found p kind true r) _ (λ q. refl)
      (λ m. ready-by (Leaves s) p (phase_of s m.class) m.class s _ (λ q. refl) refl))

module _ (p : Program) (kind : ℕ) (s : Shared) (l : Locals) (o : Operands) (output : List ℕ) where
  pub writes_new : output ≡ output ++ (makes_new p kind s l o).wrote
  writes_new =
      nothing output (makes_new p kind s l o)
      (ready-by IsSilent p (phase_of s (class_of_kind p kind)) (class_of_kind p kind) s _ (λ q. refl)
      (instance-silent p kind (class_of_kind p kind) s l o))

  pub writes_anewarray : output ≡ output ++ (makes (array_over kind) (int_of o) s l o).wrote
  writes_anewarray = nothing output (makes (array_over kind) (int_of o) s l o) (makes-silent (array_over kind) (int_of o) s l o)

  pub writes_class : output ≡ output ++ (pushes_object_of kind s l o).wrote
  writes_class = nothing output (pushes_object_of kind s l o) refl

  pub writes_arrays : (dimensions : ℕ) → output ≡ output ++ (makes_by_counts kind dimensions (counts_of dimensions o) s l o).wrote
  writes_arrays dimensions =
      nothing output (makes_by_counts kind dimensions (counts_of dimensions o) s l o) (counts-silent kind dimensions (counts_of dimensions o) s l o)

pub on_ok : {A E : Type 0} (r : Result A E) (P : Type 0) → P → OnOk r P
on_ok (Ok x) P p = p
on_ok (Err e) P p = tt

-- ---- what an instruction leaves

pub keeps : (v : RuntimeView) (d : Done) → v.shared ≡ d.shared → v.output ≡ v.output ++ d.wrote → v ≡ after d v
keeps v d shared wrote =
    ap (λ out. record v { output = out }) wrote ∙ ap (λ s. record v { shared = s; output = v.output ++ d.wrote }) shared

pub set-after : (v : RuntimeView) (d : Done) → v.output ≡ v.output ++ d.wrote → with_shared d.shared v ≡ after d v
set-after v d wrote = ap (λ out. record v { shared = d.shared; output = out }) wrote

pub leaves_set : (result : Result TheOutcome NoMemory) (new old : RuntimeView) (d : Done) → old.output ≡ old.output ++ d.wrote
    → OnOk result (new ≡ with_shared d.shared old) → OnOk result (new ≡ after d old)
leaves_set (Ok x) new old d wrote is = is ∙ set-after old d wrote
leaves_set (Err e) new old d wrote is = tt
