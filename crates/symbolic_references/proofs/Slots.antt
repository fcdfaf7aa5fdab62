-- Slots of objects that have a field.
use Rattle.std.proofs.Common.{◌≡◌, ℕ, zero, suc, ◌-◌, ◌≤◌, Bool, true, false, List, [], ◌∷◌, length, ap, sym, refl, ◌∙◌, arith}
use Rattle.std.proofs.lemmas.List.{set_past}
use Rattle.std.specs.Prelude.{Option, Some, None, Ok, drop, nat_lt, slice_get, ◌==◌, ◌&&◌, if◌then◌else◌}
use Rattle.std.specs.Option.{option_map_or}
use Rattle.heap_objects.specs.declared.datum.Datum.{Datum}
use Rattle.heap_objects.specs.declared.object.Object.{Object}
use Rattle.heap_objects.specs.declared.object.Object.TheVariants.{Instance, Array, Text}
use Rattle.heap_objects.specs.Changes.{changed_if}
use Rattle.heap_objects.specs.Heaps.{HeapView, has_slot_at, kind_at, with_slot_at}
use Rattle.heap_objects.specs.Kept.{element_kept}
use Rattle.heap_objects.specs.Kinds.{element_of}
use Rattle.heap_objects.specs.Objects.{changed_at, has_slot, with_slot}
use Rattle.const_pool.specs.References.{Reference}
use Rattle.jvm_model.specs.declared.program.Program.{Program}
use Rattle.jvm_model.specs.declared.state.Shared.{Shared}
use Rattle.jvm_model.specs.Basis.Data.{Locals, Operands, Next, GoesOn}
use Rattle.jvm_model.specs.Instructions.FieldRules.{Putting, field_owner, has_field, puts_into, slot_of}
use Rattle.jvm_model.specs.Classes.Kinds.{kind_named}
use Rattle.jvm_model.specs.Classes.Lookup.{MemberPlace}
use Rattle.jvm_model.specs.Instructions.SymbolicReference.{extends, is_below_kind, is_instance, unless_refused}
use Rattle.jvm_model.specs.Instructions.ObjectRules.{done}
use Rattle.member_selection.specs.Objects.{class_at_kind, has_field_at}

pub has_field_named : (p : Program) (s : Shared) (r : Reference) (m : MemberPlace) (object kind : ℕ) → kind_named p r.class ≡ Some kind
    → has_field p s r m object ≡ has_field_at p (kind_at object s.heap) kind m.class
has_field_named p s r m object kind is =
    ap (λ o. is_below_kind p (kind_at object s.heap) o && extends p (class_at_kind p (kind_at object s.heap)) m.class) is

outside : {A : Type 0} (slot : ℕ) (xs : List A) → nat_lt slot (length xs) ≡ false → length xs ≤ slot
outside slot xs h = grind (arith)

slot-missing : (slot : ℕ) (v : Datum) (o : Object) → has_slot slot o ≡ false → with_slot slot v o ≡ o
slot-missing slot v (Instance kind fields) h = ap (λ fs. Instance kind fs) (set_past fields slot v (outside slot fields h))
slot-missing slot v (Array a) h =
    ap (λ items. Array (record { kind = a.kind; items = items })) (set_past a.items slot (element_kept (element_of a.kind) v) (outside slot a.items h))
slot-missing slot v (Text kind units) h = refl

place-missing : (slot : ℕ) (v : Datum) (place : ℕ) (os : List Object) → option_map_or (has_slot slot) (slice_get os place) false ≡ false
    → changed_at (with_slot slot v) place os ≡ os
place-missing slot v place [] h = refl
place-missing slot v zero (o ∷ os) h = ap (λ x. x ∷ os) (slot-missing slot v o h)
place-missing slot v (suc place) (o ∷ os) h = ap (λ xs. o ∷ xs) (place-missing slot v place os h)

-- where there is no such slot nothing is changed
pub slot_put : (h : HeapView) (object slot : ℕ) (v : Datum) → (object == 0) ≡ false
    → changed_if (has_slot_at object slot h) (with_slot_at object slot v) h ≡ with_slot_at object slot v h
slot_put h object slot v other = by (has_slot_at object slot h) refl
  where
    by : (b : Bool) → has_slot_at object slot h ≡ b → changed_if b (with_slot_at object slot v) h ≡ with_slot_at object slot v h
    by true is = refl
    by false is =
        sym (ap (λ os. record h { objects = os })
        (place-missing slot v (object - 1) h.objects
        (sym (ap (λ b. option_map_or (has_slot slot) (if b then None else slice_get h.objects (object - 1)) false) other) ∙ is)))

-- what putfield leaves where the field's object and its slot were found
pub puts_found : (p : Program) (r : Reference) (m : MemberPlace) (s : Shared) (l : Locals) (o : Operands) (putting : Option Putting) (x : Putting) (object slot : ℕ)
    → putting ≡ Some x → Ok object ≡ field_owner p s r m x.object → slot ≡ slot_of p m
    → (puts_into p r m putting s l o).shared ≡ record s { heap = with_slot_at object slot x.datum s.heap }
puts_found p r m s l o putting x object slot given found at =
    ap (λ given. (puts_into p r m given s l o).shared) given
    ∙ (ap (λ owner. (unless_refused s owner (λ owner. done (record s { heap = with_slot_at owner (slot_of p m) x.datum s.heap }) (GoesOn l (drop 2 o) Next))).shared) (sym found)
    ∙ ap (λ k. record s { heap = with_slot_at object k x.datum s.heap }) (sym at))

pub is_instance_named : (p : Program) (h : HeapView) (object kind : ℕ) (name : List ℕ) → kind_named p name ≡ Some kind
    → is_instance p h object name ≡ is_below_kind p (kind_at object h) (Some kind)
is_instance_named p h object kind name is = ap (λ o. is_below_kind p (kind_at object h) o) is
