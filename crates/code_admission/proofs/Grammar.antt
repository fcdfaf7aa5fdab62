-- The tests of descriptors are the grammar of const_pool.
use Rattle.std.proofs.Common.{◌≡◌, ℕ, List, Option, Some, None, Result, Ok, Err, refl, sym, subst}
use Rattle.std.specs.Prelude.{IfOk}
use Rattle.std.specs.Result.{result_ok}
use Rattle.std.proofs.lemmas.Option.{same_Some, none-some}
use Rattle.const_pool.specs.declared.descriptor.Kind.{Kind}
use Rattle.const_pool.specs.declared.descriptor.Shape.{Shape}
use Rattle.const_pool.specs.declared.descriptor.DescriptorError.{DescriptorError}
use Rattle.const_pool.specs.declared.descriptor.DescriptorError.TheVariants.{BadDescriptor, NoMemory}
use Rattle.const_pool.specs.Descriptors.{IsField, IsMethod, IsReadAs}
use Rattle.const_pool.specs.Stages.{field_answer, method_answer, fault_told, Answers}
use Rattle.const_pool.proofs.FieldTexts.{field_found, field_only}
use Rattle.const_pool.proofs.MethodTexts.{method_found, method_only}
use Rattle.code_admission.specs.Texts.{field_kind, method_kinds}

-- ---- fields

field_told : (answer : Result Kind ℕ) (kind : Kind) → fault_told answer ≡ Ok kind → result_ok answer ≡ Some kind
field_told (Ok found) kind e = cc e
field_told (Err at) kind e = cc e

pub field_kind_only : (text : List ℕ) (kind : Kind) → IsField text kind → field_kind text ≡ Some kind
field_kind_only text kind is = field_told (field_answer text) kind (field_only text (fault_told (field_answer text)) kind refl is)

field_held : (answer : Result Kind ℕ) (text : List ℕ) (kind : Kind) → IfOk (fault_told answer) (λ kind. IsField text kind) → result_ok answer ≡ Some kind → IsField text kind
field_held (Ok found) text kind is e = subst (λ k. IsField text k) (same_Some found kind e) is
field_held (Err at) text kind is e = absurd (none-some kind e)

pub field_kind_found : (text : List ℕ) (kind : Kind) → field_kind text ≡ Some kind → IsField text kind
field_kind_found text kind e = field_held (field_answer text) text kind (field_found text (fault_told (field_answer text)) refl) e

-- ---- methods

answers_itself : {A : Type 0} (answer : Result A ℕ) → Answers (fault_told answer) answer
answers_itself (Ok found) = refl
answers_itself (Err at) = refl

method_told : (answer : Result Shape ℕ) (shape : Shape) → IsReadAs (fault_told answer) shape → result_ok answer ≡ Some shape
method_told (Ok found) shape e = cc e
method_told (Err at) shape e = absurd e

pub method_kinds_only : (text : List ℕ) (shape : Shape) → IsMethod text shape → method_kinds text ≡ Some shape
method_kinds_only text shape is = method_told (method_answer text) shape (method_only text (fault_told (method_answer text)) shape (answers_itself (method_answer text)) is)

method_held : (answer : Result Shape ℕ) (text : List ℕ) (shape : Shape) → IfOk (fault_told answer) (λ shape. IsMethod text shape) → result_ok answer ≡ Some shape → IsMethod text shape
method_held (Ok found) text shape is e = subst (λ s. IsMethod text s) (same_Some found shape e) is
method_held (Err at) text shape is e = absurd (none-some shape e)

pub method_kinds_found : (text : List ℕ) (shape : Shape) → method_kinds text ≡ Some shape → IsMethod text shape
method_kinds_found text shape e = method_held (method_answer text) text shape (method_found text (fault_told (method_answer text)) (answers_itself (method_answer text))) e

-- ---- what the calls answer

none_of : {A : Type 0} (o : Option A) → ((a : A) → o ≡ Some a → ⊥) → None ≡ o
none_of None no_a = refl
none_of (Some a) no_a = absurd (no_a a refl)

pub field_answered : (text : List ℕ) (result : Result Kind DescriptorError) → IfOk result (λ kind. IsField text kind) → ((kind : Kind) → IsField text kind → result ≡ Ok kind) → result_ok result ≡ field_kind text
field_answered text (Ok kind) found only = sym (field_kind_only text kind found)
field_answered text (Err error) found only = none_of (field_kind text) (λ kind e. cc (only kind (field_kind_found text kind e)))

not_read : (error : DescriptorError) (at : ℕ) (shape : Shape) → error ≡ BadDescriptor at → IsReadAs (Err error) shape → ⊥
not_read (BadDescriptor n) at shape e read = read
not_read NoMemory at shape e read = cc e

pub method_refused : (text : List ℕ) (error : DescriptorError) (at : ℕ) → error ≡ BadDescriptor at → ((shape : Shape) → IsMethod text shape → IsReadAs (Err error) shape) → None ≡ method_kinds text
method_refused text error at is only = none_of (method_kinds text) (λ shape e. not_read error at shape is (only shape (method_kinds_found text shape e)))
