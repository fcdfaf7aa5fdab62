-- Each rule of an instruction that names something is what its resolution is followed by (JVM Specification 5.4.3.1).
use Rattle.std.proofs.Common.{◌≡◌, Bool, true, false, refl, true≢false}
use Rattle.std.specs.Prelude.{Some, Result, Ok, Err, not, pos, if◌then◌else◌}
use Rattle.std.proofs.lemmas.Bool.{false≢true}
use Rattle.heap_objects.specs.declared.Value.TheVariants.{Int}
use Rattle.jvm_model.specs.Instructions.CreationRules.{answers, casts_to}
use Rattle.jvm_model.specs.declared.state.Shared.{Shared}
use Rattle.jvm_model.specs.Basis.Data.{Locals, Operands, World, Next, Outcome, GoesOn, Done}
use Rattle.jvm_model.specs.Instructions.FieldRules.{gets_of, field_held, kind_by, pushes_static, puts_into, putting_of, sets_static}
use Rattle.jvm_model.specs.Instructions.InvocationRules.{Virtual, OfInterface, Special, arguments_by, invokes_on, invokes_with_static}
use Rattle.jvm_model.specs.Instructions.LocalRules.{replaces}
use Rattle.jvm_model.specs.Instructions.SymbolicReference.{◌>>=◌, is_null, resolved_kind, resolved_name, resolves, unless_refused}
use Rattle.jvm_model.specs.declared.instruction.SymbolicReference.{SymbolicReference}
use Rattle.jvm_model.specs.declared.instruction.SymbolicReference.TheVariants.{New, Getfield, Putfield, Getstatic, Putstatic, Invokevirtual, Invokespecial, Invokestatic, Invokeinterface, Checkcast, Instanceof, Anewarray, Multianewarray, LdcClass}
use Rattle.jvm_model.specs.Instructions.ReferenceRules.{does_named}
use Rattle.jvm_model.specs.Instructions.ObjectRules.{done}
use Rattle.jvm_model.specs.Instructions.Rules.{class_initialized}
use Rattle.jvm_model.specs.Basis.Values.{ref_of}
use Rattle.member_selection.specs.Resolved.{does_resolved, field_found, method_found, skips}

then-unless : {A B : Type 0} (s : Shared) (r : Result A Outcome) (f : A → Result B Outcome) (rule : B → Done)
    → unless_refused s (r >>= f) rule ≡ unless_refused s r (λ x. unless_refused s (f x) rule)
then-unless s (Ok x) f rule = refl
then-unless s (Err q) f rule = refl

null-or : (b : Bool) (null rest : Done) → not b ≡ true → (if b then null else rest) ≡ rest
null-or true null rest is = absurd (false≢true is)
null-or false null rest is = refl

null-is : (b : Bool) (null rest : Done) → not b ≡ false → (if b then null else rest) ≡ null
null-is true null rest is = refl
null-is false null rest is = absurd (true≢false is)

pub behind : (w : World) (n : SymbolicReference) (s : Shared) (l : Locals) (o : Operands) → resolves n o ≡ true
    → does_named w n s l o ≡ unless_refused s (resolved_kind w.program s.loaded (resolved_name n)) (λ kind. does_resolved w kind n s l o)
behind w (New name) s l o is = refl
behind w (Getfield r) s l o is =
    then-unless s (resolved_kind w.program s.loaded r.class) (λ kind. field_found w.program kind false r) (λ m. gets_of w.program r m (ref_of o) s l o)
behind w (Putfield r) s l o is =
    then-unless s (resolved_kind w.program s.loaded r.class) (λ kind. field_found w.program kind false r) (λ m. puts_into w.program r m (putting_of (kind_by r) o) s l o)
behind w (Getstatic r) s l o is =
    then-unless s (resolved_kind w.program s.loaded r.class) (λ kind. field_found w.program kind true r) (λ m. pushes_static w.program m s l o)
behind w (Putstatic r) s l o is =
    then-unless s (resolved_kind w.program s.loaded r.class) (λ kind. field_found w.program kind true r)
    (λ m. class_initialized w.program m.class s (sets_static m (field_held (kind_by r) o) s l o))
behind w (Invokevirtual r) s l o is =
    then-unless s (resolved_kind w.program s.loaded r.class) (λ kind. method_found w.program kind false false r)
    (λ m. invokes_on w Virtual r m (arguments_by true r.member o) s l o)
behind w (Invokespecial caller r interface) s l o is =
    then-unless s (resolved_kind w.program s.loaded r.class) (λ kind. method_found w.program kind interface false r)
    (λ m. invokes_on w (Special caller interface) r m (arguments_by true r.member o) s l o)
behind w (Invokestatic r) s l o is =
    then-unless s (resolved_kind w.program s.loaded r.class) (λ kind. method_found w.program kind false true r)
    (λ m. class_initialized w.program m.class s (invokes_with_static w m (arguments_by false r.member o) s l o))
behind w (Invokeinterface r) s l o is =
    then-unless s (resolved_kind w.program s.loaded r.class) (λ kind. method_found w.program kind true false r)
    (λ m. invokes_on w OfInterface r m (arguments_by true r.member o) s l o)
behind w (Checkcast name) s l o is =
    null-or (is_null o) (done s (GoesOn l o Next))
    (unless_refused s (resolved_kind w.program s.loaded name) (λ kind. done s (casts_to w.program name (ref_of o) s l o))) is
behind w (Instanceof name) s l o is =
    null-or (is_null o) (done s (replaces 1 (Some (Int (pos 0))) l o))
    (unless_refused s (resolved_kind w.program s.loaded name) (λ kind. done s (answers w.program name (ref_of o) s l o))) is
behind w (Anewarray name) s l o is = refl
behind w (Multianewarray name dimensions) s l o is = refl
behind w (LdcClass name) s l o is = refl

pub skipped : (w : World) (n : SymbolicReference) (s : Shared) (l : Locals) (o : Operands) → resolves n o ≡ false
    → does_named w n s l o ≡ done s (skips n l o)
skipped w (Checkcast name) s l o is =
    null-is (is_null o) (done s (GoesOn l o Next))
    (unless_refused s (resolved_kind w.program s.loaded name) (λ kind. done s (casts_to w.program name (ref_of o) s l o))) is
skipped w (Instanceof name) s l o is =
    null-is (is_null o) (done s (replaces 1 (Some (Int (pos 0))) l o))
    (unless_refused s (resolved_kind w.program s.loaded name) (λ kind. done s (answers w.program name (ref_of o) s l o))) is
skipped w n s l o is = absurd (true≢false is)
