-- The array types that lines name have the dimensions that the format asks (JVM Specification 4.9.1).
use Rattle.std.proofs.Common.{◌≡◌, ℕ, Bool, true, false, cond, List, [], ◌∷◌, Option, Some, None, refl, sym, subst}
use Rattle.std.specs.Prelude.{◌==◌, ◌&&◌, nat_le, slice_get}
use Rattle.std.specs.Borrow.{Bor}
use Rattle.std.specs.Int.{is_in_range}
use Rattle.std.specs.List.{AllByRecursion}
use Rattle.std.specs.Option.{IfSome, option_and_then, option_map}
use Rattle.std.proofs.lemmas.Bool.{ltb-true, leb-true, and_parts}
use Rattle.const_pool.specs.declared.class.ClassFile.{ClassFile}
use Rattle.const_pool.specs.declared.pool.Const.{Const}
use Rattle.const_pool.specs.declared.pool.Const.TheVariants as const
use Rattle.const_pool.specs.References.{named_text}
use Rattle.code_model.specs.declared.instr.Arg.{Arg}
use Rattle.code_model.specs.declared.instr.Arg.TheVariants as arg
use Rattle.code_model.specs.declared.instr.Instr.{Instr}
use Rattle.code_model.specs.Instructions.{instruction_at}
use Rattle.jvm_model.specs.declared.family.Family.{Family}
use Rattle.jvm_model.specs.declared.family.Family.TheVariants as family
use Rattle.jvm_model.specs.declared.program.Program.{Program}
use Rattle.jvm_model.specs.declared.instruction.Local.{Local}
use Rattle.jvm_model.specs.declared.instruction.Local.TheVariants.{Return}
use Rattle.jvm_model.specs.declared.instruction.SymbolicReference.{SymbolicReference}
use Rattle.jvm_model.specs.declared.instruction.SymbolicReference.TheVariants.{New, Getfield, Putfield, Getstatic, Putstatic, Invokevirtual, Invokespecial, Invokestatic, Invokeinterface, Checkcast, Instanceof, Anewarray, Multianewarray, LdcClass}
use Rattle.jvm_model.specs.declared.instruction.Operation.{Operation}
use Rattle.jvm_model.specs.declared.instruction.Operation.TheVariants.{Within, Named, Athrow, Monitor, Newarray, Arraylength, LoadElement, StoreElement, LdcString}
use Rattle.jvm_model.specs.Basis.Families.{family_of}
use Rattle.jvm_model.specs.Classes.Kinds.{meaning_of}
use Rattle.jvm_model.specs.Codes.Lines.{ObjectRow, constant_in, pool_constant_operation, has_dimensions, interface_reference, local_of, array_reference, named_by, symbolic_reference_of, object_among, object_constant, object_constant_in, object_rows, operation_by, operation_of, other_operation}
use Rattle.jvm_model.specs.Basis.Methods.{method_code}
use Rattle.jvm_model.specs.Basis.Programs.{class_at, place_of_method}
use Rattle.jvm_model.specs.Instructions.ObjectRules.{array_kind}
use Rattle.member_selection.specs.Objects.{HasDimensions}
use Rattle.prepared_lines.specs.declared.line.Line.{Line}
use Rattle.prepared_code.specs.Versions as versions
use Rattle.prepared_code.specs.Versions.{HasLines}
use Rattle.prepared_code.specs.Tables.{Versions}
use Rattle.prepared_code.specs.Lines.{IfNamed, IfNamedBy, original_line_at}
use Rattle.prepared_lines.specs.Lines.{operation_kept, line_with}

-- ---- operations

abbrev Dimensioned : Operation Local → Type 0
Dimensioned (Named n) = has_dimensions n ≡ true
Dimensioned _ = Unit {0}

named : (n : SymbolicReference) (b : Bool) → has_dimensions n ≡ b → IfSome (cond b (Some (Named n)) None) Dimensioned
named n true h = h
named n false h = tt

named-one : (n : Option SymbolicReference) → IfSome (option_and_then named_by n) Dimensioned
named-one None = tt
named-one (Some n) = named n (has_dimensions n) refl

chosen : (b : Bool) (o : Operation Local) → Dimensioned o → IfSome (cond b (Some o) None) Dimensioned
chosen true o h = h
chosen false o h = tt

abbrev RowFits : ObjectRow → Type 0
RowFits r = Dimensioned r.operation

among : (rows : List ObjectRow) (op : ℕ) → AllByRecursion RowFits rows → IfSome (object_among rows op) Dimensioned
among [] op h = tt
among (r ∷ rs) op h = by (op == r.op) (among rs op h.1) where
  by : (b : Bool) → IfSome (object_among rs op) Dimensioned → IfSome (cond b (Some r.operation) (object_among rs op)) Dimensioned
  by true rest = h.0
  by false rest = rest

other : (c : ClassFile) (op : ℕ) (a : Arg) → IfSome (other_operation c op a) Dimensioned
other c op (arg.Pool index) = named-one (symbolic_reference_of c op index)
other c op (arg.Interface index count zero) = named-one (interface_reference c op index)
other c op (arg.Multi index dimensions) = named-one (array_reference c op index dimensions)
other c op (arg.Array code) = chosen (op == 188 && is_in_range 4 11 code) (Newarray (array_kind code)) tt
other c op arg.Plain = among object_rows op (tt, (tt, (tt, (tt, (tt, (tt, (tt, (tt, (tt, (tt, (tt, (tt, (tt, (tt, (tt, (tt, tt))))))))))))))))
other c op _ = tt

within : (o : Option Local) → IfSome (option_map Within o) Dimensioned
within None = tt
within (Some i) = tt

-- what ldc pushes has none
text : (make : List ℕ → Operation Local) → ((units : List ℕ) → Dimensioned (make units)) → (o : Option (List ℕ)) → IfSome (option_map make o) Dimensioned
text make each None = tt
text make each (Some units) = each units

entry : (c : ClassFile) (k : Const) → IfSome (object_constant c.pool k) Dimensioned
entry c (const.Text index) = text LdcString (λ units. tt) (named_text c.pool index)
entry c (const.Class index) = text (λ name. Named (LdcClass name)) (λ name. refl) (named_text c.pool index)
entry c _ = tt

entry-of : (c : ClassFile) (o : Option Const) → IfSome (option_and_then (object_constant c.pool) o) Dimensioned
entry-of c None = tt
entry-of c (Some k) = entry c k

constant : (c : ClassFile) (a : Arg) → IfSome (object_constant_in c.pool a) Dimensioned
constant c (arg.Pool index) = entry-of c (slice_get c.pool index)
constant c _ = tt

given : (c : ClassFile) (a : Arg) (number : Option Local) → IfSome (pool_constant_operation (option_map Within number) (object_constant_in c.pool a)) Dimensioned
given c a None = constant c a
given c a (Some i) = tt

pub by-family : (c : ClassFile) (op : ℕ) (a : Arg) (f : Family) → IfSome (operation_by c op a f) Dimensioned
by-family c op a family.NotLocal = other c op a
by-family c op a family.PoolConstant = given c a (local_of family.PoolConstant a (constant_in c.pool a))
by-family c op a f = within (local_of f a (constant_in c.pool a))

-- ---- lines

abbrev pub Fits : Line → Type 0
Fits l = IfNamedBy l.operation l.next (λ n next. HasDimensions n)

-- as the format asks
fits-reference : (n : SymbolicReference) → has_dimensions n ≡ true → HasDimensions n
fits-reference (Anewarray name) h = ltb-true (meaning_of name).dimensions 255 h
fits-reference (Multianewarray name dimensions) h =
    let parts = and_parts (nat_le 1 dimensions) (nat_le dimensions (meaning_of name).dimensions) h in
    (leb-true 1 dimensions parts.0, leb-true dimensions (meaning_of name).dimensions parts.1)
fits-reference (New name) h = tt
fits-reference (Getfield r) h = tt
fits-reference (Putfield r) h = tt
fits-reference (Getstatic r) h = tt
fits-reference (Putstatic r) h = tt
fits-reference (Invokevirtual r) h = tt
fits-reference (Invokespecial caller r interface) h = tt
fits-reference (Invokestatic r) h = tt
fits-reference (Invokeinterface r) h = tt
fits-reference (Checkcast name) h = tt
fits-reference (Instanceof name) h = tt
fits-reference (LdcClass name) h = tt

abbrev FitsBy : ℕ → Operation Local → Type 0
FitsBy next o = IfNamedBy (operation_kept o) next (λ n place. HasDimensions n)

local : (next : ℕ) (i : Local) → FitsBy next (Within i)
local next (Return k) = tt
local next i = tt

fits-operation : (next : ℕ) (o : Operation Local) → Dimensioned o → FitsBy next o
fits-operation next (Named n) h = fits-reference n h
fits-operation next (Within i) h = local next i
fits-operation next Athrow h = tt
fits-operation next Monitor h = tt
fits-operation next (Newarray kind) h = tt
fits-operation next Arraylength h = tt
fits-operation next (LoadElement k) h = tt
fits-operation next (StoreElement k) h = tt
fits-operation next (LdcString units) h = tt

pub made-with : (c : ClassFile) (i : Instr) (o : Option (Operation Local)) → IfSome o Dimensioned → IfSome (option_map (line_with c i) (option_map operation_kept o)) Fits
made-with c i None h = tt
made-with c i (Some o) h = fits-operation _ o h

each-then : {A : Type 0} (f : A → Option Line) → ((x : A) → IfSome (f x) Fits) → (o : Option A) → IfSome (option_and_then f o) Fits
each-then f each None = tt
each-then f each (Some x) = each x

pub fits-at : (p : Program) (method at : ℕ) → IfSome (original_line_at p method at) Fits
fits-at p method at =
    each-then _
    (λ place. each-then _
    (λ c. each-then _
    (λ code. each-then _
    (λ i. made-with c i (operation_of c i) (by-family c i.op i.arg (family_of i.op)))
    (instruction_at code.code at))
    (method_code c place.position))
    (class_at p place.class))
    (place_of_method p method)

seen : (l : Bor Line) (o : Option Line) → Some l.now ≡ o → IfSome o Fits → Fits l.now
seen l o found h = subst (λ (x : Option Line). IfSome x Fits) (sym found) h

-- of the line that stands there
pub line-fits : (v : Versions) → HasLines v → (version place : ℕ) (l : Bor Line) → Some l.now ≡ versions.line_at v version place
    → IfNamedBy l.now.operation l.now.next (λ n next. HasDimensions n)
line-fits v lines version place l found = seen l (versions.line_at v version place) found (lines.dimensions version place)

-- ---- what holds of the reference of the line that stands there

pub line-named : (o : Option Line) (l : Line) (Holds : SymbolicReference → ℕ → Type 0) → Some l ≡ o → IfNamedBy l.operation l.next Holds → IfNamed o Holds
line-named o l Holds found h = subst (λ (x : Option Line). IfNamed x Holds) found h

pub line-names : (o : Option Line) (l : Line) (Holds : SymbolicReference → ℕ → Type 0) → Some l ≡ o → IfNamed o Holds → IfNamedBy l.operation l.next Holds
line-names o l Holds found h = subst (λ (x : Option Line). IfNamed x Holds) (sym found) h
