-- An instruction of original code can be attempted: it names types of the dimensions that it needs, and an
-- invokespecial stands in the class whose name it has (JVM Specification 4.9.1, 6.5).
use Rattle.std.proofs.Common.{◌≡◌, ℕ, ◌<◌, Bool, true, false, List, [], ◌∷◌, ap, sym, subst, refl, ◌∙◌, arith}
use Rattle.std.specs.Prelude.{Option, Some, None, slice_get, ◌==◌, ◌&&◌, if◌then◌else◌}
use Rattle.std.specs.List.{AllByRecursion}
use Rattle.std.specs.Int.{is_in_range}
use Rattle.std.specs.Option.{IfSome, option_and_then, option_map}
use Rattle.std.proofs.lemmas.Option.{none-some, same_Some}
use Rattle.const_pool.specs.declared.class.ClassFile.{ClassFile}
use Rattle.const_pool.specs.declared.class.CodeAttribute.{CodeAttribute}
use Rattle.const_pool.specs.declared.pool.Const.{Const}
use Rattle.const_pool.specs.declared.pool.Const.TheVariants as const
use Rattle.const_pool.specs.References.{Reference, named_class, named_field, named_method, named_text}
use Rattle.code_model.specs.declared.instr.Instr.{Instr}
use Rattle.code_model.specs.declared.instr.Arg.{Arg}
use Rattle.code_model.specs.declared.instr.Arg.TheVariants as arg
use Rattle.code_model.specs.Instructions.{instruction_at, end_of}
use Rattle.jvm_model.specs.declared.family.Family.{Family}
use Rattle.jvm_model.specs.declared.family.Family.TheVariants as family
use Rattle.jvm_model.specs.Basis.Data.{Local, MethodPlace, SymbolicReference, New, Getfield, Putfield, Getstatic, Putstatic, Invokevirtual, Invokespecial, Invokestatic, Invokeinterface, Checkcast, Instanceof, Anewarray, Multianewarray, LdcClass, Operation, Within, Named, Athrow, Monitor, Newarray, Arraylength, LoadElement, StoreElement, LdcString, Instruction, Program}
use Rattle.jvm_model.specs.Basis.Families.{family_of}
use Rattle.jvm_model.specs.Codes.Lines.{ObjectRow, code_instruction, constant_in, pool_constant_operation, has_dimensions, instruction_of, interface_reference, local_of, method_instruction, array_reference, multi_of, named_by, named_interface_method, symbolic_reference_of, newarray_of, next_of, object_among, object_constant, object_constant_in, object_rows, operation_by, operation_of, other_operation, special_of, targets_of}
use Rattle.jvm_model.specs.Basis.Methods.{method_code}
use Rattle.jvm_model.specs.Codes.Originals.{original}
use Rattle.jvm_model.specs.Basis.Programs.{class_at, name_of, place_of_method}
use Rattle.jvm_model.specs.Soundness.Sound.{CanAttempt, HasClass, HasLoadedCaller, IsFit, IsLoaded, IsPrimitiveArray}
use Rattle.jvm_model.specs.Instructions.ObjectRules.{array_kind}

small : (code : ℕ) → is_in_range 4 11 code ≡ true → code < 16
small code e = grind (arith)

module _ (c : ClassFile) where
  -- ---- what a class's instruction names

  abbrev NamesCaller : SymbolicReference → Type 0
  NamesCaller (Invokespecial caller r interface) = name_of c ≡ Some caller
  NamesCaller n = Unit {0}

  abbrev IsFormed : Operation Local → Type 0
  IsFormed (Named n) = NamesCaller n × (has_dimensions n ≡ true)
  IsFormed (Newarray kind) = IsPrimitiveArray kind
  IsFormed o = Unit {0}

  mapped : {A : Type 0} (make : A → SymbolicReference) (o : Option A) → ((x : A) → NamesCaller (make x)) → IfSome (option_map make o) NamesCaller
  mapped make None each = tt
  mapped make (Some x) each = each x

  chosen : (b : Bool) (x y : Option SymbolicReference) → IfSome x NamesCaller → IfSome y NamesCaller → IfSome (if b then x else y) NamesCaller
  chosen true x y first second = first
  chosen false x y first second = second

  special-names : (caller : Option (List ℕ)) (o : Option Reference) → name_of c ≡ caller
      → IfSome (option_and_then (λ caller. option_map (special_of caller) o) caller) NamesCaller
  special-names None o e = tt
  special-names (Some caller) o e = mapped (special_of caller) o (λ r. e)

  reference-names : (op index : ℕ) → IfSome (symbolic_reference_of c op index) NamesCaller
  reference-names op index =
      chosen (op == 178) _ _ (mapped Getstatic (named_field c.pool index) (λ r. tt))
      (chosen (op == 179) _ _ (mapped Putstatic (named_field c.pool index) (λ r. tt))
      (chosen (op == 180) _ _ (mapped Getfield (named_field c.pool index) (λ r. tt))
      (chosen (op == 181) _ _ (mapped Putfield (named_field c.pool index) (λ r. tt))
      (chosen (op == 182) _ _ (mapped Invokevirtual (named_method c.pool index) (λ r. tt))
      (chosen (op == 183) _ _ (special-names (name_of c) (named_method c.pool index) refl)
      (chosen (op == 184) _ _ (mapped Invokestatic (named_method c.pool index) (λ r. tt))
      (chosen (op == 187) _ _ (mapped New (named_class c.pool index) (λ r. tt))
      (chosen (op == 189) _ _ (mapped Anewarray (named_class c.pool index) (λ r. tt))
      (chosen (op == 192) _ _ (mapped Checkcast (named_class c.pool index) (λ r. tt))
      (chosen (op == 193) _ None (mapped Instanceof (named_class c.pool index) (λ r. tt)) tt))))))))))

  interface-names : (op index : ℕ) → IfSome (interface_reference c op index) NamesCaller
  interface-names op index = chosen (op == 185) _ None (mapped Invokeinterface (named_interface_method c.pool index) (λ r. tt)) tt

  multi-names : (op index dimensions : ℕ) → IfSome (array_reference c op index dimensions) NamesCaller
  multi-names op index dimensions = chosen (op == 197) _ None (mapped (multi_of dimensions) (named_class c.pool index) (λ r. tt)) tt

  named-formed : (n : Option SymbolicReference) → IfSome n NamesCaller → IfSome (option_and_then named_by n) IsFormed
  named-formed None names = tt
  named-formed (Some n) names = by (has_dimensions n) refl
    where
      by : (b : Bool) → has_dimensions n ≡ b → IfSome (if b then Some (Named n) else None) IsFormed
      by true e = (names, e)
      by false e = tt

  -- ---- every instruction of a class

  object-formed : (op : ℕ) (rows : List ObjectRow) → AllByRecursion (λ (r : ObjectRow). IsFormed r.operation) rows → IfSome (object_among rows op) IsFormed
  object-formed op [] each = tt
  object-formed op (r ∷ rs) each = by (op == r.op) (object-formed op rs each.1)
    where
      by : (b : Bool) → IfSome (object_among rs op) IsFormed → IfSome (if b then Some r.operation else object_among rs op) IsFormed
      by true rest = each.0
      by false rest = rest

  array-formed : (op code : ℕ) → IfSome (newarray_of op code) IsFormed
  array-formed op code = by (op == 188) (is_in_range 4 11 code) refl
    where
      by : (a b : Bool) → is_in_range 4 11 code ≡ b → IfSome (if a && b then Some (Newarray (array_kind code)) else None) IsFormed
      by true true e = record { array = omega arith; primitive = (let few : code < 16 = small code e in omega (arith, few)) }
      by true false e = tt
      by false b e = tt

  other-formed : (op : ℕ) (a : Arg) → IfSome (other_operation c op a) IsFormed
  other-formed op (arg.Pool index) = named-formed (symbolic_reference_of c op index) (reference-names op index)
  other-formed op (arg.Interface index count third) = named-formed (interface_reference c op index) (interface-names op index)
  other-formed op (arg.Multi index dimensions) = named-formed (array_reference c op index dimensions) (multi-names op index dimensions)
  other-formed op (arg.Array code) = array-formed op code
  other-formed op arg.Plain = object-formed op object_rows
      (tt, (tt, (tt, (tt, (tt, (tt, (tt, (tt, (tt, (tt, (tt, (tt, (tt, (tt, (tt, (tt, tt))))))))))))))))
  other-formed op (arg.Value n) = tt
  other-formed op (arg.Local slot) = tt
  other-formed op (arg.Inc slot d) = tt
  other-formed op (arg.Target target) = tt
  other-formed op (arg.Table default low targets) = tt
  other-formed op (arg.Lookup default keys targets) = tt

  within-formed : (o : Option Local) → IfSome (option_map Within o) IsFormed
  within-formed None = tt
  within-formed (Some i) = tt

  texts-formed : (make : List ℕ → Operation Local) (o : Option (List ℕ)) → ((name : List ℕ) → IsFormed (make name)) → IfSome (option_map make o) IsFormed
  texts-formed make None each = tt
  texts-formed make (Some name) each = each name

  entry-formed : (entry : Const) → IfSome (object_constant c.pool entry) IsFormed
  entry-formed (const.Text i) = texts-formed LdcString (named_text c.pool i) (λ units. tt)
  entry-formed (const.Class i) = texts-formed (λ name. Named (LdcClass name)) (named_text c.pool i) (λ name. (tt, refl))
  entry-formed _ = tt

  entry-at-formed : (o : Option Const) → IfSome (option_and_then (object_constant c.pool) o) IsFormed
  entry-at-formed None = tt
  entry-at-formed (Some entry) = entry-formed entry

  object-constant-formed : (a : Arg) → IfSome (object_constant_in c.pool a) IsFormed
  object-constant-formed (arg.Pool index) = entry-at-formed (slice_get c.pool index)
  object-constant-formed _ = tt

  given-formed : (number : Option (Operation Local)) (a : Arg) → IfSome number IsFormed → IfSome (pool_constant_operation number (object_constant_in c.pool a)) IsFormed
  given-formed (Some op) a formed = formed
  given-formed None a formed = object-constant-formed a

  family-formed : (op : ℕ) (a : Arg) (f : Family) → IfSome (operation_by c op a f) IsFormed
  family-formed op a family.NotLocal = other-formed op a
  family-formed op a family.Nop = tt
  family-formed op a (family.Constant d) = tt
  family-formed op a family.PoolConstant = given-formed (option_map Within (local_of family.PoolConstant a (constant_in c.pool a))) a (within-formed _)
  family-formed op a family.OperandConstant = within-formed _
  family-formed op a (family.Load k) = within-formed _
  family-formed op a (family.LoadFrom k slot) = tt
  family-formed op a (family.Store k) = within-formed _
  family-formed op a (family.StoreTo k slot) = tt
  family-formed op a (family.ManageStack o) = tt
  family-formed op a (family.BinaryOfInts o) = tt
  family-formed op a (family.BinaryOfLongs o) = tt
  family-formed op a (family.DivisionOfInts o) = tt
  family-formed op a (family.DivisionOfLongs o) = tt
  family-formed op a (family.ShiftOfLong o) = tt
  family-formed op a (family.UnaryOfInt o) = tt
  family-formed op a (family.UnaryOfLong o) = tt
  family-formed op a family.Lcmp = tt
  family-formed op a family.Iinc = within-formed _
  family-formed op a (family.Branch test) = within-formed _
  family-formed op a family.Goto = within-formed _
  family-formed op a family.Jsr = within-formed _
  family-formed op a family.Ret = within-formed _
  family-formed op a family.Switch = within-formed _
  family-formed op a (family.Return k) = tt

  -- ---- the instruction at an offset of a method

  formed-at : (i : Instr) (o : Option (Operation Local)) (found : Instruction) → IfSome o IsFormed
      → option_map (λ op. record { operation = op; own = i.at; next = next_of op (end_of i); targets = targets_of i.arg }) o ≡ Some found → IsFormed found.operation
  formed-at i None found formed e = absurd (none-some found e)
  formed-at i (Some op) found formed e = subst (λ (x : Instruction). IsFormed x.operation) (same_Some _ found e) formed

  instruction-formed : (o : Option Instr) (found : Instruction) → option_and_then (instruction_of c) o ≡ Some found → IsFormed found.operation
  instruction-formed None found e = absurd (none-some found e)
  instruction-formed (Some i) found e = formed-at i (operation_of c i) found (family-formed i.op i.arg (family_of i.op)) e

  code-formed : (at : ℕ) (o : Option CodeAttribute) (found : Instruction)
      → option_and_then (λ (code : CodeAttribute). code_instruction c code.code at) o ≡ Some found → IsFormed found.operation
  code-formed at None found e = absurd (none-some found e)
  code-formed at (Some code) found e = instruction-formed (instruction_at code.code at) found e

-- ---- in a program

-- the class in which a method stands, and the instruction there
record Stands (p : Program) (version : ℕ) (i : Instruction) : Type 0 where
  place : MethodPlace
  class : ClassFile
  method : place_of_method p version ≡ Some place
  at : class_at p place.class ≡ Some class
  formed : IsFormed class i.operation

stands : (p : Program) (version offset : ℕ) (i : Instruction) → (original p).at version offset ≡ Some i → Stands p version i
stands p version offset i e = by_place (place_of_method p version) refl e
  where
    by_class : (place : MethodPlace) (c : Option ClassFile) → place_of_method p version ≡ Some place → class_at p place.class ≡ c
        → option_and_then (λ c. method_instruction c place.position offset) c ≡ Some i → Stands p version i
    by_class place None method at e = absurd (none-some i e)
    by_class place (Some c) method at e =
        record { place = place; class = c; method = method; at = at; formed = code-formed c offset (method_code c place.position) i e }

    by_place : (o : Option MethodPlace) → place_of_method p version ≡ o
        → option_and_then (λ (place : MethodPlace). option_and_then (λ c. method_instruction c place.position offset) (class_at p place.class)) o ≡ Some i
        → Stands p version i
    by_place None method e = absurd (none-some i e)
    by_place (Some place) method e = by_class place (class_at p place.class) method refl e

module _ (p : Program) (fit : IsFit p) (loaded : List ℕ) where
  caller-loaded : (c : ClassFile) (class : ℕ) (n : SymbolicReference) → class_at p class ≡ Some c → IsLoaded loaded class → NamesCaller c n → HasLoadedCaller p loaded n
  caller-loaded c class (Invokespecial caller r interface) at there names =
      λ other found.
      subst (IsLoaded loaded)
      (same_Some class other (sym (fit.names class caller (ap (λ o. option_and_then name_of o) at ∙ names)) ∙ found)) there
  caller-loaded c class (New name) at there names = tt
  caller-loaded c class (Getfield r) at there names = tt
  caller-loaded c class (Putfield r) at there names = tt
  caller-loaded c class (Getstatic r) at there names = tt
  caller-loaded c class (Putstatic r) at there names = tt
  caller-loaded c class (Invokevirtual r) at there names = tt
  caller-loaded c class (Invokestatic r) at there names = tt
  caller-loaded c class (Invokeinterface r) at there names = tt
  caller-loaded c class (Checkcast name) at there names = tt
  caller-loaded c class (Instanceof name) at there names = tt
  caller-loaded c class (Anewarray name) at there names = tt
  caller-loaded c class (Multianewarray name dimensions) at there names = tt
  caller-loaded c class (LdcClass name) at there names = tt

  formed-can : (c : ClassFile) (class : ℕ) (op : Operation Local) → class_at p class ≡ Some c → IsLoaded loaded class → IsFormed c op → CanAttempt p loaded op
  formed-can c class (Named n) at there formed = (caller-loaded c class n at there formed.0, formed.1)
  formed-can c class (Newarray kind) at there formed = formed
  formed-can c class (Within i) at there formed = tt
  formed-can c class Athrow at there formed = tt
  formed-can c class Monitor at there formed = tt
  formed-can c class Arraylength at there formed = tt
  formed-can c class (LoadElement k) at there formed = tt
  formed-can c class (StoreElement k) at there formed = tt
  formed-can c class (LdcString units) at there formed = tt

  -- of a method whose class is loaded
  pub can-attempt : (version offset : ℕ) (i : Instruction) → HasClass p loaded version → (original p).at version offset ≡ Some i → CanAttempt p loaded i.operation
  can-attempt version offset i has e =
      let at = stands p version offset i e in
      formed-can at.class at.place.class i.operation at.at (has at.place at.method) at.formed
