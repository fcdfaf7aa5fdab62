-- What stands at an offset of the prepared code is what the listing of original code has there.
use Rattle.std.proofs.Common.{◌≡◌, ℕ, Bool, true, false, cond, List, [], ◌∷◌, Option, Some, None, refl, sym, ap, subst, ◌∙◌}
use Rattle.std.proofs.lemmas.Bool.{false≢true}
use Rattle.std.specs.Prelude.{slice_get, unwrap_or, ◌==◌, ◌&&◌}
use Rattle.std.specs.Int.{is_in_range}
use Rattle.std.specs.Option.{IfSome, option_and_then, option_map}
use Rattle.std.proofs.lemmas.Option.{same_Some, none-some}
use Rattle.heap_objects.specs.declared.datum.Datum.{Datum}
use Rattle.heap_objects.specs.declared.datum.Datum.TheVariants as datum
use Rattle.const_pool.specs.declared.class.ClassFile.{ClassFile}
use Rattle.const_pool.specs.declared.pool.Const.{Const}
use Rattle.const_pool.specs.declared.pool.Const.TheVariants as const
use Rattle.const_pool.specs.References.{named_text}
use Rattle.code_model.specs.declared.instr.Arg.{Arg}
use Rattle.code_model.specs.declared.instr.Arg.TheVariants as arg
use Rattle.code_model.specs.declared.instr.Instr.{Instr}
use Rattle.code_model.specs.Instructions.{instruction_at, end_of}
use Rattle.jvm_model.specs.declared.family.Family.{Family}
use Rattle.jvm_model.specs.declared.family.Family.TheVariants as family
use Rattle.jvm_model.specs.declared.program.Program.{Program}
use Rattle.jvm_model.specs.Basis.Data.{Locals, Operands, Instruction}
use Rattle.jvm_model.specs.declared.instruction.Local.{Local}
use Rattle.jvm_model.specs.declared.instruction.Local.TheVariants.{Nop, Constant, Load, Store, ManageStack, BinaryOfInts, BinaryOfLongs, DivisionOfInts, DivisionOfLongs, ShiftOfLong, UnaryOfInt, UnaryOfLong, Lcmp, Iinc, Branch, Goto, Switch, Jsr, Ret, Return}
use Rattle.jvm_model.specs.declared.instruction.SymbolicReference.{SymbolicReference}
use Rattle.jvm_model.specs.declared.instruction.SymbolicReference.TheVariants.{LdcClass}
use Rattle.jvm_model.specs.declared.instruction.Operation.{Operation}
use Rattle.jvm_model.specs.declared.instruction.Operation.TheVariants.{Within, Named, Athrow, Monitor, Newarray, Arraylength, LoadElement, StoreElement, LdcString}
use Rattle.jvm_model.specs.Basis.Families.{family_of}
use Rattle.jvm_model.specs.Codes.Lines.{value_in, slot_in, increment_in, target_in, keys_in, local_of, constant_in, pool_constant_operation, has_dimensions, interface_reference, array_reference, named_by, symbolic_reference_of, ObjectRow, object_among, object_constant, object_constant_in, object_rows, other_operation, operation_by, is_last, next_of, targets_of, instruction_of}
use Rattle.jvm_model.specs.Instructions.LocalRules.{within}
use Rattle.jvm_model.specs.Basis.Methods.{method_code}
use Rattle.jvm_model.specs.Codes.Originals.{original}
use Rattle.jvm_model.specs.Basis.Programs.{class_at, place_of_method}
use Rattle.jvm_model.specs.Basis.Values.{as_value}
use Rattle.jvm_model.specs.Instructions.ObjectRules.{array_kind}
use Rattle.jvm_basic.specs.Rules.{datum_in, outcome_placed, going, needs, rule_by, rule_of}
use Rattle.prepared_lines.specs.declared.line.Line.{Line}
use Rattle.prepared_code.specs.Ready.{CanRun, HasLocal, IsOwnLine, IsRuleOf, IsTied}
use Rattle.prepared_code.specs.Versions.{Setup, instruction_by, instruction_in, is_last_family, next_in, operation_as, operation_in, listing_of}
use Rattle.prepared_code.specs.Versions as versions
use Rattle.prepared_code.specs.Lines.{original_line_at}
use Rattle.prepared_lines.specs.Lines.{local_kept, operation_kept, line_with, line_of}

-- ---- a line and what it does

-- with its operation
pub record Stands (line : Line) (i : Instruction) : Type 0 where
  pub op : Operation Local
  pub is : i ≡ instruction_by op line
  pub tied : IsTied line op

abbrev pub Tie : Option Line → Option Instruction → Type 0
Tie None None = Unit {0}
Tie None (Some i) = ⊥
Tie (Some line) None = ⊥
Tie (Some line) (Some i) = Stands line i

-- ---- instructions that see their frame alone

made-last : {A : Type 0} (make : A → Local) (b : Bool) → ((x : A) → is_last (make x) ≡ b) → (o : Option A) (l : Local) → option_map make o ≡ Some l → is_last l ≡ b
made-last make b each None l e = absurd (none-some l e)
made-last make b each (Some x) l e = ap is_last (sym (same_Some (make x) l e)) ∙ each x

known-last : (k l : Local) (b : Bool) → is_last k ≡ b → Some k ≡ Some l → is_last l ≡ b
known-last k l b is e = ap is_last (sym (same_Some k l e)) ∙ is

-- control goes on behind an instruction as behind its family
last-same : (f : Family) (a : Arg) (c : Option Datum) (l : Local) → local_of f a c ≡ Some l → is_last l ≡ is_last_family f
last-same family.Nop a c l e = known-last Nop l false refl e
last-same (family.Constant d) a c l e = known-last (Constant d) l false refl e
last-same family.PoolConstant a c l e = made-last Constant false (λ d. refl) c l e
last-same family.OperandConstant a c l e = made-last Constant false (λ d. refl) (value_in a) l e
last-same (family.Load k) a c l e = made-last (Load k) false (λ n. refl) (slot_in a) l e
last-same (family.LoadFrom k slot) a c l e = known-last (Load k slot) l false refl e
last-same (family.Store k) a c l e = made-last (Store k) false (λ n. refl) (slot_in a) l e
last-same (family.StoreTo k slot) a c l e = known-last (Store k slot) l false refl e
last-same (family.ManageStack op) a c l e = known-last (ManageStack op) l false refl e
last-same (family.BinaryOfInts op) a c l e = known-last (BinaryOfInts op) l false refl e
last-same (family.BinaryOfLongs op) a c l e = known-last (BinaryOfLongs op) l false refl e
last-same (family.DivisionOfInts op) a c l e = known-last (DivisionOfInts op) l false refl e
last-same (family.DivisionOfLongs op) a c l e = known-last (DivisionOfLongs op) l false refl e
last-same (family.ShiftOfLong op) a c l e = known-last (ShiftOfLong op) l false refl e
last-same (family.UnaryOfInt op) a c l e = known-last (UnaryOfInt op) l false refl e
last-same (family.UnaryOfLong op) a c l e = known-last (UnaryOfLong op) l false refl e
last-same family.Lcmp a c l e = known-last Lcmp l false refl e
last-same family.Iinc a c l e = made-last (λ p. Iinc p.0 p.1) false (λ p. refl) (increment_in a) l e
last-same (family.Branch test) a c l e = made-last (λ target. Branch test) false (λ t. refl) (target_in a) l e
last-same family.Goto a c l e = made-last (λ target. Goto) true (λ t. refl) (target_in a) l e
last-same family.Jsr a c l e = made-last (λ target. Jsr) false (λ t. refl) (target_in a) l e
last-same family.Ret a c l e = made-last Ret true (λ n. refl) (slot_in a) l e
last-same family.Switch a c l e = made-last Switch true (λ keys. refl) (keys_in a) l e
last-same (family.Return k) a c l e = known-last (Return k) l true refl e
last-same family.NotLocal a c l e = absurd (none-some l e)

-- a datum as a value is that datum
datum-back : (c : Option Datum) → option_and_then datum_in (option_map as_value c) ≡ c
datum-back None = refl
datum-back (Some (datum.Int n)) = refl
datum-back (Some (datum.Long n)) = refl
datum-back (Some (datum.Ref r)) = refl

rule-by-is : (f : Family) → (f ≡ family.NotLocal → ⊥) → (a : Arg) (c : Option Datum) (next : ℕ) (m : Locals) (o : Operands)
    → rule_by f a c next m o ≡ needs (local_of f a c) (λ l. going (within l) next (targets_of a)) m o
rule-by-is family.NotLocal apart a c next m o = absurd (apart refl)
rule-by-is f apart a c next m o = refl

-- ---- operations that see objects

abbrev is_object : Operation Local → Bool
is_object Athrow = true
is_object Monitor = true
is_object (Newarray kind) = true
is_object Arraylength = true
is_object (LoadElement k) = true
is_object (StoreElement k) = true
is_object _ = false

abbrev are_objects : List ObjectRow → Bool
are_objects [] = true
are_objects (r ∷ rest) = cond (is_object r.operation) (are_objects rest) false

both : (a b : Bool) → cond a b false ≡ true → (a ≡ true) × (b ≡ true)
both true b h = (refl, h)
both false b h = absurd (false≢true h)

-- ---- the line of an instruction

module _ (c : ClassFile) (i : Instr) where
  abbrev constant : Option Datum
  constant = constant_in c.pool i.arg

  -- the line and the instruction of an operation
  abbrev the_line : Option (Operation Local) → Option Line
  the_line o = option_map (line_with c i) (option_map operation_kept o)

  abbrev the_instruction : Option (Operation Local) → Option Instruction
  the_instruction o = option_map (λ op. record { operation = op; own = i.at; next = next_of op (end_of i); targets = targets_of i.arg }) o

  next-same : (f : Family) → family_of i.op ≡ f → (l : Local) → local_of f i.arg constant ≡ Some l
      → next_of (Within l) (end_of i) ≡ cond (is_last_family (family_of i.op)) None (Some (end_of i))
  next-same f is l e =
      ap (λ b. cond b None (Some (end_of i))) (last-same f i.arg constant l e)
      ∙ ap (λ x. cond (is_last_family x) None (Some (end_of i))) (sym is)

  rule-same : (f : Family) → (f ≡ family.NotLocal → ⊥) → family_of i.op ≡ f → (l : Local) → local_of f i.arg constant ≡ Some l → (m : Locals) (o : Operands)
      → rule_of i (option_map as_value constant) (end_of i) m o ≡ outcome_placed (end_of i) (targets_of i.arg) m o (within l m o)
  rule-same f apart is l e m o =
      ap (λ x. rule_by x i.arg (option_and_then datum_in (option_map as_value constant)) (end_of i) m o) is
      ∙ (ap (λ d. rule_by f i.arg d (end_of i) m o) (datum-back constant)
      ∙ (rule-by-is f apart i.arg constant (end_of i) m o
      ∙ ap (λ x. needs x (λ k. going (within k) (end_of i) (targets_of i.arg)) m o) e))

  local-same : (f : Family) → family_of i.op ≡ f → (l : Local) → local_of f i.arg constant ≡ Some l → HasLocal (line_with c i (Within (local_kept l))) l
  local-same f is l e =
      ap (λ x. local_of x i.arg (option_and_then datum_in (option_map as_value constant))) is ∙ (ap (local_of f i.arg) (datum-back constant) ∙ e)

  within-is : (l k : Local) (P : Local → Type 0) → P l → Within l ≡ Within k → P k
  within-is l k P h e = subst P (ap local e) h where
    local : Operation Local → Local
    local (Within x) = x
    local _ = l

  tied-local : (f : Family) → (f ≡ family.NotLocal → ⊥) → family_of i.op ≡ f → (x : Option Local) → local_of f i.arg constant ≡ x
      → Tie (the_line (option_map Within x)) (the_instruction (option_map Within x))
  tied-local f apart is None e = tt
  tied-local f apart is (Some l) e = record {
    op = Within l;
    is = refl;
    tied = record {
      kept = refl;
      next = next-same f is l e;
      alone = λ k same. within-is l k (IsRuleOf (line_with c i (Within (local_kept l)))) (rule-same f apart is l e) same;
      within = λ k same. within-is l k (HasLocal (line_with c i (Within (local_kept l)))) (local-same f is l e) same;
    };
  }

  -- ---- instructions with names

  -- control goes on behind an instruction of no family, but for athrow
  behind : family_of i.op ≡ family.NotLocal → Some (end_of i) ≡ cond (is_last_family (family_of i.op)) None (Some (end_of i))
  behind is = ap (λ x. cond (is_last_family x) None (Some (end_of i))) (sym is)

  abbrev TiedOperation : Option (Operation Local) → Type 0
  TiedOperation o = Tie (the_line o) (the_instruction o)

  either : (b : Bool) (x y : Option (Operation Local)) → TiedOperation x → TiedOperation y → TiedOperation (cond b x y)
  either true x y tx ty = tx
  either false x y tx ty = ty

  tied-reference : family_of i.op ≡ family.NotLocal → (o : Option SymbolicReference) → TiedOperation (option_and_then named_by o)
  tied-reference is None = tt
  tied-reference is (Some n) =
      either (has_dimensions n) (Some (Named n)) None
      (record { op = Named n; is = refl; tied = record { kept = refl; next = behind is; alone = λ k same. absurd cc; within = λ k same. absurd cc } }) tt

  -- ---- instructions that see objects

  tied-object : family_of i.op ≡ family.NotLocal → (op : Operation Local) → is_object op ≡ true → TiedOperation (Some op)
  tied-object is Athrow object = record { op = Athrow; is = refl; tied = record { kept = refl; next = refl; alone = λ k same. absurd cc; within = λ k same. absurd cc } }
  tied-object is Monitor object = record { op = Monitor; is = refl; tied = record { kept = refl; next = behind is; alone = λ k same. absurd cc; within = λ k same. absurd cc } }
  tied-object is (Newarray kind) object = record { op = Newarray kind; is = refl; tied = record { kept = refl; next = behind is; alone = λ k same. absurd cc; within = λ k same. absurd cc } }
  tied-object is Arraylength object = record { op = Arraylength; is = refl; tied = record { kept = refl; next = behind is; alone = λ k same. absurd cc; within = λ k same. absurd cc } }
  tied-object is (LoadElement k) object = record { op = LoadElement k; is = refl; tied = record { kept = refl; next = behind is; alone = λ k same. absurd cc; within = λ k same. absurd cc } }
  tied-object is (StoreElement k) object = record { op = StoreElement k; is = refl; tied = record { kept = refl; next = behind is; alone = λ k same. absurd cc; within = λ k same. absurd cc } }
  tied-object is (Within l) object = absurd (false≢true object)
  tied-object is (Named n) object = absurd (false≢true object)
  tied-object is (LdcString units) object = absurd (false≢true object)

  tied-rows : family_of i.op ≡ family.NotLocal → (rows : List ObjectRow) → are_objects rows ≡ true → TiedOperation (object_among rows i.op)
  tied-rows is [] objects = tt
  tied-rows is (r ∷ rest) objects =
      let all = both (is_object r.operation) (are_objects rest) objects in
      either (i.op == r.op) _ _ (tied-object is r.operation all.0) (tied-rows is rest all.1)

  tied-other : family_of i.op ≡ family.NotLocal → (a : Arg) → TiedOperation (other_operation c i.op a)
  tied-other is (arg.Pool index) = tied-reference is (symbolic_reference_of c i.op index)
  tied-other is (arg.Interface index count zero) = tied-reference is (interface_reference c i.op index)
  tied-other is (arg.Multi index dimensions) = tied-reference is (array_reference c i.op index dimensions)
  tied-other is (arg.Array code) = either (i.op == 188 && is_in_range 4 11 code) _ _ (tied-object is (Newarray (array_kind code)) refl) tt
  tied-other is arg.Plain = tied-rows is object_rows refl
  tied-other is _ = tt

  -- ---- ldc: of a String or a Class where it is of no number

  behind-ldc : family_of i.op ≡ family.PoolConstant → Some (end_of i) ≡ cond (is_last_family (family_of i.op)) None (Some (end_of i))
  behind-ldc is = ap (λ x. cond (is_last_family x) None (Some (end_of i))) (sym is)

  tied-string : family_of i.op ≡ family.PoolConstant → (text : Option (List ℕ)) → TiedOperation (option_map LdcString text)
  tied-string is None = tt
  tied-string is (Some units) = record { op = LdcString units; is = refl; tied = record { kept = refl; next = behind-ldc is; alone = λ k same. absurd cc; within = λ k same. absurd cc } }

  tied-class : family_of i.op ≡ family.PoolConstant → (text : Option (List ℕ)) → TiedOperation (option_map (λ name. Named (LdcClass name)) text)
  tied-class is None = tt
  tied-class is (Some name) = record { op = Named (LdcClass name); is = refl; tied = record { kept = refl; next = behind-ldc is; alone = λ k same. absurd cc; within = λ k same. absurd cc } }

  tied-entry : family_of i.op ≡ family.PoolConstant → (entry : Const) → TiedOperation (object_constant c.pool entry)
  tied-entry is (const.Text index) = tied-string is (named_text c.pool index)
  tied-entry is (const.Class index) = tied-class is (named_text c.pool index)
  tied-entry is _ = tt

  tied-constant : family_of i.op ≡ family.PoolConstant → (a : Arg) → TiedOperation (object_constant_in c.pool a)
  tied-constant is (arg.Pool index) = by (slice_get c.pool index) where
    by : (o : Option Const) → TiedOperation (option_and_then (object_constant c.pool) o)
    by None = tt
    by (Some entry) = tied-entry is entry
  tied-constant is _ = tt

  tied-given : family_of i.op ≡ family.PoolConstant → (x : Option Local) → local_of family.PoolConstant i.arg constant ≡ x
      → TiedOperation (pool_constant_operation (option_map Within x) (object_constant_in c.pool i.arg))
  tied-given is None e = tied-constant is i.arg
  tied-given is (Some l) e = tied-local family.PoolConstant (λ same. absurd cc) is (Some l) e

  -- ---- every instruction

  tied-by : (f : Family) → family_of i.op ≡ f → TiedOperation (operation_by c i.op i.arg f)
  tied-by family.NotLocal is = tied-other is i.arg
  tied-by family.PoolConstant is = tied-given is (local_of family.PoolConstant i.arg constant) refl
  tied-by f is = tied-local f (λ e. absurd cc) is (local_of f i.arg constant) refl

  pub tied-instruction : Tie (line_of c i) (instruction_of c i)
  tied-instruction = tied-by (family_of i.op) refl

-- ---- at an offset

lifted : {A : Type 0} (o : Option A) (f : A → Option Line) (g : A → Option Instruction) → ((x : A) → Tie (f x) (g x)) → Tie (option_and_then f o) (option_and_then g o)
lifted None f g each = tt
lifted (Some x) f g each = each x

pub tied-at : (p : Program) (method at : ℕ) → Tie (original_line_at p method at) ((original p).at method at)
tied-at p method at =
    lifted (place_of_method p method) _ _
    (λ place. lifted (class_at p place.class) _ _
    (λ c. lifted (method_code c place.position) _ _
    (λ code. lifted (instruction_at code.code at) _ _
    (λ i. tied-instruction c i))))

-- ---- the operation that a line shows

local-shown : (line : Line) (l : Local) → HasLocal line l → operation_as line (Within (local_kept l)) ≡ Within l
local-shown line (Return k) e = refl
local-shown line l e = ap (λ o. Within (unwrap_or o Nop)) e

shown-by : (line : Line) (op : Operation Local) → ((l : Local) → op ≡ Within l → HasLocal line l) → operation_as line (operation_kept op) ≡ op
shown-by line (Within l) within = local-shown line l (within l refl)
shown-by line (Named n) within = refl
shown-by line Athrow within = refl
shown-by line Monitor within = refl
shown-by line (Newarray kind) within = refl
shown-by line Arraylength within = refl
shown-by line (LoadElement k) within = refl
shown-by line (StoreElement k) within = refl
shown-by line (LdcString units) within = refl

pub operation-is : (line : Line) (op : Operation Local) → IsTied line op → operation_in line ≡ op
operation-is line op tied = ap (operation_as line) (sym tied.kept) ∙ shown-by line op tied.within

pub tied-own : (line : Line) (op : Operation Local) → IsTied line op → IsOwnLine line
tied-own line op tied = subst (IsTied line) (sym (operation-is line op tied)) tied

pub own-tie : (lo : Option Line) (io : Option Instruction) → Tie lo io → IfSome lo IsOwnLine
own-tie None io tie = tt
own-tie (Some line) None tie = absurd tie
own-tie (Some line) (Some i) tie = tied-own line tie.op tie.tied

-- a line shows its instruction
pub shown : (lo : Option Line) (io : Option Instruction) → Tie lo io → option_map instruction_in lo ≡ io
shown None None tie = refl
shown None (Some i) tie = absurd tie
shown (Some line) None tie = absurd tie
shown (Some line) (Some i) tie =
    ap (λ (op : Operation Local). Some (record { operation = op; own = line.instr.at; next = next_in line; targets = targets_of line.instr.arg })) (operation-is line tie.op tie.tied)
    ∙ (ap (λ (next : Option ℕ). Some (record { operation = tie.op; own = line.instr.at; next = next; targets = targets_of line.instr.arg })) (sym tie.tied.next)
    ∙ ap Some (sym tie.is))

-- ---- at a place of a version

stands-by : (lo : Option Line) → IfSome lo IsOwnLine → Tie lo (option_map instruction_in lo)
stands-by None h = tt
stands-by (Some line) h = record {
  op = operation_in line;
  is = ap (λ (next : Option ℕ). record { operation = operation_in line; own = line.instr.at; next = next; targets = targets_of line.instr.arg }) (sym h.next);
  tied = h;
}

pub tied-there : (w : Setup) → CanRun w → (version place : ℕ) → Tie (versions.line_at w.versions version place) ((listing_of w.versions).at version place)
tied-there w run version place = stands-by (versions.line_at w.versions version place) (run.lines version place)
