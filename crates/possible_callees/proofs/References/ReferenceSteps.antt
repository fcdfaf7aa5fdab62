-- The instructions of a code one after the other.
use Rattle.std.proofs.Common.{◌≡◌, ℕ, suc, List, [], ◌∷◌, ◌++◌, ap, sym, refl, ◌∙◌}
use Rattle.std.specs.Prelude.{filter_map, Option, Some, None}
use Rattle.std.specs.List.{cons_option}
use Rattle.std.specs.Option.{option_and_then, option_map_or, option_to_list}
use Rattle.std.proofs.lemmas.List.{append-nil}
use Rattle.const_pool.specs.declared.class.ClassFile.{ClassFile}
use Rattle.code_model.specs.declared.instr.Instr.{Instr}
use Rattle.code_model.specs.Instructions.{end_of, instruction_at}
use Rattle.jvm_model.specs.declared.instruction.Local.{Local}
use Rattle.jvm_model.specs.declared.instruction.Operation.{Operation}
use Rattle.jvm_model.specs.Codes.Lines.{operation_of}
use Rattle.jvm_model.specs.Codes.Places.{read_from}
use Rattle.jvm_model.specs.Profiling.Revelation.{symbolic_reference_in}
use Rattle.jvm_model.specs.declared.instruction.SymbolicReference.{SymbolicReference}
use Rattle.possible_callees.specs.CodeReferences.{symbolic_references_from}

one-operation : (o : Option (Operation Local)) (ops : List (Operation Local))
    → filter_map symbolic_reference_in (cons_option o ops) ≡ cons_option (option_and_then symbolic_reference_in o) (filter_map symbolic_reference_in ops)
one-operation None ops = refl
one-operation (Some op) ops = refl

-- the first one, and those behind it
one-read : (c : ClassFile) (code : List ℕ) (at n : ℕ) (i : Instr) → instruction_at code at ≡ Some i
    → symbolic_references_from c (suc n) code at ≡ cons_option (option_and_then symbolic_reference_in (operation_of c i)) (symbolic_references_from c n code (end_of i))
one-read c code at n i e =
    ap (λ o. filter_map symbolic_reference_in (filter_map (operation_of c) (option_map_or (λ (i : Instr). i ∷ read_from n code (end_of i)) o []))) e
    ∙ one-operation (operation_of c i) (filter_map (operation_of c) (read_from n code (end_of i)))

append-one : {A : Type 0} (xs : List A) (x : A) (rest : List A) → (xs ++ x ∷ []) ++ rest ≡ xs ++ x ∷ rest
append-one [] x rest = refl
append-one (y ∷ ys) x rest = ap (λ l. y ∷ l) (append-one ys x rest)

module _ (c : ClassFile) (code : List ℕ) (ns : List SymbolicReference) (whole : List SymbolicReference) (at n left : ℕ) (i : Instr)
    (there : instruction_at code at ≡ Some i) (more : left ≡ suc n) (is : ns ++ symbolic_references_from c left code at ≡ whole) where
  read-on : (o : Option SymbolicReference) → o ≡ option_and_then symbolic_reference_in (operation_of c i)
      → ns ++ cons_option o (symbolic_references_from c n code (end_of i)) ≡ whole
  read-on o e =
      ap (λ o. ns ++ cons_option o (symbolic_references_from c n code (end_of i))) e
      ∙ (ap (λ l. ns ++ l) (sym (one-read c code at n i there)) ∙ (ap (λ k. ns ++ symbolic_references_from c k code at) (sym more) ∙ is))

  -- it can begin a method
  one-pushed : (x : SymbolicReference) → Some x ≡ option_and_then symbolic_reference_in (operation_of c i)
      → (ns ++ x ∷ []) ++ symbolic_references_from c n code (end_of i) ≡ whole
  one-pushed x e = append-one ns x (symbolic_references_from c n code (end_of i)) ∙ read-on (Some x) e

  -- or it can't
  one-passed : None ≡ option_and_then symbolic_reference_in (operation_of c i) → ns ++ symbolic_references_from c n code (end_of i) ≡ whole
  one-passed e = read-on None e

  pub one-more : (o : Option SymbolicReference) → o ≡ option_and_then symbolic_reference_in (operation_of c i)
      → (ns ++ option_to_list o) ++ symbolic_references_from c n code (end_of i) ≡ whole
  one-more None e = ap (λ l. l ++ symbolic_references_from c n code (end_of i)) (append-nil ns) ∙ one-passed e
  one-more (Some x) e = one-pushed x e
