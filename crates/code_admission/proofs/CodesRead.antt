-- Codes that were decoded are instructions.
use Rattle.std.proofs.Common.{◌≡◌, ℕ, zero, suc, List, [], ◌∷◌, Option, Some, None, Result, Ok, Err, sym, ap, ◌∙◌}
use Rattle.std.specs.Prelude.{map, OnOk}
use Rattle.std.specs.Option.{option_map}
use Rattle.std.proofs.lemmas.Option.{same_Some, none-some}
use Rattle.const_pool.specs.declared.class.CodeAttribute.{CodeAttribute}
use Rattle.const_pool.specs.declared.class.Member.{Member}
use Rattle.code_model.specs.declared.instr.Code.{Code}
use Rattle.jvm_model.specs.Basis.Methods.{code_of}
use Rattle.code_admission.specs.Codes.{instructions_of, reading_of, read_as, IsRead, AreRead}

heads : {A : Type 0} (x y : A) (xs ys : List A) → x ∷ xs ≡ y ∷ ys → x ≡ y
heads x y xs ys e = cc

tails : {A : Type 0} (x y : A) (xs ys : List A) → x ∷ xs ≡ y ∷ ys → xs ≡ ys
tails x y xs ys e = cc

-- what was decoded is what was read
read-one : (decoded : Option Code) (bytes : List ℕ) → read_as decoded ≡ Some (instructions_of bytes) → IsRead bytes
read-one None bytes e = absurd cc
read-one (Some code) bytes e = record { instrs = code.instrs; read = sym (same_Some (Ok code.instrs) (instructions_of bytes) e) }

pub AreRead-codes : (codes : List (Option Code)) (methods : List Member) → map read_as codes ≡ map reading_of methods → AreRead methods
AreRead-codes codes [] same k m code at coded = absurd (none-some m at)
AreRead-codes [] (method ∷ methods) same k m code at coded = absurd cc
AreRead-codes (decoded ∷ codes) (method ∷ methods) same zero m code at coded =
    let here : code_of method ≡ Some code = ap code_of (same_Some method m at) ∙ coded in
    read-one decoded code.code (heads (read_as decoded) (reading_of method) (map read_as codes) (map reading_of methods) same ∙ ap (λ (o : Option CodeAttribute). option_map (λ (a : CodeAttribute). instructions_of a.code) o) here)
AreRead-codes (decoded ∷ codes) (method ∷ methods) same (suc k) m code at coded =
    AreRead-codes codes methods (tails (read_as decoded) (reading_of method) (map read_as codes) (map reading_of methods) same) k m code at coded

-- what holds, holds where a call passes
pub OnOk-always : {A E : Type 0} (r : Result A E) (P : Type 0) → P → OnOk r P
OnOk-always (Ok x) P holds = holds
OnOk-always (Err e) P holds = tt
