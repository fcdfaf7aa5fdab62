-- The rows of numbers give what a walk over the program's methods gives.
use Rattle.std.proofs.Common.{◌≡◌, ℕ, zero, suc, ◌+◌, ◌<◌, Bool, true, false, List, [], ◌∷◌, ◌++◌, Option, Some, None, refl, sym, ap, ◌∙◌, cond, zero-add, arith}
use Rattle.std.specs.Prelude.{is_some, slice_get, ◌==◌, ◌&&◌}
use Rattle.std.specs.Option.{option_flatten}
use Rattle.std.proofs.lemmas.Bool.{eq-eqb, ne_eqb}
use Rattle.std.proofs.Math.Nat.{add-zero}
use Rattle.const_pool.specs.declared.class.ClassFile.{ClassFile}
use Rattle.const_pool.specs.declared.class.Member.{Member}
use Rattle.jvm_model.specs.declared.program.MethodPlace.{MethodPlace}
use Rattle.jvm_model.specs.declared.program.Program.{Program}
use Rattle.jvm_model.specs.Basis.Methods.{code_of}
use Rattle.jvm_model.specs.Basis.Programs.{coded_from, number_from, methods_numbered, numbered_from}
use Rattle.member_selection.specs.Numbers.{AreNumbers, Row, coded_count, number_in, row_from, rows_from}

abbrev place : ℕ → ℕ → MethodPlace
place class at = record { class = class; position = at }

abbrev number_at : Row → ℕ → Option ℕ
number_at row at = option_flatten (slice_get row at)

-- ---- where the method is none of those in front

-- of another class
pass-one : (n class at c k : ℕ) (rest : List MethodPlace) → (class ≡ c → ⊥) → number_from n class at (place c k ∷ rest) ≡ number_from (n + 1) class at rest
pass-one n class at c k rest other =
    ap (λ b. cond (b && (k == at)) (let o : Option ℕ = Some n in o) (number_from (n + 1) class at rest)) (ne_eqb c class (λ e. other (sym e)))

pass-class : (n class at c k : ℕ) (ms : List Member) (rest : List MethodPlace) → (class ≡ c → ⊥)
    → number_from n class at (coded_from c k ms ++ rest) ≡ number_from (n + coded_count ms) class at rest
pass-class n class at c k [] rest other = ap (λ m. number_from m class at rest) (sym (add-zero n))
pass-class n class at c k (m ∷ ms) rest other = by (is_some (code_of m)) (λ x. pass-class x class at c (k + 1) ms rest other) where
  by : (b : Bool) → ((x : ℕ) → number_from x class at (coded_from c (k + 1) ms ++ rest) ≡ number_from (x + coded_count ms) class at rest)
      → number_from n class at (cond b (place c k ∷ coded_from c (k + 1) ms) (coded_from c (k + 1) ms) ++ rest) ≡ number_from (n + cond b (1 + coded_count ms) (coded_count ms)) class at rest
  by true behind =
      pass-one n class at c k (coded_from c (k + 1) ms ++ rest) other
      ∙ (behind (n + 1)
      ∙ (let e : n + 1 + coded_count ms ≡ n + (1 + coded_count ms) = omega arith in ap (λ x. number_from x class at rest) e))
  by false behind = behind n

-- of a class in front of all of these
none-behind : (n class at c : ℕ) (cs : List ClassFile) → class < c → number_from n class at (numbered_from c cs) ≡ None
none-behind n class at c [] before = refl
none-behind n class at c (x ∷ cs) before =
    pass-class n class at c 0 x.methods (numbered_from (c + 1) cs) (λ e. absurd (omega (arith, e)))
    ∙ none-behind (n + coded_count x.methods) class at (c + 1) cs (omega arith)

-- at a position in front of all of these
none-before : (n c at k : ℕ) (ms : List Member) (cs : List ClassFile) → at < k → number_from n c at (coded_from c k ms ++ numbered_from (c + 1) cs) ≡ None
none-before n c at k [] cs before = none-behind n c at (c + 1) cs (omega arith)
none-before n c at k (m ∷ ms) cs before = by (is_some (code_of m)) (λ x. none-before x c at (k + 1) ms cs (omega arith)) where
  by : (b : Bool) → ((x : ℕ) → number_from x c at (coded_from c (k + 1) ms ++ numbered_from (c + 1) cs) ≡ None)
      → number_from n c at (cond b (place c k ∷ coded_from c (k + 1) ms) (coded_from c (k + 1) ms) ++ numbered_from (c + 1) cs) ≡ None
  by true behind =
      ap (λ b. cond (b && (k == at)) (let o : Option ℕ = Some n in o) (number_from (n + 1) c at (coded_from c (k + 1) ms ++ numbered_from (c + 1) cs))) (eq-eqb c c refl)
      ∙ (ap (λ b. cond b (let o : Option ℕ = Some n in o) (number_from (n + 1) c at (coded_from c (k + 1) ms ++ numbered_from (c + 1) cs))) (ne_eqb k at (λ e. absurd (omega (arith, e))))
      ∙ behind (n + 1))
  by false behind = behind n

-- ---- within its class

within-class : (n c k i : ℕ) (ms : List Member) (cs : List ClassFile)
    → number_from n c (k + i) (coded_from c k ms ++ numbered_from (c + 1) cs) ≡ number_at (row_from n ms) i
within-class n c k i [] cs = none-behind n c (k + i) (c + 1) cs (omega arith)
within-class n c k zero (m ∷ ms) cs = by (is_some (code_of m)) where
  by : (b : Bool) → number_from n c (k + 0) (cond b (place c k ∷ coded_from c (k + 1) ms) (coded_from c (k + 1) ms) ++ numbered_from (c + 1) cs)
      ≡ number_at (cond b (Some n ∷ row_from (n + 1) ms) (None ∷ row_from n ms)) 0
  by true =
      ap (λ b. cond (b && (k == k + 0)) (let o : Option ℕ = Some n in o) (number_from (n + 1) c (k + 0) (coded_from c (k + 1) ms ++ numbered_from (c + 1) cs))) (eq-eqb c c refl)
      ∙ ap (λ b. cond b (let o : Option ℕ = Some n in o) (number_from (n + 1) c (k + 0) (coded_from c (k + 1) ms ++ numbered_from (c + 1) cs))) (eq-eqb k (k + 0) (sym (add-zero k)))
  by false = none-before n c (k + 0) (k + 1) ms cs (omega arith)
within-class n c k (suc i) (m ∷ ms) cs = by (is_some (code_of m)) (λ x. within-class x c (k + 1) i ms cs) where
  later : k + suc i ≡ k + 1 + i
  later = omega arith

  by : (b : Bool) → ((x : ℕ) → number_from x c (k + 1 + i) (coded_from c (k + 1) ms ++ numbered_from (c + 1) cs) ≡ number_at (row_from x ms) i)
      → number_from n c (k + suc i) (cond b (place c k ∷ coded_from c (k + 1) ms) (coded_from c (k + 1) ms) ++ numbered_from (c + 1) cs)
      ≡ number_at (cond b (Some n ∷ row_from (n + 1) ms) (None ∷ row_from n ms)) (suc i)
  by true behind =
      ap (λ b. cond (b && (k == k + suc i)) (let o : Option ℕ = Some n in o) (number_from (n + 1) c (k + suc i) (coded_from c (k + 1) ms ++ numbered_from (c + 1) cs))) (eq-eqb c c refl)
      ∙ (ap (λ b. cond b (let o : Option ℕ = Some n in o) (number_from (n + 1) c (k + suc i) (coded_from c (k + 1) ms ++ numbered_from (c + 1) cs))) (ne_eqb k (k + suc i) (λ e. absurd (omega (arith, e))))
      ∙ (ap (λ at. number_from (n + 1) c at (coded_from c (k + 1) ms ++ numbered_from (c + 1) cs)) later
      ∙ behind (n + 1)))
  by false behind = ap (λ at. number_from n c at (coded_from c (k + 1) ms ++ numbered_from (c + 1) cs)) later ∙ behind n

-- ---- over all classes

over-classes : (n c i at : ℕ) (cs : List ClassFile) → number_from n (c + i) at (numbered_from c cs) ≡ number_in (rows_from n cs) i at
over-classes n c i at [] = refl
over-classes n c zero at (x ∷ cs) =
    ap (λ class. number_from n class at (coded_from c 0 x.methods ++ numbered_from (c + 1) cs)) (add-zero c)
    ∙ (ap (λ k. number_from n c k (coded_from c 0 x.methods ++ numbered_from (c + 1) cs)) (sym (zero-add at))
    ∙ within-class n c 0 at x.methods cs)
over-classes n c (suc i) at (x ∷ cs) =
    let later : c + suc i ≡ c + 1 + i = omega arith in
    pass-class n (c + suc i) at c 0 x.methods (numbered_from (c + 1) cs) (λ e. absurd (omega (arith, e)))
    ∙ (ap (λ class. number_from (n + coded_count x.methods) class at (numbered_from (c + 1) cs)) later
    ∙ over-classes (n + coded_count x.methods) (c + 1) i at cs)

pub rows-number : (p : Program) → p.methods ≡ methods_numbered p.classes → AreNumbers p (rows_from 0 p.classes)
rows-number p methods class at =
    sym
    (ap (number_from 0 class at) methods
    ∙ (ap (λ c. number_from 0 c at (methods_numbered p.classes)) (sym (zero-add class))
    ∙ over-classes 0 0 class at p.classes))
