-- Loading the built-in classes one after the other, and what is asked of a program for it.
use Rattle.std.proofs.Common.{◌≡◌, ◌<◌, ◌+◌, ℕ, Bool, true, false, cond, List, [], ◌∷◌, drop, length, refl, sym, ap, subst, ◌∙◌, arith}
use Rattle.std.specs.Prelude.{◌^◌, is_some, slice_get}
use Rattle.std.specs.Option.{option_map_or}
use Rattle.std.proofs.lemmas.List.{drop_more, length-append}
use Rattle.std.proofs.lemmas.Option.{slice_get-get_or}
use Rattle.const_pool.specs.declared.class.ClassFile.{ClassFile}
use Rattle.const_pool.specs.declared.class.Member.{Member}
use Rattle.jvm_model.specs.declared.program.Program.{Program}
use Rattle.jvm_model.specs.Basis.Methods.{code_of}
use Rattle.jvm_model.specs.Basis.Programs.{coded_from, no_class, methods_numbered, numbered_from}
use Rattle.member_selection.specs.Numbers.{all_coded, coded_count}
use Rattle.prepared_code.specs.Prepared.{built_in_then, load_built_in, with_built_in}

-- ---- one more of them

pub load-more : (p : Program) (cs : List ClassFile) (k : ℕ) (loaded : List ℕ) → k < length cs
    → load_built_in p (drop (k + 1) cs) (option_map_or (λ c. with_built_in p c loaded) (slice_get cs k) loaded) ≡ load_built_in p (drop k cs) loaded
load-more p cs k loaded lt =
    ap (λ o. load_built_in p (drop (k + 1) cs) (option_map_or (λ c. with_built_in p c loaded) o loaded)) (slice_get-get_or cs k no_class lt)
    ∙ ap (λ ds. load_built_in p ds loaded) (sym (drop_more cs k no_class lt))

-- ---- as many methods are numbered as have Code

coded-length : (class at : ℕ) (ms : List Member) → length (coded_from class at ms) ≡ coded_count ms
coded-length class at [] = refl
coded-length class at (m ∷ ms) = by (is_some (code_of m)) (coded-length class (at + 1) ms) where
  by : (b : Bool) → length (coded_from class (at + 1) ms) ≡ coded_count ms
      → length (cond b (record { class = class; position = at } ∷ coded_from class (at + 1) ms) (coded_from class (at + 1) ms)) ≡ cond b (1 + coded_count ms) (coded_count ms)
  by true rest = omega (arith, rest)
  by false rest = rest

all-length : (class : ℕ) (cs : List ClassFile) → length (numbered_from class cs) ≡ all_coded cs
all-length class [] = refl
all-length class (c ∷ cs) =
    length-append (coded_from class 0 c.methods) (numbered_from (class + 1) cs)
    ∙ (ap (λ n. n + length (numbered_from (class + 1) cs)) (coded-length class 0 c.methods)
    ∙ ap (λ n. coded_count c.methods + n) (all-length (class + 1) cs))

pub few-coded : (p : Program) → p.methods ≡ methods_numbered p.classes → length p.methods < 2 ^ 32 → all_coded p.classes < 2 ^ 32
few-coded p is few = subst (λ n. n < 2 ^ 32) (ap length is ∙ all-length 0 p.classes) few

-- ---- the steps of the loop

pub loads-more : (p q : Program) (k : ℕ) (before after whole : List ℕ) → q ≡ p → k < length p.classes → after ≡ built_in_then q k before
    → load_built_in p (drop k p.classes) before ≡ whole → load_built_in p (drop (k + 1) p.classes) after ≡ whole
loads-more p q k before after whole same within is left =
    ap (λ l. load_built_in p (drop (k + 1) p.classes) l) (is ∙ ap (λ r. built_in_then r k before) same)
    ∙ (load-more p p.classes k before within ∙ left)
