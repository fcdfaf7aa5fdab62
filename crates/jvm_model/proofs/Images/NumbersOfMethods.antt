-- The number of a method in its program: that of the first method with Code of its class, and then those of the class
-- in front of it.
use Rattle.std.proofs.Common.{◌≡◌, ℕ, zero, suc, ◌+◌, ◌<◌, ◌≤◌, Bool, true, false, cond, List, [], ◌∷◌, ◌++◌, length, slice_get, Option, Some, refl, sym, ap, subst, ◌∙◌, zero-add, arith}
use Rattle.std.specs.Prelude.{count_by, nat_lt, is_some}
use Rattle.std.proofs.lemmas.Bool.{lt-ltb, le-ltb}
use Rattle.std.proofs.lemmas.List.Sums.{sum_by-cons, sum_by-append}
use Rattle.std.proofs.lemmas.Option.{same_Some, none-some}
use Rattle.jf_bytes.proofs.Lists.{slice_get-after}
use Rattle.jf_bytes.proofs.Options.{and_then_parts}
use Rattle.const_pool.specs.declared.class.ClassFile.{ClassFile}
use Rattle.const_pool.specs.declared.class.CodeAttribute.{CodeAttribute}
use Rattle.const_pool.specs.declared.class.Member.{Member}
use Rattle.jvm_model.specs.declared.program.MethodPlace.{MethodPlace}
use Rattle.jvm_model.specs.declared.program.Program.{Program}
use Rattle.jvm_model.specs.Rewriting.Images.{next_number, number_behind}
use Rattle.jvm_model.specs.Basis.Methods.{code_of, method_code}
use Rattle.jvm_model.specs.Basis.Programs.{class_at, coded_from, numbered_from, methods_numbered, place_of_method}
use Rattle.jvm_model.specs.Profiling.Swaps.{first_number}

-- ---- lists

abbrev place_at : ℕ → ℕ → MethodPlace
place_at class at = record { class = class; position = at }

abbrev count_below : ℕ → List MethodPlace → ℕ
count_below class places = count_by (λ (place : MethodPlace). nat_lt place.class class) places

-- ---- within a class

next-number : (first : ℕ) (m : Member) (b : Bool) → is_some (code_of m) ≡ b → next_number first m ≡ cond b (first + 1) first
next-number first m b e = ap (λ (x : Bool). cond x (first + 1) first) e

-- numbers go up with the first
behind-more : (a b : ℕ) (ms : List Member) (j : ℕ) → number_behind (a + b) ms j ≡ a + number_behind b ms j
behind-more a b ms zero = refl
behind-more a b [] (suc j) = refl
behind-more a b (m ∷ ms) (suc j) = by_code (is_some (code_of m)) refl (behind-more a (b + 1) ms j) (behind-more a b ms j)
  where
    by_code : (x : Bool) → is_some (code_of m) ≡ x → number_behind (a + (b + 1)) ms j ≡ a + number_behind (b + 1) ms j → number_behind (a + b) ms j ≡ a + number_behind b ms j
        → number_behind (next_number (a + b) m) ms j ≡ a + number_behind (next_number b m) ms j
    by_code true e next same =
        ap (λ n. number_behind n ms j) (next-number (a + b) m true e ∙ (let n : a + b + 1 ≡ a + (b + 1) = omega arith in n))
        ∙ (next ∙ ap (λ n. a + number_behind n ms j) (sym (next-number b m true e)))
    by_code false e next same =
        ap (λ n. number_behind n ms j) (next-number (a + b) m false e)
        ∙ (same ∙ ap (λ n. a + number_behind n ms j) (sym (next-number b m false e)))

coded-split : (class at : ℕ) (m : Member) (ms : List Member) (b : Bool) → is_some (code_of m) ≡ b → coded_from class at (m ∷ ms) ≡ cond b (place_at class at ∷ coded_from class (at + 1) ms) (coded_from class (at + 1) ms)
coded-split class at m ms b e = ap (λ (x : Bool). cond x (place_at class at ∷ coded_from class (at + 1) ms) (coded_from class (at + 1) ms)) e

-- the method with Code at a position has the number of those in front of it
coded-at : (class at : ℕ) (ms : List Member) (more : List MethodPlace) (j : ℕ) (m : Member) (code : CodeAttribute) → slice_get ms j ≡ Some m → code_of m ≡ Some code
    → slice_get (coded_from class at ms ++ more) (number_behind 0 ms j) ≡ Some (place_at class (at + j))
coded-at class at [] more j m code e coded = absurd (none-some m e)
coded-at class at (x ∷ ms) more zero m code e coded =
    let has : is_some (code_of x) ≡ true = ap (λ (y : Member). is_some (code_of y)) (same_Some x m e) ∙ ap is_some coded in
    ap (λ (ps : List MethodPlace). slice_get (ps ++ more) 0) (coded-split class at x ms true has)
    ∙ ap (λ n. let o : Option MethodPlace = Some (place_at class n) in o) (let n : at ≡ at + 0 = omega arith in n)
coded-at class at (x ∷ ms) more (suc j) m code e coded =
    by_code (is_some (code_of x)) refl
    (coded-at class (at + 1) ms more j m code e coded ∙ ap (λ n. let o : Option MethodPlace = Some (place_at class n) in o) (let n : at + 1 + j ≡ at + suc j = omega arith in n))
  where
    by_code : (b : Bool) → is_some (code_of x) ≡ b → slice_get (coded_from class (at + 1) ms ++ more) (number_behind 0 ms j) ≡ Some (place_at class (at + suc j))
        → slice_get (coded_from class at (x ∷ ms) ++ more) (number_behind (next_number 0 x) ms j) ≡ Some (place_at class (at + suc j))
    by_code true has rest =
        ap (λ (ps : List MethodPlace). slice_get (ps ++ more) (number_behind (next_number 0 x) ms j)) (coded-split class at x ms true has)
        ∙ (ap (λ n. slice_get (place_at class at ∷ (coded_from class (at + 1) ms ++ more)) (number_behind n ms j)) (next-number 0 x true has)
        ∙ (ap (slice_get (place_at class at ∷ (coded_from class (at + 1) ms ++ more))) (behind-more 1 0 ms j ∙ (let n : 1 + number_behind 0 ms j ≡ suc (number_behind 0 ms j) = omega arith in n))
        ∙ rest))
    by_code false has rest =
        ap (λ (ps : List MethodPlace). slice_get (ps ++ more) (number_behind (next_number 0 x) ms j)) (coded-split class at x ms false has)
        ∙ (ap (λ n. slice_get (coded_from class (at + 1) ms ++ more) (number_behind n ms j)) (next-number 0 x false has) ∙ rest)

-- ---- over classes

-- how many are in classes below
below-cons : (k class at : ℕ) (ps : List MethodPlace) (b : Bool) → nat_lt class k ≡ b → count_below k (place_at class at ∷ ps) ≡ cond b 1 0 + count_below k ps
below-cons k class at ps b e =
    sum_by-cons (λ (place : MethodPlace). cond (nat_lt place.class k) 1 0) (place_at class at) ps ∙ ap (λ (x : Bool). cond x 1 0 + count_below k ps) e

coded-below : (k class at : ℕ) (ms : List Member) → class < k → count_below k (coded_from class at ms) ≡ length (coded_from class at ms)
coded-below k class at [] less = refl
coded-below k class at (m ∷ ms) less = by_code (is_some (code_of m)) refl (coded-below k class (at + 1) ms less)
  where
    by_code : (b : Bool) → is_some (code_of m) ≡ b → count_below k (coded_from class (at + 1) ms) ≡ length (coded_from class (at + 1) ms) → count_below k (coded_from class at (m ∷ ms)) ≡ length (coded_from class at (m ∷ ms))
    by_code true has rest =
        ap (count_below k) (coded-split class at m ms true has)
        ∙ (below-cons k class at (coded_from class (at + 1) ms) true (lt-ltb class k less)
        ∙ (ap (λ n. 1 + n) rest
        ∙ ((let n : 1 + length (coded_from class (at + 1) ms) ≡ suc (length (coded_from class (at + 1) ms)) = omega arith in n) ∙ sym (ap length (coded-split class at m ms true has)))))
    by_code false has rest =
        ap (count_below k) (coded-split class at m ms false has) ∙ (rest ∙ sym (ap length (coded-split class at m ms false has)))

coded-above : (k class at : ℕ) (ms : List Member) → k ≤ class → count_below k (coded_from class at ms) ≡ 0
coded-above k class at [] le = refl
coded-above k class at (m ∷ ms) le = by_code (is_some (code_of m)) refl (coded-above k class (at + 1) ms le)
  where
    by_code : (b : Bool) → is_some (code_of m) ≡ b → count_below k (coded_from class (at + 1) ms) ≡ 0 → count_below k (coded_from class at (m ∷ ms)) ≡ 0
    by_code true has rest =
        ap (count_below k) (coded-split class at m ms true has)
        ∙ (below-cons k class at (coded_from class (at + 1) ms) false (le-ltb class k le) ∙ (zero-add (count_below k (coded_from class (at + 1) ms)) ∙ rest))
    by_code false has rest = ap (count_below k) (coded-split class at m ms false has) ∙ rest

below-append : (k : ℕ) (xs ys : List MethodPlace) → count_below k (xs ++ ys) ≡ count_below k xs + count_below k ys
below-append k xs ys = sum_by-append (λ (place : MethodPlace). cond (nat_lt place.class k) 1 0) xs ys

none-below : (k n : ℕ) (cs : List ClassFile) → k ≤ n → count_below k (numbered_from n cs) ≡ 0
none-below k n [] le = refl
none-below k n (c ∷ cs) le =
    below-append k (coded_from n 0 c.methods) (numbered_from (n + 1) cs)
    ∙ (ap (λ x. x + count_below k (numbered_from (n + 1) cs)) (coded-above k n 0 c.methods le)
    ∙ (zero-add (count_below k (numbered_from (n + 1) cs)) ∙ none-below k (n + 1) cs (omega arith)))

nth-numbered : (n : ℕ) (cs : List ClassFile) (k : ℕ) (c : ClassFile) (j : ℕ) (m : Member) (code : CodeAttribute)
    → slice_get cs k ≡ Some c → slice_get c.methods j ≡ Some m → code_of m ≡ Some code
    → slice_get (numbered_from n cs) (count_below (n + k) (numbered_from n cs) + number_behind 0 c.methods j) ≡ Some (place_at (n + k) j)
nth-numbered n [] k c j m code at e coded = absurd (none-some c at)
nth-numbered n (x ∷ cs) zero c j m code at e coded =
    let none : count_below (n + 0) (numbered_from n (x ∷ cs)) ≡ 0 = none-below (n + 0) n (x ∷ cs) (omega arith) in
    let same : x ≡ c = same_Some x c at in
    let zero_more : 0 + number_behind 0 c.methods j ≡ number_behind 0 c.methods j = omega arith in
    let zero_place : 0 + j ≡ j = omega arith in
    let zero_class : n ≡ n + 0 = omega arith in
    ap (λ i. slice_get (numbered_from n (x ∷ cs)) (i + number_behind 0 c.methods j)) none
    ∙ (ap (slice_get (numbered_from n (x ∷ cs))) zero_more
    ∙ (ap (λ (y : ClassFile). slice_get (coded_from n 0 y.methods ++ numbered_from (n + 1) cs) (number_behind 0 c.methods j)) same
    ∙ (coded-at n 0 c.methods (numbered_from (n + 1) cs) j m code e coded
    ∙ (ap (λ i. let o : Option MethodPlace = Some (place_at n i) in o) zero_place ∙ ap (λ i. let o : Option MethodPlace = Some (place_at i j) in o) zero_class))))
nth-numbered n (x ∷ cs) (suc k) c j m code at e coded =
    let front : List MethodPlace = coded_from n 0 x.methods in
    let behind : List MethodPlace = numbered_from (n + 1) cs in
    let class : n + 1 + k ≡ n + suc k = omega arith in
    let below : count_below (n + suc k) (front ++ behind) ≡ length front + count_below (n + 1 + k) behind =
    below-append (n + suc k) front behind ∙ (ap (λ i. i + count_below (n + suc k) behind) (coded-below (n + suc k) n 0 x.methods (omega arith)) ∙ ap (λ i. length front + count_below i behind) (sym class)) in
    let sums : length front + count_below (n + 1 + k) behind + number_behind 0 c.methods j ≡ length front + (count_below (n + 1 + k) behind + number_behind 0 c.methods j) = omega arith in
    ap (λ i. slice_get (front ++ behind) (i + number_behind 0 c.methods j)) below
    ∙ (ap (slice_get (front ++ behind)) sums
    ∙ (slice_get-after front behind (count_below (n + 1 + k) behind + number_behind 0 c.methods j)
    ∙ (nth-numbered (n + 1) cs k c j m code at e coded ∙ ap (λ i. let o : Option MethodPlace = Some (place_at i j) in o) class)))

-- the method with Code at a position of a class stands in its program at the number that its version has
pub place-behind : (p : Program) (k : ℕ) (c : ClassFile) (j : ℕ) (code : CodeAttribute) → p.methods ≡ methods_numbered p.classes → class_at p k ≡ Some c → method_code c j ≡ Some code
    → place_of_method p (number_behind (first_number p k) c.methods j) ≡ Some (record { class = k; position = j })
place-behind p k c j code methods at coded =
    let found = and_then_parts code_of (slice_get c.methods j) code coded in
    let zero_more : 0 + k ≡ k = omega arith in
    let there = nth-numbered 0 p.classes k c j found.0 code at found.1 found.2 in
    let here : slice_get (methods_numbered p.classes) (count_below k (methods_numbered p.classes) + number_behind 0 c.methods j) ≡ Some (place_at k j) =
    subst (λ i. slice_get (methods_numbered p.classes) (count_below i (methods_numbered p.classes) + number_behind 0 c.methods j) ≡ Some (place_at i j)) zero_more there in
    let first : first_number p k ≡ count_below k (methods_numbered p.classes) = ap (count_below k) methods in
    let sums : first_number p k ≡ first_number p k + 0 = omega arith in
    ap (λ i. place_of_method p (number_behind i c.methods j)) sums
    ∙ (ap (place_of_method p) (behind-more (first_number p k) 0 c.methods j)
    ∙ (ap (λ i. place_of_method p (i + number_behind 0 c.methods j)) first
    ∙ (ap (λ (ms : List MethodPlace). slice_get ms (count_below k (methods_numbered p.classes) + number_behind 0 c.methods j)) methods ∙ here)))
