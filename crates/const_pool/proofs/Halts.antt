-- Reading unit by unit: what an answer says of the text, where the stages are right.
use Rattle.std.proofs.Common.{◌≡◌, ℕ, ◌+◌, ◌<◌, ◌^◌, List, [], ◌∷◌, ◌++◌, length, take, Option, Some, None, Result, Ok, Err, refl, sym, ap, subst, ◌∙◌, append_assoc, arith}
use Rattle.std.specs.Option.{option_and_then, ok_or}
use Rattle.std.specs.List.{AllByRecursion}
use Rattle.std.proofs.lemmas.List.{length-append, take_at, append-nil}
use Rattle.jf_bytes.proofs.Options.{and_then_parts}
use Rattle.const_pool.specs.declared.descriptor.DescriptorError.TheVariants.{BadDescriptor, NoMemory}
use Rattle.const_pool.specs.Stages.{fault_told}
use Rattle.const_pool.specs.Fronts.{IsFront, IsStuckAt, after_step, answer_from}

abbrev pub some : {A : Type 0} → A → Option A
some x = Some x

pub some_is : {A : Type 0} (x y : A) → some x ≡ some y → x ≡ y
some_is x y e = cc

and_then_from : {X Y : Type 0} (f : X → Option Y) (o : Option X) (x : X) (r : Option Y) → o ≡ Some x → f x ≡ r → option_and_then f o ≡ r
and_then_from f o x r is e = rw is e

and_then_none : {X Y : Type 0} (f : X → Option Y) (o : Option X) → o ≡ None → option_and_then f o ≡ None
and_then_none f o is = rw is refl

pub both_ways : {X : Type 0} (o : Option X) (x : X) → o ≡ Some x → o ≡ None → ⊥
both_ways o x is none = cc

take_one_more : (front : List ℕ) (unit : ℕ) (rest : List ℕ) → take (length front + 1) (front ++ unit ∷ rest) ≡ front ++ unit ∷ []
take_one_more front unit rest =
    let one : length (front ++ unit ∷ []) ≡ length front + 1 = length-append front (unit ∷ []) in
    ap (take (length front + 1)) (sym (append_assoc front (unit ∷ []) rest)) ∙ take_at (front ++ unit ∷ []) rest (length front + 1) one

ok_or_ok : {X : Type 0} (o : Option X) (at : ℕ) (x : X) → ok_or o at ≡ Ok x → o ≡ Some x
ok_or_ok (Some y) at x e = cc
ok_or_ok None at x e = absurd cc

ok_or_err : {X : Type 0} (o : Option X) (at place : ℕ) → ok_or o at ≡ Err place → (o ≡ None) × (at ≡ place)
ok_or_err (Some y) at place e = absurd cc
ok_or_err None at place e = (refl, cc)

after_ok : {X Y : Type 0} (at : ℕ) (o : Option X) (f : X → Result Y ℕ) (y : Y) → after_step at o f ≡ Ok y → (x : X) × (o ≡ Some x) × (f x ≡ Ok y)
after_ok at (Some x) f y e = (x, refl, e)
after_ok at None f y e = absurd cc

after_err : {X Y P : Type 0} (at : ℕ) (o : Option X) (f : X → Result Y ℕ) (place : ℕ) → after_step at o f ≡ Err place → (o ≡ None → at ≡ place → P) → ((x : X) → o ≡ Some x → f x ≡ Err place → P) → P
after_err at (Some x) f place e on_none on_some = on_some x refl e
after_err at None f place e on_none on_some = on_none refl cc

module _ {S A : Type 0} (step : S → ℕ → Option S) (ending : S → Option A) where
  -- the stage behind the units
  abbrev pub behind : S → List ℕ → Option S
  behind stage [] = Some stage
  behind stage (unit ∷ units) = option_and_then (λ next. behind next units) (step stage unit)

  pub behind-append : (stage : S) (front rest : List ℕ) (t : S) → behind stage front ≡ Some t → behind stage (front ++ rest) ≡ behind t rest
  behind-append stage [] rest t e = ap (λ (s : S). behind s rest) (some_is stage t e)
  behind-append stage (unit ∷ front) rest t e =
      let next = and_then_parts (λ s. behind s front) (step stage unit) t e in
      rw next.1 (behind-append next.0 front rest t next.2)

  -- what holds of a stage and the text before it, and is kept by each step
  pub behind_keeps : (Of : S → List ℕ → Type 0) → ((stage next : S) (text : List ℕ) (unit : ℕ) → Of stage text → step stage unit ≡ Some next → Of next (text ++ unit ∷ []))
      → (stage last : S) (text units : List ℕ) → Of stage text → behind stage units ≡ Some last → Of last (text ++ units)
  behind_keeps Of keeps stage last text [] h e = subst (λ (t : List ℕ). Of last t) (sym (append-nil text)) (subst (λ (s : S). Of s text) (some_is stage last e) h)
  behind_keeps Of keeps stage last text (unit ∷ units) h e =
      let next = and_then_parts (λ s. behind s units) (step stage unit) last e in
      subst (Of last) (append_assoc text (unit ∷ []) units) (behind_keeps Of keeps next.0 last (text ++ unit ∷ []) units (keeps stage next.0 text unit h next.1) next.2)

  behind-answer : (stage : S) (at : ℕ) (units : List ℕ) (t : S) (answer : A) → behind stage units ≡ Some t → ending t ≡ Some answer → answer_from step ending stage at units ≡ Ok answer
  behind-answer stage at [] t answer e ends = rw (some_is stage t e, ends) refl
  behind-answer stage at (unit ∷ units) t answer e ends =
      let next = and_then_parts (λ s. behind s units) (step stage unit) t e in
      rw next.1 (behind-answer next.0 (at + 1) units t answer next.2 ends)

  -- the stage that an answer comes from
  pub record EndsWith (stage : S) (units : List ℕ) (answer : A) : Type 0 where
    pub last : S
    pub reached : behind stage units ≡ Some last
    pub ended : ending last ≡ Some answer

  answer-behind : (stage : S) (at : ℕ) (units : List ℕ) (answer : A) → answer_from step ending stage at units ≡ Ok answer → EndsWith stage units answer
  answer-behind stage at [] answer e = record { last = stage; reached = refl; ended = ok_or_ok (ending stage) at answer e }
  answer-behind stage at (unit ∷ units) answer e =
      let next = after_ok at (step stage unit) (λ s. answer_from step ending s (at + 1) units) answer e in
      let rest = answer-behind next.0 (at + 1) units answer next.2 in
      record { last = rest.last; reached = and_then_from (λ s. behind s units) (step stage unit) next.0 (Some rest.last) next.1 rest.reached; ended = rest.ended }

  -- no unit goes on from the stage, or it is not the end that the text makes it
  abbrev pub Stops : S → List ℕ → Type 0
  Stops stage [] = ending stage ≡ None
  Stops stage (unit ∷ units) = step stage unit ≡ None

  pub record Halts (stage : S) (at : ℕ) (units : List ℕ) (place : ℕ) : Type 0 where
    pub front : List ℕ
    pub rest : List ℕ
    pub last : S
    pub parts : units ≡ front ++ rest
    pub there : place ≡ at + length front
    pub reached : behind stage front ≡ Some last
    pub stopped : Stops last rest

  answer-halts : (stage : S) (at : ℕ) (units : List ℕ) (place : ℕ) → answer_from step ending stage at units ≡ Err place → Halts stage at units place
  answer-halts stage at [] place e =
      let h = ok_or_err (ending stage) at place e in
      record { front = []; rest = []; last = stage; parts = refl; there = omega (arith, h.1); reached = refl; stopped = h.0 }
  answer-halts stage at (unit ∷ units) place e = after_err at (step stage unit) (λ s. answer_from step ending s (at + 1) units) place e
      (λ none same. record { front = []; rest = unit ∷ units; last = stage; parts = refl; there = omega (arith, same); reached = refl; stopped = none })
      (λ next is rest.
      let h = answer-halts next (at + 1) units place rest in
      record {
        front = unit ∷ h.front;
        rest = h.rest;
        last = h.last;
        parts = ap (λ (t : List ℕ). unit ∷ t) h.parts;
        there = omega (arith, h.there);
        reached = and_then_from (λ s. behind s h.front) (step stage unit) next (Some h.last) is h.reached;
        stopped = h.stopped;
      })

  -- what some units end from any stage
  pub record CanEnd (stage : S) : Type 0 where
    pub more : List ℕ
    pub fit : AllByRecursion (λ unit. unit < 2 ^ 16) more
    pub answer : A
    pub ends : EndsWith stage more answer

  module _ (start : S) (Spelled : List ℕ → A → Type 0)
      (sound : (units : List ℕ) (answer : A) → EndsWith start units answer → Spelled units answer)
      (complete : (units : List ℕ) (answer : A) → Spelled units answer → EndsWith start units answer)
      (can_end : (stage : S) → CanEnd stage) where
    pub answer_found : (units : List ℕ) (answer : A) → answer_from step ending start 0 units ≡ Ok answer → Spelled units answer
    answer_found units answer e = sound units answer (answer-behind start 0 units answer e)

    pub answer_only : (units : List ℕ) (answer : A) → Spelled units answer → answer_from step ending start 0 units ≡ Ok answer
    answer_only units answer spelled =
        let h = complete units answer spelled in
        behind-answer start 0 units h.last answer h.reached h.ended

    abbrev pub IsSpelled : List ℕ → Type 0
    IsSpelled units = (answer : A) × Spelled units answer

    is_front : (front : List ℕ) (last : S) → behind start front ≡ Some last → IsFront IsSpelled front
    is_front front last reached =
        let c = can_end last in
        (c.more, c.fit, (c.answer, sound (front ++ c.more) c.answer (record { last = c.ends.last; reached = behind-append start front c.more last reached ∙ c.ends.reached; ended = c.ends.ended })))

    no_further : (front : List ℕ) (last : S) (unit : ℕ) → behind start front ≡ Some last → step last unit ≡ None → IsFront IsSpelled (front ++ unit ∷ []) → ⊥
    no_further front last unit reached stopped whole =
        let h = complete ((front ++ unit ∷ []) ++ whole.0) whole.2.0 whole.2.1 in
        let regrouped : (front ++ unit ∷ []) ++ whole.0 ≡ front ++ unit ∷ whole.0 = append_assoc front (unit ∷ []) whole.0 in
        let none : behind start (front ++ unit ∷ whole.0) ≡ None = behind-append start front (unit ∷ whole.0) last reached ∙ and_then_none (λ s. behind s whole.0) (step last unit) stopped in
        both_ways (behind start ((front ++ unit ∷ []) ++ whole.0)) h.last h.reached (ap (behind start) regrouped ∙ none)

    not_ended : (units : List ℕ) (last : S) (answer : A) → behind start units ≡ Some last → ending last ≡ None → Spelled units answer → ⊥
    not_ended units last answer reached stopped spelled =
        let h = complete units answer spelled in
        let same : last ≡ h.last = some_is last h.last (sym reached ∙ h.reached) in
        both_ways (ending h.last) answer h.ended (ap ending (sym same) ∙ stopped)

    stuck_at : (front rest : List ℕ) (last : S) → behind start front ≡ Some last → Stops last rest → IsStuckAt IsSpelled (front ++ rest) (length front)
    stuck_at front [] last reached stopped = record {
      within = omega (arith, length-append front ([]));
      front = rw (take_at front [] (length front) refl) (is_front front last reached);
      further = λ less whole. omega (arith, length-append front ([]), less);
      unfinished = λ same whole. not_ended front last whole.0 reached stopped (subst (λ (t : List ℕ). Spelled t whole.0) (append-nil front) whole.1);
    }
    stuck_at front (unit ∷ rest) last reached stopped = record {
      within = omega (arith, length-append front (unit ∷ rest));
      front = rw (take_at front (unit ∷ rest) (length front) refl) (is_front front last reached);
      further = λ less whole. no_further front last unit reached stopped (subst (IsFront IsSpelled) (take_one_more front unit rest) whole);
      unfinished = λ same whole. omega (arith, length-append front (unit ∷ rest), same);
    }

    pub answer_stuck : (units : List ℕ) (place : ℕ) → answer_from step ending start 0 units ≡ Err place → IsStuckAt IsSpelled units place
    answer_stuck units place e =
        let h = answer-halts start 0 units place e in
        let there : length h.front ≡ place = omega (arith, h.there) in
        subst (λ (t : List ℕ). IsStuckAt IsSpelled t place) (sym h.parts) (subst (IsStuckAt IsSpelled (h.front ++ h.rest)) there (stuck_at h.front h.rest h.last h.reached h.stopped))

-- ---- what is told of an answer

pub told_ok : {X : Type 0} (answer : Result X ℕ) (x : X) → Ok x ≡ fault_told answer → answer ≡ Ok x
told_ok (Ok y) x e = cc
told_ok (Err at) x e = absurd cc

pub told_bad : {X : Type 0} (answer : Result X ℕ) (at : ℕ) → Err (BadDescriptor at) ≡ fault_told answer → answer ≡ Err at
told_bad (Ok y) at e = absurd cc
told_bad (Err place) at e = cc

pub told_memory : {X : Type 0} (answer : Result X ℕ) → Err NoMemory ≡ fault_told answer → ⊥
told_memory (Ok y) e = cc
told_memory (Err place) e = cc
