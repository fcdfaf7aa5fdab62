-- The actions of a plan that a session has taken, from one moment to the next.
use Rattle.std.proofs.Common.{◌≡◌, ℕ, zero, suc, ◌+◌, ◌<◌, ◌≤◌, Bool, true, false, cond, List, [], ◌∷◌, ◌++◌, length, take, drop, Option, Some, None, refl, sym, ap, subst, ◌∙◌, arith, inl, inr, get_or}
use Rattle.std.specs.Prelude.{◌⊎◌, ◌≢◌, filter, slice_get, nat_lt, ◌==◌, IfSome}
use Rattle.std.specs.List.{AllByRecursion}
use Rattle.std.proofs.lemmas.Bool.{cases_lt, eq-eqb, ne_eqb, lt-ltb, le-ltb, or_from, or_left, or_right}
use Rattle.std.proofs.lemmas.List.{take-append-drop, take_more, drop_more}
use Rattle.std.proofs.lemmas.List.Elements.{filter-append}
use Rattle.std.proofs.lemmas.Option.{slice_get_within, slice_get-get_or, slice_get_past, same_Some}
use Rattle.jf_bytes.proofs.Lists.{each_weaker, each_push}
use Rattle.jvm_model.specs.declared.event.Act.{Act}
use Rattle.jvm_model.specs.Soundness.Calls.{AreFrom}
use Rattle.jvm_model.specs.Turns.Told.{Held}
use Rattle.profile_session.specs.Sessions.{Profiling, CanActNow, with_act}
use Rattle.jfluid_cli.specs.Actions.{IsAlong, IsDue, IsLater, IsToCome, Takes}
use Rattle.jfluid_cli.specs.Runs.{IsFresh, IsPlanned, at_step, is_taken_by}

-- ---- lists

all-of : {A : Type 0} (P : A → Type 0) (xs : List A) → ((x : A) → P x) → AllByRecursion P xs
all-of P [] each = tt
all-of P (x ∷ xs) each = (each x, all-of P xs each)

all-both : {A : Type 0} (P Q R : A → Type 0) (xs : List A) → ((x : A) → P x → Q x → R x) → AllByRecursion P xs
    → AllByRecursion Q xs → AllByRecursion R xs
all-both P Q R [] f left right = tt
all-both P Q R (x ∷ xs) f left right = (f x left.0 right.0, all-both P Q R xs f left.1 right.1)

pub keeps-all : {A : Type 0} (p : A → Bool) (xs : List A) → AllByRecursion (λ x. p x ≡ true) xs → filter p xs ≡ xs
keeps-all p [] all = refl
keeps-all p (x ∷ xs) all = by (p x) all.0 (keeps-all p xs all.1) where
  by : (b : Bool) → b ≡ true → filter p xs ≡ xs → cond b (x ∷ filter p xs) (filter p xs) ≡ x ∷ xs
  by true e rest = ap (λ ys. x ∷ ys) rest
  by false e rest = absurd cc

pub keeps-none : {A : Type 0} (p : A → Bool) (xs : List A) → AllByRecursion (λ x. p x ≡ false) xs → filter p xs ≡ []
keeps-none p [] all = refl
keeps-none p (x ∷ xs) all = by (p x) all.0 (keeps-none p xs all.1) where
  by : (b : Bool) → b ≡ false → filter p xs ≡ [] → cond b (x ∷ filter p xs) (filter p xs) ≡ []
  by false e rest = rest
  by true e rest = absurd cc

-- the front is what a test keeps
front-kept : {A : Type 0} (p : A → Bool) (n : ℕ) (xs : List A) → AllByRecursion (λ x. p x ≡ true) (take n xs)
    → AllByRecursion (λ x. p x ≡ false) (drop n xs) → take n xs ≡ filter p xs
front-kept p n xs front rest =
    sym (ap (filter p) (sym (take-append-drop n xs))
    ∙ (filter-append p (take n xs) (drop n xs)
    ∙ (ap (λ ys. ys ++ filter p (drop n xs)) (keeps-all p (take n xs) front)
    ∙ (ap (λ ys. take n xs ++ ys) (keeps-none p (drop n xs) rest) ∙ append-none (take n xs)))))
  where
    append-none : {A : Type 0} (ys : List A) → ys ++ [] ≡ ys
    append-none [] = refl
    append-none (y ∷ ys) = ap (λ zs. y ∷ zs) (append-none ys)

-- the element at a position is the first behind those in front
drop-at : {A : Type 0} (n : ℕ) (xs : List A) (x : A) → slice_get xs n ≡ Some x → drop n xs ≡ x ∷ drop (n + 1) xs
drop-at n xs x there =
    let within : n < length xs = slice_get_within xs n x there in
    let is : get_or xs n x ≡ x = same_Some (get_or xs n x) x (sym (slice_get-get_or xs n x within) ∙ there) in
    drop_more xs n x within ∙ ap (λ y. y ∷ drop (n + 1) xs) is

take-at : {A : Type 0} (n : ℕ) (xs : List A) (x : A) → slice_get xs n ≡ Some x → take (n + 1) xs ≡ take n xs ++ x ∷ []
take-at n xs x there =
    let within : n < length xs = slice_get_within xs n x there in
    let is : get_or xs n x ≡ x = same_Some (get_or xs n x) x (sym (slice_get-get_or xs n x within) ∙ there) in
    take_more xs n x within ∙ ap (λ y. take n xs ++ y ∷ []) is

all-first : {A : Type 0} (P : A → Type 0) (n : ℕ) (xs : List A) (x : A) → slice_get xs n ≡ Some x
    → AllByRecursion P (drop n xs) → P x × AllByRecursion P (drop (n + 1) xs)
all-first P n xs x there all = subst (AllByRecursion P) (drop-at n xs x there) all

-- ---- moments

abbrev pub IsFrom : ℕ → Act → Type 0
IsFrom k a = k ≤ a.moment

pub rise : (least k : ℕ) (acts : List Act) → AreFrom least acts → k ≤ least → AllByRecursion (IsFrom k) acts
rise least k [] from le = tt
rise least k (a ∷ more) from le =
    let first : least ≤ a.moment = from.0 in
    (omega (arith, first, le), rise a.moment k more from.1 (omega (arith, first, le)))

-- where moments do not fall, those behind one are not below it
later-all : (least k n : ℕ) (acts : List Act) → AreFrom least acts → IfSome (slice_get acts n) (IsFrom k)
    → AllByRecursion (IsFrom k) (drop n acts)
later-all least k zero [] from first = tt
later-all least k zero (a ∷ more) from first = (first, rise a.moment k more from.1 first)
later-all least k (suc n) [] from first = tt
later-all least k (suc n) (a ∷ more) from first = later-all a.moment k n more from.1 first

is-taken : (n : ℕ) (a : Act) → (a.moment ≡ 0) ⊎ (a.moment < n) → is_taken_by n a ≡ true
is-taken n a (inl first) = or_left (a.moment == 0) (nat_lt a.moment n) (eq-eqb a.moment 0 first)
is-taken n a (inr before) = or_right (a.moment == 0) (nat_lt a.moment n) (lt-ltb a.moment n before)

not-taken : (n : ℕ) (a : Act) → n ≤ a.moment → 0 < a.moment → is_taken_by n a ≡ false
not-taken n a le some =
    or_from (a.moment == 0) (nat_lt a.moment n) (ne_eqb a.moment 0 (λ e. omega (arith, e, some))) (le-ltb a.moment n le)

-- ---- before the start

pub fresh-along : (s : Profiling) → IsFresh s → IsAlong s 0
fresh-along s fresh = record {
  within = omega arith;
  acts = fresh.acts;
  taken = tt;
  to_come = all-of (IsToCome s) s.program.acts (λ a. record {
    later = subst (λ n. n ≤ a.moment) (sym fresh.clock) (omega arith);
    behind = λ started. absurd (let e : false ≡ true = sym fresh.before_the_run ∙ started in cc);
  });
}

-- ---- what is due is taken

pub record HasTaken (old now : Profiling) (next : ℕ) : Type 0 where
  pub same : now ≡ record old { acts = now.acts; gathered = now.gathered }
  pub along : IsAlong now next

pub none-taken : (s : Profiling) (from : ℕ) → IsAlong s from → HasTaken s s from
none-taken s from along = record { same = refl; along = along }

-- it can be taken
pub can-take : (s : Profiling) (at : ℕ) (act : Act) → IsAlong s at → IsDue s at act → CanActNow s
can-take s at act along due = λ whole going started.
    let first = all-first (IsToCome s) at s.program.acts act due.there along.to_come in
    subst (λ n. 1 ≤ n) due.now (first.0.behind started)

one-more : (now : Profiling) (at : ℕ) (act : Act) → IsAlong now at → IsDue now at act
    → IsAlong (with_act act.select act.method now) (at + 1)
one-more now at act along due =
    let acts = now.program.acts in
    let first = all-first (IsToCome now) at acts act due.there along.to_come in
    let is : (let a : Act = record { moment = now.clock; select = act.select; method = act.method } in a) ≡ act =
    ap (λ n. let a : Act = record { moment = n; select = act.select; method = act.method } in a) (sym due.now) in
    record {
      within = (let less = slice_get_within acts at act due.there in omega (arith, less));
      acts = ap (λ (a : Act). now.acts ++ a ∷ []) is
          ∙ (ap (λ (list : List Act). list ++ act ∷ []) along.acts ∙ sym (take-at at acts act due.there));
      taken = subst (AllByRecursion (λ (a : Act). a.moment ≤ now.clock)) (sym (take-at at acts act due.there))
          (each_push (λ (a : Act). a.moment ≤ now.clock) (take at acts) act along.taken
          (let e = due.now in omega (arith, e)));
      to_come = each_weaker (IsToCome now) (IsToCome (with_act act.select act.method now)) (drop (at + 1) acts)
          (λ a is. record { later = is.later; behind = is.behind }) first.1;
    }

pub takes-one : (old now new : Profiling) (at : ℕ) (act : Act) → HasTaken old now at → IsDue now at act
    → new ≡ with_act act.select act.method now → HasTaken old new (at + 1)
takes-one old now new at act has due taken = record {
  same = taken
      ∙ (ap (λ (s : Profiling). let moved : Profiling = record now { acts = s.acts; gathered = s.gathered } in moved) (sym taken)
      ∙ ap (λ (s : Profiling). let moved : Profiling = record s { acts = new.acts; gathered = new.gathered } in moved) has.same);
  along = subst (λ (s : Profiling). IsAlong s (at + 1)) (sym taken) (one-more now at act has.along due);
}

later-at : (s : Profiling) (at : ℕ) (o : Option Act) → slice_get s.program.acts at ≡ o → IsAlong s at
    → IfSome o (λ a. a.moment ≢ s.clock) → IfSome o (λ a. s.clock < a.moment)
later-at s at None is along other = tt
later-at s at (Some a) is along other =
    let first = all-first (IsToCome s) at s.program.acts a is along.to_come in
    elim (cases_lt s.clock a.moment) [
      | inl more ↦ more
      | inr less ↦ absurd (other (let le = first.0.later in omega (arith, le, less)))
    ]

-- all that is due was taken
pub takes-all : (old now : Profiling) (at : ℕ) → HasTaken old now at
    → IfSome (slice_get now.program.acts at) (λ a. a.moment ≢ now.clock) → Takes old now at
takes-all old now at has other = record {
  same = has.same;
  along = has.along;
  later = later-at now at (slice_get now.program.acts at) refl has.along other;
}

pub takes-end : (old now : Profiling) (next count : ℕ) → HasTaken old now next → count ≡ length old.program.acts → count ≤ next
    → Takes old now count
takes-end old now next count has is past =
    let acts : List Act = now.program.acts in
    let same : length old.program.acts ≡ length acts = sym (ap (λ (s : Profiling). length s.program.acts) has.same) in
    let at : next ≡ count = (let within = has.along.within in omega (arith, is, same, past, within)) in
    record {
      same = has.same;
      along = subst (λ n. IsAlong now n) at has.along;
      later = subst (λ (o : Option Act). IfSome o (λ a. now.clock < a.moment))
          (sym (slice_get_past acts count (omega (arith, is, same)))) tt;
    }

-- ---- a slice

-- the clock went on, or stands before the start
abbrev pub HasMoved : ℕ → ℕ → Type 0
HasMoved old new = (old < new) ⊎ (old ≡ 0)

taken-by : (old new : ℕ) (a : Act) → HasMoved old new → a.moment ≤ old → is_taken_by new a ≡ true
taken-by old new a (inl more) le = is-taken new a (inr (omega (arith, more, le)))
taken-by old new a (inr none) le = is-taken new a (inl (omega (arith, none, le)))

-- What a slice leaves of the actions.
pub record StaysAlong (new : Profiling) (next : ℕ) : Type 0 where
  pub along : IsAlong new next
  pub planned : IsPlanned new

moved-along : (old : Profiling) (n next : ℕ) (live : List Held) → IsAlong old next → IsLater old next → AreFrom 0 old.program.acts
    → old.clock ≤ n → HasMoved old.clock n → IfSome (slice_get old.program.acts next) (λ a. n ≤ a.moment)
    → StaysAlong (record old { started = true; clock = n; gathered = false; live = live }) next
moved-along old n next live along later order le moved before =
    let acts = old.program.acts in
    let new : Profiling = record old { started = true; clock = n; gathered = false; live = live } in
    let from : AllByRecursion (IsFrom n) (drop next acts) = later-all 0 n next acts order before in
    let above : AllByRecursion (IsFrom (old.clock + 1)) (drop next acts) =
    later-all 0 (old.clock + 1) next acts order (weaker (slice_get acts next) later) in
    record {
      along = record {
        within = along.within;
        acts = along.acts;
        taken = each_weaker (λ (a : Act). a.moment ≤ old.clock) (λ (a : Act). a.moment ≤ n) (take next acts)
            (λ a below. omega (arith, below, le)) along.taken;
        to_come = all-both (IsFrom n) (IsFrom (old.clock + 1)) (IsToCome new) (drop next acts)
            (λ a at more. record { later = at; behind = λ started. omega (arith, more) }) from above;
      };
      planned = along.acts
          ∙ front-kept (is_taken_by n) next acts
          (each_weaker (λ (a : Act). a.moment ≤ old.clock) (λ a. is_taken_by n a ≡ true) (take next acts)
          (λ a below. taken-by old.clock n a moved below) along.taken)
          (all-both (IsFrom n) (IsFrom (old.clock + 1)) (λ a. is_taken_by n a ≡ false) (drop next acts)
          (λ a at more. not-taken n a at (omega (arith, more))) from above);
    }
  where
    weaker : (o : Option Act) → IfSome o (λ a. old.clock < a.moment) → IfSome o (IsFrom (old.clock + 1))
    weaker None later = tt
    weaker (Some a) later = omega (arith, later)

pub stays-along : (old new : Profiling) (next : ℕ) → IsAlong old next → IsLater old next → AreFrom 0 old.program.acts
    → new ≡ at_step old new → old.clock ≤ new.clock → HasMoved old.clock new.clock
    → IfSome (slice_get old.program.acts next) (λ a. new.clock ≤ a.moment) → StaysAlong new next
stays-along old new next along later order is le moved before =
    subst (λ (s : Profiling). StaysAlong s next) (sym is)
    (moved-along old new.clock next new.live along later order le moved before)
