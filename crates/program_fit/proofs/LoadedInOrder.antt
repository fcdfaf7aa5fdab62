-- The built-in class files behind the classes of a program: each is loaded alone, in their order (JVM Specification
-- 5.3).
use Rattle.std.proofs.Common.{◌≡◌, ◌≢◌, ℕ, suc, ◌+◌, ◌<◌, ◌≤◌, Bool, true, false, not, List, [], ◌∷◌, ◌++◌, length, position, slice_get, cond, Some, None, refl, sym, ap, ◌∙◌, add-one, zero-add, arith}
use Rattle.std.specs.Prelude.{nat_lt, unwrap_or, ◌&&◌, ◌||◌, ◌==◌}
use Rattle.std.specs.Bool.{beq}
use Rattle.std.specs.List.{AllByRecursion, list_all}
use Rattle.std.specs.Option.{option_map_or}
use Rattle.std.proofs.Math.Nat.{add-zero}
use Rattle.std.proofs.lemmas.Bool.{ltb-false, ltb-true, ne_eqb, and_parts}
use Rattle.std.proofs.lemmas.List.{append-nil}
use Rattle.const_pool.specs.declared.class.ClassFile.{ClassFile}
use Rattle.jvm_model.specs.declared.program.Program.{Program}
use Rattle.jvm_model.specs.Classes.Load.{Loading, Need, Incompatible, behind_needs, class_needs, loading_done, go_on, is_among, is_met, load_named, load_needs, load_of, need_fault, needs_of, unless}
use Rattle.jvm_model.specs.Classes.Lookup.{is_interface}
use Rattle.jvm_model.specs.Basis.Methods.{has_flag}
use Rattle.jvm_model.specs.Basis.Programs.{class_at, class_named, has_built_in_name, has_name, name_of}
use Rattle.jvm_model.specs.Basis.SharedState.{built_in_from}
use Rattle.jvm_model.proofs.Loading.Among.{among-last, among-front}
use Rattle.prepared_code.specs.Prepared.{load_built_in, with_built_in}
use Rattle.admit_check.proofs.FitNames.{IsOwnClass}
use Rattle.admit_check.proofs.FitPlaces.{AreOrdered, is_before}
use Rattle.program_fit.proofs.Loads.{load-fresh, load-there}
use Rattle.admit_check.proofs.FitFiles
use Rattle.admit_check.proofs.FitFiles.{IsNeeded, built_in-past, read-needed, stands}

-- ---- lists

among-end-other : (k j : ℕ) (xs : List ℕ) → k ≢ j → is_among k xs ≡ false → is_among k (xs ++ j ∷ []) ≡ false
among-end-other k j [] ne e = ap (λ b. b || false) (ne_eqb k j ne)
among-end-other k j (x ∷ xs) ne e = by (k == x) (among-end-other k j xs ne) e where
  by : (b : Bool) → (is_among k xs ≡ false → is_among k (xs ++ j ∷ []) ≡ false) → (b || is_among k xs) ≡ false → (b || is_among k (xs ++ j ∷ [])) ≡ false
  by true rest e = absurd cc
  by false rest e = rest e

append-one : (xs ys : List ℕ) (k : ℕ) → (xs ++ k ∷ []) ++ ys ≡ xs ++ k ∷ ys
append-one [] ys k = refl
append-one (x ∷ xs) ys k = ap (λ zs. x ∷ zs) (append-one xs ys k)

-- ---- the classes in front

load-past : (p : Program) (classes files : List ClassFile) (loaded : List ℕ) → AllByRecursion IsOwnClass classes → load_built_in p (classes ++ files) loaded ≡ load_built_in p files loaded
load-past p [] files loaded own = refl
load-past p (c ∷ classes) files loaded own =
    ap (λ b. load_built_in p (classes ++ files) (cond b (load_of p loaded (unwrap_or (name_of c) [])).loaded loaded)) own.0.free ∙ load-past p classes files loaded own.1

-- ---- the program

module _ (p : Program) (classes files : List ClassFile) (are : p.classes ≡ classes ++ files) (own : AllByRecursion IsOwnClass classes) (ordered : AreOrdered files) where
  abbrev n : ℕ
  n = length classes

  class-past : (k : ℕ) → class_at p (n + k) ≡ slice_get files k
  class-past k = FitFiles.class-past p classes files are own ordered k

  named-past : (name : List ℕ) (k : ℕ) → position (has_name name) files ≡ Some k → class_named p name ≡ Some (n + k)
  named-past name k e = FitFiles.named-past p classes files are own ordered name k e

  needed-met : (k : ℕ) (x : Need) (needed : IsNeeded files k x) → is_met p x ≡ true
  needed-met k x needed =
      ap (λ b. not b && option_map_or (λ class. beq (is_interface p class) x.interface) (class_named p x.name) false) needed.plain
      ∙ (ap (λ o. option_map_or (λ class. beq (is_interface p class) x.interface) o false) (named-past x.name needed.k needed.place)
      ∙ (ap (λ o. beq (option_map_or (λ (c : ClassFile). has_flag 512 c.access) o false) x.interface) (class-past needed.k ∙ needed.there) ∙ needed.needed))

  -- so many of the files are loaded
  record AreLoadedTo (loaded : List ℕ) (k : ℕ) : Type 0 where
    there : (j : ℕ) → j < k → is_among (n + j) loaded ≡ true
    others : (j : ℕ) → k ≤ j → is_among (n + j) loaded ≡ false

  needs-loaded : (depth k : ℕ) (path loaded : List ℕ) (needs : List Need) → AreLoadedTo loaded k → list_all (is_before files k) needs ≡ true
      → load_needs p (load_named p (suc depth) path) needs loaded ≡ loading_done loaded
  needs-loaded depth k path loaded [] to e = refl
  needs-loaded depth k path loaded (x ∷ needs) to e =
      let parts = and_parts (is_before files k x) (list_all (is_before files k) needs) e in
      let needed = read-needed files k x parts.0 in
      ap (λ l. go_on l (λ after. unless (need_fault p x) after (load_needs p (load_named p (suc depth) path) needs)))
      (load-there p depth path loaded x.name (n + needed.k) needed.plain (named-past x.name needed.k needed.place) (to.there needed.k needed.less))
      ∙ (ap (λ b. unless (cond b None (Some Incompatible)) loaded (load_needs p (load_named p (suc depth) path) needs)) (needed-met k x needed)
      ∙ needs-loaded depth k path loaded needs to parts.1)

  -- the next one is loaded behind them
  next-loaded : (depth k : ℕ) (c : ClassFile) (loaded : List ℕ) → length p.classes ≡ suc depth → slice_get files k ≡ Some c → AreLoadedTo loaded k → with_built_in p c loaded ≡ loaded ++ (n + k) ∷ []
  next-loaded depth k c loaded count there to =
      let standing = stands files ordered k c there in
      let path : List ℕ = (n + k) ∷ [] in
      ap (λ b. cond b (load_of p loaded (unwrap_or (name_of c) [])).loaded loaded) standing.built_in
      ∙ (ap (λ o. (load_of p loaded (unwrap_or o [])).loaded) standing.named
      ∙ (ap (λ d. (load_named p d [] standing.name loaded).loaded) (add-one (length p.classes))
      ∙ (ap (λ (l : Loading). l.loaded) (load-fresh p (length p.classes) loaded standing.name (n + k) standing.plain (named-past standing.name k standing.place) (to.others k (omega arith)))
      ∙ (ap (λ d. (behind_needs (n + k) (load_needs p (load_named p d path) (needs_of p (n + k)) loaded)).loaded) count
      ∙ (ap (λ o. (behind_needs (n + k) (load_needs p (load_named p (suc depth) path) (option_map_or class_needs o []) loaded)).loaded) (class-past k ∙ there)
      ∙ ap (λ l. (behind_needs (n + k) l).loaded) (needs-loaded depth k path loaded (class_needs c) to standing.needs))))))

  more-loaded : (k : ℕ) (loaded : List ℕ) → AreLoadedTo loaded k → AreLoadedTo (loaded ++ (n + k) ∷ []) (k + 1)
  more-loaded k loaded to = record {
    there = λ j less. by j less (nat_lt j k) refl;
    others = λ j past. among-end-other (n + j) (n + k) loaded (λ e. omega (arith, e, past)) (to.others j (omega (arith, past)));
  }
    where
      by : (j : ℕ) → j < k + 1 → (b : Bool) → nat_lt j k ≡ b → is_among (n + j) (loaded ++ (n + k) ∷ []) ≡ true
      by j less true e = among-front (n + j) loaded ((n + k) ∷ []) (to.there j (ltb-true j k e))
      by j less false e =
          let past : k ≤ j = ltb-false j k e in
          let same : j ≡ k = omega (arith, less, past) in
          ap (λ j. is_among (n + j) (loaded ++ (n + k) ∷ [])) same ∙ among-last (n + k) loaded

  load-from : (depth k : ℕ) (rest : List ClassFile) (loaded : List ℕ) → length p.classes ≡ suc depth → ((i : ℕ) (c : ClassFile) → slice_get rest i ≡ Some c → slice_get files (k + i) ≡ Some c)
      → AreLoadedTo loaded k → load_built_in p rest loaded ≡ loaded ++ built_in_from (n + k) rest
  load-from depth k [] loaded count at to = sym (append-nil loaded)
  load-from depth k (c ∷ rest) loaded count at to =
      let here : slice_get files k ≡ Some c = ap (slice_get files) (sym (add-zero k)) ∙ at 0 c refl in
      let built_in : has_built_in_name c ≡ true = (stands files ordered k c here).built_in in
      let step : n + (k + 1) ≡ n + k + 1 = omega arith in
      ap (load_built_in p rest) (next-loaded depth k c loaded count here to)
      ∙ (load-from depth (k + 1) rest (loaded ++ (n + k) ∷ []) count (λ i x e. (let m : k + 1 + i ≡ k + suc i = omega arith in ap (slice_get files) m ∙ at (suc i) x e)) (more-loaded k loaded to)
      ∙ (ap (λ m. (loaded ++ (n + k) ∷ []) ++ built_in_from m rest) step
      ∙ (append-one loaded (built_in_from (n + k + 1) rest) (n + k)
      ∙ ap (λ b. loaded ++ cond b ((n + k) ∷ built_in_from (n + k + 1) rest) (built_in_from (n + k + 1) rest)) (sym built_in))))

  -- loading them one after the other gives them in their order
  pub loaded-in-order : (depth : ℕ) → length p.classes ≡ suc depth → load_built_in p p.classes [] ≡ built_in_from 0 p.classes
  loaded-in-order depth count =
      ap (λ cs. load_built_in p cs []) are
      ∙ (load-past p classes files [] own
      ∙ (load-from depth 0 files [] count (λ i c e. ap (slice_get files) (zero-add i) ∙ e) (record { there = λ j less. absurd (omega (arith, less)); others = λ j past. refl })
      ∙ (ap (λ m. built_in_from m files) (add-zero n)
      ∙ (ap (λ m. built_in_from m files) (sym (zero-add n)) ∙ (sym (built_in-past 0 classes files own) ∙ sym (ap (built_in_from 0) are))))))
