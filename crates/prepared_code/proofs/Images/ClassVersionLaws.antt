-- The versions of a class's methods for an image of it are versions of the program.
use Rattle.std.proofs.Common.{◌≡◌, ℕ, suc, ◌+◌, ◌<◌, ◌≤◌, Bool, true, false, List, [], ◌∷◌, ◌++◌, length, Option, Some, None, refl, sym, ap, subst, ◌∙◌, eqb-true, ⊎_elim, arith}
use Rattle.std.specs.Prelude.{slice_get, ◌==◌, if◌then◌else◌}
use Rattle.std.specs.List.{AllByRecursion}
use Rattle.std.specs.Option.{IfSome, option_and_then, option_map, option_map_or}
use Rattle.std.proofs.lemmas.Bool.{and_parts, cases_lt}
use Rattle.std.proofs.lemmas.Option.{none-some, same_Some, slice_get_past, slice_get_within}
use Rattle.const_pool.specs.declared.class.ClassFile.{ClassFile}
use Rattle.const_pool.specs.declared.class.CodeAttribute.{CodeAttribute}
use Rattle.const_pool.specs.declared.class.Member.{Member}
use Rattle.code_model.specs.declared.laying.Homes.{Homes}
use Rattle.code_model.specs.Layout.{home_of}
use Rattle.jvm_model.specs.declared.program.MethodPlace.{MethodPlace}
use Rattle.jvm_model.specs.declared.program.Program.{Program}
use Rattle.jvm_model.specs.Basis.Methods.{code_of, method_code}
use Rattle.jvm_model.specs.Basis.Programs.{class_at, number_from, number_of_method, place_of_method, same_place}
use Rattle.prepared_code.specs.Tables.{Version}
use Rattle.prepared_code.specs.ClassVersions.{alone, class_version, class_versions, homes_at, member_version, version_by, versions_from}
use Rattle.prepared_code.specs.Entries.{no_version, original_version, version_of}
use Rattle.jvm_model.specs.Codes.ProgramPlaces.{HasClosedCodes}
use Rattle.prepared_code.specs.Ready.{IsOwnLine}
use Rattle.prepared_code.specs.Standing.{AreMethodImages, IsMethodImage, IsOfProgram, places_of}
use Rattle.prepared_code.specs.Versions.{HasOwnLines, IsPreparedLine, line_in}
use Rattle.prepared_code.proofs.Lines.Dimensions.{Fits}
use Rattle.prepared_code.proofs.Tables.Made.{original-has-lines}
use Rattle.prepared_code.proofs.Images.MethodImages.{code-is, method-image}
use Rattle.prepared_code.proofs.Tables.OriginalListings.{is-original, own}
use Rattle.prepared_code.proofs.Tables.OriginalVersions.{original-lines, original-own}
use Rattle.prepared_code.proofs.Tables.OriginalsRun.{there}
use Rattle.prepared_code.proofs.Images.RewrittenLines.{rewritten-lines, rewritten-own}

-- ---- the number of a method

-- so many methods further
record IsNumbered (n class at : ℕ) (places : List MethodPlace) (k : ℕ) : Type 0 where
  further : ℕ
  is : k ≡ n + further
  found : slice_get places further ≡ Some (record { class = class; position = at })

same-place : (class at : ℕ) (place : MethodPlace) → same_place class at place ≡ true → place ≡ record { class = class; position = at }
same-place class at place e =
    let parts = and_parts (place.class == class) (place.position == at) e in
    ap (λ n. let q : MethodPlace = record { class = n; position = place.position } in q) (eqb-true place.class class parts.0)
    ∙ ap (λ n. let q : MethodPlace = record { class = class; position = n } in q) (eqb-true place.position at parts.1)

numbered-at : (n class at : ℕ) (places : List MethodPlace) (k : ℕ) → number_from n class at places ≡ Some k → IsNumbered n class at places k
numbered-at n class at [] k e = absurd (none-some k e)
numbered-at n class at (place ∷ rest) k e = by (same_place class at place) refl e (numbered-at (n + 1) class at rest k) where
  by : (b : Bool) → same_place class at place ≡ b → (if b then Some n else number_from (n + 1) class at rest) ≡ Some k
      → (number_from (n + 1) class at rest ≡ Some k → IsNumbered (n + 1) class at rest k) → IsNumbered n class at (place ∷ rest) k
  by true same is behind =
      let this : n ≡ k = same_Some n k is in
      record {
        further = 0;
        is = omega (arith, this);
        found = ap (λ (q : MethodPlace). let o : Option MethodPlace = Some q in o) (same-place class at place same);
      }
  by false same is behind =
      let later = behind is in
      let far : k ≡ n + 1 + later.further = later.is in
      record { further = suc later.further; is = omega (arith, far); found = later.found }

pub place-of : (p : Program) (class at k : ℕ) → number_of_method p class at ≡ Some k → place_of_method p k ≡ Some (record { class = class; position = at })
place-of p class at k e =
    let there = numbered-at 0 class at p.methods k e in
    let same : k ≡ there.further = omega (arith, there.is) in
    ap (slice_get p.methods) same ∙ there.found

pub number-below : (p : Program) (class at k : ℕ) → number_of_method p class at ≡ Some k → k < length p.methods
number-below p class at k e = slice_get_within p.methods k (let q : MethodPlace = record { class = class; position = at } in q) (place-of p class at k e)

-- ---- original code

original-own-line : (p : Program) (k place : ℕ) → k < length p.methods → IfSome (line_in place (original_version p k)) IsOwnLine
original-own-line p k place lt =
    subst (λ (o : Option Version). IfSome (option_and_then (line_in place) o) IsOwnLine) (there p k lt) (original-own p k place)

original-of : (p : Program) (k : ℕ) → k < length p.methods → IsOfProgram p (original_version p k)
original-of p k lt = record {
  home = λ at. at;
  version = is-original p (places_of p) k lt;
  own = subst (λ n. n < length p.methods) (sym (own p (places_of p) k)) lt;
  lines = λ place. original-own-line p k place lt;
}

original-keeps : (p : Program) (k : ℕ) → HasOwnLines (original_version p k)
original-keeps p k =
    ⊎_elim
    (λ (lt : k < length p.methods). record {
      prepared = λ place. subst (λ (o : Option Version). IfSome (option_and_then (line_in place) o) IsPreparedLine) (there p k lt) ((original-lines p).prepared k place);
      dimensions = λ place. subst (λ (o : Option Version). IfSome (option_and_then (line_in place) o) Fits) (there p k lt) ((original-lines p).dimensions k place);
    })
    (λ (le : length p.methods ≤ k). subst HasOwnLines (sym (nothing le)) (record { prepared = λ place. tt; dimensions = λ place. tt }))
    (cases_lt k (length p.methods))
  where
    nothing : length p.methods ≤ k → original_version p k ≡ no_version k
    nothing le = ap (λ (o : Option MethodPlace). option_map_or (version_of p k) o (no_version k)) (slice_get_past p.methods k le)

-- ---- one method

-- its lines are lines of a class
keeps-by : (p : Program) (k : ℕ) (image : ClassFile) (old : CodeAttribute) (homes : Option Homes) (new : Option CodeAttribute) → HasOwnLines (version_by p k image old homes new)
keeps-by p k image old (Some homes) (Some new) = rewritten-lines k image new homes (length old.code)
keeps-by p k image old (Some homes) None = original-keeps p k
keeps-by p k image old None new = original-keeps p k

module _ (p : Program) (closed : HasClosedCodes p) (class : ℕ) (image : ClassFile) (homes : List (Option Homes)) (are : AreMethodImages p class image homes)
    (c : ClassFile) (there : class_at p class ≡ Some c) where
  of-by : (at k : ℕ) (old : CodeAttribute) (h : Option Homes) (new : Option CodeAttribute) → method_code c at ≡ Some old → number_of_method p class at ≡ Some k
      → homes_at homes at ≡ h → method_code image at ≡ new → IsOfProgram p (version_by p k image old h new)
  of-by at k old (Some h) (Some new) coded numbered housed imaged =
      let is : IsMethodImage c image old new h = are c at old new h there coded housed imaged in
      let place : MethodPlace = record { class = class; position = at } in
      let found = place-of p class at k numbered in
      record {
        home = home_of h;
        version = method-image p k place c image old found there coded is.count is.number is.mark new h is.version is.can is.named (closed k old (code-is p k place c image old found there coded));
        own = number-below p class at k numbered;
        lines = λ at. rewritten-own k image new h (length old.code) at;
      }
  of-by at k old (Some h) None coded numbered housed imaged = original-of p k (number-below p class at k numbered)
  of-by at k old None new coded numbered housed imaged = original-of p k (number-below p class at k numbered)

-- ---- all of them

module _ (P : Version → Type 0) where
  all-alone : (o : Option Version) (rest : List Version) → IfSome o P → AllByRecursion P rest → AllByRecursion P (alone o ++ rest)
  all-alone None rest this more = more
  all-alone (Some x) rest this more = (this, more)

  if-numbered : (f : ℕ → Version) (o : Option ℕ) → ((k : ℕ) → o ≡ Some k → P (f k)) → IfSome (option_map f o) P
  if-numbered f None each = tt
  if-numbered f (Some k) each = each k refl

  if-coded : (f : CodeAttribute → Option Version) (o : Option CodeAttribute) → ((old : CodeAttribute) → o ≡ Some old → IfSome (f old) P) → IfSome (option_and_then f o) P
  if-coded f None each = tt
  if-coded f (Some old) each = each old refl

pub versions-keep : (p : Program) (class : ℕ) (image : ClassFile) (homes : List (Option Homes)) → AllByRecursion HasOwnLines (class_versions p class image homes)
versions-keep p class image homes = by (class_at p class) where
  from : (at : ℕ) (ms : List Member) → AllByRecursion HasOwnLines (versions_from p class image homes at ms)
  from at [] = tt
  from at (m ∷ rest) =
      all-alone HasOwnLines (member_version p class image homes at m) (versions_from p class image homes (at + 1) rest)
      (if-coded HasOwnLines (λ old. option_map (class_version p image homes at old) (number_of_method p class at)) (code_of m)
      (λ old coded. if-numbered HasOwnLines (class_version p image homes at old) (number_of_method p class at)
      (λ k numbered. keeps-by p k image old (homes_at homes at) (method_code image at))))
      (from (at + 1) rest)

  by : (o : Option ClassFile) → AllByRecursion HasOwnLines (option_map_or (λ (c : ClassFile). versions_from p class image homes 0 c.methods) o [])
  by None = tt
  by (Some c) = from 0 c.methods

pub versions-of : (p : Program) → HasClosedCodes p → (class : ℕ) (image : ClassFile) (homes : List (Option Homes)) → AreMethodImages p class image homes
    → AllByRecursion (IsOfProgram p) (class_versions p class image homes)
versions-of p closed class image homes are = by (class_at p class) refl where
  from : (c : ClassFile) → class_at p class ≡ Some c → (at : ℕ) (ms : List Member) → ((k : ℕ) (m : Member) → slice_get ms k ≡ Some m → slice_get c.methods (at + k) ≡ Some m)
      → AllByRecursion (IsOfProgram p) (versions_from p class image homes at ms)
  from c there at [] stand = tt
  from c there at (m ∷ rest) stand =
      let here : at + 0 ≡ at = omega arith in
      let stands : slice_get c.methods at ≡ Some m = ap (slice_get c.methods) (sym here) ∙ stand 0 m refl in
      all-alone (IsOfProgram p) (member_version p class image homes at m) (versions_from p class image homes (at + 1) rest)
      (if-coded (IsOfProgram p) (λ old. option_map (class_version p image homes at old) (number_of_method p class at)) (code_of m)
      (λ old coded. if-numbered (IsOfProgram p) (class_version p image homes at old) (number_of_method p class at)
      (λ k numbered. of-by p closed class image homes are c there at k old (homes_at homes at) (method_code image at) (ap (option_and_then code_of) stands ∙ coded) numbered refl refl)))
      (from c there (at + 1) rest (λ k x found. let next : at + 1 + k ≡ at + suc k = omega arith in ap (slice_get c.methods) next ∙ stand (suc k) x found))

  by : (o : Option ClassFile) → class_at p class ≡ o → AllByRecursion (IsOfProgram p) (option_map_or (λ (c : ClassFile). versions_from p class image homes 0 c.methods) o [])
  by None there = tt
  by (Some c) there = from c there 0 c.methods (λ k m found. let same : 0 + k ≡ k = omega arith in ap (slice_get c.methods) same ∙ found)

-- each is of a method of the program
method-by : (p : Program) (k : ℕ) (image : ClassFile) (old : CodeAttribute) (homes : Option Homes) (new : Option CodeAttribute) → (version_by p k image old homes new).method ≡ k
method-by p k image old (Some homes) (Some new) = refl
method-by p k image old (Some homes) None = own p (places_of p) k
method-by p k image old None new = own p (places_of p) k

pub versions-below : (p : Program) (class : ℕ) (image : ClassFile) (homes : List (Option Homes)) → AllByRecursion (λ (x : Version). x.method < length p.methods) (class_versions p class image homes)
versions-below p class image homes = by (class_at p class) where
  Below : Version → Type 0
  Below x = x.method < length p.methods

  from : (at : ℕ) (ms : List Member) → AllByRecursion Below (versions_from p class image homes at ms)
  from at [] = tt
  from at (m ∷ rest) =
      all-alone Below (member_version p class image homes at m) (versions_from p class image homes (at + 1) rest)
      (if-coded Below (λ old. option_map (class_version p image homes at old) (number_of_method p class at)) (code_of m)
      (λ old coded. if-numbered Below (class_version p image homes at old) (number_of_method p class at)
      (λ k numbered. subst (λ n. n < length p.methods) (sym (method-by p k image old (homes_at homes at) (method_code image at))) (number-below p class at k numbered))))
      (from (at + 1) rest)

  by : (o : Option ClassFile) → AllByRecursion Below (option_map_or (λ (c : ClassFile). versions_from p class image homes 0 c.methods) o [])
  by None = tt
  by (Some c) = from 0 c.methods

-- none is still without its lines
have-by : (p : Program) (k : ℕ) (image : ClassFile) (old : CodeAttribute) (homes : Option Homes) (new : Option CodeAttribute) → (version_by p k image old homes new).prepared.has_lines ≡ true
have-by p k image old (Some homes) (Some new) = refl
have-by p k image old (Some homes) None = original-has-lines p k
have-by p k image old None new = original-has-lines p k

pub versions-have : (p : Program) (class : ℕ) (image : ClassFile) (homes : List (Option Homes)) → AllByRecursion (λ (x : Version). x.prepared.has_lines ≡ true) (class_versions p class image homes)
versions-have p class image homes = by (class_at p class) where
  Has : Version → Type 0
  Has x = x.prepared.has_lines ≡ true

  from : (at : ℕ) (ms : List Member) → AllByRecursion Has (versions_from p class image homes at ms)
  from at [] = tt
  from at (m ∷ rest) =
      all-alone Has (member_version p class image homes at m) (versions_from p class image homes (at + 1) rest)
      (if-coded Has (λ old. option_map (class_version p image homes at old) (number_of_method p class at)) (code_of m)
      (λ old coded. if-numbered Has (class_version p image homes at old) (number_of_method p class at)
      (λ k numbered. have-by p k image old (homes_at homes at) (method_code image at))))
      (from (at + 1) rest)

  by : (o : Option ClassFile) → AllByRecursion Has (option_map_or (λ (c : ClassFile). versions_from p class image homes 0 c.methods) o [])
  by None = tt
  by (Some c) = from 0 c.methods
