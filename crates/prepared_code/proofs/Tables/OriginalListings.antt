-- Original code is a table of versions, each at its own places.
use Rattle.std.proofs.Common.{◌≡◌, ℕ, ◌<◌, ◌≤◌, ◌+◌, List, [], ◌∷◌, map, length, Option, Some, None, refl, ap, subst, sym, ◌∙◌, ⊎_elim, arith}
use Rattle.std.specs.Prelude.{slice_get, unwrap_or}
use Rattle.std.specs.Option.{option_and_then, option_map, option_map_or}
use Rattle.std.proofs.lemmas.Bool.{cases_lt}
use Rattle.std.proofs.lemmas.List.{map-id}
use Rattle.std.proofs.lemmas.List.FromFn.{length-map-range_with_len}
use Rattle.std.proofs.lemmas.Option.{none-some, same_Some}
use Rattle.const_pool.specs.declared.class.ClassFile.{ClassFile}
use Rattle.const_pool.specs.declared.class.CodeAttribute.{CodeAttribute}
use Rattle.const_pool.specs.declared.class.Handler.{Handler}
use Rattle.const_pool.specs.declared.class.Member.{Member}
use Rattle.jvm_model.specs.declared.program.MethodPlace.{MethodPlace}
use Rattle.jvm_model.specs.declared.program.Program.{Program}
use Rattle.jvm_model.specs.Basis.Data.{Catcher, Instruction}
use Rattle.jvm_model.specs.Basis.Methods.{code_of}
use Rattle.jvm_model.specs.Codes.Moved.{HaveBounds, moved_catcher, moved_instruction}
use Rattle.jvm_model.specs.Codes.Originals.{catcher_of, method_handlers, original}
use Rattle.jvm_model.specs.Basis.Programs.{class_at}
use Rattle.prepared_code.specs.Tables.{Version, Versions, version_at}
use Rattle.prepared_code.specs.Entries.{catching_of, no_version, original_version, original_versions, own_number, version_entry, version_in, version_of}
use Rattle.prepared_code.specs.Versions.{catcher_in, current_of, instruction_in, line_in}
use Rattle.prepared_code.specs.VersionListings.{AreVersions, HasCurrent, IsVersionOf}
use Rattle.prepared_code.proofs.Tables.OriginalVersions.{original-at}
use Rattle.prepared_code.proofs.Tables.OriginalsRun.{of-place, past, there}
use Rattle.prepared_code.proofs.Tables.Tabled.{tabled-at}

-- ---- handlers, and where it begins

same-catchers : (c : ClassFile) (hs : List Handler) → map catcher_in (map (catching_of c) hs) ≡ map (catcher_of c) hs
same-catchers c [] = refl
same-catchers c (h ∷ hs) = ap (λ (cs : List Catcher). catcher_of c h ∷ cs) (same-catchers c hs)

-- what a version has of each
record Has (x : Version) (handlers : List Catcher) : Type 0 where
  first : x.prepared.first ≡ 0
  catches : map catcher_in x.prepared.handlers ≡ handlers

has-code : (k : ℕ) (c : ClassFile) (m : Member) (code : Option CodeAttribute) → code_of m ≡ code
    → Has (version_entry k c m) (unwrap_or (option_map (λ (x : CodeAttribute). map (catcher_of c) x.handlers) code) [])
has-code k c m None e = record { first = refl; catches = ap (λ o. map catcher_in (option_map_or (λ (x : CodeAttribute). map (catching_of c) x.handlers) o [])) e }
has-code k c m (Some code) e = record {
  first = refl;
  catches = ap (λ o. map catcher_in (option_map_or (λ (x : CodeAttribute). map (catching_of c) x.handlers) o [])) e ∙ same-catchers c code.handlers;
}

has-member : (k : ℕ) (c : ClassFile) (m : Option Member)
    → Has (option_map_or (version_entry k c) m (no_version k)) (unwrap_or (option_map (λ (x : CodeAttribute). map (catcher_of c) x.handlers) (option_and_then code_of m)) [])
has-member k c None = record { first = refl; catches = refl }
has-member k c (Some m) = has-code k c m (code_of m) refl

has-class : (k : ℕ) (place : MethodPlace) (c : Option ClassFile)
    → Has (option_map_or (version_in k place) c (no_version k)) (unwrap_or (option_and_then (λ x. method_handlers x place.position) c) [])
has-class k place None = record { first = refl; catches = refl }
has-class k place (Some c) = has-member k c (slice_get c.methods place.position)

has-place : (p : Program) (k : ℕ) (place : Option MethodPlace)
    → Has (option_map_or (version_of p k) place (no_version k))
    (unwrap_or (option_and_then (λ (x : MethodPlace). option_and_then (λ c. method_handlers c x.position) (class_at p x.class)) place) [])
has-place p k None = record { first = refl; catches = refl }
has-place p k (Some place) = has-class k place (class_at p place.class)

-- ---- what does not move stays

same-next : (next : Option ℕ) → next ≡ option_map (λ k. k) next
same-next None = refl
same-next (Some k) = refl

pub same-instruction : (i : Option Instruction) → i ≡ option_map (moved_instruction (λ k. k)) i
same-instruction None = refl
same-instruction (Some i) =
    ap (λ (n : Option ℕ). let o : Option Instruction = Some (record i { next = n }) in o) (same-next i.next)
    ∙ ap (λ (ks : List ℕ). let o : Option Instruction = Some (record (moved_instruction (λ k. k) i) { targets = ks }) in o) (sym (map-id i.targets))

pub same-handlers : (hs : List Catcher) → hs ≡ map (moved_catcher (λ k. k)) hs
same-handlers [] = refl
same-handlers (h ∷ hs) = ap (λ (cs : List Catcher). h ∷ cs) (same-handlers hs)

module _ (p : Program) (norm : ℕ → ℕ → ℕ) where
  abbrev v : Versions
  v = original_versions p

  abbrev n : ℕ
  n = length p.methods

  shows : (k at : ℕ) → k < n → option_map instruction_in (line_in at (original_version p k)) ≡ (original p).at k at
  shows k at lt = sym (ap (λ (o : Option Version). option_map instruction_in (option_and_then (line_in at) o)) (there p k lt)) ∙ original-at p k at

  pub own : (k : ℕ) → (original_version p k).method ≡ k
  own k = of-place p k (slice_get p.methods k)

  pub is-original : (k : ℕ) → k < n → IsVersionOf p norm (original_version p k) (λ at. at)
  is-original k lt =
      let has = has-place p k (slice_get p.methods k) in
      record {
        first = has.first;
        lines = λ at place. shows k at lt ∙ (ap (λ m. (original p).at m at) (sym (own k)) ∙ same-instruction ((original p).at (original_version p k).method at));
        only = λ at i found. record { place = at; instruction = i; there = ap (λ m. (original p).at m at) (own k) ∙ (sym (shows k at lt) ∙ found); does = refl };
        handlers = has.catches ∙ (ap (original p).handlers (sym (own k)) ∙ same-handlers ((original p).handlers (original_version p k).method));
        rises = λ a b some pa pb less. less;
      }

  held : (k : ℕ) (x : Version) → version_at v k ≡ Some x → IsVersionOf p norm x (λ at. at)
  held k x is =
      ⊎_elim
      (λ (lt : k < n). subst (λ y. IsVersionOf p norm y (λ at. at)) (same_Some (original_version p k) x (sym (there p k lt) ∙ is)) (is-original k lt))
      (λ (le : n ≤ k). absurd (none-some x (sym (past p k le) ∙ is)))
      (cases_lt k n)

  begins : (k : ℕ) → k < n → HasCurrent v k
  begins k lt =
      let now : current_of v k ≡ k = ap (λ (o : Option ℕ). unwrap_or o (4294967296 + k)) (tabled-at own_number n k lt) in
      record { version = original_version p k; held = ap (version_at v) now ∙ there p k lt; own = own k }

  pub original-are : n ≤ 4294967296 → ((k : ℕ) → HaveBounds norm k ((original p).handlers k)) → AreVersions p norm (λ k at. at) v
  original-are few bounds = record {
    each = held;
    unheld = λ k none. refl;
    current = begins;
    count = length-map-range_with_len own_number 0 n;
    far = λ k le. past p k (omega (arith, few, le));
    bounds = bounds;
  }
