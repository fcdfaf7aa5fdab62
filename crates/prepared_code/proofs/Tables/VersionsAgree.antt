-- A table of versions is a listing of versions of the original code.
use Rattle.std.proofs.Common.{◌≡◌, ◌≤◌, ◌<◌, ◌+◌, ◌-◌, ℕ, [], length, map, Option, Some, None, refl, sym, ap, subst, ◌∙◌, ⊎_elim, arith}
use Rattle.std.specs.Prelude.{max, unwrap_or}
use Rattle.std.specs.Option.{option_and_then, option_map, option_map_or}
use Rattle.std.proofs.lemmas.Bool.{cases_lt}
use Rattle.std.proofs.lemmas.Option.{slice_get_past}
use Rattle.jvm_model.specs.declared.program.Program.{Program}
use Rattle.jvm_model.specs.declared.program.MethodPlace.{MethodPlace}
use Rattle.jvm_model.specs.Basis.Data.{Listing}
use Rattle.jvm_model.specs.Codes.Lines.{method_instruction}
use Rattle.jvm_model.specs.Codes.Moved.{IsPlace, moved_catcher, moved_instruction}
use Rattle.jvm_model.specs.Codes.Originals.{method_handlers, original}
use Rattle.jvm_model.specs.Basis.Programs.{class_at}
use Rattle.jvm_model.specs.Rewriting.StandsForRun.{IsOfVersions, listing_named}
use Rattle.prepared_code.specs.Tables.{Version, Versions, version_at}
use Rattle.prepared_code.specs.Versions.{catcher_in, current_of, first_of, handlers_in, instruction_in, line_in, method_of, listing_of}
use Rattle.prepared_code.specs.VersionListings.{AreVersions}

-- past the methods there is no code
none-at : (p : Program) (k at : ℕ) → length p.methods ≤ k → (original p).at k at ≡ None
none-at p k at le =
    ap (option_and_then (λ (place : MethodPlace). option_and_then (λ c. method_instruction c place.position at) (class_at p place.class))) (slice_get_past p.methods k le)

none-handled : (p : Program) (k : ℕ) → length p.methods ≤ k → (original p).handlers k ≡ []
none-handled p k le =
    ap (λ o. unwrap_or (option_and_then (λ (place : MethodPlace). option_and_then (λ c. method_handlers c place.position) (class_at p place.class)) o) []) (slice_get_past p.methods k le)

module _ (p : Program) (norm : ℕ → ℕ → ℕ) (homes : ℕ → ℕ → ℕ) (v : Versions) (are : AreVersions p norm homes v) where
  abbrev t : Listing
  t = listing_named (method_of v) (current_of v) (original p)

  pub method-held : (k : ℕ) (x : Version) → version_at v k ≡ Some x → method_of v k ≡ x.method
  method-held k x is = ap (λ (o : Option Version). option_map_or (λ y. y.method) o (max (k - 4294967296) (length v.current))) is

  method-unheld : (k : ℕ) → version_at v k ≡ None → length p.methods ≤ method_of v k
  method-unheld k is =
      subst (λ n. length p.methods ≤ n) (sym (ap (λ (o : Option Version). option_map_or (λ y. y.method) o (max (k - 4294967296) (length v.current))) is))
      (omega (arith, are.count))

  pub begins-by : (k : ℕ) → k ≡ method_of v (current_of v k)
  begins-by k =
      ⊎_elim
      (λ (lt : k < length p.methods). let own = are.current k lt in sym (method-held (current_of v k) own.version own.held ∙ own.own))
      (λ (le : length p.methods ≤ k).
      let here : current_of v k ≡ 4294967296 + k = ap (λ o. unwrap_or o (4294967296 + k)) (slice_get_past v.current k (omega (arith, are.count))) in
      let past : version_at v (4294967296 + k) ≡ None = are.far (4294967296 + k) (omega arith) in
      sym (ap (method_of v) here
      ∙ (ap (λ (o : Option Version). option_map_or (λ y. y.method) o (max (4294967296 + k - 4294967296) (length v.current))) past ∙ omega (arith, are.count))))
      (cases_lt k (length p.methods))

  first-by : (k : ℕ) (o : Option Version) → version_at v k ≡ o → first_of v k ≡ homes k 0
  first-by k None is = ap (λ (o : Option Version). option_map_or (λ y. y.prepared.first) o 0) is ∙ sym (ap (λ (h : ℕ → ℕ). h 0) (are.unheld k is))
  first-by k (Some x) is = ap (λ (o : Option Version). option_map_or (λ y. y.prepared.first) o 0) is ∙ (are.each k x is).first

  lines-by : (k at : ℕ) (o : Option Version) → version_at v k ≡ o → IsPlace norm (method_of v k) at
      → (listing_of v).at k (homes k at) ≡ option_map (moved_instruction (homes k)) ((original p).at (method_of v k) at)
  lines-by k at None is here =
      ap (λ (o : Option Version). option_map instruction_in (option_and_then (line_in (homes k at)) o)) is
      ∙ sym (ap (option_map (moved_instruction (homes k))) (none-at p (method_of v k) at (method-unheld k is)))
  lines-by k at (Some x) is here =
      let own : method_of v k ≡ x.method = method-held k x is in
      ap (λ (o : Option Version). option_map instruction_in (option_and_then (line_in (homes k at)) o)) is
      ∙ ((are.each k x is).lines at (subst (λ m. IsPlace norm m at) own here)
      ∙ sym (ap (λ m. option_map (moved_instruction (homes k)) ((original p).at m at)) own))

  handlers-by : (k : ℕ) (o : Option Version) → version_at v k ≡ o → handlers_in v k ≡ map (moved_catcher (homes k)) ((original p).handlers (method_of v k))
  handlers-by k None is =
      ap (λ (o : Option Version). option_map_or (λ y. map catcher_in y.prepared.handlers) o []) is
      ∙ sym (ap (map (moved_catcher (homes k))) (none-handled p (method_of v k) (method-unheld k is)))
  handlers-by k (Some x) is =
      ap (λ (o : Option Version). option_map_or (λ y. map catcher_in y.prepared.handlers) o []) is
      ∙ ((are.each k x is).handlers ∙ sym (ap (λ m. map (moved_catcher (homes k)) ((original p).handlers m)) (method-held k x is)))

  rises-by : (k a b : ℕ) (o : Option Version) → version_at v k ≡ o → ((original p).handlers (method_of v k) ≡ [] → ⊥) → IsPlace norm (method_of v k) a → IsPlace norm (method_of v k) b
      → a < b → homes k a < homes k b
  rises-by k a b None is some pa pb less = absurd (some (none-handled p (method_of v k) (method-unheld k is)))
  rises-by k a b (Some x) is some pa pb less =
      let own : method_of v k ≡ x.method = method-held k x is in
      (are.each k x is).rises a b (λ none. some (ap (original p).handlers own ∙ none)) (subst (λ m. IsPlace norm m a) own pa) (subst (λ m. IsPlace norm m b) own pb) less

  pub versions-agree : IsOfVersions norm (method_of v) (current_of v) homes (original p) (listing_of v)
  versions-agree = record {
    begins = begins-by;
    agrees = record {
      current = λ k. refl;
      first = λ k. first-by k (version_at v k) refl;
      lines = λ k at here. lines-by k at (version_at v k) refl here;
      handlers = λ k. handlers-by k (version_at v k) refl;
      bounds = λ k. are.bounds (method_of v k);
      rises = λ k a b some pa pb less. rises-by k a b (version_at v k) refl some pa pb less;
    };
  }
