-- What is kept of selections stays right as more is kept.
use Rattle.std.proofs.Common.{◌≡◌, ℕ, Bool, zero, suc, List, [], ◌∷◌, ◌++◌, Option, Some, None, sym, subst, ap, ◌∙◌}
use Rattle.std.specs.Prelude.{slice_get, slice_set}
use Rattle.std.specs.Prelude.{◌==◌, IfSome, true, false, Result, Ok, Err, if◌then◌else◌}
use Rattle.std.proofs.lemmas.Option.{none-some}
use Rattle.const_pool.specs.References.{Reference}
use Rattle.class_linker.specs.Linkers.{LinkerView}
use Rattle.heap_objects.specs.declared.datum.Datum.{Datum}
use Rattle.heap_objects.specs.Heaps.{HeapView, kind_at}
use Rattle.jvm_model.specs.Basis.Data.{Operands, Outcome, Raises}
use Rattle.jvm_model.specs.declared.program.Program.{Program}
use Rattle.jvm_model.specs.Instructions.InvocationRules.{Selecting, Special, arguments_by, not_of_class, receiver_in, selected_by}
use Rattle.jvm_model.specs.Basis.SharedState.{null_pointer}
use Rattle.jvm_model.specs.Classes.Kinds.{kind_named}
use Rattle.jvm_model.specs.Classes.Lookup.{MemberPlace}
use Rattle.jvm_model.specs.Instructions.SymbolicReference.{◌>>=◌, is_below_kind, present, receiver}
use Rattle.jvm_model.specs.Basis.SharedState.{class_of_kind}
use Rattle.member_selection.specs.declared.known.Chosen.{Chosen}
use Rattle.member_selection.specs.declared.known.Found.TheVariants as found
use Rattle.member_selection.specs.declared.known.Known.{Known}
use Rattle.member_selection.specs.declared.known.Site.{Site}
use Rattle.member_selection.specs.Known.{IsFoundAs, IsKnown, IsSite, symbolic_reference_by}
use Rattle.member_selection.specs.Members.{at_place}
use Rattle.member_selection.specs.Objects.{class_at_kind}
use Rattle.member_selection.specs.Targets.{Target, data_in, instance_target, receiver_class, target_in}
use Rattle.member_selection.proofs.KnownLemmas.{of_site}
use Rattle.member_selection.specs.declared.selections.Selection.{Selection}
use Rattle.member_selection.specs.declared.declared_member.DeclaredMember.{DeclaredMember}
use Rattle.member_selection.specs.Selections.{AreSelections, IsSelection, Slots, selecting_by, selection_for, site_for}

same-selection : (a b : Selection) → Some (Some a) ≡ Some (Some b) → b ≡ a
same-selection a b e = cc

abbrev AllOf : Program → Slots → Type 0
AllOf p kept = (at : ℕ) (s : Selection) → slice_get kept at ≡ Some (Some s) → IsSelection p s

tail-of : (p : Program) (x : Option Selection) (xs : Slots) → AllOf p (x ∷ xs) → AllOf p xs
tail-of p x xs are at s e = are (suc at) s e

set-slot : (p : Program) (xs : Slots) (k : ℕ) (s : Selection) → AllOf p xs → IsSelection p s → AllOf p (slice_set xs k (Some s))
set-slot p [] k s are is at other e = are at other e
set-slot p (x ∷ xs) zero s are is zero other e = subst (IsSelection p) (sym (same-selection s other e)) is
set-slot p (x ∷ xs) zero s are is (suc at) other e = are (suc at) other e
set-slot p (x ∷ xs) (suc k) s are is zero other e = are zero other e
set-slot p (x ∷ xs) (suc k) s are is (suc at) other e = set-slot p xs k s (tail-of p x xs are) is at other e

pub set_selection : (p : Program) (xs : Slots) (k : ℕ) (s : Selection) → AreSelections p xs → IsSelection p s → AreSelections p (slice_set xs k (Some s))
set_selection p xs k s are is = record { each = set-slot p xs k s are.each is }

pub no_selections : (p : Program) → AreSelections p []
no_selections p = record { each = λ at s e. absurd (none-some (Some s) e) }

free-slot : (p : Program) (xs : Slots) → AllOf p xs → AllOf p (xs ++ None ∷ [])
free-slot p [] are zero s e = absurd (let bad : Some None ≡ Some (Some s) → ⊥ = λ e. cc in bad e)
free-slot p [] are (suc at) s e = absurd (none-some (Some s) e)
free-slot p (x ∷ xs) are zero s e = are zero s e
free-slot p (x ∷ xs) are (suc at) s e = free-slot p xs (tail-of p x xs are) at s e

pub free_selection : (p : Program) (xs : Slots) → AreSelections p xs → AreSelections p (xs ++ None ∷ [])
free_selection p xs are = record { each = free-slot p xs are.each }

pub in-parts : (p : Program) (s : Selection) (kind : ℕ) (interface : Bool) (method : DeclaredMember) (last : ℕ) → s.site.last ≡ last → s.site.method ≡ method → s.kind ≡ kind
    → s.interface ≡ interface → IsSelection p s → IsSelection p (selection_for kind interface (site_for method last s.site.chosen))
in-parts p s kind interface method last at_last at_method at_kind at_interface is =
    subst (λ k. IsSelection p (selection_for k interface (site_for method last s.site.chosen))) at_kind
    (subst (λ b. IsSelection p (selection_for s.kind b (site_for method last s.site.chosen))) at_interface
    (subst (λ m. IsSelection p (selection_for s.kind s.interface (site_for m last s.site.chosen))) at_method
    (subst (λ k. IsSelection p (selection_for s.kind s.interface (site_for s.site.method k s.site.chosen))) at_last is)))

-- ---- what is selected at a site

pub site_by : (p : Program) (kind : ℕ) (interface : Bool) (r : Reference) (site : Site) (last : ℕ) (c : Chosen) → IsSite p kind (selecting_by interface) r site
    → IsSelection p (selection_for kind interface (site_for site.method last c)) → IsSite p kind (selecting_by interface) r (site_for site.method last c)
site_by p kind interface r site last c was is = record { named = was.named; below = is.below; chosen = is.chosen; callee = is.callee }

pub if_kept : (found : Option Chosen) (p : Program) (kind : ℕ) (interface : Bool) (r : Reference) (site : Site) (last : ℕ) → IsSite p kind (selecting_by interface) r site
    → IfSome found (λ c. IsSelection p (selection_for kind interface (site_for site.method last c)))
    → IfSome found (λ c. IsSite p kind (selecting_by interface) r (site_for site.method last c))
if_kept None p kind interface r site last was is = tt
if_kept (Some c) p kind interface r site last was is = site_by p kind interface r site last c was is

-- invokespecial selects the same for every kind
pub special_kept : (p : Program) (kind : ℕ) (caller : List ℕ) (interface : Bool) (r : Reference) (site : Site) (last : ℕ) → is_below_kind p (Some last) (Some kind) ≡ true
    → IsSite p kind (Special caller interface) r site → IsSite p kind (Special caller interface) r (site_for site.method last site.chosen)
special_kept p kind caller interface r site last below is = record { named = is.named; below = below; chosen = is.chosen; callee = is.callee }

module _ (l : LinkerView) (r : Reference) (interface : Bool) (known : Known) (site : Site) (is : known.found ≡ found.Selected site)
    (was : IsKnown l (symbolic_reference_by (selecting_by interface) r) known) where
  was-site : IsSite l.program known.kind (selecting_by interface) r site
  was-site =
      of_site l.program known.kind r site (selecting_by interface)
      (subst (λ f. IsFoundAs f l.program known.kind (symbolic_reference_by (selecting_by interface) r)) is was.found)

  pub selection_of : IsSelection l.program (selection_for known.kind interface site)
  selection_of = record { below = was-site.below; chosen = was-site.chosen; callee = was-site.callee }

-- ---- the target, where what is selected for the receiver's kind is known

module _ (p : Program) (kind : ℕ) (by : Selecting) (r : Reference) (h : HeapView) (o : Operands) (count last : ℕ) (m : DeclaredMember) (c : Chosen)
    (given : Some (data_in count o) ≡ arguments_by true r.member o) (named : kind_named p r.class ≡ Some kind)
    (there : (receiver_in (data_in count o) == 0) ≡ false) (of : Some last ≡ kind_at (receiver_in (data_in count o)) h)
    (site : IsSite p kind by r (site_for m last c)) where
  abbrev object : ℕ
  object = receiver_in (data_in count o)

  abbrev taken : Result ℕ Outcome → Result ℕ Outcome
  taken found = found >>= λ found. Ok (class_at_kind p (kind_at found h))

  fits : is_below_kind p (kind_at object h) (kind_named p r.class) ≡ true
  fits = ap (λ k. is_below_kind p k (kind_named p r.class)) (sym of) ∙ (ap (λ k. is_below_kind p (Some last) k) named ∙ site.below)

  its-class : receiver_class p by r h object ≡ Ok (class_of_kind p last)
  its-class =
      ap (λ b. taken (receiver object b (not_of_class by))) fits
      ∙ (ap (λ b. taken (if b then Err (Raises null_pointer None) else Ok object)) there
      ∙ ap (λ k. Ok (class_at_kind p k)) (sym of))

  abbrev with_class : List Datum → Result ℕ Outcome → Result Target Outcome
  with_class args found = found >>= λ class. Ok (record { selected = selected_by p by (at_place m) class; args = args })

  abbrev with_method : Result MemberPlace Outcome → Result Target Outcome
  with_method found =
      found >>= λ m. present (arguments_by true r.member o) >>= λ args. receiver_class p by r h (receiver_in args)
      >>= λ class. Ok (record { selected = selected_by p by m class; args = args })

  pub target_kept : Ok (target_in o (record { selected = Some c; count = count })) ≡ instance_target p kind by r h o
  target_kept =
      sym (ap with_method site.named
      ∙ (ap (λ args. present args >>= λ args. with_class args (receiver_class p by r h (receiver_in args))) (sym given)
      ∙ (ap (with_class (data_in count o)) its-class
      ∙ ap (λ s. Ok (record { selected = s; args = data_in count o })) site.chosen)))
