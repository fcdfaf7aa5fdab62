-- What was selected for receivers, kept for the whole program (JVM Specification 5.4.6). Nothing of it is about what is
-- loaded.
use Rattle.std.specs.Prelude.{◌≡◌, ℕ, Bool, true, false, List, Option, Some, slice_get}
use Rattle.jvm_model.specs.declared.program.Program.{Program}
use Rattle.jvm_model.specs.Instructions.InvocationRules.{Selecting, Virtual, OfInterface, selected_by}
use Rattle.jvm_model.specs.Instructions.SymbolicReference.{is_below_kind}
use Rattle.jvm_model.specs.Basis.SharedState.{class_of_kind}
use Rattle.member_selection.specs.declared.known.Chosen.{Chosen}
use Rattle.member_selection.specs.declared.known.Site.{Site}
use Rattle.member_selection.specs.declared.declared_member.DeclaredMember.{DeclaredMember}
use Rattle.member_selection.specs.declared.selections.Selection.{Selection}
use Rattle.member_selection.specs.Callees.{HasCallee, chosen_place}
use Rattle.member_selection.specs.Members.{at_place}

abbrev pub Slots : Type 0
Slots = List (Option Selection)

-- invokevirtual or invokeinterface
abbrev pub selecting_by : Bool → Selecting
selecting_by true = OfInterface
selecting_by false = Virtual

-- objects of the kind are of the named one, and this is selected for them
pub record IsSelection (p : Program) (s : Selection) : Type 0 where
  pub below : is_below_kind p (Some s.site.last) (Some s.kind) ≡ true
  pub chosen : selected_by p (selecting_by s.interface) (at_place s.site.method) (class_of_kind p s.site.last) ≡ Some (chosen_place s.site.chosen)
  pub callee : HasCallee p s.site.chosen

-- the same in parts
abbrev pub site_for : DeclaredMember → ℕ → Chosen → Site
site_for method last chosen = record { method = method; last = last; chosen = chosen }

abbrev pub selection_for : ℕ → Bool → Site → Selection
selection_for kind interface site = record { kind = kind; interface = interface; site = site }

pub record AreSelections (p : Program) (kept : Slots) : Type 0 where
  pub each : (at : ℕ) (s : Selection) → slice_get kept at ≡ Some (Some s) → IsSelection p s
