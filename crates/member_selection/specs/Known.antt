-- What the names of an instruction came to, as it is kept for its next attempt (JVM Specification 5.4.3). Of all of it
-- only what is loaded may change, and that only grows; so what is known stays known.
use Rattle.std.specs.Prelude.{◌≡◌, ℕ, Bool, true, false, Some, Ok}
use Rattle.const_pool.specs.References.{Reference}
use Rattle.class_linker.specs.Linkers.{LinkerView}
use Rattle.jvm_model.specs.declared.program.Program.{Program}
use Rattle.jvm_model.specs.Instructions.CreationRules.{has_no_instances, is_text_class}
use Rattle.jvm_model.specs.Instructions.FieldRules.{slot_of}
use Rattle.jvm_model.specs.Classes.Load.{loading_done, load_of}
use Rattle.jvm_model.specs.Instructions.InvocationRules.{Selecting, Virtual, OfInterface, Special, names_interface, selected_by}
use Rattle.jvm_model.specs.Instructions.SymbolicReference.{is_below_kind, resolved_name}
use Rattle.jvm_model.specs.declared.instruction.SymbolicReference.{SymbolicReference}
use Rattle.jvm_model.specs.declared.instruction.SymbolicReference.TheVariants.{Getfield, Putfield, Getstatic, Putstatic, Invokevirtual, Invokespecial, Invokestatic, Invokeinterface}
use Rattle.jvm_model.specs.Basis.SharedState.{class_of_kind}
use Rattle.member_selection.specs.declared.known.Chosen.{Chosen}
use Rattle.member_selection.specs.declared.known.Found.{Found}
use Rattle.member_selection.specs.declared.known.Found.TheVariants as found
use Rattle.member_selection.specs.declared.known.Known.{Known}
use Rattle.member_selection.specs.declared.known.Site.{Site}
use Rattle.member_selection.specs.declared.declared_member.DeclaredMember.{DeclaredMember}
use Rattle.member_selection.specs.Callees.{HasCallee, chosen_place}
use Rattle.member_selection.specs.Members.{at_place}
use Rattle.member_selection.specs.Objects.{IsResolved, has_field_at}
use Rattle.member_selection.specs.Resolved.{field_found, method_found}

-- ---- fields

-- an instance field that a name stands for, its slot, and a kind whose objects have it
pub record IsField (p : Program) (kind : ℕ) (r : Reference) (field : DeclaredMember) (slot last : ℕ) : Type 0 where
  pub named : field_found p kind false r ≡ Ok (at_place field)
  pub stands : slot ≡ slot_of p (at_place field)
  pub own : has_field_at p (Some last) kind field.class ≡ true

abbrev pub IsFieldOf : SymbolicReference → Program → ℕ → DeclaredMember → ℕ → ℕ → Type 0
IsFieldOf (Getfield r) p kind field slot last = IsField p kind r field slot last
IsFieldOf (Putfield r) p kind field slot last = IsField p kind r field slot last
IsFieldOf n p kind field slot last = Unit {0}

-- a static field that a name stands for
abbrev pub IsStaticOf : SymbolicReference → Program → ℕ → DeclaredMember → Type 0
IsStaticOf (Getstatic r) p kind field = field_found p kind true r ≡ Ok (at_place field)
IsStaticOf (Putstatic r) p kind field = field_found p kind true r ≡ Ok (at_place field)
IsStaticOf n p kind field = Unit {0}

-- ---- methods

-- a static method that a name stands for
pub record IsFixed (p : Program) (kind : ℕ) (r : Reference) (m : Chosen) : Type 0 where
  pub named : method_found p kind false true r ≡ Ok (chosen_place m)
  pub callee : HasCallee p m

abbrev pub IsFixedOf : SymbolicReference → Program → ℕ → Chosen → Type 0
IsFixedOf (Invokestatic r) p kind m = IsFixed p kind r m
IsFixedOf n p kind m = Unit {0}

-- an instance method that a name stands for, a kind below the named one, and what is selected for its objects
pub record IsSite (p : Program) (kind : ℕ) (by : Selecting) (r : Reference) (site : Site) : Type 0 where
  pub named : method_found p kind (names_interface by) false r ≡ Ok (at_place site.method)
  pub below : is_below_kind p (Some site.last) (Some kind) ≡ true
  pub chosen : selected_by p by (at_place site.method) (class_of_kind p site.last) ≡ Some (chosen_place site.chosen)
  pub callee : HasCallee p site.chosen

abbrev pub IsSiteOf : SymbolicReference → Program → ℕ → Site → Type 0
IsSiteOf (Invokevirtual r) p kind site = IsSite p kind Virtual r site
IsSiteOf (Invokeinterface r) p kind site = IsSite p kind OfInterface r site
IsSiteOf (Invokespecial caller r interface) p kind site = IsSite p kind (Special caller interface) r site
IsSiteOf n p kind site = Unit {0}

-- the instruction that invokes so
abbrev pub symbolic_reference_by : Selecting → Reference → SymbolicReference
symbolic_reference_by Virtual r = Invokevirtual r
symbolic_reference_by OfInterface r = Invokeinterface r
symbolic_reference_by (Special caller interface) r = Invokespecial caller r interface

-- ---- classes

-- a class of which `new` makes objects, which are texts or not
pub record IsMade (p : Program) (class : ℕ) (text : Bool) : Type 0 where
  pub instances : has_no_instances p class ≡ false
  pub texts : is_text_class p class ≡ text

-- ---- what is known

-- what the member's name came to, where the class's was resolved to this kind: nothing of it is about what is loaded
abbrev pub IsFoundAs : Found → Program → ℕ → SymbolicReference → Type 0
IsFoundAs found.Nothing p kind n = Unit {0}
IsFoundAs (found.Field field slot last) p kind n = IsFieldOf n p kind field slot last
IsFoundAs (found.Static field) p kind n = IsStaticOf n p kind field
IsFoundAs (found.Fixed m) p kind n = IsFixedOf n p kind m
IsFoundAs (found.Selected site) p kind n = IsSiteOf n p kind site
IsFoundAs (found.Made text) p kind n = IsMade p (class_of_kind p kind) text
IsFoundAs (found.Below last) p kind n = is_below_kind p (Some last) (Some kind) ≡ true

-- the same where the instruction names no member
abbrev pub IsClassFound : Found → Program → ℕ → Type 0
IsClassFound (found.Made text) p kind = IsMade p (class_of_kind p kind) text
IsClassFound (found.Below last) p kind = is_below_kind p (Some last) (Some kind) ≡ true
IsClassFound f p kind = Unit {0}

-- resolving what the instruction names loads nothing, whether it throws or not
abbrev pub LoadsNothing : LinkerView → SymbolicReference → Type 0
LoadsNothing l n = (load_of l.program l.loaded (resolved_name n)).loaded ≡ l.loaded

-- the kind that the class's name was resolved to, where resolving it loads nothing, and the member
pub record IsKnown (l : LinkerView) (n : SymbolicReference) (k : Known) : Type 0 where
  pub resolved : IsResolved l (resolved_name n) k.kind
  pub loads : load_of l.program l.loaded (resolved_name n) ≡ loading_done l.loaded
  pub found : IsFoundAs k.found l.program k.kind n
