-- What is known of an instruction that names a class and no member, and of one that invokes.
use Rattle.std.proofs.Common.{ℕ, List}
use Rattle.jvm_model.specs.declared.program.Program.{Program}
use Rattle.const_pool.specs.References.{Reference}
use Rattle.jvm_model.specs.Instructions.InvocationRules.{Selecting, Virtual, OfInterface, Special}
use Rattle.jvm_model.specs.declared.instruction.SymbolicReference.{SymbolicReference}
use Rattle.jvm_model.specs.declared.instruction.SymbolicReference.TheVariants.{New, Checkcast, Instanceof}
use Rattle.member_selection.specs.declared.known.Found.{Found}
use Rattle.member_selection.specs.declared.known.Found.TheVariants as found
use Rattle.member_selection.specs.declared.known.Site.{Site}
use Rattle.member_selection.specs.Known.{IsClassFound, IsFoundAs, IsSite, IsSiteOf, symbolic_reference_by}

pub class_found : (f : Found) (p : Program) (kind : ℕ) (n : SymbolicReference) → IsFoundAs f p kind n → IsClassFound f p kind
class_found found.Nothing p kind n is = tt
class_found (found.Field field slot last) p kind n is = tt
class_found (found.Static field) p kind n is = tt
class_found (found.Fixed m) p kind n is = tt
class_found (found.Selected site) p kind n is = tt
class_found (found.Made text) p kind n is = is
class_found (found.Below last) p kind n is = is

module _ (name : List ℕ) (p : Program) (kind : ℕ) where
  pub found_new : (f : Found) → IsClassFound f p kind → IsFoundAs f p kind (New name)
  found_new found.Nothing is = tt
  found_new (found.Field field slot last) is = tt
  found_new (found.Static field) is = tt
  found_new (found.Fixed m) is = tt
  found_new (found.Selected site) is = tt
  found_new (found.Made text) is = is
  found_new (found.Below last) is = is

  pub found_checkcast : (f : Found) → IsClassFound f p kind → IsFoundAs f p kind (Checkcast name)
  found_checkcast found.Nothing is = tt
  found_checkcast (found.Field field slot last) is = tt
  found_checkcast (found.Static field) is = tt
  found_checkcast (found.Fixed m) is = tt
  found_checkcast (found.Selected site) is = tt
  found_checkcast (found.Made text) is = is
  found_checkcast (found.Below last) is = is

  pub found_instanceof : (f : Found) → IsClassFound f p kind → IsFoundAs f p kind (Instanceof name)
  found_instanceof found.Nothing is = tt
  found_instanceof (found.Field field slot last) is = tt
  found_instanceof (found.Static field) is = tt
  found_instanceof (found.Fixed m) is = tt
  found_instanceof (found.Selected site) is = tt
  found_instanceof (found.Made text) is = is
  found_instanceof (found.Below last) is = is

-- ---- invocations, whichever they are

module _ (p : Program) (kind : ℕ) (r : Reference) (site : Site) where
  pub site_of : (by : Selecting) → IsSite p kind by r site → IsSiteOf (symbolic_reference_by by r) p kind site
  site_of Virtual is = is
  site_of OfInterface is = is
  site_of (Special caller interface) is = is

  pub of_site : (by : Selecting) → IsSiteOf (symbolic_reference_by by r) p kind site → IsSite p kind by r site
  of_site Virtual is = is
  of_site OfInterface is = is
  of_site (Special caller interface) is = is
