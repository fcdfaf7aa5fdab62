-- The image of a method of a program whose codes are closed is a version of it.
use Rattle.std.proofs.Common.{◌≡◌, ℕ, List, [], map, length, Option, Some, ap, ◌∙◌}
use Rattle.std.specs.List.{AllByRecursion}
use Rattle.std.specs.Option.{option_and_then, option_map, unwrap_or}
use Rattle.const_pool.specs.declared.class.ClassFile.{ClassFile}
use Rattle.const_pool.specs.declared.class.CodeAttribute.{CodeAttribute}
use Rattle.code_model.specs.declared.laying.Homes.{Homes}
use Rattle.code_model.specs.Layout.{home_of}
use Rattle.jvm_model.specs.declared.event.Mark.{Mark}
use Rattle.jvm_model.specs.declared.program.MethodPlace.{MethodPlace}
use Rattle.jvm_model.specs.declared.program.Program.{Program}
use Rattle.jvm_model.specs.Codes.Closed.{norm_of}
use Rattle.jvm_model.specs.Basis.Data.{Catcher}
use Rattle.jvm_model.specs.Codes.Lines.{code_instruction, method_instruction}
use Rattle.jvm_model.specs.Basis.Methods.{method_code}
use Rattle.jvm_model.specs.Codes.Originals.{catcher_of, method_handlers, original}
use Rattle.jvm_model.specs.Basis.Programs.{class_at, code_of_method, place_of_method}
use Rattle.jvm_model.specs.Rewriting.Versions.{IsVersion}
use Rattle.jvm_model.specs.Codes.ProgramPlaces.{IsClosedCode, is_place_in}
use Rattle.prepared_code.specs.Rewritten.{rewritten_version}
use Rattle.prepared_code.specs.VersionListings.{IsVersionOf}
use Rattle.prepared_code.proofs.Images.ImageVersions.{image-version}
use Rattle.jvm_model.proofs.Relocated.PlacesOf.{places-of}
use Rattle.prepared_code.specs.LaidMethods.{CanBeLaid, NamesClass}

module _ (p : Program) (method : ℕ) (here : MethodPlace) (c image : ClassFile) (old : CodeAttribute)
    (stands : place_of_method p method ≡ Some here) (of : class_at p here.class ≡ Some c) (coded : method_code c here.position ≡ Some old) where
  -- what is looked up by number is that of the class
  by-class : {A : Type 0} (look : ClassFile → ℕ → Option A)
      → option_and_then (λ (place : MethodPlace). option_and_then (λ c. look c place.position) (class_at p place.class)) (place_of_method p method) ≡ look c here.position
  by-class look =
      ap (option_and_then (λ (place : MethodPlace). option_and_then (λ c. look c place.position) (class_at p place.class))) stands
      ∙ ap (option_and_then (λ (c : ClassFile). look c here.position)) of

  pub code-is : code_of_method p method ≡ Some old
  code-is = by-class method_code ∙ coded

  at-is : (place : ℕ) → (original p).at method place ≡ code_instruction c old.code place
  at-is place = by-class (λ c method. method_instruction c method place) ∙ ap (option_and_then (λ (code : CodeAttribute). code_instruction c code.code place)) coded

  handlers-is : (original p).handlers method ≡ map (catcher_of c) old.handlers
  handlers-is =
      ap (λ (o : Option (List Catcher)). unwrap_or o []) (by-class method_handlers ∙ ap (option_map (λ (code : CodeAttribute). map (catcher_of c) code.handlers)) coded)

  pub method-image : (count number : ℕ) (mark : Mark) (new : CodeAttribute) (homes : Homes) (version : IsVersion count number mark old new homes) → CanBeLaid count number mark c image old version.reading
      → AllByRecursion (NamesClass c image) old.handlers → IsClosedCode old
      → IsVersionOf p (norm_of (is_place_in p)) (rewritten_version method image new homes (length old.code)) (home_of homes)
  method-image count number mark new homes version can named closed =
      image-version p (norm_of (is_place_in p)) method c image count number mark old new homes version can at-is handlers-is named
      (places-of p method old code-is version.reading.instrs version.reads.instrs closed.reads can.some)
