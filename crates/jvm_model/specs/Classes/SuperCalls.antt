-- Which method invokespecial invokes (JVM Specification chapter 6, invokespecial). ACC_SUPER (4.1) is taken as set in
-- every class, so flags of the caller are not looked at.
use Rattle.std.specs.Prelude.{ℕ, Bool, true, false, not, Option, Some, None, codes, ◌&&◌, if◌then◌else◌}
use Rattle.std.specs.Option.{option_and_then, option_map_or}
use Rattle.const_pool.specs.References.{NameAndType}
use Rattle.jvm_model.specs.declared.program.Program.{Program}
use Rattle.jvm_model.specs.Basis.Descriptors.{same_text}
use Rattle.jvm_model.specs.Classes.Load.{is_among}
use Rattle.jvm_model.specs.Classes.Lookup.{MemberPlace, superclasses}
use Rattle.jvm_model.specs.Basis.Programs.{super_of}
use Rattle.jvm_model.specs.Classes.Selection.{is_abstract, nearest, signature_of}

-- an instance initialization method (2.9)
abbrev pub is_initializer : Program → MemberPlace → Bool
is_initializer p m = option_map_or (λ (s : NameAndType). same_text s.name (codes "<init>")) (signature_of p m) false

-- the method is declared in a proper superclass of the caller
abbrev pub is_inherited : Program → ℕ → MemberPlace → Bool
is_inherited p caller m = option_map_or (λ above. is_among m.class (superclasses p above)) (super_of p caller) false

-- the nearest instance method of its name and descriptor, whatever it overrides, from the caller's direct superclass
-- upwards
abbrev pub nearest_above : Program → ℕ → MemberPlace → Option MemberPlace
nearest_above p caller m = option_and_then (λ above. nearest p above true m) (super_of p caller)

-- A search is made for what is inherited and initializes nothing; else the resolved method is taken, be it private, an
-- interface's, or one of a class that is no superclass.
abbrev pub method_taken : Program → ℕ → MemberPlace → Option MemberPlace
method_taken p caller m = if is_inherited p caller m && not (is_initializer p m) then nearest_above p caller m else Some m

-- What a caller invokes for the resolved method: none where none is found and where it is abstract, which raises
-- AbstractMethodError.
abbrev pub invoked_special : Program → ℕ → MemberPlace → Option MemberPlace
invoked_special p caller m = option_and_then (λ found. if is_abstract p found then None else Some found) (method_taken p caller m)
