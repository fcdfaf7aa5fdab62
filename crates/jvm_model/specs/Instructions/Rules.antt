-- What the rules of instructions have in common (JVM Specification 2.6, 2.11, 5.4.3, 5.5, 6.5): a class that is
-- initialized before, an invocation, and members that are known by name.
use Rattle.std.specs.Prelude.{ℕ, Bool, false, List, drop, Option, Some, None, ◌&&◌}
use Rattle.const_pool.specs.References.{Reference}
use Rattle.jvm_model.specs.Basis.Data.{Datum, Operands, Phase, Fresh, Running, Ready, Erroneous, Program, Shared, Outcome, Invokes, Raises, Initializes, Breaks, Done}
use Rattle.jvm_model.specs.Basis.Descriptors.{same_text}
use Rattle.jvm_model.specs.Instructions.ObjectRules.{done}
use Rattle.jvm_model.specs.Basis.SharedState.{phase_of, no_class_definition}
use Rattle.jvm_model.specs.Basis.Programs.{name_at}

-- ---- initialization (5.5)

-- the class is initialized first, unless it is or is being
abbrev pub when_ready : Program → Option Phase → ℕ → Shared → Done → Done
when_ready p (Some Ready) class s d = d
when_ready p (Some Running) class s d = d
when_ready p (Some Fresh) class s d = done s (Initializes class)
when_ready p (Some Erroneous) class s d = done s (Raises no_class_definition (name_at p class))
when_ready p None class s d = done s (Raises no_class_definition (name_at p class))

abbrev pub class_initialized : Program → ℕ → Shared → Done → Done
class_initialized p class s d = when_ready p (phase_of s class) class s d

-- ---- members that the rules know by name

-- the member is this one
abbrev pub is_reference : List ℕ → List ℕ → List ℕ → Reference → Bool
is_reference class name descriptor r = same_text r.class class && same_text r.member.name name && same_text r.member.descriptor descriptor

-- ---- invocation

abbrev pub invokes : ℕ → ℕ → Option (List Datum) → Operands → Outcome
invokes method count None o = Breaks false
invokes method count (Some args) o = Invokes method args (drop count o)
