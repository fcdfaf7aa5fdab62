-- What each instruction asks for (JVM Specification 2.6, 2.11, 5.4.3, 5.5, 6.5), and what it loads before. A rule sees
-- what is shared and its frame's locals and operands, and no place: neither its own, nor the following one, nor a
-- target. So it says the same of a frame that stands elsewhere, as in a rewritten code.
use Rattle.std.specs.Prelude.{ℕ, List, []}
use Rattle.jvm_model.specs.Basis.Data.{Locals, Operands, Shared, World, Local, Operation, Within, Named, Athrow, Monitor, Newarray, Arraylength, LoadElement, StoreElement, LdcString, Done}
use Rattle.jvm_model.specs.Instructions.ConstantRules.{pushes_string}
use Rattle.jvm_model.specs.Instructions.LocalRules.{within}
use Rattle.jvm_model.specs.Instructions.SymbolicReference.{newly_loaded}
use Rattle.jvm_model.specs.Instructions.ReferenceRules.{does_named}
use Rattle.jvm_model.specs.Instructions.ObjectRules.{done, loads_element, makes, measures, array_element_of, stores_element, storing_of, throws, watches}
use Rattle.jvm_model.specs.Basis.Values.{int_of, ref_of}

abbrev pub does : World → Operation Local → Shared → Locals → Operands → Done
does w (Within i) s l o = done s (within i l o)
does w (Named n) s l o = does_named w n s l o
does w Athrow s l o = done s (throws w s (ref_of o))
does w Monitor s l o = done s (watches (ref_of o) l o)
does w (Newarray kind) s l o = makes kind (int_of o) s l o
does w Arraylength s l o = done s (measures (ref_of o) s l o)
does w (LoadElement k) s l o = done s (loads_element k (array_element_of o) s l o)
does w (StoreElement k) s l o = stores_element w.program k (storing_of k o) s l o
does w (LdcString units) s l o = pushes_string w.program units s l o

-- The classes that an instruction loads before it is attempted (5.3, 5.4.3): of what it names, and what that needs.
abbrev pub loads : World → Operation Local → Shared → Operands → List ℕ
loads w (Named n) s o = newly_loaded w.program s.loaded n o
loads w _ s o = []
