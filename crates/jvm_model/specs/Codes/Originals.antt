-- Original code as a listing: places are offsets, and the version of a method is the method (JVM Specification 4.7.3).
use Rattle.std.specs.Prelude.{ℕ, List, [], map, Option, None, unwrap_or, ◌==◌, if◌then◌else◌}
use Rattle.std.specs.Option.{option_map}
use Rattle.const_pool.specs.declared.class.ClassFile.{ClassFile}
use Rattle.const_pool.specs.declared.class.Handler.{Handler}
use Rattle.const_pool.specs.References.{named_class}
use Rattle.jvm_model.specs.Basis.Data.{Program, Catcher, Listing}
use Rattle.jvm_model.specs.Basis.Methods.{method_code}
use Rattle.jvm_model.specs.Codes.Lines.{method_instruction}
use Rattle.jvm_model.specs.Basis.Programs.{by_number}

-- an entry of an exception table; catch_type 0 catches all
abbrev pub catcher_of : ClassFile → Handler → Catcher
catcher_of c h = record {
  start = h.start;
  finish = h.end;
  target = h.handler;
  catches = if h.catch_class == 0 then None else named_class c.pool h.catch_class;
}

abbrev pub method_handlers : ClassFile → ℕ → Option (List Catcher)
method_handlers c method = option_map (λ code. map (catcher_of c) code.handlers) (method_code c method)

abbrev pub original : Program → Listing
original p = record {
  current = λ method. method;
  first = λ version. 0;
  at = λ version offset. by_number p (λ c method. method_instruction c method offset) version;
  handlers = λ version. unwrap_or (by_number p method_handlers version) [];
}
