-- what is left of the methods decides
use Rattle.std.proofs.Common.{◌≡◌, drop}
use Rattle.std.specs.List.{list_any}
use Rattle.admit_check.specs.Shapes.{has_wrong_text}
use Rattle.code_admission.specs.Texts.{is_method_text}
use Rattle.admit_check.proofs.shapes.has_wrong_method.Given as goal

abbrev pub invariant-loop-method : goal.invariant-loop-method
invariant-loop-method l =
    list_any (has_wrong_text is_method_text l.pool) (drop l.method-index l.methods) ≡ list_any (has_wrong_text is_method_text l.pool) l.methods
