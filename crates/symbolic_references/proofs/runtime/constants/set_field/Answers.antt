use Rattle.std.proofs.Common.{◌≡◌, Some, subst, sym, rules}
use Rattle.std.specs.Option.{option_map}
use Rattle.jvm_model.specs.Running.Constants.{sets_field}
use Rattle.jvm_model.specs.Running.Constants as model
use Rattle.symbolic_references.specs.Held.{IsSetting, constant_view, field_of}
use Rattle.symbolic_references.specs.Runtimes.{with_fields}
use Rattle.symbolic_references.proofs.runtime.constants.set_field.Goals as goal

pub returns-in-Some-Units-clause-set : goal.returns-in-Some-Units-clause-set
returns-in-Some-Units-clause-set c = λ p s is.
    let seen : option_map constant_view c.args.constant ≡ Some (model.Units c.in-Some-Units.units.now) = search rules in
    subst (λ constant. IsSetting c.set_string.result (with_fields c.set_string.new.heap c.set_string.new.statics s)
    (sets_field p (field_of c.args.class c.args.position) constant (with_fields c.args.heap.now c.args.statics.now s)))
    (sym seen) (c.set_string.ensures.set p s is)
