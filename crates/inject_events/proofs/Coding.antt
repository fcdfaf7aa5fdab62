-- What becomes of a method's attributes, one after the other.
use Rattle.std.proofs.Common.{◌≡◌, Bool, true, false, List, ◌∷◌, refl}
use Rattle.std.specs.Prelude.{◌||◌}
use Rattle.const_pool.specs.declared.class.Attribute.{Attribute}
use Rattle.const_pool.specs.declared.class.Attribute.TheVariants.{ConstantValue, Code, Other}
use Rattle.const_pool.specs.declared.class.CodeAttribute.{CodeAttribute}
use Rattle.inject_events.specs.Probing.{coded_at, is_code, coded_among}

pub coded_next : (placed : Bool) (code : CodeAttribute) (attribute : Attribute) (rest : List Attribute)
    → coded_among placed code (attribute ∷ rest) ≡ coded_at placed code attribute ∷ coded_among (placed || is_code attribute) code rest
coded_next true code attribute rest = refl
coded_next false code (Code name old) rest = refl
coded_next false code (ConstantValue name index) rest = refl
coded_next false code (Other raw) rest = refl
