-- A step that loads several classes tells them in one change: the superclass, the interfaces in their order, and then
-- the class itself (JVM Specification 5.3).
use Rattle.std.specs.Prelude.{◌≡◌, [], ◌∷◌, codes, refl}
use Rattle.jvm_model.specs.Basis.Data.{Loads}
use Rattle.jvm_model.specs.Running.Run.{turn_in}
use Rattle.jvm_model.proofs.Worked.WorkedLibrary.{class, interface}
use Rattle.jvm_model.proofs.Worked.WorkedPrograms.{Sketches, alone, at, changes_of, main_routine, new, pop, returns, sketch}

-- main makes an A, whose superclass is B, and which implements I and J
abbrev four : Sketches
four = record {
  classes = alone (codes "M") (main_routine 1 (at 0 3 (new (codes "A")) ∷ at 3 1 pop ∷ at 4 1 returns ∷ []) ∷ [])
      ∷ sketch (class (codes "A") (codes "B") (codes "I" ∷ codes "J" ∷ [])) []
      ∷ alone (codes "B") []
      ∷ sketch (interface (codes "I") []) []
      ∷ sketch (interface (codes "J") []) []
      ∷ [];
  main = 0;
}

four-loads : changes_of four 1 ≡ Loads (2 ∷ 3 ∷ 4 ∷ 1 ∷ []) ∷ []
unfolding turn_in
four-loads = refl

-- they stay loaded, so the steps behind it load nothing
four-pops : changes_of four 2 ≡ []
unfolding turn_in
four-pops = refl
