-- The same of every operation.
use Rattle.std.proofs.Common.{◌≡◌, ℕ, refl, ap, ◌∙◌}
use Rattle.jvm_model.specs.Basis.Data.{Locals, Operands, Shared, World, Local, Operation, Within, Named, Athrow, Monitor, Newarray, Arraylength, LoadElement, StoreElement, LdcString}
use Rattle.jvm_model.specs.Instructions.Does.{does, loads}
use Rattle.jvm_model.specs.Instructions.ObjectRules.{done, measures, makes, array_element_of, loads_element, storing_of, stores_element, watches, throws}
use Rattle.jvm_model.specs.Basis.Values.{int_of, ref_of}
use Rattle.jvm_model.specs.Codes.Moved.{moved_locals, moved_operands, moved_done}
use Rattle.jvm_model.proofs.Relocated.WithinMoves.{within-moves}
use Rattle.jvm_model.proofs.Relocated.ObjectMoves.{int_of-moves, ref_of-moves, place_of-moves, storing_of-moves, measures-moves, makes-moves, loads_element-moves, stores_element-moves, watches-moves, throws-moves}
use Rattle.jvm_model.proofs.Relocated.NamedMoves.{named-moves, newly_loaded-moves, string-moves}

module _ (h : ℕ → ℕ) where
  pub does-moves : (w : World) (op : Operation Local) (s : Shared) (l : Locals) (o : Operands) → does w op s (moved_locals h l) (moved_operands h o) ≡ moved_done h (does w op s l o)
  does-moves w (Within i) s l o = ap (done s) (within-moves h i l o)
  does-moves w (Named n) s l o = named-moves h w n s l o
  does-moves w Athrow s l o = ap (λ r. done s (throws w s r)) (ref_of-moves h o) ∙ ap (done s) (throws-moves h w s (ref_of o))
  does-moves w Monitor s l o =
      ap (λ r. done s (watches r (moved_locals h l) (moved_operands h o))) (ref_of-moves h o) ∙ ap (done s) (watches-moves h (ref_of o) l o)
  does-moves w (Newarray kind) s l o =
      ap (λ count. makes kind count s (moved_locals h l) (moved_operands h o)) (int_of-moves h o) ∙ makes-moves h kind (int_of o) s l o
  does-moves w Arraylength s l o =
      ap (λ r. done s (measures r s (moved_locals h l) (moved_operands h o))) (ref_of-moves h o) ∙ ap (done s) (measures-moves h (ref_of o) s l o)
  does-moves w (LoadElement k) s l o =
      ap (λ at. done s (loads_element k at s (moved_locals h l) (moved_operands h o))) (place_of-moves h o) ∙ ap (done s) (loads_element-moves h k (array_element_of o) s l o)
  does-moves w (StoreElement k) s l o =
      ap (λ x. stores_element w.program k x s (moved_locals h l) (moved_operands h o)) (storing_of-moves h k o) ∙ stores_element-moves h w.program k (storing_of k o) s l o
  does-moves w (LdcString units) s l o = string-moves h w.program units s l o

  pub loads-moves : (w : World) (op : Operation Local) (s : Shared) (o : Operands) → loads w op s (moved_operands h o) ≡ loads w op s o
  loads-moves w (Named n) s o = newly_loaded-moves h w.program s.loaded n o
  loads-moves w _ s o = refl
