-- what is left of the needs decides, with what is loaded by then
use Rattle.std.proofs.Common.{◌≡◌, ◌-◌, ◌++◌, ◌∷◌, [], drop, map}
use Rattle.jvm_model.specs.Classes.Load.{load_named, load_needs, needs_of}
use Rattle.class_linker.specs.States.{IsLater, IsState, need_view}
use Rattle.class_linker.proofs.loading.+load_named.Given as goal

abbrev pub decreases-load_named : goal.decreases-load_named
decreases-load_named l = l.depth

abbrev pub invariant-loop-need : goal.invariant-loop-need
invariant-loop-need l =
    IsState l.index l.state
    × IsLater l.fn.state l.state
    × (l.path ≡ l.fn.path ++ l.class ∷ [])
    × (load_needs l.index (load_named l.index (l.depth - 1) (l.fn.path ++ l.class ∷ [])) (map need_view (drop l.need-index l.need-items)) l.state.loaded
    ≡ load_needs l.index (load_named l.index (l.depth - 1) (l.fn.path ++ l.class ∷ [])) (needs_of l.index l.class) l.fn.state.loaded)
