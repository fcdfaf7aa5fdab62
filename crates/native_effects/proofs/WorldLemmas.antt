-- A change of the heap alone.
use Rattle.std.proofs.Common.{◌≡◌, Bool, true, false}
use Rattle.heap_objects.specs.Changes.{changed_if}
use Rattle.heap_objects.specs.Heaps.{HeapView}
use Rattle.native_effects.specs.Effects.Worlds.{World}

pub heap_changed : (done : Bool) (f : HeapView → HeapView) (new : HeapView) (w : World) → new ≡ changed_if done f w.heap
    → new ≡ (changed_if done (λ (w : World). record w { heap = f w.heap }) w).heap
heap_changed true f new w is = is
heap_changed false f new w is = is
