use Rattle.base_classes.proofs.Computed.{all_have_pools}
use Rattle.base_classes.proofs.make_all.Goals as goal

pub loop-group-init : goal.loop-group-init
loop-group-init c = (c.new-classes.ensures.items, all_have_pools _ c.groups-group-items.ensures)
