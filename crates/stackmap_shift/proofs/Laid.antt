-- The homes that a layout gives are homes as what moves tables asks for.
use Rattle.std.proofs.Common.{ℕ, List, length, sym, ◌∙◌}
use Rattle.std.proofs.lemmas.List.{length-map}
use Rattle.code_model.specs.declared.laying.Group.{Group}
use Rattle.code_model.specs.Layout.{Spot, all_spots, homes_of}
use Rattle.code_model.specs.Groups.{AreGroups}
use Rattle.code_model.proofs.Offsets.Lookups.{Rises-increasing}
use Rattle.code_model.proofs.CodeLayouts.Among.{homes_rise}
use Rattle.code_model.proofs.CodeLayouts.Layouts.{starts-increasing}
use Rattle.code_model.proofs.CodeLayouts.Ready.{groups_read}
use Rattle.stackmap_shift.specs.Conditions.{AreHomes}

pub homes_of-AreHomes : (front : List ℕ) (groups : List Group) → AreGroups groups → AreHomes (homes_of front groups)
homes_of-AreHomes front groups are =
    let spots = all_spots front groups in
    record {
      starts = starts-increasing are.bytes front groups (groups_read groups are);
      homes = Rises-increasing (length front) _ (homes_rise (length front) 0 groups);
      each = length-map spots (λ (s : Spot). s.home) ∙ sym (length-map spots (λ (s : Spot). s.from));
    }
