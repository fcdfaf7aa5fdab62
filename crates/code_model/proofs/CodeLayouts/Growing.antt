-- Homes that are made spot by spot.
use Rattle.std.proofs.Common.{◌≡◌, List, [], ◌++◌, append_assoc}
use Rattle.std.proofs.lemmas.List.{append-nil, map-append}
use Rattle.code_model.specs.declared.laying.Homes.{Homes}
use Rattle.code_model.specs.Layout.{Spot, with_spots}

pub with_spots-nil : (homes : Homes) → with_spots homes [] ≡ homes
with_spots-nil homes = simp append-nil

pub with_spots-with_spots : (homes : Homes) (some more : List Spot) → with_spots (with_spots homes some) more ≡ with_spots homes (some ++ more)
with_spots-with_spots homes some more = simp (append_assoc, map-append)
