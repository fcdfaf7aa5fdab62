-- The first draws of the generator with the seed 1, as another program made them.
use Rattle.std.specs.Prelude.{◌≡◌}
use Rattle.std.proofs.Common.{refl}
use Rattle.program_gen.specs.Draws.{draw_at}

first_draw : draw_at 1 0 ≡ 16838
first_draw = refl

second_draw : draw_at 1 1 ≡ 5758
second_draw = refl

third_draw : draw_at 1 2 ≡ 10113
third_draw = refl

fourth_draw : draw_at 1 3 ≡ 17515
fourth_draw = refl
