-- The widths of operands' numbers.
use Rattle.std.specs.Int.{Width, w8, w16, w32}
use Rattle.code_model.specs.declared.sizes.NumberSize.{NumberSize}
use Rattle.code_model.specs.declared.sizes.NumberSize.TheVariants.{One, Two, Four}

abbrev pub width : NumberSize → Width
width One = w8
width Two = w16
width Four = w32
