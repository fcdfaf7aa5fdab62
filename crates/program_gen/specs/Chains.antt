-- The draws of one class, from a state on.
use Rattle.std.specs.Prelude.{ℕ, zero, suc, ◌%◌}
use Rattle.program_gen.specs.declared.rows.ClassName.{ClassName}
use Rattle.program_gen.specs.declared.rows.ClassName.TheVariants.{Object, Numbered}
use Rattle.program_gen.specs.declared.rows.Choices.{Choices}
use Rattle.program_gen.specs.Draws.{next_state, number_of, state_at, draw_at}

-- the state behind the draw of the superclass
abbrev pub state_above : ℕ → ℕ → ℕ
state_above x zero = x
state_above x (suc i) = next_state x

abbrev pub superclass_from : ℕ → ℕ → ClassName
superclass_from x zero = Object
superclass_from x (suc i) = Numbered (number_of (next_state x) % suc i)

abbrev pub state_behind : ℕ → ℕ → ℕ
state_behind x number = state_at (state_above x number) 4

abbrev pub choices_from : ℕ → ℕ → ℕ → Choices
choices_from x size number = record {
  superclass = superclass_from x number;
  left = draw_at (state_above x number) 0 % size;
  factor = draw_at (state_above x number) 1;
  addend = draw_at (state_above x number) 2;
  right = draw_at (state_above x number) 3 % size;
}
