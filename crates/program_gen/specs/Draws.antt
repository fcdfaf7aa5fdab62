-- The draws of the generator, and what each of them decides.
use Rattle.std.specs.Prelude.{ℕ, zero, suc, ◌+◌, ◌*◌, ◌/◌, ◌%◌, ◌^◌}
use Rattle.program_gen.specs.declared.rows.ClassName.{ClassName}
use Rattle.program_gen.specs.declared.rows.ClassName.TheVariants.{Object, Numbered}
use Rattle.program_gen.specs.declared.rows.Choices.{Choices}

abbrev pub next_state : ℕ → ℕ
next_state x = (x * 1103515245 + 12345) % 2 ^ 31

-- the number of 15 bits that a state gives
abbrev pub number_of : ℕ → ℕ
number_of x = x / 65536

-- the state behind so many draws
abbrev pub state_at : ℕ → ℕ → ℕ
state_at seed zero = seed
state_at seed (suc k) = next_state (state_at seed k)

-- a draw, by its place from 0 on
abbrev pub draw_at : ℕ → ℕ → ℕ
draw_at seed place = number_of (next_state (state_at seed place))

-- what the first draw of a class decides, except of the first class
abbrev pub superclass_of : ℕ → ℕ → ClassName
superclass_of seed zero = Object
superclass_of seed (suc i) = Numbered (draw_at seed (5 * i + 4) % suc i)

-- four draws of each class decide these
abbrev pub choices_of : ℕ → ℕ → ℕ → Choices
choices_of seed size i = record {
  superclass = superclass_of seed i;
  left = draw_at seed (5 * i) % size;
  factor = draw_at seed (5 * i + 1);
  addend = draw_at seed (5 * i + 2);
  right = draw_at seed (5 * i + 3) % size;
}
