-- What is to be found on a disk image, or on a part of it (docs/FORMAT.md, 'Check').
use Rattle.std.specs.Prelude.{ℕ, ◌+◌, List, [], ◌++◌, Option}
use Rattle.std.specs.Option.{option_to_list}
use Rattle.inspection.specs.declared.damage.Damage.{Damage}

-- how many cells and headers have open gates, how many entries right headers have, and what breaks the format, in its order
pub record Found : Type 0 where
  pub cells : ℕ
  pub copies : ℕ
  pub damages : List Damage

abbrev pub nothing : Found
nothing = record { cells = 0; copies = 0; damages = [] }

-- one cell or header with an open gate, and how it breaks the format, if it does
abbrev pub cell_with : Option Damage → Found
cell_with damage = record { cells = 1; copies = 0; damages = option_to_list damage }

-- one entry of a right header, and how its copy breaks the format, if it does
abbrev pub copy_with : Option Damage → Found
copy_with damage = record { cells = 0; copies = 1; damages = option_to_list damage }

-- what breaks the format where no gate is open
abbrev pub only_damage : Option Damage → Found
only_damage damage = record { cells = 0; copies = 0; damages = option_to_list damage }

-- what is found first, and what is found then
abbrev pub and_then : Found → Found → Found
and_then first then = record {
  cells = first.cells + then.cells;
  copies = first.copies + then.copies;
  damages = first.damages ++ then.damages;
}
