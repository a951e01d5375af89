-- The reading of a value: what is known at each moment of it.
use Rattle.std.specs.Prelude.{◌≡◌, ℕ, ◌+◌, true, List, ◌++◌, length, map}
use Rattle.cu_calculus.specs.Value.{Value, values_of}
use Rattle.cu_machine.specs.Graph.{Graph}
use Rattle.cu_machine.specs.Places.{joined}
use Rattle.cu_machine.specs.Spell.{all_renumbered, cells, cells_of_all, ordinal, renumbered, spelled, variables_in, variables_of_all}
use Rattle.cu_machine.specs.Validity.{are_places}
use Rattle.cu_values.specs.declared.cell.Cell.{Cell}
use Rattle.cu_values.specs.Cells.{spell, spell_all}

-- the cells of values in which variables have these numbers
abbrev pub text : (ℕ → ℕ) → List Value → List Cell
text number vs = spell_all (all_renumbered number (values_of vs))

-- the variables that were met after a node's value was read, where these had been met before
abbrev pub met_in : List ℕ → Graph → ℕ → List ℕ
met_in variables graph id = joined variables (variables_in (spelled graph id))

-- What holds at each moment of the reading of a node's value, where these variables had been met
-- before it: what was written and the values of the nodes that are left are the whole, and the room
-- for cells, the limit, has shrunk by as much as was written.
pub record Written (graph : Graph) (id : ℕ) (variables : List ℕ) (room : ℕ) (written : List Cell)
    (left : List ℕ) (limit : ℕ) (met : List ℕ) : Type 0 where
  pub there : are_places (length graph) left ≡ true
  pub meets : joined met (variables_of_all (map (spelled graph) left)) ≡ met_in variables graph id
  pub writes : written ++ text (ordinal (met_in variables graph id)) (map (spelled graph) left)
      ≡ spell (renumbered (ordinal (met_in variables graph id)) (spelled graph id))
  pub counts : limit + cells_of_all (map (spelled graph) left) ≡ room + cells (spelled graph id)

-- The values of the first goal variables were read, and these variables were met.
pub record AllRead (graph : Graph) (limit : ℕ) (goals : List ℕ) (bindings : List Value) (room : ℕ)
    (met : List ℕ) : Type 0 where
  pub meets : met ≡ variables_of_all (map (spelled graph) goals)
  pub reads : bindings ≡ map (renumbered (ordinal met)) (map (spelled graph) goals)
  pub counts : room + cells_of_all (map (spelled graph) goals) ≡ limit
