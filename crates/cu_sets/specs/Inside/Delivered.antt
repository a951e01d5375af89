-- The end of a search for all values, by the built-in entities of its program.
use Rattle.std.specs.Prelude.{List, ℕ, length, None, Some}
use Rattle.cu_calculus.specs.declared.builtin.Special.{Special}
use Rattle.cu_calculus.specs.Gives.{listed}
use Rattle.cu_calculus.specs.Value as value
use Rattle.cu_calculus.specs.Value.{Value}
use Rattle.cu_machine.specs.Build.{written}
use Rattle.cu_machine.specs.Graph.{Graph, put, stuck}
use Rattle.cu_machine.specs.Sort.{sorted}
use Rattle.cu_machine.specs.Spell.{push_value}

-- the graph in which the values that were found stand in place of the call `id`, as the definition
-- of a step has it
abbrev pub delivered_by : Special → Graph → ℕ → List Value → Graph
delivered_by special graph id found = elim special.values [
  | Some c ↦ written graph id (push_value (length graph)
      (value.Constructed c
      (value.MoreValues (listed special.nil special.cons (sorted found)) value.NoValue)))
  | None ↦ put graph id stuck
]
