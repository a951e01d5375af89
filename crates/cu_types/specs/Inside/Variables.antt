-- The type variables of variables, in a map.
use Rattle.std.specs.Prelude.{ℕ, List, [], ◌∷◌, Option, None, Some, nat_eq}
use Rattle.indexmap.specs.IndexMap.{get}
use Rattle.cu_types.specs.Equations.{Environment, bind}
use Rattle.cu_types.specs.declared.variables.Binding.{Binding}
use Rattle.cu_types.specs.declared.variables.Variables.{Variables}

-- the type variable of a variable: one that isn't bound has 0
abbrev pub or_zero : Option ℕ → ℕ
or_zero None = 0
or_zero (Some t) = t

abbrev pub environment : Variables → Environment
environment v x = or_zero (get nat_eq v.numbers x)

-- an environment after variables were bound again, one after another, to what they had before
abbrev pub undone : List Binding → Environment → Environment
undone [] env = env
undone (b ∷ bs) env = undone bs (bind env b.variable b.before)
