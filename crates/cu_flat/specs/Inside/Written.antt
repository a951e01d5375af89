-- The expressions that were written so far.
use Rattle.std.specs.Prelude.{List, map}
use Rattle.cu_calculus.specs.Code.{Expr}
use Rattle.cu_flat.specs.Meaning.{entry_meaning}
use Rattle.cu_flat.specs.declared.arena.Arena.{Arena}

-- the expressions of an arena
abbrev pub written : Arena → List Expr
written arena = map entry_meaning arena.entries.items
