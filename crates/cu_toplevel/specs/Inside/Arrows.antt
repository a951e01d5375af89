-- Types of functions of several parameters.
use Rattle.std.specs.Prelude.{List, [], ◌∷◌}
use Rattle.cu_kernel.specs.TypeExpr.{Arrow, TypeExpr}

-- the type of functions of parameters of these types, one after another, with a result of another
-- type
abbrev pub arrows : List TypeExpr → TypeExpr → TypeExpr
arrows [] to = to
arrows (t ∷ ts) to = Arrow t (arrows ts to)
