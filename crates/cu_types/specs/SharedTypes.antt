-- The types that tables of their own stand for.
use Rattle.std.specs.Prelude.{◌<◌, length, map}
use Rattle.cu_kernel.specs.TypeExpr.{TypeExpr}
use Rattle.cu_types.specs.Table.{IsTable, at, shape_of, trees}
use Rattle.cu_types.specs.declared.shared.SharedType.TheInside.{Inside}

-- the type that a type in a table of its own stands for
abbrev pub shared : Inside → TypeExpr
shared t = at (trees (map shape_of t.types.items)) t.place

pub record IsShared (t : Inside) : Type 0 where
  pub table : IsTable (map shape_of t.types.items)
  pub within : t.place < length (map shape_of t.types.items)
