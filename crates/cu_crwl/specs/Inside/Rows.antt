-- The clause matrix (Maranget 2008) among whose rows the checker chooses an alternative, and what a
-- look at it finds, as the code's values stand for them.
use Rattle.std.specs.Prelude.{Bool, ◌||◌, List, map}
use Rattle.cu_calculus.specs.Choose as calculus
use Rattle.cu_calculus.specs.Choose.{not_literal, demands_constructor, demands_literal, demands_nothing}
use Rattle.cu_matrix.specs.Meaning.{patterns_at}
use Rattle.cu_crwl.specs.declared.choose.Keep.{Keep}
use Rattle.cu_crwl.specs.declared.choose.Keep.TheVariants as keep
use Rattle.cu_crwl.specs.declared.choose.Look.{Look}
use Rattle.cu_crwl.specs.declared.choose.Look.TheVariants as look
use Rattle.cu_crwl.specs.declared.choose.Row.{Row}

-- the row that a row of the code stands for
abbrev pub row_meaning : Row → calculus.Row
row_meaning row = record { patterns = patterns_at row.patterns.items; choice = row.choice }

-- the rows that rows of the code stand for
abbrev pub rows_meaning : List Row → List calculus.Row
rows_meaning rows = map row_meaning rows

-- whether a row with this demand stays
abbrev pub keeps : Keep → calculus.Demand → Bool
keeps (keep.OnlyLiteral l) d = demands_literal l d
keeps (keep.LiteralOrNothing l) d = demands_nothing d || demands_literal l d
keeps (keep.NotLiteral l) d = not_literal l d
keeps (keep.OnlyConstructor c) d = demands_constructor c d
keeps (keep.ConstructorOrNothing c) d = demands_nothing d || demands_constructor c d

-- the outcome of a look that one of the code stands for
abbrev pub look_meaning : Look → calculus.Look
look_meaning look.Nowhere = calculus.Nowhere
look_meaning (look.Take k) = calculus.Take k
look_meaning (look.Again rows) = calculus.Again (rows_meaning rows.items)
look_meaning (look.Specialize rows values) =
    calculus.Specialize (rows_meaning rows.items) values.items
