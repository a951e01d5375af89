-- The values that views of cells stand for.
use Rattle.cu_calculus.specs.Value.{Value, Values}
use Rattle.cu_values.specs.Cells.{read, read_all}
use Rattle.cu_values.specs.declared.views.ValueRef.{ValueRef}
use Rattle.cu_values.specs.declared.views.ValuesRef.{ValuesRef}

-- the value that a view of one value stands for
abbrev pub viewed : ValueRef → Value
viewed v = read v.cells.now

-- the values that a view of several values stands for
abbrev pub all_viewed : ValuesRef → Values
all_viewed vs = read_all vs.cells.now

-- the value of a view, and the values of a view of those after it
abbrev pub both_viewed : ValueRef × ValuesRef → Value × Values
both_viewed p = (viewed p.0, all_viewed p.1)
