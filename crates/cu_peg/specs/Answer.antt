-- What the making of a grammar answers.
use Rattle.std.specs.Prelude.{List}
use Rattle.cu_peg.specs.declared.grammar.BadGrammar.{BadGrammar}
use Rattle.cu_peg.specs.declared.grammar.BadGrammar.TheVariants as answer
use Rattle.cu_peg.specs.declared.row.Row.{Row}
use Rattle.cu_peg.specs.WellFormed.{IsFirstEndless}

-- An answer tells the first row that may match without end. An allocation failure says nothing.
abbrev pub TellsEndless : List Row → BadGrammar → Type 0
TellsEndless rows (answer.Row r) = IsFirstEndless rows r
TellsEndless rows answer.NoMemory = Unit {0}
