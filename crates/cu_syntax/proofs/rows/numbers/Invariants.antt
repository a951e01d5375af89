-- What was pushed and what is left are the numbers of all symbols.
use Rattle.std.proofs.Common.{◌≡◌, ◌++◌, drop, map}
use Rattle.cu_syntax.specs.Table.{number}
use Rattle.cu_syntax.proofs.rows.numbers.Given as goal

abbrev pub invariant-loop-symbol : goal.invariant-loop-symbol
invariant-loop-symbol l = l.numbers.items ++ map number (drop l.symbol-index l.symbols) ≡ map number l.symbols
