-- What was pushed and what is left are the rows of all symbols.
use Rattle.std.proofs.Common.{◌≡◌, ◌++◌, drop, map}
use Rattle.cu_syntax.specs.Table.{row_of, rule_of}
use Rattle.cu_syntax.proofs.rows.rows_of.Given as goal

abbrev pub invariant-loop-symbol : goal.invariant-loop-symbol
invariant-loop-symbol l =
    l.rows.items ++ map row_of (map rule_of (drop l.symbol-index l.symbols)) ≡ map row_of (map rule_of l.symbols)
