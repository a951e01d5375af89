-- The rule of a symbol stands at the symbol's number, and so does its row.
use Rattle.std.specs.Prelude.{◌≡◌, Some, map, slice_get}
use Rattle.std.specs.Option.{option_map}
use Rattle.std.proofs.Common.{ap, ◌∙◌}
use Rattle.std.proofs.lemmas.Option.{slice_get-map}
use Rattle.cu_syntax.specs.declared.symbol.Symbol.{Symbol}
use Rattle.cu_syntax.specs.Table.{number, row_of, rows, rule_of, symbols}
use Rattle.cu_syntax.proofs.SymbolLemmas.{symbol_at}

rule_at : (s : Symbol) → slice_get (map rule_of symbols) (number s) ≡ Some (rule_of s)
rule_at s = slice_get-map rule_of symbols (number s) ∙ ap (option_map rule_of) (symbol_at s)

pub row_at : (s : Symbol) → slice_get rows (number s) ≡ Some (row_of (rule_of s))
row_at s = slice_get-map row_of (map rule_of symbols) (number s) ∙ ap (option_map row_of) (rule_at s)
