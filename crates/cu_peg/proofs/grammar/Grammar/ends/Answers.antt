use Rattle.std.proofs.Common.{◌∙◌, List, length, map, subst}
use Rattle.cu_lex.specs.Reading.{lexeme_of}
use Rattle.cu_peg.specs.declared.row.Row.{Row}
use Rattle.cu_peg.specs.Inside.Ends.{IsRight}
use Rattle.cu_peg.specs.Inside.Reached.{kept}
use Rattle.cu_peg.specs.Result.{has_at}
use Rattle.cu_peg.proofs.grammar.Grammar.ends.Goals as goal

pub returns-clause-right : goal.returns-clause-right
returns-clause-right c = λ names.
    subst (λ (rows : List Row). IsRight (kept c.args.marks.now rows) (has_at (map (lexeme_of names) c.args.tokens.now)) (length c.args.tokens.now) c.places.table.columns)
    (c.as_slice-rows.ensures.value ∙ c.self.view_is) (c.places.invariant.right names)
