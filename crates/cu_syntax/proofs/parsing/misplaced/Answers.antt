use Rattle.std.proofs.Common.{sym, ◌∙◌, map}
use Rattle.cu_lex.specs.Reading.{lexeme_of}
use Rattle.cu_syntax.proofs.PartLemmas.{part_not_whole, part_too_long}
use Rattle.cu_syntax.proofs.parsing.misplaced.Goals as goal

pub returns-then-is_long : goal.returns-then-is_long
returns-then-is_long c = λ names imports.
    part_too_long imports _ c.args.last c.first_line-line.result (map (lexeme_of names) c.args.tokens.now) (sym (c.is_long.ensures names) ∙ c.if-is_long.true) (c.first_line-line.ensures names)

pub returns : goal.returns
returns c = λ names imports.
    part_not_whole imports c.args.last c.first_line-line.result (map (lexeme_of names) c.args.tokens.now) (sym (c.is_long.ensures names) ∙ c.if-is_long.false) (c.first_line-line.ensures names)
