use Rattle.std.proofs.Common.{rules, ◌≡◌, [], Err, map}
use Rattle.cu_lex.specs.Reading.{lexeme_of}
use Rattle.cu_syntax.specs.Answer.{part_with}
use Rattle.cu_syntax.specs.Parsing.{PartRead, PartsRead, part_after_block}
use Rattle.cu_syntax.proofs.PartLemmas.{after_block, some_tokens, tells_more}
use Rattle.cu_syntax.proofs.parsing.nothing_after.Goals as goal

pub returns-clause-fault : goal.returns-clause-fault
returns-clause-fault c = λ names imports.
    let tokens = map (lexeme_of names) c.args.tokens.now in
    let h = c.is_empty.ensures in
    let k = c.if-is_empty.false in
    let some : ¬ (c.args.tokens.now ≡ []) = search rules in
    tells_more (λ fault. PartRead imports (part_with _ c.args.last tokens) (Err fault)) (λ fault. PartsRead imports (part_after_block c.args.last tokens) (Err fault)) c.misplaced.result
    (λ fault r. after_block imports c.args.last tokens fault (some_tokens names c.args.tokens.now some) r) (c.misplaced.ensures names imports)
