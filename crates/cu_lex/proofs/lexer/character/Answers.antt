use Rattle.std.proofs.Common.{◌∙◌}
use Rattle.cu_lex.specs.Reading.{position_of}
use Rattle.cu_lex.specs.Inside.Scanning.{left}
use Rattle.cu_lex.proofs.LexLemmas.{character-piece-is, character-fault, character-bad}
use Rattle.cu_lex.proofs.lexer.character.Goals as goal

pub returns-in-Value : goal.returns-in-Value
returns-in-Value c = λ names.
    let is = c.in-Value.ensures in
    record { piece = character-piece-is (left c.args.start) is.0 (left c.in-Value.end) c.in-Value.c c.requires is.1 is.2 is.3; known = tt }

pub returns-in-OutOfRange : goal.returns-in-OutOfRange
returns-in-OutOfRange c = λ names.
    let is = c.in-OutOfRange.ensures in
    (c.place.ensures.owner, is.2, character-fault (left c.args.start) is.1 is.2 is.0 (position_of c.place.result) c.requires is.3 is.4 is.5 (λ first rest at. c.place.ensures.at first rest (is.6 ∙ at)))

pub returns-in-Bad : goal.returns-in-Bad
returns-in-Bad c = λ names. (c.place-in-Bad.ensures.owner, character-bad (left c.args.start) c.requires c.in-Bad.ensures, c.place-in-Bad.ensures.at)
