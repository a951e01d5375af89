use Rattle.std.proofs.Common.{subst}
use Rattle.cu_lex.specs.Inside.Items.{IsString}
use Rattle.cu_lex.specs.Reading.{position_of}
use Rattle.cu_lex.specs.Inside.Scanning.{left, position}
use Rattle.cu_lex.proofs.LexLemmas.{string-piece-is, string-fault}
use Rattle.cu_lex.proofs.QuoteLemmas.{string-never}
use Rattle.cu_lex.proofs.lexer.string.Goals as goal

pub returns-in-Value : goal.returns-in-Value
returns-in-Value c = λ names.
    let is = subst (IsString (left c.args.start)) c.in-Value.is c.in_ok-value.ensures in
    record { piece = string-piece-is (left c.args.start) (left c.in-Value.end) c.in-Value.value c.requires is.0 is.1; known = tt }

pub returns-in-OutOfRange : goal.returns-in-OutOfRange
returns-in-OutOfRange c = λ names.
    let is = subst (IsString (left c.args.start)) c.in-OutOfRange.is c.in_ok-value.ensures in
    (c.place.ensures.owner, is.0, string-fault (left c.args.start) is.0 (position_of c.place.result) (position c.in-OutOfRange.at) c.requires is.1 is.2 c.place.ensures.position)

pub returns-in-Bad : goal.returns-in-Bad
returns-in-Bad c = λ names. (c.place-in-Bad.ensures.owner, string-never (left c.args.start) c.requires (subst (IsString (left c.args.start)) c.in-Bad.is c.in_ok-value.ensures), c.place-in-Bad.ensures.at)
