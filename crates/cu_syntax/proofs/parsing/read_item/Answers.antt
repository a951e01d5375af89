use Rattle.std.proofs.Common.{map}
use Rattle.cu_lex.specs.Reading.{lexeme_of}
use Rattle.cu_syntax.specs.Owners.{ParsedIsOf}
use Rattle.cu_syntax.proofs.PartLemmas.{declaration_read, if_none, if_some, import_read, no_item}
use Rattle.cu_syntax.proofs.parsing.read_item.Goals as goal

pub returns-in-Some-clause-item : goal.returns-in-Some-clause-item
returns-in-Some-clause-item c = λ names.
    let found = if_some c.in_ok-parsed.field-0 _ c.in-Some.parsed c.in-Some.is (c.in_ok-parsed.ensures.import names) in
    import_read names c.args.imports (map (lexeme_of names) c.args.tokens.now) c.in-Some.parsed (if_some c.in_ok-parsed.field-0 _ c.in-Some.parsed c.in-Some.is c.in_ok-parsed.ensures.symbol) found.0 found.1

pub returns-in-Some-2-clause-item : goal.returns-in-Some-2-clause-item
returns-in-Some-2-clause-item c = λ names.
    declaration_read names c.args.imports (map (lexeme_of names) c.args.tokens.now) c.in-Some-2.parsed (if_some c.in_ok-parsed-2.field-0 _ c.in-Some-2.parsed c.in-Some-2.is c.in_ok-parsed-2.ensures.symbol)
    (if_some c.in_ok-parsed-2.field-0 _ c.in-Some-2.parsed c.in-Some-2.is (c.in_ok-parsed-2.ensures.tree names))

pub returns-in-None-clause-none : goal.returns-in-None-clause-none
returns-in-None-clause-none c = λ names.
    no_item c.args.imports (map (lexeme_of names) c.args.tokens.now)
    (if_none c.in_ok-parsed-2.field-0 _ c.in-None.is (c.in_ok-parsed-2.ensures.none names))
    (if_none c.in_ok-parsed.field-0 _ c.in_default.is (c.in_ok-parsed.ensures.none names))

pub returns-in-Some-clause-owned : goal.returns-in-Some-clause-owned
returns-in-Some-clause-owned c = λ owner names whole. if_some c.in_ok-parsed.field-0 (ParsedIsOf owner names) c.in-Some.parsed c.in-Some.is (c.in_ok-parsed.ensures.owned owner names whole)

pub returns-in-Some-2-clause-owned : goal.returns-in-Some-2-clause-owned
returns-in-Some-2-clause-owned c = λ owner names whole. if_some c.in_ok-parsed-2.field-0 (ParsedIsOf owner names) c.in-Some-2.parsed c.in-Some-2.is (c.in_ok-parsed-2.ensures.owned owner names whole)
