use Rattle.std.proofs.Common.{rules, ◌≡◌, [], length, map, refl}
use Rattle.std.proofs.lemmas.List.{nil_from_length}
use Rattle.cu_lex.specs.Reading.{lexeme_of}
use Rattle.cu_syntax.specs.Owners.{ParsedIsOf}
use Rattle.cu_syntax.proofs.PartLemmas.{header_found, if_none, if_some, no_header, no_tokens, some_tokens}
use Rattle.cu_syntax.proofs.parsing.read_header.Goals as goal

pub returns-then-is_empty-clause-header : goal.returns-then-is_empty-clause-header
returns-then-is_empty-clause-header c = λ names.
    let h = c.is_empty.ensures in
    let k = c.if-is_empty.true in
    let zero : length c.args.tokens.now ≡ 0 = search rules in
    no_header (map (lexeme_of names) c.args.tokens.now) (no_tokens names c.args.tokens.now (nil_from_length c.args.tokens.now zero))

pub returns-in-Some-clause-header : goal.returns-in-Some-clause-header
returns-in-Some-clause-header c = λ names.
    let h = c.is_empty.ensures in
    let k = c.if-is_empty.false in
    let some : ¬ (c.args.tokens.now ≡ []) = search rules in
    header_found names (map (lexeme_of names) c.args.tokens.now) c.in-Some.parsed (some_tokens names c.args.tokens.now some)
    (if_some c.in_ok-parsed.field-0 _ c.in-Some.parsed c.in-Some.is (c.in_ok-parsed.ensures.tree names))

pub returns-in-None-clause-fault : goal.returns-in-None-clause-fault
returns-in-None-clause-fault c = λ names.
    let h = c.is_empty.ensures in
    let k = c.if-is_empty.false in
    let some : ¬ (c.args.tokens.now ≡ []) = search rules in
    (refl, some_tokens names c.args.tokens.now some, if_none c.in_ok-parsed.field-0 _ c.in-None.is (c.in_ok-parsed.ensures.none names))

pub returns-in-Some-clause-owned : goal.returns-in-Some-clause-owned
returns-in-Some-clause-owned c = λ owner names whole. if_some c.in_ok-parsed.field-0 (ParsedIsOf owner names) c.in-Some.parsed c.in-Some.is (c.in_ok-parsed.ensures.owned owner names whole)
