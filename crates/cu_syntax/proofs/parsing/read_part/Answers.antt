use Rattle.std.proofs.Common.{rules, ◌≡◌, [], map, refl, sym, ◌∙◌}
use Rattle.cu_lex.specs.Reading.{lexeme_of}
use Rattle.cu_syntax.specs.Answer.{item_meaning}
use Rattle.cu_syntax.specs.Parsing.{PartRead}
use Rattle.cu_syntax.specs.Owners.{ItemIsOf}
use Rattle.cu_syntax.proofs.PartLemmas.{if_none, if_some, part_no_item, part_too_long, some_tokens}
use Rattle.cu_syntax.proofs.parsing.read_part.Goals as goal

pub returns-then-is_long-clause-fault : goal.returns-then-is_long-clause-fault
returns-then-is_long-clause-fault c = λ names.
    part_too_long c.args.imports _ c.args.last c.first_line.result (map (lexeme_of names) c.args.tokens.now) (sym (c.is_long.ensures names) ∙ c.if-is_long.true) (c.first_line.ensures names)

pub returns-in-Some-clause-item : goal.returns-in-Some-clause-item
returns-in-Some-clause-item c = λ names.
    PartRead.item (item_meaning names c.in-Some.item) (sym (c.is_long.ensures names) ∙ c.if-is_long.false) refl
    (if_some c.in_ok-item.field-0 _ c.in-Some.item c.in-Some.is (c.in_ok-item.ensures.item names))

pub returns-in-None-clause-fault : goal.returns-in-None-clause-fault
returns-in-None-clause-fault c = λ names.
    let h = c.is_empty.ensures in
    let k = c.if-is_empty.false in
    let some : ¬ (c.args.tokens.now ≡ []) = search rules in
    part_no_item c.args.imports c.args.last c.first_line-in-None.result (map (lexeme_of names) c.args.tokens.now) (sym (c.is_long.ensures names) ∙ c.if-is_long.false)
    (some_tokens names c.args.tokens.now some) (if_none c.in_ok-item.field-0 _ c.in-None.is (c.in_ok-item.ensures.none names)) (c.first_line-in-None.ensures names)

pub returns-in-Some-clause-owned : goal.returns-in-Some-clause-owned
returns-in-Some-clause-owned c = λ owner names whole. if_some c.in_ok-item.field-0 (ItemIsOf owner names) c.in-Some.item c.in-Some.is (c.in_ok-item.ensures.owned owner names whole)
