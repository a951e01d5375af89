use Rattle.std.proofs.Common.{Err, ◌+◌, sym}
use Rattle.std.proofs.lemmas.List.Elements.{All-take}
use Rattle.cu_lex.specs.Reading.{IsTokenOf}
use Rattle.cu_syntax.specs.Answer.{Tells, items_meaning}
use Rattle.cu_syntax.specs.Parsing.{ModuleRead}
use Rattle.cu_syntax.proofs.EmptyText.{owned_module}
use Rattle.cu_syntax.proofs.ModuleLemmas.{no_block, right_module, wrong_header, wrong_item}
use Rattle.cu_syntax.proofs.PartLemmas.{passed_on}
use Rattle.cu_syntax.proofs.SplitLemmas.{lexemes}
use Rattle.cu_syntax.proofs.OwnerLemmas.{all_after}
use Rattle.cu_syntax.proofs.parsing.parse_module.Goals as goal

pub returns-in_default-clause-fault : goal.returns-in_default-clause-fault
returns-in_default-clause-fault c = λ names. no_block names c.args.tokens.now (sym (c.in_default.ensures.number names))

pub returns-in_err-header-clause-fault : goal.returns-in_err-header-clause-fault
returns-in_err-header-clause-fault c = λ names.
    passed_on (Tells (λ fault. ModuleRead (lexemes names c.args.tokens.now) (Err fault))) c.from_residual-in_err-header.result c.in_err-header.field-0.0 c.from_residual-in_err-header.ensures.1
    (wrong_header names c.in-Some.opening c.args.tokens.now c.in_err-header.field-0.0 (sym (c.in-Some.ensures.number names)) (c.in_err-header.ensures.fault names))

pub returns-in_err-items-clause-fault : goal.returns-in_err-items-clause-fault
returns-in_err-items-clause-fault c = λ names.
    passed_on (Tells (λ fault. ModuleRead (lexemes names c.args.tokens.now) (Err fault))) c.from_residual-in_err-items.result c.in_err-items.field-0.0 c.from_residual-in_err-items.ensures.1
    (wrong_item names c.in-Some.opening c.line_through-last.result c.args.tokens.now c.tokens_after.result.now c.in_ok-header.header c.in_err-items.field-0.0
    (sym (c.in-Some.ensures.number names)) (c.line_through-last.ensures names) c.tokens_after.ensures (c.in_ok-header.ensures.header names) (c.in_err-items.ensures.fault names))

pub returns-clause-syntax : goal.returns-clause-syntax
returns-clause-syntax c = λ names.
    right_module names c.in-Some.opening c.line_through-last.result c.args.tokens.now c.tokens_after.result.now c.in_ok-header.header (items_meaning names c.in_ok-items.items.items)
    (sym (c.in-Some.ensures.number names)) (c.line_through-last.ensures names) c.tokens_after.ensures (c.in_ok-header.ensures.header names) (c.in_ok-items.ensures.items names)

pub returns-clause-owned : goal.returns-clause-owned
returns-clause-owned c = λ owner names are.
    owned_module owner names c.args.tokens.now c.in_ok-header.header c.in_ok-items.items.items are
    (λ whole. (
      c.in_ok-header.ensures.owned owner names (All-take (IsTokenOf owner names) c.in-Some.opening c.args.tokens.now whole),
      c.in_ok-items.ensures.owned owner names (all_after (IsTokenOf owner names) c.args.tokens.now c.tokens_after.result.now (c.in-Some.opening + 1) c.tokens_after.ensures whole),
    ))
    (right_module names c.in-Some.opening c.line_through-last.result c.args.tokens.now c.tokens_after.result.now c.in_ok-header.header (items_meaning names c.in_ok-items.items.items)
    (sym (c.in-Some.ensures.number names)) (c.line_through-last.ensures names) c.tokens_after.ensures (c.in_ok-header.ensures.header names) (c.in_ok-items.ensures.items names))
