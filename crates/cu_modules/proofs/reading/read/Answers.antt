use Rattle.std.proofs.Common.{map}
use Rattle.cu_lex.specs.Reading.{lexeme_of}
use Rattle.cu_names.proofs.Growth.{known-extends}
use Rattle.cu_modules.proofs.ReadLemmas.{layout_told, module_owned, name_is_right, name_is_wrong, same_laid, same_owner, syntax_told, tokens_told, with_layout}
use Rattle.cu_modules.proofs.reading.read.Goals as goal

pub returns-in-Err-clause-fault : goal.returns-in-Err-clause-fault
returns-in-Err-clause-fault c = tokens_told c.lex.new.names c.args.name c.args.text.now c.in-Err.fault c.of_tokens.result c.of_tokens.ensures c.in-Err.ensures.fault

pub returns-in-Err-block-clause-fault : goal.returns-in-Err-block-clause-fault
returns-in-Err-block-clause-fault c =
    layout_told c.lex.new.names c.args.name c.args.text.now c.in-Ok.tokens.items c.in-Err-block.fault c.of_layout.result c.of_layout.ensures c.in-Ok.ensures.tokens c.in-Ok.ensures.owned c.in-Err-block.ensures.fault

pub returns-in-Ok-parse_module-clause-read : goal.returns-in-Ok-parse_module-clause-read
returns-in-Ok-parse_module-clause-read c =
    let names = c.lex.new.names in
    let id = c.args.name in
    let laid = c.as_slice.result.now in
    let is = same_laid c.in-Ok.tokens.items c.in-Ok-block.laid.items laid c.as_slice.ensures.value c.in-Ok-block.ensures.tokens in
    let known = known-extends c.lex.ensures.names id c.requires.known in
    let differ = c.lex.ensures.differ c.requires.differ in
    let has = with_layout names c.args.text.now c.in-Ok.tokens.items laid c.in-Ok.ensures.tokens is in
    let parsed = c.in-Ok-parse_module.module in
    let read = c.in-Ok-parse_module.ensures.syntax names in
    let owned = module_owned id names c.in-Ok.tokens.items laid parsed c.in-Ok.ensures.owned is (c.in-Ok-parse_module.ensures.owned id names) in
    name_is_right names id c.args.text.now (map (lexeme_of names) laid) parsed c.named.result has read (c.named.ensures.right names known differ owned)

pub returns-in-Ok-parse_module-clause-fault : goal.returns-in-Ok-parse_module-clause-fault
returns-in-Ok-parse_module-clause-fault c =
    let names = c.lex.new.names in
    let id = c.args.name in
    let laid = c.as_slice.result.now in
    let is = same_laid c.in-Ok.tokens.items c.in-Ok-block.laid.items laid c.as_slice.ensures.value c.in-Ok-block.ensures.tokens in
    let known = known-extends c.lex.ensures.names id c.requires.known in
    let differ = c.lex.ensures.differ c.requires.differ in
    let has = with_layout names c.args.text.now c.in-Ok.tokens.items laid c.in-Ok.ensures.tokens is in
    let parsed = c.in-Ok-parse_module.module in
    let read = c.in-Ok-parse_module.ensures.syntax names in
    let owned = module_owned id names c.in-Ok.tokens.items laid parsed c.in-Ok.ensures.owned is (c.in-Ok-parse_module.ensures.owned id names) in
    name_is_wrong names id c.args.text.now (map (lexeme_of names) laid) parsed c.named.result has read (c.named.ensures.wrong names known differ owned)

pub returns-in-Ok-parse_module-clause-count : goal.returns-in-Ok-parse_module-clause-count
returns-in-Ok-parse_module-clause-count c = c.named.ensures.count

pub returns-in-Ok-parse_module-clause-owned : goal.returns-in-Ok-parse_module-clause-owned
returns-in-Ok-parse_module-clause-owned c =
    let names = c.lex.new.names in
    let id = c.args.name in
    let laid = c.as_slice.result.now in
    let is = same_laid c.in-Ok.tokens.items c.in-Ok-block.laid.items laid c.as_slice.ensures.value c.in-Ok-block.ensures.tokens in
    let known = known-extends c.lex.ensures.names id c.requires.known in
    let differ = c.lex.ensures.differ c.requires.differ in
    let parsed = c.in-Ok-parse_module.module in
    let read = c.in-Ok-parse_module.ensures.syntax names in
    let owned = module_owned id names c.in-Ok.tokens.items laid parsed c.in-Ok.ensures.owned is (c.in-Ok-parse_module.ensures.owned id names) in
    same_owner names id parsed c.named.result (c.named.ensures.right names known differ owned) owned

pub returns-clause-fault : goal.returns-clause-fault
returns-clause-fault c =
    let names = c.lex.new.names in
    let laid = c.as_slice.result.now in
    let is = same_laid c.in-Ok.tokens.items c.in-Ok-block.laid.items laid c.as_slice.ensures.value c.in-Ok-block.ensures.tokens in
    let has = with_layout names c.args.text.now c.in-Ok.tokens.items laid c.in-Ok.ensures.tokens is in
    syntax_told names c.args.name c.args.text.now (map (lexeme_of names) laid) c.in-Err-parse_module.fault c.of_syntax.result c.of_syntax.ensures has (c.in-Err-parse_module.ensures.fault names)
