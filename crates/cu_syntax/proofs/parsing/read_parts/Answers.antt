-- What is left decides what all parts are read as.
use Rattle.std.proofs.Common.{Err, ◌+◌, false, sym, take, true}
use Rattle.std.specs.Prelude.{◌+◌, [], drop}
use Rattle.std.proofs.lemmas.List.Elements.{All-take}
use Rattle.cu_lex.specs.Reading.{IsTokenOf}
use Rattle.cu_syntax.specs.Answer.{Tells, items_meaning, part_with}
use Rattle.cu_syntax.specs.Parsing.{PartsRead, part_after_block, parts}
use Rattle.cu_syntax.specs.Owners.{ItemIsOf}
use Rattle.cu_syntax.proofs.PartLemmas.{all_items, closed, fault_first, fault_left, first_reads, no_tokens, passed_on, separated}
use Rattle.cu_syntax.proofs.SplitLemmas.{after_part, lexemes, parts_close, parts_missing, parts_separator}
use Rattle.cu_syntax.proofs.OwnerLemmas.{all_after, none_yet}
use Rattle.cu_syntax.proofs.parsing.read_parts.Goals as goal

pub parts-init : goal.parts-init
parts-init c = record {
  reads = λ names. first_reads names (parts c.args.last (lexemes names c.args.block.now)) c.new-items.result.items c.new-items.ensures.items;
  left = λ owner names whole. whole;
  owned = λ owner names whole. none_yet (ItemIsOf owner names) c.new-items.result.items c.new-items.ensures.items;
}

pub returns-in_err-found-in-Separator-clause-fault : goal.returns-in_err-found-in-Separator-clause-fault
returns-in_err-found-in-Separator-clause-fault c = λ names.
    let all = parts c.args.last (lexemes names c.args.block.now) in
    let left = c.parts.left.now in
    let last = c.parts.last in
    let n = c.in-Separator.length in
    let fault = c.in_err-found-in-Separator.field-0.0 in
    passed_on (Tells (λ f. PartsRead true all (Err f))) c.from_residual.result fault c.from_residual.ensures.1
    (fault_left c.parts.imports all (parts last (lexemes names left)) (items_meaning names c.parts.items.items) fault (c.parts.invariant.reads names)
    (fault_first c.parts.imports (part_with true last (lexemes names (take n left))) (parts last (lexemes names left))
    (parts (after_part names last n left) (lexemes names (drop (n + 1) left))) fault
    (parts_separator names last n left (sym (c.in-Separator.ensures.end names))) (c.in_err-found-in-Separator.ensures.fault names)))

pub parts-preserved : goal.parts-preserved
parts-preserved c = record {
  reads = λ names.
      separated names c.parts.imports c.in_ok-imports-in-Separator.imports (parts c.args.last (lexemes names c.args.block.now)) c.parts.last c.line_through-last.result c.in-Separator.length
      c.parts.left.now c.tokens_after-left.result.now c.parts.items.items c.add_item.new.items.items c.in_ok-found-in-Separator.found
      (sym (c.in-Separator.ensures.end names)) (c.in_ok-found-in-Separator.ensures.item names) (c.in_ok-imports-in-Separator.ensures.items names) (c.line_through-last.ensures names)
      c.tokens_after-left.ensures (c.parts.invariant.reads names);
  left = λ owner names whole.
      all_after (IsTokenOf owner names) c.parts.left.now c.tokens_after-left.result.now (c.in-Separator.length + 1) c.tokens_after-left.ensures (c.parts.invariant.left owner names whole);
  owned = λ owner names whole.
      c.in_ok-imports-in-Separator.ensures.owned owner names (c.parts.invariant.owned owner names whole)
      (c.in_ok-found-in-Separator.ensures.owned owner names (All-take (IsTokenOf owner names) c.in-Separator.length c.parts.left.now (c.parts.invariant.left owner names whole)));
}

pub returns-in_err-found-in-Close-clause-fault : goal.returns-in_err-found-in-Close-clause-fault
returns-in_err-found-in-Close-clause-fault c = λ names.
    let all = parts c.args.last (lexemes names c.args.block.now) in
    let left = c.parts.left.now in
    let last = c.parts.last in
    let n = c.in-Close.length in
    let fault = c.in_err-found-in-Close.field-0.0 in
    passed_on (Tells (λ f. PartsRead true all (Err f))) c.from_residual-in_err-found-in-Close.result fault c.from_residual-in_err-found-in-Close.ensures.1
    (fault_left c.parts.imports all (parts last (lexemes names left)) (items_meaning names c.parts.items.items) fault (c.parts.invariant.reads names)
    (fault_first c.parts.imports (part_with true last (lexemes names (take n left))) (parts last (lexemes names left))
    (part_after_block (after_part names last n left) (lexemes names (drop (n + 1) left))) fault
    (parts_close names last n left (sym (c.in-Close.ensures.end names))) (c.in_err-found-in-Close.ensures.fault names)))

pub returns-in-Missing-clause-fault : goal.returns-in-Missing-clause-fault
returns-in-Missing-clause-fault c = λ names.
    let all = parts c.args.last (lexemes names c.args.block.now) in
    let left = c.parts.left.now in
    let last = c.parts.last in
    fault_left c.parts.imports all (parts last (lexemes names left)) (items_meaning names c.parts.items.items) c.misplaced.result (c.parts.invariant.reads names)
    (fault_first c.parts.imports (part_with false last (lexemes names left)) (parts last (lexemes names left)) [] c.misplaced.result
    (parts_missing names last left (sym (c.in-Missing.ensures.end names))) (c.misplaced.ensures names c.parts.imports))

pub returns-in_err-nothing_after-in-Close-clause-fault : goal.returns-in_err-nothing_after-in-Close-clause-fault
returns-in_err-nothing_after-in-Close-clause-fault c = λ names.
    let all = parts c.args.last (lexemes names c.args.block.now) in
    let next = c.in_ok-add_item-in-Close.field-0 in
    let line = c.line_through.result in
    let rest = c.tokens_after.result.now in
    let items = c.add_item-in-Close.new.items.items in
    let fault = c.in_err-nothing_after-in-Close.field-0.0 in
    passed_on (Tells (λ f. PartsRead true all (Err f))) c.from_residual-in_err-nothing_after-in-Close.result fault c.from_residual-in_err-nothing_after-in-Close.ensures.1
    (fault_left next all (part_after_block line (lexemes names rest)) (items_meaning names items) fault
    (closed names c.parts.imports next all c.parts.last line c.in-Close.length c.parts.left.now rest c.parts.items.items items c.in_ok-found-in-Close.found
    (sym (c.in-Close.ensures.end names)) (c.in_ok-found-in-Close.ensures.item names) (c.in_ok-add_item-in-Close.ensures.items names) (c.line_through.ensures names) c.tokens_after.ensures
    (c.parts.invariant.reads names)) (c.in_err-nothing_after-in-Close.ensures.fault names next))

pub returns-in-Close-clause-items : goal.returns-in-Close-clause-items
returns-in-Close-clause-items c = λ names.
    let all = parts c.args.last (lexemes names c.args.block.now) in
    let next = c.in_ok-add_item-in-Close.field-0 in
    let line = c.line_through.result in
    let rest = c.tokens_after.result.now in
    let items = c.add_item-in-Close.new.items.items in
    all_items next all (items_meaning names items) line (lexemes names rest) (no_tokens names rest c.in_ok-nothing_after-in-Close.ensures.nothing)
    (closed names c.parts.imports next all c.parts.last line c.in-Close.length c.parts.left.now rest c.parts.items.items items c.in_ok-found-in-Close.found
    (sym (c.in-Close.ensures.end names)) (c.in_ok-found-in-Close.ensures.item names) (c.in_ok-add_item-in-Close.ensures.items names) (c.line_through.ensures names) c.tokens_after.ensures
    (c.parts.invariant.reads names))

pub returns-in-Close-clause-owned : goal.returns-in-Close-clause-owned
returns-in-Close-clause-owned c = λ owner names whole.
    c.in_ok-add_item-in-Close.ensures.owned owner names (c.parts.invariant.owned owner names whole)
    (c.in_ok-found-in-Close.ensures.owned owner names (All-take (IsTokenOf owner names) c.in-Close.length c.parts.left.now (c.parts.invariant.left owner names whole)))
