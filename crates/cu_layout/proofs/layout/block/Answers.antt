use Rattle.std.proofs.Common.{◌≡◌, ◌∙◌, ap, arith, length, reverse}
use Rattle.cu_layout.specs.Blocks.{due_at_start}
use Rattle.cu_layout.specs.Inside.Entries.{token_sights}
use Rattle.cu_layout.specs.Reading.{Tells}
use Rattle.cu_layout.proofs.BlockLemmas.{all-laid, at-last, err-from-same, too-deep, up-to-first, up-to-next}
use Rattle.cu_layout.proofs.layout.block.Goals as goal

pub loop-token-init : goal.loop-token-init
loop-token-init c =
    let begins = c.due_at_start-due.ensures ∙ ap (λ ts. due_at_start c.args.whole (token_sights ts)) c.as_slice.ensures.value in
    up-to-first c.args.whole c.args.tokens.items c.reverse.new.self.items c.new-laid.result.items c.new-stack.result.items c.due_at_start-due.result c.reverse.ensures.items begins c.new-laid.ensures.items c.new-stack.ensures.items

pub returns-in_err-lay_out-clause-fault : goal.returns-in_err-lay_out-clause-fault
returns-in_err-lay_out-clause-fault c =
    let k = c.loop-token.invariant in
    let left = c.loop-token.left.items in
    let left' = c.pop.new.self.items in
    let at = at-last c.args.whole c.args.tokens.items c.loop-token.laid.items c.loop-token.stack.items c.loop-token.due c.begins_line-first.result c.loop-token.last left c.of-form.result c.in-Some.token left'
    k c.in-Some.ensures.items c.of-form.ensures c.begins_line-first.ensures in
    err-from-same (Tells c.args.whole c.args.tokens.items) c.from_residual.result c.in_err-lay_out.field-0.0 c.from_residual.ensures.1
    (too-deep c.args.whole c.args.tokens.items k.done c.loop-token.laid.items c.loop-token.stack.items c.loop-token.due c.begins_line-first.result c.loop-token.last (reverse left) c.of-form.result c.in-Some.token (reverse left')
    c.in_err-lay_out.field-0.0 at c.in_err-lay_out.ensures.fault)

pub loop-token-preserved : goal.loop-token-preserved
loop-token-preserved c =
    let k = c.loop-token.invariant in
    let left = c.loop-token.left.items in
    let left' = c.pop.new.self.items in
    let at = at-last c.args.whole c.args.tokens.items c.loop-token.laid.items c.loop-token.stack.items c.loop-token.due c.begins_line-first.result c.loop-token.last left c.of-form.result c.in-Some.token left'
    k c.in-Some.ensures.items c.of-form.ensures c.begins_line-first.ensures in
    up-to-next c.args.whole c.args.tokens.items k.done c.loop-token.laid.items c.lay_out.new.laid.items c.push.new.self.items c.loop-token.stack.items c.lay_out.new.stack.items c.loop-token.due c.is_block_keyword-due.result c.begins_line-first.result
    c.loop-token.last (reverse left) c.of-form.result c.in-Some.token left' c.give_back.new.left.items at c.in_ok-lay_out.ensures.ok c.in_ok-push.ensures.items c.is_block_keyword-due.ensures c.give_back.ensures.items

pub returns-clause-tokens : goal.returns-clause-tokens
returns-clause-tokens c =
    let left = c.loop-token.left.items in
    let none : length left ≡ 0 = omega (arith, c.in_default.ensures.cases.0) in
    all-laid c.args.whole c.args.tokens.items c.loop-token.laid.items c.finish.new.laid.items c.loop-token.stack.items c.as_slice-2.result.now c.loop-token.due c.loop-token.last left c.start_or.result
    c.loop-token.invariant none c.start_or.ensures c.as_slice-2.ensures.value c.in_ok-finish.ensures.ok
