use Rattle.std.proofs.Common.{◌∙◌, sym, ap, length, nat_le}
use Rattle.cu_layout.specs.Inside.Entries.{stack_of}
use Rattle.cu_layout.specs.Rules.{most_entries}
use Rattle.cu_layout.proofs.BlockLemmas.{lays-out}
use Rattle.cu_layout.proofs.layout.lay_out.Goals as goal

pub returns-clause-ok : goal.returns-clause-ok
returns-clause-ok c =
    let fits = c.in_ok-within_limit.ensures in
    let fits-2 = c.in_ok-within_limit-2.ensures in
    lays-out c.args.due c.args.first c.args.sight.form c.args.sight.place c.args.laid.now.items c.open.new.laid.items c.end.new.laid.items c.close_brace.new.laid.items c.args.stack.now.items c.open.new.stack.items c.end.new.stack.items
    c.close_brace.new.stack.items c.enter.new.stack.items
    c.in_ok-open.ensures.ok (ap (λ s. nat_le (length (stack_of s)) most_entries) (sym c.as_slice.ensures.value) ∙ fits)
    c.in_ok-end.ensures.ok c.in_ok-close_brace.ensures.ok c.in_ok-enter.ensures.ok (ap (λ s. nat_le (length (stack_of s)) most_entries) (sym c.as_slice-2.ensures.value) ∙ fits-2)
