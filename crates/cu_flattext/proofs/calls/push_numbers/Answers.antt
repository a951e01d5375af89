use Rattle.std.proofs.Common.{◌++◌, ap, ◌∙◌}
use Rattle.std.specs.Fmt.{decimal}
use Rattle.cu_flattext.proofs.Numbering.{first_number, one_more_number}
use Rattle.cu_flattext.proofs.calls.push_numbers.Goals as goal

pub loop-i-init : goal.loop-i-init
loop-i-init c =
    first_number c.args.first c.args.count c.args.page.now.text.items c.push_str.new.self.text.items c.push_number.new.self.text.items
    c.if-count-gt0.true c.in_ok-push_str.ensures c.in_ok-push_number.ensures

pub loop-i-preserved : goal.loop-i-preserved
loop-i-preserved c =
    one_more_number c.args.first c.args.count c.loop-i.i c.loop-i.page.text.items c.push_str-in-loop-i.new.self.text.items
    c.push_number-in-loop-i.new.self.text.items c.loop-i-test.true c.in_ok-push_str-2.ensures
    (c.in_ok-push_number-2.ensures ∙ ap (λ k. c.push_str-in-loop-i.new.self.text.items ++ decimal k) c.in_ok-number.ensures)
    ∙ c.loop-i.invariant
