use Rattle.std.proofs.lemmas.Result.{on_ok_weaker}
use Rattle.cu_flattext.proofs.Numbering.{set_written}
use Rattle.cu_flattext.proofs.calls.push_set.Goals as goal

pub returns : goal.returns
returns c =
    on_ok_weaker c.push_str-2.result
    (set_written c.args.arity c.args.page.now.text.items c.push_str.new.self.text.items c.push_number.new.self.text.items
    c.push_str-2.new.self.text.items c.in_ok-push_str.ensures c.in_ok-push_number.ensures) c.push_str-2.ensures
