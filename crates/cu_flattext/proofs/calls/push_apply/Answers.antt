use Rattle.std.proofs.lemmas.Result.{on_ok_weaker}
use Rattle.cu_flattext.proofs.Numbering.{apply_written}
use Rattle.cu_flattext.proofs.calls.push_apply.Goals as goal

pub returns : goal.returns
returns c =
    on_ok_weaker c.push_str.result (apply_written c.args.page.now.text.items c.push_str.new.self.text.items) c.push_str.ensures
