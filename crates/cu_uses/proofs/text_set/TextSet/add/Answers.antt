use Rattle.cu_uses.proofs.TextLemmas.{one_more_text}
use Rattle.cu_uses.proofs.text_set.TextSet.add.Goals as goal

pub returns : goal.returns
returns c names texts differ known is =
    one_more_text names texts c.args.self.now (record { texts = c.insert.new.self }) c.args.name differ known is (λ id. c.in_ok-insert.ensures.updates.0 id)
