use Rattle.cu_declared.specs.Inside.Synonyms.{kept_by}
use Rattle.cu_declared.proofs.SynonymLemmas.{flag_silent, flag_told}
use Rattle.cu_declared.proofs.synonyms.tell_flagged.Goals as goal

pub returns-then-flag : goal.returns-then-flag
returns-then-flag c w of =
    flag_told w (kept_by w.names c.args.synonym.now) c.args.flag c.args.first.now c.tell.new.self c.if-flag.true
    (λ faults told. c.tell.ensures w.owner w.names faults (record { place = of.place; name = of.name }) told)

pub returns-else-flag : goal.returns-else-flag
returns-else-flag c w of = flag_silent w (kept_by w.names c.args.synonym.now) c.args.flag c.args.first.now c.if-flag.false
