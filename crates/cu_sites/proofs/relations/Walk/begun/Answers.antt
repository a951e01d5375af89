use Rattle.cu_sites.proofs.RelationLemmas.{begun_with}
use Rattle.cu_sites.proofs.relations.Walk.begun.Goals as goal

pub returns : goal.returns
returns c =
    begun_with c.args.seeds.now c.args.shut.now (record { found = c.new.result; shut = c.in_ok-shut.shut }) c.meet_all.new.self c.new.ensures.empty
    c.in_ok-shut.ensures c.in_ok-meet_all.ensures
