use Rattle.cu_sites.proofs.relations.reached.Goals as goal

pub returns : goal.returns
returns c = c.in_ok-run.ensures c.args.seeds.now c.args.shut.now c.in_ok-walk.ensures
