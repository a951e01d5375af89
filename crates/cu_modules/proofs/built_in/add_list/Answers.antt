use Rattle.cu_modules.proofs.EntityLemmas.{list_more}
use Rattle.cu_modules.proofs.built_in.add_list.Goals as goal

pub returns : goal.returns
returns c = λ before has.
    list_more c.args.names.now before c.args.owner c.found-name.result c.cons.result c.args.entities.now.items c.push.new.self.items c.push-2.new.self.items c.push-3.new.self.items
    c.requires.known c.requires.prelude c.found-name.ensures c.cons.ensures c.in_ok-push.ensures.items c.in_ok-push-2.ensures.items c.in_ok-push-3.ensures.items has
