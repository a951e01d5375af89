use Rattle.std.proofs.Common.{subst}
use Rattle.cu_modules.specs.Ordering.{module_of}
use Rattle.cu_toplevel.specs.Declarations.{AreListed, Lists, all_lists}
use Rattle.cu_toplevel.proofs.EntityLemmas.{counted_more, lists_more, starts_more}
use Rattle.cu_toplevel.proofs.entities.Entities.add_module.Goals as goal

pub returns : goal.returns
returns c = λ before has.
    let names = c.args.names.now in
    let m = module_of names c.args.module.now in
    let old = c.args.self.now.starts.items in
    record {
      differ = has.differ;
      declared = subst (λ (l : Lists). AreListed names l c.add_module.new.self) (lists_more before m) (c.in_ok-add_module.ensures (all_lists before) has.differ has.declared);
      sets = has.sets;
      fixities = c.in_ok-add.ensures names before has.differ c.requires.has has.fixities;
      counted = counted_more before m old c.push.new.self.items c.counts-start.result c.in_ok-push.ensures.items has.counted;
      starts = starts_more before m old c.push.new.self.items c.counts-start.result c.in_ok-push.ensures.items has.counted (c.counts-start.ensures names before has) has.starts;
      tuples = has.tuples;
      prelude = has.prelude;
      cons = has.cons;
    }
