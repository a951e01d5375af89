use Rattle.std.proofs.Common.{[]}
use Rattle.cu_types.proofs.GroupSteps.{asked_all}
use Rattle.cu_types.proofs.group.Inference.ask.Goals as goal

pub members-requires : goal.members-requires
members-requires c = c.new-2.ensures.reader

pub returns-clause-reader : goal.returns-clause-reader
returns-clause-reader c = c.in_ok-members.ensures.reader

pub returns-clause-asks : goal.returns-clause-asks
returns-clause-asks c =
    asked_all
    (record {
      alloc = c.args.self.now.alloc;
      signing = record {
        program = c.args.self.now.program;
        constructors = c.args.self.now.constructors;
        known = c.args.known;
        values = c.args.self.now.values;
      };
      variables = c.new.result;
      asking = c.new-2.result;
    })
    c.members.new.self c.args.group.now (record { next = c.args.next; equations = [] }) c.in_ok-members.ensures c.new.ensures c.new-2.ensures.asked
