use Rattle.std.proofs.Common.{◌∷◌, map, reverse, sym, subst, arith}
use Rattle.cu_types.proofs.numbering.Numbering.step.Goals as goal
use Rattle.cu_types.specs.Inside.Numbering.{Goes, Proceeds}
use Rattle.cu_types.specs.Table.{shape_of}
use Rattle.cu_types.specs.declared.order.Task.{Task}

pub enter-requires-clause-goes : goal.enter-requires-clause-goes
enter-requires-clause-goes c = (
  c.requires.goes.0,
  c.requires.goes.1,
  subst (λ (t : Task). Goes (map shape_of c.args.types.now) c.requires.goes.0 c.requires.goes.1 c.args.self.now (t ∷ reverse c.args.tasks.now.items))
      c.in-Enter.is c.requires.goes.2,
)

pub leave-requires-clause-goes : goal.leave-requires-clause-goes
leave-requires-clause-goes c = (
  c.requires.goes.0,
  c.requires.goes.1,
  reverse c.args.tasks.now.items,
  subst (λ (t : Task). Goes (map shape_of c.args.types.now) c.requires.goes.0 c.requires.goes.1 c.args.self.now (t ∷ reverse c.args.tasks.now.items))
      c.in-Leave.is c.requires.goes.2,
)

pub returns-in_ok-enter-in-Enter : goal.returns-in_ok-enter-in-Enter
returns-in_ok-enter-in-Enter c = λ root final w.
    subst (λ (t : Task). Proceeds (map shape_of c.args.types.now) root final c.enter.new.self (t ∷ reverse c.args.tasks.now.items)
    (reverse c.enter.new.tasks.items)) (sym c.in-Enter.is)
    (c.in_ok-enter-in-Enter.ensures root final
    (subst (λ (t : Task). Goes (map shape_of c.args.types.now) root final c.args.self.now (t ∷ reverse c.args.tasks.now.items)) c.in-Enter.is w))

pub returns-in_ok-leave-in-Leave : goal.returns-in_ok-leave-in-Leave
returns-in_ok-leave-in-Leave c = λ root final w.
    subst (λ (t : Task). Proceeds (map shape_of c.args.types.now) root final c.leave.new.self (t ∷ reverse c.args.tasks.now.items)
    (reverse c.args.tasks.now.items)) (sym c.in-Leave.is)
    (record {
      goes = c.in_ok-leave-in-Leave.ensures root final (reverse c.args.tasks.now.items)
          (subst (λ (t : Task). Goes (map shape_of c.args.types.now) root final c.args.self.now (t ∷ reverse c.args.tasks.now.items)) c.in-Leave.is w);
      nearer = omega arith;
    })
