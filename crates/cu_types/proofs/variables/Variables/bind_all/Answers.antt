use Rattle.std.proofs.Common.{rules, ◌≡◌, ◌+◌, get_or}
use Rattle.cu_types.proofs.Bindings.{bound_more, undoes_more}
use Rattle.cu_types.specs.Inside.Variables.{environment}
use Rattle.cu_types.proofs.variables.Variables.bind_all.Goals as goal

pub loop-variable-preserved : goal.loop-variable-preserved
loop-variable-preserved c =
    let xs = c.args.variables.now in
    let i = c.loop-variable.variable-index in
    let next : c.in-Some.following ≡ c.loop-variable.next + 1 = search rules in
    record {
      bound = bound_more (environment c.loop-variable.self) (environment c.bind.new.self) _ xs i c.loop-variable.next c.in-Some.following
          c.loop-variable-test.true c.in_ok-before.ensures.bound next c.loop-variable.invariant.bound;
      undoes = undoes_more (environment c.loop-variable.self) (environment c.bind.new.self) (environment c.args.self.now)
          c.loop-variable.bindings.items c.push.new.self.items
          (record { variable = get_or xs i 0; before = c.in_ok-before.before }) c.loop-variable.next c.in_ok-push.ensures.items
          c.in_ok-before.ensures.bound c.in_ok-before.ensures.before c.loop-variable.invariant.undoes;
    }
