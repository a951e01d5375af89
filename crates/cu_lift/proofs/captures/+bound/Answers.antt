use Rattle.std.proofs.lemmas.Result.{on_ok_weaker}
use Rattle.cu_lift.proofs.PartSteps.{alias_pattern, literal_pattern}
use Rattle.cu_lift.proofs.captures.+bound.Goals as goal

pub push_pattern-returns-in-Lit : goal.push_pattern-returns-in-Lit
push_pattern-returns-in-Lit t c = literal_pattern c.args.found.now.items c.args.pattern.now c.in-Lit.field-0 c.in-Lit.is

pub push_pattern-returns-in_ok-push-in-Alias : goal.push_pattern-returns-in_ok-push-in-Alias
push_pattern-returns-in_ok-push-in-Alias t c =
    on_ok_weaker c.push_pattern.result
    (alias_pattern c.args.found.now.items c.push-in-Alias.new.self.items c.push_pattern.new.found.items c.args.pattern.now c.deref-in-Alias.result.now
    c.in-Alias.x c.in-Alias.part c.in-Alias.is c.deref-in-Alias.ensures c.in_ok-push-in-Alias.ensures.items)
    c.push_pattern.ensures
