use Rattle.cu_forms.proofs.PatternLemmas.{operated}
use Rattle.cu_forms.proofs.pattern_parts.operate.Goals as goal

pub returns : goal.returns
returns c =
    operated c.args.referent c.constructor_of.result c.in_ok-parts.parts c.args.stack.now.items c.pop.new.self.items c.pop-2.new.self.items c.push-2.new.self.items c.in-Some.first c.in-Some-pop.second
    c.constructor_of.ensures c.in_ok-parts.ensures.items c.in-Some.ensures.items c.in-Some-pop.ensures.items c.in_ok-push-2.ensures.items
