use Rattle.cu_matrix.proofs.PatternLemmas.{opened_here}
use Rattle.cu_matrix.proofs.patterns.opened_patterns.Goals as goal

pub returns : goal.returns
returns c =
    opened_here c.args.patterns.now c.args.position c.args.count c.index-patterns-position.result c.new-opened.result.items
    c.extend_from_slice.new.self.items c.push_arguments.new.patterns.items c.extend_from_slice-2.new.self.items c.requires
    c.index-patterns-position.is c.new-opened.ensures.items c.in_ok-extend_from_slice.ensures.items c.in_ok-push_arguments.ensures
    c.in_ok-extend_from_slice-2.ensures.items
