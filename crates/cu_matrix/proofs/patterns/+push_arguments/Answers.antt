use Rattle.cu_matrix.proofs.PatternLemmas.{built_arguments, literal_arguments}
use Rattle.cu_matrix.specs.Meaning.{patterns_at}
use Rattle.cu_matrix.proofs.patterns.+push_arguments.Goals as goal

pub returns-in-Lit : goal.returns-in-Lit
returns-in-Lit t c = literal_arguments c.args.pattern.now c.in-Lit.field-0 c.args.count (patterns_at c.args.patterns.now.items) c.in-Lit.is

pub returns-in-Con : goal.returns-in-Con
returns-in-Con t c =
    let same = built_arguments c.args.pattern.now c.in-Con.field-0 c.in-Con.arguments c.deref.result.now c.args.count c.in-Con.is c.deref.ensures.value in
    rw (← same) c.push_all.ensures
