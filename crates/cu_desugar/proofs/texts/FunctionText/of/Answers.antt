use Rattle.cu_sites.specs.Meaning.{group_meaning}
use Rattle.cu_translation.specs.Functions.{group_nodes}
use Rattle.cu_desugar.proofs.texts.FunctionText.of.Goals as goal

pub returns-clause-is : goal.returns-clause-is
returns-clause-is c t owned =
    let nodes = group_nodes (group_meaning t.names c.args.group) in
    let stands = c.in_ok-sites.ensures t.owner t.names t.differ owned in
    record {
      owned = owned;
      stands = stands;
      numbered = c.in_ok-numbers.ensures t nodes stands;
      dependent = c.in_ok-dependencies.ensures t nodes stands;
    }
