-- What is a token at last is a name.
use Rattle.std.proofs.Common.{[], ◌∙◌}
use Rattle.cu_syntax.specs.SubtreeMeaning.{tree_of}
use Rattle.cu_syntax.proofs.NameLaw.{name_kind_of}
use Rattle.cu_syntax.proofs.subtree.Subtree.name_token.Goals as goal

pub returns-clause-kind : goal.returns-clause-kind
returns-clause-kind c =
    name_kind_of [] c.loop-name.name.symbol (tree_of [] c.loop-name.name) c.token.result.now c.loop-name.invariant.name (c.loop-name.name.fits []) (c.token.ensures.token [])

pub loop-name-preserved : goal.loop-name-preserved
loop-name-preserved c = record {
  name = c.inside-name.ensures.name;
  owned = λ owner names whole. c.inside-name.ensures.owned owner names (c.loop-name.invariant.owned owner names whole);
  token = λ names. c.loop-name.invariant.token names ∙ c.inside-name.ensures.token names;
}

pub returns-clause-owned : goal.returns-clause-owned
returns-clause-owned c = λ owner names whole. c.token.ensures.owned owner names (c.loop-name.invariant.owned owner names whole)
