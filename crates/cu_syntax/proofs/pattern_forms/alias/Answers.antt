-- A variable, and the pattern after the sign.
use Rattle.cu_syntax.specs.Names.{name_meaning}
use Rattle.cu_syntax.specs.SubtreeMeaning.{tree_of}
use Rattle.cu_syntax.proofs.PatternForms.{alias_is}
use Rattle.cu_syntax.proofs.OwnerLemmas.{same_part}
use Rattle.cu_syntax.proofs.pattern_forms.alias.Goals as goal

pub returns-clause-meaning : goal.returns-clause-meaning
returns-clause-meaning c = λ names.
    alias_is names c.args.tree.symbol (tree_of names c.args.tree) (tree_of names c.part.result) c.part-2.result (name_meaning names c.name-name.result) c.new.result c.requires
    (c.args.tree.fits names) (c.part.ensures.tree names) (c.name-name.ensures.meaning names) c.part-2.ensures.symbol (c.part-2.ensures.tree names) c.new.ensures

pub returns-clause-owned : goal.returns-clause-owned
returns-clause-owned c = λ owner names whole. (c.name-name.ensures.owned owner names (c.part.ensures.owned owner names whole), (same_part owner names c.part-2.result c.new.result.tree c.new.ensures (c.part-2.ensures.owned owner names whole)))
