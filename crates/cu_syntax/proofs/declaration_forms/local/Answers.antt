-- The declarations of the block after the word, or none.
use Rattle.cu_syntax.specs.Declarations.{declarations_meaning}
use Rattle.cu_syntax.specs.Reading.{block_of, where_block}
use Rattle.cu_syntax.specs.SubtreeMeaning.{tree_of}
use Rattle.cu_syntax.specs.Owners.{DeclarationIsOf}
use Rattle.cu_syntax.proofs.DeclarationLemmas.{where_is}
use Rattle.cu_syntax.proofs.ViewLemmas.{ok_as}
use Rattle.cu_syntax.proofs.OwnerLemmas.{none_yet}
use Rattle.cu_syntax.proofs.declaration_forms.local.Goals as goal

pub returns-in-Some-clause-meaning : goal.returns-in-Some-clause-meaning
returns-in-Some-clause-meaning c = λ names.
    let tree = tree_of names c.args.tree in
    let part = tree_of names c.part.result in
    ok_as (λ found. declarations_meaning names found.items) c.block.result (block_of part) (where_block tree) (c.block.ensures.meaning names)
    (where_is c.in-Some.local.symbol tree (tree_of names c.in-Some.local) part (c.in-Some.ensures.tree names) c.in-Some.ensures.symbol (c.in-Some.local.fits names) (c.part.ensures.tree names))

pub returns-in-Some-clause-owned : goal.returns-in-Some-clause-owned
returns-in-Some-clause-owned c = λ owner names whole. c.block.ensures.owned owner names (c.part.ensures.owned owner names (c.in-Some.ensures.owned owner names whole))

pub returns-in-None-clause-owned : goal.returns-in-None-clause-owned
returns-in-None-clause-owned c = λ owner names whole. none_yet (DeclarationIsOf owner names) c.new.result.items c.new.ensures.items
