use Rattle.std.proofs.Common.{rules}
use Rattle.std.proofs.lemmas.Iterator.Search.{all_from_yields_List}
use Rattle.std.proofs.lemmas.Iterator.Splits.{YieldsList-from_slice_split}
use borrow.Author.Tests.{tests}
use Rattle.cu_words.specs.Names.{is_dot, is_name}
use Rattle.cu_words.proofs.names.is_module_name.Goals as goal

pub returns : goal.returns
returns c =
    all_from_yields_List is_name _ _ c.all.result c.all.ensures.ran
    (YieldsList-from_slice_split _ is_dot c.args.text.now (search rules) (search rules) c.split.ensures.closure (λ x b q k. search (rules, tests)))
    (λ x b q k. search (rules, tests))
