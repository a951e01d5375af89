use Rattle.std.proofs.Common.{rules, true, ◌≡◌, ◌-◌, ◌&&◌, length, get_or, take, drop, ap, ◌∙◌}
use Rattle.std.proofs.lemmas.Iterator.{YieldsList-from_slice}
use Rattle.std.proofs.lemmas.Iterator.Search.{all_from_yields_List}
use borrow.Author.Tests.{tests}
use Rattle.cu_words.specs.Names.{is_letter, is_name_byte}
use Rattle.cu_words.proofs.NameLemmas.{is_name_read}
use Rattle.cu_words.proofs.names.is_name.Goals as goal

pub returns-then-is_ascii_alphabetic : goal.returns-then-is_ascii_alphabetic
returns-then-is_ascii_alphabetic c =
    let name = c.args.name.now in
    let others =
    all_from_yields_List is_name_byte _ _ c.all.result c.all.ensures.ran (YieldsList-from_slice (take (length name - 1) (drop 1 name)) c.iter.ensures.rest) (λ x b q k. search (rules, tests)) in
    let letter : true ≡ is_letter (get_or name 0 0) = search (rules, tests) in
    ap (λ b. b && c.all.result) letter ∙ is_name_read name c.all.result c.in-len1-up.len_at_least others
