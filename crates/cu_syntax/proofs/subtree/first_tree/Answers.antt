-- The first node says how many nodes the first tree has.
use Rattle.std.proofs.Common.{ap, refl, sym, ◌∙◌, drop, subst, take, ◌≤◌, length}
use Rattle.cu_syntax.proofs.NodeLemmas.{cut}
use Rattle.cu_syntax.proofs.subtree.first_tree.Goals as goal

pub split_at-requires : goal.split_at-requires
split_at-requires c =
    let k = cut c.args.nodes.now _ refl c.requires.some c.requires.trees in
    subst (λ n. n ≤ length c.args.nodes.now) (sym (k.begins.number _)) k.begins.long

pub returns-clause-first : goal.returns-clause-first
returns-clause-first c =
    let k = cut c.args.nodes.now _ refl c.requires.some c.requires.trees in
    c.split_at.ensures.front ∙ ap (λ n. take n c.args.nodes.now) (k.begins.number _) ∙ k.begins.prefix

pub returns-clause-others : goal.returns-clause-others
returns-clause-others c =
    let k = cut c.args.nodes.now _ refl c.requires.some c.requires.trees in
    c.split_at.ensures.back ∙ ap (λ n. drop n c.args.nodes.now) (k.begins.number _) ∙ k.begins.suffix
