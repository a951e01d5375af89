-- An expression after a sign, or guards.
use Rattle.cu_syntax.specs.Declarations.{RightBody, Guards, body_meaning, guards_in, right_of}
use Rattle.cu_syntax.specs.Reading.{place, right_as}
use Rattle.cu_syntax.specs.SubtreeMeaning.{tree_of}
use Rattle.cu_syntax.proofs.DeclarationLemmas.{guarded_alternative_is, guarded_rule_is, ok_through, plain_alternative_is, plain_rule_is, right_nodes}
use Rattle.cu_syntax.proofs.ShapeLemmas.{not_among}
use Rattle.cu_syntax.proofs.OwnerLemmas.{same_part}
use Rattle.cu_syntax.proofs.declaration_forms.body.Goals as goal

pub unreachable-requires : goal.unreachable-requires
unreachable-requires c =
    let other = c.in_default in
    not_among c.args.tree.symbol right_nodes (other.not-PlainRhs, (other.not-GuardedRhs, (other.not-PlainAlt, (other.not-GuardedAlts, tt)))) c.requires

pub returns-in-PlainRhs-clause-meaning : goal.returns-in-PlainRhs-clause-meaning
returns-in-PlainRhs-clause-meaning c = λ names local.
    plain_rule_is names c.args.tree.symbol (tree_of names c.args.tree) c.part.result c.new.result local c.in-PlainRhs.is (c.args.tree.fits names) c.new.ensures c.part.ensures.symbol
    (c.part.ensures.tree names)

pub returns-in-PlainAlt-clause-meaning : goal.returns-in-PlainAlt-clause-meaning
returns-in-PlainAlt-clause-meaning c = λ names local.
    plain_alternative_is names c.args.tree.symbol (tree_of names c.args.tree) c.part-in-PlainAlt.result c.new-in-PlainAlt.result local c.in-PlainAlt.is (c.args.tree.fits names)
    c.new-in-PlainAlt.ensures c.part-in-PlainAlt.ensures.symbol (c.part-in-PlainAlt.ensures.tree names)

pub returns-in-GuardedRhs-clause-meaning : goal.returns-in-GuardedRhs-clause-meaning
returns-in-GuardedRhs-clause-meaning c = λ names local.
    let tree = tree_of names c.args.tree in
    ok_through (body_meaning names) (λ (b : RightBody). right_of (place tree) b local) c.guards.result (Guards (guards_in tree)) (right_as c.args.tree.symbol tree local)
    (c.guards.ensures.meaning names) (guarded_rule_is c.args.tree.symbol tree local c.in-GuardedRhs.is (c.args.tree.fits names))

pub returns-in-GuardedAlts-clause-meaning : goal.returns-in-GuardedAlts-clause-meaning
returns-in-GuardedAlts-clause-meaning c = λ names local.
    let tree = tree_of names c.args.tree in
    ok_through (body_meaning names) (λ (b : RightBody). right_of (place tree) b local) c.guards-in-GuardedAlts.result (Guards (guards_in tree)) (right_as c.args.tree.symbol tree local)
    (c.guards-in-GuardedAlts.ensures.meaning names) (guarded_alternative_is c.args.tree.symbol tree local c.in-GuardedAlts.is (c.args.tree.fits names))

pub returns-in-PlainRhs-clause-owned : goal.returns-in-PlainRhs-clause-owned
returns-in-PlainRhs-clause-owned c = λ owner names whole. same_part owner names c.part.result c.new.result.tree c.new.ensures (c.part.ensures.owned owner names whole)

pub returns-in-PlainAlt-clause-owned : goal.returns-in-PlainAlt-clause-owned
returns-in-PlainAlt-clause-owned c = λ owner names whole. same_part owner names c.part-in-PlainAlt.result c.new-in-PlainAlt.result.tree c.new-in-PlainAlt.ensures (c.part-in-PlainAlt.ensures.owned owner names whole)

pub returns-in-GuardedRhs-clause-owned : goal.returns-in-GuardedRhs-clause-owned
returns-in-GuardedRhs-clause-owned c = λ owner names whole. c.guards.ensures.owned owner names whole

pub returns-in-GuardedAlts-clause-owned : goal.returns-in-GuardedAlts-clause-owned
returns-in-GuardedAlts-clause-owned c = λ owner names whole. c.guards-in-GuardedAlts.ensures.owned owner names whole
