-- The tree is one of the forms.
use Rattle.std.proofs.Common.{[], ap, sym, ◌∙◌}
use Rattle.cu_syntax.specs.declared.symbol.Symbol.TheVariants as symbol
use Rattle.cu_syntax.specs.Declarations.{declaration_meaning, declaration_node}
use Rattle.cu_syntax.specs.Forms.{is_left_side, is_rule, left_of}
use Rattle.cu_syntax.specs.Reading.{declaration_as}
use Rattle.cu_syntax.specs.SubtreeMeaning.{tree_of}
use Rattle.cu_syntax.proofs.DeclarationLemmas.{declarations}
use Rattle.cu_syntax.proofs.ShapeLemmas.{not_among}
use Rattle.cu_syntax.proofs.SizeLemmas.{declaration_told}
use Rattle.cu_syntax.proofs.ViewLemmas.{ok_as}
use Rattle.cu_syntax.proofs.declarations.Declaration.node.Goals as goal

pub unreachable-requires : goal.unreachable-requires
unreachable-requires c =
    let other = c.in_default in
    not_among c.args.self.tree.symbol declarations (other.not-FreeDecl, (other.not-Signature, (other.not-Rule, (other.not-TopRule, tt)))) c.args.self.is_declaration

pub rule-requires : goal.rule-requires
rule-requires c = record {
  symbol = ap is_rule c.in-Rule.is;
  left = ap is_left_side c.part.ensures.symbol;
  first = c.part.ensures.tree;
  same = ap left_of c.in-Rule.is ∙ sym c.part.ensures.symbol;
}

pub rule-requires-in-TopRule : goal.rule-requires-in-TopRule
rule-requires-in-TopRule c = record {
  symbol = ap is_rule c.in-TopRule.is;
  left = ap is_left_side c.part-in-TopRule.ensures.symbol;
  first = c.part-in-TopRule.ensures.tree;
  same = ap left_of c.in-TopRule.is ∙ sym c.part-in-TopRule.ensures.symbol;
}

pub returns-in-FreeDecl-clause-meaning : goal.returns-in-FreeDecl-clause-meaning
returns-in-FreeDecl-clause-meaning c = λ names.
    let tree = tree_of names c.args.self.tree in
    ok_as (declaration_node names) c.free.result (declaration_as symbol.FreeDecl tree) (declaration_meaning names c.args.self) (c.free.ensures.meaning names)
    (sym (ap (λ a. declaration_as a tree) c.in-FreeDecl.is))

pub returns-in-Signature-clause-meaning : goal.returns-in-Signature-clause-meaning
returns-in-Signature-clause-meaning c = λ names.
    let tree = tree_of names c.args.self.tree in
    ok_as (declaration_node names) c.signature.result (declaration_as symbol.Signature tree) (declaration_meaning names c.args.self) (c.signature.ensures.meaning names)
    (sym (ap (λ a. declaration_as a tree) c.in-Signature.is))

pub returns-in-FreeDecl-clause-owned : goal.returns-in-FreeDecl-clause-owned
returns-in-FreeDecl-clause-owned c = λ owner names whole. c.free.ensures.owned owner names whole

pub returns-in-Signature-clause-owned : goal.returns-in-Signature-clause-owned
returns-in-Signature-clause-owned c = λ owner names whole. c.signature.ensures.owned owner names whole

pub returns-in-Rule-clause-owned : goal.returns-in-Rule-clause-owned
returns-in-Rule-clause-owned c = λ owner names whole. c.rule.ensures.owned owner names whole (c.part.ensures.owned owner names whole)

pub returns-in-TopRule-clause-owned : goal.returns-in-TopRule-clause-owned
returns-in-TopRule-clause-owned c = λ owner names whole. c.rule-in-TopRule.ensures.owned owner names whole (c.part-in-TopRule.ensures.owned owner names whole)

pub returns-in-FreeDecl-clause-smaller : goal.returns-in-FreeDecl-clause-smaller
returns-in-FreeDecl-clause-smaller c =
    let tree = tree_of [] c.args.self.tree in
    declaration_told c.args.self c.free.result
    (ok_as (declaration_node []) c.free.result (declaration_as symbol.FreeDecl tree) (declaration_meaning [] c.args.self) (c.free.ensures.meaning []) (sym (ap (λ a. declaration_as a tree) c.in-FreeDecl.is)))

pub returns-in-Signature-clause-smaller : goal.returns-in-Signature-clause-smaller
returns-in-Signature-clause-smaller c =
    let tree = tree_of [] c.args.self.tree in
    declaration_told c.args.self c.signature.result
    (ok_as (declaration_node []) c.signature.result (declaration_as symbol.Signature tree) (declaration_meaning [] c.args.self) (c.signature.ensures.meaning []) (sym (ap (λ a. declaration_as a tree) c.in-Signature.is)))

pub returns-in-Rule-clause-smaller : goal.returns-in-Rule-clause-smaller
returns-in-Rule-clause-smaller c = declaration_told c.args.self c.rule.result (c.rule.ensures.meaning [])

pub returns-in-TopRule-clause-smaller : goal.returns-in-TopRule-clause-smaller
returns-in-TopRule-clause-smaller c = declaration_told c.args.self c.rule-in-TopRule.result (c.rule-in-TopRule.ensures.meaning [])
