-- A minus or an operator is there, or the operand is all.
use Rattle.std.proofs.Common.{rules, ◌≡◌, false, sym, true, ◌∙◌}
use Rattle.cu_syntax.specs.SubtreeMeaning.{tree_of}
use Rattle.cu_syntax.proofs.ExpressionForms.{bare_operators, lone_operand_is, minus_found, none_found}
use Rattle.cu_syntax.proofs.expression_forms.lone_operand.Goals as goal
use Rattle.cu_syntax.proofs.expression_forms.lone_operand.Goals.{then-has_minus-via-else-has_minus+then-not-is_empty, then-has_minus-via-then-has_minus}

pub returns-then-has_minus-clause-bare : goal.returns-then-has_minus-clause-bare
returns-then-has_minus-clause-bare c = λ names.
    let tree = tree_of names c.args.tree in
    elim c.then-has_minus.branch [
      | then-has_minus-via-then-has_minus w ↦
          minus_found names tree (tree_of names c.part.result) c.optional.result (c.part.ensures.tree names) (sym c.is_some-has_minus.ensures ∙ w.if-has_minus.true) (c.optional.ensures.tree names)
      | then-has_minus-via-else-has_minus+then-not-is_empty w ↦
          let h = w.if-not-is_empty.true in
          let some : w.is_empty.result ≡ false = search rules in
          bare_operators tree (tree_of names w.part-else-has_minus.result) (w.part-else-has_minus.ensures.tree names) (sym (w.is_empty.ensures names) ∙ some)
    ]

pub returns-clause-same : goal.returns-clause-same
returns-clause-same c = λ names.
    let h = c.if-not-is_empty.false in
    let empty : c.is_empty.result ≡ true = search rules in
    let none = none_found c.optional.result (sym c.is_some-has_minus.ensures ∙ c.if-has_minus.false) (c.optional.ensures.none names) in
    lone_operand_is c.args.tree.symbol (tree_of names c.args.tree) (tree_of names c.part.result) (tree_of names c.part-2.result) (tree_of names c.part-else-has_minus.result) c.requires
    (c.args.tree.fits names) (c.part.ensures.tree names) none (c.part-2.ensures.tree names) (c.part-else-has_minus.ensures.tree names) (sym (c.is_empty.ensures names) ∙ empty)

pub returns-clause-owned : goal.returns-clause-owned
returns-clause-owned c = λ owner names whole. c.part-2.ensures.owned owner names whole
