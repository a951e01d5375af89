-- A choice took one expression, and parentheses hold one.
use Rattle.std.proofs.Common.{[]}
use Rattle.cu_syntax.specs.SubtreeMeaning.{tree_of}
use Rattle.cu_syntax.proofs.ExpressionForms.{atom_taken, bare_application, bare_tuple, in_parentheses, lone_same, one_atom, operand_taken, other_bare, other_expression}
use Rattle.cu_syntax.proofs.expression_forms.wrapped.Goals as goal

pub returns-in-Exp-clause-same : goal.returns-in-Exp-clause-same
returns-in-Exp-clause-same c = λ names.
    lone_same names c.args.tree.symbol (tree_of names c.args.tree) c.lone_operand.result c.in-Exp.is c.lone_operand.ensures.symbol (c.lone_operand.ensures.same names)

pub returns-in-Operand-clause-symbol : goal.returns-in-Operand-clause-symbol
returns-in-Operand-clause-symbol c =
    (operand_taken c.args.tree.symbol (tree_of [] c.args.tree) c.chosen.result.symbol (tree_of [] c.chosen.result) c.in-Operand.is (c.args.tree.fits []) (c.chosen.ensures.tree [])).is_expression

pub returns-in-Operand-clause-same : goal.returns-in-Operand-clause-same
returns-in-Operand-clause-same c = λ names.
    (operand_taken c.args.tree.symbol (tree_of names c.args.tree) c.chosen.result.symbol (tree_of names c.chosen.result) c.in-Operand.is (c.args.tree.fits names)
    (c.chosen.ensures.tree names)).same

pub returns-in-Application-clause-same : goal.returns-in-Application-clause-same
returns-in-Application-clause-same c = λ names.
    one_atom names c.args.tree.symbol (tree_of names c.args.tree) c.single.result c.in-Application.is c.single.ensures.symbol (c.single.ensures.tree names)

pub returns-in-Application-clause-bare : goal.returns-in-Application-clause-bare
returns-in-Application-clause-bare c = λ names.
    bare_application c.args.tree.symbol (tree_of names c.args.tree) c.single.result c.in-Application.is (c.single.ensures.none names)

pub returns-in-Atom-clause-symbol : goal.returns-in-Atom-clause-symbol
returns-in-Atom-clause-symbol c =
    (atom_taken c.args.tree.symbol (tree_of [] c.args.tree) c.chosen-in-Atom.result.symbol (tree_of [] c.chosen-in-Atom.result) c.in-Atom.is (c.args.tree.fits [])
    (c.chosen-in-Atom.ensures.tree [])).is_expression

pub returns-in-Atom-clause-same : goal.returns-in-Atom-clause-same
returns-in-Atom-clause-same c = λ names.
    (atom_taken c.args.tree.symbol (tree_of names c.args.tree) c.chosen-in-Atom.result.symbol (tree_of names c.chosen-in-Atom.result) c.in-Atom.is (c.args.tree.fits names)
    (c.chosen-in-Atom.ensures.tree names)).same

pub returns-in-Tuple-clause-same : goal.returns-in-Tuple-clause-same
returns-in-Tuple-clause-same c = λ names.
    in_parentheses names c.args.tree.symbol (tree_of names c.args.tree) (tree_of names c.part.result) c.single-in-Tuple.result c.in-Tuple.is (c.args.tree.fits names)
    (c.part.ensures.tree names) c.single-in-Tuple.ensures.symbol (c.single-in-Tuple.ensures.tree names)

pub returns-in-Tuple-clause-bare : goal.returns-in-Tuple-clause-bare
returns-in-Tuple-clause-bare c = λ names.
    bare_tuple c.args.tree.symbol (tree_of names c.args.tree) (tree_of names c.part.result) c.single-in-Tuple.result c.in-Tuple.is (c.part.ensures.tree names)
    (c.single-in-Tuple.ensures.none names)

pub returns-in_default : goal.returns-in_default
returns-in_default c = record {
  symbol = tt;
  same = λ names. tt;
  smaller = tt;
  node = other_expression c.args.tree.symbol c.in_default.not-Operand c.in_default.not-Atom c.requires;
  bare = λ names. other_bare c.args.tree.symbol (tree_of names c.args.tree) c.in_default.not-Exp c.in_default.not-Application c.in_default.not-Tuple;
  owned = λ owner names whole. tt;
}

pub returns-in-Tuple-clause-owned : goal.returns-in-Tuple-clause-owned
returns-in-Tuple-clause-owned c = λ owner names whole. c.single-in-Tuple.ensures.owned owner names (c.part.ensures.owned owner names whole)
