-- A choice took one type, and parentheses hold one.
use Rattle.std.proofs.Common.{[]}
use Rattle.cu_syntax.specs.SubtreeMeaning.{tree_of}
use Rattle.cu_syntax.proofs.TypeForms.{a_type_taken, b_type_taken, bare_function, bare_tuple, in_parentheses, one_type, other_bare, other_type}
use Rattle.cu_syntax.proofs.type_forms.wrapped.Goals as goal

pub returns-in-TypeExp-clause-same : goal.returns-in-TypeExp-clause-same
returns-in-TypeExp-clause-same c = λ names.
    one_type names c.args.tree.symbol (tree_of names c.args.tree) c.single.result c.in-TypeExp.is c.single.ensures.symbol (c.single.ensures.tree names)

pub returns-in-TypeExp-clause-bare : goal.returns-in-TypeExp-clause-bare
returns-in-TypeExp-clause-bare c = λ names.
    bare_function c.args.tree.symbol (tree_of names c.args.tree) c.single.result c.in-TypeExp.is (c.single.ensures.none names)

pub returns-in-BType-clause-symbol : goal.returns-in-BType-clause-symbol
returns-in-BType-clause-symbol c =
    (b_type_taken c.args.tree.symbol (tree_of [] c.args.tree) c.chosen.result.symbol (tree_of [] c.chosen.result) c.in-BType.is (c.args.tree.fits []) (c.chosen.ensures.tree [])).is_type

pub returns-in-BType-clause-same : goal.returns-in-BType-clause-same
returns-in-BType-clause-same c = λ names.
    (b_type_taken c.args.tree.symbol (tree_of names c.args.tree) c.chosen.result.symbol (tree_of names c.chosen.result) c.in-BType.is (c.args.tree.fits names) (c.chosen.ensures.tree names)).same

pub returns-in-AType-clause-symbol : goal.returns-in-AType-clause-symbol
returns-in-AType-clause-symbol c =
    (a_type_taken c.args.tree.symbol (tree_of [] c.args.tree) c.chosen-in-AType.result.symbol (tree_of [] c.chosen-in-AType.result) c.in-AType.is (c.args.tree.fits []) (c.chosen-in-AType.ensures.tree [])).is_type

pub returns-in-AType-clause-same : goal.returns-in-AType-clause-same
returns-in-AType-clause-same c = λ names.
    (a_type_taken c.args.tree.symbol (tree_of names c.args.tree) c.chosen-in-AType.result.symbol (tree_of names c.chosen-in-AType.result) c.in-AType.is (c.args.tree.fits names) (c.chosen-in-AType.ensures.tree names)).same

pub returns-in-TupleType-clause-same : goal.returns-in-TupleType-clause-same
returns-in-TupleType-clause-same c = λ names.
    in_parentheses names c.args.tree.symbol (tree_of names c.args.tree) (tree_of names c.part.result) c.single-in-TupleType.result c.in-TupleType.is (c.args.tree.fits names) (c.part.ensures.tree names)
    c.single-in-TupleType.ensures.symbol (c.single-in-TupleType.ensures.tree names)

pub returns-in-TupleType-clause-bare : goal.returns-in-TupleType-clause-bare
returns-in-TupleType-clause-bare c = λ names.
    bare_tuple c.args.tree.symbol (tree_of names c.args.tree) (tree_of names c.part.result) c.single-in-TupleType.result c.in-TupleType.is (c.part.ensures.tree names)
    (c.single-in-TupleType.ensures.none names)

pub returns-in_default : goal.returns-in_default
returns-in_default c = record {
  symbol = tt;
  same = λ names. tt;
  smaller = tt;
  node = other_type c.args.tree.symbol c.in_default.not-BType c.in_default.not-AType c.requires;
  bare = λ names. other_bare c.args.tree.symbol (tree_of names c.args.tree) c.in_default.not-TypeExp c.in_default.not-TupleType;
  owned = λ owner names whole. tt;
}

pub returns-in-TupleType-clause-owned : goal.returns-in-TupleType-clause-owned
returns-in-TupleType-clause-owned c = λ owner names whole. c.single-in-TupleType.ensures.owned owner names (c.part.ensures.owned owner names whole)
