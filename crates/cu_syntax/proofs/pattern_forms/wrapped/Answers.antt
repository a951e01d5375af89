-- A choice took one pattern, and parentheses hold one.
use Rattle.std.proofs.Common.{[], sym, ◌∙◌}
use Rattle.cu_syntax.specs.SubtreeMeaning.{tree_of}
use Rattle.cu_syntax.proofs.PatternForms.{a_pattern_taken, bare_tuple, con_pattern_taken, in_parentheses, lone_pattern, other_bare, other_pattern}
use Rattle.cu_syntax.proofs.pattern_forms.wrapped.Goals as goal

pub returns-then-is_empty-clause-same : goal.returns-then-is_empty-clause-same
returns-then-is_empty-clause-same c = λ names.
    lone_pattern c.args.tree.symbol (tree_of names c.args.tree) (tree_of names c.part-then-is_empty.result) (tree_of names c.part.result) c.part-then-is_empty.result.symbol
    c.in-Pat.is (c.args.tree.fits names) (c.part-then-is_empty.ensures.tree names) (c.part.ensures.tree names) (sym (c.is_empty.ensures names) ∙ c.if-is_empty.true) c.part-then-is_empty.ensures.symbol

pub returns-in-ConPat-clause-symbol : goal.returns-in-ConPat-clause-symbol
returns-in-ConPat-clause-symbol c =
    (con_pattern_taken c.args.tree.symbol (tree_of [] c.args.tree) c.chosen.result.symbol (tree_of [] c.chosen.result) c.in-ConPat.is (c.args.tree.fits []) (c.chosen.ensures.tree [])).is_pattern

pub returns-in-ConPat-clause-same : goal.returns-in-ConPat-clause-same
returns-in-ConPat-clause-same c = λ names.
    (con_pattern_taken c.args.tree.symbol (tree_of names c.args.tree) c.chosen.result.symbol (tree_of names c.chosen.result) c.in-ConPat.is (c.args.tree.fits names)
    (c.chosen.ensures.tree names)).same

pub returns-in-APat-clause-symbol : goal.returns-in-APat-clause-symbol
returns-in-APat-clause-symbol c =
    (a_pattern_taken c.args.tree.symbol (tree_of [] c.args.tree) c.chosen-in-APat.result.symbol (tree_of [] c.chosen-in-APat.result) c.in-APat.is (c.args.tree.fits [])
    (c.chosen-in-APat.ensures.tree [])).is_pattern

pub returns-in-APat-clause-same : goal.returns-in-APat-clause-same
returns-in-APat-clause-same c = λ names.
    (a_pattern_taken c.args.tree.symbol (tree_of names c.args.tree) c.chosen-in-APat.result.symbol (tree_of names c.chosen-in-APat.result) c.in-APat.is (c.args.tree.fits names)
    (c.chosen-in-APat.ensures.tree names)).same

pub returns-in-TuplePat-clause-same : goal.returns-in-TuplePat-clause-same
returns-in-TuplePat-clause-same c = λ names.
    in_parentheses names c.args.tree.symbol (tree_of names c.args.tree) (tree_of names c.part-in-TuplePat.result) c.single.result c.in-TuplePat.is (c.args.tree.fits names)
    (c.part-in-TuplePat.ensures.tree names) c.single.ensures.symbol (c.single.ensures.tree names)

pub returns-in-TuplePat-clause-bare : goal.returns-in-TuplePat-clause-bare
returns-in-TuplePat-clause-bare c = λ names.
    bare_tuple c.args.tree.symbol (tree_of names c.args.tree) (tree_of names c.part-in-TuplePat.result) c.single.result c.in-TuplePat.is (c.part-in-TuplePat.ensures.tree names)
    (c.single.ensures.none names)

pub returns-in_default : goal.returns-in_default
returns-in_default c = record {
  symbol = tt;
  same = λ names. tt;
  smaller = tt;
  node = other_pattern c.args.tree.symbol c.in_default.not-ConPat c.in_default.not-APat c.requires;
  bare = λ names. other_bare c.args.tree.symbol (tree_of names c.args.tree) c.in_default.not-Pat c.in_default.not-TuplePat;
  owned = λ owner names whole. tt;
}

pub returns-in-TuplePat-clause-owned : goal.returns-in-TuplePat-clause-owned
returns-in-TuplePat-clause-owned c = λ owner names whole. c.single.ensures.owned owner names (c.part-in-TuplePat.ensures.owned owner names whole)
