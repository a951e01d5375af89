use Rattle.std.proofs.Common.{◌≡◌, List, map, subst, sym, true}
use Rattle.std.specs.List.{All}
use Rattle.cu_lex.specs.declared.token.Token.{Token}
use Rattle.cu_lex.specs.Reading.{lexeme_of, IsTokenOf}
use Rattle.cu_syntax.specs.Inside.Fits.{fits}
use Rattle.cu_syntax.specs.Parsing.{Has}
use Rattle.cu_syntax.specs.Subtrees.{over}
use Rattle.cu_syntax.proofs.PartLemmas.{if_none, if_some, none_of, tree_fits, tree_found}
use Rattle.cu_syntax.proofs.SplitLemmas.{lexemes}
use Rattle.cu_syntax.proofs.parsing.parse.Goals as goal

pub returns-in_default-clause-none : goal.returns-in_default-clause-none
returns-in_default-clause-none c = λ names.
    none_of c.args.grammar.now c.number.result c.args.symbol (map (lexeme_of names) c.args.tokens.now) c.requires.rows c.number.ensures
    (if_none c.in_ok-tree.field-0 _ c.in_default.is (c.in_ok-tree.ensures.none names))

pub invariant_of-result : goal.invariant_of-result
invariant_of-result c = record {
  fits = λ names.
      subst (λ (tokens : List Token). fits c.args.symbol (over (lexemes names tokens) c.in-Some.tree) ≡ true) (sym c.in_ok-tokens.ensures)
      (tree_fits c.args.symbol (lexemes names c.args.tokens.now) (over (lexemes names c.args.tokens.now) c.in-Some.tree)
      (tree_found c.args.grammar.now c.number.result c.args.symbol (lexemes names c.args.tokens.now) c.in-Some.tree c.requires.rows c.number.ensures
      (if_some c.in_ok-tree.field-0 _ c.in-Some.tree c.in-Some.is (c.in_ok-tree.ensures.tree names))));
}

pub returns-clause-tree : goal.returns-clause-tree
returns-clause-tree c = λ names.
    subst (λ (tokens : List Token). Has c.args.symbol (lexemes names c.args.tokens.now) (over (lexemes names tokens) c.in-Some.tree)) (sym c.in_ok-tokens.ensures)
    (tree_found c.args.grammar.now c.number.result c.args.symbol (lexemes names c.args.tokens.now) c.in-Some.tree c.requires.rows c.number.ensures
    (if_some c.in_ok-tree.field-0 _ c.in-Some.tree c.in-Some.is (c.in_ok-tree.ensures.tree names)))

pub returns-clause-owned : goal.returns-clause-owned
returns-clause-owned c = λ owner names whole. record { tokens = subst (All (IsTokenOf owner names)) (sym c.in_ok-tokens.ensures) whole }
