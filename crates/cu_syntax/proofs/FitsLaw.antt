-- The trees that the grammar gives fit their symbols, and what a tree over numbers of tokens stands for.
use Rattle.std.specs.Prelude.{◌≡◌, ℕ, true, ◌&&◌, List, [], ◌∷◌, Option, None, Some, is_some, map, refl, slice_get, unwrap_or}
use Rattle.std.specs.Option.{option_and_then, option_map}
use Rattle.std.proofs.Common.{ap, ap₂, subst, sym, true≢false, ◌∙◌}
use Rattle.std.proofs.lemmas.Bool.{and_from}
use Rattle.cu_lex.specs.Tokens.{Lexeme}
use Rattle.cu_peg.specs.declared.row.Row.{Row}
use Rattle.cu_peg.specs.declared.row.Row.TheVariants as row
use Rattle.cu_peg.specs.Classes.{has}
use Rattle.cu_peg.specs.Matches.{Matches, RowMatches}
use Rattle.cu_peg.specs.Parse.{ParseTree, ParseTrees, Leaf, Parts, Chosen, NoTree, MoreTrees, tree_over, trees_over}
use Rattle.cu_syntax.specs.declared.symbol.Symbol.{Symbol}
use Rattle.cu_syntax.specs.Inside.Fits.{fits, has_alternative, have_parts, is_token}
use Rattle.cu_syntax.specs.Reading.{Tree, Trees}
use Rattle.cu_syntax.specs.Subtrees.{all_over, leaf_of, over}
use Rattle.cu_syntax.specs.Table.{Ahead, AtLeastOne, Choice, Many, NotAhead, Optional, Rule, SeparatedBy, Sequence, Token, alternative, number, row_of, rule_of, rows}
use Rattle.cu_syntax.proofs.RowLemmas.{row_at}
use Rattle.cu_syntax.proofs.SymbolLemmas.{alternative_is}

abbrev choices : Rule → List Symbol
choices (Choice parts) = parts
choices _ = []

-- A tree is one of a rule.
abbrev Fit : Rule → Tree → Type 0
Fit r (Leaf x) = is_token r x ≡ true
Fit r (Parts trees) = have_parts r trees ≡ true
Fit r (Chosen n tree) = (p : Symbol) × (slice_get (choices r) n ≡ Some p) × (fits p tree ≡ true)

chosen_fits : (s : Symbol) (r : Rule) (n : ℕ) (tree : Tree) (p : Symbol) → rule_of s ≡ r → slice_get (choices r) n ≡ Some p → fits p tree ≡ true
    → (has_alternative r n && fits (alternative s n) tree) ≡ true
chosen_fits s (Choice parts) n tree p e at f =
    let chosen : alternative s n ≡ p = alternative_is s parts n e ∙ ap (λ o. unwrap_or o s) at in
    and_from (is_some (slice_get parts n)) (fits (alternative s n) tree) (ap is_some at) (ap (λ q. fits q tree) chosen ∙ f)
chosen_fits s (Token c) n tree p e at f = absurd cc
chosen_fits s (Sequence parts) n tree p e at f = absurd cc
chosen_fits s (Optional q) n tree p e at f = absurd cc
chosen_fits s (Many q) n tree p e at f = absurd cc
chosen_fits s (AtLeastOne q) n tree p e at f = absurd cc
chosen_fits s (SeparatedBy q t) n tree p e at f = absurd cc
chosen_fits s (Ahead q) n tree p e at f = absurd cc
chosen_fits s (NotAhead q) n tree p e at f = absurd cc

fit_symbol : (s : Symbol) (tree : Tree) → Fit (rule_of s) tree → fits s tree ≡ true
fit_symbol s (Leaf x) f = f
fit_symbol s (Parts trees) f = f
fit_symbol s (Chosen n tree) f = chosen_fits s (rule_of s) n tree f.0 refl f.1 f.2

separated_many : (p s : Symbol) (trees : Trees) → have_parts (SeparatedBy p s) trees ≡ true → have_parts (Many p) trees ≡ true
separated_many p s NoTree h = absurd (true≢false (sym h))
separated_many p s (MoreTrees tree trees) h = h

-- Rows with the same head, and lists that are both empty or not.
abbrev Heads : Row → Row → Type 0
Heads (row.Token c) (row.Token d) = Unit {0}
Heads (row.Sequence []) (row.Sequence []) = Unit {0}
Heads (row.Sequence (p ∷ ps)) (row.Sequence (q ∷ qs)) = Unit {0}
Heads (row.Choice []) (row.Choice []) = Unit {0}
Heads (row.Choice (p ∷ ps)) (row.Choice (q ∷ qs)) = Unit {0}
Heads (row.Optional p) (row.Optional q) = Unit {0}
Heads (row.Many p) (row.Many q) = Unit {0}
Heads (row.AtLeastOne p) (row.AtLeastOne q) = Unit {0}
Heads (row.SeparatedBy p s) (row.SeparatedBy q t) = Unit {0}
Heads (row.Ahead p) (row.Ahead q) = Unit {0}
Heads (row.NotAhead p) (row.NotAhead q) = Unit {0}
Heads _ _ = ⊥

own_head : (e : Row) → Heads e e
own_head (row.Token c) = tt
own_head (row.Sequence []) = tt
own_head (row.Sequence (p ∷ ps)) = tt
own_head (row.Choice []) = tt
own_head (row.Choice (p ∷ ps)) = tt
own_head (row.Optional p) = tt
own_head (row.Many p) = tt
own_head (row.AtLeastOne p) = tt
own_head (row.SeparatedBy p s) = tt
own_head (row.Ahead p) = tt
own_head (row.NotAhead p) = tt

heads : (e f : Row) → e ≡ f → Heads e f
heads e f h = subst (λ (g : Row). Heads e g) h (own_head e)

-- over any table that has the rule of each symbol at its number
module _ (table : List Row) (at : (s : Symbol) → slice_get table (number s) ≡ Some (row_of (rule_of s))) where
  same_row : (r : ℕ) (e f : Row) → slice_get table r ≡ Some e → slice_get table r ≡ Some f → e ≡ f
  same_row r e f p q = cc

  row_is : (s : Symbol) (r : ℕ) (e : Row) → r ≡ number s → slice_get table r ≡ Some e → e ≡ row_of (rule_of s)
  row_is s r e n found = same_row r e (row_of (rule_of s)) found (ap (slice_get table) n ∙ at s)

  mutual
    fits_in : (s : Symbol) (r : ℕ) (text rest : List Lexeme) (tree : Tree) → r ≡ number s → Matches table has r text rest tree → fits s tree ≡ true
    fits_in s r text rest tree n (Matches.matches _ e _ _ _ found d) = fit_symbol s tree (fit_row (rule_of s) e text rest tree (row_is s r e n found) d)

    fit_row : (r : Rule) (e : Row) (text rest : List Lexeme) (tree : Tree) → e ≡ row_of r → RowMatches table has e text rest tree → Fit r tree
    fit_row (Token c) _ _ _ _ eq (RowMatches.token k x rest h) =
        let same : k ≡ c = cc in
        ap (λ t. has t x) (sym same) ∙ h
    fit_row (Sequence []) _ _ _ _ eq (RowMatches.empty text) = refl
    fit_row (Sequence (q ∷ qs)) _ _ _ _ eq (RowMatches.sequence p ps text after rest tree trees m ms) =
        let first : p ≡ number q = cc in
        let others : row.Sequence ps ≡ row.Sequence (map number qs) = cc in
        and_from (fits q tree) (have_parts (Sequence qs) trees) (fits_in q p text after tree first m)
        (fit_row (Sequence qs) (row.Sequence ps) after rest (Parts trees) others ms)
    fit_row (Choice []) _ _ _ _ eq (RowMatches.first p ps text rest tree m) = absurd (heads (row.Choice (p ∷ ps)) (row.Choice []) eq)
    fit_row (Choice (q ∷ qs)) _ _ _ _ eq (RowMatches.first p ps text rest tree m) =
        let first : p ≡ number q = cc in
        (q, refl, fits_in q p text rest tree first m)
    fit_row (Choice (q ∷ qs)) _ _ _ _ eq (RowMatches.later p ps text rest n tree f m) =
        let others : row.Choice ps ≡ row.Choice (map number qs) = cc in
        fit_row (Choice qs) (row.Choice ps) text rest (Chosen n tree) others m
    fit_row (Optional q) _ _ _ _ eq (RowMatches.present p text rest tree m) =
        let part : p ≡ number q = cc in
        fits_in q p text rest tree part m
    fit_row (Optional q) _ _ _ _ eq (RowMatches.absent p text f) = refl
    fit_row (Many q) _ _ _ _ eq (RowMatches.no_more p text f) = refl
    fit_row (Many q) _ _ _ _ eq (RowMatches.one_more p text after rest tree trees m ms) =
        let part : p ≡ number q = cc in
        and_from (fits q tree) (have_parts (Many q) trees) (fits_in q p text after tree part m) (fit_row (Many q) (row.Many p) after rest (Parts trees) eq ms)
    fit_row (AtLeastOne q) _ _ _ _ eq (RowMatches.at_least_one p text after rest tree trees m ms) =
        let part : p ≡ number q = cc in
        let many : row.Many p ≡ row.Many (number q) = cc in
        and_from (fits q tree) (have_parts (Many q) trees) (fits_in q p text after tree part m) (fit_row (Many q) (row.Many p) after rest (Parts trees) many ms)
    fit_row (SeparatedBy q t) _ _ _ _ eq (RowMatches.last p s text rest tree m f) =
        let part : p ≡ number q = cc in
        and_from (fits q tree) true (fits_in q p text rest tree part m) refl
    fit_row (SeparatedBy q t) _ _ _ _ eq (RowMatches.separated p s text after suffix rest tree separator trees m k ms) =
        let part : p ≡ number q = cc in
        and_from (fits q tree) (have_parts (Many q) trees) (fits_in q p text after tree part m)
        (separated_many q t trees (fit_row (SeparatedBy q t) (row.SeparatedBy p s) suffix rest (Parts trees) eq ms))
    fit_row (Ahead q) _ _ _ _ eq (RowMatches.ahead p text rest tree m) = refl
    fit_row (NotAhead q) _ _ _ _ eq (RowMatches.not_ahead p text f) = refl
    fit_row r e text rest tree eq d = absurd (heads e (row_of r) eq)

-- what the row of a symbol matches fits the symbol
pub fits_match : (s : Symbol) (r : ℕ) (text rest : List Lexeme) (tree : Tree) → r ≡ number s → Matches rows has r text rest tree → fits s tree ≡ true
fits_match s r text rest tree n m = fits_in rows row_at s r text rest tree n m

-- where a tree over numbers stands for one of tokens, it is that one

leaf_over : (o : Option Lexeme) (tree : Tree) → option_map Leaf o ≡ Some tree → leaf_of o ≡ tree
leaf_over (Some x) tree e = cc
leaf_over None tree e = absurd cc

parts_over : (o : Option Trees) (trees : Trees) (tree : Tree) → ((found : Trees) → o ≡ Some found → trees ≡ found) → option_map Parts o ≡ Some tree → Parts trees ≡ tree
parts_over (Some found) trees tree h e =
    let same : Parts found ≡ tree = cc in
    ap Parts (h found refl) ∙ same
parts_over None trees tree h e = absurd cc

chosen_over : (n : ℕ) (o : Option Tree) (inner tree : Tree) → ((found : Tree) → o ≡ Some found → inner ≡ found) → option_map (Chosen n) o ≡ Some tree → Chosen n inner ≡ tree
chosen_over n (Some found) inner tree h e =
    let same : Chosen n found ≡ tree = cc in
    ap (Chosen n) (h found refl) ∙ same
chosen_over n None inner tree h e = absurd cc

more_over : (a : Option Tree) (b : Option Trees) (first : Tree) (others trees : Trees) → ((found : Tree) → a ≡ Some found → first ≡ found)
    → ((found : Trees) → b ≡ Some found → others ≡ found) → option_and_then (λ t. option_map (MoreTrees t) b) a ≡ Some trees → MoreTrees first others ≡ trees
more_over (Some x) (Some xs) first others trees h k e =
    let same : MoreTrees x xs ≡ trees = cc in
    ap₂ (λ t ts. MoreTrees t ts) (h x refl) (k xs refl) ∙ same
more_over (Some x) None first others trees h k e = absurd cc
more_over None b first others trees h k e = absurd cc

mutual
  pub over_is : (tokens : List Lexeme) (tree : ParseTree ℕ) (found : Tree) → tree_over tokens tree ≡ Some found → over tokens tree ≡ found
  over_is tokens (Leaf n) found e = leaf_over (slice_get tokens n) found e
  over_is tokens (Parts trees) found e = parts_over (trees_over tokens trees) (all_over tokens trees) found (λ ts h. all_over_is tokens trees ts h) e
  over_is tokens (Chosen n tree) found e = chosen_over n (tree_over tokens tree) (over tokens tree) found (λ t h. over_is tokens tree t h) e

  all_over_is : (tokens : List Lexeme) (trees : ParseTrees ℕ) (found : Trees) → trees_over tokens trees ≡ Some found → all_over tokens trees ≡ found
  all_over_is tokens NoTree found e = cc
  all_over_is tokens (MoreTrees tree trees) found e =
      more_over (tree_over tokens tree) (trees_over tokens trees) (over tokens tree) (all_over tokens trees) found (λ t h. over_is tokens tree t h) (λ ts h. all_over_is tokens trees ts h) e
