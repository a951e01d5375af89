-- Trees of the grammar over right tokens: their tuple types have at most fifteen components.
use Rattle.std.specs.Prelude.{◌≡◌, ◌<◌, ◌≤◌, ℕ, zero, suc, List, [], ◌∷◌, Some, map, refl, slice_get, unwrap_or}
use Rattle.std.proofs.Common.{◌⊎◌, ap, arith, inl, inr, subst, sym, ◌∙◌}
use Rattle.cu_lex.specs.Tokens.{Lexeme}
use Rattle.cu_peg.specs.declared.row.Row.{Row}
use Rattle.cu_peg.specs.declared.row.Row.TheVariants as row
use Rattle.cu_peg.specs.Classes.{has}
use Rattle.cu_peg.specs.Matches.{Fails, Matches, RowMatches}
use Rattle.cu_peg.specs.Parse.{Leaf, Parts, Chosen, NoTree, MoreTrees}
use Rattle.cu_peg.proofs.OneTree.{refutes}
use Rattle.cu_syntax.specs.declared.symbol.Symbol.{Symbol}
use Rattle.cu_syntax.specs.declared.symbol.Symbol.TheVariants as symbol
use Rattle.cu_syntax.specs.Reading.{Tree, Trees, count}
use Rattle.cu_syntax.specs.Table.{Ahead, AtLeastOne, Choice, Many, NotAhead, Optional, Rule, SeparatedBy, Sequence, Token, alternative, number, row_of, rule_of, rows}
use Rattle.cu_syntax.proofs.RowLemmas.{row_at}
use Rattle.cu_syntax.proofs.SymbolLemmas.{alternative_is}
use Rattle.cu_front_laws.proofs.Members.{Every, compare}

-- a tuple type has at most fifteen components
abbrev pub Limit : Symbol → Trees → Type 0
Limit symbol.TupleType (MoreTrees opening (MoreTrees limit (MoreTrees (Parts components) (MoreTrees closing NoTree)))) = count components < 16
Limit _ _ = Unit {0}

-- ---- rows of one form

-- Rows with the same head, and lists that are both empty or not.
abbrev Heads : Row → Row → Type 0
Heads (row.Token c) (row.Token d) = Unit {0}
Heads (row.Sequence []) (row.Sequence []) = Unit {0}
Heads (row.Sequence (p ∷ ps)) (row.Sequence (q ∷ qs)) = Unit {0}
Heads (row.Choice []) (row.Choice []) = Unit {0}
Heads (row.Choice (p ∷ ps)) (row.Choice (q ∷ qs)) = Unit {0}
Heads (row.Optional p) (row.Optional q) = Unit {0}
Heads (row.Many p) (row.Many q) = Unit {0}
Heads (row.AtLeastOne p) (row.AtLeastOne q) = Unit {0}
Heads (row.SeparatedBy p s) (row.SeparatedBy q t) = Unit {0}
Heads (row.Ahead p) (row.Ahead q) = Unit {0}
Heads (row.NotAhead p) (row.NotAhead q) = Unit {0}
Heads _ _ = ⊥

own_head : (e : Row) → Heads e e
own_head (row.Token c) = tt
own_head (row.Sequence []) = tt
own_head (row.Sequence (p ∷ ps)) = tt
own_head (row.Choice []) = tt
own_head (row.Choice (p ∷ ps)) = tt
own_head (row.Optional p) = tt
own_head (row.Many p) = tt
own_head (row.AtLeastOne p) = tt
own_head (row.SeparatedBy p s) = tt
own_head (row.Ahead p) = tt
own_head (row.NotAhead p) = tt

heads : (e f : Row) → e ≡ f → Heads e f
heads e f h = subst (λ (g : Row). Heads e g) h (own_head e)

-- ---- tuple types

-- so many parts with separators between them, and one more
abbrev alternating : ℕ → ℕ → ℕ → List ℕ
alternating p s zero = p ∷ []
alternating p s (suc n) = p ∷ s ∷ alternating p s n

Begins : List ℕ → List Lexeme → Type 0
Begins ps text = (rest : List Lexeme) × (trees : Trees) × RowMatches rows has (row.Sequence ps) text rest (Parts trees)

-- what is separated begins with fewer parts than it has
begin_with : (p s n : ℕ) (text rest : List Lexeme) (trees : Trees) → RowMatches rows has (row.SeparatedBy p s) text rest (Parts trees)
    → n < count trees → Begins (alternating p s n) text
unfolding Begins
begin_with p s zero text rest trees (RowMatches.last _ _ _ _ tree m f) h =
    (rest, MoreTrees tree NoTree, RowMatches.sequence p [] text rest rest tree NoTree m (RowMatches.empty rest))
begin_with p s zero text rest trees (RowMatches.separated _ _ _ after later _ tree separator others m k ms) h =
    (after, MoreTrees tree NoTree, RowMatches.sequence p [] text after after tree NoTree m (RowMatches.empty after))
begin_with p s (suc n) text rest trees (RowMatches.last _ _ _ _ tree m f) h = absurd (omega arith)
begin_with p s (suc n) text rest trees (RowMatches.separated _ _ _ after later _ tree separator others m k ms) h =
    let more = begin_with p s n later rest others ms (omega arith) in (
      more.0,
      MoreTrees tree (MoreTrees separator more.1),
      RowMatches.sequence p (s ∷ alternating p s n) text after more.0 tree (MoreTrees separator more.1) m
          (RowMatches.sequence s (alternating p s n) after later more.0 separator more.1 k more.2),
    )

row_of_match : (r : ℕ) (e : Row) (text rest : List Lexeme) (tree : Tree) → slice_get rows r ≡ Some e → Matches rows has r text rest tree
    → RowMatches rows has e text rest tree
row_of_match r e text rest tree s (Matches.matches _ other _ _ _ found d) =
    let same : other ≡ e = cc in
    subst (λ (f : Row). RowMatches rows has f text rest tree) same d

sixteen_types : slice_get rows (number symbol.SixteenTypes) ≡ Some (row.Sequence (alternating (number symbol.TypeExp) (number symbol.Comma) 15))
sixteen_types = refl

decide : (m n : ℕ) → (m < n → ⊥) → n ≤ m
decide m n never = by (compare m n)
  where
    by : (m < n) ⊎ ((m ≡ n) ⊎ (n < m)) → n ≤ m
    by (inl h) = absurd (never h)
    by (inr (inl h)) = omega arith
    by (inr (inr h)) = omega arith

not_ahead_of : (p : ℕ) (text rest : List Lexeme) (tree : Tree) → RowMatches rows has (row.NotAhead p) text rest tree
    → (text ≡ rest) × Fails rows has p text
not_ahead_of p text rest tree (RowMatches.not_ahead _ _ f) = (refl, f)

few : (text rest : List Lexeme) (trees : Trees)
    → RowMatches rows has (row.SeparatedBy (number symbol.TypeExp) (number symbol.Comma)) text rest (Parts trees)
    → Fails rows has (number symbol.SixteenTypes) text
    → count trees < 16
unfolding Begins
few text rest trees m f =
    let most = decide 15 (count trees) (λ h.
    let more = begin_with (number symbol.TypeExp) (number symbol.Comma) 15 text rest trees m h in
    refutes rows has (Matches.matches (number symbol.SixteenTypes) (row.Sequence (alternating (number symbol.TypeExp) (number symbol.Comma) 15)) text
    more.0 (Parts more.1) sixteen_types more.2) f) in
    omega arith

tuple_limit : (text rest : List Lexeme) (opening limit closing : Tree) (components : Trees)
    → RowMatches rows has
    (row.Sequence (number symbol.OpenParen ∷ number symbol.NoSixteenTypes ∷ number symbol.TypeList ∷ number symbol.CloseParen ∷ [])) text rest
    (Parts (MoreTrees opening (MoreTrees limit (MoreTrees (Parts components) (MoreTrees closing NoTree)))))
    → count components < 16
tuple_limit text rest opening limit closing components
    (RowMatches.sequence _ _ _ after _ _ _ o (RowMatches.sequence _ _ _ after' _ _ _ l (RowMatches.sequence _ _ _ after'' _ _ _ m more))) =
    let ahead = not_ahead_of (number symbol.SixteenTypes) after after' limit
    (row_of_match (number symbol.NoSixteenTypes) (row.NotAhead (number symbol.SixteenTypes)) after after' limit refl l) in
    few after' after'' components
    (row_of_match (number symbol.TypeList) (row.SeparatedBy (number symbol.TypeExp) (number symbol.Comma)) after' after'' (Parts components) refl m)
    (subst (λ (t : List Lexeme). Fails rows has (number symbol.SixteenTypes) t) ahead.0 ahead.1)

limited : (s : Symbol) (e : Row) (text rest : List Lexeme) (trees : Trees) → e ≡ row_of (rule_of s) → RowMatches rows has e text rest (Parts trees)
    → Limit s trees
limited symbol.TupleType e text rest (MoreTrees opening (MoreTrees limit (MoreTrees (Parts components) (MoreTrees closing NoTree)))) is m =
    tuple_limit text rest opening limit closing components
    (subst (λ (f : Row). RowMatches rows has f text rest
    (Parts (MoreTrees opening (MoreTrees limit (MoreTrees (Parts components) (MoreTrees closing NoTree)))))) is m)
limited s e text rest trees is m = tt

abbrev choices : Rule → List Symbol
choices (Choice parts) = parts
choices _ = []

module _ (Ok : Lexeme → Type 0) where
  abbrev mutual
    -- a tree that a symbol may have, over right tokens
    pub Good : Symbol → Tree → Type 0
    Good s (Leaf x) = Ok x
    Good s (Parts trees) = GoodParts (rule_of s) trees × Limit s trees
    Good s (Chosen n tree) = Good (alternative s n) tree

    pub GoodParts : Rule → Trees → Type 0
    GoodParts (Sequence (p ∷ parts)) (MoreTrees tree trees) = Good p tree × GoodParts (Sequence parts) trees
    GoodParts (Optional p) (MoreTrees tree trees) = Good p tree × GoodParts (Many p) trees
    GoodParts (Many p) (MoreTrees tree trees) = Good p tree × GoodParts (Many p) trees
    GoodParts (AtLeastOne p) (MoreTrees tree trees) = Good p tree × GoodParts (Many p) trees
    GoodParts (SeparatedBy p s) (MoreTrees tree trees) = Good p tree × GoodParts (Many p) trees
    GoodParts _ _ = Unit {0}

  -- ---- what a row matches is such a tree

  abbrev GoodRow : Rule → Tree → Type 0
  GoodRow r (Leaf x) = Ok x
  GoodRow r (Parts trees) = GoodParts r trees
  GoodRow r (Chosen n tree) = (p : Symbol) × (slice_get (choices r) n ≡ Some p) × Good p tree

  good_chosen : (s : Symbol) (r : Rule) (n : ℕ) (tree : Tree) (p : Symbol) → rule_of s ≡ r → slice_get (choices r) n ≡ Some p → Good p tree
      → Good (alternative s n) tree
  good_chosen s (Choice parts) n tree p e at good =
      subst (λ (q : Symbol). Good q tree) (sym (alternative_is s parts n e ∙ ap (λ o. unwrap_or o s) at)) good
  good_chosen s (Token c) n tree p e at good = absurd cc
  good_chosen s (Sequence parts) n tree p e at good = absurd cc
  good_chosen s (Optional q) n tree p e at good = absurd cc
  good_chosen s (Many q) n tree p e at good = absurd cc
  good_chosen s (AtLeastOne q) n tree p e at good = absurd cc
  good_chosen s (SeparatedBy q t) n tree p e at good = absurd cc
  good_chosen s (Ahead q) n tree p e at good = absurd cc
  good_chosen s (NotAhead q) n tree p e at good = absurd cc

  good_symbol : (s : Symbol) (e : Row) (text rest : List Lexeme) (tree : Tree) → e ≡ row_of (rule_of s) → RowMatches rows has e text rest tree
      → GoodRow (rule_of s) tree → Good s tree
  good_symbol s e text rest (Leaf x) is m good = good
  good_symbol s e text rest (Parts trees) is m good = (good, limited s e text rest trees is m)
  good_symbol s e text rest (Chosen n tree) is m good = good_chosen s (rule_of s) n tree good.0 refl good.1 good.2

  separated_many : (p s : Symbol) (trees : Trees) → GoodParts (SeparatedBy p s) trees → GoodParts (Many p) trees
  separated_many p s NoTree good = tt
  separated_many p s (MoreTrees tree trees) good = good

  -- what is matched, and right tokens after it
  abbrev Found : Type 0 → List Lexeme → Type 0
  Found T rest = T × Every Ok rest

  same_row : (r : ℕ) (e f : Row) → slice_get rows r ≡ Some e → slice_get rows r ≡ Some f → e ≡ f
  same_row r e f p q = cc

  row_is : (s : Symbol) (r : ℕ) (e : Row) → r ≡ number s → slice_get rows r ≡ Some e → e ≡ row_of (rule_of s)
  row_is s r e n found = same_row r e (row_of (rule_of s)) found (ap (slice_get rows) n ∙ row_at s)

  mutual
    good_in : (s : Symbol) (r : ℕ) (text rest : List Lexeme) (tree : Tree) → r ≡ number s → Every Ok text → Matches rows has r text rest tree
        → Found (Good s tree) rest
    good_in s r text rest tree n ok (Matches.matches _ e _ _ _ found d) =
        let is = row_is s r e n found in
        let good = good_row (rule_of s) e text rest tree is ok d in
        (good_symbol s e text rest tree is d good.0, good.1)

    good_row : (r : Rule) (e : Row) (text rest : List Lexeme) (tree : Tree) → e ≡ row_of r → Every Ok text → RowMatches rows has e text rest tree
        → Found (GoodRow r tree) rest
    good_row (Token c) _ _ _ _ eq ok (RowMatches.token k x rest h) = (ok.0, ok.1)
    good_row (Sequence []) _ _ _ _ eq ok (RowMatches.empty text) = (tt, ok)
    good_row (Sequence (q ∷ qs)) _ _ _ _ eq ok (RowMatches.sequence p ps text after rest tree trees m ms) =
        let first : p ≡ number q = cc in
        let others : row.Sequence ps ≡ row.Sequence (map number qs) = cc in
        let one = good_in q p text after tree first ok m in
        let more = good_row (Sequence qs) (row.Sequence ps) after rest (Parts trees) others one.1 ms in
        ((one.0, more.0), more.1)
    good_row (Choice []) _ _ _ _ eq ok (RowMatches.first p ps text rest tree m) = absurd (heads (row.Choice (p ∷ ps)) (row.Choice []) eq)
    good_row (Choice (q ∷ qs)) _ _ _ _ eq ok (RowMatches.first p ps text rest tree m) =
        let first : p ≡ number q = cc in
        let one = good_in q p text rest tree first ok m in
        ((q, refl, one.0), one.1)
    good_row (Choice (q ∷ qs)) _ _ _ _ eq ok (RowMatches.later p ps text rest n tree f m) =
        let others : row.Choice ps ≡ row.Choice (map number qs) = cc in
        good_row (Choice qs) (row.Choice ps) text rest (Chosen n tree) others ok m
    good_row (Optional q) _ _ _ _ eq ok (RowMatches.present p text rest tree m) =
        let part : p ≡ number q = cc in
        let one = good_in q p text rest tree part ok m in
        ((one.0, tt), one.1)
    good_row (Optional q) _ _ _ _ eq ok (RowMatches.absent p text f) = (tt, ok)
    good_row (Many q) _ _ _ _ eq ok (RowMatches.no_more p text f) = (tt, ok)
    good_row (Many q) _ _ _ _ eq ok (RowMatches.one_more p text after rest tree trees m ms) =
        let part : p ≡ number q = cc in
        let one = good_in q p text after tree part ok m in
        let more = good_row (Many q) (row.Many p) after rest (Parts trees) eq one.1 ms in
        ((one.0, more.0), more.1)
    good_row (AtLeastOne q) _ _ _ _ eq ok (RowMatches.at_least_one p text after rest tree trees m ms) =
        let part : p ≡ number q = cc in
        let many : row.Many p ≡ row.Many (number q) = cc in
        let one = good_in q p text after tree part ok m in
        let more = good_row (Many q) (row.Many p) after rest (Parts trees) many one.1 ms in
        ((one.0, more.0), more.1)
    good_row (SeparatedBy q t) _ _ _ _ eq ok (RowMatches.last p s text rest tree m f) =
        let part : p ≡ number q = cc in
        let one = good_in q p text rest tree part ok m in
        ((one.0, tt), one.1)
    good_row (SeparatedBy q t) _ _ _ _ eq ok (RowMatches.separated p s text after suffix rest tree separator trees m k ms) =
        let part : p ≡ number q = cc in
        let apart : s ≡ number t = cc in
        let one = good_in q p text after tree part ok m in
        let two = good_in t s after suffix separator apart one.1 k in
        let more = good_row (SeparatedBy q t) (row.SeparatedBy p s) suffix rest (Parts trees) eq two.1 ms in
        ((one.0, separated_many q t trees more.0), more.1)
    good_row (Ahead q) _ _ _ _ eq ok (RowMatches.ahead p text rest tree m) = (tt, ok)
    good_row (NotAhead q) _ _ _ _ eq ok (RowMatches.not_ahead p text f) = (tt, ok)
    good_row r e text rest tree eq ok d = absurd (heads e (row_of r) eq)

  -- what the row of a symbol matches is such a tree
  pub good_match : (s : Symbol) (text rest : List Lexeme) (tree : Tree) → Every Ok text → Matches rows has (number s) text rest tree → Good s tree
  good_match s text rest tree ok m = (good_in s (number s) text rest tree refl ok m).0
