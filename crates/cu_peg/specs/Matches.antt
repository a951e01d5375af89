-- What the rows of a grammar match: the big-step semantics of parsing expressions (Ford, Parsing
-- expression grammars, 2004), with the trees that they give. A row matches a prefix of a text and
-- leaves a rest, or it fails.
use Rattle.std.specs.Prelude.{◌≡◌, ℕ, Bool, true, false, zero, suc, List, [], ◌∷◌, Some, slice_get}
use Rattle.cu_peg.specs.declared.class.Class.{Class}
use Rattle.cu_peg.specs.declared.row.Row.{Row}
use Rattle.cu_peg.specs.declared.row.Row.TheVariants as row
use Rattle.cu_peg.specs.Parse.{ParseTree, ParseTrees, Leaf, Parts, Chosen, NoTree, MoreTrees, only}

mutual
  -- Row number r matches a prefix of a text, leaves the rest, and gives the tree.
  pub data Matches {T : Type 0} (rows : List Row) (has : Class → T → Bool) : ℕ → List T → List T
      → ParseTree T → Type 0 where
    matches : (r : ℕ) (e : Row) (text rest : List T) (tree : ParseTree T)
        → slice_get rows r ≡ Some e → RowMatches rows has e text rest tree
        → Matches rows has r text rest tree

  -- Row number r matches no prefix of a text.
  pub data Fails {T : Type 0} (rows : List Row) (has : Class → T → Bool) : ℕ → List T → Type 0 where
    fails : (r : ℕ) (e : Row) (text : List T) → slice_get rows r ≡ Some e → RowFails rows has e text
        → Fails rows has r text

  -- A row matches a prefix of a text, leaves the rest, and gives the tree. Its parts are rows of
  -- the table.
  pub data RowMatches {T : Type 0} (rows : List Row) (has : Class → T → Bool) : Row → List T
      → List T → ParseTree T → Type 0 where
    token : (c : Class) (x : T) (rest : List T) → has c x ≡ true
        → RowMatches rows has (row.Token c) (x ∷ rest) rest (Leaf x)
    empty : (text : List T) → RowMatches rows has (row.Sequence []) text text (Parts NoTree)
    sequence : (p : ℕ) (ps : List ℕ) (text after rest : List T) (tree : ParseTree T)
        (trees : ParseTrees T) → Matches rows has p text after tree
        → RowMatches rows has (row.Sequence ps) after rest (Parts trees)
        → RowMatches rows has (row.Sequence (p ∷ ps)) text rest (Parts (MoreTrees tree trees))
    first : (p : ℕ) (ps : List ℕ) (text rest : List T) (tree : ParseTree T)
        → Matches rows has p text rest tree
        → RowMatches rows has (row.Choice (p ∷ ps)) text rest (Chosen zero tree)
    later : (p : ℕ) (ps : List ℕ) (text rest : List T) (n : ℕ) (tree : ParseTree T)
        → Fails rows has p text
        → RowMatches rows has (row.Choice ps) text rest (Chosen n tree)
        → RowMatches rows has (row.Choice (p ∷ ps)) text rest (Chosen (suc n) tree)
    present : (p : ℕ) (text rest : List T) (tree : ParseTree T) → Matches rows has p text rest tree
        → RowMatches rows has (row.Optional p) text rest (Parts (only tree))
    absent : (p : ℕ) (text : List T) → Fails rows has p text
        → RowMatches rows has (row.Optional p) text text (Parts NoTree)
    no_more : (p : ℕ) (text : List T) → Fails rows has p text
        → RowMatches rows has (row.Many p) text text (Parts NoTree)
    one_more : (p : ℕ) (text after rest : List T) (tree : ParseTree T) (trees : ParseTrees T)
        → Matches rows has p text after tree
        → RowMatches rows has (row.Many p) after rest (Parts trees)
        → RowMatches rows has (row.Many p) text rest (Parts (MoreTrees tree trees))
    at_least_one : (p : ℕ) (text after rest : List T) (tree : ParseTree T) (trees : ParseTrees T)
        → Matches rows has p text after tree
        → RowMatches rows has (row.Many p) after rest (Parts trees)
        → RowMatches rows has (row.AtLeastOne p) text rest (Parts (MoreTrees tree trees))
    -- the last part: no separator with a part after it follows
    last : (p s : ℕ) (text rest : List T) (tree : ParseTree T) → Matches rows has p text rest tree
        → RowFails rows has (row.Sequence (s ∷ p ∷ [])) rest
        → RowMatches rows has (row.SeparatedBy p s) text rest (Parts (only tree))
    separated : (p s : ℕ) (text after next rest : List T) (tree separator : ParseTree T)
        (trees : ParseTrees T) → Matches rows has p text after tree
        → Matches rows has s after next separator
        → RowMatches rows has (row.SeparatedBy p s) next rest (Parts trees)
        → RowMatches rows has (row.SeparatedBy p s) text rest (Parts (MoreTrees tree trees))
    ahead : (p : ℕ) (text rest : List T) (tree : ParseTree T) → Matches rows has p text rest tree
        → RowMatches rows has (row.Ahead p) text text (Parts NoTree)
    not_ahead : (p : ℕ) (text : List T) → Fails rows has p text
        → RowMatches rows has (row.NotAhead p) text text (Parts NoTree)

  -- A row matches no prefix of a text. `?` and `*` never fail.
  pub data RowFails {T : Type 0} (rows : List Row) (has : Class → T → Bool) : Row → List T
      → Type 0 where
    no_token : (c : Class) → RowFails rows has (row.Token c) []
    other_token : (c : Class) (x : T) (rest : List T) → has c x ≡ false
        → RowFails rows has (row.Token c) (x ∷ rest)
    part_fails : (p : ℕ) (ps : List ℕ) (text : List T) → Fails rows has p text
        → RowFails rows has (row.Sequence (p ∷ ps)) text
    rest_fails : (p : ℕ) (ps : List ℕ) (text after : List T) (tree : ParseTree T)
        → Matches rows has p text after tree
        → RowFails rows has (row.Sequence ps) after → RowFails rows has (row.Sequence (p ∷ ps)) text
    no_alternative : (text : List T) → RowFails rows has (row.Choice []) text
    all_fail : (p : ℕ) (ps : List ℕ) (text : List T) → Fails rows has p text
        → RowFails rows has (row.Choice ps) text
        → RowFails rows has (row.Choice (p ∷ ps)) text
    not_even_one : (p : ℕ) (text : List T) → Fails rows has p text
        → RowFails rows has (row.AtLeastOne p) text
    no_part : (p s : ℕ) (text : List T) → Fails rows has p text
        → RowFails rows has (row.SeparatedBy p s) text
    not_found : (p : ℕ) (text : List T) → Fails rows has p text
        → RowFails rows has (row.Ahead p) text
    found : (p : ℕ) (text rest : List T) (tree : ParseTree T) → Matches rows has p text rest tree
        → RowFails rows has (row.NotAhead p) text

-- A text has a tree where a row matches all of it.
abbrev pub HasTree : {T : Type 0} → List Row → (Class → T → Bool) → ℕ → List T → ParseTree T
    → Type 0
HasTree rows has start text tree = Matches rows has start text [] tree
