-- What parts of the trees that the parsers give stand for, and how they lie in these trees.
use Rattle.std.specs.Prelude.{◌≡◌, ℕ, zero, suc, Bool, true, false, List, [], ◌∷◌, Option, None, Some, is_none, is_some, slice_get}
use Rattle.std.specs.List.{list_all}
use Rattle.cu_lex.specs.Tokens.{Lexeme}
use Rattle.cu_peg.specs.declared.node.Form.{Form}
use Rattle.cu_peg.specs.declared.node.Form.TheVariants as form
use Rattle.cu_peg.specs.Parse.{ParseTree, ParseTrees, Leaf, Parts, Chosen, NoTree, MoreTrees}
use Rattle.cu_syntax.specs.declared.symbol.Symbol.{Symbol}
use Rattle.cu_syntax.specs.Reading.{Tree, Trees}
use Rattle.cu_syntax.specs.Table.{Ahead, AtLeastOne, Choice, Many, NotAhead, Optional, Rule, SeparatedBy, Sequence, Token, alternative, rule_of}

-- the tree of a token (where a number has no token there is a tree without parts)
abbrev pub leaf_of : Option Lexeme → Tree
leaf_of (Some x) = Leaf x
leaf_of None = Parts NoTree

abbrev mutual
  -- the tree over tokens that a tree over their numbers stands for
  pub over : List Lexeme → ParseTree ℕ → Tree
  over tokens (Leaf n) = leaf_of (slice_get tokens n)
  over tokens (Parts trees) = Parts (all_over tokens trees)
  over tokens (Chosen n tree) = Chosen n (over tokens tree)

  pub all_over : List Lexeme → ParseTrees ℕ → Trees
  all_over tokens NoTree = NoTree
  all_over tokens (MoreTrees tree trees) = MoreTrees (over tokens tree) (all_over tokens trees)

-- the token of a node, if it is a leaf
abbrev pub token_at : {T : Type 0} → List T → Form → Option T
token_at tokens (form.Leaf n) = slice_get tokens n
token_at tokens _ = None

-- the parts at the top of a tree
abbrev pub parts_in : ParseTree ℕ → ParseTrees ℕ
parts_in (Parts trees) = trees
parts_in _ = NoTree

-- the tree of the alternative that was taken
abbrev pub inner_of : ParseTree ℕ → ParseTree ℕ
inner_of (Chosen n tree) = tree
inner_of _ = Parts NoTree

-- the trees after the first
abbrev pub others_of : ParseTrees ℕ → ParseTrees ℕ
others_of NoTree = NoTree
others_of (MoreTrees tree trees) = trees

-- the trees of a list
abbrev pub trees_from : List Tree → Trees
trees_from [] = NoTree
trees_from (tree ∷ trees) = MoreTrees tree (trees_from trees)

-- whether a rule is that of a token
abbrev pub is_leaf : Rule → Bool
is_leaf (Token c) = true
is_leaf _ = false

abbrev pub is_choice : Rule → Bool
is_choice (Choice parts) = true
is_choice _ = false

-- the symbols that a rule says one after another, if it is a sequence
abbrev pub sequence : Rule → List Symbol
sequence (Sequence parts) = parts
sequence _ = []

-- the symbol that a rule makes optional, if it does so
abbrev pub optional_part : Rule → Option Symbol
optional_part (Optional p) = Some p
optional_part _ = None

abbrev pub repeated_part : Rule → Option Symbol
repeated_part (Many p) = Some p
repeated_part (AtLeastOne p) = Some p
repeated_part (SeparatedBy p s) = Some p
repeated_part _ = None

-- the tree of this number among others
abbrev pub nth_tree : Trees → ℕ → Tree
nth_tree NoTree n = Parts NoTree
nth_tree (MoreTrees tree trees) zero = tree
nth_tree (MoreTrees tree trees) (suc n) = nth_tree trees n

-- the part of this number of a tree
abbrev pub part_of : Tree → ℕ → Tree
part_of (Parts trees) n = nth_tree trees n
part_of _ n = Parts NoTree

-- whether a rule repeats something
abbrev pub is_repeated : Rule → Bool
is_repeated e = is_some (repeated_part e)

-- whether a tree has no part
abbrev pub is_empty : Tree → Bool
is_empty (Parts NoTree) = true
is_empty _ = false

-- whether a tree has one part alone
abbrev pub is_single : Tree → Bool
is_single (Parts (MoreTrees tree NoTree)) = true
is_single _ = false

-- A tree is that of an alternative, chosen, and `inner` is the alternative's tree.
pub record Takes (s : Symbol) (tree : Tree) (chosen : Symbol) (inner : Tree) : Type 0 where
  pub number : ℕ
  pub is : tree ≡ Chosen number inner
  pub symbol : alternative s number ≡ chosen

-- Whether each tree of a symbol has a token. The parts of a block, and the constructors of a type
-- that are named, may all be missing.
abbrev pub is_required : Symbol → Bool
is_required p = is_none (optional_part (rule_of p))

abbrev pub rule_has_token : Rule → Bool
rule_has_token (Choice parts) = list_all is_required parts
rule_has_token (Optional p) = false
rule_has_token (Many p) = false
rule_has_token (SeparatedBy p s) = is_required p
rule_has_token (Ahead p) = false
rule_has_token (NotAhead p) = false
rule_has_token _ = true

abbrev pub has_token : Symbol → Bool
has_token s = rule_has_token (rule_of s)
