-- The tokens of trees: that of a leaf, and the first one.
use Rattle.std.specs.Prelude.{◌≡◌, ◌<◌, ℕ, suc, ◌+◌, true, List, [], ◌∷◌, ◌++◌, Option, None, Some, drop, get_or, length, map, refl, slice_get, slice_index_or}
use Rattle.std.specs.Option.{option_copied, option_map}
use Rattle.std.proofs.Common.{Bor, ap, append_assoc, arith, drop-cons, sym, ◌∙◌}
use Rattle.std.proofs.lemmas.Option.{slice_get-map}
use Rattle.cu_lex.specs.declared.token.Token.{Token}
use Rattle.cu_lex.specs.Tokens.{Lexeme}
use Rattle.cu_peg.specs.declared.node.Form.{Form}
use Rattle.cu_peg.specs.declared.node.Form.TheVariants as form
use Rattle.cu_peg.specs.declared.node.Node.{Node}
use Rattle.cu_peg.specs.Parse.{ParseTree, ParseTrees, Leaf, Parts, Chosen, NoTree, MoreTrees, spelled, spelled_all}
use Rattle.cu_peg.specs.Spelling.{read}
use Rattle.cu_syntax.specs.declared.symbol.Symbol.{Symbol}
use Rattle.cu_syntax.specs.Inside.Fits.{fits}
use Rattle.cu_syntax.specs.Reading.{first_of as first_in, first_token, or_else}
use Rattle.cu_syntax.specs.Subtrees.{all_over, is_leaf, leaf_of, over, token_at}
use Rattle.cu_syntax.specs.Table.{rule_of}
use Rattle.cu_syntax.proofs.NodeLemmas.{begin, form_of, whole}
use Rattle.cu_syntax.proofs.FitLemmas.{leaf_is}

-- the token of a leaf

-- A token stands at the first node.
pub record TokenFound (f : Token → Lexeme) (tokens : List Token) (nodes : List Node) (d : Node) : Type 0 where
  pub token : Token
  pub found : token_at tokens (slice_index_or nodes 0 d).form ≡ Some token
  pub is : over (map f tokens) (read nodes) ≡ Leaf (f token)

mapped : {X Y : Type 0} (f : X → Y) (o : Option X) (y : Y) → option_map f o ≡ Some y → (x : X) × (o ≡ Some x) × (f x ≡ y)
mapped f None y e = absurd cc
mapped f (Some x) y e = let same : f x ≡ y = cc in (x, refl, same)

pub token_found : (f : Token → Lexeme) (tokens : List Token) (s : Symbol) (nodes : List Node) (d : Node) → is_leaf (rule_of s) ≡ true → spelled (read nodes) ≡ nodes
    → fits s (over (map f tokens) (read nodes)) ≡ true → TokenFound f tokens nodes d
token_found f tokens s nodes d l n h =
    let leaf = leaf_is s (map f tokens) (read nodes) l h in
    let at : (slice_index_or nodes 0 d).form ≡ form_of (Leaf leaf.number) = (begin nodes (read nodes) [] (whole nodes n)).first d ∙ ap form_of leaf.is in
    let m = mapped f (slice_get tokens leaf.number) leaf.token (sym (slice_get-map f tokens leaf.number) ∙ leaf.found) in
    record {
      token = m.0;
      found = ap (token_at tokens) at ∙ m.1;
      is = ap (over (map f tokens)) leaf.is ∙ ap leaf_of leaf.found ∙ ap Leaf (sym m.2);
    }

pub token_is : (f : Token → Lexeme) (tokens : List Token) (s : Symbol) (nodes : List Node) (d : Node) (found : Option (Bor Token)) (token : Bor Token) → is_leaf (rule_of s) ≡ true
    → spelled (read nodes) ≡ nodes → fits s (over (map f tokens) (read nodes)) ≡ true → option_copied found ≡ token_at tokens (slice_index_or nodes 0 d).form
    → found ≡ Some token → over (map f tokens) (read nodes) ≡ Leaf (f token.now)
token_is f tokens s nodes d found token l n h e is =
    let m = token_found f tokens s nodes d l n h in
    let both : Some token.now ≡ Some m.token = ap option_copied (sym is) ∙ e ∙ m.found in
    let same : m.token ≡ token.now = cc in
    m.is ∙ ap (λ t. Leaf (f t)) same

pub token_missing : (f : Token → Lexeme) (tokens : List Token) (s : Symbol) (nodes : List Node) (d : Node) (found : Option (Bor Token)) → is_leaf (rule_of s) ≡ true
    → spelled (read nodes) ≡ nodes → fits s (over (map f tokens) (read nodes)) ≡ true → option_copied found ≡ token_at tokens (slice_index_or nodes 0 d).form
    → found ≡ None → ⊥
token_missing f tokens s nodes d found l n h e is =
    let m = token_found f tokens s nodes d l n h in
    let both : None ≡ Some m.token = ap option_copied (sym is) ∙ e ∙ m.found in
    cc

-- The first token of a tree is that of the first leaf among its nodes that has one.

abbrev pub first_leaf : List Lexeme → List Node → Option Lexeme
first_leaf text [] = None
first_leaf text (node ∷ nodes) = or_else (token_at text node.form) (first_leaf text nodes)

or_else_assoc : (a b c : Option Lexeme) → or_else (or_else a b) c ≡ or_else a (or_else b c)
or_else_assoc (Some x) b c = refl
or_else_assoc None b c = refl

leaf_token : (o other : Option Lexeme) → or_else o other ≡ or_else (first_token (leaf_of o)) other
leaf_token (Some x) other = refl
leaf_token None other = refl

mutual
  first_leaf_of : (text : List Lexeme) (tree : ParseTree ℕ) (nodes : List Node) → first_leaf text (spelled tree ++ nodes) ≡ or_else (first_token (over text tree)) (first_leaf text nodes)
  first_leaf_of text (Leaf n) nodes = leaf_token (slice_get text n) (first_leaf text nodes)
  first_leaf_of text (Parts trees) nodes = first_leaf_in text trees nodes
  first_leaf_of text (Chosen n tree) nodes = first_leaf_of text tree nodes

  first_leaf_in : (text : List Lexeme) (trees : ParseTrees ℕ) (nodes : List Node) → first_leaf text (spelled_all trees ++ nodes) ≡ or_else (first_in (all_over text trees)) (first_leaf text nodes)
  first_leaf_in text NoTree nodes = refl
  first_leaf_in text (MoreTrees tree trees) nodes =
      ap (first_leaf text) (append_assoc (spelled tree) (spelled_all trees) nodes) ∙ first_leaf_of text tree (spelled_all trees ++ nodes)
      ∙ ap (or_else (first_token (over text tree))) (first_leaf_in text trees nodes)
      ∙ sym (or_else_assoc (first_token (over text tree)) (first_in (all_over text trees)) (first_leaf text nodes))

or_none : (o : Option Lexeme) → or_else o None ≡ o
or_none (Some x) = refl
or_none None = refl

pub first_token_of : (text : List Lexeme) (nodes : List Node) → spelled (read nodes) ≡ nodes → first_token (over text (read nodes)) ≡ first_leaf text nodes
first_token_of text nodes n =
    sym (ap (first_leaf text) (whole nodes n) ∙ first_leaf_of text (read nodes) [] ∙ or_none (first_token (over text (read nodes))))

token_at_mapped : (f : Token → Lexeme) (tokens : List Token) (kind : Form) → token_at (map f tokens) kind ≡ option_map f (token_at tokens kind)
token_at_mapped f tokens (form.Leaf n) = slice_get-map f tokens n
token_at_mapped f tokens form.Parts = refl
token_at_mapped f tokens (form.Chosen n) = refl

leaf_after : (text : List Lexeme) (nodes : List Node) (i : ℕ) (d : Node) → i < length nodes
    → first_leaf text (drop i nodes) ≡ or_else (token_at text (get_or nodes i d).form) (first_leaf text (drop (suc i) nodes))
leaf_after text nodes i d within = ap (first_leaf text) (drop-cons nodes i d within)

pub leaf_here : (f : Token → Lexeme) (tokens : List Token) (nodes : List Node) (i : ℕ) (d : Node) (found : Option (Bor Token)) (token : Bor Token) (first : Option Lexeme)
    → i < length nodes → first ≡ first_leaf (map f tokens) (drop i nodes) → option_copied found ≡ token_at tokens (get_or nodes i d).form → found ≡ Some token
    → first ≡ Some (f token.now)
leaf_here f tokens nodes i d found token first within e o is =
    e ∙ leaf_after (map f tokens) nodes i d within
    ∙ ap (λ t. or_else t (first_leaf (map f tokens) (drop (suc i) nodes))) (token_at_mapped f tokens (get_or nodes i d).form ∙ ap (option_map f) (sym o ∙ ap option_copied is))

pub leaf_later : (f : Token → Lexeme) (tokens : List Token) (nodes : List Node) (i : ℕ) (d : Node) (found : Option (Bor Token)) (first : Option Lexeme)
    → i < length nodes → first ≡ first_leaf (map f tokens) (drop i nodes) → option_copied found ≡ token_at tokens (get_or nodes i d).form → found ≡ None
    → first ≡ first_leaf (map f tokens) (drop (i + 1) nodes)
leaf_later f tokens nodes i d found first within e o is =
    let next : suc i ≡ i + 1 = omega arith in
    e ∙ leaf_after (map f tokens) nodes i d within
    ∙ ap (λ t. or_else t (first_leaf (map f tokens) (drop (suc i) nodes))) (token_at_mapped f tokens (get_or nodes i d).form ∙ ap (option_map f) (sym o ∙ ap option_copied is))
    ∙ ap (λ k. first_leaf (map f tokens) (drop k nodes)) next
