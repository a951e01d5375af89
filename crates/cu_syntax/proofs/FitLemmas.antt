-- What a tree that fits a symbol looks like.
use Rattle.std.specs.Prelude.{◌≡◌, ◌<◌, ◌≤◌, ℕ, zero, suc, ◌+◌, true, false, ◌&&◌, List, [], ◌∷◌, Option, None, Some, drop, get_or, is_some, length, refl, slice_get, slice_index_or, unwrap_or}
use Rattle.std.proofs.Common.{Bor, ap, ap₂, append-nil, arith, subst, sym, true≢false, ◌∙◌}
use Rattle.std.proofs.lemmas.Bool.{and_parts}
use Rattle.std.proofs.lemmas.Option.{slice_get-get_or, slice_get_within}
use Rattle.cu_lex.specs.Tokens.{Lexeme}
use Rattle.cu_peg.specs.declared.node.Form.TheVariants as form
use Rattle.cu_peg.specs.declared.node.Node.{Node}
use Rattle.cu_peg.specs.Parse.{ParseTree, ParseTrees, Leaf, Parts, Chosen, NoTree, MoreTrees, only, size, spelled, spelled_all}
use Rattle.cu_peg.specs.Spelling.{first_of, read, read_all}
use Rattle.cu_syntax.specs.declared.rule.Rule as declared
use Rattle.cu_syntax.specs.declared.rule.Rule.TheVariants as declared_rule
use Rattle.cu_syntax.specs.declared.symbol.Symbol.{Symbol}
use Rattle.cu_syntax.specs.Inside.Fits.{fits, has_alternative, have_parts, is_token}
use Rattle.cu_syntax.specs.Inside.Meaning.{rule_meaning}
use Rattle.cu_syntax.specs.Reading.{Tree, Trees}
use Rattle.cu_syntax.specs.Subtrees.{Takes, all_over, inner_of, is_choice, is_leaf, leaf_of, nth_tree, optional_part, others_of, over, part_of, parts_in, sequence}
use Rattle.cu_syntax.specs.Table.{Ahead, AtLeastOne, Choice, Many, NotAhead, Optional, Rule, SeparatedBy, Sequence, Token as TokenOf, alternative, rule_of}
use Rattle.cu_syntax.proofs.SymbolLemmas.{alternative_is}
use Rattle.cu_syntax.proofs.NodeLemmas.{begin, after_trees, form_of, length-spelled, length-spelled_all, one_after, reads, reads_all, size_after, sizes_in, some_parts, spells, whole}
use Rattle.cu_syntax.proofs.ShapeLemmas.{never}

-- leaves

leaf_has_no_parts : (r : Rule) (trees : Trees) → is_leaf r ≡ true → have_parts r trees ≡ true → ⊥
leaf_has_no_parts (TokenOf c) trees l h = true≢false (sym h)
leaf_has_no_parts (Sequence parts) trees l h = true≢false (sym l)
leaf_has_no_parts (Choice parts) trees l h = true≢false (sym l)
leaf_has_no_parts (Optional p) trees l h = true≢false (sym l)
leaf_has_no_parts (Many p) trees l h = true≢false (sym l)
leaf_has_no_parts (AtLeastOne p) trees l h = true≢false (sym l)
leaf_has_no_parts (SeparatedBy p s) trees l h = true≢false (sym l)
leaf_has_no_parts (Ahead p) trees l h = true≢false (sym l)
leaf_has_no_parts (NotAhead p) trees l h = true≢false (sym l)

leaf_has_no_alternative : (r : Rule) (n : ℕ) → is_leaf r ≡ true → has_alternative r n ≡ true → ⊥
leaf_has_no_alternative (Choice parts) n l h = true≢false (sym l)
leaf_has_no_alternative _ n l h = true≢false (sym h)

-- A tree is a token.
pub record IsLeaf (text : List Lexeme) (tree : ParseTree ℕ) : Type 0 where
  pub number : ℕ
  pub token : Lexeme
  pub is : tree ≡ Leaf number
  pub found : slice_get text number ≡ Some token

leaf_found : (s : Symbol) (text : List Lexeme) (n : ℕ) (o : Option Lexeme) → slice_get text n ≡ o → is_leaf (rule_of s) ≡ true → fits s (leaf_of o) ≡ true
    → IsLeaf text (Leaf n)
leaf_found s text n (Some x) e l h = record { number = n; token = x; is = refl; found = e }
leaf_found s text n None e l h = absurd (leaf_has_no_parts (rule_of s) NoTree l h)

pub leaf_is : (s : Symbol) (text : List Lexeme) (tree : ParseTree ℕ) → is_leaf (rule_of s) ≡ true → fits s (over text tree) ≡ true → IsLeaf text tree
leaf_is s text (Leaf n) l h = leaf_found s text n (slice_get text n) refl l h
leaf_is s text (Parts trees) l h = absurd (leaf_has_no_parts (rule_of s) (all_over text trees) l h)
leaf_is s text (Chosen n tree) l h =
    absurd (leaf_has_no_alternative (rule_of s) n l (and_parts (has_alternative (rule_of s) n) (fits (alternative s n) (over text tree)) h).0)

-- choices

choice_is_no_token : (r : Rule) (x : Lexeme) → is_choice r ≡ true → is_token r x ≡ true → ⊥
choice_is_no_token (TokenOf t) x c h = true≢false (sym c)
choice_is_no_token _ x c h = true≢false (sym h)

choice_has_no_parts : (r : Rule) (trees : Trees) → is_choice r ≡ true → have_parts r trees ≡ true → ⊥
choice_has_no_parts (Choice parts) trees c h = true≢false (sym h)
choice_has_no_parts (TokenOf t) trees c h = true≢false (sym c)
choice_has_no_parts (Sequence parts) trees c h = true≢false (sym c)
choice_has_no_parts (Optional p) trees c h = true≢false (sym c)
choice_has_no_parts (Many p) trees c h = true≢false (sym c)
choice_has_no_parts (AtLeastOne p) trees c h = true≢false (sym c)
choice_has_no_parts (SeparatedBy p s) trees c h = true≢false (sym c)
choice_has_no_parts (Ahead p) trees c h = true≢false (sym c)
choice_has_no_parts (NotAhead p) trees c h = true≢false (sym c)

-- A tree is that of an alternative.
pub record IsChoice (s : Symbol) (text : List Lexeme) (tree : ParseTree ℕ) : Type 0 where
  pub number : ℕ
  pub inner : ParseTree ℕ
  pub is : tree ≡ Chosen number inner
  pub available : has_alternative (rule_of s) number ≡ true
  pub fit : fits (alternative s number) (over text inner) ≡ true

choice_is_no_leaf : (s : Symbol) (o : Option Lexeme) → is_choice (rule_of s) ≡ true → fits s (leaf_of o) ≡ true → ⊥
choice_is_no_leaf s (Some x) c h = choice_is_no_token (rule_of s) x c h
choice_is_no_leaf s None c h = choice_has_no_parts (rule_of s) NoTree c h

pub choice_is : (s : Symbol) (text : List Lexeme) (tree : ParseTree ℕ) → is_choice (rule_of s) ≡ true → fits s (over text tree) ≡ true → IsChoice s text tree
choice_is s text (Leaf n) c h = absurd (choice_is_no_leaf s (slice_get text n) c h)
choice_is s text (Parts trees) c h = absurd (choice_has_no_parts (rule_of s) (all_over text trees) c h)
choice_is s text (Chosen n tree) c h =
    let both = and_parts (has_alternative (rule_of s) n) (fits (alternative s n) (over text tree)) h in
    record { number = n; inner = tree; is = refl; available = both.0; fit = both.1 }

-- other rules

-- A tree has parts.
pub record HasParts (r : Rule) (text : List Lexeme) (tree : ParseTree ℕ) : Type 0 where
  pub is : over text tree ≡ Parts (all_over text (parts_in tree))
  pub have : have_parts r (all_over text (parts_in tree)) ≡ true
  pub after : drop 1 (spelled tree) ≡ spelled_all (parts_in tree)

other_is_no_token : (r : Rule) (x : Lexeme) → is_leaf r ≡ false → is_token r x ≡ true → ⊥
other_is_no_token (TokenOf c) x l h = true≢false l
other_is_no_token _ x l h = true≢false (sym h)

other_has_no_alternative : (r : Rule) (n : ℕ) → is_choice r ≡ false → has_alternative r n ≡ true → ⊥
other_has_no_alternative (Choice parts) n c h = true≢false c
other_has_no_alternative _ n c h = true≢false (sym h)

leaf_has_nothing : (s : Symbol) (text : List Lexeme) (n : ℕ) (o : Option Lexeme) → slice_get text n ≡ o → is_leaf (rule_of s) ≡ false
    → fits s (leaf_of o) ≡ true → HasParts (rule_of s) text (Leaf n)
leaf_has_nothing s text n (Some x) e l h = absurd (other_is_no_token (rule_of s) x l h)
leaf_has_nothing s text n None e l h = record { is = ap leaf_of e; have = h; after = refl }

parts_are : (s : Symbol) (text : List Lexeme) (tree : ParseTree ℕ) → is_leaf (rule_of s) ≡ false → is_choice (rule_of s) ≡ false → fits s (over text tree) ≡ true
    → HasParts (rule_of s) text tree
parts_are s text (Leaf n) l c h = leaf_has_nothing s text n (slice_get text n) refl l h
parts_are s text (Parts trees) l c h = record { is = refl; have = h; after = refl }
parts_are s text (Chosen n tree) l c h =
    absurd (other_has_no_alternative (rule_of s) n c (and_parts (has_alternative (rule_of s) n) (fits (alternative s n) (over text tree)) h).0)

pub parts_by : (s : Symbol) (r : Rule) (text : List Lexeme) (tree : ParseTree ℕ) → rule_of s ≡ r → is_leaf r ≡ false → is_choice r ≡ false → fits s (over text tree) ≡ true
    → HasParts r text tree
parts_by s r text tree e l c h =
    subst (λ (rule : Rule). HasParts rule text tree) e (parts_are s text tree (ap is_leaf e ∙ l) (ap is_choice e ∙ c) h)

-- sequences

pub sequence_is : (r : Rule) (n : ℕ) (p : Symbol) → slice_get (sequence r) n ≡ Some p → r ≡ Sequence (sequence r)
sequence_is (Sequence parts) n p e = refl
sequence_is (TokenOf c) n p e = absurd cc
sequence_is (Choice parts) n p e = absurd cc
sequence_is (Optional q) n p e = absurd cc
sequence_is (Many q) n p e = absurd cc
sequence_is (AtLeastOne q) n p e = absurd cc
sequence_is (SeparatedBy q s) n p e = absurd cc
sequence_is (Ahead q) n p e = absurd cc
sequence_is (NotAhead q) n p e = absurd cc

-- The part of a number is this symbol's.
pub record HasPart (text : List Lexeme) (trees : ParseTrees ℕ) (n : ℕ) (p : Symbol) : Type 0 where
  pub tree : ParseTree ℕ
  pub others : ParseTrees ℕ
  pub is : after_trees n trees ≡ MoreTrees tree others
  pub fit : fits p (over text tree) ≡ true
  pub nth : nth_tree (all_over text trees) n ≡ over text tree

pub part_at : (parts : List Symbol) (text : List Lexeme) (trees : ParseTrees ℕ) (n : ℕ) (p : Symbol) → have_parts (Sequence parts) (all_over text trees) ≡ true
    → slice_get parts n ≡ Some p → HasPart text trees n p
part_at [] text trees n p h e = absurd cc
part_at (q ∷ parts) text NoTree n p h e = never h
part_at (q ∷ parts) text (MoreTrees tree trees) zero p h e =
    let same : q ≡ p = cc in
    record {
      tree = tree;
      others = trees;
      is = refl;
      fit = subst (λ (s : Symbol). fits s (over text tree) ≡ true) same (and_parts (fits q (over text tree)) (have_parts (Sequence parts) (all_over text trees)) h).0;
      nth = refl;
    }
part_at (q ∷ parts) text (MoreTrees tree trees) (suc n) p h e =
    let m = part_at parts text trees n p (and_parts (fits q (over text tree)) (have_parts (Sequence parts) (all_over text trees)) h).1 e in
    record { tree = m.tree; others = m.others; is = m.is; fit = m.fit; nth = m.nth }

pub earlier : {X : Type 0} (xs : List X) (n k : ℕ) (x : X) → slice_get xs n ≡ Some x → k ≤ n → (y : X) × (slice_get xs k ≡ Some y)
earlier xs n k x e le = let within = slice_get_within xs n x e in (get_or xs k x, slice_get-get_or xs k x (omega (arith, within)))

-- What is left after so many parts of a sequence begins with the tree of the next one.
pub record PartLeft (s : Symbol) (text : List Lexeme) (nodes left : List Node) (k : ℕ) (p : Symbol) : Type 0 where
  pub tree : ParseTree ℕ
  pub others : ParseTrees ℕ
  pub is : after_trees k (parts_in (read nodes)) ≡ MoreTrees tree others
  pub reads : read_all left ≡ MoreTrees tree others
  pub some : ¬ (left ≡ [])
  pub spelled : spelled_all (read_all left) ≡ left
  pub fit : fits p (over text tree) ≡ true
  pub part : part_of (over text (read nodes)) k ≡ over text tree
  pub smaller : size tree < length nodes

some_left : (left : List Node) (trees others : ParseTrees ℕ) (tree : ParseTree ℕ) → trees ≡ MoreTrees tree others → left ≡ spelled_all trees → left ≡ [] → ⊥
some_left left trees others tree is l none =
    let empty = some_parts trees (sym l ∙ none) in
    let no : ⊥ = cc in no

pub part_left : (s : Symbol) (text : List Lexeme) (nodes left : List Node) (k : ℕ) (p : Symbol) → slice_get (sequence (rule_of s)) k ≡ Some p
    → spelled (read nodes) ≡ nodes → fits s (over text (read nodes)) ≡ true → left ≡ spelled_all (after_trees k (parts_in (read nodes)))
    → PartLeft s text nodes left k p
part_left s text nodes left k p e n f l =
    let parts = sequence (rule_of s) in
    let is = sequence_is (rule_of s) k p e in
    let h = parts_by s (Sequence parts) text (read nodes) is refl refl f in
    let m = part_at parts text (parts_in (read nodes)) k p h.have e in
    let restored : read_all left ≡ after_trees k (parts_in (read nodes)) = ap read_all l ∙ reads_all (after_trees k (parts_in (read nodes))) in
    record {
      tree = m.tree;
      others = m.others;
      is = m.is;
      reads = restored ∙ m.is;
      some = some_left left (after_trees k (parts_in (read nodes))) m.others m.tree m.is l;
      spelled = ap spelled_all restored ∙ sym l;
      fit = m.fit;
      part = ap (λ (tree : Tree). part_of tree k) h.is ∙ m.nth;
      smaller = omega (arith, size_after k (parts_in (read nodes)) m.others m.tree m.is, sizes_in (read nodes), length-spelled (read nodes), ap (λ (xs : List Node). length xs) n);
    }

-- That part is a tree of its own.
pub record PartFound (s : Symbol) (text : List Lexeme) (nodes found : List Node) (k : ℕ) (p : Symbol) : Type 0 where
  pub spelled : spelled (read found) ≡ found
  pub fit : fits p (over text (read found)) ≡ true
  pub part : over text (read found) ≡ part_of (over text (read nodes)) k
  pub smaller : length found < length nodes

pub part_found : (s : Symbol) (text : List Lexeme) (nodes left found : List Node) (k : ℕ) (p : Symbol) → slice_get (sequence (rule_of s)) k ≡ Some p
    → spelled (read nodes) ≡ nodes → fits s (over text (read nodes)) ≡ true → left ≡ spelled_all (after_trees k (parts_in (read nodes)))
    → found ≡ spelled (first_of (read_all left)) → PartFound s text nodes found k p
part_found s text nodes left found k p e n f l b =
    let m = part_left s text nodes left k p e n f l in
    let one : found ≡ spelled m.tree = b ∙ ap (λ trees. spelled (first_of trees)) m.reads in
    let restored = reads found m.tree one in
    record {
      spelled = spells found m.tree one;
      fit = ap (λ tree. fits p (over text tree)) restored ∙ m.fit;
      part = ap (over text) restored ∙ sym m.part;
      smaller = omega (arith, m.smaller, length-spelled m.tree, ap (λ (xs : List Node). length xs) one);
    }

pub next_left : (s : Symbol) (text : List Lexeme) (nodes left others : List Node) (k : ℕ) (p : Symbol) → slice_get (sequence (rule_of s)) k ≡ Some p
    → spelled (read nodes) ≡ nodes → fits s (over text (read nodes)) ≡ true → left ≡ spelled_all (after_trees k (parts_in (read nodes)))
    → others ≡ spelled_all (others_of (read_all left)) → others ≡ spelled_all (after_trees (k + 1) (parts_in (read nodes)))
next_left s text nodes left others k p e n f l b =
    let m = part_left s text nodes left k p e n f l in
    b ∙ ap (λ trees. spelled_all (others_of trees)) m.reads ∙ ap spelled_all (sym (one_after k (parts_in (read nodes)) m.others m.tree m.is))

-- what is optional

pub optional_is : (r : Rule) (p : Symbol) → optional_part r ≡ Some p → r ≡ Optional p
optional_is (Optional q) p e = let same : q ≡ p = cc in ap Optional same
optional_is (TokenOf c) p e = absurd cc
optional_is (Sequence parts) p e = absurd cc
optional_is (Choice parts) p e = absurd cc
optional_is (Many q) p e = absurd cc
optional_is (AtLeastOne q) p e = absurd cc
optional_is (SeparatedBy q s) p e = absurd cc
optional_is (Ahead q) p e = absurd cc
optional_is (NotAhead q) p e = absurd cc

-- The nodes after the first are one tree.
pub record OneTree (text : List Lexeme) (nodes left : List Node) (p : Symbol) : Type 0 where
  pub spelled : spelled (read left) ≡ left
  pub fit : fits p (over text (read left)) ≡ true
  pub is : over text (read nodes) ≡ Parts (only (over text (read left)))
  pub smaller : length left < length nodes

pub smaller_left : (nodes left : List Node) → spelled (read nodes) ≡ nodes → left ≡ spelled_all (parts_in (read nodes)) → length left < length nodes
smaller_left nodes left n l =
    omega (arith, ap (λ (xs : List Node). length xs) l, length-spelled_all (parts_in (read nodes)), sizes_in (read nodes), length-spelled (read nodes), ap (λ (xs : List Node). length xs) n)

pub one_tree : (text : List Lexeme) (nodes left : List Node) (p : Symbol) (tree : ParseTree ℕ) → spelled (read nodes) ≡ nodes → left ≡ spelled_all (parts_in (read nodes))
    → parts_in (read nodes) ≡ MoreTrees tree NoTree → over text (read nodes) ≡ Parts (all_over text (parts_in (read nodes))) → fits p (over text tree) ≡ true → OneTree text nodes left p
one_tree text nodes left p tree n l t o f =
    let one : left ≡ spelled tree = l ∙ ap spelled_all t ∙ append-nil (spelled tree) in
    let restored = reads left tree one in
    record {
      spelled = spells left tree one;
      fit = ap (λ tree. fits p (over text tree)) restored ∙ f;
      is = o ∙ ap (λ trees. Parts (all_over text trees)) t ∙ ap (λ tree. Parts (only (over text tree))) (sym restored);
      smaller = smaller_left nodes left n l;
    }

optional_in : (text : List Lexeme) (nodes left : List Node) (p : Symbol) (trees : ParseTrees ℕ) → parts_in (read nodes) ≡ trees → spelled (read nodes) ≡ nodes
    → left ≡ spelled_all (parts_in (read nodes)) → over text (read nodes) ≡ Parts (all_over text (parts_in (read nodes)))
    → have_parts (Optional p) (all_over text trees) ≡ true → ¬ (left ≡ []) → OneTree text nodes left p
optional_in text nodes left p NoTree t n l o h some = absurd (some (l ∙ ap spelled_all t))
optional_in text nodes left p (MoreTrees tree NoTree) t n l o h some = one_tree text nodes left p tree n l t o h
optional_in text nodes left p (MoreTrees tree (MoreTrees other trees)) t n l o h some = never h

pub optional_found : (s p : Symbol) (text : List Lexeme) (nodes left : List Node) → optional_part (rule_of s) ≡ Some p → spelled (read nodes) ≡ nodes
    → fits s (over text (read nodes)) ≡ true → left ≡ spelled_all (parts_in (read nodes)) → ¬ (left ≡ []) → OneTree text nodes left p
optional_found s p text nodes left e n f l some =
    let h = parts_by s (Optional p) text (read nodes) (optional_is (rule_of s) p e) refl refl f in
    optional_in text nodes left p (parts_in (read nodes)) refl n l h.is h.have some

-- where there is no part
pub no_part : (s : Symbol) (r : Rule) (text : List Lexeme) (nodes left : List Node) → rule_of s ≡ r → is_leaf r ≡ false → is_choice r ≡ false
    → fits s (over text (read nodes)) ≡ true → left ≡ spelled_all (parts_in (read nodes)) → left ≡ [] → over text (read nodes) ≡ Parts NoTree
no_part s r text nodes left e i c f l none =
    let h = parts_by s r text (read nodes) e i c f in
    h.is ∙ ap (λ trees. Parts (all_over text trees)) (some_parts (parts_in (read nodes)) (sym l ∙ none))

-- the alternative that a choice took

pub chosen_form : (s : Symbol) (text : List Lexeme) (nodes : List Node) (d : Node) (n : ℕ) → is_choice (rule_of s) ≡ true → spelled (read nodes) ≡ nodes
    → fits s (over text (read nodes)) ≡ true → (slice_index_or nodes 0 d).form ≡ form.Chosen n → read nodes ≡ Chosen n (inner_of (read nodes))
chosen_form s text nodes d n c e f at =
    let m = choice_is s text (read nodes) c f in
    let form : form.Chosen n ≡ form.Chosen m.number = sym at ∙ (begin nodes (read nodes) [] (whole nodes e)).first d ∙ ap form_of m.is in
    let same : m.number ≡ n = cc in
    m.is ∙ ap₂ (λ k tree. Chosen k tree) same (sym (ap inner_of m.is))

pub not_chosen : (s : Symbol) (text : List Lexeme) (nodes : List Node) (d : Node) → is_choice (rule_of s) ≡ true → spelled (read nodes) ≡ nodes
    → fits s (over text (read nodes)) ≡ true → ((n : ℕ) → (slice_index_or nodes 0 d).form ≡ form.Chosen n → ⊥) → ⊥
not_chosen s text nodes d c e f refuse =
    let m = choice_is s text (read nodes) c f in
    refuse m.number ((begin nodes (read nodes) [] (whole nodes e)).first d ∙ ap form_of m.is)

pub only_choices : (r : declared.Rule) → is_choice (rule_meaning r) ≡ true → ((parts : Bor (List Symbol)) → r ≡ declared_rule.Choice parts → ⊥) → ⊥
only_choices (declared_rule.Choice parts) c refuse = refuse parts refl
only_choices (declared_rule.Token t) c refuse = never c
only_choices (declared_rule.Sequence parts) c refuse = never c
only_choices (declared_rule.Optional p) c refuse = never c
only_choices (declared_rule.Many p) c refuse = never c
only_choices (declared_rule.AtLeastOne p) c refuse = never c
only_choices (declared_rule.SeparatedBy p s) c refuse = never c
only_choices (declared_rule.Ahead p) c refuse = never c
only_choices (declared_rule.NotAhead p) c refuse = never c

-- The nodes after the first are those of this alternative.
pub record Alternative (s : Symbol) (parts : List Symbol) (text : List Lexeme) (nodes left : List Node) (n : ℕ) (p : Symbol) : Type 0 where
  pub spelled : spelled (read left) ≡ left
  pub fit : fits p (over text (read left)) ≡ true
  pub takes : Takes s (over text (read nodes)) p (over text (read left))
  pub smaller : length left < length nodes

available_in : (r : Rule) (parts : List Symbol) (n : ℕ) → r ≡ Choice parts → has_alternative r n ≡ true → is_some (slice_get parts n) ≡ true
available_in r parts n e h = ap (λ (rule : Rule). has_alternative rule n) (sym e) ∙ h

some_within : (parts : List Symbol) (n : ℕ) (o : Option Symbol) → slice_get parts n ≡ o → is_some o ≡ true → n < length parts
some_within parts n None e h = never h
some_within parts n (Some p) e h = slice_get_within parts n p e

pub alternative_within : (s : Symbol) (parts : List Symbol) (text : List Lexeme) (nodes : List Node) (n : ℕ) → rule_of s ≡ Choice parts
    → fits s (over text (read nodes)) ≡ true → read nodes ≡ Chosen n (inner_of (read nodes)) → n < length parts
alternative_within s parts text nodes n r f is =
    let inner = inner_of (read nodes) in
    let g : (has_alternative (rule_of s) n && fits (alternative s n) (over text inner)) ≡ true = sym (ap (λ tree. fits s (over text tree)) is) ∙ f in
    some_within parts n (slice_get parts n) refl
    (available_in (rule_of s) parts n r (and_parts (has_alternative (rule_of s) n) (fits (alternative s n) (over text inner)) g).0)

pub alternative_found : (s : Symbol) (parts : List Symbol) (text : List Lexeme) (nodes left : List Node) (n : ℕ) (d : Symbol) → rule_of s ≡ Choice parts
    → spelled (read nodes) ≡ nodes → fits s (over text (read nodes)) ≡ true → read nodes ≡ Chosen n (inner_of (read nodes)) → left ≡ drop 1 nodes
    → Alternative s parts text nodes left n (get_or parts n d)
alternative_found s parts text nodes left n d r e f is l =
    let inner = inner_of (read nodes) in
    let g : (has_alternative (rule_of s) n && fits (alternative s n) (over text inner)) ≡ true = sym (ap (λ tree. fits s (over text tree)) is) ∙ f in
    let within = alternative_within s parts text nodes n r f is in
    let symbol : alternative s n ≡ get_or parts n d = alternative_is s parts n r ∙ ap (λ o. unwrap_or o s) (slice_get-get_or parts n d within) in
    let spell : nodes ≡ spelled (Chosen n inner) = sym e ∙ ap spelled is in
    let one : left ≡ spelled inner = l ∙ ap (drop 1) spell in
    let restored = reads left inner one in
    record {
      spelled = spells left inner one;
      fit = ap₂ (λ p tree. fits p (over text tree)) (sym symbol) restored ∙ (and_parts (has_alternative (rule_of s) n) (fits (alternative s n) (over text inner)) g).1;
      takes = record { number = n; is = ap (over text) is ∙ ap (λ tree. Chosen n (over text tree)) (sym restored); symbol = symbol };
      smaller = omega (arith, ap (λ (xs : List Node). length xs) one, length-spelled inner, ap (λ (xs : List Node). length xs) spell);
    }
