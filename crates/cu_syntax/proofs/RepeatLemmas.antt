-- Trees of what is repeated: their parts, and how many there are.
use Rattle.std.specs.Prelude.{◌≡◌, ◌<◌, ◌≤◌, ℕ, zero, suc, ◌+◌, true, false, List, [], ◌∷◌, ◌++◌, Some, get_or, is_some, length, map, nat_eq, refl}
use Rattle.std.specs.List.{All}
use Rattle.std.proofs.Common.{ap, ap₂, arith, length-append, subst, sym, ◌∙◌}
use Rattle.std.proofs.lemmas.Bool.{and_parts, ne_eqb}
use Rattle.std.proofs.lemmas.List.{map-append}
use Rattle.std.proofs.lemmas.List.Elements.{All-append}
use Rattle.cu_lex.specs.Tokens.{Lexeme}
use Rattle.cu_peg.specs.declared.node.Node.{Node}
use Rattle.cu_peg.specs.Parse.{ParseTree, ParseTrees, Leaf, Parts, Chosen, NoTree, MoreTrees, sizes, spelled, spelled_all}
use Rattle.cu_peg.specs.Spelling.{first_of, read, read_all, size-positive}
use Rattle.cu_syntax.specs.declared.symbol.Symbol.{Symbol}
use Rattle.cu_syntax.specs.Inside.Fits.{fits, have_parts}
use Rattle.cu_syntax.specs.Reading.{Tree, Trees, count, count_in}
use Rattle.cu_syntax.specs.Subtrees.{all_over, is_choice, is_empty, is_leaf, is_repeated, is_single, others_of, over, parts_in, repeated_part, trees_from}
use Rattle.cu_syntax.specs.Table.{Ahead, AtLeastOne, Choice, Many, NotAhead, Optional, Rule, SeparatedBy, Sequence, Token as TokenOf, rule_of}
use Rattle.cu_syntax.proofs.NodeLemmas.{length-spelled, reads, reads_all, sizes_in, some_parts, spells}
use Rattle.cu_syntax.proofs.FitLemmas.{OneTree, one_tree, parts_by, smaller_left}
use Rattle.cu_syntax.proofs.ShapeLemmas.{never}

-- what is repeated

pub repeated_no_leaf : (r : Rule) → is_repeated r ≡ true → is_leaf r ≡ false
repeated_no_leaf (TokenOf c) h = sym h
repeated_no_leaf (Sequence parts) h = refl
repeated_no_leaf (Choice parts) h = refl
repeated_no_leaf (Optional q) h = refl
repeated_no_leaf (Many q) h = refl
repeated_no_leaf (AtLeastOne q) h = refl
repeated_no_leaf (SeparatedBy q s) h = refl
repeated_no_leaf (Ahead q) h = refl
repeated_no_leaf (NotAhead q) h = refl

pub repeated_no_choice : (r : Rule) → is_repeated r ≡ true → is_choice r ≡ false
repeated_no_choice (Choice parts) h = sym h
repeated_no_choice (TokenOf c) h = refl
repeated_no_choice (Sequence parts) h = refl
repeated_no_choice (Optional q) h = refl
repeated_no_choice (Many q) h = refl
repeated_no_choice (AtLeastOne q) h = refl
repeated_no_choice (SeparatedBy q s) h = refl
repeated_no_choice (Ahead q) h = refl
repeated_no_choice (NotAhead q) h = refl

pub part_repeated : (r : Rule) (p : Symbol) → repeated_part r ≡ Some p → is_repeated r ≡ true
part_repeated r p e = ap is_some e

at_least_one : (q : Symbol) (trees : Trees) → have_parts (AtLeastOne q) trees ≡ true → have_parts (Many q) trees ≡ true
at_least_one q NoTree h = never h
at_least_one q (MoreTrees tree trees) h = h

pub separated : (q s : Symbol) (trees : Trees) → have_parts (SeparatedBy q s) trees ≡ true → have_parts (Many q) trees ≡ true
separated q s NoTree h = never h
separated q s (MoreTrees tree trees) h = h

pub repeated_have : (r : Rule) (p : Symbol) (trees : Trees) → repeated_part r ≡ Some p → have_parts r trees ≡ true → have_parts (Many p) trees ≡ true
repeated_have (Many q) p trees e h = let same : q ≡ p = cc in subst (λ (t : Symbol). have_parts (Many t) trees ≡ true) same h
repeated_have (AtLeastOne q) p trees e h = let same : q ≡ p = cc in subst (λ (t : Symbol). have_parts (Many t) trees ≡ true) same (at_least_one q trees h)
repeated_have (SeparatedBy q s) p trees e h = let same : q ≡ p = cc in subst (λ (t : Symbol). have_parts (Many t) trees ≡ true) same (separated q s trees h)
repeated_have (TokenOf c) p trees e h = absurd cc
repeated_have (Sequence parts) p trees e h = absurd cc
repeated_have (Choice parts) p trees e h = absurd cc
repeated_have (Optional q) p trees e h = absurd cc
repeated_have (Ahead q) p trees e h = absurd cc
repeated_have (NotAhead q) p trees e h = absurd cc

-- What is repeated in a tree.
pub record Repeats (s p : Symbol) (text : List Lexeme) (nodes left : List Node) : Type 0 where
  pub is : over text (read nodes) ≡ Parts (all_over text (parts_in (read nodes)))
  pub have : have_parts (Many p) (all_over text (parts_in (read nodes))) ≡ true
  pub restored : read_all left ≡ parts_in (read nodes)
  pub spelled : spelled_all (read_all left) ≡ left
  pub smaller : length left < length nodes

pub repeats : (s p : Symbol) (text : List Lexeme) (nodes left : List Node) → repeated_part (rule_of s) ≡ Some p → spelled (read nodes) ≡ nodes
    → fits s (over text (read nodes)) ≡ true → left ≡ spelled_all (parts_in (read nodes)) → Repeats s p text nodes left
repeats s p text nodes left e n f l =
    let r = part_repeated (rule_of s) p e in
    let h = parts_by s (rule_of s) text (read nodes) refl (repeated_no_leaf (rule_of s) r) (repeated_no_choice (rule_of s) r) f in
    let restored = ap read_all l ∙ reads_all (parts_in (read nodes)) in
    record {
      is = h.is;
      have = repeated_have (rule_of s) p (all_over text (parts_in (read nodes))) e h.have;
      restored = restored;
      spelled = ap spelled_all restored ∙ sym l;
      smaller = smaller_left nodes left n l;
    }

-- one part alone

single_in : (text : List Lexeme) (nodes left others : List Node) (p : Symbol) (trees : ParseTrees ℕ) → parts_in (read nodes) ≡ trees → spelled (read nodes) ≡ nodes
    → left ≡ spelled_all (parts_in (read nodes)) → over text (read nodes) ≡ Parts (all_over text (parts_in (read nodes)))
    → have_parts (Many p) (all_over text trees) ≡ true → ¬ (left ≡ []) → others ≡ spelled_all (others_of trees) → others ≡ [] → OneTree text nodes left p
single_in text nodes left others p NoTree t n l o h some b none = absurd (some (l ∙ ap spelled_all t))
single_in text nodes left others p (MoreTrees tree NoTree) t n l o h some b none =
    one_tree text nodes left p tree n l t o (and_parts (fits p (over text tree)) (have_parts (Many p) NoTree) h).0
single_in text nodes left others p (MoreTrees tree (MoreTrees other trees)) t n l o h some b none =
    let empty = some_parts (MoreTrees other trees) (sym b ∙ none) in
    let no : ⊥ = cc in
    absurd no

pub single_found : (s p : Symbol) (text : List Lexeme) (nodes left others : List Node) → repeated_part (rule_of s) ≡ Some p → spelled (read nodes) ≡ nodes
    → fits s (over text (read nodes)) ≡ true → left ≡ spelled_all (parts_in (read nodes)) → ¬ (left ≡ []) → others ≡ spelled_all (others_of (read_all left)) → others ≡ []
    → OneTree text nodes left p
single_found s p text nodes left others e n f l some b none =
    let h = repeats s p text nodes left e n f l in
    single_in text nodes left others p (parts_in (read nodes)) refl n l h.is h.have some (b ∙ ap (λ trees. spelled_all (others_of trees)) h.restored) none

several_in : (text : List Lexeme) (others : List Node) (trees : ParseTrees ℕ) → others ≡ spelled_all (others_of trees) → ¬ (others ≡ []) → is_single (Parts (all_over text trees)) ≡ false
several_in text others NoTree b some = refl
several_in text others (MoreTrees tree NoTree) b some = absurd (some b)
several_in text others (MoreTrees tree (MoreTrees other trees)) b some = refl

pub several : (s p : Symbol) (text : List Lexeme) (nodes left others : List Node) → repeated_part (rule_of s) ≡ Some p → spelled (read nodes) ≡ nodes
    → fits s (over text (read nodes)) ≡ true → left ≡ spelled_all (parts_in (read nodes)) → others ≡ spelled_all (others_of (read_all left)) → ¬ (others ≡ [])
    → is_single (over text (read nodes)) ≡ false
several s p text nodes left others e n f l b some =
    let h = repeats s p text nodes left e n f l in
    ap is_single h.is ∙ several_in text others (parts_in (read nodes)) (b ∙ ap (λ trees. spelled_all (others_of trees)) h.restored) some

-- whether there is a part

no_zero : (n : ℕ) → false ≡ nat_eq (suc n) 0
no_zero n =
    let some : ¬ (suc n ≡ 0) = λ e. omega (arith, e) in
    sym (ne_eqb (suc n) 0 some)

empty_in : (text : List Lexeme) (left : List Node) (trees : ParseTrees ℕ) → left ≡ spelled_all trees → is_empty (Parts (all_over text trees)) ≡ nat_eq (length left) 0
empty_in text left NoTree l = rw l refl
empty_in text left (MoreTrees (Leaf n) trees) l = rw l (no_zero _)
empty_in text left (MoreTrees (Parts parts) trees) l = rw l (no_zero _)
empty_in text left (MoreTrees (Chosen n tree) trees) l = rw l (no_zero _)

pub emptiness : (s : Symbol) (text : List Lexeme) (nodes left : List Node) → is_repeated (rule_of s) ≡ true → fits s (over text (read nodes)) ≡ true
    → left ≡ spelled_all (parts_in (read nodes)) → is_empty (over text (read nodes)) ≡ nat_eq (length left) 0
emptiness s text nodes left r f l =
    let h = parts_by s (rule_of s) text (read nodes) refl (repeated_no_leaf (rule_of s) r) (repeated_no_choice (rule_of s) r) f in
    ap is_empty h.is ∙ empty_in text left (parts_in (read nodes)) l

-- how many parts there are

abbrev pub count_trees : ParseTrees ℕ → ℕ
count_trees NoTree = 0
count_trees (MoreTrees tree trees) = count_trees trees + 1

count_over : (text : List Lexeme) (trees : ParseTrees ℕ) → count (all_over text trees) ≡ count_trees trees
count_over text NoTree = refl
count_over text (MoreTrees tree trees) = ap (λ n. n + 1) (count_over text trees)

pub count_sizes : (trees : ParseTrees ℕ) → count_trees trees ≤ sizes trees
count_sizes NoTree = omega arith
count_sizes (MoreTrees tree trees) = omega (arith, count_sizes trees, size-positive tree)

pub counted : (s : Symbol) (text : List Lexeme) (nodes : List Node) → is_repeated (rule_of s) ≡ true → fits s (over text (read nodes)) ≡ true
    → count_in (over text (read nodes)) ≡ count_trees (parts_in (read nodes))
counted s text nodes r f =
    let h = parts_by s (rule_of s) text (read nodes) refl (repeated_no_leaf (rule_of s) r) (repeated_no_choice (rule_of s) r) f in
    ap count_in h.is ∙ count_over text (parts_in (read nodes))

pub count_small : (nodes : List Node) → spelled (read nodes) ≡ nodes → count_trees (parts_in (read nodes)) < length nodes
count_small nodes n =
    omega (arith, count_sizes (parts_in (read nodes)), sizes_in (read nodes), length-spelled (read nodes), ap (λ (xs : List Node). length xs) n)

pub count_end : (left : List Node) (n all : ℕ) → left ≡ [] → n + count_trees (read_all left) ≡ all → n ≡ all
count_end left n all none e =
    let zero : count_trees (read_all left) ≡ 0 = ap (λ nodes. count_trees (read_all nodes)) none in
    omega (arith, zero, e)

-- what is left of a list of trees, after the first
pub others_spelled : (left others : List Node) → others ≡ spelled_all (others_of (read_all left)) → spelled_all (read_all others) ≡ others
others_spelled left others e = ap spelled_all (ap read_all e ∙ reads_all (others_of (read_all left))) ∙ sym e

count_step : (trees : ParseTrees ℕ) → ¬ (trees ≡ NoTree) → count_trees trees ≡ count_trees (others_of trees) + 1
count_step NoTree some = absurd (some refl)
count_step (MoreTrees tree trees) some = refl

pub some_trees : (left : List Node) → ¬ (left ≡ []) → spelled_all (read_all left) ≡ left → read_all left ≡ NoTree → ⊥
some_trees left some e none = some (sym e ∙ ap spelled_all none)

pub count_after : (left others : List Node) → ¬ (left ≡ []) → spelled_all (read_all left) ≡ left → others ≡ spelled_all (others_of (read_all left))
    → count_trees (read_all left) ≡ count_trees (read_all others) + 1
count_after left others some e b =
    count_step (read_all left) (some_trees left some e) ∙ ap (λ trees. count_trees trees + 1) (sym (ap read_all b ∙ reads_all (others_of (read_all left))))

-- trees before others
abbrev pub joined : List Tree → Trees → Trees
joined [] trees = trees
joined (x ∷ xs) trees = MoreTrees x (joined xs trees)

joined_push : (xs : List Tree) (x : Tree) (trees : Trees) → joined (xs ++ x ∷ []) trees ≡ joined xs (MoreTrees x trees)
joined_push [] x trees = refl
joined_push (y ∷ xs) x trees = ap (MoreTrees y) (joined_push xs x trees)

joined_none : (xs : List Tree) → joined xs NoTree ≡ trees_from xs
joined_none [] = refl
joined_none (x ∷ xs) = ap (MoreTrees x) (joined_none xs)

-- What was found and what is left are the parts of a tree.
pub record Collects (p : Symbol) (text : List Lexeme) (tree : Tree) (found : List Tree) (left : List Node) : Type 0 where
  pub have : have_parts (Many p) (all_over text (read_all left)) ≡ true
  pub is : tree ≡ Parts (joined found (all_over text (read_all left)))

pub collects_none : (s p : Symbol) (text : List Lexeme) (nodes left : List Node) → repeated_part (rule_of s) ≡ Some p → spelled (read nodes) ≡ nodes
    → fits s (over text (read nodes)) ≡ true → left ≡ spelled_all (parts_in (read nodes)) → Collects p text (over text (read nodes)) [] left
collects_none s p text nodes left e n f l =
    let h = repeats s p text nodes left e n f l in
    record { have = ap (λ trees. have_parts (Many p) (all_over text trees)) h.restored ∙ h.have; is = h.is ∙ ap (λ trees. Parts (all_over text trees)) (sym h.restored) }

-- The first tree of what is left, and what is left after it.
pub record Collected (p : Symbol) (text : List Lexeme) (tree : Tree) (found : List Tree) (first others : List Node) : Type 0 where
  pub spelled : spelled (read first) ≡ first
  pub fit : fits p (over text (read first)) ≡ true
  pub next : Collects p text tree (found ++ over text (read first) ∷ []) others

collected_in : (p : Symbol) (text : List Lexeme) (tree : Tree) (found : List Tree) (left first others : List Node) (trees : ParseTrees ℕ) → read_all left ≡ trees
    → ¬ (trees ≡ NoTree) → first ≡ spelled (first_of trees) → others ≡ spelled_all (others_of trees)
    → have_parts (Many p) (all_over text trees) ≡ true → tree ≡ Parts (joined found (all_over text trees)) → Collected p text tree found first others
collected_in p text tree found left first others NoTree r some f b h t = absurd (some refl)
collected_in p text tree found left first others (MoreTrees x trees) r some f b h t =
    let restored = reads first x f in
    let after : read_all others ≡ trees = ap read_all b ∙ reads_all trees in
    let both = and_parts (fits p (over text x)) (have_parts (Many p) (all_over text trees)) h in
    record {
      spelled = spells first x f;
      fit = ap (λ t. fits p (over text t)) restored ∙ both.0;
      next = record {
        have = ap (λ ts. have_parts (Many p) (all_over text ts)) after ∙ both.1;
        is = t ∙ ap Parts (sym (joined_push found (over text x) (all_over text trees)) ∙ ap₂ (λ y ys. joined (found ++ over text y ∷ []) (all_over text ys)) (sym restored) (sym after));
      };
    }

pub collected : (p : Symbol) (text : List Lexeme) (tree : Tree) (found : List Tree) (left first others : List Node) → spelled_all (read_all left) ≡ left → ¬ (left ≡ [])
    → first ≡ spelled (first_of (read_all left)) → others ≡ spelled_all (others_of (read_all left)) → Collects p text tree found left
    → Collected p text tree found first others
collected p text tree found left first others e some f b h =
    collected_in p text tree found left first others (read_all left) refl (some_trees left some e) f b h.have h.is

pub all_collected : (p : Symbol) (text : List Lexeme) (tree : Tree) (found : List Tree) (left : List Node) → spelled_all (read_all left) ≡ left → left ≡ []
    → Collects p text tree found left → tree ≡ Parts (trees_from found)
all_collected p text tree found left e none h =
    h.is ∙ ap (λ nodes. Parts (joined found (all_over text (read_all nodes)))) none ∙ ap Parts (joined_none found)

pub no_items : {X : Type 0} (P : X → Type 0) (xs : List X) → xs ≡ [] → All P xs
no_items P xs e = λ k d within. absurd (omega (arith, within, ap length e))

pub none_collected : (s p : Symbol) (text : List Lexeme) (nodes left : List Node) (found : List Tree) → repeated_part (rule_of s) ≡ Some p → spelled (read nodes) ≡ nodes
    → fits s (over text (read nodes)) ≡ true → left ≡ spelled_all (parts_in (read nodes)) → found ≡ [] → Collects p text (over text (read nodes)) found left
none_collected s p text nodes left found e n f l none =
    subst (λ (xs : List Tree). Collects p text (over text (read nodes)) xs left) (sym none) (collects_none s p text nodes left e n f l)

pub parts_spelled : (tree : ParseTree ℕ) (left : List Node) → left ≡ spelled_all (parts_in tree) → spelled_all (read_all left) ≡ left
parts_spelled tree left l = ap spelled_all (ap read_all l ∙ reads_all (parts_in tree)) ∙ sym l

fewer_in : (trees : ParseTrees ℕ) → ¬ (trees ≡ NoTree) → length (spelled_all (others_of trees)) < length (spelled_all trees)
fewer_in NoTree some = absurd (some refl)
fewer_in (MoreTrees tree trees) some =
    omega (arith, size-positive tree, length-spelled tree, length-append (spelled tree) (spelled_all trees))

pub fewer_left : (left others : List Node) → ¬ (left ≡ []) → spelled_all (read_all left) ≡ left → others ≡ spelled_all (others_of (read_all left)) → length others < length left
fewer_left left others some e b =
    omega (arith, ap (λ (xs : List Node). length xs) b, fewer_in (read_all left) (some_trees left some e), ap (λ (xs : List Node). length xs) e)

-- a list with one item more

pub pushed : {X Y : Type 0} (g : X → Y) (xs ys : List X) (x : X) → ys ≡ xs ++ x ∷ [] → map g ys ≡ map g xs ++ g x ∷ []
pushed g xs ys x e = ap (map g) e ∙ map-append g xs (x ∷ [])

one_item : {X : Type 0} (P : X → Type 0) (x : X) → P x → All P (x ∷ [])
one_item {X = X} P x p = λ k d within. first_item k d within
  where
    first_item : (k : ℕ) (d : X) → k < 1 → P (get_or (x ∷ []) k d)
    first_item zero d within = p
    first_item (suc k) d within = absurd (omega (arith, within))

pub all_pushed : {X : Type 0} (P : X → Type 0) (xs ys : List X) (x : X) → ys ≡ xs ++ x ∷ [] → All P xs → P x → All P ys
all_pushed {X = X} P xs ys x e h p = subst (λ (zs : List X). All P zs) (sym e) (All-append P xs (x ∷ []) h (one_item P x p))
