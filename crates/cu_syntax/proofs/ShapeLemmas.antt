-- The shape of a tree that fits a symbol: its parts by their numbers, where its first token stands, and which alternative it may have taken.
use Rattle.std.specs.Prelude.{◌≡◌, ℕ, zero, suc, ◌+◌, Bool, true, false, ◌&&◌, ◌||◌, List, [], ◌∷◌, Option, None, Some, is_some, refl, slice_get, unwrap_or}
use Rattle.std.proofs.Common.{ap, ap₂, arith, subst, sym, true≢false, ◌∙◌}
use Rattle.std.specs.List.{list_all}
use Rattle.std.proofs.lemmas.Bool.{and_parts, or_cases}
use denote.Enum.Bare.{false_same, sameb, same_true}
use mathlib.Core.Logic.{inl, inr}
use Rattle.cu_lex.specs.Located.{first_position}
use Rattle.cu_lex.specs.Tokens.{Lexeme}
use Rattle.cu_peg.specs.Parse.{Leaf, Parts, Chosen, NoTree, MoreTrees}
use Rattle.cu_syntax.specs.contracts.symbol.Symbol as symbols
use Rattle.cu_syntax.specs.declared.symbol.Symbol.{Symbol}
use Rattle.cu_syntax.specs.Inside.Fits.{fits, has_alternative, have_parts, is_token}
use Rattle.cu_syntax.specs.Forms.{is_among}
use Rattle.cu_syntax.specs.Reading.{Tree, Trees, first_of, first_token, or_else, place}
use Rattle.cu_syntax.specs.Subtrees.{Takes, has_token, is_empty, nth_tree, part_of}
use Rattle.cu_syntax.specs.Table.{Choice, Rule, Sequence, Token, alternative, rule_of}
use Rattle.cu_syntax.proofs.SymbolLemmas.{alternative_is}
use Rattle.cu_syntax.proofs.TokenLaw.{token_there}

pub never : {A : Type 0} → false ≡ true → A
never e = absurd (true≢false (sym e))

-- sequences

-- as many trees as there are symbols, each a part of a tree
abbrev pub spread : List Symbol → ℕ → Tree → Trees
spread [] n tree = NoTree
spread (p ∷ parts) n tree = MoreTrees (part_of tree n) (spread parts (suc n) tree)

spread_is : (parts : List Symbol) (n : ℕ) (trees all : Trees) → ((k : ℕ) → nth_tree all (k + n) ≡ nth_tree trees k) → have_parts (Sequence parts) trees ≡ true
    → trees ≡ spread parts n (Parts all)
spread_is [] n NoTree all e h = refl
spread_is [] n (MoreTrees tree trees) all e h = never h
spread_is (p ∷ parts) n NoTree all e h = never h
spread_is (p ∷ parts) n (MoreTrees tree trees) all e h =
    let here : 0 + n ≡ n = omega arith in
    let next : (k : ℕ) → k + suc n ≡ suc k + n = λ k. omega arith in
    ap₂ MoreTrees (sym (ap (nth_tree all) (sym here) ∙ e 0))
    (spread_is parts (suc n) trees all (λ k. ap (nth_tree all) (next k) ∙ e (suc k)) (and_parts (fits p tree) (have_parts (Sequence parts) trees) h).1)

-- a tree of a sequence is that of its parts
pub sequence_parts : (s : Symbol) (parts : List Symbol) (tree : Tree) → rule_of s ≡ Sequence parts → fits s tree ≡ true → tree ≡ Parts (spread parts 0 tree)
sequence_parts s parts (Leaf x) e h = never (sym (ap (λ r. is_token r x) e) ∙ h)
sequence_parts s parts (Parts trees) e h =
    let same : (k : ℕ) → k + 0 ≡ k = λ k. omega arith in
    ap Parts (spread_is parts 0 trees trees (λ k. ap (nth_tree trees) (same k)) (sym (ap (λ r. have_parts r trees) e) ∙ h))
sequence_parts s parts (Chosen n tree) e h = never (sym (ap (λ r. has_alternative r n && fits (alternative s n) tree) e) ∙ h)

first_fits : (p : Symbol) (parts : List Symbol) (trees : Trees) → have_parts (Sequence (p ∷ parts)) trees ≡ true → fits p (nth_tree trees 0) ≡ true
first_fits p parts NoTree h = never h
first_fits p parts (MoreTrees tree trees) h = (and_parts (fits p tree) (have_parts (Sequence parts) trees) h).0

first_token_first : (trees : Trees) → (first_token (nth_tree trees 0) ≡ None → ⊥) → first_token (nth_tree trees 0) ≡ first_of trees
first_token_first NoTree some = absurd (some refl)
first_token_first (MoreTrees tree trees) some = go (first_token tree) some
  where
    go : (o : Option Lexeme) → (o ≡ None → ⊥) → o ≡ or_else o (first_of trees)
    go (Some x) some = refl
    go None some = absurd (some refl)

-- the first token of a sequence is that of its first part
pub first_place : (s p : Symbol) (parts : List Symbol) (tree : Tree) → rule_of s ≡ Sequence (p ∷ parts) → has_token p ≡ true → fits s tree ≡ true
    → place tree ≡ place (part_of tree 0)
first_place s p parts (Leaf x) e t h = never (sym (ap (λ r. is_token r x) e) ∙ h)
first_place s p parts (Parts trees) e t h =
    let first = first_fits p parts trees (sym (ap (λ r. have_parts r trees) e) ∙ h) in
    ap (λ o. elim o [ Some x ↦ x.at | None ↦ first_position ]) (sym (first_token_first trees (λ none. token_there p (nth_tree trees 0) t first none)))
first_place s p parts (Chosen n tree) e t h = never (sym (ap (λ r. has_alternative r n && fits (alternative s n) tree) e) ∙ h)

trees_fit : (parts : List Symbol) (trees : Trees) (n : ℕ) (p : Symbol) → have_parts (Sequence parts) trees ≡ true → slice_get parts n ≡ Some p → fits p (nth_tree trees n) ≡ true
trees_fit [] trees n p h e = absurd cc
trees_fit (q ∷ parts) NoTree n p h e = never h
trees_fit (q ∷ parts) (MoreTrees tree trees) zero p h e =
    let same : q ≡ p = cc in
    subst (λ (s : Symbol). fits s tree ≡ true) same (and_parts (fits q tree) (have_parts (Sequence parts) trees) h).0
trees_fit (q ∷ parts) (MoreTrees tree trees) (suc n) p h e = trees_fit parts trees n p (and_parts (fits q tree) (have_parts (Sequence parts) trees) h).1 e

-- each part fits its symbol
pub part_fits : (s : Symbol) (parts : List Symbol) (tree : Tree) (n : ℕ) (p : Symbol) → rule_of s ≡ Sequence parts → fits s tree ≡ true → slice_get parts n ≡ Some p
    → fits p (part_of tree n) ≡ true
part_fits s parts (Leaf x) n p e h k = never (sym (ap (λ r. is_token r x) e) ∙ h)
part_fits s parts (Parts trees) n p e h k = trees_fit parts trees n p (sym (ap (λ r. have_parts r trees) e) ∙ h) k
part_fits s parts (Chosen m tree) n p e h k = never (sym (ap (λ r. has_alternative r m && fits (alternative s m) tree) e) ∙ h)

pub first_place_of : (tree : Tree) (trees : Trees) → (first_token tree ≡ None → ⊥) → place (Parts (MoreTrees tree trees)) ≡ place tree
first_place_of tree trees some = ap (λ o. elim o [ Some x ↦ x.at | None ↦ first_position ]) (sym (first_token_first (MoreTrees tree trees) some))

-- other rules

-- the trees in one that has parts
abbrev pub trees_in : Tree → Trees
trees_in (Parts trees) = trees
trees_in _ = NoTree

abbrev is_parted : Rule → Bool
is_parted (Token c) = false
is_parted (Choice parts) = false
is_parted r = true

no_leaf : (r : Rule) (x : Lexeme) → is_parted r ≡ true → is_token r x ≡ true → ⊥
no_leaf (Token c) x p h = never p
no_leaf _ x p h = never h

no_choice : (r : Rule) (n : ℕ) → is_parted r ≡ true → has_alternative r n ≡ true → ⊥
no_choice (Choice parts) n p h = never p
no_choice _ n p h = never h

-- a tree of what is optional or repeated has parts
pub parted : (s : Symbol) (tree : Tree) → is_parted (rule_of s) ≡ true → fits s tree ≡ true → tree ≡ Parts (trees_in tree)
parted s (Leaf x) p h = absurd (no_leaf (rule_of s) x p h)
parted s (Parts trees) p h = refl
parted s (Chosen n tree) p h = absurd (no_choice (rule_of s) n p (and_parts (has_alternative (rule_of s) n) (fits (alternative s n) tree) h).0)

pub empty_tree : (tree : Tree) → is_empty tree ≡ true → tree ≡ Parts NoTree
empty_tree (Leaf x) h = never h
empty_tree (Parts NoTree) h = refl
empty_tree (Parts (MoreTrees tree trees)) h = never h
empty_tree (Chosen n tree) h = never h

-- choices

-- what holds of each symbol of a list
abbrev pub Each : (Symbol → Type 0) → List Symbol → Type 0
Each P [] = Unit
Each P (s ∷ ss) = P s × Each P ss

pub each_at : (P : Symbol → Type 0) (ss : List Symbol) (n : ℕ) (s : Symbol) → Each P ss → slice_get ss n ≡ Some s → P s
each_at P [] n s h e = absurd cc
each_at P (t ∷ ss) zero s h e = let same : t ≡ s = cc in subst P same h.0
each_at P (t ∷ ss) (suc n) s h e = each_at P ss n s h.1 e

alternative_found : (s : Symbol) (parts : List Symbol) (n : ℕ) (o : Option Symbol) → slice_get parts n ≡ o → is_some o ≡ true → slice_get parts n ≡ Some (unwrap_or (slice_get parts n) s)
alternative_found s parts n (Some p) e h = e ∙ ap (λ q. Some (unwrap_or q s)) (sym e)
alternative_found s parts n None e h = never h

-- What a choice took is one of its alternatives.
pub record Taken (s : Symbol) (parts : List Symbol) (tree : Tree) (chosen : Symbol) (inner : Tree) : Type 0 where
  pub number : ℕ
  pub is : tree ≡ Chosen number inner
  pub symbol : alternative s number ≡ chosen
  pub found : slice_get parts number ≡ Some chosen
  pub fit : fits chosen inner ≡ true

pub taken : (s : Symbol) (parts : List Symbol) (tree : Tree) (chosen : Symbol) (inner : Tree) → rule_of s ≡ Choice parts → fits s tree ≡ true → Takes s tree chosen inner
    → Taken s parts tree chosen inner
taken s parts tree chosen inner e h t =
    let both = and_parts (has_alternative (rule_of s) t.number) (fits (alternative s t.number) inner) (sym (ap (fits s) t.is) ∙ h) in
    let some : is_some (slice_get parts t.number) ≡ true = sym (ap (λ r. has_alternative r t.number) e) ∙ both.0 in
    record {
      number = t.number;
      is = t.is;
      symbol = t.symbol;
      found = alternative_found s parts t.number (slice_get parts t.number) refl some ∙ ap Some (sym (alternative_is s parts t.number e) ∙ t.symbol);
      fit = sym (ap (λ a. fits a inner) t.symbol) ∙ both.1;
    }

-- among symbols

-- a symbol that is not the first of a list is among the others
pub among_rest : (s t : Symbol) (ts : List Symbol) → ¬ (s ≡ t) → is_among (t ∷ ts) s ≡ is_among ts s
among_rest s t ts other = ap (λ b. b || is_among ts s) (false_same symbols.the_type tt t s (λ e. other (sym e)))

-- a symbol is none of a list
abbrev pub IsNone : Symbol → List Symbol → Type 0
IsNone s [] = Unit
IsNone s (t ∷ ts) = (¬ (s ≡ t)) × IsNone s ts

pub none_among : (s : Symbol) (ts : List Symbol) → IsNone s ts → is_among ts s ≡ false
none_among s [] h = refl
none_among s (t ∷ ts) h = among_rest s t ts h.0 ∙ none_among s ts h.1

pub not_among : (s : Symbol) (ts : List Symbol) → IsNone s ts → is_among ts s ≡ true → ⊥
not_among s ts h e = never (sym (none_among s ts h) ∙ e)

-- what is true of each symbol of a list is true of one among them
pub among_all : (test : Symbol → Bool) (ts : List Symbol) (s : Symbol) → list_all test ts ≡ true → is_among ts s ≡ true → test s ≡ true
among_all test [] s h e = never e
among_all test (t ∷ ts) s h e =
    let both = and_parts (test t) (list_all test ts) h in
    elim (or_cases (sameb symbols.the_type t s) (is_among ts s) e) [
      | inl same ↦ sym (ap test (same_true symbols.the_type tt t s same)) ∙ both.0
      | inr other ↦ among_all test ts s both.1 other
    ]

-- the same of equal symbols

pub fits_as : (s t : Symbol) (tree : Tree) → s ≡ t → fits s tree ≡ true → fits t tree ≡ true
fits_as s t tree e h = sym (ap (λ a. fits a tree) e) ∙ h

pub takes_as : (s t : Symbol) (tree : Tree) (chosen : Symbol) (inner : Tree) → s ≡ t → Takes s tree chosen inner → Takes t tree chosen inner
takes_as s t tree chosen inner e h = subst (λ (a : Symbol). Takes a tree chosen inner) e h

-- A tree of a sequence is that of its parts, and begins where the first of them begins.
pub record Form (s p : Symbol) (parts : List Symbol) (tree : Tree) : Type 0 where
  pub is : tree ≡ Parts (spread (p ∷ parts) 0 tree)
  pub at : place tree ≡ place (part_of tree 0)

pub form : (s t p : Symbol) (parts : List Symbol) (tree : Tree) → s ≡ t → fits s tree ≡ true → rule_of t ≡ Sequence (p ∷ parts) → has_token p ≡ true → Form t p parts tree
form s t p parts tree e h r k = record {
  is = sequence_parts t (p ∷ parts) tree r (fits_as s t tree e h);
  at = first_place t p parts tree r k (fits_as s t tree e h);
}
