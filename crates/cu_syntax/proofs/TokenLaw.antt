-- Where a symbol's trees have a token, each tree that fits the symbol has one.
use Rattle.std.specs.Prelude.{◌≡◌, ℕ, zero, suc, Bool, true, false, ◌||◌, not, List, [], ◌∷◌, Option, None, Some, is_some, refl, slice_get, unwrap_or}
use Rattle.std.specs.List.{list_all, list_any}
use Rattle.std.proofs.Common.{ap, sym, true≢false, ◌∙◌}
use Rattle.std.proofs.lemmas.Bool.{and_parts}
use Rattle.cu_lex.specs.Tokens.{Lexeme}
use Rattle.cu_peg.specs.Parse.{Leaf, Parts, Chosen, NoTree, MoreTrees}
use Rattle.cu_syntax.specs.declared.symbol.Symbol.{Symbol}
use Rattle.cu_syntax.specs.Inside.Fits.{fits, has_alternative, have_parts}
use Rattle.cu_syntax.specs.Reading.{Tree, Trees, first_of, first_token, or_else}
use Rattle.cu_syntax.specs.Subtrees.{has_token, is_required, rule_has_token}
use Rattle.cu_syntax.specs.Table.{Ahead, AtLeastOne, Choice, Many, NotAhead, Optional, Rule, SeparatedBy, Sequence, Token, alternative, number, rule_of, symbols}
use Rattle.cu_syntax.proofs.SymbolLemmas.{alternative_is, symbol_at}

-- what a rule's parts have to be, so that its trees have a token where they should
abbrev is_consistent : Rule → Bool
is_consistent (Sequence parts) = list_any has_token parts
is_consistent (Choice parts) = not (list_all is_required parts) || list_all has_token parts
is_consistent (AtLeastOne p) = has_token p
is_consistent (SeparatedBy p s) = not (is_required p) || has_token p
is_consistent _ = true

abbrev consistent_at : Symbol → Bool
consistent_at s = is_consistent (rule_of s)

all_consistent : list_all consistent_at symbols ≡ true
all_consistent = refl

pub all_at : {X : Type 0} (test : X → Bool) (xs : List X) (n : ℕ) (x : X) → list_all test xs ≡ true → slice_get xs n ≡ Some x → test x ≡ true
all_at test [] n x h e = absurd cc
all_at test (y ∷ xs) zero x h e =
    let same : y ≡ x = cc in
    ap test (sym same) ∙ (and_parts (test y) (list_all test xs) h).0
all_at test (y ∷ xs) (suc n) x h e = all_at test xs n x (and_parts (test y) (list_all test xs) h).1 e

consistent : (s : Symbol) → is_consistent (rule_of s) ≡ true
consistent s = all_at consistent_at symbols (number s) s all_consistent (symbol_at s)

pub never : {A : Type 0} → false ≡ true → A
never e = absurd (true≢false (sym e))

pub implied : (a b : Bool) → (not a || b) ≡ true → a ≡ true → b ≡ true
implied true b h e = h
implied false b h e = never e

first_none : (a b : Option Lexeme) → or_else a b ≡ None → a ≡ None
first_none (Some x) b e = absurd cc
first_none None b e = refl

other_none : (a b : Option Lexeme) → or_else a b ≡ None → b ≡ None
other_none (Some x) b e = absurd cc
other_none None b e = e

-- an alternative of a choice whose trees have a token
chosen_in : (r : Rule) (s : Symbol) (n : ℕ) → rule_of s ≡ r → is_consistent r ≡ true → rule_has_token r ≡ true → has_alternative r n ≡ true → has_token (alternative s n) ≡ true
chosen_in (Choice parts) s n e c h a = ap has_token (alternative_is s parts n e) ∙ chosen_at parts s n (slice_get parts n) refl (implied (list_all is_required parts) (list_all has_token parts) c h) a
  where
    chosen_at : (parts : List Symbol) (s : Symbol) (n : ℕ) (o : Option Symbol) → slice_get parts n ≡ o → list_all has_token parts ≡ true → is_some o ≡ true → has_token (unwrap_or o s) ≡ true
    chosen_at parts s n (Some p) e h a = all_at has_token parts n p h e
    chosen_at parts s n None e h a = never a
chosen_in _ s n e c h a = never a

either : (a b : Bool) → (a || b) ≡ true → (a ≡ true → ⊥) → (b ≡ true → ⊥) → ⊥
either true b e one other = one refl
either false b e one other = other e

mutual
  pub token_there : (s : Symbol) (tree : Tree) → has_token s ≡ true → fits s tree ≡ true → first_token tree ≡ None → ⊥
  token_there s (Leaf x) h f n = cc
  token_there s (Parts trees) h f n = part_there (rule_of s) trees (consistent s) h f n
  token_there s (Chosen k tree) h f n =
      let both = and_parts (has_alternative (rule_of s) k) (fits (alternative s k) tree) f in
      token_there (alternative s k) tree (chosen_in (rule_of s) s k refl (consistent s) h both.0) both.1 n

  part_there : (r : Rule) (trees : Trees) → is_consistent r ≡ true → rule_has_token r ≡ true → have_parts r trees ≡ true → first_of trees ≡ None → ⊥
  part_there (Sequence []) trees c h f n = never c
  part_there (Sequence (p ∷ parts)) NoTree c h f n = never f
  part_there (Sequence (p ∷ parts)) (MoreTrees tree trees) c h f n =
      let both = and_parts (fits p tree) (have_parts (Sequence parts) trees) f in
      either (has_token p) (list_any has_token parts) c
      (λ e. token_there p tree e both.0 (first_none (first_token tree) (first_of trees) n))
      (λ e. part_there (Sequence parts) trees e refl both.1 (other_none (first_token tree) (first_of trees) n))
  part_there (AtLeastOne p) NoTree c h f n = never f
  part_there (AtLeastOne p) (MoreTrees tree trees) c h f n =
      token_there p tree c (and_parts (fits p tree) (have_parts (Many p) trees) f).0 (first_none (first_token tree) (first_of trees) n)
  part_there (SeparatedBy p s) NoTree c h f n = never f
  part_there (SeparatedBy p s) (MoreTrees tree trees) c h f n =
      token_there p tree (implied (is_required p) (has_token p) c h) (and_parts (fits p tree) (have_parts (Many p) trees) f).0 (first_none (first_token tree) (first_of trees) n)
  part_there (Token t) trees c h f n = never f
  part_there (Choice parts) trees c h f n = never f
  part_there (Optional p) trees c h f n = never h
  part_there (Many p) trees c h f n = never h
  part_there (Ahead p) trees c h f n = never h
  part_there (NotAhead p) trees c h f n = never h
