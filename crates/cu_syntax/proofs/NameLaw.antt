-- Names and literals have tokens of their kinds.
use Rattle.std.specs.Prelude.{◌≡◌, ◌<◌, ℕ, zero, suc, ℤ, pos, negsuc, Bool, true, false, ◌||◌, not, List, [], ◌∷◌, Option, None, Some, get_or, length, refl, slice_get, unwrap_or}
use Rattle.std.specs.List.{list_all}
use Rattle.std.proofs.Common.{Bor, ap, arith, subst, sym, true≢false, ◌∙◌}
use Rattle.std.proofs.lemmas.Bool.{and_parts, ltb-true}
use Rattle.std.proofs.lemmas.Int.{to_z-of_z}
use Rattle.std.proofs.lemmas.Option.{slice_get-get_or}
use mir.Syntax.{w128}
use mir.Val.{SFits, of_z, to_z}
use Rattle.cu_lex.specs.declared.characters.Characters.{Characters}
use Rattle.cu_lex.specs.declared.token.Token.{Token}
use Rattle.cu_lex.specs.declared.token.TokenKind.{TokenKind}
use Rattle.cu_lex.specs.declared.token.TokenKind.TheVariants as token
use Rattle.cu_lex.specs.Kind as kind
use Rattle.cu_lex.specs.Kind.{Kind}
use Rattle.cu_lex.specs.Reading.{kind_of, lexeme_of}
use Rattle.cu_lex.specs.Tokens.{Lexeme}
use Rattle.cu_peg.specs.declared.class.Class.{Class}
use Rattle.cu_peg.specs.declared.class.Class.TheVariants as class
use Rattle.cu_peg.specs.declared.class.NameKind.{NameKind}
use Rattle.cu_peg.specs.declared.class.NameKind.TheVariants as name_kind
use Rattle.cu_peg.specs.Classes.{has_kind, is_digit}
use Rattle.cu_peg.specs.Parse.{Leaf, Parts, Chosen, NoTree, MoreTrees}
use Rattle.cu_syntax.specs.declared.rule.Rule as declared
use Rattle.cu_syntax.specs.declared.rule.Rule.TheVariants as declared_rule
use Rattle.cu_syntax.specs.declared.symbol.Symbol.{Symbol}
use Rattle.cu_syntax.specs.declared.symbol.Symbol.TheVariants as symbol
use Rattle.cu_syntax.specs.Inside.Fits.{fits, has_alternative, have_parts, is_token}
use Rattle.cu_syntax.specs.Inside.Meaning.{rule_meaning}
use Rattle.cu_syntax.specs.Inside.NameTokens.{has_name, is_spelled}
use Rattle.cu_syntax.specs.Reading.{Tree, Trees, first_token, name_token}
use Rattle.cu_syntax.specs.Subtrees.{is_leaf, part_of, sequence}
use Rattle.cu_syntax.specs.Table.{Choice, Rule, Sequence, Token as TokenOf, alternative, number, rule_of, symbols}
use Rattle.cu_syntax.proofs.SymbolLemmas.{alternative_is, symbol_at}
use Rattle.cu_syntax.proofs.TokenLaw.{all_at, implied, never}

-- what stands for a name: a token of such a class, an alternative, or what stands between two tokens

abbrev is_name_class : Class → Bool
is_name_class (class.Unqualified k) = true
is_name_class (class.Name k) = true
is_name_class _ = false

abbrev is_closed : Rule → Bool
is_closed (TokenOf c) = is_name_class c
is_closed (Choice parts) = list_all has_name parts
is_closed (Sequence (a ∷ b ∷ c ∷ [])) = has_name b
is_closed _ = false

abbrev closed_at : Symbol → Bool
closed_at s = not (has_name s) || is_closed (rule_of s)

all_closed : list_all closed_at symbols ≡ true
all_closed = refl

pub closed : (s : Symbol) → has_name s ≡ true → is_closed (rule_of s) ≡ true
closed s h = implied (has_name s) (is_closed (rule_of s)) (all_at closed_at symbols (number s) s all_closed (symbol_at s)) h

closed_by : (s : Symbol) (r : Rule) → rule_of s ≡ r → has_name s ≡ true → is_closed r ≡ true
closed_by s r e h = ap is_closed (sym e) ∙ closed s h

-- the alternative of a name

named_in : (parts : List Symbol) (s : Symbol) (n : ℕ) (o : Option Symbol) → slice_get parts n ≡ o → list_all has_name parts ≡ true → has_name s ≡ true → has_name (unwrap_or o s) ≡ true
named_in parts s n (Some p) e all h = all_at has_name parts n p all e
named_in parts s n None e all h = h

pub alternative_named : (s : Symbol) (parts : List Symbol) (n : ℕ) (p : Symbol) → rule_of s ≡ Choice parts → has_name s ≡ true → alternative s n ≡ p → has_name p ≡ true
alternative_named s parts n p r h e =
    ap has_name (sym e ∙ alternative_is s parts n r) ∙ named_in parts s n (slice_get parts n) refl (closed_by s (Choice parts) r h) h

-- what stands inside

-- Three parts, of which the second is a name.
pub record Middle (parts : List Symbol) : Type 0 where
  pub within : 1 < length parts
  pub named : (d : Symbol) → has_name (get_or parts 1 d) ≡ true

middle_of : (parts : List Symbol) → is_closed (Sequence parts) ≡ true → Middle parts
middle_of [] h = never h
middle_of (a ∷ []) h = never h
middle_of (a ∷ b ∷ []) h = never h
middle_of (a ∷ b ∷ c ∷ []) h = record { within = omega arith; named = λ d. h }
middle_of (a ∷ b ∷ c ∷ e ∷ parts) h = never h

pub middle : (s : Symbol) (parts : List Symbol) → rule_of s ≡ Sequence parts → has_name s ≡ true → Middle parts
middle s parts e h = middle_of parts (closed_by s (Sequence parts) e h)

pub middle_part : (s : Symbol) (parts : List Symbol) (d : Symbol) → rule_of s ≡ Sequence parts → has_name s ≡ true
    → slice_get (sequence (rule_of s)) 1 ≡ Some (get_or parts 1 d)
middle_part s parts d e h = ap (λ r. slice_get (sequence r) 1) e ∙ slice_get-get_or parts 1 d (middle s parts e h).within

-- a tree of such a sequence
inside_parts : (parts : List Symbol) (trees : Trees) → is_closed (Sequence parts) ≡ true → have_parts (Sequence parts) trees ≡ true
    → name_token (Parts trees) ≡ name_token (part_of (Parts trees) 1)
inside_parts (a ∷ b ∷ c ∷ []) NoTree e h = never h
inside_parts (a ∷ b ∷ c ∷ []) (MoreTrees x NoTree) e h = never (and_parts (fits a x) false h).1
inside_parts (a ∷ b ∷ c ∷ []) (MoreTrees x (MoreTrees y trees)) e h = refl
inside_parts [] trees e h = never e
inside_parts (a ∷ []) trees e h = never e
inside_parts (a ∷ b ∷ []) trees e h = never e
inside_parts (a ∷ b ∷ c ∷ d ∷ parts) trees e h = never e

sequence_no_token : (r : Rule) (parts : List Symbol) (x : Lexeme) → r ≡ Sequence parts → is_token r x ≡ true → ⊥
sequence_no_token r parts x e h = true≢false (sym h ∙ ap (λ rule. is_token rule x) e)

sequence_no_alternative : (r : Rule) (parts : List Symbol) (n : ℕ) → r ≡ Sequence parts → has_alternative r n ≡ true → ⊥
sequence_no_alternative r parts n e h = true≢false (sym h ∙ ap (λ rule. has_alternative rule n) e)

pub token_inside : (s : Symbol) (parts : List Symbol) (tree : Tree) → rule_of s ≡ Sequence parts → has_name s ≡ true → fits s tree ≡ true
    → name_token tree ≡ name_token (part_of tree 1)
token_inside s parts (Leaf x) e n h = absurd (sequence_no_token (rule_of s) parts x e h)
token_inside s parts (Parts trees) e n h = inside_parts parts trees (closed_by s (Sequence parts) e n) (ap (λ r. have_parts r trees) (sym e) ∙ h)
token_inside s parts (Chosen k tree) e n h =
    absurd (sequence_no_alternative (rule_of s) parts k e (and_parts (has_alternative (rule_of s) k) (fits (alternative s k) tree) h).0)

pub only_names : (r : declared.Rule) (t : Rule) → rule_meaning r ≡ t → is_closed t ≡ true → is_leaf t ≡ false
    → ((parts : Bor (List Symbol)) → r ≡ declared_rule.Sequence parts → ⊥) → ((parts : Bor (List Symbol)) → r ≡ declared_rule.Choice parts → ⊥) → ⊥
only_names (declared_rule.Sequence parts) t e c l one two = one parts refl
only_names (declared_rule.Choice parts) t e c l one two = two parts refl
only_names (declared_rule.Token k) t e c l one two = true≢false (ap is_leaf e ∙ l)
only_names (declared_rule.Optional p) t e c l one two = never (ap is_closed e ∙ c)
only_names (declared_rule.Many p) t e c l one two = never (ap is_closed e ∙ c)
only_names (declared_rule.AtLeastOne p) t e c l one two = never (ap is_closed e ∙ c)
only_names (declared_rule.SeparatedBy p s) t e c l one two = never (ap is_closed e ∙ c)
only_names (declared_rule.Ahead p) t e c l one two = never (ap is_closed e ∙ c)
only_names (declared_rule.NotAhead p) t e c l one two = never (ap is_closed e ∙ c)

-- the kind of a name's token

abbrev is_named : Kind → Bool
is_named (kind.VarId name) = true
is_named (kind.ConId name) = true
is_named (kind.VarOp name) = true
is_named (kind.ConOp name) = true
is_named _ = false

unqualified_named : (k : NameKind) (found : Kind) → has_kind (class.Unqualified k) found ≡ true → is_named found ≡ true
unqualified_named name_kind.VarId (kind.VarId name) h = refl
unqualified_named name_kind.ConId (kind.ConId name) h = refl
unqualified_named name_kind.VarOp (kind.VarOp name) h = refl
unqualified_named name_kind.ConOp (kind.ConOp name) h = refl
unqualified_named k found h = never h

qualified_named : (k : NameKind) (found : Kind) → has_kind (class.Name k) found ≡ true → is_named found ≡ true
qualified_named name_kind.VarId (kind.VarId name) h = refl
qualified_named name_kind.ConId (kind.ConId name) h = refl
qualified_named name_kind.VarOp (kind.VarOp name) h = refl
qualified_named name_kind.ConOp (kind.ConOp name) h = refl
qualified_named k found h = never h

class_named : (c : Class) (found : Kind) → is_name_class c ≡ true → has_kind c found ≡ true → is_named found ≡ true
class_named (class.Unqualified k) found c h = unqualified_named k found h
class_named (class.Name k) found c h = qualified_named k found h
class_named _ found c h = never c

rule_named : (r : Rule) (x : Lexeme) → is_closed r ≡ true → is_token r x ≡ true → is_named x.what ≡ true
rule_named (TokenOf c) x e h = class_named c x.what e h
rule_named _ x e h = never h

named_kind : (names : List (List ℕ)) (found : TokenKind) → is_named (kind_of names found) ≡ true → is_spelled found ≡ true
named_kind names (token.VarId name) h = refl
named_kind names (token.ConId name) h = refl
named_kind names (token.VarOp name) h = refl
named_kind names (token.ConOp name) h = refl
named_kind names (token.Keyword word) h = never h
named_kind names (token.Reserved word) h = never h
named_kind names (token.Mark mark) h = never h
named_kind names (token.Int n) h = never h
named_kind names (token.Char code) h = never h
named_kind names (token.String codes) h = never h
named_kind names (token.Layout mark) h = never h

-- the token of a tree that is one
leaf_token : (s : Symbol) (tree : Tree) (x : Lexeme) → fits s tree ≡ true → tree ≡ Leaf x → is_token (rule_of s) x ≡ true
leaf_token s tree x f e = ap (fits s) (sym e) ∙ f

pub name_kind_of : (names : List (List ℕ)) (s : Symbol) (tree : Tree) (found : Token) → has_name s ≡ true → fits s tree ≡ true → tree ≡ Leaf (lexeme_of names found) → is_spelled found.kind ≡ true
name_kind_of names s tree found n f e =
    named_kind names found.kind (rule_named (rule_of s) (lexeme_of names found) (closed s n) (leaf_token s tree (lexeme_of names found) f e))

-- the tokens of literals

abbrev is_literal : Kind → Bool
is_literal (kind.Int n) = true
is_literal (kind.Char c) = true
is_literal (kind.String s) = true
is_literal _ = false

int_literal : (k : Kind) → has_kind class.Int k ≡ true → is_literal k ≡ true
int_literal (kind.Int n) h = refl
int_literal k h = never h

char_literal : (k : Kind) → has_kind class.Char k ≡ true → is_literal k ≡ true
char_literal (kind.Char c) h = refl
char_literal k h = never h

string_literal : (k : Kind) → has_kind class.String k ≡ true → is_literal k ≡ true
string_literal (kind.String s) h = refl
string_literal k h = never h

literal_at : (n : ℕ) (tree : Tree) (x : Lexeme) → has_alternative (rule_of symbol.Literal) n ≡ true → fits (alternative symbol.Literal n) tree ≡ true → first_token tree ≡ Some x
    → is_literal x.what ≡ true
literal_at zero (Leaf y) x a f e = let same : y ≡ x = cc in ap (λ t. is_literal t.what) (sym same) ∙ int_literal y.what f
literal_at zero (Parts trees) x a f e = never f
literal_at zero (Chosen n tree) x a f e = never f
literal_at (suc zero) (Leaf y) x a f e = let same : y ≡ x = cc in ap (λ t. is_literal t.what) (sym same) ∙ char_literal y.what f
literal_at (suc zero) (Parts trees) x a f e = never f
literal_at (suc zero) (Chosen n tree) x a f e = never f
literal_at (suc (suc zero)) (Leaf y) x a f e = let same : y ≡ x = cc in ap (λ t. is_literal t.what) (sym same) ∙ string_literal y.what f
literal_at (suc (suc zero)) (Parts trees) x a f e = never f
literal_at (suc (suc zero)) (Chosen n tree) x a f e = never f
literal_at (suc (suc (suc n))) tree x a f e = never a

literal_of_tree : (tree : Tree) (x : Lexeme) → fits symbol.Literal tree ≡ true → first_token tree ≡ Some x → is_literal x.what ≡ true
literal_of_tree (Leaf y) x f e = never f
literal_of_tree (Parts trees) x f e = never f
literal_of_tree (Chosen n tree) x f e =
    let both = and_parts (has_alternative (rule_of symbol.Literal) n) (fits (alternative symbol.Literal n) tree) f in
    literal_at n tree x both.0 both.1 e

literal_kind : (names : List (List ℕ)) (found : TokenKind) → is_literal (kind_of names found) ≡ true → ((n : ℤ) → found ≡ token.Int n → ⊥) → ((c : ℕ) → found ≡ token.Char c → ⊥)
    → ((s : Characters) → found ≡ token.String s → ⊥) → ⊥
literal_kind names (token.Int n) h one two three = one n refl
literal_kind names (token.Char c) h one two three = two c refl
literal_kind names (token.String s) h one two three = three s refl
literal_kind names (token.VarId name) h one two three = never h
literal_kind names (token.ConId name) h one two three = never h
literal_kind names (token.VarOp name) h one two three = never h
literal_kind names (token.ConOp name) h one two three = never h
literal_kind names (token.Keyword word) h one two three = never h
literal_kind names (token.Reserved word) h one two three = never h
literal_kind names (token.Mark mark) h one two three = never h
literal_kind names (token.Layout mark) h one two three = never h

pub only_literals : (s : Symbol) (tree : Tree) (found : Token) → s ≡ symbol.Literal → fits s tree ≡ true → first_token tree ≡ Some (lexeme_of [] found)
    → ((n : ℤ) → found.kind ≡ token.Int n → ⊥) → ((c : ℕ) → found.kind ≡ token.Char c → ⊥) → ((t : Characters) → found.kind ≡ token.String t → ⊥) → ⊥
only_literals s tree found e f t = literal_kind [] found.kind (literal_of_tree tree (lexeme_of [] found) (ap (λ p. fits p tree) (sym e) ∙ f) t)

-- numbers

int_only : (names : List (List ℕ)) (found : TokenKind) → has_kind class.Int (kind_of names found) ≡ true → ((n : ℤ) → found ≡ token.Int n → ⊥) → ⊥
int_only names (token.Int n) h one = one n refl
int_only names (token.Char c) h one = never h
int_only names (token.String s) h one = never h
int_only names (token.VarId name) h one = never h
int_only names (token.ConId name) h one = never h
int_only names (token.VarOp name) h one = never h
int_only names (token.ConOp name) h one = never h
int_only names (token.Keyword word) h one = never h
int_only names (token.Reserved word) h one = never h
int_only names (token.Mark mark) h one = never h
int_only names (token.Layout mark) h one = never h

digit_is_int : (k : Kind) → has_kind class.Digit k ≡ true → has_kind class.Int k ≡ true
digit_is_int (kind.Int n) h = refl
digit_is_int k h = never h

pub only_ints : (s : Symbol) (tree : Tree) (found : Token) → s ≡ symbol.Int → fits s tree ≡ true → tree ≡ Leaf (lexeme_of [] found) → ((n : ℤ) → found.kind ≡ token.Int n → ⊥) → ⊥
only_ints s tree found e f t one =
    int_only [] found.kind (leaf_token symbol.Int tree (lexeme_of [] found) (ap (λ p. fits p tree) (sym e) ∙ f) t) one

digit_leaf : (s : Symbol) (tree : Tree) (found : Token) → s ≡ symbol.Digit → fits s tree ≡ true → tree ≡ Leaf (lexeme_of [] found) → has_kind class.Digit (kind_of [] found.kind) ≡ true
digit_leaf s tree found e f t = leaf_token symbol.Digit tree (lexeme_of [] found) (ap (λ p. fits p tree) (sym e) ∙ f) t

pub only_digits : (s : Symbol) (tree : Tree) (found : Token) → s ≡ symbol.Digit → fits s tree ≡ true → tree ≡ Leaf (lexeme_of [] found) → ((n : ℤ) → found.kind ≡ token.Int n → ⊥) → ⊥
only_digits s tree found e f t one = int_only [] found.kind (digit_is_int (kind_of [] found.kind) (digit_leaf s tree found e f t)) one

pub small_digit : (s : Symbol) (tree : Tree) (found : Token) (n : ℤ) → s ≡ symbol.Digit → fits s tree ≡ true → tree ≡ Leaf (lexeme_of [] found) → found.kind ≡ token.Int n → is_digit n ≡ true
small_digit s tree found n e f t is = ap (λ k. has_kind class.Digit (kind_of [] k)) (sym is) ∙ digit_leaf s tree found e f t

-- a digit is the same among larger numbers with a sign
digit_at : (P : ℤ → Type 0) (z : ℤ) → is_digit z ≡ true → ((n : ℕ) → n < 10 → P (pos n)) → P z
digit_at P (pos n) d h = h n (ltb-true n 10 d)
digit_at P (negsuc n) d h = never d

pub digit_case : (P : ℤ → Type 0) (z : ℤ) → SFits w128 z → is_digit z ≡ true → ((n : ℕ) → n < 10 → P (pos n)) → P (to_z w128 (of_z w128 z))
digit_case P z fits d h = subst P (sym (to_z-of_z w128 z fits)) (digit_at P z d h)
