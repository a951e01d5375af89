-- The tokens of a text stand one after another.
use Rattle.std.specs.Prelude.{◌≡◌, ◌<◌, ℕ, zero, suc, ◌==◌, Bool, true, false, List, [], ◌∷◌, ◌++◌, Err, None, Ok, Option, Result, Some, if◌then◌else◌, length, nat_lt, refl}
use Rattle.std.specs.List.{All}
use Rattle.std.specs.Str.{byte, chars, is_utf8}
use Rattle.std.proofs.Common.{arith, subst, sym}
use Rattle.std.proofs.lemmas.List.Elements.{All-cons, All-head, All-nil, All-tail}
use mathlib.Core.Logic.{◌⊎◌, inl, inr}
use Rattle.cu_lex.specs.Decoding.{fault_offset}
use Rattle.cu_lex.specs.Kind.{Kind}
use Rattle.cu_lex.specs.Located.{Located, Position, first_position, located, located_from, on_next_column, on_next_line, on_next_stop, position_after, without_mark}
use Rattle.cu_lex.specs.Munch.{Classes, Cut, Pieces, Placed, cut_all, cut_within, longest, pieces_from}
use Rattle.cu_lex.specs.Pieces.{Piece, piece}
use Rattle.cu_lex.specs.Pieces.Piece.{Blank, Token, OutOfRange}
use Rattle.cu_lex.specs.Tokens.{Fault, Lexeme, lexemes, lexemes_of, max_text_bytes, tokens, with_lexeme}
use Rattle.cu_lex.specs.Tokens.Fault.{NotUtf8, SourceTooBig}
use Rattle.cu_lex.proofs.MunchLemmas.{longest-is}
use Rattle.cu_syntax.specs.Law.{IsBefore, Rise}

-- places

before_before : (p q r : Position) → IsBefore p q → IsBefore q r → IsBefore p r
before_before p q r (inl a) (inl b) = inl (omega (arith, a, b))
before_before p q r (inl a) (inr b) = inl (omega (arith, a, b.0))
before_before p q r (inr a) (inl b) = inl (omega (arith, a.0, b))
before_before p q r (inr a) (inr b) = inr (omega (arith, a.0, b.0), omega (arith, a.1, b.1))

stop_before : (p : Position) → IsBefore p (on_next_stop p)
stop_before p = inr (refl, omega arith)

moves_on : (feed tab : Bool) (p : Position) → IsBefore p (if feed then on_next_line p else if tab then on_next_stop p else on_next_column p)
moves_on true tab p = inl (omega arith)
moves_on false true p = stop_before p
moves_on false false p = inr (refl, omega arith)

after_before : (c : ℕ) (p : Position) → IsBefore p (position_after c p)
after_before c p = moves_on (c == byte "\n") (c == byte "\t") p

-- what is left of a text after a prefix of it
record RightBody (p : Position) (rest : List Located) : Type 0 where
  at : Position
  chars : List ℕ
  is : rest ≡ located_from at chars
  later : IsBefore p at

suffix : (p : Position) (cs : List ℕ) (l : Located) (prefix rest : List Located) → l ∷ prefix ++ rest ≡ located_from p cs → RightBody p rest
unfolding located_from
suffix p [] l prefix rest e = let no : ⊥ = cc in absurd no
suffix p (c ∷ cs) l [] rest e = record { at = position_after c p; chars = cs; is = cc; later = after_before c p }
suffix p (c ∷ cs) l (m ∷ prefix) rest e =
    let left : m ∷ prefix ++ rest ≡ located_from (position_after c p) cs = cc in
    let b = suffix (position_after c p) cs m prefix rest left in
    record { at = b.at; chars = b.chars; is = b.is; later = before_before p (position_after c p) b.at (after_before c p) b.later }

rest_after : (p : Position) (cs : List ℕ) (prefix rest : List Located) → 0 < length prefix → prefix ++ rest ≡ located_from p cs → RightBody p rest
rest_after p cs [] rest some e = absurd (omega (arith, some))
rest_after p cs (l ∷ prefix) rest some e = suffix p cs l prefix rest e

-- pieces

abbrev StandsFrom : {X : Type 0} → Position → Placed X → Type 0
StandsFrom p x = (p ≡ x.at) ⊎ IsBefore p x.at

abbrev StandsAfter : {X : Type 0} → Position → Placed X → Type 0
StandsAfter p x = IsBefore p x.at

record Rising {X : Type 0} (p : Position) (xs : List (Placed X)) : Type 0 where
  from : All (StandsFrom p) xs
  rise : Rise xs

nothing : {X : Type 0} (p : Position) → Rising {X = X} p []
nothing {X} p = record { from = All-nil (StandsFrom {X = X} p); rise = tt }

from_after : (p q r : Position) → IsBefore p q → (q ≡ r) ⊎ IsBefore q r → IsBefore p r
from_after p q r h (inl e) = subst (IsBefore p) e h
from_after p q r h (inr b) = before_before p q r h b

all_after : {X : Type 0} (p q : Position) (xs : List (Placed X)) → IsBefore p q → All (StandsFrom q) xs → All (StandsAfter p) xs
all_after p q [] h from = All-nil (StandsAfter p)
all_after p q (x ∷ xs) h from =
    All-cons (StandsAfter p) x xs (from_after p q x.at h (All-head (StandsFrom q) x xs from)) (all_after p q xs h (All-tail (StandsFrom q) x xs from))

all_from : {X : Type 0} (p : Position) (xs : List (Placed X)) → All (StandsAfter p) xs → All (StandsFrom p) xs
all_from p [] h = All-nil (StandsFrom p)
all_from p (x ∷ xs) h = All-cons (StandsFrom p) x xs (inr (All-head (StandsAfter p) x xs h)) (all_from p xs (All-tail (StandsAfter p) x xs h))

one_more : {X : Type 0} (p q : Position) (what : X) (xs : List (Placed X)) → IsBefore p q → Rising q xs → Rising p (record { what = what; at = p } ∷ xs)
one_more p q what xs h more =
    let later = all_after p q xs h more.from in
    record { from = All-cons (StandsFrom p) (record { what = what; at = p }) xs (inl refl) (all_from p xs later); rise = (later, more.rise) }

abbrev first_of : ℕ → Position → Located
first_of c p = record { char = c; at = p }

piece_rises : {X : Type 0} (classes : Classes X) (further : List Located → Pieces X) (p : Position) (c : ℕ) (cs : List ℕ) (o : Option (Cut X))
    → longest classes (located_from p (c ∷ cs)) ≡ o → ((q : Position) (ds : List ℕ) → Rising q (further (located_from q ds)).pieces)
    → Rising p (pieces_from further (first_of c p) (located_from (position_after c p) cs) o).pieces
piece_rises classes further p c cs None e rises = nothing p
piece_rises classes further p c cs (Some cut) e rises =
    let is = longest-is classes (located_from p (c ∷ cs)) cut e in
    let b = rest_after p (c ∷ cs) cut.prefix cut.rest is.some is.whole in
    one_more p b.at cut.what (further cut.rest).pieces b.later (subst (λ t. Rising b.at (further t).pieces) (sym b.is) (rises b.at b.chars))

pieces_rise : {X : Type 0} (classes : Classes X) (n : ℕ) (p : Position) (cs : List ℕ) → Rising p (cut_within classes n (located_from p cs)).pieces
unfolding cut_within located_from
pieces_rise classes zero p cs = nothing p
pieces_rise classes (suc n) p [] = nothing p
pieces_rise classes (suc n) p (c ∷ cs) = piece_rises classes (cut_within classes n) p c cs (longest classes (located_from p (c ∷ cs))) refl (pieces_rise classes n)

-- tokens

abbrev lexeme_at : Kind → Position → Lexeme
lexeme_at kind at = record { what = kind; at = at }

kept_one : (P : Position → Type 0) (what : Piece) (at : Position) (r : Result (List Lexeme) Fault) (found : List Lexeme) → P at
    → ((more : List Lexeme) → r ≡ Ok more → All (λ x. P x.at) more) → with_lexeme what at r ≡ Ok found → All (λ x. P x.at) found
kept_one P Blank at r found h kept e = kept found e
kept_one P (Token kind) at (Ok more) found h kept e =
    let is : lexeme_at kind at ∷ more ≡ found = cc in
    subst (All (λ x. P x.at)) is (All-cons (λ x. P x.at) (lexeme_at kind at) more h (kept more refl))
kept_one P (Token kind) at (Err fault) found h kept e = let no : ⊥ = cc in absurd no
kept_one P (OutOfRange place) at r found h kept e = let no : ⊥ = cc in absurd no

kept : (P : Position → Type 0) (pieces : List (Placed Piece)) (left : List Located) (found : List Lexeme) → All (λ x. P x.at) pieces → lexemes_of pieces left ≡ Ok found
    → All (λ x. P x.at) found
kept P [] [] found h e = let is : [] ≡ found = cc in subst (All (λ x. P x.at)) is (All-nil (λ x. P x.at))
kept P [] (c ∷ left) found h e = let no : ⊥ = cc in absurd no
kept P (p ∷ pieces) left found h e =
    kept_one P p.what p.at (lexemes_of pieces left) found (All-head (λ x. P x.at) p pieces h) (λ more is. kept P pieces left more (All-tail (λ x. P x.at) p pieces h) is) e

rise_one : (what : Piece) (at : Position) (r : Result (List Lexeme) Fault) (found : List Lexeme) → ((more : List Lexeme) → r ≡ Ok more → All (StandsAfter at) more)
    → ((more : List Lexeme) → r ≡ Ok more → Rise more) → with_lexeme what at r ≡ Ok found → Rise found
rise_one Blank at r found later rise e = rise found e
rise_one (Token kind) at (Ok more) found later rise e =
    let is : lexeme_at kind at ∷ more ≡ found = cc in
    subst Rise is (later more refl, rise more refl)
rise_one (Token kind) at (Err fault) found later rise e = let no : ⊥ = cc in absurd no
rise_one (OutOfRange place) at r found later rise e = let no : ⊥ = cc in absurd no

lexemes_rise : (pieces : List (Placed Piece)) (left : List Located) (found : List Lexeme) → Rise pieces → lexemes_of pieces left ≡ Ok found → Rise found
lexemes_rise [] [] found h e = let is : [] ≡ found = cc in subst Rise is tt
lexemes_rise [] (c ∷ left) found h e = let no : ⊥ = cc in absurd no
lexemes_rise (p ∷ pieces) left found h e =
    rise_one p.what p.at (lexemes_of pieces left) found (λ more is. kept (IsBefore p.at) pieces left more h.0 is) (λ more is. lexemes_rise pieces left more h.1 is) e

text_rises : (cs : List ℕ) (found : List Lexeme) → lexemes (located cs) ≡ Ok found → Rise found
text_rises cs found e =
    let text = located cs in
    let cut = cut_all piece text in
    lexemes_rise cut.pieces cut.left found (pieces_rise piece (length text) first_position (without_mark cs)).rise e

within : (big text : Bool) (read : Result (List Lexeme) Fault) (offset : ℕ) (found : List Lexeme)
    → (if big then Err SourceTooBig else if text then read else Err (NotUtf8 offset)) ≡ Ok found → read ≡ Ok found
within true text read offset found e = let no : ⊥ = cc in absurd no
within false true read offset found e = e
within false false read offset found e = let no : ⊥ = cc in absurd no

pub places_rise : (bytes : List ℕ) (found : List Lexeme) → tokens bytes ≡ Ok found → Rise found
unfolding tokens
places_rise bytes found e =
    text_rises (chars bytes) found (within (nat_lt max_text_bytes (length bytes)) (is_utf8 bytes) (lexemes (located (chars bytes))) (fault_offset bytes) found e)
