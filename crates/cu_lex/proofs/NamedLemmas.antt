-- Steps of the lexer at words, marks and comments.
use Rattle.std.proofs.Common.{◌≡◌, ℕ, true, not, List, [], ◌∷◌, ◌++◌, Option, Some, None, refl, sym, ap, subst, ◌∙◌, arith, true≢false, append_assoc}
use Rattle.std.proofs.lemmas.List.{length-append, map-append}
use Rattle.std.specs.Char.{is_ascii_uppercase}
use Rattle.cu_lex.specs.declared.cursor.Cursor.{Cursor}
use Rattle.cu_lex.specs.declared.token.Mark as mark
use Rattle.cu_lex.specs.declared.word.Qualified.{Qualified}
use Rattle.cu_lex.specs.declared.word.WordKind.{WordKind}
use Rattle.cu_lex.specs.declared.word.WordKind.TheVariants as kind
use Rattle.cu_lex.specs.Inside.Chains.{BeginsAt, IsQualified}
use Rattle.cu_lex.specs.Kind.Kind.{Mark}
use Rattle.cu_lex.specs.Inside.Lexing.{first_mark, IsNamed, IsOuter, IsPiece, IsPlain, OpensComment, named, word_cut}
use Rattle.cu_lex.specs.Located.{Located, characters}
use Rattle.cu_lex.specs.Munch.{cut_at, longest, longest_after}
use Rattle.cu_lex.specs.Pieces.{piece, stands_before, word_kind}
use Rattle.cu_lex.specs.Pieces.Piece.{Blank, Token}
use Rattle.cu_lex.specs.Inside.Scanning.{comment_end, later, left, is_base, HasNoWord, IsWord}
use Rattle.cu_lex.specs.Words.{begins_with, is_separator}
use Rattle.cu_lex.proofs.ChainLemmas.{dotted}
use Rattle.cu_lex.proofs.ClassLemmas.{word-longest, word-some}
use Rattle.cu_lex.proofs.FirstLemmas.{qualified-is, stands-named, word-is}
use Rattle.cu_lex.proofs.LongestLemmas.{capital-longest, comment-longest, comment-never, dashes-longest, mark-longest, nothing-longest, separator-longest}
use Rattle.cu_lex.proofs.PieceLemmas.{base-dashes}

-- the cut of a word
word-cut : (text : List Located) (k : WordKind) (end : List Located) → IsPlain text → (w : IsWord text k end) → (prefix : List Located) × (longest piece text ≡ Some (word_cut k None (characters w.prefix) prefix end))
word-cut text kind.VarId end facts w = (w.prefix, word-longest text kind.VarId end facts w refl)
word-cut text kind.ConId end facts w = (w.prefix, word-longest text kind.ConId end facts w refl)
word-cut text kind.VarOp end facts w = (w.prefix, word-longest text kind.VarOp end facts w refl)
word-cut text kind.ConOp end facts w = (w.prefix, word-longest text kind.ConOp end facts w refl)
word-cut text (kind.Keyword k) end facts w = (w.prefix, word-longest text (kind.Keyword k) end facts w refl)
word-cut text (kind.Reserved k) end facts w = (w.prefix, word-longest text (kind.Reserved k) end facts w refl)
word-cut text kind.Dashes end facts w = (w.prefix, dashes-longest text end facts w)

-- a word without a qualifier
pub plain-named : (found : Qualified) → found.dot ≡ None → IsPlain (left found.base) → IsWord (left found.base) found.word.kind (left found.word.end) → IsNamed (left found.base) found
plain-named found none facts w =
    let cut = word-cut (left found.base) found.word.kind (left found.word.end) facts w in
    record {
      begins = subst (BeginsAt (left found.base) (left found.base)) (sym none) refl;
      word = w;
      outer = None;
      is_outer = subst (λ d. IsOuter (left found.base) d None) (sym none) tt;
      prefix = cut.0;
      cut = cut.1;
    }

base-cut : (k : WordKind) (q : Option (List ℕ)) (w : List ℕ) (prefix end : List Located) → is_base k ≡ true → cut_at prefix end (Token (named q k w)) ≡ word_cut k q w prefix end
base-cut kind.VarId q w prefix end is = refl
base-cut kind.ConId q w prefix end is = refl
base-cut kind.VarOp q w prefix end is = refl
base-cut kind.ConOp q w prefix end is = refl
base-cut (kind.Keyword k) q w prefix end is = absurd (true≢false (sym is))
base-cut (kind.Reserved k) q w prefix end is = absurd (true≢false (sym is))
base-cut kind.Dashes q w prefix end is = absurd (true≢false (sym is))

-- a word with its qualifiers
pub qualified-named : (text : List Located) (found : Qualified) → begins_with is_ascii_uppercase (characters text) ≡ true → IsQualified text found → IsNamed text found
qualified-named text found capital q = by found.dot refl q.begins
  where
    ok : (o : Option (List ℕ)) → stands_before (named o found.word.kind (characters q.word.prefix)) (characters (left found.word.end)) ≡ true
    ok o = stands-named o found.word.kind (characters q.word.prefix) (characters (left found.word.end)) (base-dashes found.word.kind q.base) ∙ ap not q.word.ended

    by : (d : Option Cursor) → found.dot ≡ d → BeginsAt text (left found.base) d → IsNamed text found
    by None h begins =
        record {
          begins = q.begins;
          word = q.word;
          outer = None;
          is_outer = subst (λ d. IsOuter text d None) (sym h) tt;
          prefix = q.word.prefix;
          cut = capital-longest text q.word.prefix (left found.word.end) (named None found.word.kind (characters q.word.prefix)) capital (q.word.whole ∙ begins)
              (word-some (left found.base) found.word.kind (left found.word.end) q.word) (word-is (characters q.word.prefix) found.word.kind q.word.is (base-dashes found.word.kind q.base)) (ok None) q.most
              ∙ ap Some (base-cut found.word.kind None (characters q.word.prefix) q.word.prefix (left found.word.end) q.base);
        }
    by (Some dot) h b =
        let point = dotted (left dot) b.dotted in
        let prefix = b.outer ++ point.0 ∷ q.word.prefix in
        let chars : characters prefix ≡ characters b.outer ++ 46 ∷ characters q.word.prefix =
        map-append (λ (l : Located). l.char) b.outer (point.0 ∷ q.word.prefix) ∙ ap (λ x. characters b.outer ++ x ∷ characters q.word.prefix) point.1 in
        let whole : prefix ++ left found.word.end ≡ text =
        append_assoc b.outer (point.0 ∷ q.word.prefix) (left found.word.end) ∙ ap (λ t. b.outer ++ point.0 ∷ t) (q.word.whole ∙ b.after) ∙ ap (λ t. b.outer ++ t) (sym point.2) ∙ b.whole in
        record {
          begins = q.begins;
          word = q.word;
          outer = Some b.outer;
          is_outer = subst (λ d. IsOuter text d (Some b.outer)) (sym h) (b.whole, b.is, b.dotted);
          prefix = prefix;
          cut = capital-longest text prefix (left found.word.end) (named (Some (characters b.outer)) found.word.kind (characters q.word.prefix)) capital whole (omega (arith, length-append b.outer (point.0 ∷ q.word.prefix)))
              (ap word_kind chars ∙ qualified-is (characters b.outer) (characters q.word.prefix) found.word.kind b.is q.word.is q.base) (ok (Some (characters b.outer))) q.most
              ∙ ap Some (base-cut found.word.kind (Some (characters b.outer)) (characters q.word.prefix) prefix (left found.word.end) q.base);
        }

-- ---- marks, comments and separators

pub mark-piece : (text : List Located) (m : mark.Mark) (end : List Located) → end ≡ later text → IsPlain text → HasNoWord text → (OpensComment text → ⊥) → Some m ≡ first_mark text → IsPiece text (Token (Mark m)) end
mark-piece [] m end after facts none never is = absurd (let impossible : ⊥ = cc in impossible)
mark-piece (c ∷ text) m end after facts none never is =
    record { prefix = c ∷ []; cut = mark-longest c text m facts none (record { never = never }) (sym is) ∙ ap (λ t. Some (cut_at (c ∷ []) t (Token (Mark m)))) (sym after) }

pub no-mark : (text : List Located) → IsPlain text → HasNoWord text → (OpensComment text → ⊥) → None ≡ first_mark text → longest piece text ≡ None
unfolding longest_after
no-mark [] facts none never is = refl
no-mark (c ∷ text) facts none never is = nothing-longest c text facts none (record { never = never }) (sym is)

pub comment-piece : (text end : List Located) → IsPlain text → OpensComment text → Some end ≡ comment_end 1 (later (later text)) → IsPiece text Blank end
comment-piece [] end facts opens is = absurd (let h = opens.0 in let impossible : ⊥ = cc in impossible)
comment-piece (c ∷ []) end facts opens is = absurd (let h = opens.1 in let impossible : ⊥ = cc in impossible)
comment-piece (c ∷ d ∷ text) end facts opens is = let found = comment-longest c d text end facts opens (sym is) in record { prefix = found.0; cut = found.1 }

pub no-comment : (text : List Located) → IsPlain text → OpensComment text → None ≡ comment_end 1 (later (later text)) → longest piece text ≡ None
no-comment [] facts opens is = absurd (let h = opens.0 in let impossible : ⊥ = cc in impossible)
no-comment (c ∷ []) facts opens is = absurd (let h = opens.1 in let impossible : ⊥ = cc in impossible)
no-comment (c ∷ d ∷ text) facts opens is = comment-never c d text facts opens (sym is)

pub separator-piece : (text end : List Located) → begins_with is_separator (characters text) ≡ true → end ≡ later text → IsPiece text Blank end
separator-piece text end is after = let found = separator-longest text is in record { prefix = found.0; cut = found.1 ∙ ap (λ t. Some (cut_at found.0 t Blank)) (sym after) }
