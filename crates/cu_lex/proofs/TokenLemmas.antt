-- The tokens of a text, one by one.
use Rattle.std.proofs.Common.{◌≡◌, ◌<◌, ℕ, length, slice_index_or, arith, subst, List, [], ◌∷◌, ◌++◌, map, Option, Some, None, Result, Ok, Err, refl, sym, ap, ◌∙◌, append_assoc}
use Rattle.std.specs.Result.{result_map_both, IfErr, IsErrAnd}
use Rattle.cu_lex.specs.Inside.Lexing.{IsPiece}
use Rattle.cu_lex.specs.Located.{Located}
use Rattle.cu_lex.specs.Munch.{cut_at, longest}
use Rattle.cu_lex.specs.Pieces.{Piece, piece}
use Rattle.cu_lex.specs.Tokens.{Lexeme, Fault, lexemes, lexemes_of, with_lexeme}
use Rattle.cu_lex.specs.Tokens.Fault.{BadToken}
use Rattle.std.proofs.lemmas.Bool.{lt-ltb, le-ltb}
use Rattle.std.proofs.lemmas.List.{append-nil}
use Rattle.std.proofs.lemmas.Str.{IsUtf8-from_is_utf8, is_utf8-from_IsUtf8}
use Rattle.std.specs.Option.{IfSome}
use Rattle.std.specs.Str.{chars, is_utf8, IsUtf8}
use Rattle.std.proofs.Common.{◌≤◌, zero, suc}
use Rattle.std.specs.Prelude.{All}
use Rattle.std.specs.Option.{option_map}
use Rattle.std.proofs.lemmas.List.{map-append}
use Rattle.std.proofs.lemmas.List.Elements.{All-append}
use Rattle.cu_names.specs.declared.place.Place.{Place}
use Rattle.cu_names.specs.Texts.{text_of}
use Rattle.cu_names.proofs.Growth.{known-extends, text_of-extends}
use Rattle.cu_lex.specs.declared.token.Token.{Token as LexerToken}
use Rattle.cu_lex.specs.declared.token.TokenKind.{TokenKind}
use Rattle.cu_lex.specs.declared.token.TokenKind.TheVariants as token
use Rattle.cu_lex.specs.Kind.Kind.{VarId, ConId, VarOp, ConOp}
use Rattle.cu_lex.specs.Inside.Lexing.{piece_of, with_token, HasNames}
use Rattle.cu_lex.specs.Pieces.Piece.{Blank, Token}
use Rattle.cu_lex.specs.Reading.{kind_of, lexeme_of, HasKind, HasNatural, IsTokenOf}
use Rattle.cu_names.specs.declared.names.NameId.{NameId}
use Rattle.cu_names.specs.Texts.{Extends, IsKnown}
use Rattle.cu_lex.specs.declared.fault.LexFault.{LexFault}
use Rattle.cu_lex.specs.declared.fault.LexFault.TheVariants as answer
use Rattle.cu_lex.specs.declared.token.Name.{Name}
use Rattle.cu_lex.specs.Decoding.{fault_offset}
use Rattle.cu_lex.specs.Inside.Lexing.{FailsAt}
use Rattle.cu_lex.specs.Located.{located}
use Rattle.cu_lex.specs.Munch.{cut_within}
use Rattle.cu_lex.specs.Pieces.Piece.{OutOfRange}
use Rattle.cu_lex.specs.Reading.{position_of, spelling_of, HasName, Tells}
use Rattle.cu_lex.specs.Inside.Scanning.{first_of}
use Rattle.cu_lex.specs.Tokens.{tokens}
use Rattle.cu_lex.specs.Tokens.Fault.{SourceTooBig, NotUtf8}
use Rattle.cu_lex.proofs.CutLemmas.{cut-step, cut-none, rest-shorter}
use Rattle.cu_lex.proofs.DecodingLemmas.{false-when}

-- tokens so far, and those of the rest
abbrev pub before : List Lexeme → Result (List Lexeme) Fault → Result (List Lexeme) Fault
before found more = result_map_both (λ later. found ++ later) (λ fault. fault) more

pub piece-step : (first : Located) (text end : List Located) (what : Piece) → IsPiece (first ∷ text) what end → lexemes (first ∷ text) ≡ with_lexeme what first.at (lexemes end)
piece-step first text end what is =
    ap (λ cut. lexemes_of cut.pieces cut.left) (cut-step piece first text (cut_at is.prefix end what) is.cut)

pub piece-missing : (first : Located) (text : List Located) → longest piece (first ∷ text) ≡ None → lexemes (first ∷ text) ≡ Err (BadToken first.at)
piece-missing first text is = ap (λ cut. lexemes_of cut.pieces cut.left) (cut-none piece (first ∷ text) is)

pub too-big : (bytes : List ℕ) → 16777216 < length bytes → tokens bytes ≡ Err SourceTooBig
unfolding tokens
too-big bytes big = rw (lt-ltb 16777216 (length bytes) big) refl

pub not-text : (bytes : List ℕ) (offset : ℕ) → length bytes ≤ 16777216 → (IsUtf8 bytes → ⊥) → offset ≡ fault_offset bytes → tokens bytes ≡ Err (NotUtf8 offset)
unfolding tokens
not-text bytes offset small wrong at = rw (le-ltb 16777216 (length bytes) small, sym (false-when (is_utf8 bytes) (λ h. wrong (IsUtf8-from_is_utf8 bytes h))), at) refl

pub of-text : (bytes : List ℕ) → length bytes ≤ 16777216 → IsUtf8 bytes → tokens bytes ≡ lexemes (located (chars bytes))
unfolding tokens
of-text bytes small text = rw (le-ltb 16777216 (length bytes) small, is_utf8-from_IsUtf8 bytes text) refl

-- what is left is nothing
pub ended-lexemes : (text : List Located) → first_of text ≡ None → lexemes text ≡ Ok []
unfolding cut_within
ended-lexemes [] none = refl
ended-lexemes (c ∷ text) none = cc

pub all-found : (found : List Lexeme) (more : Result (List Lexeme) Fault) → more ≡ Ok [] → before found more ≡ Ok found
all-found found more is = rw is (ap Ok (append-nil found))

-- a fault of what is left is the text's
pub tells : (owner : NameId) (text : List Located) (found : List Lexeme) (first : ℕ) (fault : LexFault) → first_of text ≡ Some first → FailsAt owner text fault → Tells owner fault (before found (lexemes text))
tells owner [] found first fault at fails = cc
tells owner (c ∷ text) found first (answer.BadToken place) at (owned, none, p) =
    (owned, ap (before found) (piece-missing c text none ∙ ap (λ x. Err (BadToken x)) (sym (p c text refl))))
tells owner (c ∷ text) found first (answer.LiteralRange place) at (owned, end, is) = (owned, ap (before found) (piece-step c text end (OutOfRange (position_of place)) is))
tells owner (c ∷ text) found first answer.NoMemory at fails = tt
tells owner (c ∷ text) found first answer.SourceTooBig at fails = absurd fails
tells owner (c ∷ text) found first (answer.NotUtf8 offset) at fails = absurd fails

pub next-shorter : (text : List Located) (what : Piece) (end : List Located) → IsPiece text what end → length end < length text
next-shorter text what end is = rest-shorter piece text (cut_at is.prefix end what) is.cut

-- ---- tables that grow

qualifier-grows : (old new : List (List ℕ)) → Extends old new → (q : Option NameId) → IfSome q (IsKnown old) → (option_map (text_of new) q ≡ option_map (text_of old) q) × IfSome q (IsKnown new)
qualifier-grows old new grows None known = (refl, tt)
qualifier-grows old new grows (Some q) known = (ap Some (text_of-extends grows q known), known-extends grows q known)

spelling-grows : (old new : List (List ℕ)) → Extends old new → (name : Name) → HasName old name → (spelling_of new name ≡ spelling_of old name) × HasName new name
spelling-grows old new grows name has =
    let text = text_of-extends grows name.text has.0 in
    let outer = qualifier-grows old new grows name.qualifier has.1 in
    let base = text_of-extends grows name.base has.2 in
    ((λ j. record { text = text j; qualifier = outer.0 j; base = base j; special = name.special }), (known-extends grows name.text has.0, outer.1, known-extends grows name.base has.2))

pub kind-grows : (old new : List (List ℕ)) → Extends old new → (k : TokenKind) → HasKind old k → (kind_of new k ≡ kind_of old k) × HasKind new k
kind-grows old new grows (token.VarId name) has = let s = spelling-grows old new grows name has in (ap VarId s.0, s.1)
kind-grows old new grows (token.ConId name) has = let s = spelling-grows old new grows name has in (ap ConId s.0, s.1)
kind-grows old new grows (token.VarOp name) has = let s = spelling-grows old new grows name has in (ap VarOp s.0, s.1)
kind-grows old new grows (token.ConOp name) has = let s = spelling-grows old new grows name has in (ap ConOp s.0, s.1)
kind-grows old new grows (token.Keyword word) has = (refl, tt)
kind-grows old new grows (token.Reserved word) has = (refl, tt)
kind-grows old new grows (token.Mark mark) has = (refl, tt)
kind-grows old new grows (token.Int n) has = (refl, tt)
kind-grows old new grows (token.Char code) has = (refl, tt)
kind-grows old new grows (token.String codes) has = (refl, tt)
kind-grows old new grows (token.Layout mark) has = (refl, tt)

pub tokens-grow : (owner : NameId) (old new : List (List ℕ)) → Extends old new → (ts : List LexerToken) → All (IsTokenOf owner old) ts → map (lexeme_of new) ts ≡ map (lexeme_of old) ts
tokens-grow owner old new grows [] all = refl
tokens-grow owner old new grows (t ∷ ts) all =
    let here = kind-grows old new grows t.kind (all 0 t (omega arith)).known in
    (λ j. record { what = here.0 j; at = position_of t.place } ∷ tokens-grow owner old new grows ts (λ k d fits. all (suc k) d (omega arith)) j)

pub owned-grow : (owner : NameId) (old new : List (List ℕ)) → Extends old new → (ts : List LexerToken) → All (IsTokenOf owner old) ts → All (IsTokenOf owner new) ts
owned-grow owner old new grows ts all = λ k d fits. record { owned = (all k d fits).owned; known = (kind-grows old new grows (slice_index_or ts k d).kind (all k d fits).known).1; natural = (all k d fits).natural }

one-more : (owner : NameId) (names : List (List ℕ)) (t : LexerToken) → IsTokenOf owner names t → All (IsTokenOf owner names) (t ∷ [])
one-more owner names t is = λ k d fits. at k d fits
  where
    at : (k : ℕ) (d : LexerToken) → k < 1 → IsTokenOf owner names (slice_index_or (t ∷ []) k d)
    at zero d fits = is
    at (suc k) d fits = absurd (omega arith)

pub owned-more : (owner : NameId) (old new : List (List ℕ)) (ts : List LexerToken) (kind : Option TokenKind) (place : Place) → Extends old new → All (IsTokenOf owner old) ts → place.«module» ≡ owner → HasNames new kind → IfSome kind HasNatural
    → All (IsTokenOf owner new) (with_token ts kind place)
owned-more owner old new ts None place grows all own has natural = owned-grow owner old new grows ts all
owned-more owner old new ts (Some kind) place grows all own has natural =
    All-append (IsTokenOf owner new) ts (record { kind = kind; place = place } ∷ []) (owned-grow owner old new grows ts all)
    (one-more owner new (record { kind = kind; place = place }) (record { owned = own; known = has; natural = natural }))

joined : (found : List Lexeme) (l : Lexeme) (more : Result (List Lexeme) Fault) → before found (result_map_both (λ ls. l ∷ ls) (λ fault. fault) more) ≡ before (found ++ l ∷ []) more
joined found l (Ok more) = ap Ok (sym (append_assoc found (l ∷ []) more))
joined found l (Err fault) = refl

pub next-lexemes : (owner : NameId) (old new : List (List ℕ)) (ts : List LexerToken) (kind : Option TokenKind) (place : Place) (text end : List Located) (first : ℕ) → Extends old new → All (IsTokenOf owner old) ts
    → first_of text ≡ Some first → ((c : Located) (rest : List Located) → text ≡ c ∷ rest → position_of place ≡ c.at) → IsPiece text (piece_of new kind) end
    → before (map (lexeme_of old) ts) (lexemes text) ≡ before (map (lexeme_of new) (with_token ts kind place)) (lexemes end)
next-lexemes owner old new ts kind place [] end first grows all at p is = cc
next-lexemes owner old new ts None place (c ∷ text) end first grows all at p is =
    ap (before (map (lexeme_of old) ts)) (piece-step c text end Blank is) ∙ ap (λ ls. before ls (lexemes end)) (sym (tokens-grow owner old new grows ts all))
next-lexemes owner old new ts (Some kind) place (c ∷ text) end first grows all at p is =
    ap (before (map (lexeme_of old) ts)) (piece-step c text end (Token (kind_of new kind)) is ∙ ap (λ x. with_lexeme (Token (kind_of new kind)) x (lexemes end)) (sym (p c text refl)))
    ∙ ap (λ ls. before ls (with_lexeme (Token (kind_of new kind)) (position_of place) (lexemes end))) (sym (tokens-grow owner old new grows ts all))
    ∙ joined (map (lexeme_of new) ts) (record { what = kind_of new kind; at = position_of place }) (lexemes end)
    ∙ ap (λ ls. before ls (lexemes end)) (sym (map-append (lexeme_of new) ts (record { kind = kind; place = place } ∷ [])))

-- an error that is passed on as it is
pub err-from : {T E O : Type 0} (P : E → O → Type 0) (r : Result T E) (e : E) (o : O) → IsErrAnd r (λ x. x ≡ e) → P e o → IfErr r (λ x. P x o)
err-from P (Ok x) e o is p = absurd is
err-from P (Err x) e o is p = subst (λ y. P y o) (sym is) p
