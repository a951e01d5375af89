-- The laws of the layout rules.
use Rattle.std.proofs.Common.{◌≡◌, ◌∙◌, ℕ, zero, suc, ◌<◌, sym, ap, subst, refl, arith, append-nil, Bool, true, List, [], ◌∷◌, ◌++◌, length, map, Option, None, Some, Result, Ok, Err, if◌then◌else◌}
use Rattle.std.proofs.lemmas.List.{map-append}
use Rattle.std.proofs.lemmas.List.Elements.{All-append, All-map, filter-append}
use Rattle.std.specs.List.{All}
use Rattle.std.specs.Prelude.{slice_index_or}
use Rattle.std.specs.Option.{option_map}
use Rattle.std.specs.Result.{result_map_both}
use Rattle.cu_lex.specs.declared.token.LayoutMark.{LayoutMark}
use Rattle.cu_lex.specs.declared.token.ReservedOperator.TheVariants as reserved
use Rattle.cu_lex.specs.declared.token.Token.{Token}
use Rattle.cu_lex.specs.declared.token.TokenKind.{TokenKind}
use Rattle.cu_lex.specs.declared.token.TokenKind.TheVariants as token
use Rattle.cu_lex.specs.Reading.{is_written, lexeme_of, kind_of, position_of, HasKind, HasNatural, IsTokenOf}
use Rattle.cu_layout.specs.Blocks.{Marks, block, interleaving, last_of, layout_marks, with_marks}
use Rattle.cu_layout.specs.Forms.{form_of, sight_of, token_form, token_sight}
use Rattle.cu_layout.specs.Laws.{RestoresText, KeepsNames, KeepsNaturals, KeepsOwners, KeepsTokens, ReadsAlike, without_layout}
use Rattle.cu_layout.specs.Reading.{emitted_lexeme, emitted_token, token_view}
use Rattle.cu_names.specs.declared.names.NameId.{NameId}

-- tokens laid out are those of the text with some marks
laid-with : (whole : Bool) (text laid : List Token) → block token_view whole text ≡ Ok laid → (marks : Marks) × (laid ≡ with_marks emitted_token text marks)
laid-with whole text laid is = by (layout_marks whole (map token_sight text)) is
  where
    by : (found : Result Marks ℕ) → result_map_both (with_marks emitted_token text) (λ number. number) found ≡ Ok laid → (marks : Marks) × (laid ≡ with_marks emitted_token text marks)
    by (Ok marks) e = (marks, cc)
    by (Err number) e = let no : ⊥ = cc in absurd no

-- ---- the text is kept

without-emitted : (t : Option Token) (marks : List LayoutMark) → without_layout (map (emitted_token t) marks) ≡ []
without-emitted t [] = refl
without-emitted t (mark ∷ marks) = without-emitted t marks

without-token : (t : Token) (xs ys : List Token) → without_layout xs ≡ without_layout ys → without_layout (t ∷ xs) ≡ without_layout (t ∷ ys)
without-token t xs ys same = ap (λ more. if is_written t.kind then t ∷ more else more) same

without-interleaving : (text : List Token) (marks : List (List LayoutMark)) → without_layout (interleaving emitted_token text marks) ≡ without_layout text
without-interleaving [] marks = refl
without-interleaving (t ∷ more) [] = refl
without-interleaving (t ∷ more) (here ∷ marks) =
    filter-append (λ x. is_written x.kind) (map (emitted_token (Some t)) here) (t ∷ interleaving emitted_token more marks)
    ∙ ap (λ prefix. prefix ++ without_layout (t ∷ interleaving emitted_token more marks)) (without-emitted (Some t) here)
    ∙ without-token t (interleaving emitted_token more marks) more (without-interleaving more marks)

without-marks : (text : List Token) (marks : Marks) → without_layout (with_marks emitted_token text marks) ≡ without_layout text
without-marks text marks =
    filter-append (λ x. is_written x.kind) (interleaving emitted_token text marks.before) (map (emitted_token (last_of None text)) marks.after)
    ∙ (λ j. without-interleaving text marks.before j ++ without-emitted (last_of None text) marks.after j)
    ∙ append-nil (without_layout text)

pub tokens-kept : KeepsTokens
tokens-kept whole text laid is = let w = laid-with whole text laid is in ap without_layout w.1 ∙ without-marks text w.0

without-written : (text : List Token) → All (λ t. is_written t.kind ≡ true) text → without_layout text ≡ text
without-written [] all = refl
without-written (t ∷ more) all =
    ap (λ written. if written then t ∷ without_layout more else without_layout more) (all 0 t (omega arith))
    ∙ ap (λ ts. t ∷ ts) (without-written more (λ k d fits. all (suc k) d (omega arith)))

pub text-restored : RestoresText
text-restored whole text laid all is = tokens-kept whole text laid is ∙ without-written text all

-- ---- what holds of the tokens of the text, and of a mark at the place of each, is kept

kept-emitted : (P : Token → Type 0) (t : Option Token) (marks : List LayoutMark) → ((mark : LayoutMark) → P (emitted_token t mark)) → All P (map (emitted_token t) marks)
kept-emitted P t marks of_marks = All-map P (emitted_token t) marks (λ k d fits. of_marks (slice_index_or marks k d))

kept-token : (P : Token → Type 0) (t : Token) (more : List Token) → P t → All P more → All P (t ∷ more)
kept-token P t more here all = λ k d fits. at k d fits
  where
    at : (k : ℕ) (d : Token) → k < length (t ∷ more) → P (slice_index_or (t ∷ more) k d)
    at zero d fits = here
    at (suc k) d fits = all k d (omega arith)

kept-interleaving : (P : Token → Type 0) → ((t : Token) (mark : LayoutMark) → P t → P (emitted_token (Some t) mark)) → (text : List Token) (marks : List (List LayoutMark)) → All P text
    → All P (interleaving emitted_token text marks)
kept-interleaving P of_marks [] marks all = all
kept-interleaving P of_marks (t ∷ more) [] all = all
kept-interleaving P of_marks (t ∷ more) (here ∷ marks) all =
    let first : P t = all 0 t (omega arith) in
    All-append P (map (emitted_token (Some t)) here) (t ∷ interleaving emitted_token more marks) (kept-emitted P (Some t) here (λ mark. of_marks t mark first))
    (kept-token P t (interleaving emitted_token more marks) first (kept-interleaving P of_marks more marks (λ k d fits. all (suc k) d (omega arith))))

tokens-keep : (P : Token → Type 0) → ((t : Token) (mark : LayoutMark) → P t → P (emitted_token (Some t) mark)) → (whole : Bool) (text laid : List Token)
    → ((mark : LayoutMark) → P (emitted_token (last_of None text) mark)) → All P text → block token_view whole text ≡ Ok laid → All P laid
tokens-keep P of_marks whole text laid at_end all is =
    let w = laid-with whole text laid is in
    let kept = All-append P (interleaving emitted_token text w.0.before) (map (emitted_token (last_of None text)) w.0.after) (kept-interleaving P of_marks text w.0.before all) (kept-emitted P (last_of None text) w.0.after at_end) in
    subst (All P) (sym w.1) kept

pub names-kept : KeepsNames
names-kept names whole text laid all is = tokens-keep (λ t. HasKind names t.kind) (λ t mark here. tt) whole text laid (λ mark. tt) all is

pub naturals-kept : KeepsNaturals
naturals-kept whole text laid all is = tokens-keep (λ t. HasNatural t.kind) (λ t mark here. tt) whole text laid (λ mark. tt) all is

mark-of : (owner : NameId) (names : List (List ℕ)) (t : Token) (mark : LayoutMark) → IsTokenOf owner names t → IsTokenOf owner names (emitted_token (Some t) mark)
mark-of owner names t mark here = record { owned = here.owned; known = tt; natural = tt }

-- the last token is one of the text
last-of : (owner : NameId) (names : List (List ℕ)) (t : Token) (more : List Token) → IsTokenOf owner names t → All (IsTokenOf owner names) more
    → (mark : LayoutMark) → IsTokenOf owner names (emitted_token (last_of (Some t) more) mark)
last-of owner names t [] here all mark = mark-of owner names t mark here
last-of owner names t (next ∷ more) here all mark = last-of owner names next more (all 0 next (omega arith)) (λ k d fits. all (suc k) d (omega arith)) mark

-- where the text has a token
pub owners-kept : (owner : NameId) (names : List (List ℕ)) (whole : Bool) (text laid : List Token) → ¬ (text ≡ []) → All (IsTokenOf owner names) text → block token_view whole text ≡ Ok laid → All (IsTokenOf owner names) laid
owners-kept owner names whole [] laid some all is = absurd (some refl)
owners-kept owner names whole (t ∷ more) laid some all is =
    let at_end = last-of owner names t more (all 0 t (omega arith)) (λ k d fits. all (suc k) d (omega arith)) in
    tokens-keep (IsTokenOf owner names) (mark-of owner names) whole (t ∷ more) laid at_end all is

pub owners-are : KeepsOwners
owners-are owner names whole [] laid all is some = absurd (some (tokens-kept whole [] laid is))
owners-are owner names whole (t ∷ more) laid all is some = owners-kept owner names whole (t ∷ more) laid (λ e. let no : ⊥ = cc in no) all is

-- ---- layout sees of a token what it sees of its reading

form-alike : (names : List (List ℕ)) (kind : TokenKind) → form_of (kind_of names kind) ≡ token_form kind
form-alike names (token.VarId name) = refl
form-alike names (token.ConId name) = refl
form-alike names (token.VarOp name) = refl
form-alike names (token.ConOp name) = refl
form-alike names (token.Keyword word) = refl
form-alike names (token.Reserved reserved.Backslash) = refl
form-alike names (token.Reserved _) = refl
form-alike names (token.Mark mark) = refl
form-alike names (token.Int n) = refl
form-alike names (token.Char code) = refl
form-alike names (token.String codes) = refl
form-alike names (token.Layout mark) = refl

sights-alike : (names : List (List ℕ)) (text : List Token) → map sight_of (map (lexeme_of names) text) ≡ map token_sight text
sights-alike names [] = refl
sights-alike names (t ∷ more) = λ j. record { what = form-alike names t.kind j; at = position_of t.place } ∷ sights-alike names more j

emitted-alike : (names : List (List ℕ)) (t : Option Token) (marks : List LayoutMark) → map (emitted_lexeme (option_map (lexeme_of names) t)) marks ≡ map (lexeme_of names) (map (emitted_token t) marks)
emitted-alike names t [] = refl
emitted-alike names None (mark ∷ marks) = ap (λ ls. lexeme_of names (emitted_token None mark) ∷ ls) (emitted-alike names None marks)
emitted-alike names (Some t) (mark ∷ marks) = ap (λ ls. lexeme_of names (emitted_token (Some t) mark) ∷ ls) (emitted-alike names (Some t) marks)

last-alike : (names : List (List ℕ)) (before : Option Token) (text : List Token) → last_of (option_map (lexeme_of names) before) (map (lexeme_of names) text) ≡ option_map (lexeme_of names) (last_of before text)
last-alike names before [] = refl
last-alike names before (t ∷ more) = last-alike names (Some t) more

interleaving-alike : (names : List (List ℕ)) (text : List Token) (marks : List (List LayoutMark))
    → interleaving emitted_lexeme (map (lexeme_of names) text) marks ≡ map (lexeme_of names) (interleaving emitted_token text marks)
interleaving-alike names [] marks = refl
interleaving-alike names (t ∷ more) [] = refl
interleaving-alike names (t ∷ more) (here ∷ marks) =
    (λ j. emitted-alike names (Some t) here j ++ lexeme_of names t ∷ interleaving-alike names more marks j)
    ∙ sym (map-append (lexeme_of names) (map (emitted_token (Some t)) here) (t ∷ interleaving emitted_token more marks))

marks-alike : (names : List (List ℕ)) (text : List Token) (marks : Marks) → with_marks emitted_lexeme (map (lexeme_of names) text) marks ≡ map (lexeme_of names) (with_marks emitted_token text marks)
marks-alike names text marks =
    (λ j. interleaving-alike names text marks.before j ++ (ap (λ t. map (emitted_lexeme t) marks.after) (last-alike names None text) ∙ emitted-alike names (last_of None text) marks.after) j)
    ∙ sym (map-append (lexeme_of names) (interleaving emitted_token text marks.before) (map (emitted_token (last_of None text)) marks.after))

pub reads-alike : ReadsAlike
reads-alike names whole text =
    ap (λ sights. result_map_both (with_marks emitted_lexeme (map (lexeme_of names) text)) (λ number. number) (layout_marks whole sights)) (sights-alike names text)
    ∙ by (layout_marks whole (map token_sight text))
  where
    by : (found : Result Marks ℕ) → result_map_both (with_marks emitted_lexeme (map (lexeme_of names) text)) (λ number. number) found
        ≡ result_map_both (map (lexeme_of names)) (λ number. number) (result_map_both (with_marks emitted_token text) (λ number. number) found)
    by (Ok marks) = ap Ok (marks-alike names text marks)
    by (Err number) = refl
