-- Where a part of a block ends decides what is left of the block, and the first brace decides what
-- stands before the block of a module.
use Rattle.std.specs.Prelude.{◌≡◌, ℕ, suc, ◌+◌, Bool, true, false, ◌&&◌, List, [], ◌∷◌, Option, None, Some, drop, if◌then◌else◌, map, nat_eq, refl, take}
use Rattle.std.specs.List.{drop-map, take-map}
use Rattle.std.specs.Option.{option_map}
use Rattle.std.proofs.Common.{ap, ap₂, arith, ◌∙◌}
use Rattle.cu_lex.specs.declared.token.Token.{Token}
use Rattle.cu_lex.specs.Reading.{lexeme_of}
use Rattle.cu_lex.specs.Tokens.{Lexeme}
use Rattle.cu_syntax.specs.declared.scanning.PartEnd.{PartEnd}
use Rattle.cu_syntax.specs.declared.scanning.PartEnd.TheVariants as end
use Rattle.cu_syntax.specs.Answer.{part_with}
use Rattle.cu_syntax.specs.Parsing.{HeaderAndBlock, Split, after, part_after_block, closes, depth_after, header_and_block, opens, part_of, parts, separates, split, with_header, with_token}
use Rattle.cu_syntax.specs.Inside.Scanning.{first_open, header_and_block_to, last_line, later, part_end, split_to}

later_split : (last : ℕ) (token : Lexeme) (tokens : List Lexeme) (e : PartEnd)
    → with_token token (split_to (after last token) tokens e) ≡ split_to last (token ∷ tokens) (later 1 e)
later_split last token tokens (end.Separator n) =
    let one : 1 + n ≡ suc n = omega arith in
    let next : n + 1 ≡ suc n = omega arith in
    let after_next : suc n + 1 ≡ suc (suc n) = omega arith in
    rw (one, next, after_next) refl
later_split last token tokens (end.Close n) =
    let one : 1 + n ≡ suc n = omega arith in
    let next : n + 1 ≡ suc n = omega arith in
    let after_next : suc n + 1 ≡ suc (suc n) = omega arith in
    rw (one, next, after_next) refl
later_split last token tokens end.Missing = refl

split_step : (depth last : ℕ) (token : Lexeme) (tokens : List Lexeme) (c s : Bool) (more : Split)
    → more ≡ split_to (after last token) tokens (part_end (depth_after depth token.what) tokens)
    → (if c then (record { first = []; whole = true; others = part_after_block (after last token) tokens })
    else if s then (let next = split 0 (after last token) tokens in record { first = []; whole = true; others = part_of (after last token) next ∷ next.others })
    else with_token token more)
    ≡ split_to last (token ∷ tokens) (if c then end.Close 0 else if s then end.Separator 0 else later 1 (part_end (depth_after depth token.what) tokens))
split_step depth last token tokens true s more e = refl
split_step depth last token tokens false true more e = refl
split_step depth last token tokens false false more e = ap (with_token token) e ∙ later_split last token tokens (part_end (depth_after depth token.what) tokens)

pub split_at : (depth last : ℕ) (tokens : List Lexeme) → split depth last tokens ≡ split_to last tokens (part_end depth tokens)
unfolding split
split_at depth last [] = refl
split_at depth last (token ∷ tokens) =
    split_step depth last token tokens (nat_eq depth 0 && closes token.what) (nat_eq depth 0 && separates token.what)
    (split (depth_after depth token.what) (after last token) tokens) (split_at (depth_after depth token.what) (after last token) tokens)

-- the parts of tokens with their names as texts

abbrev pub lexemes : List (List ℕ) → List Token → List Lexeme
lexemes names tokens = map (lexeme_of names) tokens

abbrev pub after_part : List (List ℕ) → ℕ → ℕ → List Token → ℕ
after_part names last n tokens = last_line last (lexemes names (take (n + 1) tokens))

pub parts_separator : (names : List (List ℕ)) (last n : ℕ) (tokens : List Token) → part_end 0 (lexemes names tokens) ≡ end.Separator n
    → parts last (lexemes names tokens)
    ≡ part_with true last (lexemes names (take n tokens)) ∷ parts (after_part names last n tokens) (lexemes names (drop (n + 1) tokens))
parts_separator names last n tokens e =
    ap (λ s. part_of last s ∷ s.others) (split_at 0 last (lexemes names tokens) ∙ ap (split_to last (lexemes names tokens)) e)
    ∙ ap₂ (λ xs ys. part_with true last xs ∷ parts (last_line last ys) (drop (n + 1) (lexemes names tokens))) (take-map (lexeme_of names) n tokens) (take-map (lexeme_of names) (n + 1) tokens)
    ∙ ap (λ xs. part_with true last (lexemes names (take n tokens)) ∷ parts (after_part names last n tokens) xs) (drop-map (lexeme_of names) (n + 1) tokens)

pub parts_close : (names : List (List ℕ)) (last n : ℕ) (tokens : List Token) → part_end 0 (lexemes names tokens) ≡ end.Close n
    → parts last (lexemes names tokens)
    ≡ part_with true last (lexemes names (take n tokens)) ∷ part_after_block (after_part names last n tokens) (lexemes names (drop (n + 1) tokens))
parts_close names last n tokens e =
    ap (λ s. part_of last s ∷ s.others) (split_at 0 last (lexemes names tokens) ∙ ap (split_to last (lexemes names tokens)) e)
    ∙ ap₂ (λ xs ys. part_with true last xs ∷ part_after_block (last_line last ys) (drop (n + 1) (lexemes names tokens))) (take-map (lexeme_of names) n tokens) (take-map (lexeme_of names) (n + 1) tokens)
    ∙ ap (λ xs. part_with true last (lexemes names (take n tokens)) ∷ part_after_block (after_part names last n tokens) xs) (drop-map (lexeme_of names) (n + 1) tokens)

pub parts_missing : (names : List (List ℕ)) (last : ℕ) (tokens : List Token) → part_end 0 (lexemes names tokens) ≡ end.Missing
    → parts last (lexemes names tokens) ≡ part_with false last (lexemes names tokens) ∷ []
parts_missing names last tokens e = ap (λ s. part_of last s ∷ s.others) (split_at 0 last (lexemes names tokens) ∙ ap (split_to last (lexemes names tokens)) e)

-- the header of a module and its block

one_later : (last : ℕ) (token : Lexeme) (tokens : List Lexeme) (n : ℕ)
    → with_header token (header_and_block_to (after last token) tokens (Some n)) ≡ header_and_block_to last (token ∷ tokens) (Some (suc n))
one_later last token tokens n =
    let next : n + 1 ≡ suc n = omega arith in
    let after_next : suc n + 1 ≡ suc (suc n) = omega arith in
    rw (next, after_next) refl

later_prefix : (last : ℕ) (token : Lexeme) (tokens : List Lexeme) (o : Option ℕ)
    → with_header token (header_and_block_to (after last token) tokens o) ≡ header_and_block_to last (token ∷ tokens) (option_map suc o)
later_prefix last token tokens None = refl
later_prefix last token tokens (Some n) = one_later last token tokens n

header_and_block_step : (last : ℕ) (token : Lexeme) (tokens : List Lexeme) (b : Bool) (more : HeaderAndBlock) → more ≡ header_and_block_to (after last token) tokens (first_open tokens)
    → (if b then (record { header = []; last = after last token; block = Some tokens }) else with_header token more)
    ≡ header_and_block_to last (token ∷ tokens) (if b then Some 0 else option_map suc (first_open tokens))
header_and_block_step last token tokens true more e = refl
header_and_block_step last token tokens false more e = ap (with_header token) e ∙ later_prefix last token tokens (first_open tokens)

header_and_block_at : (last : ℕ) (tokens : List Lexeme) → header_and_block last tokens ≡ header_and_block_to last tokens (first_open tokens)
header_and_block_at last [] = refl
header_and_block_at last (token ∷ tokens) = header_and_block_step last token tokens (opens token.what) (header_and_block (after last token) tokens) (header_and_block_at (after last token) tokens)

-- the prefix of tokens whose first brace has this number
abbrev pub header_and_block_with : List (List ℕ) → ℕ → ℕ → List Token → HeaderAndBlock
header_and_block_with names last n tokens = record {
  header = lexemes names (take n tokens);
  last = last_line last (lexemes names (take (n + 1) tokens));
  block = Some (lexemes names (drop (n + 1) tokens));
}

pub header_and_block_open : (names : List (List ℕ)) (last n : ℕ) (tokens : List Token) → first_open (lexemes names tokens) ≡ Some n
    → header_and_block last (lexemes names tokens) ≡ header_and_block_with names last n tokens
header_and_block_open names last n tokens e =
    header_and_block_at last (lexemes names tokens) ∙ ap (header_and_block_to last (lexemes names tokens)) e
    ∙ ap₂ (λ xs ys. prefix_of xs (last_line last ys) (Some (drop (n + 1) (lexemes names tokens)))) (take-map (lexeme_of names) n tokens) (take-map (lexeme_of names) (n + 1) tokens)
    ∙ ap (λ xs. prefix_of (lexemes names (take n tokens)) (last_line last (lexemes names (take (n + 1) tokens))) (Some xs)) (drop-map (lexeme_of names) (n + 1) tokens)
  where
    prefix_of : List Lexeme → ℕ → Option (List Lexeme) → HeaderAndBlock
    prefix_of header last block = record { header = header; last = last; block = block }

pub without_block : (names : List (List ℕ)) (last : ℕ) (tokens : List Token) → first_open (lexemes names tokens) ≡ None → (header_and_block last (lexemes names tokens)).block ≡ None
without_block names last tokens e = ap (λ f. f.block) (header_and_block_at last (lexemes names tokens) ∙ ap (header_and_block_to last (lexemes names tokens)) e)
