-- Where the parts of a module end, by numbers of tokens.
use Rattle.std.specs.Prelude.{ℕ, suc, ◌+◌, ◌-◌, ◌<◌, true, false, ◌&&◌, List, [], ◌∷◌, Option, None, Some, if◌then◌else◌, drop, nat_eq, nat_lt, take}
use Rattle.std.specs.Option.{option_map}
use Rattle.cu_lex.specs.Tokens.{Lexeme}
use Rattle.cu_syntax.specs.declared.scanning.PartEnd.{PartEnd}
use Rattle.cu_syntax.specs.declared.scanning.PartEnd.TheVariants as end
use Rattle.cu_syntax.specs.Parsing.{HeaderAndBlock, Split, after, part_after_block, closes, depth_after, opens, parts, separates}

-- the line of the last token of the text among these, or the line before where there is none
abbrev pub last_line : ℕ → List Lexeme → ℕ
last_line before [] = before
last_line before (token ∷ tokens) = last_line (after before token) tokens

-- the number of the first brace that opens, if there is one
abbrev pub first_open : List Lexeme → Option ℕ
first_open [] = None
first_open (token ∷ tokens) = if opens token.what then Some 0
    else option_map suc (first_open tokens)

-- what stands before a module's block and the block's tokens, where the first brace has this number
abbrev pub header_and_block_to : ℕ → List Lexeme → Option ℕ → HeaderAndBlock
header_and_block_to last tokens (Some n) =
    record {
      header = take n tokens;
      last = last_line last (take (n + 1) tokens);
      block = Some (drop (n + 1) tokens);
    }
header_and_block_to last tokens None =
    record { header = tokens; last = last_line last tokens; block = None }

-- the end of a part with so many tokens before it
abbrev pub later : ℕ → PartEnd → PartEnd
later n (end.Separator length) = end.Separator (n + length)
later n (end.Close length) = end.Close (n + length)
later n end.Missing = end.Missing

-- where a part ends, looked for inside so many braces of it
abbrev pub part_end : ℕ → List Lexeme → PartEnd
part_end depth [] = end.Missing
part_end depth (token ∷ tokens) =
    if nat_eq depth 0 && closes token.what then end.Close 0
    else if nat_eq depth 0 && separates token.what then end.Separator 0
    else later 1 (part_end (depth_after depth token.what) tokens)

-- what is left of a block whose first part has this end
abbrev pub split_to : ℕ → List Lexeme → PartEnd → Split
split_to last tokens (end.Separator n) =
    record {
      first = take n tokens;
      whole = true;
      others = parts (last_line last (take (n + 1) tokens)) (drop (n + 1) tokens);
    }
split_to last tokens (end.Close n) =
    record {
      first = take n tokens;
      whole = true;
      others = part_after_block (last_line last (take (n + 1) tokens)) (drop (n + 1) tokens);
    }
split_to last tokens end.Missing = record { first = tokens; whole = false; others = [] }

-- an end of a part lies within so many tokens
abbrev pub is_within : PartEnd → ℕ → Type 0
is_within (end.Separator n) count = n < count
is_within (end.Close n) count = n < count
is_within end.Missing count = Unit {0}

-- the room that is left after something of a length, if there is room for it
abbrev pub room_after : ℕ → ℕ → Option ℕ
room_after room length = if nat_lt room length then None else Some (room - length)
