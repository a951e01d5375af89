-- Modules: what stands before the block, and then the parts of the block.
use Rattle.std.specs.Prelude.{◌≡◌, ℕ, ◌+◌, true, List, [], Option, None, Some, Result, Ok, Err, drop, refl, take}
use Rattle.std.specs.Option.{option_map}
use Rattle.std.proofs.Common.{ap, subst, sym, ◌∙◌}
use Rattle.cu_lex.specs.declared.token.Token.{Token}
use Rattle.cu_lex.specs.Tokens.{Lexeme}
use Rattle.cu_syntax.specs.declared.fault.ParseFault.{ParseFault}
use Rattle.cu_syntax.specs.declared.symbol.Symbol.TheVariants as symbol
use Rattle.cu_syntax.specs.declared.text.Header as text
use Rattle.cu_syntax.specs.Answer.{FoundHeader, NoHeader, Tells, header_meaning}
use Rattle.cu_syntax.specs.Parsing.{Fault, HeaderAndBlock, HasNone, HeaderRead, ModuleRead, PartsRead, Syntax, header_and_block, parts}
use Rattle.cu_syntax.specs.Inside.Scanning.{first_open}
use Rattle.cu_syntax.specs.Syntax.{Header, Item}
use Rattle.cu_syntax.proofs.PartLemmas.{tells_more}
use Rattle.cu_syntax.proofs.SplitLemmas.{after_part, header_and_block_open, header_and_block_with, lexemes, without_block}

pub no_block : (names : List (List ℕ)) (tokens : List Token) → first_open (lexemes names tokens) ≡ None → ModuleRead (lexemes names tokens) (Err (Syntax 1))
no_block names tokens e = ModuleRead.no_block (without_block names 1 tokens e)

-- over any prefix

header_fault : (tokens : List Lexeme) (f : HeaderAndBlock) (fault : Fault) → header_and_block 1 tokens ≡ f → NoHeader f.header fault → ModuleRead tokens (Err fault)
header_fault tokens f fault e h =
    subst (λ (found : Fault). ModuleRead tokens (Err found)) (sym h.0)
    (ModuleRead.wrong_header (subst (λ (g : HeaderAndBlock). ¬ (g.header ≡ [])) (sym e) h.1) (subst (λ (g : HeaderAndBlock). HasNone symbol.Header g.header) (sym e) h.2))

item_fault : (tokens : List Lexeme) (f : HeaderAndBlock) (block : List Lexeme) (found : Option Header) (fault : Fault) → header_and_block 1 tokens ≡ f → f.block ≡ Some block
    → HeaderRead f.header found → PartsRead true (parts f.last block) (Err fault) → ModuleRead tokens (Err fault)
item_fault tokens f block found fault e b h r =
    ModuleRead.wrong_item block found fault (ap (λ (g : HeaderAndBlock). g.block) e ∙ b) (subst (λ (g : HeaderAndBlock). HeaderRead g.header found) (sym e) h)
    (subst (λ (g : HeaderAndBlock). PartsRead true (parts g.last block) (Err fault)) (sym e) r)

whole : (tokens : List Lexeme) (f : HeaderAndBlock) (block : List Lexeme) (found : Option Header) (items : List Item) → header_and_block 1 tokens ≡ f → f.block ≡ Some block
    → HeaderRead f.header found → PartsRead true (parts f.last block) (Ok items) → ModuleRead tokens (Ok (record { header = found; items = items }))
whole tokens f block found items e b h r =
    ModuleRead.right block found items (ap (λ (g : HeaderAndBlock). g.block) e ∙ b) (subst (λ (g : HeaderAndBlock). HeaderRead g.header found) (sym e) h)
    (subst (λ (g : HeaderAndBlock). PartsRead true (parts g.last block) (Ok items)) (sym e) r)

-- over the prefix up to the first brace

abbrev header_found : List (List ℕ) → Option text.Header → Option Header
header_found names found = option_map (header_meaning names) found

pub wrong_header : (names : List (List ℕ)) (n : ℕ) (tokens : List Token) (answered : ParseFault) → first_open (lexemes names tokens) ≡ Some n
    → Tells (NoHeader (lexemes names (take n tokens))) answered → Tells (λ fault. ModuleRead (lexemes names tokens) (Err fault)) answered
wrong_header names n tokens answered e h =
    tells_more (NoHeader (lexemes names (take n tokens))) (λ fault. ModuleRead (lexemes names tokens) (Err fault)) answered
    (λ fault r. header_fault (lexemes names tokens) (header_and_block_with names 1 n tokens) fault (header_and_block_open names 1 n tokens e) r) h

-- what the block's parts are read as, at other names of the line and the tokens
block_at : (names : List (List ℕ)) (n line : ℕ) (tokens block : List Token) (outcome : Result (List Item) Fault) → line ≡ after_part names 1 n tokens → block ≡ drop (n + 1) tokens
    → PartsRead true (parts line (lexemes names block)) outcome → PartsRead true (parts (after_part names 1 n tokens) (lexemes names (drop (n + 1) tokens))) outcome
block_at names n line tokens block outcome l b r =
    subst (λ (ts : List Token). PartsRead true (parts (after_part names 1 n tokens) (lexemes names ts)) outcome) b
    (subst (λ (m : ℕ). PartsRead true (parts m (lexemes names block)) outcome) l r)

pub wrong_item : (names : List (List ℕ)) (n line : ℕ) (tokens block : List Token) (found : Option text.Header) (answered : ParseFault) → first_open (lexemes names tokens) ≡ Some n
    → line ≡ after_part names 1 n tokens → block ≡ drop (n + 1) tokens → FoundHeader names (lexemes names (take n tokens)) found
    → Tells (λ fault. PartsRead true (parts line (lexemes names block)) (Err fault)) answered → Tells (λ fault. ModuleRead (lexemes names tokens) (Err fault)) answered
wrong_item names n line tokens block found answered e l b h r =
    tells_more (λ fault. PartsRead true (parts line (lexemes names block)) (Err fault)) (λ fault. ModuleRead (lexemes names tokens) (Err fault)) answered
    (λ fault k. item_fault (lexemes names tokens) (header_and_block_with names 1 n tokens) (lexemes names (drop (n + 1) tokens)) (header_found names found) fault (header_and_block_open names 1 n tokens e) refl h
    (block_at names n line tokens block (Err fault) l b k)) r

pub right_module : (names : List (List ℕ)) (n line : ℕ) (tokens block : List Token) (found : Option text.Header) (items : List Item) → first_open (lexemes names tokens) ≡ Some n
    → line ≡ after_part names 1 n tokens → block ≡ drop (n + 1) tokens → FoundHeader names (lexemes names (take n tokens)) found
    → PartsRead true (parts line (lexemes names block)) (Ok items) → ModuleRead (lexemes names tokens) (Ok (record { header = header_found names found; items = items }))
right_module names n line tokens block found items e l b h r =
    whole (lexemes names tokens) (header_and_block_with names 1 n tokens) (lexemes names (drop (n + 1) tokens)) (header_found names found) items (header_and_block_open names 1 n tokens e) refl h
    (block_at names n line tokens block (Ok items) l b r)
