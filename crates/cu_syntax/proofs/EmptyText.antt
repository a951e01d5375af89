-- A module all of whose tokens layout put in has no header and no items.
use Rattle.std.specs.Prelude.{◌≡◌, ℕ, Bool, true, false, ◌&&◌, List, [], ◌∷◌, None, Ok, Option, Result, Some, IfSome, if◌then◌else◌, map, nat_eq, refl}
use Rattle.std.specs.List.{All}
use Rattle.std.specs.Option.{option_map}
use Rattle.std.proofs.Common.{ap, subst, sym, true≢false, ◌∙◌}
use Rattle.std.proofs.lemmas.List.Elements.{All-nil}
use Rattle.cu_names.specs.declared.names.NameId.{NameId}
use Rattle.cu_lex.specs.declared.token.LayoutMark.{LayoutMark}
use Rattle.cu_lex.specs.declared.token.LayoutMark.TheVariants as layout
use Rattle.cu_lex.specs.declared.token.Token.{Token}
use Rattle.cu_lex.specs.declared.token.TokenKind.{TokenKind}
use Rattle.cu_lex.specs.declared.token.TokenKind.TheVariants as token
use Rattle.cu_lex.specs.Kind as kind
use Rattle.cu_lex.specs.Kind.{Kind}
use Rattle.cu_lex.specs.Reading as lexer
use Rattle.cu_lex.specs.Reading.{IsTokenOf, kind_of, lexeme_of}
use Rattle.cu_lex.specs.Tokens.{Lexeme}
use Rattle.cu_layout.specs.Laws.{AreOf, without_layout}
use Rattle.cu_peg.specs.Classes.{has, has_kind}
use Rattle.cu_peg.specs.Matches.{RowFails}
use Rattle.cu_peg.proofs.OneTree.{refutes}
use Rattle.cu_syntax.specs.declared.symbol.Symbol.{Symbol}
use Rattle.cu_syntax.specs.declared.symbol.Symbol.TheVariants as symbol
use Rattle.cu_syntax.specs.declared.text.Header as headers
use Rattle.cu_syntax.specs.declared.text.Item as texts
use Rattle.cu_syntax.specs.Answer.{header_meaning, item_meaning, items_meaning}
use Rattle.cu_syntax.specs.Owners.{HeaderIsOf, ItemIsOf}
use Rattle.cu_syntax.specs.Parsing.{Fault, HeaderAndBlock, HasNone, HeaderRead, ItemRead, ModuleRead, Part, PartRead, PartsRead, Split, after, part_after_block, closes, depth_after, header_and_block, is_written, opens, part_of, parts, separates, split, with_header, with_token}
use Rattle.cu_syntax.specs.Syntax.{Header, Item, Module}
use Rattle.cu_syntax.specs.Table.{number, rows}
use Rattle.cu_syntax.proofs.Beginnings.{fails_at, fails_sound, no_empty_import, no_empty_item}

-- tokens that layout put in

abbrev AllLayout : List Lexeme → Type 0
AllLayout [] = Unit {0}
AllLayout (x ∷ text) = (is_written x.what ≡ false) × AllLayout text

layout_kind : (k : Kind) → is_written k ≡ false → (m : LayoutMark) × (k ≡ kind.Layout m)
layout_kind (kind.Layout m) e = (m, refl)
layout_kind k e = absurd (true≢false e)

-- A symbol has no tree that begins with such a token.
abbrev FailsAtLayout : Symbol → Type 0
FailsAtLayout s = (m : LayoutMark) → fails_at 20 (λ c. has_kind c (kind.Layout m)) (number s) ≡ true

import_fails : FailsAtLayout symbol.ImportDecl
import_fails layout.Open = refl
import_fails layout.Close = refl
import_fails layout.Separator = refl

item_fails : FailsAtLayout symbol.Item
item_fails layout.Open = refl
item_fails layout.Close = refl
item_fails layout.Separator = refl

header_fails : FailsAtLayout symbol.Header
header_fails layout.Open = refl
header_fails layout.Close = refl
header_fails layout.Separator = refl

none_begins : (s : Symbol) (k : Kind) (x : Lexeme) (rest : List Lexeme) → fails_at 20 (λ c. has_kind c k) (number s) ≡ true → x.what ≡ k → HasNone s (x ∷ rest)
none_begins s k x rest f w = λ tree m.
    refutes rows has m (fails_sound 20 (x ∷ rest) (λ c. has_kind c k) (λ c e. RowFails.other_token c x rest (ap (has_kind c) w ∙ e)) (number s) f)

none_of : (s : Symbol) (text : List Lexeme) → FailsAtLayout s → HasNone s [] → AllLayout text → HasNone s text
none_of s [] f e h = e
none_of s (x ∷ text) f e h = let k = layout_kind x.what h.0 in none_begins s (kind.Layout k.0) x text (f k.0) k.1

-- headers

abbrev IsLaidOut : HeaderAndBlock → Type 0
IsLaidOut f = AllLayout f.header × ((block : List Lexeme) → f.block ≡ Some block → AllLayout block)

header_and_block_step : (b : Bool) (last : ℕ) (x : Lexeme) (text : List Lexeme) (more : HeaderAndBlock) → is_written x.what ≡ false → AllLayout text → IsLaidOut more
    → IsLaidOut (if b then (record { header = []; last = last; block = Some text }) else with_header x more)
header_and_block_step true last x text more w h m = (tt, λ block e. let same : text ≡ block = cc in subst AllLayout same h)
header_and_block_step false last x text more w h m = ((w, m.0), m.1)

header_and_block_layout : (last : ℕ) (text : List Lexeme) → AllLayout text → IsLaidOut (header_and_block last text)
header_and_block_layout last [] h = (tt, λ block e. let no : ⊥ = cc in absurd no)
header_and_block_layout last (x ∷ text) h = header_and_block_step (opens x.what) (after last x) x text (header_and_block (after last x) text) h.0 h.1 (header_and_block_layout (after last x) text h.1)

no_header : (text : List Lexeme) (found : Option Header) → AllLayout text → HeaderRead text found → found ≡ None
no_header text found h HeaderRead.no_header = refl
no_header [] found h (HeaderRead.header _ tree some has) = absurd (some refl)
no_header (x ∷ text) found h (HeaderRead.header _ tree some has) =
    let k = layout_kind x.what h.0 in
    absurd (none_begins symbol.Header (kind.Layout k.0) x text (header_fails k.0) k.1 tree has)

-- items

abbrev PartsLayout : List Part → Type 0
PartsLayout [] = Unit {0}
PartsLayout (p ∷ parts) = AllLayout p.tokens × PartsLayout parts

abbrev SplitLayout : Split → Type 0
SplitLayout s = AllLayout s.first × PartsLayout s.others

after_layout : (last : ℕ) (text : List Lexeme) → AllLayout text → PartsLayout (part_after_block last text)
after_layout last [] h = tt
after_layout last (x ∷ text) h = (h, tt)

split_step : (a b : Bool) (x : Lexeme) (text : List Lexeme) (last : ℕ) (next more : Split) → is_written x.what ≡ false → AllLayout text → SplitLayout next → SplitLayout more
    → SplitLayout (if a then (record { first = []; whole = true; others = part_after_block last text }) else if b then (record { first = []; whole = true; others = part_of last next ∷ next.others }) else with_token x more)
split_step true b x text last next more w h n m = (tt, after_layout last text h)
split_step false true x text last next more w h n m = (tt, n)
split_step false false x text last next more w h n m = ((w, m.0), m.1)

split_layout : (depth last : ℕ) (text : List Lexeme) → AllLayout text → SplitLayout (split depth last text)
unfolding split
split_layout depth last [] h = (tt, tt)
split_layout depth last (x ∷ text) h =
    split_step (nat_eq depth 0 && closes x.what) (nat_eq depth 0 && separates x.what) x text (after last x) (split 0 (after last x) text)
    (split (depth_after depth x.what) (after last x) text) h.0 h.1 (split_layout 0 (after last x) text h.1) (split_layout (depth_after depth x.what) (after last x) text h.1)

no_item : (imports : Bool) (text : List Lexeme) (found : Item) → AllLayout text → ItemRead imports text found → ⊥
no_item imports text found h (ItemRead.import tree i has) = none_of symbol.ImportDecl text import_fails no_empty_import h tree has
no_item imports text found h (ItemRead.declaration tree has) = none_of symbol.Item text item_fails no_empty_item h tree has

no_part : (imports : Bool) (part : Part) (outcome : Result Item Fault) (found : Item) → AllLayout part.tokens → PartRead imports part outcome → outcome ≡ Ok found → ⊥
no_part imports part outcome found h (PartRead.too_long long) e = cc
no_part imports part outcome found h (PartRead.not_whole long whole) e = cc
no_part imports part outcome found h (PartRead.no_item long whole some none) e = cc
no_part imports part outcome found h (PartRead.item other long whole has) e = no_item imports part.tokens other h has

no_items : (imports : Bool) (parts : List Part) (outcome : Result (List Item) Fault) (items : List Item) → PartsLayout parts → PartsRead imports parts outcome → outcome ≡ Ok items → items ≡ []
no_items imports parts outcome items h (PartsRead.no_part _) e = cc
no_items imports parts outcome items h (PartsRead.empty _ part others _ w t more) e = no_items imports others outcome items h.1 more e
no_items imports parts outcome items h (PartsRead.fault _ part others fault one) e = let no : ⊥ = cc in absurd no
no_items imports parts outcome items h (PartsRead.item _ part others item later one more) e = absurd (no_part imports part (Ok item) item h.0 one refl)
no_items imports parts outcome items h (PartsRead.later_fault _ part others item fault one more) e = let no : ⊥ = cc in absurd no

-- modules

record IsEmpty (m : Module) : Type 0 where
  header : m.header ≡ None
  items : m.items ≡ []

is_empty : (header : Option Header) (items : List Item) → header ≡ None → items ≡ [] → IsEmpty (record { header = header; items = items })
is_empty header items h i = record { header = h; items = i }

same_value : {X E : Type 0} {x y : X} (r : Result X E) → r ≡ Ok x → r ≡ Ok y → x ≡ y
same_value r e f = cc

empty_module : (text : List Lexeme) (outcome : Result Module Fault) (m : Module) → AllLayout text → ModuleRead text outcome → outcome ≡ Ok m → IsEmpty m
empty_module text outcome m h (ModuleRead.no_block b) e = let no : ⊥ = cc in absurd no
empty_module text outcome m h (ModuleRead.wrong_header some none) e = let no : ⊥ = cc in absurd no
empty_module text outcome m h (ModuleRead.wrong_item block found fault b header items) e = let no : ⊥ = cc in absurd no
empty_module text outcome m h (ModuleRead.right block found items b header read) e =
    let f = header_and_block_layout 1 text h in
    let inside : AllLayout block = f.1 block b in
    subst IsEmpty (same_value outcome refl e) (is_empty found items (no_header (header_and_block 1 text).header found f.0 header)
    (no_items true (parts (header_and_block 1 text).last block) (Ok items) items (split_layout 0 (header_and_block 1 text).last block inside) read refl))

-- tokens of the lexer's

written_as : (names : List (List ℕ)) (k : TokenKind) → is_written (kind_of names k) ≡ lexer.is_written k
written_as names (token.VarId name) = refl
written_as names (token.ConId name) = refl
written_as names (token.VarOp name) = refl
written_as names (token.ConOp name) = refl
written_as names (token.Keyword word) = refl
written_as names (token.Reserved word) = refl
written_as names (token.Mark mark) = refl
written_as names (token.Int n) = refl
written_as names (token.Char code) = refl
written_as names (token.String codes) = refl
written_as names (token.Layout mark) = refl

left_out : (b : Bool) (t : Token) (more : List Token) → (if b then t ∷ more else more) ≡ [] → (b ≡ false) × (more ≡ [])
left_out true t more e = let no : ⊥ = cc in absurd no
left_out false t more e = (refl, e)

all_layout : (names : List (List ℕ)) (tokens : List Token) → without_layout tokens ≡ [] → AllLayout (map (lexeme_of names) tokens)
all_layout names [] e = tt
all_layout names (t ∷ tokens) e =
    let out = left_out (lexer.is_written t.kind) t (without_layout tokens) e in
    (written_as names t.kind ∙ out.0, all_layout names tokens out.1)

none_of_map : {X Y : Type 0} (f : X → Y) (o : Option X) → option_map f o ≡ None → o ≡ None
none_of_map f None e = refl
none_of_map f (Some x) e = let no : ⊥ = cc in absurd no

nil_of_map : {X Y : Type 0} (f : X → Y) (xs : List X) → map f xs ≡ [] → xs ≡ []
nil_of_map f [] e = refl
nil_of_map f (x ∷ xs) e = let no : ⊥ = cc in absurd no

nothing_owned : (owner : NameId) (names : List (List ℕ)) (header : Option headers.Header) (items : List texts.Item) → header ≡ None → items ≡ []
    → IfSome header (HeaderIsOf owner names) × All (ItemIsOf owner names) items
nothing_owned owner names header items h i = (subst (λ o. IfSome o (HeaderIsOf owner names)) (sym h) tt, subst (All (ItemIsOf owner names)) (sym i) (All-nil (ItemIsOf owner names)))

pub owned_module : (owner : NameId) (names : List (List ℕ)) (tokens : List Token) (header : Option headers.Header) (items : List texts.Item) → AreOf owner names tokens
    → (All (IsTokenOf owner names) tokens → IfSome header (HeaderIsOf owner names) × All (ItemIsOf owner names) items)
    → ModuleRead (map (lexeme_of names) tokens) (Ok (record { header = option_map (header_meaning names) header; items = items_meaning names items }))
    → IfSome header (HeaderIsOf owner names) × All (ItemIsOf owner names) items
owned_module owner names tokens header items are owned read = by (without_layout tokens) refl
  where
    by : (written : List Token) → without_layout tokens ≡ written → IfSome header (HeaderIsOf owner names) × All (ItemIsOf owner names) items
    by (t ∷ written) e = owned (are (λ none. let no : ⊥ = cc in absurd no))
    by [] e =
        let found : Module = record { header = option_map (header_meaning names) header; items = items_meaning names items } in
        let empty = empty_module (map (lexeme_of names) tokens) (Ok found) found (all_layout names tokens e) read refl in
        nothing_owned owner names header items (none_of_map (header_meaning names) header empty.header) (nil_of_map (item_meaning names) items empty.items)
