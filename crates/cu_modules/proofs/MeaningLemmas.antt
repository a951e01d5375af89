-- What names and modules stand for stays the same in a table that grows.
use Rattle.std.proofs.Common.{◌≡◌, ◌∙◌, ℕ, List, [], ◌∷◌, map, Some, None, Option, refl, ap}
use Rattle.std.proofs.lemmas.List.Elements.{All-head, All-tail, All-weaker}
use Rattle.std.specs.List.{All}
use Rattle.std.specs.Option.{option_map}
use Rattle.std.specs.Prelude.{IfSome}
use Rattle.cu_lex.specs.declared.token.Name as spelled
use Rattle.cu_lex.specs.declared.token.Token.{Token}
use Rattle.cu_lex.specs.declared.token.TokenKind.{TokenKind}
use Rattle.cu_lex.specs.declared.token.TokenKind.TheVariants as token
use Rattle.cu_lex.specs.Reading.{HasKind, HasName, IsTokenOf, kind_of, lexeme_of, position_of, spelling_of}
use Rattle.cu_names.proofs.Growth.{known-extends, text_of-extends}
use Rattle.cu_names.specs.declared.names.NameId.{NameId}
use Rattle.cu_names.specs.Texts.{Extends, IsKnown, text_of}
use Rattle.cu_syntax.specs.Answer.{header_meaning, item_read, items_meaning, module_meaning, tree_of}
use Rattle.cu_syntax.specs.declared.text.Header.{Header}
use Rattle.cu_syntax.specs.declared.text.Item.{Item}
use Rattle.cu_syntax.specs.declared.text.Module as syntax
use Rattle.cu_syntax.specs.declared.text.Parsed.{Parsed}
use Rattle.cu_syntax.specs.Owners.{HeaderIsOf, ItemIsOf, ModuleIsOf, ParsedIsOf}
use Rattle.cu_syntax.specs.Reading.{header_of}
use Rattle.cu_syntax.specs.Subtrees.{over}
use Rattle.cu_modules.specs.declared.modules.Module.{Module}
use Rattle.cu_modules.specs.Ordering.{module_of, modules_of, texts_of}
use Rattle.cu_modules.specs.Reading.{HasModule, HasPrelude}

-- ---- names

pub texts_same : {old new : List (List ℕ)} → Extends old new → (ids : List NameId) → All (IsKnown old) ids → texts_of new ids ≡ texts_of old ids
texts_same {old} {new} grown [] known = refl
texts_same {old} {new} grown (id ∷ ids) known =
    (λ j. text_of-extends grown id (All-head (IsKnown old) id ids known) j ∷ texts_same grown ids (All-tail (IsKnown old) id ids known) j)

pub all_known : {old new : List (List ℕ)} → Extends old new → (ids : List NameId) → All (IsKnown old) ids → All (IsKnown new) ids
all_known {old} {new} grown ids known = All-weaker (IsKnown old) (IsKnown new) (λ id k. known-extends grown id k) ids known

pub has_prelude : {old new : List (List ℕ)} → Extends old new → (id : NameId) → HasPrelude old id → HasPrelude new id
has_prelude grown id has = record { known = known-extends grown id has.known; text = text_of-extends grown id has.known ∙ has.text }

-- ---- tokens

qualifier_same : {old new : List (List ℕ)} → Extends old new → (o : Option NameId) → IfSome o (IsKnown old) → option_map (text_of new) o ≡ option_map (text_of old) o
qualifier_same grown (Some id) known = ap Some (text_of-extends grown id known)
qualifier_same grown None known = refl

qualifier_known : {old new : List (List ℕ)} → Extends old new → (o : Option NameId) → IfSome o (IsKnown old) → IfSome o (IsKnown new)
qualifier_known grown (Some id) known = known-extends grown id known
qualifier_known grown None known = tt

spelling_same : {old new : List (List ℕ)} → Extends old new → (name : spelled.Name) → HasName old name → spelling_of new name ≡ spelling_of old name
spelling_same grown name has = λ j. record {
  text = text_of-extends grown name.text has.0 j;
  qualifier = qualifier_same grown name.qualifier has.1 j;
  base = text_of-extends grown name.base has.2 j;
  special = name.special;
}

name_known : {old new : List (List ℕ)} → Extends old new → (name : spelled.Name) → HasName old name → HasName new name
name_known grown name has = (known-extends grown name.text has.0, qualifier_known grown name.qualifier has.1, known-extends grown name.base has.2)

kind_same : {old new : List (List ℕ)} → Extends old new → (kind : TokenKind) → HasKind old kind → kind_of new kind ≡ kind_of old kind
kind_same {old} {new} grown (token.VarId name) has = λ j. Rattle.cu_lex.specs.Kind.Kind.VarId (spelling_same grown name has j)
kind_same {old} {new} grown (token.ConId name) has = λ j. Rattle.cu_lex.specs.Kind.Kind.ConId (spelling_same grown name has j)
kind_same {old} {new} grown (token.VarOp name) has = λ j. Rattle.cu_lex.specs.Kind.Kind.VarOp (spelling_same grown name has j)
kind_same {old} {new} grown (token.ConOp name) has = λ j. Rattle.cu_lex.specs.Kind.Kind.ConOp (spelling_same grown name has j)
kind_same {old} {new} grown (token.Keyword word) has = refl
kind_same {old} {new} grown (token.Reserved word) has = refl
kind_same {old} {new} grown (token.Mark mark) has = refl
kind_same {old} {new} grown (token.Int n) has = refl
kind_same {old} {new} grown (token.Char code) has = refl
kind_same {old} {new} grown (token.String codes) has = refl
kind_same {old} {new} grown (token.Layout mark) has = refl

kind_known : {old new : List (List ℕ)} → Extends old new → (kind : TokenKind) → HasKind old kind → HasKind new kind
kind_known grown (token.VarId name) has = name_known grown name has
kind_known grown (token.ConId name) has = name_known grown name has
kind_known grown (token.VarOp name) has = name_known grown name has
kind_known grown (token.ConOp name) has = name_known grown name has
kind_known grown (token.Keyword word) has = tt
kind_known grown (token.Reserved word) has = tt
kind_known grown (token.Mark mark) has = tt
kind_known grown (token.Int n) has = tt
kind_known grown (token.Char code) has = tt
kind_known grown (token.String codes) has = tt
kind_known grown (token.Layout mark) has = tt

token_known : {old new : List (List ℕ)} → Extends old new → (owner : NameId) (t : Token) → IsTokenOf owner old t → IsTokenOf owner new t
token_known grown owner t is = record { owned = is.owned; known = kind_known grown t.kind is.known; natural = is.natural }

tokens_same : {old new : List (List ℕ)} → Extends old new → (owner : NameId) (ts : List Token) → All (IsTokenOf owner old) ts → map (lexeme_of new) ts ≡ map (lexeme_of old) ts
tokens_same {old} {new} grown owner [] are = refl
tokens_same {old} {new} grown owner (t ∷ ts) are =
    (λ j. record { what = kind_same grown t.kind (All-head (IsTokenOf owner old) t ts are).known j; at = position_of t.place } ∷ tokens_same grown owner ts (All-tail (IsTokenOf owner old) t ts are) j)

-- ---- modules

parsed_known : {old new : List (List ℕ)} → Extends old new → (owner : NameId) (parsed : Parsed) → ParsedIsOf owner old parsed → ParsedIsOf owner new parsed
parsed_known {old} {new} grown owner parsed is = record { tokens = All-weaker (IsTokenOf owner old) (IsTokenOf owner new) (token_known grown owner) parsed.tokens.items is.tokens }

tree_same : {old new : List (List ℕ)} → Extends old new → (owner : NameId) (parsed : Parsed) → ParsedIsOf owner old parsed → tree_of new parsed ≡ tree_of old parsed
tree_same grown owner parsed is = ap (λ ts. over ts parsed.tree) (tokens_same grown owner parsed.tokens.items is.tokens)

items_same : {old new : List (List ℕ)} → Extends old new → (owner : NameId) (items : List Item) → All (ItemIsOf owner old) items → items_meaning new items ≡ items_meaning old items
items_same {old} {new} grown owner [] are = refl
items_same {old} {new} grown owner (item ∷ items) are =
    (λ j. item_read item.parsed.symbol (tree_same grown owner item.parsed (All-head (ItemIsOf owner old) item items are) j) ∷ items_same grown owner items (All-tail (ItemIsOf owner old) item items are) j)

header_same : {old new : List (List ℕ)} → Extends old new → (owner : NameId) (o : Option Header) → IfSome o (HeaderIsOf owner old) → option_map (header_meaning new) o ≡ option_map (header_meaning old) o
header_same grown owner (Some header) is = ap (λ tree. Some (header_of tree)) (tree_same grown owner header.parsed is)
header_same grown owner None is = refl

header_known : {old new : List (List ℕ)} → Extends old new → (owner : NameId) (o : Option Header) → IfSome o (HeaderIsOf owner old) → IfSome o (HeaderIsOf owner new)
header_known grown owner (Some header) is = parsed_known grown owner header.parsed is
header_known grown owner None is = tt

pub meaning_same : {old new : List (List ℕ)} → Extends old new → (owner : NameId) (m : syntax.Module) → ModuleIsOf owner old m → module_meaning new m ≡ module_meaning old m
meaning_same grown owner m is = λ j. record { header = header_same grown owner m.header is.0 j; items = items_same grown owner m.items.items is.1 j }

pub has_module : {old new : List (List ℕ)} → Extends old new → (m : Module) → HasModule old m → HasModule new m
has_module {old} {new} grown m has = record {
  known = known-extends grown m.name has.known;
  owned = (header_known grown m.name m.syntax.header has.owned.0, All-weaker (ItemIsOf m.name old) (ItemIsOf m.name new) (λ item is. parsed_known grown m.name item.parsed is) m.syntax.items.items has.owned.1);
}

module_same : {old new : List (List ℕ)} → Extends old new → (m : Module) → HasModule old m → module_of new m ≡ module_of old m
module_same grown m has = λ j. record { name = text_of-extends grown m.name has.known j; syntax = meaning_same grown m.name m.syntax has.owned j }

pub modules_same : {old new : List (List ℕ)} → Extends old new → (ms : List Module) → All (HasModule old) ms → modules_of new ms ≡ modules_of old ms
modules_same {old} {new} grown [] has = refl
modules_same {old} {new} grown (m ∷ ms) has =
    (λ j. module_same grown m (All-head (HasModule old) m ms has) j ∷ modules_same grown ms (All-tail (HasModule old) m ms has) j)

pub all_have : {old new : List (List ℕ)} → Extends old new → (ms : List Module) → All (HasModule old) ms → All (HasModule new) ms
all_have {old} {new} grown ms has = All-weaker (HasModule old) (HasModule new) (λ m h. has_module grown m h) ms has
