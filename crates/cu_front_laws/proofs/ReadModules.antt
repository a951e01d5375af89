-- The texts of modules and goals have only tuple types that there are, and no type that modules
-- declare has a sign for a name.
use Rattle.std.specs.Prelude.{◌≡◌, ℕ, Bool, true, false, List, [], Option, Result, Ok, IfOk, IfSome, refl}
use Rattle.std.proofs.Common.{subst}
use Rattle.std.proofs.lemmas.Bool.{and_parts, both_ways}
use Rattle.cu_layout.specs.Blocks.{block}
use Rattle.cu_layout.specs.Reading.{lexeme_view}
use Rattle.cu_lex.specs.Kind as kind
use Rattle.cu_lex.specs.Kind.{Kind}
use Rattle.cu_lex.specs.Tokens as tokens
use Rattle.cu_lex.specs.Tokens.{Lexeme}
use Rattle.cu_peg.specs.declared.class.Class.TheVariants as class
use Rattle.cu_peg.specs.declared.class.NameKind.TheVariants as name_kind
use Rattle.cu_peg.specs.Classes.{has_kind}
use Rattle.cu_peg.specs.Parse.{Leaf, Parts, Chosen, NoTree, MoreTrees}
use Rattle.cu_syntax.specs.declared.symbol.Symbol.{Symbol}
use Rattle.cu_syntax.specs.declared.symbol.Symbol.TheVariants as symbol
use Rattle.cu_syntax.specs.Inside.Fits.{fits, has_alternative}
use Rattle.cu_syntax.specs.Parsing.{Fault, GoalRead, ItemRead, ModuleRead, Part, PartRead, PartsRead, header_and_block, imports_after, parts}
use Rattle.cu_syntax.specs.Reading.{Tree, item_as, item_of, name_of, spelling}
use Rattle.cu_syntax.specs.Syntax.{Goal, Item, Module}
use Rattle.cu_syntax.specs.Table.{alternative, number, rule_of}
use Rattle.cu_syntax.proofs.FitsLaw.{fits_match}
use Rattle.cu_modules.specs.Texts as texts
use Rattle.cu_modules.specs.Texts.{IsRead, TextFault}
use Rattle.cu_front_laws.proofs.CapitalTokens.{Capital, CapitalKind, Capitals, block-capital, header_and_block-capital, parts-capital, tokens-capital}
use Rattle.cu_front_laws.proofs.GrammarTrees.{Good, good_match}
use Rattle.cu_front_laws.proofs.Members.{Every}
use Rattle.cu_front_laws.proofs.NarrowTexts.{NarrowExpression, NarrowItem, Unsigned, opens}
use Rattle.cu_front_laws.proofs.ReadTypes.{narrow_goal, narrow_item}

-- ---- names of declared types

kind_unsigned : (k : Kind) → has_kind (class.Unqualified name_kind.ConId) k ≡ true → CapitalKind k → opens (spelling k).text ≡ false
kind_unsigned (kind.ConId name) h capital = capital h
kind_unsigned k h capital = absurd (both_ways false refl h)

con_unsigned : (tree : Tree) → fits symbol.ConId tree ≡ true → Good Capital symbol.ConId tree → opens (name_of tree).text ≡ false
con_unsigned (Leaf x) h capital = kind_unsigned x.what h capital
con_unsigned (Parts NoTree) h capital = absurd (both_ways false refl h)
con_unsigned (Parts (MoreTrees tree trees)) h capital = absurd (both_ways false refl h)
con_unsigned (Chosen n tree) h capital = absurd (both_ways false refl h)

unsigned_as : (s : Symbol) (tree : Tree) → fits s tree ≡ true → Good Capital s tree → Unsigned (item_as s tree)
unsigned_as symbol.FixityDecl (Parts (MoreTrees word (MoreTrees level (MoreTrees names NoTree)))) h good = tt
unsigned_as symbol.DataDecl (Parts (MoreTrees word (MoreTrees name (MoreTrees parameters (MoreTrees constructors NoTree))))) h good =
    con_unsigned name (and_parts (fits symbol.ConId name) _ (and_parts (fits symbol.DataWord word) _ h).1).0 good.0.1.0
unsigned_as symbol.SynonymDecl (Parts (MoreTrees word (MoreTrees name (MoreTrees parameters (MoreTrees equals (MoreTrees term NoTree)))))) h good =
    con_unsigned name (and_parts (fits symbol.ConId name) _ (and_parts (fits symbol.Type word) _ h).1).0 good.0.1.0
unsigned_as s tree h good = tt

unsigned_item : (tree : Tree) → fits symbol.Item tree ≡ true → Good Capital symbol.Item tree → Unsigned (item_of tree)
unsigned_item (Chosen n tree) h good =
    unsigned_as (alternative symbol.Item n) tree (and_parts (has_alternative (rule_of symbol.Item) n) (fits (alternative symbol.Item n) tree) h).1
    good
unsigned_item (Parts trees) h good = tt
unsigned_item (Leaf x) h good = tt

-- ---- modules

abbrev pub ItemIsRight : Item → Type 0
ItemIsRight i = NarrowItem i × Unsigned i

abbrev pub ModuleIsRight : Module → Type 0
ModuleIsRight m = Every ItemIsRight m.items

item_right : (imports : Bool) (ts : List Lexeme) (item : Item) → Capitals ts → ItemRead imports ts item → ItemIsRight item
item_right imports ts item all (ItemRead.import tree may m) = (tt, tt)
item_right imports ts item all (ItemRead.declaration tree m) =
    let good = good_match Capital symbol.Item ts [] tree all m in
    (narrow_item Capital tree good, unsigned_item tree (fits_match symbol.Item (number symbol.Item) ts [] tree refl m) good)

part_right : (imports : Bool) (part : Part) (outcome : Result Item Fault) → Capitals part.tokens → PartRead imports part outcome
    → IfOk outcome ItemIsRight
part_right imports part outcome all (PartRead.too_long long) = tt
part_right imports part outcome all (PartRead.not_whole short open') = tt
part_right imports part outcome all (PartRead.no_item short whole some never) = tt
part_right imports part outcome all (PartRead.item found short whole read) = item_right imports part.tokens found all read

parts_right : (imports : Bool) (ps : List Part) (outcome : Result (List Item) Fault) → Every (λ (p : Part). Capitals p.tokens) ps
    → PartsRead imports ps outcome → IfOk outcome (Every ItemIsRight)
parts_right imports ps outcome all (PartsRead.no_part _) = tt
parts_right imports ps outcome all (PartsRead.empty _ part others _ whole empty read) = parts_right imports others outcome all.1 read
parts_right imports ps outcome all (PartsRead.fault _ part others fault read) = tt
parts_right imports ps outcome all (PartsRead.item _ part others item items read later) =
    (part_right imports part (Ok item) all.0 read, parts_right (imports_after imports item) others (Ok items) all.1 later)
parts_right imports ps outcome all (PartsRead.later_fault _ part others item fault read later) = tt

module_right : (laid : List Lexeme) (outcome : Result Module Fault) → Capitals laid → ModuleRead laid outcome → IfOk outcome ModuleIsRight
module_right laid outcome all (ModuleRead.no_block is) = tt
module_right laid outcome all (ModuleRead.wrong_header some never) = tt
module_right laid outcome all (ModuleRead.wrong_item block found fault is above read) = tt
module_right laid outcome all (ModuleRead.right b found items is above read) =
    parts_right true (parts (header_and_block 1 laid).last b) (Ok items)
    (parts-capital (header_and_block 1 laid).last b (subst (λ (o : Option (List Lexeme)). IfSome o Capitals) is (header_and_block-capital 1 laid all))) read

laid_capital : (outer : Bool) (text : List ℕ) (found laid : List Lexeme) → tokens.tokens text ≡ Ok found → block lexeme_view outer found ≡ Ok laid
    → Capitals laid
laid_capital outer text found laid is are =
    subst (λ (r : Result (List Lexeme) ℕ). IfOk r Capitals) are
    (block-capital outer found (subst (λ (r : Result (List Lexeme) tokens.Fault). IfOk r Capitals) is (tokens-capital text)))

-- what a text is read as
pub text_right : (name text : List ℕ) (outcome : Result Module TextFault) → IsRead name text outcome → IfOk outcome ModuleIsRight
text_right name text outcome (texts.no_tokens fault is) = tt
text_right name text outcome (texts.too_deep found number token is deep at) = tt
text_right name text outcome (texts.no_syntax laid fault has read) = tt
text_right name text outcome (texts.other_name laid found has read wrong) = tt
text_right name text outcome (texts.right laid found has read right) =
    module_right laid (Ok found) (laid_capital true text has.found laid has.has_tokens has.has_layout) read

-- ---- goals

abbrev pub GoalIsNarrow : Goal → Type 0
GoalIsNarrow goal = NarrowExpression goal.expression

pub goal_right : (text : List ℕ) (found laid : List Lexeme) (outcome : Result Goal Fault) → tokens.tokens text ≡ Ok found
    → block lexeme_view false found ≡ Ok laid → GoalRead laid outcome → IfOk outcome GoalIsNarrow
goal_right text found laid outcome is are (GoalRead.too_long long) = tt
goal_right text found laid outcome is are (GoalRead.no_tree short none) = tt
goal_right text found laid outcome is are (GoalRead.right tree short m) =
    narrow_goal Capital tree (good_match Capital symbol.Goal laid [] tree (laid_capital false text found laid is are) m)
