-- Tokens are read as one thing only.
use Rattle.std.specs.Prelude.{◌≡◌, ℕ, Bool, true, false, List, [], ◌∷◌, Option, None, Some, Result, Ok, Err, refl}
use Rattle.std.proofs.Common.{ap, ap₂, subst, sym, true≢false, ◌∙◌}
use Rattle.cu_lex.specs.Tokens.{Lexeme}
use Rattle.cu_peg.specs.Classes.{has}
use Rattle.cu_peg.specs.Parse.{ParseTree}
use Rattle.cu_peg.proofs.OneTree.{once}
use Rattle.cu_syntax.specs.declared.symbol.Symbol.{Symbol}
use Rattle.cu_syntax.specs.declared.symbol.Symbol.TheVariants as symbol
use Rattle.cu_syntax.specs.Parsing.{Fault, GoalRead, Has, HasNone, HeaderRead, ItemRead, ModuleRead, Part, PartRead, PartsRead, header_and_block, imports_after, is_long, parts}
use Rattle.cu_syntax.specs.Reading.{goal_of, header_of, import_of, item_of}
use Rattle.cu_syntax.specs.Syntax.{Goal, Header, ImportItem, Item, Module}
use Rattle.cu_syntax.specs.Table.{rows}
use Rattle.cu_syntax.proofs.Beginnings.{import_or_item, no_empty_import, no_empty_item}

same_tree : (s : Symbol) (tokens : List Lexeme) (tree other : ParseTree Lexeme) → Has s tokens tree → Has s tokens other → tree ≡ other
same_tree s tokens tree other m n = (once rows has m n).1

both : (b : Bool) → b ≡ true → b ≡ false → ⊥
both b h k = true≢false (sym h ∙ k)

item_once : (imports : Bool) (tokens : List Lexeme) (item other : Item) → ItemRead imports tokens item → ItemRead imports tokens other → item ≡ other
item_once imports tokens _ _ (ItemRead.import tree e m) (ItemRead.import another f n) =
    ap (λ t. ImportItem (import_of t)) (same_tree symbol.ImportDecl tokens tree another m n)
item_once imports tokens _ _ (ItemRead.import tree e m) (ItemRead.declaration another n) = absurd (import_or_item tokens tree another m n)
item_once imports tokens _ _ (ItemRead.declaration tree m) (ItemRead.import another f n) = absurd (import_or_item tokens another tree n m)
item_once imports tokens _ _ (ItemRead.declaration tree m) (ItemRead.declaration another n) = ap item_of (same_tree symbol.Item tokens tree another m n)

no_empty : (imports : Bool) (tokens : List Lexeme) (item : Item) → tokens ≡ [] → ItemRead imports tokens item → ⊥
no_empty imports tokens _ e (ItemRead.import tree f m) = no_empty_import tree (subst (λ (ts : List Lexeme). Has symbol.ImportDecl ts tree) e m)
no_empty imports tokens _ e (ItemRead.declaration tree m) = no_empty_item tree (subst (λ (ts : List Lexeme). Has symbol.Item ts tree) e m)

part_once : (imports : Bool) (part : Part) (outcome other : Result Item Fault) → PartRead imports part outcome → PartRead imports part other → outcome ≡ other
part_once imports part _ _ (PartRead.too_long h) (PartRead.too_long k) = refl
part_once imports part _ _ (PartRead.too_long h) (PartRead.not_whole k w) = absurd (both (is_long part.tokens) h k)
part_once imports part _ _ (PartRead.too_long h) (PartRead.no_item k w s n) = absurd (both (is_long part.tokens) h k)
part_once imports part _ _ (PartRead.too_long h) (PartRead.item found k w r) = absurd (both (is_long part.tokens) h k)
part_once imports part _ _ (PartRead.not_whole h v) (PartRead.too_long k) = absurd (both (is_long part.tokens) k h)
part_once imports part _ _ (PartRead.not_whole h v) (PartRead.not_whole k w) = refl
part_once imports part _ _ (PartRead.not_whole h v) (PartRead.no_item k w s n) = absurd (both part.whole w v)
part_once imports part _ _ (PartRead.not_whole h v) (PartRead.item found k w r) = absurd (both part.whole w v)
part_once imports part _ _ (PartRead.no_item h v s n) (PartRead.too_long k) = absurd (both (is_long part.tokens) k h)
part_once imports part _ _ (PartRead.no_item h v s n) (PartRead.not_whole k w) = absurd (both part.whole v w)
part_once imports part _ _ (PartRead.no_item h v s n) (PartRead.no_item k w t m) = refl
part_once imports part _ _ (PartRead.no_item h v s n) (PartRead.item found k w r) = absurd (n found r)
part_once imports part _ _ (PartRead.item found h v r) (PartRead.too_long k) = absurd (both (is_long part.tokens) k h)
part_once imports part _ _ (PartRead.item found h v r) (PartRead.not_whole k w) = absurd (both part.whole v w)
part_once imports part _ _ (PartRead.item found h v r) (PartRead.no_item k w s n) = absurd (n found r)
part_once imports part _ _ (PartRead.item found h v r) (PartRead.item another k w q) = ap Ok (item_once imports part.tokens found another r q)

-- an empty part is read as nothing else
not_empty : (imports : Bool) (part : Part) (outcome : Result Item Fault) → part.whole ≡ true → part.tokens ≡ [] → PartRead imports part outcome → ⊥
not_empty imports part _ v e (PartRead.too_long h) = true≢false (sym h ∙ ap is_long e)
not_empty imports part _ v e (PartRead.not_whole h w) = both part.whole v w
not_empty imports part _ v e (PartRead.no_item h w s n) = s e
not_empty imports part _ v e (PartRead.item found h w r) = no_empty imports part.tokens found e r

-- outcomes, with their types

abbrev right : {T : Type 0} → T → Result T Fault
right x = Ok x

abbrev refused : (T : Type 0) → Fault → Result T Fault
refused T fault = Err fault

same_item : (item other : Item) → right item ≡ right other → item ≡ other
same_item item other e = cc

same_fault : (fault other : Fault) → refused Item fault ≡ refused Item other → fault ≡ other
same_fault fault other e = cc

no_fault : (item : Item) (fault : Fault) → right item ≡ refused Item fault → ⊥
no_fault item fault e = cc

items_alike : (item another : Item) (items more : List Item) → item ≡ another → right items ≡ right more → right (item ∷ items) ≡ right (another ∷ more)
items_alike item another items more e f = cc

parts_once : (imports : Bool) (left : List Part) (outcome other : Result (List Item) Fault) → PartsRead imports left outcome → PartsRead imports left other → outcome ≡ other
parts_once _ _ _ _ (PartsRead.no_part imports) (PartsRead.no_part _) = refl
parts_once _ _ _ _ (PartsRead.empty imports part others outcome v e r) (PartsRead.empty _ _ _ other w f q) = parts_once imports others outcome other r q
parts_once _ _ _ _ (PartsRead.empty imports part others outcome v e r) (PartsRead.fault _ _ _ fault q) = absurd (not_empty imports part (Err fault) v e q)
parts_once _ _ _ _ (PartsRead.empty imports part others outcome v e r) (PartsRead.item _ _ _ item items q p) = absurd (not_empty imports part (Ok item) v e q)
parts_once _ _ _ _ (PartsRead.empty imports part others outcome v e r) (PartsRead.later_fault _ _ _ item fault q p) = absurd (not_empty imports part (Ok item) v e q)
parts_once _ _ _ _ (PartsRead.fault imports part others fault q) (PartsRead.empty _ _ _ other v e r) = absurd (not_empty imports part (Err fault) v e q)
parts_once _ _ _ _ (PartsRead.fault imports part others fault q) (PartsRead.fault _ _ _ another p) =
    ap Err (same_fault fault another (part_once imports part (Err fault) (Err another) q p))
parts_once _ _ _ _ (PartsRead.fault imports part others fault q) (PartsRead.item _ _ _ item items p r) =
    absurd (no_fault item fault (part_once imports part (Ok item) (Err fault) p q))
parts_once _ _ _ _ (PartsRead.fault imports part others fault q) (PartsRead.later_fault _ _ _ item another p r) =
    absurd (no_fault item fault (part_once imports part (Ok item) (Err fault) p q))
parts_once _ _ _ _ (PartsRead.item imports part others item items q r) (PartsRead.empty _ _ _ other v e p) = absurd (not_empty imports part (Ok item) v e q)
parts_once _ _ _ _ (PartsRead.item imports part others item items q r) (PartsRead.fault _ _ _ fault p) =
    absurd (no_fault item fault (part_once imports part (Ok item) (Err fault) q p))
parts_once _ _ _ _ (PartsRead.item imports part others item items q r) (PartsRead.item _ _ _ another more p s) =
    let same = same_item item another (part_once imports part (Ok item) (Ok another) q p) in
    let rest = parts_once (imports_after imports item) others (Ok items) (Ok more) r
    (subst (λ (i : Item). PartsRead (imports_after imports i) others (Ok more)) (sym same) s) in
    items_alike item another items more same rest
parts_once _ _ _ _ (PartsRead.item imports part others item items q r) (PartsRead.later_fault _ _ _ another fault p s) =
    let same = same_item item another (part_once imports part (Ok item) (Ok another) q p) in
    let rest = parts_once (imports_after imports item) others (Ok items) (Err fault) r
    (subst (λ (i : Item). PartsRead (imports_after imports i) others (Err fault)) (sym same) s) in
    let never : ⊥ = cc in absurd never
parts_once _ _ _ _ (PartsRead.later_fault imports part others item fault q r) (PartsRead.empty _ _ _ other v e p) = absurd (not_empty imports part (Ok item) v e q)
parts_once _ _ _ _ (PartsRead.later_fault imports part others item fault q r) (PartsRead.fault _ _ _ another p) =
    absurd (no_fault item another (part_once imports part (Ok item) (Err another) q p))
parts_once _ _ _ _ (PartsRead.later_fault imports part others item fault q r) (PartsRead.item _ _ _ another items p s) =
    let same = same_item item another (part_once imports part (Ok item) (Ok another) q p) in
    let rest = parts_once (imports_after imports item) others (Err fault) (Ok items) r
    (subst (λ (i : Item). PartsRead (imports_after imports i) others (Ok items)) (sym same) s) in
    let never : ⊥ = cc in absurd never
parts_once _ _ _ _ (PartsRead.later_fault imports part others item fault q r) (PartsRead.later_fault _ _ _ another other p s) =
    let same = same_item item another (part_once imports part (Ok item) (Ok another) q p) in
    parts_once (imports_after imports item) others (Err fault) (Err other) r
    (subst (λ (i : Item). PartsRead (imports_after imports i) others (Err other)) (sym same) s)

header_once : (tokens : List Lexeme) (found other : Option Header) → HeaderRead tokens found → HeaderRead tokens other → found ≡ other
header_once _ _ _ HeaderRead.no_header HeaderRead.no_header = refl
header_once _ _ _ HeaderRead.no_header (HeaderRead.header _ tree s m) = absurd (s refl)
header_once _ _ _ (HeaderRead.header tokens tree s m) HeaderRead.no_header = absurd (s refl)
header_once _ _ _ (HeaderRead.header tokens tree s m) (HeaderRead.header _ other t n) = ap (λ t. Some (header_of t)) (same_tree symbol.Header tokens tree other m n)

no_wrong_header : (tokens : List Lexeme) (found : Option Header) → ¬ (tokens ≡ []) → HasNone symbol.Header tokens → HeaderRead tokens found → ⊥
no_wrong_header _ _ s n HeaderRead.no_header = s refl
no_wrong_header _ _ s n (HeaderRead.header tokens tree t m) = n tree m

no_such_block : (o : Option (List Lexeme)) (block : List Lexeme) → o ≡ None → o ≡ Some block → ⊥
no_such_block o block e f = cc

same_block : (o : Option (List Lexeme)) (block other : List Lexeme) → o ≡ Some block → o ≡ Some other → block ≡ other
same_block o block other e f = cc

blocks_once : (last : ℕ) (o : Option (List Lexeme)) (block another : List Lexeme) (outcome other : Result (List Item) Fault) → o ≡ Some block → o ≡ Some another
    → PartsRead true (parts last block) outcome → PartsRead true (parts last another) other → outcome ≡ other
blocks_once last o block another outcome other e f r q =
    parts_once true (parts last block) outcome other r
    (subst (λ (b : List Lexeme). PartsRead true (parts last b) other) (sym (same_block o block another e f)) q)

faults_alike : (fault other : Fault) → refused (List Item) fault ≡ refused (List Item) other → refused Module fault ≡ refused Module other
faults_alike fault other e = cc

never_both : (items : List Item) (fault : Fault) → right items ≡ refused (List Item) fault → ⊥
never_both items fault e = cc

abbrev module_of : Option Header → List Item → Module
module_of found items = record { header = found; items = items }

items_same : (items other : List Item) → right items ≡ right other → items ≡ other
items_same items other e = cc

pub module_once : (tokens : List Lexeme) (outcome other : Result Module Fault) → ModuleRead tokens outcome → ModuleRead tokens other → outcome ≡ other
module_once tokens _ _ (ModuleRead.no_block b) (ModuleRead.no_block c) = refl
module_once tokens _ _ (ModuleRead.no_block b) (ModuleRead.wrong_header s n) = refl
module_once tokens _ _ (ModuleRead.no_block b) (ModuleRead.wrong_item block found fault c h r) = absurd (no_such_block (header_and_block 1 tokens).block block b c)
module_once tokens _ _ (ModuleRead.no_block b) (ModuleRead.right block found items c h r) = absurd (no_such_block (header_and_block 1 tokens).block block b c)
module_once tokens _ _ (ModuleRead.wrong_header s n) (ModuleRead.no_block c) = refl
module_once tokens _ _ (ModuleRead.wrong_header s n) (ModuleRead.wrong_header t m) = refl
module_once tokens _ _ (ModuleRead.wrong_header s n) (ModuleRead.wrong_item block found fault c h r) = absurd (no_wrong_header (header_and_block 1 tokens).header found s n h)
module_once tokens _ _ (ModuleRead.wrong_header s n) (ModuleRead.right block found items c h r) = absurd (no_wrong_header (header_and_block 1 tokens).header found s n h)
module_once tokens _ _ (ModuleRead.wrong_item block found fault b h r) (ModuleRead.no_block c) = absurd (no_such_block (header_and_block 1 tokens).block block c b)
module_once tokens _ _ (ModuleRead.wrong_item block found fault b h r) (ModuleRead.wrong_header s n) = absurd (no_wrong_header (header_and_block 1 tokens).header found s n h)
module_once tokens _ _ (ModuleRead.wrong_item block found fault b h r) (ModuleRead.wrong_item another header other c k q) =
    faults_alike fault other (blocks_once (header_and_block 1 tokens).last (header_and_block 1 tokens).block block another (Err fault) (Err other) b c r q)
module_once tokens _ _ (ModuleRead.wrong_item block found fault b h r) (ModuleRead.right another header items c k q) =
    absurd (never_both items fault (blocks_once (header_and_block 1 tokens).last (header_and_block 1 tokens).block another block (Ok items) (Err fault) c b q r))
module_once tokens _ _ (ModuleRead.right block found items b h r) (ModuleRead.no_block c) = absurd (no_such_block (header_and_block 1 tokens).block block c b)
module_once tokens _ _ (ModuleRead.right block found items b h r) (ModuleRead.wrong_header s n) = absurd (no_wrong_header (header_and_block 1 tokens).header found s n h)
module_once tokens _ _ (ModuleRead.right block found items b h r) (ModuleRead.wrong_item another header fault c k q) =
    absurd (never_both items fault (blocks_once (header_and_block 1 tokens).last (header_and_block 1 tokens).block block another (Ok items) (Err fault) b c r q))
module_once tokens _ _ (ModuleRead.right block found items b h r) (ModuleRead.right another header more c k q) =
    ap₂ (λ f xs. Ok (module_of f xs)) (header_once (header_and_block 1 tokens).header found header h k)
    (items_same items more (blocks_once (header_and_block 1 tokens).last (header_and_block 1 tokens).block block another (Ok items) (Ok more) b c r q))

pub goal_once : (tokens : List Lexeme) (outcome other : Result Goal Fault) → GoalRead tokens outcome → GoalRead tokens other → outcome ≡ other
goal_once tokens _ _ (GoalRead.too_long h) (GoalRead.too_long k) = refl
goal_once tokens _ _ (GoalRead.too_long h) (GoalRead.no_tree k n) = absurd (both (is_long tokens) h k)
goal_once tokens _ _ (GoalRead.too_long h) (GoalRead.right tree k m) = absurd (both (is_long tokens) h k)
goal_once tokens _ _ (GoalRead.no_tree h n) (GoalRead.too_long k) = absurd (both (is_long tokens) k h)
goal_once tokens _ _ (GoalRead.no_tree h n) (GoalRead.no_tree k m) = refl
goal_once tokens _ _ (GoalRead.no_tree h n) (GoalRead.right tree k m) = absurd (n tree m)
goal_once tokens _ _ (GoalRead.right tree h m) (GoalRead.too_long k) = absurd (both (is_long tokens) k h)
goal_once tokens _ _ (GoalRead.right tree h m) (GoalRead.no_tree k n) = absurd (n tree m)
goal_once tokens _ _ (GoalRead.right tree h m) (GoalRead.right other k n) = ap (λ t. Ok (goal_of t)) (same_tree symbol.Goal tokens tree other m n)
