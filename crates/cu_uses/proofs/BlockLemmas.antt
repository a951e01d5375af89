-- What declarations declare, one after another.
use Rattle.std.proofs.Common.{◌≡◌, ◌∙◌, ◌<◌, ◌≤◌, ◌+◌, ℕ, Bool, true, false, List, [], ◌∷◌, ◌++◌, Option, None, Some, Result, Ok, Err, OnOk, IfSome, length, drop, get_or, map, not, refl, sym, ap, ap₂, subst, if◌then◌else◌, nat_eq, arith, suc}
use Rattle.std.proofs.lemmas.Bool.Decides.{Decides-eqb}
use Rattle.std.proofs.lemmas.List.{append-nil, append_assoc, map-append}
use Rattle.std.proofs.lemmas.List.Elements.{All-append, All-get_or, All-nil, All-push}
use Rattle.std.proofs.lemmas.Grind.{flat_map-append}
use Rattle.std.specs.List.{All}
use Rattle.std.specs.Option.{option_map}
use Rattle.std.specs.Str.{bytes_eq}
use Rattle.cu_entities.proofs.NameLemmas.{same_name}
use Rattle.cu_names.specs.Texts.{AllDiffer, IsKnown, text_of}
use Rattle.cu_names.specs.declared.names.NameId.{NameId}
use Rattle.cu_syntax.specs.declared.declarations.Declaration.{Declaration}
use Rattle.cu_syntax.specs.declared.declarations.DeclarationNode.{DeclarationNode}
use Rattle.cu_syntax.specs.declared.declarations.DeclarationNode.TheVariants as declaration
use Rattle.cu_syntax.specs.declared.name.Name as code
use Rattle.cu_syntax.specs.declared.patterns.Pattern.{Pattern}
use Rattle.cu_syntax.specs.Declarations.{declaration_meaning, declaration_node}
use Rattle.cu_syntax.specs.Names.{name_meaning}
use Rattle.cu_syntax.specs.Owners.{NameIsOf}
use Rattle.cu_syntax.specs.Patterns.{patterns_meaning}
use Rattle.cu_syntax.specs.Syntax.{Name}
use Rattle.cu_uses.specs.declared.block.Block.{Block}
use Rattle.cu_uses.specs.declared.found.Found.{Found}
use Rattle.cu_uses.specs.declared.first_fault.FirstFault.{FirstFault}
use Rattle.cu_uses.specs.Binders.{Declared, Names, Rule, continues, declared_names, declared_once, function_of, has_parameters, missing, names_by, names_of, once, repeated, second, signed_by, texts}
use Rattle.cu_uses.specs.Demands.{Demand, Lacks, Repeats}
use Rattle.cu_uses.specs.Inside.Blocks.{Gathers, IsBlockOf, IsEmpty, IsOfModule, block_asks, block_declares, block_signs, declares, function_text, is_function, signs}
use Rattle.cu_uses.specs.Gathered.{Adds, names_meaning, pattern_binds}
use Rattle.cu_uses.specs.Inside.Worlds.{Told, World}
use Rattle.cu_uses.proofs.FoundLemmas.{adds_both, adds_none, adds_one, prefix, nothing_left}
use Rattle.cu_uses.proofs.ToldLemmas.{told_both}

-- several names at once
pub adds_all : (owner : NameId) (names : List (List ℕ)) (a b xs : List code.Name) → All (NameIsOf owner names) xs → b ≡ a ++ xs → Adds owner names a (names_meaning names xs) b
adds_all owner names a b xs of extended = record {
  adds = ap (names_meaning names) extended ∙ map-append (name_meaning names) a xs;
  owned = λ before. subst (All (NameIsOf owner names)) (sym extended) (All-append (NameIsOf owner names) a xs before of);
}

pub gathers_both : {owner : NameId} {names : List (List ℕ)} {a b c : Block} {ds es : List Declared} {ss ts : List Name} → Gathers owner names a ds ss b → Gathers owner names b es ts c
    → Gathers owner names a (ds ++ es) (ss ++ ts) c
gathers_both {owner = owner} {names = names} {a = a} {c = c} {ds = ds} {es = es} one two = record {
  names_added = subst (λ xs. Adds owner names a.names.items xs c.names.items) (sym (flat_map-append names_of ds es)) (adds_both one.names_added two.names_added);
  signed_added = adds_both one.signed_added two.signed_added;
  keeps = λ is. two.keeps (one.keeps is);
  once = λ is after.
      ap (λ zs. names_meaning names a.once.items ++ declared_once (function_text names a) zs) (append_assoc ds es after)
      ∙ one.once is (es ++ after) ∙ two.once (one.keeps is) after;
}

pub gathers_none : (owner : NameId) (names : List (List ℕ)) (a : Block) → Gathers owner names a [] [] a
gathers_none owner names a = record {
  names_added = adds_none owner names a.names.items;
  signed_added = adds_none owner names a.signed.items;
  keeps = λ is. is;
  once = λ is after. refl;
}

-- ---- rules

function_continues : (names : List (List ℕ)) (function : Option NameId) (goes_on : Bool) (name : code.Name) → AllDiffer names → IfSome function (IsKnown names) → IsKnown names name.text
    → continues (option_map (text_of names) function) (Rule goes_on (name_meaning names name)) ≡ is_function function name.text
function_continues names None goes_on name differ known of = refl
function_continues names (Some function) goes_on name differ known of = sym (same_name names function name.text differ known of)

rule_again : (function : Option (List ℕ)) (goes_on : Bool) (name : Name) (after : List Declared) → continues function (Rule goes_on name) ≡ true
    → declared_once function (Rule goes_on name ∷ after) ≡ declared_once function after
rule_again function goes_on name after is = rw is refl

rule_first : (function : Option (List ℕ)) (goes_on : Bool) (name : Name) (after : List Declared) → continues function (Rule goes_on name) ≡ false
    → declared_once function (Rule goes_on name ∷ after) ≡ name ∷ declared_once (function_of (Rule goes_on name)) after
rule_first function goes_on name after is = rw is refl

pub gathers_again : (owner : NameId) (names : List (List ℕ)) (a b : Block) (goes_on : Bool) (name : code.Name) → AllDiffer names → NameIsOf owner names name
    → is_function a.function name.text ≡ true → b.names.items ≡ a.names.items ++ name ∷ [] → b.signed.items ≡ a.signed.items → b.once.items ≡ a.once.items → b.function ≡ a.function
    → Gathers owner names a (Rule goes_on (name_meaning names name) ∷ []) [] b
gathers_again owner names a b goes_on name differ of again pushed signed_is once_is function_is = record {
  names_added = adds_one owner names a.names.items b.names.items name of pushed;
  signed_added = subst (Adds owner names a.signed.items []) (sym signed_is) (adds_none owner names a.signed.items);
  keeps = λ is. record {
    once = subst (All (NameIsOf owner names)) (sym once_is) is.once;
    function = subst (λ f. IfSome f (IsKnown names)) (sym function_is) is.function;
  };
  once = λ is after.
      ap (λ zs. names_meaning names a.once.items ++ zs)
      (rule_again (function_text names a) goes_on (name_meaning names name) after (function_continues names a.function goes_on name differ is.function of.text ∙ again))
      ∙ ap₂ (λ xs f. names_meaning names xs ++ declared_once (option_map (text_of names) f) after) (sym once_is) (sym function_is);
}

-- the function whose rules may follow a rule
abbrev pub next_function : Bool → NameId → Option NameId
next_function true text = Some text
next_function false text = None

next_text : (names : List (List ℕ)) (goes_on : Bool) (name : code.Name) → function_of (Rule goes_on (name_meaning names name)) ≡ option_map (text_of names) (next_function goes_on name.text)
next_text names true name = refl
next_text names false name = refl

next_known : (names : List (List ℕ)) (goes_on : Bool) (text : NameId) → IsKnown names text → IfSome (next_function goes_on text) (IsKnown names)
next_known names true text known = known
next_known names false text known = tt

pub gathers_first : (owner : NameId) (names : List (List ℕ)) (a b : Block) (goes_on : Bool) (name : code.Name) → AllDiffer names → NameIsOf owner names name
    → is_function a.function name.text ≡ false → b.names.items ≡ a.names.items ++ name ∷ [] → b.signed.items ≡ a.signed.items → b.once.items ≡ a.once.items ++ name ∷ []
    → b.function ≡ next_function goes_on name.text → Gathers owner names a (Rule goes_on (name_meaning names name) ∷ []) [] b
gathers_first owner names a b goes_on name differ of other pushed signed_is once_is function_is = record {
  names_added = adds_one owner names a.names.items b.names.items name of pushed;
  signed_added = subst (Adds owner names a.signed.items []) (sym signed_is) (adds_none owner names a.signed.items);
  keeps = λ is. record {
    once = subst (All (NameIsOf owner names)) (sym once_is) (All-push (NameIsOf owner names) a.once.items name is.once of);
    function = subst (λ f. IfSome f (IsKnown names)) (sym function_is) (next_known names goes_on name.text of.text);
  };
  once = λ is after.
      ap (λ zs. names_meaning names a.once.items ++ zs)
      (rule_first (function_text names a) goes_on (name_meaning names name) after (function_continues names a.function goes_on name differ is.function of.text ∙ other)
      ∙ ap (λ f. name_meaning names name ∷ declared_once f after) (next_text names goes_on name))
      ∙ sym (append_assoc (names_meaning names a.once.items) (name_meaning names name ∷ []) (declared_once (option_map (text_of names) (next_function goes_on name.text)) after))
      ∙ ap₂ (λ xs f. xs ++ declared_once (option_map (text_of names) f) after)
      (sym (ap (names_meaning names) once_is ∙ map-append (name_meaning names) a.once.items (name ∷ []))) (sym function_is);
}

-- ---- names that are declared together

together : (function : Option (List ℕ)) (xs : List Name) (after : List Declared) → declared_once function (Names xs ∷ after) ≡ xs ++ declared_once None after
together None xs after = refl
together (Some function) xs after = refl

pub gathers_names : (owner : NameId) (names : List (List ℕ)) (a b : Block) (xs : List code.Name) → All (NameIsOf owner names) xs
    → b.names.items ≡ a.names.items ++ xs → b.signed.items ≡ a.signed.items → b.once.items ≡ a.once.items ++ xs → b.function ≡ None
    → Gathers owner names a (Names (names_meaning names xs) ∷ []) [] b
gathers_names owner names a b xs of extended signed_is once_is function_is = record {
  names_added = subst (λ ys. Adds owner names a.names.items ys b.names.items) (sym (append-nil (names_meaning names xs))) (adds_all owner names a.names.items b.names.items xs of extended);
  signed_added = subst (Adds owner names a.signed.items []) (sym signed_is) (adds_none owner names a.signed.items);
  keeps = λ is. record {
    once = subst (All (NameIsOf owner names)) (sym once_is) (All-append (NameIsOf owner names) a.once.items xs is.once of);
    function = subst (λ f. IfSome f (IsKnown names)) (sym function_is) tt;
  };
  once = λ is after.
      ap (λ zs. names_meaning names a.once.items ++ zs) (together (function_text names a) (names_meaning names xs) after)
      ∙ sym (append_assoc (names_meaning names a.once.items) (names_meaning names xs) (declared_once None after))
      ∙ ap₂ (λ ys f. ys ++ declared_once (option_map (text_of names) f) after)
      (sym (ap (names_meaning names) once_is ∙ map-append (name_meaning names) a.once.items xs)) (sym function_is);
}

pub gathers_signed : (owner : NameId) (names : List (List ℕ)) (a b : Block) (xs : List code.Name) → All (NameIsOf owner names) xs
    → b.signed.items ≡ a.signed.items ++ xs → b.names.items ≡ a.names.items → b.once.items ≡ a.once.items → b.function ≡ a.function
    → Gathers owner names a [] (names_meaning names xs) b
gathers_signed owner names a b xs of extended names_is once_is function_is = record {
  names_added = subst (Adds owner names a.names.items []) (sym names_is) (adds_none owner names a.names.items);
  signed_added = adds_all owner names a.signed.items b.signed.items xs of extended;
  keeps = λ is. record {
    once = subst (All (NameIsOf owner names)) (sym once_is) is.once;
    function = subst (λ f. IfSome f (IsKnown names)) (sym function_is) is.function;
  };
  once = λ is after. ap₂ (λ ys f. names_meaning names ys ++ declared_once (option_map (text_of names) f) after) (sym once_is) (sym function_is);
}

-- ---- the variables of a pattern

-- the variables that were found first, each once
pub bound_once : (owner : NameId) (names : List (List ℕ)) (p : Pattern) (fresh found : Found) (slice variables : List code.Name) → fresh.variables.items ≡ [] → slice ≡ found.variables.items
    → Adds owner names fresh.variables.items (pattern_binds names p) found.variables.items → Adds owner names [] (once [] (names_meaning names slice)) variables
    → (names_meaning names variables ≡ once [] (pattern_binds names p)) × All (NameIsOf owner names) variables
bound_once owner names p fresh found slice variables empty sliced adds places = (
  places.adds ∙ ap (λ xs. once [] (names_meaning names xs)) sliced ∙ ap (once []) (adds.adds ∙ ap (λ xs. names_meaning names xs ++ pattern_binds names p) empty),
  places.owned (All-nil (NameIsOf owner names)),
)

pub found_owned : (owner : NameId) (names : List (List ℕ)) (fresh found slice : List code.Name) (xs : List Name) → fresh ≡ [] → slice ≡ found → Adds owner names fresh xs found → All (NameIsOf owner names) slice
found_owned owner names fresh found slice xs empty sliced adds =
    subst (All (NameIsOf owner names)) (sym sliced) (adds.owned (subst (All (NameIsOf owner names)) (sym empty) (All-nil (NameIsOf owner names))))

-- ---- declarations

abbrev pub node_declares : List (List ℕ) → DeclarationNode → Declared
node_declares names (declaration.FreeVariables at xs) = Names (names_meaning names xs.items)
node_declares names (declaration.Signature at xs t) = Names []
node_declares names (declaration.FunctionRule at x ps right) = Rule (has_parameters (patterns_meaning names ps.items)) (name_meaning names x)
node_declares names (declaration.PatternBinding at p right) = Names (once [] (pattern_binds names p))

abbrev pub node_signs : List (List ℕ) → DeclarationNode → List Name
node_signs names (declaration.Signature at xs t) = names_meaning names xs.items
node_signs names _ = []

declared_node : (names : List (List ℕ)) (n : DeclarationNode) → node_declares names n ≡ names_by (declaration_node names n)
unfolding pattern_binds
declared_node names (declaration.FreeVariables at xs) = refl
declared_node names (declaration.Signature at xs t) = refl
declared_node names (declaration.FunctionRule at x ps right) = refl
declared_node names (declaration.PatternBinding at p right) = refl

signed_node : (names : List (List ℕ)) (n : DeclarationNode) → node_signs names n ≡ signed_by (declaration_node names n)
signed_node names (declaration.FreeVariables at xs) = refl
signed_node names (declaration.Signature at xs t) = refl
signed_node names (declaration.FunctionRule at x ps right) = refl
signed_node names (declaration.PatternBinding at p right) = refl

declares_node : (names : List (List ℕ)) (d : Declaration) (n : DeclarationNode) → declaration_node names n ≡ declaration_meaning names d → node_declares names n ≡ declares names d
unfolding declares
declares_node names d n meaning = declared_node names n ∙ ap names_by meaning

pub signs_node : (names : List (List ℕ)) (d : Declaration) (n : DeclarationNode) → declaration_node names n ≡ declaration_meaning names d → node_signs names n ≡ signs names d
unfolding signs
signs_node names d n meaning = signed_node names n ∙ ap signed_by meaning

pub declaration_gathered : (owner : NameId) (names : List (List ℕ)) (d : Declaration) (v n : DeclarationNode) (a b : Block) → declaration_node names v ≡ declaration_meaning names d → v ≡ n
    → Gathers owner names a (node_declares names n ∷ []) (node_signs names n) b → Gathers owner names a (declares names d ∷ []) (signs names d) b
declaration_gathered owner names d v n a b meaning is gathered =
    let meant = ap (declaration_node names) (sym is) ∙ meaning in
    subst (λ e. Gathers owner names a (e ∷ []) (signs names d) b) (declares_node names d n meant)
    (subst (λ xs. Gathers owner names a (node_declares names n ∷ []) xs b) (signs_node names d n meant) gathered)

false_unless : (b : Bool) → (b ≡ true → ⊥) → b ≡ false
false_unless true never = absurd (never refl)
false_unless false never = refl

not_none : (n : ℕ) → nat_eq (suc n) 0 ≡ false
not_none n = false_unless (nat_eq (suc n) 0) (λ e. let none = (Decides-eqb (suc n) 0).0 e in omega (arith, none))

pub with_parameters : (names : List (List ℕ)) (slice ps : List Pattern) (b : Bool) → slice ≡ ps → b ≡ nat_eq (length slice) 0 → not b ≡ has_parameters (patterns_meaning names ps)
with_parameters names slice ps b sliced is = ap not is ∙ ap (λ xs. not (nat_eq (length xs) 0)) sliced ∙ some ps
  where
    some : (xs : List Pattern) → not (nat_eq (length xs) 0) ≡ has_parameters (patterns_meaning names xs)
    some [] = refl
    some (x ∷ xs) = ap not (not_none (length xs))

-- ---- blocks

block_declares_cons : (names : List (List ℕ)) (d : Declaration) (ds : List Declaration) → block_declares names (d ∷ ds) ≡ (declares names d ∷ []) ++ block_declares names ds
unfolding block_declares declares
block_declares_cons names d ds = refl

block_signs_cons : (names : List (List ℕ)) (d : Declaration) (ds : List Declaration) → block_signs names (d ∷ ds) ≡ signs names d ++ block_signs names ds
unfolding block_signs signs
block_signs_cons names d ds = refl

block_declares_nil : (names : List (List ℕ)) → block_declares names [] ≡ []
unfolding block_declares
block_declares_nil names = refl

block_signs_nil : (names : List (List ℕ)) → block_signs names [] ≡ []
unfolding block_signs
block_signs_nil names = refl

pub block_prefix : (P : Declaration → Type 0) (owner : NameId) (names : List (List ℕ)) (xs : List Declaration) (i : ℕ) (x : Declaration) (a b c : Block) → x ≡ get_or xs i x → i < length xs → All P xs
    → (P x → Gathers owner names a (declares names x ∷ []) (signs names x) b) → Gathers owner names b (block_declares names (drop (i + 1) xs)) (block_signs names (drop (i + 1) xs)) c
    → Gathers owner names a (block_declares names (drop i xs)) (block_signs names (drop i xs)) c
block_prefix P owner names xs i x a b c is within all here suffix =
    subst (λ ys. Gathers owner names a ys (block_signs names (drop i xs)) c) (prefix (block_declares names) (λ d. declares names d ∷ []) (block_declares_cons names) xs i x is within)
    (subst (λ ys. Gathers owner names a ((declares names x ∷ []) ++ block_declares names (drop (i + 1) xs)) ys c) (prefix (block_signs names) (signs names) (block_signs_cons names) xs i x is within)
    (gathers_both (here (subst P (sym is) (All-get_or P xs i x within all))) suffix))

pub block_end : (owner : NameId) (names : List (List ℕ)) (xs : List Declaration) (i : ℕ) (a : Block) → length xs ≤ i → Gathers owner names a (block_declares names (drop i xs)) (block_signs names (drop i xs)) a
block_end owner names xs i a past =
    subst (λ ys. Gathers owner names a ys (block_signs names (drop i xs)) a) (sym (nothing_left (block_declares names) (block_declares_nil names) xs i past))
    (subst (λ ys. Gathers owner names a [] ys a) (sym (nothing_left (block_signs names) (block_signs_nil names) xs i past)) (gathers_none owner names a))

pub gathered_block : (owner : NameId) (names : List (List ℕ)) (a b : Block) (ds : List Declared) (ss : List Name) → IsEmpty a → Gathers owner names a ds ss b → IsBlockOf owner names ds ss b
gathered_block owner names a b ds ss empty g = record {
  is_names = g.names_added.adds ∙ ap (λ xs. names_meaning names xs ++ declared_names ds) empty.no_name;
  is_once = sym (append-nil (names_meaning names b.once.items)) ∙ sym (g.once start []) ∙ ap₂ (λ xs f. names_meaning names xs ++ declared_once (option_map (text_of names) f) (ds ++ [])) empty.no_rule empty.no_function
      ∙ ap (declared_once None) (append-nil ds);
  is_signed = g.signed_added.adds ∙ ap (λ xs. names_meaning names xs ++ ss) empty.no_signature;
  names_owned = g.names_added.owned (none empty.no_name);
  signed_owned = g.signed_added.owned (none empty.no_signature);
  owned = g.keeps start;
}
  where
    none : {xs : List code.Name} → xs ≡ [] → All (NameIsOf owner names) xs
    none is = subst (All (NameIsOf owner names)) (sym is) (All-nil (NameIsOf owner names))

    start : IsOfModule owner names a
    start = record { once = none empty.no_rule; function = subst (λ f. IfSome f (IsKnown names)) (sym empty.no_function) tt }

-- what a block asks, told in three parts
pub block_told : (w : World) (ds : List Declaration) (b : Block) (k m n z : FirstFault) → IsBlockOf w.owner w.names (block_declares w.names ds) (block_signs w.names ds) b
    → Told w k (map Repeats (repeated [] (names_meaning w.names b.once.items))) m → Told w m (map Repeats (repeated [] (names_meaning w.names b.signed.items))) n
    → Told w n (map Lacks (missing (texts (names_meaning w.names b.names.items)) (names_meaning w.names b.signed.items))) z → Told w k (block_asks w.names ds) z
unfolding block_asks block_declares block_signs
block_told w ds b k m n z is one two three =
    subst (λ es. Told w k es z) (ap (λ es. es ++ map Lacks (missing (texts (declared_names (block_declares w.names ds))) (block_signs w.names ds))) (sym (map-append Repeats (second (block_declares w.names ds)) (repeated [] (block_signs w.names ds)))))
    (told_both (told_both (subst (λ xs. Told w k (map Repeats (repeated [] xs)) m) is.is_once one) (subst (λ xs. Told w m (map Repeats (repeated [] xs)) n) is.is_signed two))
    (subst (λ xs. Told w n (map Lacks (missing (texts (declared_names (block_declares w.names ds))) xs)) z) is.is_signed
    (subst (λ xs. Told w n (map Lacks (missing (texts xs) (names_meaning w.names b.signed.items))) z) is.is_names three)))
