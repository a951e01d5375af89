-- Functions and their rules, by what they are made of.
use Rattle.std.proofs.Common.{◌≡◌, ◌∙◌, ◌<◌, ◌≤◌, ◌+◌, ℕ, zero, suc, List, [], ◌∷◌, ◌++◌, Some, arith, length, drop, get_or, map, refl, sym, ap, ap₂, subst, add-one}
use Rattle.std.proofs.lemmas.List.{append-nil, append_assoc, drop_all, map-append}
use Rattle.std.proofs.lemmas.Option.{slice_get-get_or, slice_get_within}
use Rattle.std.specs.List.{All, flat_map}
use Rattle.std.specs.Prelude.{slice_get}
use Rattle.std.specs.declared.alloc.Global.{Global}
use Rattle.std.specs.declared.vec.Vec.{Vec}
use Rattle.cu_faults.specs.Telling.{setting}
use Rattle.cu_forms.specs.Forms.{expression_form, right_form}
use Rattle.cu_forms.specs.Functions as form
use Rattle.cu_forms.specs.Functions.{generator_form, goal_form, lambda_form, rule_form, selectors_of}
use Rattle.cu_forms.specs.Scopes as scopes
use Rattle.cu_forms.specs.Scopes.{Sees, entries_in}
use Rattle.cu_forms.specs.declared.scope.Scope as code_scope
use Rattle.cu_kernel.specs.LocalKernel.{LocalFunction, LocalRule}
use Rattle.cu_lex.specs.Located.{Position}
use Rattle.cu_lex.specs.Reading.{position_of}
use Rattle.cu_locals.specs.Entries.{AreEntries}
use Rattle.cu_locals.specs.Text.{Text}
use Rattle.cu_names.specs.declared.place.Place.{Place}
use Rattle.cu_sites.specs.Meaning as site
use Rattle.cu_sites.specs.Meaning.{AreNodes, group_meaning, rule_meaning}
use Rattle.cu_sites.specs.declared.rules.Group as groups
use Rattle.cu_sites.specs.declared.rules.Rule as rules
use Rattle.cu_sites.specs.declared.sites.Node as nodes
use Rattle.cu_sites.specs.declared.sites.ScopeEntry.{ScopeEntry}
use Rattle.cu_syntax.specs.Declarations.{declarations_meaning}
use Rattle.cu_syntax.specs.ExpressionMeaning.{expression_meaning}
use Rattle.cu_syntax.specs.Patterns.{pattern_meaning, patterns_meaning}
use Rattle.cu_syntax.specs.Syntax as syntax
use Rattle.cu_syntax.specs.declared.declarations.Declaration.{Declaration}
use Rattle.cu_syntax.specs.declared.expressions.Expression.{Expression}
use Rattle.cu_syntax.specs.declared.name.Name as code_name
use Rattle.cu_syntax.specs.declared.patterns.Pattern.{Pattern}
use Rattle.cu_translation.specs.declared.local_names.Entry.{Entry}
use Rattle.cu_translation.specs.Around.{Around, Names}
use Rattle.cu_translation.specs.Functions.{around_goal, goal_parameter, goal_rule}
use Rattle.cu_translation.specs.LocalFunctions.{block_function, functions_at, functions_of, generator_function, rest_of, rule_of}
use Rattle.cu_translation.specs.LocalNames.{Scope, variable_entries}
use Rattle.cu_translation.specs.Meaning.{Setting, entries_meaning}
use Rattle.cu_translation.specs.PatternTable.{patterns_of}
use Rattle.cu_translation.specs.Rules.{pattern_count}
use Rattle.cu_translation.specs.Sites.{Bound, Function, Generated, Lambda, Node, Site}
use Rattle.cu_translation.specs.Table.{term}
use Rattle.cu_uses.specs.Binders.{pattern_variables}
use Rattle.cu_uses.specs.Gathered.{names_meaning, pattern_binds, patterns_bind}
use Rattle.cu_sites.proofs.CountLemmas.{NodeAt}

-- ---- scopes

pub scope_seen : (t : Text) (a : Around) (local : Scope) (found slice : List Entry) (s : code_scope.Scope) → AreEntries t local found → slice ≡ found → entries_in s ≡ slice
    → Sees (setting t a) local s
scope_seen t a local found slice s are sliced seen =
    let e : entries_in s ≡ found = seen ∙ sliced in
    record {
      differ = t.differ;
      known = subst (All (scopes.EntryIsKnown t.names)) (sym e) are.known;
      entries = ap (entries_meaning t.names) e ∙ are.meaning;
    }

-- ---- rules

pub counted : (names : List (List ℕ)) (ps : List Pattern) → length ps ≡ pattern_count (patterns_meaning names ps)
counted names [] = refl
counted names (p ∷ ps) = sym (ap (λ n. n + 1) (sym (counted names ps)) ∙ add-one (length ps))

pub rule_is : (w : Setting) (local : Scope) (ps : List Pattern) (r : rules.Rule) → ps ≡ r.parameters.items
    → rule_form w local ps r.right ≡ rule_of w.around local (rule_meaning w.names r)
unfolding rule_form right_form patterns_bind
rule_is w local ps r same = ap (λ qs. rule_form w local qs r.right) same

-- the rules of a function, by their views
abbrev pub rule_in : Around → Text → Scope → rules.Rule → LocalRule
rule_in a t local r = rule_of a local (rule_meaning t.names r)

pub others_are : (a : Around) (t : Text) (local : Scope) (rs : List rules.Rule) → map (rule_in a t local) rs ≡ map (rule_of a local) (map (rule_meaning t.names) rs)
others_are a t local [] = refl
others_are a t local (r ∷ rs) = ap (λ ys. rule_in a t local r ∷ ys) (others_are a t local rs)

-- ---- local functions

pub lambda_is : (t : Text) (a : Around) (local : Scope) (place : Place) (slice ps : List Pattern) (body : Expression) (s : Site) → slice ≡ ps
    → s ≡ Lambda (position_of place) (patterns_meaning t.names ps) (expression_meaning t.names body)
    → lambda_form (setting t a) local (position_of place) slice body ∷ [] ≡ functions_at a local s
unfolding lambda_form
lambda_is t a local place slice ps body s same is =
    ap (λ qs. lambda_form (setting t a) local (position_of place) qs body ∷ []) same ∙ sym (ap (functions_at a local) is)

-- what a comprehension has after so many qualifiers

same_qualifiers : (e : syntax.Expression) → form.qualifiers_in e ≡ site.qualifiers_in e
same_qualifiers (syntax.Variable at name) = refl
same_qualifiers (syntax.Constructor at name) = refl
same_qualifiers (syntax.LiteralExpression at found) = refl
same_qualifiers (syntax.Application at f es) = refl
same_qualifiers (syntax.Operators at minus e rest) = refl
same_qualifiers (syntax.Lambda at ps e) = refl
same_qualifiers (syntax.Let at ds e) = refl
same_qualifiers (syntax.If at p q r) = refl
same_qualifiers (syntax.Case at word e cases) = refl
same_qualifiers (syntax.Tuple at es) = refl
same_qualifiers (syntax.TupleConstructor at n) = refl
same_qualifiers (syntax.LeftSection at e name) = refl
same_qualifiers (syntax.RightSection at name e) = refl
same_qualifiers (syntax.ListOf at es) = refl
same_qualifiers (syntax.Enumeration at p q r) = refl
same_qualifiers (syntax.Comprehension at e qs) = refl

same_element : (e : syntax.Expression) → form.element_in e ≡ site.element_in e
same_element (syntax.Variable at name) = refl
same_element (syntax.Constructor at name) = refl
same_element (syntax.LiteralExpression at found) = refl
same_element (syntax.Application at f es) = refl
same_element (syntax.Operators at minus e rest) = refl
same_element (syntax.Lambda at ps e) = refl
same_element (syntax.Let at ds e) = refl
same_element (syntax.If at p q r) = refl
same_element (syntax.Case at word e cases) = refl
same_element (syntax.Tuple at es) = refl
same_element (syntax.TupleConstructor at n) = refl
same_element (syntax.LeftSection at e name) = refl
same_element (syntax.RightSection at name e) = refl
same_element (syntax.ListOf at es) = refl
same_element (syntax.Enumeration at p q r) = refl
same_element (syntax.Comprehension at e qs) = refl

same_after : (n : ℕ) (qs : syntax.Qualifiers) → form.after_first n qs ≡ site.qualifiers_after n qs
same_after zero qs = refl
same_after (suc n) syntax.NoQualifier = refl
same_after (suc n) (syntax.MoreQualifiers q qs) = same_after n qs

abbrev generated_from : Around → Scope → Position → syntax.Pattern → syntax.Qualifiers → syntax.Expression → LocalFunction
generated_from a local at p qs e = generator_function a at p (rest_of a (variable_entries (pattern_variables p) ++ local) e qs)

pub generator_is : (t : Text) (a : Around) (local : Scope) (place : Place) (p : Pattern) (whole : Expression) (n : ℕ) (s : Site)
    → s ≡ Generated (position_of place) (pattern_meaning t.names p) (site.qualifiers_after n (site.qualifiers_in (expression_meaning t.names whole))) (site.element_in (expression_meaning t.names whole))
    → generator_form (setting t a) local (position_of place) p whole n ∷ [] ≡ functions_at a local s
unfolding generator_form pattern_binds
generator_is t a local place p whole n s is =
    let e = expression_meaning t.names whole in
    ap₂ (λ qs element. generated_from a local (position_of place) (pattern_meaning t.names p) qs element ∷ [])
    (same_after n (form.qualifiers_in e) ∙ ap (site.qualifiers_after n) (same_qualifiers e)) (same_element e)
    ∙ sym (ap (functions_at a local) is)

pub selectors_are : (t : Text) (a : Around) (local : Scope) (p : Pattern) (right : syntax.RightSide) (s : Site) → s ≡ Bound (pattern_meaning t.names p) right
    → selectors_of (setting t a) p ≡ functions_at a local s
unfolding selectors_of pattern_binds
selectors_are t a local p right s is = sym (ap (functions_at a local) is)

-- the function of a block
pub block_is : (t : Text) (a : Around) (local : Scope) (block : Vec Declaration Global) (slice : List Declaration) (g : groups.Group) (s : Site) → slice ≡ block.items
    → s ≡ Function (declarations_meaning t.names block.items) (group_meaning t.names g)
    → block_function a local (declarations_meaning t.names slice) (group_meaning t.names g) ∷ [] ≡ functions_at a local s
block_is t a local block slice g s same is =
    ap (λ ds. block_function a local (declarations_meaning t.names ds) (group_meaning t.names g) ∷ []) same ∙ sym (ap (functions_at a local) is)

-- the block that is found is the one that stands at its number
pub block_there : (bs xs : List (Vec Declaration Global)) (k : ℕ) (found block : Vec Declaration Global) → xs ≡ bs → k < length xs → found ≡ get_or xs k found → slice_get bs k ≡ Some block
    → found ≡ block
block_there bs xs k found block same within is stands =
    let there : slice_get xs k ≡ Some (get_or xs k found) = slice_get-get_or xs k found within in
    let e : Some found ≡ Some block = ap Some is ∙ sym there ∙ ap (λ ys. slice_get ys k) same ∙ stands in
    let found_is : found ≡ block = cc in found_is

-- there is one
pub no_block : (bs xs : List (Vec Declaration Global)) (k : ℕ) (block : Vec Declaration Global) → xs ≡ bs → length xs ≤ k → slice_get bs k ≡ Some block → ⊥
no_block bs xs k block same beyond stands =
    let within : k < length bs = slice_get_within bs k block stands in
    omega (arith, within, ap length same, beyond)

-- no function stands at other sites
pub none_at : (a : Around) (local : Scope) (s r : Site) → s ≡ r → functions_at a local r ≡ [] → [] ≡ functions_at a local s
none_at a local s r is none = sym (ap (functions_at a local) is ∙ none)

-- ---- all functions of a text

nodes_past : (t : Text) (es : List ScopeEntry) (bs : List (Vec Declaration Global)) (xs : List nodes.Node) (ns : List Node) (i : ℕ) → length xs ≤ i → AreNodes t es bs xs ns → drop i ns ≡ []
nodes_past t es bs [] [] i beyond are = drop_all i [] (omega arith)
nodes_past t es bs [] (n ∷ ns) i beyond are = absurd are
nodes_past t es bs (y ∷ xs) [] i beyond are = absurd are
nodes_past t es bs (y ∷ xs) (n ∷ ns) zero beyond are = absurd (omega (arith, beyond))
nodes_past t es bs (y ∷ xs) (n ∷ ns) (suc i) beyond are = nodes_past t es bs xs ns i (omega (arith, beyond)) are.1

-- those found, and those of the nodes that are left, are all
pub found_more : {T : Type 0} (meaning : T → LocalFunction) (a : Around) (t : Text) (es : List ScopeEntry) (bs : List (Vec Declaration Global)) (x : nodes.Node) (i : ℕ) (ns : List Node)
    (before found after : List T) (whole : List LocalFunction) → (at : NodeAt t es bs x i ns) → after ≡ before ++ found → map meaning found ≡ functions_of a at.n
    → map meaning before ++ flat_map (functions_of a) (drop i ns) ≡ whole → map meaning after ++ flat_map (functions_of a) (drop (i + 1) ns) ≡ whole
found_more meaning a t es bs x i ns before found after whole at pushed same is =
    ap (λ fs. map meaning fs ++ flat_map (functions_of a) (drop (i + 1) ns)) pushed
    ∙ ap (λ ys. ys ++ flat_map (functions_of a) (drop (i + 1) ns)) (map-append meaning before found)
    ∙ append_assoc (map meaning before) (map meaning found) (flat_map (functions_of a) (drop (i + 1) ns))
    ∙ ap (λ ys. map meaning before ++ (ys ++ flat_map (functions_of a) (drop (i + 1) ns))) same
    ∙ ap (λ zs. map meaning before ++ flat_map (functions_of a) zs) (sym at.split)
    ∙ is

pub found_all : {T : Type 0} (meaning : T → LocalFunction) (a : Around) (t : Text) (es : List ScopeEntry) (bs : List (Vec Declaration Global)) (xs : List nodes.Node) (i : ℕ) (ns : List Node)
    (found : List T) (whole : List LocalFunction) → length xs ≤ i → AreNodes t es bs xs ns
    → map meaning found ++ flat_map (functions_of a) (drop i ns) ≡ whole → map meaning found ≡ whole
found_all meaning a t es bs xs i ns found whole beyond are is =
    sym (append-nil (map meaning found)) ∙ ap (λ zs. map meaning found ++ flat_map (functions_of a) zs) (sym (nodes_past t es bs xs ns i beyond are)) ∙ is

-- ---- goals

abbrev rule_on : Names → syntax.Goal → List syntax.Name → syntax.Expression → LocalRule
rule_on names goal free e = record {
  params = patterns_of (map (goal_parameter (around_goal names goal)) free);
  body = term (around_goal names goal) (variable_entries free) e;
}

pub goal_rule_is : (t : Text) (names : Names) (goal : syntax.Goal) (xs : List code_name.Name) (e : Expression) → names_meaning t.names xs ≡ goal.free
    → expression_meaning t.names e ≡ goal.expression → goal_form (setting t (around_goal names goal)) xs e ≡ goal_rule names goal
unfolding goal_form expression_form
goal_rule_is t names goal xs e free expression = ap₂ (rule_on names goal) free expression
