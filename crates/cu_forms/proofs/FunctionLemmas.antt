-- Rules and local functions, by what they are made of.
use Rattle.std.proofs.Common.{◌≡◌, ◌∙◌, ◌-◌, ◌≤◌, ℕ, zero, suc, true, false, List, [], ◌∷◌, ◌++◌, Option, None, length, drop, map, refl, sym, ap, ap₂, take}
use Rattle.std.proofs.Math.Seq.{take-length}
use Rattle.std.proofs.lemmas.List.{drop_all, length-drop, length-map}
use Rattle.std.specs.declared.alloc.Global.{Global}
use Rattle.std.specs.declared.boxed.Box.{Box}
use Rattle.std.specs.declared.vec.Vec.{Vec}
use Rattle.cu_calculus.specs.Term as calculus
use Rattle.cu_calculus.specs.declared.Mode.TheVariants.{Rigid}
use Rattle.cu_kernel.specs.LocalKernel as kernel
use Rattle.cu_kernel.specs.LocalKernelOf.{local_function_meaning, local_rule_meaning}
use Rattle.cu_kernel.specs.LocalTerm as terms
use Rattle.cu_kernel.specs.LocalTermsOf.{local_alternatives_of, local_term_of, local_term_of-Case}
use Rattle.cu_kernel.specs.TermsOf.{pattern_of}
use Rattle.cu_kernel.specs.declared.local.LocalFunction as code_function
use Rattle.cu_kernel.specs.declared.local.LocalRule as code_rule
use Rattle.cu_kernel.specs.declared.local.LocalTerm.{LocalTerm}
use Rattle.cu_kernel.specs.declared.local.LocalTerm.TheVariants as boxed
use Rattle.cu_kernel.specs.declared.term.Pattern as boxed_pattern
use Rattle.cu_lex.specs.Located.{Position}
use Rattle.cu_lex.specs.Reading.{position_of}
use Rattle.cu_names.specs.declared.names.NameId.{NameId}
use Rattle.cu_names.specs.declared.place.Place.{Place}
use Rattle.cu_syntax.specs.ExpressionMeaning.{expression_meaning}
use Rattle.cu_syntax.specs.Expressions.{expression_node, qualifiers_meaning}
use Rattle.cu_syntax.specs.Names.{name_meaning}
use Rattle.cu_syntax.specs.Patterns.{pattern_meaning, pattern_node}
use Rattle.cu_syntax.specs.Syntax as syntax
use Rattle.cu_syntax.specs.Syntax.{pattern_position}
use Rattle.cu_syntax.specs.declared.declarations.RightSide.{RightSide}
use Rattle.cu_syntax.specs.declared.expressions.Expression.{Expression}
use Rattle.cu_syntax.specs.declared.expressions.ExpressionNode.{ExpressionNode}
use Rattle.cu_syntax.specs.declared.expressions.ExpressionNode.TheVariants as node
use Rattle.cu_syntax.specs.declared.expressions.Qualifier.{Qualifier}
use Rattle.cu_syntax.specs.declared.name.Name as code
use Rattle.cu_syntax.specs.declared.patterns.Pattern as view
use Rattle.cu_syntax.specs.declared.patterns.PatternNode.{PatternNode}
use Rattle.cu_syntax.specs.declared.patterns.PatternNode.TheVariants as pattern_kind
use Rattle.cu_translation.specs.Around.{Around, Names, place_at}
use Rattle.cu_translation.specs.LocalFunctions as functions
use Rattle.cu_translation.specs.Functions.{goal_parameter}
use Rattle.cu_translation.specs.LocalNames.{At, Otherwise, Scope, Selected, Whole, variable_entries}
use Rattle.cu_translation.specs.Meaning.{Setting}
use Rattle.cu_translation.specs.PatternTable as table
use Rattle.cu_translation.specs.PatternTable.{patterns_of}
use Rattle.cu_uses.specs.Gathered.{names_meaning, pattern_binds, patterns_bind}
use Rattle.cu_forms.specs.Forms.{scope_after, comprehension_form, expression_form, pattern_form, right_form}
use Rattle.cu_forms.specs.Functions.{after_first, element_in, generator_form, goal_form, lambda_form, qualifiers_in, rule_form, selectors_of}
use Rattle.cu_forms.specs.Inside.Functions.{generator_of, is_variable, matched_term, parameter_of, rest_form, selector_of}
use Rattle.cu_forms.specs.Inside.Lists.{list_term}
use Rattle.cu_forms.proofs.PatternLemmas.{count_is, forms_are, patterns_are}

abbrev pub rule_with : Vec boxed_pattern.Pattern Global → LocalTerm → code_rule.LocalRule
rule_with params body = record { params = params; body = body }

pub take_rest : {X : Type 0} (n : ℕ) (xs : List X) → take (length xs - n) (drop n xs) ≡ drop n xs
take_rest n xs = ap (λ m. take m (drop n xs)) (sym (length-drop n xs)) ∙ take-length (drop n xs)

pub after_all : {X : Type 0} (n : ℕ) (xs : List X) → length xs ≤ n → [] ≡ drop n xs
after_all n xs past = sym (drop_all n xs past)

abbrev place_in : NameId → Place → Place
place_in owner place = record { «module» = owner; line = place.line; column = place.column }

pub placed_in : (names : Names) (owner : NameId) (place : Place) → owner ≡ names.owner → place_in owner place ≡ place_at names (position_of place)
placed_in names owner place is = ap (λ o. place_in o place) is

-- a rule of patterns and a term
abbrev rule_on : calculus.Patterns → terms.LocalTerm → kernel.LocalRule
rule_on ps t = record { params = ps; body = t }

pub rule_is : (w : Setting) (local : Scope) (ps : List view.Pattern) (right : RightSide) (params : Vec boxed_pattern.Pattern Global) (body : LocalTerm)
    → map pattern_of params.items ≡ map (pattern_form w At) ps → local_term_of body ≡ right_form w (variable_entries (patterns_bind w.names ps) ++ local) right
    → local_rule_meaning (rule_with params body) ≡ rule_form w local ps right
unfolding rule_form
rule_is w local ps right params body matched same =
    ap₂ rule_on (patterns_are params.items ∙ ap patterns_of matched ∙ forms_are w At ps) same

-- ---- new functions

abbrev function_on : Place → ℕ → List kernel.LocalRule → kernel.LocalFunction
function_on place n rules = record { place = place; declared = None; arity = n; rules = rules }

abbrev pub function_with : Place → ℕ → Vec code_rule.LocalRule Global → code_function.LocalFunction
function_with place n rules = record { place = place; declared = None; arity = n; rules = rules }

pub new_is : (w : Setting) (at : Position) (place : Place) (n : ℕ) (params : Vec boxed_pattern.Pattern Global) (body : LocalTerm) (rules : Vec code_rule.LocalRule Global)
    → place ≡ place_at w.around.names at → n ≡ length params.items → rules.items ≡ rule_with params body ∷ []
    → local_function_meaning (function_with place n rules) ≡ functions.new_function w.around at (map pattern_of params.items) (local_term_of body)
new_is w at place n params body rules placed size one =
    ap₂ (λ p rs. function_on p n rs) placed (ap (map local_rule_meaning) one)
    ∙ ap₂ (λ m ps. function_on (place_at w.around.names at) m (rule_on ps (local_term_of body) ∷ [])) (size ∙ sym (length-map params.items pattern_of)) (patterns_are params.items)

pub lambda_is : (w : Setting) (local : Scope) (at : Position) (ps : List view.Pattern) (e : Expression) (qs : List calculus.Pattern) (t : terms.LocalTerm) → qs ≡ map (pattern_form w At) ps
    → t ≡ expression_form w (variable_entries (patterns_bind w.names ps) ++ local) e → functions.new_function w.around at qs t ≡ lambda_form w local at ps e
unfolding lambda_form expression_form patterns_bind
lambda_is w local at ps e qs t matched same =
    ap₂ (functions.new_function w.around at) matched same
    ∙ ap₂ (λ m rs. function_on (place_at w.around.names at) m (rule_on rs (expression_form w (variable_entries (patterns_bind w.names ps) ++ local) e) ∷ []))
    (length-map ps (pattern_form w At) ∙ sym (count_is w.names ps)) (forms_are w At ps)

-- ---- qualifiers

after_views : (names : List (List ℕ)) (n : ℕ) (qs : List Qualifier) → qualifiers_meaning names (drop n qs) ≡ after_first n (qualifiers_meaning names qs)
after_views names zero qs = refl
after_views names (suc n) [] = refl
after_views names (suc n) (q ∷ qs) = after_views names n qs

after_none : (n : ℕ) → syntax.NoQualifier ≡ after_first n syntax.NoQualifier
after_none zero = refl
after_none (suc n) = refl

-- the rest after so many qualifiers of an expression
abbrev rest_in : Setting → Scope → ℕ → syntax.Expression → terms.LocalTerm
rest_in w local n e = functions.rest_of w.around local (element_in e) (after_first n (qualifiers_in e))

pub rest_is : (w : Setting) (local : Scope) (whole : Expression) (v : ExpressionNode) (at : Place) (element : Expression) (qs : Vec Qualifier Global) (n : ℕ)
    → expression_node w.names v ≡ expression_meaning w.names whole → v ≡ node.Comprehension at element qs → comprehension_form w local element (drop n qs.items) ≡ rest_form w local whole n
unfolding rest_form comprehension_form expression_form
rest_is w local whole v at element qs n meaning is =
    ap (functions.rest_of w.around local (expression_meaning w.names element)) (after_views w.names n qs.items)
    ∙ ap (rest_in w local n) (ap (expression_node w.names) (sym is) ∙ meaning)

abbrev whole_alone : Setting → Scope → syntax.Expression → terms.LocalTerm
whole_alone w local e = functions.rest_of w.around local e syntax.NoQualifier

rest_of_other : (w : Setting) (local : Scope) (n : ℕ) (v : ExpressionNode) → ((at : Place) (element : Expression) (qs : Vec Qualifier Global) → v ≡ node.Comprehension at element qs → ⊥)
    → whole_alone w local (expression_node w.names v) ≡ rest_in w local n (expression_node w.names v)
rest_of_other w local n (node.Variable at x) none = ap (functions.rest_of w.around local (expression_node w.names (node.Variable at x))) (after_none n)
rest_of_other w local n (node.Constructor at x) none = ap (functions.rest_of w.around local (expression_node w.names (node.Constructor at x))) (after_none n)
rest_of_other w local n (node.Literal at found) none = ap (functions.rest_of w.around local (expression_node w.names (node.Literal at found))) (after_none n)
rest_of_other w local n (node.Application at f es) none = ap (functions.rest_of w.around local (expression_node w.names (node.Application at f es))) (after_none n)
rest_of_other w local n (node.Operators items) none = ap (functions.rest_of w.around local (expression_node w.names (node.Operators items))) (after_none n)
rest_of_other w local n (node.Lambda at ps e) none = ap (functions.rest_of w.around local (expression_node w.names (node.Lambda at ps e))) (after_none n)
rest_of_other w local n (node.Let at ds e) none = ap (functions.rest_of w.around local (expression_node w.names (node.Let at ds e))) (after_none n)
rest_of_other w local n (node.If at c t e) none = ap (functions.rest_of w.around local (expression_node w.names (node.If at c t e))) (after_none n)
rest_of_other w local n (node.Case at word e cases) none = ap (functions.rest_of w.around local (expression_node w.names (node.Case at word e cases))) (after_none n)
rest_of_other w local n (node.Tuple at es) none = ap (functions.rest_of w.around local (expression_node w.names (node.Tuple at es))) (after_none n)
rest_of_other w local n (node.TupleConstructor at k) none = ap (functions.rest_of w.around local (expression_node w.names (node.TupleConstructor at k))) (after_none n)
rest_of_other w local n (node.LeftSection at e x) none = ap (functions.rest_of w.around local (expression_node w.names (node.LeftSection at e x))) (after_none n)
rest_of_other w local n (node.RightSection at x e) none = ap (functions.rest_of w.around local (expression_node w.names (node.RightSection at x e))) (after_none n)
rest_of_other w local n (node.List at es) none = ap (functions.rest_of w.around local (expression_node w.names (node.List at es))) (after_none n)
rest_of_other w local n (node.Enumeration at e) none = ap (functions.rest_of w.around local (expression_node w.names (node.Enumeration at e))) (after_none n)
rest_of_other w local n (node.Comprehension at element qs) none = absurd (none at element qs refl)

pub rest_other : (w : Setting) (local : Scope) (whole : Expression) (v : ExpressionNode) (n : ℕ) → expression_node w.names v ≡ expression_meaning w.names whole
    → ((at : Place) (element : Expression) (qs : Vec Qualifier Global) → v ≡ node.Comprehension at element qs → ⊥) → comprehension_form w local whole [] ≡ rest_form w local whole n
unfolding rest_form comprehension_form expression_form
rest_other w local whole v n meaning none =
    ap (whole_alone w local) (sym meaning) ∙ rest_of_other w local n v none ∙ ap (rest_in w local n) meaning

-- ---- patterns of qualifiers

pub variable_is : (names : List (List ℕ)) (p : view.Pattern) (v : PatternNode) (x : code.Name) → pattern_node names v ≡ pattern_meaning names p → v ≡ pattern_kind.Variable x → true ≡ is_variable (pattern_meaning names p)
variable_is names p v x meaning is = ap is_variable (ap (pattern_node names) (sym is) ∙ meaning)

other_pattern : (names : List (List ℕ)) (v : PatternNode) → ((x : code.Name) → v ≡ pattern_kind.Variable x → ⊥) → false ≡ is_variable (pattern_node names v)
other_pattern names (pattern_kind.Variable x) none = absurd (none x refl)
other_pattern names (pattern_kind.Alias x p) none = refl
other_pattern names (pattern_kind.Wildcard at) none = refl
other_pattern names (pattern_kind.Literal at found) none = refl
other_pattern names (pattern_kind.Negative at n) none = refl
other_pattern names (pattern_kind.Constructed at c ps) none = refl
other_pattern names (pattern_kind.Tuple at ps) none = refl
other_pattern names (pattern_kind.List at ps) none = refl
other_pattern names (pattern_kind.Operators items) none = refl

pub variable_not : (names : List (List ℕ)) (p : view.Pattern) (v : PatternNode) → pattern_node names v ≡ pattern_meaning names p → ((x : code.Name) → v ≡ pattern_kind.Variable x → ⊥)
    → false ≡ is_variable (pattern_meaning names p)
variable_not names p v meaning none = other_pattern names v none ∙ ap is_variable meaning

on_variable : (around : Around) (at : Position) (p : syntax.Pattern) (rest : terms.LocalTerm) → is_variable p ≡ true
    → functions.new_function around at (table.pattern around At p ∷ []) rest ≡ functions.generator_function around at p rest
on_variable around at (syntax.PatternVariable x) rest e = refl
on_variable around at (syntax.As x p) rest e = let no : ⊥ = cc in absurd no
on_variable around at (syntax.Wildcard place) rest e = let no : ⊥ = cc in absurd no
on_variable around at (syntax.PatternLiteral place found) rest e = let no : ⊥ = cc in absurd no
on_variable around at (syntax.Constructed place c ps) rest e = let no : ⊥ = cc in absurd no
on_variable around at (syntax.PatternTuple place ps) rest e = let no : ⊥ = cc in absurd no
on_variable around at (syntax.PatternList place ps) rest e = let no : ⊥ = cc in absurd no
on_variable around at (syntax.PatternOperators place first others) rest e = let no : ⊥ = cc in absurd no

-- a function of the value that is to match a pattern
abbrev on_value : Around → Position → syntax.Pattern → terms.LocalTerm → kernel.LocalFunction
on_value around at p rest =
    functions.new_function around at (calculus.Any (around.numbers.variable (Whole (pattern_position p))) ∷ []) (matched_term around (pattern_position p) (table.pattern around At p) rest)

on_pattern : (around : Around) (at : Position) (p : syntax.Pattern) (rest : terms.LocalTerm) → is_variable p ≡ false → on_value around at p rest ≡ functions.generator_function around at p rest
unfolding list_term
on_pattern around at (syntax.PatternVariable x) rest e = let no : ⊥ = cc in absurd no
on_pattern around at (syntax.As x p) rest e = refl
on_pattern around at (syntax.Wildcard place) rest e = refl
on_pattern around at (syntax.PatternLiteral place found) rest e = refl
on_pattern around at (syntax.Constructed place c ps) rest e = refl
on_pattern around at (syntax.PatternTuple place ps) rest e = refl
on_pattern around at (syntax.PatternList place ps) rest e = refl
on_pattern around at (syntax.PatternOperators place first others) rest e = refl

pub generator_variable : (w : Setting) (at : Position) (p : view.Pattern) (rest : terms.LocalTerm) (qs : List calculus.Pattern) → true ≡ is_variable (pattern_meaning w.names p) → qs ≡ pattern_form w At p ∷ []
    → functions.new_function w.around at qs rest ≡ generator_of w at p rest
unfolding generator_of pattern_form
generator_variable w at p rest qs is matched =
    ap (λ ps. functions.new_function w.around at ps rest) matched ∙ on_variable w.around at (pattern_meaning w.names p) rest (sym is)

pub generator_matched : (w : Setting) (at place : Position) (p : view.Pattern) (rest t : terms.LocalTerm) (qs : List calculus.Pattern) (q : calculus.Pattern) → false ≡ is_variable (pattern_meaning w.names p)
    → place ≡ pattern_position (pattern_meaning w.names p) → qs ≡ calculus.Any (w.around.numbers.variable (Whole place)) ∷ [] → t ≡ matched_term w.around place q rest → q ≡ pattern_form w At p
    → functions.new_function w.around at qs t ≡ generator_of w at p rest
unfolding generator_of pattern_form
generator_matched w at place p rest t qs q is placed one same matched =
    ap₂ (functions.new_function w.around at) one same
    ∙ ap₂ (λ pos m. functions.new_function w.around at (calculus.Any (w.around.numbers.variable (Whole pos)) ∷ []) (matched_term w.around pos m rest)) placed matched
    ∙ on_pattern w.around at (pattern_meaning w.names p) rest (sym is)

pub matched_is : (around : Around) (at : Position) (q other : boxed_pattern.Pattern) (rest none whole : LocalTerm) (b : Box LocalTerm Global) (rows : Vec (boxed_pattern.Pattern × LocalTerm) Global)
    → b.value ≡ whole → local_term_of whole ≡ terms.Variable (around.numbers.variable (Whole at)) → rows.items ≡ (q, rest) ∷ (other, none) ∷ []
    → pattern_of other ≡ calculus.Any (around.numbers.variable (Otherwise at)) → local_term_of none ≡ list_term around.names []
    → local_term_of (boxed.Case Rigid b rows) ≡ matched_term around at (pattern_of q) (local_term_of rest)
matched_is around at q other rest none whole b rows held is both any empty =
    local_term_of-Case Rigid b rows
    ∙ ap₂ (terms.Case Rigid) (ap local_term_of held ∙ is)
    (ap local_alternatives_of both
    ∙ ap₂ (λ p t. terms.MoreAlternatives (pattern_of q) (local_term_of rest) (terms.MoreAlternatives p t terms.NoAlternative)) any empty)

pub generator_whole : (w : Setting) (local : Scope) (at : Position) (p : view.Pattern) (whole : Expression) (n : ℕ)
    → generator_of w at p (rest_form w (scope_after w local p) whole n) ≡ generator_form w local at p whole n
unfolding generator_of rest_form generator_form
generator_whole w local at p whole n = refl

-- ---- goals

map_twice : {X Y Z : Type 0} (f : Y → Z) (g : X → Y) (xs : List X) → map (λ x. f (g x)) xs ≡ map f (map g xs)
map_twice f g [] = refl
map_twice f g (x ∷ xs) = ap (λ ys. f (g x) ∷ ys) (map_twice f g xs)

pub goal_is : (w : Setting) (xs : List code.Name) (e : Expression) (params : Vec boxed_pattern.Pattern Global) (body : LocalTerm) → map pattern_of params.items ≡ map (parameter_of w) xs
    → local_term_of body ≡ expression_form w (variable_entries (names_meaning w.names xs)) e → local_rule_meaning (rule_with params body) ≡ goal_form w xs e
unfolding goal_form
goal_is w xs e params body matched same =
    ap₂ rule_on (patterns_are params.items ∙ ap patterns_of (matched ∙ map_twice (goal_parameter w.around) (name_meaning w.names) xs)) same

pub selector_is : (w : Setting) (p : view.Pattern) (x : code.Name) (t : terms.LocalTerm) (qs : List calculus.Pattern) → qs ≡ pattern_form w (Selected (position_of x.place)) p ∷ []
    → t ≡ terms.Variable (w.around.numbers.variable (Selected (position_of x.place) (position_of x.place))) → functions.new_function w.around (position_of x.place) qs t ≡ selector_of w p x
unfolding selector_of pattern_form
selector_is w p x t qs matched same = ap₂ (functions.new_function w.around (position_of x.place)) matched same

pub selectors_are : (w : Setting) (p : view.Pattern) (xs : List code.Name) → names_meaning w.names xs ≡ pattern_binds w.names p → map (selector_of w p) xs ≡ selectors_of w p
unfolding selectors_of selector_of
selectors_are w p xs same =
    map_twice (functions.selector w.around (pattern_meaning w.names p)) (name_meaning w.names) xs ∙ ap (map (functions.selector w.around (pattern_meaning w.names p))) same
