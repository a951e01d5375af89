-- What is written of views whose parts stand at spots that are entered.
use Rattle.std.proofs.Common.{◌≡◌, ◌∙◌, ◌<◌, inl, inr, ℕ, Bool, true, false, List, [], ◌∷◌, Option, None, Some, Result, OnOk, eqb, length, map, refl, sym, ap, ap₂, subst}
use Rattle.std.proofs.lemmas.List.Elements.{All-nil, All-push}
use Rattle.std.specs.List.{All}
use Rattle.std.specs.Vec.{vec_len}
use Rattle.std.specs.declared.alloc.Global.{Global}
use Rattle.std.specs.declared.vec.Vec.{Vec}
use Rattle.cu_lex.specs.Located.{Position}
use Rattle.cu_lex.specs.Reading.{position_of}
use Rattle.cu_names.specs.declared.place.Place.{Place}
use Rattle.cu_syntax.specs.declared.declarations.RightSide.{RightSide}
use Rattle.cu_syntax.specs.declared.declarations.Declaration.{Declaration}
use Rattle.cu_syntax.specs.declared.expressions.Expression.{Expression}
use Rattle.cu_syntax.specs.declared.expressions.ExpressionNode.{ExpressionNode}
use Rattle.cu_syntax.specs.declared.expressions.ExpressionNode.TheVariants as expression
use Rattle.cu_syntax.specs.declared.expressions.Qualifier.{Qualifier}
use Rattle.cu_syntax.specs.declared.expressions.Qualifier.TheVariants as qualifier
use Rattle.cu_syntax.specs.declared.name.Name as code
use Rattle.cu_syntax.specs.declared.patterns.Pattern.{Pattern}
use Rattle.cu_syntax.specs.Declarations.{declarations_meaning, right_meaning}
use Rattle.cu_syntax.specs.ExpressionMeaning.{expression_meaning}
use Rattle.cu_syntax.specs.Expressions.{expression_node}
use Rattle.cu_syntax.specs.Names.{name_meaning}
use Rattle.cu_syntax.specs.Owners.{ExpressionIsOf, NameIsOf, PatternIsOf, PlaceIsOf, QualifierIsOf}
use Rattle.cu_syntax.specs.Patterns.{pattern_meaning, patterns_meaning}
use Rattle.cu_syntax.specs.Syntax as syntax
use Rattle.cu_translation.specs.Rules.{Begun, begun_by, goes_on, leading, rules_in}
use Rattle.cu_translation.specs.Sites.{Bound, Defined, Free, Generated, Lambda, Matched, Operation, Spot, in_function, node, past, with}
use Rattle.cu_uses.specs.Gathered.{Adds, names_meaning, pattern_binds, patterns_bind}
use Rattle.cu_uses.proofs.FoundLemmas.{on_ok}
use Rattle.cu_locals.specs.declared.begun.Begun as begun
use Rattle.cu_locals.specs.Text.{Text}
use Rattle.cu_locals.specs.BegunFound.{BegunIsKnown, IsBefore, begun_for, begun_meaning, continues}
use Rattle.cu_locals.proofs.BegunLemmas.{begun_texts, goes_on_texts}
use Rattle.cu_locals.proofs.EntryLemmas.{none_there, some_there}
use Rattle.cu_sites.specs.declared.rules.Group as groups
use Rattle.cu_sites.specs.declared.rules.Rule as rules
use Rattle.cu_sites.specs.declared.sites.Site as sites
use Rattle.cu_sites.specs.declared.sites.Site.TheVariants as site
use Rattle.cu_sites.specs.declared.sites.Sites.{Sites}
use Rattle.cu_sites.specs.declared.sites.Spot as spots
use Rattle.cu_sites.specs.declared.walk.BlockSpot.{BlockSpot}
use Rattle.cu_sites.specs.declared.walk.Step.{Step}
use Rattle.cu_sites.specs.Meaning.{IsSpot, RuleIsOf, element_in, group_meaning, inside_at, qualifiers_in, rule_meaning}
use Rattle.cu_sites.specs.Inside.Entering.{Enters, IsAt, IsBlock, Pushes, Writes}
use Rattle.cu_sites.specs.Inside.Walked.{IsComprehension, IsInner, IsStep, expression_has, function_has, inner_rule_has, lambda_has, one_of, patterns_of, qualifier_has, qualifier_of, right_has, rule_has}
use Rattle.cu_sites.specs.Inside.RulesFound.{AreRules}
use Rattle.cu_sites.proofs.RuleLemmas.{rules_of_views}
use Rattle.cu_sites.proofs.SpotLemmas.{at_after, writes_both, writes_one}
use Rattle.cu_sites.proofs.WalkLemmas.{first_rule_has, function_written, has_some, matched_written, next_rule_has, one_matched, qualifier_writes, rules_listed, variable_has}

-- ---- spots

pub at_pushed : {t : Text} {a b : Sites} {x found : spots.Spot} {s : sites.Site} {spot : Spot} → Pushes x s a b → IsAt t a found spot → IsAt t b found spot
at_pushed {t = t} {found = found} {spot = spot} pushed at =
    subst (λ es. IsSpot t es found spot) (sym (ap (λ es. es.items) pushed.entries)) at

-- after names that were found
pub enters_names : (t : Text) (a b : Sites) (F : List syntax.Name → Spot) (bound : List syntax.Name) (found slice : List code.Name) (inner : spots.Spot) → Adds t.owner t.names [] bound found → slice ≡ found
    → (All (NameIsOf t.owner t.names) slice → Enters t a (F (names_meaning t.names slice)) inner b) → Enters t a (F bound) inner b
enters_names t a b F bound found slice inner adds sliced enters =
    subst (λ xs. Enters t a (F xs) inner b) (ap (names_meaning t.names) sliced ∙ adds.adds)
    (enters (subst (All (NameIsOf t.owner t.names)) (sym sliced) (adds.owned (All-nil (NameIsOf t.owner t.names)))))

-- after the variables of patterns
pub enters_patterns : (t : Text) (a b : Sites) (F : List syntax.Name → Spot) (ps viewed : List Pattern) (found slice : List code.Name) (inner : spots.Spot) → viewed ≡ ps → All (PatternIsOf t.owner t.names) ps
    → (All (PatternIsOf t.owner t.names) viewed → Adds t.owner t.names [] (patterns_bind t.names viewed) found) → slice ≡ found
    → (All (NameIsOf t.owner t.names) slice → Enters t a (F (names_meaning t.names slice)) inner b) → Enters t a (F (patterns_bind t.names ps)) inner b
enters_patterns t a b F ps viewed found slice inner same all adds sliced enters =
    subst (λ xs. Enters t a (F (patterns_bind t.names xs)) inner b) same
    (enters_names t a b F (patterns_bind t.names viewed) found slice inner (adds (subst (All (PatternIsOf t.owner t.names)) (sym same) all)) sliced enters)

pub inner_is : {t : Text} {s : Sites} {at : spots.Spot} {number : ℕ} {spot : Spot} {block : syntax.Declarations} → IsAt t s at spot → IsBlock t s number block
    → IsInner t s (record { at = at; block = number }) spot block
inner_is at block = record { at = at; block_is = block }

-- ---- single nodes

pub operation_written : (t : Text) (a b : Sites) (at : spots.Spot) (e : Expression) (spot : Spot) → Pushes at (site.Operation e) a b → IsAt t a at spot → ExpressionIsOf t.owner t.names e
    → Writes t a (node spot (Operation (expression_meaning t.names e)) ∷ []) b
operation_written t a b at e spot pushed is of = writes_one t a b at (site.Operation e) spot (Operation (expression_meaning t.names e)) pushed is (refl, of) refl

pub free_written : (t : Text) (a b : Sites) (at : spots.Spot) (xs : Vec code.Name Global) (spot : Spot) → Pushes at (site.Free xs) a b → IsAt t a at spot → All (NameIsOf t.owner t.names) xs.items
    → Writes t a (node spot (Free (map (name_meaning t.names) xs.items)) ∷ []) b
free_written t a b at xs spot pushed is all = writes_one t a b at (site.Free xs) spot (Free (map (name_meaning t.names) xs.items)) pushed is (refl, all) refl

lambda_site : (t : Text) (a b : Sites) (at : spots.Spot) (place : Place) (copy : Vec Pattern Global) (ps : List Pattern) (body : Expression) (spot : Spot) → Pushes at (site.Lambda place copy body) a b
    → copy.items ≡ ps → IsAt t a at spot → PlaceIsOf t.owner place → All (PatternIsOf t.owner t.names) ps → ExpressionIsOf t.owner t.names body
    → Writes t a (node spot (Lambda (position_of place) (patterns_of t.names ps) (expression_meaning t.names body)) ∷ []) b
unfolding patterns_of
lambda_site t a b at place copy ps body spot pushed copied is placed all of =
    subst (λ xs. Writes t a (node spot (Lambda (position_of place) (patterns_meaning t.names xs) (expression_meaning t.names body)) ∷ []) b) copied
    (writes_one t a b at (site.Lambda place copy body) spot (Lambda (position_of place) (patterns_meaning t.names copy.items) (expression_meaning t.names body)) pushed is
    (refl, placed, subst (All (PatternIsOf t.owner t.names)) (sym copied) all, of) refl)

one_written : (t : Text) (a b : Sites) (at : spots.Spot) (copy : Vec Pattern Global) (p : Pattern) (spot : Spot) → Pushes at (site.Matched copy) a b → copy.items ≡ p ∷ [] → IsAt t a at spot
    → PatternIsOf t.owner t.names p → Writes t a (node spot (Matched (one_of t.names p)) ∷ []) b
one_written t a b at copy p spot pushed copied is of =
    subst (λ ps. Writes t a (node spot (Matched ps) ∷ []) b) (one_matched t.names p)
    (matched_written t a b at copy (p ∷ []) spot pushed copied is (All-push (PatternIsOf t.owner t.names) [] p (All-nil (PatternIsOf t.owner t.names)) of))

generated_site : (t : Text) (a b : Sites) (step : Step) (place : Place) (p : Pattern) (spot : Spot) (element : syntax.Expression) (others : syntax.Qualifiers) (q : Qualifier)
    → Pushes step.before (site.Generated place p step.whole step.number) a b → IsStep t a step spot element others q → PlaceIsOf t.owner place → PatternIsOf t.owner t.names p
    → Writes t a (node spot (Generated (position_of place) (pattern_meaning t.names p) others element) ∷ []) b
generated_site t a b step place p spot element others q pushed is placed of =
    writes_one t a b step.before (site.Generated place p step.whole step.number) spot (Generated (position_of place) (pattern_meaning t.names p) others element) pushed is.before
    (ap₂ (λ qs e. Generated (position_of place) (pattern_meaning t.names p) qs e) (sym is.follow) (sym is.element_is), placed, of, is.of) refl

-- ---- expressions

pub lambda_written : {A E : Type 0} (r : Result A E) (t : Text) (a b c d e : Sites) (at inner : spots.Spot) (place : Place) (ps copy : Vec Pattern Global) (body : Expression) (spot : Spot)
    → IsAt t a at spot → PlaceIsOf t.owner place → All (PatternIsOf t.owner t.names) ps.items → ExpressionIsOf t.owner t.names body → copy.items ≡ ps.items
    → Enters t a (in_function (position_of place) (patterns_bind t.names ps.items) spot) inner b → Pushes at (site.Lambda place copy body) b c → Pushes inner (site.Matched ps) c d
    → (IsAt t d inner (in_function (position_of place) (patterns_bind t.names ps.items) spot)
    → OnOk r (Writes t d (expression_has t.names (in_function (position_of place) (patterns_bind t.names ps.items) spot) body) e))
    → OnOk r (Writes t a (lambda_has t.names spot place ps.items body) e)
lambda_written r t a b c d e at inner place ps copy body spot is placed all of copied entered first second further =
    let there = in_function (position_of place) (patterns_bind t.names ps.items) spot in
    let one = lambda_site t b c at place copy ps.items body spot first copied (at_after entered.writes is) placed all of in
    let two = matched_written t c d inner ps ps.items there second refl (at_pushed first entered.at) all in
    on_ok r (λ last. writes_both entered.writes (writes_both one (writes_both two last))) (further (at_pushed second (at_pushed first entered.at)))

pub alternative_written : {A E : Type 0} (r : Result A E) (t : Text) (a b c d : Sites) (inner : spots.Spot) (copy : Vec Pattern Global) (p : Pattern) (right : RightSide) (spot : Spot)
    → PatternIsOf t.owner t.names p → copy.items ≡ p ∷ [] → Enters t a (with (pattern_binds t.names p) spot) inner b → Pushes inner (site.Matched copy) b c
    → (IsAt t c inner (with (pattern_binds t.names p) spot) → OnOk r (Writes t c (right_has t.names (with (pattern_binds t.names p) spot) right) d))
    → OnOk r (Writes t a (node (with (pattern_binds t.names p) spot) (Matched (one_of t.names p)) ∷ right_has t.names (with (pattern_binds t.names p) spot) right) d)
alternative_written r t a b c d inner copy p right spot of copied entered pushed further =
    let one = one_written t b c inner copy p (with (pattern_binds t.names p) spot) pushed copied entered.at of in
    on_ok r (λ last. writes_both entered.writes (writes_both one last)) (further (at_pushed pushed entered.at))

pub comprehension_is : (t : Text) (e : Expression) (v : ExpressionNode) (at : Place) (element : Expression) (qs : Vec Qualifier Global) → expression_node t.names v ≡ expression_meaning t.names e
    → v ≡ expression.Comprehension at element qs → ExpressionIsOf t.owner t.names e → All (QualifierIsOf t.owner t.names) qs.items
    → IsComprehension t e (expression_meaning t.names element) qs.items
comprehension_is t e v at element qs meaning is of all =
    let meant = sym meaning ∙ ap (expression_node t.names) is in
    record { of = of; qualifiers = all; has = ap qualifiers_in meant; element_is = ap element_in meant }

pub generator_written : {A E : Type 0} (r : Result A E) (t : Text) (a b c d : Sites) (step : Step) (spot : Spot) (element : syntax.Expression) (others : syntax.Qualifiers) (v : Qualifier) (place : Place) (p : Pattern) (list : Expression)
    (copy : Vec Pattern Global) → v ≡ qualifier.Generator place p list → IsStep t a step spot element others v → PlaceIsOf t.owner place → PatternIsOf t.owner t.names p → copy.items ≡ p ∷ []
    → Pushes step.before (site.Generated place p step.whole step.number) a b → Pushes step.after (site.Matched copy) b c
    → (IsAt t c step.before spot → OnOk r (Writes t c (expression_has t.names spot list) d)) → OnOk r (Writes t a (qualifier_has t.names spot element others v) d)
generator_written r t a b c d step spot element others v place p list copy is at placed of copied first second further =
    let there = subst (λ q. IsAt t a step.after (past (qualifier_of t.names q) spot)) is at.after_it in
    let one = generated_site t a b step place p spot element others v first at placed of in
    let two = one_written t b c step.after copy p (past (qualifier_of t.names (qualifier.Generator place p list)) spot) second copied (at_pushed first there) of in
    on_ok r (λ last. qualifier_writes t spot element others v (qualifier.Generator place p list) a d is (writes_both one (writes_both two last)))
    (further (at_pushed second (at_pushed first at.before)))

-- ---- rules of blocks

pub defined_inside : (names : List (List ℕ)) (spot : Spot) (x : code.Name) (right : RightSide) → inside_at spot (Defined (name_meaning names x) (right_meaning names right)) ≡ right_has names spot right
unfolding right_has
defined_inside names spot x right = refl

pub bound_inside : (names : List (List ℕ)) (spot : Spot) (p : Pattern) (right : RightSide) → inside_at spot (Bound (pattern_meaning names p) (right_meaning names right)) ≡ right_has names spot right
unfolding right_has
bound_inside names spot p right = refl

pub begun_none : (t : Text) → IsBefore t None None
begun_none t = record { meaning = refl; known = tt }

pub begun_next : (t : Text) (b : Option begun.Begun) (x : code.Name) (at : Place) (next : begun.Begun) → BegunIsKnown t b → NameIsOf t.owner t.names x → next ≡ begun_for b x at
    → IsBefore t (Some (begun_by (begun_meaning t b) (name_meaning t.names x) (position_of at))) (Some next)
begun_next t b x at next known of made =
    let is = begun_texts t b x at known of in
    subst (λ n. IsBefore t (Some (begun_by (begun_meaning t b) (name_meaning t.names x) (position_of at))) (Some n)) (sym made) (record { meaning = ap Some is.meaning; known = is.known })

begun_new : (b : Option Begun) (x : syntax.Name) (at : Position) → goes_on b x ≡ false → (begun_by b x at).at ≡ at
begun_new None x at stops = refl
begun_new (Some b) x at stops = rw stops refl

pub no_elements : {X : Type 0} (xs : Vec X Global) → eqb (vec_len xs) 0 ≡ true → xs.items ≡ []
no_elements xs e = none_there xs.items (subst (λ n. eqb n 0 ≡ true) xs.ok.0 e)

pub some_elements : {X : Type 0} (xs : Vec X Global) → eqb (vec_len xs) 0 ≡ false → 0 < length xs.items
some_elements xs e = some_there xs.items (subst (λ n. eqb n 0 ≡ false) xs.ok.0 e)

-- a rule that goes on with a function
pub rule_goes_on : {A E : Type 0} (r : Result A E) (t : Text) (a d : Sites) (b : Option begun.Begun) (others : List Declaration) (rule : rules.Rule) (function : begun.Begun) (spot : Spot) (block : syntax.Declarations) (goes : Bool)
    → BegunIsKnown t b → RuleIsOf t.owner t.names rule → goes ≡ continues b rule.name.text → goes ≡ true → function ≡ begun_for b rule.name rule.place
    → OnOk r (Writes t a (inner_rule_has t.names spot function.place rule) d) → OnOk r (Writes t a (rule_has t.names spot block (begun_meaning t b) others rule) d)
rule_goes_on r t a d b others rule function spot block goes known of is holds made =
    let on : goes_on (begun_meaning t b) (name_meaning t.names rule.name) ≡ true = sym (goes_on_texts t b rule.name known of.name) ∙ sym is ∙ holds in
    let is_begun = begun_texts t b rule.name rule.place known of.name in
    on_ok r (subst (λ ns. Writes t a ns d) (next_rule_has t spot block (begun_meaning t b) others rule function.place (has_some t.names rule.parameters.items (goes_on (begun_meaning t b) (name_meaning t.names rule.name)) (inr on)) on
    (ap (λ (f : begun.Begun). position_of f.place) made ∙ ap (λ (f : Begun). f.at) is_begun.meaning)))

-- a rule of a variable
pub rule_defines : {A E : Type 0} (r : Result A E) (t : Text) (a d : Sites) (b : Option begun.Begun) (others : List Declaration) (rule : rules.Rule) (spot : Spot) (block : syntax.Declarations) (goes : Bool)
    → BegunIsKnown t b → RuleIsOf t.owner t.names rule → goes ≡ continues b rule.name.text → goes ≡ false → rule.parameters.items ≡ []
    → OnOk r (Writes t a (node spot (Defined (name_meaning t.names rule.name) (right_meaning t.names rule.right)) ∷ right_has t.names spot rule.right) d)
    → OnOk r (Writes t a (rule_has t.names spot block (begun_meaning t b) others rule) d)
rule_defines r t a d b others rule spot block goes known of is fails none =
    on_ok r (subst (λ ns. Writes t a ns d) (variable_has t spot block (begun_meaning t b) others rule none (sym (goes_on_texts t b rule.name known of.name) ∙ sym is ∙ fails)))

-- the first rule of a function
pub rule_begins : {A E : Type 0} (r : Result A E) (t : Text) (a c d : Sites) (b : Option begun.Begun) (others : List Declaration) (rule : rules.Rule) (spot : Spot) (block : syntax.Declarations) (goes : Bool)
    → BegunIsKnown t b → RuleIsOf t.owner t.names rule → goes ≡ continues b rule.name.text → goes ≡ false → 0 < length rule.parameters.items
    → Writes t a (function_has t.names spot block others rule) c → OnOk r (Writes t c (inner_rule_has t.names spot rule.place rule) d)
    → OnOk r (Writes t a (rule_has t.names spot block (begun_meaning t b) others rule) d)
rule_begins r t a c d b others rule spot block goes known of is fails some first =
    let stops : goes_on (begun_meaning t b) (name_meaning t.names rule.name) ≡ false = sym (goes_on_texts t b rule.name known of.name) ∙ sym is ∙ fails in
    on_ok r (λ last. subst (λ ns. Writes t a ns d)
    (first_rule_has t spot block (begun_meaning t b) others rule rule.place (has_some t.names rule.parameters.items (goes_on (begun_meaning t b) (name_meaning t.names rule.name)) (inl some)) stops
    (sym (begun_new (begun_meaning t b) (name_meaning t.names rule.name) (position_of rule.place) stops)))
    (writes_both first last))

pub inner_rule_written : {A E : Type 0} (r : Result A E) (t : Text) (a b c d : Sites) (at inner : spots.Spot) (function : Place) (rule : rules.Rule) (spot : Spot)
    → All (PatternIsOf t.owner t.names) rule.parameters.items → Enters t a (in_function (position_of function) (patterns_bind t.names rule.parameters.items) spot) inner b
    → Pushes inner (site.Matched rule.parameters) b c
    → (IsAt t c inner (in_function (position_of function) (patterns_bind t.names rule.parameters.items) spot)
    → OnOk r (Writes t c (right_has t.names (in_function (position_of function) (patterns_bind t.names rule.parameters.items) spot) rule.right) d))
    → OnOk r (Writes t a (inner_rule_has t.names spot function rule) d)
inner_rule_written r t a b c d at inner function rule spot all entered pushed further =
    let there = in_function (position_of function) (patterns_bind t.names rule.parameters.items) spot in
    let one = matched_written t b c inner rule.parameters rule.parameters.items there pushed refl entered.at all in
    on_ok r (λ last. writes_both entered.writes (writes_both one last)) (further (at_pushed pushed entered.at))

-- a rule with a copy of its parameters, and the rules that follow it
abbrev pub group_with : rules.Rule → Vec Pattern Global → Vec rules.Rule Global → groups.Group
group_with r copy others = record { first = record { place = r.place; name = r.name; parameters = copy; right = r.right }; others = others }

group_found : (t : Text) (r : rules.Rule) (copy : Vec Pattern Global) (found : Vec rules.Rule Global) (others : List Declaration) → copy.items ≡ r.parameters.items
    → AreRules t (leading (name_meaning t.names r.name).text (rules_of_views t.names others)) found.items
    → group_meaning t.names (group_with r copy found) ≡ record { first = rule_meaning t.names r; others = leading (name_meaning t.names r.name).text (rules_in (declarations_meaning t.names others)) }
group_found t r copy found others copied are =
    ap₂ (λ ps os. record { first = record { at = position_of r.place; name = name_meaning t.names r.name; parameters = patterns_meaning t.names ps; right = right_meaning t.names r.right }; others = os }) copied
    (are.meaning ∙ ap (leading (name_meaning t.names r.name).text) (rules_listed t.names others))

pub first_written : (t : Text) (a b : Sites) (inner : BlockSpot) (copy : Vec Pattern Global) (found : Vec rules.Rule Global) (others : List Declaration) (r : rules.Rule) (spot : Spot) (block : syntax.Declarations)
    → Pushes inner.at (site.Function inner.block (group_with r copy found)) a b → IsInner t a inner spot block → copy.items ≡ r.parameters.items → RuleIsOf t.owner t.names r
    → AreRules t (leading (name_meaning t.names r.name).text (rules_of_views t.names others)) found.items → Writes t a (function_has t.names spot block others r) b
first_written t a b inner copy found others r spot block pushed is copied of are =
    function_written t a b inner (group_with r copy found) others r spot block pushed is
    (record {
      first = record { place = of.place; name = of.name; parameters = subst (All (PatternIsOf t.owner t.names)) (sym copied) of.parameters; right = of.right };
      others = are.owned;
    })
    (group_found t r copy found others copied are)
