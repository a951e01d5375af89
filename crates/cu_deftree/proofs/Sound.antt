-- What the flat program concludes, the program concludes.
use Rattle.std.proofs.Common.{◌≡◌, ◌≢◌, ℕ, zero, suc, ◌+◌, ◌⊎◌, inl, inr, Bool, true, false, ◌&&◌, List, [], ◌∷◌, ◌++◌, length, map, nat_eq, Option, None, Some, option_map, slice_get, IsTrue, refl, ap, ap₂, sym, ◌∙◌, subst, arith, append-nil, eqb-true, ℤ}
use Rattle.std.specs.List.{list_all}
use Rattle.std.proofs.lemmas.Bool.{and_parts}
use Rattle.cu_calculus.specs.declared.ConId.{ConId}
use Rattle.cu_calculus.specs.declared.FunId.{FunId}
use Rattle.cu_calculus.specs.declared.Head.{Head}
use Rattle.cu_calculus.specs.declared.Head.TheVariants as head
use Rattle.cu_calculus.specs.declared.Lit.{Lit}
use Rattle.cu_calculus.specs.declared.Lit.TheVariants.{Char, Int}
use Rattle.cu_calculus.specs.declared.Mode.{Mode}
use Rattle.cu_calculus.specs.declared.builtin.Primitive.{Primitive}
use Rattle.cu_calculus.specs.declared.builtin.Primitive.TheVariants as prim
use Rattle.cu_calculus.specs.declared.builtin.Special.{Special}
use Rattle.cu_calculus.specs.Below as below
use Rattle.cu_calculus.specs.Below.{Below, EnvBelow}
use Rattle.cu_calculus.specs.Builtin as builtin
use Rattle.cu_calculus.specs.Builtin.{Answers, on_integers, on_literals, truth_of}
use Rattle.cu_calculus.specs.Choose.{alternative_at, list_patterns}
use Rattle.cu_calculus.specs.Claims.{Concludes, arguments_env, variables_from}
use Rattle.cu_calculus.specs.Gives as gives
use Rattle.cu_calculus.specs.Gives.{AllGive, Applied, AppliedTo, Claim, Gives, collected, listed}
use Rattle.cu_calculus.specs.Match.{Bindings, Environment, all_matched, bind, bind_all, empty, matched}
use Rattle.cu_calculus.specs.Program.{Body, Constructor, External, Function, Program, Rule, Rules, arity_in, function_of}
use Rattle.cu_calculus.specs.Shape.{are_of, is_allowed, is_of, takes, takes_more}
use Rattle.cu_calculus.specs.Term as term
use Rattle.cu_calculus.specs.Term.{Alternatives, Pattern, Patterns, Term, Terms}
use Rattle.cu_calculus.specs.Valid.{IsValid, all_variables, fit_patterns, fits_body, fits_function, fits_rule, fits_term, holds, is_arity, is_linear, pattern_count}
use Rattle.cu_calculus.specs.Value as value
use Rattle.cu_calculus.specs.Value.{Value, Values, count, list_of}
use Rattle.cu_calculus.proofs.BelowLaws.{below_itself, below_trans}
use Rattle.cu_calculus.proofs.Fitting.{any, fits_any}
use Rattle.cu_calculus.proofs.Lists.{passed_at}
use Rattle.cu_calculus.proofs.Matches.{bind_all_rises, matched_rises}
use Rattle.cu_calculus.proofs.Weaken.{bind_all_below, bind_below}
use Rattle.cu_deftree.specs.Lowering.{Tree, is_variable, variables}
use Rattle.cu_deftree.specs.LoweredProgram as lowered
use Rattle.cu_deftree.specs.LoweredProgram.{Flattens, FunctionLowers}
use Rattle.cu_deftree.specs.Rows.{Names, Row, name_of, names_at_all, numbers, row_of_rule}
use Rattle.cu_deftree.proofs.Converse.{FoundIn, bottom_or, high_not_held, numbers_count, numbers_linear, numbers_low, tree_converse, variables_are, variables_at}
use Rattle.cu_deftree.proofs.Levels.{stands_too}
use Rattle.cu_deftree.proofs.Meets.{all_matched_binds, all_matched_fits, all_shape_matched, bound_agrees, bound_in, others_stay}
use Rattle.cu_deftree.proofs.Opening.{AllLow, At, Known, Low, known_all, low_names_at_all}
use Rattle.cu_deftree.proofs.Shows as shows
use Rattle.cu_deftree.proofs.Shows.{AllShow, Shows}
use Rattle.cu_deftree.proofs.Suits.{RowFits, RowsFit, Suits, from_list, listed_fit, patterns_count, to_list}

-- ---- built-in operations know a program by its built-in entities

pub truth_same : (one two : Program) → one.special ≡ two.special → (b : Bool) → truth_of one b ≡ truth_of two b
truth_same one two e true = ap (λ (s : Special). value.Constructed s.truth value.NoValue) e
truth_same one two e false = ap (λ (s : Special). value.Constructed s.falsity value.NoValue) e

integers_same : (one two : Program) → one.special ≡ two.special → (operation : Primitive) (m n : ℤ)
    → on_integers one operation m n ≡ on_integers two operation m n
integers_same one two e prim.Less m n = ap Some (truth_same one two e _)
integers_same one two e prim.AtMost m n = ap Some (truth_same one two e _)
integers_same one two e prim.Greater m n = ap Some (truth_same one two e _)
integers_same one two e prim.AtLeast m n = ap Some (truth_same one two e _)
integers_same one two e _ m n = refl

literals_same : (one two : Program) → one.special ≡ two.special → (operation : Primitive) (ls : List Lit)
    → on_literals one operation ls ≡ on_literals two operation ls
literals_same one two e operation (Int m ∷ Int n ∷ []) = integers_same one two e operation m n
literals_same one two e prim.Ord (Char c ∷ []) = refl
literals_same one two e prim.Chr (Int n ∷ []) = refl
literals_same one two e _ _ = refl

pub answers_same : (one two : Program) → one.special ≡ two.special → (operation : Primitive) (us : Values) (v : Value) → Answers one operation us v
    → Answers two operation us v
answers_same one two e _ _ v (builtin.of_literals operation ls us _ f g) =
    builtin.of_literals operation ls us v f (sym (literals_same one two e operation ls) ∙ g)
answers_same one two e _ _ v (builtin.equal a b _ answer c f) = builtin.equal a b v answer c (f ∙ truth_same one two e answer)
answers_same one two e _ _ v (builtin.unified a b _ alike total f) = builtin.unified a b v alike total (f ∙ truth_same one two e true)
answers_same one two e _ _ v (builtin.conjoined a b _ p q f) =
    builtin.conjoined a b v (p ∙ truth_same one two e true) (q ∙ truth_same one two e true) (f ∙ truth_same one two e true)

pub collected_same : (one two : Program) → one.special ≡ two.special → (c : ConId) (vs : List Value) → collected one c vs ≡ collected two c vs
collected_same one two e c vs =
    ap (λ (s : Special). value.Constructed c (value.MoreValues (listed s.nil s.cons vs) value.NoValue)) e

-- ---- scrutinees

pub variable_below : (flat : Program) (claims : List Claim) (env : Environment) (a : Term) (u : Value) → Gives flat claims env a u
    → (x : ℕ) → a ≡ term.Variable x → Below u (env x)
variable_below flat claims env _ _ (gives.bottom _ t) x e = below.bottom (env x)
variable_below flat claims env _ _ (gives.variable _ y v p) x e =
    let same : y ≡ x = cc in subst (λ (z : ℕ). Below v (env z)) same p
variable_below flat claims env _ _ (gives.literal _ l) x e = let no : ⊥ = cc in absurd no
variable_below flat claims env _ _ (gives.whole _ h ts us v p q) x e = let no : ⊥ = cc in absurd no
variable_below flat claims env _ _ (gives.part _ h ts us p) x e = let no : ⊥ = cc in absurd no
variable_below flat claims env _ _ (gives.applied _ f a w u v p q r) x e = let no : ⊥ = cc in absurd no
variable_below flat claims env _ _ (gives.bound _ y a b u v p q) x e = let no : ⊥ = cc in absurd no
variable_below flat claims env _ _ (gives.free _ y t u v p q r) x e = let no : ⊥ = cc in absurd no
variable_below flat claims env _ _ (gives.left _ a b v p) x e = let no : ⊥ = cc in absurd no
variable_below flat claims env _ _ (gives.right _ a b v p) x e = let no : ⊥ = cc in absurd no
variable_below flat claims env _ _ (gives.chosen _ mode a t alternatives bindings u v d selects q) x e = let no : ⊥ = cc in absurd no

chosen_shows : (program : Program) (claims : List Claim) (env high : Environment) (mode : Mode) (a t : Term) (alternatives : Alternatives) (k : ℕ)
    (p : Pattern) (bindings : Bindings) (u v : Value) → EnvBelow env high → is_variable a ≡ false → Shows program claims high a u
    → alternative_at alternatives k ≡ Some (p, t) → matched p u ≡ Some bindings
    → ((more : Environment) → EnvBelow (bind_all env bindings) more → Shows program claims more t v)
    → Shows program claims high (term.Case mode a alternatives) v
chosen_shows program claims env high mode a t alternatives k p bindings u v h is d e m q =
    shows.chosen high mode a t alternatives k p bindings u v is d e m (q (bind_all high bindings) (bind_all_below env high bindings h))

case_shows : (program : Program) (claims : List Claim) (env high : Environment) (mode : Mode) (a t : Term) (alternatives : Alternatives) (k : ℕ)
    (p : Pattern) (bindings : Bindings) (u v : Value) → EnvBelow env high → ((x : ℕ) → a ≡ term.Variable x → Below u (env x))
    → Shows program claims high a u → alternative_at alternatives k ≡ Some (p, t) → matched p u ≡ Some bindings
    → ((more : Environment) → EnvBelow (bind_all env bindings) more → Shows program claims more t v)
    → Shows program claims high (term.Case mode a alternatives) v
case_shows program claims env high mode (term.Variable x) t alternatives k p bindings u v h low d e m q =
    let found = matched_rises p u (high x) bindings (below_trans u (env x) (high x) (low x refl) (h x)) m in
    shows.looked high mode x t alternatives k p found.high v e found.is
    (q (bind_all high found.high) (bind_all_rises env high bindings found.high h found.above))
case_shows program claims env high mode (term.Literal l) t alternatives k p bindings u v h low d e m q =
    chosen_shows program claims env high mode (term.Literal l) t alternatives k p bindings u v h refl d e m q
case_shows program claims env high mode (term.Whole f ts) t alternatives k p bindings u v h low d e m q =
    chosen_shows program claims env high mode (term.Whole f ts) t alternatives k p bindings u v h refl d e m q
case_shows program claims env high mode (term.Part f ts) t alternatives k p bindings u v h low d e m q =
    chosen_shows program claims env high mode (term.Part f ts) t alternatives k p bindings u v h refl d e m q
case_shows program claims env high mode (term.Apply f b) t alternatives k p bindings u v h low d e m q =
    chosen_shows program claims env high mode (term.Apply f b) t alternatives k p bindings u v h refl d e m q
case_shows program claims env high mode (term.Let x b c) t alternatives k p bindings u v h low d e m q =
    chosen_shows program claims env high mode (term.Let x b c) t alternatives k p bindings u v h refl d e m q
case_shows program claims env high mode (term.Free x b) t alternatives k p bindings u v h low d e m q =
    chosen_shows program claims env high mode (term.Free x b) t alternatives k p bindings u v h refl d e m q
case_shows program claims env high mode (term.Or b c) t alternatives k p bindings u v h low d e m q =
    chosen_shows program claims env high mode (term.Or b c) t alternatives k p bindings u v h refl d e m q
case_shows program claims env high mode (term.Case n b others) t alternatives k p bindings u v h low d e m q =
    chosen_shows program claims env high mode (term.Case n b others) t alternatives k p bindings u v h refl d e m q

-- ---- rules

pub record RuleFits (program : Program) (arity : ℕ) (rule : Rule) : Type 0 where
  pub many : pattern_count rule.params ≡ arity
  pub known : IsTrue (fit_patterns program rule.params)
  pub linear : IsTrue (is_linear (all_variables rule.params))
  pub right : IsTrue (fits_term program any rule.body)

pub rule_fits : (program : Program) (arity : ℕ) (rule : Rule) → IsTrue (fits_rule program arity rule) → RuleFits program arity rule
rule_fits program arity rule h =
    let may = λ (x : ℕ). holds x (all_variables rule.params) in
    let counted = nat_eq (pattern_count rule.params) arity in
    let known = fit_patterns program rule.params in
    let linear = is_linear (all_variables rule.params) in
    let one = and_parts (counted && known && linear) (fits_term program may rule.body) h in
    let two = and_parts (counted && known) linear one.0 in
    let three = and_parts counted known two.0 in
    record {
      many = eqb-true (pattern_count rule.params) arity three.0;
      known = three.1;
      linear = two.1;
      right = fits_any program may rule.body one.1;
    }

abbrev pub AllRulesFit : Program → ℕ → List Rule → Type 0
AllRulesFit program arity [] = Unit {0}
AllRulesFit program arity (rule ∷ rules) = RuleFits program arity rule × AllRulesFit program arity rules

pub all_rules_fit : (program : Program) (arity : ℕ) (rules : List Rule) → IsTrue (list_all (fits_rule program arity) rules)
    → AllRulesFit program arity rules
all_rules_fit program arity [] h = tt
all_rules_fit program arity (rule ∷ rules) h =
    let parts = and_parts (fits_rule program arity rule) (list_all (fits_rule program arity) rules) h in
    (rule_fits program arity rule parts.0, all_rules_fit program arity rules parts.1)

pub row_of_rule_fits : (program : Program) (arity : ℕ) (xs : List ℕ) (rule : Rule) → xs ≡ numbers 1 arity → RuleFits program arity rule
    → RowFits program xs (suc arity) (row_of_rule xs rule)
row_of_rule_fits program arity xs rule e fits =
    let low : AllLow (suc arity) xs =
    subst (λ (ys : List ℕ). AllLow (suc arity) ys) (sym e) (numbers_low 1 (suc arity) arity (omega arith)) in
    let names : Low (suc arity) (names_at_all xs (list_patterns rule.params) ++ []) =
    low_names_at_all (suc arity) xs (list_patterns rule.params) [] low (λ x. omega arith) in
    record {
      many = patterns_count rule.params ∙ fits.many ∙ sym (ap length e ∙ numbers_count 1 arity);
      known = listed_fit program rule.params fits.known;
      low = subst (λ (ns : Names). Low (suc arity) ns) (append-nil (names_at_all xs (list_patterns rule.params))) names;
      right = fits.right;
    }

pub rows_of_rules_fit : (program : Program) (arity : ℕ) (xs : List ℕ) (rules : List Rule) → xs ≡ numbers 1 arity → AllRulesFit program arity rules
    → RowsFit program xs (suc arity) (map (row_of_rule xs) rules)
rows_of_rules_fit program arity xs [] e h = tt
rows_of_rules_fit program arity xs (rule ∷ rules) e h =
    (row_of_rule_fits program arity xs rule e h.0, rows_of_rules_fit program arity xs rules e h.1)

-- the rule that a row comes from
record RuleAt (program : Program) (arity : ℕ) (xs : List ℕ) (rules : List Rule) (i : ℕ) (row : Row) : Type 0 where
  pub rule : Rule
  pub there : slice_get rules i ≡ Some rule
  pub is : row ≡ row_of_rule xs rule
  pub fits : RuleFits program arity rule

rule_at : (program : Program) (arity : ℕ) (xs : List ℕ) (rules : List Rule) (i : ℕ) (row : Row) → AllRulesFit program arity rules
    → slice_get (map (row_of_rule xs) rules) i ≡ Some row → RuleAt program arity xs rules i row
rule_at program arity xs [] i row h e = let no : ⊥ = cc in absurd no
rule_at program arity xs (rule ∷ rules) zero row h e = record { rule = rule; there = refl; is = cc; fits = h.0 }
rule_at program arity xs (rule ∷ rules) (suc i) row h e =
    let rest = rule_at program arity xs rules i row h.1 e in record { rule = rest.rule; there = rest.there; is = rest.is; fits = rest.fits }

pub names_from : (env : Environment) (b : Bindings) (xs : List ℕ) (ps : Patterns) (x : ℕ) → env 0 ≡ value.Bottom → bound_in b ≡ all_variables ps
    → Known (bind_all empty b) env (names_at_all xs (list_patterns ps) ++ []) [] x (all_variables ps)
    → bind_all empty b x ≡ env (name_of (names_at_all xs (list_patterns ps)) x)
names_from env b xs ps x zero_is binds (inl known) =
    known ∙ ap (λ (ns : Names). env (name_of ns x)) (append-nil (names_at_all xs (list_patterns ps)))
names_from env b xs ps x zero_is binds (inr new) =
    others_stay empty b x (ap (holds x) binds ∙ new.1) ∙ sym zero_is ∙ ap env (sym new.0)
    ∙ ap (λ (ns : Names). env (name_of ns x)) (append-nil (names_at_all xs (list_patterns ps)))

-- the rule of a function applies where a row of its tree suits the arguments
rule_applies : (program : Program) (claims : List Claim) (f : FunId) (function : Function) (rules : List Rule) (xs : List ℕ) (bindings : Bindings)
    (us : Values) (v : Value) → function_of program f ≡ Some function → function.body ≡ Rules rules → xs ≡ numbers 1 function.arity
    → AllRulesFit program function.arity rules → all_matched (variables xs) us ≡ Some bindings → At (bind_all empty bindings) xs (list_of us)
    → FoundIn program claims (bind_all empty bindings) (list_of us) v (map (row_of_rule xs) rules) → Applied program claims (head.Fun f) us v
rule_applies program claims f function rules xs bindings us v e b is fits m at found =
    let from = rule_at program function.arity xs rules found.place found.row fits found.there in
    let rule = from.rule in
    let row = row_of_rule xs rule in
    let suits : Suits program claims (bind_all empty bindings) (list_of us) v row =
    subst (λ (r : Row). Suits program claims (bind_all empty bindings) (list_of us) v r) from.is found.suits in
    let matches = all_shape_matched rule.params us (from_list rule.params us suits.shape) in
    let E = bind_all empty matches.0 in
    let binds : bound_in matches.0 ≡ all_variables rule.params = all_matched_binds rule.params us matches.0 matches.1 in
    let linear : IsTrue (is_linear (bound_in matches.0)) = ap is_linear binds ∙ from.fits.linear in
    let fit = all_matched_fits E rule.params us matches.0 matches.1 (bound_agrees empty matches.0 linear) in
    let flat_binds : bound_in bindings ≡ numbers 1 function.arity = all_matched_binds (variables xs) us bindings m ∙ variables_are xs ∙ is in
    let zero_is : bind_all empty bindings 0 ≡ value.Bottom =
    others_stay empty bindings 0 (ap (holds 0) flat_binds ∙ high_not_held 0 1 function.arity (omega arith)) in
    gives.by_rule f function rules found.place rule matches.0 us v e b from.there matches.1
    (suits.gives E (to_list (Some E) rule.params us fit)
    (λ x h. names_from (bind_all empty bindings) matches.0 xs rule.params x zero_is binds
    (known_all E (bind_all empty bindings) xs rule.params us [] x fit at h)))

-- ---- the flat program

module _ (program flat : Program) (claims : List Claim) (flattens : Flattens program flat) (valid : IsValid program) where
  pub lowered_function : (f : FunId) (low : Function) → function_of flat f ≡ Some low
      → (function : Function) × (function_of program f ≡ Some function) × FunctionLowers program function low
  lowered_function f low e =
      let found = stands_too flat.functions program.functions f.0 low flattens.each e in
      (found.0, found.1, flattens.functions f.0 found.0 low found.1 e)

  pub arity_lowered : (function low : Function) → FunctionLowers program function low → low.arity ≡ function.arity
  arity_lowered function _ (lowered.external operation low e f) = ap (λ (x : Function). x.arity) f
  arity_lowered function _ (lowered.by_tree rules xs t low e f p g) = ap (λ (x : Function). x.arity) g

  function_arity : (f : FunId) → option_map (λ function. function.arity) (function_of flat f) ≡ option_map (λ function. function.arity) (function_of program f)
  function_arity f = by (function_of flat f) (function_of program f) refl refl
    where
      by : (one two : Option Function) → function_of flat f ≡ one → function_of program f ≡ two
          → option_map (λ function. function.arity) one ≡ option_map (λ function. function.arity) two
      by None None e g = refl
      by None (Some function) e g =
          let found = stands_too program.functions flat.functions f.0 function (sym flattens.each) g in
          let there = found.1 in
          let no : ⊥ = cc in absurd no
      by (Some low) two e g =
          let found = lowered_function f low e in
          let there = found.1 in
          let same : two ≡ Some found.0 = sym g ∙ there in
          ap Some (arity_lowered found.0 low found.2) ∙ sym (ap (option_map (λ function. function.arity)) same)

  pub arity_same : (h : Head) → arity_in flat h ≡ arity_in program h
  arity_same (head.Fun f) = function_arity f
  arity_same (head.Set f) = function_arity f
  arity_same (head.Con c) =
      ap (λ (cs : List Constructor). option_map (λ constructor. constructor.arity) (slice_get cs c.0)) flattens.constructors

  pub allowed_same : (h : Head) → is_allowed flat h ≡ is_allowed program h
  allowed_same (head.Fun f) = refl
  allowed_same (head.Con c) = refl
  allowed_same (head.Set f) = ap (λ (s : Special). elim s.values [ Some c ↦ true | None ↦ false ]) flattens.special

  mutual
    pub of_same : (u : Value) → is_of flat u ≡ is_of program u
    of_same value.Bottom = refl
    of_same (value.Variable x) = refl
    of_same (value.Literal l) = refl
    of_same (value.Constructed c us) =
        ap₂ (λ (n : Option ℕ) (b : Bool). takes n (count us) && b) (arity_same (head.Con c)) (all_of_same us)
    of_same (value.Partial h us) =
        ap₂ (λ (a b : Bool). a && b) (ap₂ (λ (a : Bool) (n : Option ℕ). a && takes_more n (count us)) (allowed_same h) (arity_same h)) (all_of_same us)

    pub all_of_same : (us : Values) → are_of flat us ≡ are_of program us
    all_of_same value.NoValue = refl
    all_of_same (value.MoreValues u us) = ap₂ (λ (a b : Bool). a && b) (of_same u) (all_of_same us)

  pub all_fit : (f : FunId) (function : Function) (rules : List Rule) → function_of program f ≡ Some function → function.body ≡ Rules rules
      → AllRulesFit program function.arity rules
  all_fit f function rules e b =
      let fits : IsTrue (fits_function program function) = passed_at (fits_function program) program.functions f.0 function valid.functions e in
      let body : IsTrue (fits_body program function.arity function.body) =
      (and_parts (is_arity function.arity) (fits_body program function.arity function.body) fits).1 in
      all_rules_fit program function.arity rules (subst (λ (x : Body). IsTrue (fits_body program function.arity x)) b body)

  tree_applies : (f : FunId) (function : Function) (rules : List Rule) (xs : List ℕ) (t : Term) (bindings : Bindings) (us : Values) (v : Value)
      → v ≢ value.Bottom → function_of program f ≡ Some function → function.body ≡ Rules rules → xs ≡ numbers 1 function.arity
      → Tree program xs (suc function.arity) (map (row_of_rule xs) rules) t → all_matched (variables xs) us ≡ Some bindings
      → Shows program claims (bind_all empty bindings) t v → Applied program claims (head.Fun f) us v
  tree_applies f function rules xs t bindings us v some e b is tree m shown =
      let flat_binds : bound_in bindings ≡ numbers 1 function.arity = all_matched_binds (variables xs) us bindings m ∙ variables_are xs ∙ is in
      let linear : IsTrue (is_linear (bound_in bindings)) = ap is_linear flat_binds ∙ numbers_linear 1 function.arity in
      let fit = all_matched_fits (bind_all empty bindings) (variables xs) us bindings m (bound_agrees empty bindings linear) in
      let at = variables_at (bind_all empty bindings) xs us fit in
      let rules_fit = all_fit f function rules e b in
      rule_applies program claims f function rules xs bindings us v e b is rules_fit m at
      (tree_converse program claims valid.special.ordered xs (suc function.arity) (map (row_of_rule xs) rules) t tree (bind_all empty bindings) (list_of us) v some
      (record {
        at = at;
        low = subst (λ (ys : List ℕ). AllLow (suc function.arity) ys) (sym is) (numbers_low 1 (suc function.arity) function.arity (omega arith));
        fit = rows_of_rules_fit program function.arity xs rules is rules_fit;
      }) shown)

  only_rule : (rules : List Rule) (one rule : Rule) (k : ℕ) → rules ≡ one ∷ [] → slice_get rules k ≡ Some rule → rule ≡ one
  only_rule _ one rule k e f = by k (subst (λ (rs : List Rule). slice_get rs k ≡ Some rule) e f)
    where
      by : (j : ℕ) → slice_get (one ∷ []) j ≡ Some rule → rule ≡ one
      by zero g = cc
      by (suc j) g = let no : ⊥ = cc in absurd no

  rule_called : (f : FunId) (low : Function) (rules : List Rule) (k : ℕ) (rule : Rule) (bindings : Bindings) (us : Values) (v : Value)
      → v ≢ value.Bottom → function_of flat f ≡ Some low → low.body ≡ Rules rules → slice_get rules k ≡ Some rule
      → all_matched rule.params us ≡ Some bindings → Shows program claims (bind_all empty bindings) rule.body v
      → Applied program claims (head.Fun f) us v
  rule_called f low rules k rule bindings us v some e b r m shown =
      let found = lowered_function f low e in by found.0 found.1 found.2
    where
      by : (function : Function) → function_of program f ≡ Some function → FunctionLowers program function low
          → Applied program claims (head.Fun f) us v
      by function there (lowered.external operation _ h i) =
          let body = ap (λ (x : Function). x.body) i in
          let no : ⊥ = cc in absurd no
      by function there (lowered.by_tree others xs t _ h i p g) =
          let body = ap (λ (x : Function). x.body) g in
          let same : Rules rules ≡ Rules (record { params = variables xs; body = t } ∷ []) = sym b ∙ body in
          let lists : rules ≡ record { params = variables xs; body = t } ∷ [] = cc in
          let one : rule ≡ record { params = variables xs; body = t } = only_rule rules (record { params = variables xs; body = t }) rule k lists r in
          tree_applies f function others xs t bindings us v some there h i p (ap (λ (x : Rule). all_matched x.params us) (sym one) ∙ m)
          (subst (λ (x : Rule). Shows program claims (bind_all empty bindings) x.body v) one shown)

  builtin_called : (f : FunId) (low : Function) (operation : Primitive) (us : Values) (v : Value) → function_of flat f ≡ Some low
      → low.body ≡ External operation → Answers flat operation us v → Applied program claims (head.Fun f) us v
  builtin_called f low operation us v e b answers = let found = lowered_function f low e in by found.0 found.1 found.2
    where
      by : (function : Function) → function_of program f ≡ Some function → FunctionLowers program function low
          → Applied program claims (head.Fun f) us v
      by function there (lowered.external o _ h i) =
          let body : function.body ≡ External operation = ap (λ (x : Function). x.body) (sym i) ∙ b in
          gives.builtin f function operation us v there body (answers_same flat program flattens.special operation us v answers)
      by function there (lowered.by_tree others xs t _ h i p g) =
          let body = ap (λ (x : Function). x.body) g in
          let no : ⊥ = cc in absurd no

  whole_shows : (high : Environment) (h : Head) (ts : Terms) (us : Values) (v : Value) → AllShow program claims high ts us
      → (v ≢ value.Bottom → Applied program claims h us v) → Shows program claims high (term.Whole h ts) v
  whole_shows high h ts us v ps called = by (bottom_or v)
    where
      by : (v ≡ value.Bottom) ⊎ (v ≢ value.Bottom) → Shows program claims high (term.Whole h ts) v
      by (inl e) = subst (λ (x : Value). Shows program claims high (term.Whole h ts) x) (sym e) (shows.bottom high (term.Whole h ts))
      by (inr some) = shows.whole high h ts us v ps (called some)

  applied_shows : (high : Environment) (f a : Term) (w u v : Value) → Shows program claims high f w → Shows program claims high a u
      → (v ≢ value.Bottom → AppliedTo program claims w u v) → Shows program claims high (term.Apply f a) v
  applied_shows high f a w u v p q called = by (bottom_or v)
    where
      by : (v ≡ value.Bottom) ⊎ (v ≢ value.Bottom) → Shows program claims high (term.Apply f a) v
      by (inl same) = subst (λ (x : Value). Shows program claims high (term.Apply f a) x) (sym same) (shows.bottom high (term.Apply f a))
      by (inr some) = shows.applied high f a w u v p q (called some)

  mutual
    to_shows : (env : Environment) (t : Term) (v : Value) → Gives flat claims env t v → (high : Environment) → EnvBelow env high
        → Shows program claims high t v
    to_shows env _ _ (gives.bottom _ t) high h = shows.bottom high t
    to_shows env _ _ (gives.variable _ x v p) high h = shows.variable high x v (below_trans v (env x) (high x) p (h x))
    to_shows env _ _ (gives.literal _ l) high h = shows.literal high l
    to_shows env _ _ (gives.whole _ k ts us v ps app) high h =
        whole_shows high k ts us v (all_to_shows env ts us ps high h) (to_applied k us v app)
    to_shows env _ _ (gives.part _ k ts us ps) high h = shows.part high k ts us (all_to_shows env ts us ps high h)
    to_shows env _ _ (gives.applied _ f a w u v p q app) high h =
        applied_shows high f a w u v (to_shows env f w p high h) (to_shows env a u q high h) (to_applied_to w u v app)
    to_shows env _ _ (gives.bound _ x a b u v p q) high h =
        shows.bound high x a b u v (to_shows env a u p high h) (to_shows (bind env x u) b v q (bind high x u) (bind_below env high x u h))
    to_shows env _ _ (gives.free _ x t u v total known p) high h =
        shows.free high x t u v total (sym (of_same u) ∙ known) (to_shows (bind env x u) t v p (bind high x u) (bind_below env high x u h))
    to_shows env _ _ (gives.left _ a b v p) high h = shows.left high a b v (to_shows env a v p high h)
    to_shows env _ _ (gives.right _ a b v p) high h = shows.right high a b v (to_shows env b v p high h)
    to_shows env _ _ (gives.chosen _ mode a t alternatives bindings u v d selects q) high h =
        case_shows program claims env high mode a t alternatives selects.choice selects.pattern bindings u v h (variable_below flat claims env a u d)
        (to_shows env a u d high h) selects.at selects.matches (λ more i. to_shows (bind_all env bindings) t v q more i)

    all_to_shows : (env : Environment) (ts : Terms) (vs : Values) → AllGive flat claims env ts vs → (high : Environment) → EnvBelow env high
        → AllShow program claims high ts vs
    all_to_shows env _ _ (gives.none _) high h = shows.none high
    all_to_shows env _ _ (gives.more _ t ts v vs p ps) high h =
        shows.more high t ts v vs (to_shows env t v p high h) (all_to_shows env ts vs ps high h)

    to_applied : (h : Head) (us : Values) (v : Value) → Applied flat claims h us v → v ≢ value.Bottom → Applied program claims h us v
    to_applied _ us _ (gives.constructed c _) some = gives.constructed c us
    to_applied _ us _ (gives.by_rule f function rules k rule bindings _ v e b r m p) some =
        rule_called f function rules k rule bindings us v some e b r m
        (to_shows (bind_all empty bindings) rule.body v p (bind_all empty bindings) (λ x. below_itself (bind_all empty bindings x)))
    to_applied _ us _ (gives.builtin f function operation _ v e b answers) some = builtin_called f function operation us v e b answers
    to_applied _ us _ (gives.collect f claim k c _ v ground e f' a s p) some =
        gives.collect f claim k c us v ground e f' a (ap (λ (x : Special). x.values) (sym flattens.special) ∙ s)
        (subst (λ (w : Value). Below v w) (collected_same flat program flattens.special c claim.values) p)

    to_applied_to : (w u v : Value) → AppliedTo flat claims w u v → v ≢ value.Bottom → AppliedTo program claims w u v
    to_applied_to _ u _ (gives.extended h us more _ m l) some =
        gives.extended h us more u m (ap (λ (n : Option ℕ). takes_more n (count more)) (sym (arity_same h)) ∙ l)
    to_applied_to _ u _ (gives.completed h us all _ v m l app) some =
        gives.completed h us all u v m (ap (λ (n : Option ℕ). takes n (count all)) (sym (arity_same h)) ∙ l) (to_applied h all v app some)

  variables_give : (env : Environment) (x n : ℕ) (us : Values) → AllGive flat claims env (variables_from x n) us
      → AllGive program claims env (variables_from x n) us
  variables_give env x zero _ (gives.none _) = gives.none env
  variables_give env x (suc n) _ (gives.more _ t ts v vs (gives.bottom _ _) ps) =
      gives.more env (term.Variable x) (variables_from (x + 1) n) v vs (gives.bottom env (term.Variable x)) (variables_give env (x + 1) n vs ps)
  variables_give env x (suc n) _ (gives.more _ t ts v vs (gives.variable _ _ _ p) ps) =
      gives.more env (term.Variable x) (variables_from (x + 1) n) v vs (gives.variable env x v p) (variables_give env (x + 1) n vs ps)

  call_gives : (f : FunId) (env : Environment) (n : ℕ) (v : Value) → v ≢ value.Bottom
      → Gives flat claims env (term.Whole (head.Fun f) (variables_from 0 n)) v → Gives program claims env (term.Whole (head.Fun f) (variables_from 0 n)) v
  call_gives f env n _ some (gives.bottom _ t) = absurd (some refl)
  call_gives f env n v some (gives.whole _ h ts us _ ps app) =
      gives.whole env (head.Fun f) (variables_from 0 n) us v (variables_give env 0 n us ps) (to_applied (head.Fun f) us v app some)

  pub concludes_converse : (f : FunId) (vs : Values) (v : Value) → v ≢ value.Bottom → Concludes flat claims f vs v → Concludes program claims f vs v
  concludes_converse f vs v some h = (
    ap (λ (n : Option ℕ). takes n (count vs)) (sym (arity_same (head.Fun f))) ∙ h.0,
    sym (all_of_same vs) ∙ h.1,
    call_gives f (arguments_env vs) (count vs) v some h.2,
  )
