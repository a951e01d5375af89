-- What the program concludes over claims of it, the flat program concludes.
use Rattle.std.proofs.Common.{◌≡◌, ℕ, zero, suc, ◌+◌, ◌<◌, List, [], ◌∷◌, length, map, Option, Some, slice_get, slice_index_or, IsTrue, refl, ap, sym, ◌∙◌, subst, arith}
use Rattle.std.specs.List.{list_all}
use Rattle.std.proofs.lemmas.Bool.{and_parts}
use Rattle.cu_calculus.specs.declared.FunId.{FunId}
use Rattle.cu_calculus.specs.declared.Head.{Head}
use Rattle.cu_calculus.specs.declared.Head.TheVariants as head
use Rattle.cu_calculus.specs.declared.Mode.{Mode}
use Rattle.cu_calculus.specs.declared.builtin.Primitive.{Primitive}
use Rattle.cu_calculus.specs.declared.builtin.Special.{Special}
use Rattle.cu_calculus.specs.Below.{Below, EnvBelow}
use Rattle.cu_calculus.specs.Builtin.{Answers}
use Rattle.cu_calculus.specs.Choose.{Selects, rows_from}
use Rattle.cu_calculus.specs.Claims.{Concludes, arguments_env, variables_from}
use Rattle.cu_calculus.specs.Gives as gives
use Rattle.cu_calculus.specs.Gives.{AllGive, Applied, AppliedTo, Claim, Gives, collected}
use Rattle.cu_calculus.specs.Match.{Bindings, Environment, all_matched, bind, bind_all, empty}
use Rattle.cu_calculus.specs.Program.{External, Function, Program, Rule, Rules, function_of}
use Rattle.cu_calculus.specs.Proof.{is_claim_of}
use Rattle.cu_calculus.specs.Shape.{are_of, is_of, takes, takes_more}
use Rattle.cu_calculus.specs.Term as term
use Rattle.cu_calculus.specs.Term.{Alternatives, Pattern, Patterns, Term, Terms}
use Rattle.cu_calculus.specs.Valid.{IsValid, all_variables, also, fit_alternatives, fit_terms, fits_term, holds, is_linear, pattern_count}
use Rattle.cu_calculus.specs.Value as value
use Rattle.cu_calculus.specs.Value.{Value, Values, count, list_of}
use Rattle.cu_calculus.proofs.BelowLaws.{below_itself, below_trans}
use Rattle.cu_calculus.proofs.Choices.{chooses_one_rises}
use Rattle.cu_calculus.proofs.Fitting.{any, fits_alternative, fits_any, fits_bound, fits_rule_body}
use Rattle.cu_calculus.proofs.Lists.{get_map}
use Rattle.cu_calculus.proofs.Matches.{bind_all_rises, matched_rises}
use Rattle.cu_calculus.proofs.OfProgram.{EnvOf, all_matched_of, below_of, bind_all_of, bind_of}
use Rattle.cu_calculus.proofs.ValuesOf.{all_give_of, fits_part, fits_whole, gives_of, more_of, partial_of}
use Rattle.cu_calculus.proofs.Weaken.{bind_below}
use Rattle.cu_deftree.specs.Lowering as lowering
use Rattle.cu_deftree.specs.Lowering.{AllLower, Distinguishes, Lowers, Tree, variables}
use Rattle.cu_deftree.specs.LoweredProgram as lowered
use Rattle.cu_deftree.specs.LoweredProgram.{Flattens, FunctionLowers}
use Rattle.cu_deftree.specs.Rows.{Names, name_of, numbers, row_of_rule, rows_of}
use Rattle.cu_deftree.proofs.Converse.{bound_here, high_not_held, low_bound, low_on, named_bind, next_low, numbers_count, numbers_linear, numbers_low, still_named, variables_are, variables_at}
use Rattle.cu_deftree.proofs.Levels.{stands_too}
use Rattle.cu_deftree.proofs.Meets.{AllFit, all_matched_binds, all_matched_fits, all_shape_matched, bound_agrees, bound_in, others_stay}
use Rattle.cu_deftree.proofs.Opening.{AllLow, Low, known_all}
use Rattle.cu_deftree.proofs.Reached.{Leaf, Reached, tree_reached, variables_shape}
use Rattle.cu_deftree.proofs.Selected.{alternative_reached, operation_stays}
use Rattle.cu_deftree.proofs.Sound.{AllRulesFit, RuleFits, all_fit, all_of_same, answers_same, arity_same, collected_same, names_from, of_same, rows_of_rules_fit, variable_below}
use Rattle.cu_deftree.proofs.Suits.{to_list}

-- ---- rules

-- what patterns match is as many values
fit_count : (env : Option Environment) (ps : Patterns) (us : Values) → AllFit env ps us → pattern_count ps ≡ count us
fit_count env term.NoPattern us h = ap count (sym h)
fit_count env (term.MorePatterns p ps) us h = ap (λ (n : ℕ). n + 1) (fit_count env ps h.1 h.4) ∙ ap count (sym h.2)

rule_fit_at : (program : Program) (arity : ℕ) (rules : List Rule) (k : ℕ) (rule : Rule) → AllRulesFit program arity rules
    → slice_get rules k ≡ Some rule → RuleFits program arity rule
rule_fit_at program arity [] k rule h e = let no : ⊥ = cc in absurd no
rule_fit_at program arity (first ∷ rules) zero rule h e =
    let same : first ≡ rule = cc in subst (λ (r : Rule). RuleFits program arity r) same h.0
rule_fit_at program arity (first ∷ rules) (suc k) rule h e = rule_fit_at program arity rules k rule h.1 e

-- the right side of a rule is reached in the flat program's call
record Called (program flat : Program) (claims : List Claim) (f : FunId) (us : Values) (v : Value) (E : Environment) (body : Term) : Type 0 where
  pub leaf : Leaf program E body
  pub whole : Gives flat claims leaf.inside leaf.right v → Applied flat claims (head.Fun f) us v

-- the variables of a call stand for its arguments
argument_known : (program : Program) (vs : Values) (x : ℕ) → IsTrue (are_of program vs)
    → IsTrue (is_of program (slice_index_or (list_of vs) x value.Bottom))
argument_known program value.NoValue x h = refl
argument_known program (value.MoreValues v vs) zero h = (and_parts (is_of program v) (are_of program vs) h).0
argument_known program (value.MoreValues v vs) (suc x) h = argument_known program vs x (and_parts (is_of program v) (are_of program vs) h).1

module _ (program flat : Program) (claims : List Claim) (flattens : Flattens program flat) (valid : IsValid program)
    (claimed : IsTrue (list_all (is_claim_of program) claims)) where
  tree_called : (f : FunId) (function low : Function) (rules : List Rule) (xs : List ℕ) (t : Term) (k : ℕ) (rule : Rule) (bindings : Bindings)
      (us : Values) (v : Value) → function_of program f ≡ Some function → function.body ≡ Rules rules → xs ≡ numbers 1 function.arity
      → Tree program xs (suc function.arity) (map (row_of_rule xs) rules) t → function_of flat f ≡ Some low
      → low.body ≡ Rules (record { params = variables xs; body = t } ∷ []) → slice_get rules k ≡ Some rule → all_matched rule.params us ≡ Some bindings
      → IsTrue (are_of program us) → Called program flat claims f us v (bind_all empty bindings) rule.body
  tree_called f function low rules xs t k rule bindings us v e b is tree there body at_k m of_program =
      let E = bind_all empty bindings in
      let rules_fit = all_fit program flat claims flattens valid f function rules e b in
      let rule_fit = rule_fit_at program function.arity rules k rule rules_fit at_k in
      let binds : bound_in bindings ≡ all_variables rule.params = all_matched_binds rule.params us bindings m in
      let fit = all_matched_fits E rule.params us bindings m (bound_agrees empty bindings (ap is_linear binds ∙ rule_fit.linear)) in
      let many : length xs ≡ function.arity = ap length is ∙ numbers_count 1 function.arity in
      let shape = variables_shape xs us (many ∙ sym rule_fit.many ∙ fit_count (Some E) rule.params us fit) in
      let flat_match = all_shape_matched (variables xs) us shape in
      let env = bind_all empty flat_match.0 in
      let flat_binds : bound_in flat_match.0 ≡ numbers 1 function.arity =
      all_matched_binds (variables xs) us flat_match.0 flat_match.1 ∙ variables_are xs ∙ is in
      let linear : IsTrue (is_linear (bound_in flat_match.0)) = ap is_linear flat_binds ∙ numbers_linear 1 function.arity in
      let flat_fit = all_matched_fits env (variables xs) us flat_match.0 flat_match.1 (bound_agrees empty flat_match.0 linear) in
      let at = variables_at env xs us flat_fit in
      let zero_is : env 0 ≡ value.Bottom =
      others_stay empty flat_match.0 0 (ap (holds 0) flat_binds ∙ high_not_held 0 1 function.arity (omega arith)) in
      let reached =
      tree_reached program flat claims valid.special.ordered xs (suc function.arity) (map (row_of_rule xs) rules) t tree E env (list_of us) v k
      (row_of_rule xs rule) (get_map (row_of_rule xs) rules k rule at_k)
      (record {
        meets = to_list (Some E) rule.params us fit;
        named = λ x h. names_from env bindings xs rule.params x zero_is binds (known_all E env xs rule.params us [] x fit at h);
      })
      (bind_all_of program empty flat_match.0 (λ x. refl) (all_matched_of program (variables xs) us flat_match.0 flat_match.1 of_program))
      (record {
        at = at;
        low = subst (λ (ys : List ℕ). AllLow (suc function.arity) ys) (sym is) (numbers_low 1 (suc function.arity) function.arity (omega arith));
        fit = rows_of_rules_fit program function.arity xs rules is rules_fit;
      }) in
      record {
        leaf = reached.leaf;
        whole = λ g.
            gives.by_rule f low (record { params = variables xs; body = t } ∷ []) 0 (record { params = variables xs; body = t }) flat_match.0 us v there body
            refl flat_match.1 (reached.whole g);
      }

  rule_called : (f : FunId) (function : Function) (rules : List Rule) (k : ℕ) (rule : Rule) (bindings : Bindings) (us : Values) (v : Value)
      → function_of program f ≡ Some function → function.body ≡ Rules rules → slice_get rules k ≡ Some rule
      → all_matched rule.params us ≡ Some bindings → IsTrue (are_of program us)
      → Called program flat claims f us v (bind_all empty bindings) rule.body
  rule_called f function rules k rule bindings us v e b r m of_program =
      let found = stands_too program.functions flat.functions f.0 function (sym flattens.each) e in
      by found.0 found.1 (flattens.functions f.0 function found.0 e found.1)
    where
      by : (low : Function) → function_of flat f ≡ Some low → FunctionLowers program function low
          → Called program flat claims f us v (bind_all empty bindings) rule.body
      by low there (lowered.external operation _ h i) = let no : ⊥ = cc in absurd no
      by low there (lowered.by_tree others xs t _ h i p g) =
          let same : Rules others ≡ Rules rules = sym h ∙ b in
          let lists : rules ≡ others = cc in
          tree_called f function low others xs t k rule bindings us v e h i p there (ap (λ (x : Function). x.body) g)
          (subst (λ (rs : List Rule). slice_get rs k ≡ Some rule) lists r) m of_program

  builtin_called : (f : FunId) (function : Function) (operation : Primitive) (us : Values) (v : Value) → function_of program f ≡ Some function
      → function.body ≡ External operation → Answers program operation us v → Applied flat claims (head.Fun f) us v
  builtin_called f function operation us v e b answers =
      let low = operation_stays program flat flattens operation f function e b in
      gives.builtin f low.function operation us v low.there low.body (answers_same program flat (sym flattens.special) operation us v answers)

  -- ---- derivations

  -- values of the program stand below values of the program
  low_known : (E high env : Environment) (names : Names) → EnvBelow E high → ((x : ℕ) → high x ≡ env (name_of names x)) → EnvOf program env
      → EnvOf program E
  low_known E high env names h named known x =
      below_of program (E x) (high x) (h x) (subst (λ (w : Value). IsTrue (is_of program w)) (sym (named x)) (known (name_of names x)))

  below_position : (E high env : Environment) (names : Names) (x : ℕ) (u : Value) → EnvBelow E high → ((y : ℕ) → high y ≡ env (name_of names y))
      → Below u (E x) → Below u (env (name_of names x))
  below_position E high env names x u h named p =
      subst (λ (w : Value). Below u w) (named x) (below_trans u (E x) (high x) p (h x))

  -- an alternative that a value takes, at what is above that value
  record Raised (E high env : Environment) (bindings : Bindings) (t s : Term) (v : Value) : Type 0 where
    pub above : Environment
    pub is_above : EnvBelow (bind_all E bindings) above
    pub reached : Reached program flat claims env s v above t

  raised : (mode : Mode) (names : Names) (position next : ℕ) (alternatives : Alternatives) (s : Term)
      → Distinguishes program mode (position ∷ []) next (rows_of names position alternatives) s → position < next → Low next names
      → IsTrue (fit_alternatives program any alternatives) → (E high env : Environment) → EnvBelow E high → ((x : ℕ) → high x ≡ env (name_of names x))
      → EnvOf program env → (u : Value) (t : Term) (bindings : Bindings) (v : Value) → Below u (env position)
      → Selects program alternatives u t bindings → Raised E high env bindings t s v
  raised mode names position next alternatives s d here low fits E high env h named known u t bindings v below_u selects =
      let found = matched_rises selects.pattern u (env position) bindings below_u selects.matches in
      let chosen = chooses_one_rises program (rows_from 0 alternatives) u (env position) selects.choice below_u selects.chooses in
      record {
        above = bind_all high found.high;
        is_above = bind_all_rises E high bindings found.high h found.above;
        reached = alternative_reached program flat claims flattens valid.special.ordered mode names position next alternatives s d here low fits high env named
            known selects.choice selects.pattern t found.high v selects.at found.is chosen;
      }

  mutual
    gives_too : (E : Environment) (t : Term) (v : Value) → Gives program claims E t v → (high : Environment) → EnvBelow E high → (names : Names) (next : ℕ)
        (u : Term) → Lowers program names next t u → (env : Environment) → ((x : ℕ) → high x ≡ env (name_of names x)) → Low next names
        → EnvOf program env → IsTrue (fits_term program any t) → Gives flat claims env u v
    gives_too E _ _ (gives.bottom _ t) high h names next u p env named low known fits = gives.bottom env u
    gives_too E _ _ (gives.variable _ x v q) high h _ _ _ (lowering.variable names next _) env named low known fits =
        gives.variable env (name_of names x) v (below_position E high env names x v h named q)
    gives_too E _ _ (gives.literal _ l) high h _ _ _ (lowering.literal names next _) env named low known fits = gives.literal env l
    gives_too E _ _ (gives.whole _ k ts ws v qs app) high h _ _ _ (lowering.whole names next _ _ us p) env named low known fits =
        let inner = (fits_whole program k ts fits).1 in
        gives.whole env k us ws v (all_give_too E ts ws qs high h names next us p env named low known inner)
        (applied_too k ws v app (all_give_of program claims valid claimed E ts ws qs (low_known E high env names h named known) inner))
    gives_too E _ _ (gives.part _ k ts ws qs) high h _ _ _ (lowering.part names next _ _ us p) env named low known fits =
        gives.part env k us ws (all_give_too E ts ws qs high h names next us p env named low known (fits_part program k ts fits).1)
    gives_too E _ _ (gives.applied _ f a w u v q r app) high h _ _ _ (lowering.applied names next _ _ g b p s) env named low known fits =
        let parts = and_parts (fits_term program any f) (fits_term program any a) fits in
        let low_env = low_known E high env names h named known in
        gives.applied env g b w u v (gives_too E f w q high h names next g p env named low known parts.0)
        (gives_too E a u r high h names next b s env named low known parts.1)
        (applied_to_too w u v app (gives_of program claims valid claimed E f w q low_env parts.0)
        (gives_of program claims valid claimed E a u r low_env parts.1))
    gives_too E _ _ (gives.bound _ x a b w v q r) high h _ _ _ (lowering.bound names next _ _ _ c d p s) env named low known fits =
        let parts = fits_bound program x a b fits in
        let of_program = gives_of program claims valid claimed E a w q (low_known E high env names h named known) parts.0 in
        gives.bound env next c d w v (gives_too E a w q high h names next c p env named low known parts.0)
        (gives_too (bind E x w) b v r (bind high x w) (bind_below E high x w h) ((x, next) ∷ names) (suc next) d s (bind env next w)
        (named_bind high env names next x w named low) (low_bound next x names low) (bind_of program env next w known of_program) parts.1)
    gives_too E _ _ (gives.free _ x a w v total of_program r) high h _ _ _ (lowering.free names next _ _ b p) env named low known fits =
        gives.free env next b w v total (of_same program flat claims flattens valid w ∙ of_program)
        (gives_too (bind E x w) a v r (bind high x w) (bind_below E high x w h) ((x, next) ∷ names) (suc next) b p (bind env next w)
        (named_bind high env names next x w named low) (low_bound next x names low) (bind_of program env next w known of_program)
        (fits_any program (also x any) a fits))
    gives_too E _ _ (gives.left _ a b v q) high h _ _ _ (lowering.either names next _ _ c d p s) env named low known fits =
        gives.left env c d v
        (gives_too E a v q high h names next c p env named low known (and_parts (fits_term program any a) (fits_term program any b) fits).0)
    gives_too E _ _ (gives.right _ a b v q) high h _ _ _ (lowering.either names next _ _ c d p s) env named low known fits =
        gives.right env c d v
        (gives_too E b v q high h names next d s env named low known (and_parts (fits_term program any a) (fits_term program any b) fits).1)
    gives_too E _ _ (gives.chosen _ mode _ t alternatives bindings u v q selects r) high h _ _ s (lowering.on_variable names next x _ _ _ d) env named low
        known fits =
        let way =
        raised mode names (name_of names x) next alternatives s d (low x) low fits E high env h named known u t bindings v
        (below_position E high env names x u h named (variable_below program claims E (term.Variable x) u q x refl)) selects in
        let leaf = way.reached.leaf in
        way.reached.whole
        (gives_too (bind_all E bindings) t v r way.above way.is_above leaf.names leaf.next leaf.right leaf.lowers leaf.inside leaf.named leaf.low leaf.known
        (fits_alternative program alternatives selects.choice selects.pattern t fits selects.at))
    gives_too E _ _ (gives.chosen _ mode a t alternatives bindings u v q selects r) high h _ _ _ (lowering.on_term names next _ _ b _ s is p d) env named low
        known fits =
        let parts = and_parts (fits_term program any a) (fit_alternatives program any alternatives) fits in
        let of_program = gives_of program claims valid claimed E a u q (low_known E high env names h named known) parts.0 in
        let within = bind env next u in
        let way =
        raised mode names next (suc next) alternatives s d (next_low next) (low_on next names low) parts.1 E high within h
        (still_named high env names next u named low) (bind_of program env next u known of_program) u t bindings v
        (subst (λ (w : Value). Below u w) (sym (bound_here env next u)) (below_itself u)) selects in
        let leaf = way.reached.leaf in
        gives.bound env next b s u v (gives_too E a u q high h names next b p env named low known parts.0)
        (way.reached.whole
        (gives_too (bind_all E bindings) t v r way.above way.is_above leaf.names leaf.next leaf.right leaf.lowers leaf.inside leaf.named leaf.low leaf.known
        (fits_alternative program alternatives selects.choice selects.pattern t parts.1 selects.at)))

    all_give_too : (E : Environment) (ts : Terms) (vs : Values) → AllGive program claims E ts vs → (high : Environment) → EnvBelow E high → (names : Names)
        (next : ℕ) (us : Terms) → AllLower program names next ts us → (env : Environment) → ((x : ℕ) → high x ≡ env (name_of names x))
        → Low next names → EnvOf program env → IsTrue (fit_terms program any ts) → AllGive flat claims env us vs
    all_give_too E _ _ (gives.none _) high h _ _ _ (lowering.no_term names next) env named low known fits = gives.none env
    all_give_too E _ _ (gives.more _ t ts v vs q qs) high h _ _ _ (lowering.more_terms names next _ u _ us p ps) env named low known fits =
        let parts = and_parts (fits_term program any t) (fit_terms program any ts) fits in
        gives.more env u us v vs (gives_too E t v q high h names next u p env named low known parts.0)
        (all_give_too E ts vs qs high h names next us ps env named low known parts.1)

    applied_too : (h : Head) (us : Values) (v : Value) → Applied program claims h us v → IsTrue (are_of program us) → Applied flat claims h us v
    applied_too _ us _ (gives.constructed c _) known = gives.constructed c us
    applied_too _ us _ (gives.by_rule f function rules k rule bindings _ v e b r m p) known =
        let called = rule_called f function rules k rule bindings us v e b r m known in
        let leaf = called.leaf in
        called.whole
        (gives_too (bind_all empty bindings) rule.body v p (bind_all empty bindings) (λ x. below_itself (bind_all empty bindings x)) leaf.names leaf.next
        leaf.right leaf.lowers leaf.inside leaf.named leaf.low leaf.known (fits_rule_body program f function rules k rule valid e b r))
    applied_too _ us _ (gives.builtin f function operation _ v e b answers) known = builtin_called f function operation us v e b answers
    applied_too _ us _ (gives.collect f claim k c _ v ground e f' a s p) known =
        gives.collect f claim k c us v ground e f' a (ap (λ (x : Special). x.values) flattens.special ∙ s)
        (subst (λ (w : Value). Below v w) (collected_same program flat (sym flattens.special) c claim.values) p)

    applied_to_too : (w u v : Value) → AppliedTo program claims w u v → IsTrue (is_of program w) → IsTrue (is_of program u) → AppliedTo flat claims w u v
    applied_to_too _ u _ (gives.extended k us more _ m l) function argument =
        gives.extended k us more u m (ap (λ (n : Option ℕ). takes_more n (count more)) (arity_same program flat claims flattens valid k) ∙ l)
    applied_to_too _ u _ (gives.completed k us all _ v m l app) function argument =
        gives.completed k us all u v m (ap (λ (n : Option ℕ). takes n (count all)) (arity_same program flat claims flattens valid k) ∙ l)
        (applied_too k all v app (more_of program us all u (partial_of program k us function) argument m))

  -- ---- calls

  variables_give : (env : Environment) (x n : ℕ) (us : Values) → AllGive program claims env (variables_from x n) us
      → AllGive flat claims env (variables_from x n) us
  variables_give env x zero _ (gives.none _) = gives.none env
  variables_give env x (suc n) _ (gives.more _ t ts v vs (gives.bottom _ _) ps) =
      gives.more env (term.Variable x) (variables_from (x + 1) n) v vs (gives.bottom env (term.Variable x)) (variables_give env (x + 1) n vs ps)
  variables_give env x (suc n) _ (gives.more _ t ts v vs (gives.variable _ _ _ p) ps) =
      gives.more env (term.Variable x) (variables_from (x + 1) n) v vs (gives.variable env x v p) (variables_give env (x + 1) n vs ps)

  variables_known : (env : Environment) (x n : ℕ) (us : Values) → EnvOf program env → AllGive program claims env (variables_from x n) us
      → IsTrue (are_of program us)
  variables_known env x n us known p = all_give_of program claims valid claimed env (variables_from x n) us p known (variables_fit x n)
    where
      variables_fit : (y m : ℕ) → IsTrue (fit_terms program any (variables_from y m))
      variables_fit y zero = refl
      variables_fit y (suc m) = variables_fit (y + 1) m

  call_gives : (f : FunId) (env : Environment) (n : ℕ) (v : Value) → EnvOf program env
      → Gives program claims env (term.Whole (head.Fun f) (variables_from 0 n)) v → Gives flat claims env (term.Whole (head.Fun f) (variables_from 0 n)) v
  call_gives f env n _ known (gives.bottom _ t) = gives.bottom env t
  call_gives f env n v known (gives.whole _ h ts us _ ps app) =
      gives.whole env (head.Fun f) (variables_from 0 n) us v (variables_give env 0 n us ps)
      (applied_too (head.Fun f) us v app (variables_known env 0 n us known ps))

  pub concludes_too : (f : FunId) (vs : Values) (v : Value) → Concludes program claims f vs v → Concludes flat claims f vs v
  concludes_too f vs v h = (
    ap (λ (n : Option ℕ). takes n (count vs)) (arity_same program flat claims flattens valid (head.Fun f)) ∙ h.0,
    all_of_same program flat claims flattens valid vs ∙ h.1,
    call_gives f (arguments_env vs) (count vs) v (λ x. argument_known program vs x h.1) h.2,
  )
