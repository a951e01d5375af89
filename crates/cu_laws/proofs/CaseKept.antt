-- What a case distinction on a literal or a constructor has, the branch gives that is taken; and
-- without such a branch it has nothing.
use Rattle.std.proofs.Common.{◌≡◌, ℕ, ◌<◌, Bool, true, false, if◌then◌else◌, List, [], ◌∷◌, ◌++◌, Option, None, Some, IsTrue, refl, ap, sym, ◌∙◌, subst, length, map, zip, zero, suc, slice_get, true≢false}
use Rattle.std.specs.List.{list_all}
use Rattle.std.proofs.lemmas.Bool.{and_parts}
use Rattle.std.proofs.lemmas.List.{length-map}
use Rattle.cu_calculus.specs.declared.ConId.{ConId}
use Rattle.cu_calculus.specs.declared.Head.{Head}
use Rattle.cu_calculus.specs.declared.Head.TheVariants as head
use Rattle.cu_calculus.specs.declared.Lit.{Lit}
use Rattle.cu_calculus.specs.declared.Mode.{Mode}
use Rattle.cu_calculus.specs.Below.{Below, EnvBelow}
use Rattle.cu_calculus.specs.Choose.{Selects, demand_of}
use Rattle.cu_calculus.specs.Code as code
use Rattle.cu_calculus.specs.Code.{Branch, Code, Shallow, arity_of, expr_of}
use Rattle.cu_calculus.specs.Flat.{met_by}
use Rattle.cu_calculus.specs.FlatProgram.{all_any, alternatives_of, pattern_of, program_of, term_of}
use Rattle.cu_calculus.specs.Gives.{Claim, Gives}
use Rattle.cu_calculus.specs.Literal.{same_literal}
use Rattle.cu_calculus.specs.Match.{Bindings, all_matched, bind_all, empty, matched, same_constructor}
use Rattle.cu_calculus.specs.Proof.{is_claim_of}
use Rattle.cu_calculus.specs.Shape.{takes}
use Rattle.cu_calculus.specs.Term.{Pattern, Term}
use Rattle.cu_calculus.specs.Valid.{is_linear}
use Rattle.cu_calculus.specs.Value as value
use Rattle.cu_calculus.specs.Value.{Value}
use Rattle.cu_calculus.specs.WellFormed.{bound_by, fits_pattern, is_well_formed}
use Rattle.cu_calculus.proofs.Answering.{literal_is}
use Rattle.cu_calculus.proofs.BelowLaws.{below_trans}
use Rattle.cu_calculus.proofs.Choosing.{literal_itself}
use Rattle.cu_calculus.proofs.Comparing.{same_is, same_itself}
use Rattle.cu_calculus.proofs.TakenMatches.{selects_one}
use Rattle.cu_calculus.proofs.Weaken.{bind_all_below, weaken}
use Rattle.cu_machine.specs.declared.Kind.{Kind}
use Rattle.cu_machine.specs.declared.Kind.TheVariants as kind
use Rattle.cu_machine.specs.Build.{Scope, write}
use Rattle.cu_machine.specs.Graph.{Graph, Node, head_at, head_of}
use Rattle.cu_machine.specs.Rewrite.{branch_for, takes_constructor, takes_literal}
use Rattle.cu_machine.specs.Steps.{CaseAt, node}
use Rattle.cu_machine.specs.Validity.{NodesFit, has_arguments}
use Rattle.cu_machine.proofs.RowMoves.{some_is}
use Rattle.cu_laws.specs.Continues.{NothingPast}
use Rattle.cu_laws.specs.Good.{Assignment, Loose, Worth, env_in}
use Rattle.cu_laws.proofs.CallKept.{kept_by_writing}
use Rattle.cu_laws.proofs.CaseRows.{alternative_there, branch_at, branch_fits, constructor_pattern, literal_pattern, pattern_linear, takes_branch, takes_one}
use Rattle.cu_laws.proofs.Continuing.{Kept}
use Rattle.cu_laws.proofs.LooseNodes.{head_most, loose_at}
use Rattle.cu_laws.proofs.Extended.{alternative_is}
use Rattle.cu_laws.proofs.Heads.{made, values_at}
use Rattle.cu_laws.proofs.Known.{is_known, unmet_chooses, worth_of}
use Rattle.cu_laws.proofs.Raising.{rises_itself, there_unless_stuck}
use Rattle.cu_laws.proofs.Rising.{distinguished_rises, list_rises}
use Rattle.cu_laws.proofs.Scopes.{any_match, both_of_env}

one_expression : (o : Option code.Expr) (a b : code.Expr) → o ≡ Some a → o ≡ Some b → a ≡ b
one_expression o a b is are = some_is a b (sym is ∙ are)

-- What a case distinction gives on u where its scrutinee has at most that: a branch takes u, and
-- gives at least what the node has.
pub record Branches (program : Code) (claims : List Claim) (id : ℕ) (branches : List Branch) (kept values : List ℕ) (u : Value) (assigned : Assignment) : Type 0 where
  pub term : Term
  pub bindings : Bindings
  pub worth : Value
  pub selects : Selects (program_of program) (alternatives_of (term_of program) branches) u term bindings
  pub gives : Gives (program_of program) claims (bind_all (bind_all empty (zip kept (map assigned values))) bindings) term worth
  pub low : Below (assigned id) worth

pub branches_on : (program : Code) (claims : List Claim) (graph : Graph) (id : ℕ) (mode : Mode) (scrutinee : ℕ) (scope : Scope) (branches : List Branch) (u : Value)
    (assigned : Assignment) → Loose program claims graph assigned → is_known (assigned id) ≡ true → (at : CaseAt program graph id mode scrutinee scope branches)
    → Below (assigned scrutinee) u → Branches program claims id branches at.kept at.values u assigned
branches_on program claims graph id mode scrutinee scope branches u assigned loose known at up =
    let P = program_of program in
    let us = map assigned at.values in
    let found = worth_of (Worth program claims (kind.Case mode at.number) (assigned scrutinee ∷ us)) (assigned id) known
    (loose_at program claims graph assigned id (kind.Case mode at.number) (scrutinee ∷ at.values) loose at.node_is refl) in
    let d = distinguished_rises program claims (record { 0 = at.number }) (assigned scrutinee) u us us found.0 found.1 up
    (list_rises assigned assigned at.values (rises_itself assigned)) in
    let codes : code.Case d.mode d.kept d.scrutinee d.branches ≡ code.Case mode at.kept at.inner branches =
    one_expression (expr_of program (record { 0 = at.number })) (code.Case d.mode d.kept d.scrutinee d.branches) (code.Case mode at.kept at.inner branches) d.code_is at.code_is in
    let keepers : d.kept ≡ at.kept = cc in
    let arms : d.branches ≡ branches = cc in
    record {
      term = d.term;
      bindings = d.bindings;
      worth = found.0;
      selects = subst (λ (b : List Branch). Selects P (alternatives_of (term_of program) b) u d.term d.bindings) arms d.selects;
      gives = subst (λ (xs : List ℕ). Gives P claims (bind_all (bind_all empty (zip xs us)) d.bindings) d.term found.0) keepers d.gives;
      low = found.2;
    }

pub branches_give : (program : Code) (claims : List Claim) (graph : Graph) (id : ℕ) (mode : Mode) (scrutinee : ℕ) (scope : Scope) (branches : List Branch) (k : Kind)
    (args : List ℕ) (u : Value) (assigned : Assignment) → Loose program claims graph assigned → is_known (assigned id) ≡ true
    → (at : CaseAt program graph id mode scrutinee scope branches) → head_at graph scrutinee ≡ node k args → made k (values_at assigned args) ≡ Some u
    → Branches program claims id branches at.kept at.values u assigned
branches_give program claims graph id mode scrutinee scope branches k args u assigned loose known at head_is made_is =
    branches_on program claims graph id mode scrutinee scope branches u assigned loose known at (head_most program claims graph assigned scrutinee k args u loose head_is made_is)

-- ---- the branch that is taken

pub taken_kept : (program : Code) (claims : List Claim) (graph after : Graph) (id : ℕ) (mode : Mode) (scrutinee : ℕ) (scope : Scope) (branches : List Branch) (k : Kind)
    (args : List ℕ) (branch : Branch) (choice : ℕ) (inner_args : List ℕ) (u : Value) (assigned : Assignment)
    → is_well_formed program ≡ true → IsTrue (list_all (is_claim_of (program_of program)) claims) → Loose program claims graph assigned → NothingPast graph assigned
    → is_known (assigned id) ≡ true → CaseAt program graph id mode scrutinee scope branches → head_at graph scrutinee ≡ node k args
    → made k (values_at assigned args) ≡ Some u → slice_get branches choice ≡ Some branch → met_by u ≡ Some (demand_of (pattern_of branch.pattern))
    → matched (pattern_of branch.pattern) u ≡ Some (zip (bound_by branch.pattern) (map assigned inner_args))
    → after ≡ write program (scope ++ zip (bound_by branch.pattern) inner_args) graph id branch.body → Kept program claims graph after assigned
taken_kept program claims graph after id mode scrutinee scope branches k args branch choice inner_args u assigned well claimed loose past known at head_is made_is there met matches
    after_is =
    let P = program_of program in
    let xs = bound_by branch.pattern in
    let us = map assigned at.values in
    let here : id < length graph = there_unless_stuck graph id (kind.Case mode at.number) (scrutinee ∷ at.values) at.node_is refl in
    let fitting = branch_fits program at.number mode at.kept at.inner branches choice branch well at.code_is there in
    let inside = scope ++ zip xs inner_args in
    let body = term_of program branch.body in
    let bindings = zip xs (map assigned inner_args) in
    let found = branches_give program claims graph id mode scrutinee scope branches k args u assigned loose known at head_is made_is in
    let selects : Selects P (alternatives_of (term_of program) branches) u body bindings = record {
      choice = choice;
      pattern = pattern_of branch.pattern;
      chooses = takes_branch P (term_of program) branches choice branch u fitting.differ there met;
      at = alternative_there (term_of program) branches choice branch there;
      matches = matches;
    } in
    let same = selects_one P (alternatives_of (term_of program) branches) u found.term body found.bindings bindings found.selects selects in
    let outer = bind_all empty (zip at.kept us) in
    let with_term : Gives P claims (bind_all outer found.bindings) body found.worth =
    subst (λ (t : Term). Gives P claims (bind_all outer found.bindings) t found.worth) same.0 found.gives in
    let with_both : Gives P claims (bind_all outer bindings) body found.worth =
    subst (λ (b : Bindings). Gives P claims (bind_all outer b) body found.worth) same.1 with_term in
    let below_scope : EnvBelow outer (env_in assigned scope) =
    λ y. subst (λ (s : Scope). Below (outer y) (env_in assigned s y)) (sym at.scope_is) (both_of_env assigned [] at.kept at.values fitting.linear y) in
    let below_inside : EnvBelow (bind_all outer bindings) (env_in assigned inside) =
    λ y. below_trans (bind_all outer bindings y) (bind_all (env_in assigned scope) bindings y) (env_in assigned inside y)
    (bind_all_below outer (env_in assigned scope) bindings below_scope y)
    (both_of_env assigned scope xs inner_args (pattern_linear program branch.pattern fitting.pattern) y) in
    let given : Gives P claims (env_in assigned inside) body (assigned id) =
    weaken P claims (bind_all outer bindings) (env_in assigned inside) body found.worth (assigned id) with_both below_inside found.low in
    kept_by_writing program claims graph after id inside (at.kept ++ xs) branch.body assigned well claimed here fitting.body loose past after_is given

pub literal_kept : (program : Code) (claims : List Claim) (graph after : Graph) (id : ℕ) (mode : Mode) (scrutinee : ℕ) (scope : Scope) (branches : List Branch) (l : Lit)
    (args : List ℕ) (branch : Branch) (assigned : Assignment) → is_well_formed program ≡ true → IsTrue (list_all (is_claim_of (program_of program)) claims)
    → Loose program claims graph assigned → NothingPast graph assigned → is_known (assigned id) ≡ true → CaseAt program graph id mode scrutinee scope branches
    → head_at graph scrutinee ≡ node (kind.Lit l) args → branch_for (takes_literal l) branches ≡ Some branch
    → after ≡ write program (scope ++ zip (bound_by branch.pattern) []) graph id branch.body → Kept program claims graph after assigned
literal_kept program claims graph after id mode scrutinee scope branches l args branch assigned well claimed loose past known at head_is chosen after_is =
    let found = branch_at (takes_literal l) branches branch chosen in
    let is : branch.pattern ≡ code.Exactly l = literal_pattern l branch.pattern found.passes in
    let met : met_by (value.Literal l) ≡ Some (demand_of (pattern_of branch.pattern)) = ap (λ (p : Shallow). Some (demand_of (pattern_of p))) (sym is) in
    let matches : matched (pattern_of branch.pattern) (value.Literal l) ≡ Some (zip (bound_by branch.pattern) (map assigned [])) =
    subst (λ (p : Shallow). matched (pattern_of p) (value.Literal l) ≡ Some (zip (bound_by p) (map assigned []))) (sym is)
    (ap (λ (b : Bool). if b then Some [] else None) (literal_itself l)) in
    taken_kept program claims graph after id mode scrutinee scope branches (kind.Lit l) args branch found.place [] (value.Literal l) assigned well claimed loose past known at
    head_is refl found.is met matches after_is

pub constructor_kept : (program : Code) (claims : List Claim) (graph after : Graph) (id : ℕ) (mode : Mode) (scrutinee : ℕ) (scope : Scope) (branches : List Branch)
    (c : ConId) (args : List ℕ) (branch : Branch) (assigned : Assignment) → is_well_formed program ≡ true → IsTrue (list_all (is_claim_of (program_of program)) claims)
    → NodesFit program graph → Loose program claims graph assigned → NothingPast graph assigned → is_known (assigned id) ≡ true
    → CaseAt program graph id mode scrutinee scope branches → head_at graph scrutinee ≡ node (kind.Cons c) args → branch_for (takes_constructor c) branches ≡ Some branch
    → after ≡ write program (scope ++ zip (bound_by branch.pattern) args) graph id branch.body → Kept program claims graph after assigned
constructor_kept program claims graph after id mode scrutinee scope branches c args branch assigned well claimed fit loose past known at head_is chosen after_is =
    let found = branch_at (takes_constructor c) branches branch chosen in
    let pattern = constructor_pattern c branch.pattern found.passes in
    let xs = pattern.0 in
    let is : branch.pattern ≡ code.Built c xs = pattern.1 in
    let u = value.Constructed c (values_at assigned args) in
    let place : head_of graph scrutinee < length graph = there_unless_stuck graph (head_of graph scrutinee) (kind.Cons c) args head_is refl in
    let whole : takes (arity_of program (head.Con c)) (length args) ≡ true =
    subst (λ (n : Node). has_arguments program n.kind (length n.args) ≡ true) head_is (fit (head_of graph scrutinee) place) in
    let fitting = branch_fits program at.number mode at.kept at.inner branches found.place branch well at.code_is found.is in
    let variables : takes (arity_of program (head.Con c)) (length xs) ≡ true =
    (and_parts (takes (arity_of program (head.Con c)) (length xs)) (is_linear xs) (subst (λ (p : Shallow). fits_pattern program p ≡ true) is fitting.pattern)).0 in
    let as_many : length xs ≡ length (map assigned args) =
    takes_one (arity_of program (head.Con c)) (length xs) (length args) variables whole ∙ sym (length-map args assigned) in
    let met : met_by u ≡ Some (demand_of (pattern_of branch.pattern)) = ap (λ (p : Shallow). Some (demand_of (pattern_of p))) (sym is) in
    let matches : matched (pattern_of branch.pattern) u ≡ Some (zip (bound_by branch.pattern) (map assigned args)) =
    subst (λ (p : Shallow). matched (pattern_of p) u ≡ Some (zip (bound_by p) (map assigned args))) (sym is)
    (ap (λ (b : Bool). if b then all_matched (all_any xs) (values_at assigned args) else None) (same_itself c) ∙ any_match xs (map assigned args) as_many) in
    taken_kept program claims graph after id mode scrutinee scope branches (kind.Cons c) args branch found.place args u assigned well claimed loose past known at head_is refl
    found.is met matches after_is

-- ---- without a branch

-- no branch passes a test that finds none
no_branch : (test : Shallow → Bool) (branches : List Branch) (k : ℕ) (branch : Branch) → branch_for test branches ≡ None → slice_get branches k ≡ Some branch
    → test branch.pattern ≡ true → ⊥
no_branch test [] k branch none at passes = cc
no_branch test (first ∷ branches) zero branch none at passes =
    let same : first ≡ branch = cc in go (test first.pattern) (ap (λ (b : Branch). test b.pattern) same ∙ passes) none
  where
    go : (b : Bool) → b ≡ true → (if b then Some first else branch_for test branches) ≡ None → ⊥
    go true is e = cc
    go false is e = true≢false (sym is)
no_branch test (first ∷ branches) (suc k) branch none at passes = go (test first.pattern) none (λ e. no_branch test branches k branch e at passes)
  where
    go : (b : Bool) → (if b then Some first else branch_for test branches) ≡ None → (branch_for test branches ≡ None → ⊥) → ⊥
    go true e rest = cc
    go false e rest = rest e

matched_literal : (l : Lit) (p : Shallow) (bindings : Bindings) → matched (pattern_of p) (value.Literal l) ≡ Some bindings → takes_literal l p ≡ true
matched_literal l (code.Exactly m) bindings is = go (same_literal m l) refl is
  where
    go : (b : Bool) → same_literal m l ≡ b → (if b then Some [] else None) ≡ Some bindings → same_literal l m ≡ true
    go true same e = let is_one : m ≡ l = literal_is m l same in subst (λ (x : Lit). same_literal l x ≡ true) (sym is_one) (literal_itself l)
    go false same e = let no : ⊥ = cc in absurd no
matched_literal l (code.Built c xs) bindings is = let no : ⊥ = cc in absurd no

matched_constructor : (c : ConId) (us : value.Values) (p : Shallow) (bindings : Bindings) → matched (pattern_of p) (value.Constructed c us) ≡ Some bindings
    → takes_constructor c p ≡ true
matched_constructor c us (code.Exactly l) bindings is = let no : ⊥ = cc in absurd no
matched_constructor c us (code.Built d xs) bindings is = go (same_constructor d c) refl is
  where
    go : (b : Bool) → same_constructor d c ≡ b → (if b then all_matched (all_any xs) us else None) ≡ Some bindings → same_constructor c d ≡ true
    go true same e = let is_one : d ≡ c = same_is d c same in subst (λ (x : ConId). same_constructor c x ≡ true) (sym is_one) (same_itself c)
    go false same e = let no : ⊥ = cc in absurd no

-- a test that the pattern of what is selected passes
selected_passes : (program : Code) (branches : List Branch) (u : Value) (t : Term) (bindings : Bindings) (test : Shallow → Bool)
    → Selects (program_of program) (alternatives_of (term_of program) branches) u t bindings
    → ((p : Shallow) → matched (pattern_of p) u ≡ Some bindings → test p ≡ true) → branch_for test branches ≡ None → ⊥
selected_passes program branches u t bindings test selects passes none =
    let place = alternative_is (term_of program) branches selects.choice selects.pattern t selects.at in
    no_branch test branches selects.choice place.0 none place.1
    (passes place.0.pattern (subst (λ (p : Pattern). matched p u ≡ Some bindings) place.2 selects.matches))

module _ (program : Code) (claims : List Claim) (graph : Graph) (id : ℕ) (mode : Mode) (scrutinee : ℕ) (scope : Scope) (branches : List Branch) (args : List ℕ)
    (assigned : Assignment) (loose : Loose program claims graph assigned) (known : is_known (assigned id) ≡ true)
    (at : CaseAt program graph id mode scrutinee scope branches) where
  pub no_literal_branch : (l : Lit) → head_at graph scrutinee ≡ node (kind.Lit l) args → branch_for (takes_literal l) branches ≡ None → ⊥
  no_literal_branch l head_is none =
      let found = branches_give program claims graph id mode scrutinee scope branches (kind.Lit l) args (value.Literal l) assigned loose known at head_is refl in
      selected_passes program branches (value.Literal l) found.term found.bindings (takes_literal l) found.selects (λ p is. matched_literal l p found.bindings is) none

  pub no_constructor_branch : (c : ConId) → head_at graph scrutinee ≡ node (kind.Cons c) args → branch_for (takes_constructor c) branches ≡ None → ⊥
  no_constructor_branch c head_is none =
      let us = values_at assigned args in
      let u = value.Constructed c us in
      let found = branches_give program claims graph id mode scrutinee scope branches (kind.Cons c) args u assigned loose known at head_is refl in
      selected_passes program branches u found.term found.bindings (takes_constructor c) found.selects (λ p is. matched_constructor c us p found.bindings is) none

  pub no_partial_branch : (h : Head) → head_at graph scrutinee ≡ node (kind.Part h) args → ⊥
  no_partial_branch h head_is =
      let u = value.Partial h (values_at assigned args) in
      let found = branches_give program claims graph id mode scrutinee scope branches (kind.Part h) args u assigned loose known at head_is refl in
      unmet_chooses (program_of program) (term_of program) branches u found.selects.choice found.selects.chooses refl
