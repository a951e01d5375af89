-- A case distinction on a literal or a constructor is worth what the branch is that is written over
-- it.
use Rattle.std.proofs.Common.{◌≡◌, ℕ, zero, suc, ◌+◌, ◌<◌, Bool, true, false, ◌&&◌, List, [], ◌∷◌, ◌++◌, Option, None, Some, refl, ap, sym, ◌∙◌, subst, if◌then◌else◌, length, map, zip, eqb-true, slice_get, inr, true≢false}
use Rattle.std.specs.List.{list_all}
use Rattle.std.proofs.lemmas.Bool.{and_from, and_parts}
use Rattle.std.proofs.lemmas.List.{length-map}
use Rattle.cu_calculus.specs.declared.ConId.{ConId}
use Rattle.cu_calculus.specs.declared.ExprId.{ExprId}
use Rattle.cu_calculus.specs.declared.Head.TheVariants as head
use Rattle.cu_calculus.specs.declared.Lit.{Lit}
use Rattle.cu_calculus.specs.declared.Mode.{Mode}
use Rattle.cu_calculus.specs.Below.{Below, EnvBelow}
use Rattle.cu_calculus.specs.Choose.{Chooses, Row, Selects, alternative_at, demand_of, rows_from}
use Rattle.cu_calculus.specs.Code as code
use Rattle.cu_calculus.specs.Code.{Branch, Code, Shallow, arity_of, expr_of}
use Rattle.cu_calculus.specs.Flat.{are_flat_alternatives, demands_of, is_shallow, met_by}
use Rattle.cu_calculus.specs.FlatProgram.{all_any, alternatives_of, pattern_of, program_of, term_of}
use Rattle.cu_calculus.specs.Gives.{Claim, Gives}
use Rattle.cu_calculus.specs.Match.{all_matched, bind_all, empty, matched}
use Rattle.cu_calculus.specs.Program.{Program}
use Rattle.cu_calculus.specs.Shape.{takes}
use Rattle.cu_calculus.specs.Term as term
use Rattle.cu_calculus.specs.Term.{Alternatives, Pattern, Term}
use Rattle.cu_calculus.specs.Valid.{is_linear}
use Rattle.cu_calculus.specs.Value as value
use Rattle.cu_calculus.specs.Value.{Value}
use Rattle.cu_calculus.specs.WellFormed.{all_differ, bound_by, fit_branches, fits, fits_case, fits_pattern, is_well_formed}
use Rattle.cu_calculus.proofs.Answering.{literal_is}
use Rattle.cu_calculus.proofs.BelowLaws.{below_itself, below_trans}
use Rattle.cu_calculus.proofs.Choosing.{literal_itself}
use Rattle.cu_calculus.proofs.Comparing.{same_is, same_itself}
use Rattle.cu_calculus.proofs.FlatChoices.{chooses_flat}
use Rattle.cu_calculus.proofs.FlatFitting.{differ_kept, shallow_kept}
use Rattle.cu_calculus.proofs.FlatTerms.{fits_branch}
use Rattle.cu_calculus.proofs.Weaken.{bind_all_below, weaken}
use Rattle.cu_machine.specs.declared.Kind.{Kind}
use Rattle.cu_machine.specs.declared.Kind.TheVariants as kind
use Rattle.cu_machine.specs.Build.{Scope, build, instead, write}
use Rattle.cu_machine.specs.Graph.{Graph, Node, head_at, head_of}
use Rattle.cu_machine.specs.Rewrite.{branch_for, takes_constructor, takes_literal}
use Rattle.cu_machine.specs.Steps.{CaseAt, node}
use Rattle.cu_machine.specs.Validity.{NodesFit, has_arguments}
use Rattle.cu_machine.proofs.Building.{all_get, cases_fit}
use Rattle.cu_laws.specs.Good.{Assignment, Distinguished, Good, env_in}
use Rattle.cu_laws.proofs.Built.{written_worth}
use Rattle.cu_laws.proofs.Changed.{Sound, apart_before, changed_by_writing, sound_as}
use Rattle.cu_laws.proofs.Heads.{made, values_at}
use Rattle.cu_laws.proofs.Lifting.{lifted}
use Rattle.cu_laws.proofs.Raising.{there_unless_stuck}
use Rattle.cu_laws.proofs.Scopes.{any_match, env_of_both, env_of_zip, kept_rise}

-- ---- branches and alternatives

pub record At (test : Shallow → Bool) (branches : List Branch) (branch : Branch) : Type 0 where
  pub place : ℕ
  pub is : slice_get branches place ≡ Some branch
  pub passes : test branch.pattern ≡ true

pub branch_at : (test : Shallow → Bool) (branches : List Branch) (branch : Branch) → branch_for test branches ≡ Some branch → At test branches branch
branch_at test [] branch is = let no : ⊥ = cc in absurd no
branch_at test (first ∷ branches) branch is = go (test first.pattern) refl (branch_at test branches branch) is
  where
    go : (b : Bool) → test first.pattern ≡ b → (branch_for test branches ≡ Some branch → At test branches branch)
        → (if b then Some first else branch_for test branches) ≡ Some branch → At test (first ∷ branches) branch
    go true passed after e =
        let same : first ≡ branch = cc in record { place = 0; is = ap Some same; passes = ap (λ (x : Branch). test x.pattern) (sym same) ∙ passed }
    go false failed after e = let rest = after e in record { place = suc rest.place; is = rest.is; passes = rest.passes }

-- the rows of alternatives don't depend on their terms
pub rows_alike : (t s : ExprId → Term) (n : ℕ) (branches : List Branch) → rows_from n (alternatives_of t branches) ≡ rows_from n (alternatives_of s branches)
rows_alike t s n [] = refl
rows_alike t s n (branch ∷ branches) =
    ap (λ (rows : List Row). record { patterns = pattern_of branch.pattern ∷ []; choice = n } ∷ rows) (rows_alike t s (n + 1) branches)

abbrev plain_term : ExprId → Term
plain_term e = term.Variable 0

plain_flat : (branches : List Branch) → are_flat_alternatives (alternatives_of plain_term branches) ≡ true
plain_flat [] = refl
plain_flat (branch ∷ branches) =
    let shallow = is_shallow (pattern_of branch.pattern) in
    and_from (shallow && true) (are_flat_alternatives (alternatives_of plain_term branches)) (and_from shallow true (shallow_kept branch.pattern) refl) (plain_flat branches)

demand_at : (t : ExprId → Term) (branches : List Branch) (k : ℕ) (branch : Branch) → slice_get branches k ≡ Some branch
    → slice_get (demands_of (alternatives_of t branches)) k ≡ Some (demand_of (pattern_of branch.pattern))
demand_at t [] k branch is = let no : ⊥ = cc in absurd no
demand_at t (first ∷ branches) zero branch is = let same : first ≡ branch = cc in ap (λ (x : Branch). Some (demand_of (pattern_of x.pattern))) same
demand_at t (first ∷ branches) (suc k) branch is = demand_at t branches k branch is

pub alternative_there : (t : ExprId → Term) (branches : List Branch) (k : ℕ) (branch : Branch) → slice_get branches k ≡ Some branch
    → alternative_at (alternatives_of t branches) k ≡ Some (pattern_of branch.pattern, t branch.body)
alternative_there t [] k branch is = let no : ⊥ = cc in absurd no
alternative_there t (first ∷ branches) zero branch is =
    let same : first ≡ branch = cc in ap (λ (x : Branch). let pair : Pattern × Term = (pattern_of x.pattern, t x.body) in Some pair) same
alternative_there t (first ∷ branches) (suc k) branch is = alternative_there t branches k branch is

-- a value takes the branch that demands what it is
pub takes_branch : (program : Program) (t : ExprId → Term) (branches : List Branch) (k : ℕ) (branch : Branch) (u : Value) → all_differ branches ≡ true
    → slice_get branches k ≡ Some branch → met_by u ≡ Some (demand_of (pattern_of branch.pattern))
    → Chooses program (rows_from 0 (alternatives_of t branches)) (u ∷ []) k
takes_branch program t branches k branch u differ at met =
    subst (λ (rows : List Row). Chooses program rows (u ∷ []) k) (rows_alike plain_term t 0 branches)
    (chooses_flat program (alternatives_of plain_term branches) u k (demand_of (pattern_of branch.pattern)) (plain_flat branches)
    (differ_kept plain_term branches ∙ differ) met (demand_at plain_term branches k branch at))

-- ---- branches that fit

pub record BranchFits (program : Code) (kept : List ℕ) (branches : List Branch) (branch : Branch) : Type 0 where
  pub linear : is_linear kept ≡ true
  pub differ : all_differ branches ≡ true
  pub pattern : fits_pattern program branch.pattern ≡ true
  pub body : fits (length program.expressions) program (kept ++ bound_by branch.pattern) branch.body ≡ true

pub branch_fits : (program : Code) (number : ℕ) (mode : Mode) (kept : List ℕ) (inner : ExprId) (branches : List Branch) (k : ℕ) (branch : Branch)
    → is_well_formed program ≡ true → expr_of program (record { 0 = number }) ≡ Some (code.Case mode kept inner branches) → slice_get branches k ≡ Some branch
    → BranchFits program kept branches branch
branch_fits program number mode kept inner branches k branch well code_is at =
    let part = fits (length program.expressions) program in
    let all : fit_branches part program kept branches ≡ true =
    all_get (fits_case program) program.expressions number (code.Case mode kept inner branches) (cases_fit program well) code_is in
    let each = list_all (fits_branch part program kept) branches in
    let parts = and_parts (is_linear kept && all_differ branches) each all in
    let prefix = and_parts (is_linear kept) (all_differ branches) parts.0 in
    let here = all_get (fits_branch part program kept) branches k branch parts.1 at in
    let both = and_parts (fits_pattern program branch.pattern) (part (kept ++ bound_by branch.pattern) branch.body) here in
    record { linear = prefix.0; differ = prefix.1; pattern = both.0; body = both.1 }

pub pattern_linear : (program : Code) (p : Shallow) → fits_pattern program p ≡ true → is_linear (bound_by p) ≡ true
pattern_linear program (code.Exactly l) fit = refl
pattern_linear program (code.Built c xs) fit = (and_parts (takes (arity_of program (head.Con c)) (length xs)) (is_linear xs) fit).1

-- ---- the branch that is taken

pub taken_sound : (program : Code) (claims : List Claim) (graph after : Graph) (id : ℕ) (mode : Mode) (scrutinee : ℕ) (scope : Scope) (branches : List Branch) (k : Kind)
    (args : List ℕ) (branch : Branch) (choice : ℕ) (inner_args : List ℕ) (u : Value) (later : Assignment)
    → is_well_formed program ≡ true → NodesFit program graph → CaseAt program graph id mode scrutinee scope branches → head_at graph scrutinee ≡ node k args
    → made k (values_at later args) ≡ Some u → slice_get branches choice ≡ Some branch → met_by u ≡ Some (demand_of (pattern_of branch.pattern))
    → matched (pattern_of branch.pattern) u ≡ Some (zip (bound_by branch.pattern) (map later inner_args))
    → after ≡ write program (scope ++ zip (bound_by branch.pattern) inner_args) graph id branch.body → Good program claims after later
    → Sound program claims graph later
taken_sound program claims graph after id mode scrutinee scope branches k args branch choice inner_args u later well fit at head_is made_is there met matches after_is good =
    let P = program_of program in
    let xs = bound_by branch.pattern in
    let case_kind = kind.Case mode at.number in
    let here : id < length graph = there_unless_stuck graph id case_kind (scrutinee ∷ at.values) at.node_is refl in
    let fitting = branch_fits program at.number mode at.kept at.inner branches choice branch well at.code_is there in
    let inside = scope ++ zip xs inner_args in
    let built = build program inside (length graph) branch.body in
    let body = term_of program branch.body in
    let given : Gives P claims (env_in later inside) body (later id) =
    written_worth program claims graph id inside (at.kept ++ xs) branch.body later here fitting.body (subst (λ (g : Graph). Good program claims g later) after_is good) in
    let apart = apart_before program claims graph id after (instead built.top) later (changed_by_writing graph id after built here after_is) good in
    let lift = lifted program claims graph id later case_kind (scrutinee ∷ at.values) at.node_is refl fit apart scrutinee k args u head_is made_is in
    let higher = lift.higher in
    let bindings = zip xs (map later inner_args) in
    let low = bind_all empty (zip at.kept (map later at.values)) in
    let high = bind_all empty (zip at.kept (map higher at.values)) in
    let outer : EnvBelow (env_in later scope) high =
    λ y. below_trans (env_in later scope y) (low y) (high y)
    (subst (λ (s : Scope). Below (env_in later s y) (low y)) (sym at.scope_is) (env_of_zip later at.kept at.values fitting.linear y))
    (kept_rise later higher at.kept at.values lift.rises y) in
    let whole : EnvBelow (env_in later inside) (bind_all high bindings) =
    λ y. below_trans (env_in later inside y) (bind_all (env_in later scope) bindings y) (bind_all high bindings y)
    (env_of_both later scope xs inner_args (pattern_linear program branch.pattern fitting.pattern) y)
    (bind_all_below (env_in later scope) high bindings outer y) in
    let result : Gives P claims (bind_all high bindings) body (later id) =
    weaken P claims (env_in later inside) (bind_all high bindings) body (later id) (later id) given whole (below_itself (later id)) in
    let selects : Selects P (alternatives_of (term_of program) branches) u body bindings = record {
      choice = choice;
      pattern = pattern_of branch.pattern;
      chooses = takes_branch P (term_of program) branches choice branch u fitting.differ there met;
      at = alternative_there (term_of program) branches choice branch there;
      matches = matches;
    } in
    let distinguished : Distinguished program claims (record { 0 = at.number }) u (map higher at.values) (later id) = record {
      mode = mode;
      kept = at.kept;
      scrutinee = at.inner;
      branches = branches;
      code_is = at.code_is;
      term = body;
      bindings = bindings;
      selects = selects;
      gives = result;
    } in
    let worth : Distinguished program claims (record { 0 = at.number }) (higher scrutinee) (map higher at.values) (later id) =
    subst (λ (x : Value). Distinguished program claims (record { 0 = at.number }) x (map higher at.values) (later id)) (sym lift.there) distinguished in
    sound_as program claims graph id case_kind (scrutinee ∷ at.values) later higher at.node_is lift.good lift.rises
    (inr (later id, worth, subst (λ (x : Value). Below x (later id)) (sym lift.kept) (below_itself (later id))))

-- ---- literals and constructors

pub literal_pattern : (l : Lit) (p : Shallow) → takes_literal l p ≡ true → p ≡ code.Exactly l
literal_pattern l (code.Exactly m) is = ap code.Exactly (sym (literal_is l m is))
literal_pattern l (code.Built c xs) is = absurd (true≢false (sym is))

pub literal_sound : (program : Code) (claims : List Claim) (graph after : Graph) (id : ℕ) (mode : Mode) (scrutinee : ℕ) (scope : Scope) (branches : List Branch) (l : Lit)
    (args : List ℕ) (branch : Branch) (later : Assignment) → is_well_formed program ≡ true → NodesFit program graph
    → CaseAt program graph id mode scrutinee scope branches → head_at graph scrutinee ≡ node (kind.Lit l) args → branch_for (takes_literal l) branches ≡ Some branch
    → after ≡ write program (scope ++ zip (bound_by branch.pattern) []) graph id branch.body → Good program claims after later → Sound program claims graph later
literal_sound program claims graph after id mode scrutinee scope branches l args branch later well fit at head_is chosen after_is good =
    let found = branch_at (takes_literal l) branches branch chosen in
    let is : branch.pattern ≡ code.Exactly l = literal_pattern l branch.pattern found.passes in
    let met : met_by (value.Literal l) ≡ Some (demand_of (pattern_of branch.pattern)) = ap (λ (p : Shallow). Some (demand_of (pattern_of p))) (sym is) in
    let matches : matched (pattern_of branch.pattern) (value.Literal l) ≡ Some (zip (bound_by branch.pattern) (map later [])) =
    subst (λ (p : Shallow). matched (pattern_of p) (value.Literal l) ≡ Some (zip (bound_by p) (map later []))) (sym is)
    (ap (λ (b : Bool). if b then Some [] else None) (literal_itself l)) in
    taken_sound program claims graph after id mode scrutinee scope branches (kind.Lit l) args branch found.place [] (value.Literal l) later well fit at head_is refl found.is
    met matches after_is good

pub constructor_pattern : (c : ConId) (p : Shallow) → takes_constructor c p ≡ true → (xs : List ℕ) × (p ≡ code.Built c xs)
constructor_pattern c (code.Exactly l) is = absurd (true≢false (sym is))
constructor_pattern c (code.Built d xs) is = (xs, ap (λ (x : ConId). code.Built x xs) (sym (same_is c d is)))

pub takes_one : (o : Option ℕ) (m n : ℕ) → takes o m ≡ true → takes o n ≡ true → m ≡ n
takes_one None m n a b = absurd (true≢false (sym a))
takes_one (Some k) m n a b = sym (eqb-true k m a) ∙ eqb-true k n b

pub constructor_sound : (program : Code) (claims : List Claim) (graph after : Graph) (id : ℕ) (mode : Mode) (scrutinee : ℕ) (scope : Scope) (branches : List Branch)
    (c : ConId) (args : List ℕ) (branch : Branch) (later : Assignment) → is_well_formed program ≡ true → NodesFit program graph
    → CaseAt program graph id mode scrutinee scope branches → head_at graph scrutinee ≡ node (kind.Cons c) args → branch_for (takes_constructor c) branches ≡ Some branch
    → after ≡ write program (scope ++ zip (bound_by branch.pattern) args) graph id branch.body → Good program claims after later → Sound program claims graph later
constructor_sound program claims graph after id mode scrutinee scope branches c args branch later well fit at head_is chosen after_is good =
    let found = branch_at (takes_constructor c) branches branch chosen in
    let pattern = constructor_pattern c branch.pattern found.passes in
    let xs = pattern.0 in
    let is : branch.pattern ≡ code.Built c xs = pattern.1 in
    let u = value.Constructed c (values_at later args) in
    let place : head_of graph scrutinee < length graph = there_unless_stuck graph (head_of graph scrutinee) (kind.Cons c) args head_is refl in
    let whole : takes (arity_of program (head.Con c)) (length args) ≡ true =
    subst (λ (n : Node). has_arguments program n.kind (length n.args) ≡ true) head_is (fit (head_of graph scrutinee) place) in
    let fitting = branch_fits program at.number mode at.kept at.inner branches found.place branch well at.code_is found.is in
    let variables : takes (arity_of program (head.Con c)) (length xs) ≡ true =
    (and_parts (takes (arity_of program (head.Con c)) (length xs)) (is_linear xs) (subst (λ (p : Shallow). fits_pattern program p ≡ true) is fitting.pattern)).0 in
    let as_many : length xs ≡ length (map later args) = takes_one (arity_of program (head.Con c)) (length xs) (length args) variables whole ∙ sym (length-map args later) in
    let met : met_by u ≡ Some (demand_of (pattern_of branch.pattern)) = ap (λ (p : Shallow). Some (demand_of (pattern_of p))) (sym is) in
    let matches : matched (pattern_of branch.pattern) u ≡ Some (zip (bound_by branch.pattern) (map later args)) =
    subst (λ (p : Shallow). matched (pattern_of p) u ≡ Some (zip (bound_by p) (map later args))) (sym is)
    (ap (λ (b : Bool). if b then all_matched (all_any xs) (values_at later args) else None) (same_itself c) ∙ any_match xs (map later args) as_many) in
    taken_sound program claims graph after id mode scrutinee scope branches (kind.Cons c) args branch found.place args u later well fit at head_is refl found.is
    met matches after_is good
