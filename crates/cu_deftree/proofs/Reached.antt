-- The right side that a row reaches in its lowered tree or case distinction: what it is lowered to gives, the whole gives.
use Rattle.std.proofs.Common.{◌≡◌, ℕ, zero, suc, ◌+◌, ◌<◌, Bool, true, false, not, ◌&&◌, List, [], ◌∷◌, filter, length, Option, None, Some, slice_get, IsTrue, refl, ap, sym, ◌∙◌, subst, arith, eq-eqb, option_map}
use Rattle.std.proofs.lemmas.Bool.{and_parts}
use Rattle.std.proofs.lemmas.Option.{some_pair_parts}
use Rattle.cu_calculus.specs.declared.ConId.{ConId}
use Rattle.cu_calculus.specs.declared.Head.TheVariants as head
use Rattle.cu_calculus.specs.declared.Lit.{Lit}
use Rattle.cu_calculus.specs.declared.Mode.{Mode}
use Rattle.cu_calculus.specs.declared.Mode.TheVariants.{Flex}
use Rattle.cu_calculus.specs.Choose.{ALiteral, AConstructor, Demand, alternative_at, arguments_of, demand_of, is_demanding, leftmost, spliced, demands_constructor, demands_literal}
use Rattle.cu_calculus.specs.Flat.{all_differ, are_flat_alternatives, demands_of, is_flat_term, met_by}
use Rattle.cu_calculus.specs.Gives as gives
use Rattle.cu_calculus.specs.Gives.{AllGive, Claim, Gives}
use Rattle.cu_calculus.specs.Match.{Bindings, Environment, bind_all, matched, same_constructor}
use Rattle.cu_calculus.specs.Program.{Constructor, Program, arity_in, constructor_of}
use Rattle.cu_calculus.specs.Shape.{are_of, is_of, takes}
use Rattle.cu_calculus.specs.Term as term
use Rattle.cu_calculus.specs.Term.{Alternatives, Pattern, Term}
use Rattle.cu_calculus.specs.Valid.{fit_patterns, fits_pattern, holds, pattern_count}
use Rattle.cu_calculus.specs.Value as value
use Rattle.cu_calculus.specs.Value.{Value, Values, count, list_of}
use Rattle.cu_calculus.proofs.BelowLaws.{below_itself}
use Rattle.cu_calculus.proofs.Choosing.{literal_itself}
use Rattle.cu_calculus.proofs.Comparing.{same_is}
use Rattle.cu_calculus.proofs.FlatChoices.{chooses_flat}
use Rattle.cu_calculus.proofs.Lists.{get_map}
use Rattle.cu_calculus.proofs.OfProgram.{EnvOf, bind_all_of, matched_of}
use Rattle.cu_deftree.specs.Lowering as lowering
use Rattle.cu_deftree.specs.Lowering.{Branches, Cases, Distinguishes, IsOperation, Lowers, Tree, goes_on, literal_case, test_of, variables}
use Rattle.cu_deftree.specs.Rows.{Names, Row, constructor_arity, constructors_at, demand_at, demanded_by_all, demands, literals_at, name_of, specialize, specialized}
use Rattle.cu_deftree.proofs.Converse.{Ready, after_match, count_at, none_inside, numbers_count, numbers_low, opens_at, ready_opened}
use Rattle.cu_deftree.proofs.FlatTrees.{swapped, tree_flat}
use Rattle.cu_deftree.proofs.Meets.{AllFit, AllMeet, Meets, all_shape_matched, built_matches, literal_matches}
use Rattle.cu_deftree.proofs.Occurs.{all_demand_it, constructor_occurs, filtered, literal_occurs}
use Rattle.cu_deftree.proofs.Opening.{AllLow, At, Low, SameBelow, at_place, meet_at, meet_put, put}
use Rattle.cu_deftree.proofs.Suits.{NamesOf, Opens, RowFits, demand_is, filter_fits, names_opened, opened, opens_literal, pattern_fits, row_fits, specialized_is, takes_arity, there_too}

-- ---- rows that hold

-- An environment has what the patterns of a row matched, and what its variables stand for is called as the row says.
pub record RowHolds (E env : Environment) (vs : List Value) (row : Row) : Type 0 where
  pub meets : AllMeet (Some E) row.patterns vs
  pub named : NamesOf E env row

holds_opened : (next k : ℕ) (new : List ℕ) (p : Pattern) (row : Row) (E env inside : Environment) (vs : List Value) (u : Value) (args : List Value)
    → slice_get row.patterns k ≡ Some p → slice_get vs k ≡ Some u → Opens (length new) p u args → At inside new args → SameBelow next env inside
    → Low next row.names → RowHolds E env vs row → RowHolds E inside (put k args vs) (opened k new p row)
holds_opened next k new p row E env inside vs u args e f opens at same low h =
    let here = meet_at (Some E) k row.patterns vs p u e f h.meets in
    record {
      meets = meet_put (Some E) k (arguments_of (length new) p) row.patterns args vs (opens.deep E here) h.meets;
      named = names_opened next k new p row E env inside u args e opens here at same low h.named;
    }

pub holds_specialized : (program : Program) (positions : List ℕ) (next k position : ℕ) (new : List ℕ) (test : Demand → Bool) (row : Row)
    (E env inside : Environment) (vs args : List Value) → slice_get positions k ≡ Some position → RowFits program positions next row
    → At env positions vs → test (demand_at k row) ≡ true
    → ((p : Pattern) → test (demand_of p) ≡ true → IsTrue (fits_pattern program p) → Opens (length new) p (env position) args)
    → At inside new args → SameBelow next env inside → RowHolds E env vs row → RowHolds E inside (put k args vs) (specialized k new row)
holds_specialized program positions next k position new test row E env inside vs args e fits at passes opens new_at same h =
    let there = there_too row.patterns positions k position fits.many e in
    let p = there.0 in
    let wanted : test (demand_of p) ≡ true = ap test (sym (demand_is k row p there.1)) ∙ passes in
    subst (λ (r : Row). RowHolds E inside (put k args vs) r) (sym (specialized_is k new p row there.1))
    (holds_opened next k new p row E env inside vs (env position) args there.1 (at_place env k positions vs position e at)
    (opens p wanted (pattern_fits program row.patterns k p fits.known there.1)) new_at same fits.low h)

-- ---- right sides that are reached

-- what a right side is lowered to, and where
pub record Leaf (program : Program) (E : Environment) (body : Term) : Type 0 where
  pub names : Names
  pub next : ℕ
  pub right : Term
  pub inside : Environment
  pub lowers : Lowers program names next body right
  pub low : Low next names
  pub named : (x : ℕ) → E x ≡ inside (name_of names x)
  pub known : EnvOf program inside

pub record Reached (program flat : Program) (claims : List Claim) (env : Environment) (t : Term) (v : Value) (E : Environment) (body : Term) : Type 0 where
  pub leaf : Leaf program E body
  pub whole : Gives flat claims leaf.inside leaf.right v → Gives flat claims env t v

pub leaf_reached : (program flat : Program) (claims : List Claim) (next : ℕ) (row : Row) (t : Term) (E env : Environment) (vs : List Value) (v : Value)
    → leftmost row.patterns ≡ None → Lowers program row.names next row.body t → Low next row.names → EnvOf program env → RowHolds E env vs row
    → Reached program flat claims env t v E row.body
leaf_reached program flat claims next row t E env vs v e p low known h = record {
  leaf = record {
    names = row.names;
    next = next;
    right = t;
    inside = env;
    lowers = p;
    low = low;
    named = λ x. h.named x (ap (holds x) (none_inside row.patterns e));
    known = known;
  };
  whole = λ g. g;
}

left_reached : (program flat : Program) (claims : List Claim) (env : Environment) (a b : Term) (v : Value) (E : Environment) (body : Term)
    → Reached program flat claims env a v E body → Reached program flat claims env (term.Or a b) v E body
left_reached program flat claims env a b v E body r = record { leaf = r.leaf; whole = λ g. gives.left env a b v (r.whole g) }

right_reached : (program flat : Program) (claims : List Claim) (env : Environment) (a b : Term) (v : Value) (E : Environment) (body : Term)
    → Reached program flat claims env b v E body → Reached program flat claims env (term.Or a b) v E body
right_reached program flat claims env a b v E body r = record { leaf = r.leaf; whole = λ g. gives.right env a b v (r.whole g) }

-- a branch of a flat case distinction, in which a right side is reached
pub record Branched (program flat : Program) (claims : List Claim) (env : Environment) (alternatives : Alternatives) (w v : Value) (E : Environment)
    (body : Term) : Type 0 where
  pub place : ℕ
  pub pattern : Pattern
  pub right : Term
  pub bindings : Bindings
  pub at : alternative_at alternatives place ≡ Some (pattern, right)
  pub matches : matched pattern w ≡ Some bindings
  pub met : met_by w ≡ Some (demand_of pattern)
  pub reached : Reached program flat claims (bind_all env bindings) right v E body

pub later : (program flat : Program) (claims : List Claim) (env : Environment) (p : Pattern) (t : Term) (alternatives : Alternatives) (w v : Value)
    (E : Environment) (body : Term) → Branched program flat claims env alternatives w v E body
    → Branched program flat claims env (term.MoreAlternatives p t alternatives) w v E body
later program flat claims env p t alternatives w v E body b = record {
  place = suc b.place;
  pattern = b.pattern;
  right = b.right;
  bindings = b.bindings;
  at = b.at;
  matches = b.matches;
  met = b.met;
  reached = b.reached;
}

demand_placed : (alternatives : Alternatives) (j : ℕ) (p : Pattern) (t : Term) → alternative_at alternatives j ≡ Some (p, t)
    → slice_get (demands_of alternatives) j ≡ Some (demand_of p)
demand_placed term.NoAlternative j p t e = let no : ⊥ = cc in absurd no
demand_placed (term.MoreAlternatives q s alternatives) zero p t e = ap (λ (r : Pattern). Some (demand_of r)) (some_pair_parts q p s t e).0
demand_placed (term.MoreAlternatives q s alternatives) (suc j) p t e = demand_placed alternatives j p t e

pub case_reached : (program flat : Program) (claims : List Claim) (env : Environment) (mode : Mode) (a : Term) (alternatives : Alternatives) (w v : Value)
    (E : Environment) (body : Term) → is_flat_term (term.Case mode a alternatives) ≡ true → Gives flat claims env a w
    → Branched program flat claims env alternatives w v E body → Reached program flat claims env (term.Case mode a alternatives) v E body
case_reached program flat claims env mode a alternatives w v E body is_flat given b =
    let one = and_parts (is_flat_term a && all_differ (demands_of alternatives)) (are_flat_alternatives alternatives) is_flat in
    let two = and_parts (is_flat_term a) (all_differ (demands_of alternatives)) one.0 in
    record {
      leaf = b.reached.leaf;
      whole = λ g.
          gives.chosen env mode a b.right alternatives b.bindings w v given
          (record {
            choice = b.place;
            pattern = b.pattern;
            chooses = chooses_flat flat alternatives w b.place (demand_of b.pattern) one.1 two.1 b.met
                (demand_placed alternatives b.place b.pattern b.right b.at);
            at = b.at;
            matches = b.matches;
          }) (b.reached.whole g);
    }

-- ---- branches that values take

pub variables_shape : (xs : List ℕ) (us : Values) → length xs ≡ count us → AllFit None (variables xs) us
variables_shape [] value.NoValue e = refl
variables_shape [] (value.MoreValues u us) e = absurd (omega arith)
variables_shape (x ∷ xs) value.NoValue e = absurd (omega arith)
variables_shape (x ∷ xs) (value.MoreValues u us) e = (u, us, refl, tt, variables_shape xs us (omega arith))

-- a value of the program is matched by the branch of its constructor
pub constructor_met : (program : Program) (n : ℕ) (xs : List ℕ) (c d : ConId) (us : Values) (w : Value) → c ≡ d → n ≡ constructor_arity program c
    → length xs ≡ n → w ≡ value.Constructed d us → IsTrue (is_of program w)
    → (b : Bindings) × (matched (term.Built c (variables xs)) w ≡ Some b) × (met_by w ≡ Some (AConstructor c))
constructor_met program n xs c d us w same arity many is known =
    let here : w ≡ value.Constructed c us = is ∙ ap (λ (x : ConId). value.Constructed x us) (sym same) in
    let parts = and_parts (takes (arity_in program (head.Con c)) (count us)) (are_of program us) (subst (λ (x : Value). IsTrue (is_of program x)) here known) in
    let counted : constructor_arity program c ≡ count us = takes_arity (constructor_of program c) (count us) parts.0 in
    let fit = all_shape_matched (variables xs) us (variables_shape xs us (many ∙ arity ∙ counted)) in (
      fit.0,
      ap (matched (term.Built c (variables xs))) here ∙ built_matches c (variables xs) us fit.0 fit.1,
      ap met_by here,
    )

-- what a demanding pattern that is met demands
data Demanded (d : Demand) (w : Value) : Type 0 where
  this_literal : (l : Lit) → d ≡ ALiteral l → w ≡ value.Literal l → Demanded d w
  this_constructor : (c : ConId) (us : Values) → d ≡ AConstructor c → w ≡ value.Constructed c us → Demanded d w

demanded : (E : Environment) (p : Pattern) (w : Value) → Meets (Some E) p w → is_demanding (demand_of p) ≡ true → Demanded (demand_of p) w
demanded E (term.Any x) w m e = let no : ⊥ = cc in absurd no
demanded E (term.Named x p) w m e = demanded E p w m e
demanded E (term.Exactly l) w m e = this_literal l refl m
demanded E (term.Built c ps) w m e = this_constructor c m.0 refl m.1

demands_itself : (c : ConId) (d : Demand) → d ≡ AConstructor c → demands_constructor c d ≡ true
demands_itself c d e = ap (demands_constructor c) e ∙ eq-eqb c.0 c.0 refl

demands_this : (l : Lit) (d : Demand) → d ≡ ALiteral l → demands_literal l d ≡ true
demands_this l d e = ap (demands_literal l) e ∙ literal_itself l

-- a constructor that a pattern demands is one of the program
known_constructor : (program : Program) (c : ConId) (p : Pattern) → demands_constructor c (demand_of p) ≡ true → IsTrue (fits_pattern program p)
    → (constructor : Constructor) × (constructor_of program c ≡ Some constructor)
known_constructor program c (term.Any x) e f = let no : ⊥ = cc in absurd no
known_constructor program c (term.Exactly l) e f = let no : ⊥ = cc in absurd no
known_constructor program c (term.Named x p) e f = known_constructor program c p e f
known_constructor program c (term.Built d ps) e f =
    by (constructor_of program c) refl
    (subst (λ (x : ConId). IsTrue (takes (arity_in program (head.Con x)) (pattern_count ps))) (sym (same_is c d e))
    (and_parts (takes (arity_in program (head.Con d)) (pattern_count ps)) (fit_patterns program ps) f).0)
  where
    by : (found : Option Constructor) → constructor_of program c ≡ found → IsTrue (takes (arity_in program (head.Con c)) (pattern_count ps))
        → (constructor : Constructor) × (constructor_of program c ≡ Some constructor)
    by None g h =
        let none : takes None (pattern_count ps) ≡ true =
        ap (λ (o : Option Constructor). takes (option_map (λ constructor. constructor.arity) o) (pattern_count ps)) (sym g) ∙ h in
        let no : ⊥ = cc in absurd no
    by (Some constructor) g h = (constructor, g)

pub known_at_position : (program : Program) (positions : List ℕ) (next k position : ℕ) (row : Row) (c : ConId) → RowFits program positions next row
    → slice_get positions k ≡ Some position → demands_constructor c (demand_at k row) ≡ true
    → (constructor : Constructor) × (constructor_of program c ≡ Some constructor)
known_at_position program positions next k position row c fits e demands_choice =
    let there = there_too row.patterns positions k position fits.many e in
    known_constructor program c there.0 (ap (demands_constructor c) (sym (demand_is k row there.0 there.1)) ∙ demands_choice)
    (pattern_fits program row.patterns k there.0 fits.known there.1)

-- where the branch for what stands at a position is, and that a row goes on there
data Into (k : ℕ) (row : Row) (w : Value) (cs : List ConId) (ls : List Lit) : Type 0 where
  into_constructor : (c : ConId) (us : Values) (j : ℕ) → w ≡ value.Constructed c us → slice_get cs j ≡ Some c
      → demands_constructor c (demand_at k row) ≡ true → Into k row w cs ls
  into_literal : (l : Lit) (j : ℕ) → w ≡ value.Literal l → slice_get ls j ≡ Some l → demands_literal l (demand_at k row) ≡ true → Into k row w cs ls

branch_into : (program : Program) (positions : List ℕ) (next k position : ℕ) (rows : List Row) (E env : Environment) (vs : List Value) (i : ℕ) (row : Row)
    → demanded_by_all rows ≡ Some k → slice_get positions k ≡ Some position → slice_get rows i ≡ Some row → RowHolds E env vs row
    → Ready program positions next rows env vs
    → Into k row (env position) (constructors_at program k rows) (literals_at k rows)
branch_into program positions next k position rows E env vs i row e f there h ready =
    let fits = row_fits program positions next rows i row ready.fit there in
    let at = there_too row.patterns positions k position fits.many f in
    let p = at.0 in
    let demand = demand_is k row p at.1 in
    let demanding : is_demanding (demand_of p) ≡ true = ap is_demanding (sym demand) ∙ all_demand_it k rows i row e there in
    by (demand_of p) demand
    (demanded E p (env position) (meet_at (Some E) k row.patterns vs p (env position) at.1 (at_place env k positions vs position f ready.at) h.meets) demanding)
    fits
  where
    by : (d : Demand) → demand_at k row ≡ d → Demanded d (env position) → RowFits program positions next row
        → Into k row (env position) (constructors_at program k rows) (literals_at k rows)
    by d g (this_literal l is w) fits =
        let demands_choice = demands_this l (demand_at k row) (g ∙ is) in
        let found = literal_occurs k rows l i row there demands_choice in
        into_literal l found.0 w found.1 demands_choice
    by d g (this_constructor c us is w) fits =
        let demands_choice = demands_itself c (demand_at k row) (g ∙ is) in
        let known = known_at_position program positions next k position row c fits f demands_choice in
        let found = constructor_occurs program k rows c known.0 i row known.1 there demands_choice in
        into_constructor c us found.0 w found.1 demands_choice

-- ---- trees

pub reached_of : (program flat : Program) (claims : List Claim) (env : Environment) (t : Term) (v : Value) (E : Environment) (one two : Term) → one ≡ two
    → Reached program flat claims env t v E one → Reached program flat claims env t v E two
reached_of program flat claims env t v E one two same r = subst (λ (body : Term). Reached program flat claims env t v E body) same r

-- a row among those that demand a position, or among the others
split_reached : (program flat : Program) (claims : List Claim) (env : Environment) (a b : Term) (v : Value) (E : Environment) (body : Term) (c : Bool)
    → (c ≡ true → Reached program flat claims env a v E body) → (c ≡ false → Reached program flat claims env b v E body)
    → Reached program flat claims env (term.Or a b) v E body
split_reached program flat claims env a b v E body true p q = left_reached program flat claims env a b v E body (p refl)
split_reached program flat claims env a b v E body false p q = right_reached program flat claims env a b v E body (q refl)

module _ (program flat : Program) (claims : List Claim) (ordered : program.special.falsity.0 < program.special.truth.0) where
  pub apart : same_constructor program.special.truth program.special.falsity ≡ false
  apart = swapped program.special.truth.0 program.special.falsity.0 ordered

  mutual
    pub tree_reached : (positions : List ℕ) (next : ℕ) (rows : List Row) (t : Term) → Tree program positions next rows t → (E env : Environment)
        (vs : List Value) (v : Value) (i : ℕ) (row : Row) → slice_get rows i ≡ Some row → RowHolds E env vs row → EnvOf program env
        → Ready program positions next rows env vs → Reached program flat claims env t v E row.body
    tree_reached _ _ _ _ (lowering.no_rules positions next f is) E env vs v i row there h known ready = let no : ⊥ = cc in absurd no
    tree_reached _ _ _ t (lowering.rule positions next first _ e p) E env vs v zero row there h known ready =
        let same : row ≡ first = cc in
        reached_of program flat claims env t v E first.body row.body (ap (λ (r : Row). r.body) (sym same))
        (leaf_reached program flat claims next first t E env vs v e p ready.fit.0.low known (subst (λ (r : Row). RowHolds E env vs r) same h))
    tree_reached _ _ _ t (lowering.rule positions next first _ e p) E env vs v (suc i) row there h known ready = let no : ⊥ = cc in absurd no
    tree_reached _ _ _ _ (lowering.overlap positions next first other rows a b e p q) E env vs v zero row there h known ready =
        let same : row ≡ first = cc in
        left_reached program flat claims env a b v E row.body
        (reached_of program flat claims env a v E first.body row.body (ap (λ (r : Row). r.body) (sym same))
        (leaf_reached program flat claims next first a E env vs v e p ready.fit.0.low known (subst (λ (r : Row). RowHolds E env vs r) same h)))
    tree_reached _ _ _ _ (lowering.overlap positions next first other rows a b e p q) E env vs v (suc i) row there h known ready =
        right_reached program flat claims env a b v E row.body
        (tree_reached positions next (other ∷ rows) b q E env vs v i row there h known
        (record { at = ready.at; low = ready.low; fit = ready.fit.1 }))
    tree_reached _ _ _ _ (lowering.branch positions next k x first rows a e f p) E env vs v i row there h known ready =
        case_reached program flat claims env Flex (term.Variable x) a (env x) v E row.body
        (tree_flat program apart positions next (first ∷ rows) (term.Case Flex (term.Variable x) a)
        (lowering.branch positions next k x first rows a e f p)) (gives.variable env x (env x) (below_itself (env x)))
        (branches_reached positions next k (first ∷ rows) (constructors_at program k (first ∷ rows)) (literals_at k (first ∷ rows)) a p E x env vs v i row
        f there h known ready (branch_into program positions next k x (first ∷ rows) E env vs i row e f there h ready))
    tree_reached _ _ _ _ (lowering.split positions next k first rows a b e f p q) E env vs v i row there h known ready =
        let others = λ (other : Row). not (demands k other) in
        split_reached program flat claims env a b v E row.body (demands k row)
        (λ d.
        let at = filtered (demands k) (first ∷ rows) i row there d in
        tree_reached positions next (filter (demands k) (first ∷ rows)) a p E env vs v at.0 row at.1 h known
        (record { at = ready.at; low = ready.low; fit = filter_fits program positions next (demands k) (first ∷ rows) ready.fit }))
        (λ d.
        let at = filtered others (first ∷ rows) i row there (ap not d) in
        tree_reached positions next (filter others (first ∷ rows)) b q E env vs v at.0 row at.1 h known
        (record { at = ready.at; low = ready.low; fit = filter_fits program positions next others (first ∷ rows) ready.fit }))

    branches_reached : (positions : List ℕ) (next k : ℕ) (rows : List Row) (cs : List ConId) (ls : List Lit) (a : Alternatives)
        → Branches program positions next k rows cs ls a → (E : Environment) (position : ℕ) (env : Environment) (vs : List Value) (v : Value) (i : ℕ)
        (row : Row) → slice_get positions k ≡ Some position → slice_get rows i ≡ Some row → RowHolds E env vs row → EnvOf program env
        → Ready program positions next rows env vs → Into k row (env position) cs ls
        → Branched program flat claims env a (env position) v E row.body
    branches_reached _ _ _ _ _ _ _ (lowering.no_branch positions next k rows) E position env vs v i row place there h known ready
        (into_constructor c us j is at demands_choice) = let no : ⊥ = cc in absurd no
    branches_reached _ _ _ _ _ _ _ (lowering.no_branch positions next k rows) E position env vs v i row place there h known ready
        (into_literal l j is at demands_choice) = let no : ⊥ = cc in absurd no
    branches_reached _ _ _ _ _ _ _ (lowering.constructor_branch positions next k n xs rows c cs ls s a count is p rest) E position env vs v i row place
        there h known ready (into_constructor d us zero w at demands_choice) =
        let same : c ≡ d = cc in
        let many : length xs ≡ n = ap length is ∙ numbers_count next n in
        let met = constructor_met program n xs c d us (env position) same count many w (known position) in
        let inside = bind_all env met.0 in
        let after = after_match env next n xs c (env position) met.0 is met.1 in
        let args = list_of after.us in
        let low = subst (λ (zs : List ℕ). AllLow (next + n) zs) (sym is) (numbers_low next (next + n) n (omega arith)) in
        let test = demands_constructor c in
        let passes : test (demand_at k row) ≡ true = ap (λ (b : ConId). demands_constructor b (demand_at k row)) same ∙ demands_choice in
        let kept = filtered (λ (r : Row). test (demand_at k r)) rows i row there passes in
        let fits = row_fits program positions next rows i row ready.fit there in
        record {
          place = 0;
          pattern = term.Built c (variables xs);
          right = s;
          bindings = met.0;
          at = refl;
          matches = met.1;
          met = met.2;
          reached = tree_reached (spliced k xs positions) (next + n) (specialize k xs test rows) s p E inside (put k args vs) v kept.0
              (specialized k xs row) (get_map (specialized k xs) (filter (λ (r : Row). test (demand_at k r)) rows) kept.0 row kept.1)
              (holds_specialized program positions next k position xs test row E env inside vs args place fits ready.at passes
              (λ r g f. opens_at program claims ordered c xs (env position) after.us r n many count after.is after.many g f) after.at after.same h)
              (bind_all_of program env met.0 known (matched_of program (term.Built c (variables xs)) (env position) met.0 met.1 (known position)))
              (ready_opened program positions next (next + n) k position xs test rows env inside vs args (omega arith) low place
              (λ r g f. count_at program claims ordered c xs r n many count g f) after.at after.same ready);
        }
    branches_reached _ _ _ _ _ _ _ (lowering.constructor_branch positions next k n xs rows c cs ls s a count is p rest) E position env vs v i row place
        there h known ready (into_constructor d us (suc j) w at demands_choice) =
        later program flat claims env (term.Built c (variables xs)) s a (env position) v E row.body
        (branches_reached positions next k rows cs ls a rest E position env vs v i row place there h known ready (into_constructor d us j w at demands_choice))
    branches_reached _ _ _ _ _ _ _ (lowering.constructor_branch positions next k n xs rows c cs ls s a count is p rest) E position env vs v i row place
        there h known ready (into_literal l j w at demands_choice) =
        later program flat claims env (term.Built c (variables xs)) s a (env position) v E row.body
        (branches_reached positions next k rows cs ls a rest E position env vs v i row place there h known ready (into_literal l j w at demands_choice))
    branches_reached _ _ _ _ _ _ _ (lowering.literal_branch positions next k rows l ls s a p rest) E position env vs v i row place there h known ready
        (into_constructor d us j w at demands_choice) = let no : ⊥ = cc in absurd no
    branches_reached _ _ _ _ _ _ _ (lowering.literal_branch positions next k rows l ls s a p rest) E position env vs v i row place there h known ready
        (into_literal m zero w at demands_choice) =
        let same : l ≡ m = cc in
        let here : env position ≡ value.Literal l = w ∙ ap value.Literal (sym same) in
        let test = demands_literal l in
        let passes : test (demand_at k row) ≡ true = ap (λ (b : Lit). demands_literal b (demand_at k row)) same ∙ demands_choice in
        let kept = filtered (λ (r : Row). test (demand_at k r)) rows i row there passes in
        let fits = row_fits program positions next rows i row ready.fit there in
        record {
          place = 0;
          pattern = term.Exactly l;
          right = s;
          bindings = [];
          at = refl;
          matches = ap (matched (term.Exactly l)) here ∙ literal_matches l;
          met = ap met_by here;
          reached = tree_reached (spliced k [] positions) next (specialize k [] test rows) s p E env (put k [] vs) v kept.0 (specialized k [] row)
              (get_map (specialized k []) (filter (λ (r : Row). test (demand_at k r)) rows) kept.0 row kept.1)
              (holds_specialized program positions next k position [] test row E env env vs [] place fits ready.at passes
              (λ r g f. subst (λ (u : Value). Opens 0 r u []) (sym here) (opens_literal r l g)) tt (λ x b. refl) h) known
              (ready_opened program positions next next k position [] test rows env env vs [] (omega arith) tt place
              (λ r g f. (opens_literal r l g).many) tt (λ x b. refl) ready);
        }
    branches_reached _ _ _ _ _ _ _ (lowering.literal_branch positions next k rows l ls s a p rest) E position env vs v i row place there h known ready
        (into_literal m (suc j) w at demands_choice) =
        later program flat claims env (term.Exactly l) s a (env position) v E row.body
        (branches_reached positions next k rows [] ls a rest E position env vs v i row place there h known ready (into_literal m j w at demands_choice))
