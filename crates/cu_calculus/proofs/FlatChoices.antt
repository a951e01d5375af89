-- Of flat alternatives the one is taken that demands what the value is.
use Rattle.std.proofs.Common.{◌≡◌, ℕ, zero, suc, ◌+◌, Bool, true, false, not, ◌&&◌, ◌||◌, List, [], ◌∷◌, ◌++◌, if◌then◌else◌, cond, filter, map, length, Option, None, Some, option_map, slice_get, refl, ap, sym, ◌∙◌, subst, arith, add-one}
use Rattle.std.specs.List.{list_any}
use Rattle.std.proofs.lemmas.Bool.{and_parts, or_parts}
use Rattle.cu_calculus.specs.declared.ConId.{ConId}
use Rattle.cu_calculus.specs.declared.Lit.{Lit}
use Rattle.cu_calculus.specs.Choose.{AConstructor, ALiteral, Chooses, Demand, Nowhere, Row, at_constructor, at_literal, demand_at, demand_of, has_variable, leftmost, list_patterns, look, look_from, specialized_look, specialized_row, rows_from, spliced, demands_constructor, demands_literal, demands_nothing}
use Rattle.cu_calculus.specs.Chosen.{chosen, chosen_after}
use Rattle.cu_calculus.specs.Flat.{all_differ, are_flat_alternatives, are_variables, demands_of, is_flat_term, is_shallow, met_by, same_demand}
use Rattle.cu_calculus.specs.Program.{Program}
use Rattle.cu_calculus.specs.Term as term
use Rattle.cu_calculus.specs.Term.{Alternatives, Pattern, Patterns, Term}
use Rattle.cu_calculus.specs.Value as value
use Rattle.cu_calculus.specs.Value.{Value, list_of}
use Rattle.cu_calculus.proofs.Answering.{literal_is}
use Rattle.cu_calculus.proofs.Choosing.{chooses_chosen, chosen_chooses, chosen_looks, literal_itself}
use Rattle.cu_calculus.proofs.Comparing.{same_is, same_itself}
use Rattle.cu_calculus.proofs.Looks.{meets}

-- what flat alternatives are made of
record FlatParts (p : Pattern) (alternatives : Alternatives) : Type 0 where
  shallow : is_shallow p ≡ true
  rest : are_flat_alternatives alternatives ≡ true

flat_parts : (p : Pattern) (t : Term) (alternatives : Alternatives) → are_flat_alternatives (term.MoreAlternatives p t alternatives) ≡ true
    → FlatParts p alternatives
flat_parts p t alternatives e =
    let outer = and_parts (is_shallow p && is_flat_term t) (are_flat_alternatives alternatives) e in
    record { shallow = (and_parts (is_shallow p) (is_flat_term t) outer.0).0; rest = outer.1 }

variables_free : (ps : Patterns) → are_variables ps ≡ true → leftmost (list_patterns ps ++ []) ≡ None
variables_free term.NoPattern e = refl
variables_free (term.MorePatterns (term.Any x) ps) e = ap (option_map (λ k. k + 1)) (variables_free ps e)
variables_free (term.MorePatterns _ ps) e = let no : ⊥ = cc in absurd no

-- a shallow pattern demands something, and its arguments nothing
abbrev pub row_of : Pattern → ℕ → Row
row_of p choice = record { patterns = p ∷ []; choice = choice }

specialized_free : (p : Pattern) (m choice : ℕ) → is_shallow p ≡ true → leftmost (specialized_row 0 m (row_of p choice)).patterns ≡ None
specialized_free (term.Any x) m choice e = let no : ⊥ = cc in absurd no
specialized_free (term.Exactly l) m choice e = refl
specialized_free (term.Built c ps) m choice e = variables_free ps e
specialized_free (term.Named x p) m choice e = let no : ⊥ = cc in absurd no

shallow_demands : (p : Pattern) → is_shallow p ≡ true → demands_nothing (demand_of p) ≡ false
shallow_demands (term.Any x) e = let no : ⊥ = cc in absurd no
shallow_demands (term.Exactly l) e = refl
shallow_demands (term.Built c ps) e = refl
shallow_demands (term.Named x p) e = let no : ⊥ = cc in absurd no

shallow_first : (p : Pattern) → is_shallow p ≡ true → leftmost (p ∷ []) ≡ Some 0
shallow_first (term.Any x) e = let no : ⊥ = cc in absurd no
shallow_first (term.Exactly l) e = refl
shallow_first (term.Built c ps) e = refl
shallow_first (term.Named x p) e = let no : ⊥ = cc in absurd no

no_variables : (n : ℕ) (alternatives : Alternatives) → are_flat_alternatives alternatives ≡ true → has_variable 0 (rows_from n alternatives) ≡ false
no_variables n term.NoAlternative e = refl
no_variables n (term.MoreAlternatives p t alternatives) e =
    let parts = flat_parts p t alternatives e in
    ap (λ b. b || has_variable 0 (rows_from (n + 1) alternatives)) (shallow_demands p parts.shallow)
    ∙ no_variables (n + 1) alternatives parts.rest

-- the first place where a test is passed
abbrev pub first_place : (Demand → Bool) → List Demand → Option ℕ
first_place test [] = None
first_place test (d ∷ ds) = if test d then Some 0 else option_map (λ k. k + 1) (first_place test ds)

shifted : (n : ℕ) (found : Option ℕ) → option_map (λ k. (n + 1) + k) found ≡ option_map (λ k. n + k) (option_map (λ k. k + 1) found)
shifted n None = refl
shifted n (Some k) = ap Some (omega arith)

-- where the first row demands nothing, it is taken
takes_free : (program : Program) (row : Row) (rows : List Row) (values : List Value) → leftmost row.patterns ≡ None
    → chosen program (row ∷ rows) values ≡ Some row.choice
takes_free program row rows values e =
    chosen_looks program (row ∷ rows) values
    ∙ ap (λ (found : Option ℕ). chosen_after (chosen program) values (look_from program row (row ∷ rows) values found)) e

-- of rows that are left over arguments, the first is taken
first_taken : (program : Program) (m n : ℕ) (test : Demand → Bool) (alternatives : Alternatives) (parts : List Value)
    → are_flat_alternatives alternatives ≡ true
    → chosen program (map (specialized_row 0 m) (filter (λ row. test (demand_at 0 row)) (rows_from n alternatives))) parts
    ≡ option_map (λ k. n + k) (first_place test (demands_of alternatives))
first_taken program m n test term.NoAlternative parts e = refl
first_taken program m n test (term.MoreAlternatives p t alternatives) parts e =
    by (test (demand_of p)) (first_taken program m (n + 1) test alternatives parts flat.rest)
  where
    flat : FlatParts p alternatives
    flat = flat_parts p t alternatives e

    kept : List Row
    kept = filter (λ row. test (demand_at 0 row)) (rows_from (n + 1) alternatives)

    by : (b : Bool) → chosen program (map (specialized_row 0 m) kept) parts ≡ option_map (λ k. (n + 1) + k) (first_place test (demands_of alternatives))
        → chosen program (map (specialized_row 0 m) (cond b (row_of p n ∷ kept) kept)) parts
        ≡ option_map (λ k. n + k) (if b then Some 0 else option_map (λ k. k + 1) (first_place test (demands_of alternatives)))
    by true rest =
        takes_free program (specialized_row 0 m (row_of p n)) (map (specialized_row 0 m) kept) parts (specialized_free p m n flat.shallow) ∙ ap Some (omega arith)
    by false rest = rest ∙ shifted n (first_place test (demands_of alternatives))

-- one look finds what stands there
specialize_chosen : (program : Program) (u : Value) (arguments : List Value) (alternatives : Alternatives) → are_flat_alternatives alternatives ≡ true
    → look program (rows_from 0 alternatives) (u ∷ []) ≡ specialized_look 0 (meets u) (rows_from 0 alternatives) arguments (u ∷ [])
    → chosen program (rows_from 0 alternatives) (u ∷ []) ≡ option_map (λ k. 0 + k) (first_place (meets u) (demands_of alternatives))
specialize_chosen program u arguments alternatives flat e =
    chosen_looks program (rows_from 0 alternatives) (u ∷ []) ∙ ap (chosen_after (chosen program) (u ∷ [])) e
    ∙ first_taken program (length arguments) 0 (meets u) alternatives (spliced 0 arguments (u ∷ [])) flat

literal_look : (program : Program) (l : Lit) (p : Pattern) (t : Term) (alternatives : Alternatives)
    → are_flat_alternatives (term.MoreAlternatives p t alternatives) ≡ true
    → look program (rows_from 0 (term.MoreAlternatives p t alternatives)) (value.Literal l ∷ [])
    ≡ specialized_look 0 (meets (value.Literal l)) (rows_from 0 (term.MoreAlternatives p t alternatives)) [] (value.Literal l ∷ [])
literal_look program l p t alternatives e =
    let rows = rows_from 0 (term.MoreAlternatives p t alternatives) in
    let values = value.Literal l ∷ [] in
    ap (look_from program (row_of p 0) rows values) (shallow_first p (flat_parts p t alternatives e).shallow)
    ∙ ap (λ b. at_literal 0 l (demand_of p) b rows values) (no_variables 0 (term.MoreAlternatives p t alternatives) e)

built_look : (program : Program) (c : ConId) (us : value.Values) (p : Pattern) (t : Term) (alternatives : Alternatives)
    → are_flat_alternatives (term.MoreAlternatives p t alternatives) ≡ true
    → look program (rows_from 0 (term.MoreAlternatives p t alternatives)) (value.Constructed c us ∷ [])
    ≡ specialized_look 0 (meets (value.Constructed c us)) (rows_from 0 (term.MoreAlternatives p t alternatives)) (list_of us) (value.Constructed c us ∷ [])
built_look program c us p t alternatives e =
    let rows = rows_from 0 (term.MoreAlternatives p t alternatives) in
    let values = value.Constructed c us ∷ [] in
    ap (look_from program (row_of p 0) rows values) (shallow_first p (flat_parts p t alternatives e).shallow)
    ∙ ap (λ b. at_constructor program 0 c (demand_of p) b rows (list_of us) values) (no_variables 0 (term.MoreAlternatives p t alternatives) e)

-- nothing else is met
never_first : (u : Value) (ds : List Demand) → met_by u ≡ None → first_place (meets u) ds ≡ None
never_first (value.Literal l) ds e = let no : ⊥ = cc in absurd no
never_first (value.Constructed c us) ds e = let no : ⊥ = cc in absurd no
never_first value.Bottom [] e = refl
never_first (value.Variable x) [] e = refl
never_first (value.Partial h vs) [] e = refl
never_first value.Bottom (d ∷ ds) e = ap (option_map (λ k. k + 1)) (never_first value.Bottom ds e)
never_first (value.Variable x) (d ∷ ds) e = ap (option_map (λ k. k + 1)) (never_first (value.Variable x) ds e)
never_first (value.Partial h vs) (d ∷ ds) e = ap (option_map (λ k. k + 1)) (never_first (value.Partial h vs) ds e)

stuck_look : (program : Program) (u : Value) (p : Pattern) (t : Term) (alternatives : Alternatives)
    → are_flat_alternatives (term.MoreAlternatives p t alternatives) ≡ true
    → look_from program (row_of p 0) (rows_from 0 (term.MoreAlternatives p t alternatives)) (u ∷ []) (Some 0) ≡ Nowhere
    → chosen program (rows_from 0 (term.MoreAlternatives p t alternatives)) (u ∷ []) ≡ None
stuck_look program u p t alternatives e none =
    let rows = rows_from 0 (term.MoreAlternatives p t alternatives) in
    let found : look program rows (u ∷ []) ≡ Nowhere =
    ap (look_from program (row_of p 0) rows (u ∷ [])) (shallow_first p (flat_parts p t alternatives e).shallow) ∙ none in
    chosen_looks program rows (u ∷ []) ∙ ap (chosen_after (chosen program) (u ∷ [])) found

-- flat alternatives: the first is taken that demands what the value is
flat_chosen : (program : Program) (alternatives : Alternatives) (u : Value) → are_flat_alternatives alternatives ≡ true
    → chosen program (rows_from 0 alternatives) (u ∷ []) ≡ option_map (λ k. 0 + k) (first_place (meets u) (demands_of alternatives))
flat_chosen program term.NoAlternative u e = refl
flat_chosen program (term.MoreAlternatives p t alternatives) (value.Literal l) e =
    specialize_chosen program (value.Literal l) [] (term.MoreAlternatives p t alternatives) e (literal_look program l p t alternatives e)
flat_chosen program (term.MoreAlternatives p t alternatives) (value.Constructed c us) e =
    specialize_chosen program (value.Constructed c us) (list_of us) (term.MoreAlternatives p t alternatives) e
    (built_look program c us p t alternatives e)
flat_chosen program (term.MoreAlternatives p t alternatives) value.Bottom e =
    stuck_look program value.Bottom p t alternatives e refl
    ∙ ap (option_map (λ k. 0 + k)) (sym (never_first value.Bottom (demands_of (term.MoreAlternatives p t alternatives)) refl))
flat_chosen program (term.MoreAlternatives p t alternatives) (value.Variable x) e =
    stuck_look program (value.Variable x) p t alternatives e refl
    ∙ ap (option_map (λ k. 0 + k)) (sym (never_first (value.Variable x) (demands_of (term.MoreAlternatives p t alternatives)) refl))
flat_chosen program (term.MoreAlternatives p t alternatives) (value.Partial h vs) e =
    stuck_look program (value.Partial h vs) p t alternatives e refl
    ∙ ap (option_map (λ k. 0 + k)) (sym (never_first (value.Partial h vs) (demands_of (term.MoreAlternatives p t alternatives)) refl))

-- a value meets the one demand that it is
meets_is : (u : Value) (d : Demand) → meets u d ≡ true → met_by u ≡ Some d
meets_is (value.Literal l) (ALiteral m) e = ap (λ (x : Lit). Some (ALiteral x)) (literal_is l m e)
meets_is (value.Constructed c us) (AConstructor d) e = ap (λ (x : ConId). Some (AConstructor x)) (same_is c d e)
meets_is _ _ e = let no : ⊥ = cc in absurd no

met_meets : (u : Value) (d : Demand) → met_by u ≡ Some d → meets u d ≡ true
met_meets (value.Literal l) d e =
    let same : ALiteral l ≡ d = cc in subst (λ (x : Demand). demands_literal l x ≡ true) same (literal_itself l)
met_meets (value.Constructed c us) d e =
    let same : AConstructor c ≡ d = cc in subst (λ (x : Demand). demands_constructor c x ≡ true) same (same_itself c)
met_meets value.Bottom d e = let no : ⊥ = cc in absurd no
met_meets (value.Variable x) d e = let no : ⊥ = cc in absurd no
met_meets (value.Partial h vs) d e = let no : ⊥ = cc in absurd no

both_met : (u : Value) (d e : Demand) → meets u d ≡ true → met_by u ≡ Some e → same_demand d e ≡ true
both_met (value.Literal l) d e met is =
    let found = meets_is (value.Literal l) d met in
    let one : ALiteral l ≡ d = cc in
    let two : ALiteral l ≡ e = cc in
    subst (λ (x : Demand). same_demand x e ≡ true) one (subst (λ (x : Demand). same_demand (ALiteral l) x ≡ true) two (literal_itself l))
both_met (value.Constructed c us) d e met is =
    let found = meets_is (value.Constructed c us) d met in
    let one : AConstructor c ≡ d = cc in
    let two : AConstructor c ≡ e = cc in
    subst (λ (x : Demand). same_demand x e ≡ true) one (subst (λ (x : Demand). same_demand (AConstructor c) x ≡ true) two (same_itself c))
both_met value.Bottom d e met is = let no : ⊥ = cc in absurd no
both_met (value.Variable x) d e met is = let no : ⊥ = cc in absurd no
both_met (value.Partial h vs) d e met is = let no : ⊥ = cc in absurd no

-- the place that is found, and where it is
first_there : (test : Demand → Bool) (ds : List Demand) (k : ℕ) → first_place test ds ≡ Some k
    → (d : Demand) × (slice_get ds k ≡ Some d) × (test d ≡ true)
first_there test [] k e = let no : ⊥ = cc in absurd no
first_there test (d ∷ ds) k e = by (test d) refl (first_place test ds) (λ j f. first_there test ds j f) e
  where
    by : (b : Bool) → test d ≡ b → (found : Option ℕ)
        → ((j : ℕ) → found ≡ Some j → (x : Demand) × (slice_get ds j ≡ Some x) × (test x ≡ true))
        → (if b then Some 0 else option_map (λ m. m + 1) found) ≡ Some k → (x : Demand) × (slice_get (d ∷ ds) k ≡ Some x) × (test x ≡ true)
    by true is found rest f =
        let here : 0 ≡ k = cc in subst (λ (m : ℕ). (x : Demand) × (slice_get (d ∷ ds) m ≡ Some x) × (test x ≡ true)) here (d, refl, is)
    by false is None rest f = let no : ⊥ = cc in absurd no
    by false is (Some j) rest f =
        let place : j + 1 ≡ k = cc in
        let next : suc j ≡ k = sym (add-one j) ∙ place in
        subst (λ (m : ℕ). (x : Demand) × (slice_get (d ∷ ds) m ≡ Some x) × (test x ≡ true)) next (rest j refl)

-- another demand of the list isn't the same
differs_at : (d e : Demand) (ds : List Demand) (k : ℕ) → list_any (same_demand d) ds ≡ false → slice_get ds k ≡ Some e → same_demand d e ≡ false
differs_at d e [] k none at = let no : ⊥ = cc in absurd no
differs_at d e (x ∷ ds) zero none at =
    let same : x ≡ e = cc in
    subst (λ (y : Demand). same_demand d y ≡ false) same (or_parts (same_demand d x) (list_any (same_demand d) ds) none).0
differs_at d e (x ∷ ds) (suc k) none at =
    differs_at d e ds k (or_parts (same_demand d x) (list_any (same_demand d) ds) none).1 at

not_true : (b : Bool) → not b ≡ true → b ≡ false
not_true true e = let no : ⊥ = cc in absurd no
not_true false e = refl

there_first : (u : Value) (ds : List Demand) (k : ℕ) (d : Demand) → all_differ ds ≡ true → met_by u ≡ Some d → slice_get ds k ≡ Some d
    → first_place (meets u) ds ≡ Some k
there_first u [] k d differ met at = let no : ⊥ = cc in absurd no
there_first u (x ∷ ds) zero d differ met at =
    let same : d ≡ x = cc in
    let here : meets u x ≡ true = subst (λ (y : Demand). meets u y ≡ true) same (met_meets u d met) in
    ap (λ b. if b then Some 0 else option_map (λ m. m + 1) (first_place (meets u) ds)) here
there_first u (x ∷ ds) (suc k) d differ met at =
    let parts = and_parts (not (list_any (same_demand x) ds)) (all_differ ds) differ in
    let rest = there_first u ds k d parts.1 met at in
    let other : same_demand x d ≡ false = differs_at x d ds k (not_true (list_any (same_demand x) ds) parts.0) at in
    ap (λ b. if b then Some 0 else option_map (λ m. m + 1) (first_place (meets u) ds)) (unmet (meets u x) refl other)
    ∙ ap (option_map (λ m. m + 1)) rest ∙ ap Some (add-one k)
  where
    unmet : (b : Bool) → meets u x ≡ b → same_demand x d ≡ false → meets u x ≡ false
    unmet false e other = e
    unmet true e other =
        let same = both_met u x d e met in
        let no : ⊥ = cc in
        absurd no

-- of flat alternatives the one is taken that demands what the value is
pub flat_chooses : (program : Program) (alternatives : Alternatives) (u : Value) (choice : ℕ) → are_flat_alternatives alternatives ≡ true
    → Chooses program (rows_from 0 alternatives) (u ∷ []) choice
    → (d : Demand) × (met_by u ≡ Some d) × (slice_get (demands_of alternatives) choice ≡ Some d)
flat_chooses program alternatives u choice flat chooses =
    let found = chooses_chosen program (rows_from 0 alternatives) (u ∷ []) choice chooses in
    let first : option_map (λ k. 0 + k) (first_place (meets u) (demands_of alternatives)) ≡ Some choice = sym (flat_chosen program alternatives u flat) ∙ found in
    let there = first_there (meets u) (demands_of alternatives) choice (plain (first_place (meets u) (demands_of alternatives)) first) in
    (there.0, meets_is u there.0 there.2, there.1)
  where
    plain : (found : Option ℕ) → option_map (λ k. 0 + k) found ≡ Some choice → found ≡ Some choice
    plain None e = let no : ⊥ = cc in absurd no
    plain (Some k) e = let same : 0 + k ≡ choice = cc in ap Some (omega (arith, same))

pub chooses_flat : (program : Program) (alternatives : Alternatives) (u : Value) (choice : ℕ) (d : Demand)
    → are_flat_alternatives alternatives ≡ true → all_differ (demands_of alternatives) ≡ true → met_by u ≡ Some d
    → slice_get (demands_of alternatives) choice ≡ Some d → Chooses program (rows_from 0 alternatives) (u ∷ []) choice
chooses_flat program alternatives u choice d flat differ met at =
    let first = there_first u (demands_of alternatives) choice d differ met at in
    chosen_chooses program (rows_from 0 alternatives) (u ∷ []) choice
    (flat_chosen program alternatives u flat ∙ ap (option_map (λ k. 0 + k)) first ∙ ap Some (omega arith))
