-- What lowering gives of a valid program fits the program: heads have as many arguments as before, and each variable is bound.
use Rattle.std.proofs.Common.{◌≡◌, ℕ, zero, suc, ◌+◌, ◌<◌, ◌≤◌, ◌⊎◌, inl, inr, Bool, true, false, not, ◌&&◌, List, [], ◌∷◌, ◌++◌, cond, if◌then◌else◌, filter, length, map, nat_eq, Option, None, Some, option_map, slice_get, IsTrue, refl, ap, sym, ◌∙◌, subst, arith, add-one, eq-eqb, eqb-true, true≢false}
use Rattle.std.specs.List.{flat_map, list_all, list_any}
use Rattle.std.proofs.lemmas.Bool.{and_from, and_parts}
use Rattle.cu_calculus.specs.declared.ConId.{ConId}
use Rattle.cu_calculus.specs.declared.FunId.{FunId}
use Rattle.cu_calculus.specs.declared.Head.{Head}
use Rattle.cu_calculus.specs.declared.Head.TheVariants as head
use Rattle.cu_calculus.specs.declared.Lit.{Lit}
use Rattle.cu_calculus.specs.declared.Mode.{Mode}
use Rattle.cu_calculus.specs.declared.Mode.TheVariants.{Flex}
use Rattle.cu_calculus.specs.declared.builtin.Primitive.TheVariants as prim
use Rattle.cu_calculus.specs.Choose.{ALiteral, AConstructor, Demand, Nothing, arguments_of, demand_of, not_literal, spliced, demands_constructor, demands_literal}
use Rattle.cu_calculus.specs.Literal.{is_literal, same_literal}
use Rattle.cu_calculus.specs.Program.{Constructor, Program, arity_in, constructor_of}
use Rattle.cu_calculus.specs.Shape.{is_allowed, takes, takes_more}
use Rattle.cu_calculus.specs.Term as term
use Rattle.cu_calculus.specs.Term.{Alternatives, Pattern, Patterns, Term, Terms}
use Rattle.cu_calculus.specs.Valid.{also, also_all, but, fit_alternatives, fit_patterns, fit_terms, fits_pattern, fits_term, holds, is_linear, pattern_count, term_count, variables_of}
use Rattle.cu_deftree.specs.Lowering as lowering
use Rattle.cu_deftree.specs.Lowering.{AllLower, Branches, Cases, Distinguishes, IsOperation, Lowers, Tree, failure, goes_on, literal_case, test_of, variables}
use Rattle.cu_deftree.specs.Rows.{Names, Row, constructor_arity, constructor_ids, constructors_at, demand_at, demands, first_occurrences, literal_in, literals_at, name_of, names_at, numbers, rows_of, siblings, specialize}
use Rattle.cu_deftree.proofs.Alternatives.{alternatives_fit}
use Rattle.cu_deftree.proofs.Converse.{low_bound, low_on, numbers_count, numbers_linear, variables_are}
use Rattle.cu_deftree.proofs.Lowerable.{branch_fits, counts_constructor, counts_goes_on, counts_literal, literal_branch_fits}
use Rattle.cu_deftree.proofs.Opening.{Low, inner, inner_all, spliced_put}
use Rattle.cu_deftree.proofs.Scoped.{AllMay, RowsSee, Under, all_within, filter_sees, leaf_sees, may_at, may_put, more_names, new_may, new_names, or_cases, or_first, or_second, rows_opened, targets_at, under_also, under_one, variable_named, within_also}
use Rattle.cu_deftree.proofs.Suits.{RowsFit, filter_fits, pattern_fits}
use Rattle.cu_calculus.proofs.Fitting.{any, fits_any}

-- ---- constructors and literals that branches look for

-- constructors of a program
abbrev KnownConstructors : Program → List ConId → Type 0
KnownConstructors program [] = Unit {0}
KnownConstructors program (c ∷ cs) = IsTrue (takes (arity_in program (head.Con c)) (constructor_arity program c)) × KnownConstructors program cs

abbrev KnownLiterals : List Lit → Type 0
KnownLiterals [] = Unit {0}
KnownLiterals (l ∷ ls) = IsTrue (is_literal l) × KnownLiterals ls

there_below : {A : Type 0} (xs : List A) (k : ℕ) → k < length xs → (x : A) × (slice_get xs k ≡ Some x)
there_below [] k l = absurd (omega arith)
there_below (x ∷ xs) zero l = (x, refl)
there_below (x ∷ xs) (suc k) l = there_below xs k (omega arith)

takes_its_arity : (found : Option Constructor) (constructor : Constructor) → found ≡ Some constructor
    → takes (option_map (λ c. c.arity) found) (elim found [ Some c ↦ c.arity | None ↦ 0 ]) ≡ true
takes_its_arity None constructor e = let no : ⊥ = cc in absurd no
takes_its_arity (Some found) constructor e = eq-eqb found.arity found.arity refl

ids_known : (program : Program) (from n : ℕ) → from + n ≤ length program.constructors
    → KnownConstructors program (map (λ m. record { 0 = m }) (numbers from n))
ids_known program from zero l = tt
ids_known program from (suc n) l =
    let c : ConId = record { 0 = from } in
    let there = there_below program.constructors from (omega arith) in
    (takes_its_arity (constructor_of program c) there.0 there.1, ids_known program (suc from) n (omega arith))

known_filter : (program : Program) (test : ConId → Bool) (cs : List ConId) → KnownConstructors program cs → KnownConstructors program (filter test cs)
known_filter program test [] h = tt
known_filter program test (c ∷ cs) h = by (test c) (known_filter program test cs h.1)
  where
    by : (b : Bool) → KnownConstructors program (filter test cs) → KnownConstructors program (cond b (c ∷ filter test cs) (filter test cs))
    by true rest = (h.0, rest)
    by false rest = rest

all_known : (program : Program) (test : ConId → Bool) → KnownConstructors program (filter test (constructor_ids program))
all_known program test = known_filter program test (constructor_ids program) (ids_known program 0 (length program.constructors) (omega arith))

literals_filter : (test : Lit → Bool) (ls : List Lit) → KnownLiterals ls → KnownLiterals (filter test ls)
literals_filter test [] h = tt
literals_filter test (l ∷ ls) h = by (test l) (literals_filter test ls h.1)
  where
    by : (b : Bool) → KnownLiterals (filter test ls) → KnownLiterals (cond b (l ∷ filter test ls) (filter test ls))
    by true rest = (h.0, rest)
    by false rest = rest

occurrences_known : (ls : List Lit) → KnownLiterals ls → KnownLiterals (first_occurrences ls)
occurrences_known [] h = tt
occurrences_known (l ∷ ls) h = (h.0, literals_filter (λ m. not (same_literal l m)) (first_occurrences ls) (occurrences_known ls h.1))

literals_append : (ls ms : List Lit) → KnownLiterals ls → KnownLiterals ms → KnownLiterals (ls ++ ms)
literals_append [] ms h k = k
literals_append (l ∷ ls) ms h k = (h.0, literals_append ls ms h.1 k)

-- the literal of a pattern that fits
literal_known : (program : Program) (p : Pattern) (l : Lit) → demand_of p ≡ ALiteral l → IsTrue (fits_pattern program p) → IsTrue (is_literal l)
literal_known program (term.Any x) l e h = let no : ⊥ = cc in absurd no
literal_known program (term.Built c ps) l e h = let no : ⊥ = cc in absurd no
literal_known program (term.Named x p) l e h = literal_known program p l e h
literal_known program (term.Exactly m) l e h = let same : m ≡ l = cc in ap is_literal (sym same) ∙ h

row_literal : (program : Program) (k : ℕ) (ps : List Pattern) (l : Lit) → IsTrue (list_all (fits_pattern program) ps)
    → elim (slice_get ps k) [ Some p ↦ demand_of p | None ↦ Nothing ] ≡ ALiteral l → IsTrue (is_literal l)
row_literal program k ps l h = by (slice_get ps k) refl
  where
    by : (found : Option Pattern) → slice_get ps k ≡ found → elim found [ Some p ↦ demand_of p | None ↦ Nothing ] ≡ ALiteral l → IsTrue (is_literal l)
    by None e d = let no : ⊥ = cc in absurd no
    by (Some p) e d = literal_known program p l d (pattern_fits program ps k p h e)

literals_of_rows : (program : Program) (positions : List ℕ) (next k : ℕ) (rows : List Row) → RowsFit program positions next rows
    → KnownLiterals (flat_map (λ row. literal_in (demand_at k row)) rows)
literals_of_rows program positions next k [] h = tt
literals_of_rows program positions next k (row ∷ rows) h =
    literals_append (literal_in (demand_at k row)) (flat_map (λ r. literal_in (demand_at k r)) rows) (by (demand_at k row) refl)
    (literals_of_rows program positions next k rows h.1)
  where
    by : (d : Demand) → demand_at k row ≡ d → KnownLiterals (literal_in d)
    by Nothing e = tt
    by (AConstructor c) e = tt
    by (ALiteral l) e = (row_literal program k row.patterns l h.0.known e, tt)

literals_known : (program : Program) (positions : List ℕ) (next k : ℕ) (rows : List Row) → RowsFit program positions next rows
    → KnownLiterals (literals_at k rows)
literals_known program positions next k rows h =
    occurrences_known (flat_map (λ row. literal_in (demand_at k row)) rows) (literals_of_rows program positions next k rows h)

-- ---- variables as patterns

pub count_variables : (xs : List ℕ) → pattern_count (variables xs) ≡ length xs
count_variables [] = refl
count_variables (x ∷ xs) = ap (λ n. n + 1) (count_variables xs) ∙ add-one (length xs)

pub variables_fit : (program : Program) (xs : List ℕ) → IsTrue (fit_patterns program (variables xs))
variables_fit program [] = refl
variables_fit program (x ∷ xs) = variables_fit program xs

-- ---- names

abbrev pub Sees : Names → (ℕ → Bool) → (ℕ → Bool) → Type 0
Sees names source may = (x : ℕ) → source x ≡ true → may (name_of names x) ≡ true

same_number : (x y : ℕ) → x < y → nat_eq y x ≡ false
same_number x y l = by (nat_eq y x) refl
  where
    by : (b : Bool) → nat_eq y x ≡ b → b ≡ false
    by true e = let same = eqb-true y x e in absurd (omega arith)
    by false e = refl

but_parts : (x y : ℕ) (may : ℕ → Bool) → but x may y ≡ true → may y ≡ true
but_parts x y may h = (and_parts (not (nat_eq x y)) (may y) h).1

sees_but : (names : Names) (next x : ℕ) (source may : ℕ → Bool) → Under next may → Sees names source may → Sees names (but x source) (but next may)
sees_but names next x source may under sees y h =
    let here = sees y (but_parts x y source h) in
    and_from (not (nat_eq next (name_of names y))) (may (name_of names y)) (ap not (same_number (name_of names y) next (under (name_of names y) here))) here

under_but : (next : ℕ) (may : ℕ → Bool) → Under next may → Under next (but next may)
under_but next may under y h = under y (but_parts next y may h)

sees_also : (names : Names) (next x : ℕ) (source may : ℕ → Bool) → Sees names source may → Sees ((x, next) ∷ names) (also x source) (also next may)
sees_also names next x source may sees y h = by (nat_eq x y) refl (or_cases (nat_eq x y) (source y) h)
  where
    by : (b : Bool) → nat_eq x y ≡ b → (nat_eq x y ≡ true) ⊎ (source y ≡ true) → also next may (if b then next else name_of names y) ≡ true
    by true e found = or_first (nat_eq next next) (may next) (eq-eqb next next refl)
    by false e (inl here) = absurd (true≢false (sym here ∙ e))
    by false e (inr there) = or_second (nat_eq next (name_of names y)) (may (name_of names y)) (sees y there)

-- the rows of alternatives
rows_see : (program : Program) (names : Names) (position : ℕ) (source may : ℕ → Bool) (alternatives : Alternatives) → may position ≡ true
    → Sees names source may → IsTrue (fit_alternatives program source alternatives) → RowsSee program may (rows_of names position alternatives)
rows_see program names position source may term.NoAlternative here sees fits = tt
rows_see program names position source may (term.MoreAlternatives p t alternatives) here sees fits =
    let inside = also_all (variables_of p) source in
    let known = fits_pattern program p in
    let linear = is_linear (variables_of p) in
    let one = and_parts (known && linear && fits_term program inside t) (fit_alternatives program source alternatives) fits in
    let two = and_parts (known && linear) (fits_term program inside t) one.0 in (
      record { source = inside; fits = two.1; sees = λ x h. by x (or_cases (holds x (variables_of p)) (source x) h) },
      rows_see program names position source may alternatives here sees one.1,
    )
  where
    inside_too : (x : ℕ) → holds x (inner p) ≡ true → holds x (inner_all (p ∷ [])) ≡ true
    inside_too x h = left (inner p) h
      where
        left : (xs : List ℕ) → holds x xs ≡ true → holds x (xs ++ []) ≡ true
        left [] k = k
        left (y ∷ xs) k = more (or_cases (nat_eq x y) (holds x xs) k) (left xs)
          where
            more : (nat_eq x y ≡ true) ⊎ (holds x xs ≡ true) → (holds x xs ≡ true → holds x (xs ++ []) ≡ true) → holds x (y ∷ (xs ++ [])) ≡ true
            more (inl a) later = or_first (nat_eq x y) (holds x (xs ++ [])) a
            more (inr a) later = or_second (nat_eq x y) (holds x (xs ++ [])) (later a)

    by : (x : ℕ) → (holds x (variables_of p) ≡ true) ⊎ (source x ≡ true)
        → (holds x (inner_all (p ∷ [])) ≡ true) ⊎ (may (name_of (names_at position p ++ names) x) ≡ true)
    by x (inr outside) = inr (more_names may (names_at position p) names x (targets_at may position p here) (sees x outside))
    by x (inl bound) = at (variable_named x position p bound)
      where
        at : (holds x (map (λ n. n.0) (names_at position p)) ≡ true) ⊎ (holds x (inner p) ≡ true)
            → (holds x (inner_all (p ∷ [])) ≡ true) ⊎ (may (name_of (names_at position p ++ names) x) ≡ true)
        at (inl named) = inr (new_names may (names_at position p) names x (targets_at may position p here) named)
        at (inr inside) = inl (inside_too x inside)

-- ---- what the flat program has in common with the program

pub record Alike (program flat : Program) : Type 0 where
  pub arity : (h : Head) → arity_in flat h ≡ arity_in program h
  pub allowed : (h : Head) → is_allowed flat h ≡ is_allowed program h
  pub truth : arity_in program (head.Con program.special.truth) ≡ Some 0
  pub falsity : arity_in program (head.Con program.special.falsity) ≡ Some 0
  pub failed : (f : FunId) → IsOperation program prim.Failed f → arity_in program (head.Fun f) ≡ Some 0
  pub equal : (f : FunId) → IsOperation program prim.Equal f → arity_in program (head.Fun f) ≡ Some 2

module _ (program flat : Program) (alike : Alike program flat) where
  takes_too : (h : Head) (n m : ℕ) → m ≡ n → IsTrue (takes (arity_in program h) n) → IsTrue (takes (arity_in flat h) m)
  takes_too h n m e k = ap (λ (a : Option ℕ). takes a m) (alike.arity h) ∙ ap (takes (arity_in program h)) e ∙ k

  constant_fits : (c : ConId) → arity_in program (head.Con c) ≡ Some 0 → IsTrue (fits_pattern flat (term.Built c term.NoPattern))
  constant_fits c e =
      and_from (takes (arity_in flat (head.Con c)) 0) true (ap (λ (a : Option ℕ). takes a 0) (alike.arity (head.Con c) ∙ e)) refl

  failure_fits : (may : ℕ → Bool) (f : FunId) → IsOperation program prim.Failed f → IsTrue (fits_term flat may (failure f))
  failure_fits may f is =
      and_from (is_allowed flat (head.Fun f) && takes (arity_in flat (head.Fun f)) 0) true
      (and_from (is_allowed flat (head.Fun f)) (takes (arity_in flat (head.Fun f)) 0) (alike.allowed (head.Fun f))
      (ap (λ (a : Option ℕ). takes a 0) (alike.arity (head.Fun f) ∙ alike.failed f is))) refl

  test_fits : (may : ℕ → Bool) (f : FunId) (position : ℕ) (l : Lit) → IsOperation program prim.Equal f → may position ≡ true
      → IsTrue (is_literal l) → IsTrue (fits_term flat may (test_of f position l))
  test_fits may f position l is here known =
      and_from (is_allowed flat (head.Fun f) && takes (arity_in flat (head.Fun f)) 2) (may position && (is_literal l && true))
      (and_from (is_allowed flat (head.Fun f)) (takes (arity_in flat (head.Fun f)) 2) (alike.allowed (head.Fun f))
      (ap (λ (a : Option ℕ). takes a 2) (alike.arity (head.Fun f) ∙ alike.equal f is)))
      (and_from (may position) (is_literal l && true) here (and_from (is_literal l) true known refl))

  branch_pattern : (c : ConId) (n : ℕ) (xs : List ℕ) → n ≡ constructor_arity program c → length xs ≡ n
      → IsTrue (takes (arity_in program (head.Con c)) (constructor_arity program c))
      → IsTrue (fits_pattern flat (term.Built c (variables xs)))
  branch_pattern c n xs e many known =
      and_from (takes (arity_in flat (head.Con c)) (pattern_count (variables xs))) (fit_patterns flat (variables xs))
      (takes_too (head.Con c) (constructor_arity program c) (pattern_count (variables xs)) (count_variables xs ∙ many ∙ e) known)
      (variables_fit flat xs)

  alternative_fits : (p : Pattern) (t : Term) (rest : Alternatives) (may : ℕ → Bool) → IsTrue (fits_pattern flat p)
      → IsTrue (is_linear (variables_of p)) → IsTrue (fits_term flat (also_all (variables_of p) may) t) → IsTrue (fit_alternatives flat may rest)
      → IsTrue (fit_alternatives flat may (term.MoreAlternatives p t rest))
  alternative_fits p t rest may known linear fits others =
      and_from (fits_pattern flat p && is_linear (variables_of p) && fits_term flat (also_all (variables_of p) may) t) (fit_alternatives flat may rest)
      (and_from (fits_pattern flat p && is_linear (variables_of p)) (fits_term flat (also_all (variables_of p) may) t)
      (and_from (fits_pattern flat p) (is_linear (variables_of p)) known linear) fits) others

  constructor_fits : (c : ConId) (n next : ℕ) (xs : List ℕ) (t : Term) (rest : Alternatives) (may : ℕ → Bool) → n ≡ constructor_arity program c
      → xs ≡ numbers next n → IsTrue (takes (arity_in program (head.Con c)) (constructor_arity program c))
      → IsTrue (fits_term flat (also_all xs may) t) → IsTrue (fit_alternatives flat may rest)
      → IsTrue (fit_alternatives flat may (term.MoreAlternatives (term.Built c (variables xs)) t rest))
  constructor_fits c n next xs t rest may e is known fits others =
      let p = term.Built c (variables xs) in
      alternative_fits p t rest may (branch_pattern c n xs e (ap length is ∙ numbers_count next n) known)
      (ap is_linear (variables_are xs ∙ is) ∙ numbers_linear next n)
      (ap (λ (ys : List ℕ). fits_term flat (also_all ys may) t) (variables_are xs) ∙ fits) others

  literal_fits : (l : Lit) (t : Term) (rest : Alternatives) (may : ℕ → Bool) → IsTrue (is_literal l) → IsTrue (fits_term flat may t)
      → IsTrue (fit_alternatives flat may rest) → IsTrue (fit_alternatives flat may (term.MoreAlternatives (term.Exactly l) t rest))
  literal_fits l t rest may known fits others = alternative_fits (term.Exactly l) t rest may known refl fits others

  case_fits : (mode : Mode) (x : ℕ) (a : Alternatives) (may : ℕ → Bool) → may x ≡ true → IsTrue (fit_alternatives flat may a)
      → IsTrue (fits_term flat may (term.Case mode (term.Variable x) a))
  case_fits mode x a may here fits = and_from (may x) (fit_alternatives flat may a) here fits

  all_count : (names : Names) (next : ℕ) (ts us : Terms) → AllLower program names next ts us → term_count us ≡ term_count ts
  all_count _ _ _ _ (lowering.no_term names next) = refl
  all_count _ _ _ _ (lowering.more_terms names next t u ts us p ps) = ap (λ n. n + 1) (all_count names next ts us ps)

  -- ---- rows in their scope

  pub record Scoped (positions : List ℕ) (next : ℕ) (may : ℕ → Bool) (rows : List Row) : Type 0 where
    pub fit : RowsFit program positions next rows
    pub sees : RowsSee program may rows
    pub places : AllMay may positions
    pub under : Under next may

  opened_constructor : (positions : List ℕ) (next n k position : ℕ) (new : List ℕ) (test : Demand → Bool) (may : ℕ → Bool) (rows : List Row)
      → new ≡ numbers next n → slice_get positions k ≡ Some position
      → ((p : Pattern) → test (demand_of p) ≡ true → IsTrue (fits_pattern program p) → length (arguments_of n p) ≡ n)
      → Scoped positions next may rows
      → Scoped (spliced k new positions) (next + n) (also_all new may) (specialize k new test rows)
  opened_constructor positions next n k position new test may rows is e counts scoped =
      let many : length new ≡ n = ap length is ∙ numbers_count next n in
      record {
        fit = branch_fits program positions next n k position new test rows is e counts scoped.fit;
        sees = rows_opened program may (also_all new may) positions next k position new test rows (within_also new may) (new_may new may) e
            (subst (λ (m : ℕ). (p : Pattern) → test (demand_of p) ≡ true → IsTrue (fits_pattern program p) → length (arguments_of m p) ≡ m) (sym many) counts)
            scoped.fit scoped.sees;
        places = subst (λ (xs : List ℕ). AllMay (also_all new may) xs) (sym (spliced_put k new positions position e))
            (may_put (also_all new may) k new positions (new_may new may)
            (all_within may (also_all new may) positions (within_also new may) scoped.places));
        under = subst (λ (xs : List ℕ). Under (next + n) (also_all xs may)) (sym is) (under_also next n may scoped.under);
      }

  opened_literal : (positions : List ℕ) (next k position : ℕ) (test : Demand → Bool) (may : ℕ → Bool) (rows : List Row)
      → slice_get positions k ≡ Some position
      → ((p : Pattern) → test (demand_of p) ≡ true → IsTrue (fits_pattern program p) → length (arguments_of 0 p) ≡ 0)
      → Scoped positions next may rows → Scoped (spliced k [] positions) next may (specialize k [] test rows)
  opened_literal positions next k position test may rows e counts scoped = record {
    fit = literal_branch_fits program positions next k position test rows e counts scoped.fit;
    sees = rows_opened program may may positions next k position [] test rows (λ x h. h) tt e counts scoped.fit scoped.sees;
    places = subst (λ (xs : List ℕ). AllMay may xs) (sym (spliced_put k [] positions position e)) (may_put may k [] positions tt scoped.places);
    under = scoped.under;
  }

  filtered : (positions : List ℕ) (next : ℕ) (may : ℕ → Bool) (test : Row → Bool) (rows : List Row) → Scoped positions next may rows
      → Scoped positions next may (filter test rows)
  filtered positions next may test rows scoped = record {
    fit = filter_fits program positions next test rows scoped.fit;
    sees = filter_sees program may test rows scoped.sees;
    places = scoped.places;
    under = scoped.under;
  }

  -- ---- what terms are lowered to

  mutual
    lowers_fits : (names : Names) (next : ℕ) (t u : Term) → Lowers program names next t u → (source may : ℕ → Bool) → Sees names source may
        → Under next may → Low next names → IsTrue (fits_term program source t) → IsTrue (fits_term flat may u)
    lowers_fits _ _ _ _ (lowering.variable names next x) source may sees under low fits = sees x fits
    lowers_fits _ _ _ _ (lowering.literal names next l) source may sees under low fits = fits
    lowers_fits _ _ _ _ (lowering.whole names next h ts us p) source may sees under low fits =
        let one = and_parts (is_allowed program h && takes (arity_in program h) (term_count ts)) (fit_terms program source ts) fits in
        let two = and_parts (is_allowed program h) (takes (arity_in program h) (term_count ts)) one.0 in
        and_from (is_allowed flat h && takes (arity_in flat h) (term_count us)) (fit_terms flat may us)
        (and_from (is_allowed flat h) (takes (arity_in flat h) (term_count us)) (alike.allowed h ∙ two.0)
        (takes_too h (term_count ts) (term_count us) (all_count names next ts us p) two.1))
        (all_lower_fits names next ts us p source may sees under low one.1)
    lowers_fits _ _ _ _ (lowering.part names next h ts us p) source may sees under low fits =
        let one = and_parts (is_allowed program h && takes_more (arity_in program h) (term_count ts)) (fit_terms program source ts) fits in
        let two = and_parts (is_allowed program h) (takes_more (arity_in program h) (term_count ts)) one.0 in
        and_from (is_allowed flat h && takes_more (arity_in flat h) (term_count us)) (fit_terms flat may us)
        (and_from (is_allowed flat h) (takes_more (arity_in flat h) (term_count us)) (alike.allowed h ∙ two.0)
        (ap (λ (a : Option ℕ). takes_more a (term_count us)) (alike.arity h)
        ∙ ap (takes_more (arity_in program h)) (all_count names next ts us p) ∙ two.1))
        (all_lower_fits names next ts us p source may sees under low one.1)
    lowers_fits _ _ _ _ (lowering.applied names next f a g b p q) source may sees under low fits =
        let parts = and_parts (fits_term program source f) (fits_term program source a) fits in
        and_from (fits_term flat may g) (fits_term flat may b) (lowers_fits names next f g p source may sees under low parts.0)
        (lowers_fits names next a b q source may sees under low parts.1)
    lowers_fits _ _ _ _ (lowering.bound names next x a b c d p q) source may sees under low fits =
        let parts = and_parts (fits_term program (but x source) a) (fits_term program (also x source) b) fits in
        and_from (fits_term flat (but next may) c) (fits_term flat (also next may) d)
        (lowers_fits names next a c p (but x source) (but next may) (sees_but names next x source may under sees) (under_but next may under) low parts.0)
        (lowers_fits ((x, next) ∷ names) (suc next) b d q (also x source) (also next may) (sees_also names next x source may sees)
        (under_one next may under) (low_bound next x names low) parts.1)
    lowers_fits _ _ _ _ (lowering.free names next x a b p) source may sees under low fits =
        lowers_fits ((x, next) ∷ names) (suc next) a b p (also x source) (also next may) (sees_also names next x source may sees)
        (under_one next may under) (low_bound next x names low) fits
    lowers_fits _ _ _ _ (lowering.either names next a b c d p q) source may sees under low fits =
        let parts = and_parts (fits_term program source a) (fits_term program source b) fits in
        and_from (fits_term flat may c) (fits_term flat may d) (lowers_fits names next a c p source may sees under low parts.0)
        (lowers_fits names next b d q source may sees under low parts.1)
    lowers_fits _ _ _ u (lowering.on_variable names next x mode alternatives _ p) source may sees under low fits =
        let parts = and_parts (source x) (fit_alternatives program source alternatives) fits in
        let position = name_of names x in
        let wide = and_parts true (fit_alternatives program any alternatives) (fits_any program source (term.Case mode (term.Variable x) alternatives) fits) in
        distinguishes_fits mode (position ∷ []) next (rows_of names position alternatives) u p may
        (record {
          fit = alternatives_fit program names position next alternatives (low x) low wide.1;
          sees = rows_see program names position source may alternatives (sees x parts.0) sees parts.1;
          places = (sees x parts.0, tt);
          under = under;
        })
    lowers_fits _ _ _ _ (lowering.on_term names next mode a b alternatives t is p q) source may sees under low fits =
        let parts = and_parts (fits_term program source a) (fit_alternatives program source alternatives) fits in
        let wide = and_parts (fits_term program any a) (fit_alternatives program any alternatives) (fits_any program source (term.Case mode a alternatives) fits) in
        let inside = also next may in
        let here : inside next ≡ true = or_first (nat_eq next next) (may next) (eq-eqb next next refl) in
        and_from (fits_term flat (but next may) b) (fits_term flat inside t)
        (lowers_fits names next a b p source (but next may)
        (λ y h. let m = sees y h in
        and_from (not (nat_eq next (name_of names y))) (may (name_of names y)) (ap not (same_number (name_of names y) next (under (name_of names y) m))) m)
        (under_but next may under) low parts.0)
        (distinguishes_fits mode (next ∷ []) (suc next) (rows_of names next alternatives) t q inside
        (record {
          fit = alternatives_fit program names next (suc next) alternatives (omega arith) (low_on next names low) wide.1;
          sees = rows_see program names next source inside alternatives here
              (λ y h. or_second (nat_eq next (name_of names y)) (may (name_of names y)) (sees y h)) parts.1;
          places = (here, tt);
          under = under_one next may under;
        }))

    all_lower_fits : (names : Names) (next : ℕ) (ts us : Terms) → AllLower program names next ts us → (source may : ℕ → Bool) → Sees names source may
        → Under next may → Low next names → IsTrue (fit_terms program source ts) → IsTrue (fit_terms flat may us)
    all_lower_fits _ _ _ _ (lowering.no_term names next) source may sees under low fits = refl
    all_lower_fits _ _ _ _ (lowering.more_terms names next t u ts us p ps) source may sees under low fits =
        let parts = and_parts (fits_term program source t) (fit_terms program source ts) fits in
        and_from (fits_term flat may u) (fit_terms flat may us) (lowers_fits names next t u p source may sees under low parts.0)
        (all_lower_fits names next ts us ps source may sees under low parts.1)

    pub tree_fits : (positions : List ℕ) (next : ℕ) (rows : List Row) (t : Term) → Tree program positions next rows t → (may : ℕ → Bool)
        → Scoped positions next may rows → IsTrue (fits_term flat may t)
    tree_fits _ _ _ _ (lowering.no_rules positions next f is) may scoped = failure_fits may f is
    tree_fits _ _ _ t (lowering.rule positions next row _ e p) may scoped =
        lowers_fits row.names next row.body t p scoped.sees.0.source may (leaf_sees program may row scoped.sees.0 e) scoped.under scoped.fit.0.low
        scoped.sees.0.fits
    tree_fits _ _ _ _ (lowering.overlap positions next row other rows a b e p q) may scoped =
        and_from (fits_term flat may a) (fits_term flat may b) (lowers_fits row.names next row.body a p scoped.sees.0.source may (leaf_sees program may row scoped.sees.0 e) scoped.under scoped.fit.0.low
        scoped.sees.0.fits)
        (tree_fits positions next (other ∷ rows) b q may
        (record { fit = scoped.fit.1; sees = scoped.sees.1; places = scoped.places; under = scoped.under }))
    tree_fits _ _ _ _ (lowering.branch positions next k x row rows a e f p) may scoped =
        case_fits Flex x a may (may_at may k positions x f scoped.places)
        (branches_fit positions next k x (row ∷ rows) (constructors_at program k (row ∷ rows)) (literals_at k (row ∷ rows)) a p may f
        (all_known program (λ c. list_any (λ r. demands_constructor c (demand_at k r)) (row ∷ rows)))
        (literals_known program positions next k (row ∷ rows) scoped.fit) scoped)
    tree_fits _ _ _ _ (lowering.split positions next k row rows a b e f p q) may scoped =
        and_from (fits_term flat may a) (fits_term flat may b)
        (tree_fits positions next (filter (demands k) (row ∷ rows)) a p may (filtered positions next may (demands k) (row ∷ rows) scoped))
        (tree_fits positions next (filter (λ (other : Row). not (demands k other)) (row ∷ rows)) b q may
        (filtered positions next may (λ (other : Row). not (demands k other)) (row ∷ rows) scoped))

    branches_fit : (positions : List ℕ) (next k position : ℕ) (rows : List Row) (cs : List ConId) (ls : List Lit) (a : Alternatives)
        → Branches program positions next k rows cs ls a → (may : ℕ → Bool) → slice_get positions k ≡ Some position → KnownConstructors program cs
        → KnownLiterals ls → Scoped positions next may rows → IsTrue (fit_alternatives flat may a)
    branches_fit _ _ _ position _ _ _ _ (lowering.no_branch positions next k rows) may there cons lits scoped = refl
    branches_fit _ _ _ position _ _ _ _ (lowering.constructor_branch positions next k n xs rows c cs ls t a e f p q) may there cons lits scoped =
        constructor_fits c n next xs t a may e f cons.0
        (tree_fits (spliced k xs positions) (next + n) (specialize k xs (demands_constructor c) rows) t p (also_all xs may)
        (opened_constructor positions next n k position xs (demands_constructor c) may rows f there (counts_constructor program c n e) scoped))
        (branches_fit positions next k position rows cs ls a q may there cons.1 lits scoped)
    branches_fit _ _ _ position _ _ _ _ (lowering.literal_branch positions next k rows l ls t a p q) may there cons lits scoped =
        literal_fits l t a may lits.0
        (tree_fits (spliced k [] positions) next (specialize k [] (demands_literal l) rows) t p may
        (opened_literal positions next k position (demands_literal l) may rows there (counts_literal program l) scoped))
        (branches_fit positions next k position rows [] ls a q may there tt lits.1 scoped)

    distinguishes_fits : (mode : Mode) (positions : List ℕ) (next : ℕ) (rows : List Row) (t : Term) → Distinguishes program mode positions next rows t
        → (may : ℕ → Bool) → Scoped positions next may rows → IsTrue (fits_term flat may t)
    distinguishes_fits _ _ _ _ _ (lowering.no_alternatives mode positions next f is) may scoped = failure_fits may f is
    distinguishes_fits _ _ _ _ t (lowering.taken mode positions next row rows _ e p) may scoped =
        lowers_fits row.names next row.body t p scoped.sees.0.source may (leaf_sees program may row scoped.sees.0 e) scoped.under scoped.fit.0.low
        scoped.sees.0.fits
    distinguishes_fits _ _ _ _ _ (lowering.all_demand mode positions next k x row rows a e f none p) may scoped =
        case_fits mode x a may (may_at may k positions x f scoped.places)
        (cases_fit mode false positions next k x (row ∷ rows) (constructors_at program k (row ∷ rows)) (literals_at k (row ∷ rows)) a p may f
        (all_known program (λ c. list_any (λ r. demands_constructor c (demand_at k r)) (row ∷ rows)))
        (literals_known program positions next k (row ∷ rows) scoped.fit) scoped)
    distinguishes_fits _ _ _ _ _ (lowering.first_constructor mode positions next k x c row rows a e f some d p) may scoped =
        case_fits mode x a may (may_at may k positions x f scoped.places)
        (cases_fit mode true positions next k x (row ∷ rows) (siblings program c) [] a p may f (all_known program _) tt scoped)
    distinguishes_fits _ _ _ _ _ (lowering.first_literal mode positions next k x equal l row rows same other e f some d is p q) may scoped =
        let here = may_at may k positions x f scoped.places in
        let known = row_literal program k row.patterns l scoped.fit.0.known d in
        let test = goes_on true (demands_literal l) in
        let true_fits = distinguishes_fits mode (spliced k [] positions) next (specialize k [] test (row ∷ rows)) same p may
        (opened_literal positions next k x test may (row ∷ rows) f (counts_goes_on program 0 true (demands_literal l) (counts_literal program l)) scoped) in
        let false_fits = distinguishes_fits mode positions next (filter (λ (one : Row). not_literal l (demand_at k one)) (row ∷ rows)) other q may
        (filtered positions next may (λ (one : Row). not_literal l (demand_at k one)) (row ∷ rows) scoped) in
        let one_more = term.MoreAlternatives (term.Built program.special.falsity term.NoPattern) other term.NoAlternative in
        and_from (fits_term flat may (test_of equal x l))
        (fit_alternatives flat may (term.MoreAlternatives (term.Built program.special.truth term.NoPattern) same one_more))
        (test_fits may equal x l is here known)
        (alternative_fits (term.Built program.special.truth term.NoPattern) same one_more may (constant_fits program.special.truth alike.truth) refl true_fits
        (alternative_fits (term.Built program.special.falsity term.NoPattern) other term.NoAlternative may
        (constant_fits program.special.falsity alike.falsity) refl false_fits refl))

    cases_fit : (mode : Mode) (v : Bool) (positions : List ℕ) (next k position : ℕ) (rows : List Row) (cs : List ConId) (ls : List Lit) (a : Alternatives)
        → Cases program mode v positions next k rows cs ls a → (may : ℕ → Bool) → slice_get positions k ≡ Some position
        → KnownConstructors program cs → KnownLiterals ls → Scoped positions next may rows → IsTrue (fit_alternatives flat may a)
    cases_fit _ _ _ _ _ position _ _ _ _ (lowering.no_case mode v positions next k rows) may there cons lits scoped = refl
    cases_fit _ _ _ _ _ position _ _ _ _ (lowering.constructor_case mode v positions next k n xs rows c cs ls t a e f p q) may there cons lits scoped =
        let test = goes_on v (demands_constructor c) in
        constructor_fits c n next xs t a may e f cons.0
        (distinguishes_fits mode (spliced k xs positions) (next + n) (specialize k xs test rows) t p (also_all xs may)
        (opened_constructor positions next n k position xs test may rows f there
        (counts_goes_on program n v (demands_constructor c) (counts_constructor program c n e)) scoped))
        (cases_fit mode v positions next k position rows cs ls a q may there cons.1 lits scoped)
    cases_fit _ _ _ _ _ position _ _ _ _ (lowering.literal_of_case mode v positions next k rows l ls t a p q) may there cons lits scoped =
        let test = goes_on v (demands_literal l) in
        literal_fits l t a may lits.0
        (distinguishes_fits mode (spliced k [] positions) next (specialize k [] test rows) t p may
        (opened_literal positions next k position test may rows there (counts_goes_on program 0 v (demands_literal l) (counts_literal program l)) scoped))
        (cases_fit mode v positions next k position rows [] ls a q may there tt lits.1 scoped)
