-- The alternative that values take matches them, where all is of the program, and no earlier one
-- does.
use Rattle.std.proofs.Common.{◌≡◌, ℕ, zero, suc, ◌+◌, ◌<◌, ◌≤◌, Bool, true, false, ◌&&◌, List, [], ◌∷◌, inl, inr, cond, filter, map, length, Option, None, Some, is_some, not, slice_get, refl, ap, sym, ◌∙◌, subst, arith}
use Rattle.std.specs.List.{list_all}
use Rattle.std.proofs.lemmas.Bool.{and_from, and_parts}
use Rattle.cu_calculus.specs.declared.Lit.{Lit}
use Rattle.cu_calculus.specs.Choose as choose
use Rattle.cu_calculus.specs.Choose.{AConstructor, ALiteral, Again, Chooses, Demand, Look, Specialize, Nothing, Row, Selects, Take, alternative_at, arguments_of, demand_at, demand_of, look, specialized_row, not_literal, rows_from, spliced, demands_nothing}
use Rattle.cu_calculus.specs.Literal.{same_literal}
use Rattle.cu_calculus.specs.Match.{Bindings, matched}
use Rattle.cu_calculus.specs.Program.{Program}
use Rattle.cu_calculus.specs.Shape.{is_of}
use Rattle.cu_calculus.specs.Term as term
use Rattle.cu_calculus.specs.Term.{Alternatives, Pattern, Term}
use Rattle.cu_calculus.specs.Valid.{fit_alternatives, fits_pattern, fits_term, also_all, is_linear, variables_of}
use Rattle.cu_calculus.specs.Value.{Value}
use Rattle.cu_calculus.proofs.Answering.{literal_is}
use Rattle.cu_calculus.proofs.Choosing.{chooses_one}
use Rattle.cu_calculus.proofs.Lists.{passed_at}
use Rattle.cu_calculus.proofs.Looks.{Among, GoesOn, Looked, Specializes, TakesFirst, admits, among_filter, among_map, filtered_among, looked, mapped_among, meets}
use Rattle.cu_calculus.proofs.PairwiseMatches.{all_match, all_splice, also_there, arguments_fit, arguments_match, arguments_size, demand_is, does_match, free_match, match_admits, match_arguments, match_at, match_splice, match_unsplice, specialized_patterns, parts_are_of, same_splice}

-- rows whose choices rise
abbrev pub Rising : List Row → Type 0
Rising [] = Unit {0}
Rising (row ∷ rows) = ((other : Row) → Among other rows → row.choice ≤ other.choice) × Rising rows

rising_kept : (b : Bool) (test : Row → Bool) (row : Row) (rows : List Row) → Rising (row ∷ rows) → Rising (filter test rows)
    → Rising (cond b (row ∷ filter test rows) (filter test rows))
rising_kept true test row rows h k = (λ other among. h.0 other (filtered_among test other rows among).0, k)
rising_kept false test row rows h k = k

rising_filter : (test : Row → Bool) (rows : List Row) → Rising rows → Rising (filter test rows)
rising_filter test [] h = tt
rising_filter test (row ∷ rows) h = rising_kept (test row) test row rows h (rising_filter test rows h.1)

rising_specialized : (k n : ℕ) (rows : List Row) → Rising rows → Rising (map (specialized_row k n) rows)
rising_specialized k n [] h = tt
rising_specialized k n (row ∷ rows) h = (
  λ other among. let origin = mapped_among (specialized_row k n) other rows among in
      subst (λ (x : Row). row.choice ≤ x.choice) origin.is (h.0 origin.source origin.among),
  rising_specialized k n rows h.1,
)

-- what a value meets isn't another literal
not_met : (v : Value) (m : Lit) (d : Demand) → meets v (ALiteral m) ≡ false → admits v d ≡ true → not_literal m d ≡ true
not_met v m Nothing differs e = refl
not_met v m (AConstructor c) differs e = refl
not_met v m (ALiteral l) differs e = by (same_literal m l) refl
  where
    by : (b : Bool) → same_literal m l ≡ b → not b ≡ true
    by false same = refl
    by true same =
        let met : meets v (ALiteral m) ≡ true = subst (λ (x : Lit). meets v (ALiteral x) ≡ true) (sym (literal_is m l same)) e in
        let no : ⊥ = cc in
        absurd no

-- a row that matches stays
stays_again : (rows fewer : List Row) (values : List Value) (g : GoesOn rows values fewer) (row : Row) → Among row rows
    → all_match row.patterns values ≡ true → Among row fewer
stays_again rows fewer values g row among e =
    let found = match_at g.place row.patterns values g.here e g.at in
    let admitted : admits g.here (demand_at g.place row) ≡ true =
    ap (admits g.here) (demand_is g.place row found.pattern found.is) ∙ match_admits found.pattern g.here found.matches in
    subst (λ (rs : List Row). Among row rs) (sym g.are)
    (among_filter (λ r. not_literal g.literal (demand_at g.place r)) row rows among
    (not_met g.here g.literal (demand_at g.place row) g.differs admitted))

-- and does so with the arguments in place of what stands at the position
stays_specialized : (rows fewer : List Row) (values parts : List Value) (n : Specializes rows values fewer parts) (row : Row) → Among row rows
    → all_match row.patterns values ≡ true
    → Among (specialized_row n.place (length n.arguments) row) fewer × (all_match (specialized_row n.place (length n.arguments) row).patterns parts ≡ true)
stays_specialized rows fewer values parts n row among e =
    let found = match_at n.place row.patterns values n.here e n.at in
    let size = length n.arguments in
    let admitted : admits n.here (demand_at n.place row) ≡ true =
    ap (admits n.here) (demand_is n.place row found.pattern found.is) ∙ match_admits found.pattern n.here found.matches in
    let passes = n.complete row among admitted in
    let kept = among_filter (λ r. n.test (demand_at n.place r)) row rows among passes in
    let inner = match_arguments found.pattern n.here n.arguments n.inner found.matches in
    let whole : all_match (specialized_row n.place size row).patterns (spliced n.place n.arguments values) ≡ true =
    subst (λ (ps : List Pattern). all_match ps (spliced n.place n.arguments values) ≡ true)
    (sym (specialized_patterns n.place size row found.pattern found.is))
    (match_splice n.place row.patterns (arguments_of size found.pattern) values n.arguments e inner) in (
      subst (λ (rs : List Row). Among (specialized_row n.place size row) rs) (sym n.are)
          (among_map (specialized_row n.place size) row (filter (λ r. n.test (demand_at n.place r)) rows) kept),
      subst (λ (vs : List Value). all_match (specialized_row n.place size row).patterns vs ≡ true) (sym n.parts_are) whole,
    )

taken_first : (rows : List Row) (choice : ℕ) → TakesFirst rows choice → Rising rows → (row : Row) → Among row rows → choice ≤ row.choice
taken_first rows choice t rising row among =
    by (subst (λ (rs : List Row). Rising rs) t.are rising) (subst (λ (rs : List Row). Among row rs) t.are among)
  where
    by : Rising (t.first ∷ t.others) → Among row (t.first ∷ t.others) → choice ≤ row.choice
    by rises (inl same) = let equal : t.first.choice ≡ row.choice = ap (λ (r : Row). r.choice) same in omega (arith, t.is, equal)
    by rises (inr after) = let later : t.first.choice ≤ row.choice = rises.0 row after in omega (arith, t.is, later)

-- no row before the one that is taken matches
pub chosen_first : (program : Program) (rows : List Row) (values : List Value) (choice : ℕ) → Chooses program rows values choice → Rising rows
    → (row : Row) → Among row rows → all_match row.patterns values ≡ true → choice ≤ row.choice
chosen_first program rows values choice (choose.taken _ _ _ e) rising row among match =
    taken_first rows choice (subst (λ (found : Look). Looked rows values found) e (looked program rows values)) rising row among
chosen_first program rows values choice (choose.again _ fewer _ _ e rest) rising row among match =
    let g : GoesOn rows values fewer = subst (λ (found : Look). Looked rows values found) e (looked program rows values) in
    let still : Rising fewer =
    subst (λ (rs : List Row). Rising rs) (sym g.are) (rising_filter (λ r. not_literal g.literal (demand_at g.place r)) rows rising) in
    chosen_first program fewer values choice rest still row (stays_again rows fewer values g row among match) match
chosen_first program rows values choice (choose.specialized_rows _ fewer _ parts _ e rest) rising row among match =
    let n : Specializes rows values fewer parts = subst (λ (found : Look). Looked rows values found) e (looked program rows values) in
    let size = length n.arguments in
    let kept = filter (λ r. n.test (demand_at n.place r)) rows in
    let still : Rising fewer =
    subst (λ (rs : List Row). Rising rs) (sym n.are)
    (rising_specialized n.place size kept (rising_filter (λ r. n.test (demand_at n.place r)) rows rising)) in
    let stays = stays_specialized rows fewer values parts n row among match in
    chosen_first program fewer parts choice rest still (specialized_row n.place size row) stays.0 stays.1

-- a row of a program over so many values
pub record Fits (program : Program) (size : ℕ) (row : Row) : Type 0 where
  pub long : length row.patterns ≡ size
  pub fit : list_all (fits_pattern program) row.patterns ≡ true

abbrev pub AllFit : Program → ℕ → List Row → Type 0
AllFit program size rows = (row : Row) → Among row rows → Fits program size row

-- the row that is taken, which matches
pub record Taken (rows : List Row) (values : List Value) (choice : ℕ) : Type 0 where
  pub row : Row
  pub among : Among row rows
  pub is : row.choice ≡ choice
  pub matches : all_match row.patterns values ≡ true

first_fits : (program : Program) (rows : List Row) (values : List Value) (choice : ℕ) → TakesFirst rows choice → AllFit program (length values) rows
    → Taken rows values choice
first_fits program rows values choice t fit =
    let here : Among t.first rows = subst (λ (rs : List Row). Among t.first rs) (sym t.are) (inl refl) in
    record { row = t.first; among = here; is = t.is; matches = free_match t.first.patterns values t.free (fit t.first here).long }

-- what a row has at a place, and the row specialized
pub record Inside (program : Program) (rows fewer : List Row) (values parts : List Value) (n : Specializes rows values fewer parts) (row : Row) : Type 0 where
  pub source : Row
  pub among : Among source rows
  pub is : specialized_row n.place (length n.arguments) source ≡ row
  pub pattern : Pattern
  pub at : slice_get source.patterns n.place ≡ Some pattern
  pub admitted : admits n.here (demand_of pattern) ≡ true
  pub fits : fits_pattern program pattern ≡ true
  pub size : length (arguments_of (length n.arguments) pattern) ≡ length n.arguments
  pub specialized_look : row.patterns ≡ spliced n.place (arguments_of (length n.arguments) pattern) source.patterns

inside : (program : Program) (rows fewer : List Row) (values parts : List Value) (n : Specializes rows values fewer parts)
    → AllFit program (length values) rows → list_all (is_of program) values ≡ true → (row : Row) → Among row fewer
    → Inside program rows fewer values parts n row
inside program rows fewer values parts n fit known row among =
    let size = length n.arguments in
    let test = λ (r : Row). n.test (demand_at n.place r) in
    let origin = mapped_among (specialized_row n.place size) row (filter test rows) (subst (λ (rs : List Row). Among row rs) n.are among) in
    let kept = filtered_among test origin.source rows origin.among in
    let fits = fit origin.source kept.0 in
    let there = also_there n.place origin.source.patterns values n.here fits.long n.at in
    let admitted : admits n.here (demand_of there.0) ≡ true =
    ap (admits n.here) (sym (demand_is n.place origin.source there.0 there.1)) ∙ n.sound (demand_at n.place origin.source) kept.1 in
    let pattern_fits = passed_at (fits_pattern program) origin.source.patterns n.place there.0 fits.fit there.1 in
    record {
      source = origin.source;
      among = kept.0;
      is = origin.is;
      pattern = there.0;
      at = there.1;
      admitted = admitted;
      fits = pattern_fits;
      size = arguments_size program there.0 n.here n.arguments n.inner admitted pattern_fits (passed_at (is_of program) values n.place n.here known n.at);
      specialized_look = ap (λ (r : Row). r.patterns) (sym origin.is) ∙ specialized_patterns n.place size origin.source there.0 there.1;
    }

inside_fits : (program : Program) (rows fewer : List Row) (values parts : List Value) (n : Specializes rows values fewer parts)
    → AllFit program (length values) rows → list_all (is_of program) values ≡ true → AllFit program (length parts) fewer
inside_fits program rows fewer values parts n fit known row among =
    let i = inside program rows fewer values parts n fit known row among in
    let outer = fit i.source i.among in
    let others = arguments_of (length n.arguments) i.pattern in
    record {
      long =
          ap length i.specialized_look ∙ same_splice n.place i.source.patterns others values n.arguments outer.long i.size ∙ ap length (sym n.parts_are);
      fit =
          ap (list_all (fits_pattern program)) i.specialized_look
          ∙ all_splice (fits_pattern program) n.place others i.source.patterns (arguments_fit program (length n.arguments) i.pattern i.fits) outer.fit;
    }

inside_taken : (program : Program) (rows fewer : List Row) (values parts : List Value) (choice : ℕ) (n : Specializes rows values fewer parts)
    → AllFit program (length values) rows → list_all (is_of program) values ≡ true → Taken fewer parts choice → Taken rows values choice
inside_taken program rows fewer values parts choice n fit known t =
    let i = inside program rows fewer values parts n fit known t.row t.among in
    let others = arguments_of (length n.arguments) i.pattern in
    let choices : i.source.choice ≡ t.row.choice = ap (λ (r : Row). r.choice) i.is in
    let whole : all_match (spliced n.place others i.source.patterns) (spliced n.place n.arguments values) ≡ true =
    subst (λ (ps : List Pattern). all_match ps (spliced n.place n.arguments values) ≡ true) i.specialized_look
    (subst (λ (vs : List Value). all_match t.row.patterns vs ≡ true) n.parts_are t.matches) in
    record {
      row = i.source;
      among = i.among;
      is = choices ∙ t.is;
      matches =
          match_unsplice n.place i.source.patterns others values n.arguments i.pattern n.here (fit i.source i.among).long i.size i.at n.at
          (λ inner. arguments_match i.pattern n.here n.arguments n.inner i.admitted inner) whole;
    }

-- the row that is taken matches
pub chosen_matches : (program : Program) (rows : List Row) (values : List Value) (choice : ℕ) → Chooses program rows values choice
    → AllFit program (length values) rows → list_all (is_of program) values ≡ true → Taken rows values choice
chosen_matches program rows values choice (choose.taken _ _ _ e) fit known =
    first_fits program rows values choice (subst (λ (found : Look). Looked rows values found) e (looked program rows values)) fit
chosen_matches program rows values choice (choose.again _ fewer _ _ e rest) fit known =
    let g : GoesOn rows values fewer = subst (λ (found : Look). Looked rows values found) e (looked program rows values) in
    let test = λ (r : Row). not_literal g.literal (demand_at g.place r) in
    let converse : (row : Row) → Among row fewer → Among row rows =
    λ row among. (filtered_among test row rows (subst (λ (rs : List Row). Among row rs) g.are among)).0 in
    let t = chosen_matches program fewer values choice rest (λ row among. fit row (converse row among)) known in
    record { row = t.row; among = converse t.row t.among; is = t.is; matches = t.matches }
chosen_matches program rows values choice (choose.specialized_rows _ fewer _ parts _ e rest) fit known =
    let n : Specializes rows values fewer parts = subst (λ (found : Look). Looked rows values found) e (looked program rows values) in
    let inner : list_all (is_of program) parts ≡ true =
    subst (λ (vs : List Value). list_all (is_of program) vs ≡ true) (sym n.parts_are)
    (all_splice (is_of program) n.place n.arguments values
    (parts_are_of program n.here n.arguments n.inner (passed_at (is_of program) values n.place n.here known n.at)) known) in
    inside_taken program rows fewer values parts choice n fit known
    (chosen_matches program fewer parts choice rest (inside_fits program rows fewer values parts n fit known) inner)

-- a row of alternatives
abbrev pub row_of : Pattern → ℕ → Row
row_of p choice = record { patterns = p ∷ []; choice = choice }

pub record OfAlternative (n : ℕ) (alternatives : Alternatives) (row : Row) : Type 0 where
  pub place : ℕ
  pub pattern : Pattern
  pub body : Term
  pub at : alternative_at alternatives place ≡ Some (pattern, body)
  pub is : row ≡ row_of pattern (n + place)

pub of_alternative : (n : ℕ) (alternatives : Alternatives) (row : Row) → Among row (rows_from n alternatives) → OfAlternative n alternatives row
of_alternative n term.NoAlternative row h = absurd h
of_alternative n (term.MoreAlternatives p t alternatives) row (inl same) =
    record { place = 0; pattern = p; body = t; at = refl; is = sym same ∙ ap (row_of p) (omega arith) }
of_alternative n (term.MoreAlternatives p t alternatives) row (inr h) =
    let rest = of_alternative (n + 1) alternatives row h in
    record {
      place = suc rest.place;
      pattern = rest.pattern;
      body = rest.body;
      at = rest.at;
      is = rest.is ∙ ap (row_of rest.pattern) (omega arith);
    }

first_is : (found : Option (Pattern × Term)) (q p : Pattern) (u t : Term) → found ≡ Some (q, u) → found ≡ Some (p, t) → q ≡ p
first_is found q p u t e f =
    let one : Pattern × Term = (q, u) in
    let two : Pattern × Term = (p, t) in
    let pair : one ≡ two = cc in
    ap (λ (x : Pattern × Term). x.0) pair

pub alternative_among : (n : ℕ) (alternatives : Alternatives) (k : ℕ) (p : Pattern) (t : Term) → alternative_at alternatives k ≡ Some (p, t)
    → Among (row_of p (n + k)) (rows_from n alternatives)
alternative_among n term.NoAlternative k p t e = let no : ⊥ = cc in absurd no
alternative_among n (term.MoreAlternatives q u alternatives) zero p t e =
    inl (ap (λ (x : Pattern). row_of x n) (first_is (alternative_at (term.MoreAlternatives q u alternatives) 0) q p u t refl e) ∙ ap (row_of p) (omega arith))
alternative_among n (term.MoreAlternatives q u alternatives) (suc k) p t e =
    inr (subst (λ (m : ℕ). Among (row_of p m) (rows_from (n + 1) alternatives)) (omega arith) (alternative_among (n + 1) alternatives k p t e))

pub rows_rise : (n : ℕ) (alternatives : Alternatives) → Rising (rows_from n alternatives)
rows_rise n term.NoAlternative = tt
rows_rise n (term.MoreAlternatives p t alternatives) = (later, rows_rise (n + 1) alternatives)
  where
    later : (other : Row) → Among other (rows_from (n + 1) alternatives) → n ≤ other.choice
    later other among =
        let found = of_alternative (n + 1) alternatives other among in
        let choice : other.choice ≡ (n + 1) + found.place = ap (λ (r : Row). r.choice) found.is in
        omega (arith, choice)

alternative_fits : (program : Program) (may : ℕ → Bool) (alternatives : Alternatives) (k : ℕ) (p : Pattern) (t : Term)
    → fit_alternatives program may alternatives ≡ true → alternative_at alternatives k ≡ Some (p, t) → fits_pattern program p ≡ true
alternative_fits program may term.NoAlternative k p t fit e = let no : ⊥ = cc in absurd no
alternative_fits program may (term.MoreAlternatives q u alternatives) k p t fit e =
    let outer =
    and_parts (fits_pattern program q && is_linear (variables_of q) && fits_term program (also_all (variables_of q) may) u)
    (fit_alternatives program may alternatives) fit in
    let middle = and_parts (fits_pattern program q && is_linear (variables_of q)) (fits_term program (also_all (variables_of q) may) u) outer.0 in
    by k (and_parts (fits_pattern program q) (is_linear (variables_of q)) middle.0).0
    (λ j f. alternative_fits program may alternatives j p t outer.1 f) e
  where
    by : (j : ℕ) → fits_pattern program q ≡ true
        → ((i : ℕ) → alternative_at alternatives i ≡ Some (p, t) → fits_pattern program p ≡ true)
        → alternative_at (term.MoreAlternatives q u alternatives) j ≡ Some (p, t) → fits_pattern program p ≡ true
    by zero here rest f = subst (λ (x : Pattern). fits_pattern program x ≡ true) (first_is (alternative_at (term.MoreAlternatives q u alternatives) 0) q p u t refl f) here
    by (suc j) here rest f = rest j f

some_is : (found : Option Bindings) → is_some found ≡ true → (bindings : Bindings) × (found ≡ Some bindings)
some_is None e = let no : ⊥ = cc in absurd no
some_is (Some bindings) e = (bindings, refl)

-- what a value takes is selected for it
pub record Selected (program : Program) (alternatives : Alternatives) (u : Value) (choice : ℕ) : Type 0 where
  pub body : Term
  pub bindings : Bindings
  pub selects : Selects program alternatives u body bindings
  pub is : selects.choice ≡ choice

pub chosen_selects : (program : Program) (alternatives : Alternatives) (may : ℕ → Bool) (u : Value) (choice : ℕ)
    → fit_alternatives program may alternatives ≡ true → is_of program u ≡ true → Chooses program (rows_from 0 alternatives) (u ∷ []) choice
    → (t : Term) × (bindings : Bindings) × (selects : Selects program alternatives u t bindings) × (selects.choice ≡ choice)
chosen_selects program alternatives may u choice fit known chooses =
    let rows_fit : AllFit program 1 (rows_from 0 alternatives) = each in
    let t = chosen_matches program (rows_from 0 alternatives) (u ∷ []) choice chooses rows_fit (and_from (is_of program u) true known refl) in
    let found = of_alternative 0 alternatives t.row t.among in
    let place : found.place ≡ choice = omega (arith, ap (λ (r : Row). r.choice) found.is, t.is) in
    let pair : all_match (found.pattern ∷ []) (u ∷ []) ≡ true =
    subst (λ (ps : List Pattern). all_match ps (u ∷ []) ≡ true) (ap (λ (r : Row). r.patterns) found.is) t.matches in
    let bound = some_is (matched found.pattern u) (and_parts (does_match found.pattern u) true pair).0 in (
      found.body,
      bound.0,
      record {
        choice = choice;
        pattern = found.pattern;
        chooses = chooses;
        at = subst (λ (k : ℕ). alternative_at alternatives k ≡ Some (found.pattern, found.body)) place found.at;
        matches = bound.1;
      },
      refl,
    )
  where
    each : AllFit program 1 (rows_from 0 alternatives)
    each row among =
        let found = of_alternative 0 alternatives row among in
        let patterns : found.pattern ∷ [] ≡ row.patterns = ap (λ (r : Row). r.patterns) (sym found.is) in
        record {
          long = ap length (sym patterns);
          fit =
              subst (λ (ps : List Pattern). list_all (fits_pattern program) ps ≡ true) patterns
              (and_from (fits_pattern program found.pattern) true
              (alternative_fits program may alternatives found.place found.pattern found.body fit found.at) refl);
        }

-- no earlier alternative matches
pub earlier_fails : (program : Program) (alternatives : Alternatives) (u : Value) (choice earlier : ℕ) (p : Pattern) (t : Term)
    → Chooses program (rows_from 0 alternatives) (u ∷ []) choice → earlier < choice → alternative_at alternatives earlier ≡ Some (p, t)
    → matched p u ≡ None
earlier_fails program alternatives u choice earlier p t chooses less at = by (matched p u) refl
  where
    by : (found : Option Bindings) → matched p u ≡ found → found ≡ None
    by None e = refl
    by (Some bindings) e =
        let match : all_match (p ∷ []) (u ∷ []) ≡ true = and_from (does_match p u) true (ap is_some e) refl in
        let first =
        chosen_first program (rows_from 0 alternatives) (u ∷ []) choice chooses (rows_rise 0 alternatives) (row_of p (0 + earlier))
        (alternative_among 0 alternatives earlier p t at) match in
        let low : choice ≤ earlier = omega (arith, first) in
        absurd (omega (arith, low, less))

-- at most one term is selected, and at most one list of bindings
pub selects_one : (program : Program) (alternatives : Alternatives) (u : Value) (t s : Term) (bindings others : Bindings)
    → Selects program alternatives u t bindings → Selects program alternatives u s others → (t ≡ s) × (bindings ≡ others)
selects_one program alternatives u t s bindings others one two =
    let same = chooses_one program (rows_from 0 alternatives) (u ∷ []) one.choice two.choice one.chooses two.chooses in
    let at : alternative_at alternatives one.choice ≡ Some (two.pattern, s) =
    subst (λ (k : ℕ). alternative_at alternatives k ≡ Some (two.pattern, s)) (sym same) two.at in
    let first = one.at in
    let left : Pattern × Term = (one.pattern, t) in
    let right : Pattern × Term = (two.pattern, s) in
    let pair : left ≡ right = cc in
    let patterns : one.pattern ≡ two.pattern = ap (λ (x : Pattern × Term). x.0) pair in
    let bound : matched one.pattern u ≡ Some others = subst (λ (x : Pattern). matched x u ≡ Some others) (sym patterns) two.matches in
    let matches = one.matches in
    let both : bindings ≡ others = cc in
    (ap (λ (x : Pattern × Term). x.1) pair, both)
