-- Where a term of a flat program was laid out in code, the expression there fits and has that term.
use Rattle.std.proofs.Common.{◌≡◌, ℕ, zero, suc, ◌+◌, ◌-◌, ◌≤◌, Bool, true, not, ◌&&◌, ◌||◌, List, [], ◌∷◌, ◌++◌, Option, Some, IsTrue, length, nat_eq, refl, ap, sym, subst, ◌∙◌, arith, length-append}
use Rattle.std.specs.List.{list_all}
use Rattle.std.proofs.lemmas.Bool.{and_from, and_parts, eq-eqb, or_left, or_right, true≢false}
use Rattle.cu_calculus.specs.declared.ExprId.{ExprId}
use Rattle.cu_calculus.specs.declared.Head.{Head}
use Rattle.cu_calculus.specs.declared.Head.TheVariants as head
use Rattle.cu_calculus.specs.declared.Mode.{Mode}
use Rattle.cu_calculus.specs.Code as code
use Rattle.cu_calculus.specs.Code.{Branch, Code, Expr, arity_of, expr_of}
use Rattle.cu_calculus.specs.Flat as flat
use Rattle.cu_calculus.specs.Flat.{are_flat_alternatives, are_flat_terms, are_variables, demands_of, is_flat_term, is_shallow}
use Rattle.cu_calculus.specs.FlatProgram.{all_any, alternatives_of, pattern_of, term_over, term_within, terms_of}
use Rattle.cu_calculus.specs.Program.{Program, arity_in}
use Rattle.cu_calculus.specs.Shape as shape
use Rattle.cu_calculus.specs.Shape.{takes, takes_more}
use Rattle.cu_calculus.specs.Term as term
use Rattle.cu_calculus.specs.Term.{Alternatives, Pattern, Patterns, Term, Terms}
use Rattle.cu_calculus.specs.Valid as valid
use Rattle.cu_calculus.specs.Valid.{all_variables, also, also_all, but, fit_alternatives, fit_patterns, fit_terms, fits_term, holds, is_linear, pattern_count, term_count, variables_of}
use Rattle.cu_calculus.specs.WellFormed.{all_differ, bound_by, fit_branches, fits, fits_case, fits_expr, fits_pattern, is_allowed, without}
use Rattle.cu_calculus.proofs.FlatFitting.{differ_kept}
use Rattle.cu_calculus.proofs.FlatTerms.{fits_branch}
use Rattle.cu_calculus.proofs.Lists.{all_append}
use Rattle.cu_flat.specs.Layout.{beside, binding, branch_layouts, branch_sizes, branches, branches_use, kept_of, layout, layouts, place, places, shallow_of, size, sizes, some_uses, uses}
use Rattle.cu_flat.proofs.Lengths.{Stands, Stands-last, Stands-left, Stands-right, length-branch_layouts, length-layout, length-layouts, size-some}
use Rattle.cu_flat.proofs.Scopes.{Holds, Holds-after, Holds-binding, Holds-kept, Holds-without, kept-held, linear-binding, linear-kept, uses-may}

-- ---- patterns

-- patterns that are variables are the variables that they bind
pub variables-all_any : (ps : Patterns) → IsTrue (are_variables ps) → all_any (all_variables ps) ≡ ps
variables-all_any term.NoPattern h = refl
variables-all_any (term.MorePatterns (term.Any x) ps) h = ap (term.MorePatterns (term.Any x)) (variables-all_any ps h)
variables-all_any (term.MorePatterns (term.Exactly l) ps) h = absurd (true≢false (sym h))
variables-all_any (term.MorePatterns (term.Built c qs) ps) h = absurd (true≢false (sym h))
variables-all_any (term.MorePatterns (term.Named x p) ps) h = absurd (true≢false (sym h))

pub length-variables : (ps : Patterns) → IsTrue (are_variables ps) → length (all_variables ps) ≡ pattern_count ps
length-variables term.NoPattern h = refl
length-variables (term.MorePatterns (term.Any x) ps) h = let others = length-variables ps h in omega arith
length-variables (term.MorePatterns (term.Exactly l) ps) h = absurd (true≢false (sym h))
length-variables (term.MorePatterns (term.Built c qs) ps) h = absurd (true≢false (sym h))
length-variables (term.MorePatterns (term.Named x p) ps) h = absurd (true≢false (sym h))

pattern_of-shallow : (p : Pattern) → IsTrue (is_shallow p) → pattern_of (shallow_of p) ≡ p
pattern_of-shallow (term.Exactly l) h = refl
pattern_of-shallow (term.Built c ps) h = ap (term.Built c) (variables-all_any ps h)
pattern_of-shallow (term.Any x) h = absurd (true≢false (sym h))
pattern_of-shallow (term.Named x p) h = absurd (true≢false (sym h))

pub bound_by-shallow : (p : Pattern) → IsTrue (is_shallow p) → bound_by (shallow_of p) ≡ variables_of p
bound_by-shallow (term.Exactly l) h = refl
bound_by-shallow (term.Built c ps) h = refl
bound_by-shallow (term.Any x) h = absurd (true≢false (sym h))
bound_by-shallow (term.Named x p) h = absurd (true≢false (sym h))

-- code whose heads are those of a program
pub record HasHeads (program : Code) (of : Program) : Type 0 where
  pub arities : (h : Head) → arity_of program h ≡ arity_in of h
  pub sets : program.special ≡ of.special

-- ---- parts that are the same

two-same : (f : Term → Term → Term) (a b c d : Term) → a ≡ c → b ≡ d → f a b ≡ f c d
two-same f a b c d p q = rw (p, q) refl

more-same : (a : Term) (others : Terms) (b : Term) (bs : Terms) → a ≡ b → others ≡ bs → term.MoreTerms a others ≡ term.MoreTerms b bs
more-same a others b bs p q = rw (p, q) refl

case-same : (mode : Mode) (a : Term) (rows : Alternatives) (b : Term) (others : Alternatives) → a ≡ b → rows ≡ others
    → term.Case mode a rows ≡ term.Case mode b others
case-same mode a rows b others p q = rw (p, q) refl

branch-same : (p q : Pattern) (a b : Term) (rows others : Alternatives) → p ≡ q → a ≡ b → rows ≡ others
    → term.MoreAlternatives p a rows ≡ term.MoreAlternatives q b others
branch-same p q a b rows others same_pattern same_body same_rest = rw (same_pattern, same_body, same_rest) refl

-- how long two parts are
joined : (xs ys : List Expr) (m n : ℕ) → length xs ≡ m → length ys ≡ n → length (xs ++ ys) ≡ m + n
joined xs ys m n first second = omega (arith, length-append xs ys, first, second)

lengths : (scope inner : List ℕ) (n : ℕ) (a b : Term)
    → length (layout n scope a ++ layout (n + size a) inner b) ≡ size a + size b + 1 - 1
lengths scope inner n a b =
    joined (layout n scope a) (layout (n + size a) inner b) (size a) (size b) (length-layout n scope a) (length-layout (n + size a) inner b) ∙ omega arith

module _ (program : Code) (of : Program) (heads : HasHeads program of) where
  allowed : (h : Head) → is_allowed program h ≡ shape.is_allowed of h
  allowed (head.Fun f) = refl
  allowed (head.Con c) = refl
  allowed (head.Set f) = ap (λ special. shape.is_allowed (record { functions = []; constructors = []; special = special }) (head.Set f)) heads.sets

  pattern-fits : (p : Pattern) → IsTrue (is_shallow p) → IsTrue (valid.fits_pattern of p) → IsTrue (is_linear (variables_of p))
      → IsTrue (fits_pattern program (shallow_of p))
  pattern-fits (term.Exactly l) shallow fit linear = fit
  pattern-fits (term.Built c ps) shallow fit linear =
      let count = (and_parts (takes (arity_in of (head.Con c)) (pattern_count ps)) (fit_patterns of ps) fit).0 in
      let taken : takes (arity_of program (head.Con c)) (length (all_variables ps)) ≡ true =
      rw (heads.arities (head.Con c), length-variables ps shallow) count in
      and_from (takes (arity_of program (head.Con c)) (length (all_variables ps))) (is_linear (all_variables ps)) taken linear
  pattern-fits (term.Any x) shallow fit linear = absurd (true≢false (sym shallow))
  pattern-fits (term.Named x p) shallow fit linear = absurd (true≢false (sym shallow))

  -- ---- what holds of a term, terms, and the branches of a case distinction that were laid out

  -- The expression of the term fits wherever the variables that it uses are in scope, and has that
  -- term; the branches of all case distinctions fit over what they keep.
  pub record Laid (scope : List ℕ) (n : ℕ) (t : Term) : Type 0 where
    pub fitting : (depth : ℕ) (actual : List ℕ) → size t ≤ depth → Holds (uses t) actual → IsTrue (fits depth program actual (place n t))
    pub same : (depth : ℕ) → size t ≤ depth → term_within depth program (place n t) ≡ t
    pub cases : IsTrue (list_all (fits_case program) (layout n scope t))

  pub record AreLaid (scope : List ℕ) (n : ℕ) (ts : Terms) : Type 0 where
    pub fitting : (depth : ℕ) (actual : List ℕ) → sizes ts ≤ depth → Holds (some_uses ts) actual
        → IsTrue (list_all (fits depth program actual) (places n ts))
    pub same : (depth : ℕ) → sizes ts ≤ depth → terms_of (term_within depth program) (places n ts) ≡ ts
    pub cases : IsTrue (list_all (fits_case program) (layouts n scope ts))

  pub record BranchesLaid (scope : List ℕ) (n : ℕ) (alternatives : Alternatives) : Type 0 where
    pub fitting : (depth : ℕ) (kept : List ℕ) → branch_sizes alternatives ≤ depth → Holds (branches_use alternatives) kept
        → IsTrue (list_all (fits_branch (fits depth program) program kept) (branches n alternatives))
    pub same : (depth : ℕ) → branch_sizes alternatives ≤ depth
        → alternatives_of (term_within depth program) (branches n alternatives) ≡ alternatives
    pub cases : IsTrue (list_all (fits_case program) (branch_layouts n scope alternatives))

  -- an expression that is there
  found-fits : (depth k : ℕ) (actual : List ℕ) (e : ExprId) (found : Expr) → 1 ≤ k → k ≤ depth → expr_of program e ≡ Some found
      → ((less : ℕ) → k ≤ suc less → IsTrue (fits_expr (fits less program) program actual (Some found))) → IsTrue (fits depth program actual e)
  found-fits zero k actual e found some deep is h = absurd (omega arith)
  found-fits (suc depth) k actual e found some deep is h = rw is (h depth deep)

  found-same : (depth k : ℕ) (e : ExprId) (found : Expr) (t : Term) → 1 ≤ k → k ≤ depth → expr_of program e ≡ Some found
      → ((less : ℕ) → k ≤ suc less → term_over (term_within less program) (Some found) ≡ t) → term_within depth program e ≡ t
  unfolding term_within
  found-same zero k e found t some deep is h = absurd (omega arith)
  found-same (suc depth) k e found t some deep is h = ap (term_over (term_within depth program)) is ∙ h depth deep

  -- a term whose own expression stands after its parts
  made : (scope : List ℕ) (n : ℕ) (t : Term) (parts : List Expr) (e : Expr) → layout n scope t ≡ parts ++ e ∷ []
      → length parts ≡ size t - 1 → Stands program.expressions n (parts ++ e ∷ [])
      → ((less : ℕ) (actual : List ℕ) → size t ≤ suc less → Holds (uses t) actual → IsTrue (fits_expr (fits less program) program actual (Some e)))
      → ((less : ℕ) → size t ≤ suc less → term_over (term_within less program) (Some e) ≡ t)
      → IsTrue (list_all (fits_case program) parts) → IsTrue (fits_case program e) → Laid scope n t
  made scope n t parts e laid long stands fit is others own =
      let there : expr_of program (place n t) ≡ Some e = Stands-last program.expressions n (size t) parts e stands long (size-some t) in
      record {
        fitting = λ depth actual deep held.
            found-fits depth (size t) actual (place n t) e (size-some t) deep there (λ less le. fit less actual le held);
        same = λ depth deep. found-same depth (size t) (place n t) e t (size-some t) deep there is;
        cases = subst (λ (es : List Expr). IsTrue (list_all (fits_case program) es)) (sym laid)
            (all_append (fits_case program) parts (e ∷ []) others (and_from (fits_case program e) true own refl));
      }

  -- a head with arguments
  headed : (scope : List ℕ) (n : ℕ) (h : Head) (ts : Terms) (enough : Option ℕ → ℕ → Bool) → AreLaid scope n ts
      → IsTrue (shape.is_allowed of h && enough (arity_in of h) (term_count ts)) → length (places n ts) ≡ term_count ts
      → (less : ℕ) (actual : List ℕ) → sizes ts + 1 ≤ suc less → Holds (some_uses ts) actual
      → IsTrue (is_allowed program h && enough (arity_of program h) (length (places n ts)) && list_all (fits less program actual) (places n ts))
  headed scope n h ts enough laid fit count less actual deep held =
      let prefix : is_allowed program h && enough (arity_of program h) (length (places n ts)) ≡ true = rw (allowed h, heads.arities h, count) fit in
      and_from (is_allowed program h && enough (arity_of program h) (length (places n ts))) (list_all (fits less program actual) (places n ts)) prefix
      (laid.fitting less actual (omega arith) held)

  length-places : (n : ℕ) (ts : Terms) → length (places n ts) ≡ term_count ts
  length-places n term.NoTerm = refl
  length-places n (term.MoreTerms t ts) = let others = length-places (n + size t) ts in omega arith

  -- branches over what their case distinction keeps
  branches-fit : (scope : List ℕ) (n : ℕ) (alternatives : Alternatives) (depth : ℕ) → BranchesLaid scope n alternatives
      → IsTrue (is_linear scope) → Holds (branches_use alternatives) scope → IsTrue (flat.all_differ (demands_of alternatives))
      → branch_sizes alternatives ≤ depth
      → IsTrue (fit_branches (fits depth program) program (kept_of scope alternatives) (branches n alternatives))
  branches-fit scope n alternatives depth laid linear held differ deep =
      let kept = kept_of scope alternatives in
      let apart : all_differ (branches n alternatives) ≡ true =
      sym (differ_kept (term_within depth program) (branches n alternatives))
      ∙ ap (λ (a : Alternatives). flat.all_differ (demands_of a)) (laid.same depth deep) ∙ differ in
      and_from (is_linear kept && all_differ (branches n alternatives))
      (list_all (fits_branch (fits depth program) program kept) (branches n alternatives))
      (and_from (is_linear kept) (all_differ (branches n alternatives)) (linear-kept (branches_use alternatives) scope linear) apart)
      (laid.fitting depth kept deep (Holds-kept (branches_use alternatives) scope held))

  -- variables that the parts of a term use are in scope
  left-held : (f g : ℕ → Bool) (scope : List ℕ) → Holds (λ y. f y || g y) scope → Holds f scope
  left-held f g scope held y h = held y (or_left (f y) (g y) h)

  right-held : (f g : ℕ → Bool) (scope : List ℕ) → Holds (λ y. f y || g y) scope → Holds g scope
  right-held f g scope held y h = held y (or_right (f y) (g y) h)

  -- a part before, and one after it
  first-part : (n : ℕ) (xs ys : List Expr) (e : Expr) → Stands program.expressions n (xs ++ ys ++ e ∷ []) → Stands program.expressions n xs
  first-part n xs ys e stands =
      Stands-left program.expressions n xs ys (Stands-left program.expressions n (xs ++ ys) (e ∷ []) stands)

  second-part : (n m : ℕ) (xs ys : List Expr) (e : Expr) → Stands program.expressions n (xs ++ ys ++ e ∷ []) → length xs ≡ m
      → Stands program.expressions (n + m) ys
  second-part n m xs ys e stands long =
      Stands-right program.expressions n m xs ys (Stands-left program.expressions n (xs ++ ys) (e ∷ []) stands) long

  -- ---- the induction

  mutual
    pub laid-term : (may : ℕ → Bool) (scope : List ℕ) (n : ℕ) (t : Term) → IsTrue (is_flat_term t) → IsTrue (fits_term of may t)
        → IsTrue (is_linear scope) → Holds (uses t) scope → Stands program.expressions n (layout n scope t) → Laid scope n t
    laid-term may scope n (term.Variable x) plain fit linear held stands =
        made scope n (term.Variable x) [] (code.Variable x) refl refl stands (λ less actual deep there. there x (eq-eqb x x refl))
        (λ less deep. refl) refl refl
    laid-term may scope n (term.Literal l) plain fit linear held stands =
        made scope n (term.Literal l) [] (code.Literal l) refl refl stands (λ less actual deep there. fit) (λ less deep. refl) refl refl
    laid-term may scope n (term.Whole h ts) plain fit linear held stands =
        let e = code.Whole h (places n ts) in
        let parts = and_parts (shape.is_allowed of h && takes (arity_in of h) (term_count ts)) (fit_terms of may ts) fit in
        let all = laid-terms may scope n ts plain parts.1 linear held (Stands-left program.expressions n (layouts n scope ts) (e ∷ []) stands) in
        made scope n (term.Whole h ts) (layouts n scope ts) e refl (omega (arith, length-layouts n scope ts)) stands
        (headed scope n h ts takes all parts.0 (length-places n ts))
        (λ less deep. ap (term.Whole h) (all.same less (omega arith))) all.cases refl
    laid-term may scope n (term.Part h ts) plain fit linear held stands =
        let e = code.Part h (places n ts) in
        let parts = and_parts (shape.is_allowed of h && takes_more (arity_in of h) (term_count ts)) (fit_terms of may ts) fit in
        let all = laid-terms may scope n ts plain parts.1 linear held (Stands-left program.expressions n (layouts n scope ts) (e ∷ []) stands) in
        made scope n (term.Part h ts) (layouts n scope ts) e refl (omega (arith, length-layouts n scope ts)) stands
        (headed scope n h ts takes_more all parts.0 (length-places n ts))
        (λ less deep. ap (term.Part h) (all.same less (omega arith))) all.cases refl
    laid-term may scope n (term.Apply f a) plain fit linear held stands =
        let m = n + size f in
        let xs = layout n scope f in
        let ys = layout m scope a in
        let e = code.Apply (place n f) (place m a) in
        let plains = and_parts (is_flat_term f) (is_flat_term a) plain in
        let fit_parts = and_parts (fits_term of may f) (fits_term of may a) fit in
        let first = laid-term may scope n f plains.0 fit_parts.0 linear (left-held (uses f) (uses a) scope held) (first-part n xs ys e stands) in
        let second = laid-term may scope m a plains.1 fit_parts.1 linear (right-held (uses f) (uses a) scope held)
        (second-part n (size f) xs ys e stands (length-layout n scope f)) in
        made scope n (term.Apply f a) (xs ++ ys) e refl (lengths scope scope n f a) stands
        (λ less actual deep there. and_from (fits less program actual (place n f)) (fits less program actual (place m a))
        (first.fitting less actual (omega arith) (left-held (uses f) (uses a) actual there))
        (second.fitting less actual (omega arith) (right-held (uses f) (uses a) actual there)))
        (λ less deep. two-same term.Apply _ _ f a (first.same less (omega arith)) (second.same less (omega arith)))
        (all_append (fits_case program) xs ys first.cases second.cases) refl
    laid-term may scope n (term.Or a b) plain fit linear held stands =
        let m = n + size a in
        let xs = layout n scope a in
        let ys = layout m scope b in
        let e = code.Or (place n a) (place m b) in
        let plains = and_parts (is_flat_term a) (is_flat_term b) plain in
        let fit_parts = and_parts (fits_term of may a) (fits_term of may b) fit in
        let first = laid-term may scope n a plains.0 fit_parts.0 linear (left-held (uses a) (uses b) scope held) (first-part n xs ys e stands) in
        let second = laid-term may scope m b plains.1 fit_parts.1 linear (right-held (uses a) (uses b) scope held)
        (second-part n (size a) xs ys e stands (length-layout n scope a)) in
        made scope n (term.Or a b) (xs ++ ys) e refl (lengths scope scope n a b) stands
        (λ less actual deep there. and_from (fits less program actual (place n a)) (fits less program actual (place m b))
        (first.fitting less actual (omega arith) (left-held (uses a) (uses b) actual there))
        (second.fitting less actual (omega arith) (right-held (uses a) (uses b) actual there)))
        (λ less deep. two-same term.Or _ _ a b (first.same less (omega arith)) (second.same less (omega arith)))
        (all_append (fits_case program) xs ys first.cases second.cases) refl
    laid-term may scope n (term.Let x a b) plain fit linear held stands =
        let m = n + size a in
        let inner = binding (x ∷ []) scope in
        let xs = layout n scope a in
        let ys = layout m inner b in
        let e = code.Let x (place n a) (place m b) in
        let after : ℕ → Bool = λ y. beside (x ∷ []) y && uses b y in
        let plains = and_parts (is_flat_term a) (is_flat_term b) plain in
        let fit_parts = and_parts (fits_term of (but x may) a) (fits_term of (also x may) b) fit in
        let first = laid-term (but x may) scope n a plains.0 fit_parts.0 linear (left-held (uses a) after scope held) (first-part n xs ys e stands) in
        let second = laid-term (also x may) inner m b plains.1 fit_parts.1 (linear-binding scope (x ∷ []) linear refl)
        (Holds-binding (uses b) scope (x ∷ []) (right-held (uses a) after scope held))
        (second-part n (size a) xs ys e stands (length-layout n scope a)) in
        made scope n (term.Let x a b) (xs ++ ys) e refl (lengths scope inner n a b) stands
        (λ less actual deep there. and_from (fits less program (without x actual) (place n a)) (fits less program (actual ++ x ∷ []) (place m b))
        (first.fitting less (without x actual) (omega arith)
        (Holds-without (uses a) x actual
        (λ y h. (and_parts (not (nat_eq x y)) (may y) (uses-may of (but x may) a y fit_parts.0 h)).0)
        (left-held (uses a) after actual there)))
        (second.fitting less (actual ++ x ∷ []) (omega arith) (Holds-after (uses b) actual (x ∷ []) (right-held (uses a) after actual there))))
        (λ less deep. two-same (term.Let x) _ _ a b (first.same less (omega arith)) (second.same less (omega arith)))
        (all_append (fits_case program) xs ys first.cases second.cases) refl
    laid-term may scope n (term.Free x t) plain fit linear held stands =
        let inner = binding (x ∷ []) scope in
        let xs = layout n inner t in
        let e = code.Free x (place n t) in
        let part = laid-term (also x may) inner n t plain fit (linear-binding scope (x ∷ []) linear refl)
        (Holds-binding (uses t) scope (x ∷ []) held) (Stands-left program.expressions n xs (e ∷ []) stands) in
        made scope n (term.Free x t) xs e refl (omega (arith, length-layout n inner t)) stands
        (λ less actual deep there. part.fitting less (actual ++ x ∷ []) (omega arith) (Holds-after (uses t) actual (x ∷ []) there))
        (λ less deep. ap (term.Free x) (part.same less (omega arith))) part.cases refl
    laid-term may scope n (term.Case mode a alternatives) plain fit linear held stands =
        let m = n + size a in
        let kept = kept_of scope alternatives in
        let xs = layout n scope a in
        let ys = branch_layouts m scope alternatives in
        let rows = branches m alternatives in
        let e = code.Case mode kept (place n a) rows in
        let differ = flat.all_differ (demands_of alternatives) in
        let plains = and_parts (is_flat_term a && differ) (are_flat_alternatives alternatives) plain in
        let prefix = and_parts (is_flat_term a) differ plains.0 in
        let fit_parts = and_parts (fits_term of may a) (fit_alternatives of may alternatives) fit in
        let used = right-held (uses a) (branches_use alternatives) scope held in
        let first = laid-term may scope n a prefix.0 fit_parts.0 linear (left-held (uses a) (branches_use alternatives) scope held)
        (first-part n xs ys e stands) in
        let second = laid-branches may scope m alternatives plains.1 fit_parts.1 linear used
        (second-part n (size a) xs ys e stands (length-layout n scope a)) in
        let long : length (xs ++ ys) ≡ size a + branch_sizes alternatives =
        joined xs ys (size a) (branch_sizes alternatives) (length-layout n scope a) (length-branch_layouts m scope alternatives) in
        made scope n (term.Case mode a alternatives) (xs ++ ys) e refl (omega (arith, long)) stands
        (λ less actual deep there. and_from (list_all (λ z. holds z actual) kept && fits less program actual (place n a))
        (fit_branches (fits less program) program kept rows)
        (and_from (list_all (λ z. holds z actual) kept) (fits less program actual (place n a))
        (kept-held (branches_use alternatives) scope actual (right-held (uses a) (branches_use alternatives) actual there))
        (first.fitting less actual (omega arith) (left-held (uses a) (branches_use alternatives) actual there)))
        (branches-fit scope m alternatives less second linear used prefix.1 (omega arith)))
        (λ less deep. case-same mode _ _ a alternatives (first.same less (omega arith)) (second.same less (omega arith)))
        (all_append (fits_case program) xs ys first.cases second.cases)
        (branches-fit scope m alternatives (length program.expressions) second linear used prefix.1
        (omega (arith, stands.inside, length-append (xs ++ ys) (e ∷ []), long)))

    pub laid-terms : (may : ℕ → Bool) (scope : List ℕ) (n : ℕ) (ts : Terms) → IsTrue (are_flat_terms ts) → IsTrue (fit_terms of may ts)
        → IsTrue (is_linear scope) → Holds (some_uses ts) scope → Stands program.expressions n (layouts n scope ts) → AreLaid scope n ts
    laid-terms may scope n term.NoTerm plain fit linear held stands =
        record { fitting = λ depth actual deep there. refl; same = λ depth deep. refl; cases = refl }
    laid-terms may scope n (term.MoreTerms t ts) plain fit linear held stands =
        let m = n + size t in
        let xs = layout n scope t in
        let ys = layouts m scope ts in
        let plains = and_parts (is_flat_term t) (are_flat_terms ts) plain in
        let fit_parts = and_parts (fits_term of may t) (fit_terms of may ts) fit in
        let first = laid-term may scope n t plains.0 fit_parts.0 linear (left-held (uses t) (some_uses ts) scope held)
        (Stands-left program.expressions n xs ys stands) in
        let others = laid-terms may scope m ts plains.1 fit_parts.1 linear (right-held (uses t) (some_uses ts) scope held)
        (Stands-right program.expressions n (size t) xs ys stands (length-layout n scope t)) in
        record {
          fitting = λ depth actual deep there.
              and_from (fits depth program actual (place n t)) (list_all (fits depth program actual) (places m ts))
              (first.fitting depth actual (omega arith) (left-held (uses t) (some_uses ts) actual there))
              (others.fitting depth actual (omega arith) (right-held (uses t) (some_uses ts) actual there));
          same = λ depth deep. more-same _ _ t ts (first.same depth (omega arith)) (others.same depth (omega arith));
          cases = all_append (fits_case program) xs ys first.cases others.cases;
        }

    pub laid-branches : (may : ℕ → Bool) (scope : List ℕ) (n : ℕ) (alternatives : Alternatives) → IsTrue (are_flat_alternatives alternatives)
        → IsTrue (fit_alternatives of may alternatives) → IsTrue (is_linear scope) → Holds (branches_use alternatives) scope
        → Stands program.expressions n (branch_layouts n scope alternatives) → BranchesLaid scope n alternatives
    laid-branches may scope n term.NoAlternative plain fit linear held stands =
        record { fitting = λ depth kept deep there. refl; same = λ depth deep. refl; cases = refl }
    laid-branches may scope n (term.MoreAlternatives p t alternatives) plain fit linear held stands =
        let m = n + size t in
        let bound = variables_of p in
        let inner = binding bound scope in
        let xs = layout n inner t in
        let ys = branch_layouts m scope alternatives in
        let mine : ℕ → Bool = λ y. beside bound y && uses t y in
        let rest = branches_use alternatives in
        let plains = and_parts (is_shallow p && is_flat_term t) (are_flat_alternatives alternatives) plain in
        let here = and_parts (is_shallow p) (is_flat_term t) plains.0 in
        let fit_head = valid.fits_pattern of p && is_linear bound in
        let fit_parts = and_parts (fit_head && fits_term of (also_all bound may) t) (fit_alternatives of may alternatives) fit in
        let fit_here = and_parts fit_head (fits_term of (also_all bound may) t) fit_parts.0 in
        let pattern = and_parts (valid.fits_pattern of p) (is_linear bound) fit_here.0 in
        let fitting_pattern = pattern-fits p here.0 pattern.0 pattern.1 in
        let first = laid-term (also_all bound may) inner n t here.1 fit_here.1 (linear-binding scope bound linear pattern.1)
        (Holds-binding (uses t) scope bound (left-held mine rest scope held)) (Stands-left program.expressions n xs ys stands) in
        let others = laid-branches may scope m alternatives plains.1 fit_parts.1 linear (right-held mine rest scope held)
        (Stands-right program.expressions n (size t) xs ys stands (length-layout n inner t)) in
        record {
          fitting = λ depth kept deep there.
              and_from (fits_branch (fits depth program) program kept (record { pattern = shallow_of p; body = place n t }))
              (list_all (fits_branch (fits depth program) program kept) (branches m alternatives))
              (and_from (fits_pattern program (shallow_of p)) (fits depth program (kept ++ bound_by (shallow_of p)) (place n t)) fitting_pattern
              (subst (λ (ys : List ℕ). IsTrue (fits depth program (kept ++ ys) (place n t))) (sym (bound_by-shallow p here.0))
              (first.fitting depth (kept ++ bound) (omega arith) (Holds-after (uses t) kept bound (left-held mine rest kept there)))))
              (others.fitting depth kept (omega arith) (right-held mine rest kept there));
          same = λ depth deep.
              branch-same _ p _ t _ alternatives (pattern_of-shallow p here.0) (first.same depth (omega arith)) (others.same depth (omega arith));
          cases = all_append (fits_case program) xs ys first.cases others.cases;
        }
