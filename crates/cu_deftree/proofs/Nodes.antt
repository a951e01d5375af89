-- What terms are lowered to, node by node.
use Rattle.std.proofs.Common.{◌≡◌, ℕ, suc, ◌+◌, false, List, [], ◌∷◌, ◌++◌, map, refl, ap, ap₂, sym, ◌∙◌, subst, arith, true≢false}
use Rattle.std.specs.declared.alloc.Global.{Global}
use Rattle.std.specs.declared.boxed.Box.{Box}
use Rattle.std.specs.declared.vec.Vec.{Vec}
use Rattle.cu_calculus.specs.Program.{Program}
use Rattle.cu_calculus.specs.Term as clean
use Rattle.cu_calculus.specs.declared.FunId.{FunId}
use Rattle.cu_calculus.specs.declared.Head.{Head}
use Rattle.cu_calculus.specs.declared.Head.TheVariants as head
use Rattle.cu_calculus.specs.declared.Lit.{Lit}
use Rattle.cu_calculus.specs.declared.ConId.{ConId}
use Rattle.cu_calculus.specs.declared.Mode.TheVariants.{Rigid}
use Rattle.cu_calculus.specs.declared.Mode.{Mode}
use Rattle.cu_calculus.specs.declared.builtin.Special.{Special}
use Rattle.std.specs.Prelude.{Ok, Result}
use Rattle.cu_deftree.specs.Inside.NamesOf.{names_of, names_of-With}
use Rattle.cu_deftree.specs.declared.names.Names.TheVariants as scopes
use Rattle.cu_deftree.specs.declared.tasks.Scope.{Scope}
use Rattle.cu_deftree.specs.declared.tasks.Stop.{Stop}
use Rattle.cu_deftree.specs.Inside.Tasks.{Each, TermLowers, Within, both_size, terms_in, terms_listed, total}
use Rattle.cu_deftree.specs.LoweredProgram.{size, sizes}
use Rattle.cu_deftree.specs.Lowering as lowering
use Rattle.cu_deftree.specs.Lowering.{AllLower, Distinguishes, Lowers, failure, is_variable, test_of}
use Rattle.cu_deftree.specs.Rows.{Names, name_of, rows_of}
use Rattle.cu_deftree.proofs.Passing.{Node}
use Rattle.cu_kernel.specs.TermsOf.{alternatives_of, pattern_of-Con, patterns_of, term_of-Case, term_of, term_of-Apply, term_of-Free, term_of-Let, term_of-Lit, term_of-Or, term_of-Part, term_of-Var, term_of-Whole, terms_of}
use Rattle.cu_kernel.specs.declared.term.Pattern.TheVariants as pattern
use Rattle.cu_kernel.specs.declared.term.Pattern.{Pattern}
use Rattle.cu_kernel.specs.declared.term.Term.TheVariants as code
use Rattle.cu_kernel.specs.declared.term.Term.{Term}

-- ---- written terms

pub written_terms : (ts : List Term) → terms_of ts ≡ terms_listed (map term_of ts)
written_terms [] = refl
written_terms (t ∷ ts) = ap (clean.MoreTerms (term_of t)) (written_terms ts)

pub whole_written : (h : Head) (ts : Vec Term Global) → term_of (code.Whole h ts) ≡ clean.Whole h (terms_listed (terms_in ts))
whole_written h ts = term_of-Whole h ts ∙ ap (clean.Whole h) (written_terms ts.items)

pub part_written : (h : Head) (ts : Vec Term Global) → term_of (code.Part h ts) ≡ clean.Part h (terms_listed (terms_in ts))
part_written h ts = term_of-Part h ts ∙ ap (clean.Part h) (written_terms ts.items)

pub failure_written : (f : FunId) (ts : Vec Term Global) → ts.items ≡ [] → term_of (code.Whole (head.Fun f) ts) ≡ failure f
failure_written f ts e = term_of-Whole (head.Fun f) ts ∙ ap (λ (us : List Term). clean.Whole (head.Fun f) (terms_of us)) e

-- the case distinction on a literal
pub literal_written : (f : FunId) (x : ℕ) (l : Lit) (special : Special) (test : Box Term Global) (rows : Vec (Pattern × Term) Global)
    (begun one : List (Pattern × Term)) (v w : Vec Pattern Global) (same other : Term) → begun ≡ []
    → one ≡ begun ++ (pattern.Con special.truth v, same) ∷ [] → rows.items ≡ one ++ (pattern.Con special.falsity w, other) ∷ []
    → v.items ≡ [] → w.items ≡ [] → term_of test.value ≡ test_of f x l
    → term_of (code.Case Rigid test rows) ≡ clean.Case Rigid (test_of f x l)
    (clean.MoreAlternatives (clean.Built special.truth clean.NoPattern) (term_of same)
    (clean.MoreAlternatives (clean.Built special.falsity clean.NoPattern) (term_of other) clean.NoAlternative))
literal_written f x l special test rows begun one v w same other none first second e g h =
    let items : rows.items ≡ (pattern.Con special.truth v, same) ∷ (pattern.Con special.falsity w, other) ∷ [] =
    second ∙ ap (λ (bs : List (Pattern × Term)). bs ++ (pattern.Con special.falsity w, other) ∷ [])
    (first ∙ ap (λ (bs : List (Pattern × Term)). bs ++ (pattern.Con special.truth v, same) ∷ []) none) in
    let built = λ (c : ConId) (u : Vec Pattern Global) (i : u.items ≡ []). pattern_of-Con c u ∙ ap (λ (ps : List Pattern). clean.Built c (patterns_of ps)) i in
    term_of-Case Rigid test rows
    ∙ ap₂ (λ (t : clean.Term) (a : clean.Alternatives). clean.Case Rigid t a) h
    (ap alternatives_of items
    ∙ ap₂ (λ (p q : clean.Pattern). clean.MoreAlternatives p (term_of same) (clean.MoreAlternatives q (term_of other) clean.NoAlternative))
    (built special.truth v e) (built special.falsity w g))

total_sizes : (us : List clean.Term) → sizes (terms_listed us) ≡ total size us
total_sizes [] = refl
total_sizes (u ∷ us) = ap (λ (n : ℕ). size u + n) (total_sizes us)

-- ---- lists of terms

abbrev pub EachTerm : Program → Names → ℕ → List Term → List clean.Term → Type 0
EachTerm program names next ts us = Each (λ t u. Lowers program names next (term_of t) u) ts us

all_forth : (program : Program) (names : Names) (next : ℕ) (ts : List Term) (us : List clean.Term) → EachTerm program names next ts us
    → AllLower program names next (terms_of ts) (terms_listed us)
all_forth program names next [] us h = subst (λ (vs : List clean.Term). AllLower program names next clean.NoTerm (terms_listed vs)) (sym h) (lowering.no_term names next)
all_forth program names next (t ∷ ts) us h =
    subst (λ (vs : List clean.Term). AllLower program names next (clean.MoreTerms (term_of t) (terms_of ts)) (terms_listed vs)) (sym h.4)
    (lowering.more_terms names next (term_of t) h.0 (terms_of ts) (terms_listed h.1) h.2 (all_forth program names next ts h.1 h.3))

abbrev Listed : Program → Names → ℕ → List Term → clean.Terms → Type 0
Listed program names next ts vs = (us : List clean.Term) × EachTerm program names next ts us × (vs ≡ terms_listed us)

abbrev AllConverse : Program → Names → ℕ → clean.Terms → clean.Terms → Type 0
AllConverse program names next clean.NoTerm vs = vs ≡ clean.NoTerm
AllConverse program names next (clean.MoreTerms t ts) vs =
    (u : clean.Term) × (us : clean.Terms) × Lowers program names next t u × AllLower program names next ts us × (vs ≡ clean.MoreTerms u us)

all_opened : (program : Program) (names : Names) (next : ℕ) (ts vs : clean.Terms) → AllLower program names next ts vs → AllConverse program names next ts vs
all_opened program _ _ _ _ (lowering.no_term names next) = refl
all_opened program _ _ _ _ (lowering.more_terms names next t u ts us p ps) = (u, us, p, ps, refl)

all_converse : (program : Program) (names : Names) (next : ℕ) (ts : List Term) (vs : clean.Terms) → AllLower program names next (terms_of ts) vs
    → Listed program names next ts vs
all_converse program names next [] vs h = ([], refl, all_opened program names next clean.NoTerm vs h)
all_converse program names next (t ∷ ts) vs h =
    let parts = all_opened program names next (clean.MoreTerms (term_of t) (terms_of ts)) vs h in
    let rest = all_converse program names next ts parts.1 parts.3 in
    (parts.0 ∷ rest.0, (parts.0, rest.0, parts.2, rest.1, refl), parts.4 ∙ ap (clean.MoreTerms parts.0) rest.2)

-- ---- what a term was lowered to

abbrev LowersConverse : Program → Names → ℕ → clean.Term → clean.Term → Type 0
LowersConverse program names next (clean.Variable x) v = v ≡ clean.Variable (name_of names x)
LowersConverse program names next (clean.Literal l) v = v ≡ clean.Literal l
LowersConverse program names next (clean.Whole h ts) v = (us : clean.Terms) × AllLower program names next ts us × (v ≡ clean.Whole h us)
LowersConverse program names next (clean.Part h ts) v = (us : clean.Terms) × AllLower program names next ts us × (v ≡ clean.Part h us)
LowersConverse program names next (clean.Apply f a) v =
    (g b : clean.Term) × Lowers program names next f g × Lowers program names next a b × (v ≡ clean.Apply g b)
LowersConverse program names next (clean.Let x a b) v =
    (c d : clean.Term) × Lowers program names next a c × Lowers program ((x, next) ∷ names) (suc next) b d × (v ≡ clean.Let next c d)
LowersConverse program names next (clean.Free x a) v =
    (b : clean.Term) × Lowers program ((x, next) ∷ names) (suc next) a b × (v ≡ clean.Free next b)
LowersConverse program names next (clean.Or a b) v =
    (c d : clean.Term) × Lowers program names next a c × Lowers program names next b d × (v ≡ clean.Or c d)
LowersConverse program names next (clean.Case mode (clean.Variable x) alternatives) v =
    Distinguishes program mode (name_of names x ∷ []) next (rows_of names (name_of names x) alternatives) v
LowersConverse program names next (clean.Case mode a alternatives) v =
    (b t : clean.Term) × Lowers program names next a b × Distinguishes program mode (next ∷ []) (suc next) (rows_of names next alternatives) t
    × (v ≡ clean.Let next b t)

lowers_converse : (program : Program) (names : Names) (next : ℕ) (t v : clean.Term) → Lowers program names next t v → LowersConverse program names next t v
lowers_converse program _ _ _ _ (lowering.variable names next x) = refl
lowers_converse program _ _ _ _ (lowering.literal names next l) = refl
lowers_converse program _ _ _ _ (lowering.whole names next h ts us p) = (us, p, refl)
lowers_converse program _ _ _ _ (lowering.part names next h ts us p) = (us, p, refl)
lowers_converse program _ _ _ _ (lowering.applied names next f a g b p q) = (g, b, p, q, refl)
lowers_converse program _ _ _ _ (lowering.bound names next x a b c d p q) = (c, d, p, q, refl)
lowers_converse program _ _ _ _ (lowering.free names next x a b p) = (b, p, refl)
lowers_converse program _ _ _ _ (lowering.either names next a b c d p q) = (c, d, p, q, refl)
lowers_converse program _ _ _ v (lowering.on_variable names next x mode alternatives _ p) = p
lowers_converse program _ _ _ _ (lowering.on_term names next mode (clean.Variable x) b alternatives t is p q) = absurd (true≢false is)
lowers_converse program _ _ _ _ (lowering.on_term names next mode (clean.Literal l) b alternatives t is p q) = (b, t, p, q, refl)
lowers_converse program _ _ _ _ (lowering.on_term names next mode (clean.Whole h ts) b alternatives t is p q) = (b, t, p, q, refl)
lowers_converse program _ _ _ _ (lowering.on_term names next mode (clean.Part h ts) b alternatives t is p q) = (b, t, p, q, refl)
lowers_converse program _ _ _ _ (lowering.on_term names next mode (clean.Apply f a) b alternatives t is p q) = (b, t, p, q, refl)
lowers_converse program _ _ _ _ (lowering.on_term names next mode (clean.Let x a c) b alternatives t is p q) = (b, t, p, q, refl)
lowers_converse program _ _ _ _ (lowering.on_term names next mode (clean.Free x a) b alternatives t is p q) = (b, t, p, q, refl)
lowers_converse program _ _ _ _ (lowering.on_term names next mode (clean.Or a c) b alternatives t is p q) = (b, t, p, q, refl)
lowers_converse program _ _ _ _ (lowering.on_term names next mode (clean.Case m a others) b alternatives t is p q) = (b, t, p, q, refl)

-- ---- nodes

pub whole_node : (program : Program) (names : Names) (next : ℕ) (h : Head) (ts : List Term)
    → Node (EachTerm program names next ts) (total size) (Lowers program names next (clean.Whole h (terms_of ts))) size (λ us. clean.Whole h (terms_listed us)) 1
whole_node program names next h ts = record {
  forth = λ us each. lowering.whole names next h (terms_of ts) (terms_listed us) (all_forth program names next ts us each);
  converse = λ t p.
      let b = lowers_converse program names next (clean.Whole h (terms_of ts)) t p in
      let us = all_converse program names next ts b.0 b.1 in (us.0, us.1, b.2 ∙ ap (clean.Whole h) us.2);
  more = λ us. let sum = total_sizes us in omega arith;
}

pub part_node : (program : Program) (names : Names) (next : ℕ) (h : Head) (ts : List Term)
    → Node (EachTerm program names next ts) (total size) (Lowers program names next (clean.Part h (terms_of ts))) size (λ us. clean.Part h (terms_listed us)) 1
part_node program names next h ts = record {
  forth = λ us each. lowering.part names next h (terms_of ts) (terms_listed us) (all_forth program names next ts us each);
  converse = λ t p.
      let b = lowers_converse program names next (clean.Part h (terms_of ts)) t p in
      let us = all_converse program names next ts b.0 b.1 in (us.0, us.1, b.2 ∙ ap (clean.Part h) us.2);
  more = λ us. let sum = total_sizes us in omega arith;
}

-- two terms, each in its scope
abbrev pub Two : (clean.Term → Type 0) → (clean.Term → Type 0) → clean.Term × clean.Term → Type 0
Two R S both = R both.0 × S both.1

pub apply_node : (program : Program) (names : Names) (next : ℕ) (f a : clean.Term)
    → Node (Two (Lowers program names next f) (Lowers program names next a)) both_size (Lowers program names next (clean.Apply f a)) size
    (λ both. clean.Apply both.0 both.1) 1
apply_node program names next f a = record {
  forth = λ both p. lowering.applied names next f a both.0 both.1 p.0 p.1;
  converse = λ t p. let b = lowers_converse program names next (clean.Apply f a) t p in ((b.0, b.1), (b.2, b.3), b.4);
  more = λ both. omega arith;
}

pub or_node : (program : Program) (names : Names) (next : ℕ) (a b : clean.Term)
    → Node (Two (Lowers program names next a) (Lowers program names next b)) both_size (Lowers program names next (clean.Or a b)) size
    (λ both. clean.Or both.0 both.1) 1
or_node program names next a b = record {
  forth = λ both p. lowering.either names next a b both.0 both.1 p.0 p.1;
  converse = λ t p. let q = lowers_converse program names next (clean.Or a b) t p in ((q.0, q.1), (q.2, q.3), q.4);
  more = λ both. omega arith;
}

pub let_node : (program : Program) (names : Names) (next x : ℕ) (a b : clean.Term)
    → Node (Two (Lowers program names next a) (Lowers program ((x, next) ∷ names) (suc next) b)) both_size
    (Lowers program names next (clean.Let x a b)) size (λ both. clean.Let next both.0 both.1) 1
let_node program names next x a b = record {
  forth = λ both p. lowering.bound names next x a b both.0 both.1 p.0 p.1;
  converse = λ t p. let q = lowers_converse program names next (clean.Let x a b) t p in ((q.0, q.1), (q.2, q.3), q.4);
  more = λ both. omega arith;
}

pub free_node : (program : Program) (names : Names) (next x : ℕ) (a : clean.Term)
    → Node (Lowers program ((x, next) ∷ names) (suc next) a) size (Lowers program names next (clean.Free x a)) size (λ b. clean.Free next b) 1
free_node program names next x a = record {
  forth = λ b p. lowering.free names next x a b p;
  converse = λ t p. let q = lowers_converse program names next (clean.Free x a) t p in (q.0, q.1, q.2);
  more = λ b. omega arith;
}

pub variable_case_node : (program : Program) (names : Names) (next x : ℕ) (mode : Mode) (alternatives : clean.Alternatives)
    → Node (Distinguishes program mode (name_of names x ∷ []) next (rows_of names (name_of names x) alternatives)) size
    (Lowers program names next (clean.Case mode (clean.Variable x) alternatives)) size (λ t. t) 0
variable_case_node program names next x mode alternatives = record {
  forth = λ t p. lowering.on_variable names next x mode alternatives t p;
  converse = λ t p. (t, lowers_converse program names next (clean.Case mode (clean.Variable x) alternatives) t p, refl);
  more = λ t. omega arith;
}

abbrev OnTerm : Program → Names → ℕ → Mode → clean.Term → clean.Alternatives → clean.Term → Type 0
OnTerm program names next mode a alternatives v =
    (b t : clean.Term) × Lowers program names next a b × Distinguishes program mode (next ∷ []) (suc next) (rows_of names next alternatives) t
    × (v ≡ clean.Let next b t)

on_term_converse : (program : Program) (names : Names) (next : ℕ) (mode : Mode) (a : clean.Term) (alternatives : clean.Alternatives) (v : clean.Term)
    → is_variable a ≡ false → Lowers program names next (clean.Case mode a alternatives) v → OnTerm program names next mode a alternatives v
on_term_converse program names next mode (clean.Variable x) alternatives v is p = absurd (true≢false is)
on_term_converse program names next mode (clean.Literal l) alternatives v is p = lowers_converse program names next (clean.Case mode (clean.Literal l) alternatives) v p
on_term_converse program names next mode (clean.Whole h ts) alternatives v is p = lowers_converse program names next (clean.Case mode (clean.Whole h ts) alternatives) v p
on_term_converse program names next mode (clean.Part h ts) alternatives v is p = lowers_converse program names next (clean.Case mode (clean.Part h ts) alternatives) v p
on_term_converse program names next mode (clean.Apply f a) alternatives v is p = lowers_converse program names next (clean.Case mode (clean.Apply f a) alternatives) v p
on_term_converse program names next mode (clean.Let x a c) alternatives v is p = lowers_converse program names next (clean.Case mode (clean.Let x a c) alternatives) v p
on_term_converse program names next mode (clean.Free x a) alternatives v is p = lowers_converse program names next (clean.Case mode (clean.Free x a) alternatives) v p
on_term_converse program names next mode (clean.Or a c) alternatives v is p = lowers_converse program names next (clean.Case mode (clean.Or a c) alternatives) v p
on_term_converse program names next mode (clean.Case m a others) alternatives v is p = lowers_converse program names next (clean.Case mode (clean.Case m a others) alternatives) v p

pub term_case_node : (program : Program) (names : Names) (next : ℕ) (mode : Mode) (a : clean.Term) (alternatives : clean.Alternatives)
    → is_variable a ≡ false
    → Node (Two (Lowers program names next a) (Distinguishes program mode (next ∷ []) (suc next) (rows_of names next alternatives))) both_size
    (Lowers program names next (clean.Case mode a alternatives)) size (λ both. clean.Let next both.0 both.1) 1
term_case_node program names next mode a alternatives is = record {
  forth = λ both p. lowering.on_term names next mode a both.0 alternatives both.1 is p.0 p.1;
  converse = λ t p. let q = on_term_converse program names next mode a alternatives t is p in ((q.0, q.1), (q.2, q.3), q.4);
  more = λ both. omega arith;
}

-- ---- nodes in a scope

pub let_in : (program : Program) (scope : Scope) (x n : ℕ) (a b : clean.Term) → n ≡ scope.next + 1
    → Node (Two (TermLowers program scope a) (Lowers program (names_of (scopes.With x scope.next scope.names)) n b)) both_size
    (TermLowers program scope (clean.Let x a b)) size (λ both. clean.Let scope.next both.0 both.1) 1
let_in program scope x n a b e =
    let follows : suc scope.next ≡ n = omega arith in
    subst (λ (k : ℕ). Node (Two (TermLowers program scope a) (Lowers program (names_of (scopes.With x scope.next scope.names)) k b)) both_size
    (TermLowers program scope (clean.Let x a b)) size (λ both. clean.Let scope.next both.0 both.1) 1) follows
    (subst (λ (ns : Names). Node (Two (TermLowers program scope a) (Lowers program ns (suc scope.next) b)) both_size
    (TermLowers program scope (clean.Let x a b)) size (λ both. clean.Let scope.next both.0 both.1) 1) (sym (names_of-With x scope.next scope.names))
    (let_node program (names_of scope.names.now) scope.next x a b))

pub free_in : (program : Program) (scope : Scope) (x n : ℕ) (a : clean.Term) → n ≡ scope.next + 1
    → Node (Lowers program (names_of (scopes.With x scope.next scope.names)) n a) size (TermLowers program scope (clean.Free x a)) size
    (λ b. clean.Free scope.next b) 1
free_in program scope x n a e =
    let follows : suc scope.next ≡ n = omega arith in
    subst (λ (k : ℕ). Node (Lowers program (names_of (scopes.With x scope.next scope.names)) k a) size (TermLowers program scope (clean.Free x a)) size
    (λ b. clean.Free scope.next b) 1) follows
    (subst (λ (ns : Names). Node (Lowers program ns (suc scope.next) a) size (TermLowers program scope (clean.Free x a)) size
    (λ b. clean.Free scope.next b) 1) (sym (names_of-With x scope.next scope.names)) (free_node program (names_of scope.names.now) scope.next x a))

-- a relation to a term that is written otherwise
pub as_term : {A : Type 0} (meaning : A → clean.Term) (program : Program) (scope : Scope) (t u : clean.Term) (old new : ℕ) (r : Result A Stop) → t ≡ u
    → Within meaning size (TermLowers program scope u) old new r → Within meaning size (TermLowers program scope t) old new r
as_term meaning program scope t u old new r e h = subst (λ (v : clean.Term). Within meaning size (TermLowers program scope v) old new r) (sym e) h

-- ---- terms by their variants

abbrev pub EachIn : Program → Scope → List Term → List clean.Term → Type 0
EachIn program scope ts us = Each (λ t u. TermLowers program scope (term_of t) u) ts us

pub whole_in : (program : Program) (scope : Scope) (t : Term) (h : Head) (v : Vec Term Global) (us : List Term) → t ≡ code.Whole h v → us ≡ v.items
    → Node (EachIn program scope us) (total size) (TermLowers program scope (term_of t)) size (λ ws. clean.Whole h (terms_listed ws)) 1
whole_in program scope t h v us is same =
    let e = ap term_of is ∙ term_of-Whole h v ∙ ap (λ (xs : List Term). clean.Whole h (terms_of xs)) (sym same) in
    subst (λ (x : clean.Term). Node (EachIn program scope us) (total size) (TermLowers program scope x) size (λ ws. clean.Whole h (terms_listed ws)) 1) (sym e)
    (whole_node program (names_of scope.names.now) scope.next h us)

pub part_in : (program : Program) (scope : Scope) (t : Term) (h : Head) (v : Vec Term Global) (us : List Term) → t ≡ code.Part h v → us ≡ v.items
    → Node (EachIn program scope us) (total size) (TermLowers program scope (term_of t)) size (λ ws. clean.Part h (terms_listed ws)) 1
part_in program scope t h v us is same =
    let e = ap term_of is ∙ term_of-Part h v ∙ ap (λ (xs : List Term). clean.Part h (terms_of xs)) (sym same) in
    subst (λ (x : clean.Term). Node (EachIn program scope us) (total size) (TermLowers program scope x) size (λ ws. clean.Part h (terms_listed ws)) 1) (sym e)
    (part_node program (names_of scope.names.now) scope.next h us)

pub apply_in : (program : Program) (scope : Scope) (t : Term) (f a : Box Term Global) (x y : Term) → t ≡ code.Apply f a → x ≡ f.value → y ≡ a.value
    → Node (Two (TermLowers program scope (term_of x)) (TermLowers program scope (term_of y))) both_size (TermLowers program scope (term_of t)) size
    (λ both. clean.Apply both.0 both.1) 1
apply_in program scope t f a x y is one two =
    let e = ap term_of is ∙ term_of-Apply f a ∙ ap₂ (λ (v w : Term). clean.Apply (term_of v) (term_of w)) (sym one) (sym two) in
    subst (λ (z : clean.Term). Node (Two (TermLowers program scope (term_of x)) (TermLowers program scope (term_of y))) both_size (TermLowers program scope z) size
    (λ both. clean.Apply both.0 both.1) 1) (sym e) (apply_node program (names_of scope.names.now) scope.next (term_of x) (term_of y))

pub or_in : (program : Program) (scope : Scope) (t : Term) (f a : Box Term Global) (x y : Term) → t ≡ code.Or f a → x ≡ f.value → y ≡ a.value
    → Node (Two (TermLowers program scope (term_of x)) (TermLowers program scope (term_of y))) both_size (TermLowers program scope (term_of t)) size
    (λ both. clean.Or both.0 both.1) 1
or_in program scope t f a x y is one two =
    let e = ap term_of is ∙ term_of-Or f a ∙ ap₂ (λ (v w : Term). clean.Or (term_of v) (term_of w)) (sym one) (sym two) in
    subst (λ (z : clean.Term). Node (Two (TermLowers program scope (term_of x)) (TermLowers program scope (term_of y))) both_size (TermLowers program scope z) size
    (λ both. clean.Or both.0 both.1) 1) (sym e) (or_node program (names_of scope.names.now) scope.next (term_of x) (term_of y))

pub let_is : (t : Term) (x : ℕ) (a b : Box Term Global) (u v : Term) → t ≡ code.Let x a b → u ≡ a.value → v ≡ b.value
    → term_of t ≡ clean.Let x (term_of u) (term_of v)
let_is t x a b u v is one two =
    ap term_of is ∙ term_of-Let x a b ∙ ap₂ (λ (y z : Term). clean.Let x (term_of y) (term_of z)) (sym one) (sym two)

pub free_is : (t : Term) (x : ℕ) (a : Box Term Global) (u : Term) → t ≡ code.Free x a → u ≡ a.value → term_of t ≡ clean.Free x (term_of u)
free_is t x a u is one = ap term_of is ∙ term_of-Free x a ∙ ap (λ (y : Term). clean.Free x (term_of y)) (sym one)

pub case_is : (t : Term) (m : Mode) (a : Box Term Global) (v : Vec (Pattern × Term) Global) (u : Term) (bs : List (Pattern × Term)) → t ≡ code.Case m a v
    → u ≡ a.value → bs ≡ v.items → term_of t ≡ clean.Case m (term_of u) (alternatives_of bs)
case_is t m a v u bs is one two =
    ap term_of is ∙ term_of-Case m a v
    ∙ ap₂ (λ (y : Term) (cs : List (Pattern × Term)). clean.Case m (term_of y) (alternatives_of cs)) (sym one) (sym two)

pub whole_is : (t : Term) (h : Head) (v : Vec Term Global) (us : List Term) → t ≡ code.Whole h v → us ≡ v.items → term_of t ≡ clean.Whole h (terms_of us)
whole_is t h v us is same = ap term_of is ∙ term_of-Whole h v ∙ ap (λ (xs : List Term). clean.Whole h (terms_of xs)) (sym same)

pub part_is : (t : Term) (h : Head) (v : Vec Term Global) (us : List Term) → t ≡ code.Part h v → us ≡ v.items → term_of t ≡ clean.Part h (terms_of us)
part_is t h v us is same = ap term_of is ∙ term_of-Part h v ∙ ap (λ (xs : List Term). clean.Part h (terms_of xs)) (sym same)

pub apply_is : (t : Term) (f a : Box Term Global) (x y : Term) → t ≡ code.Apply f a → x ≡ f.value → y ≡ a.value
    → term_of t ≡ clean.Apply (term_of x) (term_of y)
apply_is t f a x y is one two =
    ap term_of is ∙ term_of-Apply f a ∙ ap₂ (λ (v w : Term). clean.Apply (term_of v) (term_of w)) (sym one) (sym two)

pub or_is : (t : Term) (f a : Box Term Global) (x y : Term) → t ≡ code.Or f a → x ≡ f.value → y ≡ a.value
    → term_of t ≡ clean.Or (term_of x) (term_of y)
or_is t f a x y is one two =
    ap term_of is ∙ term_of-Or f a ∙ ap₂ (λ (v w : Term). clean.Or (term_of v) (term_of w)) (sym one) (sym two)

pub variable_done : (program : Program) (scope : Scope) (t : Term) (x n old new : ℕ) → t ≡ code.Var x → n ≡ name_of (names_of scope.names.now) x
    → new + 1 ≡ old → Within term_of size (TermLowers program scope (term_of t)) old new (Ok (code.Var n))
variable_done program scope t x n old new is named taken =
    let whole = ap term_of is ∙ term_of-Var x in
    let made = term_of-Var n ∙ ap clean.Variable named in
    let one = ap size made in (
      subst (λ (u : clean.Term). TermLowers program scope u (term_of (code.Var n))) (sym whole)
          (subst (λ (u : clean.Term). TermLowers program scope (clean.Variable x) u) (sym made) (lowering.variable (names_of scope.names.now) scope.next x)),
      omega arith,
    )

pub literal_done : (program : Program) (scope : Scope) (t : Term) (l : Lit) (old new : ℕ) → t ≡ code.Lit l
    → new + 1 ≡ old → Within term_of size (TermLowers program scope (term_of t)) old new (Ok (code.Lit l))
literal_done program scope t l old new is taken =
    let whole = ap term_of is ∙ term_of-Lit l in
    let made = term_of-Lit l in
    let one = ap size made in (
      subst (λ (u : clean.Term). TermLowers program scope u (term_of (code.Lit l))) (sym whole)
          (subst (λ (u : clean.Term). TermLowers program scope (clean.Literal l) u) (sym made) (lowering.literal (names_of scope.names.now) scope.next l)),
      omega arith,
    )
