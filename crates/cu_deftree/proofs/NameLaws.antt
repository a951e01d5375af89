-- Names and numbers, as the code finds and writes them.
use Rattle.std.proofs.Common.{◌≡◌, ℕ, suc, ◌+◌, ◌-◌, ◌<◌, ◌≤◌, Bool, true, false, List, [], ◌∷◌, ◌++◌, Option, None, Some, if◌then◌else◌, nat_eq, drop, map, min, ◌⊎◌, inl, inr, length, get_or, refl, ap, ap₂, sym, ◌∙◌, subst, arith, append_assoc, append-nil, add-one, drop-cons}
use Rattle.std.proofs.lemmas.Bool.{cases_order}
use Rattle.std.proofs.lemmas.List.{at_drop_all}
use denote.Ref.{Bor}
use Rattle.cu_calculus.specs.Choose.{list_patterns}
use Rattle.cu_calculus.specs.Term as clean
use Rattle.cu_calculus.specs.declared.ConId.{ConId}
use Rattle.cu_calculus.specs.declared.Lit.{Lit}
use Rattle.cu_deftree.specs.Inside.NamesOf.{found_name, names_of, names_of-WithAll}
use Rattle.cu_deftree.specs.Lowering.{variables}
use Rattle.cu_deftree.specs.Rows as rows
use Rattle.cu_deftree.specs.Rows.{argument_names, name_of, names_at, names_at_all, numbers}
use Rattle.cu_deftree.specs.declared.names.Names.TheVariants as names
use Rattle.cu_deftree.specs.declared.names.Names.{Names}
use Rattle.cu_kernel.specs.TermsOf.{pattern_of, pattern_of-Alias, pattern_of-Con, pattern_of-Lit, pattern_of-Var, patterns_of}
use Rattle.cu_kernel.specs.declared.term.Pattern.TheVariants as pattern
use Rattle.cu_kernel.specs.declared.term.Pattern.{Pattern}
use Rattle.std.specs.declared.alloc.Global.{Global}
use Rattle.std.specs.declared.boxed.Box.{Box}
use Rattle.std.specs.declared.vec.Vec.{Vec}

-- what is left begins with the next element
pub left : {X : Type 0} (xs : List X) (i : ℕ) (x : X) → i < length xs → x ≡ get_or xs i x → drop i xs ≡ x ∷ drop (i + 1) xs
left xs i x below is = rw add-one (drop-cons xs i x below ∙ ap (λ y. y ∷ drop (suc i) xs) (sym is))

-- ---- names

abbrev AppendedName : rows.Names → ℕ → Option ℕ → ℕ → Type 0
AppendedName rest x (Some n) found = found ≡ n
AppendedName rest x None found = found ≡ name_of rest x

found_in : (more rest : rows.Names) (x : ℕ) → AppendedName rest x (found_name more x) (name_of (more ++ rest) x)
found_in [] rest x = refl
found_in ((y, z) ∷ more) rest x = by (nat_eq y x) (found_in more rest x)
  where
    by : (b : Bool) → AppendedName rest x (found_name more x) (name_of (more ++ rest) x)
        → AppendedName rest x (if b then Some z else found_name more x) (if b then z else name_of (more ++ rest) x)
    by true h = refl
    by false h = h

pub first_name : (scope : Names) (more : Bor (List (ℕ × ℕ))) (around : Bor Names) (x n : ℕ) → scope ≡ names.WithAll more around
    → Some n ≡ found_name more.now x → n ≡ name_of (names_of scope) x
first_name scope more around x n is found =
    sym (ap (λ (s : Names). name_of (names_of s) x) is ∙ ap (λ (ns : rows.Names). name_of ns x) (names_of-WithAll more around)
    ∙ subst (λ (o : Option ℕ). AppendedName (names_of around.now) x o (name_of (more.now ++ names_of around.now) x)) (sym found) (found_in more.now (names_of around.now) x))

pub later_name : (scope : Names) (more : Bor (List (ℕ × ℕ))) (around : Bor Names) (x n : ℕ) → scope ≡ names.WithAll more around
    → None ≡ found_name more.now x → n ≡ name_of (names_of around.now) x → n ≡ name_of (names_of scope) x
later_name scope more around x n is found later =
    later ∙ sym (ap (λ (s : Names). name_of (names_of s) x) is ∙ ap (λ (ns : rows.Names). name_of ns x) (names_of-WithAll more around)
    ∙ subst (λ (o : Option ℕ). AppendedName (names_of around.now) x o (name_of (more.now ++ names_of around.now) x)) (sym found) (found_in more.now (names_of around.now) x))

-- ---- numbers

pub next_number : (done new whole : List ℕ) (x end : ℕ) → x < end → new ≡ done ++ x ∷ [] → done ++ numbers x (end - x) ≡ whole
    → new ++ numbers (x + 1) (end - (x + 1)) ≡ whole
next_number done new whole x end below more before =
    let one : end - x ≡ suc (end - (x + 1)) = omega arith in
    ap (λ (ys : List ℕ). ys ++ numbers (x + 1) (end - (x + 1))) more ∙ append_assoc done (x ∷ []) (numbers (x + 1) (end - (x + 1)))
    ∙ ap (λ (n : ℕ). done ++ x ∷ numbers n (end - (x + 1))) (add-one x) ∙ ap (λ (n : ℕ). done ++ numbers x n) (sym one) ∙ before

pub last_number : (done whole : List ℕ) (x end : ℕ) → end ≤ x → done ++ numbers x (end - x) ≡ whole → done ≡ whole
last_number done whole x end past before =
    let none : end - x ≡ 0 = omega arith in
    sym (ap (λ (n : ℕ). done ++ numbers x n) none ∙ append-nil done) ∙ before

pub first_number : (from count end : ℕ) → end ≡ from + count → [] ++ numbers from (end - from) ≡ numbers from count
first_number from count end e = let all : end - from ≡ count = omega arith in ap (numbers from) all

-- ---- patterns in a row

abbrev pub then_patterns : List Pattern → clean.Patterns → clean.Patterns
then_patterns [] rest = rest
then_patterns (p ∷ ps) rest = clean.MorePatterns (pattern_of p) (then_patterns ps rest)

pub then_one : (ps : List Pattern) (p : Pattern) (rest : clean.Patterns) → then_patterns (ps ++ p ∷ []) rest ≡ then_patterns ps (clean.MorePatterns (pattern_of p) rest)
then_one [] p rest = refl
then_one (q ∷ ps) p rest = ap (clean.MorePatterns (pattern_of q)) (then_one ps p rest)

pub then_none : (ps : List Pattern) → then_patterns ps clean.NoPattern ≡ patterns_of ps
then_none [] = refl
then_none (q ∷ ps) = ap (clean.MorePatterns (pattern_of q)) (then_none ps)

pub left_number : (xs : List ℕ) (i : ℕ) → i < length xs → drop i xs ≡ get_or xs i 0 ∷ drop (i + 1) xs
left_number xs i below = rw add-one (drop-cons xs i 0 below)

pub next_variable : (done new : List Pattern) (xs : List ℕ) (i : ℕ) (whole : clean.Patterns) → i < length xs
    → new ≡ done ++ pattern.Var (get_or xs i 0) ∷ [] → then_patterns done (variables (drop i xs)) ≡ whole → then_patterns new (variables (drop (i + 1) xs)) ≡ whole
next_variable done new xs i whole below more before =
    let x = get_or xs i 0 in
    ap (λ (ps : List Pattern). then_patterns ps (variables (drop (i + 1) xs))) more ∙ then_one done (pattern.Var x) (variables (drop (i + 1) xs))
    ∙ ap (λ (p : clean.Pattern). then_patterns done (clean.MorePatterns p (variables (drop (i + 1) xs)))) (pattern_of-Var x)
    ∙ sym (ap (λ (ys : List ℕ). then_patterns done (variables ys)) (left_number xs i below)) ∙ before

pub all_variables_written : (done : List Pattern) (xs : List ℕ) (i : ℕ) (whole : clean.Patterns) → length xs ≤ i
    → then_patterns done (variables (drop i xs)) ≡ whole → patterns_of done ≡ whole
all_variables_written done xs i whole past before =
    sym (ap (then_patterns done) (at_drop_all variables xs i past) ∙ then_none done) ∙ before

-- ---- patterns by their variants

pub listed : (qs : List Pattern) → map pattern_of qs ≡ list_patterns (patterns_of qs)
listed [] = refl
listed (q ∷ qs) = ap (λ rest. pattern_of q ∷ rest) (listed qs)

pub literal_names : (xs : rows.Names) (position : ℕ) (p : Pattern) (l : Lit) → p ≡ pattern.Lit l → xs ≡ xs ++ names_at position (pattern_of p)
literal_names xs position p l is =
    sym (ap (λ q. xs ++ names_at position (pattern_of q)) is ∙ ap (λ q. xs ++ names_at position q) (pattern_of-Lit l) ∙ append-nil xs)

pub built_names : (xs : rows.Names) (position : ℕ) (p : Pattern) (c : ConId) (qs : Vec Pattern Global) → p ≡ pattern.Con c qs
    → xs ≡ xs ++ names_at position (pattern_of p)
built_names xs position p c qs is =
    sym (ap (λ q. xs ++ names_at position (pattern_of q)) is ∙ ap (λ q. xs ++ names_at position q) (pattern_of-Con c qs) ∙ append-nil xs)

pub alias_names : (old pushed new : rows.Names) (position : ℕ) (p part : Pattern) (x : ℕ) (b : Box Pattern Global) → p ≡ pattern.Alias x b
    → part ≡ b.value → pushed ≡ old ++ (x, position) ∷ [] → new ≡ pushed ++ names_at position (pattern_of part)
    → new ≡ old ++ names_at position (pattern_of p)
alias_names old pushed new position p part x b is inner first rest =
    rest ∙ ap (λ xs. xs ++ names_at position (pattern_of part)) first ∙ append_assoc old ((x, position) ∷ []) (names_at position (pattern_of part))
    ∙ ap (λ q. old ++ (x, position) ∷ names_at position (pattern_of q)) inner
    ∙ sym (ap (λ q. old ++ names_at position (pattern_of q)) is ∙ ap (λ q. old ++ names_at position q) (pattern_of-Alias x b))

pub variable_argument_names : (xs : rows.Names) (ys : List ℕ) (p : Pattern) (x : ℕ) → p ≡ pattern.Var x → xs ≡ xs ++ argument_names ys (pattern_of p)
variable_argument_names xs ys p x is =
    sym (ap (λ q. xs ++ argument_names ys (pattern_of q)) is ∙ ap (λ q. xs ++ argument_names ys q) (pattern_of-Var x) ∙ append-nil xs)

pub literal_argument_names : (xs : rows.Names) (ys : List ℕ) (p : Pattern) (l : Lit) → p ≡ pattern.Lit l → xs ≡ xs ++ argument_names ys (pattern_of p)
literal_argument_names xs ys p l is =
    sym (ap (λ q. xs ++ argument_names ys (pattern_of q)) is ∙ ap (λ q. xs ++ argument_names ys q) (pattern_of-Lit l) ∙ append-nil xs)

-- ---- names at several positions

pub next_names : (xs : List ℕ) (ps : List Pattern) (i x : ℕ) (p : Pattern) (done new whole : rows.Names) → i < length xs → i < length ps
    → x ≡ get_or xs i x → p ≡ get_or ps i p → new ≡ done ++ names_at x (pattern_of p)
    → done ++ names_at_all (drop i xs) (list_patterns (patterns_of (drop i ps))) ≡ whole
    → new ++ names_at_all (drop (i + 1) xs) (list_patterns (patterns_of (drop (i + 1) ps))) ≡ whole
next_names xs ps i x p done new whole below under here there more before =
    let rest = names_at_all (drop (i + 1) xs) (list_patterns (patterns_of (drop (i + 1) ps))) in
    ap (λ (ns : rows.Names). ns ++ rest) more ∙ append_assoc done (names_at x (pattern_of p)) rest
    ∙ sym (ap₂ (λ (ys : List ℕ) (qs : List Pattern). done ++ names_at_all ys (list_patterns (patterns_of qs))) (left xs i x below here) (left ps i p under there))
    ∙ before

no_more : (xs : List ℕ) (ps : List Pattern) (i : ℕ) → length xs ≤ i → names_at_all (drop i xs) (list_patterns (patterns_of (drop i ps))) ≡ []
no_more xs ps i past = at_drop_all (λ ys. names_at_all ys (list_patterns (patterns_of (drop i ps)))) xs i past

none_at_all : (xs : List ℕ) → names_at_all xs [] ≡ []
none_at_all [] = refl
none_at_all (x ∷ xs) = refl

no_further : (xs : List ℕ) (ps : List Pattern) (i : ℕ) → length ps ≤ i → names_at_all (drop i xs) (list_patterns (patterns_of (drop i ps))) ≡ []
no_further xs ps i past =
    at_drop_all (λ qs. names_at_all (drop i xs) (list_patterns (patterns_of qs))) ps i past ∙ none_at_all (drop i xs)

pub all_names : (xs : List ℕ) (ps : List Pattern) (i : ℕ) (done whole : rows.Names) → (length xs ≤ i) ⊎ (length ps ≤ i)
    → done ++ names_at_all (drop i xs) (list_patterns (patterns_of (drop i ps))) ≡ whole → done ≡ whole
all_names xs ps i done whole (inl past) before = sym (ap (λ (ns : rows.Names). done ++ ns) (no_more xs ps i past) ∙ append-nil done) ∙ before
all_names xs ps i done whole (inr past) before = sym (ap (λ (ns : rows.Names). done ++ ns) (no_further xs ps i past) ∙ append-nil done) ∙ before

pub either_ends : (a b i : ℕ) → min a b ≤ i → (a ≤ i) ⊎ (b ≤ i)
either_ends a b i past = by (cases_order a b)
  where
    by : (a ≡ b) ⊎ ((a < b) ⊎ (b < a)) → (a ≤ i) ⊎ (b ≤ i)
    by (inl same) = inl (omega arith)
    by (inr (inl less)) = inl (omega arith)
    by (inr (inr more)) = inr (omega arith)
