-- Patterns that match values in pairs, and what becomes of them where the arguments of what stands
-- at a position take its place.
use Rattle.std.proofs.Common.{◌≡◌, ℕ, zero, suc, ◌+◌, Bool, true, false, ◌&&◌, List, [], ◌∷◌, ◌++◌, if◌then◌else◌, length, replicate, take, drop, Option, None, Some, is_some, option_map, slice_get, refl, ap, sym, ◌∙◌, subst, arith, add-one, eqb-true}
use Rattle.std.specs.List.{list_all}
use Rattle.std.proofs.lemmas.Bool.{and_from, and_parts}
use Rattle.cu_calculus.specs.declared.ConId.{ConId}
use Rattle.cu_calculus.specs.declared.Head.TheVariants as head
use Rattle.cu_calculus.specs.declared.Lit.{Lit}
use Rattle.cu_calculus.specs.Choose.{Nothing, Row, arguments_of, demand_at, demand_of, is_demanding, leftmost, list_patterns, specialized_row, spliced}
use Rattle.cu_calculus.specs.Literal.{same_literal}
use Rattle.cu_calculus.specs.Match.{Bindings, all_matched, both, matched, same_constructor}
use Rattle.cu_calculus.specs.Program.{Program, arity_in}
use Rattle.cu_calculus.specs.Shape.{are_of, is_of, takes}
use Rattle.cu_calculus.specs.Term as term
use Rattle.cu_calculus.specs.Term.{Pattern, Patterns}
use Rattle.cu_calculus.specs.Valid.{fit_patterns, fits_pattern, pattern_count}
use Rattle.cu_calculus.specs.Value as value
use Rattle.cu_calculus.specs.Value.{Value, Values, count, list_of}
use Rattle.cu_calculus.proofs.Answering.{literal_is}
use Rattle.cu_calculus.proofs.Choosing.{literal_itself}
use Rattle.cu_calculus.proofs.Comparing.{same_is, same_itself}
use Rattle.cu_calculus.proofs.Lists.{all_append}
use Rattle.cu_calculus.proofs.Looks.{admits, parts_of}

abbrev pub does_match : Pattern → Value → Bool
does_match p v = is_some (matched p v)

abbrev pub all_match : List Pattern → List Value → Bool
all_match [] [] = true
all_match (p ∷ ps) (v ∷ vs) = does_match p v && all_match ps vs
all_match _ _ = false

literal_swapped : (l m : Lit) → same_literal l m ≡ true → same_literal m l ≡ true
literal_swapped l m e = subst (λ (x : Lit). same_literal x l ≡ true) (literal_is l m e) (literal_itself l)

constructor_swapped : (c d : ConId) → same_constructor c d ≡ true → same_constructor d c ≡ true
constructor_swapped c d e = subst (λ (x : ConId). same_constructor x c ≡ true) (same_is c d e) (same_itself c)

some_if : (b : Bool) (found : Option Bindings) → is_some (if b then found else None) ≡ true → (b ≡ true) × (is_some found ≡ true)
some_if true found e = (refl, e)
some_if false found e = let no : ⊥ = cc in absurd no

if_some : (b : Bool) (found : Option Bindings) → b ≡ true → is_some found ≡ true → is_some (if b then found else None) ≡ true
if_some true found e h = h
if_some false found e h = let no : ⊥ = cc in absurd no

some_after : (x : ℕ) (v : Value) (found : Option Bindings) → is_some (option_map (λ bindings. (x, v) ∷ bindings) found) ≡ is_some found
some_after x v None = refl
some_after x v (Some bindings) = refl

some_both : (one two : Option Bindings) → is_some (both one two) ≡ (is_some one && is_some two)
some_both None two = refl
some_both (Some one) None = refl
some_both (Some one) (Some two) = refl

pub list_match : (ps : Patterns) (vs : Values) → all_match (list_patterns ps) (list_of vs) ≡ is_some (all_matched ps vs)
list_match term.NoPattern value.NoValue = refl
list_match term.NoPattern (value.MoreValues v vs) = refl
list_match (term.MorePatterns p ps) value.NoValue = refl
list_match (term.MorePatterns p ps) (value.MoreValues v vs) =
    ap (λ b. does_match p v && b) (list_match ps vs) ∙ sym (some_both (matched p v) (all_matched ps vs))

any_match : (x : ℕ) (vs : List Value) → all_match (replicate (length vs) (term.Any x)) vs ≡ true
any_match x [] = refl
any_match x (v ∷ vs) = any_match x vs

-- what matches a value demands nothing else
pub match_admits : (p : Pattern) (v : Value) → does_match p v ≡ true → admits v (demand_of p) ≡ true
match_admits (term.Any x) v e = refl
match_admits (term.Named x p) v e = match_admits p v (sym (some_after x v (matched p v)) ∙ e)
match_admits (term.Exactly l) (value.Literal m) e = literal_swapped l m (some_if (same_literal l m) (Some []) e).0
match_admits (term.Exactly l) _ e = let no : ⊥ = cc in absurd no
match_admits (term.Built c ps) (value.Constructed d vs) e = constructor_swapped c d (some_if (same_constructor c d) (all_matched ps vs) e).0
match_admits (term.Built c ps) _ e = let no : ⊥ = cc in absurd no

-- a pattern matches a value exactly where it admits it and the patterns of its arguments match the
-- arguments
literal_arguments : (p : Pattern) (l : Lit) → does_match p (value.Literal l) ≡ true → all_match (arguments_of 0 p) [] ≡ true
literal_arguments (term.Any x) l e = refl
literal_arguments (term.Exactly m) l e = refl
literal_arguments (term.Built c ps) l e = let no : ⊥ = cc in absurd no
literal_arguments (term.Named x p) l e = literal_arguments p l (sym (some_after x (value.Literal l) (matched p (value.Literal l))) ∙ e)

built_arguments : (p : Pattern) (c : ConId) (vs : Values) → does_match p (value.Constructed c vs) ≡ true
    → all_match (arguments_of (length (list_of vs)) p) (list_of vs) ≡ true
built_arguments (term.Any x) c vs e = any_match x (list_of vs)
built_arguments (term.Exactly m) c vs e = let no : ⊥ = cc in absurd no
built_arguments (term.Built d ps) c vs e = list_match ps vs ∙ (some_if (same_constructor d c) (all_matched ps vs) e).1
built_arguments (term.Named x p) c vs e =
    built_arguments p c vs (sym (some_after x (value.Constructed c vs) (matched p (value.Constructed c vs))) ∙ e)

pub match_arguments : (p : Pattern) (v : Value) (arguments : List Value) → parts_of v ≡ Some arguments → does_match p v ≡ true
    → all_match (arguments_of (length arguments) p) arguments ≡ true
match_arguments p (value.Literal l) arguments is e =
    let none : [] ≡ arguments = cc in
    subst (λ (xs : List Value). all_match (arguments_of (length xs) p) xs ≡ true) none (literal_arguments p l e)
match_arguments p (value.Constructed c vs) arguments is e =
    let same : list_of vs ≡ arguments = cc in
    subst (λ (xs : List Value). all_match (arguments_of (length xs) p) xs ≡ true) same (built_arguments p c vs e)
match_arguments p _ arguments is e = let no : ⊥ = cc in absurd no

literal_whole : (p : Pattern) (l : Lit) → admits (value.Literal l) (demand_of p) ≡ true → does_match p (value.Literal l) ≡ true
literal_whole (term.Any x) l e = refl
literal_whole (term.Exactly m) l e = if_some (same_literal m l) (Some []) (literal_swapped l m e) refl
literal_whole (term.Built c ps) l e = let no : ⊥ = cc in absurd no
literal_whole (term.Named x p) l e = some_after x (value.Literal l) (matched p (value.Literal l)) ∙ literal_whole p l e

built_whole : (p : Pattern) (c : ConId) (vs : Values) → admits (value.Constructed c vs) (demand_of p) ≡ true
    → all_match (arguments_of (length (list_of vs)) p) (list_of vs) ≡ true → does_match p (value.Constructed c vs) ≡ true
built_whole (term.Any x) c vs e h = refl
built_whole (term.Exactly m) c vs e h = let no : ⊥ = cc in absurd no
built_whole (term.Built d ps) c vs e h =
    if_some (same_constructor d c) (all_matched ps vs) (constructor_swapped c d e) (sym (list_match ps vs) ∙ h)
built_whole (term.Named x p) c vs e h =
    some_after x (value.Constructed c vs) (matched p (value.Constructed c vs)) ∙ built_whole p c vs e h

pub arguments_match : (p : Pattern) (v : Value) (arguments : List Value) → parts_of v ≡ Some arguments → admits v (demand_of p) ≡ true
    → all_match (arguments_of (length arguments) p) arguments ≡ true → does_match p v ≡ true
arguments_match p (value.Literal l) arguments is e h = literal_whole p l e
arguments_match p (value.Constructed c vs) arguments is e h =
    let same : arguments ≡ list_of vs = cc in
    built_whole p c vs e (subst (λ (xs : List Value). all_match (arguments_of (length xs) p) xs ≡ true) same h)
arguments_match p _ arguments is e h = let no : ⊥ = cc in absurd no

-- pieces of lists that match
pub match_append : (ps qs : List Pattern) (us vs : List Value) → all_match ps us ≡ true → all_match qs vs ≡ true
    → all_match (ps ++ qs) (us ++ vs) ≡ true
match_append [] qs [] vs e h = h
match_append [] qs (u ∷ us) vs e h = let no : ⊥ = cc in absurd no
match_append (p ∷ ps) qs [] vs e h = let no : ⊥ = cc in absurd no
match_append (p ∷ ps) qs (u ∷ us) vs e h =
    let parts = and_parts (does_match p u) (all_match ps us) e in
    and_from (does_match p u) (all_match (ps ++ qs) (us ++ vs)) parts.0 (match_append ps qs us vs parts.1 h)

pub match_split : (ps qs : List Pattern) (us vs : List Value) → length ps ≡ length us → all_match (ps ++ qs) (us ++ vs) ≡ true
    → (all_match ps us ≡ true) × (all_match qs vs ≡ true)
match_split [] qs [] vs n e = (refl, e)
match_split [] qs (u ∷ us) vs n e = absurd (omega arith)
match_split (p ∷ ps) qs [] vs n e = absurd (omega arith)
match_split (p ∷ ps) qs (u ∷ us) vs n e =
    let parts = and_parts (does_match p u) (all_match (ps ++ qs) (us ++ vs)) e in
    let rest = match_split ps qs us vs (omega arith) parts.1 in
    (and_from (does_match p u) (all_match ps us) parts.0 rest.0, rest.1)

match_take : (n : ℕ) (ps : List Pattern) (vs : List Value) → all_match ps vs ≡ true → all_match (take n ps) (take n vs) ≡ true
match_take zero ps vs e = refl
match_take (suc n) [] [] e = refl
match_take (suc n) [] (v ∷ vs) e = let no : ⊥ = cc in absurd no
match_take (suc n) (p ∷ ps) [] e = let no : ⊥ = cc in absurd no
match_take (suc n) (p ∷ ps) (v ∷ vs) e =
    let parts = and_parts (does_match p v) (all_match ps vs) e in
    and_from (does_match p v) (all_match (take n ps) (take n vs)) parts.0 (match_take n ps vs parts.1)

match_drop : (n : ℕ) (ps : List Pattern) (vs : List Value) → all_match ps vs ≡ true → all_match (drop n ps) (drop n vs) ≡ true
match_drop zero ps vs e = e
match_drop (suc n) [] [] e = refl
match_drop (suc n) [] (v ∷ vs) e = let no : ⊥ = cc in absurd no
match_drop (suc n) (p ∷ ps) [] e = let no : ⊥ = cc in absurd no
match_drop (suc n) (p ∷ ps) (v ∷ vs) e = match_drop n ps vs (and_parts (does_match p v) (all_match ps vs) e).1

-- the pattern at a place matches the value there
pub record At (ps : List Pattern) (k : ℕ) (v : Value) : Type 0 where
  pub pattern : Pattern
  pub is : slice_get ps k ≡ Some pattern
  pub matches : does_match pattern v ≡ true

pub match_at : (k : ℕ) (ps : List Pattern) (vs : List Value) (v : Value) → all_match ps vs ≡ true → slice_get vs k ≡ Some v → At ps k v
match_at k [] [] v e h = let no : ⊥ = cc in absurd no
match_at k [] (u ∷ vs) v e h = let no : ⊥ = cc in absurd no
match_at k (p ∷ ps) [] v e h = let no : ⊥ = cc in absurd no
match_at zero (p ∷ ps) (u ∷ vs) v e h =
    let same : u ≡ v = cc in
    record { pattern = p; is = refl; matches = ap (does_match p) (sym same) ∙ (and_parts (does_match p u) (all_match ps vs) e).0 }
match_at (suc k) (p ∷ ps) (u ∷ vs) v e h =
    let rest = match_at k ps vs v (and_parts (does_match p u) (all_match ps vs) e).1 h in
    record { pattern = rest.pattern; is = rest.is; matches = rest.matches }

-- what matches around a place and at it matches
match_around : (k : ℕ) (ps : List Pattern) (vs : List Value) (p : Pattern) (v : Value) → slice_get ps k ≡ Some p → slice_get vs k ≡ Some v
    → does_match p v ≡ true → all_match (take k ps) (take k vs) ≡ true → all_match (drop (suc k) ps) (drop (suc k) vs) ≡ true
    → all_match ps vs ≡ true
match_around k [] vs p v at there e prefix suffix = let no : ⊥ = cc in absurd no
match_around k (q ∷ ps) [] p v at there e prefix suffix = let no : ⊥ = cc in absurd no
match_around zero (q ∷ ps) (u ∷ vs) p v at there e prefix suffix =
    let one : p ≡ q = cc in
    let two : v ≡ u = cc in
    and_from (does_match q u) (all_match ps vs) (subst (λ (x : Pattern). does_match x u ≡ true) one (subst (λ (x : Value). does_match p x ≡ true) two e)) suffix
match_around (suc k) (q ∷ ps) (u ∷ vs) p v at there e prefix suffix =
    let parts = and_parts (does_match q u) (all_match (take k ps) (take k vs)) prefix in
    and_from (does_match q u) (all_match ps vs) parts.0 (match_around k ps vs p v at there e parts.1 suffix)

same_take : (n : ℕ) (ps : List Pattern) (vs : List Value) → length ps ≡ length vs → length (take n ps) ≡ length (take n vs)
same_take zero ps vs e = refl
same_take (suc n) [] [] e = refl
same_take (suc n) [] (v ∷ vs) e = absurd (omega arith)
same_take (suc n) (p ∷ ps) [] e = absurd (omega arith)
same_take (suc n) (p ∷ ps) (v ∷ vs) e = ap suc (same_take n ps vs (omega arith))

same_drop : (n : ℕ) (ps : List Pattern) (vs : List Value) → length ps ≡ length vs → length (drop n ps) ≡ length (drop n vs)
same_drop zero ps vs e = e
same_drop (suc n) [] [] e = refl
same_drop (suc n) [] (v ∷ vs) e = absurd (omega arith)
same_drop (suc n) (p ∷ ps) [] e = absurd (omega arith)
same_drop (suc n) (p ∷ ps) (v ∷ vs) e = same_drop n ps vs (omega arith)

same_append : (ps qs : List Pattern) (us vs : List Value) → length ps ≡ length us → length qs ≡ length vs → length (ps ++ qs) ≡ length (us ++ vs)
same_append [] qs [] vs e h = h
same_append [] qs (u ∷ us) vs e h = absurd (omega arith)
same_append (p ∷ ps) qs [] vs e h = absurd (omega arith)
same_append (p ∷ ps) qs (u ∷ us) vs e h = ap suc (same_append ps qs us vs (omega arith) h)

pub same_splice : (k : ℕ) (ps others : List Pattern) (vs arguments : List Value) → length ps ≡ length vs → length others ≡ length arguments
    → length (spliced k others ps) ≡ length (spliced k arguments vs)
same_splice k ps others vs arguments e h =
    same_append (take k ps ++ others) (drop (k + 1) ps) (take k vs ++ arguments) (drop (k + 1) vs)
    (same_append (take k ps) others (take k vs) arguments (same_take k ps vs e) h) (same_drop (k + 1) ps vs e)

pub match_splice : (k : ℕ) (ps others : List Pattern) (vs arguments : List Value) → all_match ps vs ≡ true → all_match others arguments ≡ true
    → all_match (spliced k others ps) (spliced k arguments vs) ≡ true
match_splice k ps others vs arguments e h =
    match_append (take k ps ++ others) (drop (k + 1) ps) (take k vs ++ arguments) (drop (k + 1) vs)
    (match_append (take k ps) others (take k vs) arguments (match_take k ps vs e) h) (match_drop (k + 1) ps vs e)

pub match_unsplice : (k : ℕ) (ps others : List Pattern) (vs arguments : List Value) (p : Pattern) (v : Value) → length ps ≡ length vs
    → length others ≡ length arguments → slice_get ps k ≡ Some p → slice_get vs k ≡ Some v
    → (all_match others arguments ≡ true → does_match p v ≡ true) → all_match (spliced k others ps) (spliced k arguments vs) ≡ true
    → all_match ps vs ≡ true
match_unsplice k ps others vs arguments p v n m at there whole e =
    let outer =
    match_split (take k ps ++ others) (drop (k + 1) ps) (take k vs ++ arguments) (drop (k + 1) vs)
    (same_append (take k ps) others (take k vs) arguments (same_take k ps vs n) m) e in
    let inner = match_split (take k ps) others (take k vs) arguments (same_take k ps vs n) outer.0 in
    let converse : all_match (drop (suc k) ps) (drop (suc k) vs) ≡ true =
    subst (λ (x : ℕ). all_match (drop x ps) (drop x vs) ≡ true) (add-one k) outer.1 in
    match_around k ps vs p v at there (whole inner.1) inner.0 converse

-- patterns that demand nothing match
undemanding : (p : Pattern) (v : Value) → is_demanding (demand_of p) ≡ false → does_match p v ≡ true
undemanding (term.Any x) v e = refl
undemanding (term.Exactly l) v e = let no : ⊥ = cc in absurd no
undemanding (term.Built c ps) v e = let no : ⊥ = cc in absurd no
undemanding (term.Named x p) v e = some_after x v (matched p v) ∙ undemanding p v e

none_demanded : (b : Bool) (rest : Option ℕ) → (if b then Some 0 else option_map (λ k. k + 1) rest) ≡ None → (b ≡ false) × (rest ≡ None)
none_demanded true rest e = let no : ⊥ = cc in absurd no
none_demanded false None e = (refl, refl)
none_demanded false (Some k) e = let no : ⊥ = cc in absurd no

pub free_match : (ps : List Pattern) (vs : List Value) → leftmost ps ≡ None → length ps ≡ length vs → all_match ps vs ≡ true
free_match [] [] e n = refl
free_match [] (v ∷ vs) e n = absurd (omega arith)
free_match (p ∷ ps) [] e n = absurd (omega arith)
free_match (p ∷ ps) (v ∷ vs) e n =
    let parts = none_demanded (is_demanding (demand_of p)) (leftmost ps) e in
    and_from (does_match p v) (all_match ps vs) (undemanding p v parts.0) (free_match ps vs parts.1 (omega arith))

-- what a row has at a place
pub specialized_patterns : (k n : ℕ) (row : Row) (p : Pattern) → slice_get row.patterns k ≡ Some p
    → (specialized_row k n row).patterns ≡ spliced k (arguments_of n p) row.patterns
specialized_patterns k n row p e =
    ap (λ (found : Option Pattern). spliced k (elim found [ Some q ↦ arguments_of n q | None ↦ [] ]) row.patterns) e

pub demand_is : (k : ℕ) (row : Row) (p : Pattern) → slice_get row.patterns k ≡ Some p → demand_at k row ≡ demand_of p
demand_is k row p e = ap (λ (found : Option Pattern). elim found [ Some q ↦ demand_of q | None ↦ Nothing ]) e

pub also_there : (k : ℕ) (ps : List Pattern) (vs : List Value) (v : Value) → length ps ≡ length vs → slice_get vs k ≡ Some v
    → (p : Pattern) × (slice_get ps k ≡ Some p)
also_there k [] [] v n e = let no : ⊥ = cc in absurd no
also_there k [] (u ∷ vs) v n e = absurd (omega arith)
also_there k (p ∷ ps) [] v n e = absurd (omega arith)
also_there zero (p ∷ ps) (u ∷ vs) v n e = (p, refl)
also_there (suc k) (p ∷ ps) (u ∷ vs) v n e = also_there k ps vs v (omega arith) e

-- patterns and values of a program have as many arguments
list_patterns_count : (ps : Patterns) → length (list_patterns ps) ≡ pattern_count ps
list_patterns_count term.NoPattern = refl
list_patterns_count (term.MorePatterns p ps) = let rest = list_patterns_count ps in omega arith

list_of_count : (vs : Values) → length (list_of vs) ≡ count vs
list_of_count value.NoValue = refl
list_of_count (value.MoreValues v vs) = let rest = list_of_count vs in omega arith

any_count : (n x : ℕ) → length (replicate n (term.Any x)) ≡ n
any_count zero x = refl
any_count (suc n) x = ap suc (any_count n x)

takes_same : (arity : Option ℕ) (n m : ℕ) → takes arity n ≡ true → takes arity m ≡ true → n ≡ m
takes_same None n m e h = let no : ⊥ = cc in absurd no
takes_same (Some k) n m e h = let one : k ≡ n = eqb-true k n e in let two : k ≡ m = eqb-true k m h in omega arith

literal_size : (p : Pattern) (l : Lit) → admits (value.Literal l) (demand_of p) ≡ true → length (arguments_of 0 p) ≡ 0
literal_size (term.Any x) l e = refl
literal_size (term.Exactly m) l e = refl
literal_size (term.Built c ps) l e = let no : ⊥ = cc in absurd no
literal_size (term.Named x p) l e = literal_size p l e

built_size : (program : Program) (p : Pattern) (c : ConId) (vs : Values) → admits (value.Constructed c vs) (demand_of p) ≡ true
    → fits_pattern program p ≡ true → is_of program (value.Constructed c vs) ≡ true
    → length (arguments_of (length (list_of vs)) p) ≡ length (list_of vs)
built_size program (term.Any x) c vs e fits known = any_count (length (list_of vs)) x
built_size program (term.Exactly m) c vs e fits known = let no : ⊥ = cc in absurd no
built_size program (term.Named x p) c vs e fits known = built_size program p c vs e fits known
built_size program (term.Built d ps) c vs e fits known =
    let same : c ≡ d = same_is c d e in
    let arguments : takes (arity_in program (head.Con c)) (count vs) ≡ true =
    (and_parts (takes (arity_in program (head.Con c)) (count vs)) (are_of program vs) known).0 in
    let patterns : takes (arity_in program (head.Con d)) (pattern_count ps) ≡ true =
    (and_parts (takes (arity_in program (head.Con d)) (pattern_count ps)) (fit_patterns program ps) fits).0 in
    let here : takes (arity_in program (head.Con d)) (count vs) ≡ true =
    subst (λ (x : ConId). takes (arity_in program (head.Con x)) (count vs) ≡ true) same arguments in
    let counts = takes_same (arity_in program (head.Con d)) (pattern_count ps) (count vs) patterns here in
    omega (arith, list_patterns_count ps, list_of_count vs)

pub arguments_size : (program : Program) (p : Pattern) (v : Value) (arguments : List Value) → parts_of v ≡ Some arguments
    → admits v (demand_of p) ≡ true → fits_pattern program p ≡ true → is_of program v ≡ true
    → length (arguments_of (length arguments) p) ≡ length arguments
arguments_size program p (value.Literal l) arguments is e fits known =
    let none : [] ≡ arguments = cc in
    subst (λ (xs : List Value). length (arguments_of (length xs) p) ≡ length xs) none (literal_size p l e)
arguments_size program p (value.Constructed c vs) arguments is e fits known =
    let same : list_of vs ≡ arguments = cc in
    subst (λ (xs : List Value). length (arguments_of (length xs) p) ≡ length xs) same (built_size program p c vs e fits known)
arguments_size program p _ arguments is e fits known = let no : ⊥ = cc in absurd no

any_fit : (program : Program) (n x : ℕ) → list_all (fits_pattern program) (replicate n (term.Any x)) ≡ true
any_fit program zero x = refl
any_fit program (suc n) x = any_fit program n x

list_fit : (program : Program) (ps : Patterns) → fit_patterns program ps ≡ true → list_all (fits_pattern program) (list_patterns ps) ≡ true
list_fit program term.NoPattern e = refl
list_fit program (term.MorePatterns p ps) e =
    let parts = and_parts (fits_pattern program p) (fit_patterns program ps) e in
    and_from (fits_pattern program p) (list_all (fits_pattern program) (list_patterns ps)) parts.0 (list_fit program ps parts.1)

pub arguments_fit : (program : Program) (n : ℕ) (p : Pattern) → fits_pattern program p ≡ true
    → list_all (fits_pattern program) (arguments_of n p) ≡ true
arguments_fit program n (term.Any x) e = any_fit program n x
arguments_fit program n (term.Exactly l) e = refl
arguments_fit program n (term.Built c ps) e =
    list_fit program ps (and_parts (takes (arity_in program (head.Con c)) (pattern_count ps)) (fit_patterns program ps) e).1
arguments_fit program n (term.Named x p) e = arguments_fit program n p e

list_is_of : (program : Program) (vs : Values) → are_of program vs ≡ true → list_all (is_of program) (list_of vs) ≡ true
list_is_of program value.NoValue e = refl
list_is_of program (value.MoreValues v vs) e =
    let parts = and_parts (is_of program v) (are_of program vs) e in
    and_from (is_of program v) (list_all (is_of program) (list_of vs)) parts.0 (list_is_of program vs parts.1)

pub parts_are_of : (program : Program) (v : Value) (arguments : List Value) → parts_of v ≡ Some arguments → is_of program v ≡ true
    → list_all (is_of program) arguments ≡ true
parts_are_of program (value.Literal l) arguments is e =
    let none : [] ≡ arguments = cc in subst (λ (xs : List Value). list_all (is_of program) xs ≡ true) none refl
parts_are_of program (value.Constructed c vs) arguments is e =
    let same : list_of vs ≡ arguments = cc in
    subst (λ (xs : List Value). list_all (is_of program) xs ≡ true) same
    (list_is_of program vs (and_parts (takes (arity_in program (head.Con c)) (count vs)) (are_of program vs) e).1)
parts_are_of program _ arguments is e = let no : ⊥ = cc in absurd no

all_take : {A : Type 0} (test : A → Bool) (n : ℕ) (xs : List A) → list_all test xs ≡ true → list_all test (take n xs) ≡ true
all_take test zero xs e = refl
all_take test (suc n) [] e = refl
all_take test (suc n) (x ∷ xs) e =
    let parts = and_parts (test x) (list_all test xs) e in and_from (test x) (list_all test (take n xs)) parts.0 (all_take test n xs parts.1)

all_drop : {A : Type 0} (test : A → Bool) (n : ℕ) (xs : List A) → list_all test xs ≡ true → list_all test (drop n xs) ≡ true
all_drop test zero xs e = e
all_drop test (suc n) [] e = refl
all_drop test (suc n) (x ∷ xs) e = all_drop test n xs (and_parts (test x) (list_all test xs) e).1

pub all_splice : {A : Type 0} (test : A → Bool) (k : ℕ) (arguments xs : List A) → list_all test arguments ≡ true → list_all test xs ≡ true
    → list_all test (spliced k arguments xs) ≡ true
all_splice test k arguments xs e h =
    all_append test (take k xs ++ arguments) (drop (k + 1) xs) (all_append test (take k xs) arguments (all_take test k xs h) e)
    (all_drop test (k + 1) xs h)
