-- Patterns matched from the left.
use Rattle.std.proofs.Common.{◌≡◌, ◌≢◌, ℕ, Bool, true, if◌then◌else◌, subst, suc, ◌+◌, ◌<◌, ◌≤◌, List, [], ◌∷◌, ◌++◌, Option, None, Some, length, get_or, drop, option_map, append_assoc, append-nil, refl, sym, ◌∙◌, ap, ap₂, arith}
use Rattle.std.proofs.lemmas.List.{at_drop_all}
use Rattle.std.specs.declared.alloc.Global.{Global}
use Rattle.std.specs.declared.vec.Vec.{Vec}
use Rattle.cu_calculus.specs.declared.ConId.{ConId}
use Rattle.cu_calculus.specs.Term as clean
use Rattle.cu_calculus.specs.Match.{Bindings, all_matched, both, matched, same_constructor}
use Rattle.cu_calculus.specs.Value as value
use Rattle.cu_calculus.specs.Value.{Value, Values, count, list_of, values_of}
use Rattle.cu_calculus.proofs.Comparing.{same_itself}
use Rattle.cu_kernel.specs.TermsOf.{pattern_of, pattern_of-Con, patterns_of}
use Rattle.cu_kernel.specs.declared.term.Pattern.TheVariants as pattern
use Rattle.cu_kernel.specs.declared.term.Pattern.{Pattern}
use Rattle.cu_values.specs.Parts.{arguments_of, head_of}
use Rattle.cu_values.specs.declared.cell.Cell.TheVariants as cell
use Rattle.cu_crwl.proofs.Pairwise.{left}

pub values_restored : (vs : Values) → values_of (list_of vs) ≡ vs
values_restored value.NoValue = refl
values_restored (value.MoreValues v vs) = ap (value.MoreValues v) (values_restored vs)

same_place : (c d : ConId) → c.0 ≡ d.0 → c ≡ d
same_place c d e = ap (λ (n : ℕ). let place : ConId = record { 0 = n } in place) e

pub constructor_matched : (p : Pattern) (v : Value) (c d : ConId) (n : ℕ) (ps : Vec Pattern Global) (qs : List Pattern) (us : List Value)
    → p ≡ pattern.Con c ps → head_of v ≡ cell.Con d n → c.0 ≡ d.0 → qs ≡ ps.items → us ≡ list_of (arguments_of v)
    → matched (pattern_of p) v ≡ all_matched (patterns_of qs) (values_of us)
constructor_matched p (value.Constructed e vs) c d n ps qs us is head same patterns values =
    let place : c ≡ e = same_place c d same ∙ (cc) in
    ap (λ (x : Pattern). matched (pattern_of x) (value.Constructed e vs)) is
    ∙ ap (λ x. matched x (value.Constructed e vs)) (pattern_of-Con c ps)
    ∙ taken place
    ∙ ap₂ (λ (xs : List Pattern) (ys : Values). all_matched (patterns_of xs) ys) (sym patterns) (sym (ap values_of values ∙ values_restored vs))
  where
    taken : c ≡ e → matched (clean.Built c (patterns_of ps.items)) (value.Constructed e vs) ≡ all_matched (patterns_of ps.items) vs
    taken place =
        ap (λ (b : Bool). if b then all_matched (patterns_of ps.items) vs else None) (subst (λ (x : ConId). same_constructor c x ≡ true) place (same_itself c))
constructor_matched p value.Bottom c d n ps qs us is head same patterns values = let never : ⊥ = cc in absurd never
constructor_matched p (value.Variable x) c d n ps qs us is head same patterns values = let never : ⊥ = cc in absurd never
constructor_matched p (value.Literal l) c d n ps qs us is head same patterns values = let never : ⊥ = cc in absurd never
constructor_matched p (value.Partial h vs) c d n ps qs us is head same patterns values = let never : ⊥ = cc in absurd never

-- as many values as patterns
pub counts_differ : (ps : List Pattern) (vs : List Value) → length ps ≢ length vs → None ≡ all_matched (patterns_of ps) (values_of vs)
counts_differ [] [] n = absurd (n refl)
counts_differ [] (v ∷ vs) n = refl
counts_differ (p ∷ ps) [] n = refl
counts_differ (p ∷ ps) (v ∷ vs) n =
    let rest : None ≡ all_matched (patterns_of ps) (values_of vs) = counts_differ ps vs (λ e. n (ap suc e)) in
    by (matched (pattern_of p) v) ∙ ap (both (matched (pattern_of p) v)) rest
  where
    by : (found : Option Bindings) → None ≡ both found None
    by None = refl
    by (Some bindings) = refl

-- what was bound, before what is left to match
abbrev pub and_left : Bindings → List Pattern → List Value → Option Bindings
and_left bindings ps vs = option_map (λ rest. bindings ++ rest) (all_matched (patterns_of ps) (values_of vs))

next : (ps : List Pattern) (vs : List Value) (i : ℕ) (p : Pattern) (v : Value) → i < length ps → length ps ≡ length vs → p ≡ get_or ps i p → v ≡ get_or vs i v
    → all_matched (patterns_of (drop i ps)) (values_of (drop i vs)) ≡ both (matched (pattern_of p) v) (all_matched (patterns_of (drop (i + 1) ps)) (values_of (drop (i + 1) vs)))
next ps vs i p v below same at other =
    let within : i < length vs = omega arith in
    ap₂ (λ (xs : List Pattern) (ys : List Value). all_matched (patterns_of xs) (values_of ys)) (left ps i p below at) (left vs i v within other)

joined : (bindings more : Bindings) (rest : Option Bindings)
    → option_map (λ r. (bindings ++ more) ++ r) rest ≡ option_map (λ r. bindings ++ r) (both (Some more) rest)
joined bindings more None = refl
joined bindings more (Some r) = ap Some (append_assoc bindings more r)

pub match_one : (ps : List Pattern) (vs : List Value) (i : ℕ) (p : Pattern) (v : Value) → i < length ps → length ps ≡ length vs → p ≡ get_or ps i p
    → v ≡ get_or vs i v → (bindings more new : Bindings) (whole : Option Bindings) → Some more ≡ matched (pattern_of p) v → new ≡ bindings ++ more
    → and_left bindings (drop i ps) (drop i vs) ≡ whole → and_left new (drop (i + 1) ps) (drop (i + 1) vs) ≡ whole
match_one ps vs i p v below same at other bindings more new whole found is before =
    let rest = all_matched (patterns_of (drop (i + 1) ps)) (values_of (drop (i + 1) vs)) in
    ap (λ (bs : Bindings). option_map (λ r. bs ++ r) rest) is ∙ joined bindings more rest
    ∙ ap (λ (o : Option Bindings). option_map (λ r. bindings ++ r) (both o rest)) found
    ∙ sym (ap (option_map (λ r. bindings ++ r)) (next ps vs i p v below same at other)) ∙ before

pub match_none : (ps : List Pattern) (vs : List Value) (i : ℕ) (p : Pattern) (v : Value) → i < length ps → length ps ≡ length vs → p ≡ get_or ps i p
    → v ≡ get_or vs i v → (bindings : Bindings) (whole : Option Bindings) → None ≡ matched (pattern_of p) v
    → and_left bindings (drop i ps) (drop i vs) ≡ whole → None ≡ whole
match_none ps vs i p v below same at other bindings whole found before =
    let rest = all_matched (patterns_of (drop (i + 1) ps)) (values_of (drop (i + 1) vs)) in
    ap (λ (o : Option Bindings). option_map (λ r. bindings ++ r) (both o rest)) found
    ∙ sym (ap (option_map (λ r. bindings ++ r)) (next ps vs i p v below same at other)) ∙ before

pub match_end : (ps : List Pattern) (vs : List Value) (i : ℕ) → length ps ≤ i → length ps ≡ length vs → (bindings : Bindings) (whole : Option Bindings)
    → and_left bindings (drop i ps) (drop i vs) ≡ whole → Some bindings ≡ whole
match_end ps vs i past same bindings whole before =
    let beyond : length vs ≤ i = omega arith in
    sym (at_drop_all (λ xs. and_left bindings xs (drop i vs)) ps i past ∙ at_drop_all (λ ys. and_left bindings [] ys) vs i beyond
    ∙ ap Some (append-nil bindings)) ∙ before
