-- The rows of the table over what the checker found.
use Rattle.std.proofs.Common.{◌≡◌, ℕ, zero, suc, ◌<◌, ◌≤◌, List, [], ◌∷◌, ◌++◌, None, Some, length, get_or, arith, refl, ap, ap₂, sym, ◌∙◌}
use Rattle.cu_calculus.specs.declared.Head.{Head}
use Rattle.cu_calculus.specs.Choose.{alternative_at}
use Rattle.cu_calculus.specs.Gives.{Claim}
use Rattle.cu_calculus.specs.Program.{Program}
use Rattle.cu_calculus.specs.Proof.{Statement}
use Rattle.cu_calculus.specs.Valid.{term_count}
use Rattle.cu_calculus.specs.Value as value
use Rattle.cu_calculus.specs.Value.{Value, Values, and_then, count, list_of, values_of}
use Rattle.cu_kernel.specs.TermsOf.{alternatives_of, pattern_of, term_of, terms_of}
use Rattle.cu_kernel.specs.declared.term.Pattern.{Pattern}
use Rattle.cu_kernel.specs.declared.term.Term.{Term}
use Rattle.cu_values.specs.Parts.{arguments_of, head_of}
use Rattle.cu_values.specs.declared.cell.Cell.TheVariants as cell
use Rattle.cu_crwl.specs.Table.{application_gives, applied_to}
use Rattle.cu_crwl.proofs.MatchLoops.{values_restored}

pub count_is : (vs : List Value) → count (values_of vs) ≡ length vs
count_is [] = refl
count_is (v ∷ vs) = omega (arith, count_is vs)

pub one_more : (vs : List Value) (u : Value) → values_of (vs ++ u ∷ []) ≡ and_then (values_of vs) u
one_more [] u = refl
one_more (v ∷ vs) u = ap (value.MoreValues v) (one_more vs u)

pub application_form : (program : Program) (claims : List Claim) (f u v : Value) (h : Head) (n : ℕ) (args new : List Value) (last : List Statement)
    → cell.Part h n ≡ head_of f → args ≡ list_of (arguments_of f) → new ≡ args ++ u ∷ []
    → application_gives program claims f u last v ≡ applied_to program claims h (values_of new) last v
application_form program claims (value.Partial k us) u v h n args new last head arguments added =
    let same : k ≡ h = cc in
    let values : values_of new ≡ and_then us u =
    ap values_of added ∙ one_more args u ∙ ap (λ (xs : Values). and_then xs u) (ap values_of arguments ∙ values_restored us) in
    ap₂ (λ (x : Head) (ys : Values). applied_to program claims x ys last v) same (sym values)
application_form program claims value.Bottom u v h n args new last head arguments added = let never : ⊥ = cc in absurd never
application_form program claims (value.Variable x) u v h n args new last head arguments added = let never : ⊥ = cc in absurd never
application_form program claims (value.Literal l) u v h n args new last head arguments added = let never : ⊥ = cc in absurd never
application_form program claims (value.Constructed c us) u v h n args new last head arguments added = let never : ⊥ = cc in absurd never

pub alternative_past : (rows : List (Pattern × Term)) (k : ℕ) → length rows ≤ k → None ≡ alternative_at (alternatives_of rows) k
alternative_past [] k past = refl
alternative_past (row ∷ rows) zero past = absurd (omega arith)
alternative_past (row ∷ rows) (suc k) past = alternative_past rows k (omega arith)

pub alternative_here : (rows : List (Pattern × Term)) (k : ℕ) (row : Pattern × Term) → k < length rows → row ≡ get_or rows k row
    → Some (pattern_of row.0, term_of row.1) ≡ alternative_at (alternatives_of rows) k
alternative_here [] k row below is = absurd (omega arith)
alternative_here (r ∷ rows) zero row below is = ap (λ (x : Pattern × Term). Some (pattern_of x.0, term_of x.1)) is
alternative_here (r ∷ rows) (suc k) row below is = alternative_here rows k row (omega arith) is

pub term_counts : (ts : List Term) → term_count (terms_of ts) ≡ length ts
term_counts [] = refl
term_counts (t ∷ ts) = omega (arith, term_counts ts)
