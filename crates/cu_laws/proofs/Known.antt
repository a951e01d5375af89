-- Values other than Bottom, and what gives them.
use Rattle.std.proofs.Common.{◌≡◌, ◌≢◌, ℕ, ◌+◌, inl, inr, Bool, true, false, ◌&&◌, List, [], ◌∷◌, None, refl, ap, sym, ◌∙◌, map, true≢false}
use Rattle.std.specs.List.{list_all}
use Rattle.std.proofs.lemmas.Bool.{and_from, and_parts}
use Rattle.cu_calculus.specs.declared.ExprId.{ExprId}
use Rattle.cu_calculus.specs.declared.FunId.{FunId}
use Rattle.cu_calculus.specs.declared.Head.{Head}
use Rattle.cu_calculus.specs.declared.Head.TheVariants as head
use Rattle.cu_calculus.specs.declared.Lit.{Lit}
use Rattle.cu_calculus.specs.declared.builtin.Primitive.{Primitive}
use Rattle.cu_calculus.specs.Below as below
use Rattle.cu_calculus.specs.Below.{Below}
use Rattle.cu_calculus.specs.Builtin as builtin
use Rattle.cu_calculus.specs.Builtin.{Answers, Compares, literals, truth_of}
use Rattle.cu_calculus.specs.Choose as choose
use Rattle.cu_calculus.specs.Choose.{Chooses, Nowhere, Row, look, rows_from}
use Rattle.cu_calculus.specs.Code as code
use Rattle.cu_calculus.specs.Code.{Branch, Code, Shallow}
use Rattle.cu_calculus.specs.Flat.{met_by}
use Rattle.cu_calculus.specs.FlatProgram.{alternatives_of, pattern_of, program_of, term_of}
use Rattle.cu_calculus.specs.Gives as gives
use Rattle.cu_calculus.specs.Gives.{Applied, AppliedTo, Claim}
use Rattle.cu_calculus.specs.Program.{Program}
use Rattle.cu_calculus.specs.Shape.{are_ground, are_total, is_data, is_total}
use Rattle.cu_calculus.specs.Term.{Term}
use Rattle.cu_calculus.specs.Value as value
use Rattle.cu_calculus.specs.Value.{Value, Values, values_of}
use Rattle.cu_laws.specs.Good.{Assignment, AtMost, Distinguished}

abbrev pub is_known : Value → Bool
is_known value.Bottom = false
is_known (value.Variable x) = true
is_known (value.Literal l) = true
is_known (value.Constructed c vs) = true
is_known (value.Partial h vs) = true

abbrev pub are_known : Values → Bool
are_known value.NoValue = true
are_known (value.MoreValues v vs) = is_known v && are_known vs

pub known_above : (u v : Value) → Below u v → is_known u ≡ true → is_known v ≡ true
known_above _ v (below.bottom _) known = absurd (true≢false (sym known))
known_above _ _ (below.variable x) known = refl
known_above _ _ (below.literal l) known = refl
known_above _ _ (below.constructed c us vs p) known = refl
known_above _ _ (below.partial h us vs p) known = refl

pub total_known : (v : Value) → is_total v ≡ true → is_known v ≡ true
total_known value.Bottom total = total
total_known (value.Variable x) total = refl
total_known (value.Literal l) total = refl
total_known (value.Constructed c vs) total = refl
total_known (value.Partial h vs) total = refl

pub known_is_not_bottom : (v : Value) → is_known v ≡ true → v ≢ value.Bottom
known_is_not_bottom v known same = true≢false (sym known ∙ ap is_known same)

pub not_bottom_known : (v : Value) → v ≢ value.Bottom → is_known v ≡ true
not_bottom_known value.Bottom other = absurd (other refl)
not_bottom_known (value.Variable x) other = refl
not_bottom_known (value.Literal l) other = refl
not_bottom_known (value.Constructed c vs) other = refl
not_bottom_known (value.Partial h vs) other = refl

-- what is known comes from what its node is worth
pub worth_of : (IsWorth : Value → Type 0) (v : Value) → is_known v ≡ true → AtMost IsWorth v → (w : Value) × IsWorth w × Below v w
worth_of IsWorth v known (inl none) = absurd (known_is_not_bottom v known none)
worth_of IsWorth v known (inr found) = found

-- ---- arguments

pub known_args : (assigned : Assignment) (args : List ℕ) → are_known (values_of (map assigned args)) ≡ true → list_all (λ x. is_known (assigned x)) args ≡ true
known_args assigned [] known = refl
known_args assigned (arg ∷ args) known =
    let parts = and_parts (is_known (assigned arg)) (are_known (values_of (map assigned args))) known in
    and_from (is_known (assigned arg)) (list_all (λ x. is_known (assigned x)) args) parts.0 (known_args assigned args parts.1)

pub total_args : (assigned : Assignment) (args : List ℕ) → are_total (values_of (map assigned args)) ≡ true → list_all (λ x. is_total (assigned x)) args ≡ true
total_args assigned [] total = refl
total_args assigned (arg ∷ args) total =
    let parts = and_parts (is_total (assigned arg)) (are_total (values_of (map assigned args))) total in
    and_from (is_total (assigned arg)) (list_all (λ x. is_total (assigned x)) args) parts.0 (total_args assigned args parts.1)

-- ---- operations

literals_known : (ls : List Lit) → are_known (literals ls) ≡ true
literals_known [] = refl
literals_known (l ∷ ls) = literals_known ls

compares_known : (u v : Value) (answer : Bool) → Compares u v answer → (is_known u ≡ true) × (is_known v ≡ true)
compares_known _ _ answer (builtin.two_literals l m _ e) = (refl, refl)
compares_known _ _ _ (builtin.literal_first l c vs) = (refl, refl)
compares_known _ _ _ (builtin.literal_second c us l) = (refl, refl)
compares_known _ _ _ (builtin.different c d us vs e) = (refl, refl)
compares_known _ _ answer (builtin.alike c us vs _ inner) = (refl, refl)

two_known : (a b : Value) → is_known a ≡ true → is_known b ≡ true → are_known (value.MoreValues a (value.MoreValues b value.NoValue)) ≡ true
two_known a b p q = and_from (is_known a) (is_known b && true) p (and_from (is_known b) true q refl)

pub answers_known : (program : Program) (operation : Primitive) (us : Values) (v : Value) → Answers program operation us v → are_known us ≡ true
answers_known program operation us v (builtin.of_literals _ ls _ _ e f) = ap are_known e ∙ literals_known ls
answers_known program _ _ v (builtin.equal a b _ answer c e) = let both = compares_known a b answer c in two_known a b both.0 both.1
answers_known program _ _ v (builtin.unified a b _ same total e) =
    let known = total_known a (and_parts (is_total a) (is_data a) total).0 in two_known a b known (ap is_known (sym same) ∙ known)
answers_known program _ _ v (builtin.conjoined a b _ f g e) = two_known a b (ap is_known f) (ap is_known g)

-- ---- heads

pub set_ground : (program : Program) (claims : List Claim) (h : Head) (us : Values) (v : Value) → Applied program claims h us v → (f : FunId) → h ≡ head.Set f
    → are_ground us ≡ true
set_ground program claims _ us _ (gives.constructed c _) f is = let no : ⊥ = cc in absurd no
set_ground program claims _ us v (gives.by_rule g function rules k rule bindings _ _ e b r m given) f is = let no : ⊥ = cc in absurd no
set_ground program claims _ us v (gives.builtin g function operation _ _ e b answers) f is = let no : ⊥ = cc in absurd no
set_ground program claims _ us v (gives.collect g claim k c _ _ ground e f' a s low) f is = ground

pub applied_known : (program : Program) (claims : List Claim) (w u v : Value) → AppliedTo program claims w u v → is_known w ≡ true
applied_known program claims _ u _ (gives.extended h us more _ m fewer) = refl
applied_known program claims _ u v (gives.completed h us all _ _ m enough app) = refl

-- ---- case distinctions

-- a value that meets no demand takes no branch
look_first : (program : Program) (p : Shallow) (choice : ℕ) (rows : List Row) (u : Value) → met_by u ≡ None
    → look program (record { patterns = pattern_of p ∷ []; choice = choice } ∷ rows) (u ∷ []) ≡ Nowhere
look_first program (code.Exactly l) choice rows value.Bottom none = refl
look_first program (code.Exactly l) choice rows (value.Variable x) none = refl
look_first program (code.Exactly l) choice rows (value.Literal m) none = let no : ⊥ = cc in absurd no
look_first program (code.Exactly l) choice rows (value.Constructed c us) none = let no : ⊥ = cc in absurd no
look_first program (code.Exactly l) choice rows (value.Partial h us) none = refl
look_first program (code.Built c xs) choice rows value.Bottom none = refl
look_first program (code.Built c xs) choice rows (value.Variable x) none = refl
look_first program (code.Built c xs) choice rows (value.Literal m) none = let no : ⊥ = cc in absurd no
look_first program (code.Built c xs) choice rows (value.Constructed d us) none = let no : ⊥ = cc in absurd no
look_first program (code.Built c xs) choice rows (value.Partial h us) none = refl

look_nowhere : (program : Program) (t : ExprId → Term) (n : ℕ) (branches : List Branch) (u : Value) → met_by u ≡ None
    → look program (rows_from n (alternatives_of t branches)) (u ∷ []) ≡ Nowhere
look_nowhere program t n [] u none = refl
look_nowhere program t n (branch ∷ branches) u none = look_first program branch.pattern n (rows_from (n + 1) (alternatives_of t branches)) u none

nowhere_chooses : (program : Program) (rows : List Row) (values : List Value) (choice : ℕ) → Chooses program rows values choice → look program rows values ≡ Nowhere → ⊥
nowhere_chooses program _ _ _ (choose.taken rows values choice e) none = cc
nowhere_chooses program _ _ _ (choose.again rows fewer values choice e rest) none = cc
nowhere_chooses program _ _ _ (choose.specialized_rows rows fewer values parts choice e rest) none = cc

pub unmet_chooses : (program : Program) (t : ExprId → Term) (branches : List Branch) (u : Value) (choice : ℕ)
    → Chooses program (rows_from 0 (alternatives_of t branches)) (u ∷ []) choice → met_by u ≡ None → ⊥
unmet_chooses program t branches u choice chooses none =
    nowhere_chooses program (rows_from 0 (alternatives_of t branches)) (u ∷ []) choice chooses (look_nowhere program t 0 branches u none)

pub distinguished_known : (program : Code) (claims : List Claim) (e : ExprId) (u : Value) (values : List Value) (v : Value) → Distinguished program claims e u values v
    → is_known u ≡ true
distinguished_known program claims e value.Bottom values v d =
    absurd (unmet_chooses (program_of program) (term_of program) d.branches value.Bottom d.selects.choice d.selects.chooses refl)
distinguished_known program claims e (value.Variable x) values v d = refl
distinguished_known program claims e (value.Literal l) values v d = refl
distinguished_known program claims e (value.Constructed c us) values v d = refl
distinguished_known program claims e (value.Partial h us) values v d = refl
