-- From values of a valid program a derivation over claims of it gives values of it.
use Rattle.std.proofs.Common.{◌≡◌, ℕ, ◌+◌, ◌&&◌, List, Some, IsTrue, is_some, slice_get, refl, ap, sym, subst}
use Rattle.std.specs.List.{list_all}
use Rattle.std.proofs.lemmas.Bool.{and_from, and_parts}
use Rattle.cu_calculus.specs.declared.Head.{Head}
use Rattle.cu_calculus.specs.declared.Head.TheVariants as head
use Rattle.cu_calculus.specs.Gives as gives
use Rattle.cu_calculus.specs.Gives.{AllGive, Applied, AppliedTo, Claim, Gives, collected}
use Rattle.cu_calculus.specs.Match.{Environment, bind, bind_all, empty}
use Rattle.cu_calculus.specs.Program.{Program, arity_in, function_of}
use Rattle.cu_calculus.specs.Proof.{is_claim_of}
use Rattle.cu_calculus.specs.Shape.{are_of, is_allowed, is_of, takes, takes_more}
use Rattle.cu_calculus.specs.Term as term
use Rattle.cu_calculus.specs.Term.{Term, Terms}
use Rattle.cu_calculus.specs.Valid.{IsValid, also, fit_alternatives, fit_terms, fits_term, term_count}
use Rattle.cu_calculus.specs.Value as value
use Rattle.cu_calculus.specs.Value.{Value, Values, and_then, count}
use Rattle.cu_calculus.proofs.Fitting.{any, fits_alternative, fits_any, fits_bound, fits_rule_body}
use Rattle.cu_calculus.proofs.Lists.{passed_at}
use Rattle.cu_calculus.proofs.OfProgram.{EnvOf, all_matched_of, and_then_of, answers_of, below_of, bind_all_of, bind_of, collected_of, matched_of}

-- the arguments of a whole call or a partial application that fits
pub fits_whole : (program : Program) (h : Head) (ts : Terms) → IsTrue (fits_term program any (term.Whole h ts))
    → IsTrue (takes (arity_in program h) (term_count ts)) × IsTrue (fit_terms program any ts)
fits_whole program h ts f =
    let parts = and_parts (is_allowed program h && takes (arity_in program h) (term_count ts)) (fit_terms program any ts) f in
    ((and_parts (is_allowed program h) (takes (arity_in program h) (term_count ts)) parts.0).1, parts.1)

pub fits_part : (program : Program) (h : Head) (ts : Terms) → IsTrue (fits_term program any (term.Part h ts))
    → IsTrue (is_allowed program h && takes_more (arity_in program h) (term_count ts)) × IsTrue (fit_terms program any ts)
fits_part program h ts f = and_parts (is_allowed program h && takes_more (arity_in program h) (term_count ts)) (fit_terms program any ts) f

-- terms have as many values
pub give_count : (program : Program) (claims : List Claim) (env : Environment) (ts : Terms) (us : Values) → AllGive program claims env ts us
    → term_count ts ≡ count us
give_count program claims env _ _ (gives.none _) = refl
give_count program claims env _ _ (gives.more _ t ts v vs p ps) = ap (λ n. n + 1) (give_count program claims env ts vs ps)

-- values and one more
pub more_of : (program : Program) (us more : Values) (u : Value) → IsTrue (are_of program us) → IsTrue (is_of program u) → more ≡ and_then us u
    → IsTrue (are_of program more)
more_of program us more u p q m = subst (λ (x : Values). IsTrue (are_of program x)) (sym m) (and_then_of program us u p q)

-- what a partial application of a program is
pub partial_of : (program : Program) (h : Head) (us : Values) → IsTrue (is_of program (value.Partial h us)) → IsTrue (are_of program us)
partial_of program h us k = (and_parts (is_allowed program h && takes_more (arity_in program h) (count us)) (are_of program us) k).1

-- one argument more, where others are missing still
pub extended_of : (program : Program) (h : Head) (us more : Values) (u : Value) → IsTrue (is_of program (value.Partial h us))
    → IsTrue (is_of program u) → more ≡ and_then us u → IsTrue (takes_more (arity_in program h) (count more))
    → IsTrue (is_of program (value.Partial h more))
extended_of program h us more u p q m l =
    let whole = and_parts (is_allowed program h && takes_more (arity_in program h) (count us)) (are_of program us) p in
    let allowed = (and_parts (is_allowed program h) (takes_more (arity_in program h) (count us)) whole.0).0 in
    and_from (is_allowed program h && takes_more (arity_in program h) (count more)) (are_of program more)
    (and_from (is_allowed program h) (takes_more (arity_in program h) (count more)) allowed l) (more_of program us more u whole.1 q m)

-- the values of a claim of a program
pub claim_values_of : (program : Program) (claims : List Claim) (k : ℕ) (claim : Claim) → IsTrue (list_all (is_claim_of program) claims)
    → slice_get claims k ≡ Some claim → IsTrue (list_all (is_of program) claim.values)
claim_values_of program claims k claim claimed e =
    let one : IsTrue (is_claim_of program claim) = passed_at (is_claim_of program) claims k claim claimed e in
    (and_parts (is_some (function_of program claim.function) && are_of program claim.arguments) (list_all (is_of program) claim.values) one).1

module _ (program : Program) (claims : List Claim) (valid : IsValid program) (claimed : IsTrue (list_all (is_claim_of program) claims)) where
  mutual
    pub gives_of : (env : Environment) (t : Term) (v : Value) → Gives program claims env t v → EnvOf program env
        → IsTrue (fits_term program any t) → IsTrue (is_of program v)
    gives_of env _ _ (gives.bottom _ t) known fits = refl
    gives_of env _ _ (gives.variable _ x v p) known fits = below_of program v (env x) p (known x)
    gives_of env _ _ (gives.literal _ l) known fits = fits
    gives_of env _ _ (gives.whole _ h ts us v ps app) known fits =
        let parts = fits_whole program h ts fits in
        let whole : IsTrue (takes (arity_in program h) (count us)) =
        subst (λ (n : ℕ). IsTrue (takes (arity_in program h) n)) (give_count program claims env ts us ps) parts.0 in
        applied_of h us v app whole (all_give_of env ts us ps known parts.1)
    gives_of env _ _ (gives.part _ h ts us ps) known fits =
        let parts = fits_part program h ts fits in
        let fewer : IsTrue (is_allowed program h && takes_more (arity_in program h) (count us)) =
        subst (λ (n : ℕ). IsTrue (is_allowed program h && takes_more (arity_in program h) n)) (give_count program claims env ts us ps) parts.0 in
        and_from (is_allowed program h && takes_more (arity_in program h) (count us)) (are_of program us) fewer (all_give_of env ts us ps known parts.1)
    gives_of env _ _ (gives.applied _ f a w u v p q app) known fits =
        let parts = and_parts (fits_term program any f) (fits_term program any a) fits in
        applied_to_of w u v app (gives_of env f w p known parts.0) (gives_of env a u q known parts.1)
    gives_of env _ _ (gives.bound _ x a b u v p q) known fits =
        let parts = fits_bound program x a b fits in
        gives_of (bind env x u) b v q (bind_of program env x u known (gives_of env a u p known parts.0)) parts.1
    gives_of env _ _ (gives.free _ x t u v total of_program p) known fits =
        gives_of (bind env x u) t v p (bind_of program env x u known of_program) (fits_any program (also x any) t fits)
    gives_of env _ _ (gives.left _ a b v p) known fits =
        gives_of env a v p known (and_parts (fits_term program any a) (fits_term program any b) fits).0
    gives_of env _ _ (gives.right _ a b v p) known fits =
        gives_of env b v p known (and_parts (fits_term program any a) (fits_term program any b) fits).1
    gives_of env _ _ (gives.chosen _ mode a t alternatives bindings u v p selects q) known fits =
        let parts = and_parts (fits_term program any a) (fit_alternatives program any alternatives) fits in
        gives_of (bind_all env bindings) t v q
        (bind_all_of program env bindings known (matched_of program selects.pattern u bindings selects.matches (gives_of env a u p known parts.0)))
        (fits_alternative program alternatives selects.choice selects.pattern t parts.1 selects.at)

    pub all_give_of : (env : Environment) (ts : Terms) (vs : Values) → AllGive program claims env ts vs → EnvOf program env
        → IsTrue (fit_terms program any ts) → IsTrue (are_of program vs)
    all_give_of env _ _ (gives.none _) known fits = refl
    all_give_of env _ _ (gives.more _ t ts v vs p ps) known fits =
        let parts = and_parts (fits_term program any t) (fit_terms program any ts) fits in
        and_from (is_of program v) (are_of program vs) (gives_of env t v p known parts.0) (all_give_of env ts vs ps known parts.1)

    pub applied_of : (h : Head) (us : Values) (v : Value) → Applied program claims h us v → IsTrue (takes (arity_in program h) (count us))
        → IsTrue (are_of program us) → IsTrue (is_of program v)
    applied_of _ us _ (gives.constructed c _) whole arguments =
        and_from (takes (arity_in program (head.Con c)) (count us)) (are_of program us) whole arguments
    applied_of _ us _ (gives.by_rule f function rules k rule bindings _ v e b r m p) whole arguments =
        gives_of (bind_all empty bindings) rule.body v p
        (bind_all_of program empty bindings (λ x. refl) (all_matched_of program rule.params us bindings m arguments))
        (fits_rule_body program f function rules k rule valid e b r)
    applied_of _ us _ (gives.builtin f function operation _ v e b answers) whole arguments =
        answers_of program valid.special operation us v answers arguments
    applied_of _ us _ (gives.collect f claim k c _ v ground e f' a s p) whole arguments =
        below_of program v (collected program c claim.values) p
        (collected_of program valid.special c claim.values s (claim_values_of program claims k claim claimed e))

    pub applied_to_of : (w u v : Value) → AppliedTo program claims w u v → IsTrue (is_of program w) → IsTrue (is_of program u)
        → IsTrue (is_of program v)
    applied_to_of _ u _ (gives.extended h us more _ m l) function argument = extended_of program h us more u function argument m l
    applied_to_of _ u _ (gives.completed h us all _ v m l app) function argument =
        applied_of h all v app l (more_of program us all u (partial_of program h us function) argument m)
