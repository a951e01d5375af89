-- Two proofs that are put one after the other are a proof.
use Rattle.std.proofs.Common.{◌≡◌, ◌≢◌, ℕ, ◌+◌, List, [], ◌∷◌, ◌++◌, length, map, slice_get, Some, IsTrue, refl, ap, sym, ◌∙◌, subst, append_assoc, append-nil}
use Rattle.std.specs.List.{list_all}
use Rattle.std.proofs.lemmas.Bool.{and_from, and_parts}
use Rattle.std.proofs.lemmas.List.{length-map, map-append}
use Rattle.cu_calculus.specs.Gives.{Claim}
use Rattle.cu_calculus.specs.Joined.{joined, moved}
use Rattle.cu_calculus.specs.Program.{Program}
use Rattle.cu_calculus.specs.Proof as proof
use Rattle.cu_calculus.specs.Proof.{AllFollow, Checks, Cites, Statement, Step, conclusion, is_statement_of, statements}
use Rattle.cu_calculus.proofs.Lists.{all_append, get_suffix, get_prefix, get_map}

-- moving steps leaves their statements
pub moved_statements : (n : ℕ) (steps : List Step) → statements (map (moved n) steps) ≡ statements steps
moved_statements n [] = refl
moved_statements n (step ∷ steps) = ap (λ ss. step.statement ∷ ss) (moved_statements n steps)

pub joined_statements : (first second : List Step) → statements (joined first second) ≡ statements first ++ statements second
joined_statements first second =
    map-append (λ step. step.statement) first (map (moved (length first)) second)
    ∙ ap (λ ss. statements first ++ ss) (moved_statements (length first) second)

-- what is cited stands as many places further on when others precede
pub cites_after : (others before : List Statement) (ks : List ℕ) (cited : List Statement) → Cites before ks cited
    → Cites (others ++ before) (map (λ k. length others + k) ks) cited
cites_after others before [] [] h = tt
cites_after others before [] (s ∷ ss) h = absurd h
cites_after others before (k ∷ ks) [] h = absurd h
cites_after others before (k ∷ ks) (s ∷ ss) h = (get_suffix others before k ∙ h.0, cites_after others before ks ss h.1)

-- and stands where it did when others follow
pub cites_prefix : (before others : List Statement) (ks : List ℕ) (cited : List Statement) → Cites before ks cited → Cites (before ++ others) ks cited
cites_prefix before others [] [] h = tt
cites_prefix before others [] (s ∷ ss) h = absurd h
cites_prefix before others (k ∷ ks) [] h = absurd h
cites_prefix before others (k ∷ ks) (s ∷ ss) h = (get_prefix before others k s h.0, cites_prefix before others ks ss h.1)

pub joined_more : (first before : List Step) (step : Step)
    → joined first (before ++ step ∷ []) ≡ joined first before ++ moved (length first) step ∷ []
joined_more first before step =
    ap (λ steps. first ++ steps) (map-append (moved (length first)) before (step ∷ []))
    ∙ sym (append_assoc first (map (moved (length first)) before) (moved (length first) step ∷ []))

pub follow_joined : (program : Program) (claims : List Claim) (first second : List Step) → AllFollow program claims first
    → AllFollow program claims second → AllFollow program claims (joined first second)
follow_joined program claims first _ one proof.nothing = subst (λ (x : List Step). AllFollow program claims x) (sym (append-nil first)) one
follow_joined program claims first _ one (proof.followed before after cited step rest cites follows e) =
    let places : length (statements first) ≡ length first = length-map first (λ s. s.statement) in
    let there : Cites (statements first ++ statements before) (map (λ k. length (statements first) + k) step.cites) cited =
    cites_after (statements first) (statements before) step.cites cited cites in
    let moved_there : Cites (statements (joined first before)) (map (λ k. length first + k) step.cites) cited =
    subst (λ (x : List Statement). Cites x (map (λ k. length first + k) step.cites) cited) (sym (joined_statements first before))
    (subst (λ (n : ℕ). Cites (statements first ++ statements before) (map (λ k. n + k) step.cites) cited) places there) in
    proof.followed (joined first before) (joined first after) cited (moved (length first) step) (follow_joined program claims first before one rest)
    moved_there follows (ap (joined first) e ∙ joined_more first before step)

pub speak_moved : (program : Program) (n : ℕ) (steps : List Step) → IsTrue (list_all (λ step. is_statement_of program step.statement) steps)
    → IsTrue (list_all (λ step. is_statement_of program step.statement) (map (moved n) steps))
speak_moved program n [] h = refl
speak_moved program n (step ∷ steps) h =
    let parts = and_parts (is_statement_of program step.statement) (list_all (λ s. is_statement_of program s.statement) steps) h in
    and_from (is_statement_of program step.statement) (list_all (λ s. is_statement_of program s.statement) (map (moved n) steps))
    parts.0 (speak_moved program n steps parts.1)

pub begun_joined : (first second : List Step) → first ≢ [] → joined first second ≢ []
begun_joined [] second h e = h refl
begun_joined (step ∷ steps) second h e = let no : ⊥ = cc in absurd no

pub checks_joined : (program : Program) (claims : List Claim) (first second : List Step) → Checks program claims first → Checks program claims second
    → Checks program claims (joined first second)
checks_joined program claims first second one two = record {
  begun = begun_joined first second one.begun;
  speaks =
      all_append (λ step. is_statement_of program step.statement) first (map (moved (length first)) second) one.speaks
      (speak_moved program (length first) second two.speaks);
  claimed = one.claimed;
  follows = follow_joined program claims first second one.follows two.follows;
}

-- the conclusion of steps, when others precede
pub conclusion_after : (first second : List Step) → second ≢ [] → conclusion (first ++ second) ≡ conclusion second
conclusion_after [] second h = refl
conclusion_after (step ∷ []) [] h = absurd (h refl)
conclusion_after (step ∷ []) (next ∷ steps) h = refl
conclusion_after (step ∷ other ∷ first) second h = conclusion_after (other ∷ first) second h

pub conclusion_moved : (n : ℕ) (steps : List Step) → conclusion (map (moved n) steps) ≡ conclusion steps
conclusion_moved n [] = refl
conclusion_moved n (step ∷ []) = refl
conclusion_moved n (step ∷ next ∷ steps) = conclusion_moved n (next ∷ steps)

pub moved_some : (n : ℕ) (steps : List Step) → steps ≢ [] → map (moved n) steps ≢ []
moved_some n [] h e = h refl
moved_some n (step ∷ steps) h e = let no : ⊥ = cc in absurd no

pub conclusion_joined : (first second : List Step) → second ≢ [] → conclusion (joined first second) ≡ conclusion second
conclusion_joined first second h =
    conclusion_after first (map (moved (length first)) second) (moved_some (length first) second h) ∙ conclusion_moved (length first) second

pub keeps_first : (first second : List Step) (k : ℕ) (step : Step) → slice_get first k ≡ Some step → slice_get (joined first second) k ≡ Some step
keeps_first first second k step h = get_prefix first (map (moved (length first)) second) k step h

pub keeps_second : (first second : List Step) (k : ℕ) (step : Step) → slice_get second k ≡ Some step
    → slice_get (joined first second) (length first + k) ≡ Some (moved (length first) step)
keeps_second first second k step h =
    get_suffix first (map (moved (length first)) second) k ∙ get_map (moved (length first)) second k step h
