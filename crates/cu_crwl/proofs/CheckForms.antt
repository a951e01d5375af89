-- Steps, citations and the whole check, over what the checker found.
use Rattle.std.proofs.Common.{◌≡◌, ◌≢◌, ◌↔◌, ℕ, zero, suc, ◌+◌, ◌-◌, ◌<◌, ◌≤◌, Bool, true, false, ◌&&◌, List, [], ◌∷◌, ◌++◌, Option, None, Some, Result, Ok, Err, IfOk, IsTrue, length, get_or, take, drop, drop-cons, add-one, option_map, slice_get, map, append_assoc, arith, refl, ap, ap₂, sym, ◌∙◌}
use Rattle.std.proofs.lemmas.List.{drop-map, length-map, map-append, take-map}
use Rattle.std.proofs.lemmas.Option.{slice_get-map, slice_get_past, slice_get_read}
use Rattle.std.specs.List.{list_all}
use Rattle.std.specs.declared.alloc.AllocError.{AllocError}
use Rattle.std.specs.declared.alloc.Global.{Global}
use Rattle.std.specs.declared.vec.Vec.{Vec}
use denote.Ref.{Bor}
use Rattle.cu_calculus.specs.declared.Head.{Head}
use Rattle.cu_calculus.specs.Gives as calculus
use Rattle.cu_calculus.specs.Match.{Bindings}
use Rattle.cu_calculus.specs.Program.{Program}
use Rattle.cu_calculus.specs.Proof as clean
use Rattle.cu_calculus.specs.Proof.{Checks, is_claim_of, is_statement_of, statements}
use Rattle.cu_calculus.specs.Term as clean_term
use Rattle.cu_calculus.specs.Valid.{term_count}
use Rattle.cu_calculus.specs.Value.{Value}
use Rattle.cu_kernel.specs.TermsOf.{term_of, term_of-Whole, terms_of}
use Rattle.cu_kernel.specs.declared.term.Term.TheVariants as term
use Rattle.cu_kernel.specs.declared.term.Term.{Term}
use Rattle.cu_crwl.specs.Environments.{all_about, is_about, values_said}
use Rattle.cu_crwl.specs.Meaning.{claim_of, statement_of, statements_at, step_of}
use Rattle.cu_crwl.specs.Steps.{all_follow, cited_by, with_cited}
use Rattle.cu_crwl.specs.Table.{applies, row_follows, whole_follows}
use Rattle.cu_crwl.specs.declared.claim.Claim.{Claim}
use Rattle.cu_crwl.specs.declared.claim.Statement.{Statement}
use Rattle.cu_crwl.specs.declared.claim.Step.{Step}
use Rattle.cu_crwl.proofs.FollowForms.{term_counts}
use Rattle.cu_crwl.proofs.StepLaws.{all_follow_from, all_to}

-- citations

cited_at : (before : List Step) (k : ℕ) → slice_get (statements (map step_of before)) k ≡ option_map (λ (s : Step). statement_of s.statement) (slice_get before k)
cited_at before k =
    slice_get-map (λ (s : clean.Step). s.statement) (map step_of before) k
    ∙ ap (option_map (λ (s : clean.Step). s.statement)) (slice_get-map step_of before k) ∙ by (slice_get before k)
  where
    by : (found : Option Step) → option_map (λ (s : clean.Step). s.statement) (option_map step_of found) ≡ option_map (λ (s : Step). statement_of s.statement) found
    by None = refl
    by (Some s) = refl

left : (cites : List ℕ) (i : ℕ) → i < length cites → drop i cites ≡ get_or cites i 0 ∷ drop (i + 1) cites
left cites i below = rw add-one (drop-cons cites i 0 below)

abbrev pub and_cited : List clean.Statement → List Step → List ℕ → Option (List clean.Statement)
and_cited found before cites = option_map (λ rest. found ++ rest) (cited_by (statements (map step_of before)) cites)

pub cited_past : (before : List Step) (cites : List ℕ) (i : ℕ) (found : List clean.Statement) (whole : Option (List clean.Statement)) → i < length cites
    → length before ≤ get_or cites i 0 → and_cited found before (drop i cites) ≡ whole → None ≡ whole
cited_past before cites i found whole below past so_far =
    let k = get_or cites i 0 in
    let rest = cited_by (statements (map step_of before)) (drop (i + 1) cites) in
    let missing : slice_get (statements (map step_of before)) k ≡ None =
    cited_at before k ∙ ap (option_map (λ (s : Step). statement_of s.statement)) (slice_get_past before k past) in
    sym (ap (and_cited found before) (left cites i below)
    ∙ ap (λ (o : Option clean.Statement). option_map (λ r. found ++ r) (with_cited o rest)) missing) ∙ so_far

joined : (found : List clean.Statement) (s : clean.Statement) (rest : Option (List clean.Statement))
    → option_map (λ r. (found ++ s ∷ []) ++ r) rest ≡ option_map (λ r. found ++ r) (with_cited (Some s) rest)
joined found s None = refl
joined found s (Some r) = ap Some (append_assoc found (s ∷ []) r)

pub cited_one : (before : List Step) (cites : List ℕ) (i : ℕ) (found new : List (Bor Statement)) (step : Step) (r : Bor Statement)
    (whole : Option (List clean.Statement)) → i < length cites → get_or cites i 0 < length before → step ≡ get_or before (get_or cites i 0) step
    → r.now ≡ step.statement → new ≡ found ++ r ∷ [] → and_cited (statements_at found) before (drop i cites) ≡ whole
    → and_cited (statements_at new) before (drop (i + 1) cites) ≡ whole
cited_one before cites i found new step r whole below within is now added so_far =
    let k = get_or cites i 0 in
    let at = λ (s : Bor Statement). statement_of s.now in
    let rest = cited_by (statements (map step_of before)) (drop (i + 1) cites) in
    let there : slice_get (statements (map step_of before)) k ≡ Some (statement_of step.statement) =
    cited_at before k ∙ ap (option_map (λ (s : Step). statement_of s.statement)) (slice_get_read before (length before) k step refl within is) in
    let all : statements_at new ≡ statements_at found ++ statement_of step.statement ∷ [] =
    ap statements_at added ∙ map-append at found (r ∷ []) ∙ ap (λ s. statements_at found ++ statement_of s ∷ []) now in
    ap (λ ss. option_map (λ r. ss ++ r) rest) all ∙ joined (statements_at found) (statement_of step.statement) rest
    ∙ sym (ap (and_cited (statements_at found) before) (left cites i below)
    ∙ ap (λ (o : Option clean.Statement). option_map (λ r. statements_at found ++ r) (with_cited o rest)) there) ∙ so_far

-- a head with all its arguments

and_false : (b : Bool) → (b && false) ≡ false
and_false true = refl
and_false false = refl

short_about : (ss : List clean.Statement) (env : Bindings) (ts : clean_term.Terms) → length ss < term_count ts → all_about ss env ts ≡ false
short_about [] env clean_term.NoTerm h = absurd (omega arith)
short_about [] env (clean_term.MoreTerms t ts) h = refl
short_about (s ∷ ss) env clean_term.NoTerm h = absurd (omega arith)
short_about (s ∷ ss) env (clean_term.MoreTerms t ts) h =
    ap (λ b. is_about s [] env t && b) (short_about ss env ts (omega arith)) ∙ and_false (is_about s [] env t)

taken : {A : Type 0} (n : ℕ) (xs : List A) → length (take n xs) ≤ length xs
taken zero xs = omega arith
taken (suc n) [] = omega arith
taken (suc n) (x ∷ xs) = omega (arith, taken n xs)

whole_row : (program : Program) (claims : List calculus.Claim) (cited : List clean.Statement) (env : Bindings) (h : Head) (ts : Vec Term Global) (t : Term) (v : Value)
    → t ≡ term.Whole h ts → row_follows program claims cited env (term_of t) v
    ≡ whole_follows program claims (take (term_count (terms_of ts.items)) cited) (drop (term_count (terms_of ts.items)) cited) env h (terms_of ts.items) v
unfolding row_follows
whole_row program claims cited env h ts t v is =
    ap (λ (x : clean_term.Term). row_follows program claims cited env x v) (ap term_of is ∙ term_of-Whole h ts)

pub whole_short : (program : Program) (claims : List calculus.Claim) (cited : List (Bor Statement)) (env : Bindings) (h : Head) (ts : Vec Term Global) (t : Term)
    (v : Value) → t ≡ term.Whole h ts → length cited < length ts.items → false ≡ row_follows program claims (statements_at cited) env (term_of t) v
whole_short program claims cited env h ts t v is less =
    let n = term_count (terms_of ts.items) in
    let cs = statements_at cited in
    let few : length (take n cs) < n =
    omega (arith, taken n cs, length-map cited (λ (s : Bor Statement). statement_of s.now), term_counts ts.items, less) in
    sym (whole_row program claims cs env h ts t v is
    ∙ ap (λ b. b && applies program claims h (values_said (take n cs)) (drop n cs) v) (short_about (take n cs) env (terms_of ts.items) few))

pub whole_given : (program : Program) (claims : List calculus.Claim) (cited prefix suffix : List (Bor Statement)) (n : ℕ) (env bindings : Bindings) (h : Head)
    (ts : Vec Term Global) (us : List Term) (t : Term) (v : Value) → t ≡ term.Whole h ts → n ≡ length ts.items → prefix ≡ take n cited → suffix ≡ drop n cited
    → bindings ≡ env → us ≡ ts.items
    → row_follows program claims (statements_at cited) env (term_of t) v
    ≡ whole_follows program claims (statements_at prefix) (statements_at suffix) bindings h (terms_of us) v
whole_given program claims cited prefix suffix n env bindings h ts us t v is size first second same terms =
    let at = λ (s : Bor Statement). statement_of s.now in
    let count : term_count (terms_of ts.items) ≡ n = term_counts ts.items ∙ sym size in
    whole_row program claims (statements_at cited) env h ts t v is
    ∙ ap (λ k. whole_follows program claims (take k (statements_at cited)) (drop k (statements_at cited)) env h (terms_of ts.items) v) count
    ∙ ap₂ (λ (xs ys : List clean.Statement). whole_follows program claims xs ys env h (terms_of ts.items) v)
    (take-map at n cited ∙ ap statements_at (sym first)) (drop-map at n cited ∙ ap statements_at (sym second))
    ∙ ap₂ (λ (e : Bindings) (xs : List Term). whole_follows program claims (statements_at prefix) (statements_at suffix) e h (terms_of xs) v) (sym same) (sym terms)

-- the whole check

pub decided : {C : Type 0} (r : Result Bool AllocError) (test : Bool) → IfOk r (λ yes. yes ≡ test) → (test ≡ true → C) → (C → test ≡ true)
    → IfOk r (λ yes. IsTrue yes ↔ C)
decided (Ok answer) test e f g = ((λ t. f (sym e ∙ t)), (λ k. e ∙ g k))
decided (Err x) test e f g = tt

not_empty : (steps : List Step) → steps ≢ [] → map step_of steps ≢ []
not_empty [] n e = n refl
not_empty (s ∷ steps) n e = let never : ⊥ = cc in never

pub all_checked : (heads program : Program) (cs ds rows : List Claim) (ss rs : List Step) (steps : List clean.Step) (of_claims of_steps : Bool)
    (r : Result Bool AllocError) → heads ≡ program → cs ≡ rows → ds ≡ rows → map step_of ss ≡ steps → map step_of rs ≡ steps → ss ≢ []
    → of_claims ≡ list_all (is_claim_of heads) (map claim_of cs) → of_claims ≡ true
    → of_steps ≡ list_all (λ step. is_statement_of heads step.statement) (map step_of ss) → of_steps ≡ true
    → IfOk r (λ yes. yes ≡ all_follow heads (map claim_of ds) [] (map step_of rs))
    → IfOk r (λ yes. IsTrue yes ↔ Checks program (map claim_of rows) steps)
all_checked heads program cs ds rows ss rs steps of_claims of_steps r same claims others first second begun known all_known spoken all_spoken ends =
    let test : all_follow heads (map claim_of ds) [] (map step_of rs) ≡ all_follow program (map claim_of rows) [] steps =
    ap₂ (λ (p : Program) (xs : List Claim). all_follow p (map claim_of xs) [] (map step_of rs)) same others
    ∙ ap (all_follow program (map claim_of rows) []) second in
    let of_program : list_all (is_claim_of program) (map claim_of rows) ≡ true =
    sym (ap₂ (λ (p : Program) (xs : List Claim). list_all (is_claim_of p) (map claim_of xs)) same claims) ∙ sym known ∙ all_known in
    let speaks : list_all (λ step. is_statement_of program step.statement) steps ≡ true =
    sym (ap₂ (λ (p : Program) (xs : List clean.Step). list_all (λ step. is_statement_of p step.statement) xs) same first) ∙ sym spoken ∙ all_spoken in
    let some : steps ≢ [] = λ e. not_empty ss begun (first ∙ e) in
    decided r (all_follow heads (map claim_of ds) [] (map step_of rs)) ends
    (λ t. record { begun = some; speaks = speaks; claimed = of_program; follows = all_follow_from program (map claim_of rows) steps (sym test ∙ t) })
    (λ checks. test ∙ all_to program (map claim_of rows) steps checks.follows)

-- the last step concludes

pub last_concludes : (steps : List Step) (k : ℕ) (s : Step) → k + 1 ≡ length steps → s ≡ get_or steps k s
    → clean.conclusion (map step_of steps) ≡ Some (statement_of s.statement)
last_concludes [] k s e is = absurd (omega arith)
last_concludes (x ∷ []) zero s e is = ap (λ (step : Step). Some (statement_of step.statement)) (sym is)
last_concludes (x ∷ []) (suc k) s e is = absurd (omega arith)
last_concludes (x ∷ y ∷ steps) zero s e is = absurd (omega arith)
last_concludes (x ∷ y ∷ steps) (suc k) s e is = last_concludes (y ∷ steps) k s (omega arith) is

some_steps : (steps : List Step) → steps ≢ [] → length steps - 1 + 1 ≡ length steps
some_steps [] n = absurd (n refl)
some_steps (s ∷ steps) n = omega arith

pub concluded : (r : Result Statement AllocError) (steps : List Step) (proof : List clean.Step) (last : Step) → map step_of steps ≡ proof → steps ≢ []
    → last ≡ get_or steps (length steps - 1) last → IfOk r (λ s. statement_of s ≡ statement_of last.statement)
    → IfOk r (λ s. clean.conclusion proof ≡ Some (statement_of s))
concluded (Ok s) steps proof last same some is copy =
    ap clean.conclusion (sym same) ∙ last_concludes steps (length steps - 1) last (some_steps steps some) is ∙ ap Some (sym copy)
concluded (Err x) steps proof last same some is copy = tt
