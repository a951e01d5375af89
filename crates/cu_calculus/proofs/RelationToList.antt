-- What the relation gives, some proof concludes: the steps for the parts of a derivation are put
-- after those that are there already, and the step that cites them after all.
use Rattle.std.proofs.Common.{◌≡◌, ◌≢◌, ℕ, true, ◌&&◌, List, [], ◌∷◌, ◌++◌, length, slice_get, None, Some, IsTrue, refl, ap, sym, ◌∙◌, subst, append_assoc, append-nil}
use Rattle.std.specs.List.{list_all}
use Rattle.std.proofs.lemmas.Bool.{and_from, and_parts}
use Rattle.std.proofs.lemmas.List.{map-append}
use Rattle.cu_calculus.specs.declared.Head.{Head}
use Rattle.cu_calculus.specs.Gives as gives
use Rattle.cu_calculus.specs.Gives.{AllGive, Applied, AppliedTo, Claim, Gives}
use Rattle.cu_calculus.specs.Match.{Bindings, Environment, bind, bind_all, empty}
use Rattle.cu_calculus.specs.Program.{Program, arity_in}
use Rattle.cu_calculus.specs.Proof as proof
use Rattle.cu_calculus.specs.Proof.{AllFollow, AllSay, Applies, AppliesTo, Checks, Cites, Follows, Says, Statement, Step, are_rising, conclusion, env_of, is_claim_of, is_statement_of, statements}
use Rattle.cu_calculus.specs.Shape.{are_of, is_of, takes}
use Rattle.cu_calculus.specs.Term as term
use Rattle.cu_calculus.specs.Term.{Term, Terms}
use Rattle.cu_calculus.specs.Valid.{IsValid, also, fit_alternatives, fit_terms, fits_term}
use Rattle.cu_calculus.specs.Value as value
use Rattle.cu_calculus.specs.Value.{Value, Values, count}
use Rattle.cu_calculus.proofs.Fitting.{any, fits_alternative, fits_any, fits_bound, fits_rule_body}
use Rattle.cu_calculus.proofs.Joining.{cites_prefix, conclusion_after}
use Rattle.cu_calculus.proofs.Lists.{all_append, get_last}
use Rattle.cu_calculus.proofs.OfProgram.{all_matched_of, bindings_of, matched_of}
use Rattle.cu_calculus.proofs.RisingBindings.{Stands, added, all_added, stands_bind, stands_bind_all, stands_empty, stands_of}
use Rattle.cu_calculus.proofs.ValuesOf.{all_give_of, fits_part, fits_whole, give_count, gives_of, more_of, partial_of}

-- a statement about these bindings
abbrev pub about : Bindings → Term → Value → Statement
about bindings t v = record { env = bindings; term = t; value = v }

pub says_about : (program : Program) (env : Environment) (bindings : Bindings) (t : Term) (v : Value) → Stands program env bindings
    → Says (about bindings t v) env t v
says_about program env bindings t v h = record { at = λ x. ap (λ (e : Environment). e x) h.says; term = refl; value = refl }

-- a statement about a program's bindings, term and value is one of the program
pub about_of : (program : Program) (env : Environment) (bindings : Bindings) (t : Term) (v : Value) → Stands program env bindings
    → IsTrue (fits_term program any t) → IsTrue (is_of program v) → IsTrue (is_statement_of program (about bindings t v))
about_of program env bindings t v h fits known =
    and_from (are_rising bindings && bindings_of program bindings && fits_term program any t) (is_of program v)
    (and_from (are_rising bindings && bindings_of program bindings) (fits_term program any t)
    (and_from (are_rising bindings) (bindings_of program bindings) h.rising h.known) fits) known

-- what is cited stays where others follow
pub cites_longer : (before after more : List Step) (places : List ℕ) (cited : List Statement) → after ≡ before ++ more
    → Cites (statements before) places cited → Cites (statements after) places cited
cites_longer before after more places cited e h =
    let whole : statements after ≡ statements before ++ statements more = ap statements e ∙ map-append (λ s. s.statement) before more in
    subst (λ (ss : List Statement). Cites ss places cited) (sym whole) (cites_prefix (statements before) (statements more) places cited h)

pub cites_append : (before : List Statement) (ks ls : List ℕ) (one two : List Statement) → Cites before ks one → Cites before ls two
    → Cites before (ks ++ ls) (one ++ two)
cites_append before [] ls [] two h k = k
cites_append before [] ls (s ∷ one) two h k = absurd h
cites_append before (n ∷ ks) ls [] two h k = absurd h
cites_append before (n ∷ ks) ls (s ∷ one) two h k = (h.0, cites_append before ks ls one two h.1 k)

pub extends_more : (one two three more further : List Step) → two ≡ one ++ more → three ≡ two ++ further → three ≡ one ++ (more ++ further)
extends_more one two three more further e f = f ∙ ap (λ x. x ++ further) e ∙ append_assoc one more further

module _ (program : Program) (claims : List Claim) where
  -- steps that follow, of statements of the program
  pub record Sound (steps : List Step) : Type 0 where
    pub speak : IsTrue (list_all (λ step. is_statement_of program step.statement) steps)
    pub follow : AllFollow program claims steps

  -- steps after others, the last of which has a statement
  pub record Grown (before : List Step) (s : Statement) : Type 0 where
    pub middle : List Step
    pub step : Step
    pub more : List Step
    pub extends : middle ≡ before ++ more
    pub is : step.statement ≡ s
    pub sound : Sound (middle ++ step ∷ [])

  -- steps after others, among which these statements stand
  pub record Reached (before : List Step) (ss : List Statement) : Type 0 where
    pub after : List Step
    pub more : List Step
    pub extends : after ≡ before ++ more
    pub sound : Sound after
    pub places : List ℕ
    pub cites : Cites (statements after) places ss

  pub reached : (before : List Step) (s : Statement) → Grown before s → Reached before (s ∷ [])
  reached before s g =
      let last : slice_get (statements (g.middle ++ g.step ∷ [])) (length (statements g.middle)) ≡ Some s =
      ap (λ (ss : List Statement). slice_get ss (length (statements g.middle))) (map-append (λ s. s.statement) g.middle (g.step ∷ []))
      ∙ get_last (statements g.middle) g.step.statement ∙ ap Some g.is in
      record {
        after = g.middle ++ g.step ∷ [];
        more = g.more ++ g.step ∷ [];
        extends = extends_more before g.middle (g.middle ++ g.step ∷ []) g.more (g.step ∷ []) g.extends refl;
        sound = g.sound;
        places = length (statements g.middle) ∷ [];
        cites = (last, tt);
      }

  pub reached_none : (before : List Step) → Sound before → Reached before []
  reached_none before sound =
      record { after = before; more = []; extends = sym (append-nil before); sound = sound; places = []; cites = tt }

  -- what was reached, and then what is reached from there
  pub reached_both : (before : List Step) (one two : List Statement) (r : Reached before one) → Reached r.after two → Reached before (one ++ two)
  reached_both before one two r q = record {
    after = q.after;
    more = r.more ++ q.more;
    extends = extends_more before r.after q.after r.more q.more r.extends q.extends;
    sound = q.sound;
    places = r.places ++ q.places;
    cites =
        cites_append (statements q.after) r.places q.places one two (cites_longer r.after q.after q.more r.places one q.extends r.cites) q.cites;
  }

  -- the step that cites what was reached
  pub grown : (before : List Step) (cited : List Statement) (env : Environment) (bindings : Bindings) (t : Term) (v : Value) → Reached before cited
      → Stands program env bindings → IsTrue (fits_term program any t) → IsTrue (is_of program v) → Follows program claims cited env t v
      → Grown before (about bindings t v)
  grown before cited env bindings t v r stands fits known follows =
      let step : Step = record { cites = r.places; statement = about bindings t v } in
      let there : Follows program claims cited (bind_all empty bindings) t v =
      subst (λ (e : Environment). Follows program claims cited e t v) (sym stands.says) follows in
      let of_program : IsTrue (is_statement_of program (about bindings t v)) = about_of program env bindings t v stands fits known in
      record {
        middle = r.after;
        step = step;
        more = r.more;
        extends = r.extends;
        is = refl;
        sound = record {
          speak =
              all_append (λ (s : Step). is_statement_of program s.statement) r.after (step ∷ []) r.sound.speak
              (and_from (is_statement_of program (about bindings t v)) true of_program refl);
          follow = proof.followed r.after (r.after ++ step ∷ []) cited step r.sound.follow r.cites there refl;
        };
      }

  -- steps that reach statements about terms
  pub record AllReached (before : List Step) (env : Environment) (ts : Terms) (vs : Values) : Type 0 where
    pub ss : List Statement
    pub say : AllSay ss env ts vs
    pub steps : Reached before ss

  -- steps that reach what a head on values needs
  pub record HeadReached (before : List Step) (h : Head) (us : Values) (v : Value) : Type 0 where
    pub ss : List Statement
    pub applies : Applies program claims h us ss v
    pub steps : Reached before ss

  -- steps that reach what a functional value on one argument more needs
  pub record MoreReached (before : List Step) (w u v : Value) : Type 0 where
    pub ss : List Statement
    pub applies : AppliesTo program claims w u ss v
    pub steps : Reached before ss

  module _ (valid : IsValid program) (claimed : IsTrue (list_all (is_claim_of program) claims)) where
    mutual
      pub grow : (env : Environment) (t : Term) (v : Value) → Gives program claims env t v → (bindings : Bindings) → Stands program env bindings
          → IsTrue (fits_term program any t) → IsTrue (is_of program v) → (before : List Step) → Sound before → Grown before (about bindings t v)
      grow env _ _ (gives.bottom _ t) bindings stands fits known before sound =
          grown before [] env bindings t value.Bottom (reached_none before sound) stands fits known (proof.bottom env t)
      grow env _ _ (gives.variable _ x v p) bindings stands fits known before sound =
          grown before [] env bindings (term.Variable x) v (reached_none before sound) stands fits known (proof.variable env x v p)
      grow env _ _ (gives.literal _ l) bindings stands fits known before sound =
          grown before [] env bindings (term.Literal l) (value.Literal l) (reached_none before sound) stands fits known (proof.literal env l)
      grow env _ _ (gives.whole _ h ts us v ps app) bindings stands fits known before sound =
          let parts = fits_whole program h ts fits in
          let arguments = all_give_of program claims valid claimed env ts us ps (stands_of program env bindings stands) parts.1 in
          let whole : IsTrue (takes (arity_in program h) (count us)) =
          subst (λ (n : ℕ). IsTrue (takes (arity_in program h) n)) (give_count program claims env ts us ps) parts.0 in
          let all = grow_all env ts us ps bindings stands parts.1 before sound in
          let last = grow_applied h us v app whole arguments all.steps.after all.steps.sound in
          grown before (all.ss ++ last.ss) env bindings (term.Whole h ts) v (reached_both before all.ss last.ss all.steps last.steps) stands fits known
          (proof.whole (all.ss ++ last.ss) all.ss last.ss env h ts us v refl all.say last.applies)
      grow env _ _ (gives.part _ h ts us ps) bindings stands fits known before sound =
          let all = grow_all env ts us ps bindings stands (fits_part program h ts fits).1 before sound in
          grown before all.ss env bindings (term.Part h ts) (value.Partial h us) all.steps stands fits known (proof.part all.ss env h ts us all.say)
      grow env _ _ (gives.applied _ f a w u v p q app) bindings stands fits known before sound =
          let parts = and_parts (fits_term program any f) (fits_term program any a) fits in
          let values = stands_of program env bindings stands in
          let function = gives_of program claims valid claimed env f w p values parts.0 in
          let argument = gives_of program claims valid claimed env a u q values parts.1 in
          let s = about bindings f w in
          let r = about bindings a u in
          let one = reached before s (grow env f w p bindings stands parts.0 function before sound) in
          let two = reached one.after r (grow env a u q bindings stands parts.1 argument one.after one.sound) in
          let last = grow_applied_to w u v app function argument two.after two.sound in
          grown before (s ∷ r ∷ last.ss) env bindings (term.Apply f a) v
          (reached_both before (s ∷ []) (r ∷ last.ss) one (reached_both one.after (r ∷ []) last.ss two last.steps)) stands fits known
          (proof.applied s r last.ss env f a w u v (says_about program env bindings f w stands) (says_about program env bindings a u stands) last.applies)
      grow env _ _ (gives.bound _ x a b u v p q) bindings stands fits known before sound =
          let parts = fits_bound program x a b fits in
          let first = gives_of program claims valid claimed env a u p (stands_of program env bindings stands) parts.0 in
          let inner = stands_bind program env bindings x u stands first in
          let s = about bindings a u in
          let r = about (added x u bindings) b v in
          let one = reached before s (grow env a u p bindings stands parts.0 first before sound) in
          let two = reached one.after r (grow (bind env x u) b v q (added x u bindings) inner parts.1 known one.after one.sound) in
          grown before (s ∷ r ∷ []) env bindings (term.Let x a b) v (reached_both before (s ∷ []) (r ∷ []) one two) stands fits known
          (proof.bound s r env x a b u v (says_about program env bindings a u stands)
          (says_about program (bind env x u) (added x u bindings) b v inner))
      grow env _ _ (gives.free _ x t u v total of_program p) bindings stands fits known before sound =
          let inner = stands_bind program env bindings x u stands of_program in
          let s = about (added x u bindings) t v in
          let one = reached before s (grow (bind env x u) t v p (added x u bindings) inner (fits_any program (also x any) t fits) known before sound) in
          grown before (s ∷ []) env bindings (term.Free x t) v one stands fits known
          (proof.free s env x t u v total of_program (says_about program (bind env x u) (added x u bindings) t v inner))
      grow env _ _ (gives.left _ a b v p) bindings stands fits known before sound =
          let s = about bindings a v in
          let parts = and_parts (fits_term program any a) (fits_term program any b) fits in
          grown before (s ∷ []) env bindings (term.Or a b) v (reached before s (grow env a v p bindings stands parts.0 known before sound))
          stands fits known (proof.left s env a b v (says_about program env bindings a v stands))
      grow env _ _ (gives.right _ a b v p) bindings stands fits known before sound =
          let s = about bindings b v in
          let parts = and_parts (fits_term program any a) (fits_term program any b) fits in
          grown before (s ∷ []) env bindings (term.Or a b) v (reached before s (grow env b v p bindings stands parts.1 known before sound))
          stands fits known (proof.right s env a b v (says_about program env bindings b v stands))
      grow env _ _ (gives.chosen _ mode a t alternatives matches u v p selects q) bindings stands fits known before sound =
          let parts = and_parts (fits_term program any a) (fit_alternatives program any alternatives) fits in
          let first = gives_of program claims valid claimed env a u p (stands_of program env bindings stands) parts.0 in
          let inner = stands_bind_all program env bindings matches stands (matched_of program selects.pattern u matches selects.matches first) in
          let s = about bindings a u in
          let r = about (all_added bindings matches) t v in
          let one = reached before s (grow env a u p bindings stands parts.0 first before sound) in
          let two =
          reached one.after r (grow (bind_all env matches) t v q (all_added bindings matches) inner
          (fits_alternative program alternatives selects.choice selects.pattern t parts.1 selects.at) known one.after one.sound) in
          grown before (s ∷ r ∷ []) env bindings (term.Case mode a alternatives) v (reached_both before (s ∷ []) (r ∷ []) one two) stands fits known
          (proof.chosen s r env mode a t alternatives matches u v (says_about program env bindings a u stands) selects
          (says_about program (bind_all env matches) (all_added bindings matches) t v inner))

      pub grow_all : (env : Environment) (ts : Terms) (vs : Values) → AllGive program claims env ts vs → (bindings : Bindings)
          → Stands program env bindings → IsTrue (fit_terms program any ts) → (before : List Step) → Sound before → AllReached before env ts vs
      grow_all env _ _ (gives.none _) bindings stands fits before sound =
          record { ss = []; say = tt; steps = reached_none before sound }
      grow_all env _ _ (gives.more _ t ts v vs p ps) bindings stands fits before sound =
          let parts = and_parts (fits_term program any t) (fit_terms program any ts) fits in
          let known = gives_of program claims valid claimed env t v p (stands_of program env bindings stands) parts.0 in
          let s = about bindings t v in
          let one = reached before s (grow env t v p bindings stands parts.0 known before sound) in
          let rest = grow_all env ts vs ps bindings stands parts.1 one.after one.sound in
          record {
            ss = s ∷ rest.ss;
            say = (says_about program env bindings t v stands, rest.say);
            steps = reached_both before (s ∷ []) rest.ss one rest.steps;
          }

      pub grow_applied : (h : Head) (us : Values) (v : Value) → Applied program claims h us v → IsTrue (takes (arity_in program h) (count us))
          → IsTrue (are_of program us) → (before : List Step) → Sound before → HeadReached before h us v
      grow_applied _ us _ (gives.constructed c _) whole arguments before sound =
          record { ss = []; applies = proof.constructed c us (value.Constructed c us) refl; steps = reached_none before sound }
      grow_applied _ us _ (gives.by_rule f function rules k rule bindings _ v e b r m p) whole arguments before sound =
          let fits = fits_rule_body program f function rules k rule valid e b r in
          let inner =
          stands_bind_all program empty [] bindings (stands_empty program) (all_matched_of program rule.params us bindings m arguments) in
          let env = bind_all empty bindings in
          let known = gives_of program claims valid claimed env rule.body v p (stands_of program env (all_added [] bindings) inner) fits in
          let s = about (all_added [] bindings) rule.body v in
          record {
            ss = s ∷ [];
            applies =
                proof.by_rule f function rules k rule bindings us s v e b r m (says_about program env (all_added [] bindings) rule.body v inner);
            steps = reached before s (grow env rule.body v p (all_added [] bindings) inner fits known before sound);
          }
      grow_applied _ us _ (gives.builtin f function operation _ v e b answers) whole arguments before sound =
          record { ss = []; applies = proof.builtin f function operation us v e b answers; steps = reached_none before sound }
      grow_applied _ us _ (gives.collect f claim k c _ v ground e f' a s p) whole arguments before sound =
          record { ss = []; applies = proof.collect f claim k c us v ground e f' a s p; steps = reached_none before sound }

      pub grow_applied_to : (w u v : Value) → AppliedTo program claims w u v → IsTrue (is_of program w) → IsTrue (is_of program u)
          → (before : List Step) → Sound before → MoreReached before w u v
      grow_applied_to _ u _ (gives.extended h us more _ m l) function argument before sound =
          record { ss = []; applies = proof.extended h us more u m l; steps = reached_none before sound }
      grow_applied_to _ u _ (gives.completed h us all _ v m l app) function argument before sound =
          let last = grow_applied h all v app l (more_of program us all u (partial_of program h us function) argument m) before sound in
          record { ss = last.ss; applies = proof.completed h us all u last.ss v m l last.applies; steps = last.steps }

    -- a proof of a statement
    pub proved : (s : Statement) → IsTrue (is_statement_of program s) → Gives program claims (env_of s) s.term s.value
        → (steps : List Step) × Checks program claims steps × (conclusion steps ≡ Some s)
    proved s of_program h =
        let outer = and_parts (are_rising s.env && bindings_of program s.env && fits_term program any s.term) (is_of program s.value) of_program in
        let inner = and_parts (are_rising s.env && bindings_of program s.env) (fits_term program any s.term) outer.0 in
        let bindings = and_parts (are_rising s.env) (bindings_of program s.env) inner.0 in
        let stands : Stands program (env_of s) s.env = record { rising = bindings.0; known = bindings.1; says = refl } in
        let none : Sound [] = record { speak = refl; follow = proof.nothing } in
        let found = grow (env_of s) s.term s.value h s.env stands inner.1 outer.1 [] none in
        let steps = found.middle ++ found.step ∷ [] in
        let one : found.step ∷ [] ≢ [] = λ e. cc in
        let last : conclusion steps ≡ Some s = conclusion_after found.middle (found.step ∷ []) one ∙ ap Some found.is in
        let begun : steps ≢ [] = λ e. let no : None ≡ Some s = sym (ap conclusion e) ∙ last in cc in
        (steps, record { begun = begun; speaks = found.sound.speak; claimed = claimed; follows = found.sound.follow }, last)
