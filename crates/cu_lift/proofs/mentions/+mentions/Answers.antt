use Rattle.std.proofs.Common.{◌≡◌, ℕ, List, ◌++◌, ap, sym, ◌∙◌, append_assoc}
use Rattle.std.proofs.lemmas.Result.{on_ok_weaker}
use Rattle.std.specs.declared.alloc.Global.{Global}
use Rattle.std.specs.declared.boxed.Box.{Box}
use Rattle.std.specs.declared.vec.Vec.{Vec}
use Rattle.cu_calculus.specs.Claims as claims
use Rattle.cu_calculus.specs.Claims.{alternative_mentions, mentions}
use Rattle.cu_calculus.specs.Term as clean
use Rattle.cu_calculus.specs.declared.Lit.{Lit}
use Rattle.cu_calculus.specs.declared.Mode.{Mode}
use Rattle.cu_kernel.specs.TermsOf.{alternatives_of, term_of, term_of-Case, term_of-Lit, term_of-Var}
use Rattle.cu_kernel.specs.declared.term.Pattern.{Pattern}
use Rattle.cu_kernel.specs.declared.term.Term.TheVariants as term
use Rattle.cu_kernel.specs.declared.term.Term.{Term}
use Rattle.cu_cycles.proofs.Places.{nothing_after}
use Rattle.cu_lift.specs.Inside.MentionsOf.{mention_meanings}
use Rattle.cu_lift.proofs.mentions.+mentions.Goals as goal

variable_mentions : (ms : List claims.Mention) (t : Term) (x : ℕ) → t ≡ term.Var x → ms ≡ ms ++ mentions (term_of t)
variable_mentions ms t x is = nothing_after ms ∙ ap (λ (u : clean.Term). ms ++ mentions u) (sym (ap term_of is ∙ term_of-Var x))

literal_mentions : (ms : List claims.Mention) (t : Term) (x : Lit) → t ≡ term.Lit x → ms ≡ ms ++ mentions (term_of t)
literal_mentions ms t x is = nothing_after ms ∙ ap (λ (u : clean.Term). ms ++ mentions u) (sym (ap term_of is ∙ term_of-Lit x))

case_mentions : (old mid new : List claims.Mention) (t scrutinee : Term) (mode : Mode) (s : Box Term Global) (rows : Vec (Pattern × Term) Global)
    (alternatives : List (Pattern × Term)) → t ≡ term.Case mode s rows → scrutinee ≡ s.value → alternatives ≡ rows.items
    → mid ≡ old ++ mentions (term_of scrutinee) → new ≡ mid ++ alternative_mentions (alternatives_of alternatives)
    → new ≡ old ++ mentions (term_of t)
case_mentions old mid new t scrutinee mode s rows alternatives is same as_rows p q =
    q ∙ ap (λ (x : List claims.Mention). x ++ alternative_mentions (alternatives_of alternatives)) p
    ∙ append_assoc old (mentions (term_of scrutinee)) (alternative_mentions (alternatives_of alternatives))
    ∙ ap (λ (x : Term). old ++ (mentions (term_of x) ++ alternative_mentions (alternatives_of alternatives))) same
    ∙ ap (λ (x : List (Pattern × Term)). old ++ (mentions (term_of s.value) ++ alternative_mentions (alternatives_of x))) as_rows
    ∙ ap (λ (x : clean.Term). old ++ mentions x) (sym (ap term_of is ∙ term_of-Case mode s rows))

pub push_term-returns-in-Var : goal.push_term-returns-in-Var
push_term-returns-in-Var t c = variable_mentions (mention_meanings c.args.found.now.items) c.args.term.now c.in-Var.field-0 c.in-Var.is

pub push_term-returns-in-Lit : goal.push_term-returns-in-Lit
push_term-returns-in-Lit t c = literal_mentions (mention_meanings c.args.found.now.items) c.args.term.now c.in-Lit.field-0 c.in-Lit.is

pub push_term-returns-in_ok-push_term-in-Case : goal.push_term-returns-in_ok-push_term-in-Case
push_term-returns-in_ok-push_term-in-Case t c =
    on_ok_weaker c.push_alternatives.result
    (case_mentions (mention_meanings c.args.found.now.items) (mention_meanings c.push_term-in-Case.new.found.items)
    (mention_meanings c.push_alternatives.new.found.items) c.args.term.now c.deref-in-Case.result.now c.in-Case.field-0 c.in-Case.scrutinee
    c.in-Case.alternatives c.deref-in-Case-2.result.now c.in-Case.is c.deref-in-Case.ensures c.deref-in-Case-2.ensures.value
    c.in_ok-push_term-in-Case.ensures)
    c.push_alternatives.ensures
