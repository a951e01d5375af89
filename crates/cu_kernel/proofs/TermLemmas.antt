-- Alternatives and rules, part by part.
use Rattle.std.proofs.Common.{◌≡◌, ℕ, ◌+◌, ◌<◌, Bool, true, ◌&&◌, List, drop, get_or, length, sym, ◌∙◌, ap}
use denote.Ref.{Bor}
use Rattle.cu_calculus.specs.Program.{Program}
use Rattle.cu_calculus.specs.Valid.{also_all, fit_alternatives, fits_pattern, fits_term, is_linear, variables_of}
use Rattle.cu_kernel.proofs.Loops.{left}
use Rattle.cu_kernel.specs.Inside.Scope.{allowed, allowed-WithAll}
use Rattle.cu_kernel.specs.TermsOf.{alternatives_of, pattern_of, term_of}
use Rattle.cu_kernel.specs.declared.scope.Scope.TheVariants as scope
use Rattle.cu_kernel.specs.declared.scope.Scope.{Scope}
use Rattle.cu_kernel.specs.declared.term.Pattern.{Pattern}
use Rattle.cu_kernel.specs.declared.term.Term.{Term}

-- where its pattern fits, the alternatives that are left fit as its body and those after it do
pub alternative_fits : (program : Program) (rows : List (Pattern × Term)) (i : ℕ) (row : Pattern × Term) (variables : Bor (List ℕ)) (around : Bor Scope)
    (body whole : Bool) → i < length rows → row ≡ get_or rows i row → true ≡ fits_pattern program (pattern_of row.0)
    → variables.now ≡ variables_of (pattern_of row.0) → true ≡ is_linear variables.now
    → body ≡ fits_term program (allowed (scope.WithAll variables around)) (term_of row.1)
    → fit_alternatives program (allowed around.now) (alternatives_of (drop i rows)) ≡ whole
    → body && fit_alternatives program (allowed around.now) (alternatives_of (drop (i + 1) rows)) ≡ whole
alternative_fits program rows i row variables around body whole below is pattern bound linear fits before =
    let may = allowed around.now in let rest = fit_alternatives program may (alternatives_of (drop (i + 1) rows)) in
    let binds = variables_of (pattern_of row.0) in
    let inner : body ≡ fits_term program (also_all binds may) (term_of row.1) =
    fits ∙ ap (λ test. fits_term program test (term_of row.1)) (allowed-WithAll variables around ∙ ap (λ xs. also_all xs may) bound) in
    let once : true ≡ is_linear binds = linear ∙ ap is_linear bound in
    ap (λ b. b && rest) inner ∙ ap (λ b. b && fits_term program (also_all binds may) (term_of row.1) && rest) once
    ∙ ap (λ b. b && is_linear binds && fits_term program (also_all binds may) (term_of row.1) && rest) pattern
    ∙ sym (ap (λ left. fit_alternatives program may (alternatives_of left)) (left rows i row below is)) ∙ before
