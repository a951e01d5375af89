-- The rows of functions are those of their program.
use Rattle.std.proofs.Common.{◌≡◌, ℕ, zero, suc, ◌≤◌, List, [], ◌∷◌, ◌++◌, drop, length, map, refl, ap, sym, ◌∙◌, arith}
use Rattle.cu_cycles.proofs.Places.{nothing_after}
use Rattle.cu_calculus.specs.Claims as claims
use Rattle.cu_calculus.specs.Claims.{body_mentions}
use Rattle.cu_kernel.specs.Kernel as kernel
use Rattle.cu_kernel.specs.Kernel.{Kernel, plain_function, program_of}
use Rattle.cu_kernel.specs.KernelOf.{body_meaning, function_meaning}
use Rattle.cu_kernel.specs.declared.term.Function.{Function}
use Rattle.cu_lift.specs.Inside.MentionsOf.{graph_of}

abbrev pub function_rows : List Function → List (List claims.Mention)
function_rows fs = map (λ f. body_mentions (body_meaning f.body)) fs

rows_plain : (fs : List Function) → function_rows fs ≡ map (λ f. body_mentions f.body) (map plain_function (map function_meaning fs))
rows_plain [] = refl
rows_plain (f ∷ fs) = ap (λ rows. body_mentions (body_meaning f.body) ∷ rows) (rows_plain fs)

pub rows_graph : (k : Kernel) (fs : List Function) → map function_meaning fs ≡ k.functions → function_rows fs ≡ graph_of (program_of k)
unfolding program_of
rows_graph k fs e =
    rows_plain fs ∙ ap (λ (x : List kernel.Function). map (λ f. body_mentions f.body) (map plain_function x)) e

drop_all : (fs : List Function) (i : ℕ) → length fs ≤ i → drop i fs ≡ []
drop_all [] zero h = refl
drop_all [] (suc i) h = refl
drop_all (f ∷ fs) zero h = absurd (omega arith)
drop_all (f ∷ fs) (suc i) h = drop_all fs i (omega arith)

pub all_rows : (rows : List (List claims.Mention)) (fs : List Function) (i : ℕ) → length fs ≤ i
    → rows ++ function_rows (drop i fs) ≡ function_rows fs → rows ≡ function_rows fs
all_rows rows fs i end e = nothing_after rows ∙ ap (λ (x : List Function). rows ++ function_rows x) (sym (drop_all fs i end)) ∙ e
