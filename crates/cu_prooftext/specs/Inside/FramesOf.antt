-- The frames that the code's stand for, and what its loops answer.
use Rattle.std.specs.Prelude.{◌≡◌, ℕ, ◌-◌, ◌<◌, List, Option, None, Some, Result, Ok, Err, length, map}
use Rattle.std.proofs.Common.{◌⊎◌, inl, inr}
use Rattle.cu_calculus.specs.Term as clean
use Rattle.cu_kernel.specs.TermsOf.{pattern_of, term_of}
use Rattle.cu_kernel.specs.declared.term.Pattern.{Pattern}
use Rattle.cu_kernel.specs.declared.term.Term.{Term}
use Rattle.cu_prooftext.specs.declared.fault.Fault.{Fault}
use Rattle.cu_prooftext.specs.declared.progress.Progress.{Progress}
use Rattle.cu_prooftext.specs.declared.progress.Progress.TheVariants as progress
use Rattle.cu_prooftext.specs.declared.reading_patterns.OpenPattern.{OpenPattern}
use Rattle.cu_prooftext.specs.declared.reading_patterns.OpenPattern.TheVariants as pattern
use Rattle.cu_prooftext.specs.declared.term_parts.OpenTerm.{OpenTerm}
use Rattle.cu_prooftext.specs.declared.term_parts.OpenTerm.TheVariants as term
use Rattle.cu_prooftext.specs.Inside.Frames.{PatternFrame, TermFrame, in_alternative, in_argument, in_built, in_definition, in_free, in_function, in_left, in_let, in_named, in_part, in_right, in_scrutinee, in_whole, resume}
use Rattle.cu_prooftext.specs.Inside.Gives.{Fails}
use Rattle.cu_prooftext.specs.Inside.Readers.{Reader}

-- what is read or begun of a part
abbrev pub progress_of : {T O A F : Type 0} → (T → A) → (O → F) → Progress T O → A ⊎ F
progress_of part frame (progress.Done t) = inl (part t)
progress_of part frame (progress.Open o) = inr (frame o)

abbrev pub pattern_frame : OpenPattern → PatternFrame
pattern_frame (pattern.Constructor c ps left) = in_built c (map pattern_of ps.items) left
pattern_frame (pattern.Alias x) = in_named x

-- an alternative of the code's
abbrev pub row_of : Pattern × Term → clean.Pattern × clean.Term
row_of a = (pattern_of a.0, term_of a.1)

abbrev pub term_frame : OpenTerm → TermFrame
term_frame (term.Whole h ts left) = in_whole h (map term_of ts.items) left
term_frame (term.Part h ts left) = in_part h (map term_of ts.items) left
term_frame term.Function = in_function
term_frame (term.Argument f) = in_argument (term_of f.value)
term_frame (term.Definition x) = in_definition x
term_frame (term.LetBody x a) = in_let x (term_of a.value)
term_frame (term.FreeBody x) = in_free x
term_frame term.Left = in_left
term_frame (term.Right a) = in_right (term_of a.value)
term_frame (term.Scrutinee m n) = in_scrutinee m n
term_frame (term.Alternative case p left) =
    in_alternative case.mode (term_of case.scrutinee.value)
    (map row_of case.alternatives.items) (pattern_of p) left

-- What the code answers of a part with frames around it: the outermost one, or frames that are
-- left, inside which fewer bytes than n are read on.
abbrev pub Continues : {A F : Type 0} → (ℕ → Reader A)
    → (ℕ → F → A × List ℕ → Result (A × List ℕ) ℕ) → ℕ → Result (A × List ℕ) ℕ → List F → ℕ
    → Option A → List ℕ → Type 0
Continues at after levels read frames n (Some x) rest = read ≡ Ok (x, rest)
Continues at after levels read frames n None rest =
    (read ≡ resume after (levels - 1) frames (at (levels - length frames) rest))
    × (length rest < n)

-- what is answered continues what is read, unless memory ran out
abbrev pub GoesOn : {A F X : Type 0} → (ℕ → Reader A)
    → (ℕ → F → A × List ℕ → Result (A × List ℕ) ℕ) → ℕ → Result (A × List ℕ) ℕ → List F → ℕ
    → (X → Option A × List ℕ) → Result X Fault → Type 0
GoesOn at after levels read frames n view (Ok x) =
    Continues at after levels read frames n (view x).0 (view x).1
GoesOn at after levels read frames n view (Err e) = Fails e read

-- the part that an option has
abbrev pub part_of : {T A : Type 0} → (T → A) → Option T → Option A
part_of f None = None
part_of f (Some t) = Some (f t)
