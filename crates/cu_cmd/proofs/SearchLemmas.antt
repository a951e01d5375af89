-- What a search lists, as the listing of a compiled goal.
use Rattle.std.proofs.Common.{◌≡◌, ◌∙◌, ℕ, ◌-◌, List, [], ◌∷◌, Option, Some, Result, Ok, Err, OnErr, ap, subst, arith}
use Rattle.std.specs.List.{concat}
use Rattle.cu_calculus.specs.Code.{Code}
use Rattle.cu_calculus.specs.FlatProgram.{program_of}
use Rattle.cu_flat.specs.Layout.{laid_out}
use Rattle.cu_kernel.specs.Kernel.{Goal, Kernel}
use Rattle.cu_machine.specs.declared.End.{End}
use Rattle.cu_machine.specs.declared.SearchLimits.{SearchLimits}
use Rattle.cu_machine.specs.Listing.{Listing, listing, rounds}
use Rattle.cu_machine.specs.State.{start_of}
use Rattle.cu_search.specs.Lines.{Notation, listing_bytes}
use Rattle.cu_search.specs.Standing.{Standing, left_of, opened}
use Rattle.cu_search.specs.Totals.{totals_of}
use Rattle.cu_search.specs.Written.{Adds, AddsPrefix}
use Rattle.cu_search.specs.declared.totals.Totals.{Totals}
use Rattle.cu_theorem.specs.Listed.{listing_of}
use Rattle.cu_cmd.specs.Listings.{listing_text, notation_of}
use Rattle.cu_cmd.specs.Trials.{totals_pieces, totals_text}

-- the goal of a program is one
one_goal : (one other : Goal) (found : Option Goal) → Some one ≡ found → found ≡ Some other → one ≡ other
one_goal one other found is has = let same : Some one ≡ Some other = is ∙ has in cc

-- a search that was opened for a program's goal
pub record IsOpened (s : Standing) (names : List (List ℕ)) (program : Kernel) (code : Code) (limits : SearchLimits) (given : Goal) : Type 0 where
  pub is : s ≡ opened code (notation_of names program given) limits given.function
  pub of_program : Some given ≡ program.goal
  pub laid : code ≡ laid_out (program_of code)

-- what a search lists that was opened for a program's goal
pub left_is : (s : Standing) (names : List (List ℕ)) (program : Kernel) (code : Code) (limits : SearchLimits) (given goal : Goal)
    → IsOpened s names program code limits given → program.goal ≡ Some goal → left_of s ≡ listing_of limits (program_of code) goal
left_is s names program code limits given goal begun has =
    let all : limits.rounds - 0 ≡ limits.rounds = omega arith in
    ap left_of begun.is
    ∙ ap (λ (n : ℕ). rounds n code limits 0 (record { answers = 0; waits = 0 }) (start_of code given.function ∷ [])) all
    ∙ ap (λ (g : Goal). listing code limits (start_of code g.function)) (one_goal given goal program.goal begun.of_program has)
    ∙ ap (λ (k : Code). listing k limits (start_of k goal.function)) begun.laid

notation_is : (s : Standing) (names : List (List ℕ)) (program : Kernel) (code : Code) (limits : SearchLimits) (given goal : Goal)
    → IsOpened s names program code limits given → program.goal ≡ Some goal → s.notation ≡ notation_of names program goal
notation_is s names program code limits given goal begun has =
    ap (λ (x : Standing). x.notation) begun.is ∙ ap (notation_of names program) (one_goal given goal program.goal begun.of_program has)

pub bytes_are : (s : Standing) (names : List (List ℕ)) (program : Kernel) (code : Code) (limits : SearchLimits) (given goal : Goal)
    → IsOpened s names program code limits given → program.goal ≡ Some goal
    → listing_bytes s.notation (left_of s) ≡ listing_text names program goal (listing_of limits (program_of code) goal)
bytes_are s names program code limits given goal begun has =
    ap (λ (n : Notation). listing_bytes n (left_of s)) (notation_is s names program code limits given goal begun has)
    ∙ ap (listing_bytes (notation_of names program goal)) (left_is s names program code limits given goal begun has)

-- what its lines come to
pub totals_are : (totals : Totals) (end : End) (left found : Listing) → totals ≡ totals_of left → end ≡ left.end → left ≡ found
    → concat (totals_pieces totals end) ≡ totals_text found
totals_are totals end left found is_totals is_end same =
    ap (λ (t : Totals). concat (totals_pieces t end)) is_totals
    ∙ ap (λ (e : End). concat (totals_pieces (totals_of left) e)) is_end
    ∙ ap totals_text same

-- ---- exits

pub part_written : {A E : Type 0} (r : Result A E) (before after : Option (List ℕ)) (bytes text : List ℕ) → bytes ≡ text → AddsPrefix before after bytes
    → OnErr r (AddsPrefix before after text)
part_written (Ok a) before after bytes text same adds = tt
part_written (Err e) before after bytes text same adds = subst (AddsPrefix before after) same adds

pub all_written : (before after : Option (List ℕ)) (bytes text : List ℕ) → bytes ≡ text → Adds before after bytes → Adds before after text
all_written before after bytes text same adds = subst (Adds before after) same adds
