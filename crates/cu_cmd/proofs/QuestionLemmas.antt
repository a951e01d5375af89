-- What the next lines of a question come to.
use Rattle.std.proofs.Common.{◌≡◌, ◌∙◌, ℕ, ◌-◌, ◌<◌, ◌≤◌, List, [], ◌∷◌, ◌++◌, Option, None, Some, IfSome, ap, append_assoc, arith, refl, subst, sym}
use Rattle.std.proofs.lemmas.List.{append-nil}
use Rattle.std.specs.List.{concat}
use Rattle.cu_flat.specs.Layout.{laid_out}
use Rattle.cu_front.specs.Compiling.{Folder}
use Rattle.cu_machine.specs.declared.End.{End}
use Rattle.cu_machine.specs.declared.SearchLimits.{SearchLimits}
use Rattle.cu_machine.specs.Listing.{Line, rounds}
use Rattle.cu_machine.specs.State.{start_of}
use Rattle.cu_search.specs.Lines.{end_text, lines_bytes, listing_bytes}
use Rattle.cu_search.specs.NextLines.{NextLines, ends, has_lines, has_none}
use Rattle.cu_search.specs.Standing.{Standing, end_at, left_of, next_of, round_at}
use Rattle.cu_cmd.specs.Listings.{notation_of}
use Rattle.cu_cmd.specs.Replies.{asked_for}
use Rattle.cu_cmd.specs.Sessions as sessions
use Rattle.cu_cmd.specs.Sessions.{Lists, ListsQuestion, goes_on, left_after, not_yet}

-- the laws of rounds
pub record RoundLaws : Type 0 where
  pub follow : (s : Standing) → s.round ≤ s.limits.rounds → end_at s ≡ None
      → listing_bytes s.notation (left_of s) ≡ lines_bytes s.notation (round_at s).lines ++ listing_bytes s.notation (left_of (next_of s))
  pub within : (s : Standing) → s.round ≤ s.limits.rounds → end_at s ≡ None → s.round < s.limits.rounds
  pub last : (s : Standing) (end : End) → s.round ≤ s.limits.rounds → end_at s ≡ Some end
      → listing_bytes s.notation (left_of s) ≡ lines_bytes s.notation (round_at s).lines ++ end_text end

abbrev IsWithin : Standing → Type 0
IsWithin s = s.round ≤ s.limits.rounds

-- What is left of a listing is these bytes, and then what is left after them.
record Splits (s : Standing) (bytes : List ℕ) (after : Option Standing) : Type 0 where
  pub listing : listing_bytes s.notation (left_of s) ≡ bytes ++ left_after after
  pub within : IfSome after IsWithin

splits_at : (s : Standing) (bytes : List ℕ) (after found : Option Standing) → after ≡ found → Splits s bytes found → Splits s bytes after
splits_at s bytes after found is h = subst (Splits s bytes) (sym is) h

next_splits : RoundLaws → (s : Standing) (bytes : List ℕ) (after : Option Standing) → NextLines s bytes after → IsWithin s → Splits s bytes after
next_splits laws _ _ _ (ends s bytes after end is b n) within =
    splits_at s bytes after None n (record {
      listing = laws.last s end within is ∙ sym b ∙ sym (append-nil bytes);
      within = tt;
    })
next_splits laws _ _ _ (has_lines s bytes after is l b n) within =
    let more = laws.within s within is in
    splits_at s bytes after (Some (next_of s)) n (record {
      listing = laws.follow s within is ∙ ap (λ (xs : List ℕ). xs ++ listing_bytes s.notation (left_of (next_of s))) (sym b);
      within = omega (arith, more);
    })
next_splits laws _ _ _ (has_none s bytes after is l later) within =
    let more = laws.within s within is in
    let rest = next_splits laws (next_of s) bytes after later (omega (arith, more)) in
    record {
      listing = laws.follow s within is
          ∙ ap (λ (xs : List Line). lines_bytes s.notation xs ++ listing_bytes s.notation (left_of (next_of s))) l
          ∙ rest.listing;
      within = rest.within;
    }

lists_splits : RoundLaws → (s : Standing) (replies : List (List ℕ)) (after : Option Standing) → Lists s replies after → IsWithin s
    → listing_bytes s.notation (left_of s) ≡ concat replies ++ left_after after
lists_splits laws _ _ _ (not_yet s) within = refl
lists_splits laws _ _ _ (goes_on s t bytes others after n l) within =
    let first = next_splits laws s bytes (Some t) n within in
    first.listing
    ∙ ap (λ (xs : List ℕ). bytes ++ xs) (lists_splits laws t others after l first.within)
    ∙ sym (append_assoc bytes (concat others) (left_after after))
lists_splits laws _ _ _ (sessions.ends s bytes n) within =
    let first = next_splits laws s bytes None n within in
    first.listing ∙ ap (λ (xs : List ℕ). xs ++ []) (sym (append-nil bytes))

-- what a session lists of a question, and what is left
pub lists_question : RoundLaws → (held : Folder) (root text : List ℕ) (limits : SearchLimits) → ListsQuestion held root text limits
lists_question laws held root text limits = λ names program flat goal compiles has replies after lists.
    let s = asked_for limits names program flat goal in
    let code = laid_out flat in
    let all : limits.rounds ≡ limits.rounds - 0 = omega arith in
    ap (λ (n : ℕ). listing_bytes (notation_of names program goal) (rounds n code limits 0 (record { answers = 0; waits = 0 }) (start_of code goal.function ∷ []))) all
    ∙ lists_splits laws s replies after lists (omega arith)
