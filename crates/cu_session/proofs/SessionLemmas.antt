-- Sessions, one part after another.
use Rattle.std.proofs.Common.{◌≡◌, ℕ, ◌≤◌, inl, inr, List, [], ◌∷◌, ◌++◌, Option, None, Some, Result, Ok, Err, sym, subst, arith, append_assoc}
use Rattle.std.proofs.lemmas.List.Folds.{concat-append}
use Rattle.std.specs.List.{concat}
use Rattle.cu_io.specs.Rose.{Rose}
use Rattle.cu_session.specs.declared.end.SessionEnd.{SessionEnd}
use Rattle.cu_session.specs.declared.end.SessionEnd.TheVariants as ends
use Rattle.cu_session.specs.declared.asker.Turn.{Turn}
use Rattle.cu_session.specs.declared.asker.Turn.TheVariants as turns
use Rattle.cu_session.specs.Answers.{Answer, Meaning}
use Rattle.cu_session.specs.Lines.{Line}
use Rattle.cu_session.specs.Session.{Begins, IsDue, Session, breaks_off, goes_on, last, next, no_more, quits, too_long}
use Rattle.cu_session.specs.Ends.{Adds, AddsPrefix, Ends, WritesBegun, WritesPrefix, WritesWhole}
use Rattle.cu_session.specs.Inside.Parts.{Goes, GoesOn}
use Rattle.cu_session.proofs.WrittenLemmas.{Adds-append, Adds-nothing, nothing_prefix, prefix_after}

-- the replies of a session are those of one that may break off
pub session_begins : {State : Type 0} (answers : Meaning State) (state : State) (lines : List Line) (replies : List (List ℕ)) (ending : SessionEnd) → Session answers state lines replies ending → Begins answers state lines replies
session_begins answers state _ _ _ (no_more _) = breaks_off state []
session_begins answers state _ _ _ (too_long _ line lines long) = breaks_off state (line ∷ lines)
session_begins answers state _ _ _ (quits _ line lines answer due turn) = last state line lines answer due turn
session_begins answers state _ _ _ (goes_on _ line lines answer replies ending due turn later) =
    next state line lines answer replies due turn (session_begins answers answer.after lines replies ending later)

-- one reply is the beginning of a session, whatever its turn
pub one_begins : {State : Type 0} (answers : Meaning State) (state : State) (line : Line) (lines : List Line) (answer : Answer State) (turn : Turn) → IsDue answers state line answer → answer.turn ≡ turn → Begins answers state (line ∷ lines) (answer.reply ∷ [])
one_begins answers state line lines answer turns.Go due is = next state line lines answer [] due is (breaks_off answer.after lines)
one_begins answers state line lines answer turns.Quit due is = last state line lines answer due is

-- a count that rose later rose since an earlier call
pub rose_since : (first old new : ℕ) → first ≤ old → Rose old new → Rose first new
rose_since first old new before (inl above) = inl (omega (arith, before, above))
rose_since first old new before (inr top) = inr top

-- nothing has gone on yet
pub goes_nothing : {State : Type 0} (answers : Meaning State) (lines : List Line) (state : Option State) (now : State) (x : Option (List ℕ)) → state ≡ Some now → GoesOn answers now lines lines state x x
goes_nothing answers lines state now x is =
    record { now = now; replies = []; is_now = is; written = Adds-nothing x; session = λ more ending h. h; begins = λ more h. h }

-- no reply was written
pub nothing_begun : {State : Type 0} (answers : Meaning State) (state : State) (lines : List Line) (x : Option (List ℕ)) → WritesBegun answers state lines x x
nothing_begun answers state lines x = record { replies = []; begins = breaks_off state lines; written = Adds-nothing x }

pub nothing_prefixed : {State : Type 0} (answers : Meaning State) (state : State) (lines : List Line) (x : Option (List ℕ)) → WritesPrefix answers state lines x x
nothing_prefixed answers state lines x = record { replies = []; begins = breaks_off state lines; written = nothing_prefix x [] }

both_written : (a b c : Option (List ℕ)) (xs ys : List (List ℕ)) → Adds a b (concat xs) → Adds b c (concat ys) → Adds a c (concat (xs ++ ys))
both_written a b c xs ys h k = subst (λ (bytes : List ℕ). Adds a c bytes) (sym (concat-append xs ys)) (Adds-append a b c (concat xs) (concat ys) h k)

both_prefixed : (a b c : Option (List ℕ)) (xs ys : List (List ℕ)) → Adds a b (concat xs) → AddsPrefix b c (concat ys) → AddsPrefix a c (concat (xs ++ ys))
both_prefixed a b c xs ys h k = subst (λ (bytes : List ℕ). AddsPrefix a c bytes) (sym (concat-append xs ys)) (prefix_after a b c (concat xs) (concat ys) h k)

-- What is written of the later lines after a part that goes on is written of all.
whole_after : {State : Type 0} (answers : Meaning State) (state : State) (lines later : List Line) (st : Option State) (said : SessionEnd) (a b c : Option (List ℕ))
    → (h : GoesOn answers state lines later st a b) → WritesWhole answers h.now later said b c → WritesWhole answers state lines said a c
whole_after answers state lines later st said a b c h k = record {
  replies = h.replies ++ k.replies;
  session = h.session k.replies said k.session;
  written = both_written a b c h.replies k.replies h.written k.written;
}

begun_after : {State : Type 0} (answers : Meaning State) (state : State) (lines later : List Line) (st : Option State) (a b c : Option (List ℕ))
    → (h : GoesOn answers state lines later st a b) → WritesBegun answers h.now later b c → WritesBegun answers state lines a c
begun_after answers state lines later st a b c h k = record {
  replies = h.replies ++ k.replies;
  begins = h.begins k.replies k.begins;
  written = both_written a b c h.replies k.replies h.written k.written;
}

pub prefixed_after : {State : Type 0} (answers : Meaning State) (state : State) (lines later : List Line) (st : Option State) (a b c : Option (List ℕ))
    → (h : GoesOn answers state lines later st a b) → WritesPrefix answers h.now later b c → WritesPrefix answers state lines a c
prefixed_after answers state lines later st a b c h k = record {
  replies = h.replies ++ k.replies;
  begins = h.begins k.replies k.begins;
  written = both_prefixed a b c h.replies k.replies h.written k.written;
}

ends_after : {State : Type 0} (answers : Meaning State) (state : State) (lines later : List Line) (st : Option State) (said : SessionEnd) (first old new : ℕ) (a b c : Option (List ℕ))
    → (h : GoesOn answers state lines later st a b) → first ≤ old → Ends said answers h.now later old new b c → Ends said answers state lines first new a c
ends_after answers state lines later st ends.EndOfInput first old new a b c h since k = whole_after answers state lines later st ends.EndOfInput a b c h k
ends_after answers state lines later st ends.LineTooLong first old new a b c h since k = whole_after answers state lines later st ends.LineTooLong a b c h k
ends_after answers state lines later st ends.Quit first old new a b c h since (inl whole) = inl (whole_after answers state lines later st ends.Quit a b c h whole)
ends_after answers state lines later st ends.Quit first old new a b c h since (inr broken) = inr (rose_since first old new since broken.0, begun_after answers state lines later st a b c h broken.1)
ends_after answers state lines later st ends.ReadFault first old new a b c h since k = begun_after answers state lines later st a b c h k
ends_after answers state lines later st ends.WriteFault first old new a b c h since k = tt

on_after : {State : Type 0} (answers : Meaning State) (state : State) (lines later last_lines : List Line) (st st_after : Option State) (a b c : Option (List ℕ))
    → (h : GoesOn answers state lines later st a b) → GoesOn answers h.now later last_lines st_after b c → GoesOn answers state lines last_lines st_after a c
on_after answers state lines later last_lines st st_after a b c h k = record {
  now = k.now;
  replies = h.replies ++ k.replies;
  is_now = k.is_now;
  written = both_written a b c h.replies k.replies h.written k.written;
  session = λ more ending s. subst (λ (replies : List (List ℕ)). Session answers state lines replies ending) (sym (append_assoc h.replies k.replies more)) (h.session (k.replies ++ more) ending (k.session more ending s));
  begins = λ more s. subst (λ (replies : List (List ℕ)). Begins answers state lines replies) (sym (append_assoc h.replies k.replies more)) (h.begins (k.replies ++ more) (k.begins more s));
}

-- A part that goes on, and what the rest does.
pub goes_after : {State E : Type 0} (result : Result (Option SessionEnd) E) (answers : Meaning State) (state : State) (lines later last_lines : List Line) (st st_after : Option State) (first old new : ℕ) (a b c : Option (List ℕ))
    → (h : GoesOn answers state lines later st a b) → first ≤ old → Goes result answers h.now later last_lines st_after old new b c → Goes result answers state lines last_lines st_after first new a c
goes_after (Ok None) answers state lines later last_lines st st_after first old new a b c h since k = on_after answers state lines later last_lines st st_after a b c h k
goes_after (Ok (Some said)) answers state lines later last_lines st st_after first old new a b c h since k =
    (ends_after answers state lines later st said first old new a b c h since k.0, prefixed_after answers state lines later st a b c h k.1)
goes_after (Err error) answers state lines later last_lines st st_after first old new a b c h since k = prefixed_after answers state lines later st a b c h k
