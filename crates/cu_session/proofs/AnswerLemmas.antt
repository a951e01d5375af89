-- A line, its reply, and what follows it.
use Rattle.std.proofs.Common.{◌≡◌, ℕ, ◌==◌, ◌⊎◌, inl, inr, Bool, true, false, List, [], ◌∷◌, ◌++◌, Option, Result, Ok, Err, length, refl, sym, ap, subst, ◌∙◌}
use Rattle.std.proofs.lemmas.List.{append-nil}
use Rattle.std.specs.List.{concat}
use Rattle.std.specs.Prelude.{IsErr}
use Rattle.cu_io.specs.Puts.{PutCount, Puts}
use Rattle.cu_io.specs.declared.sink.Put.{Put}
use Rattle.cu_io.specs.declared.sink.Put.TheVariants as puts
use Rattle.cu_session.specs.declared.asker.Turn.{Turn}
use Rattle.cu_session.specs.declared.asker.Turn.TheVariants as turns
use Rattle.cu_session.specs.declared.end.SessionEnd.{SessionEnd}
use Rattle.cu_session.specs.declared.end.SessionEnd.TheVariants as ends
use Rattle.cu_io.specs.Rose.{Rose}
use Rattle.cu_session.specs.Answers.{Answer, BreaksOff, Gives, Meaning, ReplyCount}
use Rattle.cu_session.specs.Lines.{Line, content, has_long_line, is_too_long, lines_of, max_line_bytes}
use Rattle.cu_session.specs.Session.{IsDue, breaks_off, goes_on, next, quits, too_long}
use Rattle.cu_session.specs.Ends.{Adds, AddsPrefix, WritesBegun, WritesPrefix, WritesWhole}
use Rattle.cu_session.specs.Inside.Parts.{AskerPart, Goes, GoesOn, IsBegun, Keeps, SinkPart, SourcePart, ended}
use Rattle.cu_session.proofs.LineLemmas.{ended_long, full_long, lines_end, with_lf}
use Rattle.cu_session.proofs.WrittenLemmas.{Adds-nothing, whole_prefix}
use Rattle.cu_session.proofs.SessionLemmas.{nothing_prefixed, one_begins}

-- the answer that an asker gives is due to the line that says what it was asked
given_due : {State : Type 0} (answers : Meaning State) (state : State) (line : Line) (asked empty reply : List ℕ) (turn : Turn) (after : Option State) → is_too_long line ≡ false → content line ≡ asked
    → (g : Gives (answers state asked) turn empty reply after) → IsDue answers state line g.answer
given_due answers state line asked empty reply turn after fits is_asked g =
    record { fits = fits; answered = subst (λ (bytes : List ℕ). answers state bytes g.answer) (sym is_asked) g.due }

-- what was put is the reply, as the only one
only_reply : {State : Type 0} (is_due : Answer State → Type 0) (empty reply : List ℕ) (turn : Turn) (after : Option State) → empty ≡ [] → (g : Gives is_due turn empty reply after) → reply ≡ concat (g.answer.reply ∷ [])
only_reply is_due empty reply turn after is_empty g = g.added ∙ ap (λ (e : List ℕ). e ++ g.answer.reply) is_empty ∙ sym (append-nil g.answer.reply)

given_prefix : {State : Type 0} (answers : Meaning State) (state : State) (line : Line) (lines : List Line) (asked empty reply : List ℕ) (turn : Turn) (after : Option State) (a b : Option (List ℕ))
    → is_too_long line ≡ false → content line ≡ asked → empty ≡ [] → Gives (answers state asked) turn empty reply after → AddsPrefix a b reply → WritesPrefix answers state (line ∷ lines) a b
given_prefix answers state line lines asked empty reply turn after a b fits is_asked is_empty g wrote = record {
  replies = g.answer.reply ∷ [];
  begins = one_begins answers state line lines g.answer turn (given_due answers state line asked empty reply turn after fits is_asked g) (sym g.turned);
  written = subst (λ (bytes : List ℕ). AddsPrefix a b bytes) (only_reply (answers state asked) empty reply turn after is_empty g) wrote;
}

broken_prefix : {State : Type 0} (answers : Meaning State) (state : State) (lines : List Line) (empty reply : List ℕ) (turn : Turn) (old new : ℕ) (a b : Option (List ℕ))
    → empty ≡ [] → BreaksOff turn empty reply old new → AddsPrefix a b reply → WritesPrefix answers state lines a b
broken_prefix answers state lines empty reply turn old new a b is_empty h wrote =
    record { replies = []; begins = breaks_off state lines; written = subst (λ (bytes : List ℕ). AddsPrefix a b bytes) (h.nothing ∙ is_empty) wrote }

went_on : {State : Type 0} (answers : Meaning State) (state : State) (line : Line) (lines : List Line) (asked empty reply : List ℕ) (after : Option State) (a b : Option (List ℕ))
    → is_too_long line ≡ false → content line ≡ asked → empty ≡ [] → Gives (answers state asked) turns.Go empty reply after → Adds a b reply → GoesOn answers state (line ∷ lines) lines after a b
went_on answers state line lines asked empty reply after a b fits is_asked is_empty g wrote =
    let due = given_due answers state line asked empty reply turns.Go after fits is_asked g in
    record {
      now = g.answer.after;
      replies = g.answer.reply ∷ [];
      is_now = g.left;
      written = subst (λ (bytes : List ℕ). Adds a b bytes) (only_reply (answers state asked) empty reply turns.Go after is_empty g) wrote;
      session = λ more ending h. goes_on state line lines g.answer more ending due (sym g.turned) h;
      begins = λ more h. next state line lines g.answer more due (sym g.turned) h;
    }

went_out : {State : Type 0} (answers : Meaning State) (state : State) (line : Line) (lines : List Line) (asked empty reply : List ℕ) (after : Option State) (a b : Option (List ℕ))
    → is_too_long line ≡ false → content line ≡ asked → empty ≡ [] → Gives (answers state asked) turns.Quit empty reply after → Adds a b reply → WritesWhole answers state (line ∷ lines) ends.Quit a b
went_out answers state line lines asked empty reply after a b fits is_asked is_empty g wrote = record {
  replies = g.answer.reply ∷ [];
  session = quits state line lines g.answer (given_due answers state line asked empty reply turns.Quit after fits is_asked g) (sym g.turned);
  written = subst (λ (bytes : List ℕ). Adds a b bytes) (only_reply (answers state asked) empty reply turns.Quit after is_empty g) wrote;
}

broken_begun : {State : Type 0} (answers : Meaning State) (state : State) (lines : List Line) (empty reply : List ℕ) (turn : Turn) (old new : ℕ) (a b : Option (List ℕ))
    → empty ≡ [] → BreaksOff turn empty reply old new → Adds a b reply → WritesBegun answers state lines a b
broken_begun answers state lines empty reply turn old new a b is_empty h wrote =
    record { replies = []; begins = breaks_off state lines; written = subst (λ (bytes : List ℕ). Adds a b bytes) (h.nothing ∙ is_empty) wrote }

went : {State : Type 0} (E : Type 0) (answers : Meaning State) (state : State) (line : Line) (lines : List Line) (asked empty reply : List ℕ) (put : Put) (turn : Turn) (after : Option State) (old new : ℕ) (a b : Option (List ℕ))
    → is_too_long line ≡ false → content line ≡ asked → empty ≡ [] → Gives (answers state asked) turn empty reply after ⊎ BreaksOff turn empty reply old new
    → Puts put reply a b → Goes {E = E} (Ok (ended put turn)) answers state (line ∷ lines) lines after old new a b
went E answers state line lines asked empty reply puts.Failed turn after old new a b fits is_asked is_empty (inl g) wrote =
    (tt, given_prefix answers state line lines asked empty reply turn after a b fits is_asked is_empty g wrote)
went E answers state line lines asked empty reply puts.Failed turn after old new a b fits is_asked is_empty (inr broken) wrote =
    (tt, broken_prefix answers state (line ∷ lines) empty reply turn old new a b is_empty broken wrote)
went E answers state line lines asked empty reply puts.Done turns.Go after old new a b fits is_asked is_empty (inl g) wrote =
    went_on answers state line lines asked empty reply after a b fits is_asked is_empty g wrote
went E answers state line lines asked empty reply puts.Done turns.Go after old new a b fits is_asked is_empty (inr broken) wrote =
    let quits : turns.Go ≡ turns.Quit = broken.quits in
    let no : ⊥ = cc in
    absurd no
went E answers state line lines asked empty reply puts.Done turns.Quit after old new a b fits is_asked is_empty (inl g) wrote = (
  inl (went_out answers state line lines asked empty reply after a b fits is_asked is_empty g wrote),
  given_prefix answers state line lines asked empty reply turns.Quit after a b fits is_asked is_empty g (whole_prefix a b reply wrote),
)
went E answers state line lines asked empty reply puts.Done turns.Quit after old new a b fits is_asked is_empty (inr broken) wrote = (
  inr (broken.rose, broken_begun answers state (line ∷ lines) empty reply turns.Quit old new a b is_empty broken wrote),
  broken_prefix answers state (line ∷ lines) empty reply turns.Quit old new a b is_empty broken (whole_prefix a b reply wrote),
)

-- A line was answered, and its reply written.
pub answered : {State : Type 0} (E : Type 0) (answers : Meaning State) (state : State) (line : Line) (lines : List Line) (asked empty reply : List ℕ) (put : Put) (turn : Turn) (end : Option SessionEnd) (after : Option State) (old new : ℕ) (a b : Option (List ℕ))
    → end ≡ ended put turn → is_too_long line ≡ false → content line ≡ asked → empty ≡ [] → Gives (answers state asked) turn empty reply after ⊎ BreaksOff turn empty reply old new
    → Puts put reply a b → Goes {E = E} (Ok end) answers state (line ∷ lines) lines after old new a b
answered E answers state line lines asked empty reply put turn end after old new a b is fits is_asked is_empty choice wrote =
    subst (λ (e : Option SessionEnd). Goes {E = E} (Ok e) answers state (line ∷ lines) lines after old new a b) (sym is)
    (went E answers state line lines asked empty reply put turn after old new a b fits is_asked is_empty choice wrote)

-- Memory ran out before anything was written.
pub none_err : {State E : Type 0} (r : Result (Option SessionEnd) E) (answers : Meaning State) (state : State) (lines later : List Line) (after : Option State) (old new : ℕ) (x : Option (List ℕ)) → IsErr r
    → Goes r answers state lines later after old new x x
none_err (Ok end) answers state lines later after old new x failed = let no : ⊥ = cc in absurd no
none_err (Err error) answers state lines later after old new x failed = nothing_prefixed answers state lines x

kept : (E : Type 0) (put : Put) (turn : Turn) (long : Bool) → Keeps {E = E} (Ok (ended put turn)) long long
kept E puts.Failed turn long = tt
kept E puts.Done turns.Go long = refl
kept E puts.Done turns.Quit long = tt

pub answered_lines : (E : Type 0) (put : Put) (turn : Turn) (end : Option SessionEnd) (long : Bool) → end ≡ ended put turn → Keeps {E = E} (Ok end) long long
answered_lines E put turn end long is = subst (λ (e : Option SessionEnd). Keeps {E = E} (Ok e) long long) (sym is) (kept E put turn long)

counted : (E : Type 0) (put : Put) (turn : Turn) (old new : ℕ) → PutCount put old new → SinkPart {E = E} (Ok (ended put turn)) old new
counted E puts.Failed turn old new h = h
counted E puts.Done turns.Go old new h = h
counted E puts.Done turns.Quit old new h = h

pub answered_count : (E : Type 0) (put : Put) (turn : Turn) (end : Option SessionEnd) (old new : ℕ) → end ≡ ended put turn → PutCount put old new → SinkPart {E = E} (Ok end) old new
answered_count E put turn end old new is h = subst (λ (e : Option SessionEnd). SinkPart {E = E} (Ok e) old new) (sym is) (counted E put turn old new h)

quit_stands : (E : Type 0) (put : Put) (empty reply : List ℕ) (old new : ℕ) → empty ≡ [] → (reply ≡ [] → put ≡ puts.Done)
    → (new ≡ old) ⊎ ((reply ≡ empty) × Rose old new) → AskerPart {E = E} (Ok (ended put turns.Quit)) old new
quit_stands E puts.Failed empty reply old new none done (inl same) = same
quit_stands E puts.Failed empty reply old new none done (inr rose) =
    let wrong : puts.Failed ≡ puts.Done = done (rose.0 ∙ none) in
    let no : ⊥ = cc in
    absurd no
quit_stands E puts.Done empty reply old new none done (inl same) = inl same
quit_stands E puts.Done empty reply old new none done (inr rose) = inr rose.1

go_stands : (E : Type 0) (put : Put) (old new : ℕ) → new ≡ old → AskerPart {E = E} (Ok (ended put turns.Go)) old new
go_stands E puts.Failed old new same = same
go_stands E puts.Done old new same = same

turn_stands : (E : Type 0) (put : Put) (turn : Turn) (empty reply : List ℕ) (old new : ℕ) → empty ≡ [] → (reply ≡ [] → put ≡ puts.Done)
    → ReplyCount {E = E} (Ok turn) empty reply old new → AskerPart {E = E} (Ok (ended put turn)) old new
turn_stands E put turns.Go empty reply old new none done h = go_stands E put old new h
turn_stands E put turns.Quit empty reply old new none done h = quit_stands E put empty reply old new none done h

-- The asker's count after a line that was answered.
pub answered_stands : (E : Type 0) (put : Put) (turn : Turn) (end : Option SessionEnd) (empty reply : List ℕ) (old new : ℕ) → end ≡ ended put turn → empty ≡ []
    → (reply ≡ [] → put ≡ puts.Done) → ReplyCount {E = E} (Ok turn) empty reply old new → AskerPart {E = E} (Ok end) old new
answered_stands E put turn end empty reply old new is none done h =
    subst (λ (e : Option SessionEnd). AskerPart {E = E} (Ok e) old new) (sym is) (turn_stands E put turn empty reply old new none done h)

counted_source : (E : Type 0) (put : Put) (turn : Turn) (count : ℕ) → SourcePart {E = E} (Ok (ended put turn)) count count
counted_source E puts.Failed turn count = refl
counted_source E puts.Done turns.Go count = refl
counted_source E puts.Done turns.Quit count = refl

pub answered_source : (E : Type 0) (put : Put) (turn : Turn) (end : Option SessionEnd) (count : ℕ) → end ≡ ended put turn → SourcePart {E = E} (Ok end) count count
answered_source E put turn end count is = subst (λ (e : Option SessionEnd). SourcePart {E = E} (Ok e) count count) (sym is) (counted_source E put turn count)

-- ---- the LF of a line

-- the lines of a text whose next byte is an LF
lf_lines : (line : List ℕ) (byte : ℕ) (rest : List ℕ) → byte ≡ 10 → IsBegun line → with_lf line ∷ lines_of rest ≡ lines_of (line ++ byte ∷ rest)
lf_lines line byte rest is h = sym (ap (λ (b : ℕ). lines_of (line ++ b ∷ rest)) is ∙ lines_end line rest h.no_lf)

-- A line was answered at its LF, and the next line has no byte yet.
pub lf_goes : {State E : Type 0} (result : Result (Option SessionEnd) E) (answers : Meaning State) (state : State) (line after : List ℕ) (byte : ℕ) (rest : List ℕ) (st : Option State) (old new : ℕ) (a b : Option (List ℕ))
    → byte ≡ 10 → IsBegun line → after ≡ [] → Goes result answers state (with_lf line ∷ lines_of rest) (lines_of rest) st old new a b
    → Goes result answers state (lines_of (line ++ byte ∷ rest)) (lines_of (after ++ rest)) st old new a b
lf_goes result answers state line after byte rest st old new a b is h none k =
    subst (λ (later : List Line). Goes result answers state (lines_of (line ++ byte ∷ rest)) later st old new a b) (sym (ap (λ (bytes : List ℕ). lines_of (bytes ++ rest)) none))
    (subst (λ (lines : List Line). Goes result answers state lines (lines_of rest) st old new a b) (lf_lines line byte rest is h) k)

pub lf_long : {E : Type 0} (result : Result (Option SessionEnd) E) (line after : List ℕ) (byte : ℕ) (rest : List ℕ) → byte ≡ 10 → IsBegun line → after ≡ [] → Keeps result (has_long_line rest) (has_long_line rest)
    → Keeps result (has_long_line (line ++ byte ∷ rest)) (has_long_line (after ++ rest))
lf_long result line after byte rest is h none k =
    subst (λ (later : Bool). Keeps result (has_long_line (line ++ byte ∷ rest)) later) (sym (ap (λ (bytes : List ℕ). has_long_line (bytes ++ rest)) none))
    (subst (λ (long : Bool). Keeps result long (has_long_line rest)) (ended_long line rest h ∙ ap (λ (b : ℕ). has_long_line (line ++ b ∷ rest)) (sym is)) k)

-- Memory ran out at the LF of a line.
pub lf_err : {State E F : Type 0} (r : Result (Option SessionEnd) E) (error : F) (answers : Meaning State) (state : State) (line : List ℕ) (byte : ℕ) (rest : List ℕ) (later last : List Line) (st st_after : Option State) (old new old_after new_after : ℕ) (a b : Option (List ℕ))
    → IsErr r → byte ≡ 10 → IsBegun line → Goes {E = F} (Err error) answers state (with_lf line ∷ lines_of rest) later st old new a b
    → Goes r answers state (lines_of (line ++ byte ∷ rest)) last st_after old_after new_after a b
lf_err (Ok end) error answers state line byte rest later last st st_after old new old_after new_after a b failed is h k = let no : ⊥ = cc in absurd no
lf_err (Err other) error answers state line byte rest later last st st_after old new old_after new_after a b failed is h k =
    subst (λ (lines : List Line). WritesPrefix answers state lines a b) (lf_lines line byte rest is h) k

-- ---- a line that is too long

long_ends : {State : Type 0} (answers : Meaning State) (state : State) (first : Line) (others : List Line) (x : Option (List ℕ)) → is_too_long first ≡ true
    → WritesWhole answers state (first ∷ others) ends.LineTooLong x x × WritesPrefix answers state (first ∷ others) x x
long_ends answers state first others x long =
    (record { replies = []; session = too_long state first others long; written = Adds-nothing x }, nothing_prefixed answers state (first ∷ others) x)

-- A line that is full, and a byte more of it.
pub full_ends : {State : Type 0} (answers : Meaning State) (state : State) (line : List ℕ) (byte : ℕ) (rest : List ℕ) (x : Option (List ℕ)) → IsBegun line → (byte == 10) ≡ false → length line ≡ max_line_bytes
    → WritesWhole answers state (lines_of (line ++ byte ∷ rest)) ends.LineTooLong x x × WritesPrefix answers state (lines_of (line ++ byte ∷ rest)) x x
full_ends answers state line byte rest x h other full =
    let long = full_long line byte rest h other full in
    subst (λ (lines : List Line). WritesWhole answers state lines ends.LineTooLong x x × WritesPrefix answers state lines x x) (sym long.2) (long_ends answers state long.0 long.1 x long.3)
