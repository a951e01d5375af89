-- The end of the input, and what is said at the end of a session.
use Rattle.std.proofs.Common.{◌≡◌, ℕ, ◌==◌, Bool, true, false, List, [], ◌∷◌, ◌++◌, Option, None, Some, Result, Ok, Err, length, refl, sym, subst, arith, eqb-true}
use Rattle.std.proofs.lemmas.List.{append-nil}
use Rattle.std.specs.List.{concat}
use Rattle.std.specs.Option.{unwrap_or}
use Rattle.std.specs.Prelude.{IfOk, IsErr}
use Rattle.cu_session.specs.declared.end.SessionEnd.{SessionEnd}
use Rattle.cu_session.specs.declared.end.SessionEnd.TheVariants as ends
use Rattle.cu_session.specs.Answers.{Meaning}
use Rattle.cu_session.specs.Lines.{Line, has_long_line, lines_of}
use Rattle.cu_session.specs.Session.{no_more}
use Rattle.cu_session.specs.Ends.{Adds, AskerCount, Ends, HasEnd, SinkCount, SourceCount, WritesPrefix, WritesWhole}
use Rattle.cu_session.specs.Inside.Parts.{AskerPart, Closes, Goes, GoesOn, IsBegun, Keeps, SinkPart, SourcePart}
use Rattle.cu_session.proofs.LineLemmas.{last_long, lines_last, without_lf}
use Rattle.cu_session.proofs.WrittenLemmas.{Adds-nothing, whole_prefix}
use Rattle.cu_session.proofs.SessionLemmas.{nothing_prefixed, session_begins}

no_lines : lines_of [] ≡ []
unfolding lines_of
no_lines = refl

-- no line was begun
pub none_begun : {State : Type 0} (answers : Meaning State) (state : State) (line : List ℕ) (x : Option (List ℕ)) → (length line == 0) ≡ true
    → WritesWhole answers state (lines_of line) ends.EndOfInput x x × WritesPrefix answers state (lines_of line) x x
none_begun answers state [] x none =
    subst (λ (lines : List Line). WritesWhole answers state lines ends.EndOfInput x x × WritesPrefix answers state lines x x) (sym no_lines)
    (record { replies = []; session = no_more state; written = Adds-nothing x }, nothing_prefixed answers state [] x)
none_begun answers state (byte ∷ bytes) x none =
    let zero_long : length (byte ∷ bytes) ≡ 0 = eqb-true (length (byte ∷ bytes)) 0 none in
    let no : ⊥ = omega (arith, zero_long) in
    absurd no

-- the lines of a text that is a last line without LF
last_lines : (line : List ℕ) → (length line == 0) ≡ false → IsBegun line → without_lf line ∷ [] ≡ lines_of line
last_lines [] some h = let no : ⊥ = cc in absurd no
last_lines (byte ∷ bytes) some h = sym (lines_last byte bytes h.no_lf)

-- A session of which all lines were answered is whole.
no_more_ends : {State : Type 0} (answers : Meaning State) (state : State) (lines : List Line) (st : Option State) (a b : Option (List ℕ)) → GoesOn answers state lines [] st a b → WritesWhole answers state lines ends.EndOfInput a b
no_more_ends answers state lines st a b h =
    record { replies = h.replies ++ []; session = h.session [] ends.EndOfInput (no_more h.now); written = subst (λ (replies : List (List ℕ)). Adds a b (concat replies)) (sym (append-nil h.replies)) h.written }

whole_prefixed : {State : Type 0} (answers : Meaning State) (state : State) (lines : List Line) (said : SessionEnd) (a b : Option (List ℕ)) → WritesWhole answers state lines said a b → WritesPrefix answers state lines a b
whole_prefixed answers state lines said a b h =
    record { replies = h.replies; begins = session_begins answers state lines h.replies said h.session; written = whole_prefix a b (concat h.replies) h.written }

ends_last : {State : Type 0} (E : Type 0) (answers : Meaning State) (now : State) (lines : List Line) (end : Option SessionEnd) (state : Option State) (old new : ℕ) (a b : Option (List ℕ))
    → Goes {E = E} (Ok end) answers now lines [] state old new a b → Ends (unwrap_or end ends.EndOfInput) answers now lines old new a b × WritesPrefix answers now lines a b
ends_last E answers now lines None state old new a b h =
    let whole = no_more_ends answers now lines state a b h in
    (whole, whole_prefixed answers now lines ends.EndOfInput a b whole)
ends_last E answers now lines (Some said) state old new a b h = h

-- The last line was answered.
pub last_answered : {State : Type 0} (E : Type 0) (answers : Meaning State) (state : State) (line : List ℕ) (end : Option SessionEnd) (said : SessionEnd) (after : Option State) (old new : ℕ) (a b : Option (List ℕ))
    → (length line == 0) ≡ false → IsBegun line → said ≡ unwrap_or end ends.EndOfInput → Goes {E = E} (Ok end) answers state (without_lf line ∷ []) [] after old new a b
    → Ends said answers state (lines_of line) old new a b × WritesPrefix answers state (lines_of line) a b
last_answered E answers state line end said after old new a b some h is goes =
    subst (λ (e : SessionEnd). Ends e answers state (lines_of line) old new a b × WritesPrefix answers state (lines_of line) a b) (sym is)
    (subst (λ (lines : List Line). Ends (unwrap_or end ends.EndOfInput) answers state lines old new a b × WritesPrefix answers state lines a b) (last_lines line some h)
    (ends_last E answers state (without_lf line ∷ []) end after old new a b goes))

-- want of memory at the last line
pub last_err : {State E F : Type 0} (r : Result SessionEnd E) (error : F) (answers : Meaning State) (state : State) (line : List ℕ) (after : Option State) (old new old_after new_after : ℕ) (a b : Option (List ℕ)) → IsErr r → (length line == 0) ≡ false → IsBegun line
    → Goes {E = F} (Err error) answers state (without_lf line ∷ []) [] after old new a b → Closes r answers state (lines_of line) old_after new_after a b
last_err (Ok said) error answers state line after old new old_after new_after a b failed some h wrote = let no : ⊥ = cc in absurd no
last_err (Err other) error answers state line after old new old_after new_after a b failed some h wrote = subst (λ (lines : List Line). WritesPrefix answers state lines a b) (last_lines line some h) wrote

lines_end_of : (E : Type 0) (end : Option SessionEnd) (long : Bool) → long ≡ false → Keeps {E = E} (Ok end) long long → HasEnd (unwrap_or end ends.EndOfInput) long
lines_end_of E None long short h = short
lines_end_of E (Some said) long short h = h

pub last_answered_lines : (E : Type 0) (line : List ℕ) (end : Option SessionEnd) (said : SessionEnd) → IsBegun line → said ≡ unwrap_or end ends.EndOfInput
    → Keeps {E = E} (Ok end) (has_long_line line) (has_long_line line) → HasEnd said (has_long_line line)
last_answered_lines E line end said h is keeps =
    subst (λ (e : SessionEnd). HasEnd e (has_long_line line)) (sym is) (lines_end_of E end (has_long_line line) (last_long line h) keeps)

sink_of : (E : Type 0) (end : Option SessionEnd) (old new : ℕ) → SinkPart {E = E} (Ok end) old new → SinkCount {E = E} (Ok (unwrap_or end ends.EndOfInput)) old new
sink_of E None old new h = h
sink_of E (Some ends.EndOfInput) old new h = h
sink_of E (Some ends.Quit) old new h = h
sink_of E (Some ends.ReadFault) old new h = h
sink_of E (Some ends.WriteFault) old new h = h
sink_of E (Some ends.LineTooLong) old new h = h

pub last_sink : (E : Type 0) (end : Option SessionEnd) (said : SessionEnd) (old new : ℕ) → said ≡ unwrap_or end ends.EndOfInput → SinkPart {E = E} (Ok end) old new → SinkCount {E = E} (Ok said) old new
last_sink E end said old new is h = subst (λ (e : SessionEnd). SinkCount {E = E} (Ok e) old new) (sym is) (sink_of E end old new h)

asker_of : (E : Type 0) (end : Option SessionEnd) (old new : ℕ) → AskerPart {E = E} (Ok end) old new → AskerCount {E = E} (Ok (unwrap_or end ends.EndOfInput)) old new
asker_of E None old new h = h
asker_of E (Some ends.EndOfInput) old new h = h
asker_of E (Some ends.Quit) old new h = h
asker_of E (Some ends.ReadFault) old new h = h
asker_of E (Some ends.WriteFault) old new h = h
asker_of E (Some ends.LineTooLong) old new h = h

pub last_asker : (E : Type 0) (end : Option SessionEnd) (said : SessionEnd) (old new : ℕ) → said ≡ unwrap_or end ends.EndOfInput → AskerPart {E = E} (Ok end) old new → AskerCount {E = E} (Ok said) old new
last_asker E end said old new is h = subst (λ (e : SessionEnd). AskerCount {E = E} (Ok e) old new) (sym is) (asker_of E end old new h)

source_of : (E : Type 0) (end : Option SessionEnd) (old new : ℕ) → SourcePart {E = E} (Ok end) old new → SourceCount {E = E} (Ok (unwrap_or end ends.EndOfInput)) old new
source_of E None old new h = h
source_of E (Some ends.EndOfInput) old new h = h
source_of E (Some ends.Quit) old new h = h
source_of E (Some ends.ReadFault) old new h = h
source_of E (Some ends.WriteFault) old new h = h
source_of E (Some ends.LineTooLong) old new h = h

pub last_source : (E : Type 0) (end : Option SessionEnd) (said : SessionEnd) (count : ℕ) → said ≡ unwrap_or end ends.EndOfInput → SourcePart {E = E} (Ok end) count count → SourceCount {E = E} (Ok said) count count
last_source E end said count is h = subst (λ (e : SessionEnd). SourceCount {E = E} (Ok e) count count) (sym is) (source_of E end count count h)

-- ---- the whole input

pub goes_some : {State : Type 0} (E : Type 0) (end : Option SessionEnd) (said : SessionEnd) (answers : Meaning State) (now : State) (lines later : List Line) (state : Option State) (old new : ℕ) (a b : Option (List ℕ)) → end ≡ Some said
    → Goes {E = E} (Ok end) answers now lines later state old new a b → Ends said answers now lines old new a b × WritesPrefix answers now lines a b
goes_some E end said answers now lines later state old new a b is h = subst (λ (e : Option SessionEnd). Goes {E = E} (Ok e) answers now lines later state old new a b) is h

pub keeps_some : (E : Type 0) (end : Option SessionEnd) (said : SessionEnd) (first old new : Bool) → end ≡ Some said → old ≡ first → Keeps {E = E} (Ok end) old new → HasEnd said first
keeps_some E end said first old new is same h = subst (λ (long : Bool). HasEnd said long) same (subst (λ (e : Option SessionEnd). Keeps {E = E} (Ok e) old new) is h)

pub source_some : (E : Type 0) (end : Option SessionEnd) (said : SessionEnd) (first old new : ℕ) → end ≡ Some said → old ≡ first → SourcePart {E = E} (Ok end) old new → SourceCount {E = E} (Ok said) first new
source_some E end said first old new is same h =
    subst (λ (n : ℕ). SourceCount {E = E} (Ok said) n new) same (subst (λ (e : Option SessionEnd). SourcePart {E = E} (Ok e) old new) is h)

pub sink_some : (E : Type 0) (end : Option SessionEnd) (said : SessionEnd) (first old new : ℕ) → end ≡ Some said → old ≡ first → SinkPart {E = E} (Ok end) old new → SinkCount {E = E} (Ok said) first new
sink_some E end said first old new is same h =
    subst (λ (n : ℕ). SinkCount {E = E} (Ok said) n new) same (subst (λ (e : Option SessionEnd). SinkPart {E = E} (Ok e) old new) is h)

pub ok_err : {T E : Type 0} (r : Result T E) (P : T → Type 0) → IsErr r → IfOk r P
ok_err (Ok x) P failed = let no : ⊥ = cc in absurd no
ok_err (Err error) P failed = tt

pub source_count_err : {E : Type 0} (r : Result SessionEnd E) (old new : ℕ) → IsErr r → new ≡ old → SourceCount r old new
source_count_err (Ok said) old new failed h = let no : ⊥ = cc in absurd no
source_count_err (Err error) old new failed h = h

pub sink_count_err : {E : Type 0} (r : Result SessionEnd E) (old new : ℕ) → IsErr r → new ≡ old → SinkCount r old new
sink_count_err (Ok said) old new failed h = let no : ⊥ = cc in absurd no
sink_count_err (Err error) old new failed h = h

pub asker_some : (E : Type 0) (end : Option SessionEnd) (said : SessionEnd) (first old new : ℕ) → end ≡ Some said → old ≡ first → AskerPart {E = E} (Ok end) old new → AskerCount {E = E} (Ok said) first new
asker_some E end said first old new is same h =
    subst (λ (n : ℕ). AskerCount {E = E} (Ok said) n new) same (subst (λ (e : Option SessionEnd). AskerPart {E = E} (Ok e) old new) is h)

pub asker_count_err : {E : Type 0} (r : Result SessionEnd E) (old new : ℕ) → IsErr r → new ≡ old → AskerCount r old new
asker_count_err (Ok said) old new failed h = let no : ⊥ = cc in absurd no
asker_count_err (Err error) old new failed h = h
