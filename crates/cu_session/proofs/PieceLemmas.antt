-- The bytes of a piece, one after another.
use Rattle.std.proofs.Common.{◌≡◌, ℕ, ◌+◌, ◌<◌, ◌≤◌, Bool, true, false, List, ◌∷◌, ◌++◌, Option, None, Some, Result, Ok, Err, length, refl, sym, ap, subst, ◌∙◌}
use Rattle.std.proofs.lemmas.List.{drop_all, drop_more}
use Rattle.std.specs.Option.{is_some}
use Rattle.std.specs.Prelude.{IsErr, OnOk, drop, get_or}
use Rattle.cu_session.specs.declared.end.SessionEnd.{SessionEnd}
use Rattle.cu_session.specs.Answers.{Meaning}
use Rattle.cu_session.specs.Lines.{Line, has_long_line, lines_of}
use Rattle.cu_session.specs.Inside.Parts.{AskerPart, Goes, GoesOn, Keeps, SinkPart, SourcePart}
use Rattle.cu_session.proofs.SessionLemmas.{goes_after}

-- what is left of a piece from its next byte on
piece_text : (piece rest : List ℕ) (i byte d : ℕ) → i < length piece → byte ≡ get_or piece i d → drop i piece ++ rest ≡ byte ∷ (drop (i + 1) piece ++ rest)
piece_text piece rest i byte d below is = ap (λ (xs : List ℕ). xs ++ rest) (drop_more piece i d below ∙ ap (λ (x : ℕ). x ∷ drop (i + 1) piece) (sym is))

-- The next byte of a piece was taken.
pub piece_goes : {State E : Type 0} (result : Result (Option SessionEnd) E) (answers : Meaning State) (now_first : State) (whole : List Line) (line piece rest : List ℕ) (i byte d : ℕ) (last : List Line) (state state_after : Option State) (first old new : ℕ) (a b c : Option (List ℕ))
    → i < length piece → byte ≡ get_or piece i d → GoesOn answers now_first whole (lines_of (line ++ (drop i piece ++ rest))) state a b → first ≤ old
    → ((now : State) → state ≡ Some now → Goes result answers now (lines_of (line ++ byte ∷ (drop (i + 1) piece ++ rest))) last state_after old new b c)
    → Goes result answers now_first whole last state_after first new a c
piece_goes result answers now_first whole line piece rest i byte d last state state_after first old new a b c below is h since k =
    goes_after result answers now_first whole (lines_of (line ++ (drop i piece ++ rest))) last state state_after first old new a b c h since
    (subst (λ (text : List ℕ). Goes result answers h.now (lines_of (line ++ text)) last state_after old new b c) (sym (piece_text piece rest i byte d below is)) (k h.now h.is_now))

pub piece_lines : {E : Type 0} (result : Result (Option SessionEnd) E) (first : Bool) (line piece rest : List ℕ) (i byte d : ℕ) (last : Bool) → i < length piece → byte ≡ get_or piece i d
    → has_long_line (line ++ (drop i piece ++ rest)) ≡ first → Keeps result (has_long_line (line ++ byte ∷ (drop (i + 1) piece ++ rest))) last → Keeps result first last
piece_lines result first line piece rest i byte d last below is h k =
    subst (λ (long : Bool). Keeps result long last) (ap (λ (text : List ℕ). has_long_line (line ++ text)) (sym (piece_text piece rest i byte d below is)) ∙ h) k

-- what is due after the end doesn't matter
pub goes_ended : {State : Type 0} (E : Type 0) (end : Option SessionEnd) (answers : Meaning State) (now : State) (lines later last : List Line) (state : Option State) (old new : ℕ) (a b : Option (List ℕ)) → is_some end ≡ true
    → Goes {E = E} (Ok end) answers now lines later state old new a b → Goes {E = E} (Ok end) answers now lines last state old new a b
goes_ended E None answers now lines later last state old new a b some h = let no : ⊥ = cc in absurd no
goes_ended E (Some said) answers now lines later last state old new a b some h = h

pub keeps_ended : (E : Type 0) (end : Option SessionEnd) (old new last : Bool) → is_some end ≡ true → Keeps {E = E} (Ok end) old new → Keeps {E = E} (Ok end) old last
keeps_ended E None old new last some h = let no : ⊥ = cc in absurd no
keeps_ended E (Some said) old new last some h = h

pub sink_ended : (E : Type 0) (end : Option SessionEnd) (first old new : ℕ) → old ≡ first → SinkPart {E = E} (Ok end) old new → SinkPart {E = E} (Ok end) first new
sink_ended E end first old new same h = subst (λ (n : ℕ). SinkPart {E = E} (Ok end) n new) same h

pub asker_ended : (E : Type 0) (end : Option SessionEnd) (first old new : ℕ) → old ≡ first → AskerPart {E = E} (Ok end) old new → AskerPart {E = E} (Ok end) first new
asker_ended E end first old new same h = subst (λ (n : ℕ). AskerPart {E = E} (Ok end) n new) same h

-- what isn't ended goes on
pub goes_none : {State : Type 0} (E : Type 0) (end : Option SessionEnd) (answers : Meaning State) (now : State) (lines later : List Line) (state : Option State) (old new : ℕ) (a b : Option (List ℕ)) → is_some end ≡ false
    → Goes {E = E} (Ok end) answers now lines later state old new a b → GoesOn answers now lines later state a b
goes_none E None answers now lines later state old new a b none h = h
goes_none E (Some said) answers now lines later state old new a b none h = let no : ⊥ = cc in absurd no

pub keeps_none : (E : Type 0) (end : Option SessionEnd) (old new : Bool) → is_some end ≡ false → Keeps {E = E} (Ok end) old new → new ≡ old
keeps_none E None old new none h = h
keeps_none E (Some said) old new none h = let no : ⊥ = cc in absurd no

pub sink_none : (E : Type 0) (end : Option SessionEnd) (first old new : ℕ) → is_some end ≡ false → old ≡ first → SinkPart {E = E} (Ok end) old new → new ≡ first
sink_none E None first old new none same h = h ∙ same
sink_none E (Some said) first old new none same h = let no : ⊥ = cc in absurd no

pub source_none : (E : Type 0) (end : Option SessionEnd) (first old new : ℕ) → is_some end ≡ false → old ≡ first → SourcePart {E = E} (Ok end) old new → new ≡ first
source_none E None first old new none same h = h ∙ same
source_none E (Some said) first old new none same h = let no : ⊥ = cc in absurd no

pub asker_none : (E : Type 0) (end : Option SessionEnd) (first old new : ℕ) → is_some end ≡ false → old ≡ first → AskerPart {E = E} (Ok end) old new → new ≡ first
asker_none E None first old new none same h = h ∙ same
asker_none E (Some said) first old new none same h = let no : ⊥ = cc in absurd no

-- a piece of which nothing is left
pub piece_done : {State : Type 0} (answers : Meaning State) (now : State) (whole : List Line) (line piece rest : List ℕ) (i : ℕ) (state : Option State) (a b : Option (List ℕ)) → length piece ≤ i
    → GoesOn answers now whole (lines_of (line ++ (drop i piece ++ rest))) state a b → GoesOn answers now whole (lines_of (line ++ rest)) state a b
piece_done answers now whole line piece rest i state a b past h =
    subst (λ (left : List ℕ). GoesOn answers now whole (lines_of (line ++ (left ++ rest))) state a b) (drop_all i piece past) h

pub piece_done_lines : (first : Bool) (line piece rest : List ℕ) (i : ℕ) → length piece ≤ i → has_long_line (line ++ (drop i piece ++ rest)) ≡ first → has_long_line (line ++ rest) ≡ first
piece_done_lines first line piece rest i past h = subst (λ (left : List ℕ). has_long_line (line ++ (left ++ rest)) ≡ first) (drop_all i piece past) h

-- want of memory after a part
pub goes_err : {State E F : Type 0} (r : Result (Option SessionEnd) E) (error : F) (answers : Meaning State) (now : State) (lines later last : List Line) (state state_after : Option State) (old new old_after new_after : ℕ) (a b : Option (List ℕ)) → IsErr r
    → Goes {E = F} (Err error) answers now lines later state old new a b → Goes r answers now lines last state_after old_after new_after a b
goes_err (Ok end) error answers now lines later last state state_after old new old_after new_after a b failed h = let no : ⊥ = cc in absurd no
goes_err (Err other) error answers now lines later last state state_after old new old_after new_after a b failed h = h

pub keeps_err : {E : Type 0} (r : Result (Option SessionEnd) E) (old new : Bool) → IsErr r → Keeps r old new
keeps_err (Ok end) old new failed = let no : ⊥ = cc in absurd no
keeps_err (Err other) old new failed = tt

pub sink_err : {E : Type 0} (r : Result (Option SessionEnd) E) (old new : ℕ) → IsErr r → new ≡ old → SinkPart r old new
sink_err (Ok end) old new failed h = let no : ⊥ = cc in absurd no
sink_err (Err other) old new failed h = h

pub asker_err : {E : Type 0} (r : Result (Option SessionEnd) E) (old new : ℕ) → IsErr r → new ≡ old → AskerPart r old new
asker_err (Ok end) old new failed h = let no : ⊥ = cc in absurd no
asker_err (Err other) old new failed h = h

pub source_err : {E : Type 0} (r : Result (Option SessionEnd) E) (count : ℕ) → IsErr r → SourcePart r count count
source_err (Ok end) count failed = let no : ⊥ = cc in absurd no
source_err (Err other) count failed = refl

-- nothing is said of an asker that ran out of memory
pub ready_err : {T E : Type 0} (r : Result T E) (P : Type 0) → IsErr r → OnOk r P
ready_err (Ok x) P failed = let no : ⊥ = cc in absurd no
ready_err (Err error) P failed = tt
