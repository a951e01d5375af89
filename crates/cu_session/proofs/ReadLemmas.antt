-- What a read took.
use Rattle.std.proofs.Common.{◌≡◌, ℕ, ◌≤◌, ◌++◌, List, [], Option, Some, Result, Ok, Err, drop, length, take, sym, ap, subst, ◌∙◌, arith}
use Rattle.std.proofs.lemmas.List.{append-nil, drop_all, length-take-le, take-append-drop, take-append-le, take_all}
use Rattle.std.specs.Prelude.{IsErr}
use Rattle.cu_io.specs.Reads.{Reads}
use Rattle.cu_io.specs.declared.source.Took.TheVariants as took
use Rattle.cu_session.specs.declared.end.SessionEnd.{SessionEnd}
use Rattle.cu_session.specs.declared.end.SessionEnd.TheVariants as ends
use Rattle.cu_session.specs.Lines.{Line, has_long_line, lines_of}
use Rattle.cu_session.specs.Answers.{Meaning}
use Rattle.cu_session.specs.Ends.{Ends, HasEnd, WritesPrefix}
use Rattle.cu_session.specs.Inside.Parts.{Closes, Goes, Keeps, SourcePart}
use Rattle.cu_session.proofs.SessionLemmas.{nothing_begun, nothing_prefixed}

split_by : (count : ℕ) (text room filled : List ℕ) → filled ≡ take count text ++ drop count room → count ≤ length text → take count filled ++ drop count text ≡ text
split_by count text room filled moved within =
    let size : length (take count text) ≡ count = length-take-le count text within in
    let front : take count filled ≡ take count text =
    ap (take count) moved ∙ take-append-le count (take count text) (drop count room) (omega (arith, size)) ∙ take_all count (take count text) (omega (arith, size)) in
    ap (λ (xs : List ℕ). xs ++ drop count text) front ∙ take-append-drop count text

told_of : (count : ℕ) (room filled text : List ℕ) (before after : Option (List ℕ)) → Reads (took.Bytes count) room filled before after → before ≡ Some text → Reads (took.Bytes count) room filled (Some text) after
told_of count room filled text before after h is = subst (λ (b : Option (List ℕ)). Reads (took.Bytes count) room filled b after) is h

-- A piece of the input was read and taken.
pub read_goes : {State E : Type 0} (result : Result (Option SessionEnd) E) (answers : Meaning State) (state : State) (line line_after room filled text : List ℕ) (count : ℕ) (before after : Option (List ℕ)) (st : Option State) (old new : ℕ) (a b : Option (List ℕ))
    → Reads (took.Bytes count) room filled before after → before ≡ Some text
    → ((rest : List ℕ) → Goes result answers state (lines_of (line ++ (take count filled ++ rest))) (lines_of (line_after ++ rest)) st old new a b)
    → (rest : List ℕ) × (after ≡ Some rest) × Goes result answers state (lines_of (line ++ text)) (lines_of (line_after ++ rest)) st old new a b
read_goes result answers state line line_after room filled text count before after st old new a b told is k =
    let h = told_of count room filled text before after told is in (
      drop count text,
      h.2,
      subst (λ (whole : List ℕ). Goes result answers state (lines_of (line ++ whole)) (lines_of (line_after ++ drop count text)) st old new a b)
          (split_by count text room filled h.1.moved h.1.within) (k (drop count text)),
    )

pub read_lines : {E : Type 0} (result : Result (Option SessionEnd) E) (line line_after room filled text : List ℕ) (count : ℕ) (before after : Option (List ℕ))
    → Reads (took.Bytes count) room filled before after → before ≡ Some text
    → ((rest : List ℕ) → Keeps result (has_long_line (line ++ (take count filled ++ rest))) (has_long_line (line_after ++ rest)))
    → (rest : List ℕ) × (after ≡ Some rest) × Keeps result (has_long_line (line ++ text)) (has_long_line (line_after ++ rest))
read_lines result line line_after room filled text count before after told is k =
    let h = told_of count room filled text before after told is in (
      drop count text,
      h.2,
      subst (λ (whole : List ℕ). Keeps result (has_long_line (line ++ whole)) (has_long_line (line_after ++ drop count text)))
          (split_by count text room filled h.1.moved h.1.within) (k (drop count text)),
    )

abbrev nothing : List ℕ
nothing = []

drop_none : (count : ℕ) → drop count nothing ≡ nothing
drop_none count = drop_all count nothing (omega arith)

-- at the end of the input nothing was left
read_none : (count : ℕ) (room filled text : List ℕ) (before after : Option (List ℕ)) → count ≡ 0 → Reads (took.Bytes count) room filled before after → before ≡ Some text → (text ≡ []) × (after ≡ Some [])
read_none count room filled text before after zero told is =
    let h = told_of count room filled text before after told is in
    let none : text ≡ [] = h.1.at_end.0 zero in
    (none, h.2 ∙ ap Some (ap (drop count) none ∙ drop_none count))

same_line : (line read text : List ℕ) → read ≡ line → text ≡ [] → read ≡ line ++ text
same_line line read text is none = is ∙ sym (append-nil line) ∙ ap (λ (t : List ℕ). line ++ t) (sym none)

-- The end of the input was read and taken.
pub end_goes : {State : Type 0} (answers : Meaning State) (state : State) (line read room filled text : List ℕ) (count : ℕ) (before after : Option (List ℕ)) (said : SessionEnd) (old new : ℕ) (a b : Option (List ℕ))
    → count ≡ 0 → Reads (took.Bytes count) room filled before after → before ≡ Some text → read ≡ line
    → Ends said answers state (lines_of read) old new a b × WritesPrefix answers state (lines_of read) a b
    → (rest : List ℕ) × (after ≡ Some rest) × (Ends said answers state (lines_of (line ++ text)) old new a b × WritesPrefix answers state (lines_of (line ++ text)) a b)
end_goes answers state line read room filled text count before after said old new a b zero told is is_line h =
    let none = read_none count room filled text before after zero told is in
    ([], none.1, subst (λ (whole : List ℕ). Ends said answers state (lines_of whole) old new a b × WritesPrefix answers state (lines_of whole) a b) (same_line line read text is_line none.0) h)

pub end_lines : (line read room filled text : List ℕ) (count : ℕ) (before after : Option (List ℕ)) (said : SessionEnd)
    → count ≡ 0 → Reads (took.Bytes count) room filled before after → before ≡ Some text → read ≡ line → HasEnd said (has_long_line read)
    → (rest : List ℕ) × (after ≡ Some rest) × HasEnd said (has_long_line (line ++ text))
end_lines line read room filled text count before after said zero told is is_line h =
    let none = read_none count room filled text before after zero told is in
    ([], none.1, subst (λ (whole : List ℕ). HasEnd said (has_long_line whole)) (same_line line read text is_line none.0) h)

-- Memory ran out at the end of the input.
pub end_err : {State E F : Type 0} (r : Result (Option SessionEnd) E) (error : F) (answers : Meaning State) (state : State) (line read room filled text : List ℕ) (count : ℕ) (before after : Option (List ℕ)) (later : List ℕ → List Line) (st : Option State) (old new : ℕ) (a b : Option (List ℕ))
    → IsErr r → count ≡ 0 → Reads (took.Bytes count) room filled before after → before ≡ Some text → read ≡ line
    → Closes {E = F} (Err error) answers state (lines_of read) old new a b
    → (rest : List ℕ) × (after ≡ Some rest) × Goes r answers state (lines_of (line ++ text)) (later rest) st old new a b
end_err (Ok end) error answers state line read room filled text count before after later st old new a b failed zero told is is_line h = let no : ⊥ = cc in absurd no
end_err (Err other) error answers state line read room filled text count before after later st old new a b failed zero told is is_line h =
    let none = read_none count room filled text before after zero told is in
    ([], none.1, subst (λ (whole : List ℕ). WritesPrefix answers state (lines_of whole) a b) (same_line line read text is_line none.0) h)

-- A read failed.
pub fault_goes : {State : Type 0} (answers : Meaning State) (state : State) (lines : List Line) (text : List ℕ) (before after : Option (List ℕ)) (old new : ℕ) (x : Option (List ℕ)) → after ≡ before → before ≡ Some text
    → (rest : List ℕ) × (after ≡ Some rest) × (Ends ends.ReadFault answers state lines old new x x × WritesPrefix answers state lines x x)
fault_goes answers state lines text before after old new x same is = (text, same ∙ is, (nothing_begun answers state lines x, nothing_prefixed answers state lines x))

pub source_same : {E : Type 0} (r : Result (Option SessionEnd) E) (old new : ℕ) → new ≡ old → SourcePart r old old → SourcePart r old new
source_same r old new same h = subst (λ (n : ℕ). SourcePart r old n) (sym same) h
