-- What is said of the reader of files.
use Rattle.std.proofs.Common.{◌≡◌, ◌∙◌, ℕ, ◌+◌, ◌-◌, ◌<◌, ◌≤◌, Bool, true, false, List, [], ◌∷◌, ◌++◌, Result, Ok, Err, append-nil, append_assoc, ap, arith, codes, cond, decimal, drop, length, length-append, nat_le, refl, replicate, subst, sym, take}
use Rattle.std.proofs.lemmas.Bool.{le-leb, leb-false, leb-true}
use Rattle.std.proofs.lemmas.List.{drop_at, length-replicate, length-take-le, take-append-drop, take_at}
use Rattle.cu_calculus.specs.Gives.{Claim}
use Rattle.cu_calculus.specs.Proof.{Step}
use Rattle.cu_prooftext.specs.Faults.{IsFault, IsPrefix, IsTextOf}
use Rattle.cu_prooftext.specs.Files.{IsFile, IsFileOf, goal_line}
use Rattle.cu_prooftext.specs.Format.{FitsIn64}
use Rattle.cu_prooftext.specs.Inside.Lines.{counted_at, file_at, goal_at, lines_at, read_alone, taken_at}
use Rattle.cu_prooftext.specs.Inside.Readers.{after, made, pair}
use Rattle.cu_prooftext.specs.Inside.Reading.{index_at}
use Rattle.cu_prooftext.proofs.LineLaws.{LinesGood, lines_of_text, lines_reads, lines_text, text_of_lines}
use Rattle.cu_prooftext.proofs.NumberLaws.{no_digit}
use Rattle.cu_prooftext.proofs.ReaderLaws.{PairGood, Reads, Stopped, Took, after_reads, always, ended_reads, ends_always, made_reads, pair_reads, pair_text}
use Rattle.cu_prooftext.proofs.ValueLaws.{index_reads, same_reads}
use Rattle.cu_prooftext.proofs.WholeLaws.{HasText, fault_is, read_again, read_has}

-- ---- so many bytes

abbrev itself : List ℕ → List ℕ
itself bytes = bytes

abbrev HasLength : ℕ → List ℕ → Type 0
HasLength n bytes = length bytes ≡ n

-- what is taken, by whether there are so many bytes
abbrev taken_if : ℕ → List ℕ → Bool → Result (List ℕ × List ℕ) ℕ
taken_if n bytes t = cond t (Ok (take n bytes, drop n bytes)) (Err 0)

taken_some : (n : ℕ) (bytes : List ℕ) → n ≤ length bytes → taken_at n bytes ≡ Ok (take n bytes, drop n bytes)
taken_some n bytes less = ap (taken_if n bytes) (le-leb n (length bytes) less)

taken_again : (n : ℕ) (front rest : List ℕ) → length front ≡ n → taken_at n (front ++ rest) ≡ Ok (front, rest)
taken_again n front rest is =
    taken_some n (front ++ rest) (omega (arith, is, length-append front rest))
    ∙ ap (λ (z : List ℕ). let m : Result (List ℕ × List ℕ) ℕ = Ok (z, drop n (front ++ rest)) in m) (take_at front rest n is)
    ∙ ap (λ (z : List ℕ). let m : Result (List ℕ × List ℕ) ℕ = Ok (front, z) in m) (drop_at front rest n is)

taken_takes_at : (n : ℕ) (bytes x rest : List ℕ) (t : Bool) → nat_le n (length bytes) ≡ t
    → taken_if n bytes t ≡ Ok (x, rest) → Took (taken_at n) itself (HasLength n) bytes x rest
taken_takes_at n bytes x rest true h e =
    let same : (take n bytes, drop n bytes) ≡ (x, rest) = cc e in
    let is : length (take n bytes) ≡ n = length-take-le n bytes (leb-true n (length bytes) h) in
    let took : Took (taken_at n) itself (HasLength n) bytes (take n bytes) (drop n bytes) = record {
      splits = sym (take-append-drop n bytes);
      good = is;
      alike = λ b bs others i. taken_again n (take n bytes) (b ∷ others) is;
    } in
    subst (λ (z : List ℕ × List ℕ). Took (taken_at n) itself (HasLength n) bytes z.0 z.1) same took
taken_takes_at n bytes x rest false h e = let never : ⊥ = cc e in absurd never

taken_stops_at : (n : ℕ) (bytes : List ℕ) (k : ℕ) (t : Bool) → nat_le n (length bytes) ≡ t
    → taken_if n bytes t ≡ Err k → Stopped (taken_at n) itself (HasLength n) bytes k
taken_stops_at n bytes k true h e = let never : ⊥ = cc e in absurd never
taken_stops_at n bytes k false h e =
    let lacking : List ℕ = replicate (n - length bytes) 0 in
    let count : length lacking ≡ n - length bytes = length-replicate {A = ℕ} (n - length bytes) 0 in
    record {
      front = bytes;
      back = [];
      splits = sym (append-nil bytes);
      left = let same : 0 ≡ k = cc e in same;
      whole = bytes ++ lacking;
      good = omega (arith, length-append bytes lacking, count, leb-false n (length bytes) h);
      more = lacking;
      begun = refl;
      wrong = λ b bs others i. let never : ⊥ = cc i in absurd never;
    }

taken_reads : (n : ℕ) → Reads always (taken_at n) itself (HasLength n)
taken_reads n = record {
  again = λ x rest good ends. taken_again n x rest good;
  takes = λ bytes x rest e. taken_takes_at n bytes x rest (nat_le n (length bytes)) refl e;
  stops = λ bytes k e. taken_stops_at n bytes k (nat_le n (length bytes)) refl e;
  some = replicate n 0;
  is_some = length-replicate {A = ℕ} n 0;
}

-- ---- the first line

abbrev GoalGood : List ℕ → Type 0
GoalGood goal = FitsIn64 (length goal)

abbrev counted_text : List ℕ → List ℕ
counted_text goal = (codes "goal " ++ decimal (length goal)) ++ (codes " " ++ goal)

abbrev count_text : ℕ → List ℕ
count_text n = codes "goal " ++ decimal n

abbrev goal_text : ℕ → List ℕ → List ℕ
goal_text n goal = codes " " ++ goal

counted_reads : Reads always counted_at counted_text GoalGood
counted_reads =
    made_reads always (λ (p : ℕ × List ℕ). p.1) (pair (after (codes "goal ") index_at) (λ n. after (codes " ") (taken_at n))) (pair_text count_text goal_text) counted_text
    (PairGood FitsIn64 HasLength) GoalGood
    (pair_reads no_digit always (after (codes "goal ") index_at) (λ n. after (codes " ") (taken_at n)) count_text goal_text FitsIn64 HasLength
    (after_reads no_digit (codes "goal ") index_at decimal FitsIn64 index_reads)
    (λ n g. after_reads always (codes " ") (taken_at n) itself (HasLength n) (taken_reads n))
    (λ n goal rest g h e. refl))
    (λ goal h. ((length goal, goal), (h, refl), refl))
    (λ p g. (subst FitsIn64 (sym g.1) g.0, ap (λ (n : ℕ). count_text n ++ goal_text n p.1) g.1))

line_is : (goal : List ℕ) → goal_line goal ≡ counted_text goal ++ codes "\n"
line_is goal = ap (λ (z : List ℕ). codes "goal " ++ z) (sym (append_assoc (decimal (length goal)) (codes " " ++ goal) (codes "\n")))

goal_reads : Reads always goal_at goal_line GoalGood
goal_reads =
    same_reads always goal_at (λ goal. counted_text goal ++ codes "\n") goal_line GoalGood GoalGood
    (ended_reads always always counted_at (codes "\n") counted_text GoalGood counted_reads (λ rest. refl))
    (λ goal h. (h, line_is goal))
    (λ goal h. h)

-- ---- files

abbrev Parts : Type 0
Parts = List ℕ × (List Claim × List Step)

abbrev FileGood : Parts → Type 0
FileGood = PairGood GoalGood (λ goal. LinesGood)

abbrev file_text : Parts → List ℕ
file_text = pair_text goal_line (λ goal. lines_text)

file_reads : Reads always file_at file_text FileGood
file_reads =
    pair_reads always always goal_at (λ goal. lines_at) goal_line (λ goal. lines_text) GoalGood (λ goal. LinesGood) goal_reads (λ goal g. lines_reads)
    (λ goal q rest g h e. ends_always (lines_text q ++ rest))

file_of_parts : (bytes : List ℕ) (q : Parts) → FileGood q → bytes ≡ file_text q → IsFileOf q.0 q.1.0 q.1.1 bytes
file_of_parts bytes q g e = record {
  size = g.0;
  body = lines_text q.1;
  is_body = text_of_lines (lines_text q.1) q.1 g.1 refl;
  text = e;
}

parts_of_file : (bytes goal : List ℕ) (claims : List Claim) (steps : List Step) → IsFileOf goal claims steps bytes → FileGood (goal, (claims, steps))
parts_of_file bytes goal claims steps f = (f.size, lines_of_text f.body claims steps f.is_body)

file_has : (bytes goal : List ℕ) (claims : List Claim) (steps : List Step) → IsFileOf goal claims steps bytes → bytes ≡ file_text (goal, (claims, steps))
file_has bytes goal claims steps f = f.text ∙ ap (λ (z : List ℕ). goal_line goal ++ z) f.is_body.text

-- ---- what is read, what is read again, and what a fault is

pub file_is : (bytes goal : List ℕ) (claims : List Claim) (steps : List Step) → read_alone file_at bytes ≡ Ok (goal, (claims, steps)) → IsFileOf goal claims steps bytes
file_is bytes goal claims steps e =
    let h = read_has file_at file_text FileGood file_reads bytes (goal, (claims, steps)) e in file_of_parts bytes (goal, (claims, steps)) h.0 h.1

pub file_is_read : (bytes goal : List ℕ) (claims : List Claim) (steps : List Step) → IsFileOf goal claims steps bytes → read_alone file_at bytes ≡ Ok (goal, (claims, steps))
file_is_read bytes goal claims steps f =
    read_again file_at file_text FileGood file_reads bytes (goal, (claims, steps)) (parts_of_file bytes goal claims steps f) (file_has bytes goal claims steps f)

file_of : (bytes : List ℕ) → HasText file_text FileGood bytes → IsFile bytes
file_of bytes h = (h.0.0, h.0.1.0, h.0.1.1, file_of_parts bytes h.0 h.1 h.2)

has_text : (bytes : List ℕ) → IsFile bytes → HasText file_text FileGood bytes
has_text bytes h = ((h.0, (h.1, h.2)), parts_of_file bytes h.0 h.1 h.2 h.3, file_has bytes h.0 h.1 h.2 h.3)

pub file_fault : (bytes : List ℕ) (n : ℕ) → read_alone file_at bytes ≡ Err n → (n ≤ length bytes) × IsFault IsFile bytes (length bytes - n)
file_fault bytes n e =
    let f = fault_is file_at file_text FileGood file_reads bytes n e in (
      f.0,
      record {
        within = f.1.within;
        begins = (f.1.begins.0, file_of (take (length bytes - n) bytes ++ f.1.begins.0) f.1.begins.1);
        stops = λ less prefix. f.1.stops less (prefix.0, has_text (take (length bytes - n + 1) bytes ++ prefix.0) prefix.1);
        no_text = λ h. f.1.no_text (has_text bytes h);
      },
    )

-- a file is the file of one goal and one proof
pub one_file : (bytes goal other : List ℕ) (claims others : List Claim) (steps more : List Step) → IsFileOf goal claims steps bytes → IsFileOf other others more bytes
    → (goal ≡ other) × (claims ≡ others) × (steps ≡ more)
one_file bytes goal other claims others steps more a b =
    let same = sym (file_is_read bytes goal claims steps a) ∙ file_is_read bytes other others more b in
    let parts : (goal, (claims, steps)) ≡ (other, (others, more)) = cc same in
    (ap (λ (q : Parts). q.0) parts, ap (λ (q : Parts). q.1.0) parts, ap (λ (q : Parts). q.1.1) parts)
