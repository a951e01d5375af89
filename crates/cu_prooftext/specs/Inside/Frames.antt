-- Patterns and terms part by part: what stands around the part that is read next, and what is read
-- of it.
use Rattle.std.specs.Prelude.{ℕ, ◌+◌, ◌-◌, List, [], ◌∷◌, ◌++◌, Option, None, Some, Result, Ok, Err, codes, if◌then◌else◌, length, nat_eq}
use Rattle.std.proofs.Common.{◌⊎◌, inl, inr}
use Rattle.cu_calculus.specs.declared.ConId.{ConId}
use Rattle.cu_calculus.specs.declared.Head.{Head}
use Rattle.cu_calculus.specs.declared.Mode.{Mode}
use Rattle.cu_calculus.specs.declared.Mode.TheVariants as mode
use Rattle.cu_calculus.specs.Term as term
use Rattle.cu_calculus.specs.Term.{Pattern, Term}
use Rattle.cu_prooftext.specs.Inside.Readers.{◌>>=◌, Reader, choose, either, made, many, word}
use Rattle.cu_prooftext.specs.Inside.Reading.{alternative_at, alternative_list, character_at, count_at, head_at, index_at, integer_at, part_at, pattern_at, pattern_list, small_at, term_at, term_list}

-- ---- parts and what is around them

-- what is read after a part that is read, or after the beginning of one with its frame
abbrev pub goes_on : {A F : Type 0} → Reader A → (F → A × List ℕ → Result (A × List ℕ) ℕ)
    → (A ⊎ F) × List ℕ → Result (A × List ℕ) ℕ
goes_on r after (inl x, bytes) = Ok (x, bytes)
goes_on r after (inr f, bytes) = r bytes >>= after f

-- What is read after a part that has frames around it, the outermost first, in which so many levels
-- may stand.
abbrev pub resume : {A F : Type 0} → (ℕ → F → A × List ℕ → Result (A × List ℕ) ℕ) → ℕ → List F
    → Result (A × List ℕ) ℕ → Result (A × List ℕ) ℕ
resume after within [] m = m
resume after within (f ∷ fs) m = resume after (within - 1) fs m >>= after within f

-- a frame before the space in front of the part in it
abbrev pub awaiting : {A F : Type 0} → F → Reader (A ⊎ F)
awaiting f = made (λ u. inr f) (word (codes " "))

-- ---- patterns

-- What stands around a pattern: a constructor, the patterns before it and how many come after it;
-- or a name.
pub data PatternFrame : Type 0 where
  in_built : ConId → List Pattern → ℕ → PatternFrame
  in_named : ℕ → PatternFrame

-- a constructor with the patterns so far, of which so many are left
abbrev pub next_built : ConId → List Pattern → ℕ → Reader (Pattern ⊎ PatternFrame)
next_built c ps left bytes =
    if nat_eq left 0 then Ok (inl (term.Built c (pattern_list ps)), bytes)
    else awaiting (in_built c ps (left - 1)) bytes

abbrev pub begin_built : ℕ → Reader (Pattern ⊎ PatternFrame)
begin_built within bytes =
    index_at bytes >>= λ c. count_at within c.1 >>= λ n. next_built (record { 0 = c.0 }) [] n.0 n.1

abbrev pub begin_named : Reader (Pattern ⊎ PatternFrame)
begin_named bytes = small_at bytes >>= λ x. awaiting (in_named x.0) x.1

abbrev pub plain_begin_table : ℕ → ℕ → Option (Reader (Pattern ⊎ PatternFrame))
plain_begin_table within b =
    if nat_eq b 120 then Some (made (λ x. inl (term.Any x)) small_at)
    else if nat_eq b 105 then Some (made (λ l. inl (term.Exactly l)) integer_at)
    else if nat_eq b 104 then Some (made (λ l. inl (term.Exactly l)) character_at)
    else if nat_eq b 107 then Some (begin_built within) else None

-- the first part of a pattern that has no name
abbrev pub plain_begin : ℕ → Reader (Pattern ⊎ PatternFrame)
plain_begin within = choose (plain_begin_table within)

-- the first part of a pattern, in which so many levels may stand
abbrev pub begin_within : ℕ → Reader (Pattern ⊎ PatternFrame)
begin_within within bytes =
    if nat_eq within 0 then plain_begin within bytes
    else either 97 begin_named (plain_begin within) bytes

-- the first part of a pattern that is nested at most so deep
abbrev pub begin_pattern : ℕ → Reader (Pattern ⊎ PatternFrame)
begin_pattern levels bytes =
    if nat_eq levels 0 then Err (length bytes) else begin_within (levels - 1) bytes

-- what is read next once the pattern in a frame is read
abbrev pub take_pattern : PatternFrame → Pattern → Reader (Pattern ⊎ PatternFrame)
take_pattern (in_built c ps left) p bytes = next_built c (ps ++ p ∷ []) left bytes
take_pattern (in_named x) p bytes = Ok (inl (term.Named x p), bytes)

-- what is read of the pattern of a frame once the one in it is read
abbrev pub pattern_after : ℕ → PatternFrame → Pattern × List ℕ → Result (Pattern × List ℕ) ℕ
pattern_after within (in_built c ps left) p =
    made (λ more. term.Built c (pattern_list ((ps ++ p.0 ∷ []) ++ more)))
    (many (part_at (pattern_at within)) left) p.1
pattern_after within (in_named x) p = Ok (term.Named x p.0, p.1)

-- ---- terms

-- What stands around a term: a head, the terms before it and how many come after it; an
-- application, of which it is the function or the argument; a Let, of which it is the definition or
-- the body; a free variable; a choice, of which it is the left or the right side; a case distinction,
-- of which it is the scrutinee, before so many alternatives, or in an alternative with a pattern,
-- before so many others.
pub data TermFrame : Type 0 where
  in_whole : Head → List Term → ℕ → TermFrame
  in_part : Head → List Term → ℕ → TermFrame
  in_function : TermFrame
  in_argument : Term → TermFrame
  in_definition : ℕ → TermFrame
  in_let : ℕ → Term → TermFrame
  in_free : ℕ → TermFrame
  in_left : TermFrame
  in_right : Term → TermFrame
  in_scrutinee : Mode → ℕ → TermFrame
  in_alternative : Mode → Term → List (Pattern × Term) → Pattern → ℕ → TermFrame

abbrev pub next_whole : Head → List Term → ℕ → Reader (Term ⊎ TermFrame)
next_whole h ts left bytes =
    if nat_eq left 0 then Ok (inl (term.Whole h (term_list ts)), bytes)
    else awaiting (in_whole h ts (left - 1)) bytes

abbrev pub next_part : Head → List Term → ℕ → Reader (Term ⊎ TermFrame)
next_part h ts left bytes =
    if nat_eq left 0 then Ok (inl (term.Part h (term_list ts)), bytes)
    else awaiting (in_part h ts (left - 1)) bytes

-- a case distinction with the alternatives so far, of which so many are left
abbrev pub next_alternative : ℕ → Mode → Term → List (Pattern × Term) → ℕ
    → Reader (Term ⊎ TermFrame)
next_alternative within m a rows left bytes =
    if nat_eq left 0 then Ok (inl (term.Case m a (alternative_list rows)), bytes)
    else (part_at (pattern_at within) bytes
    >>= λ p. awaiting (in_alternative m a rows p.0 (left - 1)) p.1)

abbrev pub begin_whole : ℕ → Reader (Term ⊎ TermFrame)
begin_whole within bytes =
    head_at bytes >>= λ h. count_at within h.1 >>= λ n. next_whole h.0 [] n.0 n.1

abbrev pub begin_part : ℕ → Reader (Term ⊎ TermFrame)
begin_part within bytes =
    head_at bytes >>= λ h. count_at within h.1 >>= λ n. next_part h.0 [] n.0 n.1

abbrev pub plain_term_table : ℕ → ℕ → Option (Reader (Term ⊎ TermFrame))
plain_term_table within b =
    if nat_eq b 120 then Some (made (λ x. inl (term.Variable x)) small_at)
    else if nat_eq b 105 then Some (made (λ l. inl (term.Literal l)) integer_at)
    else if nat_eq b 104 then Some (made (λ l. inl (term.Literal l)) character_at)
    else if nat_eq b 119 then Some (begin_whole within)
    else if nat_eq b 113 then Some (begin_part within) else None

-- the first part of a term that may have no terms in it
abbrev pub plain_term : ℕ → Reader (Term ⊎ TermFrame)
plain_term within = choose (plain_term_table within)

abbrev pub begin_let : Reader (Term ⊎ TermFrame)
begin_let bytes = small_at bytes >>= λ x. awaiting (in_definition x.0) x.1

abbrev pub begin_free : Reader (Term ⊎ TermFrame)
begin_free bytes = small_at bytes >>= λ x. awaiting (in_free x.0) x.1

abbrev pub begin_case : ℕ → Mode → Reader (Term ⊎ TermFrame)
begin_case within m bytes = count_at within bytes >>= λ n. awaiting (in_scrutinee m n.0) n.1

abbrev pub deep_term_table : ℕ → ℕ → Option (Reader (Term ⊎ TermFrame))
deep_term_table within b =
    if nat_eq b 64 then Some (awaiting in_function)
    else if nat_eq b 108 then Some begin_let
    else if nat_eq b 110 then Some begin_free
    else if nat_eq b 111 then Some (awaiting in_left)
    else if nat_eq b 114 then Some (begin_case within mode.Rigid)
    else if nat_eq b 102 then Some (begin_case within mode.Flex)
    else plain_term_table within b

-- the first part of a term that has terms in it, or of any other
abbrev pub deep_term : ℕ → Reader (Term ⊎ TermFrame)
deep_term within = choose (deep_term_table within)

-- the first part of a term, in which so many levels may stand
abbrev pub begin_inside : ℕ → Reader (Term ⊎ TermFrame)
begin_inside within bytes =
    if nat_eq within 0 then plain_term within bytes else deep_term within bytes

-- the first part of a term that is nested at most so deep
abbrev pub begin_term : ℕ → Reader (Term ⊎ TermFrame)
begin_term levels bytes =
    if nat_eq levels 0 then Err (length bytes) else begin_inside (levels - 1) bytes

-- what is read next once the term in a frame is read
abbrev pub take_term : ℕ → TermFrame → Term → Reader (Term ⊎ TermFrame)
take_term within (in_whole h ts left) t bytes = next_whole h (ts ++ t ∷ []) left bytes
take_term within (in_part h ts left) t bytes = next_part h (ts ++ t ∷ []) left bytes
take_term within in_function t bytes = awaiting (in_argument t) bytes
take_term within (in_argument f) t bytes = Ok (inl (term.Apply f t), bytes)
take_term within (in_definition x) t bytes = awaiting (in_let x t) bytes
take_term within (in_let x a) t bytes = Ok (inl (term.Let x a t), bytes)
take_term within (in_free x) t bytes = Ok (inl (term.Free x t), bytes)
take_term within in_left t bytes = awaiting (in_right t) bytes
take_term within (in_right a) t bytes = Ok (inl (term.Or a t), bytes)
take_term within (in_scrutinee m n) t bytes = next_alternative within m t [] n bytes
take_term within (in_alternative m a rows p left) t bytes =
    next_alternative within m a (rows ++ (p, t) ∷ []) left bytes

-- what is read of the term of a frame once the one in it is read
abbrev pub term_after : ℕ → TermFrame → Term × List ℕ → Result (Term × List ℕ) ℕ
term_after within (in_whole h ts left) p =
    made (λ more. term.Whole h (term_list ((ts ++ p.0 ∷ []) ++ more)))
    (many (part_at (term_at within)) left) p.1
term_after within (in_part h ts left) p =
    made (λ more. term.Part h (term_list ((ts ++ p.0 ∷ []) ++ more)))
    (many (part_at (term_at within)) left) p.1
term_after within in_function p = made (λ a. term.Apply p.0 a) (part_at (term_at within)) p.1
term_after within (in_argument f) p = Ok (term.Apply f p.0, p.1)
term_after within (in_definition x) p = made (λ b. term.Let x p.0 b) (part_at (term_at within)) p.1
term_after within (in_let x a) p = Ok (term.Let x a p.0, p.1)
term_after within (in_free x) p = Ok (term.Free x p.0, p.1)
term_after within in_left p = made (λ b. term.Or p.0 b) (part_at (term_at within)) p.1
term_after within (in_right a) p = Ok (term.Or a p.0, p.1)
term_after within (in_scrutinee m n) p =
    made (λ rows. term.Case m p.0 (alternative_list rows))
    (many (alternative_at (term_at within) (pattern_at within)) n) p.1
term_after within (in_alternative m a rows q left) p =
    made (λ more. term.Case m a (alternative_list ((rows ++ (q, p.0) ∷ []) ++ more)))
    (many (alternative_at (term_at within) (pattern_at within)) left) p.1
