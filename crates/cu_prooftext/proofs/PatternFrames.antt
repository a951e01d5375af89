-- Patterns are read part by part.
use Rattle.std.proofs.Common.{◌≡◌, ℕ, zero, suc, ◌+◌, ◌-◌, ◌<◌, ◌≤◌, Bool, true, false, List, [], ◌∷◌, ◌++◌, Option, None, Some, Result, Ok, Err, length, refl, ap, sym, ◌∙◌, ◌⊎◌, inl, arith, cond, map, nat_eq}
use Rattle.std.proofs.lemmas.Bool.Decides.{nat_tests}
use Rattle.cu_calculus.specs.declared.ConId.{ConId}
use Rattle.cu_calculus.specs.Term as term
use Rattle.cu_calculus.specs.Term.{Pattern}
use Rattle.cu_kernel.specs.TermsOf.{pattern_of, patterns_of}
use Rattle.cu_kernel.specs.declared.term.Pattern as boxed
use Rattle.cu_prooftext.specs.Inside.Frames.{PatternFrame, awaiting, begin_built, begin_named, begin_pattern, begin_within, goes_on, in_built, in_named, next_built, pattern_after, plain_begin, plain_begin_table, take_pattern}
use Rattle.cu_prooftext.specs.Inside.Readers.{◌>>=◌, Reader, choose, chosen, either, made, many, pair}
use Rattle.cu_prooftext.specs.Inside.Reading.{built_at, built_pattern, character_at, count_at, index_at, integer_at, named_pattern, nothing, part_at, pattern_at, pattern_list, pattern_table, plain_patterns, small_at}
use Rattle.cu_prooftext.proofs.FrameLaws.{EachShrinks, Frames, Linked, Shrinks, awaiting_shrinks, awaits, bind_assoc, bind_shrinks, choose_linked, choose_shorter, chosen_linked, cond_shrinks, counted, if_linked, if_shrinks, leaf, made_shrinks, nothing_shrinks, pair_made, reads_shrink, stands, tie, whole_of}
use Rattle.cu_prooftext.proofs.LoopLaws.{bind_same}
use Rattle.cu_prooftext.proofs.NumberLaws.{no_digit}
use Rattle.cu_prooftext.proofs.PatternLaws.{CountFits, count_reads}
use Rattle.cu_prooftext.proofs.ValueLaws.{IsChar, IsInt, character_reads, index_reads, integer_reads, literal_tail, small_reads}
use Rattle.cu_prooftext.specs.Format.{FitsIn32, FitsIn64}
use Rattle.cu_prooftext.specs.Text.{count_text}
use Rattle.std.proofs.Common.{decimal}

-- the code's patterns as the logic lists them
pub patterns_are : (ps : List boxed.Pattern) → patterns_of ps ≡ pattern_list (map pattern_of ps)
patterns_are [] = refl
patterns_are (p ∷ ps) = ap (term.MorePatterns (pattern_of p)) (patterns_are ps)

-- ---- the parts of a constructor

built_is : (within : ℕ) (c : ConId) (ps : List Pattern) (left : ℕ) (bytes : List ℕ)
    → made (λ more. term.Built c (pattern_list (ps ++ more))) (many (part_at (pattern_at within)) left) bytes
    ≡ (next_built c ps left bytes >>= goes_on (pattern_at within) (pattern_after within))
built_is within c ps left bytes =
    counted (pattern_at within) (pattern_after within) (λ qs. term.Built c (pattern_list qs)) (in_built c) (λ xs n p. refl) ps left bytes

-- what is counted and then read
counted_last : {A B C : Type 0} (c : A) (n : ℕ) (m : Result (List B × List ℕ) ℕ) (f : A × (ℕ × List B) → C)
    → (((m >>= tie n) >>= tie c) >>= stands f) ≡ (m >>= stands (λ xs. f (c, (n, xs))))
counted_last c n (Ok q) f = refl
counted_last c n (Err k) f = refl

counted_next : {A B C : Type 0} (c : A) (m : Result (ℕ × List ℕ) ℕ) (k : ℕ → List ℕ → Result (List B × List ℕ) ℕ) (f : A × (ℕ × List B) → C)
    → (((m >>= λ n. k n.0 n.1 >>= tie n.0) >>= tie c) >>= stands f) ≡ (m >>= λ n. k n.0 n.1 >>= stands (λ xs. f (c, (n.0, xs))))
counted_next c (Ok n) k f = counted_last c n.0 (k n.0 n.1) f
counted_next c (Err n) k f = refl

counted_first : {A B C : Type 0} (m : Result (A × List ℕ) ℕ) (l : List ℕ → Result (ℕ × List ℕ) ℕ) (k : ℕ → List ℕ → Result (List B × List ℕ) ℕ) (f : A × (ℕ × List B) → C)
    → ((m >>= λ c. (l c.1 >>= λ n. k n.0 n.1 >>= tie n.0) >>= tie c.0) >>= stands f) ≡ (m >>= λ c. l c.1 >>= λ n. k n.0 n.1 >>= stands (λ xs. f (c.0, (n.0, xs))))
counted_first (Ok c) l k f = counted_next c.0 (l c.1) k f
counted_first (Err n) l k f = refl

pub counted_made : {A B C : Type 0} (r : Reader A) (l : Reader ℕ) (k : ℕ → Reader (List B)) (f : A × (ℕ × List B) → C) (bytes : List ℕ)
    → made f (pair r (λ c. pair l k)) bytes ≡ (r bytes >>= λ c. l c.1 >>= λ n. k n.0 n.1 >>= stands (λ xs. f (c.0, (n.0, xs))))
counted_made r l k f bytes = counted_first (r bytes) l k f

begun_at : {A B C : Type 0} (c : A) (m : Result (ℕ × List ℕ) ℕ) (s : A → ℕ → List ℕ → Result B ℕ) (g : B → Result C ℕ)
    → ((m >>= λ n. s c n.0 n.1) >>= g) ≡ (m >>= λ n. s c n.0 n.1 >>= g)
begun_at c (Ok n) s g = refl
begun_at c (Err n) s g = refl

pub begun_first : {A B C : Type 0} (m : Result (A × List ℕ) ℕ) (l : List ℕ → Result (ℕ × List ℕ) ℕ) (s : A → ℕ → List ℕ → Result B ℕ) (g : B → Result C ℕ)
    → ((m >>= λ c. l c.1 >>= λ n. s c.0 n.0 n.1) >>= g) ≡ (m >>= λ c. l c.1 >>= λ n. s c.0 n.0 n.1 >>= g)
begun_first (Ok c) l s g = begun_at c.0 (l c.1) s g
begun_first (Err n) l s g = refl

built_begins : (within : ℕ) (bytes : List ℕ)
    → made built_pattern (built_at within (pattern_at within)) bytes ≡ (begin_built within bytes >>= goes_on (pattern_at within) (pattern_after within))
built_begins within bytes =
    counted_made index_at (count_at within) (λ n. many (part_at (pattern_at within)) n) built_pattern bytes
    ∙ bind_same (index_at bytes) (λ c. count_at within c.1 >>= λ n. many (part_at (pattern_at within)) n.0 n.1 >>= stands (λ xs. built_pattern (c.0, (n.0, xs))))
    (λ c. count_at within c.1 >>= λ n. next_built (record { 0 = c.0 }) [] n.0 n.1 >>= goes_on (pattern_at within) (pattern_after within))
    (λ c e.
    bind_same (count_at within c.1) (λ n. many (part_at (pattern_at within)) n.0 n.1 >>= stands (λ xs. built_pattern (c.0, (n.0, xs))))
    (λ n. next_built (record { 0 = c.0 }) [] n.0 n.1 >>= goes_on (pattern_at within) (pattern_after within))
    (λ n i. built_is within (record { 0 = c.0 }) [] n.0 n.1))
    ∙ sym (begun_first (index_at bytes) (count_at within) (λ c n. next_built (record { 0 = c }) [] n) (goes_on (pattern_at within) (pattern_after within)))

named_begins : (within : ℕ) (bytes : List ℕ)
    → made named_pattern (pair small_at (λ x. part_at (pattern_at within))) bytes ≡ (begin_named bytes >>= goes_on (pattern_at within) (pattern_after within))
named_begins within bytes =
    pair_made named_pattern small_at (λ x. part_at (pattern_at within)) bytes
    ∙ bind_same (small_at bytes) (λ x. part_at (pattern_at within) x.1 >>= stands (λ y. named_pattern (x.0, y)))
    (λ x. awaiting (in_named x.0) x.1 >>= goes_on (pattern_at within) (pattern_after within))
    (λ x e. sym (awaits (pattern_at within) (pattern_after within) (in_named x.0) x.1))
    ∙ sym (bind_assoc (small_at bytes) (λ x. awaiting (in_named x.0) x.1) (goes_on (pattern_at within) (pattern_after within)))

-- ---- the tables

plain_linked : (within b : ℕ) → Linked (pattern_at within) (pattern_after within) (plain_patterns within (pattern_at within) b) (plain_begin_table within b)
plain_linked within b =
    let r = pattern_at within in
    let k = pattern_after within in
    let built : Option (Reader Pattern) = cond (nat_eq b 107) (Some (made built_pattern (built_at within (pattern_at within)))) None in
    let built_begun : Option (Reader (Pattern ⊎ PatternFrame)) = cond (nat_eq b 107) (Some (begin_built within)) None in
    let char : Option (Reader Pattern) = cond (nat_eq b 104) (Some (made term.Exactly character_at)) built in
    let char_begun : Option (Reader (Pattern ⊎ PatternFrame)) = cond (nat_eq b 104) (Some (made (whole_of term.Exactly) character_at)) built_begun in
    let int : Option (Reader Pattern) = cond (nat_eq b 105) (Some (made term.Exactly integer_at)) char in
    let int_begun : Option (Reader (Pattern ⊎ PatternFrame)) = cond (nat_eq b 105) (Some (made (whole_of term.Exactly) integer_at)) char_begun in
    if_linked r k (nat_eq b 120) (made term.Any small_at) (made (whole_of term.Any) small_at) int int_begun (leaf small_at term.Any r k)
    (if_linked r k (nat_eq b 105) (made term.Exactly integer_at) (made (whole_of term.Exactly) integer_at) char char_begun (leaf integer_at term.Exactly r k)
    (if_linked r k (nat_eq b 104) (made term.Exactly character_at) (made (whole_of term.Exactly) character_at) built built_begun (leaf character_at term.Exactly r k)
    (if_linked r k (nat_eq b 107) (made built_pattern (built_at within (pattern_at within))) (begin_built within) None None (built_begins within) tt)))

named_at : (within b : ℕ) (bs : List ℕ) (t : Bool)
    → chosen (cond t (Some (made named_pattern (pair small_at (λ x. part_at (pattern_at within))))) (plain_patterns within (pattern_at within) b)) b bs
    ≡ (cond t (begin_named bs) (chosen (plain_begin_table within b) b bs) >>= goes_on (pattern_at within) (pattern_after within))
named_at within b bs true = named_begins within bs
named_at within b bs false =
    chosen_linked (pattern_at within) (pattern_after within) (plain_patterns within (pattern_at within) b) (plain_begin_table within b) b bs (plain_linked within b)

either_begins : (w : ℕ) (bytes : List ℕ)
    → choose (pattern_table (suc w) (pattern_at (suc w))) bytes ≡ (either 97 begin_named (plain_begin (suc w)) bytes >>= goes_on (pattern_at (suc w)) (pattern_after (suc w)))
either_begins w [] = refl
either_begins w (b ∷ bs) = named_at (suc w) b bs (nat_eq b 97)

inside_begins : (within : ℕ) (bytes : List ℕ) → pattern_at (suc within) bytes ≡ (begin_within within bytes >>= goes_on (pattern_at within) (pattern_after within))
inside_begins zero bytes =
    choose_linked (pattern_at 0) (pattern_after 0) (plain_patterns 0 (pattern_at 0)) (plain_begin_table 0) (plain_linked 0) bytes
inside_begins (suc w) bytes =
    let more : nat_eq (suc w) 0 ≡ false = grind (arith, nat_tests) in
    either_begins w bytes
    ∙ ap (λ (t : Bool). cond t (plain_begin (suc w) bytes) (either 97 begin_named (plain_begin (suc w)) bytes) >>= goes_on (pattern_at (suc w)) (pattern_after (suc w))) (sym more)

pattern_begins_at : (levels : ℕ) (bytes : List ℕ) (t : Bool) → nat_eq levels 0 ≡ t
    → pattern_at levels bytes ≡ (cond t (Err (length bytes)) (begin_within (levels - 1) bytes) >>= goes_on (pattern_at (levels - 1)) (pattern_after (levels - 1)))
pattern_begins_at levels bytes true h = let none : levels ≡ 0 = grind (arith, nat_tests) in ap (λ (k : ℕ). pattern_at k bytes) none
pattern_begins_at levels bytes false h =
    let more : levels ≡ suc (levels - 1) = grind (arith, nat_tests) in
    ap (λ (k : ℕ). pattern_at k bytes) more ∙ inside_begins (levels - 1) bytes

pattern_takes : (within : ℕ) (f : PatternFrame) (x : Pattern) (bytes : List ℕ)
    → pattern_after within f (x, bytes) ≡ (take_pattern f x bytes >>= goes_on (pattern_at within) (pattern_after within))
pattern_takes within (in_built c ps left) x bytes = built_is within c (ps ++ x ∷ []) left bytes
pattern_takes within (in_named y) x bytes = refl

-- ---- lengths

pub small_shrinks : Shrinks small_at
small_shrinks = reads_shrink no_digit small_at decimal FitsIn32 small_reads

pub index_shrinks : Shrinks index_at
index_shrinks = reads_shrink no_digit index_at decimal FitsIn64 index_reads

pub count_shrinks : (within : ℕ) → Shrinks (count_at within)
count_shrinks within = reads_shrink no_digit (count_at within) count_text (CountFits within) (count_reads within)

pub integer_shrinks : Shrinks integer_at
integer_shrinks = reads_shrink no_digit integer_at literal_tail IsInt integer_reads

pub character_shrinks : Shrinks character_at
character_shrinks = reads_shrink no_digit character_at literal_tail IsChar character_reads

next_shrinks : (c : ConId) (ps : List Pattern) (left : ℕ) → Shrinks (next_built c ps left)
next_shrinks c ps left =
    cond_shrinks (nat_eq left 0) (nothing (inl (term.Built c (pattern_list ps)))) (awaiting (in_built c ps (left - 1)))
    (nothing_shrinks (inl (term.Built c (pattern_list ps)))) (awaiting_shrinks (in_built c ps (left - 1)))

built_shrinks : (within : ℕ) → Shrinks (begin_built within)
built_shrinks within =
    bind_shrinks index_at (λ c bytes. count_at within bytes >>= λ n. next_built (record { 0 = c }) [] n.0 n.1) index_shrinks
    (λ c. bind_shrinks (count_at within) (λ n. next_built (record { 0 = c }) [] n) (count_shrinks within) (λ n. next_shrinks (record { 0 = c }) [] n))

named_shrinks : Shrinks begin_named
named_shrinks = bind_shrinks small_at (λ x. awaiting (in_named x)) small_shrinks (λ x. awaiting_shrinks (in_named x))

table_shrinks : (within b : ℕ) → EachShrinks (plain_begin_table within b)
table_shrinks within b =
    let built_begun : Option (Reader (Pattern ⊎ PatternFrame)) = cond (nat_eq b 107) (Some (begin_built within)) None in
    let char_begun : Option (Reader (Pattern ⊎ PatternFrame)) = cond (nat_eq b 104) (Some (made (whole_of term.Exactly) character_at)) built_begun in
    let int_begun : Option (Reader (Pattern ⊎ PatternFrame)) = cond (nat_eq b 105) (Some (made (whole_of term.Exactly) integer_at)) char_begun in
    if_shrinks (nat_eq b 120) (made (whole_of term.Any) small_at) int_begun (made_shrinks (whole_of term.Any) small_at small_shrinks)
    (if_shrinks (nat_eq b 105) (made (whole_of term.Exactly) integer_at) char_begun (made_shrinks (whole_of term.Exactly) integer_at integer_shrinks)
    (if_shrinks (nat_eq b 104) (made (whole_of term.Exactly) character_at) built_begun (made_shrinks (whole_of term.Exactly) character_at character_shrinks)
    (if_shrinks (nat_eq b 107) (begin_built within) None (built_shrinks within) tt)))

plain_shorter : (within : ℕ) (bytes : List ℕ) (x : Pattern ⊎ PatternFrame) (rest : List ℕ) → plain_begin within bytes ≡ Ok (x, rest) → length rest < length bytes
plain_shorter within bytes x rest e = choose_shorter (plain_begin_table within) (table_shrinks within) bytes x rest e

named_shorter : (within b : ℕ) (bs : List ℕ) (t : Bool) (x : Pattern ⊎ PatternFrame) (rest : List ℕ) → cond t (begin_named bs) (plain_begin within (b ∷ bs)) ≡ Ok (x, rest)
    → length rest < length (b ∷ bs)
named_shorter within b bs true x rest e = let less = named_shrinks bs x rest e in omega (arith, less)
named_shorter within b bs false x rest e = plain_shorter within (b ∷ bs) x rest e

either_shorter : (within : ℕ) (bytes : List ℕ) (x : Pattern ⊎ PatternFrame) (rest : List ℕ) → either 97 begin_named (plain_begin within) bytes ≡ Ok (x, rest) → length rest < length bytes
either_shorter within [] x rest e = let never : ⊥ = cc e in absurd never
either_shorter within (b ∷ bs) x rest e = named_shorter within b bs (nat_eq b 97) x rest e

within_shorter : (within : ℕ) (bytes : List ℕ) (t : Bool) (x : Pattern ⊎ PatternFrame) (rest : List ℕ)
    → cond t (plain_begin within bytes) (either 97 begin_named (plain_begin within) bytes) ≡ Ok (x, rest) → length rest < length bytes
within_shorter within bytes true x rest e = plain_shorter within bytes x rest e
within_shorter within bytes false x rest e = either_shorter within bytes x rest e

begin_shorter_at : (levels : ℕ) (bytes : List ℕ) (t : Bool) (x : Pattern ⊎ PatternFrame) (rest : List ℕ)
    → cond t (Err (length bytes)) (begin_within (levels - 1) bytes) ≡ Ok (x, rest) → length rest < length bytes
begin_shorter_at levels bytes true x rest e = let never : ⊥ = cc e in absurd never
begin_shorter_at levels bytes false x rest e = within_shorter (levels - 1) bytes (nat_eq (levels - 1) 0) x rest e

take_shorter_at : (f : PatternFrame) (x : Pattern) (bytes : List ℕ) (y : Pattern ⊎ PatternFrame) (rest : List ℕ) → take_pattern f x bytes ≡ Ok (y, rest) → length rest ≤ length bytes
take_shorter_at (in_built c ps left) x bytes y rest e = next_shrinks c (ps ++ x ∷ []) left bytes y rest e
take_shorter_at (in_named z) x bytes y rest e = nothing_shrinks (inl (term.Named z x)) bytes y rest e

-- the reader of patterns goes part by part
pub pattern_frames : Frames pattern_at pattern_after begin_pattern (λ within. take_pattern)
pattern_frames = record {
  begins = λ levels bytes. pattern_begins_at levels bytes (nat_eq levels 0) refl;
  takes = pattern_takes;
  begin_shorter = λ levels bytes x rest e. begin_shorter_at levels bytes (nat_eq levels 0) x rest e;
  take_shorter = λ within f x bytes y rest e. take_shorter_at f x bytes y rest e;
}
