-- Terms are read part by part.
use Rattle.std.proofs.Common.{◌≡◌, ℕ, zero, suc, ◌+◌, ◌-◌, ◌<◌, ◌≤◌, Bool, true, false, List, [], ◌∷◌, ◌++◌, Option, None, Some, Result, Ok, Err, length, refl, ap, sym, ◌∙◌, ◌⊎◌, inl, append-nil, arith, codes, cond, map, nat_eq}
use Rattle.std.proofs.lemmas.Bool.Decides.{nat_tests}
use Rattle.cu_calculus.specs.declared.Head.{Head}
use Rattle.cu_calculus.specs.declared.Mode.{Mode}
use Rattle.cu_calculus.specs.declared.Mode.TheVariants as mode
use Rattle.cu_calculus.specs.Term as term
use Rattle.cu_calculus.specs.Term.{Pattern, Term}
use Rattle.cu_kernel.specs.TermsOf.{alternatives_of, term_of, terms_of}
use Rattle.cu_kernel.specs.declared.term.Pattern as boxed_pattern
use Rattle.cu_kernel.specs.declared.term.Term as boxed
use Rattle.cu_prooftext.specs.Inside.Frames.{TermFrame, awaiting, begin_case, begin_free, begin_inside, begin_let, begin_part, begin_term, begin_whole, deep_term, deep_term_table, goes_on, in_alternative, in_argument, in_definition, in_free, in_function, in_left, in_let, in_part, in_right, in_scrutinee, in_whole, next_alternative, next_part, next_whole, plain_term, plain_term_table, take_term, term_after}
use Rattle.cu_prooftext.specs.Inside.FramesOf.{row_of}
use Rattle.cu_prooftext.specs.Inside.Readers.{◌>>=◌, Reader, made, many, pair, word_at}
use Rattle.cu_prooftext.specs.Inside.Reading.{alternative_at, alternative_list, apply_term, call_at, case_at, case_term, character_at, count_at, free_term, head_at, integer_at, let_term, nothing, or_term, part_at, part_term, pattern_at, plain_terms, small_at, term_at, term_list, term_table, two_at, whole_term}
use Rattle.cu_prooftext.specs.Format.{HeadInRange}
use Rattle.cu_prooftext.specs.Text.{head_text, pattern_text}
use Rattle.cu_prooftext.proofs.FrameLaws.{EachShrinks, Frames, Linked, Shrinks, after_word_is, awaiting_shrinks, awaits, bind_assoc, bind_shrinks, choose_linked, choose_shorter, cond_shrinks, counted, if_linked, if_shrinks, leaf, made_shrinks, many_more, nothing_shrinks, one_more, pair_made, reads_shrink, second, stands, tie, whole_of}
use Rattle.cu_prooftext.proofs.LoopLaws.{bind_same}
use Rattle.cu_prooftext.proofs.NumberLaws.{no_digit}
use Rattle.cu_prooftext.proofs.PatternFrames.{begun_first, character_shrinks, count_shrinks, counted_made, integer_shrinks, small_shrinks}
use Rattle.cu_prooftext.proofs.PatternLaws.{PatternGood, pattern_reads}
use Rattle.cu_prooftext.proofs.ReaderLaws.{after_reads}
use Rattle.cu_prooftext.proofs.ValueLaws.{head_reads}

-- the code's terms and alternatives as the logic lists them
pub terms_are : (ts : List boxed.Term) → terms_of ts ≡ term_list (map term_of ts)
terms_are [] = refl
terms_are (t ∷ ts) = ap (term.MoreTerms (term_of t)) (terms_are ts)

pub rows_are : (rows : List (boxed_pattern.Pattern × boxed.Term)) → alternatives_of rows ≡ alternative_list (map row_of rows)
rows_are [] = refl
rows_are (a ∷ rows) = ap (term.MoreAlternatives (row_of a).0 (row_of a).1) (rows_are rows)

-- ---- the parts of calls

whole_is : (within : ℕ) (h : Head) (ts : List Term) (left : ℕ) (bytes : List ℕ)
    → made (λ more. term.Whole h (term_list (ts ++ more))) (many (part_at (term_at within)) left) bytes
    ≡ (next_whole h ts left bytes >>= goes_on (term_at within) (term_after within))
whole_is within h ts left bytes =
    counted (term_at within) (term_after within) (λ us. term.Whole h (term_list us)) (in_whole h) (λ xs n p. refl) ts left bytes

part_is : (within : ℕ) (h : Head) (ts : List Term) (left : ℕ) (bytes : List ℕ)
    → made (λ more. term.Part h (term_list (ts ++ more))) (many (part_at (term_at within)) left) bytes
    ≡ (next_part h ts left bytes >>= goes_on (term_at within) (term_after within))
part_is within h ts left bytes =
    counted (term_at within) (term_after within) (λ us. term.Part h (term_list us)) (in_part h) (λ xs n p. refl) ts left bytes

whole_begins : (within : ℕ) (bytes : List ℕ)
    → made whole_term (call_at within (term_at within)) bytes ≡ (begin_whole within bytes >>= goes_on (term_at within) (term_after within))
whole_begins within bytes =
    counted_made head_at (count_at within) (λ n. many (part_at (term_at within)) n) whole_term bytes
    ∙ bind_same (head_at bytes) (λ h. count_at within h.1 >>= λ n. many (part_at (term_at within)) n.0 n.1 >>= stands (λ xs. whole_term (h.0, (n.0, xs))))
    (λ h. count_at within h.1 >>= λ n. next_whole h.0 [] n.0 n.1 >>= goes_on (term_at within) (term_after within))
    (λ h e.
    bind_same (count_at within h.1) (λ n. many (part_at (term_at within)) n.0 n.1 >>= stands (λ xs. whole_term (h.0, (n.0, xs))))
    (λ n. next_whole h.0 [] n.0 n.1 >>= goes_on (term_at within) (term_after within))
    (λ n i. whole_is within h.0 [] n.0 n.1))
    ∙ sym (begun_first (head_at bytes) (count_at within) (λ h n. next_whole h [] n) (goes_on (term_at within) (term_after within)))

part_begins : (within : ℕ) (bytes : List ℕ)
    → made part_term (call_at within (term_at within)) bytes ≡ (begin_part within bytes >>= goes_on (term_at within) (term_after within))
part_begins within bytes =
    counted_made head_at (count_at within) (λ n. many (part_at (term_at within)) n) part_term bytes
    ∙ bind_same (head_at bytes) (λ h. count_at within h.1 >>= λ n. many (part_at (term_at within)) n.0 n.1 >>= stands (λ xs. part_term (h.0, (n.0, xs))))
    (λ h. count_at within h.1 >>= λ n. next_part h.0 [] n.0 n.1 >>= goes_on (term_at within) (term_after within))
    (λ h e.
    bind_same (count_at within h.1) (λ n. many (part_at (term_at within)) n.0 n.1 >>= stands (λ xs. part_term (h.0, (n.0, xs))))
    (λ n. next_part h.0 [] n.0 n.1 >>= goes_on (term_at within) (term_after within))
    (λ n i. part_is within h.0 [] n.0 n.1))
    ∙ sym (begun_first (head_at bytes) (count_at within) (λ h n. next_part h [] n) (goes_on (term_at within) (term_after within)))

-- ---- alternatives

row_more : (within : ℕ) (m : Mode) (a : Term) (rows : List (Pattern × Term)) (n : ℕ) (x : Pattern) (y : Term × List ℕ)
    → (many (alternative_at (term_at within) (pattern_at within)) n y.1 >>= stands (λ more. term.Case m a (alternative_list (rows ++ (x, y.0) ∷ more))))
    ≡ term_after within (in_alternative m a rows x n) y
row_more within m a rows n x y =
    bind_same (many (alternative_at (term_at within) (pattern_at within)) n y.1) (stands (λ more. term.Case m a (alternative_list (rows ++ (x, y.0) ∷ more))))
    (stands (λ more. term.Case m a (alternative_list ((rows ++ (x, y.0) ∷ []) ++ more))))
    (λ w e. ap (λ (z : List (Pattern × Term)). let o : Result (Term × List ℕ) ℕ = Ok (term.Case m a (alternative_list z), w.1) in o) (sym (one_more rows (x, y.0) w.0)))

row_second : (within : ℕ) (m : Mode) (a : Term) (rows : List (Pattern × Term)) (n : ℕ) (x : Pattern) (k : Result (Term × List ℕ) ℕ)
    → ((k >>= tie x) >>= λ p. many (alternative_at (term_at within) (pattern_at within)) n p.1 >>= stands (λ more. term.Case m a (alternative_list (rows ++ p.0 ∷ more))))
    ≡ (k >>= term_after within (in_alternative m a rows x n))
row_second within m a rows n x (Ok y) = row_more within m a rows n x y
row_second within m a rows n x (Err e) = refl

row_first : (within : ℕ) (m : Mode) (a : Term) (rows : List (Pattern × Term)) (n : ℕ) (k : Result (Pattern × List ℕ) ℕ)
    → ((k >>= λ x. part_at (term_at within) x.1 >>= tie x.0) >>= λ p. many (alternative_at (term_at within) (pattern_at within)) n p.1 >>= stands (λ more. term.Case m a (alternative_list (rows ++ p.0 ∷ more))))
    ≡ (k >>= λ p. part_at (term_at within) p.1 >>= term_after within (in_alternative m a rows p.0 n))
row_first within m a rows n (Ok x) = row_second within m a rows n x.0 (part_at (term_at within) x.1)
row_first within m a rows n (Err e) = refl

rows_is : (within : ℕ) (m : Mode) (a : Term) (rows : List (Pattern × Term)) (left : ℕ) (bytes : List ℕ)
    → made (λ more. term.Case m a (alternative_list (rows ++ more))) (many (alternative_at (term_at within) (pattern_at within)) left) bytes
    ≡ (next_alternative within m a rows left bytes >>= goes_on (term_at within) (term_after within))
rows_is within m a rows zero bytes =
    ap (λ (z : List (Pattern × Term)). let o : Result (Term × List ℕ) ℕ = Ok (term.Case m a (alternative_list z), bytes) in o) (append-nil rows)
rows_is within m a rows (suc n) bytes =
    let less : n ≡ suc n - 1 = omega arith in
    let more : nat_eq (suc n) 0 ≡ false = grind (arith, nat_tests) in
    many_more (λ more. term.Case m a (alternative_list (rows ++ more))) (alternative_at (term_at within) (pattern_at within)) n bytes
    ∙ row_first within m a rows n (part_at (pattern_at within) bytes)
    ∙ bind_same (part_at (pattern_at within) bytes) (λ p. part_at (term_at within) p.1 >>= term_after within (in_alternative m a rows p.0 n))
    (λ p. awaiting (in_alternative m a rows p.0 (suc n - 1)) p.1 >>= goes_on (term_at within) (term_after within))
    (λ p e.
    ap (λ (k : ℕ). part_at (term_at within) p.1 >>= term_after within (in_alternative m a rows p.0 k)) less
    ∙ sym (awaits (term_at within) (term_after within) (in_alternative m a rows p.0 (suc n - 1)) p.1))
    ∙ sym (bind_assoc (part_at (pattern_at within) bytes) (λ p. awaiting (in_alternative m a rows p.0 (suc n - 1)) p.1) (goes_on (term_at within) (term_after within)))
    ∙ ap (λ (z : Result ((Term ⊎ TermFrame) × List ℕ) ℕ). z >>= goes_on (term_at within) (term_after within))
    (second {B = Result ((Term ⊎ TermFrame) × List ℕ) ℕ} (nat_eq (suc n) 0) (Ok (inl (term.Case m a (alternative_list rows)), bytes))
    (part_at (pattern_at within) bytes >>= λ p. awaiting (in_alternative m a rows p.0 (suc n - 1)) p.1) more)

case_begins : (within : ℕ) (m : Mode) (bytes : List ℕ)
    → made (case_term m) (case_at within (term_at within) (pattern_at within)) bytes ≡ (begin_case within m bytes >>= goes_on (term_at within) (term_after within))
case_begins within m bytes =
    pair_made (case_term m) (count_at within) (λ n. pair (part_at (term_at within)) (λ t. many (alternative_at (term_at within) (pattern_at within)) n)) bytes
    ∙ bind_same (count_at within bytes)
    (λ n. pair (part_at (term_at within)) (λ t. many (alternative_at (term_at within) (pattern_at within)) n.0) n.1 >>= stands (λ w. case_term m (n.0, w)))
    (λ n. awaiting (in_scrutinee m n.0) n.1 >>= goes_on (term_at within) (term_after within))
    (λ n e.
    pair_made (λ w. case_term m (n.0, w)) (part_at (term_at within)) (λ t. many (alternative_at (term_at within) (pattern_at within)) n.0) n.1
    ∙ sym (awaits (term_at within) (term_after within) (in_scrutinee m n.0) n.1))
    ∙ sym (bind_assoc (count_at within bytes) (λ n. awaiting (in_scrutinee m n.0) n.1) (goes_on (term_at within) (term_after within)))

-- ---- the other forms

apply_begins : (within : ℕ) (bytes : List ℕ)
    → made apply_term (two_at (term_at within)) bytes ≡ (awaiting in_function bytes >>= goes_on (term_at within) (term_after within))
apply_begins within bytes =
    pair_made apply_term (part_at (term_at within)) (λ t. part_at (term_at within)) bytes ∙ sym (awaits (term_at within) (term_after within) in_function bytes)

or_begins : (within : ℕ) (bytes : List ℕ)
    → made or_term (two_at (term_at within)) bytes ≡ (awaiting in_left bytes >>= goes_on (term_at within) (term_after within))
or_begins within bytes =
    pair_made or_term (part_at (term_at within)) (λ t. part_at (term_at within)) bytes ∙ sym (awaits (term_at within) (term_after within) in_left bytes)

let_begins : (within : ℕ) (bytes : List ℕ)
    → made let_term (pair small_at (λ x. two_at (term_at within))) bytes ≡ (begin_let bytes >>= goes_on (term_at within) (term_after within))
let_begins within bytes =
    pair_made let_term small_at (λ x. two_at (term_at within)) bytes
    ∙ bind_same (small_at bytes) (λ x. two_at (term_at within) x.1 >>= stands (λ w. let_term (x.0, w)))
    (λ x. awaiting (in_definition x.0) x.1 >>= goes_on (term_at within) (term_after within))
    (λ x e.
    pair_made (λ w. let_term (x.0, w)) (part_at (term_at within)) (λ t. part_at (term_at within)) x.1
    ∙ sym (awaits (term_at within) (term_after within) (in_definition x.0) x.1))
    ∙ sym (bind_assoc (small_at bytes) (λ x. awaiting (in_definition x.0) x.1) (goes_on (term_at within) (term_after within)))

free_begins : (within : ℕ) (bytes : List ℕ)
    → made free_term (pair small_at (λ x. part_at (term_at within))) bytes ≡ (begin_free bytes >>= goes_on (term_at within) (term_after within))
free_begins within bytes =
    pair_made free_term small_at (λ x. part_at (term_at within)) bytes
    ∙ bind_same (small_at bytes) (λ x. part_at (term_at within) x.1 >>= stands (λ y. free_term (x.0, y)))
    (λ x. awaiting (in_free x.0) x.1 >>= goes_on (term_at within) (term_after within))
    (λ x e. sym (awaits (term_at within) (term_after within) (in_free x.0) x.1))
    ∙ sym (bind_assoc (small_at bytes) (λ x. awaiting (in_free x.0) x.1) (goes_on (term_at within) (term_after within)))

-- ---- the tables

plain_linked : (within b : ℕ) → Linked (term_at within) (term_after within) (plain_terms within (term_at within) b) (plain_term_table within b)
plain_linked within b =
    let r = term_at within in
    let k = term_after within in
    let o1 : Option (Reader Term) = cond (nat_eq b 113) (Some (made part_term (call_at within (term_at within)))) None in
    let u1 : Option (Reader (Term ⊎ TermFrame)) = cond (nat_eq b 113) (Some (begin_part within)) None in
    let o2 : Option (Reader Term) = cond (nat_eq b 119) (Some (made whole_term (call_at within (term_at within)))) o1 in
    let u2 : Option (Reader (Term ⊎ TermFrame)) = cond (nat_eq b 119) (Some (begin_whole within)) u1 in
    let o3 : Option (Reader Term) = cond (nat_eq b 104) (Some (made term.Literal character_at)) o2 in
    let u3 : Option (Reader (Term ⊎ TermFrame)) = cond (nat_eq b 104) (Some (made (whole_of term.Literal) character_at)) u2 in
    let o4 : Option (Reader Term) = cond (nat_eq b 105) (Some (made term.Literal integer_at)) o3 in
    let u4 : Option (Reader (Term ⊎ TermFrame)) = cond (nat_eq b 105) (Some (made (whole_of term.Literal) integer_at)) u3 in
    if_linked r k (nat_eq b 120) (made term.Variable small_at) (made (whole_of term.Variable) small_at) o4 u4 (leaf small_at term.Variable r k)
    (if_linked r k (nat_eq b 105) (made term.Literal integer_at) (made (whole_of term.Literal) integer_at) o3 u3 (leaf integer_at term.Literal r k)
    (if_linked r k (nat_eq b 104) (made term.Literal character_at) (made (whole_of term.Literal) character_at) o2 u2 (leaf character_at term.Literal r k)
    (if_linked r k (nat_eq b 119) (made whole_term (call_at within (term_at within))) (begin_whole within) o1 u1 (whole_begins within)
    (if_linked r k (nat_eq b 113) (made part_term (call_at within (term_at within))) (begin_part within) None None (part_begins within) tt))))

deep_linked : (w b : ℕ)
    → Linked (term_at (suc w)) (term_after (suc w)) (term_table (suc w) (term_at (suc w)) (pattern_at (suc w)) b) (deep_term_table (suc w) b)
deep_linked w b =
    let r = term_at (suc w) in
    let k = term_after (suc w) in
    let o0 : Option (Reader Term) = plain_terms (suc w) (term_at (suc w)) b in
    let u0 : Option (Reader (Term ⊎ TermFrame)) = plain_term_table (suc w) b in
    let o1 : Option (Reader Term) = cond (nat_eq b 102) (Some (made (case_term mode.Flex) (case_at (suc w) (term_at (suc w)) (pattern_at (suc w))))) o0 in
    let u1 : Option (Reader (Term ⊎ TermFrame)) = cond (nat_eq b 102) (Some (begin_case (suc w) mode.Flex)) u0 in
    let o2 : Option (Reader Term) = cond (nat_eq b 114) (Some (made (case_term mode.Rigid) (case_at (suc w) (term_at (suc w)) (pattern_at (suc w))))) o1 in
    let u2 : Option (Reader (Term ⊎ TermFrame)) = cond (nat_eq b 114) (Some (begin_case (suc w) mode.Rigid)) u1 in
    let o3 : Option (Reader Term) = cond (nat_eq b 111) (Some (made or_term (two_at (term_at (suc w))))) o2 in
    let u3 : Option (Reader (Term ⊎ TermFrame)) = cond (nat_eq b 111) (Some (awaiting in_left)) u2 in
    let o4 : Option (Reader Term) = cond (nat_eq b 110) (Some (made free_term (pair small_at (λ x. part_at (term_at (suc w)))))) o3 in
    let u4 : Option (Reader (Term ⊎ TermFrame)) = cond (nat_eq b 110) (Some begin_free) u3 in
    let o5 : Option (Reader Term) = cond (nat_eq b 108) (Some (made let_term (pair small_at (λ x. two_at (term_at (suc w)))))) o4 in
    let u5 : Option (Reader (Term ⊎ TermFrame)) = cond (nat_eq b 108) (Some begin_let) u4 in
    if_linked r k (nat_eq b 64) (made apply_term (two_at (term_at (suc w)))) (awaiting in_function) o5 u5 (apply_begins (suc w))
    (if_linked r k (nat_eq b 108) (made let_term (pair small_at (λ x. two_at (term_at (suc w))))) begin_let o4 u4 (let_begins (suc w))
    (if_linked r k (nat_eq b 110) (made free_term (pair small_at (λ x. part_at (term_at (suc w))))) begin_free o3 u3 (free_begins (suc w))
    (if_linked r k (nat_eq b 111) (made or_term (two_at (term_at (suc w)))) (awaiting in_left) o2 u2 (or_begins (suc w))
    (if_linked r k (nat_eq b 114) (made (case_term mode.Rigid) (case_at (suc w) (term_at (suc w)) (pattern_at (suc w)))) (begin_case (suc w) mode.Rigid) o1 u1 (case_begins (suc w) mode.Rigid)
    (if_linked r k (nat_eq b 102) (made (case_term mode.Flex) (case_at (suc w) (term_at (suc w)) (pattern_at (suc w)))) (begin_case (suc w) mode.Flex) o0 u0 (case_begins (suc w) mode.Flex)
    (plain_linked (suc w) b))))))

inside_begins : (within : ℕ) (bytes : List ℕ) → term_at (suc within) bytes ≡ (begin_inside within bytes >>= goes_on (term_at within) (term_after within))
inside_begins zero bytes =
    choose_linked (term_at 0) (term_after 0) (plain_terms 0 (term_at 0)) (plain_term_table 0) (plain_linked 0) bytes
inside_begins (suc w) bytes =
    let more : nat_eq (suc w) 0 ≡ false = grind (arith, nat_tests) in
    choose_linked (term_at (suc w)) (term_after (suc w)) (term_table (suc w) (term_at (suc w)) (pattern_at (suc w))) (deep_term_table (suc w)) (deep_linked w) bytes
    ∙ ap (λ (t : Bool). cond t (plain_term (suc w) bytes) (deep_term (suc w) bytes) >>= goes_on (term_at (suc w)) (term_after (suc w))) (sym more)

term_begins_at : (levels : ℕ) (bytes : List ℕ) (t : Bool) → nat_eq levels 0 ≡ t
    → term_at levels bytes ≡ (cond t (Err (length bytes)) (begin_inside (levels - 1) bytes) >>= goes_on (term_at (levels - 1)) (term_after (levels - 1)))
term_begins_at levels bytes true h = let none : levels ≡ 0 = grind (arith, nat_tests) in ap (λ (k : ℕ). term_at k bytes) none
term_begins_at levels bytes false h =
    let more : levels ≡ suc (levels - 1) = grind (arith, nat_tests) in
    ap (λ (k : ℕ). term_at k bytes) more ∙ inside_begins (levels - 1) bytes

term_takes : (within : ℕ) (f : TermFrame) (x : Term) (bytes : List ℕ)
    → term_after within f (x, bytes) ≡ (take_term within f x bytes >>= goes_on (term_at within) (term_after within))
term_takes within (in_whole h ts left) x bytes = whole_is within h (ts ++ x ∷ []) left bytes
term_takes within (in_part h ts left) x bytes = part_is within h (ts ++ x ∷ []) left bytes
term_takes within in_function x bytes = sym (awaits (term_at within) (term_after within) (in_argument x) bytes)
term_takes within (in_argument f) x bytes = refl
term_takes within (in_definition y) x bytes = sym (awaits (term_at within) (term_after within) (in_let y x) bytes)
term_takes within (in_let y a) x bytes = refl
term_takes within (in_free y) x bytes = refl
term_takes within in_left x bytes = sym (awaits (term_at within) (term_after within) (in_right x) bytes)
term_takes within (in_right a) x bytes = refl
term_takes within (in_scrutinee m n) x bytes = rows_is within m x [] n bytes
term_takes within (in_alternative m a rows p left) x bytes = rows_is within m a (rows ++ (p, x) ∷ []) left bytes

-- ---- lengths

head_shrinks : Shrinks head_at
head_shrinks = reads_shrink no_digit head_at head_text HeadInRange head_reads

no_pattern : (m : Result (List ℕ) ℕ) (x : Pattern) (rest : List ℕ) → (m >>= pattern_at 0) ≡ Ok (x, rest) → ⊥
no_pattern (Ok z) x rest e = let never : ⊥ = cc e in never
no_pattern (Err n) x rest e = let never : ⊥ = cc e in never

no_pattern_shrinks : Shrinks (part_at (pattern_at 0))
no_pattern_shrinks bytes x rest e =
    absurd (no_pattern (word_at (codes " ") bytes) x rest (sym (after_word_is (codes " ") (pattern_at 0) bytes) ∙ e))

pattern_part_shrinks : (within : ℕ) → Shrinks (part_at (pattern_at within))
pattern_part_shrinks zero = no_pattern_shrinks
pattern_part_shrinks (suc w) =
    reads_shrink no_digit (part_at (pattern_at (suc w))) (λ p. codes " " ++ pattern_text p) (PatternGood (suc w))
    (after_reads no_digit (codes " ") (pattern_at (suc w)) pattern_text (PatternGood (suc w)) (pattern_reads w))

whole_next_shrinks : (h : Head) (ts : List Term) (left : ℕ) → Shrinks (next_whole h ts left)
whole_next_shrinks h ts left =
    cond_shrinks (nat_eq left 0) (nothing (inl (term.Whole h (term_list ts)))) (awaiting (in_whole h ts (left - 1)))
    (nothing_shrinks (inl (term.Whole h (term_list ts)))) (awaiting_shrinks (in_whole h ts (left - 1)))

part_next_shrinks : (h : Head) (ts : List Term) (left : ℕ) → Shrinks (next_part h ts left)
part_next_shrinks h ts left =
    cond_shrinks (nat_eq left 0) (nothing (inl (term.Part h (term_list ts)))) (awaiting (in_part h ts (left - 1)))
    (nothing_shrinks (inl (term.Part h (term_list ts)))) (awaiting_shrinks (in_part h ts (left - 1)))

row_next_shrinks : (within : ℕ) (m : Mode) (a : Term) (rows : List (Pattern × Term)) (left : ℕ) → Shrinks (next_alternative within m a rows left)
row_next_shrinks within m a rows left =
    cond_shrinks (nat_eq left 0) (nothing (inl (term.Case m a (alternative_list rows))))
    (λ bytes. part_at (pattern_at within) bytes >>= λ p. awaiting (in_alternative m a rows p.0 (left - 1)) p.1)
    (nothing_shrinks (inl (term.Case m a (alternative_list rows))))
    (bind_shrinks (part_at (pattern_at within)) (λ p. awaiting (in_alternative m a rows p (left - 1))) (pattern_part_shrinks within)
    (λ p. awaiting_shrinks (in_alternative m a rows p (left - 1))))

whole_shrinks : (within : ℕ) → Shrinks (begin_whole within)
whole_shrinks within =
    bind_shrinks head_at (λ h bytes. count_at within bytes >>= λ n. next_whole h [] n.0 n.1) head_shrinks
    (λ h. bind_shrinks (count_at within) (λ n. next_whole h [] n) (count_shrinks within) (λ n. whole_next_shrinks h [] n))

part_shrinks : (within : ℕ) → Shrinks (begin_part within)
part_shrinks within =
    bind_shrinks head_at (λ h bytes. count_at within bytes >>= λ n. next_part h [] n.0 n.1) head_shrinks
    (λ h. bind_shrinks (count_at within) (λ n. next_part h [] n) (count_shrinks within) (λ n. part_next_shrinks h [] n))

plain_shrinks : (within b : ℕ) → EachShrinks (plain_term_table within b)
plain_shrinks within b =
    let u1 : Option (Reader (Term ⊎ TermFrame)) = cond (nat_eq b 113) (Some (begin_part within)) None in
    let u2 : Option (Reader (Term ⊎ TermFrame)) = cond (nat_eq b 119) (Some (begin_whole within)) u1 in
    let u3 : Option (Reader (Term ⊎ TermFrame)) = cond (nat_eq b 104) (Some (made (whole_of term.Literal) character_at)) u2 in
    let u4 : Option (Reader (Term ⊎ TermFrame)) = cond (nat_eq b 105) (Some (made (whole_of term.Literal) integer_at)) u3 in
    if_shrinks (nat_eq b 120) (made (whole_of term.Variable) small_at) u4 (made_shrinks (whole_of term.Variable) small_at small_shrinks)
    (if_shrinks (nat_eq b 105) (made (whole_of term.Literal) integer_at) u3 (made_shrinks (whole_of term.Literal) integer_at integer_shrinks)
    (if_shrinks (nat_eq b 104) (made (whole_of term.Literal) character_at) u2 (made_shrinks (whole_of term.Literal) character_at character_shrinks)
    (if_shrinks (nat_eq b 119) (begin_whole within) u1 (whole_shrinks within)
    (if_shrinks (nat_eq b 113) (begin_part within) None (part_shrinks within) tt))))

let_shrinks : Shrinks begin_let
let_shrinks = bind_shrinks small_at (λ x. awaiting (in_definition x)) small_shrinks (λ x. awaiting_shrinks (in_definition x))

free_shrinks : Shrinks begin_free
free_shrinks = bind_shrinks small_at (λ x. awaiting (in_free x)) small_shrinks (λ x. awaiting_shrinks (in_free x))

case_shrinks : (within : ℕ) (m : Mode) → Shrinks (begin_case within m)
case_shrinks within m = bind_shrinks (count_at within) (λ n. awaiting (in_scrutinee m n)) (count_shrinks within) (λ n. awaiting_shrinks (in_scrutinee m n))

deep_shrinks : (within b : ℕ) → EachShrinks (deep_term_table within b)
deep_shrinks within b =
    let u0 : Option (Reader (Term ⊎ TermFrame)) = plain_term_table within b in
    let u1 : Option (Reader (Term ⊎ TermFrame)) = cond (nat_eq b 102) (Some (begin_case within mode.Flex)) u0 in
    let u2 : Option (Reader (Term ⊎ TermFrame)) = cond (nat_eq b 114) (Some (begin_case within mode.Rigid)) u1 in
    let u3 : Option (Reader (Term ⊎ TermFrame)) = cond (nat_eq b 111) (Some (awaiting in_left)) u2 in
    let u4 : Option (Reader (Term ⊎ TermFrame)) = cond (nat_eq b 110) (Some begin_free) u3 in
    let u5 : Option (Reader (Term ⊎ TermFrame)) = cond (nat_eq b 108) (Some begin_let) u4 in
    if_shrinks (nat_eq b 64) (awaiting in_function) u5 (awaiting_shrinks in_function)
    (if_shrinks (nat_eq b 108) begin_let u4 let_shrinks
    (if_shrinks (nat_eq b 110) begin_free u3 free_shrinks
    (if_shrinks (nat_eq b 111) (awaiting in_left) u2 (awaiting_shrinks in_left)
    (if_shrinks (nat_eq b 114) (begin_case within mode.Rigid) u1 (case_shrinks within mode.Rigid)
    (if_shrinks (nat_eq b 102) (begin_case within mode.Flex) u0 (case_shrinks within mode.Flex) (plain_shrinks within b))))))

inside_shorter : (within : ℕ) (bytes : List ℕ) (t : Bool) (x : Term ⊎ TermFrame) (rest : List ℕ) → cond t (plain_term within bytes) (deep_term within bytes) ≡ Ok (x, rest)
    → length rest < length bytes
inside_shorter within bytes true x rest e = choose_shorter (plain_term_table within) (plain_shrinks within) bytes x rest e
inside_shorter within bytes false x rest e = choose_shorter (deep_term_table within) (deep_shrinks within) bytes x rest e

begin_shorter_at : (levels : ℕ) (bytes : List ℕ) (t : Bool) (x : Term ⊎ TermFrame) (rest : List ℕ)
    → cond t (Err (length bytes)) (begin_inside (levels - 1) bytes) ≡ Ok (x, rest) → length rest < length bytes
begin_shorter_at levels bytes true x rest e = let never : ⊥ = cc e in absurd never
begin_shorter_at levels bytes false x rest e = inside_shorter (levels - 1) bytes (nat_eq (levels - 1) 0) x rest e

take_shorter_at : (within : ℕ) (f : TermFrame) (x : Term) (bytes : List ℕ) (y : Term ⊎ TermFrame) (rest : List ℕ) → take_term within f x bytes ≡ Ok (y, rest)
    → length rest ≤ length bytes
take_shorter_at within (in_whole h ts left) x bytes y rest e = whole_next_shrinks h (ts ++ x ∷ []) left bytes y rest e
take_shorter_at within (in_part h ts left) x bytes y rest e = part_next_shrinks h (ts ++ x ∷ []) left bytes y rest e
take_shorter_at within in_function x bytes y rest e = awaiting_shrinks (in_argument x) bytes y rest e
take_shorter_at within (in_argument f) x bytes y rest e = nothing_shrinks (inl (term.Apply f x)) bytes y rest e
take_shorter_at within (in_definition z) x bytes y rest e = awaiting_shrinks (in_let z x) bytes y rest e
take_shorter_at within (in_let z a) x bytes y rest e = nothing_shrinks (inl (term.Let z a x)) bytes y rest e
take_shorter_at within (in_free z) x bytes y rest e = nothing_shrinks (inl (term.Free z x)) bytes y rest e
take_shorter_at within in_left x bytes y rest e = awaiting_shrinks (in_right x) bytes y rest e
take_shorter_at within (in_right a) x bytes y rest e = nothing_shrinks (inl (term.Or a x)) bytes y rest e
take_shorter_at within (in_scrutinee m n) x bytes y rest e = row_next_shrinks within m x [] n bytes y rest e
take_shorter_at within (in_alternative m a rows p left) x bytes y rest e = row_next_shrinks within m a (rows ++ (p, x) ∷ []) left bytes y rest e

-- the reader of terms goes part by part
pub term_frames : Frames term_at term_after begin_term take_term
term_frames = record {
  begins = λ levels bytes. term_begins_at levels bytes (nat_eq levels 0) refl;
  takes = term_takes;
  begin_shorter = λ levels bytes x rest e. begin_shorter_at levels bytes (nat_eq levels 0) x rest e;
  take_shorter = take_shorter_at;
}
