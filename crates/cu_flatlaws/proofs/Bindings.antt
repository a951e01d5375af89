-- An expression binds no more variables than its text has bytes.
use Rattle.std.proofs.Common.{◌≡◌, ℕ, zero, suc, ◌+◌, ◌≤◌, ◌<◌, ◌&&◌, List, [], ◌∷◌, ◌++◌, IsTrue, codes, decimal, length, refl, ap, arith}
use Rattle.std.proofs.lemmas.Bool.{and_parts}
use Rattle.cu_calculus.specs.Flat.{all_differ, are_flat_alternatives, are_flat_terms, demands_of, is_flat_term, is_shallow}
use Rattle.cu_calculus.specs.Term as term
use Rattle.cu_calculus.specs.Term.{Alternatives, Pattern, Term, Terms}
use Rattle.cu_calculus.specs.Valid.{all_variables, term_count, variables_of}
use Rattle.cu_calculus.specs.declared.Head.{Head}
use Rattle.cu_calculus.specs.declared.Head.TheVariants as head
use Rattle.cu_flatlaws.proofs.Lengths.{in_back, in_both, in_brackets, in_front, list_long}
use Rattle.cu_flatread.specs.Notation.{in_parentheses, list_text}
use Rattle.cu_flattext.specs.ExpressionTexts.{Numbers, all_bindings, all_numbered, apply_text, arguments_text, bindings, branch_bindings, branch_text, branches_text, call_kind, call_text, expression_text, expressions_text, function_alone, further_branches, further_expressions, head_text, kind_text, missing, mode_text, numbered, pattern_text}
use Rattle.cu_flattext.specs.Naming as naming
use Rattle.cu_flattext.specs.Naming.{Lowered, constructor_entity}
use Rattle.cu_flattext.specs.TypeTexts.{numbers_from}

numbers_count : (n count : ℕ) → length (numbers_from n count) ≡ count
numbers_count n zero = refl
numbers_count n (suc count) = ap suc (numbers_count (n + 1) count)

call_holds : (n : ℕ) (kind name arguments : List ℕ) → n ≤ length arguments → n ≤ length (call_text kind name arguments)
call_holds n kind name arguments short =
    let end = arguments ++ codes "]" in
    let named = name ++ (codes " [" ++ end) in
    in_back n (codes "Comb ") (kind ++ (codes " " ++ named)) (in_back n kind (codes " " ++ named)
    (in_back n (codes " ") named (in_back n name (codes " [" ++ end)
    (in_back n (codes " [") end (in_front n arguments (codes "]") short)))))

arguments_hold : (program : Lowered) (h : Head) (n : ℕ) (alone after : List ℕ) → n ≤ length alone → n ≤ length after
    → n ≤ length (arguments_text program h alone after)
arguments_hold program (head.Fun f) n alone after first more = first
arguments_hold program (head.Con c) n alone after first more = first
arguments_hold program (head.Set f) n alone after first more = in_back n (function_alone program f) after more

pattern_holds : (program : Lowered) (n : ℕ) (p : Pattern) → IsTrue (is_shallow p)
    → length (variables_of p) ≤ length (pattern_text program n p)
pattern_holds program n (term.Exactly l) shallow = omega arith
pattern_holds program n (term.Built c ps) shallow =
    let count = length (all_variables ps) in
    let listed : count ≤ length (list_text (numbers_from n count)) =
    omega (arith, list_long (numbers_from n count), numbers_count n count) in
    let name = naming.entity_text (constructor_entity program c) in
    in_back count (codes "Pattern ") (name ++ (codes " " ++ list_text (numbers_from n count)))
    (in_back count name (codes " " ++ list_text (numbers_from n count))
    (in_back count (codes " ") (list_text (numbers_from n count)) listed))
pattern_holds program n (term.Any x) shallow = let no : ⊥ = cc in absurd no
pattern_holds program n (term.Named x p) shallow = let no : ⊥ = cc in absurd no

branch_holds : (program : Lowered) (n count : ℕ) (p : Pattern) (body : List ℕ) → IsTrue (is_shallow p)
    → count ≤ length body → length (variables_of p) + count ≤ length (branch_text program n p body)
branch_holds program n count p body shallow short =
    let pattern = in_parentheses (pattern_text program n p) in
    let all = length (variables_of p) + count in
    in_back all (codes "Branch ") (pattern ++ (codes " " ++ in_parentheses body))
    (in_both (length (variables_of p)) count pattern (codes " " ++ in_parentheses body)
    (in_brackets (length (variables_of p)) (pattern_text program n p) (pattern_holds program n p shallow))
    (in_back count (codes " ") (in_parentheses body) (in_brackets count body short)))

mutual
  pub bindings_short : (program : Lowered) (n : ℕ) (numbers : Numbers) (t : Term) → IsTrue (is_flat_term t)
      → bindings t ≤ length (expression_text program n numbers t)
  bindings_short program n numbers (term.Variable x) flat = omega arith
  bindings_short program n numbers (term.Literal l) flat = omega arith
  bindings_short program n numbers (term.Whole h ts) flat =
      let alone = expressions_text program n numbers ts in
      let after = further_expressions program n numbers ts in
      call_holds (all_bindings ts) (call_kind h) (head_text program h) (arguments_text program h alone after)
      (arguments_hold program h (all_bindings ts) alone after (all_short program n numbers ts flat)
      (further_short program n numbers ts flat))
  bindings_short program n numbers (term.Part h ts) flat =
      let alone = expressions_text program n numbers ts in
      let after = further_expressions program n numbers ts in
      call_holds (all_bindings ts) (kind_text h (missing program h (term_count ts))) (head_text program h)
      (arguments_text program h alone after)
      (arguments_hold program h (all_bindings ts) alone after (all_short program n numbers ts flat)
      (further_short program n numbers ts flat))
  bindings_short program n numbers (term.Apply f a) flat =
      let both = and_parts (is_flat_term f) (is_flat_term a) flat in
      let one = expression_text program n numbers f in
      let two = expression_text program (n + bindings f) numbers a in
      let all = bindings f + bindings a in
      let arguments = one ++ (codes "," ++ (two ++ codes "]")) in
      in_back all (codes "Comb ") (apply_text ++ (codes " [" ++ arguments))
      (in_back all apply_text (codes " [" ++ arguments) (in_back all (codes " [") arguments
      (in_both (bindings f) (bindings a) one (codes "," ++ (two ++ codes "]"))
      (bindings_short program n numbers f both.0)
      (in_back (bindings a) (codes ",") (two ++ codes "]")
      (in_front (bindings a) two (codes "]") (bindings_short program (n + bindings f) numbers a both.1))))))
  bindings_short program n numbers (term.Let x a b) flat =
      let both = and_parts (is_flat_term a) (is_flat_term b) flat in
      let one = expression_text program (n + 1) (numbered x n numbers) a in
      let two = expression_text program (n + 1 + bindings a) (numbered x n numbers) b in
      let parts = one ++ (codes ")] " ++ in_parentheses two) in
      let all = bindings a + bindings b in
      let inner : all ≤ length (decimal n ++ (codes "," ++ parts)) =
      in_back all (decimal n) (codes "," ++ parts) (in_back all (codes ",") parts
      (in_both (bindings a) (bindings b) one (codes ")] " ++ in_parentheses two)
      (bindings_short program (n + 1) (numbered x n numbers) a both.0)
      (in_back (bindings b) (codes ")] ") (in_parentheses two)
      (in_brackets (bindings b) two (bindings_short program (n + 1 + bindings a) (numbered x n numbers) b both.1))))) in
      omega (arith, inner)
  bindings_short program n numbers (term.Free x t) flat =
      let one = expression_text program (n + 1) (numbered x n numbers) t in
      let inner : bindings t ≤ length (decimal n ++ (codes "] " ++ in_parentheses one)) =
      in_back (bindings t) (decimal n) (codes "] " ++ in_parentheses one)
      (in_back (bindings t) (codes "] ") (in_parentheses one)
      (in_brackets (bindings t) one (bindings_short program (n + 1) (numbered x n numbers) t flat))) in
      omega (arith, inner)
  bindings_short program n numbers (term.Or a b) flat =
      let both = and_parts (is_flat_term a) (is_flat_term b) flat in
      let one = expression_text program n numbers a in
      let two = expression_text program (n + bindings a) numbers b in
      let all = bindings a + bindings b in
      in_back all (codes "Or ") (in_parentheses one ++ (codes " " ++ in_parentheses two))
      (in_both (bindings a) (bindings b) (in_parentheses one) (codes " " ++ in_parentheses two)
      (in_brackets (bindings a) one (bindings_short program n numbers a both.0))
      (in_back (bindings b) (codes " ") (in_parentheses two)
      (in_brackets (bindings b) two (bindings_short program (n + bindings a) numbers b both.1))))
  bindings_short program n numbers (term.Case mode a alternatives) flat =
      let parts = and_parts (is_flat_term a && all_differ (demands_of alternatives)) (are_flat_alternatives alternatives) flat in
      let front = and_parts (is_flat_term a) (all_differ (demands_of alternatives)) parts.0 in
      let one = expression_text program n numbers a in
      let branches = branches_text program (n + bindings a) numbers alternatives in
      let all = bindings a + branch_bindings alternatives in
      let whole = in_parentheses one ++ (codes " [" ++ (branches ++ codes "]")) in
      in_back all (codes "Case ") (mode_text mode ++ (codes " " ++ whole))
      (in_back all (mode_text mode) (codes " " ++ whole) (in_back all (codes " ") whole
      (in_both (bindings a) (branch_bindings alternatives) (in_parentheses one) (codes " [" ++ (branches ++ codes "]"))
      (in_brackets (bindings a) one (bindings_short program n numbers a front.0))
      (in_back (branch_bindings alternatives) (codes " [") (branches ++ codes "]")
      (in_front (branch_bindings alternatives) branches (codes "]")
      (branches_short program (n + bindings a) numbers alternatives parts.1))))))

  all_short : (program : Lowered) (n : ℕ) (numbers : Numbers) (ts : Terms) → IsTrue (are_flat_terms ts)
      → all_bindings ts ≤ length (expressions_text program n numbers ts)
  all_short program n numbers term.NoTerm flat = omega arith
  all_short program n numbers (term.MoreTerms t ts) flat =
      let both = and_parts (is_flat_term t) (are_flat_terms ts) flat in
      in_both (bindings t) (all_bindings ts) (expression_text program n numbers t)
      (further_expressions program (n + bindings t) numbers ts)
      (bindings_short program n numbers t both.0) (further_short program (n + bindings t) numbers ts both.1)

  further_short : (program : Lowered) (n : ℕ) (numbers : Numbers) (ts : Terms) → IsTrue (are_flat_terms ts)
      → all_bindings ts ≤ length (further_expressions program n numbers ts)
  further_short program n numbers term.NoTerm flat = omega arith
  further_short program n numbers (term.MoreTerms t ts) flat =
      let both = and_parts (is_flat_term t) (are_flat_terms ts) flat in
      let one = expression_text program n numbers t in
      let others = further_expressions program (n + bindings t) numbers ts in
      in_back (bindings t + all_bindings ts) (codes ",") (one ++ others)
      (in_both (bindings t) (all_bindings ts) one others
      (bindings_short program n numbers t both.0) (further_short program (n + bindings t) numbers ts both.1))

  branches_short : (program : Lowered) (n : ℕ) (numbers : Numbers) (alternatives : Alternatives)
      → IsTrue (are_flat_alternatives alternatives)
      → branch_bindings alternatives ≤ length (branches_text program n numbers alternatives)
  branches_short program n numbers term.NoAlternative flat = omega arith
  branches_short program n numbers (term.MoreAlternatives p t alternatives) flat =
      let parts = and_parts (is_shallow p && is_flat_term t) (are_flat_alternatives alternatives) flat in
      let front = and_parts (is_shallow p) (is_flat_term t) parts.0 in
      let body = expression_text program (n + length (variables_of p)) (all_numbered (variables_of p) n numbers) t in
      let next = n + length (variables_of p) + bindings t in
      in_both (length (variables_of p) + bindings t) (branch_bindings alternatives) (branch_text program n p body)
      (further_branches program next numbers alternatives)
      (branch_holds program n (bindings t) p body front.0
      (bindings_short program (n + length (variables_of p)) (all_numbered (variables_of p) n numbers) t front.1))
      (further_branches_short program next numbers alternatives parts.1)

  further_branches_short : (program : Lowered) (n : ℕ) (numbers : Numbers) (alternatives : Alternatives)
      → IsTrue (are_flat_alternatives alternatives)
      → branch_bindings alternatives ≤ length (further_branches program n numbers alternatives)
  further_branches_short program n numbers term.NoAlternative flat = omega arith
  further_branches_short program n numbers (term.MoreAlternatives p t alternatives) flat =
      let parts = and_parts (is_shallow p && is_flat_term t) (are_flat_alternatives alternatives) flat in
      let front = and_parts (is_shallow p) (is_flat_term t) parts.0 in
      let body = expression_text program (n + length (variables_of p)) (all_numbered (variables_of p) n numbers) t in
      let next = n + length (variables_of p) + bindings t in
      let one = branch_text program n p body in
      let others = further_branches program next numbers alternatives in
      in_back (length (variables_of p) + bindings t + branch_bindings alternatives) (codes ",") (one ++ others)
      (in_both (length (variables_of p) + bindings t) (branch_bindings alternatives) one others
      (branch_holds program n (bindings t) p body front.0
      (bindings_short program (n + length (variables_of p)) (all_numbered (variables_of p) n numbers) t front.1))
      (further_branches_short program next numbers alternatives parts.1))
