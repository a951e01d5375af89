-- Lifting makes at most one program.
use Rattle.std.proofs.Common.{◌≡◌, ℕ, zero, suc, ◌+◌, ◌<◌, ◌&&◌, List, [], ◌∷◌, ◌++◌, codes, decimal, length, Some, IsTrue, map, nat_eq, nat_lt, slice_get, refl, ap, sym, ◌∙◌, subst, arith}
use Rattle.std.specs.List.{flat_map, list_all}
use Rattle.std.proofs.lemmas.Bool.{and_parts, cases_lt, eqb-true, eq-eqb, ltb-true, or_cases, or_left, or_right}
use Rattle.std.proofs.lemmas.List.{get_or_past, length-append}
use Rattle.std.proofs.lemmas.Option.{slice_get-get_or}
use Rattle.cu_calculus.specs.Program as calculus
use Rattle.cu_calculus.specs.Shape.{takes, takes_more}
use Rattle.cu_calculus.specs.Term as clean
use Rattle.cu_calculus.specs.Valid.{holds}
use Rattle.cu_kernel.specs.Captures.{AreCaptured, are_rising}
use Rattle.cu_kernel.specs.Kernel.{Kernel, Mark}
use Rattle.cu_kernel.specs.LocalKernel as kernel
use Rattle.cu_kernel.specs.LocalKernel.{LocalBody, LocalFunction, LocalKernel, LocalRule, TopFunction}
use Rattle.cu_kernel.specs.LocalTerm as local
use Rattle.cu_kernel.specs.LocalTerm.{LocalAlternatives, LocalTerm, LocalTerms}
use Rattle.cu_kernel.specs.LocalValid.{IsPart, all_rules, alternatives_pass, local_heads, local_rules, pattern_passes, patterns_pass, rule_passes, rules_of, takes_locally, takes_more_locally, term_count, term_passes, terms_pass}
use Rattle.cu_kernel.specs.declared.local.LocalHead.TheVariants as local_head
use Rattle.cu_kernel.specs.declared.local.LocalHead.{LocalHead}
use Rattle.cu_lift.proofs.LiftedOrder.{EachStands, each_stands}
use Rattle.cu_lift.proofs.LiftedRules.{all_left, all_right, one_part}
use Rattle.cu_lift.proofs.LiftedTerms.{either, there}
use Rattle.cu_lift.specs.Lifting.{Lifting, Lifts, Locals, Numbered, after_parameters, after_variables, functions_from, in_order, lifted, lifted_alternatives, lifted_body, lifted_group, lifted_head, lifted_local, lifted_rule, lifted_term, lifted_terms, lifting_of, local_mark, local_name, marks_from, passed, rank, top_number}
use Rattle.cu_names.specs.Texts.{AllDiffer, text_of}
use Rattle.cu_names.specs.declared.names.NameId.{NameId}

-- ---- sets in rising order

above : (x v : ℕ) (xs : List ℕ) → IsTrue (list_all (nat_lt x) xs) → IsTrue (holds v xs) → x < v
above x v [] h held = let no : ⊥ = cc in absurd no
above x v (y ∷ xs) h held =
    let parts = and_parts (nat_lt x y) (list_all (nat_lt x) xs) h in
    let below = ltb-true x y parts.0 in
    either (or_cases (nat_eq v y) (holds v xs) held) (λ e. let same : v ≡ y = eqb-true v y e in omega arith) (λ e. above x v xs parts.1 e)

itself : (x : ℕ) (xs : List ℕ) → IsTrue (holds x (x ∷ xs))
itself x xs = or_left (nat_eq x x) (holds x xs) (eq-eqb x x refl)

rising_same : (xs ys : List ℕ) → IsTrue (are_rising xs) → IsTrue (are_rising ys) → ((v : ℕ) → IsTrue (holds v xs) → IsTrue (holds v ys))
    → ((v : ℕ) → IsTrue (holds v ys) → IsTrue (holds v xs)) → xs ≡ ys
rising_same [] [] h k to from = refl
rising_same [] (y ∷ ys) h k to from = let held : IsTrue (holds y []) = from y (itself y ys) in let no : ⊥ = cc in absurd no
rising_same (x ∷ xs) [] h k to from = let held : IsTrue (holds x []) = to x (itself x xs) in let no : ⊥ = cc in absurd no
rising_same (x ∷ xs) (y ∷ ys) h k to from =
    let one = and_parts (list_all (nat_lt x) xs) (are_rising xs) h in
    let two = and_parts (list_all (nat_lt y) ys) (are_rising ys) k in
    let same : x ≡ y =
    either (or_cases (nat_eq x y) (holds x ys) (to x (itself x xs))) (λ e. eqb-true x y e)
    (λ e. either (or_cases (nat_eq y x) (holds y xs) (from y (itself y ys))) (λ d. sym (eqb-true y x d))
    (λ d. let low = above y x ys two.0 e in let high = above x y xs one.0 d in absurd (omega arith))) in
    let rest = rising_same xs ys one.1 two.1
    (λ v held. either (or_cases (nat_eq v y) (holds v ys) (to v (or_right (nat_eq v x) (holds v xs) held)))
    (λ e. let is : v ≡ y = eqb-true v y e in let low = above x v xs one.0 held in absurd (omega arith)) (λ e. e))
    (λ v held. either (or_cases (nat_eq v x) (holds v xs) (from v (or_right (nat_eq v y) (holds v ys) held)))
    (λ e. let is : v ≡ x = eqb-true v x e in let low = above y v ys two.0 held in absurd (omega arith)) (λ e. e)) in
    λ i. same i ∷ rest i

captured_once : (locals : List LocalFunction) (k : ℕ) (xs ys : List ℕ) → AreCaptured locals k xs → AreCaptured locals k ys → xs ≡ ys
captured_once locals k xs ys first second =
    rising_same xs ys first.rising second.rising (λ v held. (second.exact v).1 ((first.exact v).0 held)) (λ v held. (first.exact v).1 ((second.exact v).0 held))

-- ---- names

name_is_there : (texts : List (List ℕ)) (id : NameId) (text : List ℕ) (rank : ℕ) → text_of texts id ≡ local_name text rank
    → slice_get texts id.0 ≡ Some (local_name text rank)
name_is_there texts id text rank is = either (cases_lt id.0 (length texts))
    (λ below. slice_get-get_or texts id.0 [] below ∙ ap (λ t. Some t) is)
    (λ past.
    let empty : local_name text rank ≡ [] = sym is ∙ get_or_past texts id.0 [] past in
    let none : length (local_name text rank) ≡ 0 = ap length empty in
    let some = length-append text (codes "#" ++ decimal (rank + 1)) in
    absurd (omega (arith, none, some)))

names_once : (texts : List (List ℕ)) (a b : NameId) (text : List ℕ) (rank : ℕ) → AllDiffer texts → text_of texts a ≡ local_name text rank
    → text_of texts b ≡ local_name text rank → a ≡ b
names_once texts a b text rank differ first second =
    let same = differ a.0 b.0 (local_name text rank) (name_is_there texts a text rank first) (name_is_there texts b text rank second) in
    λ i. record { 0 = same i }

-- ---- terms

module _ (locals : List LocalFunction) (top inner : ℕ → ℕ) (c d : ℕ → List ℕ)
    (agree : (k : ℕ) (g : LocalFunction) → slice_get locals k ≡ Some g → c k ≡ d k) where
  abbrev l : Lifting
  l = record { top = top; inner = inner; captured = c }

  abbrev m : Lifting
  m = record { top = top; inner = inner; captured = d }

  whole_agrees : (h : LocalHead) (n : ℕ) (ts us : clean.Terms) → IsTrue (takes_locally locals h n) → ts ≡ us
      → clean.Whole (lifted_head l h) (after_variables (passed l h) ts) ≡ clean.Whole (lifted_head m h) (after_variables (passed m h) us)
  whole_agrees (local_head.Global h) n ts us at same = ap (clean.Whole (lifted_head l (local_head.Global h))) same
  whole_agrees (local_head.Local k) n ts us at same =
      let g = there locals k n takes refl at in
      let xs = agree k g.0 g.1 in λ i. clean.Whole (lifted_head l (local_head.Local k)) (after_variables (xs i) (same i))

  part_agrees : (h : LocalHead) (n : ℕ) (ts us : clean.Terms) → IsTrue (takes_more_locally locals h n) → ts ≡ us
      → clean.Part (lifted_head l h) (after_variables (passed l h) ts) ≡ clean.Part (lifted_head m h) (after_variables (passed m h) us)
  part_agrees (local_head.Global h) n ts us at same = ap (clean.Part (lifted_head l (local_head.Global h))) same
  part_agrees (local_head.Local k) n ts us at same =
      let g = there locals k n takes_more refl at in
      let xs = agree k g.0 g.1 in λ i. clean.Part (lifted_head l (local_head.Local k)) (after_variables (xs i) (same i))

  mutual
    term_agrees : (t : LocalTerm) → IsTrue (term_passes (local_heads locals) t) → lifted_term l t ≡ lifted_term m t
    term_agrees (local.Variable x) h = refl
    term_agrees (local.Literal n) h = refl
    term_agrees (local.Whole f ts) h =
        let parts = and_parts (takes_locally locals f (term_count ts)) (terms_pass (local_heads locals) ts) h in
        whole_agrees f (term_count ts) (lifted_terms l ts) (lifted_terms m ts) parts.0 (terms_agree ts parts.1)
    term_agrees (local.Part f ts) h =
        let parts = and_parts (takes_more_locally locals f (term_count ts)) (terms_pass (local_heads locals) ts) h in
        part_agrees f (term_count ts) (lifted_terms l ts) (lifted_terms m ts) parts.0 (terms_agree ts parts.1)
    term_agrees (local.Apply f a) h =
        let parts = and_parts (term_passes (local_heads locals) f) (term_passes (local_heads locals) a) h in
        let one = term_agrees f parts.0 in let two = term_agrees a parts.1 in λ i. clean.Apply (one i) (two i)
    term_agrees (local.Let x a b) h =
        let parts = and_parts (term_passes (local_heads locals) a) (term_passes (local_heads locals) b) h in
        let one = term_agrees a parts.0 in let two = term_agrees b parts.1 in λ i. clean.Let x (one i) (two i)
    term_agrees (local.Free x t) h = ap (clean.Free x) (term_agrees t h)
    term_agrees (local.Or a b) h =
        let parts = and_parts (term_passes (local_heads locals) a) (term_passes (local_heads locals) b) h in
        let one = term_agrees a parts.0 in let two = term_agrees b parts.1 in λ i. clean.Or (one i) (two i)
    term_agrees (local.Case mode a rows) h =
        let parts = and_parts (term_passes (local_heads locals) a) (alternatives_pass (local_heads locals) rows) h in
        let one = term_agrees a parts.0 in let two = alternatives_agree rows parts.1 in λ i. clean.Case mode (one i) (two i)

    terms_agree : (ts : LocalTerms) → IsTrue (terms_pass (local_heads locals) ts) → lifted_terms l ts ≡ lifted_terms m ts
    terms_agree local.NoTerm h = refl
    terms_agree (local.MoreTerms t ts) h =
        let parts = and_parts (term_passes (local_heads locals) t) (terms_pass (local_heads locals) ts) h in
        let one = term_agrees t parts.0 in let two = terms_agree ts parts.1 in λ i. clean.MoreTerms (one i) (two i)

    alternatives_agree : (rows : LocalAlternatives) → IsTrue (alternatives_pass (local_heads locals) rows)
        → lifted_alternatives l rows ≡ lifted_alternatives m rows
    alternatives_agree local.NoAlternative h = refl
    alternatives_agree (local.MoreAlternatives p t rows) h =
        let parts = and_parts (pattern_passes (local_heads locals) p && term_passes (local_heads locals) t) (alternatives_pass (local_heads locals) rows) h in
        let first = and_parts (pattern_passes (local_heads locals) p) (term_passes (local_heads locals) t) parts.0 in
        let one = term_agrees t first.1 in let two = alternatives_agree rows parts.1 in λ i. clean.MoreAlternatives p (one i) (two i)

  pub rules_agree : (xs ys : List ℕ) (rules : List LocalRule) → xs ≡ ys → IsTrue (list_all (rule_passes (local_heads locals)) rules)
      → map (lifted_rule l xs) rules ≡ map (lifted_rule m ys) rules
  rules_agree xs ys [] same h = refl
  rules_agree xs ys (rule ∷ rules) same h =
      let parts = and_parts (rule_passes (local_heads locals) rule) (list_all (rule_passes (local_heads locals)) rules) h in
      let body = (and_parts (patterns_pass (local_heads locals) rule.params) (term_passes (local_heads locals) rule.body) parts.0).1 in
      let one = term_agrees rule.body body in
      let rest = rules_agree xs ys rules same parts.1 in
      λ i. record { params = after_parameters (same i) rule.params; body = one i } ∷ rest i

  body_agrees : (body : LocalBody) → IsTrue (list_all (rule_passes (local_heads locals)) (rules_of body)) → lifted_body l body ≡ lifted_body m body
  body_agrees (kernel.Rules rules) h = ap calculus.Rules (rules_agree [] [] rules refl h)
  body_agrees (kernel.External operation) h = refl

-- ---- functions

maps_agree : {A : Type 0} (f g : Numbered → A) (fs : List LocalFunction)
    → ((k : ℕ) (h : LocalFunction) → slice_get fs k ≡ Some h → f (record { number = k; function = h }) ≡ g (record { number = k; function = h }))
    → map f (in_order fs) ≡ map g (in_order fs)
maps_agree f g fs each = go (in_order fs) (each_stands 0 fs)
  where
    go : (es : List Numbered) → EachStands 0 fs es → map f es ≡ map g es
    go [] at = refl
    go (e ∷ es) at =
        let number : e.number ≡ at.0.0 = at.0.1 ∙ omega arith in
        let one = each e.number e.function (ap (slice_get fs) number ∙ at.0.2) in
        let rest = go es at.1 in λ i. one i ∷ rest i

-- two choices of captured variables and names are the same where there are local functions
record AreAlike (f : TopFunction) (n : ℕ) (a b : Locals) : Type 0 where
  captured : (k : ℕ) (g : LocalFunction) → slice_get f.locals k ≡ Some g → a.captured n k ≡ b.captured n k
  names : (k : ℕ) (g : LocalFunction) → slice_get f.locals k ≡ Some g → a.name n k ≡ b.name n k

group_once : (number : ℕ → ℕ) (a b : Locals) (n : ℕ) (f : TopFunction) → IsTrue (list_all (rule_passes (local_heads f.locals)) (all_rules f))
    → AreAlike f n a b
    → lifted_group (lifting_of number a n f) (a.name n) f ≡ lifted_group (lifting_of number b n f) (b.name n) f
group_once number a b n f passes alike =
    let test = rule_passes (local_heads f.locals) in
    let mine = rules_of f.body in let others = flat_map local_rules f.locals in
    let inner = (lifting_of number a n f).inner in
    let body = body_agrees f.locals number inner (a.captured n) (b.captured n) alike.captured f.body (all_left test mine others passes) in
    let locals = maps_agree (lifted_local (lifting_of number a n f) (a.name n)) (lifted_local (lifting_of number b n f) (b.name n)) f.locals
    (λ k g at.
    let xs = alike.captured k g at in
    let name = alike.names k g at in
    let rules = rules_agree f.locals number inner (a.captured n) (b.captured n) alike.captured (a.captured n k) (b.captured n k) g.rules xs
    (one_part (λ (rs : List LocalRule). IsTrue (list_all test rs)) (all_left test) (all_right test) local_rules f.locals k g at (all_right test mine others passes)) in
    λ i. record { name = name i; arity = length (xs i) + g.arity; body = calculus.Rules (rules i) }) in
    λ i. record { name = f.name; arity = f.arity; body = body i } ∷ locals i

functions_once : (number : ℕ → ℕ) (a b : Locals) (n : ℕ) (fs : List TopFunction)
    → ((i m : ℕ) (f : TopFunction) → m ≡ n + i → slice_get fs i ≡ Some f
    → lifted_group (lifting_of number a m f) (a.name m) f ≡ lifted_group (lifting_of number b m f) (b.name m) f)
    → functions_from number a n fs ≡ functions_from number b n fs
functions_once number a b n [] each = refl
functions_once number a b n (f ∷ fs) each =
    let here : n ≡ n + zero = omega arith in
    let one = each zero n f here refl in
    let rest = functions_once number a b (n + 1) fs (λ i m g is at. each (suc i) m g (is ∙ omega arith) at) in
    λ i. one i ++ rest i

marks_once : (a b : Locals) (n : ℕ) (ms : List Mark) (fs : List TopFunction)
    → ((i m : ℕ) (f : TopFunction) → m ≡ n + i → slice_get fs i ≡ Some f → AreAlike f m a b) → marks_from a n ms fs ≡ marks_from b n ms fs
marks_once a b n [] [] each = refl
marks_once a b n [] (f ∷ fs) each = refl
marks_once a b n (m ∷ ms) [] each = refl
marks_once a b n (m ∷ ms) (f ∷ fs) each =
    let here : n ≡ n + zero = omega arith in
    let alike = each zero n f here refl in
    let one = maps_agree (local_mark m (a.captured n)) (local_mark m (b.captured n)) f.locals
    (λ k g at. ap (λ (xs : List ℕ). local_mark m (λ j. xs) (record { number = k; function = g })) (alike.captured k g at)) in
    let rest = marks_once a b (n + 1) ms fs (λ i j g is at. each (suc i) j g (is ∙ omega arith) at) in
    λ i. m ∷ one i ++ rest i

pub lifted_once : (texts : List (List ℕ)) (program : LocalKernel) (first second : Kernel) → IsPart program → AllDiffer texts
    → Lifts texts program first → Lifts texts program second → first ≡ second
unfolding lifted
lifted_once texts program first second is_part differ one two =
    one.whole ∙ same ∙ sym two.whole
  where
    alike : (i : ℕ) (f : TopFunction) → slice_get program.functions i ≡ Some f → AreAlike f i one.locals two.locals
    alike i f at = record {
      captured = λ k g inside.
          captured_once f.locals k (one.locals.captured i k) (two.locals.captured i k) (one.captured i k f g at inside) (two.captured i k f g at inside);
      names = λ k g inside.
          names_once texts (one.locals.name i k) (two.locals.name i k) (text_of texts f.name) (rank f.locals k) differ
          (one.named i k f g at inside) (two.named i k f g at inside);
    }

    alike_at : (i m : ℕ) (f : TopFunction) → m ≡ 0 + i → slice_get program.functions i ≡ Some f → AreAlike f m one.locals two.locals
    alike_at i m f is at =
        let here : i ≡ m = omega (arith, is) in subst (λ (j : ℕ). AreAlike f j one.locals two.locals) here (alike i f at)

    same : lifted one.locals program ≡ lifted two.locals program
    same =
        let number = top_number program.functions in
        let functions = functions_once number one.locals two.locals 0 program.functions
        (λ i m f is at. group_once number one.locals two.locals m f (is_part.functions i f at).calls (alike_at i m f is at)) in
        let marks = marks_once one.locals two.locals 0 program.marks program.functions alike_at in
        λ i. record {
          types = program.types;
          functions = functions i;
          synonyms = program.synonyms;
          modules = program.modules;
          marks = marks i;
          goal = (lifted one.locals program).goal;
          special = (lifted one.locals program).special;
        }
