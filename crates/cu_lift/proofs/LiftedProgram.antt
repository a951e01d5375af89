-- Lifted programs are valid.
use Rattle.std.proofs.Common.{◌≡◌, ℕ, ◌+◌, ◌≤◌, ◌<◌, Bool, true, false, ◌&&◌, List, [], ◌∷◌, ◌++◌, length, Option, None, Some, IsTrue, map, nat_eq, nat_le, slice_get, drop, option_map, refl, ap, sym, ◌∙◌, subst, arith}
use Rattle.std.specs.List.{list_all}
use Rattle.std.proofs.lemmas.Bool.{and_from, and_parts, eqb-true, eq-eqb, le-leb, lt-ltb, ltb-true, true≢false}
use Rattle.std.proofs.lemmas.Option.{slice_get-map}
use Rattle.cu_calculus.proofs.Lists.{all_append, get_map, passed_at}
use Rattle.cu_calculus.specs.Program as calculus
use Rattle.cu_calculus.specs.Program.{arity_in, function_of}
use Rattle.cu_calculus.specs.Shape.{is_allowed, takes, takes_more}
use Rattle.cu_calculus.specs.Valid.{HasSpecial, IsConjunction, by_case, by_rules, fits_body, fits_function, is_arity}
use Rattle.cu_calculus.specs.declared.Head.TheVariants as head
use Rattle.cu_calculus.specs.declared.Head.{Head}
use Rattle.cu_calculus.specs.declared.builtin.Special.{Special}
use Rattle.cu_kernel.specs.Captures.{AreCaptured}
use Rattle.cu_kernel.specs.FirstTypes.{Outline, first_outlines, begin_with, has_list_constructors, have_fields, is_like, list_outline, prelude}
use Rattle.cu_kernel.specs.Kernel.{Constructor, DataType, Function, Goal, Kernel, Mark, Synonym, constructors_from, constructors_of, plain_function, program_of}
use Rattle.cu_kernel.specs.LocalKernel as kernel
use Rattle.cu_kernel.specs.LocalKernel.{LocalBody, LocalFunction, LocalKernel, TopFunction}
use Rattle.cu_kernel.specs.LocalValid as part
use Rattle.cu_kernel.specs.LocalValid.{HasEntities, IsBoth, IsJoined, IsPart, IsScoped, all_rules, builds, function_fits, global_heads, has_parameters, all_have_parameters, heads_program, is_constructor, is_data_type, is_synonym, local_arity, names_types, all_name_types, rule_passes, rule_unlifted, takes_globally, takes_locally, takes_more_globally, takes_more_locally, without_rules}
use Rattle.cu_kernel.specs.TypeExpr as type
use Rattle.cu_kernel.specs.TypeExpr.{TypeExpr, TypeExprs}
use Rattle.cu_kernel.specs.Valid as whole
use Rattle.cu_kernel.specs.Valid.{IsValid, fit_marks, fits_goal, fits_mark}
use Rattle.cu_kernel.specs.declared.local.LocalHead.TheVariants as local_head
use Rattle.cu_kernel.specs.declared.local.LocalHead.{LocalHead}
use Rattle.cu_kernel.specs.declared.type_term.TypeName.TheVariants as name
use Rattle.cu_kernel.specs.declared.type_term.TypeName.{TypeName}
use Rattle.cu_lift.proofs.LiftedOrder.{all_functions, all_in_order, local_at, top_at}
use Rattle.cu_lift.proofs.LiftedRules.{inner_fits, top_fits}
use Rattle.cu_lift.proofs.LiftedTerms.{HeadsFit}
use Rattle.cu_lift.specs.Lifting.{Lifting, HaveArities, Lifts, Locals, Numbered, functions_from, in_order, lifted, lifted_body, lifted_goal, lifted_group, lifted_head, lifted_local, lifted_special, lifted_top, lifting_of, local_mark, local_number, mark_group, marks_from, moved, passed, top_number}

-- the program of the calculus that lifting makes
abbrev target : Locals → LocalKernel → calculus.Program
target locals program = record {
  functions = map plain_function (functions_from (top_number program.functions) locals 0 program.functions);
  constructors = constructors_from 0 program.types;
  special = lifted_special (top_number program.functions) program.special;
}

-- the least sets of captured variables
abbrev AllCaptured : Locals → LocalKernel → Type 0
AllCaptured locals program =
    (i k : ℕ) (f : TopFunction) (g : LocalFunction) → slice_get program.functions i ≡ Some f → slice_get f.locals k ≡ Some g
    → AreCaptured f.locals k (locals.captured i k)

-- ---- heads

module _ (locals : Locals) (program : LocalKernel) where
  abbrev number : ℕ → ℕ
  number = top_number program.functions

  abbrev P : calculus.Program
  P = target locals program

  abbrev H : calculus.Program
  H = heads_program program

  arity_of : Option calculus.Function → Option ℕ
  arity_of o = option_map (λ (f : calculus.Function). f.arity) o

  pub top_function : (i : ℕ) (f : TopFunction) → slice_get program.functions i ≡ Some f
      → slice_get P.functions (number i) ≡ Some (plain_function (lifted_top (lifting_of number locals i f) f))
  top_function i f at =
      get_map plain_function (functions_from number locals 0 program.functions) (number i) (lifted_top (lifting_of number locals i f) f)
      (top_at number locals program.functions i f at)

  local_function : (i k : ℕ) (f : TopFunction) (g : LocalFunction) → slice_get program.functions i ≡ Some f → slice_get f.locals k ≡ Some g
      → slice_get P.functions (local_number (number i) f.locals k)
      ≡ Some (plain_function (lifted_local (lifting_of number locals i f) (locals.name i) (record { number = k; function = g })))
  local_function i k f g at inside =
      get_map plain_function (functions_from number locals 0 program.functions) (local_number (number i) f.locals k)
      (lifted_local (lifting_of number locals i f) (locals.name i) (record { number = k; function = g }))
      (local_at number locals program.functions i k f g at inside)

  -- what is known of a top-level function's number of parameters
  kept : (i : ℕ) (test : Option ℕ → Bool) → test None ≡ false
      → IsTrue (test (option_map (λ (f : calculus.Function). f.arity) (slice_get (map without_rules program.functions) i)))
      → IsTrue (test (option_map (λ (f : calculus.Function). f.arity) (slice_get P.functions (number i))))
  kept i test none h = go (slice_get program.functions i) refl
    where
      before : slice_get (map without_rules program.functions) i ≡ option_map without_rules (slice_get program.functions i)
      before = slice_get-map without_rules program.functions i

      go : (o : Option TopFunction) → slice_get program.functions i ≡ o
          → IsTrue (test (option_map (λ (f : calculus.Function). f.arity) (slice_get P.functions (number i))))
      go None e =
          let gone : slice_get (map without_rules program.functions) i ≡ None = before ∙ ap (option_map without_rules) e in
          let bad : true ≡ false = sym h ∙ ap (λ o. test (option_map (λ (f : calculus.Function). f.arity) o)) gone ∙ none in
          let no : ⊥ = cc in absurd no
      go (Some f) e =
          let there : slice_get (map without_rules program.functions) i ≡ Some (without_rules f) = before ∙ ap (option_map without_rules) e in
          let arity : test (option_map (λ (f : calculus.Function). f.arity) (slice_get (map without_rules program.functions) i)) ≡ test (Some f.arity) =
          ap (λ o. test (option_map (λ (f : calculus.Function). f.arity) o)) there in
          ap (λ o. test (option_map (λ (f : calculus.Function). f.arity) o)) (top_function i f e) ∙ sym arity ∙ h

  global_whole : (h : Head) (n : ℕ) → IsTrue (is_allowed H h && takes (arity_in H h) n)
      → IsTrue (is_allowed P (moved number h) && takes (arity_in P (moved number h)) n)
  global_whole (head.Fun f) n h = kept f.0 (λ o. takes o n) refl h
  global_whole (head.Con c) n h = h
  global_whole (head.Set f) n h =
      let parts = and_parts (is_allowed H (head.Set f)) (takes (arity_in H (head.Set f)) n) h in
      and_from (is_allowed P (moved number (head.Set f))) (takes (arity_in P (moved number (head.Set f))) n) parts.0
      (kept f.0 (λ o. takes o n) refl parts.1)

  global_part : (h : Head) (n : ℕ) → IsTrue (is_allowed H h && takes_more (arity_in H h) n)
      → IsTrue (is_allowed P (moved number h) && takes_more (arity_in P (moved number h)) n)
  global_part (head.Fun f) n h = kept f.0 (λ o. takes_more o n) refl h
  global_part (head.Con c) n h = h
  global_part (head.Set f) n h =
      let parts = and_parts (is_allowed H (head.Set f)) (takes_more (arity_in H (head.Set f)) n) h in
      and_from (is_allowed P (moved number (head.Set f))) (takes_more (arity_in P (moved number (head.Set f))) n) parts.0
      (kept f.0 (λ o. takes_more o n) refl parts.1)

  local_kept : (i : ℕ) (f : TopFunction) → slice_get program.functions i ≡ Some f → (k n : ℕ) (test other : Option ℕ → ℕ → Bool)
      → test None n ≡ false
      → ((c a : ℕ) → IsTrue (test (Some a) n) → IsTrue (other (Some (c + a)) (c + n)))
      → IsTrue (test (local_arity f.locals k) n)
      → IsTrue (other (option_map (λ (g : calculus.Function). g.arity) (slice_get P.functions (local_number (number i) f.locals k))) (length (locals.captured i k) + n))
  local_kept i f at k n test other none more h = go (slice_get f.locals k) refl
    where
      go : (o : Option LocalFunction) → slice_get f.locals k ≡ o
          → IsTrue (other (option_map (λ (g : calculus.Function). g.arity) (slice_get P.functions (local_number (number i) f.locals k))) (length (locals.captured i k) + n))
      go None e =
          let bad : true ≡ false = sym h ∙ ap (λ o. test (option_map (λ (g : LocalFunction). g.arity) o) n) e ∙ none in
          let no : ⊥ = cc in absurd no
      go (Some g) e =
          let here : IsTrue (test (Some g.arity) n) =
          sym (ap (λ o. test (option_map (λ (g : LocalFunction). g.arity) o) n) e) ∙ h in
          ap (λ o. other (option_map (λ (g : calculus.Function). g.arity) o) (length (locals.captured i k) + n)) (local_function i k f g at e)
          ∙ more (length (locals.captured i k)) g.arity here

  taken_more : (n c a : ℕ) → IsTrue (takes (Some a) n) → IsTrue (takes (Some (c + a)) (c + n))
  taken_more n c a h = let same : a ≡ n = eqb-true a n h in eq-eqb (c + a) (c + n) (ap (λ m. c + m) same)

  fewer_more : (n c a : ℕ) → IsTrue (takes_more (Some a) n) → IsTrue (takes_more (Some (c + a)) (c + n))
  fewer_more n c a h = let below : n < a = ltb-true n a h in lt-ltb (c + n) (c + a) (omega arith)

  pub heads_fit : AllCaptured locals program → (i : ℕ) (f : TopFunction) → slice_get program.functions i ≡ Some f
      → HeadsFit f.locals (lifting_of number locals i f) H P
  heads_fit captured i f at = record {
    whole = whole_fits;
    part = part_fits;
    built = λ c n h. h;
    captured = λ k g v inside held. ((captured i k f g at inside).exact v).0 held;
  }
    where
      l : Lifting
      l = lifting_of number locals i f

      whole_fits : (h : LocalHead) (n : ℕ) → IsTrue (takes_locally f.locals h n) → IsTrue (takes_globally H h n)
          → IsTrue (is_allowed P (lifted_head (lifting_of number locals i f) h) && takes (arity_in P (lifted_head (lifting_of number locals i f) h)) (length (passed (lifting_of number locals i f) h) + n))
      whole_fits (local_head.Global h) n inner outer =
          let same : n ≡ 0 + n = omega arith in
          subst (λ (m : ℕ). IsTrue (is_allowed P (moved number h) && takes (arity_in P (moved number h)) m)) same (global_whole h n outer)
      whole_fits (local_head.Local k) n inner outer = local_kept i f at k n takes takes refl (taken_more n) inner

      part_fits : (h : LocalHead) (n : ℕ) → IsTrue (takes_more_locally f.locals h n) → IsTrue (takes_more_globally H h n)
          → IsTrue (is_allowed P (lifted_head (lifting_of number locals i f) h) && takes_more (arity_in P (lifted_head (lifting_of number locals i f) h)) (length (passed (lifting_of number locals i f) h) + n))
      part_fits (local_head.Global h) n inner outer =
          let same : n ≡ 0 + n = omega arith in
          subst (λ (m : ℕ). IsTrue (is_allowed P (moved number h) && takes_more (arity_in P (moved number h)) m)) same (global_part h n outer)
      part_fits (local_head.Local k) n inner outer = local_kept i f at k n takes_more takes_more refl (fewer_more n) inner

  -- ---- functions

  functions_pass : IsPart program → IsJoined program → (i : ℕ) (f : TopFunction) → slice_get program.functions i ≡ Some f
      → IsTrue (list_all (rule_passes (global_heads H)) (all_rules f))
  functions_pass is_part joined i f at =
      (and_parts (list_all (rule_passes (global_heads H)) (all_rules f)) (list_all (part.local_signature_fits program) f.locals)
      (passed_at (function_fits program) program.functions i f joined.functions at)).0

  abbrev body_fits : Function → Bool
  body_fits h = fits_body P h.arity h.body

  group_fits : IsPart program → IsJoined program → AllCaptured locals program → (i m : ℕ) (f : TopFunction) → m ≡ 0 + i
      → slice_get program.functions i ≡ Some f → IsTrue (list_all body_fits (lifted_group (lifting_of number locals m f) (locals.name m) f))
  group_fits is_part joined captured i m f is at =
      let same : i ≡ m = is_same in
      subst (λ (m : ℕ). IsTrue (list_all body_fits (lifted_group (lifting_of number locals m f) (locals.name m) f))) same fits
    where
      is_same : i ≡ m
      is_same = omega (arith, is)

      fits : IsTrue (list_all body_fits (lifted_group (lifting_of number locals i f) (locals.name i) f))
      fits =
          let l = lifting_of number locals i f in
          let scoped = is_part.functions i f at in
          let heads = heads_fit captured i f at in
          let outer = functions_pass is_part joined i f at in
          and_from (body_fits (lifted_top l f)) (list_all body_fits (map (lifted_local l (locals.name i)) (in_order f.locals)))
          (top_fits H P f l scoped heads outer)
          (all_in_order (lifted_local l (locals.name i)) body_fits f.locals
          (λ k g inside. inner_fits H P f l scoped heads outer k g inside (captured i k f g at inside)))

  both_tests : (fs : List Function) → IsTrue (list_all (λ f. is_arity f.arity) fs) → IsTrue (list_all body_fits fs)
      → IsTrue (list_all (fits_function P) (map plain_function fs))
  both_tests [] h k = refl
  both_tests (f ∷ fs) h k =
      let one = and_parts (is_arity f.arity) (list_all (λ (g : Function). is_arity g.arity) fs) h in
      let two = and_parts (body_fits f) (list_all body_fits fs) k in
      and_from (is_arity f.arity && body_fits f) (list_all (fits_function P) (map plain_function fs))
      (and_from (is_arity f.arity) (body_fits f) one.0 two.0) (both_tests fs one.1 two.1)

  pub functions_fit : IsPart program → IsJoined program → AllCaptured locals program
      → IsTrue (list_all (λ f. is_arity f.arity) (functions_from number locals 0 program.functions)) → IsTrue (list_all (fits_function P) P.functions)
  functions_fit is_part joined captured arities =
      both_tests (functions_from number locals 0 program.functions) arities
      (all_functions number locals body_fits 0 program.functions (group_fits is_part joined captured))

  -- ---- built-in entities

  taken_is : (o : Option ℕ) (n : ℕ) → IsTrue (takes o n) → o ≡ Some n
  taken_is None n h = let no : ⊥ = cc in absurd no
  taken_is (Some a) n h = ap (λ m. Some m) (eqb-true a n h)

  -- `[]` and `:` are the first two constructors
  first_like : (o : Outline) (os : List Outline) (ts : List DataType) → IsTrue (begin_with (o ∷ os) ts)
      → (t : DataType) × (rest : List DataType) × (ts ≡ t ∷ rest) × IsTrue (is_like o t)
  first_like o os [] h = let no : ⊥ = cc in absurd no
  first_like o os (t ∷ ts) h = (t, ts, refl, (and_parts (is_like o t) (begin_with os ts) h).0)

  two_fields : (cs : List Constructor) → IsTrue (have_fields (0 ∷ 2 ∷ []) cs)
      → (c : Constructor) × (d : Constructor) × (cs ≡ c ∷ d ∷ []) × (length c.fields ≡ 0) × (length d.fields ≡ 2)
  two_fields [] h = let no : ⊥ = cc in absurd no
  two_fields (c ∷ []) h =
      let parts = and_parts (nat_eq (length c.fields) 0) false h in let no : ⊥ = cc in absurd no
  two_fields (c ∷ d ∷ []) h =
      let parts = and_parts (nat_eq (length c.fields) 0) (nat_eq (length d.fields) 2 && true) h in
      let rest = and_parts (nat_eq (length d.fields) 2) true parts.1 in
      (c, d, refl, eqb-true (length c.fields) 0 parts.0, eqb-true (length d.fields) 2 rest.0)
  two_fields (c ∷ d ∷ e ∷ cs) h =
      let parts = and_parts (nat_eq (length c.fields) 0) (nat_eq (length d.fields) 2 && false) h in
      let rest = and_parts (nat_eq (length d.fields) 2) false parts.1 in
      let no : ⊥ = true≢false (sym rest.1) in absurd no

  abbrev list_constructor : ℕ → calculus.Constructor
  list_constructor n = record { of_type = 0; arity = n }

  list_constructors : (ts : List DataType) → IsTrue (begin_with first_outlines ts)
      → (slice_get (constructors_from 0 ts) 0 ≡ Some (list_constructor 0)) × (slice_get (constructors_from 0 ts) 1 ≡ Some (list_constructor 2))
  list_constructors ts h =
      let first = first_like list_outline (drop 1 first_outlines) ts h in
      let t = first.0 in
      let like = and_parts (nat_eq t.module prelude && nat_eq t.arity 1) (have_fields (0 ∷ 2 ∷ []) t.constructors) first.3 in
      let two = two_fields t.constructors like.1 in
      let whole : constructors_from 0 ts ≡ constructors_of 0 (two.0 ∷ two.1 ∷ []) ++ constructors_from (0 + 1) first.1 =
      ap (constructors_from 0) first.2 ∙ ap (λ cs. constructors_of 0 cs ++ constructors_from (0 + 1) first.1) two.2 in (
        ap (λ cs. slice_get cs 0) whole ∙ ap (λ n. Some (list_constructor n)) two.3,
        ap (λ cs. slice_get cs 1) whole ∙ ap (λ n. Some (list_constructor n)) two.4,
      )

  rules_in : calculus.Body → List calculus.Rule
  rules_in (calculus.Rules rules) = rules
  rules_in (calculus.External operation) = []

  conjunction_stays : (l : Lifting) (special : Special) (rules : List calculus.Rule) → IsConjunction special (calculus.Rules rules)
      → IsConjunction (lifted_special number special) (lifted_body l (kernel.Rules (map rule_unlifted rules)))
  unfolding rules_in
  conjunction_stays l special rules (by_rules body x y e) =
      by_rules (lifted_body l (kernel.Rules (map rule_unlifted rules))) x y
      (ap (λ b. lifted_body l (kernel.Rules (map rule_unlifted (rules_in b)))) e)
  conjunction_stays l special rules (by_case body x y differ e) =
      by_case (lifted_body l (kernel.Rules (map rule_unlifted rules))) x y differ
      (ap (λ b. lifted_body l (kernel.Rules (map rule_unlifted (rules_in b)))) e)

  pub special_stays : IsJoined program → HasSpecial P
  special_stays joined =
      let e = joined.entities in
      let firsts = and_parts (begin_with first_outlines program.types) (has_list_constructors program.special) joined.first_types in
      let lists = and_parts (nat_eq program.special.nil.0 0) (nat_eq program.special.cons.0 1) firsts.1 in
      let two = list_constructors program.types firsts.0 in
      let f = e.both.0 in
      let l = lifting_of number locals program.special.both.0 f in
      let arity = λ (n : ℕ). option_map (λ (c : calculus.Constructor). c.arity) (slice_get (constructors_from 0 program.types) n) in
      record {
        falsity = taken_is (arity_in H (head.Con program.special.falsity)) 0 e.falsity;
        truth = taken_is (arity_in H (head.Con program.special.truth)) 0 e.truth;
        ordered = ltb-true program.special.falsity.0 program.special.truth.0 e.ordered;
        nil = ap arity (eqb-true program.special.nil.0 0 lists.0) ∙ ap (option_map (λ (c : calculus.Constructor). c.arity)) two.0;
        cons = ap arity (eqb-true program.special.cons.0 1 lists.1) ∙ ap (option_map (λ (c : calculus.Constructor). c.arity)) two.1;
        both = (
          plain_function (lifted_top l f),
          top_function program.special.both.0 f e.both.1,
          e.both.2.arity,
          subst (λ (b : LocalBody). IsConjunction (lifted_special number program.special) (lifted_body l b)) (sym e.both.2.body)
              (conjunction_stays l program.special e.both.2.rules e.both.2.conjunction),
        );
        values = λ c is. taken_is (arity_in H (head.Con c)) 1 (e.values c is);
      }

  constructors_pass : (n : ℕ) (ts : List DataType) → IsTrue (list_all is_data_type ts)
      → IsTrue (list_all (λ c. is_arity c.arity) (constructors_from n ts))
  constructors_pass n [] h = refl
  constructors_pass n (t ∷ ts) h =
      let parts = and_parts (is_data_type t) (list_all is_data_type ts) h in
      all_append (λ (c : calculus.Constructor). is_arity c.arity) (constructors_of n t.constructors) (constructors_from (n + 1) ts)
      (go t.constructors parts.0) (constructors_pass (n + 1) ts parts.1)
    where
      go : (cs : List Constructor) → IsTrue (list_all (is_constructor t.arity) cs)
          → IsTrue (list_all (λ c. is_arity c.arity) (constructors_of n cs))
      go [] h = refl
      go (c ∷ cs) h =
          let parts = and_parts (is_constructor t.arity c) (list_all (is_constructor t.arity) cs) h in
          and_from (is_arity (length c.fields)) (list_all (λ (d : calculus.Constructor). is_arity d.arity) (constructors_of n cs))
          (and_parts (is_arity (length c.fields)) (list_all (has_parameters t.arity) c.fields) parts.0).0 (go cs parts.1)

  -- ---- declarations

  abbrev K : Kernel
  K = record {
    types = program.types;
    functions = functions_from number locals 0 program.functions;
    synonyms = program.synonyms;
    modules = program.modules;
    marks = marks_from locals 0 program.marks program.functions;
    goal = option_map (lifted_goal number) program.goal;
    special = lifted_special number program.special;
  }

  name_fits : (n : TypeName) → IsTrue (part.is_type_name program n) → IsTrue (whole.is_type_name K n)
  name_fits (name.Data t) h = h
  name_fits (name.Synonym s) h = h

  mutual
    type_fits : (count : ℕ) (t : TypeExpr) → IsTrue (has_parameters count t) → IsTrue (names_types program t)
        → IsTrue (whole.fits_type K (whole.is_parameter count) t)
    type_fits count (type.Variable x) h k = h
    type_fits count (type.Arrow a b) h k =
        let one = and_parts (has_parameters count a) (has_parameters count b) h in
        let two = and_parts (names_types program a) (names_types program b) k in
        and_from (whole.fits_type K (whole.is_parameter count) a) (whole.fits_type K (whole.is_parameter count) b)
        (type_fits count a one.0 two.0) (type_fits count b one.1 two.1)
    type_fits count (type.Named n ts) h k =
        let two = and_parts (part.is_type_name program n) (all_name_types program ts) k in
        and_from (whole.is_type_name K n) (whole.fit_types K (whole.is_parameter count) ts) (name_fits n two.0) (types_fit count ts h two.1)

    types_fit : (count : ℕ) (ts : TypeExprs) → IsTrue (all_have_parameters count ts) → IsTrue (all_name_types program ts)
        → IsTrue (whole.fit_types K (whole.is_parameter count) ts)
    types_fit count type.NoType h k = refl
    types_fit count (type.MoreTypes t ts) h k =
        let one = and_parts (has_parameters count t) (all_have_parameters count ts) h in
        let two = and_parts (names_types program t) (all_name_types program ts) k in
        and_from (whole.fits_type K (whole.is_parameter count) t) (whole.fit_types K (whole.is_parameter count) ts)
        (type_fits count t one.0 two.0) (types_fit count ts one.1 two.1)

  mutual
    free_type_fits : (t : TypeExpr) → IsTrue (names_types program t) → IsTrue (whole.fits_type K (λ x. true) t)
    free_type_fits (type.Variable x) k = refl
    free_type_fits (type.Arrow a b) k =
        let two = and_parts (names_types program a) (names_types program b) k in
        and_from (whole.fits_type K (λ x. true) a) (whole.fits_type K (λ x. true) b) (free_type_fits a two.0) (free_type_fits b two.1)
    free_type_fits (type.Named n ts) k =
        let two = and_parts (part.is_type_name program n) (all_name_types program ts) k in
        and_from (whole.is_type_name K n) (whole.fit_types K (λ x. true) ts) (name_fits n two.0) (free_types_fit ts two.1)

    free_types_fit : (ts : TypeExprs) → IsTrue (all_name_types program ts) → IsTrue (whole.fit_types K (λ x. true) ts)
    free_types_fit type.NoType k = refl
    free_types_fit (type.MoreTypes t ts) k =
        let two = and_parts (names_types program t) (all_name_types program ts) k in
        and_from (whole.fits_type K (λ x. true) t) (whole.fit_types K (λ x. true) ts) (free_type_fits t two.0) (free_types_fit ts two.1)

  -- what passes two tests passes a third
  both_pass : {A : Type 0} (p q r : A → Bool) → ((x : A) → IsTrue (p x) → IsTrue (q x) → IsTrue (r x)) → (xs : List A)
      → IsTrue (list_all p xs) → IsTrue (list_all q xs) → IsTrue (list_all r xs)
  both_pass p q r each [] h k = refl
  both_pass p q r each (x ∷ xs) h k =
      let one = and_parts (p x) (list_all p xs) h in
      let two = and_parts (q x) (list_all q xs) k in
      and_from (r x) (list_all r xs) (each x one.0 two.0) (both_pass p q r each xs one.1 two.1)

  constructor_fits : (count : ℕ) (c : Constructor) → IsTrue (is_constructor count c) → IsTrue (part.constructor_names_types program c)
      → IsTrue (whole.fits_constructor K count c)
  constructor_fits count c h k =
      both_pass (has_parameters count) (names_types program) (whole.fits_type K (whole.is_parameter count)) (type_fits count) c.fields
      (and_parts (is_arity (length c.fields)) (list_all (has_parameters count) c.fields) h).1 k

  data_type_fits : (t : DataType) → IsTrue (is_data_type t) → IsTrue (part.type_is_placed program t) → IsTrue (whole.fits_data_type K t)
  data_type_fits t h k =
      let two = and_parts (part.is_module program t.module) (list_all (part.constructor_names_types program) t.constructors) k in
      and_from (whole.is_module K t.module) (list_all (whole.fits_constructor K t.arity) t.constructors) two.0
      (both_pass (is_constructor t.arity) (part.constructor_names_types program) (whole.fits_constructor K t.arity) (constructor_fits t.arity)
      t.constructors h two.1)

  synonym_fits : (s : Synonym) → IsTrue (is_synonym s) → IsTrue (part.synonym_is_placed program s) → IsTrue (whole.fits_synonym K s)
  synonym_fits s h k =
      let two = and_parts (part.is_module program s.module) (names_types program s.body) k in
      and_from (whole.is_module K s.module) (whole.fits_type K (whole.is_parameter s.arity) s.body) two.0 (type_fits s.arity s.body h two.1)

  signature_fits : (o : Option TypeExpr) → IsTrue (part.signature_names_types program o) → IsTrue (whole.fits_signature K o)
  signature_fits None h = refl
  signature_fits (Some t) h = free_type_fits t h

  -- ---- marks

  marks_append : (ms ns : List Mark) (fs gs : List Function) → IsTrue (fit_marks K ms fs) → IsTrue (fit_marks K ns gs)
      → IsTrue (fit_marks K (ms ++ ns) (fs ++ gs))
  marks_append [] ns [] gs h k = k
  marks_append [] ns (f ∷ fs) gs h k = let no : ⊥ = cc in absurd no
  marks_append (m ∷ ms) ns [] gs h k = let no : ⊥ = cc in absurd no
  marks_append (m ∷ ms) ns (f ∷ fs) gs h k =
      let parts = and_parts (fits_mark K m f) (fit_marks K ms fs) h in
      and_from (fits_mark K m f) (fit_marks K (ms ++ ns) (fs ++ gs)) parts.0 (marks_append ms ns fs gs parts.1 k)

  pairs_fit : (mark : Numbered → Mark) (function : Numbered → Function) (es : List Numbered)
      → IsTrue (list_all (λ (p : Mark × Function). fits_mark K p.0 p.1) (map (λ e. (mark e, function e)) es))
      → IsTrue (fit_marks K (map mark es) (map function es))
  pairs_fit mark function [] h = refl
  pairs_fit mark function (e ∷ es) h =
      let parts = and_parts (fits_mark K (mark e) (function e))
      (list_all (λ (p : Mark × Function). fits_mark K p.0 p.1) (map (λ e. (mark e, function e)) es)) h in
      and_from (fits_mark K (mark e) (function e)) (fit_marks K (map mark es) (map function es)) parts.0 (pairs_fit mark function es parts.1)

  mark_fits : (m : Mark) (f : TopFunction) (l : Lifting) → IsTrue (part.mark_is_placed program m) → IsTrue (part.captures_nothing m)
      → IsTrue (fits_mark K m (lifted_top l f))
  mark_fits m f l h k =
      let two = and_parts (part.is_module program m.module) (part.signature_names_types program m.declared) h in
      let none : m.captured ≡ 0 = eqb-true m.captured 0 k in
      let few : m.captured ≤ f.arity = omega arith in
      and_from (whole.is_module K m.module && nat_le m.captured f.arity) (whole.fits_signature K m.declared)
      (and_from (whole.is_module K m.module) (nat_le m.captured f.arity) two.0 (le-leb m.captured f.arity few))
      (signature_fits m.declared two.1)

  local_mark_fits : (m : Mark) (n : ℕ) (f : TopFunction) (e : Numbered) → IsTrue (part.mark_is_placed program m)
      → IsTrue (part.local_signature_fits program e.function)
      → IsTrue (fits_mark K (local_mark m (locals.captured n) e) (lifted_local (lifting_of number locals n f) (locals.name n) e))
  local_mark_fits m n f e h k =
      let two = and_parts (part.is_module program m.module) (part.signature_names_types program m.declared) h in
      let size = length (locals.captured n e.number) in
      let few : size ≤ size + e.function.arity = omega arith in
      and_from (whole.is_module K m.module && nat_le size (size + e.function.arity)) (whole.fits_signature K e.function.declared)
      (and_from (whole.is_module K m.module) (nat_le size (size + e.function.arity)) two.0 (le-leb size (size + e.function.arity) few))
      (signature_fits e.function.declared k)

  marks_fit : (n : ℕ) (ms : List Mark) (fs : List TopFunction) → length ms ≡ length fs → IsTrue (list_all (part.mark_is_placed program) ms)
      → IsTrue (list_all part.captures_nothing ms) → IsTrue (list_all (function_fits program) fs)
      → IsTrue (fit_marks K (marks_from locals n ms fs) (functions_from number locals n fs))
  marks_fit n [] [] same placed none fits = refl
  marks_fit n [] (f ∷ fs) same placed none fits = absurd (omega (arith, same))
  marks_fit n (m ∷ ms) [] same placed none fits = absurd (omega (arith, same))
  marks_fit n (m ∷ ms) (f ∷ fs) same placed none fits =
      let l = lifting_of number locals n f in
      let one = and_parts (part.mark_is_placed program m) (list_all (part.mark_is_placed program) ms) placed in
      let two = and_parts (part.captures_nothing m) (list_all part.captures_nothing ms) none in
      let three = and_parts (function_fits program f) (list_all (function_fits program) fs) fits in
      let signatures = (and_parts (list_all (rule_passes (global_heads H)) (all_rules f)) (list_all (part.local_signature_fits program) f.locals) three.0).1 in
      let rest : length ms ≡ length fs = omega (arith, same) in
      marks_append (mark_group (locals.captured n) m f) (marks_from locals (n + 1) ms fs) (lifted_group l (locals.name n) f)
      (functions_from number locals (n + 1) fs)
      (and_from (fits_mark K m (lifted_top l f))
      (fit_marks K (map (local_mark m (locals.captured n)) (in_order f.locals)) (map (lifted_local l (locals.name n)) (in_order f.locals)))
      (mark_fits m f l one.0 two.0)
      (pairs_fit (local_mark m (locals.captured n)) (lifted_local l (locals.name n)) (in_order f.locals)
      (all_in_order (λ e. (local_mark m (locals.captured n) e, lifted_local l (locals.name n) e)) (λ (p : Mark × Function). fits_mark K p.0 p.1) f.locals
      (λ k g at. local_mark_fits m n f (record { number = k; function = g }) one.0
      (passed_at (part.local_signature_fits program) f.locals k g signatures at)))))
      (marks_fit (n + 1) ms fs rest one.1 two.1 three.1)

  -- ---- the goal

  rules_stay : (l : Lifting) (body : LocalBody) → IsTrue (part.has_rules body) → IsTrue (whole.has_rules (lifted_body l body))
  rules_stay l (kernel.Rules rules) h = refl
  rules_stay l (kernel.External operation) h = let no : ⊥ = cc in absurd no

  names_taken : (count i : ℕ) (o : Option TopFunction) → slice_get program.functions i ≡ o → IsTrue (part.takes_names count o)
      → IsTrue (whole.takes_names count (slice_get K.functions (number i)))
  names_taken count i None at h = let no : ⊥ = cc in absurd no
  names_taken count i (Some f) at h =
      let l = lifting_of number locals i f in
      let parts = and_parts (nat_eq f.arity count) (part.has_rules f.body) h in
      ap (whole.takes_names count) (top_at number locals program.functions i f at)
      ∙ and_from (nat_eq f.arity count) (whole.has_rules (lifted_body l f.body)) parts.0 (rules_stay l f.body parts.1)

  goal_fits : (o : Option Goal) → IsTrue (part.goal_fits program o) → IsTrue (fits_goal K (option_map (lifted_goal number) o))
  goal_fits None h = refl
  goal_fits (Some g) h = names_taken (length g.names) g.function.0 (slice_get program.functions g.function.0) refl h

  pub lifted_is_valid : IsPart program → IsJoined program → AllCaptured locals program → HaveArities (lifted locals program) → IsValid (lifted locals program)
  unfolding lifted program_of
  lifted_is_valid is_part joined captured arities = record {
    program = record {
      constructors = constructors_pass 0 program.types is_part.types;
      functions = functions_fit is_part joined captured arities;
      special = special_stays joined;
    };
    first_types = joined.first_types;
    types = both_pass is_data_type (part.type_is_placed program) (whole.fits_data_type K) data_type_fits program.types is_part.types joined.types;
    synonyms = both_pass is_synonym (part.synonym_is_placed program) (whole.fits_synonym K) synonym_fits program.synonyms is_part.synonyms joined.synonyms;
    marks = marks_fit 0 program.marks program.functions is_part.marks joined.marks is_part.uncaptured joined.functions;
    goal = goal_fits program.goal joined.goal;
  }

-- whatever has the shape of a lifted program is valid
pub lifting_is_valid : (texts : List (List ℕ)) (program : LocalKernel) (result : Kernel) → IsPart program → IsJoined program
    → Lifts texts program result → HaveArities result → IsValid result
lifting_is_valid texts program result is_part joined lifts arities =
    subst (λ (k : Kernel). IsValid k) (sym lifts.whole)
    (lifted_is_valid lifts.locals program is_part joined lifts.captured (subst (λ (k : Kernel). HaveArities k) lifts.whole arities))
