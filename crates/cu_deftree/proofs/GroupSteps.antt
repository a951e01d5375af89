-- Steps of grouping rows by what they demand, and of taking the rows of a group.
use Rattle.std.proofs.Common.{◌≡◌, ◌∙◌, ℕ, suc, ◌+◌, ◌<◌, ◌≤◌, Bool, true, false, ◌&&◌, ◌||◌, cond, List, [], ◌∷◌, ◌++◌, Option, None, Some, option_map, filter, drop, map, length, get_or, slice_get, append_assoc, append-nil, nat_eq, add-one, arith, refl, sym, ap, ap₂, eqb-true}
use Rattle.std.proofs.lemmas.Bool.Decides.{Decides-int_eq}
use Rattle.std.proofs.lemmas.List.{at_drop_all, length-map, map-append}
use Rattle.std.proofs.lemmas.Option.{slice_get-map, slice_get_past, slice_get_read}
use Rattle.std.specs.declared.alloc.Global.{Global}
use Rattle.std.specs.declared.vec.Vec.{Vec}
use Rattle.std.specs.Ordering.{int_eq}
use Rattle.cu_calculus.specs.Choose.{Demand, Nothing, demands_nothing}
use Rattle.cu_calculus.specs.Literal.{same_literal}
use Rattle.cu_calculus.specs.declared.Lit.TheVariants as lit
use Rattle.cu_calculus.specs.declared.Lit.{Lit}
use Rattle.cu_deftree.specs.Inside.Groups.{AreAt, choice_demand, found_indices, indices, indices_of, key_of, picked}
use Rattle.cu_deftree.specs.Inside.RowsOf.{all_rows, row_of, demands_choice}
use Rattle.cu_deftree.specs.Lowering.{goes_on}
use Rattle.cu_deftree.specs.Rows.{Row, demand_at, specialize, specialized}
use Rattle.cu_deftree.specs.contracts.patterns.KeyPartialEq.TheImpl.{eq-value}
use Rattle.cu_deftree.specs.declared.groups.Groups.{Groups}
use Rattle.cu_deftree.specs.declared.patterns.Choice.TheVariants as choice
use Rattle.cu_deftree.specs.declared.patterns.Choice.{Choice}
use Rattle.cu_deftree.specs.declared.patterns.Key.TheVariants as key
use Rattle.cu_deftree.specs.declared.patterns.Key.{Key}
use Rattle.cu_deftree.specs.declared.rows.Row as code
use Rattle.cu_deftree.proofs.NameLaws.{left}
use Rattle.cu_deftree.proofs.TreeExits.{left_at}

-- ---- keys

key_is : (k q : Key) → eq-value.it k q ≡ true → k ≡ q
key_is (key.Constructor m) (key.Constructor n) e = ap key.Constructor (eqb-true m n e)
key_is (key.Integer m) (key.Integer n) e = ap key.Integer ((Decides-int_eq m n).0 e)
key_is (key.Character m) (key.Character n) e = ap key.Character (eqb-true m n e)
key_is _ _ e = let no : ⊥ = cc in absurd no

swapped : {A : Type 0} (test : A → A → Bool) → ((a b : A) → test a b ≡ true → a ≡ b) → (a b : A) → test a b ≡ test b a
swapped test is a b = by (test a b) (test b a) refl refl
  where
    by : (x y : Bool) → test a b ≡ x → test b a ≡ y → test a b ≡ test b a
    by true y e f = let same = is a b e in ap₂ test same (sym same)
    by false true e f = let same = is b a f in ap₂ test (sym same) same
    by false false e f = e ∙ sym f

-- whether a row demands a choice is told by keys
demanded_by_key : (c d : Choice) → demands_choice c (choice_demand d) ≡ eq-value.it (key_of d) (key_of c)
demanded_by_key (choice.Constructor c) (choice.Constructor d) = swapped nat_eq eqb-true c.0 d.0
demanded_by_key (choice.Constructor c) (choice.Literal (lit.Int n)) = refl
demanded_by_key (choice.Constructor c) (choice.Literal (lit.Char n)) = refl
demanded_by_key (choice.Literal (lit.Int m)) (choice.Constructor d) = refl
demanded_by_key (choice.Literal (lit.Char m)) (choice.Constructor d) = refl
demanded_by_key (choice.Literal (lit.Int m)) (choice.Literal (lit.Int n)) = swapped int_eq (λ a b. (Decides-int_eq a b).0) m n
demanded_by_key (choice.Literal (lit.Int m)) (choice.Literal (lit.Char n)) = refl
demanded_by_key (choice.Literal (lit.Char m)) (choice.Literal (lit.Int n)) = refl
demanded_by_key (choice.Literal (lit.Char m)) (choice.Literal (lit.Char n)) = swapped nat_eq eqb-true m n

pub same_key : (l m : Lit) → eq-value.it (key_of (choice.Literal l)) (key_of (choice.Literal m)) ≡ same_literal l m
same_key (lit.Int m) (lit.Int n) = refl
same_key (lit.Int m) (lit.Char n) = refl
same_key (lit.Char m) (lit.Int n) = refl
same_key (lit.Char m) (lit.Char n) = refl

-- ---- groups

abbrev Found : Type 0
Found = Option (Vec ℕ Global)

-- an index is put after those of the rows that demand the same
pub put_in : (before between after : Key → Found) (chosen c : Choice) (k : Key) (none had new : Vec ℕ Global) (found : Found) (n : ℕ)
    → k ≡ key_of chosen → ((q : Key) → between q ≡ cond (eq-value.it k q) (Some none) (before q))
    → ((q : Key) → after q ≡ cond (eq-value.it k q) (Some new) (between q)) → found ≡ before k → had.items ≡ found_indices found
    → new.items ≡ had.items ++ n ∷ []
    → found_indices (after (key_of c)) ≡ found_indices (before (key_of c)) ++ cond (demands_choice c (choice_demand chosen)) (n ∷ []) []
put_in before between after chosen c k none had new found n is first second old taken more =
    by (eq-value.it k (key_of c)) refl
  where
    told : demands_choice c (choice_demand chosen) ≡ eq-value.it k (key_of c)
    told = demanded_by_key c chosen ∙ ap (λ (j : Key). eq-value.it j (key_of c)) (sym is)

    by : (b : Bool) → eq-value.it k (key_of c) ≡ b
        → found_indices (after (key_of c)) ≡ found_indices (before (key_of c)) ++ cond (demands_choice c (choice_demand chosen)) (n ∷ []) []
    by true e =
        ap found_indices (second (key_of c) ∙ ap (λ (b : Bool). cond b (Some new) (between (key_of c))) e) ∙ more
        ∙ ap₂ (λ (ns : List ℕ) (b : Bool). ns ++ cond b (n ∷ []) []) (taken ∙ ap found_indices (old ∙ ap before (key_is k (key_of c) e)))
        (sym (told ∙ e))
    by false e =
        ap found_indices (second (key_of c) ∙ ap (λ (b : Bool). cond b (Some new) (between (key_of c))) e
        ∙ first (key_of c) ∙ ap (λ (b : Bool). cond b (Some none) (before (key_of c))) e)
        ∙ sym (append-nil (found_indices (before (key_of c))))
        ∙ ap (λ (b : Bool). found_indices (before (key_of c)) ++ cond b (n ∷ []) []) (sym (told ∙ e))

pub none_in : (c : Choice) (d : Demand) (n : ℕ) (before : List ℕ) → Nothing ≡ d → before ≡ before ++ cond (demands_choice c d) (n ∷ []) []
none_in c d n before e =
    sym (append-nil before) ∙ ap (λ (b : Bool). before ++ cond b (n ∷ []) []) (sym (nothing c) ∙ ap (demands_choice c) e)
  where
    nothing : (d : Choice) → demands_choice d Nothing ≡ false
    nothing (choice.Constructor d) = refl
    nothing (choice.Literal l) = refl

-- the indices of the rows that demand a choice at a position, where the first row has the index n
abbrev pub demanding_at : ℕ → Choice → ℕ → List code.Row → List ℕ
demanding_at k c n rows = indices_of (λ row. demands_choice c (demand_at k row)) n (all_rows rows)

next_in : (k : ℕ) (c : Choice) (n : ℕ) (row : code.Row) (rows : List code.Row)
    → demanding_at k c n (row ∷ rows) ≡ cond (demands_choice c (demand_at k (row_of row))) (n ∷ []) [] ++ demanding_at k c (suc n) rows
next_in k c n row rows = by (demands_choice c (demand_at k (row_of row)))
  where
    by : (b : Bool) → cond b (n ∷ demanding_at k c (suc n) rows) (demanding_at k c (suc n) rows) ≡ cond b (n ∷ []) [] ++ demanding_at k c (suc n) rows
    by true = refl
    by false = refl

pub added_in : (k : ℕ) (c : Choice) (rows : List code.Row) (i : ℕ) (row : code.Row) (d : Demand) (before new whole : List ℕ) → i < length rows
    → row ≡ get_or rows i row → d ≡ demand_at k (row_of row) → new ≡ before ++ cond (demands_choice c d) (i ∷ []) []
    → before ++ demanding_at k c i (drop i rows) ≡ whole → new ++ demanding_at k c (i + 1) (drop (i + 1) rows) ≡ whole
added_in k c rows i row d before new whole below is asked more so_far =
    let rest = demanding_at k c (suc i) (drop (i + 1) rows) in
    let one = cond (demands_choice c (demand_at k (row_of row))) (i ∷ []) [] in
    ap₂ (λ (ns : List ℕ) (n : ℕ). ns ++ demanding_at k c n (drop (i + 1) rows))
    (more ∙ ap (λ (e : Demand). before ++ cond (demands_choice c e) (i ∷ []) []) asked) (add-one i)
    ∙ append_assoc before one rest
    ∙ ap (λ (ns : List ℕ). before ++ ns)
    (sym (next_in k c i row (drop (i + 1) rows)) ∙ sym (ap (demanding_at k c i) (left rows i row below is)))
    ∙ so_far

pub all_in : (k : ℕ) (c : Choice) (rows : List code.Row) (i : ℕ) (before whole : List ℕ) → length rows ≤ i
    → before ++ demanding_at k c i (drop i rows) ≡ whole → before ≡ whole
all_in k c rows i before whole past so_far =
    sym (ap (λ (ns : List ℕ). before ++ ns) (at_drop_all (demanding_at k c i) rows i past) ∙ append-nil before) ∙ so_far

-- ---- the rows of a group

at_end : (prefix : List Row) (row : Row) (rows : List Row) → slice_get (prefix ++ row ∷ rows) (length prefix) ≡ Some row
at_end [] row rows = refl
at_end (x ∷ prefix) row rows = at_end prefix row rows

one_longer : (prefix : List Row) (row : Row) → suc (length prefix) ≡ length (prefix ++ row ∷ [])
one_longer [] row = refl
one_longer (x ∷ prefix) row = ap suc (one_longer prefix row)

abbrev with_row : List Row → Option Row → List Row
with_row rest found = elim found [ Some row ↦ row ∷ rest | None ↦ rest ]

picked_next : (test : Row → Bool) (prefix : List Row) (row : Row) (rows : List Row) (n : ℕ) → n ≡ length prefix
    → picked (prefix ++ row ∷ rows) (indices_of test (suc n) rows) ≡ filter test rows
    → picked (prefix ++ row ∷ rows) (indices_of test n (row ∷ rows)) ≡ filter test (row ∷ rows)
picked_next test prefix row rows n e rest = by (test row)
  where
    by : (b : Bool) → picked (prefix ++ row ∷ rows) (cond b (n ∷ indices_of test (suc n) rows) (indices_of test (suc n) rows))
        ≡ cond b (row ∷ filter test rows) (filter test rows)
    by true =
        ap (with_row (picked (prefix ++ row ∷ rows) (indices_of test (suc n) rows))) (ap (slice_get (prefix ++ row ∷ rows)) e ∙ at_end prefix row rows)
        ∙ ap (λ (xs : List Row). row ∷ xs) rest
    by false = rest

-- the rows with the indices of those that pass a test are the rows that pass it
picked_all : (test : Row → Bool) (prefix rows : List Row) (n : ℕ) → n ≡ length prefix
    → picked (prefix ++ rows) (indices_of test n rows) ≡ filter test rows
picked_all test prefix [] n e = refl
picked_all test prefix (row ∷ rows) n e =
    picked_next test prefix row rows n e
    (ap (λ (xs : List Row). picked xs (indices_of test (suc n) rows)) (sym (append_assoc prefix (row ∷ []) rows))
    ∙ picked_all test (prefix ++ row ∷ []) rows (suc n) (ap suc e ∙ one_longer prefix row))

-- what a group of a choice holds are the indices of the rows that demand it
pub are_at : (groups : Groups) (k : ℕ) (c : Choice) (slice : List ℕ) (rows : List Row)
    → ((d : Choice) → indices groups d ≡ indices_of (λ row. demands_choice d (demand_at k row)) 0 rows)
    → slice ≡ indices groups c → AreAt k c slice rows
are_at groups k c slice rows grouped is = record {
  same = ap (picked rows) (is ∙ grouped c) ∙ picked_all (λ row. demands_choice c (demand_at k row)) [] rows 0 refl;
}

pub picked_here : (rows : List code.Row) (ns : List ℕ) (i n : ℕ) (row : code.Row) → i < length ns
    → get_or ns i n < length rows → row ≡ get_or rows (get_or ns i n) row
    → picked (all_rows rows) (drop i ns) ≡ row_of row ∷ picked (all_rows rows) (drop (i + 1) ns)
picked_here rows ns i n row below there found =
    ap (picked (all_rows rows)) (left_at ns i n below)
    ∙ ap (with_row (picked (all_rows rows) (drop (i + 1) ns)))
    (slice_get-map row_of rows (get_or ns i n)
    ∙ ap (option_map row_of) (slice_get_read rows (length rows) (get_or ns i n) row refl there found))

pub picked_past : (rows : List code.Row) (ns : List ℕ) (i n : ℕ) → i < length ns → length rows ≤ get_or ns i n
    → picked (all_rows rows) (drop i ns) ≡ picked (all_rows rows) (drop (i + 1) ns)
picked_past rows ns i n below past =
    ap (picked (all_rows rows)) (left_at ns i n below)
    ∙ ap (with_row (picked (all_rows rows) (drop (i + 1) ns)))
    (slice_get_past (all_rows rows) (get_or ns i n) (omega (arith, length-map rows row_of, past)))

pub specialized_next : (k : ℕ) (new : List ℕ) (row : code.Row) (done after : List code.Row) (here rest whole : List Row) (one : code.Row)
    → here ≡ row_of row ∷ rest → row_of one ≡ specialized k new (row_of row) → after ≡ done ++ one ∷ []
    → all_rows done ++ map (specialized k new) here ≡ whole → all_rows after ++ map (specialized k new) rest ≡ whole
specialized_next k new row done after here rest whole one is made more so_far =
    ap (λ (xs : List code.Row). all_rows xs ++ map (specialized k new) rest) more
    ∙ ap (λ (xs : List Row). xs ++ map (specialized k new) rest) (map-append row_of done (one ∷ []))
    ∙ append_assoc (all_rows done) (row_of one ∷ []) (map (specialized k new) rest)
    ∙ ap (λ (r : Row). all_rows done ++ r ∷ map (specialized k new) rest) made
    ∙ sym (ap (λ (xs : List Row). all_rows done ++ map (specialized k new) xs) is) ∙ so_far

-- without variables the rows that go on into a branch are those that demand it
goes : (has_variables : Bool) (test : Demand → Bool) (d : Demand) → has_variables ≡ false → test d ≡ goes_on has_variables test d
goes has_variables test d e = sym (ap (λ (h : Bool). test d || (h && demands_nothing d)) e ∙ by (test d))
  where
    by : (b : Bool) → (b || false) ≡ b
    by true = refl
    by false = refl

filter_same : (p q : Row → Bool) → ((row : Row) → p row ≡ q row) → (rows : List Row) → filter p rows ≡ filter q rows
filter_same p q h [] = refl
filter_same p q h (row ∷ rows) =
    ap₂ (λ (b : Bool) (xs : List Row). cond b (row ∷ xs) xs) (h row) (filter_same p q h rows)

pub branch_without : (has_variables : Bool) (k : ℕ) (c : Choice) (new ns : List ℕ) (rows : List Row) → has_variables ≡ false
    → AreAt k c ns rows
    → map (specialized k new) (picked rows ns) ≡ specialize k new (goes_on has_variables (demands_choice c)) rows
branch_without has_variables k c new ns rows e are =
    ap (map (specialized k new))
    (are.same ∙ filter_same (λ row. demands_choice c (demand_at k row)) (λ row. goes_on has_variables (demands_choice c) (demand_at k row))
    (λ row. goes has_variables (demands_choice c) (demand_at k row) e) rows)
