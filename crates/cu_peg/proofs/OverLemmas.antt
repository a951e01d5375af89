-- What rows match of the numbers of tokens, they match of the tokens.
use Rattle.std.proofs.Common.{◌≡◌, ℕ, zero, suc, ◌-◌, ◌<◌, ◌≤◌, false, List, [], ◌∷◌, Option, None, Some, length, drop, refl, ap, sym, subst, ◌∙◌, arith}
use Rattle.std.specs.Prelude.{slice_get}
use Rattle.std.specs.Option.{option_and_then, option_map, option_map_or}
use Rattle.cu_lex.specs.Tokens.{Lexeme}
use Rattle.cu_peg.specs.Classes.{has}
use Rattle.cu_peg.specs.declared.class.Class.{Class}
use Rattle.cu_peg.specs.declared.row.Row.{Row}
use Rattle.cu_peg.specs.declared.row.Row.TheVariants as row
use Rattle.cu_peg.specs.Inside.Ends.{last}
use Rattle.cu_peg.specs.Matches as m
use Rattle.cu_peg.specs.Matches.{Fails, Matches, RowFails, RowMatches}
use Rattle.cu_peg.specs.Parse.{ParseTree, ParseTrees, Leaf, Parts, Chosen, NoTree, MoreTrees, only, tree_over, trees_over}
use Rattle.cu_peg.specs.Result.{HasNoTree, IsTreeOf, has_at, numbers}
use Rattle.cu_peg.proofs.OneTree.{once, refutes}
use Rattle.cu_peg.proofs.RowLemmas as parts
use Rattle.cu_peg.proofs.RowLemmas.{chosen_of, parts_of}

-- the last numbers in order
last-numbers : (n k : ℕ) → k ≤ n → last n k ≡ numbers (n - k) k
last-numbers n zero h = refl
last-numbers n (suc k) h =
    let next : n - k ≡ suc (n - suc k) = omega arith in
    ap (λ ks. (n - suc k) ∷ ks) (last-numbers n k (omega arith) ∙ ap (λ i. numbers i k) next)

pub last-all : (n : ℕ) → last n n ≡ numbers 0 n
last-all n = last-numbers n n (omega arith) ∙ ap (λ i. numbers i n) (omega arith)

module _ (rows : List Row) (text : List Lexeme) where
  -- Numbers of tokens, and the tokens.
  pub data At : List ℕ → List Lexeme → Type 0 where
    none : At [] []
    more : (k : ℕ) (x : Lexeme) (ks : List ℕ) (xs : List Lexeme) → slice_get text k ≡ Some x → At ks xs → At (k ∷ ks) (x ∷ xs)

  at_length : (ks : List ℕ) (xs : List Lexeme) → At ks xs → length ks ≡ length xs
  at_length _ _ none = refl
  at_length _ _ (more k x ks xs e a) = ap suc (at_length ks xs a)

  -- what a row matches of the tokens
  record Over (r : ℕ) (xs : List Lexeme) (rest : List ℕ) (t : ParseTree ℕ) : Type 0 where
    left : List Lexeme
    tree : ParseTree Lexeme
    at : At rest left
    over : tree_over text t ≡ Some tree
    matched : Matches rows has r xs left tree

  record RowOver (e : Row) (xs : List Lexeme) (rest : List ℕ) (t : ParseTree ℕ) : Type 0 where
    left : List Lexeme
    tree : ParseTree Lexeme
    at : At rest left
    over : tree_over text t ≡ Some tree
    matched : RowMatches rows has e xs left tree

  some_parts : (o : Option (ParseTrees Lexeme)) (t : ParseTree Lexeme) (ts : ParseTrees Lexeme) → option_map Parts o ≡ Some t → t ≡ Parts ts → o ≡ Some ts
  some_parts None t ts e f = let never : ⊥ = cc in absurd never
  some_parts (Some us) t ts e f = let same : Parts us ≡ Parts ts = cc in let equal : us ≡ ts = cc in ap Some equal

  some_chosen : (o : Option (ParseTree Lexeme)) (i j : ℕ) (t u : ParseTree Lexeme) → option_map (Chosen i) o ≡ Some t → t ≡ Chosen j u → (i ≡ j) × (o ≡ Some u)
  some_chosen None i j t u e f = let never : ⊥ = cc in absurd never
  some_chosen (Some v) i j t u e f = let same : Chosen i v ≡ Chosen j u = cc in let number : i ≡ j = cc in let equal : v ≡ u = cc in (number, ap Some equal)

  -- the parts of a row that has some
  record PartsOver (e : Row) (xs : List Lexeme) (rest : List ℕ) (ts : ParseTrees ℕ) : Type 0 where
    left : List Lexeme
    trees : ParseTrees Lexeme
    at : At rest left
    over : trees_over text ts ≡ Some trees
    matched : RowMatches rows has e xs left (Parts trees)

  parts_over : (e : Row) (xs : List Lexeme) (rest : List ℕ) (ts : ParseTrees ℕ) → parts.HasParts e → RowOver e xs rest (Parts ts) → PartsOver e xs rest ts
  parts_over e xs rest ts h o =
      let p = parts_of rows has e xs o.left o.tree h o.matched in
      record { left = o.left; trees = p.0; at = o.at; over = some_parts (trees_over text ts) o.tree p.0 o.over p.2; matched = p.1 }

  more_over : (t : ParseTree ℕ) (ts : ParseTrees ℕ) (u : ParseTree Lexeme) (us : ParseTrees Lexeme) → tree_over text t ≡ Some u → trees_over text ts ≡ Some us
      → tree_over text (Parts (MoreTrees t ts)) ≡ Some (Parts (MoreTrees u us))
  more_over t ts u us e f =
      ap (λ o. option_map Parts (option_and_then (λ first. option_map (MoreTrees first) (trees_over text ts)) o)) e
      ∙ ap (λ o. option_map Parts (option_map (MoreTrees u) o)) f

  only_over : (t : ParseTree ℕ) (u : ParseTree Lexeme) → tree_over text t ≡ Some u → tree_over text (Parts (only t)) ≡ Some (Parts (only u))
  only_over t u e = more_over t NoTree u NoTree e refl

  held : (c : Class) (k : ℕ) (x : Lexeme) → slice_get text k ≡ Some x → has_at text c k ≡ has c x
  held c k x e = ap (λ (o : Option Lexeme). option_map_or (has c) o false) e

  -- more parts after one
  joined_over : (e f : Row) (xs : List Lexeme) (rest : List ℕ) (t : ParseTree ℕ) (ts : ParseTrees ℕ) (u : ParseTree Lexeme) → tree_over text t ≡ Some u → (ys : List Lexeme)
      → PartsOver f ys rest ts → ((left : List Lexeme) (us : ParseTrees Lexeme) → RowMatches rows has f ys left (Parts us) → RowMatches rows has e xs left (Parts (MoreTrees u us)))
      → RowOver e xs rest (Parts (MoreTrees t ts))
  joined_over e f xs rest t ts u o ys p make = record {
    left = p.left;
    tree = Parts (MoreTrees u p.trees);
    at = p.at;
    over = more_over t ts u p.trees o p.over;
    matched = make p.left p.trees p.matched;
  }

  mutual
    over_matches : {r : ℕ} {ks rest : List ℕ} {t : ParseTree ℕ} → Matches rows (has_at text) r ks rest t → (xs : List Lexeme) → At ks xs → Over r xs rest t
    over_matches (m.matches r e ks rest t is d) xs a =
        let o = over_row d xs a in
        record { left = o.left; tree = o.tree; at = o.at; over = o.over; matched = m.matches r e xs o.left o.tree is o.matched }

    over_row : {e : Row} {ks rest : List ℕ} {t : ParseTree ℕ} → RowMatches rows (has_at text) e ks rest t → (xs : List Lexeme) → At ks xs → RowOver e xs rest t
    over_row (m.token c k rest h) _ (more _ x _ xs e a) =
        record { left = xs; tree = Leaf x; at = a; over = ap (option_map Leaf) e; matched = m.token c x xs (sym (held c k x e) ∙ h) }
    over_row (m.empty ks) xs a = record { left = xs; tree = Parts NoTree; at = a; over = refl; matched = m.empty xs }
    over_row (m.sequence p ps ks after rest t ts d ds) xs a =
        let o = over_matches d xs a in
        let others = parts_over (row.Sequence ps) o.left rest ts (parts.sequence ps) (over_row ds o.left o.at) in
        joined_over (row.Sequence (p ∷ ps)) (row.Sequence ps) xs rest t ts o.tree o.over o.left others (λ left us more. m.sequence p ps xs o.left left o.tree us o.matched more)
    over_row (m.first p ps ks rest t d) xs a =
        let o = over_matches d xs a in
        record { left = o.left; tree = Chosen zero o.tree; at = o.at; over = ap (option_map (Chosen zero)) o.over; matched = m.first p ps xs o.left o.tree o.matched }
    over_row (m.later p ps ks rest i t f d) xs a =
        let o = over_row d xs a in
        let c = chosen_of rows has ps xs o.left o.tree o.matched in
        let same = some_chosen (tree_over text t) i c.0 o.tree c.1 o.over c.3 in
        record {
          left = o.left;
          tree = Chosen (suc c.0) c.1;
          at = o.at;
          over = ap (option_map (Chosen (suc i))) same.1 ∙ ap (λ j. Some (Chosen (suc j) c.1)) same.0;
          matched = m.later p ps xs o.left c.0 c.1 (over_fails f xs a) c.2;
        }
    over_row (m.present p ks rest t d) xs a =
        let o = over_matches d xs a in
        record { left = o.left; tree = Parts (only o.tree); at = o.at; over = only_over t o.tree o.over; matched = m.present p xs o.left o.tree o.matched }
    over_row (m.absent p ks f) xs a = record { left = xs; tree = Parts NoTree; at = a; over = refl; matched = m.absent p xs (over_fails f xs a) }
    over_row (m.no_more p ks f) xs a = record { left = xs; tree = Parts NoTree; at = a; over = refl; matched = m.no_more p xs (over_fails f xs a) }
    over_row (m.one_more p ks after rest t ts d ds) xs a =
        let o = over_matches d xs a in
        let others = parts_over (row.Many p) o.left rest ts (parts.many p) (over_row ds o.left o.at) in
        joined_over (row.Many p) (row.Many p) xs rest t ts o.tree o.over o.left others (λ left us more. m.one_more p xs o.left left o.tree us o.matched more)
    over_row (m.at_least_one p ks after rest t ts d ds) xs a =
        let o = over_matches d xs a in
        let others = parts_over (row.Many p) o.left rest ts (parts.many p) (over_row ds o.left o.at) in
        joined_over (row.AtLeastOne p) (row.Many p) xs rest t ts o.tree o.over o.left others (λ left us more. m.at_least_one p xs o.left left o.tree us o.matched more)
    over_row (m.last p s ks rest t d f) xs a =
        let o = over_matches d xs a in
        record { left = o.left; tree = Parts (only o.tree); at = o.at; over = only_over t o.tree o.over; matched = m.last p s xs o.left o.tree o.matched (over_row_fails f o.left o.at) }
    over_row (m.separated p s ks after suffix rest t u ts d g ds) xs a =
        let o = over_matches d xs a in
        let b = over_matches g o.left o.at in
        let others = parts_over (row.SeparatedBy p s) b.left rest ts (parts.separated p s) (over_row ds b.left b.at) in
        joined_over (row.SeparatedBy p s) (row.SeparatedBy p s) xs rest t ts o.tree o.over b.left others
        (λ left us more. m.separated p s xs o.left b.left left o.tree b.tree us o.matched b.matched more)
    over_row (m.ahead p ks rest t d) xs a =
        let o = over_matches d xs a in
        record { left = xs; tree = Parts NoTree; at = a; over = refl; matched = m.ahead p xs o.left o.tree o.matched }
    over_row (m.not_ahead p ks f) xs a = record { left = xs; tree = Parts NoTree; at = a; over = refl; matched = m.not_ahead p xs (over_fails f xs a) }

    over_fails : {r : ℕ} {ks : List ℕ} → Fails rows (has_at text) r ks → (xs : List Lexeme) → At ks xs → Fails rows has r xs
    over_fails (m.fails r e ks is f) xs a = m.fails r e xs is (over_row_fails f xs a)

    over_row_fails : {e : Row} {ks : List ℕ} → RowFails rows (has_at text) e ks → (xs : List Lexeme) → At ks xs → RowFails rows has e xs
    over_row_fails (m.no_token c) _ none = m.no_token c
    over_row_fails (m.other_token c k rest h) _ (more _ x _ xs e a) = m.other_token c x xs (sym (held c k x e) ∙ h)
    over_row_fails (m.part_fails p ps ks f) xs a = m.part_fails p ps xs (over_fails f xs a)
    over_row_fails (m.rest_fails p ps ks after t d f) xs a = let o = over_matches d xs a in m.rest_fails p ps xs o.left o.tree o.matched (over_row_fails f o.left o.at)
    over_row_fails (m.no_alternative ks) xs a = m.no_alternative xs
    over_row_fails (m.all_fail p ps ks f fs) xs a = m.all_fail p ps xs (over_fails f xs a) (over_row_fails fs xs a)
    over_row_fails (m.not_even_one p ks f) xs a = m.not_even_one p xs (over_fails f xs a)
    over_row_fails (m.no_part p s ks f) xs a = m.no_part p s xs (over_fails f xs a)
    over_row_fails (m.not_found p ks f) xs a = m.not_found p xs (over_fails f xs a)
    over_row_fails (m.found p ks rest t d) xs a = let o = over_matches d xs a in m.found p xs o.left o.tree o.matched

  -- the numbers of the last tokens
  record First (xs : List Lexeme) (i : ℕ) : Type 0 where
    item : Lexeme
    is : slice_get xs i ≡ Some item
    from : drop i xs ≡ item ∷ drop (suc i) xs

  first_from : (xs : List Lexeme) (i : ℕ) → i < length xs → First xs i
  first_from [] i h = absurd (omega arith)
  first_from (x ∷ xs) zero h = record { item = x; is = refl; from = refl }
  first_from (x ∷ xs) (suc i) h = let f = first_from xs i (omega arith) in record { item = f.item; is = f.is; from = f.from }

  at_last : (n k : ℕ) → length text ≡ n → k ≤ n → At (last n k) (drop (n - k) text)
  at_last n zero e h = subst (λ (xs : List Lexeme). At [] xs) (sym (past text (n - zero) (omega arith))) none
    where
      past : (xs : List Lexeme) (i : ℕ) → length xs ≤ i → drop i xs ≡ []
      past [] zero h = refl
      past [] (suc i) h = refl
      past (x ∷ xs) zero h = absurd (omega arith)
      past (x ∷ xs) (suc i) h = past xs i (omega arith)
  at_last n (suc k) e h =
      let f = first_from text (n - suc k) (omega arith) in
      let next : suc (n - suc k) ≡ n - k = omega arith in
      subst (λ (xs : List Lexeme). At (last n (suc k)) xs) (sym (f.from ∙ ap (λ i. f.item ∷ drop i text) next))
      (more (n - suc k) f.item (last n k) (drop (n - k) text) f.is (at_last n k e (omega arith)))

  at_all : (n : ℕ) → length text ≡ n → At (last n n) text
  at_all n e = subst (λ (xs : List Lexeme). At (last n n) xs) (ap (λ i. drop i text) (all_taken n)) (at_last n n e (omega arith))
    where
      all_taken : (n : ℕ) → n - n ≡ 0
      all_taken n = omega arith

  no_left : (xs : List Lexeme) → At [] xs → xs ≡ []
  no_left _ none = refl

  pub tree_of : (n r : ℕ) (t : ParseTree ℕ) → length text ≡ n → Matches rows (has_at text) r (last n n) [] t → IsTreeOf rows r text t
  tree_of n r t e d =
      let o = over_matches d text (at_all n e) in
      record {
        numbered = subst (λ (ks : List ℕ). Matches rows (has_at text) r ks [] t) (last-all n ∙ ap (λ k. numbers 0 k) (sym e)) d;
        tree = o.tree;
        stands = o.over;
        whole = subst (λ (xs : List Lexeme). Matches rows has r text xs o.tree) (no_left o.left o.at) o.matched;
      }

  pub no_tree_fails : (n r : ℕ) → length text ≡ n → Fails rows (has_at text) r (last n n) → HasNoTree rows r text
  no_tree_fails n r e f tree d = refutes rows has d (over_fails f text (at_all n e))

  pub no_tree_left : (n r k : ℕ) (t : ParseTree ℕ) → length text ≡ n → 0 < length (last n k) → Matches rows (has_at text) r (last n n) (last n k) t → HasNoTree rows r text
  no_tree_left n r k t e h d tree whole =
      let o = over_matches d text (at_all n e) in
      let same = once rows has o.matched whole in
      absurd (omega (arith, ap length same.0, at_length (last n k) o.left o.at))
