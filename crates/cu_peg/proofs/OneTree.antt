-- A row leaves one rest of a text and gives one tree, or it fails.
use Rattle.std.proofs.Common.{◌≡◌, ℕ, Bool, zero, suc, List, [], ◌∷◌, Some, refl, ap, sym, subst}
use Rattle.std.specs.Prelude.{slice_get}
use Rattle.cu_peg.specs.declared.class.Class.{Class}
use Rattle.cu_peg.specs.declared.row.Row.{Row}
use Rattle.cu_peg.specs.declared.row.Row.TheVariants as row
use Rattle.cu_peg.specs.Matches as m
use Rattle.cu_peg.specs.Matches.{Fails, Matches, RowFails, RowMatches}
use Rattle.cu_peg.specs.Parse.{ParseTree, ParseTrees, Parts, Chosen, NoTree, MoreTrees, only}

module _ {T : Type 0} (rows : List Row) (has : Class → T → Bool) where
  -- the row of a number is one
  same_row : (r : ℕ) (e f : Row) → slice_get rows r ≡ Some e → slice_get rows r ≡ Some f → e ≡ f
  same_row r e f p q = cc

  move : (p : ℕ) (text other rest : List T) (tree : ParseTree T) → text ≡ other → Matches rows has p text rest tree → Matches rows has p other rest tree
  move p text other rest tree e d = subst (λ (t : List T). Matches rows has p t rest tree) e d

  move_row : (e : Row) (text other rest : List T) (tree : ParseTree T) → text ≡ other → RowMatches rows has e text rest tree → RowMatches rows has e other rest tree
  move_row r text other rest tree e d = subst (λ (t : List T). RowMatches rows has r t rest tree) e d

  move_fails : (p : ℕ) (text other : List T) → text ≡ other → Fails rows has p text → Fails rows has p other
  move_fails p text other e d = subst (λ (t : List T). Fails rows has p t) e d

  move_row_fails : (e : Row) (text other : List T) → text ≡ other → RowFails rows has e text → RowFails rows has e other
  move_row_fails r text other e d = subst (λ (t : List T). RowFails rows has r t) e d

  -- the parts of parts that are equal
  parts_equal : (t u : ParseTree T) (ts us : ParseTrees T) → t ≡ u → Parts ts ≡ Parts us → Parts (MoreTrees t ts) ≡ Parts (MoreTrees u us)
  parts_equal t u ts us e f = cc

  chosen_equal : (n k : ℕ) (t u : ParseTree T) → Chosen n t ≡ Chosen k u → Chosen (suc n) t ≡ Chosen (suc k) u
  chosen_equal n k t u e = cc

  -- a separator with a part after it, of which each is there
  both_there : (p s : ℕ) (text suffix : List T) → RowFails rows has (row.Sequence (s ∷ p ∷ [])) text → (Fails rows has s text → ⊥)
      → ((rest : List T) (tree : ParseTree T) → Matches rows has s text rest tree → rest ≡ suffix) → (Fails rows has p suffix → ⊥) → ⊥
  both_there p s text suffix (m.part_fails _ _ _ f) no_separator here no_part = no_separator f
  both_there p s text suffix (m.rest_fails _ _ _ after tree d (m.part_fails _ _ _ f)) no_separator here no_part =
      no_part (move_fails p after suffix (here after tree d) f)
  both_there p s text suffix (m.rest_fails _ _ _ after tree d (m.rest_fails _ _ _ _ _ _ f)) no_separator here no_part = elim f [ ]

  -- what is separated begins with a part
  begins : (p s : ℕ) (text rest : List T) (tree : ParseTree T) → RowMatches rows has (row.SeparatedBy p s) text rest tree
      → (after : List T) × (first : ParseTree T) × Matches rows has p text after first
  begins p s text rest tree (m.last _ _ _ _ t d f) = (rest, t, d)
  begins p s text rest tree (m.separated _ _ _ after _ _ t _ _ d e f) = (after, t, d)

  mutual
    pub once : {r : ℕ} {text rest other : List T} {tree another : ParseTree T} → Matches rows has r text rest tree → Matches rows has r text other another
        → (rest ≡ other) × (tree ≡ another)
    once (m.matches r e text rest tree is d) (m.matches _ f _ other another same d') =
        row_once d (subst (λ (g : Row). RowMatches rows has g text other another) (same_row r f e same is) d')

    pub row_once : {e : Row} {text rest other : List T} {tree another : ParseTree T} → RowMatches rows has e text rest tree
        → RowMatches rows has e text other another → (rest ≡ other) × (tree ≡ another)
    row_once (m.token c x rest h) (m.token _ _ _ k) = (refl, refl)
    row_once (m.empty text) (m.empty _) = (refl, refl)
    row_once (m.sequence p ps text after rest tree trees d ds) (m.sequence _ _ _ after' rest' tree' trees' d' ds') =
        let one = once d d' in
        let others = row_once ds (move_row (row.Sequence ps) after' after rest' (Parts trees') (sym one.0) ds') in
        (others.0, parts_equal tree tree' trees trees' one.1 others.1)
    row_once (m.first p ps text rest tree d) (m.first _ _ _ rest' tree' d') = let one = once d d' in (one.0, ap (Chosen zero) one.1)
    row_once (m.first p ps text rest tree d) (m.later _ _ _ rest' n tree' f d') = absurd (refutes d f)
    row_once (m.later p ps text rest n tree f d) (m.first _ _ _ rest' tree' d') = absurd (refuted f d')
    row_once (m.later p ps text rest n tree f d) (m.later _ _ _ rest' n' tree' f' d') =
        let one = row_once d d' in (one.0, chosen_equal n n' tree tree' one.1)
    row_once (m.present p text rest tree d) (m.present _ _ rest' tree' d') = let one = once d d' in (one.0, ap (λ (t : ParseTree T). Parts (only t)) one.1)
    row_once (m.present p text rest tree d) (m.absent _ _ f) = absurd (refutes d f)
    row_once (m.absent p text f) (m.present _ _ rest' tree' d') = absurd (refuted f d')
    row_once (m.absent p text f) (m.absent _ _ f') = (refl, refl)
    row_once (m.no_more p text f) (m.no_more _ _ f') = (refl, refl)
    row_once (m.no_more p text f) (m.one_more _ _ after' rest' tree' trees' d' ds') = absurd (refuted f d')
    row_once (m.one_more p text after rest tree trees d ds) (m.no_more _ _ f) = absurd (refutes d f)
    row_once (m.one_more p text after rest tree trees d ds) (m.one_more _ _ after' rest' tree' trees' d' ds') =
        let one = once d d' in
        let others = row_once ds (move_row (row.Many p) after' after rest' (Parts trees') (sym one.0) ds') in
        (others.0, parts_equal tree tree' trees trees' one.1 others.1)
    row_once (m.at_least_one p text after rest tree trees d ds) (m.at_least_one _ _ after' rest' tree' trees' d' ds') =
        let one = once d d' in
        let others = row_once ds (move_row (row.Many p) after' after rest' (Parts trees') (sym one.0) ds') in
        (others.0, parts_equal tree tree' trees trees' one.1 others.1)
    row_once (m.last p s text rest tree d f) (m.last _ _ _ rest' tree' d' f') =
        let one = once d d' in (one.0, ap (λ (t : ParseTree T). Parts (only t)) one.1)
    row_once (m.last p s text rest tree d f) (m.separated _ _ _ after' suffix' rest' tree' separator' trees' d' e' ds') =
        let one = once d d' in
        let e = move s after' rest suffix' separator' (sym one.0) e' in
        let more = begins p s suffix' rest' (Parts trees') ds' in
        absurd (row_refuted f (m.sequence s (p ∷ []) rest suffix' more.0 separator' (only more.1) e
        (m.sequence p [] suffix' more.0 more.0 more.1 NoTree more.2 (m.empty more.0))))
    row_once (m.separated p s text after suffix rest tree separator trees d e ds) (m.last _ _ _ rest' tree' d' f') =
        let one = once d d' in
        absurd (both_there p s after suffix (move_row_fails (row.Sequence (s ∷ p ∷ [])) rest' after (sym one.0) f') (λ f. refutes e f)
        (λ there t d. sym (once e d).0) (λ f. row_refutes ds (m.no_part p s suffix f)))
    row_once (m.separated p s text after suffix rest tree separator trees d e ds) (m.separated _ _ _ after' suffix' rest' tree' separator' trees' d' e' ds') =
        let one = once d d' in
        let between = once e (move s after' after suffix' separator' (sym one.0) e') in
        let others = row_once ds (move_row (row.SeparatedBy p s) suffix' suffix rest' (Parts trees') (sym between.0) ds') in
        (others.0, parts_equal tree tree' trees trees' one.1 others.1)
    row_once (m.ahead p text rest tree d) (m.ahead _ _ rest' tree' d') = (refl, refl)
    row_once (m.not_ahead p text f) (m.not_ahead _ _ f') = (refl, refl)

    -- what matches doesn't fail
    pub refutes : {r : ℕ} {text rest : List T} {tree : ParseTree T} → Matches rows has r text rest tree → Fails rows has r text → ⊥
    refutes (m.matches r e text rest tree is d) (m.fails _ f _ same d') =
        row_refutes d (subst (λ (g : Row). RowFails rows has g text) (same_row r f e same is) d')

    pub row_refutes : {e : Row} {text rest : List T} {tree : ParseTree T} → RowMatches rows has e text rest tree → RowFails rows has e text → ⊥
    row_refutes (m.token c x rest h) (m.other_token _ _ _ k) = cc
    row_refutes (m.sequence p ps text after rest tree trees d ds) (m.part_fails _ _ _ f) = refutes d f
    row_refutes (m.sequence p ps text after rest tree trees d ds) (m.rest_fails _ _ _ after' tree' d' f) =
        row_refutes ds (move_row_fails (row.Sequence ps) after' after (sym (once d d').0) f)
    row_refutes (m.first p ps text rest tree d) (m.all_fail _ _ _ f fs) = refutes d f
    row_refutes (m.later p ps text rest n tree f d) (m.all_fail _ _ _ f' fs) = row_refutes d fs
    row_refutes (m.at_least_one p text after rest tree trees d ds) (m.not_even_one _ _ f) = refutes d f
    row_refutes (m.last p s text rest tree d f) (m.no_part _ _ _ f') = refutes d f'
    row_refutes (m.separated p s text after suffix rest tree separator trees d e ds) (m.no_part _ _ _ f) = refutes d f
    row_refutes (m.ahead p text rest tree d) (m.not_found _ _ f) = refutes d f
    row_refutes (m.not_ahead p text f) (m.found _ _ rest tree d) = refuted f d
    row_refutes (m.empty text) none = elim none [ ]
    row_refutes (m.present p text rest tree d) none = elim none [ ]
    row_refutes (m.absent p text f) none = elim none [ ]
    row_refutes (m.no_more p text f) none = elim none [ ]
    row_refutes (m.one_more p text after rest tree trees d ds) none = elim none [ ]

    -- what fails doesn't match
    pub refuted : {r : ℕ} {text rest : List T} {tree : ParseTree T} → Fails rows has r text → Matches rows has r text rest tree → ⊥
    refuted (m.fails r e text is d) (m.matches _ f _ rest tree same d') =
        row_refuted d (subst (λ (g : Row). RowMatches rows has g text rest tree) (same_row r f e same is) d')

    pub row_refuted : {e : Row} {text rest : List T} {tree : ParseTree T} → RowFails rows has e text → RowMatches rows has e text rest tree → ⊥
    row_refuted (m.other_token c x rest k) (m.token _ _ _ h) = cc
    row_refuted (m.part_fails p ps text f) (m.sequence _ _ _ after rest tree trees d ds) = refuted f d
    row_refuted (m.rest_fails p ps text after' tree' d' f) (m.sequence _ _ _ after rest tree trees d ds) =
        row_refuted f (move_row (row.Sequence ps) after after' rest (Parts trees) (sym (once d' d).0) ds)
    row_refuted (m.all_fail p ps text f fs) (m.first _ _ _ rest tree d) = refuted f d
    row_refuted (m.all_fail p ps text f fs) (m.later _ _ _ rest n tree f' d) = row_refuted fs d
    row_refuted (m.not_even_one p text f) (m.at_least_one _ _ after rest tree trees d ds) = refuted f d
    row_refuted (m.no_part p s text f) (m.last _ _ _ rest tree d f') = refuted f d
    row_refuted (m.no_part p s text f) (m.separated _ _ _ after suffix rest tree separator trees d e ds) = refuted f d
    row_refuted (m.not_found p text f) (m.ahead _ _ rest tree d) = refuted f d
    row_refuted (m.found p text rest tree d) (m.not_ahead _ _ f) = refutes d f
    row_refuted (m.no_token c) none = elim none [ ]
    row_refuted (m.no_alternative text) none = elim none [ ]
