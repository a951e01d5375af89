-- The Prelude declares the type of truth values, without parameters.
use Rattle.std.specs.Prelude.{◌≡◌, ℕ, zero, Bool, true, false, List, [], ◌∷◌, ◌++◌, codes, Option, None, Some, Result, Ok, Err, IfOk, refl, map, slice_get}
use Rattle.std.proofs.Common.{ap, append_assoc, inl, inr, subst, sym, ◌∙◌}
use Rattle.std.proofs.lemmas.Bool.{both_ways}
use Rattle.std.proofs.lemmas.List.{map-append}
use Rattle.std.specs.Result.{result_map_both}
use Rattle.cu_layout.specs.Blocks.{Marks, block, interleaving, last_of, marks_from, with_marks}
use Rattle.cu_layout.specs.Forms.{sight_of}
use Rattle.cu_layout.specs.Reading.{emitted_lexeme, lexeme_view}
use Rattle.cu_lex.specs.declared.token.Keyword.TheVariants as keyword
use Rattle.cu_lex.specs.Tokens as tokens
use Rattle.cu_lex.specs.Tokens.{Lexeme}
use Rattle.cu_peg.specs.declared.class.Class.{Class}
use Rattle.cu_peg.specs.declared.class.Class.TheVariants as class
use Rattle.cu_peg.specs.declared.class.NameKind.TheVariants as name_kind
use Rattle.cu_peg.specs.declared.row.Row.{Row}
use Rattle.cu_peg.specs.declared.row.Row.TheVariants as row
use Rattle.cu_peg.specs.Classes.{has}
use Rattle.cu_peg.specs.Matches.{Fails, Matches, RowFails, RowMatches}
use Rattle.cu_peg.specs.Parse.{Chosen, Leaf, NoTree, Parts}
use Rattle.cu_peg.proofs.OneTree.{refutes}
use Rattle.cu_prelude.specs.declared.prelude.TheConstants.{PRELUDE}
use Rattle.cu_syntax.specs.declared.symbol.Symbol.TheVariants as symbol
use Rattle.cu_syntax.specs.Parsing.{Fault, ItemRead, ModuleRead, Part, PartRead, PartsRead, header_and_block, imports_after, parts}
use Rattle.cu_syntax.specs.Reading.{Tree, item_as, item_of, name_of, names_in}
use Rattle.cu_syntax.specs.Syntax as syntax
use Rattle.cu_syntax.specs.Syntax.{Item, Module}
use Rattle.cu_syntax.specs.Table.{number, rows}
use Rattle.cu_modules.specs.Texts as texts
use Rattle.cu_modules.specs.Texts.{IsRead, TextFault}
use Rattle.cu_front_laws.proofs.Members.{In, in_at}
use Rattle.cu_front_laws.proofs.PreludeParts.{Ran, after_open, interleaved, laid_by, laid_opens, marks_begin, open_mark, part_there, prelude_run, truth_ended, truth_tokens}
use Rattle.cu_front_laws.proofs.PreludeTokens.{prelude_begins, prelude_tokens}

-- ---- the tokens of the Prelude with its layout

abbrev laid_in : Result (List Lexeme) ℕ → List Lexeme
laid_in (Ok ts) = ts
laid_in (Err n) = []

abbrev LaidOpen : List Lexeme → Type 0
LaidOpen laid = (more : List Lexeme) × (laid ≡ open_mark ∷ (after_open ++ more))

laid_begins : (found laid : List Lexeme) → tokens.tokens PRELUDE.now ≡ Ok found → block lexeme_view true found ≡ Ok laid → LaidOpen laid
laid_begins found laid is are =
    let begins = prelude_begins found is in
    with_later begins.0 (subst (λ (xs : List Lexeme). block lexeme_view true xs ≡ Ok laid) begins.1 are)
  where
    with_run : (later : List Lexeme) (m : Marks) (o : Option Ran) → prelude_run ≡ o → laid_by o ≡ open_mark ∷ after_open
        → marks_from [] true None (map sight_of prelude_tokens ++ map sight_of later) ≡ Ok m
        → with_marks emitted_lexeme (prelude_tokens ++ later) m ≡ laid → LaidOpen laid
    with_run later m None e opens marks same = absurd cc
    with_run later m (Some r) e opens marks same =
        let begin = marks_begin [] true None (map sight_of prelude_tokens) (map sight_of later) r m e marks in
        let ends = map (emitted_lexeme (last_of None (prelude_tokens ++ later))) m.after in
        let more = interleaving emitted_lexeme later begin.later in (
          more ++ ends,
          sym same
              ∙ ap (λ xs. interleaving emitted_lexeme (prelude_tokens ++ later) xs ++ ends) begin.before
              ∙ ap (λ xs. xs ++ ends) (interleaved prelude_tokens later r.marks begin.later begin.each)
              ∙ append_assoc (interleaving emitted_lexeme prelude_tokens r.marks) more ends
              ∙ ap (λ xs. xs ++ (more ++ ends)) opens,
        )

    with_later : (later : List Lexeme) → block lexeme_view true (prelude_tokens ++ later) ≡ Ok laid → LaidOpen laid
    with_later later are = by (marks_from [] true None (map sight_of (prelude_tokens ++ later))) refl are
      where
        marks_of : (m : Marks) → marks_from [] true None (map sight_of (prelude_tokens ++ later)) ≡ Ok m
            → marks_from [] true None (map sight_of prelude_tokens ++ map sight_of later) ≡ Ok m
        marks_of m e = ap (marks_from [] true None) (sym (map-append sight_of prelude_tokens later)) ∙ e

        same_laid : (m : Marks) → result_map_both (with_marks emitted_lexeme (prelude_tokens ++ later)) (λ (number : ℕ). number) (Ok m) ≡ Ok laid
            → with_marks emitted_lexeme (prelude_tokens ++ later) m ≡ laid
        same_laid m e = ap laid_in e

        by : (q : Result Marks ℕ) → marks_from [] true None (map sight_of (prelude_tokens ++ later)) ≡ q
            → result_map_both (with_marks emitted_lexeme (prelude_tokens ++ later)) (λ number. number) q ≡ Ok laid → LaidOpen laid
        by (Err n) e f = absurd cc
        by (Ok m) e f = with_run later m prelude_run refl laid_opens (marks_of m e) (same_laid m f)

-- ---- a declaration of a data type without parameters

-- of this name, without parameters
abbrev pub IsTruth : Item → Type 0
IsTruth (syntax.Data at name ps cs) = (name.text ≡ codes "Bool") × (ps ≡ [])
IsTruth _ = ⊥

row_of_match : (r : ℕ) (e : Row) (text rest : List Lexeme) (tree : Tree) → slice_get rows r ≡ Some e → Matches rows has r text rest tree
    → RowMatches rows has e text rest tree
row_of_match r e text rest tree s (Matches.matches _ other _ _ _ found d) =
    let same : other ≡ e = cc in
    subst (λ (f : Row). RowMatches rows has f text rest tree) same d

row_of_fail : (r : ℕ) (e : Row) (text : List Lexeme) → slice_get rows r ≡ Some e → Fails rows has r text → RowFails rows has e text
row_of_fail r e text s (Fails.fails _ other _ found d) =
    let same : other ≡ e = cc in
    subst (λ (f : Row). RowFails rows has f text) same d

token_row : (c : Class) (x : Lexeme) (text after : List Lexeme) (tree : Tree) → RowMatches rows has (row.Token c) (x ∷ text) after tree
    → (has c x ≡ true) × (after ≡ text) × (tree ≡ Leaf x)
token_row c x text after tree (RowMatches.token _ _ _ h) = (h, refl, refl)

token_not : (c : Class) (x : Lexeme) (text after : List Lexeme) (tree : Tree) → has c x ≡ false
    → RowMatches rows has (row.Token c) (x ∷ text) after tree → ⊥
token_not c x text after tree none (RowMatches.token _ _ _ h) = both_ways (has c x) none h

no_choice : (text after : List Lexeme) (tree : Tree) → RowMatches rows has (row.Choice []) text after tree → ⊥
no_choice text after tree m = elim m [ ]

no_fail_many : (p : ℕ) (text : List Lexeme) → RowFails rows has (row.Many p) text → ⊥
no_fail_many p text f = elim f [ ]

no_fail_optional : (p : ℕ) (text : List Lexeme) → RowFails rows has (row.Optional p) text → ⊥
no_fail_optional p text f = elim f [ ]

no_fail_empty : (text : List Lexeme) → RowFails rows has (row.Sequence []) text → ⊥
no_fail_empty text f = elim f [ ]

many_none : (p : ℕ) (c : Class) (z : Lexeme) (text after : List Lexeme) (tree : Tree) → slice_get rows p ≡ Some (row.Token c) → has c z ≡ false
    → RowMatches rows has (row.Many p) (z ∷ text) after tree → tree ≡ Parts NoTree
many_none p c z text after tree is none (RowMatches.no_more _ _ f) = refl
many_none p c z text after tree is none (RowMatches.one_more _ _ between _ first trees m ms) =
    absurd (token_not c z text between first none (row_of_match p (row.Token c) (z ∷ text) between first is m))

word_row : (x : Lexeme) (text after : List Lexeme) (tree : Tree)
    → RowMatches rows has (row.Choice (number symbol.Data ∷ number symbol.Newtype ∷ [])) (x ∷ text) after tree → after ≡ text
word_row x text after tree (RowMatches.first _ _ _ _ t m) =
    (token_row (class.Keyword keyword.Data) x text after t
    (row_of_match (number symbol.Data) (row.Token (class.Keyword keyword.Data)) (x ∷ text) after t refl m)).1
word_row x text after tree (RowMatches.later _ _ _ _ n t f (RowMatches.first _ _ _ _ u m)) =
    (token_row (class.Keyword keyword.Newtype) x text after u
    (row_of_match (number symbol.Newtype) (row.Token (class.Keyword keyword.Newtype)) (x ∷ text) after u refl m)).1
word_row x text after tree (RowMatches.later _ _ _ _ n t f (RowMatches.later _ _ _ _ k u g m)) = absurd (no_choice (x ∷ text) after (Chosen k u) m)

-- tokens that begin a declaration of a data type, its name, and no type variable
pub record IsData (x y z : Lexeme) : Type 0 where
  pub word : has (class.Keyword keyword.Data) x ≡ true
  pub name : has (class.Unqualified name_kind.ConId) y ≡ true
  pub no_variable : has (class.Unqualified name_kind.VarId) z ≡ false
  pub no_import : has (class.Keyword keyword.Import) x ≡ false
  pub not_left : has (class.Keyword keyword.Infixl) x ≡ false
  pub not_right : has (class.Keyword keyword.Infixr) x ≡ false
  pub not_neither : has (class.Keyword keyword.Infix) x ≡ false
  pub text : (name_of (Leaf y)).text ≡ codes "Bool"

module _ (x y z : Lexeme) (more : List Lexeme) (is : IsData x y z) where
  data_row : (tree : Tree)
      → RowMatches rows has
      (row.Sequence (number symbol.DataWord ∷ number symbol.ConId ∷ number symbol.TypeVars ∷ number symbol.OptionalConDecls ∷ [])) (x ∷ y ∷ z ∷ more)
      [] tree
      → IsTruth (item_as symbol.DataDecl tree)
  data_row tree (RowMatches.sequence _ _ _ after _ word _ m
      (RowMatches.sequence _ _ _ after2 _ nm _ m2
      (RowMatches.sequence _ _ _ after3 _ ps _ m3 (RowMatches.sequence _ _ _ after4 _ cs _ m4 (RowMatches.empty _))))) =
      let one = word_row x (y ∷ z ∷ more) after word
      (row_of_match (number symbol.DataWord) (row.Choice (number symbol.Data ∷ number symbol.Newtype ∷ [])) (x ∷ y ∷ z ∷ more) after word refl m)
      in
      let two = token_row (class.Unqualified name_kind.ConId) y (z ∷ more) after2 nm
      (subst (λ (t : List Lexeme). RowMatches rows has (row.Token (class.Unqualified name_kind.ConId)) t after2 nm) one
      (row_of_match (number symbol.ConId) (row.Token (class.Unqualified name_kind.ConId)) after after2 nm refl m2)) in
      let three = many_none (number symbol.VarId) (class.Unqualified name_kind.VarId) z more after3 ps refl is.no_variable
      (subst (λ (t : List Lexeme). RowMatches rows has (row.Many (number symbol.VarId)) t after3 ps) two.1
      (row_of_match (number symbol.TypeVars) (row.Many (number symbol.VarId)) after2 after3 ps refl m3)) in
      (ap (λ (t : Tree). (name_of t).text) two.2 ∙ is.text, ap names_in three)

  no_fixity : (after : List Lexeme) (tree : Tree)
      → RowMatches rows has (row.Choice (number symbol.Infixl ∷ number symbol.Infixr ∷ number symbol.Infix ∷ [])) (x ∷ y ∷ z ∷ more) after tree → ⊥
  no_fixity after tree (RowMatches.first _ _ _ _ t m) =
      token_not (class.Keyword keyword.Infixl) x (y ∷ z ∷ more) after t is.not_left
      (row_of_match (number symbol.Infixl) (row.Token (class.Keyword keyword.Infixl)) (x ∷ y ∷ z ∷ more) after t refl m)
  no_fixity after tree (RowMatches.later _ _ _ _ n t f (RowMatches.first _ _ _ _ u m)) =
      token_not (class.Keyword keyword.Infixr) x (y ∷ z ∷ more) after u is.not_right
      (row_of_match (number symbol.Infixr) (row.Token (class.Keyword keyword.Infixr)) (x ∷ y ∷ z ∷ more) after u refl m)
  no_fixity after tree (RowMatches.later _ _ _ _ n t f (RowMatches.later _ _ _ _ k u g (RowMatches.first _ _ _ _ v m))) =
      token_not (class.Keyword keyword.Infix) x (y ∷ z ∷ more) after v is.not_neither
      (row_of_match (number symbol.Infix) (row.Token (class.Keyword keyword.Infix)) (x ∷ y ∷ z ∷ more) after v refl m)
  no_fixity after tree (RowMatches.later _ _ _ _ n t f (RowMatches.later _ _ _ _ k u g (RowMatches.later _ _ _ _ l v h m))) =
      no_choice (x ∷ y ∷ z ∷ more) after (Chosen l v) m

  fixity_not : (tree : Tree)
      → RowMatches rows has (row.Sequence (number symbol.FixityWord ∷ number symbol.OptionalDigit ∷ number symbol.OpList ∷ [])) (x ∷ y ∷ z ∷ more) []
      tree → ⊥
  fixity_not tree (RowMatches.sequence _ _ _ after _ word _ m ms) =
      no_fixity after word (row_of_match (number symbol.FixityWord)
      (row.Choice (number symbol.Infixl ∷ number symbol.Infixr ∷ number symbol.Infix ∷ [])) (x ∷ y ∷ z ∷ more) after word refl m)

  import_not : (tree : Tree)
      → RowMatches rows has
      (row.Sequence (number symbol.Import ∷ number symbol.OptionalQualified ∷ number symbol.ModuleName ∷ number symbol.OptionalAlias ∷ number
      symbol.OptionalImports ∷ [])) (x ∷ y ∷ z ∷ more) [] tree → ⊥
  import_not tree (RowMatches.sequence _ _ _ after _ word _ m ms) =
      token_not (class.Keyword keyword.Import) x (y ∷ z ∷ more) after word is.no_import
      (row_of_match (number symbol.Import) (row.Token (class.Keyword keyword.Import)) (x ∷ y ∷ z ∷ more) after word refl m)

  word_matches : Matches rows has (number symbol.DataWord) (x ∷ y ∷ z ∷ more) (y ∷ z ∷ more) (Chosen zero (Leaf x))
  word_matches =
      Matches.matches (number symbol.DataWord) (row.Choice (number symbol.Data ∷ number symbol.Newtype ∷ [])) (x ∷ y ∷ z ∷ more) (y ∷ z ∷ more)
      (Chosen zero (Leaf x)) refl
      (RowMatches.first (number symbol.Data) (number symbol.Newtype ∷ []) (x ∷ y ∷ z ∷ more) (y ∷ z ∷ more) (Leaf x)
      (Matches.matches (number symbol.Data) (row.Token (class.Keyword keyword.Data)) (x ∷ y ∷ z ∷ more) (y ∷ z ∷ more) (Leaf x) refl
      (RowMatches.token (class.Keyword keyword.Data) x (y ∷ z ∷ more) is.word)))

  name_matches : Matches rows has (number symbol.ConId) (y ∷ z ∷ more) (z ∷ more) (Leaf y)
  name_matches =
      Matches.matches (number symbol.ConId) (row.Token (class.Unqualified name_kind.ConId)) (y ∷ z ∷ more) (z ∷ more) (Leaf y) refl
      (RowMatches.token (class.Unqualified name_kind.ConId) y (z ∷ more) is.name)

  constructors_fail_not : (text : List Lexeme) → RowFails rows has (row.Sequence (number symbol.OptionalConDecls ∷ [])) text → ⊥
  constructors_fail_not text (RowFails.part_fails _ _ _ f) =
      no_fail_optional (number symbol.ConDecls) text
      (row_of_fail (number symbol.OptionalConDecls) (row.Optional (number symbol.ConDecls)) text refl f)
  constructors_fail_not text (RowFails.rest_fails _ _ _ after tree m f) = no_fail_empty after f

  variables_fail_not : (text : List Lexeme) → RowFails rows has (row.Sequence (number symbol.TypeVars ∷ number symbol.OptionalConDecls ∷ [])) text → ⊥
  variables_fail_not text (RowFails.part_fails _ _ _ f) =
      no_fail_many (number symbol.VarId) text (row_of_fail (number symbol.TypeVars) (row.Many (number symbol.VarId)) text refl f)
  variables_fail_not text (RowFails.rest_fails _ _ _ after tree m f) = constructors_fail_not after f

  name_fail_not : (text : List Lexeme) → text ≡ y ∷ z ∷ more
      → RowFails rows has (row.Sequence (number symbol.ConId ∷ number symbol.TypeVars ∷ number symbol.OptionalConDecls ∷ [])) text → ⊥
  name_fail_not text same (RowFails.part_fails _ _ _ f) =
      refutes rows has name_matches (subst (λ (t : List Lexeme). Fails rows has (number symbol.ConId) t) same f)
  name_fail_not text same (RowFails.rest_fails _ _ _ after tree m f) = variables_fail_not after f

  data_fail_not : RowFails rows has
      (row.Sequence (number symbol.DataWord ∷ number symbol.ConId ∷ number symbol.TypeVars ∷ number symbol.OptionalConDecls ∷ [])) (x ∷ y ∷ z ∷ more)
      → ⊥
  data_fail_not (RowFails.part_fails _ _ _ f) = refutes rows has word_matches f
  data_fail_not (RowFails.rest_fails _ _ _ after tree m f) =
      name_fail_not after (word_row x (y ∷ z ∷ more) after tree
      (row_of_match (number symbol.DataWord) (row.Choice (number symbol.Data ∷ number symbol.Newtype ∷ [])) (x ∷ y ∷ z ∷ more) after tree refl m))
      f

  item_row : (ps : List ℕ) (tree : Tree)
      → RowMatches rows has (row.Choice (number symbol.FixityDecl ∷ number symbol.DataDecl ∷ ps)) (x ∷ y ∷ z ∷ more) [] tree → IsTruth (item_of tree)
  item_row ps tree (RowMatches.first _ _ _ _ t m) =
      absurd (fixity_not t (row_of_match (number symbol.FixityDecl)
      (row.Sequence (number symbol.FixityWord ∷ number symbol.OptionalDigit ∷ number symbol.OpList ∷ [])) (x ∷ y ∷ z ∷ more) [] t refl m))
  item_row ps tree (RowMatches.later _ _ _ _ n t f (RowMatches.first _ _ _ _ u m)) =
      data_row u (row_of_match (number symbol.DataDecl)
      (row.Sequence (number symbol.DataWord ∷ number symbol.ConId ∷ number symbol.TypeVars ∷ number symbol.OptionalConDecls ∷ []))
      (x ∷ y ∷ z ∷ more) [] u refl m)
  item_row ps tree (RowMatches.later _ _ _ _ n t f (RowMatches.later _ _ _ _ k u g m)) =
      absurd (data_fail_not
      (row_of_fail (number symbol.DataDecl)
      (row.Sequence (number symbol.DataWord ∷ number symbol.ConId ∷ number symbol.TypeVars ∷ number symbol.OptionalConDecls ∷ []))
      (x ∷ y ∷ z ∷ more) refl g))

  item_is : (imports : Bool) (ts : List Lexeme) (item : Item) → ts ≡ x ∷ y ∷ z ∷ more → ItemRead imports ts item → IsTruth item
  item_is imports ts item same (ItemRead.import tree may m) =
      absurd (import_not tree
      (row_of_match (number symbol.ImportDecl)
      (row.Sequence (number symbol.Import ∷ number symbol.OptionalQualified ∷ number symbol.ModuleName ∷ number symbol.OptionalAlias ∷ number
      symbol.OptionalImports ∷ []))
      (x ∷ y ∷ z ∷ more) [] tree refl (subst (λ (t : List Lexeme). Matches rows has (number symbol.ImportDecl) t [] tree) same m)))
  item_is imports ts item same (ItemRead.declaration tree m) =
      item_row (number symbol.SynonymDecl ∷ number symbol.Signature ∷ number symbol.TopRule ∷ []) tree
      (row_of_match (number symbol.Item)
      (row.Choice (number symbol.FixityDecl ∷ number symbol.DataDecl ∷ number symbol.SynonymDecl ∷ number symbol.Signature ∷ number symbol.TopRule
      ∷ []))
      (x ∷ y ∷ z ∷ more) [] tree refl (subst (λ (t : List Lexeme). Matches rows has (number symbol.Item) t [] tree) same m))

-- ---- the Prelude

truth_is_data : (imports : Bool) (ts : List Lexeme) (item : Item) → ts ≡ truth_tokens → ItemRead imports ts item → IsTruth item
truth_is_data imports ts item same read =
    item_is _ _ _ _ (record {
      word = refl;
      name = refl;
      no_variable = refl;
      no_import = refl;
      not_left = refl;
      not_right = refl;
      not_neither =
          refl;
      text = refl;
    }) imports ts item same read

-- truth values are among what is declared
abbrev pub HasTruth : List Item → Type 0
HasTruth items = (i : Item) × In i items × IsTruth i

part_truth : (imports : Bool) (part : Part) (outcome : Result Item Fault) → part.tokens ≡ truth_tokens → PartRead imports part outcome
    → IfOk outcome IsTruth
part_truth imports part outcome same (PartRead.too_long long) = tt
part_truth imports part outcome same (PartRead.not_whole short open') = tt
part_truth imports part outcome same (PartRead.no_item short whole some never) = tt
part_truth imports part outcome same (PartRead.item found short whole read) = truth_is_data imports part.tokens found same read

parts_truth : (imports : Bool) (ps : List Part) (outcome : Result (List Item) Fault) (p : Part) → In p ps → p.tokens ≡ truth_tokens
    → PartsRead imports ps outcome → IfOk outcome HasTruth
parts_truth imports ps outcome p h same (PartsRead.no_part _) = absurd h
parts_truth imports ps outcome p (inl e) same (PartsRead.empty _ part others _ whole empty read) =
    let no : [] ≡ truth_tokens = sym empty ∙ ap (λ (q : Part). q.tokens) (sym e) ∙ same in
    absurd cc
parts_truth imports ps outcome p (inr h) same (PartsRead.empty _ part others _ whole empty read) = parts_truth imports others outcome p h same read
parts_truth imports ps outcome p h same (PartsRead.fault _ part others fault read) = tt
parts_truth imports ps outcome p (inl e) same (PartsRead.item _ part others item items read later) =
    (item, inl refl, part_truth imports part (Ok item) (ap (λ (q : Part). q.tokens) (sym e) ∙ same) read)
parts_truth imports ps outcome p (inr h) same (PartsRead.item _ part others item items read later) =
    let found = parts_truth (imports_after imports item) others (Ok items) p h same later in
    (found.0, inr found.1, found.2)
parts_truth imports ps outcome p h same (PartsRead.later_fault _ part others item fault read later) = tt

module_truth : (laid : List Lexeme) (outcome : Result Module Fault) → LaidOpen laid → ModuleRead laid outcome
    → IfOk outcome (λ (m : Module). HasTruth m.items)
module_truth laid outcome open' (ModuleRead.no_block is) = tt
module_truth laid outcome open' (ModuleRead.wrong_header some never) = tt
module_truth laid outcome open' (ModuleRead.wrong_item block found fault is above read) = tt
module_truth laid outcome open' (ModuleRead.right b found items is above read) =
    let whole : b ≡ after_open ++ open'.0 = same (sym is ∙ ap (λ (ts : List Lexeme). (header_and_block 1 ts).block) open'.1) in
    let part = part_there (header_and_block 1 laid).last after_open open'.0 truth_tokens (in_at _ 9 truth_tokens truth_ended) in
    let there = subst (λ (ts : List Lexeme). In part.0 (parts (header_and_block 1 laid).last ts)) (sym whole) part.1 in
    parts_truth true (parts (header_and_block 1 laid).last b) (Ok items) part.0 there part.2 read
  where
    same : Some b ≡ Some (after_open ++ open'.0) → b ≡ after_open ++ open'.0
    same e = cc

-- what the Prelude's text is read as
pub prelude_truth : (name : List ℕ) (outcome : Result Module TextFault) → IsRead name PRELUDE.now outcome
    → IfOk outcome (λ (m : Module). HasTruth m.items)
prelude_truth name outcome (texts.no_tokens fault is) = tt
prelude_truth name outcome (texts.too_deep found number token is deep at) = tt
prelude_truth name outcome (texts.no_syntax laid fault has read) = tt
prelude_truth name outcome (texts.other_name laid found has read wrong) = tt
prelude_truth name outcome (texts.right laid found has read right) =
    module_truth laid (Ok found) (laid_begins has.found laid has.has_tokens has.has_layout) read
