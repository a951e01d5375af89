-- What is said of the readers of expressions.
use Rattle.std.proofs.Common.{◌≡◌, ℕ, zero, suc, false, List, [], ◌∷◌, ◌++◌, Err, codes, decimal, length, map, refl, sym, ap, ◌∙◌, inl, inr, append_assoc, append-nil}
use Rattle.std.specs.List.{AllByRecursion}
use Rattle.cu_calculus.specs.declared.Lit.{Lit}
use Rattle.cu_calculus.specs.declared.Lit.TheVariants as lit
use Rattle.cu_calculus.specs.declared.Mode.{Mode}
use Rattle.cu_calculus.specs.declared.Mode.TheVariants.{Flex, Rigid}
use Rattle.cu_flatread.proofs.ElementLaws.{list_after_reads, list_tail, no_list_reads}
use Rattle.cu_flatread.proofs.PartLaws.{entity_reads, kind_reads, literal_reads, no_entity, number_reads, pattern_reads, spaced_kind, tag_reads}
use Rattle.cu_flatread.proofs.ReaderLaws.{Done, Fits, Part, Reads, Steps, Word, always, no_digit, same_reads, steps_read, text_by}
use Rattle.cu_flatread.proofs.TableLaws.{Finds, IsRow, table_reads}
use Rattle.cu_flatread.proofs.TypeLaws.{closed}
use Rattle.cu_flatread.specs.FlatText.{AreBranches, AreExpressions, IsEntity, IsExpression, IsKind, IsLiteral, IsNumber, IsPattern}
use Rattle.cu_flatread.specs.Inside.Expressions.{all_branches, all_expressions, branch_at, expression_at, expression_of_form, expression_words, kind_at, mode_words, pattern_at}
use Rattle.cu_flatread.specs.Inside.Names.{entity_at}
use Rattle.cu_flatread.specs.Inside.Numbers.{literal_at, number_at}
use Rattle.cu_flatread.specs.Inside.Words.{is_at, list_after, one_of}
use Rattle.cu_flatread.specs.Modules as m
use Rattle.cu_flatread.specs.Modules.{Branches, Expression, Expressions, Pattern}
use Rattle.cu_flatread.specs.Notation.{Entity, entity_text, in_parentheses, separated}
use Rattle.cu_flatread.specs.Text.{branch_texts, expression_text, expression_texts, kind_text, literal_text, mode_text, pattern_text}
use Rattle.cu_flatread.specs.declared.cells.CombKind.{CombKind}
use Rattle.cu_flatread.specs.declared.cells.CombKind.TheVariants.{FuncCall}
use Rattle.cu_flatread.specs.declared.expressions.Form.{Form}
use Rattle.cu_flatread.specs.declared.expressions.Form.TheVariants as form

-- ---- lists of expressions

abbrev listed : Expressions Entity → List (Expression Entity)
listed m.NoExpression = []
listed (m.MoreExpressions t ts) = t ∷ listed ts

all_listed : (ts : Expressions Entity) → all_expressions (listed ts) ≡ ts
all_listed m.NoExpression = refl
all_listed (m.MoreExpressions t ts) = ap (m.MoreExpressions t) (all_listed ts)

listed_all : (ts : List (Expression Entity)) → listed (all_expressions ts) ≡ ts
listed_all [] = refl
listed_all (t ∷ ts) = ap (λ us. t ∷ us) (listed_all ts)

listed_texts : (ts : Expressions Entity) → map expression_text (listed ts) ≡ expression_texts ts
listed_texts m.NoExpression = refl
listed_texts (m.MoreExpressions t ts) = ap (λ us. expression_text t ∷ us) (listed_texts ts)

listed_from : (depth : ℕ) (ts : Expressions Entity) → AreExpressions depth ts
    → AllByRecursion (IsExpression depth) (listed ts)
listed_from depth m.NoExpression g = tt
listed_from depth (m.MoreExpressions t ts) g = (g.0, listed_from depth ts g.1)

listed_into : (depth : ℕ) (ts : Expressions Entity)
    → AllByRecursion (IsExpression depth) (listed ts) → AreExpressions depth ts
listed_into depth m.NoExpression g = tt
listed_into depth (m.MoreExpressions t ts) g = (g.0, listed_into depth ts g.1)

-- ---- branches

abbrev Row : Type 0
Row = Pattern Entity × Expression Entity

abbrev row_text : Row → List ℕ
row_text b =
    codes "Branch " ++ (in_parentheses (pattern_text b.0)
    ++ (codes " " ++ in_parentheses (expression_text b.1)))

abbrev IsRowOf : ℕ → Row → Type 0
IsRowOf depth b = IsPattern b.0 × IsExpression depth b.1

abbrev rows_of : Branches Entity → List Row
rows_of m.NoBranch = []
rows_of (m.MoreBranches p t bs) = (p, t) ∷ rows_of bs

all_rows : (bs : Branches Entity) → all_branches (rows_of bs) ≡ bs
all_rows m.NoBranch = refl
all_rows (m.MoreBranches p t bs) = ap (m.MoreBranches p t) (all_rows bs)

rows_all : (bs : List Row) → rows_of (all_branches bs) ≡ bs
rows_all [] = refl
rows_all (b ∷ bs) = ap (λ us. b ∷ us) (rows_all bs)

rows_texts : (bs : Branches Entity) → map row_text (rows_of bs) ≡ branch_texts bs
rows_texts m.NoBranch = refl
rows_texts (m.MoreBranches p t bs) = ap (λ us. row_text (p, t) ∷ us) (rows_texts bs)

rows_from : (depth : ℕ) (bs : Branches Entity) → AreBranches depth bs
    → AllByRecursion (IsRowOf depth) (rows_of bs)
rows_from depth m.NoBranch g = tt
rows_from depth (m.MoreBranches p t bs) g = ((g.0, g.1), rows_from depth bs g.2)

rows_into : (depth : ℕ) (bs : Branches Entity) → AllByRecursion (IsRowOf depth) (rows_of bs)
    → AreBranches depth bs
rows_into depth m.NoBranch g = tt
rows_into depth (m.MoreBranches p t bs) g = (g.0.0, g.0.1, rows_into depth bs g.1)

abbrev row_steps : ℕ → Steps Row
row_steps depth =
    Word (codes "Branch (")
    (Part (Pattern Entity) no_digit pattern_at pattern_text IsPattern (λ b. b.0)
    (λ p. Word (codes ") (")
    (Part (Expression Entity) no_digit (expression_at depth) expression_text (IsExpression depth)
    (λ b. b.1) (λ t. Word (codes ")") (Done (p, t))))))

row_spelled : (depth : ℕ) (b : Row) → row_text b ≡ text_by (row_steps depth) b
row_spelled depth b =
    ap (λ z. codes "Branch " ++ z)
    (closed (pattern_text b.0) (codes " " ++ in_parentheses (expression_text b.1)))

row_reads : (depth : ℕ) → Reads no_digit (expression_at depth) expression_text (IsExpression depth)
    → Reads no_digit (branch_at (expression_at depth)) row_text (IsRowOf depth)
unfolding branch_at
row_reads depth inner =
    same_reads no_digit (branch_at (expression_at depth)) (text_by (row_steps depth)) row_text
    (Fits (row_steps depth)) (IsRowOf depth)
    (steps_read (row_steps depth) (
      pattern_reads,
      λ p g. (
        inner,
        λ t h. tt,
        λ t b h e. ap (λ (x : Row). x.1) e,
        inr (λ t b rest h e ends. refl),
      ),
      λ p b g e. ap (λ (x : Row). x.0) e.1,
      inr (λ p b rest g e ends. refl),
    ))
    (λ b g. ((g.0, (g.1, refl)), row_spelled depth b))
    (λ b g. ((g.0, g.1.0), row_spelled depth b))

-- ---- modes

-- a mode and the parenthesis after it
abbrev mode_word : Mode → List ℕ
mode_word Flex = codes "Flex ("
mode_word Rigid = codes "Rigid ("

abbrev AnyMode : Mode → Type 0
AnyMode mode = Unit {0}

mode_finds : (mode : Mode) → AnyMode mode → Finds mode_word mode_words mode
mode_finds Flex g = inl (refl, refl)
mode_finds Rigid g = inr (refl, inl (refl, refl))

mode_reads : Reads always (one_of mode_words) mode_word AnyMode
mode_reads =
    table_reads mode_word AnyMode mode_words Flex tt ((tt, refl), ((tt, refl), tt)) mode_finds

-- ---- forms

abbrev word_of : Form → List ℕ
word_of form.Var = codes "Var "
word_of form.Literal = codes "Lit ("
word_of form.Comb = codes "Comb "
word_of form.Let = codes "Let [("
word_of form.Free = codes "Free ["
word_of form.Or = codes "Or ("
word_of form.Case = codes "Case "

-- there is room for an expression in another one
abbrev Inner : ℕ → Type 0
Inner zero = ⊥
Inner (suc depth) = Unit {0}

-- the forms that are there, where expressions in them are nested at most so deep
abbrev IsForm : ℕ → Form → Type 0
IsForm depth form.Var = Unit {0}
IsForm depth form.Literal = Unit {0}
IsForm depth form.Comb = Unit {0}
IsForm depth _ = Inner depth

rows : (depth : ℕ) → AllByRecursion (IsRow word_of (IsForm depth)) (expression_words (suc depth))
rows zero = ((tt, refl), ((tt, refl), ((tt, refl), tt)))
rows (suc depth) = (
  (tt, refl),
  (
    (tt, refl),
    (
      (tt, refl),
      (
        (tt, refl),
        (
          (tt, refl),
          (
            (tt, refl),
            ((tt, refl), tt),
          ),
        ),
      ),
    ),
  ),
)

finds : (depth : ℕ) (f : Form) → IsForm depth f → Finds word_of (expression_words (suc depth)) f
finds zero form.Var g = inl (refl, refl)
finds zero form.Literal g = inr (refl, inl (refl, refl))
finds zero form.Comb g = inr (refl, inr (refl, inl (refl, refl)))
finds zero form.Let g = absurd g
finds zero form.Free g = absurd g
finds zero form.Or g = absurd g
finds zero form.Case g = absurd g
finds (suc depth) form.Var g = inl (refl, refl)
finds (suc depth) form.Literal g = inr (refl, inl (refl, refl))
finds (suc depth) form.Comb g = inr (refl, inr (refl, inl (refl, refl)))
finds (suc depth) form.Let g = inr (refl, inr (refl, inr (refl, inl (refl, refl))))
finds (suc depth) form.Free g =
    inr (refl, inr (refl, inr (refl, inr (refl, inl (refl, refl)))))
finds (suc depth) form.Or g =
    inr (refl, inr (refl, inr (refl, inr (refl, inr (refl, inl (refl, refl))))))
finds (suc depth) form.Case g =
    inr (refl, inr (refl, inr (refl, inr (refl, inr (refl, inr (refl, inl (refl, refl)))))))

abbrev form_of : Expression Entity → Form
form_of (m.Var x) = form.Var
form_of (m.Literal l) = form.Literal
form_of (m.Comb kind e ts) = form.Comb
form_of (m.Let x a b) = form.Let
form_of (m.Free x a) = form.Free
form_of (m.Or a b) = form.Or
form_of (m.Case mode a bs) = form.Case

abbrev variable_of : Expression Entity → ℕ
variable_of (m.Var x) = x
variable_of (m.Let x a b) = x
variable_of (m.Free x a) = x
variable_of _ = 0

abbrev literal_of : Expression Entity → Lit
literal_of (m.Literal l) = l
literal_of _ = lit.Char 0

abbrev kind_of : Expression Entity → CombKind
kind_of (m.Comb kind e ts) = kind
kind_of _ = FuncCall

abbrev entity_of_comb : Expression Entity → Entity
entity_of_comb (m.Comb kind e ts) = e
entity_of_comb _ = no_entity

abbrev arguments_of : Expression Entity → List (Expression Entity)
arguments_of (m.Comb kind e ts) = listed ts
arguments_of _ = []

abbrev left_of : Expression Entity → Expression Entity
left_of (m.Let x a b) = a
left_of (m.Free x a) = a
left_of (m.Or a b) = a
left_of (m.Case mode a bs) = a
left_of _ = m.Var 0

abbrev right_of : Expression Entity → Expression Entity
right_of (m.Let x a b) = b
right_of (m.Or a b) = b
right_of _ = m.Var 0

abbrev mode_of : Expression Entity → Mode
mode_of (m.Case mode a bs) = mode
mode_of _ = Flex

abbrev branches_in : Expression Entity → List Row
branches_in (m.Case mode a bs) = rows_of bs
branches_in _ = []

abbrev var_steps : Steps (Expression Entity)
var_steps = Part ℕ no_digit number_at decimal IsNumber variable_of (λ x. Done (m.Var x))

abbrev literal_steps : Steps (Expression Entity)
literal_steps =
    Part Lit no_digit literal_at literal_text IsLiteral literal_of
    (λ l. Word (codes ")") (Done (m.Literal l)))

abbrev comb_steps : ℕ → Steps (Expression Entity)
comb_steps depth =
    Part CombKind no_digit kind_at spaced_kind IsKind kind_of
    (λ kind. Part Entity no_digit entity_at entity_text IsEntity entity_of_comb
    (λ e. Word (codes " [")
    (Part (List (Expression Entity)) no_digit (list_after (expression_at depth))
    (list_tail expression_text) (AllByRecursion (IsExpression depth)) arguments_of
    (λ ts. Done (m.Comb kind e (all_expressions ts))))))

abbrev let_steps : ℕ → Steps (Expression Entity)
let_steps depth =
    Part ℕ no_digit number_at decimal IsNumber variable_of
    (λ x. Word (codes ",")
    (Part (Expression Entity) no_digit (expression_at depth) expression_text (IsExpression depth)
    left_of
    (λ a. Word (codes ")] (")
    (Part (Expression Entity) no_digit (expression_at depth) expression_text (IsExpression depth)
    right_of (λ b. Word (codes ")") (Done (m.Let x a b)))))))

abbrev free_steps : ℕ → Steps (Expression Entity)
free_steps depth =
    Part ℕ no_digit number_at decimal IsNumber variable_of
    (λ x. Word (codes "] (")
    (Part (Expression Entity) no_digit (expression_at depth) expression_text (IsExpression depth)
    left_of (λ a. Word (codes ")") (Done (m.Free x a)))))

abbrev or_steps : ℕ → Steps (Expression Entity)
or_steps depth =
    Part (Expression Entity) no_digit (expression_at depth) expression_text (IsExpression depth)
    left_of
    (λ a. Word (codes ") (")
    (Part (Expression Entity) no_digit (expression_at depth) expression_text (IsExpression depth)
    right_of (λ b. Word (codes ")") (Done (m.Or a b)))))

abbrev case_steps : ℕ → Steps (Expression Entity)
case_steps depth =
    Part Mode always (one_of mode_words) mode_word AnyMode mode_of
    (λ mode. Part (Expression Entity) no_digit (expression_at depth) expression_text
    (IsExpression depth) left_of
    (λ a. Word (codes ") [")
    (Part (List Row) no_digit (list_after (branch_at (expression_at depth))) (list_tail row_text)
    (AllByRecursion (IsRowOf depth)) branches_in (λ bs. Done (m.Case mode a (all_branches bs))))))

abbrev steps_of : ℕ → Form → Steps (Expression Entity)
steps_of depth form.Var = var_steps
steps_of depth form.Literal = literal_steps
steps_of depth form.Comb = comb_steps depth
steps_of depth form.Let = let_steps depth
steps_of depth form.Free = free_steps depth
steps_of depth form.Or = or_steps depth
steps_of depth form.Case = case_steps depth

row_starts : (b : Row) (rest : List ℕ) → is_at 93 (row_text b ++ rest) ≡ false
row_starts b rest = refl

starts : (t : Expression Entity) (rest : List ℕ) → is_at 93 (expression_text t ++ rest) ≡ false
starts (m.Var x) rest = refl
starts (m.Literal l) rest = refl
starts (m.Comb kind e ts) rest = refl
starts (m.Let x a b) rest = refl
starts (m.Free x a) rest = refl
starts (m.Or a b) rest = refl
starts (m.Case mode a bs) rest = refl

module _ (depth : ℕ)
    (lists : Reads no_digit (list_after (expression_at depth)) (list_tail expression_text)
    (AllByRecursion (IsExpression depth)))
    (inner : Inner depth
    → Reads no_digit (expression_at depth) expression_text (IsExpression depth))
  where
    second : (f : Form) → IsForm depth f
        → Reads no_digit (expression_of_form (expression_at depth) f) (text_by (steps_of depth f))
        (Fits (steps_of depth f))
    unfolding expression_of_form
    second form.Var g =
        steps_read var_steps (
          number_reads,
          λ x h. tt,
          λ x t h e. ap variable_of e,
          inr (λ x t rest h e ends. ends),
        )
    second form.Literal g =
        steps_read literal_steps (
          literal_reads,
          λ l h. tt,
          λ l t h e. ap literal_of e,
          inr (λ l t rest h e ends. refl),
        )
    second form.Comb g =
        steps_read (comb_steps depth) (
          kind_reads,
          λ kind h. (
            entity_reads,
            λ e i. (
              lists,
              λ ts j. tt,
              λ ts t j f. ap arguments_of f ∙ listed_all ts,
              inr (λ ts t rest j f ends. ends),
            ),
            λ e t i f. ap entity_of_comb f.1,
            inr (λ e t rest i f ends. refl),
          ),
          λ kind t h f. ap kind_of f.1.1,
          inr (λ kind t rest h f ends. refl),
        )
    second form.Let g =
        steps_read (let_steps depth) (
          number_reads,
          λ x h. (
            inner g,
            λ a i. (
              inner g,
              λ b j. tt,
              λ b t j e. ap right_of e,
              inr (λ b t rest j e ends. refl),
            ),
            λ a t i e. ap left_of e.1,
            inr (λ a t rest i e ends. refl),
          ),
          λ x t h e. ap variable_of e.1.1,
          inr (λ x t rest h e ends. refl),
        )
    second form.Free g =
        steps_read (free_steps depth) (
          number_reads,
          λ x h. (
            inner g,
            λ a i. tt,
            λ a t i e. ap left_of e,
            inr (λ a t rest i e ends. refl),
          ),
          λ x t h e. ap variable_of e.1,
          inr (λ x t rest h e ends. refl),
        )
    second form.Or g =
        steps_read (or_steps depth) (
          inner g,
          λ a h. (
            inner g,
            λ b i. tt,
            λ b t i e. ap right_of e,
            inr (λ b t rest i e ends. refl),
          ),
          λ a t h e. ap left_of e.1,
          inr (λ a t rest h e ends. refl),
        )
    second form.Case g =
        steps_read (case_steps depth) (
          mode_reads,
          λ mode h. (
            inner g,
            λ a i. (
              list_after_reads (branch_at (expression_at depth)) row_text (IsRowOf depth)
                  (row_reads depth (inner g)) (λ b rest j. row_starts b rest),
              λ bs j. tt,
              λ bs t j f. ap branches_in f ∙ rows_all bs,
              inr (λ bs t rest j f ends. ends),
            ),
            λ a t i f. ap left_of f.1,
            inr (λ a t rest i f ends. refl),
          ),
          λ mode t h f. ap mode_of f.1.1,
          inl (λ b. refl),
        )

    exact : (f : Form) (t : Expression Entity) → IsForm depth f → Fits (steps_of depth f) t
        → form_of t ≡ f
    exact form.Var t g h = ap form_of h.1
    exact form.Literal t g h = ap form_of h.1
    exact form.Comb t g h = ap form_of h.1.1.1
    exact form.Let t g h = ap form_of h.1.1.1
    exact form.Free t g h = ap form_of h.1.1
    exact form.Or t g h = ap form_of h.1.1
    exact form.Case t g h = ap form_of h.1.1.1

    abbrev FormFits : Expression Entity → Type 0
    FormFits t = IsForm depth (form_of t) × Fits (steps_of depth (form_of t)) t

    abbrev spelled : Expression Entity → List ℕ
    spelled t = word_of (form_of t) ++ text_by (steps_of depth (form_of t)) t

    mode_spelled : (mode : Mode) (x z : List ℕ)
        → mode_text mode ++ (codes " " ++ (in_parentheses x ++ z))
        ≡ mode_word mode ++ (x ++ (codes ")" ++ z))
    mode_spelled Flex x z = ap (λ q. codes "Flex " ++ q) (closed x z)
    mode_spelled Rigid x z = ap (λ q. codes "Rigid " ++ q) (closed x z)

    is_spelled : (t : Expression Entity) → expression_text t ≡ spelled t
    is_spelled (m.Var x) = ap (λ z. codes "Var " ++ z) (sym (append-nil (decimal x)))
    is_spelled (m.Literal l) = refl
    is_spelled (m.Comb kind e ts) =
        ap (λ z. codes "Comb " ++ (kind_text kind ++ (codes " " ++ (entity_text e
        ++ (codes " [" ++ (separated z ++ codes "]")))))) (sym (listed_texts ts))
        ∙ ap (λ z. codes "Comb " ++ (kind_text kind ++ (codes " " ++ (entity_text e
        ++ (codes " [" ++ z))))) (sym (append-nil (list_tail expression_text (listed ts))))
        ∙ ap (λ z. codes "Comb " ++ z)
        (sym (append_assoc (kind_text kind) (codes " ")
        (entity_text e ++ (codes " [" ++ (list_tail expression_text (listed ts) ++ [])))))
    is_spelled (m.Let x a b) = refl
    is_spelled (m.Free x a) = refl
    is_spelled (m.Or a b) =
        ap (λ z. codes "Or " ++ z)
        (closed (expression_text a) (codes " " ++ in_parentheses (expression_text b)))
    is_spelled (m.Case mode a bs) =
        ap (λ z. codes "Case " ++ z)
        (mode_spelled mode (expression_text a) (codes " [" ++ (separated (branch_texts bs) ++ codes "]"))
        ∙ ap (λ z. mode_word mode ++ (expression_text a ++ (codes ") [" ++ (separated z ++ codes "]"))))
        (sym (rows_texts bs))
        ∙ ap (λ z. mode_word mode ++ (expression_text a ++ (codes ") [" ++ z)))
        (sym (append-nil (list_tail row_text (rows_of bs)))))

    room : (t : Expression Entity) → IsExpression depth t → Inner depth
    room t g = by depth g
      where
        by : (depth : ℕ) → IsExpression depth t → Inner depth
        by zero g = absurd g
        by (suc depth) g = tt

    from : (t : Expression Entity) → IsExpression (suc depth) t → FormFits t
    from (m.Var x) g = (tt, (g, refl))
    from (m.Literal l) g = (tt, (g, refl))
    from (m.Comb kind e ts) g =
        (tt, (g.0, (g.1, (listed_from depth ts g.2, ap (m.Comb kind e) (sym (all_listed ts))))))
    from (m.Let x a b) g = (room a g.1, (g.0, (g.1, (g.2, refl))))
    from (m.Free x a) g = (room a g.1, (g.0, (g.1, refl)))
    from (m.Or a b) g = (room a g.0, (g.0, (g.1, refl)))
    from (m.Case mode a bs) g = (
      room a g.0,
      (tt, (g.0, (rows_from depth bs g.1, ap (m.Case mode a) (sym (all_rows bs))))),
    )

    into : (t : Expression Entity) → FormFits t → IsExpression (suc depth) t
    into (m.Var x) g = g.1.0
    into (m.Literal l) g = g.1.0
    into (m.Comb kind e ts) g = (g.1.0, g.1.1.0, listed_into depth ts g.1.1.1.0)
    into (m.Let x a b) g = (g.1.0, g.1.1.0, g.1.1.1.0)
    into (m.Free x a) g = (g.1.0, g.1.1.0)
    into (m.Or a b) g = (g.1.0, g.1.1.0)
    into (m.Case mode a bs) g = (g.1.1.0, rows_into depth bs g.1.1.1.0)

    choice_reads : Reads no_digit (expression_at (suc depth)) expression_text
        (IsExpression (suc depth))
    unfolding expression_at
    choice_reads =
        same_reads no_digit (expression_at (suc depth)) spelled expression_text FormFits
        (IsExpression (suc depth))
        (tag_reads (expression_words (suc depth)) word_of (IsForm depth) form.Var tt (rows depth)
        (finds depth) (expression_of_form (expression_at depth)) (λ f. text_by (steps_of depth f))
        (λ f. Fits (steps_of depth f)) form_of second exact)
        (λ t g. (from t g, is_spelled t)) (λ t g. (into t g, is_spelled t))

nothing_nested : (bytes : List ℕ) → expression_at 0 bytes ≡ Err (length bytes)
unfolding expression_at
nothing_nested bytes = refl

pub expression_reads : (depth : ℕ)
    → Reads no_digit (expression_at (suc depth)) expression_text (IsExpression (suc depth))
expression_reads zero =
    choice_reads zero
    (no_list_reads (expression_at 0) expression_text (IsExpression 0) nothing_nested (λ t g. g))
    (λ none. absurd none)
expression_reads (suc depth) =
    choice_reads (suc depth)
    (list_after_reads (expression_at (suc depth)) expression_text (IsExpression (suc depth))
    (expression_reads depth) (λ t rest g. starts t rest))
    (λ some. expression_reads depth)
