-- What is said of the readers of types.
use Rattle.std.proofs.Common.{◌≡◌, ℕ, zero, suc, false, List, [], ◌∷◌, ◌++◌, Ok, Err, codes, decimal, length, map, refl, sym, ap, ◌∙◌, inl, inr, append_assoc, append-nil}
use Rattle.std.specs.List.{AllByRecursion}
use Rattle.cu_flatread.proofs.ElementLaws.{list_after_reads, list_tail, no_list_reads}
use Rattle.cu_flatread.proofs.PartLaws.{entity_reads, no_entity, number_reads, tag_reads}
use Rattle.cu_flatread.proofs.ReaderLaws.{Done, Fits, Part, Reads, Steps, Word, no_digit, same_reads, steps_read, text_by, word_reads}
use Rattle.cu_flatread.proofs.TableLaws.{Finds, IsRow}
use Rattle.cu_flatread.specs.FlatText.{AreTypes, IsEntity, IsNumber, IsType}
use Rattle.cu_flatread.specs.Inside.Names.{entity_at}
use Rattle.cu_flatread.specs.Inside.Numbers.{number_at}
use Rattle.cu_flatread.specs.Inside.Types.{all_types, type_at, type_of_form, type_words}
use Rattle.cu_flatread.specs.Inside.Words.{◌>>=◌, is_at, list_after, list_at}
use Rattle.cu_flatread.specs.Modules as m
use Rattle.cu_flatread.specs.Modules.{TypeExpression, TypeExpressions}
use Rattle.cu_flatread.specs.Notation.{Entity, entity_text, in_parentheses, list_text, separated}
use Rattle.cu_flatread.specs.Text.{type_text, type_texts}
use Rattle.cu_flatread.specs.declared.types.TypeForm.{TypeForm}
use Rattle.cu_flatread.specs.declared.types.TypeForm.TheVariants as form

-- ---- lists of types

abbrev pub listed : TypeExpressions Entity → List (TypeExpression Entity)
listed m.NoType = []
listed (m.MoreTypes t ts) = t ∷ listed ts

pub all_listed : (ts : TypeExpressions Entity) → all_types (listed ts) ≡ ts
all_listed m.NoType = refl
all_listed (m.MoreTypes t ts) = ap (m.MoreTypes t) (all_listed ts)

pub listed_all : (ts : List (TypeExpression Entity)) → listed (all_types ts) ≡ ts
listed_all [] = refl
listed_all (t ∷ ts) = ap (λ us. t ∷ us) (listed_all ts)

pub listed_texts : (ts : TypeExpressions Entity) → map type_text (listed ts) ≡ type_texts ts
listed_texts m.NoType = refl
listed_texts (m.MoreTypes t ts) = ap (λ us. type_text t ∷ us) (listed_texts ts)

pub listed_from : (depth : ℕ) (ts : TypeExpressions Entity) → AreTypes depth ts
    → AllByRecursion (IsType depth) (listed ts)
listed_from depth m.NoType g = tt
listed_from depth (m.MoreTypes t ts) g = (g.0, listed_from depth ts g.1)

pub listed_into : (depth : ℕ) (ts : TypeExpressions Entity)
    → AllByRecursion (IsType depth) (listed ts) → AreTypes depth ts
listed_into depth m.NoType g = tt
listed_into depth (m.MoreTypes t ts) g = (g.0, listed_into depth ts g.1)

-- ---- what stands in parentheses

pub closed : (x z : List ℕ) → in_parentheses x ++ z ≡ 40 ∷ (x ++ 41 ∷ z)
closed x z = ap (λ q. 40 ∷ q) (append_assoc x (codes ")") z)

-- ---- forms

abbrev word_of : TypeForm → List ℕ
word_of form.Variable = codes "TVar "
word_of form.Arrow = codes "FuncType ("
word_of form.Named = codes "TCons "

-- the forms that are there, where types in them are nested at most so deep
abbrev IsForm : ℕ → TypeForm → Type 0
IsForm depth form.Variable = Unit {0}
IsForm depth form.Named = Unit {0}
IsForm zero form.Arrow = ⊥
IsForm (suc depth) form.Arrow = Unit {0}

rows : (depth : ℕ) → AllByRecursion (IsRow word_of (IsForm depth)) (type_words (suc depth))
rows zero = ((tt, refl), ((tt, refl), tt))
rows (suc depth) = ((tt, refl), ((tt, refl), ((tt, refl), tt)))

finds : (depth : ℕ) (f : TypeForm) → IsForm depth f → Finds word_of (type_words (suc depth)) f
finds zero form.Variable g = inl (refl, refl)
finds zero form.Named g = inr (refl, inl (refl, refl))
finds zero form.Arrow g = absurd g
finds (suc depth) form.Variable g = inl (refl, refl)
finds (suc depth) form.Arrow g = inr (refl, inl (refl, refl))
finds (suc depth) form.Named g = inr (refl, inr (refl, inl (refl, refl)))

abbrev form_of : TypeExpression Entity → TypeForm
form_of (m.Variable x) = form.Variable
form_of (m.Arrow a b) = form.Arrow
form_of (m.Named e ts) = form.Named

abbrev variable_of : TypeExpression Entity → ℕ
variable_of (m.Variable x) = x
variable_of (m.Arrow a b) = 0
variable_of (m.Named e ts) = 0

abbrev left_of : TypeExpression Entity → TypeExpression Entity
left_of (m.Variable x) = m.Variable 0
left_of (m.Arrow a b) = a
left_of (m.Named e ts) = m.Variable 0

abbrev right_of : TypeExpression Entity → TypeExpression Entity
right_of (m.Variable x) = m.Variable 0
right_of (m.Arrow a b) = b
right_of (m.Named e ts) = m.Variable 0

abbrev entity_of_type : TypeExpression Entity → Entity
entity_of_type (m.Variable x) = no_entity
entity_of_type (m.Arrow a b) = no_entity
entity_of_type (m.Named e ts) = e

abbrev arguments_of : TypeExpression Entity → List (TypeExpression Entity)
arguments_of (m.Variable x) = []
arguments_of (m.Arrow a b) = []
arguments_of (m.Named e ts) = listed ts

abbrev variable_steps : Steps (TypeExpression Entity)
variable_steps =
    Part ℕ no_digit number_at decimal IsNumber variable_of (λ x. Done (m.Variable x))

abbrev arrow_steps : ℕ → Steps (TypeExpression Entity)
arrow_steps depth =
    Part (TypeExpression Entity) no_digit (type_at depth) type_text (IsType depth) left_of
    (λ a. Word (codes ") (")
    (Part (TypeExpression Entity) no_digit (type_at depth) type_text (IsType depth) right_of
    (λ b. Word (codes ")") (Done (m.Arrow a b)))))

abbrev named_steps : ℕ → Steps (TypeExpression Entity)
named_steps depth =
    Part Entity no_digit entity_at entity_text IsEntity entity_of_type
    (λ e. Word (codes " [")
    (Part (List (TypeExpression Entity)) no_digit (list_after (type_at depth))
    (list_tail type_text) (AllByRecursion (IsType depth)) arguments_of
    (λ ts. Done (m.Named e (all_types ts)))))

abbrev steps_of : ℕ → TypeForm → Steps (TypeExpression Entity)
steps_of depth form.Variable = variable_steps
steps_of depth form.Arrow = arrow_steps depth
steps_of depth form.Named = named_steps depth

module _ (depth : ℕ)
    (lists : Reads no_digit (list_after (type_at depth)) (list_tail type_text)
    (AllByRecursion (IsType depth)))
    (inner : IsForm depth form.Arrow → Reads no_digit (type_at depth) type_text (IsType depth))
  where
    second : (f : TypeForm) → IsForm depth f
        → Reads no_digit (type_of_form (type_at depth) f) (text_by (steps_of depth f))
        (Fits (steps_of depth f))
    unfolding type_of_form
    second form.Variable g =
        steps_read variable_steps (
          number_reads,
          λ x h. tt,
          λ x t h e. ap variable_of e,
          inr (λ x t rest h e ends. ends),
        )
    second form.Arrow g =
        steps_read (arrow_steps depth) (
          inner g,
          λ a h. (
            inner g,
            λ b i. tt,
            λ b t i e. ap right_of e,
            inr (λ b t rest i e ends. refl),
          ),
          λ a t h e. ap left_of e.1,
          inr (λ a t rest h e ends. refl),
        )
    second form.Named g =
        steps_read (named_steps depth) (
          entity_reads,
          λ e h. (
            lists,
            λ ts i. tt,
            λ ts t i f. ap arguments_of f ∙ listed_all ts,
            inr (λ ts t rest i f ends. ends),
          ),
          λ e t h f. ap entity_of_type f.1,
          inr (λ e t rest h f ends. refl),
        )

    exact : (f : TypeForm) (t : TypeExpression Entity) → IsForm depth f → Fits (steps_of depth f) t
        → form_of t ≡ f
    exact form.Variable t g h = ap form_of h.1
    exact form.Arrow t g h = ap form_of h.1.1
    exact form.Named t g h = ap form_of h.1.1

    abbrev TypeFits : TypeExpression Entity → Type 0
    TypeFits t = IsForm depth (form_of t) × Fits (steps_of depth (form_of t)) t

    abbrev spelled : TypeExpression Entity → List ℕ
    spelled t = word_of (form_of t) ++ text_by (steps_of depth (form_of t)) t

    is_spelled : (t : TypeExpression Entity) → type_text t ≡ spelled t
    is_spelled (m.Variable x) = ap (λ z. codes "TVar " ++ z) (sym (append-nil (decimal x)))
    is_spelled (m.Arrow a b) =
        ap (λ z. codes "FuncType " ++ z)
        (closed (type_text a) (codes " " ++ in_parentheses (type_text b)))
    is_spelled (m.Named e ts) =
        ap (λ z. codes "TCons " ++ (entity_text e ++ (codes " [" ++ (separated z ++ codes "]"))))
        (sym (listed_texts ts))
        ∙ ap (λ z. codes "TCons " ++ (entity_text e ++ (codes " [" ++ z)))
        (sym (append-nil (list_tail type_text (listed ts))))

    from : (t : TypeExpression Entity) → IsType (suc depth) t → TypeFits t
    from (m.Variable x) g = (tt, (g, refl))
    from (m.Arrow a b) g = (arrow depth g.0, (g.0, (g.1, refl)))
      where
        arrow : (depth : ℕ) → IsType depth a → IsForm depth form.Arrow
        arrow zero g = absurd g
        arrow (suc depth) g = tt
    from (m.Named e ts) g =
        (tt, (g.0, (listed_from depth ts g.1, ap (m.Named e) (sym (all_listed ts)))))

    into : (t : TypeExpression Entity) → TypeFits t → IsType (suc depth) t
    into (m.Variable x) g = g.1.0
    into (m.Arrow a b) g = (g.1.0, g.1.1.0)
    into (m.Named e ts) g = (g.1.0, listed_into depth ts g.1.1.0)

    choice_reads : Reads no_digit (type_at (suc depth)) type_text (IsType (suc depth))
    unfolding type_at
    choice_reads =
        same_reads no_digit (type_at (suc depth)) spelled type_text TypeFits (IsType (suc depth))
        (tag_reads (type_words (suc depth)) word_of (IsForm depth) form.Variable tt (rows depth)
        (finds depth) (type_of_form (type_at depth)) (λ f. text_by (steps_of depth f))
        (λ f. Fits (steps_of depth f)) form_of second exact)
        (λ t g. (from t g, is_spelled t)) (λ t g. (into t g, is_spelled t))

-- ---- types

type_starts : (t : TypeExpression Entity) (rest : List ℕ) → is_at 93 (type_text t ++ rest) ≡ false
type_starts (m.Variable x) rest = refl
type_starts (m.Arrow a b) rest = refl
type_starts (m.Named e ts) rest = refl

nothing_nested : (bytes : List ℕ) → type_at 0 bytes ≡ Err (length bytes)
unfolding type_at
nothing_nested bytes = refl

pub type_reads : (depth : ℕ) → Reads no_digit (type_at (suc depth)) type_text (IsType (suc depth))
type_reads zero =
    choice_reads zero
    (no_list_reads (type_at 0) type_text (IsType 0) nothing_nested (λ t g. g)) (λ none. absurd none)
type_reads (suc depth) =
    choice_reads (suc depth)
    (list_after_reads (type_at (suc depth)) type_text (IsType (suc depth)) (type_reads depth)
    (λ t rest g. type_starts t rest))
    (λ some. type_reads depth)

-- a type that is nested at most so deep, for any such number
pub types_read : (depth : ℕ)
    → Reads no_digit (list_at (type_at (suc depth))) (λ ts. list_text (map type_text ts))
    (AllByRecursion (IsType (suc depth)))
unfolding list_at
types_read depth =
    word_reads no_digit (codes "[") (list_after (type_at (suc depth))) (list_tail type_text)
    (AllByRecursion (IsType (suc depth)))
    (list_after_reads (type_at (suc depth)) type_text (IsType (suc depth)) (type_reads depth)
    (λ t rest g. type_starts t rest))

abbrev list_steps : ℕ → Steps (TypeExpressions Entity)
list_steps depth =
    Part (List (TypeExpression Entity)) no_digit (list_at (type_at (suc depth)))
    (λ ts. list_text (map type_text ts)) (AllByRecursion (IsType (suc depth))) listed
    (λ ts. Done (all_types ts))

pub lists_read : (depth : ℕ)
    → Reads no_digit (λ bytes. list_at (type_at (suc depth)) bytes >>= λ ts. Ok (all_types ts.0, ts.1))
    (λ ts. list_text (type_texts ts)) (AreTypes (suc depth))
lists_read depth =
    same_reads no_digit
    (λ bytes. list_at (type_at (suc depth)) bytes >>= λ ts. Ok (all_types ts.0, ts.1))
    (text_by (list_steps depth)) (λ ts. list_text (type_texts ts)) (Fits (list_steps depth))
    (AreTypes (suc depth))
    (steps_read (list_steps depth) (
      types_read depth,
      λ ts g. tt,
      λ ts us g e. ap listed e ∙ listed_all ts,
      inr (λ ts us rest g e ends. ends),
    ))
    (λ ts g. ((listed_from (suc depth) ts g, sym (all_listed ts)), texts ts))
    (λ ts g. (listed_into (suc depth) ts g.0, texts ts))
  where
    texts : (ts : TypeExpressions Entity)
        → list_text (type_texts ts) ≡ text_by (list_steps depth) ts
    texts ts =
        ap list_text (sym (listed_texts ts))
        ∙ sym (append-nil (list_text (map type_text (listed ts))))
