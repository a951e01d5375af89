-- What is left of a round over the outcomes of a level.
use Rattle.std.proofs.Common.{◌≡◌, ℕ, ◌+◌, ◌<◌, ◌≤◌, Bool, true, false, List, [], ◌∷◌, ◌++◌, Option, None, Some, length, map, refl, sym, ap, subst, ◌∙◌, append_assoc, drop, get_or}
use Rattle.std.proofs.lemmas.List.{append-nil, drop_all, drop_more}
use Rattle.std.specs.Option.{is_some}
use Rattle.std.specs.Prelude.{if◌then◌else◌}
use Rattle.cu_machine.specs.declared.End.{End}
use Rattle.cu_machine.specs.declared.End.TheVariants.{Answers}
use Rattle.cu_machine.specs.Listing.{Answered, Line, Round, Tally, is_last, nothing, one_answer, round_of, with_line}
use Rattle.cu_machine.specs.Next.{Next, Answer, Fails, Go, Stops, Waits}
use Rattle.cu_search.specs.Lines.{Notation, line_text, lines_bytes}
use Rattle.cu_search.specs.Written.{Adds, AddsPrefix}
use Rattle.cu_search.proofs.WrittenLemmas.{Adds-nothing, Continues, continues, ends, prefix, prefix_part}

-- a round, and what follows it where it doesn't end the listing
abbrev pub then_round : Round → (Tally → Round) → Round
then_round round others =
    elim round.end [
      | None ↦ record { lines = round.lines ++ (others round.tally).lines; tally = (others round.tally).tally; end = (others round.tally).end }
      | Some end ↦ round
    ]

-- an answer, where b says whether it is the last that is wanted
then_round-answer : (b : Bool) (line : Line) (tally : Tally) (end : End) (others : Tally → Round)
    → with_line line (if b then nothing tally (Some end) else others tally) ≡ then_round (with_line line (if b then nothing tally (Some end) else nothing tally None)) others
then_round-answer true line tally end others = refl
then_round-answer false line tally end others = refl

-- a round over a first outcome and others
pub round_of-cons : (d : ℕ) (limit : Option ℕ) (tally : Tally) (outcome : Next) (outcomes : List Next)
    → round_of d limit tally (outcome ∷ outcomes) ≡ then_round (round_of d limit tally (outcome ∷ [])) (λ after. round_of d limit after outcomes)
unfolding round_of
round_of-cons d limit tally (Go states) outcomes = refl
round_of-cons d limit tally (Answer reading) outcomes =
    then_round-answer (is_last limit (tally.answers + 1)) (Answered d reading) (one_answer tally) (Answers (tally.answers + 1)) (λ after. round_of d limit after outcomes)
round_of-cons d limit tally Fails outcomes = refl
round_of-cons d limit tally (Waits names) outcomes = refl
round_of-cons d limit tally (Stops stop) outcomes = refl

pub round_of-nil : (d : ℕ) (limit : Option ℕ) (tally : Tally) → round_of d limit tally [] ≡ nothing tally None
unfolding round_of
round_of-nil d limit tally = refl

-- a prefix of a line, as that of a list of one line
pub one_line_prefix : (notation : Notation) (a b : Option (List ℕ)) (line : Line) → AddsPrefix a b (line_text notation line) → AddsPrefix a b (lines_bytes notation (line ∷ []))
one_line_prefix notation a b line h = subst (AddsPrefix a b) (sym (append-nil (line_text notation line))) h

pub lines_bytes-append : (notation : Notation) (xs ys : List Line) → lines_bytes notation (xs ++ ys) ≡ lines_bytes notation xs ++ lines_bytes notation ys
lines_bytes-append notation [] ys = refl
lines_bytes-append notation (x ∷ xs) ys =
    ap (λ bytes. line_text notation x ++ bytes) (lines_bytes-append notation xs ys)
    ∙ sym (append_assoc (line_text notation x) (lines_bytes notation xs) (lines_bytes notation ys))

pub then_round-None : (round : Round) (others : Tally → Round) → round.end ≡ None
    → then_round round others ≡ record { lines = round.lines ++ (others round.tally).lines; tally = (others round.tally).tally; end = (others round.tally).end }
then_round-None round others h = rw h refl

pub then_round-Some : (round : Round) (others : Tally → Round) (end : End) → round.end ≡ Some end → then_round round others ≡ round
then_round-Some round others end h = rw h refl

module _ (notation : Notation) where
  abbrev bytes_of : List Line → List ℕ
  bytes_of lines = lines_bytes notation lines

  -- What is left of a round, where what was before it was written.
  pub record RoundLeft (before now : Option (List ℕ)) (whole rest : Round) : Type 0 where
    pub written : Continues before now (bytes_of whole.lines) (bytes_of rest.lines)
    pub tally : whole.tally ≡ rest.tally
    pub end : whole.end ≡ rest.end

  -- A round was listed: its lines were written, and this is its count and its end.
  pub record RoundListed (before now : Option (List ℕ)) (whole : Round) (tally : Tally) (end : Option End) : Type 0 where
    pub written : Adds before now (bytes_of whole.lines)
    pub tally_is : tally ≡ whole.tally
    pub end_is : end ≡ whole.end

  -- a part that doesn't end the listing was listed
  round_goes_on : (a b c : Option (List ℕ)) (whole part : Round) (others : Tally → Round)
      → RoundLeft a b whole (then_round part others) → Adds b c (bytes_of part.lines) → part.end ≡ None → RoundLeft a c whole (others part.tally)
  round_goes_on a b c whole part others h k none =
      let same = then_round-None part others none in
      let rest = others part.tally in
      let bytes : bytes_of (then_round part others).lines ≡ bytes_of part.lines ++ bytes_of rest.lines =
      ap (λ round. bytes_of round.lines) same ∙ lines_bytes-append notation part.lines rest.lines in
      record {
        written = continues a b c (bytes_of whole.lines) (bytes_of part.lines) (bytes_of rest.lines) (subst (Continues a b (bytes_of whole.lines)) bytes h.written) k;
        tally = h.tally ∙ ap (λ round. round.tally) same;
        end = h.end ∙ ap (λ round. round.end) same;
      }

  -- a part that ends the listing was listed
  round_ends : (a b c : Option (List ℕ)) (whole part : Round) (others : Tally → Round) (end : End)
      → RoundLeft a b whole (then_round part others) → Adds b c (bytes_of part.lines) → part.end ≡ Some end → RoundListed a c whole part.tally part.end
  round_ends a b c whole part others end h k some =
      let same = then_round-Some part others end some in
      record {
        written = ends a b c (bytes_of whole.lines) (bytes_of part.lines) (subst (λ round. Continues a b (bytes_of whole.lines) (bytes_of round.lines)) same h.written) k;
        tally_is = sym (h.tally ∙ ap (λ round. round.tally) same);
        end_is = sym (h.end ∙ ap (λ round. round.end) same);
      }

  -- a prefix of a part was written
  round_prefix : (a b c : Option (List ℕ)) (whole part : Round) (others : Tally → Round) (end : Option End) → part.end ≡ end
      → RoundLeft a b whole (then_round part others) → AddsPrefix b c (bytes_of part.lines) → AddsPrefix a c (bytes_of whole.lines)
  round_prefix a b c whole part others None is h k =
      let rest = others part.tally in
      let bytes : bytes_of (then_round part others).lines ≡ bytes_of part.lines ++ bytes_of rest.lines =
      ap (λ round. bytes_of round.lines) (then_round-None part others is) ∙ lines_bytes-append notation part.lines rest.lines in
      prefix_part a b c (bytes_of whole.lines) (bytes_of part.lines) (bytes_of rest.lines) (subst (Continues a b (bytes_of whole.lines)) bytes h.written) k
  round_prefix a b c whole part others (Some end) is h k =
      prefix a b c (bytes_of whole.lines) (bytes_of part.lines)
      (subst (λ round. Continues a b (bytes_of whole.lines) (bytes_of round.lines)) (then_round-Some part others end is) h.written) k

  -- the outcomes of the elements of a list from a place on
  module _ {X : Type 0} (f : X → Next) (d : ℕ) (limit : Option ℕ) where
    -- one element's outcome
    abbrev pub one_round : Tally → X → Round
    one_round tally x = round_of d limit tally (f x ∷ [])

    abbrev pub rest_round : Tally → List X → ℕ → Round
    rest_round tally xs i = round_of d limit tally (map f (drop i xs))

    rest_round-cons : (tally : Tally) (xs : List X) (i : ℕ) (x : X) → i < length xs → x ≡ get_or xs i x
        → rest_round tally xs i ≡ then_round (one_round tally x) (λ after. rest_round after xs (i + 1))
    rest_round-cons tally xs i x below is =
        ap (λ ys. round_of d limit tally (map f ys)) (drop_more xs i x below ∙ ap (λ y. y ∷ drop (i + 1) xs) (sym is)) ∙ round_of-cons d limit tally (f x) (map f (drop (i + 1) xs))

    pub outcome_goes_on : (a b c : Option (List ℕ)) (whole : Round) (tally after : Tally) (xs : List X) (i : ℕ) (x : X) (end : Option End) → i < length xs → x ≡ get_or xs i x
        → RoundLeft a b whole (rest_round tally xs i) → Adds b c (bytes_of (one_round tally x).lines) → after ≡ (one_round tally x).tally → end ≡ (one_round tally x).end → is_some end ≡ false
        → RoundLeft a c whole (rest_round after xs (i + 1))
    outcome_goes_on a b c whole tally after xs i x (Some end) below is h k t e none = cc
    outcome_goes_on a b c whole tally after xs i x None below is h k t e none =
        let g = round_goes_on a b c whole (one_round tally x) (λ next. rest_round next xs (i + 1)) (subst (RoundLeft a b whole) (rest_round-cons tally xs i x below is) h) k (sym e)
        in subst (λ next. RoundLeft a c whole (rest_round next xs (i + 1))) (sym t) g

    pub outcome_ends : (a b c : Option (List ℕ)) (whole : Round) (tally after : Tally) (xs : List X) (i : ℕ) (x : X) (end : Option End) → i < length xs → x ≡ get_or xs i x
        → RoundLeft a b whole (rest_round tally xs i) → Adds b c (bytes_of (one_round tally x).lines) → after ≡ (one_round tally x).tally → end ≡ (one_round tally x).end → is_some end ≡ true
        → RoundListed a c whole after end
    outcome_ends a b c whole tally after xs i x None below is h k t e some = cc
    outcome_ends a b c whole tally after xs i x (Some end) below is h k t e some =
        let g = round_ends a b c whole (one_round tally x) (λ next. rest_round next xs (i + 1)) end (subst (RoundLeft a b whole) (rest_round-cons tally xs i x below is) h) k (sym e)
        in record { written = g.written; tally_is = t ∙ g.tally_is; end_is = e ∙ g.end_is }

    pub outcome_prefix : (a b c : Option (List ℕ)) (whole : Round) (tally : Tally) (xs : List X) (i : ℕ) (x : X) → i < length xs → x ≡ get_or xs i x
        → RoundLeft a b whole (rest_round tally xs i) → AddsPrefix b c (bytes_of (one_round tally x).lines) → AddsPrefix a c (bytes_of whole.lines)
    outcome_prefix a b c whole tally xs i x below is h k =
        round_prefix a b c whole (one_round tally x) (λ next. rest_round next xs (i + 1)) (one_round tally x).end refl (subst (RoundLeft a b whole) (rest_round-cons tally xs i x below is) h) k

    pub outcomes_listed : (a b : Option (List ℕ)) (whole : Round) (tally : Tally) (xs : List X) (i : ℕ) → length xs ≤ i
        → RoundLeft a b whole (rest_round tally xs i) → RoundListed a b whole tally None
    outcomes_listed a b whole tally xs i past h =
        let same : rest_round tally xs i ≡ nothing tally None = ap (λ ys. round_of d limit tally (map f ys)) (drop_all i xs past) ∙ round_of-nil d limit tally in
        record {
          written = ends a b b (bytes_of whole.lines) [] (subst (λ round. Continues a b (bytes_of whole.lines) (bytes_of round.lines)) same h.written) (Adds-nothing b);
          tally_is = sym (h.tally ∙ ap (λ round. round.tally) same);
          end_is = sym (h.end ∙ ap (λ round. round.end) same);
        }
