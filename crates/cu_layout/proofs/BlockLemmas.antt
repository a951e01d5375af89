-- One token after another.
use Rattle.std.proofs.Common.{◌≡◌, ◌∙◌, ℕ, suc, ◌+◌, sym, ap, subst, refl, append_assoc, add-zero, arith, zero-add, Bool, true, nat_le, List, [], ◌∷◌, ◌++◌, length, map, reverse, Option, None, Some, Result, Ok, Err, if◌then◌else◌}
use Rattle.std.proofs.Math.Seq.{get_or-append_seam}
use Rattle.std.proofs.lemmas.List.{length-append, length-map, map-append, reverse-append, reverse-reverse}
use Rattle.std.proofs.lemmas.Option.{slice_get-get_or}
use Rattle.std.specs.List.{slice_get}
use Rattle.std.specs.Option.{option_and_then, option_map}
use Rattle.std.specs.Result.{result_map_both, IfErr, IsErrAnd}
use Rattle.cu_names.specs.declared.place.Place.{Place}
use Rattle.cu_lex.specs.declared.token.LayoutMark.{LayoutMark}
use Rattle.cu_lex.specs.declared.token.Token.{Token}
use Rattle.cu_layout.specs.declared.fault.TooDeep.{TooDeep}
use Rattle.cu_layout.specs.declared.fault.TooDeep.TheVariants as fault_of
use Rattle.cu_layout.specs.declared.form.Form.{Form}
use Rattle.cu_layout.specs.declared.stack.Entry.{Entry as Standing}
use Rattle.cu_layout.specs.Blocks.{Marks, begins_line, block, due_at_start, interleaving, last_of, marks_from, marks_through, marks_with, with_marks}
use Rattle.cu_layout.specs.Inside.Entries.{IsBeyond, Lays, LaysOut, begins_line_at, block_from, laid_then, mark_at, plain, plain_stack, sight_at, stack_of, start_or, token_sights, with_marks_at}
use Rattle.cu_layout.specs.Forms.{is_block_keyword, token_form, token_sight}
use Rattle.cu_layout.specs.Reading.{Tells, emitted_token, place_at, token_view}
use Rattle.cu_layout.specs.Rules.{Step, Stack, brace_end, due_block, last_marks, layout_step, marks_then, most_entries, partner_end, stack_with, token_step, within_limit}
use Rattle.cu_layout.proofs.PlainLemmas.{marks_from-same}
use Rattle.cu_layout.proofs.StackLemmas.{plain-stack_of}

within-some : (step : Step) → nat_le (length step.stack) most_entries ≡ true → within_limit step ≡ Some step
within-some step fits = ap (λ b. if b then Some step else None) fits

joined : (place : Place) (laid : List Token) (a b c : List LayoutMark) → ((laid ++ map (mark_at place) a) ++ map (mark_at place) b) ++ map (mark_at place) c ≡ with_marks_at place (a ++ (b ++ c)) laid
joined place laid a b c =
    append_assoc (laid ++ map (mark_at place) a) (map (mark_at place) b) (map (mark_at place) c)
    ∙ append_assoc laid (map (mark_at place) a) (map (mark_at place) b ++ map (mark_at place) c)
    ∙ ap (λ m. laid ++ (map (mark_at place) a ++ m)) (sym (map-append (mark_at place) b c))
    ∙ ap (λ m. laid ++ m) (sym (map-append (mark_at place) a (b ++ c)))

pub lays-out : (due first : Bool) (what : Form) (place : Place) (laid l1 l2 l3 : List Token) (stack s1 s2 s3 s4 : List Standing)
    → Lays place laid l1 s1 (due_block due first (sight_at what place) (stack_of stack)) → nat_le (length (stack_of s1)) most_entries ≡ true
    → Lays place l1 l2 s2 (partner_end what (stack_of s1)) → Lays place l2 l3 s3 (brace_end what (stack_of s2))
    → stack_of s4 ≡ plain_stack (stack_with what (stack_of s3)) → nat_le (length (stack_of s4)) most_entries ≡ true
    → LaysOut due first what place laid l3 stack s4
lays-out due first what place laid l1 l2 l3 stack s1 s2 s3 s4 one fits two three four fits' =
    let begun = due_block due first (sight_at what place) (stack_of stack) in
    let third = partner_end what begun.stack in
    let fourth = brace_end what third.stack in
    let step : Step = marks_then begun.marks (token_step what begun.stack) in
    let q2 : stack_of s2 ≡ third.stack = two.stack ∙ ap (λ s. (partner_end what s).stack) one.stack in
    let q3 : stack_of s3 ≡ fourth.stack = three.stack ∙ ap (λ s. (brace_end what s).stack) q2 in
    let m2 : l2 ≡ l1 ++ map (mark_at place) third.marks = two.tokens ∙ ap (λ s. l1 ++ map (mark_at place) (partner_end what s).marks) one.stack in
    let m3 : l3 ≡ l2 ++ map (mark_at place) fourth.marks = three.tokens ∙ ap (λ s. l2 ++ map (mark_at place) (brace_end what s).marks) q2 in
    let within : within_limit begun ≡ Some begun = within-some begun (ap (λ s. nat_le (length s) most_entries) (sym one.stack) ∙ fits) in
    let lengths : length (stack_with what fourth.stack) ≡ length (stack_of s4)
    = ap (λ s. length (stack_with what s)) (sym q3) ∙ sym (length-map (stack_with what (stack_of s3)) plain) ∙ ap length (sym four) in
    let later : within_limit step ≡ Some step = within-some step (ap (λ n. nat_le n most_entries) lengths ∙ fits') in
    record {
      step = step;
      given = ap (option_and_then (λ first_step. within_limit (marks_then first_step.marks (token_step what first_step.stack)))) within ∙ later;
      tokens = m3 ∙ ap (λ ts. ts ++ map (mark_at place) fourth.marks) (m2 ∙ ap (λ ts. ts ++ map (mark_at place) third.marks) one.tokens) ∙ joined place laid begun.marks third.marks fourth.marks;
      stands = four ∙ ap (λ s. plain_stack (stack_with what s)) q3;
    }

-- ---- the loop over tokens

-- a text before its first token
pub at-start : (whole : Bool) (text : List Token) (due : Bool) → due ≡ due_at_start whole (token_sights text)
    → block token_view whole text ≡ laid_then [] 0 (block_from None (stack_of []) due text)
at-start whole text due is = by (marks_from [] (due_at_start whole (token_sights text)) None (token_sights text)) ∙ ap (λ d. laid_then [] 0 (block_from None (stack_of []) d text)) (sym is)
  where
    by : (found : Result Marks ℕ) → result_map_both (with_marks emitted_token text) (λ number. number) found ≡ laid_then [] 0 (result_map_both (with_marks emitted_token text) (λ number. number) found)
    by (Ok marks) = refl
    by (Err number) = ap Err (sym (zero-add number))

laid_after : (laid a i e : List Token) (t : Token) → laid ++ ((a ++ t ∷ i) ++ e) ≡ ((laid ++ a) ++ t ∷ []) ++ (i ++ e)
laid_after laid a i e t = simp append_assoc

-- one token more, whose marks and stack are known
one-more : (before : Option Token) (laid laid' : List Token) (count : ℕ) (t : Token) (more : List Token) (marks : List LayoutMark) (found : Result Marks ℕ) → laid' ≡ with_marks_at t.place marks laid
    → laid_then laid count (result_map_both (λ m. interleaving emitted_token (t ∷ more) m.before ++ map (emitted_token (last_of before (t ∷ more))) m.after) (λ number. number) (result_map_both (marks_with marks) suc found))
    ≡ laid_then (laid' ++ t ∷ []) (count + 1) (result_map_both (λ m. interleaving emitted_token more m.before ++ map (emitted_token (last_of (Some t) more)) m.after) (λ number. number) found)
one-more before laid laid' count t more marks (Ok m) is =
    ap Ok (laid_after laid (map (mark_at t.place) marks) (interleaving emitted_token more m.before) (map (emitted_token (last_of (Some t) more)) m.after) t
    ∙ ap (λ ts. (ts ++ t ∷ []) ++ (interleaving emitted_token more m.before ++ map (emitted_token (last_of (Some t) more)) m.after)) (sym is))
one-more before laid laid' count t more marks (Err number) is = ap Err (omega arith)

pub next-token : (before : Option Token) (due : Bool) (t : Token) (more laid laid' : List Token) (count : ℕ) (stack stack' : List Standing)
    → LaysOut due (begins_line (option_map (λ b. b.place.line) before) (token_sight t)) (token_form t.kind) t.place laid laid' stack stack'
    → laid_then laid count (block_from before (stack_of stack) due (t ∷ more)) ≡ laid_then (laid' ++ t ∷ []) (count + 1) (block_from (Some t) (stack_of stack') (is_block_keyword (token_form t.kind)) more)
unfolding marks_from
next-token before due t more laid laid' count stack stack' lays =
    let further : Stack → Result Marks ℕ = λ next. marks_from next (is_block_keyword (token_form t.kind)) (Some t.place.line) (token_sights more) in
    let out : Result Marks ℕ → Result (List Token) ℕ
    = λ found. laid_then laid count (result_map_both (λ m. interleaving emitted_token (t ∷ more) m.before ++ map (emitted_token (last_of before (t ∷ more))) m.after) (λ number. number) found) in
    let same : plain_stack lays.step.stack ≡ plain_stack (stack_of stack') = sym lays.stands ∙ sym (plain-stack_of stack') in
    ap (λ found. out (marks_through found further)) lays.given
    ∙ ap (λ found. out (result_map_both (marks_with lays.step.marks) suc found)) (marks_from-same (token_sights more) lays.step.stack (stack_of stack') (is_block_keyword (token_form t.kind)) (Some t.place.line) same)
    ∙ one-more before laid laid' count t more lays.step.marks (further (stack_of stack')) lays.tokens

-- a token at which the stack comes to an entry too many
pub beyond : (before : Option Token) (due : Bool) (t : Token) (more laid : List Token) (count : ℕ) (stack : Stack)
    → layout_step due (begins_line (option_map (λ b. b.place.line) before) (token_sight t)) (token_sight t) stack ≡ None
    → laid_then laid count (block_from before stack due (t ∷ more)) ≡ Err (count + 0)
unfolding marks_from
beyond before due t more laid count stack none =
    let further : Stack → Result Marks ℕ = λ next. marks_from next (is_block_keyword (token_form t.kind)) (Some t.place.line) (token_sights more) in
    ap (λ found. laid_then laid count (result_map_both (λ m. interleaving emitted_token (t ∷ more) m.before ++ map (emitted_token (last_of before (t ∷ more))) m.after) (λ number. number) (marks_through found further))) none

-- the end of the text
pub at-end : (before : Option Token) (due : Bool) (laid laid' : List Token) (count : ℕ) (stack : Stack) (place : Place) → place ≡ place_at before → laid' ≡ with_marks_at place (last_marks due stack) laid
    → laid_then laid count (block_from before stack due []) ≡ Ok laid'
unfolding marks_from
at-end before due laid laid' count stack place at is = ap (λ p. Ok (with_marks_at p (last_marks due stack) laid)) (sym at) ∙ ap Ok (sym is)

last_of-more : (before : Option Token) (done : List Token) (t : Token) → last_of before (done ++ t ∷ []) ≡ Some t
last_of-more before [] t = refl
last_of-more before (x ∷ done) t = last_of-more (Some x) done t

-- a token begins its line by the place before it, or by the line before it
first-of-line : (before : Option Token) (last : Option Place) (t : Token) → last ≡ option_map (λ b. b.place) before → begins_line_at last t.place ≡ begins_line (option_map (λ b. b.place.line) before) (token_sight t)
first-of-line None last t is = ap (λ l. begins_line_at l t.place) is
first-of-line (Some b) last t is = ap (λ l. begins_line_at l t.place) is

-- what the loop knows between two tokens
pub record UpTo (whole : Bool) (tokens out : List Token) (stack : List Standing) (due : Bool) (before : Option Place) (left : List Token) : Type 0 where
  pub done : List Token
  pub text : tokens ≡ done ++ left
  pub last : before ≡ option_map (λ b. b.place) (last_of None done)
  pub laid : block token_view whole tokens ≡ laid_then out (length done) (block_from (last_of None done) (stack_of stack) due left)

-- at the first token
pub up-to-first : (whole : Bool) (tokens left out : List Token) (stack : List Standing) (due : Bool) → left ≡ reverse tokens → due ≡ due_at_start whole (token_sights tokens) → out ≡ [] → stack ≡ []
    → UpTo whole tokens out stack due None (reverse left)
up-to-first whole tokens left out stack due reversed is no-out no-stack =
    let converse : tokens ≡ reverse left = sym (ap reverse reversed ∙ reverse-reverse tokens) in
    record {
      done = [];
      text = converse;
      last = refl;
      laid = at-start whole tokens due is
          ∙ ap (λ ts. laid_then [] 0 (block_from None (stack_of []) due ts)) converse
          ∙ ap (λ ts. laid_then ts 0 (block_from None (stack_of []) due (reverse left))) (sym no-out)
          ∙ ap (λ s. laid_then out 0 (block_from None (stack_of s) due (reverse left))) (sym no-stack);
    }

-- what it knows before a token, and at it
pub record At (whole : Bool) (tokens done out : List Token) (stack : List Standing) (due begins : Bool) (before : Option Place) (left : List Token) (seen : Form) (t : Token) (left' : List Token) : Type 0 where
  pub text : tokens ≡ done ++ left
  pub last : before ≡ option_map (λ b. b.place) (last_of None done)
  pub laid : block token_view whole tokens ≡ laid_then out (length done) (block_from (last_of None done) (stack_of stack) due left)
  pub next : left ≡ t ∷ left'
  pub what : seen ≡ token_form t.kind
  pub first : begins ≡ begins_line_at before t.place

pub text-more : (text done left left' : List Token) (t : Token) → text ≡ done ++ left → left ≡ t ∷ left' → text ≡ (done ++ t ∷ []) ++ left'
text-more text done left left' t is next = is ∙ ap (λ ts. done ++ ts) next ∙ sym (append_assoc done (t ∷ []) left')

pub last-more : (done : List Token) (t : Token) → Some t.place ≡ option_map (λ b. b.place) (last_of None (done ++ t ∷ []))
last-more done t = ap (option_map (λ b. b.place)) (sym (last_of-more None done t))

pub laid-more : (whole : Bool) (text done laid laid' laid'' : List Token) (stack stack' : List Standing) (due due' first : Bool) (last : Option Place) (left : List Token) (what : Form) (t : Token) (left' : List Token)
    → At whole text done laid stack due first last left what t left' → LaysOut due first what t.place laid laid' stack stack' → laid'' ≡ laid' ++ t ∷ [] → due' ≡ is_block_keyword what
    → block token_view whole text ≡ laid_then laid'' (length (done ++ t ∷ [])) (block_from (last_of None (done ++ t ∷ [])) (stack_of stack') due' left')
laid-more whole text done laid laid' laid'' stack stack' due due' first last left what t left' at lays pushed keyword =
    let before = last_of None done in
    let begins = at.first ∙ first-of-line before last t at.last in
    let lays' = subst (λ w. LaysOut due (begins_line (option_map (λ b. b.place.line) before) (token_sight t)) w t.place laid laid' stack stack') at.what
    (subst (λ f. LaysOut due f what t.place laid laid' stack stack') begins lays) in
    let count : length done + 1 ≡ length (done ++ t ∷ []) = sym (length-append done (t ∷ [])) in
    at.laid
    ∙ ap (λ ts. laid_then laid (length done) (block_from before (stack_of stack) due ts)) at.next
    ∙ next-token before due t left' laid laid' (length done) stack stack' lays'
    ∙ ap (λ ts. laid_then ts (length done + 1) (block_from (Some t) (stack_of stack') (is_block_keyword (token_form t.kind)) left')) (sym pushed)
    ∙ ap (λ n. laid_then laid'' n (block_from (Some t) (stack_of stack') (is_block_keyword (token_form t.kind)) left')) count
    ∙ ap (λ d. laid_then laid'' (length (done ++ t ∷ [])) (block_from (Some t) (stack_of stack') d left')) (ap is_block_keyword (sym at.what) ∙ sym keyword)
    ∙ ap (λ b. laid_then laid'' (length (done ++ t ∷ [])) (block_from b (stack_of stack') due' left')) (sym (last_of-more None done t))

-- the tokens that are left lie in reverse
pub at-last : (whole : Bool) (tokens out : List Token) (stack : List Standing) (due begins : Bool) (before : Option Place) (left : List Token) (seen : Form) (t : Token) (left' : List Token)
    → (k : UpTo whole tokens out stack due before (reverse left)) → left ≡ left' ++ t ∷ [] → seen ≡ token_form t.kind → begins ≡ begins_line_at before t.place
    → At whole tokens k.done out stack due begins before (reverse left) seen t (reverse left')
at-last whole tokens out stack due begins before left seen t left' k popped form-is begins-is =
    record { text = k.text; last = k.last; laid = k.laid; next = ap reverse popped ∙ reverse-append left' (t ∷ []); what = form-is; first = begins-is }

pub up-to-next : (whole : Bool) (tokens prefix out out' out'' : List Token) (stack stack' : List Standing) (due due' begins : Bool) (before : Option Place) (left : List Token) (seen : Form) (t : Token) (left' kept : List Token)
    → At whole tokens prefix out stack due begins before left seen t (reverse left') → LaysOut due begins seen t.place out out' stack stack' → out'' ≡ out' ++ t ∷ [] → due' ≡ is_block_keyword seen → kept ≡ left'
    → UpTo whole tokens out'' stack' due' (Some t.place) (reverse kept)
up-to-next whole tokens prefix out out' out'' stack stack' due due' begins before left seen t left' kept at lays pushed keyword same =
    subst (λ ts. UpTo whole tokens out'' stack' due' (Some t.place) (reverse ts)) (sym same)
    (record {
      done = prefix ++ t ∷ [];
      text = text-more tokens prefix left (reverse left') t at.text at.next;
      last = last-more prefix t;
      laid = laid-more whole tokens prefix out out' out'' stack stack' due due' begins before left seen t (reverse left') at lays pushed keyword;
    })

stands-at : (done left' : List Token) (t : Token) → slice_get (done ++ t ∷ left') (length done + 0) ≡ Some t
stands-at done left' t =
    ap (slice_get (done ++ t ∷ left')) (add-zero (length done))
    ∙ slice_get-get_or (done ++ t ∷ left') (length done) t (omega (arith, length-append done (t ∷ left')))
    ∙ ap Some (get_or-append_seam done t left' t)

pub too-deep : (whole : Bool) (text done laid : List Token) (stack : List Standing) (due first : Bool) (last : Option Place) (left : List Token) (what : Form) (t : Token) (left' : List Token) (fault : TooDeep)
    → At whole text done laid stack due first last left what t left' → IsBeyond due first what t.place stack fault → Tells whole text fault
too-deep whole text done laid stack due first last left what t left' fault_of.NoMemory at is = tt
too-deep whole text done laid stack due first last left what t left' (fault_of.At told) at is =
    let before = last_of None done in
    let begins = at.first ∙ first-of-line before last t at.last in
    let none : layout_step due (begins_line (option_map (λ b. b.place.line) before) (token_sight t)) (token_sight t) (stack_of stack) ≡ None
    = ap (λ w. layout_step due (begins_line (option_map (λ b. b.place.line) before) (token_sight t)) (sight_at w t.place) (stack_of stack)) (sym at.what)
    ∙ ap (λ f. layout_step due f (sight_at what t.place) (stack_of stack)) (sym begins) ∙ is.1 in
    record {
      number = length done + 0;
      overflows = at.laid ∙ ap (λ ts. laid_then laid (length done) (block_from before (stack_of stack) due ts)) at.next ∙ beyond before due t left' laid (length done) (stack_of stack) none;
      t = t;
      stands = ap (λ ts. slice_get ts (length done + 0)) (at.text ∙ ap (λ ts. done ++ ts) at.next) ∙ stands-at done left' t;
      told = is.0;
    }

-- an error that is passed on as it is
pub err-from-same : {T E : Type 0} (P : E → Type 0) (r : Result T E) (e : E) → IsErrAnd r (λ x. x ≡ e) → P e → IfErr r P
err-from-same P (Ok x) e is p = absurd is
err-from-same P (Err x) e is p = subst P (sym is) p

pub start_or-place_at : (before : Option Token) (last : Option Place) → last ≡ option_map (λ b. b.place) before → start_or last ≡ place_at before
start_or-place_at None last is = ap start_or is
start_or-place_at (Some b) last is = ap start_or is

pub no-items : {A : Type 0} (xs : List A) → length xs ≡ 0 → xs ≡ []
no-items [] is = refl
no-items (x ∷ xs) is = absurd (omega (arith, is))

-- all tokens are laid out
pub all-laid : (whole : Bool) (tokens out out' : List Token) (stack slice : List Standing) (due : Bool) (before : Option Place) (left : List Token) (place : Place)
    → UpTo whole tokens out stack due before (reverse left) → length left ≡ 0 → place ≡ start_or before → slice ≡ stack → out' ≡ with_marks_at place (last_marks due (stack_of slice)) out
    → block token_view whole tokens ≡ Ok out'
all-laid whole tokens out out' stack slice due before left place k none at value finished =
    let last = last_of None k.done in
    k.laid ∙ ap (λ ts. laid_then out (length k.done) (block_from last (stack_of stack) due ts)) (ap reverse (no-items left none))
    ∙ at-end last due out out' (length k.done) (stack_of stack) place (at ∙ start_or-place_at last before k.last) (finished ∙ ap (λ s. with_marks_at place (last_marks due (stack_of s)) out) value)
