-- What the code's stack stands for, as entries come and go.
use Rattle.std.proofs.Common.{◌≡◌, ◌∙◌, ℕ, zero, suc, ◌+◌, ◌-◌, ◌<◌, ◌≤◌, sym, ap, refl, arith, add-one, List, [], ◌∷◌, ◌++◌, length, map, reverse, take, drop, get_or}
use Rattle.std.proofs.Math.ListN.{set}
use Rattle.std.proofs.Math.Seq.{take-suc}
use Rattle.std.proofs.lemmas.List.{drop-set-lt, map-append, reverse-append, take-append-drop, take_more_set}
use Rattle.cu_lex.specs.declared.token.Mark.TheVariants as mark
use Rattle.cu_layout.specs.declared.begun.Begun.{Begun}
use Rattle.cu_layout.specs.declared.begun.Begun.TheVariants as begun
use Rattle.cu_layout.specs.declared.form.Form.{Form}
use Rattle.cu_layout.specs.declared.form.Form.TheVariants as form
use Rattle.cu_layout.specs.declared.stack.Entry.{Entry as Standing}
use Rattle.cu_layout.specs.declared.stack.Entry.TheVariants as standing
use Rattle.cu_layout.specs.Inside.Entries.{begun_of, entry_of, state_with, plain, plain_stack, sample, stack_of}
use Rattle.cu_layout.specs.Rules.{stack_noting, tokens_with}
use Rattle.cu_layout.specs.Rules.Entry.{Block}

pub stack_of-append : (xs ys : List Standing) → stack_of (xs ++ ys) ≡ stack_of ys ++ stack_of xs
stack_of-append xs ys = ap (map entry_of) (reverse-append xs ys) ∙ map-append entry_of (reverse ys) (reverse xs)

-- ---- plain stacks

pub begun_of-sample : (state : Begun) → begun_of (sample state) ≡ state
begun_of-sample begun.Names = refl
begun_of-sample begun.Paren = refl
begun_of-sample begun.Operator = refl
begun_of-sample begun.Quote = refl
begun_of-sample begun.Quoted = refl
begun_of-sample begun.Other = refl

plain-entry_of : (e : Standing) → plain (entry_of e) ≡ entry_of e
plain-entry_of (standing.Block column state) = ap (λ s. Block column (sample s)) (begun_of-sample state)
plain-entry_of standing.Brace = refl
plain-entry_of (standing.Open opening) = refl

plain-map : (es : List Standing) → plain_stack (map entry_of es) ≡ map entry_of es
plain-map [] = refl
plain-map (e ∷ es) = λ j. plain-entry_of e j ∷ plain-map es j

pub plain-stack_of : (es : List Standing) → plain_stack (stack_of es) ≡ stack_of es
plain-stack_of es = plain-map (reverse es)

-- ---- a token is noted

-- a block's state after a token is that of its tokens after it
pub begun_of-tokens_with : (state : Begun) (what : Form) → begun_of (tokens_with what (sample state)) ≡ state_with state what
begun_of-tokens_with begun.Names (form.Mark mark.OpenParen) = refl
begun_of-tokens_with begun.Names (form.Mark mark.Comma) = refl
begun_of-tokens_with begun.Names (form.Mark mark.Semicolon) = refl
begun_of-tokens_with begun.Names (form.Mark _) = refl
begun_of-tokens_with begun.Names _ = refl
begun_of-tokens_with begun.Paren (form.Mark mark.Backquote) = refl
begun_of-tokens_with begun.Paren (form.Mark mark.Semicolon) = refl
begun_of-tokens_with begun.Paren (form.Mark _) = refl
begun_of-tokens_with begun.Paren _ = refl
begun_of-tokens_with begun.Operator (form.Mark mark.CloseParen) = refl
begun_of-tokens_with begun.Operator (form.Mark mark.Semicolon) = refl
begun_of-tokens_with begun.Operator (form.Mark _) = refl
begun_of-tokens_with begun.Operator _ = refl
begun_of-tokens_with begun.Quote (form.Mark mark.Semicolon) = refl
begun_of-tokens_with begun.Quote (form.Mark _) = refl
begun_of-tokens_with begun.Quote _ = refl
begun_of-tokens_with begun.Quoted (form.Mark mark.Backquote) = refl
begun_of-tokens_with begun.Quoted (form.Mark mark.Semicolon) = refl
begun_of-tokens_with begun.Quoted (form.Mark _) = refl
begun_of-tokens_with begun.Quoted _ = refl
begun_of-tokens_with begun.Other (form.Mark mark.Semicolon) = refl
begun_of-tokens_with begun.Other (form.Mark _) = refl
begun_of-tokens_with begun.Other _ = refl

-- the stack with an entry at place i, seen from above
stack_of-set : (xs : List Standing) (i : ℕ) (e : Standing) → i < length xs → stack_of (set xs i e) ≡ stack_of (drop (i + 1) xs) ++ entry_of e ∷ stack_of (take i xs)
stack_of-set xs i e lt =
    ap stack_of (sym (take-append-drop (i + 1) (set xs i e)) ∙ (λ j. take_more_set xs i e lt j ++ drop-set-lt (i + 1) xs i e (omega arith) j))
    ∙ stack_of-append (take i xs ++ e ∷ []) (drop (i + 1) xs)
    ∙ ap (λ s. stack_of (drop (i + 1) xs) ++ s) (stack_of-append (take i xs) (e ∷ []))

-- the entries up to place i, seen from above
stack_of-take : (xs : List Standing) (i : ℕ) (e d : Standing) → i < length xs → get_or xs i d ≡ e → stack_of (take (suc i) xs) ≡ entry_of e ∷ stack_of (take i xs)
stack_of-take xs i e d lt is =
    ap stack_of (take-suc xs i d lt ∙ ap (λ x. take i xs ++ x ∷ []) is) ∙ stack_of-append (take i xs) (e ∷ [])

-- what is noted below the entries that were passed
stack_noting-plain : (what : Form) (xs : List Standing) (i : ℕ) → stack_noting what (stack_of xs) ≡ stack_of (drop i xs) ++ stack_noting what (stack_of (take i xs))
    → plain_stack (stack_noting what (stack_of xs)) ≡ stack_of (drop i xs) ++ plain_stack (stack_noting what (stack_of (take i xs)))
stack_noting-plain what xs i left =
    ap plain_stack left ∙ map-append plain (stack_of (drop i xs)) (stack_noting what (stack_of (take i xs)))
    ∙ ap (λ s. s ++ plain_stack (stack_noting what (stack_of (take i xs)))) (plain-stack_of (drop i xs))

pub stack_noting-block : (what : Form) (xs ys : List Standing) (i column : ℕ) (state new : Begun) (d : Standing) → 0 < i → i ≤ length ys → get_or xs (i - 1) d ≡ standing.Block column state → xs ≡ ys → new ≡ state_with state what
    → stack_noting what (stack_of xs) ≡ stack_of (drop i xs) ++ stack_noting what (stack_of (take i xs)) → stack_of (set xs (i - 1) (standing.Block column new)) ≡ plain_stack (stack_noting what (stack_of ys))
stack_noting-block what xs ys zero column state new d some fits is same goes left = absurd (omega arith)
stack_noting-block what xs ys (suc i) column state new d some fits is same goes left =
    let e : suc i - 1 ≡ i = omega arith in
    let lt : i < length xs = omega (arith, ap length same) in
    let top = stack_of-take xs i (standing.Block column state) d lt (ap (λ k. get_or xs k d) (sym e) ∙ is) in
    ap (λ k. stack_of (set xs k (standing.Block column new))) e
    ∙ stack_of-set xs i (standing.Block column new) lt
    ∙ ap (λ s. stack_of (drop (i + 1) xs) ++ Block column (sample s) ∷ stack_of (take i xs)) (goes ∙ sym (begun_of-tokens_with state what))
    ∙ ap (λ k. stack_of (drop k xs) ++ Block column (sample (begun_of (tokens_with what (sample state)))) ∷ stack_of (take i xs)) (add-one i)
    ∙ ap (λ s. stack_of (drop (suc i) xs) ++ Block column (sample (begun_of (tokens_with what (sample state)))) ∷ s) (sym (plain-stack_of (take i xs)))
    ∙ ap (λ s. stack_of (drop (suc i) xs) ++ plain_stack (stack_noting what s)) (sym top)
    ∙ sym (stack_noting-plain what xs (suc i) left)
    ∙ ap (λ s. plain_stack (stack_noting what (stack_of s))) same

-- where nothing is noted the stack stays
stack_noting-nothing : (what : Form) (xs : List Standing) (i : ℕ) → stack_noting what (stack_of (take i xs)) ≡ stack_of (take i xs) → stack_noting what (stack_of xs) ≡ stack_of (drop i xs) ++ stack_noting what (stack_of (take i xs))
    → stack_of xs ≡ plain_stack (stack_noting what (stack_of xs))
stack_noting-nothing what xs i none left =
    ap stack_of (sym (take-append-drop i xs)) ∙ stack_of-append (take i xs) (drop i xs)
    ∙ ap (λ s. stack_of (drop i xs) ++ s) (sym (plain-stack_of (take i xs)) ∙ ap plain_stack (sym none))
    ∙ sym (stack_noting-plain what xs i left)

pub stack_noting-brace : (what : Form) (xs ys : List Standing) (i : ℕ) (d : Standing) → 0 < i → i ≤ length ys → get_or xs (i - 1) d ≡ standing.Brace → xs ≡ ys
    → stack_noting what (stack_of xs) ≡ stack_of (drop i xs) ++ stack_noting what (stack_of (take i xs)) → stack_of xs ≡ plain_stack (stack_noting what (stack_of ys))
stack_noting-brace what xs ys zero d some fits is same left = absurd (omega arith)
stack_noting-brace what xs ys (suc i) d some fits is same left =
    let e : suc i - 1 ≡ i = omega arith in
    let top = stack_of-take xs i standing.Brace d (omega (arith, ap length same)) (ap (λ k. get_or xs k d) (sym e) ∙ is) in
    stack_noting-nothing what xs (suc i) (ap (stack_noting what) top ∙ sym top) left ∙ ap (λ s. plain_stack (stack_noting what (stack_of s))) same

pub stack_noting-none : (what : Form) (xs ys : List Standing) (i : ℕ) → i ≤ 0 → xs ≡ ys → stack_noting what (stack_of xs) ≡ stack_of (drop i xs) ++ stack_noting what (stack_of (take i xs)) → stack_of xs ≡ plain_stack (stack_noting what (stack_of ys))
stack_noting-none what xs ys zero none same left = stack_noting-nothing what xs 0 refl left ∙ ap (λ s. plain_stack (stack_noting what (stack_of s))) same
stack_noting-none what xs ys (suc i) none same left = absurd (omega arith)
