-- Each term before lifting is one of its variants, and what the tests on terms say of those that they don't look for.
use Rattle.std.proofs.Common.{◌≡◌, ℕ, ◌<◌, ◌≤◌, Bool, false, true, List, [], ◌∷◌, length, None, Option, arith, refl, sym, ◌∙◌}
use Rattle.std.specs.declared.alloc.Global.{Global}
use Rattle.std.specs.declared.boxed.Box.{Box}
use Rattle.std.specs.declared.vec.Vec.{Vec}
use Rattle.cu_calculus.specs.declared.ConId.{ConId}
use Rattle.cu_calculus.specs.declared.Lit.{Lit}
use Rattle.cu_calculus.specs.declared.Mode.{Mode}
use Rattle.cu_calculus.specs.declared.builtin.Special.{Special}
use Rattle.cu_kernel.specs.LocalTermsOf.{local_alternatives_of, local_term_of, local_term_of-Apply, local_term_of-Case, local_term_of-Free, local_term_of-Let, local_term_of-Lit, local_term_of-Or, local_term_of-Part, local_term_of-Var, local_term_of-Whole}
use Rattle.cu_kernel.specs.Tests.{is_flex, same_variable}
use Rattle.cu_kernel.specs.declared.local.LocalHead.{LocalHead}
use Rattle.cu_kernel.specs.declared.local.LocalTerm.TheOpen as term_layer
use Rattle.cu_kernel.specs.declared.local.LocalTerm.TheOpen.{LocalTerm-F}
use Rattle.cu_kernel.specs.declared.local.LocalTerm.TheVariants as term
use Rattle.cu_kernel.specs.declared.local.LocalTerm.{LocalTerm, out-LocalTerm, roll-LocalTerm, roll-out-LocalTerm}
use Rattle.cu_kernel.specs.declared.term.Pattern.{Pattern}
use Rattle.cu_parts.specs.Inside.LocalConjunction.{are_local_branches, is_local_constant, is_local_distinction, local_variable}

pub data TermVariant (t : LocalTerm) : Type 0 where
  term_var : (x : ℕ) → t ≡ term.Var x → TermVariant t
  term_lit : (l : Lit) → t ≡ term.Lit l → TermVariant t
  term_whole : (h : LocalHead) (ts : Vec LocalTerm Global) → t ≡ term.Whole h ts → TermVariant t
  term_part : (h : LocalHead) (ts : Vec LocalTerm Global) → t ≡ term.Part h ts → TermVariant t
  term_apply : (f a : Box LocalTerm Global) → t ≡ term.Apply f a → TermVariant t
  term_let : (x : ℕ) (a b : Box LocalTerm Global) → t ≡ term.Let x a b → TermVariant t
  term_free : (x : ℕ) (b : Box LocalTerm Global) → t ≡ term.Free x b → TermVariant t
  term_or : (a b : Box LocalTerm Global) → t ≡ term.Or a b → TermVariant t
  term_case : (m : Mode) (s : Box LocalTerm Global) (rows : Vec (Pattern × LocalTerm) Global) → t ≡ term.Case m s rows → TermVariant t

term_by : (t : LocalTerm) (l : LocalTerm-F LocalTerm) → t ≡ roll-LocalTerm l → TermVariant t
term_by t (term_layer.Var x) e = term_var x (e ∙ term.rolls-Var x)
term_by t (term_layer.Lit l) e = term_lit l (e ∙ term.rolls-Lit l)
term_by t (term_layer.Whole h ts) e = term_whole h ts (e ∙ term.rolls-Whole h ts)
term_by t (term_layer.Part h ts) e = term_part h ts (e ∙ term.rolls-Part h ts)
term_by t (term_layer.Apply f a) e = term_apply f a (e ∙ term.rolls-Apply f a)
term_by t (term_layer.Let x a b) e = term_let x a b (e ∙ term.rolls-Let x a b)
term_by t (term_layer.Free x b) e = term_free x b (e ∙ term.rolls-Free x b)
term_by t (term_layer.Or a b) e = term_or a b (e ∙ term.rolls-Or a b)
term_by t (term_layer.Case m s rows) e = term_case m s rows (e ∙ term.rolls-Case m s rows)

pub term_variant : (t : LocalTerm) → TermVariant t
term_variant t = term_by t (out-LocalTerm t) (sym (roll-out-LocalTerm t))

pub no_variable : (t : LocalTerm) → ((x : ℕ) → t ≡ term.Var x → ⊥) → None ≡ local_variable (local_term_of t)
no_variable t other =
    elim (term_variant t) [
      | term_var x e ↦ absurd (other x e)
      | term_lit l e ↦ rw (e, local_term_of-Lit l) refl
      | term_whole h ts e ↦ rw (e, local_term_of-Whole h ts) refl
      | term_part h ts e ↦ rw (e, local_term_of-Part h ts) refl
      | term_apply f a e ↦ rw (e, local_term_of-Apply f a) refl
      | term_let x a b e ↦ rw (e, local_term_of-Let x a b) refl
      | term_free x b e ↦ rw (e, local_term_of-Free x b) refl
      | term_or a b e ↦ rw (e, local_term_of-Or a b) refl
      | term_case m s rows e ↦ rw (e, local_term_of-Case m s rows) refl
    ]

pub no_constant : (c : ConId) (t : LocalTerm) → ((h : LocalHead) (ts : Vec LocalTerm Global) → t ≡ term.Whole h ts → ⊥) → false ≡ is_local_constant c (local_term_of t)
no_constant c t other =
    elim (term_variant t) [
      | term_var x e ↦ rw (e, local_term_of-Var x) refl
      | term_lit l e ↦ rw (e, local_term_of-Lit l) refl
      | term_whole h ts e ↦ absurd (other h ts e)
      | term_part h ts e ↦ rw (e, local_term_of-Part h ts) refl
      | term_apply f a e ↦ rw (e, local_term_of-Apply f a) refl
      | term_let x a b e ↦ rw (e, local_term_of-Let x a b) refl
      | term_free x b e ↦ rw (e, local_term_of-Free x b) refl
      | term_or a b e ↦ rw (e, local_term_of-Or a b) refl
      | term_case m s rows e ↦ rw (e, local_term_of-Case m s rows) refl
    ]

pub no_distinction : (special : Special) (x y : Option ℕ) (t : LocalTerm)
    → ((m : Mode) (s : Box LocalTerm Global) (rows : Vec (Pattern × LocalTerm) Global) → t ≡ term.Case m s rows → ⊥)
    → false ≡ is_local_distinction special x y (local_term_of t)
no_distinction special x y t other =
    elim (term_variant t) [
      | term_var z e ↦ rw (e, local_term_of-Var z) refl
      | term_lit l e ↦ rw (e, local_term_of-Lit l) refl
      | term_whole h ts e ↦ rw (e, local_term_of-Whole h ts) refl
      | term_part h ts e ↦ rw (e, local_term_of-Part h ts) refl
      | term_apply f a e ↦ rw (e, local_term_of-Apply f a) refl
      | term_let z a b e ↦ rw (e, local_term_of-Let z a b) refl
      | term_free z b e ↦ rw (e, local_term_of-Free z b) refl
      | term_or a b e ↦ rw (e, local_term_of-Or a b) refl
      | term_case m s rows e ↦ absurd (other m s rows e)
    ]

pub few_branches : (special : Special) (y : Option ℕ) (rows : List (Pattern × LocalTerm)) → length rows < 2
    → false ≡ are_local_branches special y (local_alternatives_of rows)
few_branches special y [] few = refl
few_branches special y (a ∷ []) few = refl
few_branches special y (a ∷ b ∷ rows) few = absurd (omega arith)

pub many_branches : (special : Special) (y : Option ℕ) (rows : List (Pattern × LocalTerm)) → 3 ≤ length rows
    → false ≡ are_local_branches special y (local_alternatives_of rows)
many_branches special y [] many = absurd (omega arith)
many_branches special y (a ∷ []) many = absurd (omega arith)
many_branches special y (a ∷ b ∷ []) many = absurd (omega arith)
many_branches special y (a ∷ b ∷ d ∷ rows) many = refl

pub distinction : (special : Special) (x y : Option ℕ) (t : LocalTerm) (m : Mode) (s : Box LocalTerm Global) (rows : Vec (Pattern × LocalTerm) Global) (branches : Bool)
    → t ≡ term.Case m s rows → is_flex m ≡ true → same_variable x (local_variable (local_term_of s.value)) ≡ true
    → branches ≡ are_local_branches special y (local_alternatives_of rows.items) → branches ≡ is_local_distinction special x y (local_term_of t)
distinction special x y t m s rows branches is flex same fits = rw (is, local_term_of-Case m s rows, flex, same) fits
