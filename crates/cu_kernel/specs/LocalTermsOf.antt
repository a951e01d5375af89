-- The term before lifting that the code's boxed term stands for.
use Rattle.std.specs.Prelude.{◌≡◌, ℕ, List, [], ◌∷◌, map, refl}
use Rattle.std.specs.declared.alloc.Global.{Global}
use Rattle.std.specs.declared.boxed.Box.{Box}
use Rattle.std.specs.declared.vec.Vec.{Vec}
use Rattle.std.proofs.Common.{sym, ap, ◌∙◌}
use Rattle.cu_calculus.specs.declared.Lit.{Lit}
use Rattle.cu_calculus.specs.declared.Mode.{Mode}
use Rattle.cu_kernel.specs.LocalTerm as local
use Rattle.cu_kernel.specs.TermsOf.{pattern_of}
use Rattle.cu_kernel.specs.declared.local.LocalHead.{LocalHead}
use Rattle.cu_kernel.specs.declared.local.LocalTerm.TheFolds.{fold-LocalTerm, fold-roll-LocalTerm}
use Rattle.cu_kernel.specs.declared.local.LocalTerm.TheOpen as layer
use Rattle.cu_kernel.specs.declared.local.LocalTerm.TheOpen.{LocalTerm-F}
use Rattle.cu_kernel.specs.declared.local.LocalTerm.TheVariants as boxed
use Rattle.cu_kernel.specs.declared.local.LocalTerm.{LocalTerm}
use Rattle.cu_kernel.specs.declared.term.Pattern.{Pattern}

abbrev local_term_list : List local.LocalTerm → local.LocalTerms
local_term_list [] = local.NoTerm
local_term_list (t ∷ ts) = local.MoreTerms t (local_term_list ts)

abbrev local_alternative_list : List (Pattern × local.LocalTerm) → local.LocalAlternatives
local_alternative_list [] = local.NoAlternative
local_alternative_list (a ∷ rest) =
    local.MoreAlternatives (pattern_of a.0) a.1 (local_alternative_list rest)

-- the term that one layer of the code stands for, where its parts stand for terms
abbrev one_local_term : LocalTerm-F local.LocalTerm → local.LocalTerm
one_local_term (layer.Var x) = local.Variable x
one_local_term (layer.Lit l) = local.Literal l
one_local_term (layer.Whole h ts) = local.Whole h (local_term_list ts.items)
one_local_term (layer.Part h ts) = local.Part h (local_term_list ts.items)
one_local_term (layer.Apply f a) = local.Apply f.value a.value
one_local_term (layer.Let x a b) = local.Let x a.value b.value
one_local_term (layer.Free x t) = local.Free x t.value
one_local_term (layer.Or a b) = local.Or a.value b.value
one_local_term (layer.Case mode t alternatives) =
    local.Case mode t.value (local_alternative_list alternatives.items)

-- the term before lifting that a boxed term stands for
pub local_term_of : LocalTerm → local.LocalTerm
local_term_of = fold-LocalTerm local.LocalTerm one_local_term

-- the terms that a list of boxed terms stands for
abbrev pub local_terms_of : List LocalTerm → local.LocalTerms
local_terms_of [] = local.NoTerm
local_terms_of (t ∷ ts) = local.MoreTerms (local_term_of t) (local_terms_of ts)

-- the alternatives that a list of patterns and boxed terms stands for
abbrev pub local_alternatives_of : List (Pattern × LocalTerm) → local.LocalAlternatives
local_alternatives_of [] = local.NoAlternative
local_alternatives_of (a ∷ rest) =
    local.MoreAlternatives (pattern_of a.0) (local_term_of a.1) (local_alternatives_of rest)

local_term_list_of : (ts : List LocalTerm) → local_term_list (map local_term_of ts)
    ≡ local_terms_of ts
local_term_list_of [] = refl
local_term_list_of (t ∷ ts) = ap (local.MoreTerms (local_term_of t)) (local_term_list_of ts)

abbrev with_local_meaning : Pattern × LocalTerm → Pattern × local.LocalTerm
with_local_meaning a = (a.0, local_term_of a.1)

local_alternative_list_of : (rows : List (Pattern × LocalTerm))
    → local_alternative_list (map with_local_meaning rows) ≡ local_alternatives_of rows
local_alternative_list_of [] = refl
local_alternative_list_of (a ∷ rest) =
    ap (local.MoreAlternatives (pattern_of a.0) (local_term_of a.1))
    (local_alternative_list_of rest)

pub local_term_of-Var : (x : ℕ) → local_term_of (boxed.Var x) ≡ local.Variable x
unfolding local_term_of
local_term_of-Var x =
    ap local_term_of (sym (boxed.rolls-Var x)) ∙ fold-roll-LocalTerm local.LocalTerm one_local_term
    (layer.Var x)

pub local_term_of-Lit : (l : Lit) → local_term_of (boxed.Lit l) ≡ local.Literal l
unfolding local_term_of
local_term_of-Lit l =
    ap local_term_of (sym (boxed.rolls-Lit l)) ∙ fold-roll-LocalTerm local.LocalTerm one_local_term
    (layer.Lit l)

pub local_term_of-Whole : (h : LocalHead) (ts : Vec LocalTerm Global)
    → local_term_of (boxed.Whole h ts) ≡ local.Whole h (local_terms_of ts.items)
unfolding local_term_of
local_term_of-Whole h ts =
    ap local_term_of (sym (boxed.rolls-Whole h ts)) ∙ fold-roll-LocalTerm local.LocalTerm
    one_local_term (layer.Whole h ts)
    ∙ ap (local.Whole h) (local_term_list_of ts.items)

pub local_term_of-Part : (h : LocalHead) (ts : Vec LocalTerm Global)
    → local_term_of (boxed.Part h ts) ≡ local.Part h (local_terms_of ts.items)
unfolding local_term_of
local_term_of-Part h ts =
    ap local_term_of (sym (boxed.rolls-Part h ts)) ∙ fold-roll-LocalTerm local.LocalTerm
    one_local_term (layer.Part h ts)
    ∙ ap (local.Part h) (local_term_list_of ts.items)

pub local_term_of-Apply : (f a : Box LocalTerm Global)
    → local_term_of (boxed.Apply f a) ≡ local.Apply (local_term_of f.value) (local_term_of a.value)
unfolding local_term_of
local_term_of-Apply f a =
    ap local_term_of (sym (boxed.rolls-Apply f a)) ∙ fold-roll-LocalTerm local.LocalTerm
    one_local_term (layer.Apply f a)

pub local_term_of-Let : (x : ℕ) (a b : Box LocalTerm Global)
    → local_term_of (boxed.Let x a b) ≡ local.Let x (local_term_of a.value) (local_term_of b.value)
unfolding local_term_of
local_term_of-Let x a b =
    ap local_term_of (sym (boxed.rolls-Let x a b)) ∙ fold-roll-LocalTerm local.LocalTerm
    one_local_term (layer.Let x a b)

pub local_term_of-Free : (x : ℕ) (t : Box LocalTerm Global)
    → local_term_of (boxed.Free x t) ≡ local.Free x (local_term_of t.value)
unfolding local_term_of
local_term_of-Free x t =
    ap local_term_of (sym (boxed.rolls-Free x t)) ∙ fold-roll-LocalTerm local.LocalTerm
    one_local_term (layer.Free x t)

pub local_term_of-Or : (a b : Box LocalTerm Global)
    → local_term_of (boxed.Or a b) ≡ local.Or (local_term_of a.value) (local_term_of b.value)
unfolding local_term_of
local_term_of-Or a b =
    ap local_term_of (sym (boxed.rolls-Or a b)) ∙ fold-roll-LocalTerm local.LocalTerm one_local_term
    (layer.Or a b)

pub local_term_of-Case : (mode : Mode) (t : Box LocalTerm Global)
    (rows : Vec (Pattern × LocalTerm) Global)
    → local_term_of (boxed.Case mode t rows)
    ≡ local.Case mode (local_term_of t.value) (local_alternatives_of rows.items)
unfolding local_term_of
local_term_of-Case mode t rows =
    ap local_term_of (sym (boxed.rolls-Case mode t rows)) ∙ fold-roll-LocalTerm local.LocalTerm
    one_local_term (layer.Case mode t rows)
    ∙ ap (local.Case mode (local_term_of t.value)) (local_alternative_list_of rows.items)

pub ruleset local_terms_of_variants = (
  local_term_of-Var,
  local_term_of-Lit,
  local_term_of-Whole,
  local_term_of-Part,
  local_term_of-Apply,
  local_term_of-Let,
  local_term_of-Free,
  local_term_of-Or,
  local_term_of-Case,
)
