-- Values of a program, by their cells.
use Rattle.std.proofs.Common.{◌≡◌, ◌≤◌, Bool, true, false, ◌&&◌, List, [], ◌∷◌, length, Option, None, Some, arith, refl, ap, ap₂, sym, ◌∙◌}
use Rattle.std.specs.List.{list_all}
use Rattle.std.proofs.lemmas.List.Folds.{list_all-append}
use Rattle.cu_calculus.specs.declared.Head.TheVariants as head
use Rattle.std.specs.Option.{is_some}
use Rattle.cu_calculus.specs.Gives.{Claim}
use Rattle.cu_calculus.specs.Match.{Bindings}
use Rattle.cu_calculus.specs.Proof.{are_rising, is_claim_of}
use Rattle.cu_calculus.specs.Program.{Function, Program, arity_in, function_of}
use Rattle.cu_calculus.specs.Shape.{are_of, is_allowed, is_of, takes, takes_more}
use Rattle.cu_calculus.specs.Literal.{is_literal}
use Rattle.cu_calculus.specs.Value as value
use Rattle.cu_calculus.specs.Value.{Value, Values, count, values_of}
use Rattle.cu_values.specs.Cells.{spell, spell_all}
use Rattle.cu_crwl.specs.Inside.CellsOf.{cell_is_of}

and_true : (b : Bool) → (b && true) ≡ b
and_true true = refl
and_true false = refl

mutual
  pub cells_of : (program : Program) (v : Value) → list_all (cell_is_of program) (spell v) ≡ is_of program v
  cells_of program value.Bottom = refl
  cells_of program (value.Variable x) = refl
  cells_of program (value.Literal l) = and_true (is_literal l)
  cells_of program (value.Constructed c vs) = ap (λ b. takes (arity_in program (head.Con c)) (count vs) && b) (all_cells_of program vs)
  cells_of program (value.Partial h vs) = ap (λ b. is_allowed program h && takes_more (arity_in program h) (count vs) && b) (all_cells_of program vs)

  pub all_cells_of : (program : Program) (vs : Values) → list_all (cell_is_of program) (spell_all vs) ≡ are_of program vs
  all_cells_of program value.NoValue = refl
  all_cells_of program (value.MoreValues v vs) =
      list_all-append (cell_is_of program) (spell v) (spell_all vs)
      ∙ ap₂ (λ (a b : Bool). a && b) (cells_of program v) (all_cells_of program vs)

pub are_all_of : (program : Program) (vs : List Value) → list_all (is_of program) vs ≡ are_of program (values_of vs)
are_all_of program [] = refl
are_all_of program (v ∷ vs) = ap (λ b. is_of program v && b) (are_all_of program vs)

pub short_rises : (bindings : Bindings) → length bindings ≤ 1 → are_rising bindings ≡ true
short_rises [] h = refl
short_rises (b ∷ []) h = refl
short_rises (b ∷ c ∷ more) h = absurd (omega arith)

pub claim_known : (program : Program) (f : Function) (claim : Claim) (us : List Value) → Some f ≡ function_of program claim.function → claim.arguments ≡ values_of us
    → is_claim_of program claim ≡ (list_all (is_of program) us && list_all (is_of program) claim.values)
claim_known program f claim us found arguments =
    ap (λ (o : Option Function). (is_some o && are_of program claim.arguments) && list_all (is_of program) claim.values) (sym found)
    ∙ ap (λ (b : Bool). b && list_all (is_of program) claim.values) (ap (are_of program) arguments ∙ sym (are_all_of program us))

pub claim_unknown : (program : Program) (claim : Claim) → None ≡ function_of program claim.function → false ≡ is_claim_of program claim
claim_unknown program claim missing =
    ap (λ (o : Option Function). (is_some o && are_of program claim.arguments) && list_all (is_of program) claim.values) missing
