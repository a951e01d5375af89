-- The least levels of a program, as levels of the code of its flat program.
use Rattle.std.proofs.Common.{◌≡◌, ℕ, List, [], ap, sym, ◌∙◌, subst}
use Rattle.cu_calculus.specs.Claims.{AreLeastLevels, AreLevels, body_mentions, level_of}
use Rattle.cu_calculus.specs.FlatProgram as flats
use Rattle.cu_calculus.specs.Program.{Body, Program}
use Rattle.cu_calculus.specs.Valid as valid
use Rattle.cu_calculus.specs.Valid.{IsConjunction, IsValid}
use Rattle.cu_calculus.specs.declared.builtin.Special.{Special}
use Rattle.cu_deftree.specs.LoweredProgram.{Flattens}
use Rattle.cu_flat.specs.Layout.{laid_out}
use Rattle.cu_laws.specs.AtLevel.{AreLevelsOf}
use Rattle.cu_theorem.proofs.LeastLevels.{lowest}

conjunction_mentions : (special : Special) (body : Body) → IsConjunction special body → body_mentions body ≡ []
conjunction_mentions special _ (valid.by_rules body x y e) = ap body_mentions e
conjunction_mentions special _ (valid.by_case body x y differ e) = ap body_mentions e

-- the least levels of a program, as levels of the code of its flat program
pub levels_of_code : (program flat : Program) (levels : List ℕ) → IsValid program → Flattens program flat → AreLeastLevels program levels
    → AreLevels flat levels → flats.program_of (laid_out flat) ≡ flat → AreLevelsOf (laid_out flat) levels
levels_of_code program flat levels ok flattens least are same =
    let both = ok.special.both in
    let low : level_of levels program.special.both ≡ 0 =
    lowest program levels program.special.both.0 both.0 least both.1 (conjunction_mentions program.special both.0.body both.3) in
    record {
      are_levels = subst (λ (p : Program). AreLevels p levels) (sym same) are;
      conjunction = ap (λ (s : Special). level_of levels s.both) flattens.special ∙ low;
    }
