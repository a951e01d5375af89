-- The token is an Int literal below 10.
use Rattle.std.proofs.Common.{rules, []}
use lib.Dec.{T}
use lib.IntN.{nat_abs}
use lib.Signed.{non_neg}
use mir.Syntax.{w32, w128}
use mir.Val.{Fits, SFits}
use Rattle.cu_syntax.specs.SubtreeMeaning.{tree_of}
use Rattle.cu_syntax.proofs.NameLaw.{digit_case, only_digits, small_digit}
use Rattle.cu_syntax.proofs.subtree.Subtree.digit.Goals as goal

pub overflow_cast-result : goal.overflow_cast-result
overflow_cast-result c =
    let fits : SFits w128 c.in-Int.number = search rules in
    digit_case (λ z. T (non_neg z) × Fits w32 (nat_abs z)) c.in-Int.number fits
    (small_digit c.args.self.symbol (tree_of [] c.args.self) c.token.result.now c.in-Int.number c.requires (c.args.self.fits []) (c.token.ensures.token []) c.in-Int.is)
    (λ n small. (tt, search rules))

pub unreachable-requires : goal.unreachable-requires
unreachable-requires c = only_digits c.args.self.symbol (tree_of [] c.args.self) c.token.result.now c.requires (c.args.self.fits []) (c.token.ensures.token []) c.in_default.not-Int
