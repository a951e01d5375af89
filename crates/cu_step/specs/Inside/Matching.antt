-- Which patterns the head of a scrutinee matches.
use Rattle.std.specs.Prelude.{Bool, false}
use Rattle.cu_calculus.specs.Code.{Shallow}
use Rattle.cu_machine.specs.declared.Kind.{Kind}
use Rattle.cu_machine.specs.declared.Kind.TheVariants as kind
use Rattle.cu_machine.specs.Rewrite.{takes_constructor, takes_literal}

-- whether a head of this kind has the literal or the constructor of a pattern
abbrev pub takes_pattern : Kind → Shallow → Bool
takes_pattern (kind.Lit l) pattern = takes_literal l pattern
takes_pattern (kind.Cons c) pattern = takes_constructor c pattern
takes_pattern _ pattern = false
