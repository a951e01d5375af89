use Rattle.std.proofs.Common.{Some, sym, ap}
use Rattle.cu_types.specs.Inside.Grouping.{numbers_of}
use Rattle.cu_types.specs.declared.known.Known.{Known}
use Rattle.cu_types.proofs.known.Known.numbers.Goals as goal

pub returns-in-Nothing : goal.returns-in-Nothing
returns-in-Nothing c = sym (ap (λ (k : Known). numbers_of (Some k)) c.in-Nothing.is)

pub returns-in-Typed : goal.returns-in-Typed
returns-in-Typed c = sym (ap (λ (k : Known). numbers_of (Some k)) c.in-Typed.is)

pub returns-in-Member : goal.returns-in-Member
returns-in-Member c = sym (ap (λ (k : Known). numbers_of (Some k)) c.in-Member.is)
