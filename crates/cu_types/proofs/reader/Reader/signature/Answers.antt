use Rattle.std.proofs.Common.{sym, subst}
use Rattle.cu_types.proofs.reader.Reader.signature.Goals as goal
use Rattle.cu_types.specs.Inside.Building.{signature_type}
use Rattle.cu_types.specs.Inside.Reading.{Reads, shapes}
use Rattle.cu_types.specs.declared.builtin.Signature.{Signature}

pub returns-in_ok-place-in-Value-clause-read : goal.returns-in_ok-place-in-Value-clause-read
returns-in_ok-place-in-Value-clause-read c =
    subst (λ (s : Signature). Reads (shapes c.args.self.now) (shapes c.simple.new.self) (signature_type s) c.in_ok-place-in-Value.place)
    (sym c.in-Value.is) c.in_ok-place-in-Value.ensures.read

pub returns-in_ok-place-in-Unary-clause-read : goal.returns-in_ok-place-in-Unary-clause-read
returns-in_ok-place-in-Unary-clause-read c =
    subst (λ (s : Signature). Reads (shapes c.args.self.now) (shapes c.unary.new.self) (signature_type s) c.in_ok-place-in-Unary.place)
    (sym c.in-Unary.is) c.in_ok-place-in-Unary.ensures.read

pub returns-in_ok-place-in-Binary-clause-read : goal.returns-in_ok-place-in-Binary-clause-read
returns-in_ok-place-in-Binary-clause-read c =
    subst (λ (s : Signature). Reads (shapes c.args.self.now) (shapes c.binary.new.self) (signature_type s) c.in_ok-place-in-Binary.place)
    (sym c.in-Binary.is) c.in_ok-place-in-Binary.ensures.read
