use Rattle.std.proofs.Common.{◌≡◌, true, take}
use Rattle.cu_lex.specs.Decoding.{begins_text}
use Rattle.cu_lex.proofs.decoding.fault_offset.Given as goal

abbrev pub invariant-loop-end : goal.invariant-loop-end
invariant-loop-end l = begins_text (take l.end l.bytes) ≡ true
