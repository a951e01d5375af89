use Rattle.std.proofs.Common.{◌≡◌, ◌⊎◌, ◌≤◌, List, None, true, length}
use Rattle.cu_lex.specs.Inside.Chains.{BeginsAt, Reaches}
use Rattle.cu_lex.specs.Located.{Located}
use Rattle.cu_lex.specs.Inside.Scanning.{left, con_id_kind, is_base, IsWord}
use Rattle.cu_lex.proofs.ChainLemmas.{IsBeyond}
use Rattle.cu_lex.proofs.word.qualified_at.Given as goal

abbrev pub invariant-loop-next : goal.invariant-loop-next
invariant-loop-next l = record {
  begins : BeginsAt (left l.start) (left l.base) l.dot;
  word : IsWord (left l.base) l.word.kind (left l.word.end);
  base : is_base l.word.kind ≡ true;
  plain : l.dot ≡ None → l.word.kind ≡ con_id_kind;
  most : (rest : List Located) → Reaches rest (left l.start) → (length (left l.word.end) ≤ length rest) ⊎ IsBeyond l.word.kind (left l.word.end) rest;
}

abbrev pub decreases-loop-next : goal.decreases-loop-next
decreases-loop-next l = length (left l.word.end)
