use Rattle.std.proofs.Common.{◌≡◌, drop}
use Rattle.cu_prooftext.specs.Inside.Readers.{word_at}
use Rattle.cu_prooftext.proofs.numbers.after_word.Given as goal

-- what is left of the word and of the bytes gives what the whole gives
abbrev pub invariant-loop-wanted : goal.invariant-loop-wanted
invariant-loop-wanted l = word_at (drop l.wanted-index l.word) l.rest ≡ word_at l.word l.bytes
