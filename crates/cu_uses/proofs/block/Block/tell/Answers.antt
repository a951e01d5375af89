use Rattle.std.proofs.Common.{[], List, map, refl, subst, sym}
use Rattle.std.specs.List.{All}
use Rattle.cu_syntax.specs.declared.name.Name.{Name}
use Rattle.cu_syntax.specs.Owners.{NameIsOf}
use Rattle.cu_uses.specs.Binders.{missing, repeated, texts}
use Rattle.cu_uses.specs.Demands.{Lacks, Repeats}
use Rattle.cu_uses.specs.Gathered.{names_meaning}
use Rattle.cu_uses.specs.Inside.Worlds.{Told}
use Rattle.cu_uses.specs.Telling.{HasTexts}
use Rattle.cu_uses.proofs.BlockLemmas.{block_told}
use Rattle.cu_uses.proofs.block.Block.tell.Goals as goal

pub returns : goal.returns
returns c w ds differ is =
    block_told w ds c.args.self.now c.args.first.now c.tell_repeated.new.first c.tell_repeated-2.new.first c.tell_missing.new.first is
    (subst (λ (xs : List Name). All (NameIsOf w.owner w.names) xs → Told w c.args.first.now (map Repeats (repeated [] (names_meaning w.names xs))) c.tell_repeated.new.first)
    c.as_slice.ensures.value (c.in_ok-tell_repeated.ensures w differ) is.owned.once)
    (subst (λ (xs : List Name). All (NameIsOf w.owner w.names) xs → Told w c.tell_repeated.new.first (map Repeats (repeated [] (names_meaning w.names xs))) c.tell_repeated-2.new.first)
    c.as_slice-2.ensures.value (c.in_ok-tell_repeated-2.ensures w differ) is.signed_owned)
    (subst (λ (xs : List Name). All (NameIsOf w.owner w.names) xs → Told w c.tell_repeated-2.new.first (map Lacks (missing (texts (names_meaning w.names c.args.self.now.names.items)) (names_meaning w.names xs))) c.tell_missing.new.first)
    c.as_slice-4.ensures.value
    (c.tell_missing.ensures w (texts (names_meaning w.names c.args.self.now.names.items))
    (subst (λ (xs : List Name). All (NameIsOf w.owner w.names) xs → HasTexts w.names (texts (names_meaning w.names xs)) c.in_ok-declared.declared)
    c.as_slice-3.ensures.value (c.in_ok-declared.ensures w.owner w.names differ) is.names_owned)) is.signed_owned)
