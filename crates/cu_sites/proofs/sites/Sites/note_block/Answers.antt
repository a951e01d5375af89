use Rattle.std.proofs.Common.{arith, refl}
use Rattle.cu_sites.proofs.SpotLemmas.{notes_block}
use Rattle.cu_sites.proofs.sites.Sites.note_block.Goals as goal

pub returns : goal.returns
returns c t of =
    notes_block t c.args.self.now (record { nodes = c.args.self.now.nodes; entries = c.args.self.now.entries; blocks = c.push.new.self }) c.in_ok-from_slice.field-0 c.args.ds.now c.len-number.result
    refl refl c.in_ok-push.ensures.items (omega (arith, c.args.self.now.blocks.ok.0, c.len-number.ensures)) c.in_ok-from_slice.ensures.items of
