use Rattle.std.proofs.Common.{◌∙◌, ℕ, Bool, List, length, map, ap, refl, subst, sym}
use Rattle.std.specs.declared.alloc.Global.{Global}
use Rattle.std.specs.declared.vec.Vec.{Vec}
use Rattle.cu_cycles.specs.Graph.{AreOnCycles, IsWhole, rows_in}
use Rattle.cu_names.specs.Texts.{text_of}
use Rattle.cu_declared.specs.Inside.Synonyms.{flagged_faults, kept_by, kept_numbers, row_of}
use Rattle.cu_declared.specs.Inside.Told.{Told, bindings_of}
use Rattle.cu_declared.proofs.CycleLemmas.{cycles_are, rows_many, rows_normal, whole}
use Rattle.cu_declared.proofs.synonyms.tell_cycles.Goals as goal

pub on_cycles-requires : goal.on_cycles-requires
on_cycles-requires c =
    let w = c.requires.0 in
    let are = c.requires.1 in
    let have = c.in_ok-numbers.ensures w.owner w.names are.is_at.differ are.owner_known are.are.owned in
    let kept = kept_numbers 0 (text_of w.names c.args.owner) (map (kept_by w.names) c.args.synonyms.now) in
    let rows = rows_normal w.names (bindings_of w) w.m (text_of w.names c.args.owner) c.args.synonyms.now _ are.owner_text are.are.are (c.in_ok-graph.ensures w kept are.is_at are.are.owned have) in
    subst (λ (g : List (Vec ℕ Global)). IsWhole (rows_in g)) (sym c.as_slice.ensures.value) (whole (bindings_of w) w.m (rows_in c.in_ok-graph.graph.items) rows)

pub tell_all_flagged-requires : goal.tell_all_flagged-requires
tell_all_flagged-requires c =
    let w = c.requires.0 in
    let are = c.requires.1 in
    let have = c.in_ok-numbers.ensures w.owner w.names are.is_at.differ are.owner_known are.are.owned in
    let kept = kept_numbers 0 (text_of w.names c.args.owner) (map (kept_by w.names) c.args.synonyms.now) in
    ap length c.as_slice-2.ensures.value ∙ c.in_ok-flags.ensures.sized ∙ ap (λ (g : List (Vec ℕ Global)). length (rows_in g)) c.as_slice.ensures.value
    ∙ rows_many (row_of kept (bindings_of w)) (kept_by w.names) (rows_in c.in_ok-graph.graph.items) c.args.synonyms.now (c.in_ok-graph.ensures w kept are.is_at are.are.owned have)

pub returns : goal.returns
returns c w are =
    let have = c.in_ok-numbers.ensures w.owner w.names are.is_at.differ are.owner_known are.are.owned in
    let kept = kept_numbers 0 (text_of w.names c.args.owner) (map (kept_by w.names) c.args.synonyms.now) in
    let rows = rows_normal w.names (bindings_of w) w.m (text_of w.names c.args.owner) c.args.synonyms.now _ are.owner_text are.are.are (c.in_ok-graph.ensures w kept are.is_at are.are.owned have) in
    let on = subst (λ (g : List (Vec ℕ Global)). AreOnCycles (rows_in g) c.in_ok-flags.flags.items) c.as_slice.ensures.value c.in_ok-flags.ensures in (
      flagged_faults c.in_ok-flags.flags.items (map (kept_by w.names) c.args.synonyms.now),
      cycles_are (bindings_of w) w.m (rows_in c.in_ok-graph.graph.items) rows w c.in_ok-flags.flags.items on refl refl (map (kept_by w.names) c.args.synonyms.now) are.are.are,
      subst (λ (flags : List Bool). Told w c.args.first.now (flagged_faults flags (map (kept_by w.names) c.args.synonyms.now)) c.tell_all_flagged.new.first) c.as_slice-2.ensures.value
          (c.tell_all_flagged.ensures w are.are.owned),
    )
