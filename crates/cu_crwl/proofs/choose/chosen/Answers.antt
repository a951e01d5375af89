use Rattle.cu_calculus.proofs.Choosing.{again_takes_fewer, specialize_takes_fewer}
use Rattle.cu_kernel.specs.Heads.{heads_program}
use Rattle.cu_crwl.specs.Inside.Rows.{rows_meaning}
use Rattle.cu_crwl.specs.declared.choose.Look.TheVariants as look
use Rattle.cu_crwl.proofs.RowLaws.{again_chosen, look_is, specialize_chosen}
use Rattle.cu_crwl.proofs.choose.chosen.Goals as goal

pub loop-values-smaller-in-Again : goal.loop-values-smaller-in-Again
loop-values-smaller-in-Again c =
    let program = heads_program c.args.heads.now in
    again_takes_fewer program (rows_meaning c.loop-values.rows.items) (rows_meaning c.in-Again.fewer.items) c.loop-values.values.items
    (look_is program c.in_ok-one_look.field-0 (look.Again c.in-Again.fewer) c.as_slice.result.now c.as_slice-in-loop-values.result.now
    c.loop-values.rows.items c.loop-values.values.items c.in-Again.is c.in_ok-one_look.ensures c.as_slice.ensures.value c.as_slice-in-loop-values.ensures.value)

pub loop-values-preserved-in-Again : goal.loop-values-preserved-in-Again
loop-values-preserved-in-Again c =
    let program = heads_program c.args.heads.now in
    again_chosen program (rows_meaning c.loop-values.rows.items) (rows_meaning c.in-Again.fewer.items) c.loop-values.values.items _
    (look_is program c.in_ok-one_look.field-0 (look.Again c.in-Again.fewer) c.as_slice.result.now c.as_slice-in-loop-values.result.now
    c.loop-values.rows.items c.loop-values.values.items c.in-Again.is c.in_ok-one_look.ensures c.as_slice.ensures.value c.as_slice-in-loop-values.ensures.value)
    c.loop-values.invariant

pub loop-values-smaller : goal.loop-values-smaller
loop-values-smaller c =
    let program = heads_program c.args.heads.now in
    specialize_takes_fewer program (rows_meaning c.loop-values.rows.items) (rows_meaning c.in-Specialize.fewer.items) c.loop-values.values.items c.in-Specialize.parts.items
    (look_is program c.in_ok-one_look.field-0 (look.Specialize c.in-Specialize.fewer c.in-Specialize.parts) c.as_slice.result.now c.as_slice-in-loop-values.result.now
    c.loop-values.rows.items c.loop-values.values.items c.in-Specialize.is c.in_ok-one_look.ensures c.as_slice.ensures.value c.as_slice-in-loop-values.ensures.value)

pub loop-values-preserved : goal.loop-values-preserved
loop-values-preserved c =
    let program = heads_program c.args.heads.now in
    specialize_chosen program (rows_meaning c.loop-values.rows.items) (rows_meaning c.in-Specialize.fewer.items) c.loop-values.values.items c.in-Specialize.parts.items _
    (look_is program c.in_ok-one_look.field-0 (look.Specialize c.in-Specialize.fewer c.in-Specialize.parts) c.as_slice.result.now c.as_slice-in-loop-values.result.now
    c.loop-values.rows.items c.loop-values.values.items c.in-Specialize.is c.in_ok-one_look.ensures c.as_slice.ensures.value c.as_slice-in-loop-values.ensures.value)
    c.loop-values.invariant
