use Rattle.std.proofs.Common.{[], subst, take_all}
use Rattle.std.specs.List.{All, Contains}
use Rattle.cu_modules.specs.Known.{listed_texts}
use Rattle.cu_modules.proofs.InternLemmas.{one_interned}
use Rattle.cu_modules.proofs.ordering.intern_all.Goals as goal

pub texts-preserved : goal.texts-preserved
texts-preserved c =
    one_interned c.args.names.now c.texts.names c.intern.new.self c.args.texts.now c.texts.text-index c.in_ok-intern.field-0.0 (record { ref_ptr = (0, 0); now = [] })
    c.texts-test.true c.in_ok-intern.ensures.names c.in_ok-intern.ensures.id c.texts.invariant

pub returns-clause-there : goal.returns-clause-there
returns-clause-there c = subst (λ texts. All (Contains c.texts.names) (listed_texts texts)) (take_all c.texts.text-index c.args.texts.now c.texts-test.false) c.texts.invariant.1
