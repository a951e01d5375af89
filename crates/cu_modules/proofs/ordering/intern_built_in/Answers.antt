use Rattle.cu_modules.proofs.InternLemmas.{all_interned}
use Rattle.cu_modules.proofs.ordering.intern_built_in.Goals as goal

pub returns-clause-built_in : goal.returns-clause-built_in
returns-clause-built_in c =
    all_interned c.intern_all.new.names c.intern_all-2.new.names c.intern_all-3.new.names c.intern_all-4.new.names c.intern_all-5.new.names c.intern_all-6.new.names c.intern_all-6.result
    c.in_ok-intern_all-2.ensures.names c.in_ok-intern_all-3.ensures.names c.in_ok-intern_all-4.ensures.names c.in_ok-intern_all-5.ensures.names c.intern_all-6.ensures.names
    c.in_ok-intern_all.ensures.there c.in_ok-intern_all-2.ensures.there c.in_ok-intern_all-3.ensures.there c.in_ok-intern_all-4.ensures.there c.in_ok-intern_all-5.ensures.there c.intern_all-6.ensures.there
