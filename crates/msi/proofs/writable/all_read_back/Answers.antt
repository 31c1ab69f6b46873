use Rattle.msi.proofs.writing.WritableLemmas.{both_pass, pool_writable, set_writable}
use Rattle.msi.proofs.writable.all_read_back.Goals as goal

pub returns-clause-exact : goal.returns-clause-exact
returns-clause-exact c = both_pass c.is_writable-are_texts.result c.is_writable-are_properties.result c.is_writable-are_texts.ensures.exact c.is_writable-are_properties.ensures.exact

pub returns-clause-utf8 : goal.returns-clause-utf8
returns-clause-utf8 c = λ pages.
    let both = both_pass c.is_writable-are_texts.result c.is_writable-are_properties.result c.is_writable-are_texts.ensures.exact c.is_writable-are_properties.ensures.exact in
    both.1 (pool_writable c.args.pool.now pages.0 c.is_writable-are_texts.ensures.utf8, set_writable c.args.summary.now pages.1 c.is_writable-are_properties.ensures.utf8)
