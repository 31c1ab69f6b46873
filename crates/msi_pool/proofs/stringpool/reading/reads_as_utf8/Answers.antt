use Rattle.msi_base.proofs.PagesLemmas.{ascii_reads_as_utf8}
use Rattle.msi_pool.proofs.stringpool.reading.reads_as_utf8.Goals as goal

pub returns-in_default : goal.returns-in_default
returns-in_default c = λ ascii. ascii_reads_as_utf8 c.args.codepage c.args.piece.now (rw ascii at c.is_ascii.ensures.cases)
