use Rattle.std.proofs.Common.{arith, ◌≤◌, length, rules}
use Rattle.msi_recode.specs.Readers.{page_of}
use Rattle.msi_recode.proofs.RecodedLemmas.{put_made}
use Rattle.msi_recode.proofs.pool.RecodedPool.push_place.Goals as goal

pub returns-clause-ok : goal.returns-clause-ok
returns-clause-ok c =
    put_made (page_of c.args.reader.now) c.args.entry.now c.args.bytes.now c.in_ok-text.text.bytes.items c.split_at.result.0.now c.split_at.result.1.now
    c.args.self.now.entries.items c.args.self.now.texts.items c.push_entry.new.held.items c.extend_from_slice.new.self.items
    (search rules) (search rules) (search rules) (search rules) (search rules) (search rules) (search rules) (search rules) (search rules)
