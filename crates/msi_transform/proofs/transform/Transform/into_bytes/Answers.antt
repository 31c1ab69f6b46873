use Rattle.msi_transform.proofs.ReadBackLemmas.{bytes_read}
use Rattle.msi_transform.proofs.WrittenLemmas.{bytes_hold, no_file}
use Rattle.msi_transform.proofs.transform.Transform.into_bytes.Goals as goal

pub returns-clause-ok : goal.returns-clause-ok
returns-clause-ok c = bytes_hold c.args.self c.in_ok-contents.contents c.write.result c.in_ok-contents.ensures.ok c.write.ensures.holds

pub returns-clause-reads : goal.returns-clause-reads
returns-clause-reads c made =
    bytes_read c.args.self c.in_ok-contents.contents c.write.result made c.in_ok-contents.ensures.writable c.in_ok-contents.ensures.ok c.write.ensures.holds

pub returns-clause-kind : goal.returns-clause-kind
returns-clause-kind c =
    no_file c.args.self c.in_ok-contents.contents c.write.result c.in_ok-contents.ensures.ok c.write.ensures.refused c.write.ensures.kinds
