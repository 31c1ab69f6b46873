use Rattle.msi_container_format.proofs.contents.StreamMap.put_back.Goals as goal

pub returns-in-Some-get_mut : goal.returns-in-Some-get_mut
returns-in-Some-get_mut c = rw c.in-Some.is (rw c.in-Some-get_mut.is at (c.get_mut.follows.holds c.in-Some.bytes))
