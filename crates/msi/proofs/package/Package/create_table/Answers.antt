use Rattle.msi.proofs.package.Package.create_table.Goals as goal

pub returns-clause-ok : goal.returns-clause-ok
returns-clause-ok g c = rw (← c.as_str.ensures, ← c.from_vec.ensures) c.make_table.ensures.ok

pub returns-clause-kind : goal.returns-clause-kind
returns-clause-kind g c = rw (← c.as_str.ensures, ← c.from_vec.ensures) c.make_table.ensures.kind

pub returns-clause-same : goal.returns-clause-same
returns-clause-same g c = c.make_table.ensures.same

pub returns-clause-early : goal.returns-clause-early
returns-clause-early g c = rw (← c.as_str.ensures, ← c.from_vec.ensures) c.make_table.ensures.early
