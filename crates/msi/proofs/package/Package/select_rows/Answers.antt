use Rattle.msi.proofs.package.Package.select_rows.Goals as goal

pub returns-clause-early : goal.returns-clause-early
returns-clause-early g c = rw (← c.self.view_is) c.select_rows.ensures.early
