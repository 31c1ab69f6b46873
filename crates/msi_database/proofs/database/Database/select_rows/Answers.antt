use Rattle.msi_database.proofs.database.Database.select_rows.Goals as goal

pub returns-clause-kind : goal.returns-clause-kind
returns-clause-kind c = rw (← c.self.view_is) (rw (← c.self.view_is) at c.select_rows.ensures.kind)

pub returns-clause-ok : goal.returns-clause-ok
returns-clause-ok c = rw (← c.self.view_is) (rw (← c.self.view_is) at c.select_rows.ensures.ok)
