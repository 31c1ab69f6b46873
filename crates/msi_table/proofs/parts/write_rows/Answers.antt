use Rattle.msi_table.proofs.parts.write_rows.Goals as goal

pub returns : goal.returns
returns c = record {
  ok = rw (← c.is_long.ensures, ← c.columns.ensures.columns) c.write_rows.ensures.ok;
  reads_back = rw (← c.is_long.ensures, ← c.columns.ensures.columns) c.write_rows.ensures.reads_back;
  kind = c.write_rows.ensures.kind;
}
