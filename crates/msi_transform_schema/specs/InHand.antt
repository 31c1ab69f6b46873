-- The tables and the rows that describe them, as code has them in hand.
use Rattle.std.specs.FinMap.{entries}
use Rattle.msi_database_changes.specs.Texts.{in_use}
use Rattle.msi_transform_schema.specs.SchemaChanges.{SchemaInHand}
use Rattle.msi_transform_schema.specs.declared.schema.SchemaInHand.{SchemaInHand as Held}

abbrev pub in_hand : Held → SchemaInHand
in_hand s = record {
  tables = entries s.tables;
  listed = entries s.listed;
  described = entries s.described;
  pool = in_use s.pool;
  streams = s.streams.items;
}
