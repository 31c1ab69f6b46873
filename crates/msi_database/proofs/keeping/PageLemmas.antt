-- A database that is kept goes on to be kept under another page.
use Rattle.std.proofs.Common.{Bool, List}
use Rattle.msi_base.specs.declared.codepage.CodePage.{CodePage}
use Rattle.msi_pool.specs.Pool.{Pool}
use Rattle.msi_table.specs.Tables.{TableDef}
use Rattle.msi_database_storage.specs.Streams.{Streams}
use Rattle.msi_database.specs.Keeping.{AreKept}

pub kept_with_page : (pool : Pool) (tables : List TableDef) (streams : Streams) (sound : Bool) (page : CodePage) → AreKept pool tables streams sound → AreKept (record pool { page = page }) tables streams sound
kept_with_page pool tables streams sound page k = record {
  kept = record {
    in_order = k.kept.in_order;
    names = k.kept.names;
    spelled = record { tables = k.kept.spelled.tables; unlisted = k.kept.spelled.unlisted; schema = k.kept.spelled.schema };
    rows = k.kept.rows;
    unlisted = k.kept.unlisted;
    few = k.kept.few;
    counts = k.kept.counts;
    freed = k.kept.freed;
  };
  as_long = k.as_long;
  known = k.known;
}
