use Rattle.std.proofs.Common.{◌<◌, take}
use Rattle.std.specs.Prelude.{◌↔◌, IsTrue}
use Rattle.std.specs.List.{AllByRecursion}
use Rattle.msi_base.specs.Pages.{IsWritable}
use Rattle.msi_pool_places.specs.Pool.{Place, HaveUtf8Texts}
use Rattle.msi_pool.proofs.stringpool.pool.StringPool.is_writable.Given as goal

abbrev pub invariant-loop-at : goal.invariant-loop-at
invariant-loop-at l = record {
  exact : IsTrue l.all ↔ AllByRecursion (λ (p : Place). (0 < p.count) → IsWritable l.self.page p.text) (take l.at l.self.places);
  utf8 : HaveUtf8Texts (take l.at l.self.places);
}
