use Rattle.std.proofs.Common.{◌≡◌, ◌+◌, drop}
use Rattle.std.specs.List.{prefix_len}
use Rattle.std.specs.Ordering.{is_lt}
use Rattle.msi_base.specs.Lists.{list_cmp}
use Rattle.msi_database_storage.proofs.listing.place_of.Given as goal

abbrev pub invariant-loop-i : goal.invariant-loop-i
invariant-loop-i l = prefix_len (λ t. is_lt (list_cmp t.name l.name)) l.tables ≡ l.i + prefix_len (λ t. is_lt (list_cmp t.name l.name)) (drop l.i l.tables)
