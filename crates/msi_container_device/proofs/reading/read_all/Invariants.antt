use Rattle.std.proofs.Common.{◌≡◌, ◌-◌, ◌^◌, length, take, option_map, IfSome}
use Rattle.msi_container_device.specs.Held.{all_bytes, at_start, bytes_told, further}
use Rattle.msi_container_device.proofs.reading.read_all.Given as goal

-- what was read so far are the first bytes, and the place is behind them
abbrev pub invariant-loop-bytes : goal.invariant-loop-bytes
invariant-loop-bytes g l = record {
  read : IfSome (g.S.Source.held l.fn.source) (λ h. l.bytes.items ≡ take (length l.bytes.items) (all_bytes h));
  held : g.S.Source.held l.source ≡ option_map (λ h. further (length l.bytes.items) (at_start h)) (g.S.Source.held l.fn.source);
  told : bytes_told (g.S.Source.held l.source) ≡ bytes_told (g.S.Source.held l.fn.source);
  failed : g.S.Source.failed l.source ≡ g.S.Source.failed l.fn.source;
  pending : g.S.Source.pending l.source ≡ g.S.Source.pending l.fn.source;
}

abbrev pub decreases-loop-bytes : goal.decreases-loop-bytes
decreases-loop-bytes g l = 2 ^ 63 - length l.bytes.items
