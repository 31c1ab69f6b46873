use Rattle.std.proofs.Common.{◌≡◌, ◌≤◌, ◌+◌, ◌-◌, ◌<◌, ◌^◌, length, take, option_map, IfSome}
use Rattle.msi_container_device.specs.Held.{bytes_told, further}
use Rattle.msi_container_view.proofs.counted.Counted.read_ahead.Given as goal

-- what was read so far are the first bytes ahead, and the place is behind them
abbrev pub invariant-loop-filled : goal.invariant-loop-filled
invariant-loop-filled g l = record {
  within : l.filled ≤ length l.buf;
  read : IfSome l.fn.self.held (λ h. take l.filled l.buf ≡ take l.filled h.ahead);
  held : g.S.Source.held l.self-inside.source ≡ option_map (further l.filled) l.fn.self.held;
  told : bytes_told (g.S.Source.held l.self-inside.source) ≡ bytes_told l.fn.self.held;
  counted : l.fn.self.bytes_read + l.filled < 2 ^ 64 → l.self-inside.bytes_read ≡ l.fn.self.bytes_read + l.filled;
  count : l.self-inside.bytes_read ≤ l.fn.self.bytes_read + l.filled;
}

abbrev pub decreases-loop-filled : goal.decreases-loop-filled
decreases-loop-filled g l = length l.buf - l.filled
