use Rattle.std.proofs.Common.{append_assoc}
use Rattle.msi_summary_properties.proofs.writing.push_value.Goals as goal

pub returns-in-Empty : goal.returns-in-Empty
returns-in-Empty c = record { ok = rw c.in-Empty.is (rw append_assoc at c.push_typed.ensures.ok); kind = c.push_typed.ensures.kind }

pub returns-in-Null : goal.returns-in-Null
returns-in-Null c = record { ok = rw c.in-Null.is (rw append_assoc at c.push_typed-in-Null.ensures.ok); kind = c.push_typed-in-Null.ensures.kind }

pub returns-in-LpStr : goal.returns-in-LpStr
returns-in-LpStr c = record { ok = rw (c.in-LpStr.is, ← c.as_str.ensures) c.push_string.ensures.ok; kind = c.push_string.ensures.kind }

pub returns-in-FileTime : goal.returns-in-FileTime
returns-in-FileTime c = record { ok = rw c.in-FileTime.is (rw (c.to_le_bytes-in-FileTime.ensures, c.ticks.ensures, append_assoc) at c.push_typed-in-FileTime.ensures.ok); kind = c.push_typed-in-FileTime.ensures.kind }

pub push_string-requires : goal.push_string-requires
push_string-requires c = rw c.as_str.ensures (rw c.in-LpStr.is at c.requires)
