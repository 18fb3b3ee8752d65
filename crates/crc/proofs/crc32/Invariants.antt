use mathlib.Core.Path.{◌≡◌}
use lib.ListN.{drop}
use Rattle.model.specs.Crc.{all_ones, sent, serial_r}
use Rattle.crc.proofs.crc32.Given as goal

-- `crc::crc32` meets its contract. The invariant: the bytes that are left take the register where it has to go. Assumes nothing.
abbrev pub invariant-loop-byte : goal.invariant-loop-byte
invariant-loop-byte l = serial_r l.crc (sent (drop l.byte-index l.bytes)) ≡ serial_r all_ones (sent l.bytes)
