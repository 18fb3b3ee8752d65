use mathlib.Core.Path.{◌≡◌}
use Prim.Native.Nat.{◌-◌}
use Rattle.model.specs.Crc.{bits_low, serial_r}
use Rattle.model.proofs.CrcRegister.{run}
use Rattle.crc.proofs.feed.Given as goal

-- `crc::feed` meets its contract. The invariant: the steps that are left take the register where it has to go. Assumes nothing.
abbrev pub invariant-loop : goal.invariant-loop
invariant-loop l = run (8 - l.counter) l.reg ≡ serial_r l.crc (bits_low 8 l.byte)
