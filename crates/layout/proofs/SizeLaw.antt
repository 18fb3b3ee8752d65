-- A checked sum is the model's test. Assumes nothing.
use Rattle.std.proofs.Common.{◌≡◌, ℕ, ◌<◌, ap, arith, Option, Some, None}
use Rattle.std.specs.Option.{SomeIff}
use borrow.Author.Tests.{lt-ltb, le-ltb}
use lib.Dec.{ltb}
use Rattle.model.specs.Bytes.{given}

pub given_if : (o : Option ℕ) (n m v : ℕ) → SomeIff o (n < m) v → o ≡ given (ltb n m) v
given_if None n m v h = rw (le-ltb n m (omega (arith, h)))
given_if (Some x) n m v h = rw (lt-ltb n m h.0) (ap Some h.1)
