-- Steps of code, for the contracts of building blocks that other crates call; no statement of the demands speaks of them. Bytes put into a buffer, and the place right behind them.
use Rattle.std.specs.Prelude.{◌≡◌, List, ℕ, ◌+◌, length}
use Rattle.std.proofs.lemmas.List.Edits.{sets}

-- the buffer `before` with the bytes bs stored from p on is `after`, and `next` is the place behind them
pub record Put (before : List ℕ) (p : ℕ) (bs : List ℕ) (next : ℕ) (after : List ℕ) : Type 0 where
  pub behind : next ≡ p + length bs
  pub stored : after ≡ sets before p bs
  pub long : length after ≡ length before
