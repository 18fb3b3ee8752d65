-- Maps of numbers that pass through exclusive-or.
use Rattle.std.specs.Prelude.{◌≡◌, Bool, true, false, List, [], ◌∷◌, ℕ, zero, suc, ◌*◌, ◌/◌}
use Rattle.std.specs.Int.Bits.{bit_xor}
use Rattle.bits.specs.Bit.{bit}

-- c if the bit is set, else 0
abbrev pub pick : Bool → ℕ → ℕ
pick true c = c
pick false c = 0

-- the exclusive-or of the columns of the set bits of w, lowest bit first
unfoldable pub xor_columns : List ℕ → ℕ → ℕ
xor_columns [] w = 0
xor_columns (c ∷ cs) w = bit_xor (pick (bit w 0) c) (xor_columns cs (w / 2))

pub record Linear (f : ℕ → ℕ) : Type 0 where
  pub adds : (a b : ℕ) → f (bit_xor a b) ≡ bit_xor (f a) (f b)

-- f 1, f 2, f 4, .., f (2 ^ (k - 1))
abbrev pub values : (ℕ → ℕ) → ℕ → List ℕ
values f zero = []
values f (suc k) = f 1 ∷ values (λ n. f (n * 2)) k
