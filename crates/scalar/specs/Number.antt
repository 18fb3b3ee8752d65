-- What a type of numbers that are stored in n bytes has to keep to.
use Rattle.std.specs.Prelude.{◌≡◌, ◌≤◌, ℕ}

-- the bytes are few, and no two values of the type stand for one number
pub record NumberLaws {A : Type 0} (value : A → ℕ) (n : ℕ) : Type 0 where
  pub few : n ≤ 8
  pub one : (x y : A) → value x ≡ value y → x ≡ y
