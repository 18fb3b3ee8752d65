-- Bytes of an image, read and written. An image is a list of bytes; integers are little-endian; a word is 8 bytes. (FORMAT 1)
use Rattle.std.specs.Prelude.{Bool, true, false, List, [], ◌∷◌, ◌++◌, ℕ, zero, suc, ◌+◌, ◌-◌, ◌*◌, ◌/◌, ◌%◌, ◌<◌, leb, length, get_or, take, drop, Option, None, Some}

-- byte p, 0 past the end
abbrev pub at : List ℕ → ℕ → ℕ
at x p = get_or x p 0

-- the number in the k bytes from p on
unfoldable pub read : ℕ → List ℕ → ℕ → ℕ
read zero x p = 0
read (suc k) x p = at x p + 256 * read k x (suc p)

-- a if the test holds, else nothing
abbrev pub given : {A : Type 0} → Bool → A → Option A
given true a = Some a
given false a = None

-- the number in the k bytes from p on; nothing where they reach past the end
unfoldable pub read_in : ℕ → List ℕ → ℕ → Option ℕ
read_in k x p = given (leb (p + k) (length x)) (read k x p)

-- word q of an image
abbrev pub word_at : List ℕ → ℕ → ℕ
word_at x q = read 8 x (8 * q)

-- the k bytes of a number
unfoldable pub le_bytes : ℕ → ℕ → List ℕ
le_bytes zero v = []
le_bytes (suc k) v = v % 256 ∷ le_bytes k (v / 256)

-- the bytes from start on, up to and without end
abbrev pub part : List ℕ → ℕ → ℕ → List ℕ
part x start end = take (end - start) (drop start x)

-- f 0, f 1, .., f (n - 1)
unfoldable pub tabulate {ℓ} : {A : Type ℓ} → ℕ → (ℕ → A) → List A
tabulate zero f = []
tabulate (suc n) f = f 0 ∷ tabulate n (λ i. f (suc i))

abbrev pub thrice : List ℕ → List ℕ
thrice v = v ++ (v ++ v)

-- every element is a byte
pub record Bytes (x : List ℕ) : Type 0 where
  pub small : (p : ℕ) → at x p < 256
