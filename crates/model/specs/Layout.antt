-- The voted header: prologue, directory, their fields. (FORMAT 3)
use Rattle.std.specs.Prelude.{Bool, true, false, not, ◌||◌, List, [], ◌∷◌, ◌++◌, ℕ, zero, suc, ◌+◌, ◌*◌, ◌/◌, ◌^◌, eqb, ltb, drop, Option}
use Rattle.std.specs.Int.Bits.{bit_and, bit_or}
use Rattle.bits.specs.Bit.{bit}
use Rattle.model.specs.Bytes.{at, read, given, tabulate, thrice}

-- ---- the vote

-- each bit is the majority of its three copies (`vote_is_majority` in proofs/)
abbrev pub maj3 : ℕ → ℕ → ℕ → ℕ
maj3 a b c = bit_or (bit_or (bit_and a b) (bit_and a c)) (bit_and b c)

-- the vote over three copies of k bytes that start at base
unfoldable pub voted : ℕ → ℕ → List ℕ → List ℕ
voted base k x = tabulate k (λ j. maj3 (at x (base + j)) (at x (base + k + j)) (at x (base + 2 * k + j)))

-- ---- the prologue: copies at 0, 16, 32

unfoldable pub prologue : List ℕ → List ℕ
prologue x = voted 0 16 x

abbrev pub magic_in : List ℕ → ℕ
magic_in p = read 4 p 0

abbrev pub marker_in : List ℕ → ℕ
marker_in p = read 2 p 4

abbrev pub version_in : List ℕ → ℕ
version_in p = read 2 p 6

unfoldable pub count_in : List ℕ → ℕ
count_in p = read 2 p 8

abbrev pub checksum_in : List ℕ → ℕ
checksum_in p = read 4 p 12

unfoldable pub count : List ℕ → ℕ
count x = count_in (prologue x)

-- ---- the directory: copies from 48 on, each of 16 bytes an entry

abbrev pub header_length : ℕ → ℕ
header_length n = 48 + 48 * n

-- one copy of a directory of n entries, by the vote
unfoldable pub directory_bytes_of : ℕ → List ℕ → List ℕ
directory_bytes_of n x = voted 48 (16 * n) x

unfoldable pub directory_bytes : List ℕ → List ℕ
directory_bytes x = directory_bytes_of (count x) x

pub record Entry : Type 0 where
  pub kind : ℕ
  pub flags : ℕ
  pub offset : ℕ
  pub words : ℕ
  pub covers : ℕ
  pub reserved : ℕ

unfoldable pub entry_of : List ℕ → Entry
entry_of b =
    record {
      kind = read 2 b 0;
      flags = read 2 b 2;
      offset = read 4 b 4;
      words = read 4 b 8;
      covers = read 2 b 12;
      reserved = read 2 b 14;
    }

unfoldable pub entries : ℕ → List ℕ → List Entry
entries zero b = []
entries (suc n) b = entry_of b ∷ entries n (drop 16 b)

unfoldable pub directory_of : ℕ → List ℕ → List Entry
directory_of n x = entries n (directory_bytes_of n x)

unfoldable pub directory : List ℕ → List Entry
directory x = directory_of (count x) x

-- ---- flags: 1 encrypted, 2 has parity, 4 optional, 8 is a parity plane

abbrev pub is_encrypted : ℕ → Bool
is_encrypted flags = bit flags 0

abbrev pub has_ecc : ℕ → Bool
has_ecc flags = bit flags 1

abbrev pub is_optional : ℕ → Bool
is_optional flags = bit flags 2

abbrev pub is_plane : ℕ → Bool
is_plane flags = bit flags 3

-- ---- places in bytes

abbrev pub start : Entry → ℕ
start e = 8 * e.offset

-- the byte after an entry's last
abbrev pub end : Entry → ℕ
end e = 8 * (e.offset + e.words)

-- a byte count in words, rounded up; nothing where 64 bits do not hold n + 7
unfoldable pub words_for : ℕ → Option ℕ
words_for n = given (ltb (n + 7) (2 ^ 64)) ((n + 7) / 8)

-- a header's length; nothing where 64 bits do not hold it
unfoldable pub header_bytes : ℕ → Option ℕ
header_bytes n = given (ltb (header_length n) (2 ^ 64)) (header_length n)

-- ---- scrub wanted: some copy byte differs from its voted byte

-- some byte of the first list differs from the second list's at its place, or the second list ends before it
unfoldable pub differs : List ℕ → List ℕ → Bool
differs [] x = false
differs (v ∷ vs) [] = true
differs (v ∷ vs) (b ∷ bs) = not (eqb v b) || differs vs bs

unfoldable pub prologue_off : List ℕ → Bool
prologue_off x = differs (thrice (prologue x)) x

unfoldable pub directory_off : List ℕ → Bool
directory_off x = differs (thrice (directory_bytes x)) (drop 48 x)

unfoldable pub scrub_wanted : List ℕ → Bool
scrub_wanted x = prologue_off x || directory_off x

-- all header bytes as voted
unfoldable pub header : List ℕ → List ℕ
header x = thrice (prologue x) ++ thrice (directory_bytes x)
