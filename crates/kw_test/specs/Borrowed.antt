-- The answers of the values that hold bytes, as the numbers that are handed to C.
use Rattle.std.specs.Prelude.{cond, List, [], ◌∷◌, ◌++◌, ℕ, eqb, length, Option}
use Rattle.bits.specs.Bit.{num}
use Rattle.model.specs.Parity.{Outcome}
use Rattle.model.specs.Scan.{Report}
use Rattle.model.specs.Views.{Range, is_table, record_count}
use Rattle.kw_test.specs.Numbers.{word_numbers, count_numbers}
use Rattle.kw_test.specs.Reader.{place_numbers, part_numbers}

-- the bytes and the stride of the table that is made of x and k
abbrev pub table_of : List ℕ → ℕ → List ℕ
table_of x k = cond (is_table (length x) k) x []

abbrev pub stride_of : List ℕ → ℕ → ℕ
stride_of x k = cond (is_table (length x) k) k 0

-- what a table of these bytes and this stride says: how many records, whether none, the stride
abbrev pub table_numbers : List ℕ → ℕ → List ℕ
table_numbers x k = record_count (length x) k ∷ num (eqb (record_count (length x) k) 0) ∷ k ∷ []

-- where a part stands, and the part
abbrev pub part_answer : Option Range → List ℕ → List ℕ
part_answer p x = place_numbers p ++ part_numbers x

-- a plane, a word and a scan
abbrev pub plane_answer : List ℕ → Option Outcome → Report → List ℕ
plane_answer x o r = part_numbers x ++ (word_numbers o ++ count_numbers r)
