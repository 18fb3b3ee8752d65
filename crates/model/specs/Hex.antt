-- Intel HEX: the text of a byte string, and the reading of any text. Characters are ASCII codes. (FORMAT 15)
use Rattle.std.specs.Prelude.{Bool, true, false, not, ◌&&◌, ◌||◌, cond, List, [], ◌∷◌, ◌++◌, ℕ, zero, suc, ◌+◌, ◌-◌, ◌*◌, ◌/◌, ◌%◌, eqb, ltb, leb, length, take, drop, Option, None, Some}
use Rattle.model.specs.Refusals.{too_large_lem, no_room_lem, bad_hex_line, hex_gap, Verdict, fine, refuse, ◌then◌, refuse_if}
use Rattle.model.specs.Programs.{lines}

-- ---- a line: a colon, then bytes in pairs of digits

-- the character of a digit from 0 to 15, in upper case
unfoldable pub digit_of : ℕ → ℕ
digit_of d = cond (ltb d 10) (48 + d) (55 + d)

unfoldable pub pairs_of : List ℕ → List ℕ
pairs_of [] = []
pairs_of (b ∷ bs) = digit_of (b / 16) ∷ digit_of (b % 16) ∷ pairs_of bs

unfoldable pub total : List ℕ → ℕ
total [] = 0
total (b ∷ bs) = b + total bs

-- a record's bytes up to its sum: how many data bytes it has, its address, its type, the data
unfoldable pub record_bytes : ℕ → ℕ → List ℕ → List ℕ
record_bytes address type bytes = length bytes ∷ address / 256 ∷ address % 256 ∷ type ∷ bytes

-- the byte with which all of them add up to a multiple of 256
unfoldable pub sum_byte : List ℕ → ℕ
sum_byte bs = (256 - total bs % 256) % 256

unfoldable pub record_line : ℕ → ℕ → List ℕ → List ℕ
record_line address type bytes = 58 ∷ pairs_of (record_bytes address type bytes ++ (sum_byte (record_bytes address type bytes) ∷ []))

abbrev pub data_type : ℕ
data_type = 0

abbrev pub end_type : ℕ
end_type = 1

abbrev pub upper_type : ℕ
upper_type = 4

-- ---- the text of a byte string

-- a type 04 line stands before each further 65,536 bytes
unfoldable pub upper_lines : ℕ → List (List ℕ)
upper_lines a = cond (ltb 0 a && eqb (a % 65536) 0) (record_line 0 upper_type (a / 65536 / 256 ∷ a / 65536 % 256 ∷ []) ∷ []) []

-- n lines of sixteen bytes, fewer on the last, from address a on
unfoldable pub data_lines : ℕ → ℕ → List ℕ → List (List ℕ)
data_lines zero a x = []
data_lines (suc n) a x = upper_lines a ++ (record_line (a % 65536) data_type (take 16 x) ∷ data_lines n (a + 16) (drop 16 x))

unfoldable pub end_line : List ℕ
end_line = record_line 0 end_type []

unfoldable pub hex_text : List ℕ → List ℕ
hex_text x = lines (data_lines ((length x + 15) / 16) 0 x ++ (end_line ∷ []))

-- ---- what a call says, and the bytes that stand at the front of its lent buffer afterwards; behind them the buffer is as it was

pub record Outcome : Type 0 where
  pub verdict : Verdict
  pub bytes : List ℕ

-- ---- writing: a refusal leaves the buffer as it was

unfoldable pub write_verdict : List ℕ → ℕ → Verdict
write_verdict x room = refuse_if (ltb 8388608 (length x)) too_large_lem 0 then refuse_if (ltb room (length (hex_text x))) no_room_lem 0

abbrev pub if_fine : Verdict → List ℕ → List ℕ
if_fine fine t = t
if_fine (refuse n d) t = []

unfoldable pub hex_write : List ℕ → ℕ → Outcome
hex_write x room = record { verdict = write_verdict x room; bytes = if_fine (write_verdict x room) (hex_text x) }

-- ---- reading: a line by itself

-- a digit's value, in either case; nothing for another character
unfoldable pub value_of : ℕ → Option ℕ
value_of c =
    cond (leb 48 c && leb c 57) (Some (c - 48))
    (cond (leb 65 c && leb c 70) (Some (c - 55)) (cond (leb 97 c && leb c 102) (Some (c - 87)) None))

abbrev pub byte_before : Option ℕ → Option ℕ → Option (List ℕ) → Option (List ℕ)
byte_before (Some high) (Some low) (Some bs) = Some ((16 * high + low) ∷ bs)
byte_before (Some high) (Some low) None = None
byte_before (Some high) None bs = None
byte_before None low bs = None

-- the bytes of pairs of digits; nothing where another character stands among them, or one is left over
unfoldable pub bytes_in : List ℕ → Option (List ℕ)
bytes_in [] = Some []
bytes_in (c ∷ []) = None
bytes_in (c ∷ (d ∷ cs)) = byte_before (value_of c) (value_of d) (bytes_in cs)

pub data Record : Type 0 where
  -- an address in the lower half, and at least one byte
  data_record : ℕ → List ℕ → Record
  -- the upper half of the addresses to come
  upper_record : ℕ → Record
  end_record : Record

abbrev pub as_data : ℕ → List ℕ → Option Record
as_data address [] = None
as_data address (b ∷ bs) = Some (data_record address (b ∷ bs))

abbrev pub as_upper : List ℕ → Option Record
as_upper (high ∷ (low ∷ [])) = Some (upper_record (256 * high + low))
as_upper (high ∷ (low ∷ (b ∷ bs))) = None
as_upper (high ∷ []) = None
as_upper [] = None

abbrev pub as_end : List ℕ → Option Record
as_end [] = Some end_record
as_end (b ∷ bs) = None

-- a record of one of the three types; types 04 and 01 need address 0
unfoldable pub record_of_lem : ℕ → ℕ → List ℕ → Option Record
record_of_lem type address bytes =
    cond (eqb type data_type) (as_data address bytes)
    (cond (eqb type upper_type && eqb address 0) (as_upper bytes) (cond (eqb type end_type && eqb address 0) (as_end bytes) None))

-- the record of a line's bytes: as many data bytes as it says, and a right sum
unfoldable pub record_in : List ℕ → Option Record
record_in (n ∷ (high ∷ (low ∷ (type ∷ bs)))) =
    cond (eqb (length bs) (n + 1) && eqb (total (n ∷ high ∷ low ∷ type ∷ bs) % 256) 0) (record_of_lem type (256 * high + low) (take n bs)) None
record_in (n ∷ (high ∷ (low ∷ []))) = None
record_in (n ∷ (high ∷ [])) = None
record_in (n ∷ []) = None
record_in [] = None

abbrev pub record_among : Option (List ℕ) → Option Record
record_among None = None
record_among (Some bs) = record_in bs

-- the record of a line; nothing for a malformed one
unfoldable pub record_on : List ℕ → Option Record
record_on [] = None
record_on (c ∷ cs) = cond (eqb c 58) (record_among (bytes_in cs)) None

-- ---- reading: line by line

-- a line is what stands before a line feed; the rest is what stands behind the last one
pub data Lines : Type 0 where
  rest : List ℕ → Lines
  line : List ℕ → Lines → Lines

abbrev pub before : ℕ → Lines → Lines
before c (rest t) = rest (c ∷ t)
before c (line l ls) = line (c ∷ l) ls

unfoldable pub lines_of : List ℕ → Lines
lines_of [] = rest []
lines_of (c ∷ cs) = cond (eqb c 10) (line [] (lines_of cs)) (before c (lines_of cs))

-- how far a reading is: the number of the line to come, the bytes of the lines before it, the upper half of its address, whether the end line was met
pub record Place : Type 0 where
  pub number : ℕ
  pub bytes : List ℕ
  pub upper : ℕ
  pub ended : Bool

abbrev pub front : Place
front = record { number = 1; bytes = []; upper = 0; ended = false }

-- an address out of place, or a line that crosses a multiple of 65,536
abbrev pub gap : Place → ℕ → List ℕ → Bool
gap p address bytes = not (eqb (65536 * p.upper + address) (length p.bytes)) || ltb 65536 (address + length bytes)

abbrev pub record_verdict : ℕ → Place → Option Record → Verdict
record_verdict room p None = refuse bad_hex_line p.number
record_verdict room p (Some (data_record address bytes)) =
    refuse_if (gap p address bytes) hex_gap p.number then
    refuse_if (ltb room (length p.bytes + length bytes)) no_room_lem 0
record_verdict room p (Some (upper_record u)) = fine
record_verdict room p (Some end_record) = fine

-- text behind the end line is refused, whatever it is
abbrev pub line_verdict : ℕ → Place → Option Record → Verdict
line_verdict room p r = refuse_if p.ended bad_hex_line p.number then record_verdict room p r

abbrev pub after : Place → Option Record → Place
after p None = p
after p (Some (data_record address bytes)) = record { number = p.number + 1; bytes = p.bytes ++ bytes; upper = p.upper; ended = p.ended }
after p (Some (upper_record u)) = record { number = p.number + 1; bytes = p.bytes; upper = u; ended = p.ended }
after p (Some end_record) = record { number = p.number + 1; bytes = p.bytes; upper = p.upper; ended = true }

-- a refusal with the bytes so far, or what comes after
abbrev pub unless_refused : Verdict → List ℕ → Outcome → Outcome
unless_refused fine bytes o = o
unless_refused (refuse n d) bytes o = record { verdict = refuse n d; bytes = bytes }

abbrev pub is_none : List ℕ → Bool
is_none [] = true
is_none (c ∷ cs) = false

-- where no line is left, the end line was met and nothing stands behind the last line feed
unfoldable pub read_lines : ℕ → Place → Lines → Outcome
read_lines room p (rest t) = record { verdict = refuse_if (not (p.ended && is_none t)) bad_hex_line p.number; bytes = p.bytes }
read_lines room p (line l ls) = unless_refused (line_verdict room p (record_on l)) p.bytes (read_lines room (after p (record_on l)) ls)

unfoldable pub hex_read : List ℕ → ℕ → Outcome
hex_read t room = read_lines room front (lines_of t)
