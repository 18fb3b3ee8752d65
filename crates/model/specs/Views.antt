-- What is asked of an image: entries, parts, records, pools. (FORMAT 6)
use Rattle.std.specs.Prelude.{Bool, not, ◌&&◌, ◌||◌, cond, List, [], ◌∷◌, ℕ, zero, suc, ◌+◌, ◌*◌, ◌/◌, ◌%◌, eqb, ltb, leb, length, Option, None, Some}
use Rattle.model.specs.Bytes.{given, part}
use Rattle.model.specs.Refusals.{region_out_of_bounds, bad_record_stride, Verdict, fine, refuse, ◌then◌, refuse_if}
use Rattle.model.specs.Layout.{header_length, directory_of, is_plane, Entry, start, end}

-- ---- lookups: of bytes x and a count n that stands beside them

-- the entries to look at: none where the bytes are shorter than that count's header
unfoldable pub entries_for : ℕ → List ℕ → List Entry
entries_for n x = cond (ltb (length x) (header_length n)) [] (directory_of n x)

unfoldable pub nth : ℕ → List Entry → Option Entry
nth i [] = None
nth zero (e ∷ es) = Some e
nth (suc i) (e ∷ es) = nth i es

-- the first entry that passes a test
unfoldable pub first_that : (Entry → Bool) → List Entry → Option Entry
first_that t [] = None
first_that t (e ∷ es) = cond (t e) (Some e) (first_that t es)

abbrev pub of_kind : ℕ → Entry → Bool
of_kind k e = eqb e.kind k

-- a plane that covers kind k
abbrev pub plane_for : ℕ → Entry → Bool
plane_for k e = is_plane e.flags && eqb e.covers k

unfoldable pub region_at : ℕ → List ℕ → ℕ → Option Entry
region_at n x i = nth i (entries_for n x)

unfoldable pub find_region : ℕ → List ℕ → ℕ → Option Entry
find_region n x k = first_that (of_kind k) (entries_for n x)

-- ---- a part of the bytes, from start up to and without end

pub record Range : Type 0 where
  pub first : ℕ
  pub past : ℕ

abbrev pub range : ℕ → ℕ → Range
range a b = record { first = a; past = b }

-- the very part of the bytes; empty where the answer is nothing
abbrev pub part_in_lem : List ℕ → Option Range → List ℕ
part_in_lem x None = []
part_in_lem x (Some r) = part x r.first r.past

-- where an entry stands, if there is one and its bytes are all there
abbrev pub place_within : ℕ → Option Entry → Option Range
place_within len None = None
place_within len (Some p) = given (leb (end p) len) (range (start p) (end p))

-- where the plane of a kind stands: the first plane that covers it, if its bytes are all there
unfoldable pub ecc_for : ℕ → List ℕ → ℕ → Option Range
ecc_for n x k = place_within (length x) (first_that (plane_for k) (entries_for n x))

-- a part, or a refusal
pub data Span : Type 0 where
  span : Range → Span
  no_span : ℕ → ℕ → Span

abbrev pub span_as : Verdict → Range → Span
span_as fine r = span r
span_as (refuse n d) r = no_span n d

-- empty if refused
abbrev pub part_of : List ℕ → Span → List ℕ
part_of x (span r) = part x r.first r.past
part_of x (no_span n d) = []

-- ---- bytes request

abbrev pub bounds_verdict : ℕ → Entry → Verdict
bounds_verdict len e = refuse_if (ltb len (end e)) region_out_of_bounds 0

unfoldable pub bytes_span : ℕ → Entry → Span
bytes_span len e = span_as (bounds_verdict len e) (range (start e) (end e))

-- ---- record table

-- 0, or not a multiple of 8
abbrev pub bad_stride : ℕ → Bool
bad_stride stride = eqb stride 0 || not (eqb (stride % 8) 0)

unfoldable pub table_verdict : ℕ → Entry → ℕ → Verdict
table_verdict len e stride =
    refuse_if (bad_stride stride) bad_record_stride 0 then
    bounds_verdict len e then
    refuse_if (not (eqb (8 * e.words % stride) 0)) bad_record_stride 0

unfoldable pub table_span : ℕ → Entry → ℕ → Span
table_span len e stride = span_as (table_verdict len e stride) (range (start e) (end e))

-- so many bytes are a table of this stride
unfoldable pub is_table : ℕ → ℕ → Bool
is_table len stride = not (bad_stride stride) && eqb (len % stride) 0

-- a stride of 0 has no records
unfoldable pub record_count : ℕ → ℕ → ℕ
record_count len stride = cond (eqb stride 0) 0 (len / stride)

-- record i of a table of len bytes is at i * stride
unfoldable pub record_range : ℕ → ℕ → ℕ → Option Range
record_range len stride i = given (ltb 0 stride && leb (i * stride + stride) len) (range (i * stride) (i * stride + stride))

unfoldable pub range_is_forward : ℕ → ℕ → ℕ → ℕ → Bool
range_is_forward records at first count = ltb at first && leb (first + count) records

-- ---- pool: any offset and length that end inside it

unfoldable pub pool_range : ℕ → ℕ → ℕ → Option Range
pool_range len offset size = given (leb (offset + size) len) (range offset (offset + size))
