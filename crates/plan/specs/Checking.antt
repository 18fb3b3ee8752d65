-- Steps of code, for the contracts of building blocks that the writer calls; no statement of the demands speaks of them. A row's checks, and the kinds seen so far: 1024 words, a bit for each kind. (FORMAT 9)
use Rattle.std.specs.Prelude.{ℕ, ◌/◌, ◌%◌, ◌^◌, Bool, cond, ◌||◌, List, bit_or, nat_lt, slice_index, slice_set}
use Rattle.bits.specs.Bit.{bit}
use Rattle.model.specs.Layout.{has_ecc}
use Rattle.model.specs.Refusals.{Verdict, bad_plan, duplicate_region, ◌then◌, refuse_if}
use Rattle.plan.specs.declared.rows.Row.{Row}

-- the mark of kind k
unfoldable pub marked : List ℕ → ℕ → Bool
marked seen k = bit (slice_index seen (k / 64)) (k % 64)

unfoldable pub with_mark : List ℕ → ℕ → List ℕ
with_mark seen k = slice_set seen (k / 64) (bit_or (slice_index seen (k / 64)) (2 ^ (k % 64)))

abbrev pub bad_row : Row → Bool
bad_row r = nat_lt 0x7FFF r.kind || nat_lt 7 r.flags

-- what row i is refused for, where these kinds were seen before it
unfoldable pub row_verdict : List ℕ → ℕ → Row → Verdict
row_verdict seen i r =
    refuse_if (bad_row r) bad_plan i then
    refuse_if (marked seen r.kind) duplicate_region r.kind

-- a row's region, and its plane if it has one
abbrev pub regions_of : ℕ → ℕ
regions_of flags = cond (has_ecc flags) 2 1
