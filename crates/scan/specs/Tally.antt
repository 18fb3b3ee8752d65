-- Steps of code, for the contracts of building blocks that other crates call; no statement of the demands speaks of them. What a scan, scrub or mend has counted so far: a report, and nothing before the first region that is visited. (FORMAT 7, 8, 10)
use Rattle.std.specs.Prelude.{Bool, true, false, List, ℕ, ◌+◌, ◌^◌, ◌≤◌, Option, None, Some}
use Rattle.model.specs.Bytes.{given}
use Rattle.model.specs.Parity.{Class, Outcome, clean_word, corrected_word, uncorrectable_word}
use Rattle.model.specs.Scan.{Report, report, Visit}
use Rattle.model.specs.Steps.{plus, no_report, any_of}

-- the report on the classes in which the words of some visits were met; nothing without a visit
abbrev pub reported : List Visit → List Class → Option Report
reported vs ks = given (any_of vs) (report ks)

-- two reports together; nothing where neither is there
abbrev pub together : Option Report → Option Report → Option Report
together None b = b
together (Some a) None = Some a
together (Some a) (Some b) = Some (plus a b)

-- the counts, zeros where there is no report
abbrev pub or_zeros : Option Report → Report
or_zeros None = no_report
or_zeros (Some r) = r

-- a region more, which was visited or not: with one that was, there is a report, even without words
abbrev pub marked : Option Report → Bool → Option Report
marked o false = o
marked o true = Some (or_zeros o)

-- one word, by what became of it
abbrev pub report_on : Outcome → Report
report_on (clean_word w) = record { words = 1; corrected = 0; uncorrectable = 0 }
report_on (corrected_word w) = record { words = 1; corrected = 1; uncorrectable = 0 }
report_on uncorrectable_word = record { words = 1; corrected = 0; uncorrectable = 1 }

-- ---- sums that fit

-- no count is larger than that of the words
pub record Bounded (r : Report) : Type 0 where
  pub corrected : r.corrected ≤ r.words
  pub uncorrectable : r.uncorrectable ≤ r.words

-- m words can still be counted below 2^60
pub record Room (m : ℕ) (r : Report) : Type 0 where
  pub words : r.words + m ≤ 2 ^ 60
  pub counts : Bounded r
