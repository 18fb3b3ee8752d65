-- Steps of code, for the contracts of building blocks that other crates call; no statement of the demands speaks of them. (FORMAT 5, 7)
use Rattle.std.specs.Prelude.{Bool, true, false, List, [], ◌∷◌, ℕ, ◌+◌, ◌*◌, drop}
use Rattle.model.specs.Layout.{Entry, entry_of, directory_bytes_of}
use Rattle.model.specs.Scan.{Report, Visit}

-- entry i of n voted entries of x
abbrev pub entry_in : ℕ → List ℕ → ℕ → Entry
entry_in n x i = entry_of (drop (16 * i) (directory_bytes_of n x))

-- the counts of two reports together
abbrev pub plus : Report → Report → Report
plus a b =
    record { words = a.words + b.words; corrected = a.corrected + b.corrected; uncorrectable = a.uncorrectable + b.uncorrectable }

abbrev pub no_report : Report
no_report = record { words = 0; corrected = 0; uncorrectable = 0 }

-- whether there is a visit
abbrev pub any_of : List Visit → Bool
any_of [] = false
any_of (v ∷ vs) = true
