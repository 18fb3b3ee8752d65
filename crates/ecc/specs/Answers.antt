-- The model's reading of each answer. (FORMAT 7)
use Rattle.std.specs.Prelude.{Option, option_map}
use Rattle.model.specs.Parity.{Outcome, clean_word, corrected_word, uncorrectable_word}
use Rattle.model.specs.Scan.{Report}
use Rattle.ecc.specs.declared.WordStatus.{WordStatus}
use Rattle.ecc.specs.declared.WordStatus.TheVariants.{Clean, Corrected, Uncorrectable}
use Rattle.ecc.specs.declared.EccReport.{EccReport}

abbrev pub as_outcome : WordStatus → Outcome
as_outcome (Clean w) = clean_word w
as_outcome (Corrected w) = corrected_word w
as_outcome Uncorrectable = uncorrectable_word

abbrev pub as_word : Option WordStatus → Option Outcome
as_word = option_map as_outcome

abbrev pub as_report : EccReport → Report
as_report r = record { words = r.words; corrected = r.corrected; uncorrectable = r.uncorrectable }
