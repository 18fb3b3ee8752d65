-- The model's reading of each answer. (FORMAT 7)
use Rattle.std.specs.Prelude.{Option, option_map}
use Rattle.model.specs.Scan.{Report}
use Rattle.ecc.specs.declared.EccReport.{EccReport}
use Rattle.ecc.specs.Answers.{as_report}

abbrev pub as_scan : Option EccReport → Option Report
as_scan = option_map as_report
