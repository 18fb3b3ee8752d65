-- The model's reading of each answer. (FORMAT 6)
use Rattle.std.specs.Prelude.{ℕ, Option, option_map, Result, Ok, Err}
use Rattle.model.specs.Views.{Range, range, Span, span, no_span}
use Rattle.error.specs.declared.Refusal.{Refusal}
use Rattle.error.specs.Refused.{number_of, detail_of}
use Rattle.tables.specs.declared.Place.{Place}

abbrev pub as_range : Place → Range
as_range r = range r.start r.end

abbrev pub as_span : Result Place Refusal → Span
as_span (Ok r) = span (as_range r)
as_span (Err r) = no_span (number_of r) (detail_of r)

abbrev pub as_place : Option Place → Option Range
as_place = option_map as_range
