-- Steps of code, for the contract of a building block that the writer calls; no statement of the demands speaks of them. The refusals that are left once the rows are fine. (FORMAT 9)
use Rattle.std.specs.Prelude.{ℕ, ◌*◌, not, List, length, ◌==◌, nat_lt}
use Rattle.model.specs.Refusals.{Verdict, bad_plan, too_large_lem, no_room_lem, ◌then◌, refuse_if}
use Rattle.model.specs.Writer.{Row, row_words_lem, image_length}

unfoldable pub sizes_verdict : List Row → List ℕ → ℕ → Verdict
sizes_verdict rs payload room =
    refuse_if (not (length payload == 8 * row_words_lem rs)) bad_plan (length rs) then
    refuse_if (nat_lt 8388608 (image_length rs)) too_large_lem 0 then
    refuse_if (nat_lt room (image_length rs)) no_room_lem 0
