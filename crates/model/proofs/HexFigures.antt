-- Small texts and readings, by computation. Assumes nothing.
use mathlib.Core.Path.{◌≡◌, refl}
use mathlib.Core.List.{[], ◌∷◌}
use Rattle.model.specs.Refusals.{fine, refuse}
use Rattle.model.specs.Programs.{text, lines}
use Rattle.model.specs.Hex.{digit_of, pairs_of, total, record_bytes, sum_byte, record_line, upper_lines, data_lines, end_line, hex_text, hex_read, read_lines, lines_of, record_on, record_in, record_of_lem, bytes_in, value_of}

no_bytes : hex_text [] ≡ text ":00000001FF\n"
unfolding hex_text data_lines end_line record_line pairs_of digit_of record_bytes sum_byte total lines text
no_bytes = refl

two_bytes : hex_text (171 ∷ 5 ∷ []) ≡ text ":02000000AB054E\n:00000001FF\n"
unfolding hex_text data_lines upper_lines end_line record_line pairs_of digit_of record_bytes sum_byte total lines text
two_bytes = refl

reads : hex_read (text ":02000000aB054e\n:00000001ff\n") 2 ≡ record { verdict = fine; bytes = 171 ∷ 5 ∷ [] }
unfolding hex_read read_lines lines_of record_on record_in record_of_lem bytes_in value_of total text
reads = refl

crossing : hex_read (text ":02000000aB054e\n:0100030000FC\n:00000001ff\n") 2 ≡ record { verdict = refuse 16 2; bytes = 171 ∷ 5 ∷ [] }
unfolding hex_read read_lines lines_of record_on record_in record_of_lem bytes_in value_of total text
crossing = refl

no_end : hex_read (text "") 2 ≡ record { verdict = refuse 15 1; bytes = [] }
unfolding hex_read read_lines lines_of record_on record_in record_of_lem bytes_in value_of total text
no_end = refl

no_room : hex_read (text ":02000000aB054e\n:0200020000FC00\n:00000001ff\n") 3 ≡ record { verdict = refuse 13 0; bytes = 171 ∷ 5 ∷ [] }
unfolding hex_read read_lines lines_of record_on record_in record_of_lem bytes_in value_of total text
no_room = refl
