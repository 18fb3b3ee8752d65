-- Figures, by computation: the empty plan's image, the 160-byte image, and each refusal number once. Assumes nothing.
use mathlib.Core.Path.{◌≡◌, refl}
use mathlib.Core.Bool.{true, false}
use mathlib.Core.List.{List, [], ◌∷◌, ◌++◌}
use Rattle.std.specs.Prelude.{Some}
use Prim.Native.Nat.{ℕ}
use lib.Count.{ones}
use lib.ListN.{length, set, replicate}
use Rattle.bits.specs.Bit.{bit}
use Rattle.bits.specs.Linear.{xor_columns}
use Rattle.model.specs.Bytes.{read, le_bytes, tabulate, thrice}
use Rattle.model.specs.Refusals.{fine}
use Rattle.model.specs.Crc.{bits_low, sent, serial_r, step_r, crc32}
use Rattle.model.specs.Layout.{voted, prologue, count_in, count, directory_bytes_of, directory_bytes, header, differs, prologue_off, directory_off, entry_of, entries, directory_of, directory, Entry}
use Rattle.model.specs.Parse.{parse, parse_verdict, header_verdict, prologue_verdict, entries_verdict, among, header_of, Parsed, accepted, refused}
use Rattle.model.specs.Views.{table_span, table_verdict, no_span, nth, first_that}
use Rattle.model.specs.Parity.{columns, find, is_odd_lem, class_of, check_of, syndrome, decode, flip_word}
use Rattle.model.specs.Scan.{plane_of, is_protected, visit_of, visits_over, visits, codewords_from, words_of, codewords_in, codewords, total, report, class_at, classes_at, scan_of, scan}
use Rattle.model.specs.Scrub.{scrub, scrub_from, scrub_region, scrub_visits, scrub_words, scrub_word, Scrubbed}
use Rattle.model.specs.Mend.{meets, meets_from, in_header, placement_from, placement, mend_verdict, fix_at, fix_all, mend_bytes, changes_from, changes, changed, mend, MendAnswer, refused_mend, mended}
use Rattle.model.specs.Programs.{text, digits, decimal, field, too_long_line, refused_line, regions_line, ecc_line, stored_line, lines, look, mend_within, report_text, scrub_image, scrub_line, scrub_text}
use Rattle.model.specs.Writer.{Row, row_entries, plane_entry, plane_entries, row_words_lem, planes_words, planes, regions, plan_directory, entry_bytes, entries_bytes, prologue_start, prologue_bytes, checks, plane_bytes, planes_bytes, plan_image, kind_among, rows_verdict, image_length, plan_verdict, write, image, refused_plan}

-- ---- what a figure computes with: a line `unfolding parsing` opens all that this one names

parsing : List ℕ → Parsed
unfolding parse parse_verdict header_verdict prologue_verdict entries_verdict among header_of prologue voted tabulate count count_in read crc32 serial_r step_r sent bits_low bit directory directory_of directory_bytes directory_bytes_of entries entry_of prologue_off directory_off differs
parsing x = parse x

mending : List ℕ → MendAnswer
unfolding parsing mend mend_verdict mend_bytes header placement placement_from meets meets_from in_header codewords visits visits_over visit_of is_protected plane_of first_that codewords_in words_of codewords_from fix_all fix_at class_at decode syndrome check_of columns find is_odd_lem ones class_of xor_columns flip_word le_bytes scan scan_of report classes_at total changed changes changes_from
mending x = mend x

scrubbing : List ℕ → Scrubbed
unfolding mending scrub scrub_from scrub_region nth scrub_visits scrub_words scrub_word
scrubbing x = scrub x

printing : List ℕ → List ℕ
unfolding mending report_text scrub_image scrub_text scrub_line look mend_within lines too_long_line refused_line regions_line ecc_line stored_line field decimal digits text
printing x = report_text x

writing : List Row → List ℕ → List ℕ
unfolding plan_image prologue_bytes prologue_start crc32 le_bytes serial_r step_r sent bits_low bit regions planes plan_directory row_entries plane_entries plane_entry entries_bytes entry_bytes planes_bytes plane_bytes checks check_of columns xor_columns read row_words_lem
writing rs payload = plan_image rs payload

planning : List Row → List ℕ → ℕ → Prim.Unit {0}
unfolding write plan_verdict rows_verdict kind_among regions planes row_words_lem image_length planes_words bit
planning rs payload room = tt

-- ---- the empty plan

empty_image : List ℕ
unfolding writing
empty_image = plan_image [] []

empty_length : length empty_image ≡ 48
unfolding empty_image
empty_length = refl

empty_parses : parse empty_image ≡ accepted (record { regions = 0; prologue_disagreed = false; directory_disagreed = false })
unfolding empty_image parsing
empty_parses = refl

empty_printed : report_text empty_image ≡ text "regions 0 scrub no\necc none\n"
unfolding empty_image printing
empty_printed = refl

-- ---- row (kind 1, flags 2, one word): header 144, payload at word 18, plane at word 19, image 160

one_row : List Row
one_row = record { kind = 1; flags = 2; words = 1 } ∷ []

payload : List ℕ
payload = 1 ∷ 2 ∷ 3 ∷ 4 ∷ 5 ∷ 6 ∷ 7 ∷ 8 ∷ []

unfoldable pub one_image : List ℕ
unfolding one_row payload writing
one_image = plan_image one_row payload

one_written : write one_row payload 160 ≡ image one_image
unfolding one_image planning
one_written = refl

one_length : length one_image ≡ 160
unfolding one_image
one_length = refl

one_parses : parse one_image ≡ accepted (record { regions = 2; prologue_disagreed = false; directory_disagreed = false })
unfolding one_image parsing
one_parses = refl

one_directory : directory one_image ≡
    record { kind = 1; flags = 2; offset = 18; words = 1; covers = 0; reserved = 0 }
    ∷ record { kind = 0x8001; flags = 8; offset = 19; words = 1; covers = 1; reserved = 0 } ∷ []
unfolding one_image parsing
one_directory = refl

-- a bit of the payload flipped, and a byte of a header copy
one_damaged : List ℕ
one_damaged = set (set one_image 146 7) 20 0

one_mends : mend one_damaged ≡ mended one_image (Some (record { words = 1; corrected = 1; uncorrectable = 0 })) 2 true
unfolding one_damaged one_image mending
one_mends = refl

-- the programs' lines
one_printed : report_text one_image ≡ text "regions 2 scrub no\necc 1 0 0\n"
unfolding one_image printing
one_printed = refl

damaged_printed : report_text one_damaged ≡ text "regions 2 scrub yes\necc 1 1 0\n"
unfolding one_damaged one_image printing
damaged_printed = refl

damaged_scrubbed : (scrub_image one_damaged ≡ one_image) × (scrub_text one_damaged ≡ text "stored 2\n")
unfolding one_damaged one_image printing
damaged_scrubbed = (refl, refl)

nothing_printed : report_text [] ≡ text "refused 1 0\n"
unfolding printing
nothing_printed = refl

-- scrub repairs the word, and leaves the header copy
one_scrubs : scrub one_damaged ≡
    record { image = set one_image 20 0; report = Some (record { words = 1; corrected = 1; uncorrectable = 0 }) }
unfolding one_damaged one_image scrubbing
one_scrubs = refl

-- ---- each refusal's number, by its smallest input or nearly so

-- three copies of a prologue with these fields and the right checksum
prologue_with : ℕ → ℕ → ℕ → ℕ → List ℕ
prologue_with magic marker version n =
    let b = le_bytes 4 magic ++ (le_bytes 2 marker ++ (le_bytes 2 version ++ (le_bytes 2 n ++ le_bytes 2 0))) in
    thrice (b ++ le_bytes 4 (crc32 b))

-- an image with these entries and 16 bytes behind the header
image_with : Entry → Entry → List ℕ
image_with e f = prologue_with 0x4B415558 0xFEFF 2 2 ++ (thrice (entries_bytes (e ∷ f ∷ [])) ++ replicate 16 0)

abbrev entry : ℕ → ℕ → ℕ → Entry
entry k o w = record { kind = k; flags = 0; offset = o; words = w; covers = 0; reserved = 0 }

abbrev row : ℕ → ℕ → ℕ → Row
row k f w = record { kind = k; flags = f; words = w }

number_1 : parse (replicate 47 0) ≡ refused 1 0
unfolding parsing
number_1 = refl

number_2 : parse (replicate 48 0) ≡ refused 2 0
unfolding parsing
number_2 = refl

-- the marker's bytes the other way round
number_3 : parse (prologue_with 0x4B415558 0xFFFE 2 0) ≡ refused 3 0
unfolding parsing prologue_with le_bytes
number_3 = refl

number_4 : parse (prologue_with 0x4B415558 0xFEFF 3 0) ≡ refused 4 3
unfolding parsing prologue_with le_bytes
number_4 = refl

-- two of three flag bytes set: the vote has it, the checksum does not
number_5 : parse (set (set empty_image 10 1) 26 1) ≡ refused 5 0
unfolding empty_image parsing
number_5 = refl

-- 48 bytes that claim 1025 regions, and 1024
number_6 : parse (prologue_with 0x4B415558 0xFEFF 2 1025) ≡ refused 6 1025
unfolding parsing prologue_with le_bytes
number_6 = refl

number_7 : parse (image_with (entry 1 18 1) (entry 2 99 1)) ≡ refused 7 1
unfolding parsing image_with prologue_with le_bytes entries_bytes entry_bytes
number_7 = refl

-- entry 1 out of bounds that repeats the kind of entry 0 in bounds
number_8 : parse (image_with (entry 1 18 1) (entry 1 99 1)) ≡ refused 8 1
unfolding parsing image_with prologue_with le_bytes entries_bytes entry_bytes
number_8 = refl

number_9 : table_span 8 (entry 1 0 1) 16 ≡ no_span 9 0
unfolding table_span table_verdict
number_9 = refl

-- any payload of the right length: the header is past the limit already
number_11 : (payload : List ℕ) (room : ℕ) → length payload ≡ 8388608 → write (row 1 0 1048576 ∷ []) payload room ≡ refused_plan 11 0
unfolding planning
number_11 payload room e = rw e

-- the second region shares a byte with the first
number_12 : mend (image_with (entry 1 18 2) (entry 2 19 1)) ≡ refused_mend 12 1
unfolding mending image_with prologue_with le_bytes entries_bytes entry_bytes
number_12 = refl

-- a region starts inside the header; an empty one may
on_header_lem : mend (image_with (entry 1 17 1) (entry 2 19 1)) ≡ refused_mend 12 0
unfolding mending image_with prologue_with le_bytes entries_bytes entry_bytes
on_header_lem = refl

empty_on_header : mend_verdict (image_with (entry 1 3 0) (entry 2 18 2)) ≡ fine
unfolding mending image_with prologue_with le_bytes entries_bytes entry_bytes
empty_on_header = refl

number_13 : write (row 5 0 0 ∷ []) [] 95 ≡ refused_plan 13 0
unfolding planning
number_13 = refl

number_14 : write (row 1 0 0 ∷ row 0x8000 0 0 ∷ []) [] 1000 ≡ refused_plan 14 1
unfolding planning
number_14 = refl

-- ---- readings worth knowing

-- an empty plan with a payload is refused with the same pair as a bad row 0
empty_plan_payload : write [] (0 ∷ []) 1000 ≡ refused_plan 14 0
unfolding planning
empty_plan_payload = refl

no_words_lem : List ℕ
unfolding writing
no_words_lem = plan_image (row 1 2 0 ∷ []) []

-- a protected region without words is visited: a report of no words, and whole
no_words : mend no_words_lem ≡ mended no_words_lem (Some (record { words = 0; corrected = 0; uncorrectable = 0 })) 0 true
unfolding no_words_lem mending
no_words = refl
