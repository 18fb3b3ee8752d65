-- Every demand as a statement: the user's sentence, what it says of the definitions or of a run of a function (specs/Runs.antt), and the work that proves it. Assumes nothing.
-- Those about write, mend, scrub and the program scrub stand again, of the functions' own answers and bytes, in Functions.antt (of `mend_refuses_exactly` the part about 12).
--
--   1. Every input gets an answer. Bad images, plans and sizes are refused by number, and every byte of a lent buffer after a refusal is prescribed.
--      Only the Rust's own scrub may refuse after writing, and then exactly as the Rust does.
--   2. Reader and scrub equal the Rust on every byte string, by runs against it. Parity equals Hsiao's odd-weight-column rule and the checksum IEEE 802.3's CRC-32, by proof.
--      Writer and mend equal the format's rules (docs/FORMAT.md), by proof.
--   3. Any image our writer makes, damaged in at most one of three copies at each header bit and at most one bit among each protected word and its check byte,
--      mends to the writer's exact bytes; mending twice is mending once; no such damaged image comes from two plans or payloads.
--
-- The rule behind them: repair only what two header copies outvote or the parity says is one flipped bit, touch nothing else, and check the image afresh before it is loaded.
use mathlib.Core.Path.{◌≡◌, ap₂}
use mathlib.Core.Bool.{Bool, true, false}
use mathlib.Core.List.{List, [], ◌∷◌, ◌++◌}
use mathlib.Core.Logic.{◌⊎◌}
use Rattle.std.specs.Prelude.{Option, None, Result, Ok, Err}
use Prim.Native.Nat.{ℕ, ◌+◌, ◌*◌, ◌/◌, ◌^◌, ◌≤◌, ◌<◌}
use lib.Bits.{bit_xor}
use lib.Dec.{ltb}
use lib.ListN.{length, get_or, drop}
use Rattle.bits.specs.Bit.{bit}
use Rattle.bits.specs.Vote.{wrong, Majority}
use Rattle.model.specs.Bytes.{at, word_at, Bytes}
use Rattle.model.specs.Refusals.{fine, refuse, overlapping_regions}
use Rattle.model.specs.Layout.{maj3, voted, count, header_length, header, directory, scrub_wanted}
use Rattle.model.specs.Crc.{Crc32, crc32}
use Rattle.model.specs.Parse.{parse, header_of, accepted, refused}
use Rattle.model.specs.Parity.{hsiao, columns, is_odd_lem, check_of, flipped, uncorrectable, flip_word, flip_check, decode}
use Rattle.model.specs.Scan.{Report, scan}
use Rattle.model.specs.Scrub.{scrub}
use Rattle.model.specs.Writer.{planes, plan_image, image_length, plan_verdict, image, write}
use Rattle.model.specs.Writer as plan
use Rattle.model.specs.Mend.{LaidApart, FirstMisplaced, MendRule, mend_bytes, changed, whole, mended, refused_mend, mend, placement}
use Rattle.model.specs.Placement.{TrueOf}
use Rattle.model.specs.Programs.{stored_line, lines, scrub_image, scrub_text}
use Rattle.model.proofs.FigureTable as figure
use Rattle.model.proofs.LayoutLaw as layout
use Rattle.model.proofs.CrcDivision as crc
use Rattle.model.proofs.CrcUnique as crc-unique
use Rattle.model.proofs.ParityLaw as parity
use Rattle.lemmas.proofs.MendLaw.{one_result}
use Rattle.lemmas.proofs.PlacementLaw as placed
use Rattle.error.specs.Refused.{number_of, detail_of}
use Rattle.error.specs.declared.Refusal.{Refusal}
use Rattle.error.proofs.OneAnswer.{one_refusal}
use Rattle.plan.specs.declared.rows.Row.{Row}
use Rattle.plan.specs.Rows.{as_plan}
use Rattle.theorems.specs.Damage.{Protected, bits_off, Damaged, Touched, Uncorrectable, uncorrected, ReadsBack}
use Rattle.theorems.specs.Runs.{Writes, MendsTo, ScrubsTo}
use Rattle.theorems.specs.ScrubSteps.{Changes}
use Rattle.theorems.proofs.MendParts.{mends}
use Rattle.theorems.proofs.Command.{scrubbed}
use Rattle.theorems.proofs.DamageLaw.{voted_right}
use Rattle.theorems.proofs.Refuses.{as_parse, only_overlap, overlap_always, else_mends}
use Rattle.theorems.proofs.Restores.{restored, one_source, whole_or_kept}
use Rattle.theorems.proofs.RunLaw as run
use Rattle.theorems.proofs.ScrubTouches.{only_met}
use Rattle.theorems.proofs.Settles.{settles_down, fresh, scrub_same}
use Rattle.theorems.proofs.Touches.{only_touched}
use Rattle.theorems.proofs.ReadsBack.{read_back}
use Rattle.theorems.proofs.Sample.{sample_rows, sample_payload, sample, sample_written, every_hit, hit_allowed, hit_header, hit_words, two_bits, two_bits_excluded, two_copies, two_copies_excluded}
use Rattle.ecc.specs.declared.EccReport.{EccReport}
use Rattle.mending.specs.declared.Mending.{Mending}

-- ==== Demand 1. "Every input gets an answer."
-- There is nothing to state: a function that does not end, or that some input can stop, is not built. No public function has a `requires` but the
-- building blocks that docs/PROMISES.md lists, whose callers are proved to meet it. What each answers is its contract (docs/PROMISES.md).

-- "Refused by number": number and detail name the refusal.
pub refused_by_number : (a b : Refusal) → number_of a ≡ number_of b → detail_of a ≡ detail_of b → a ≡ b
refused_by_number a b n d = one_refusal a b (ap₂ refuse n d)

-- "Every byte of a lent buffer after a refusal is prescribed." A refused mend leaves every byte as it was.
pub refused_mend_lem : (x : List ℕ) (r : Refusal) (y : List ℕ) → MendsTo x (Err r) y → y ≡ x
refused_mend_lem = run.mend_refused

-- A refused plan leaves every byte of the output as it was.
pub refused_plan_lem : (rows : List Row) (payload out : List ℕ) (r : Refusal) (after : List ℕ) → Writes rows payload out (Err r) after → after ≡ out
refused_plan_lem = run.plan_refused

-- A scrub of an image that parse refuses says nothing and leaves every byte as it was.
pub refused_scrub : (x : List ℕ) (n d : ℕ) → parse x ≡ refused n d → (r : Option EccReport) (y : List ℕ) → ScrubsTo x r y → (r ≡ None) × (y ≡ x)
refused_scrub = run.scrub_refused

-- "Only the Rust's own scrub may refuse after writing": where scrub says nothing, every byte is as it was, or the bytes that it left are refused by parse.
pub scrub_exception : (x : List ℕ) (y : List ℕ) → ScrubsTo x None y → (y ≡ x) ⊎ ((n : ℕ) × (d : ℕ) × (parse y ≡ refused n d))
scrub_exception = run.scrub_says_nothing

-- ==== Demand 2. "Reader and scrub equal the Rust on every byte string, by runs against it": host/compare, and tests/answers where the Rust is not at hand.

-- "Parity equals Hsiao's odd-weight-column rule": the 72 columns are the bytes with three ones in ascending order, the first eight with five, and the eight with one.
pub columns_rule : columns ≡ hsiao
columns_rule = parity.columns_rule

-- They are all different, and each has an odd number of ones.
pub columns_distinct : (i j : ℕ) → i < 72 → j < 72 → get_or columns i 0 ≡ get_or columns j 0 → i ≡ j
columns_distinct = parity.columns_differ

pub columns_odd : (i : ℕ) → i < 72 → is_odd_lem (get_or columns i 0) ≡ true
columns_odd = parity.column_odd

-- The check byte is the exclusive-or of the columns of the set bits (`check_of`): it is 0 where none is set, and flipping data bit i moves it by column i.
pub check_of_none : check_of 0 ≡ 0
check_of_none = (figure.figures).0

pub check_linear : (w i : ℕ) → i < 64 → check_of (bit_xor w (2 ^ i)) ≡ bit_xor (check_of w) (get_or columns i 0)
check_linear = parity.check_linear

-- Any one flipped bit of the 72 is named, and any two are uncorrectable.
pub single_flip : (w i : ℕ) → i < 72 → decode (flip_word i w) (flip_check i (check_of w)) ≡ flipped i
single_flip = parity.single_flip

pub double_flip : (w i j : ℕ) → i < 72 → j < 72 → (i ≡ j → ⊥) → decode (flip_word j (flip_word i w)) (flip_check j (flip_check i (check_of w))) ≡ uncorrectable
double_flip = parity.double_flip

-- "The checksum is IEEE 802.3's CRC-32", as the remainder of a polynomial; and no other number is.
pub crc_is_802_3 : (message : List ℕ) → Crc32 message (crc32 message)
crc_is_802_3 = crc.crc_is_802_3

pub one_crc : (message : List ℕ) (c c' : ℕ) → Crc32 message c → Crc32 message c' → c ≡ c'
one_crc = crc-unique.one_crc

-- The vote is the majority, bit by bit.
pub vote_is_majority : (a b c : ℕ) → Majority a b c (maj3 a b c)
vote_is_majority = layout.vote_is_majority

-- "Mend equals the format's rules." Where it mends, what it leaves meets the rule, and one list alone does; the report is scrub's of the same image,
-- the count that of the positions that changed, and whole said exactly if there is a report with no uncorrectable word.
pub mend_is_the_rule : (x y : List ℕ) (r : Option Report) (k : ℕ) (t : Bool) → Bytes x → mend x ≡ mended y r k t
    → MendRule x y
    × ((z : List ℕ) → MendRule x z → z ≡ y)
    × ((scrub x).report ≡ r)
    × (changed x y ≡ k)
    × (whole x ≡ t)
mend_is_the_rule x y r k t b h =
    let m = mends x y r k t b h in
    (m.rule, λ z q. one_result x z y q m.rule, (scrub_same x y r k t b h).0, m.stored, m.is_whole)

-- It refuses as parse does; then with 12 exactly if the image isn't laid apart, and names the first non-empty entry that starts inside the header
-- or shares a byte with an earlier non-empty entry; it mends every other image.
pub mend_refuses_exactly : (x : List ℕ)
    → ((n d : ℕ) → parse x ≡ refused n d → mend x ≡ refused_mend n d)
    × ((i : ℕ) → mend x ≡ refused_mend overlapping_regions i
    → (parse x ≡ accepted (header_of x)) × (LaidApart (count x) (directory x) → ⊥) × FirstMisplaced (count x) (directory x) i)
    × (parse x ≡ accepted (header_of x) → (LaidApart (count x) (directory x) → ⊥) → (i : ℕ) × (mend x ≡ refused_mend overlapping_regions i))
    × (parse x ≡ accepted (header_of x) → LaidApart (count x) (directory x) → mend x ≡ mended (mend_bytes x) (scan x) (changed x (mend_bytes x)) (whole x))
mend_refuses_exactly x = (as_parse x, only_overlap x, overlap_always x, else_mends x)

-- What the check behind refusal 12 names is so: the first misplaced entry with the header that it starts inside, or else with the lowest earlier entry that it shares a byte with.
pub placement_named : (x : List ℕ) → TrueOf x (placement x)
placement_named x = placed.placement_named x

-- "Writer equals the format's rules." A plan that meets no refusal's condition is written: the image at the front of `out`, every byte behind it as it was.
pub writes_exactly : (rows : List Row) (payload out : List ℕ) (r : Result ℕ Refusal) (after : List ℕ) → Writes rows payload out r after
    → plan_verdict (as_plan rows) payload (length out) ≡ fine
    → (r ≡ Ok (image_length (as_plan rows))) × (after ≡ plan_image (as_plan rows) payload ++ drop (image_length (as_plan rows)) out)
writes_exactly = run.plan_written

-- Any other is refused with the number and the detail of the first condition that it meets, and every byte of `out` is as it was.
pub refuses_plan_exactly : (rows : List Row) (payload out : List ℕ) (r : Result ℕ Refusal) (after : List ℕ) → Writes rows payload out r after
    → (n d : ℕ) → plan_verdict (as_plan rows) payload (length out) ≡ refuse n d
    → ((s : Refusal) × (r ≡ Err s) × (number_of s ≡ n) × (detail_of s ≡ d)) × (after ≡ out)
refuses_plan_exactly = run.plan_refuses

-- What it makes reads back: it parses, each row's region hands back its payload, and the scan is clean.
pub written_reads_back : (rs : List plan.Row) (payload : List ℕ) (room : ℕ) (w : List ℕ)
    → write rs payload room ≡ image w → Bytes payload → ReadsBack rs payload w
written_reads_back = read_back

-- ==== Demand 3. The writer's image w of rows rs and a payload, and d, which is w damaged.

-- Where at most one of three copies is wrong at each bit, the vote is right.
pub outvoted : (v d : List ℕ) (base k : ℕ) → Bytes v → Bytes d → length v ≡ k
    → ((j i : ℕ) → j < k → i < 8 → wrong (bit (at v j) i) (bit (at d (base + j)) i) (bit (at d (base + k + j)) i) (bit (at d (base + 2 * k + j)) i) ≤ 1)
    → voted base k d ≡ v
outvoted = voted_right

-- "Mends to the writer's exact bytes", with any damage of the allowed kind. It says whole, unless no row is flagged 2.
pub restores : (rs : List plan.Row) (payload : List ℕ) (room : ℕ) (w d : List ℕ)
    → write rs payload room ≡ image w → Bytes payload → Damaged 1 w d
    → mend d ≡ mended w (scan d) (changed d w) (ltb 0 (planes rs))
restores rs payload room w d written bytes damage = restored rs payload room w written bytes d damage

-- The same of the program scrub: an image of at most 65,536 bytes, so damaged, is written by scrub as the writer's exact bytes (`scrub_image`), with the number of bytes that differed.
pub command_restores : (rs : List plan.Row) (payload : List ℕ) (room : ℕ) (w d : List ℕ)
    → write rs payload room ≡ image w → Bytes payload → Damaged 1 w d → length w ≤ 65536
    → (scrub_image d ≡ w) × (scrub_text d ≡ lines (stored_line (changed d w) ∷ []))
command_restores rs payload room w d written bytes damage short = scrubbed w d damage short (restores rs payload room w d written bytes damage)

-- "Mending twice is mending once": any image x that mend accepts. It leaves bytes y, with a report r, k bytes changed, and whole or not. The second time
-- nothing is corrected and nothing stored; the words, the uncorrectable ones and "whole" are as at first.
pub settles : (x y : List ℕ) (r : Option Report) (k : ℕ) (t : Bool) → Bytes x → mend x ≡ mended y r k t
    → mend y ≡ mended y (uncorrected r) 0 t
settles = settles_down

-- "No such damaged image comes from two plans or payloads."
pub one_origin : (rs rs' : List plan.Row) (payload payload' : List ℕ) (room room' : ℕ) (w w' d : List ℕ)
    → write rs payload room ≡ image w → Bytes payload → write rs' payload' room' ≡ image w' → Bytes payload'
    → Damaged 1 w d → Damaged 1 w' d
    → (rs ≡ rs') × (payload ≡ payload')
one_origin = one_source

-- The damage that is allowed is neither nothing nor everything. On an image of one row of two protected words (proofs/Sample.antt) it allows
-- damage in each of the 144 header bytes at once, and one bit off among each protected word and its check byte.
pub damage_allowed : (write sample_rows sample_payload 168 ≡ image sample)
    × Damaged 1 sample every_hit
    × ((p : ℕ) → p < 144 → at every_hit p ≡ at sample p → ⊥)
    × ((q c : ℕ) → Protected sample q c → bits_off sample every_hit q c ≡ 1)
damage_allowed = (sample_written, hit_allowed, hit_header, hit_words)

-- It excludes two bits off in one word, and one header bit off in two copies.
pub damage_excluded : (Damaged 1 sample two_bits → ⊥) × (Damaged 1 sample two_copies → ⊥)
damage_excluded = (two_bits_excluded, two_copies_excluded)

-- ==== The rule.

-- "Repair only what two header copies outvote or the parity says is one flipped bit, touch nothing else." A byte that mend changes is a header copy's byte
-- that the other two outvote, or the byte of the wrong bit in a word with its check byte whose syndrome is exactly one column; every other byte stays, and the length.
-- Which bits of it change is `mend_is_the_rule`.
pub touches_nothing_else : (x y : List ℕ) (r : Option Report) (k : ℕ) (t : Bool) → Bytes x → mend x ≡ mended y r k t
    → (length y ≡ length x) × ((p : ℕ) → (at y p ≡ at x p → ⊥) → Touched x p)
touches_nothing_else x y r k t b h = let m = mends x y r k t b h in (m.rule.size, only_touched x y b m.rule)

-- "Check the image afresh before it is loaded." What mend leaves parses to the same header and directory with no scrub wanted, is laid apart, and its scan has no corrected word.
-- So the check that a loader has to make passes; that it makes one is the caller's (include/kw.h).
pub fresh_check : (x y : List ℕ) (r : Option Report) (k : ℕ) (t : Bool) → Bytes x → mend x ≡ mended y r k t
    → (parse y ≡ accepted (record { regions = count x; prologue_disagreed = false; directory_disagreed = false }))
    × (scrub_wanted y ≡ false)
    × (header y ≡ header x)
    × (directory y ≡ directory x)
    × LaidApart (count y) (directory y)
    × (scan y ≡ uncorrected r)
fresh_check = fresh

-- ==== Beyond the demands.

-- Let up to two bits be wrong among each protected word and its check byte, the rest as in demand 3. Mend accepts the image and leaves bytes y:
-- if it says whole, they are the writer's; every word it could not correct is still as given, with its check byte; every byte outside those is the writer's.
pub whole_means_whole : (rs : List plan.Row) (payload : List ℕ) (room : ℕ) (w d : List ℕ)
    → write rs payload room ≡ image w → Bytes payload → Damaged 2 w d
    → (y : List ℕ)
    × (mend d ≡ mended y (scan d) (changed d y) (whole d))
    × (whole d ≡ true → y ≡ w)
    × ((q c : ℕ) → Protected w q c → Uncorrectable d q c → (word_at y q ≡ word_at d q) × (at y c ≡ at d c))
    × ((p : ℕ) → ((q c : ℕ) → Protected w q c → Uncorrectable d q c → (q ≡ p / 8 → ⊥) × (c ≡ p → ⊥)) → at y p ≡ at w p)
whole_means_whole rs payload room w d written bytes damage = whole_or_kept rs payload room w written bytes d damage

-- Where mend accepts, scrub's report is mend's, and its bytes are mend's outside the header and the check bytes; there they are as given.
pub scrub_agrees : (x y : List ℕ) (r : Option Report) (k : ℕ) (t : Bool) → Bytes x → mend x ≡ mended y r k t
    → ((scrub x).report ≡ r)
    × (length (scrub x).image ≡ length y)
    × ((p : ℕ) → header_length (count x) ≤ p → ((q c : ℕ) → Protected x q c → c ≡ p → ⊥) → at (scrub x).image p ≡ at y p)
    × ((p : ℕ) → p < header_length (count x) → at (scrub x).image p ≡ at x p)
    × ((q c : ℕ) → Protected x q c → at (scrub x).image c ≡ at x c)
scrub_agrees = scrub_same

-- A byte that scrub changes, of any image, lies at the moment it is changed in a word of a protected region, and the word's syndrome is the column of the data bit
-- that the byte holds. So a plane's byte changes only where a protected region shares it (`inside`).
pub scrub_touches : (x : List ℕ) → Bytes x → (b : ℕ) → (at (scrub x).image b ≡ at x b → ⊥) → Changes x b
scrub_touches = only_met
