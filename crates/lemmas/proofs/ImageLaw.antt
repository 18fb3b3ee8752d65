-- The writer's image read back: its directory, its examined words, that its bytes are in order and that mend accepts it. Assumes nothing.
use mathlib.Core.Path.{◌≡◌, refl, sym, ap, ap₂, ◌∙◌, subst}
use mathlib.Core.Bool.{Bool, true, false, cond}
use mathlib.Core.List.{List, [], ◌∷◌, ◌++◌, append_assoc}
use Prim.Native.Nat.{ℕ, zero, suc, ◌+◌, ◌-◌, ◌*◌, ◌≤◌, ◌<◌}
use native.Mathlib.Nat.{sub-le}
use native.Mathlib.Omega.{arith}
use lib.Dec.{ltb, lit<}
use lib.ListN.{length, take, drop, replicate, length-append}
use Rattle.model.specs.Bytes.{at, read, le_bytes, thrice, Bytes}
use Rattle.model.specs.Refusals.{fine}
use Rattle.model.specs.Crc.{all_ones, sent, serial_r, crc32}
use Rattle.model.specs.Layout.{voted, prologue, count_in, count, header_length, directory_bytes_of, directory_bytes, header, Entry, entry_of, entries, directory_of, directory}
use Rattle.model.specs.Parse.{prologue_verdict, parse_verdict}
use Rattle.model.specs.Scan.{visits, Among, codewords_in, codewords}
use Rattle.model.specs.Mend.{mend_verdict}
use Rattle.lemmas.proofs.ApartVerdict.{mend_verdict_lem}
use Rattle.model.specs.Writer.{Row, protected_row, plane_words, row_entry, row_entries, plane_entry, plane_entries, row_words_lem, planes_words, planes, regions, first_word, plan_directory, entry_bytes, entries_bytes, prologue_start, prologue_bytes, checks, plane_bytes, planes_bytes, plan_image, image_length}
use Rattle.model.proofs.BytesLaw.{read_le_bytes, at_left, at_right, length_thrice}
use Rattle.model.proofs.ParseLaw.{good_prologue, entries_say}
use Rattle.model.specs.Steps.{any_of}
use Rattle.lemmas.proofs.HeaderLaw.{voted_copies, copies_first, copies_second}
use Rattle.lemmas.proofs.BytesLow.{bytes_nil, bytes_append, bytes_thrice, bytes_le_bytes}
use Rattle.lemmas.proofs.CodeLaw.{check_low}
use Rattle.lemmas.proofs.EntriesLaw.{EntriesOK, entries_fine}
use Rattle.lemmas.proofs.MendLaw.{InOrder}
use Rattle.lemmas.proofs.PlanLaw.{RowsOK, PlanOK, Packed, packed_append, packed_rows, packed_planes, Before, packed_apart, directory_ok}
use Rattle.lemmas.proofs.PlanCodewords.{visits_plan, codewords_plan, plan_codewords, plan_any, plan_visits, length_planes, checked}

-- ---- entries read back

pub record Fits (e : Entry) : Type 0 where
  pub kind : e.kind < 65536
  pub flags : e.flags < 65536
  pub offset : e.offset < 4294967296
  pub words : e.words < 4294967296
  pub covers : e.covers < 65536
  pub reserved : e.reserved < 65536

entry_back : (e : Entry) (r : List ℕ) → Fits e → entry_of (entry_bytes e ++ r) ≡ e
unfolding entry_of entry_bytes read le_bytes
entry_back e r f =
    λ i.
    record {
      kind = read_le_bytes 2 e.kind [] f.kind i;
      flags = read_le_bytes 2 e.flags [] f.flags i;
      offset = read_le_bytes 4 e.offset [] f.offset i;
      words = read_le_bytes 4 e.words [] f.words i;
      covers = read_le_bytes 2 e.covers [] f.covers i;
      reserved = read_le_bytes 2 e.reserved [] f.reserved i;
    }

pub data AllFit : List Entry → Type 0 where
  nil : AllFit []
  cons : {e : Entry} {es : List Entry} → Fits e → AllFit es → AllFit (e ∷ es)

drop_entry : (e : Entry) (r : List ℕ) → drop 16 (entry_bytes e ++ r) ≡ r
unfolding entry_bytes le_bytes
drop_entry e r = refl

pub entries_back : (es : List Entry) → AllFit es → entries (length es) (entries_bytes es) ≡ es
unfolding entries entries_bytes
entries_back es nil = refl
entries_back es (cons {e = e} {es = fs} f g) =
    ap₂ ◌∷◌ (entry_back e (entries_bytes fs) f) (ap (entries (length fs)) (drop_entry e (entries_bytes fs)) ∙ entries_back fs g)

pub length_entry : (e : Entry) → length (entry_bytes e) ≡ 16
unfolding entry_bytes le_bytes
length_entry e = refl

pub length_entries_bytes : (es : List Entry) → length (entries_bytes es) ≡ 16 * length es
unfolding entries_bytes
length_entries_bytes [] = refl
length_entries_bytes (e ∷ es) = omega (arith, length-append (entry_bytes e) (entries_bytes es), length_entry e, length_entries_bytes es)

pub entries_bytes_append : (xs ys : List Entry) → entries_bytes (xs ++ ys) ≡ entries_bytes xs ++ entries_bytes ys
unfolding entries_bytes
entries_bytes_append [] ys = refl
entries_bytes_append (e ∷ xs) ys =
    ap (λ (l : List ℕ). entry_bytes e ++ l) (entries_bytes_append xs ys) ∙ sym (append_assoc (entry_bytes e) (entries_bytes xs) (entries_bytes ys))

-- ---- the plan's directory

pub length_rows : (a : ℕ) (rs : List Row) → length (row_entries a rs) ≡ length rs
unfolding row_entries
length_rows a [] = refl
length_rows a (r ∷ rs) = ap suc (length_rows (a + r.words) rs)

length_plane_entries : (a : ℕ) (rs : List Row) → length (plane_entries a rs) ≡ planes rs
unfolding plane_entries planes
length_plane_entries a [] = refl
length_plane_entries a (r ∷ rs) = go (λ m. length_plane_entries m rs) (protected_row r)
  where
    go : ((m : ℕ) → length (plane_entries m rs) ≡ planes rs) → (t : Bool)
        → length (cond t (plane_entry a r ∷ plane_entries (a + plane_words r) rs) (plane_entries a rs)) ≡ cond t 1 0 + planes rs
    go f true = let h = f (a + plane_words r) in omega arith
    go f false = let h = f a in omega arith

pub length_directory : (rs : List Row) → length (plan_directory rs) ≡ regions rs
unfolding plan_directory regions
length_directory rs =
    omega (
      arith,
      length-append (row_entries (first_word rs) rs) (plane_entries (first_word rs + row_words_lem rs) rs),
      length_rows (first_word rs) rs,
      length_plane_entries (first_word rs + row_words_lem rs) rs,
    )

fit_append : {es fs : List Entry} → AllFit es → AllFit fs → AllFit (es ++ fs)
fit_append nil g = g
fit_append (cons f h) g = cons f (fit_append h g)

fit_rows : (a : ℕ) (rs : List Row) → RowsOK rs → a + row_words_lem rs < 4294967296 → AllFit (row_entries a rs)
unfolding row_entries row_words_lem
fit_rows a rs RowsOK.nil h = nil
fit_rows a rs (RowsOK.cons {r = r} {rs = ss} k f n o) h =
    cons {e = row_entry a r}
    (record { kind = omega arith; flags = omega arith; offset = omega arith; words = omega arith; covers = lit< tt; reserved = lit< tt })
    (fit_rows (a + r.words) ss o (omega arith))

fit_planes : (a : ℕ) (rs : List Row) → RowsOK rs → a + planes_words rs < 4294967296 → AllFit (plane_entries a rs)
unfolding plane_entries planes_words plane_entry
fit_planes a rs RowsOK.nil h = nil
fit_planes a rs (RowsOK.cons {r = r} {rs = ss} k f n o) h = go (λ m l. fit_planes m ss o l) (protected_row r) h
  where
    go : ((m : ℕ) → m + planes_words ss < 4294967296 → AllFit (plane_entries m ss)) → (t : Bool)
        → a + (cond t (plane_words r) 0 + planes_words ss) < 4294967296
        → AllFit (cond t (plane_entry a r ∷ plane_entries (a + plane_words r) ss) (plane_entries a ss))
    go g true l =
        cons {e = plane_entry a r} (record { kind = omega arith; flags = lit< tt; offset = omega arith; words = omega arith; covers = omega arith; reserved = lit< tt })
        (g (a + plane_words r) (omega arith))
    go g false l = g a (omega arith)

pub fit_directory : (rs : List Row) → RowsOK rs → image_length rs ≤ 8388608 → AllFit (plan_directory rs)
unfolding plan_directory image_length
fit_directory rs o h =
    fit_append (fit_rows (first_word rs) rs o (omega arith)) (fit_planes (first_word rs + row_words_lem rs) rs o (omega arith))

-- ---- the prologue, of n regions

pub length_prologue_start : (n flags : ℕ) → length (prologue_start n flags) ≡ 12
unfolding prologue_start le_bytes
length_prologue_start n flags = refl

pub length_prologue_bytes : (n flags : ℕ) → length (prologue_bytes n flags) ≡ 16
unfolding prologue_bytes prologue_start le_bytes
length_prologue_bytes n flags = refl

count_back : (n flags : ℕ) → n < 65536 → count_in (prologue_bytes n flags) ≡ n
unfolding count_in prologue_bytes prologue_start le_bytes read
count_back n flags h = read_le_bytes 2 n [] h

crc_small : (bs : List ℕ) → crc32 bs < 4294967296
unfolding crc32
crc_small bs = omega (arith, sub-le all_ones (serial_r all_ones (sent bs)))

take_start : (n flags : ℕ) → take 12 (prologue_bytes n flags) ≡ prologue_start n flags
unfolding prologue_bytes prologue_start le_bytes
take_start n flags = refl

read_crc : (n flags : ℕ) → read 4 (prologue_bytes n flags) 12 ≡ crc32 (prologue_start n flags)
unfolding prologue_bytes prologue_start le_bytes read
read_crc n flags = read_le_bytes 4 (crc32 (prologue_start n flags)) [] (crc_small (prologue_start n flags))

read_magic : (n flags : ℕ) → read 4 (prologue_bytes n flags) 0 ≡ 0x4B415558
unfolding prologue_bytes prologue_start le_bytes read
read_magic n flags = refl

read_marker : (n flags : ℕ) → read 2 (prologue_bytes n flags) 4 ≡ 0xFEFF
unfolding prologue_bytes prologue_start le_bytes read
read_marker n flags = refl

read_version : (n flags : ℕ) → read 2 (prologue_bytes n flags) 6 ≡ 2
unfolding prologue_bytes prologue_start le_bytes read
read_version n flags = refl

prologue_fine : (n flags : ℕ) → n ≤ 1024 → prologue_verdict (prologue_bytes n flags) ≡ fine
prologue_fine n flags h =
    good_prologue (prologue_bytes n flags) (read_magic n flags) (read_marker n flags) (read_version n flags) (read_crc n flags ∙ ap crc32 (sym (take_start n flags)))
    (subst (λ (m : ℕ). m ≤ 1024) (sym (count_back n flags (omega arith))) h)

-- ---- bytes

bytes_checks : (n : ℕ) (b : List ℕ) (p : ℕ) → at (checks n b) p < 256
unfolding checks
bytes_checks zero b p = lit< tt
bytes_checks (suc n) b zero = check_low (read 8 b 0)
bytes_checks (suc n) b (suc p) = bytes_checks n (drop 8 b) p

bytes_zeros : (n p : ℕ) → at (replicate n 0) p < 256
bytes_zeros zero p = lit< tt
bytes_zeros (suc n) zero = lit< tt
bytes_zeros (suc n) (suc p) = bytes_zeros n p

bytes_planes : (rs : List Row) (b : List ℕ) → Bytes (planes_bytes rs b)
unfolding planes_bytes plane_bytes
bytes_planes [] b = bytes_nil
bytes_planes (r ∷ rs) b =
    bytes_append (cond (protected_row r) (plane_bytes r b) []) (planes_bytes rs (drop (8 * r.words) b)) (go (protected_row r)) (bytes_planes rs (drop (8 * r.words) b))
  where
    go : (t : Bool) → Bytes (cond t (plane_bytes r b) [])
    go true =
        let z = 8 * plane_words r - r.words in
        bytes_append (checks r.words b) (replicate z 0) (record { small = bytes_checks r.words b }) (record { small = bytes_zeros z })
    go false = bytes_nil

bytes_entry : (e : Entry) → Bytes (entry_bytes e)
unfolding entry_bytes
bytes_entry e =
    bytes_append (le_bytes 2 e.kind) (le_bytes 2 e.flags ++ (le_bytes 4 e.offset ++ (le_bytes 4 e.words ++ (le_bytes 2 e.covers ++ le_bytes 2 e.reserved)))) (bytes_le_bytes 2 e.kind)
    (bytes_append (le_bytes 2 e.flags) (le_bytes 4 e.offset ++ (le_bytes 4 e.words ++ (le_bytes 2 e.covers ++ le_bytes 2 e.reserved))) (bytes_le_bytes 2 e.flags)
    (bytes_append (le_bytes 4 e.offset) (le_bytes 4 e.words ++ (le_bytes 2 e.covers ++ le_bytes 2 e.reserved)) (bytes_le_bytes 4 e.offset)
    (bytes_append (le_bytes 4 e.words) (le_bytes 2 e.covers ++ le_bytes 2 e.reserved) (bytes_le_bytes 4 e.words)
    (bytes_append (le_bytes 2 e.covers) (le_bytes 2 e.reserved) (bytes_le_bytes 2 e.covers) (bytes_le_bytes 2 e.reserved)))))

bytes_entries : (es : List Entry) → Bytes (entries_bytes es)
unfolding entries_bytes
bytes_entries [] = bytes_nil
bytes_entries (e ∷ es) = bytes_append (entry_bytes e) (entries_bytes es) (bytes_entry e) (bytes_entries es)

bytes_start : (n flags : ℕ) → Bytes (prologue_start n flags)
unfolding prologue_start
bytes_start n flags =
    bytes_append (le_bytes 4 0x4B415558) (le_bytes 2 0xFEFF ++ (le_bytes 2 2 ++ (le_bytes 2 n ++ le_bytes 2 flags))) (bytes_le_bytes 4 0x4B415558)
    (bytes_append (le_bytes 2 0xFEFF) (le_bytes 2 2 ++ (le_bytes 2 n ++ le_bytes 2 flags)) (bytes_le_bytes 2 0xFEFF)
    (bytes_append (le_bytes 2 2) (le_bytes 2 n ++ le_bytes 2 flags) (bytes_le_bytes 2 2) (bytes_append (le_bytes 2 n) (le_bytes 2 flags) (bytes_le_bytes 2 n) (bytes_le_bytes 2 flags))))

bytes_prologue : (n flags : ℕ) → Bytes (prologue_bytes n flags)
unfolding prologue_bytes
bytes_prologue n flags =
    bytes_append (prologue_start n flags) (le_bytes 4 (crc32 (prologue_start n flags))) (bytes_start n flags) (bytes_le_bytes 4 (crc32 (prologue_start n flags)))

-- ---- the image

module _ (rs : List Row) (payload : List ℕ) (ok : PlanOK rs payload) where
  n : ℕ
  n = regions rs

  P : List ℕ
  P = prologue_bytes (regions rs) 0

  D : List ℕ
  D = entries_bytes (plan_directory rs)

  B : List ℕ
  B = payload ++ planes_bytes rs payload

  length-D : length D ≡ 16 * regions rs
  unfolding D
  length-D = length_entries_bytes (plan_directory rs) ∙ ap (λ (m : ℕ). 16 * m) (length_directory rs)

  split : plan_image rs payload ≡ (thrice P ++ thrice D) ++ B
  unfolding plan_image P D B
  split = sym (append_assoc (thrice P) (thrice D) B)

  length_head : length (thrice P ++ thrice D) ≡ header_length (regions rs)
  unfolding P
  length_head =
      omega (arith, length-append (thrice P) (thrice D), length_thrice P 16 (length_prologue_bytes (regions rs) 0), length_thrice D (16 * regions rs) length-D)

  in_head : (i : ℕ) → i < header_length (regions rs) → at (plan_image rs payload) i ≡ at (thrice P ++ thrice D) i
  in_head i h = ap (λ (l : List ℕ). at l i) split ∙ at_left (thrice P ++ thrice D) B (header_length (regions rs)) i length_head h

  pub in_body : (j : ℕ) → at (plan_image rs payload) (header_length (regions rs) + j) ≡ at (payload ++ planes_bytes rs payload) j
  unfolding B
  in_body j = ap (λ (l : List ℕ). at l (header_length (regions rs) + j)) split ∙ at_right (thrice P ++ thrice D) B (header_length (regions rs)) j length_head

  pub written_length : length (plan_image rs payload) ≡ image_length rs
  unfolding B image_length
  written_length =
      omega (
        arith,
        ap length split,
        length-append (thrice P ++ thrice D) B,
        length_head,
        length-append payload (planes_bytes rs payload),
        length_planes rs payload,
        ok.full,
      )

  pub prologue_back : prologue (plan_image rs payload) ≡ prologue_bytes (regions rs) 0
  unfolding prologue P
  prologue_back =
      voted_copies (plan_image rs payload) 0 16 P (length_prologue_bytes (regions rs) 0)
      (copies_first (plan_image rs payload) P D (16 * regions rs) (length_prologue_bytes (regions rs) 0) length-D (λ i h. in_head i (omega arith)))

  pub count_is : count (plan_image rs payload) ≡ regions rs
  unfolding count
  count_is = ap count_in prologue_back ∙ count_back (regions rs) 0 (omega (arith, ok.few))

  pub directory_bytes_back : directory_bytes (plan_image rs payload) ≡ entries_bytes (plan_directory rs)
  unfolding directory_bytes directory_bytes_of D P
  directory_bytes_back =
      ap (λ (m : ℕ). voted 48 (16 * m) (plan_image rs payload)) count_is
      ∙ voted_copies (plan_image rs payload) 48 (16 * regions rs) D length-D
      (copies_second (plan_image rs payload) P D (16 * regions rs) (length_prologue_bytes (regions rs) 0) length-D (λ i h. in_head i (omega arith)))

  pub directory_back : directory (plan_image rs payload) ≡ plan_directory rs
  unfolding directory directory_of directory_bytes
  directory_back =
      ap₂ entries (count_is ∙ sym (length_directory rs)) directory_bytes_back
      ∙ entries_back (plan_directory rs) (fit_directory rs ok.rows ok.small)

  header_back : header (plan_image rs payload) ≡ thrice P ++ thrice D
  unfolding header P D
  header_back = ap₂ (λ (p d : List ℕ). thrice p ++ thrice d) prologue_back directory_bytes_back

  entries_in : EntriesOK (image_length rs) (plan_directory rs)
  entries_in = directory_ok (image_length rs) rs ok.rows (omega arith)

  visits_back : visits (plan_image rs payload) ≡ visits_plan rs (first_word rs) (first_word rs + row_words_lem rs)
  unfolding visits plan_directory
  visits_back =
      rw (written_length, directory_back) (plan_visits (image_length rs) (first_word rs) (first_word rs + row_words_lem rs) rs ok.rows entries_in)

  pub codewords_back : codewords (plan_image rs payload) ≡ codewords_plan rs (first_word rs) (first_word rs + row_words_lem rs)
  unfolding codewords
  codewords_back = ap codewords_in visits_back ∙ plan_codewords rs (first_word rs) (first_word rs + row_words_lem rs)

  pub any_back : any_of (visits (plan_image rs payload)) ≡ ltb 0 (planes rs)
  any_back = ap any_of visits_back ∙ plan_any rs (first_word rs) (first_word rs + row_words_lem rs)

  bytes_image : Bytes payload → Bytes (plan_image rs payload)
  unfolding plan_image
  bytes_image b =
      bytes_append (thrice (prologue_bytes (regions rs) 0)) (thrice (entries_bytes (plan_directory rs)) ++ (payload ++ planes_bytes rs payload))
      (bytes_thrice (prologue_bytes (regions rs) 0) (bytes_prologue (regions rs) 0))
      (bytes_append (thrice (entries_bytes (plan_directory rs))) (payload ++ planes_bytes rs payload)
      (bytes_thrice (entries_bytes (plan_directory rs)) (bytes_entries (plan_directory rs)))
      (bytes_append payload (planes_bytes rs payload) b (bytes_planes rs payload)))

  pub in_order : Bytes payload → InOrder (plan_image rs payload)
  in_order b =
      record {
        bytes = bytes_image b;
        copies = λ p h. in_head p (subst (λ (m : ℕ). p < header_length m) count_is h) ∙ ap (λ (l : List ℕ). at l p) (sym header_back);
        checks = λ q c i.
            checked (plan_image rs payload) rs (first_word rs) (first_word rs + row_words_lem rs) payload
            (λ j h. let e : 8 * first_word rs + j ≡ header_length (regions rs) + j = omega arith in
            ap (at (plan_image rs payload)) e ∙ in_body j ∙ at_left payload (planes_bytes rs payload) (8 * row_words_lem rs) j ok.full h)
            (λ j h. let e : 8 * (first_word rs + row_words_lem rs) + j ≡ header_length (regions rs) + (8 * row_words_lem rs + j) = omega arith in
            ap (at (plan_image rs payload)) e ∙ in_body (8 * row_words_lem rs + j) ∙ at_right payload (planes_bytes rs payload) (8 * row_words_lem rs) j ok.full)
            q c (subst (Among q c) codewords_back i);
      }

  pub parse_fine : parse_verdict (plan_image rs payload) ≡ fine
  unfolding image_length
  parse_fine =
      let l : header_length (count (plan_image rs payload)) ≤ length (plan_image rs payload) = rw (count_is, written_length) (omega arith) in
      entries_say (plan_image rs payload) (omega arith) (ap prologue_verdict prologue_back ∙ prologue_fine (regions rs) 0 ok.few) l
      ∙ rw (written_length, directory_back) (entries_fine (image_length rs) 0 (plan_directory rs) entries_in)

  packed : Packed (first_word rs) (plan_directory rs) (first_word rs + row_words_lem rs + planes_words rs)
  unfolding plan_directory
  packed = packed_append (packed_rows (first_word rs) rs) (packed_planes (first_word rs + row_words_lem rs) rs)

  pub mend_fine : mend_verdict (plan_image rs payload) ≡ fine
  mend_fine = mend_verdict_lem (plan_image rs payload) ∙ rw (parse_fine, count_is, directory_back) (packed_apart (regions rs) 0 [] (omega arith) packed Before.nil)
