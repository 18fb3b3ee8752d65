-- What mend leaves: it parses afresh with no scrub wanted, mending it again changes and corrects nothing, and scrub agrees with it. Assumes nothing.
use mathlib.Core.Path.{◌≡◌, refl, sym, ap, ap₂, ◌∙◌}
use mathlib.Core.Bool.{Bool, true, false}
use mathlib.Core.List.{List, []}
use Rattle.std.specs.Prelude.{Option, None, Some}
use Prim.Native.Nat.{ℕ, ◌+◌, ◌*◌, ◌≤◌, ◌<◌}
use native.Mathlib.Omega.{arith}
use lib.ListN.{length, drop, length-drop}
use lib.Seq.{get_or-drop}
use Rattle.model.specs.Bytes.{at, word_at, thrice, given, Bytes}
use Rattle.model.specs.Refusals.{fine}
use Rattle.model.specs.Layout.{prologue, count, header_length, directory_bytes, header, directory, prologue_off, directory_off, scrub_wanted}
use Rattle.model.specs.Parse.{parse_verdict, accepted, header_of, parse}
use Rattle.model.specs.Parity.{decode}
use Rattle.model.specs.Scan.{visits, Among, codewords, is_corrected, is_uncorrectable, total, classes_at, Report, report, scan}
use Rattle.model.specs.Scrub.{scrub}
use Rattle.lemmas.proofs.ApartVerdict.{apart_verdict, mend_verdict_lem}
use Rattle.model.specs.Mend.{LaidApart, mend_verdict, MendRule, mend_bytes, none_uncorrectable, mended, mend}
use Rattle.model.proofs.BytesLaw.{at_left, at_right, length_thrice}
use Rattle.model.proofs.LayoutLaw.{length_prologue, length_directory_bytes, differs_not}
use Rattle.model.proofs.ScanLaw.{length_classes, scan_all}
use Rattle.model.specs.Steps.{any_of}
use Rattle.lemmas.specs.Steps.{scrub_all}
use Rattle.lemmas.proofs.VerdictLaw.{passed_both, or_none}
use Rattle.lemmas.proofs.HeaderLaw.{SameHeader, same_header, same_directory, same_visits, same_codewords, same_verdict, copied}
use Rattle.lemmas.proofs.EntriesLaw.{accepted_image}
use Rattle.lemmas.proofs.CodewordLaw.{Where, in_word, is_check, neither, classify}
use Rattle.lemmas.proofs.CodeLaw.{none_corrected, uncorrectable_again}
use Rattle.lemmas.proofs.MendLaw.{one_result, same_in_word, settled, meets_rule}
use Rattle.lemmas.proofs.MisplacedLaw.{accepts_apart}
use Rattle.lemmas.proofs.StoredLaw.{changed_none}
use Rattle.lemmas.proofs.ScrubLaw.{Scrubs, scrubs, scrub_is}
use Rattle.lemmas.proofs.Fold.{check_out}
use Rattle.lemmas.proofs.Apart.{apart, past}
use Rattle.theorems.specs.Damage.{uncorrected}
use Rattle.theorems.proofs.MendParts.{Mends, mends, total_ext, total_zero}

-- ---- no scrub wanted where the copies are the votes

module _ (y : List ℕ) (long : header_length (count y) ≤ length y) (f : (p : ℕ) → p < header_length (count y) → at y p ≡ at (header y) p) where
  lp : length (thrice (prologue y)) ≡ 48
  lp = length_thrice (prologue y) 16 (length_prologue y)

  ld : length (thrice (directory_bytes y)) ≡ 48 * count y
  ld = let e = length_thrice (directory_bytes y) (16 * count y) (length_directory_bytes y) in omega arith

  prologue_agrees : prologue_off y ≡ false
  unfolding prologue_off header
  prologue_agrees =
      differs_not (thrice (prologue y)) y (omega (arith, lp))
      (λ p h. let l : p < 48 = omega (arith, lp) in
      sym (f p (omega arith) ∙ at_left (thrice (prologue y)) (thrice (directory_bytes y)) 48 p lp l))

  directory_agrees : directory_off y ≡ false
  unfolding directory_off header
  directory_agrees =
      differs_not (thrice (directory_bytes y)) (drop 48 y) (omega (arith, ld, length-drop 48 y))
      (λ p h. let l : p < 48 * count y = omega (arith, ld) in
      sym (get_or-drop 48 y p 0 ∙ f (48 + p) (omega arith) ∙ at_right (thrice (prologue y)) (thrice (directory_bytes y)) 48 p lp))

  pub none_wanted : scrub_wanted y ≡ false
  unfolding scrub_wanted
  none_wanted = or_none (prologue_off y) (directory_off y) prologue_agrees directory_agrees

  pub parses : parse_verdict y ≡ fine → parse y ≡ accepted (record { regions = count y; prologue_disagreed = false; directory_disagreed = false })
  unfolding parse header_of
  parses v = rw (v, prologue_agrees, directory_agrees)

-- ---- the scan of what mend leaves

whole_again : (r : Option Report) → none_uncorrectable (uncorrected r) ≡ none_uncorrectable r
whole_again None = refl
whole_again (Some r) = refl

module _ (x y : List ℕ) (r : Option Report) (k : ℕ) (t : Bool) (b : Bytes x) (h : mend x ≡ mended y r k t) where
  m : Mends x y r k t
  m = mends x y r k t b h

  same : SameHeader y x
  same = copied x y m.rule.copies

  stays : MendRule y y
  stays = settled x y m.rule

  fine_again : mend_verdict y ≡ fine
  fine_again = same_verdict y x m.rule.size same ∙ m.verdict

  none_left : total is_corrected (classes_at y (codewords y)) ≡ 0
  none_left = total_zero is_corrected y (codewords y) (λ q c i. none_corrected (word_at y q) (at y c) (stays.words q c i) (stays.checks q c i))

  uncorrectable_left : total is_uncorrectable (classes_at y (codewords x)) ≡ total is_uncorrectable (classes_at x (codewords x))
  uncorrectable_left =
      total_ext is_uncorrectable is_uncorrectable y x (codewords x) (λ q c i. ap₂ (λ (w d : ℕ). is_uncorrectable (decode w d)) (m.rule.words q c i) (m.rule.checks q c i) ∙ uncorrectable_again (word_at x q) (at x c))

  words_left : length (classes_at y (codewords x)) ≡ length (classes_at x (codewords x))
  words_left = length_classes y (codewords x) ∙ sym (length_classes x (codewords x))

  scan_again : scan y ≡ uncorrected (scan x)
  unfolding report
  scan_again =
      scan_all y
      ∙ rw (same_visits y x m.rule.size same, same_codewords y x m.rule.size same, rw (same_codewords y x m.rule.size same) at none_left, uncorrectable_left, words_left, scan_all x)
      (go (any_of (visits x)))
    where
      go : (v : Bool)
          → given v (record { words = length (classes_at x (codewords x)); corrected = 0; uncorrectable = total is_uncorrectable (classes_at x (codewords x)) })
          ≡ uncorrected (given v (report (classes_at x (codewords x))))
      go true = refl
      go false = refl

  -- ---- mending again

  pub settles_down : mend y ≡ mended y (uncorrected r) 0 t
  unfolding mend
  settles_down =
      let e : mend_bytes y ≡ y = one_result y (mend_bytes y) y (meets_rule y fine_again m.rule.bytes) stays in
      let s : scan y ≡ uncorrected r = scan_again ∙ ap uncorrected m.report in
      rw (fine_again, e, s, changed_none y, whole_again r, ap none_uncorrectable (sym m.report) ∙ m.is_whole)

  -- ---- parsed afresh

  pub fresh : (parse y ≡ accepted (record { regions = count x; prologue_disagreed = false; directory_disagreed = false }))
      × (scrub_wanted y ≡ false)
      × (header y ≡ header x)
      × (directory y ≡ directory x)
      × LaidApart (count y) (directory y)
      × (scan y ≡ uncorrected r)
  fresh =
      let v = passed_both (parse_verdict y) (apart_verdict (count y) 0 [] (directory y)) (sym (mend_verdict_lem y) ∙ fine_again) in
      let long : header_length (count y) ≤ length y = (accepted_image y v.0).long in (
        parses y long stays.copies v.0 ∙ ap (λ (n : ℕ). accepted (record { regions = n; prologue_disagreed = false; directory_disagreed = false })) same.count≡,
        none_wanted y long stays.copies,
        same_header y x same,
        same_directory y x same,
        accepts_apart (count y) (directory y) v.1,
        scan_again ∙ ap uncorrected m.report,
      )

  -- ---- scrub

  scrubbed : Scrubs x (codewords x) (scrub_all (codewords x) x)
  scrubbed = scrubs (length x) x b refl (apart x m.verdict)

  pub scrub_same : ((scrub x).report ≡ r)
      × (length (scrub x).image ≡ length y)
      × ((p : ℕ) → header_length (count x) ≤ p → ((q c : ℕ) → Among q c (codewords x) → c ≡ p → ⊥) → at (scrub x).image p ≡ at y p)
      × ((p : ℕ) → p < header_length (count x) → at (scrub x).image p ≡ at x p)
      × ((q c : ℕ) → Among q c (codewords x) → at (scrub x).image c ≡ at x c)
  scrub_same =
      rw (scrub_is x m.verdict b) (
        m.report,
        scrubbed.size ∙ sym m.rule.size,
        λ p l n. rest p l n (classify (codewords x) p),
        λ p l. scrubbed.others p (λ q c i e. let g = (past x m.verdict q c i).0 in omega arith),
        λ q c i. scrubbed.others c (λ q' c' j. check_out (apart x m.verdict) q c q' c' i j),
      )
    where
      rest : (p : ℕ) → header_length (count x) ≤ p → ((q c : ℕ) → Among q c (codewords x) → c ≡ p → ⊥) → Where p (codewords x) → at (scrub_all (codewords x) x) p ≡ at y p
      rest p l n (in_word q c i e) = same_in_word (scrub_all (codewords x) x) y q p scrubbed.bytes m.rule.bytes (scrubbed.words q c i ∙ sym (m.rule.words q c i)) e
      rest p l n (is_check q c i e) = absurd (n q c i e)
      rest p l n (neither f g) = scrubbed.others p f ∙ sym (m.rule.others p (record { past = l; no_word = f; no_check = g }))
