-- The writer's image, damaged, is restored; it has one origin; and with up to two bits off a word, whole means whole. Assumes nothing.
use mathlib.Core.Path.{◌≡◌, refl, sym, ap, ap₂, ◌∙◌, subst}
use mathlib.Core.Bool.{Bool, true, false, cond}
use mathlib.Core.List.{List, [], ◌∷◌, ◌++◌}
use Rattle.std.specs.Prelude.{Option}
use Prim.Native.Nat.{ℕ, ◌+◌, ◌*◌, ◌/◌}
use native.Mathlib.Omega.{arith}
use borrow.Author.Tests.{lt-ltb, le-ltb, eqb-true}
use lib.Dec.{ltb}
use lib.ListN.{length}
use lib.Seq.{ext_get_or}
use Rattle.model.specs.Bytes.{at, word_at, given, Bytes}
use Rattle.model.specs.Refusals.{fine}
use Rattle.model.specs.Layout.{header_length, directory, Entry}
use Rattle.model.specs.Parity.{Class, decode, word_after, check_after, fixed_word, fixed_check}
use Rattle.model.specs.Scan.{visits, Among, codewords, is_uncorrectable, total, classes_at, report, scan, Report}
use Rattle.model.specs.Writer.{Row, protected_row, row_entries, plane_entry, plane_entries, plane_words, row_words_lem, planes_bytes, planes, regions, first_word, plan_directory, plan_image, image, write}
use Rattle.model.specs.Mend.{mend_verdict, MendRule, mend_bytes, changed, none_uncorrectable, whole, mended, mend}
use Rattle.model.proofs.BytesLaw.{at_left}
use Rattle.model.proofs.ScanLaw.{scan_all}
use Rattle.model.specs.Steps.{any_of}
use Rattle.lemmas.proofs.HeaderLaw.{same_visits, same_verdict}
use Rattle.lemmas.proofs.MendLaw.{InOrder, meets_rule}
use Rattle.lemmas.proofs.PlanLaw.{RowsOK, PlanOK, wrote}
use Rattle.lemmas.proofs.ImageLaw.{in_order, in_body, directory_back, any_back, mend_fine}
use Rattle.theorems.specs.Damage.{Protected, Damaged, Uncorrectable}
use Rattle.theorems.proofs.MendParts.{none_total, total_zero}
use Rattle.theorems.proofs.DamageLaw.{damaged_header, damaged_codewords, outside, wholly, none_uncorrectable_lem}

module _ (rs : List Row) (payload : List ℕ) (room : ℕ) (w : List ℕ) (h : write rs payload room ≡ image w) (b : Bytes payload) where
  pub written_order : InOrder w
  written_order = let r = wrote rs payload room w h in subst InOrder r.is (in_order rs payload r.plan b)

  pub written_fine : mend_verdict w ≡ fine
  written_fine = let r = wrote rs payload room w h in subst (λ (x : List ℕ). mend_verdict x ≡ fine) r.is (mend_fine rs payload r.plan)

  module _ (limit : ℕ) (d : List ℕ) (a : Damaged limit w d) where
    damaged_fine : mend_verdict d ≡ fine
    damaged_fine = same_verdict d w a.size (damaged_header limit w d written_order a) ∙ written_fine

    rule : MendRule d (mend_bytes d)
    rule = meets_rule d damaged_fine a.bytes

    accepts : mend d ≡ mended (mend_bytes d) (scan d) (changed d (mend_bytes d)) (whole d)
    unfolding mend
    accepts = rw damaged_fine

  -- ---- restores

  visited : (d : List ℕ) → Damaged 1 w d → any_of (visits d) ≡ ltb 0 (planes rs)
  visited d a =
      let r = wrote rs payload room w h in
      ap any_of (same_visits d w a.size (damaged_header 1 w d written_order a))
      ∙ subst (λ (x : List ℕ). any_of (visits x) ≡ ltb 0 (planes rs)) r.is (any_back rs payload r.plan)

  -- whole, if a row is flagged 2
  says_whole : (d : List ℕ) → Damaged 1 w d → whole d ≡ ltb 0 (planes rs)
  unfolding report
  says_whole d a =
      let z : total is_uncorrectable (classes_at d (codewords d)) ≡ 0 =
      total_zero is_uncorrectable d (codewords d) (λ q c m. none_uncorrectable_lem w d written_order a q c (subst (Among q c) (damaged_codewords 1 w d written_order a) m)) in
      rw (scan_all d, visited d a) (go (ltb 0 (planes rs)) z)
    where
      go : (v : Bool) → total is_uncorrectable (classes_at d (codewords d)) ≡ 0 → none_uncorrectable (given v (report (classes_at d (codewords d)))) ≡ v
      go true e = rw e
      go false e = refl

  pub restored : (d : List ℕ) → Damaged 1 w d → mend d ≡ mended w (scan d) (changed d w) (ltb 0 (planes rs))
  restored d a =
      accepts 1 d a
      ∙ ap₂ (λ (y : List ℕ) (t : Bool). mended y (scan d) (changed d y) t)
      (wholly 1 w d written_order a (mend_bytes d) (rule 1 d a) (omega arith) (λ q c m i e. omega arith)) (says_whole d a)

  -- ---- whole means whole

  module _ (d : List ℕ) (a : Damaged 2 w d) where
    whole_none_uncorrectable : whole d ≡ true → (q c : ℕ) → Protected w q c → Uncorrectable d q c → ⊥
    unfolding report
    whole_none_uncorrectable t q c m e = go (any_of (visits d)) (ap none_uncorrectable (sym (scan_all d)) ∙ t)
      where
        go : (v : Bool) → none_uncorrectable (given v (report (classes_at d (codewords d)))) ≡ true → ⊥
        go true u =
            let z : total is_uncorrectable (classes_at d (codewords d)) ≡ 0 = eqb-true (total is_uncorrectable (classes_at d (codewords d))) 0 u in
            let n : is_uncorrectable (decode (word_at d q) (at d c)) ≡ 0 = none_total is_uncorrectable d (codewords d) z q c (subst (Among q c) (sym (damaged_codewords 2 w d written_order a)) m) in
            let o : ◌≡◌ {A = ℕ} 1 0 = ap is_uncorrectable (sym e) ∙ n in
            omega arith
        go false u = let z : ◌≡◌ {A = ℕ} 1 0 = cc in omega arith

    whole_is_whole : whole d ≡ true → mend_bytes d ≡ w
    whole_is_whole t =
        wholly 2 w d written_order a (mend_bytes d) (rule 2 d a) (omega arith) (λ q c m i e. whole_none_uncorrectable t q c m e)

    rest_right : (p : ℕ) → ((q c : ℕ) → Protected w q c → Uncorrectable d q c → (q ≡ p / 8 → ⊥) × (c ≡ p → ⊥)) → at (mend_bytes d) p ≡ at w p
    rest_right p f = outside 2 w d written_order a (mend_bytes d) (rule 2 d a) (omega arith) p (λ q c m i e. f q c m e)

    uncorrectable_kept : (q c : ℕ) → Protected w q c → Uncorrectable d q c
        → (word_at (mend_bytes d) q ≡ word_at d q) × (at (mend_bytes d) c ≡ at d c)
    unfolding fixed_word fixed_check
    uncorrectable_kept q c m e =
        let i : Among q c (codewords d) = subst (Among q c) (sym (damaged_codewords 2 w d written_order a)) m in (
          (rule 2 d a).words q c i ∙ ap (λ (k : Class). word_after k (word_at d q)) e,
          (rule 2 d a).checks q c i ∙ ap (λ (k : Class). check_after k (word_at d q) (at d c)) e,
        )

    pub whole_or_kept : (y : List ℕ)
        × (mend d ≡ mended y (scan d) (changed d y) (whole d))
        × (whole d ≡ true → y ≡ w)
        × ((q c : ℕ) → Protected w q c → Uncorrectable d q c → (word_at y q ≡ word_at d q) × (at y c ≡ at d c))
        × ((p : ℕ) → ((q c : ℕ) → Protected w q c → Uncorrectable d q c → (q ≡ p / 8 → ⊥) × (c ≡ p → ⊥)) → at y p ≡ at w p)
    whole_or_kept = (mend_bytes d, accepts 2 d a, whole_is_whole, uncorrectable_kept, rest_right)

-- ---- one origin

-- the rows of a directory
rows_of : List Entry → List Row
rows_of [] = []
rows_of (e ∷ es) = let r = rows_of es in cond (ltb e.kind 0x8000) (record { kind = e.kind; flags = e.flags; words = e.words } ∷ r) r

rows_of_planes : (a : ℕ) (rs : List Row) → rows_of (plane_entries a rs) ≡ []
unfolding rows_of plane_entries plane_entry
rows_of_planes a [] = refl
rows_of_planes a (r ∷ rs) = go (λ m. rows_of_planes m rs) (protected_row r)
  where
    go : ((m : ℕ) → rows_of (plane_entries m rs) ≡ []) → (t : Bool) → rows_of (cond t (plane_entry a r ∷ plane_entries (a + plane_words r) rs) (plane_entries a rs)) ≡ []
    go f true = rw (le-ltb (0x8000 + r.kind) 0x8000 (omega arith)) (f (a + plane_words r))
    go f false = f a

rows_of_rows : (a : ℕ) (rs : List Row) (fs : List Entry) → RowsOK rs → rows_of fs ≡ [] → rows_of (row_entries a rs ++ fs) ≡ rs
unfolding rows_of row_entries
rows_of_rows a rs fs RowsOK.nil e = e
rows_of_rows a rs fs (RowsOK.cons {r = r} {rs = ss} k f n o) e = rw (lt-ltb r.kind 0x8000 k) (ap (λ (l : List Row). r ∷ l) (rows_of_rows (a + r.words) ss fs o e))

rows_back : (rs : List Row) → RowsOK rs → rows_of (plan_directory rs) ≡ rs
unfolding plan_directory
rows_back rs o = rows_of_rows (first_word rs) rs (plane_entries (first_word rs + row_words_lem rs) rs) o (rows_of_planes (first_word rs + row_words_lem rs) rs)

same_plan : (rs rs' : List Row) (payload payload' : List ℕ) → PlanOK rs payload → PlanOK rs' payload' → plan_image rs payload ≡ plan_image rs' payload'
    → (rs ≡ rs') × (payload ≡ payload')
same_plan rs rs' payload payload' o o' e =
    let d : plan_directory rs ≡ plan_directory rs' = sym (directory_back rs payload o) ∙ ap directory e ∙ directory_back rs' payload' o' in
    let r : rs ≡ rs' = sym (rows_back rs o.rows) ∙ ap rows_of d ∙ rows_back rs' o'.rows in
    let l : length payload ≡ length payload' = o.full ∙ ap (λ (z : List Row). 8 * row_words_lem z) r ∙ sym o'.full in (
      r,
      ext_get_or 0 payload payload' l (λ j h.
          sym (at_left payload (planes_bytes rs payload) (length payload) j refl h)
          ∙ sym (in_body rs payload o j)
          ∙ ap₂ (λ (x : List ℕ) (z : List Row). at x (header_length (regions z) + j)) e r
          ∙ in_body rs' payload' o' j
          ∙ at_left payload' (planes_bytes rs' payload') (length payload') j refl (omega arith)),
    )

pub one_source : (rs rs' : List Row) (payload payload' : List ℕ) (room room' : ℕ) (w w' d : List ℕ)
    → write rs payload room ≡ image w → Bytes payload → write rs' payload' room' ≡ image w' → Bytes payload'
    → Damaged 1 w d → Damaged 1 w' d → (rs ≡ rs') × (payload ≡ payload')
one_source rs rs' payload payload' room room' w w' d h b h' b' a a' =
    let r = wrote rs payload room w h in
    let r' = wrote rs' payload' room' w' h' in
    let m = restored rs payload room w h b d a in
    let m' = restored rs' payload' room' w' h' b' d a' in
    let e : w ≡ w' = same w w' (scan d) (scan d) (changed d w) (changed d w') (ltb 0 (planes rs)) (ltb 0 (planes rs')) (sym m ∙ m') in
    same_plan rs rs' payload payload' r.plan r'.plan (r.is ∙ e ∙ sym r'.is)
  where
    same : (x y : List ℕ) (r s : Option Report) (k l : ℕ) (t u : Bool) → mended x r k t ≡ mended y s l u → x ≡ y
    same x y r s k l t u e = cc
