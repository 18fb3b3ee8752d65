-- Rows checked one by one, from the first on. Assumes nothing.
use Rattle.std.proofs.Common.{◌≡◌, ℕ, suc, ◌+◌, ◌*◌, ◌/◌, ◌<◌, ◌≤◌, Bool, true, false, cond, ◌||◌, eqb, ltb, List, [], ◌∷◌, length, drop, replicate, sym, refl, ap, ◌∙◌, zero-le, arith, add-one, length-set, ltb-false}
use lib.ListN.{length-replicate}
use Rattle.model.specs.Refusals.{Verdict, fine, refuse, bad_plan, duplicate_region, ◌then◌, refuse_if}
use Rattle.model.specs.Layout.{has_ecc}
use Rattle.model.specs.Writer as model
use Rattle.model.specs.Writer.{planes, regions, kind_among, rows_verdict}
use Rattle.error.specs.declared.Refusal.{Refusal}
use Rattle.error.specs.Refused.{as_verdict}
use Rattle.lemmas.proofs.VerdictLaw.{or_left, passed}
use Rattle.plan.specs.declared.rows.Row.{Row}
use Rattle.plan.specs.Rows.{as_row, as_plan}
use Rattle.plan.specs.Checking.{bad_row, marked, with_mark, row_verdict, regions_of}
use Rattle.plan.proofs.MarksLaw.{mark_sets, no_marks}
use Rattle.plan.proofs.RowsLaw.{row_at, rows_end, rows_next}

-- the first i rows passed, have n regions, and are marked
pub record Passed (rows : List Row) (bits : List ℕ) (n i : ℕ) : Type 0 where
  pub earlier : List model.Row
  pub marks : (x : ℕ) → x < 0x8000 → marked bits x ≡ kind_among x earlier
  pub long : length bits ≡ 1024
  pub left : rows_verdict i earlier (as_plan (drop i rows)) ≡ rows_verdict 0 [] (as_plan rows)
  pub counted : n + regions (as_plan (drop i rows)) ≡ regions (as_plan rows)
  pub few : n ≤ 2 * i

pub none_passed : (rows : List Row) → Passed rows (replicate 1024 0) 0 0
unfolding kind_among
none_passed rows = record {
  earlier = [];
  marks = no_marks;
  long = length-replicate {A = ℕ} 1024 0;
  left = refl;
  counted = omega arith;
  few = zero-le;
}

then_assoc : (u v w : Verdict) → (u then v) then w ≡ u then (v then w)
then_assoc fine v w = refl
then_assoc (refuse n d) v w = refl

regions_cons : (r : Row) (rs : List model.Row) → regions (as_row r ∷ rs) ≡ regions_of r.flags + regions rs
unfolding regions planes
regions_cons r rs = go (has_ecc r.flags)
  where
    go : (t : Bool) → suc (length rs) + (cond t 1 0 + planes rs) ≡ cond t 2 1 + (length rs + planes rs)
    go true = omega arith
    go false = omega arith

low_kind : (r : Row) → bad_row r ≡ false → r.kind < 0x8000
low_kind r e = omega (arith, ltb-false 0x7FFF r.kind (or_left (ltb 0x7FFF r.kind) (ltb 7 r.flags) e))

module _ {rows : List Row} {bits : List ℕ} {n i : ℕ} (g : Passed rows bits n i) (l : i < length rows) where
  abbrev row : Row
  row = row_at rows i

  abbrev rest : List model.Row
  rest = as_plan (drop (i + 1) rows)

  abbrev behind : Verdict
  behind = rows_verdict (suc i) (as_row row ∷ g.earlier) rest

  -- a bad row is refused whether its kind is marked or not
  by_mark : (b : Bool) → bad_row row ≡ b
      → (refuse_if b bad_plan i then (refuse_if (kind_among row.kind g.earlier) duplicate_region row.kind then behind))
      ≡ (refuse_if b bad_plan i then (refuse_if (marked bits row.kind) duplicate_region row.kind then behind))
  by_mark true e = refl
  by_mark false e = ap (λ (t : Bool). refuse_if t duplicate_region row.kind then behind) (sym (g.marks row.kind (low_kind row e)))

  -- row i's verdict, and then that of the rows behind it
  row_next : rows_verdict 0 [] (as_plan rows) ≡ row_verdict bits i row then behind
  unfolding rows_verdict row_verdict
  row_next =
      sym g.left ∙ ap (rows_verdict i g.earlier) (rows_next rows i l) ∙ by_mark (bad_row row) refl
      ∙ sym (then_assoc (refuse_if (bad_row row) bad_plan i) (refuse_if (marked bits row.kind) duplicate_region row.kind) behind)

  pub row_refused : (e : Refusal) → as_verdict e ≡ row_verdict bits i row → as_verdict e ≡ rows_verdict 0 [] (as_plan rows)
  row_refused e f = ap (λ (u : Verdict). u then behind) f ∙ sym row_next

  pub row_passed : {m : ℕ} {bits' : List ℕ} → fine ≡ row_verdict bits i row → bits' ≡ with_mark bits row.kind → m ≡ regions_of row.flags → m ≤ 2 → Passed rows bits' (n + m) (i + 1)
  unfolding kind_among with_mark row_verdict
  row_passed {m} {bits'} e f h k =
      let low : row.kind < 0x8000 = low_kind row (passed (bad_row row) bad_plan i (refuse_if (marked bits row.kind) duplicate_region row.kind) (sym e)).0 in
      record {
        earlier = as_row row ∷ g.earlier;
        marks = λ x s. ap (λ (b : List ℕ). marked b x) f ∙ mark_sets bits row.kind x (omega (arith, g.long, low)) ∙ ap (λ (t : Bool). eqb row.kind x || t) (g.marks x s);
        long = ap length f ∙ length-set bits (row.kind / 64) _ ∙ g.long;
        left = ap (λ (k : ℕ). rows_verdict k (as_row row ∷ g.earlier) rest) (add-one i) ∙ ap (λ (u : Verdict). u then behind) e ∙ sym row_next;
        counted = omega (arith, g.counted, ap regions (rows_next rows i l), regions_cons row rest);
        few = omega (arith, g.few);
      }

module _ {rows : List Row} {bits : List ℕ} {n i : ℕ} (g : Passed rows bits n i) (l : length rows ≤ i) where
  pub all_fine : fine ≡ rows_verdict 0 [] (as_plan rows)
  unfolding rows_verdict
  all_fine = sym (ap (rows_verdict i g.earlier) (rows_end rows i l)) ∙ g.left

  pub all_counted : n ≡ regions (as_plan rows)
  unfolding regions planes
  all_counted = omega (arith, g.counted, ap regions (rows_end rows i l))
