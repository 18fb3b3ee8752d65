-- The tally: each counter as words are added to it, and sums that fit. Nothing else goes by single counters. Assumes nothing.
use mathlib.Core.Path.{◌≡◌, refl, sym, ap, ◌∙◌, subst}
use mathlib.Core.Bool.{Bool, true, false}
use Rattle.std.specs.Prelude.{Option, None, Some}
use mathlib.Core.List.{List, [], ◌∷◌, ◌++◌, append-nil}
use Prim.Native.Nat.{ℕ, suc, ◌+◌, ◌≤◌}
use native.Mathlib.Omega.{arith}
use lib.ListN.{length-append}
use Rattle.model.specs.Parity.{Class, clean, flipped, uncorrectable, Outcome, clean_word, corrected_word, uncorrectable_word, outcome_as}
use Rattle.model.specs.Scan.{Report, Visit, total, is_corrected, is_uncorrectable, report}
use Rattle.model.proofs.ScanLaw.{plus_none, plus_assoc, report_none, total_append}
use Rattle.model.specs.Steps.{plus, no_report}
use Rattle.model.specs.Bytes.{given}
use Rattle.scan.specs.Tally.{reported, together, or_zeros, report_on, Bounded, Room}

same_report : {a b c a' b' c' : ℕ} → a ≡ a' → b ≡ b' → c ≡ c'
    → ◌≡◌ {A = Report} (record { words = a; corrected = b; uncorrectable = c }) (record { words = a'; corrected = b'; uncorrectable = c' })
same_report e f g = cc

plus_comm : (a b : Report) → plus a b ≡ plus b a
plus_comm a b = same_report (omega arith) (omega arith) (omega arith)

-- ---- one word, and the words of a list of classes

report_front : (k : Class) (w : ℕ) (ks : List Class) → plus (report_on (outcome_as k w)) (report ks) ≡ report (k ∷ ks)
unfolding report total
report_front clean w ks = same_report (omega arith) (omega arith) (omega arith)
report_front (flipped i) w ks = same_report (omega arith) (omega arith) (omega arith)
report_front uncorrectable w ks = same_report (omega arith) (omega arith) (omega arith)

report_both : (ks js : List Class) → plus (report ks) (report js) ≡ report (ks ++ js)
unfolding report
report_both ks js =
    same_report (sym (length-append ks js)) (sym (total_append is_corrected ks js)) (sym (total_append is_uncorrectable ks js))

-- one word more, by what became of it

module _ (r : Report) where
  pub on_clean : (w : ℕ) → ◌≡◌ {A = Report} (record { words = r.words + 1; corrected = r.corrected; uncorrectable = r.uncorrectable }) (plus r (report_on (clean_word w)))
  on_clean w = same_report refl (omega arith) (omega arith)

  pub on_corrected : (w : ℕ) → ◌≡◌ {A = Report} (record { words = r.words + 1; corrected = r.corrected + 1; uncorrectable = r.uncorrectable }) (plus r (report_on (corrected_word w)))
  on_corrected w = same_report refl refl (omega arith)

  pub on_uncorrectable : ◌≡◌ {A = Report} (record { words = r.words + 1; corrected = r.corrected; uncorrectable = r.uncorrectable + 1 }) (plus r (report_on uncorrectable_word))
  on_uncorrectable = same_report refl (omega arith) refl

pub words_on : (o : Outcome) → (report_on o).words ≡ 1
words_on (clean_word w) = refl
words_on (corrected_word w) = refl
words_on uncorrectable_word = refl

-- ---- sums that fit

pub bounded_on : (o : Outcome) → Bounded (report_on o)
bounded_on (clean_word w) = record { corrected = omega arith; uncorrectable = omega arith }
bounded_on (corrected_word w) = record { corrected = omega arith; uncorrectable = omega arith }
bounded_on uncorrectable_word = record { corrected = omega arith; uncorrectable = omega arith }

-- room for no more than there is room for
pub room_less : (m n : ℕ) (r : Report) → Room m r → n ≤ m → Room n r
room_less m n r k h = record { words = omega (arith, k.words); counts = k.counts }

pub bounded_none : Bounded no_report
bounded_none = record { corrected = omega arith; uncorrectable = omega arith }

bounded_plus : (a b : Report) → Bounded a → Bounded b → Bounded (plus a b)
bounded_plus a b p q =
    record { corrected = omega (arith, p.corrected, q.corrected); uncorrectable = omega (arith, p.uncorrectable, q.uncorrectable) }

pub bounded_report : (ks : List Class) → Bounded (report ks)
bounded_report [] = subst Bounded (sym report_none) bounded_none
bounded_report (k ∷ ks) =
    subst Bounded (report_front k 0 ks) (bounded_plus (report_on (outcome_as k 0)) (report ks) (bounded_on (outcome_as k 0)) (bounded_report ks))

-- the words of a list of classes more
pub room_report : (r : Report) (ks : List Class) → Room (report ks).words r → Room 0 (plus r (report ks))
room_report r ks k =
    record { words = omega (arith, k.words); counts = bounded_plus r (report ks) k.counts (bounded_report ks) }

-- a class that is put before others is counted behind them
pub report_earlier : (ks : List Class) (k : Class) (w : ℕ) → plus (report ks) (report_on (outcome_as k w)) ≡ report (k ∷ ks)
report_earlier ks k w = plus_comm (report ks) (report_on (outcome_as k w)) ∙ report_front k w ks

-- ---- a run of words, counted one by one

module _ (r : Report) where
  pub count_next : (k : Class) (w : ℕ) (ks : List Class) → plus (plus r (report_on (outcome_as k w))) (report ks) ≡ plus r (report (k ∷ ks))
  count_next k w ks = plus_assoc r (report_on (outcome_as k w)) (report ks) ∙ ap (plus r) (report_front k w ks)

  pub count_none : plus r (report []) ≡ r
  count_none = ap (plus r) report_none ∙ plus_none r

  pub counted_words : (o : Outcome) → (plus r (report_on o)).words ≡ r.words + 1
  counted_words o = ap (λ (n : ℕ). r.words + n) (words_on o)

  pub room_next : (m : ℕ) (o : Outcome) → Room (suc m) r → Room m (plus r (report_on o))
  room_next m o h =
      record { words = omega (arith, h.words, words_on o); counts = bounded_plus r (report_on o) h.counts (bounded_on o) }

-- ---- reports together

pub bounded_given : (t : Bool) (ks : List Class) → Bounded (or_zeros (given t (report ks)))
bounded_given true ks = bounded_report ks
bounded_given false ks = bounded_none

pub together_words : (a b : Option Report) → (or_zeros (together a b)).words ≡ (or_zeros a).words + (or_zeros b).words
together_words None b = omega arith
together_words (Some a) None = omega arith
together_words (Some a) (Some b) = refl

-- those of visits that follow one another; what is not visited has no classes
pub together_reported : (vs ws : List Visit) (ks js : List Class) → (vs ≡ [] → ks ≡ []) → (ws ≡ [] → js ≡ [])
    → together (reported vs ks) (reported ws js) ≡ reported (vs ++ ws) (ks ++ js)
together_reported [] ws ks js f g = ap (λ (ls : List Class). reported ws (ls ++ js)) (sym (f refl))
together_reported (v ∷ vs) [] ks js f g =
    ap (λ (ls : List Class). Some (report ls)) (sym (append-nil ks) ∙ ap (λ (ls : List Class). ks ++ ls) (sym (g refl)))
together_reported (v ∷ vs) (w ∷ ws) ks js f g = ap Some (report_both ks js)
