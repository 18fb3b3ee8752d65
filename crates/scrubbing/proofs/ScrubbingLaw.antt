-- Scrub, word by word and region by region. Assumes nothing.
use mathlib.Core.Path.{◌≡◌, refl, sym, ap, ap₂, ◌∙◌, subst}
use mathlib.Core.Bool.{Bool, true, false, ◌||◌, or-false, or-true}
use mathlib.Core.List.{List, [], ◌∷◌}
use Rattle.std.specs.Prelude.{Option, None, Some}
use Prim.Native.Nat.{ℕ, suc, ◌≤◌}
use native.Mathlib.Omega.{arith}
use lib.ListN.{length}
use borrow.Author.Tests.{le-ltb}
use Rattle.model.specs.Bytes.{word_at}
use Rattle.model.specs.Parity.{Class, clean, flipped, uncorrectable, outcome_as}
use Rattle.model.specs.Refusals.{fine, refuse}
use Rattle.model.specs.Layout.{header_length, count, directory}
use Rattle.model.specs.Parse.{parse_verdict}
use Rattle.model.specs.Views.{entries_for, region_at}
use Rattle.model.specs.Scan.{Report, Visit, Codeword, codewords_in, class_at, is_corrected, total, report}
use Rattle.model.specs.Scrub.{State, stored_word, scrub_word, scrub_words, scrub_visits, scrub_region, scrub_from, reported, scrub}
use Rattle.model.proofs.ParseLaw.{accepted_long}
use Rattle.model.proofs.ScanLaw.{mark, visits_words}
use Rattle.model.specs.Steps.{any_of}
use Rattle.model.specs.Bytes.{given}
use Rattle.model.specs.Steps.{plus}
use Rattle.model.proofs.ScanLaw.{none_plus, report_none, words_visited}
use Rattle.scan.specs.Tally as scan
use Rattle.scan.specs.Tally.{together, or_zeros, report_on}
use Rattle.scan.proofs.TallyLaw.{count_next, count_none, report_earlier}
use Rattle.correcting.proofs.CorrectLaw.{none_there, none_met}
use Rattle.correcting.specs.Correct.{correct_at, correct_all, met}
use Rattle.scrubbing.specs.Stands.{Stands, scrub_in}
use Rattle.scan.specs.Runs.{visits_at}

-- ---- words corrected by themselves

-- they take image and counts where scrub's words take them
record Counted (t : Report) (x : List ℕ) (s : State) : Type 0 where
  image : x ≡ s.image
  counts : t ≡ report s.met

word_counted : (t : Report) (x : List ℕ) (p : Codeword) (s : State) → Counted t x s
    → Counted (plus t (report_on (outcome_as (class_at x p) (word_at x p.word)))) (correct_at false p x) (scrub_word p s)
unfolding scrub_word correct_at
word_counted t x p s k =
    record {
      image = ap (λ (z : List ℕ). stored_word (class_at z p) p z) k.image;
      counts =
          ap₂ plus k.counts (ap (λ (z : List ℕ). report_on (outcome_as (class_at z p) (word_at z p.word))) k.image)
          ∙ report_earlier s.met (class_at s.image p) (word_at s.image p.word);
    }

words_counted : (ps : List Codeword) (t : Report) (x : List ℕ) (s : State) → Counted t x s
    → Counted (plus t (report (met false x ps))) (correct_all false ps x) (scrub_words ps s)
unfolding met correct_all scrub_words
words_counted [] t x s k = subst (λ (z : Report). Counted z x s) (sym (count_none t)) k
words_counted (p ∷ ps) t x s k =
    let y = correct_at false p x in
    subst (λ (z : Report). Counted z (correct_all false ps y) (scrub_words ps (scrub_word p s))) (count_next t (class_at x p) (word_at x p.word) (met false y ps))
    (words_counted ps (plus t (report_on (outcome_as (class_at x p) (word_at x p.word)))) y (scrub_word p s) (word_counted t x p s k))

-- ---- where nothing more is counted as corrected, nothing is written

pub corrections : State → ℕ
corrections s = total is_corrected s.met

words_grow : (ps : List Codeword) (s : State) → corrections s ≤ corrections (scrub_words ps s)
unfolding scrub_words scrub_word corrections total
words_grow [] s = omega arith
words_grow (p ∷ ps) s = omega (arith, words_grow ps (scrub_word p s))

kept_class : (k : Class) (p : Codeword) (x : List ℕ) → is_corrected k ≡ 0 → stored_word k p x ≡ x
kept_class clean p x e = refl
kept_class (flipped i) p x e = absurd (omega arith)
kept_class uncorrectable p x e = refl

words_same : (ps : List Codeword) (s : State) → corrections (scrub_words ps s) ≡ corrections s → (scrub_words ps s).image ≡ s.image
unfolding scrub_words scrub_word corrections total
words_same [] s e = refl
words_same (p ∷ ps) s e =
    let g = words_grow ps (scrub_word p s) in
    let z : is_corrected (class_at s.image p) ≡ 0 = omega arith in
    let h : corrections (scrub_words ps (scrub_word p s)) ≡ corrections (scrub_word p s) = omega arith in
    words_same ps (scrub_word p s) h ∙ kept_class (class_at s.image p) p s.image z

-- a report counts what its state corrected
counted_by : (o : Option Report) (x : List ℕ) (s : State) → Stands o x s → (or_zeros o).corrected ≡ corrections s
unfolding corrections report total
counted_by o x s k = ap (λ (q : Option Report). (or_zeros q).corrected) k.counts ∙ go s.visited s.met k.unvisited
  where
    go : (t : Bool) (ms : List Class) → (t ≡ false → ms ≡ []) → (or_zeros (given t (report ms))).corrected ≡ total is_corrected ms
    go true ms f = refl
    go false ms f = sym (ap (total is_corrected) (f refl))

-- the state before any region
abbrev pub fresh : List ℕ → State
fresh x = record { image = x; met = []; visited = false }

pub start_stands : (x : List ℕ) → Stands None x (fresh x)
start_stands x = record { image = refl; counts = refl; unvisited = λ e. refl }

-- ---- region i

-- a region without a visit meets no word
no_words : (vs : List Visit) (s : State) (x : List ℕ) → (s.visited ≡ false → s.met ≡ []) → s.visited || any_of vs ≡ false
    → (scrub_words (codewords_in vs) (mark (any_of vs) s)).met ≡ []
unfolding codewords_in scrub_words
no_words [] s x f e = f (sym (or-false s.visited) ∙ e)
no_words (v ∷ vs) s x f e = let z : true ≡ false = sym (or-true s.visited) ∙ e in cc

-- with the visits vs of a region, a report grows as scrub's does
grown : (vs : List Visit) (s : State) (ks : List Class) → (s.visited ≡ false → s.met ≡ []) → (vs ≡ [] → ks ≡ [])
    → together (reported s) (scan.reported vs ks) ≡ given (s.visited || any_of vs) (plus (report s.met) (report ks))
grown vs s ks f g = go s.visited s.met vs f g
  where
    go : (t : Bool) (ms : List Class) (vs : List Visit) → (t ≡ false → ms ≡ []) → (vs ≡ [] → ks ≡ [])
        → together (given t (report ms)) (scan.reported vs ks) ≡ given (t || any_of vs) (plus (report ms) (report ks))
    go true ms [] f g = ap Some (sym (ap (λ (ls : List Class). plus (report ms) (report ls)) (g refl) ∙ count_none (report ms)))
    go true ms (v ∷ vs) f g = refl
    go false ms [] f g = refl
    go false ms (v ∷ vs) f g = ap Some (sym (ap (λ (ls : List Class). plus (report ls) (report ks)) (f refl) ∙ ap (λ (z : Report). plus z (report ks)) report_none ∙ none_plus (report ks)))

module _ (n i : ℕ) where
  pub region_stands : (o : Option Report) (x : List ℕ) (s : State) → Stands o x s → (r : Option Report) (y : List ℕ)
      → r ≡ scan.reported (visits_at n x i) (met false x (codewords_in (visits_at n x i))) → y ≡ correct_all false (codewords_in (visits_at n x i)) x
      → Stands (together o r) y (scrub_in n i s)
  unfolding scrub_in
  region_stands o x s k r y e f =
      let vs = visits_at n x i in
      let ps = codewords_in vs in
      let m = mark (any_of vs) s in
      let c = words_counted ps (report s.met) x m (record { image = k.image; counts = refl }) in
      subst (Stands (together o r) y) (sym (visits_words vs s) ∙ ap (λ (z : List ℕ). scrub_visits (visits_at n z i) s) k.image)
      (record {
        image = f ∙ c.image;
        counts =
            ap₂ together k.counts e ∙ grown vs s (met false x ps) k.unvisited (λ z. none_met false x ps (none_there vs z).1)
            ∙ ap₂ given (sym (words_visited ps m)) c.counts;
        unvisited = λ z. no_words vs s x k.unvisited (sym (words_visited ps m) ∙ z);
      })

  -- it writes nothing where it corrects nothing
  pub region_same : (s : State) → corrections (scrub_in n i s) ≡ corrections s → (scrub_in n i s).image ≡ s.image
  unfolding scrub_in corrections
  region_same s e =
      let vs = visits_at n s.image i in
      let q = visits_words vs s in
      ap (λ (t : State). t.image) q ∙ words_same (codewords_in vs) (mark (any_of vs) s) (sym (ap corrections q) ∙ e)

  pub image_same : (x y : List ℕ) (r : Option Report)
      → r ≡ scan.reported (visits_at n x i) (met false x (codewords_in (visits_at n x i))) → y ≡ correct_all false (codewords_in (visits_at n x i)) x
      → (or_zeros r).corrected ≡ 0 → y ≡ x
  image_same x y r e f z =
      let s = fresh x in
      let k = region_stands None x s (start_stands x) r y e f in
      k.image ∙ region_same s (sym (counted_by r y (scrub_in n i s) k) ∙ z ∙ counted_by None x s (start_stands x))

-- ---- the whole

pub region_is : (n i : ℕ) (s : State) → parse_verdict s.image ≡ fine → n ≡ count s.image → scrub_in n i s ≡ scrub_region i s
unfolding scrub_in scrub_region region_at entries_for directory
region_is n i s h e = rw (e, le-ltb (length s.image) (header_length (count s.image)) (accepted_long s.image h))

pub from_next : (m i : ℕ) (s : State) → parse_verdict s.image ≡ fine → scrub_from (suc m) i s ≡ scrub_from m (suc i) (scrub_region i s)
unfolding scrub_from
from_next m i s h = rw h

pub from_failed : (m i : ℕ) (s : State) (k d : ℕ) → parse_verdict s.image ≡ refuse k d → scrub_from (suc m) i s ≡ record { image = s.image; report = None }
unfolding scrub_from
from_failed m i s k d h = rw h

pub from_done : (i : ℕ) (s : State) → scrub_from 0 i s ≡ record { image = s.image; report = reported s }
unfolding scrub_from
from_done i s = refl

pub scrub_failed : (x : List ℕ) (k d : ℕ) → parse_verdict x ≡ refuse k d → scrub x ≡ record { image = x; report = None }
unfolding scrub
scrub_failed x k d h = rw h

pub scrub_starts : (x : List ℕ) → parse_verdict x ≡ fine
    → scrub x ≡ scrub_from (count x) 0 (record { image = x; met = []; visited = false })
unfolding scrub
scrub_starts x h = rw h
