-- What writing comes to in each of its cases. Assumes nothing.
use Rattle.std.proofs.Common.{◌≡◌, ℕ, ◌+◌, ◌<◌, ◌≤◌, Bool, IfOk, Result, Ok, Err, ltb, List, [], ◌++◌, length, drop, sym, refl, ap, ◌∙◌, subst, arith, le-ltb, lt-ltb}
use lib.Seq.{sets-eq}
use Rattle.model.specs.Refusals.{too_large_lem, no_room_lem, Verdict, fine, refuse, ◌then◌, refuse_if}
use Rattle.model.specs.Hex.{Outcome, hex_text, if_fine, write_verdict, hex_write}
use Rattle.error.specs.declared.Refusal.{Refusal}
use Rattle.error.specs.Refused.{as_verdict}
use Rattle.put.specs.Put.{Put}
use Rattle.intel_hex.specs.Answers.{as_hex, answer_of, filled}

-- the three clauses of a public function: its answer, its buffer, and that a length lies in the buffer
abbrev pub Told : Outcome → Result ℕ Refusal → List ℕ → List ℕ → Type 0
Told o r before after = (as_hex r ≡ answer_of o) × ((after ≡ filled o before) × IfOk r (λ n. n ≤ length after))

abbrev pub refusing : Refusal → List ℕ → Outcome
refusing r x = record { verdict = as_verdict r; bytes = x }

abbrev pub giving : List ℕ → Outcome
giving x = record { verdict = fine; bytes = x }

pub told_refused : (o : Outcome) (r : Refusal) (before : List ℕ) → o ≡ refusing r [] → Told o (Err r) before before
told_refused o r before e = subst (λ (p : Outcome). Told p (Err r) before before) (sym e) (refl, (refl, search))

pub told_put : (o : Outcome) (x before after : List ℕ) (n : ℕ) → o ≡ giving x → length x ≤ length before → Put before 0 x n after → Told o (Ok n) before after
told_put o x before after n e l q =
    let m : n ≡ length x = omega (arith, q.behind) in
    let k : 0 + length x ≡ length x = omega arith in
    subst (λ (p : Outcome). Told p (Ok n) before after) (sym e)
    (ap (λ (k : ℕ). as_hex (Ok k)) m, (q.stored ∙ sets-eq x before 0 (omega arith) ∙ ap (λ (j : ℕ). x ++ drop j before) k, omega (arith, q.long)))

-- ---- writing

module _ (x : List ℕ) (room : ℕ) where
  outcome : Verdict → Outcome
  outcome v = record { verdict = v; bytes = if_fine v (hex_text x) }

  pub write_large : 8388608 < length x → hex_write x room ≡ record { verdict = refuse too_large_lem 0; bytes = [] }
  unfolding hex_write write_verdict outcome
  write_large h = ap (λ (t : Bool). outcome (refuse_if t too_large_lem 0 then refuse_if (ltb room (length (hex_text x))) no_room_lem 0)) (lt-ltb 8388608 (length x) h)

  module _ (l : length x ≤ 8388608) where
    second : hex_write x room ≡ outcome (refuse_if (ltb room (length (hex_text x))) no_room_lem 0)
    unfolding hex_write write_verdict outcome
    second = ap (λ (t : Bool). outcome (refuse_if t too_large_lem 0 then refuse_if (ltb room (length (hex_text x))) no_room_lem 0)) (le-ltb 8388608 (length x) l)

    pub write_no_room : room < length (hex_text x) → hex_write x room ≡ record { verdict = refuse no_room_lem 0; bytes = [] }
    unfolding outcome
    write_no_room h = second ∙ ap (λ (t : Bool). outcome (refuse_if t no_room_lem 0)) (lt-ltb room (length (hex_text x)) h)

    pub write_fine : length (hex_text x) ≤ room → hex_write x room ≡ record { verdict = fine; bytes = hex_text x }
    unfolding outcome
    write_fine h = second ∙ ap (λ (t : Bool). outcome (refuse_if t no_room_lem 0)) (le-ltb room (length (hex_text x)) h)
