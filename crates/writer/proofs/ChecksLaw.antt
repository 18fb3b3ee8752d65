-- Check bytes put word by word. Assumes nothing.
use Rattle.std.proofs.Common.{◌≡◌, ℕ, suc, ◌+◌, ◌*◌, ◌/◌, ◌<◌, ◌≤◌, List, ◌∷◌, ◌++◌, length, take, drop, set, sym, ap, ap₂, ◌∙◌, subst, arith, length-append}
use Rattle.std.proofs.lemmas.List.{ext_get_or, get_or-take, drop_at}
use Rattle.model.specs.Bytes.{read}
use Rattle.model.specs.Parity.{check_of}
use Rattle.model.specs.Writer.{checks}
use Rattle.model.proofs.BytesLaw.{at_left, read_ext}
use Rattle.lemmas.proofs.PlanCodewords.{length_checks, at_checks}
use Rattle.put.specs.Put.{Put}
use Rattle.put.proofs.PutLaw.{Going, begin, go_byte, gone}

-- the check bytes of n words, which are all that is read
pub checks_take : (n : ℕ) (b : List ℕ) → checks n (take (8 * n) b) ≡ checks n b
checks_take n b =
    ext_get_or 0 (checks n (take (8 * n) b)) (checks n b) (length_checks n (take (8 * n) b) ∙ sym (length_checks n b))
    (λ k h. let l : k < n = omega (arith, h, length_checks n (take (8 * n) b)) in
    at_checks n (take (8 * n) b) k l
    ∙ ap check_of (read_ext 8 (take (8 * n) b) b (8 * k) (8 * k) (λ j g. get_or-take (8 * n) b (8 * k + j) 0 (omega (arith, g, l))))
    ∙ sym (at_checks n b k l))

-- some are put, and `rest` is left to cut into words
pub record Checked (o₀ : List ℕ) (p₀ : ℕ) (b o : List ℕ) (p size : ℕ) (rest : List ℕ) : Type 0 where
  pub eight : size ≡ 8
  pub going : Going o₀ p₀ (checks (length b / 8) b) o p (checks (length rest / 8) rest)

pub none_checked : (o : List ℕ) (p : ℕ) (b : List ℕ) {p' size : ℕ} {rest : List ℕ} → p + length b / 8 ≤ length o → p' ≡ p → size ≡ 8 → rest ≡ b → Checked o p b o p' size rest
none_checked o p b {p'} {size} {rest} h i e f = record {
  eight = e;
  going = subst (λ (k : ℕ). Going o p (checks (length b / 8) b) o k (checks (length rest / 8) rest)) (sym i) (subst (λ (x : List ℕ). Going o p (checks (length b / 8) b) o p (checks (length x / 8) x)) (sym f) (begin o p (checks (length b / 8) b) (omega (arith, h, length_checks (length b / 8) b))));
}

module _ {o₀ : List ℕ} {p₀ : ℕ} {b o : List ℕ} {p size : ℕ} {rest : List ℕ} (g : Checked o₀ p₀ b o p size rest) where
  module _ (word behind : List ℕ) (e : rest ≡ word ++ behind) (l : length word ≡ size) where
    next : checks (length rest / 8) rest ≡ check_of (read 8 word 0) ∷ checks (length behind / 8) behind
    unfolding checks
    next =
        let w : length word ≡ 8 = l ∙ g.eight in
        let m : length rest / 8 ≡ suc (length behind / 8) = omega (arith, w, ap length e, length-append word behind) in
        let r : read 8 (word ++ behind) 0 ≡ read 8 word 0 = read_ext 8 (word ++ behind) word 0 0 (λ j h. at_left word behind 8 (0 + j) w (omega (arith, h))) in
        ap (λ (n : ℕ). checks n rest) m ∙ ap (λ (x : List ℕ). check_of (read 8 x 0) ∷ checks (length behind / 8) (drop 8 x)) e
        ∙ ap₂ (λ (v : ℕ) (x : List ℕ). check_of v ∷ checks (length behind / 8) x) r (drop_at word behind 8 w)

    pub check_room : p < length o
    check_room = omega (arith, g.going.room, ap length next)

    -- the byte goes to place j, which is p
    pub check_put : {v size' j p' : ℕ} → v ≡ check_of (read 8 word 0) → size' ≡ size → j ≡ p → p' ≡ p + 1 → Checked o₀ p₀ b (set o j v) p' size' behind
    check_put {v} {size'} {j} {p'} f h i m =
        let left : List ℕ = checks (length behind / 8) behind in
        let n : checks (length rest / 8) rest ≡ v ∷ left = next ∙ ap (λ (k : ℕ). k ∷ left) (sym f) in
        record {
          eight = h ∙ g.eight;
          going = subst (λ (k : ℕ). Going o₀ p₀ (checks (length b / 8) b) (set o k v) p' left) (sym i)
              (subst (λ (k : ℕ). Going o₀ p₀ (checks (length b / 8) b) (set o p v) k left) (sym m)
              (go_byte o p v left (subst (Going o₀ p₀ (checks (length b / 8) b) o p) n g.going)));
        }

  pub all_checked : {r : ℕ} → length rest < size → r ≡ p₀ + length b / 8 → Put o₀ p₀ (checks (length b / 8) b) r o
  unfolding checks
  all_checked {r} l e =
      let m : length rest / 8 ≡ 0 = omega (arith, l, g.eight) in
      let q : Put o₀ p₀ (checks (length b / 8) b) p o = gone o p (subst (λ (n : ℕ). Going o₀ p₀ (checks (length b / 8) b) o p (checks n rest)) m g.going) in
      let f : p ≡ r = omega (arith, q.behind, e, length_checks (length b / 8) b) in
      subst (λ (k : ℕ). Put o₀ p₀ (checks (length b / 8) b) k o) f q
