-- Pairs of digits put one after the other, and a record's sum. Assumes nothing.
use Rattle.std.proofs.Common.{◌≡◌, ℕ, ◌+◌, ◌-◌, ◌*◌, ◌/◌, ◌%◌, ◌<◌, ◌≤◌, List, [], ◌∷◌, ◌++◌, length, get_or, drop, set, fold, sym, refl, ap, ◌∙◌, subst, ap₂, append_assoc, zero-add, zero-le, add-one, arith, length-append, drop_of_length-le, drop-cons}
use Rattle.model.specs.Hex.{digit_of, pairs_of, total, record_bytes, sum_byte, record_line}
use Rattle.hex_laws.proofs.HexLength.{length_pairs, text_length_lem}
use Rattle.hex_laws.proofs.HexLines.{total_append}
use Rattle.put.specs.Put.{Put}
use Rattle.put.proofs.PutLaw.{Going, begin, go_on, go_byte, fits, gone}

-- ---- pair by pair: i bytes of bs are put

pub record Pairwise (o₀ : List ℕ) (p₀ : ℕ) (bs o : List ℕ) (p i : ℕ) : Type 0 where
  pub some : i ≤ length bs
  pub going : Going o₀ p₀ (pairs_of bs) o p (pairs_of (drop i bs))

pub none_paired : (o : List ℕ) (p : ℕ) (bs : List ℕ) → p + 2 * length bs ≤ length o → Pairwise o p bs o p 0
none_paired o p bs h = record { some = zero-le; going = begin o p (pairs_of bs) (omega (arith, length_pairs bs)) }

pub paired_to : {o₀ : List ℕ} {p₀ : ℕ} {bs o : List ℕ} {p q i : ℕ} → p ≡ q → Pairwise o₀ p₀ bs o p i → Pairwise o₀ p₀ bs o q i
paired_to {o₀} {p₀} {bs} {o} {p} {q} {i} e = subst (λ (k : ℕ). Pairwise o₀ p₀ bs o k i) e

module _ {o₀ : List ℕ} {p₀ : ℕ} {bs o : List ℕ} {p i : ℕ} (g : Pairwise o₀ p₀ bs o p i) where
  pairs_left : i < length bs → pairs_of (drop i bs) ≡ digit_of (get_or bs i 0 / 16) ∷ (digit_of (get_or bs i 0 % 16) ∷ pairs_of (drop (i + 1) bs))
  unfolding pairs_of
  pairs_left l = rw (add-one) (ap pairs_of (drop-cons bs i 0 l))

  pub pair_room : i < length bs → p + 1 < length o
  pair_room l = omega (arith, g.going.room, ap length (pairs_left l))

  pub pair_put : {x y : ℕ} → i < length bs → x ≡ digit_of (get_or bs i 0 / 16) → y ≡ digit_of (get_or bs i 0 % 16)
      → Pairwise o₀ p₀ bs (set (set o p x) (p + 1) y) (p + 2) (i + 1)
  pair_put {x} {y} l e f =
      let r : List ℕ = pairs_of (drop (i + 1) bs) in
      let c : pairs_of (drop i bs) ≡ x ∷ (y ∷ r) = rw (e, f) (pairs_left l) in
      let m : p + 1 + 1 ≡ p + 2 = omega arith in
      record {
        some = omega arith;
        going = subst (λ (k : ℕ). Going o₀ p₀ (pairs_of bs) (set (set o p x) (p + 1) y) k r) m
            (go_byte (set o p x) (p + 1) y r (go_byte o p x (y ∷ r) (subst (Going o₀ p₀ (pairs_of bs) o p) c g.going)));
      }

  pub all_paired : length bs ≤ i → Put o₀ p₀ (pairs_of bs) p o
  unfolding pairs_of
  all_paired l = gone o p (subst (Going o₀ p₀ (pairs_of bs) o p) (ap pairs_of (drop_of_length-le bs l)) g.going)

-- ---- sums without what passes 255

pub low_fold : (s : ℕ) (bs : List ℕ) → s < 256 → fold (λ n b. (n + b) % 256) s bs ≡ (s + total bs) % 256
unfolding total
low_fold s [] h = omega arith
low_fold s (b ∷ bs) h = low_fold ((s + b) % 256) bs (omega arith) ∙ omega arith

-- what comes to a multiple of 256 with the sum of two parts
pub sum_of_parts : (a b : List ℕ) → (0 + (256 - (total a % 256 + total b % 256) % 256)) % 256 ≡ sum_byte (a ++ b)
unfolding sum_byte
sum_of_parts a b = rw (zero-add, total_append a b) (ap (λ (n : ℕ). (256 - n) % 256) (split_sum (total a) (total b)))
  where
    split_sum : (m n : ℕ) → (m % 256 + n % 256) % 256 ≡ (m + n) % 256
    split_sum m n = omega arith

-- ---- a line: the colon, three runs of pairs, and the line feed

pairs_append : (a b : List ℕ) → pairs_of (a ++ b) ≡ pairs_of a ++ pairs_of b
unfolding pairs_of
pairs_append [] b = refl
pairs_append (x ∷ a) b = ap (λ (l : List ℕ). digit_of (x / 16) ∷ (digit_of (x % 16) ∷ l)) (pairs_append a b)

unfoldable pub head_of : ℕ → ℕ → ℕ → List ℕ
head_of n address type = n ∷ (address / 256 ∷ (address % 256 ∷ (type ∷ [])))

abbrev pub line_of : ℕ → ℕ → List ℕ → List ℕ
line_of address type bs = record_line address type bs ++ (10 ∷ [])

line_parts : (address type : ℕ) (bs : List ℕ)
    → line_of address type bs
    ≡ 58 ∷ (pairs_of (head_of (length bs) address type) ++ (pairs_of bs ++ (pairs_of (sum_byte (head_of (length bs) address type ++ bs) ∷ []) ++ (10 ∷ []))))
unfolding record_line record_bytes head_of
line_parts address type bs =
    let h : List ℕ = head_of (length bs) address type in
    let s : List ℕ = sum_byte (h ++ bs) ∷ [] in
    ap (λ (l : List ℕ). 58 ∷ (l ++ (10 ∷ []))) (pairs_append (h ++ bs) s ∙ ap (λ (l : List ℕ). l ++ pairs_of s) (pairs_append h bs))
    ∙ ap (λ (l : List ℕ). 58 ∷ l) (append_assoc (pairs_of h ++ pairs_of bs) (pairs_of s) (10 ∷ []) ∙ append_assoc (pairs_of h) (pairs_of bs) (pairs_of s ++ (10 ∷ [])))

pub length_line : (address type : ℕ) (bs : List ℕ) → length (line_of address type bs) ≡ 12 + 2 * length bs
length_line address type bs = simp (length-append, text_length_lem) (omega arith)

module _ (o : List ℕ) (p address type : ℕ) (bs h s : List ℕ) (room : p + 12 + 2 * length bs ≤ length o) (head : h ≡ head_of (length bs) address type) (sum : s ≡ sum_byte (h ++ bs) ∷ []) where
  tail : List ℕ
  tail = pairs_of bs ++ (pairs_of s ++ (10 ∷ []))

  whole : line_of address type bs ≡ 58 ∷ (pairs_of h ++ tail)
  unfolding tail
  whole = line_parts address type bs ∙ ap₂ (λ (a b : List ℕ). 58 ∷ (pairs_of a ++ (pairs_of bs ++ (pairs_of b ++ (10 ∷ []))))) (sym head) (ap (λ (a : List ℕ). sum_byte (a ++ bs) ∷ []) (sym head) ∙ sym sum)

  first : Going o p (line_of address type bs) (set o p 58) (p + 1) (pairs_of h ++ tail)
  first = go_byte o p 58 (pairs_of h ++ tail) (subst (Going o p (line_of address type bs) o p) whole (begin o p (line_of address type bs) (omega (arith, length_line address type bs))))

  -- behind the colon the head has room, then the data, the sum and the line feed
  module _ {p₁ : ℕ} {o₁ : List ℕ} (g : Put (set o p 58) (p + 1) (pairs_of h) p₁ o₁) where
    second : Going o p (line_of address type bs) o₁ p₁ (pairs_of bs ++ (pairs_of s ++ (10 ∷ [])))
    unfolding tail
    second = go_on (set o p 58) (p + 1) (pairs_of h) tail first g

    pub data_room : p₁ + 2 * length bs ≤ length o₁
    data_room = omega (arith, fits o₁ p₁ (pairs_of bs) (pairs_of s ++ (10 ∷ [])) second, length_pairs bs)

    module _ {p₂ : ℕ} {o₂ : List ℕ} (g₂ : Put o₁ p₁ (pairs_of bs) p₂ o₂) where
      third : Going o p (line_of address type bs) o₂ p₂ (pairs_of s ++ (10 ∷ []))
      third = go_on o₁ p₁ (pairs_of bs) (pairs_of s ++ (10 ∷ [])) second g₂

      pub sum_room : p₂ + 2 * length s ≤ length o₂
      sum_room = omega (arith, fits o₂ p₂ (pairs_of s) (10 ∷ []) third, length_pairs s)

      module _ {p₃ : ℕ} {o₃ : List ℕ} (g₃ : Put o₂ p₂ (pairs_of s) p₃ o₃) where
        fourth : Going o p (line_of address type bs) o₃ p₃ (10 ∷ [])
        fourth = go_on o₂ p₂ (pairs_of s) (10 ∷ []) third g₃

        pub feed_room : p₃ < length o₃
        feed_room = omega (arith, fourth.room)

        pub line_put : Put o p (line_of address type bs) (p₃ + 1) (set o₃ p₃ 10)
        line_put = gone (set o₃ p₃ 10) (p₃ + 1) (go_byte o₃ p₃ 10 [] fourth)
