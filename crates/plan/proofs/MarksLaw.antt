-- The marks of the kinds that were seen. Assumes nothing.
use Rattle.std.proofs.Common.{◌≡◌, ℕ, zero, suc, ◌/◌, ◌%◌, ◌^◌, ◌<◌, Bool, true, false, ◌||◌, eqb, List, length, get_or, set, replicate, sym, refl, ap, ◌∙◌, arith, get_or-set_other, get_or-set_same, eq-eqb, ne_eqb, eqb-true}
use mathlib.Core.Bool.{or-true, or-false}
use borrow.Author.Tests.{eqb-false}
use lib.Bits.{bit_or}
use lib.ListN.{get_or-replicate}
use Rattle.bits.specs.Bit.{is_one, bit}
use Rattle.bits.proofs.BitLaw.{bit_zero, bit_suc, bit_none, bit_or_lem, pow_half, pow_even}
use Rattle.plan.specs.Checking.{marked, with_mark}

bit_own : (a : ℕ) → bit (2 ^ a) a ≡ true
bit_own zero = bit_zero 1
bit_own (suc a) = bit_suc (2 ^ suc a) a ∙ ap (λ (n : ℕ). bit n a) (pow_half a) ∙ bit_own a

bit_other : (a b : ℕ) → (a ≡ b → ⊥) → bit (2 ^ a) b ≡ false
bit_other zero zero h = absurd (h refl)
bit_other zero (suc b) h = bit_suc 1 b ∙ bit_none b
bit_other (suc a) zero h = bit_zero (2 ^ suc a) ∙ ap is_one (pow_even a)
bit_other (suc a) (suc b) h = bit_suc (2 ^ suc a) b ∙ ap (λ (n : ℕ). bit n b) (pow_half a) ∙ bit_other a b (λ e. h (ap suc e))

same_place : (k x : ℕ) → k / 64 ≡ x / 64 → k % 64 ≡ x % 64 → k ≡ x
same_place k x e f = omega (arith, e, f)

-- the mark of k is set, and every other kind's stays
pub mark_sets : (seen : List ℕ) (k x : ℕ) → k / 64 < length seen → marked (with_mark seen k) x ≡ (eqb k x || marked seen x)
unfolding marked with_mark
mark_sets seen k x l = go (eqb (k / 64) (x / 64)) refl (eqb (k % 64) (x % 64)) refl
  where
    low : (b : Bool) → k / 64 ≡ x / 64 → (t : Bool) → eqb (k % 64) (x % 64) ≡ t → b || bit (2 ^ (k % 64)) (x % 64) ≡ eqb k x || b
    low b q true f =
        let r : k % 64 ≡ x % 64 = eqb-true (k % 64) (x % 64) f in
        ap (λ (n : ℕ). b || bit (2 ^ (k % 64)) n) (sym r) ∙ ap (λ (z : Bool). b || z) (bit_own (k % 64)) ∙ or-true b
        ∙ ap (λ (z : Bool). z || b) (sym (eq-eqb k x (same_place k x q r)))
    low b q false f =
        let r : k % 64 ≡ x % 64 → ⊥ = eqb-false (k % 64) (x % 64) f in
        ap (λ (z : Bool). b || z) (bit_other (k % 64) (x % 64) r) ∙ or-false b
        ∙ ap (λ (z : Bool). z || b) (sym (ne_eqb k x (λ z. r (ap (λ (n : ℕ). n % 64) z))))

    go : (s : Bool) → eqb (k / 64) (x / 64) ≡ s → (t : Bool) → eqb (k % 64) (x % 64) ≡ t
        → bit (get_or (set seen (k / 64) (bit_or (get_or seen (k / 64) 0) (2 ^ (k % 64)))) (x / 64) 0) (x % 64) ≡ (eqb k x || bit (get_or seen (x / 64) 0) (x % 64))
    go false e t f =
        let h : k / 64 ≡ x / 64 → ⊥ = eqb-false (k / 64) (x / 64) e in
        ap (λ (n : ℕ). bit n (x % 64)) (get_or-set_other seen (k / 64) (x / 64) (bit_or (get_or seen (k / 64) 0) (2 ^ (k % 64))) 0 (λ z. h (sym z)))
        ∙ ap (λ (b : Bool). b || bit (get_or seen (x / 64) 0) (x % 64)) (sym (ne_eqb k x (λ z. h (ap (λ (n : ℕ). n / 64) z))))
    go true e t f =
        let q : k / 64 ≡ x / 64 = eqb-true (k / 64) (x / 64) e in
        ap (λ (n : ℕ). bit (get_or (set seen (k / 64) (bit_or (get_or seen (k / 64) 0) (2 ^ (k % 64)))) n 0) (x % 64)) (sym q)
        ∙ ap (λ (n : ℕ). bit n (x % 64)) (get_or-set_same seen (k / 64) (bit_or (get_or seen (k / 64) 0) (2 ^ (k % 64))) 0 l)
        ∙ bit_or_lem (get_or seen (k / 64) 0) (2 ^ (k % 64)) (x % 64)
        ∙ ap (λ (n : ℕ). bit (get_or seen n 0) (x % 64) || bit (2 ^ (k % 64)) (x % 64)) q
        ∙ low (bit (get_or seen (x / 64) 0) (x % 64)) q t f

pub no_marks : (x : ℕ) → x < 0x8000 → marked (replicate 1024 0) x ≡ false
unfolding marked
no_marks x h = ap (λ (n : ℕ). bit n (x % 64)) (get_or-replicate 1024 (x / 64) 0 0 (omega arith)) ∙ bit_none (x % 64)
