use mathlib.Core.Path.{◌≡◌, sym, ap, ap₂, ◌∙◌}
use mathlib.Core.Bool.{Bool, true, false}
use mathlib.Core.List.{List}
use Prim.Native.Nat.{ℕ, ◌+◌, ◌-◌, ◌*◌, ◌/◌, ◌%◌, ◌^◌, ◌<◌}
use native.Mathlib.Nat.{div-one, mod-lt, div-add-mod'}
use native.Mathlib.Omega.{arith}
use native.Mathlib.Numerals.{add-one}
use lib.Dec.{lit<}
use lib.Bits.{bit_xor, xor_zero_r}
use lib.Pow.{shr-shr, field, mod-mod-pow}
use lib.ListN.{length, get_or, take, drop}
use lib.Seq.{drop-cons, get_or-take}
use Rattle.bits.specs.Bit.{bit, is_one}
use Rattle.bits.specs.Linear.{xor_columns, pick}
use Rattle.bits.proofs.BitLaw.{xor_assoc, bit_zero}
use Rattle.model.specs.Parity.{columns, check_of}
use Rattle.ecc.proofs.check_byte.Goals as goal
use Rattle.ecc.proofs.check_byte.Goals.{then-byte-i-eq1, else-byte-i-eq1}

-- `ecc::check_byte` meets its contract. The invariant: with the columns of the bits to come, `s` is the check byte.
-- one column and the rest
step : (cs : List ℕ) (w i : ℕ) → i < length cs
    → xor_columns (drop i cs) (w / 2 ^ i) ≡ bit_xor (pick (bit (w / 2 ^ i) 0) (get_or cs i 0)) (xor_columns (drop (i + 1) cs) (w / 2 ^ (i + 1)))
unfolding xor_columns
step cs w i h =
    ap (λ (l : List ℕ). xor_columns l (w / 2 ^ i)) (drop-cons cs i 0 h)
    ∙ ap₂ (λ (x : ℕ) (l : List ℕ). bit_xor (pick (bit (w / 2 ^ i) 0) (get_or cs i 0)) (xor_columns l x)) (shr-shr w i 1)
    (ap (λ (k : ℕ). drop k cs) (sym (add-one i)))

-- bit i, taken out of its byte
in_byte : (w i : ℕ) → w / 2 ^ (i / 8 * 8) % 256 / 2 ^ (i % 8) % 2 ≡ w / 2 ^ i % 2
in_byte w i =
    let r : i % 8 < 8 = mod-lt i (lit< tt) in
    let s : 8 - i % 8 + i % 8 ≡ 8 = omega arith in
    let o : 7 - i % 8 + 1 ≡ 8 - i % 8 = omega arith in
    let e : i / 8 * 8 + i % 8 ≡ i = div-add-mod' i 8 in
    ap (λ (k : ℕ). v % 2 ^ k / 2 ^ (i % 8) % 2) (sym s)
    ∙ ap (λ (x : ℕ). x % 2) (field v (8 - i % 8) (i % 8))
    ∙ ap (λ (k : ℕ). v / 2 ^ (i % 8) % 2 ^ k % 2) (sym o)
    ∙ mod-mod-pow (v / 2 ^ (i % 8)) (7 - i % 8) 1
    ∙ ap (λ (x : ℕ). x % 2) (shr-shr w (i / 8 * 8) (i % 8) ∙ ap (λ (k : ℕ). w / 2 ^ k) e)
  where
    v : ℕ
    v = w / 2 ^ (i / 8 * 8)

module _ (w i : ℕ) where
  set : w / 2 ^ (i / 8 * 8) % 256 / 2 ^ (i % 8) % 2 ≡ 1 → bit (w / 2 ^ i) 0 ≡ true
  set e = bit_zero (w / 2 ^ i) ∙ ap is_one (sym (in_byte w i) ∙ e)

  unset : (w / 2 ^ (i / 8 * 8) % 256 / 2 ^ (i % 8) % 2 ≡ 1 → ⊥) → bit (w / 2 ^ i) 0 ≡ false
  unset f = let z : w / 2 ^ i % 2 ≡ 0 = omega (arith, in_byte w i) in bit_zero (w / 2 ^ i) ∙ ap is_one z

-- a turn: the column at i goes into s where bit i is set
turn : (w s s' i : ℕ) → i < 64 → s' ≡ bit_xor s (pick (bit (w / 2 ^ i) 0) (get_or columns i 0))
    → bit_xor s (xor_columns (drop i (take 64 columns)) (w / 2 ^ i)) ≡ check_of w
    → bit_xor s' (xor_columns (drop (i + 1) (take 64 columns)) (w / 2 ^ (i + 1))) ≡ check_of w
unfolding columns
turn w s s' i h e inv =
    ap (λ (x : ℕ). bit_xor x rest) (e ∙ ap (λ (x : ℕ). bit_xor s (pick (bit (w / 2 ^ i) 0) x)) (sym (get_or-take 64 columns i 0 h)))
    ∙ xor_assoc s (pick (bit (w / 2 ^ i) 0) (get_or (take 64 columns) i 0)) rest
    ∙ ap (bit_xor s) (sym (step (take 64 columns) w i h)) ∙ inv
  where
    rest : ℕ
    rest = xor_columns (drop (i + 1) (take 64 columns)) (w / 2 ^ (i + 1))

pub loop-i-init : goal.loop-i-init
unfolding check_of
loop-i-init c = ap (xor_columns (take 64 columns)) (div-one c.args.«data»)

pub loop-i-preserved : goal.loop-i-preserved
unfolding columns
loop-i-preserved c =
    let d = c.args.«data» in
    turn d c.loop-i.s c.if-byte-i-eq1.s c.loop-i.i c.loop-i-test.true
    (elim c.if-byte-i-eq1.branch [
      | then-byte-i-eq1 w ↦ w.s-is ∙ ap (λ (t : Bool). bit_xor c.loop-i.s (pick t (get_or columns c.loop-i.i 0))) (sym (set d c.loop-i.i w.if-byte-i-eq1.true))
      | else-byte-i-eq1 w ↦ w.s-is ∙ sym (xor_zero_r c.loop-i.s) ∙ ap (λ (t : Bool). bit_xor c.loop-i.s (pick t (get_or columns c.loop-i.i 0))) (sym (unset d c.loop-i.i w.if-byte-i-eq1.false))
    ])
    c.loop-i.invariant

pub returns : goal.returns
unfolding xor_columns columns
returns c =
    let e : c.loop-i.i ≡ 64 = omega arith in
    sym (xor_zero_r c.loop-i.s)
    ∙ ap (λ (k : ℕ). bit_xor c.loop-i.s (xor_columns (drop k (take 64 columns)) (c.args.«data» / 2 ^ k))) (sym e)
    ∙ c.loop-i.invariant
