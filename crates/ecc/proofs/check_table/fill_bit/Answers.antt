use mathlib.Core.Path.{◌≡◌, ap, ◌∙◌, subst, sym}
use Prim.Native.Nat.{ℕ, ◌+◌, ◌*◌, ◌%◌, ◌^◌}
use native.Mathlib.Nat.{pow-suc}
use native.Mathlib.Numerals.{add-one}
use native.Mathlib.Omega.{arith}
use lib.Bits.{bit_xor}
use Rattle.model.specs.Bytes.{at}
use Rattle.ecc.specs.CheckTable.{entry_at, Filled}
use Rattle.ecc.proofs.CheckTableLaw.{bit_count, bit_fits, twice, put}
use Rattle.ecc.proofs.check_table.fill_bit.Goals as goal

pub loop-j-init : goal.loop-j-init
loop-j-init c =
    let g = c.args in
    let e = bit_count g.i c.requires.1 in
    let m : 256 * g.k + 2 ^ g.i + 0 ≡ 256 * g.k + 2 ^ g.i = omega arith in
    (e, omega (arith, e, bit_fits g.i c.requires.1), rw (e, m) c.requires.3)

pub loop-j-preserved : goal.loop-j-preserved
loop-j-preserved c =
    let l = c.loop-j in
    let g = c.args in
    let t = l.table in
    let n : 256 * g.k + 2 ^ g.i + (l.j + 1) ≡ 256 * g.k + 2 ^ g.i + l.j + 1 = omega arith in (
      l.invariant.0,
      l.invariant.1,
      rw (l.invariant.0, n)
          (put (256 * g.k + 2 ^ g.i + l.j) (bit_xor (at t (256 * g.k + l.j)) g.column) t (omega arith)
          (ap (λ (v : ℕ). bit_xor v g.column) (l.invariant.2.right (256 * g.k + l.j) (omega arith)) ∙ ap (bit_xor (entry_at (256 * g.k + l.j))) c.requires.2
          ∙ sym (twice g.k g.i l.j c.requires.0 c.requires.1 (omega arith)))
          (rw l.invariant.0 at l.invariant.2)),
    )

pub returns : goal.returns
returns c =
    let l = c.loop-j in
    let g = c.args in
    let n : 256 * g.k + (1 * 2 ^ g.i) % 2 ^ 64 + l.j ≡ 256 * g.k + 2 ^ (g.i + 1) = omega (arith, pow-suc 2 g.i, ap (λ (i : ℕ). 2 ^ i) (add-one g.i)) in
    subst (λ (m : ℕ). Filled m l.table) n l.invariant.2
