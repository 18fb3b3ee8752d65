use mathlib.Core.Path.{◌≡◌, ap, ◌∙◌, subst}
use Prim.Native.Nat.{ℕ}
use native.Mathlib.Omega.{arith}
use lib.ListN.{length, length-append}
use mathlib.Core.List.{List, ◌++◌}
use Rattle.model.proofs.BytesLaw.{length_le_bytes}
use Rattle.model.specs.Bytes.{le_bytes}
use Rattle.model.specs.Crc.{crc32}
use Rattle.model.specs.Writer.{prologue_start, prologue_bytes}
use Rattle.lemmas.proofs.ImageLaw.{length_prologue_start}
use Rattle.put.specs.Put.{Put}
use Rattle.put.proofs.PutLaw.{Going, begin, go_on, last, put_read}
use Rattle.writer.proofs.prologue.put_prologue.Goals as goal

pub slice_bounds-crc32-end : goal.slice_bounds-crc32-end
unfolding prologue_start le_bytes
slice_bounds-crc32-end c = omega (arith, c.put_prologue_start-checksum.ensures)

pub put_number-requires : goal.put_number-requires
unfolding prologue_start le_bytes
put_number-requires c = omega (arith, c.put_prologue_start-checksum.ensures)

pub returns : goal.returns
unfolding prologue_bytes
returns c =
    let o : List ℕ = c.args.out.now in
    let p : ℕ = c.args.at in
    let s : List ℕ = prologue_start c.args.regions c.args.flags in
    let long : length s ≡ 12 = length_prologue_start c.args.regions c.args.flags in
    let g0 : Going o p (prologue_bytes c.args.regions c.args.flags) o p (s ++ le_bytes 4 (crc32 s)) = begin o p (s ++ le_bytes 4 (crc32 s)) (omega (arith, c.requires, length-append s (le_bytes 4 (crc32 s)), length_le_bytes 4 (crc32 s))) in
    let g1 = go_on _ _ s (le_bytes 4 (crc32 s)) g0 c.put_prologue_start-checksum.ensures in
    let e : c.crc32-crc.result ≡ crc32 s = c.crc32-crc.ensures.value ∙ ap crc32 (put_read o p s c.put_prologue_start-checksum.ensures (omega (arith, c.requires))) in
    last _ _ (le_bytes 4 (crc32 s)) g1 (subst (λ (k : ℕ). Put c.put_prologue_start-checksum.new.out c.put_prologue_start-checksum.result (le_bytes 4 k) c.put_number.result c.put_number.new.out) e c.put_number.ensures)
