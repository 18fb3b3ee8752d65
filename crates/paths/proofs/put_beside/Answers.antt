use mathlib.Core.Path.{subst}
use mathlib.Core.List.{◌++◌}
use Prim.Native.Nat.{ℕ}
use lib.ListN.{take}
use Rattle.put.specs.Put.{Put}
use Rattle.put.proofs.PutLaw.{put_two}
use Rattle.paths.proofs.put_beside.Goals as goal

-- `paths::put_beside` meets its contract: the folder, and the name behind it. Assumes nothing.
pub returns : goal.returns
returns c =
    let a = c.args in
    let end = c.put_bytes in
    subst (λ (n : ℕ). Put a.out.now 0 (take n a.path.now ++ a.name.now) end.result end.new.out) c.folder_length-n.ensures.is (put_two a.out.now 0 _ _ c.put_bytes-at.ensures end.ensures)
