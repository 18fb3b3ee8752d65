use mathlib.Core.Path.{◌≡◌, sym, ap}
use mathlib.Core.Bool.{Bool, cond}
use mathlib.Core.List.{List, []}
use Prim.Native.Nat.{ℕ, ◌≤◌, ◌<◌, zero-le}
use native.Mathlib.Omega.{arith}
use borrow.Author.Tests.{lt-ltb, le-ltb}
use lib.ListN.{length}
use lib.Seq.{sets}
use Rattle.io.proofs.Counting.{prefix_len_of_le}
use Rattle.model.specs.Programs.{Found}
use Rattle.text.specs.Told.{file_lines, file_report}
use Rattle.put.proofs.LinesLaw.{text_put}
use Rattle.text.proofs.told.file_report.Goals as goal

-- `text::told::file_report` meets its contract. Assumes nothing.
named : (name : List ℕ) (several : Bool) (f : Found) → length name ≤ 4096 → file_lines name several f ≡ file_report name several f
unfolding file_report
named name several f short = sym (ap (λ (t : Bool). cond t [] (file_lines name several f)) (le-ltb 4096 (length name) short))

unnamed : (name : List ℕ) (several : Bool) (f : Found) → 4096 < length name → [] ≡ file_report name several f
unfolding file_report
unnamed name several f long = sym (ap (λ (t : Bool). cond t [] (file_lines name several f)) (lt-ltb 4096 (length name) long))

pub returns-then-name-gt-LONGEST_NAME : goal.returns-then-name-gt-LONGEST_NAME
returns-then-name-gt-LONGEST_NAME c =
    let a = c.args in
    let e = unnamed a.name.now a.several _ c.if-name-gt-LONGEST_NAME.true in
    record { is = ap length e; leaves = ap (sets a.out.now 0) e; fits = prefix_len_of_le 0 a.out.now zero-le }

pub returns : goal.returns
returns c =
    let a = c.args in
    let all = c.put_report in
    let l = text_put a.out.now _ _ all.ensures.is (named a.name.now a.several _ c.if-name-gt-LONGEST_NAME.false) in
    record { is = l.0; leaves = l.1; fits = prefix_len_of_le _ _ (omega (arith, all.ensures.few, all.ensures.is.long, c.if-name-gt-LONGEST_NAME.false)) }
