use Rattle.std.proofs.Common.{◌≡◌, ◌∙◌, subst, List, ℕ}
use lib.ListN.{take}
use Rattle.model.specs.Programs.{decimal}
use Rattle.put.specs.Put.{Put}
use Rattle.put.proofs.PutLaw.{put_two}
use Rattle.put.proofs.DecimalLaw.{decimal_is}
use Rattle.put.proofs.put_field.Goals as goal

-- `put::put_field` meets its contract: the text, then the digits. Assumes nothing.
pub returns-clause-is : goal.returns-clause-is
returns-clause-is c =
    let a = c.args in
    let first = c.put_bytes-number in
    let second = c.put_bytes in
    let spelled : take c.decimal-count.result c.decimal-count.new.out ≡ decimal a.n =
    c.decimal-count.ensures.digits ∙ decimal_is c.decimal-count.result a.n c.decimal-count.ensures.len in
    put_two a.out.now a.at a.text.now (decimal a.n) first.ensures
    (subst (λ (x : List ℕ). Put first.new.out first.result x second.result second.new.out) spelled second.ensures)
