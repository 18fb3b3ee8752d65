use mathlib.Core.Path.{sym, ◌∙◌}
use borrow.Author.Tests.{not-true}
use Rattle.lemmas.proofs.StoredLaw.{changed_none}
use Rattle.mending.proofs.AgreeLaw.{nothing_wanted}
use Rattle.mending.proofs.header.mend_header.Goals as goal

-- `mending::header::mend_header` meets its contract. Assumes nothing.
pub returns-then-not-needs_scrub : goal.returns-then-not-needs_scrub
returns-then-not-needs_scrub c =
    let n = c.needs_scrub in
    let x = c.args.bytes.now in
    record { leaves = sym (nothing_wanted x (sym c.requires.1 ∙ sym n.ensures ∙ not-true n.result c.if-not-needs_scrub.true-raw)); counts = sym (changed_none x) }
