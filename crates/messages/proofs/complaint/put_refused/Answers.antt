use Rattle.std.proofs.Common.{◌≡◌, ◌∙◌, ap₂, subst, ℕ, ◌≤◌, ◌++◌, ◌∷◌, [], List, length, take, arith}
use lib.Seq.{sets, length-sets}
use Rattle.model.specs.Programs.{lines}
use Rattle.put.specs.Put.{Put}
use Rattle.put.proofs.PutLaw.{put_part}
use Rattle.messages.specs.Complaints.{naming}
use Rattle.messages.proofs.complaint.put_refused.Goals as goal

-- `messages::complaint::put_refused` meets its contract: a sentence is read back from the front of its buffer. Assumes nothing.
front : (o s : List ℕ) {n : ℕ} {w : List ℕ} → n ≡ length s → w ≡ sets o 0 s → n ≤ length w → take n w ≡ s
front o s e f l = ap₂ take e f ∙ put_part o 0 s (grind (arith, length-sets))

pub returns-clause-is : goal.returns-clause-is
returns-clause-is c =
    let a = c.args in
    let words = c.in_words-n.ensures in
    let said = front _ _ words.is words.leaves words.fits.0 in
    subst (λ (x : List ℕ). Put a.out.now 0 (lines ((naming a.name.now ++ x) ∷ [])) c.put_line.result c.put_line.new.out) said c.put_line.ensures.is
