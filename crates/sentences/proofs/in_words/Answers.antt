use Rattle.std.proofs.Common.{◌≡◌, ◌++◌, ◌∙◌, sym, ap, append_assoc}
use lib.Seq.{sets}
use Rattle.error.specs.Refused.{detail_of}
use Rattle.model.specs.Programs.{decimal}
use Rattle.put.proofs.PutLaw.{put_two}
use Rattle.sentences.specs.Sentences.{sentence}
use Rattle.sentences.proofs.in_words.Goals as goal

-- `sentences::in_words` meets its contract: the number stands between two texts. Assumes nothing.
pub returns-in-Some-clause-leaves : goal.returns-in-Some-clause-leaves
returns-in-Some-clause-leaves c =
    let before = c.as_bytes-in-Some in
    let behind = c.as_bytes-in-Some-2 in
    let whole : (before.result.now ++ decimal c.detail.result) ++ behind.result.now ≡ sentence c.args.refusal =
    simp (append_assoc, before.ensures.value, behind.ensures.value, c.detail.ensures)
    (sym (c.in-Some.ensures.fills (detail_of c.args.refusal)) ∙ c.template-text.ensures.says) in
    (put_two c.args.out.now 0 _ _ c.put_field-end.ensures.is c.put_bytes-in-Some.ensures).stored ∙ ap (sets c.args.out.now 0) whole
