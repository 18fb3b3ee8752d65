use Rattle.std.proofs.lemmas.Str.Pattern.{split_parts}
use Rattle.std.proofs.Common.{arith}
use Rattle.sentences.proofs.FilledLaw.{filled_around}
use Rattle.sentences.proofs.split.Goals as goal

-- `sentences::split` meets its contract: a text is cut at its first #. Assumes nothing.
pub returns-clause-fills : goal.returns-clause-fills
returns-clause-fills c n = filled_around n c.args.template.now c.split_once.result (split_parts 35 _ _ c.split_once.ensures.cases (omega arith))
