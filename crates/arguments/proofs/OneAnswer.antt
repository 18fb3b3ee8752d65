-- No two answers fit one promise. Assumes nothing.
use Rattle.model.proofs.OneAnswer.{OneAnswer, agree}
use Rattle.arguments.proofs.argument.word.Reads as word
use Rattle.arguments.proofs.argument.is_standard.Reads as is-standard
use Rattle.arguments.proofs.words.CommandTryFromU8.try_from.Reads as numbered-command
use Rattle.arguments.proofs.words.WordFromU8.from.Reads as numbered-word
use Rattle.arguments.proofs.invocation.FaultFromU8.from.Reads as numbered-fault
use Rattle.arguments.proofs.numbers.InvocationFromNumbers.from.Reads as by-numbers
use Rattle.arguments.proofs.invocation.start.Reads as start
use Rattle.arguments.proofs.invocation.reports_on.Reads as reports-on
use Rattle.arguments.proofs.invocation.step.Reads as step
use Rattle.arguments.proofs.invocation.finish.Reads as finish

pub one_answer_word : OneAnswer word.Learnt
one_answer_word κs a r r' s s' p q = agree p q

pub one_answer_is_standard : OneAnswer is-standard.Learnt
one_answer_is_standard κs a r r' s s' p q = agree p q

pub one_answer_start : OneAnswer start.Learnt
one_answer_start κs a r r' s s' p q = agree p q

pub one_answer_reports_on : OneAnswer reports-on.Learnt
one_answer_reports_on κs a r r' s s' p q = agree p q

pub one_answer_step : OneAnswer step.Learnt
one_answer_step κs a r r' s s' p q = agree p q

pub one_answer_finish : OneAnswer finish.Learnt
one_answer_finish κs a r r' s s' p q = agree p q

pub one_answer_numbered_command : OneAnswer numbered-command.Learnt
one_answer_numbered_command κs a r r' s s' p q = agree p q

pub one_answer_numbered_word : OneAnswer numbered-word.Learnt
one_answer_numbered_word κs a r r' s s' p q = agree p q

pub one_answer_by_numbers : OneAnswer by-numbers.Learnt
one_answer_by_numbers κs a r r' s s' p q = agree p q

pub one_answer_numbered_fault : OneAnswer numbered-fault.Learnt
one_answer_numbered_fault κs a r r' s s' p q = agree p q
