-- The invocation that eight numbers stand for. A number that stands for nothing of its own is taken as the one that means the same: a command past the last takes no file, as the last; more files than two are several; any other state reads the next argument as it comes; any other fault is the last one's. (docs/DECISIONS.md)
use Rattle.std.specs.Prelude.{cond, ℕ, Option, Some, None, Ok, Err, eqb}
use Rattle.arguments.specs.Arguments.{command_numbered, numbered, fault_numbered}
use Rattle.arguments.specs.declared.words.Command.{Command}
use Rattle.arguments.specs.declared.words.Command.TheVariants.{Version}
use Rattle.arguments.specs.declared.invocation.Files.{Files}
use Rattle.arguments.specs.declared.invocation.Files.TheVariants as files
use Rattle.arguments.specs.declared.invocation.Next.{Next}
use Rattle.arguments.specs.declared.invocation.Next.TheVariants as next
use Rattle.arguments.specs.declared.invocation.Misuse.{Misuse}
use Rattle.arguments.specs.declared.invocation.Invocation.{Invocation}
use Rattle.arguments.specs.declared.numbers.Numbers.{Numbers}

abbrev pub command_of : ℕ → Option Command
command_of n = cond (eqb n 0) None (elim (command_numbered n) [ Ok c ↦ Some c | Err e ↦ Some Version ])

abbrev pub files_of : ℕ → ℕ → Files
files_of n first =
    cond (eqb n 0) files.None
    (cond (eqb n 1) (files.One first)
    (files.Several first))

abbrev pub next_of : ℕ → Next
next_of n =
    cond (eqb n 1) next.Output
    (cond (eqb n 2) next.Name
    next.Any)

abbrev pub misuse_of : ℕ → ℕ → Option Misuse
misuse_of f i = cond (eqb f 0) None (Some (record { fault = fault_numbered f; place = numbered i }))

abbrev pub invocation_of : Numbers → Invocation
invocation_of p = record { command = command_of p.command; topic = command_of p.topic; files = files_of p.files p.file; output = numbered p.output; next = next_of p.state; misuse = misuse_of p.fault p.place }
