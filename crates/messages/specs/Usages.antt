-- Help, and what is said of arguments that ask for nothing. (FORMAT 14)
use Rattle.std.specs.Prelude.{cond, List, [], ◌++◌, ℕ, Option, Some, ltb, length}
use Rattle.paths.specs.Paths.{longer_than_names}
use Rattle.model.specs.Programs.{text}
use Rattle.arguments.specs.declared.words.Command.{Command}
use Rattle.arguments.specs.declared.words.Command.TheVariants.{Report, Mend}
use Rattle.arguments.specs.declared.invocation.Fault.{Fault}
use Rattle.arguments.specs.declared.invocation.Fault.TheVariants.{NoCommand, NoSuchCommand, NoSuchOption, NoFile, SecondFile, NoOutput, SecondOutput, NotExpected}
use Rattle.messages.specs.Complaints.{naming}

-- on a command that has a text of its own, and on all of them otherwise
abbrev pub help_text : Option Command → List ℕ
help_text (Some Report) = text "usage: kw report FILE...\n\nSays of each image how many regions it has, whether a copy of its header is\ndamaged, and how many protected words were examined, can be corrected and can't.\n"
help_text (Some Mend) = text "usage: kw mend FILE [-o OUT]\n\nRepairs what votes and parity decide, in FILE itself or into OUT, and says how\nmany bytes changed and how many words remain uncorrectable.\n"
help_text _ = text "usage: kw report FILE...\n       kw mend FILE [-o OUT]\n       kw help [COMMAND]\n       kw version\n\nFILE - is standard input, and OUT - is standard output.\n\nExit status: 0 nothing is wrong, 1 damage, 2 refused or too long,\n3 usage, or a file that can't be read or written.\n"

abbrev pub version_text : List ℕ
version_text = text "kw 0.2.0, image format 2\n"

abbrev pub fault_sentence : Fault → List ℕ
fault_sentence NoCommand = text "a command is missing"
fault_sentence NoSuchCommand = text "no such command"
fault_sentence NoSuchOption = text "no such option"
fault_sentence NoFile = text "a file is missing"
fault_sentence SecondFile = text "mend takes one file"
fault_sentence NoOutput = text "-o lacks the name of a file"
fault_sentence SecondOutput = text "only one -o"
fault_sentence NotExpected = text "not expected here"

-- the argument at fault is named where there is one
abbrev pub fault_start : List ℕ → List ℕ
fault_start word = cond (ltb 0 (length word)) (naming word) (text "kw: ")

abbrev pub fault_text : Fault → List ℕ → List ℕ
fault_text f word = cond (longer_than_names word) [] (fault_start word ++ (fault_sentence f ++ text "; try kw help\n"))
