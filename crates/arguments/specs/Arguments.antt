-- What an argument is, and what a run of them asks for. (FORMAT 14)
use Rattle.std.specs.Prelude.{Bool, true, false, ◌&&◌, ◌||◌, cond, if◌then◌else◌, List, ℕ, Option, Some, None, Result, Ok, Err, eqb, ltb, length, get_or}
use Rattle.std.specs.Str.{bytes_eq}
use Prim.Native.String.{String}
use Rattle.model.specs.Programs.{text}
use Rattle.arguments.specs.declared.words.Command.{Command}
use Rattle.arguments.specs.declared.words.Command.TheVariants.{Report, Mend, Help, Version}
use Rattle.arguments.specs.declared.words.UnknownCommand.{UnknownCommand}
use Rattle.arguments.specs.declared.words.Word.{Word}
use Rattle.arguments.specs.declared.words.Word.TheVariants as word
use Rattle.arguments.specs.declared.invocation.Fault.{Fault}
use Rattle.arguments.specs.declared.invocation.Fault.TheVariants.{NoCommand, NoSuchCommand, NoSuchOption, NoFile, SecondFile, NoOutput, SecondOutput, NotExpected}
use Rattle.arguments.specs.declared.invocation.Files.{Files}
use Rattle.arguments.specs.declared.invocation.Files.TheVariants as files
use Rattle.arguments.specs.declared.invocation.Next.{Next}
use Rattle.arguments.specs.declared.invocation.Next.TheVariants as next
use Rattle.arguments.specs.declared.invocation.Invocation.{Invocation}

-- ---- words, and the numbers that they are known by too

abbrev pub command_numbered : ℕ → Result Command UnknownCommand
command_numbered n =
    cond (eqb n 1) (Ok Report)
    (cond (eqb n 2) (Ok Mend)
    (cond (eqb n 3) (Ok Help)
    (cond (eqb n 4) (Ok Version)
    (Err (record { 0 = n })))))

abbrev pub word_numbered : ℕ → Word
word_numbered n =
    cond (eqb n 0) word.Name
    (cond (eqb n 1) (word.Command Report)
    (cond (eqb n 2) (word.Command Mend)
    (cond (eqb n 3) (word.Command Help)
    (cond (eqb n 4) (word.Command Version)
    (cond (eqb n 5) word.OutputOption
    (cond (eqb n 6) word.EndOfOptions
    (cond (eqb n 7) word.HelpOption
    (cond (eqb n 8) word.VersionOption
    word.OtherOption))))))))

abbrev pub is : List ℕ → String → Bool
is x s = bytes_eq x (text s)

-- `-` alone is a name, that of standard input or output
abbrev pub dashed : List ℕ → Bool
dashed x = ltb 1 (length x) && eqb (get_or x 0 0) 45

-- what an argument is that is no command: an option, one that there is not, or a name
abbrev pub option_of : List ℕ → Word
option_of x =
    cond (is x "-o") word.OutputOption
    (cond (is x "--") word.EndOfOptions
    (cond (is x "-h" || is x "--help") word.HelpOption
    (cond (is x "--version") word.VersionOption
    (cond (dashed x) word.OtherOption word.Name))))

abbrev pub word_of : List ℕ → Word
word_of x =
    cond (is x "report") (word.Command Report)
    (cond (is x "mend") (word.Command Mend)
    (cond (is x "help") (word.Command Help)
    (cond (is x "version") (word.Command Version)
    (option_of x))))

-- the name of standard input or output
abbrev pub standard : List ℕ → Bool
standard x = is x "-"

-- ---- faults

abbrev pub fault_numbered : ℕ → Fault
fault_numbered n =
    cond (eqb n 1) NoCommand
    (cond (eqb n 2) NoSuchCommand
    (cond (eqb n 3) NoSuchOption
    (cond (eqb n 4) NoFile
    (cond (eqb n 5) SecondFile
    (cond (eqb n 6) NoOutput
    (cond (eqb n 7) SecondOutput
    NotExpected))))))

-- ---- what the arguments so far ask for

abbrev pub nothing_yet : Invocation
nothing_yet = record { command = None; topic = None; files = files.None; output = None; next = next.Any; misuse = None }

-- argument 0 is the command's own name, and stands for none
abbrev pub numbered : ℕ → Option ℕ
numbered i = cond (ltb 0 i) (Some i) None

abbrev pub faulty : Invocation → ℕ → Fault → Invocation
faulty p i f = record { command = p.command; topic = p.topic; files = p.files; output = p.output; next = p.next; misuse = Some (record { fault = f; place = numbered i }) }

abbrev pub commanding : Invocation → Command → Option Command → Invocation
commanding p c about = record { command = Some c; topic = about; files = p.files; output = p.output; next = p.next; misuse = p.misuse }

abbrev pub expecting : Invocation → Next → Invocation
expecting p n = record { command = p.command; topic = p.topic; files = p.files; output = p.output; next = n; misuse = p.misuse }

abbrev pub with_output : Invocation → ℕ → Invocation
with_output p i = record { command = p.command; topic = p.topic; files = p.files; output = numbered i; next = next.Any; misuse = p.misuse }

-- the first file's place is kept, and whether there is none, one or more
abbrev pub one_more : Files → ℕ → Files
one_more files.None i = files.One i
one_more (files.One first) i = files.Several first
one_more (files.Several first) i = files.Several first

abbrev pub with_file : Invocation → ℕ → Invocation
with_file p i = record { command = p.command; topic = p.topic; files = one_more p.files i; output = p.output; next = p.next; misuse = p.misuse }

-- the first argument
abbrev pub first_word : Invocation → ℕ → Word → Invocation
first_word p i (word.Command c) = commanding p c None
first_word p i word.HelpOption = commanding p Help None
first_word p i word.VersionOption = commanding p Version None
first_word p i word.Name = faulty p i NoSuchCommand
first_word p i _ = faulty p i NoSuchOption

abbrev pub only_file : Invocation → ℕ → Invocation
only_file p i = elim p.files [ files.None ↦ with_file p i | _ ↦ faulty p i SecondFile ]

abbrev pub help_topic : Invocation → ℕ → Word → Invocation
help_topic p i w = elim p.topic [ Some about ↦ faulty p i NotExpected | None ↦ elim w [ word.Command c ↦ commanding p Help (Some c) | _ ↦ faulty p i NoSuchCommand ] ]

-- argument i is a name, or a command's word where a name may stand
abbrev pub named : Invocation → Command → ℕ → Word → Invocation
named p Report i w = with_file p i
named p Mend i w = only_file p i
named p Help i w = help_topic p i w
named p Version i w = faulty p i NotExpected

abbrev pub output : Invocation → ℕ → Invocation
output p i = elim p.output [ None ↦ expecting p next.Output | Some o ↦ faulty p i SecondOutput ]

abbrev pub option : Invocation → Command → ℕ → Word → Invocation
option p c i word.HelpOption = commanding p Help (Some c)
option p c i word.EndOfOptions = expecting p next.Name
option p Mend i word.OutputOption = output p i
option p _ i _ = faulty p i NoSuchOption

abbrev pub may_name : Next → Word → Bool
may_name next.Name w = true
may_name _ word.Name = true
may_name _ (word.Command c) = true
may_name _ _ = false

-- whether the next argument is one of the files that a report is asked on
abbrev pub reports_on : Invocation → Word → Bool
reports_on p w = elim p.command [ Some Report ↦ may_name p.next w | _ ↦ false ]

abbrev pub next_word : Invocation → Command → ℕ → Word → Invocation
next_word p c i w = if may_name p.next w then named p c i w else option p c i w

-- one argument more, of number i
abbrev pub step : Invocation → ℕ → Word → Invocation
step p i w =
    elim p.misuse [
      | Some m ↦ p
      | None ↦
          elim p.next [
            | next.Output ↦ with_output p i
            | _ ↦
                elim p.command [ None ↦ first_word p i w | Some c ↦ next_word p c i w ]
          ]
    ]

abbrev pub lacking : Option Command → Next → Files → Option Fault
lacking None n f = Some NoCommand
lacking (Some c) next.Output f = Some NoOutput
lacking (Some Report) _ files.None = Some NoFile
lacking (Some Mend) _ files.None = Some NoFile
lacking _ _ _ = None

-- no argument more
abbrev pub finish : Invocation → Invocation
finish p = elim p.misuse [ Some m ↦ p | None ↦ elim (lacking p.command p.next p.files) [ Some f ↦ faulty p 0 f | None ↦ p ] ]
