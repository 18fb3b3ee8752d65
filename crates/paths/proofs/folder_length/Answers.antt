use Rattle.std.proofs.Common.{◌+◌, rules, arith}
use Rattle.std.specs.List.{IsAfterLastMatch}
use Rattle.paths.specs.Paths.{is_slash}
use Rattle.paths.proofs.FolderLaw.{folder_at}
use Rattle.paths.proofs.folder_length.Goals as goal

-- `paths::folder_length` meets its contract: the folder ends behind the last slash. Assumes nothing.
pub returns-in-Some-clause-is : goal.returns-in-Some-clause-is
returns-in-Some-clause-is c =
    let path = c.args.path.now in
    let last : IsAfterLastMatch is_slash path (c.in-Some.last + 1) = search rules in
    folder_at path (c.in-Some.last + 1) (omega (arith, c.in-Some.ensures.bound)) last

pub returns-in-None-clause-is : goal.returns-in-None-clause-is
returns-in-None-clause-is c =
    let path = c.args.path.now in
    let last : IsAfterLastMatch is_slash path 0 = search rules in
    folder_at path 0 (omega arith) last
