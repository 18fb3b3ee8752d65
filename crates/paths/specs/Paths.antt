-- The names of the files that the command writes (where a link leads, and the file that is written beside another), and a name as it is shown. (FORMAT 14)
use Rattle.std.specs.Prelude.{Bool, cond, not, List, [], ◌++◌, ℕ, ◌-◌, eqb, ltb, length, take, get_or}
use Rattle.std.specs.List.{suffix_len}
use Rattle.model.specs.Programs.{text}

abbrev pub is_slash : ℕ → Bool
is_slash x = eqb x 47

-- all but what stands behind the last slash, or nothing where there is none
abbrev pub folder_length : List ℕ → ℕ
folder_length path = length path - suffix_len (λ x. not (is_slash x)) path

abbrev pub folder : List ℕ → List ℕ
folder path = take (folder_length path) path

-- longer than 4,096 bytes, which no argument is
abbrev pub longer_than_names : List ℕ → Bool
longer_than_names path = ltb 4096 (length path)

abbrev pub temporary_name : List ℕ → List ℕ
temporary_name path = cond (longer_than_names path) [] (folder path ++ text ".kw-XXXXXX")

abbrev pub rooted : List ℕ → Bool
rooted link = eqb (get_or link 0 0) 47

-- where the link at path leads: a text that begins with a slash is a name by itself, any other is one in the link's folder
abbrev pub followed_name : List ℕ → List ℕ → List ℕ
followed_name path link = cond (longer_than_names path) [] (cond (longer_than_names link) [] (cond (rooted link) link (folder path ++ link)))

-- a name as the start of a line on standard error, which the system's reason follows
abbrev pub subject_text : List ℕ → List ℕ
subject_text name = cond (longer_than_names name) (text "kw") (text "kw: " ++ name)
