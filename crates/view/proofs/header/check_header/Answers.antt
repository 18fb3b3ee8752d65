use mathlib.Core.Path.{◌≡◌, sym, ap, ap₂, ◌∙◌, subst}
use mathlib.Core.List.{List}
use Prim.Native.Nat.{ℕ, ◌≤◌, ◌<◌}
use native.Mathlib.Omega.{arith}
use lib.ListN.{length}
use Rattle.model.specs.Layout.{prologue, count, header_length, directory, directory_of}
use Rattle.model.specs.Parse.{prologue_verdict, parse_verdict, entries_verdict}
use Rattle.model.proofs.ParseLaw.{too_short, prologue_refused, header_past, entries_say, accepted_count}
use Rattle.model.specs.Refusals.{fine}
use Rattle.error.specs.declared.Refusal.{Refusal}
use Rattle.error.specs.Refused.{number_of, detail_of, as_check}
use Rattle.std.specs.Prelude.{Result, Ok, Err}
use Rattle.view.specs.Answers.{as_counted, with_count, refused_with, fine_with}
use Rattle.view.proofs.AnswersLaw.{counted_fine, counted_count, counted_refused, with_fine, with_refused}
use Rattle.error.proofs.PassedOn.{err_is}
use denote.Ref.{Bor}
use Rattle.view.proofs.header.check_header.Goals as goal

-- `view::header::check_header` meets its contract: the checks in their order. Assumes nothing.
-- past the first check: x has 48 bytes, and r is what the prologue's checks say
module _ (x : List ℕ) (l : 48 ≤ length x) (r : Result ℕ Refusal) (e : as_counted r ≡ with_count (prologue_verdict (prologue x)) (count x)) where
  refused_there : (s : Refusal) → r ≡ Err s → refused_with (number_of s) (detail_of s) ≡ with_count (parse_verdict x) (count x)
  refused_there s f =
      with_refused (parse_verdict x) (number_of s) (detail_of s) (count x)
      (prologue_refused x l (number_of s) (detail_of s) (counted_refused (prologue_verdict (prologue x)) (number_of s) (detail_of s) (count x) (ap as_counted (sym f) ∙ e)))

  module _ (n : ℕ) (f : r ≡ Ok n) where
    fine_there : prologue_verdict (prologue x) ≡ fine
    fine_there = counted_fine (prologue_verdict (prologue x)) n (count x) (ap as_counted (sym f) ∙ e)

    is_count : n ≡ count x
    is_count = counted_count (prologue_verdict (prologue x)) n (count x) (ap as_counted (sym f) ∙ e)

    small_count : n ≤ 1024
    unfolding count
    small_count = subst (λ (k : ℕ). k ≤ 1024) (sym is_count) (accepted_count (prologue x) fine_there)

    short_header : length x < header_length n → refused_with 1 0 ≡ with_count (parse_verdict x) (count x)
    short_header h =
        with_refused (parse_verdict x) 1 0 (count x) (header_past x l fine_there (subst (λ (k : ℕ). length x < header_length k) is_count h))

    module _ (h : header_length n ≤ length x) (k : Result Unit Refusal) (d : as_check k ≡ entries_verdict (length x) 0 (directory_of n x)) where
      say : as_check k ≡ parse_verdict x
      unfolding directory
      say =
          d ∙ ap (λ (m : ℕ). entries_verdict (length x) 0 (directory_of m x)) is_count
          ∙ sym (entries_say x l fine_there (subst (λ (m : ℕ). header_length m ≤ length x) is_count h))

      all_fine : k ≡ Ok tt → fine_with n ≡ with_count (parse_verdict x) (count x)
      all_fine g = with_fine (parse_verdict x) n (count x) (sym say ∙ ap as_check g) is_count

      entry_refused : (s : Refusal) → k ≡ Err s → refused_with (number_of s) (detail_of s) ≡ with_count (parse_verdict x) (count x)
      entry_refused s g = with_refused (parse_verdict x) (number_of s) (detail_of s) (count x) (sym say ∙ ap as_check g)

-- what is known of the directory d, which is made of x
module _ (b d : Bor (List ℕ)) (m n : ℕ) (e : d ≡ b) (f : m ≡ n) where
  long : header_length m ≤ length d.now → header_length n ≤ length b.now
  long h = subst (λ (k : ℕ). header_length k ≤ length b.now) f (subst (λ (y : Bor (List ℕ)). header_length m ≤ length y.now) e h)

  same_verdict : entries_verdict (length d.now) 0 (directory_of m d.now) ≡ entries_verdict (length b.now) 0 (directory_of n b.now)
  same_verdict = ap₂ (λ (y : Bor (List ℕ)) (k : ℕ). entries_verdict (length y.now) 0 (directory_of k y.now)) e f

pub returns-then-bytes-lt-DIRECTORY_OFFSET : goal.returns-then-bytes-lt-DIRECTORY_OFFSET
returns-then-bytes-lt-DIRECTORY_OFFSET c = let x = c.args.bytes.now in with_refused (parse_verdict x) 1 0 (count x) (too_short x c.if-bytes-lt-DIRECTORY_OFFSET.true)

pub returns-in_err-n : goal.returns-in_err-n
returns-in_err-n c =
    let e = c.in_err-n.field-0.0 in
    rw (err_is _ e c.from_residual.ensures.1)
    (refused_there c.args.bytes.now c.if-bytes-lt-DIRECTORY_OFFSET.false c.check_prologue.result c.check_prologue.ensures e c.in_err-n.was)

pub returns-in_default : goal.returns-in_default
returns-in_default c =
    short_header c.args.bytes.now c.if-bytes-lt-DIRECTORY_OFFSET.false c.check_prologue.result c.check_prologue.ensures
    c.in_ok-n.n c.in_ok-n.was c.in_default.ensures

pub check_directory-requires : goal.check_directory-requires
check_directory-requires c =
    let d = c.in-Some.ensures in
    omega (arith, d.1, small_count c.args.bytes.now c.if-bytes-lt-DIRECTORY_OFFSET.false c.check_prologue.result c.check_prologue.ensures c.in_ok-n.n c.in_ok-n.was)

pub returns-in_err-check_directory : goal.returns-in_err-check_directory
returns-in_err-check_directory c =
    let e = c.in_err-check_directory.field-0.0 in
    let b = c.args.bytes in
    let d = c.in-Some.directory in
    let f = c.in-Some.ensures in
    let n = c.in_ok-n.n in
    rw (err_is _ e c.from_residual-in_err-check_directory.ensures.1)
    (entry_refused b.now c.if-bytes-lt-DIRECTORY_OFFSET.false c.check_prologue.result c.check_prologue.ensures n c.in_ok-n.was
    (long b d.bytes d.count n f.0 f.1 d.fits) c.check_directory.result (c.check_directory.ensures ∙ same_verdict b d.bytes d.count n f.0 f.1)
    e c.in_err-check_directory.was)

pub returns : goal.returns
returns c =
    let b = c.args.bytes in
    let d = c.in-Some.directory in
    let f = c.in-Some.ensures in
    let n = c.in_ok-n.n in (
      f.0,
      ap fine_with f.1 ∙ all_fine b.now c.if-bytes-lt-DIRECTORY_OFFSET.false c.check_prologue.result c.check_prologue.ensures n c.in_ok-n.was
          (long b d.bytes d.count n f.0 f.1 d.fits) c.check_directory.result (c.check_directory.ensures ∙ same_verdict b d.bytes d.count n f.0 f.1) c.in_ok-check_directory.was,
    )
