use mathlib.Core.Path.{◌≡◌, sym, ap, ◌∙◌}
use mathlib.Core.Bool.{Bool}
use mathlib.Core.List.{List}
use Prim.Native.Nat.{ℕ, ◌*◌}
use lib.ListN.{drop}
use Rattle.model.specs.Bytes.{thrice}
use Rattle.model.specs.Refusals.{Verdict, fine}
use Rattle.model.specs.Layout.{voted, prologue, count, directory_bytes_of, directory_bytes, differs, prologue_off, directory_off}
use Rattle.model.specs.Parse.{parse_verdict, header_of, accepted, refused, parsed_as}
use Rattle.model.specs.Parse as model
use Rattle.error.specs.declared.Refusal.{Refusal}
use Rattle.error.specs.Refused.{number_of, detail_of}
use Rattle.view.specs.Answers.{fine_with, refused_with, with_count}
use Rattle.view.proofs.AnswersLaw.{counted_fine, counted_count, counted_refused}
use Rattle.error.proofs.PassedOn.{err_is}
use denote.Ref.{Bor}
use Rattle.view.proofs.header.parse.Goals as goal

-- `view::header::parse` meets its contract. Assumes nothing.
module _ (x : List ℕ) (n : ℕ) (e : fine_with n ≡ with_count (parse_verdict x) (count x)) where
  is_fine : parse_verdict x ≡ fine
  is_fine = counted_fine (parse_verdict x) n (count x) e

  is_count : n ≡ count x
  is_count = counted_count (parse_verdict x) n (count x) e

  is_parsed : (p d : Bool) → p ≡ differs (thrice (voted 0 16 x)) x → d ≡ differs (thrice (voted 48 (16 * n) x)) (drop 48 x)
      → accepted (record { regions = n; prologue_disagreed = p; directory_disagreed = d }) ≡ model.parse x
  unfolding model.parse header_of prologue_off directory_off prologue directory_bytes directory_bytes_of
  is_parsed p d ep ed =
      rw (ep, ed, is_count) (ap (λ (v : Verdict). parsed_as v (header_of x)) (sym is_fine))

is_refused : (x : List ℕ) (s : Refusal) → refused_with (number_of s) (detail_of s) ≡ with_count (parse_verdict x) (count x)
    → refused (number_of s) (detail_of s) ≡ model.parse x
unfolding model.parse
is_refused x s e =
    ap (λ (v : Verdict). parsed_as v (header_of x)) (sym (counted_refused (parse_verdict x) (number_of s) (detail_of s) (count x) e))

-- the copies r are those of n entries of b
copies_of : (b d r : Bor (List ℕ)) (o k m : ℕ) → r ≡ d → d ≡ b → o ≡ 48 → k ≡ 16 * m
    → differs (thrice (voted o k r.now)) (drop o r.now) ≡ differs (thrice (voted 48 (16 * m) b.now)) (drop 48 b.now)
copies_of b d r o k m e f g h = rw (e, f, g, h)

pub returns-in_err-directory : goal.returns-in_err-directory
returns-in_err-directory c =
    let e = c.in_err-directory.field-0.0 in
    rw (err_is _ e c.from_residual.ensures.1) (is_refused c.args.bytes.now e c.in_err-directory.ensures)

pub returns : goal.returns
returns c =
    let b = c.args.bytes in
    let f = c.in_ok-directory.ensures in
    let d = c.in_ok-directory.directory in
    let k = c.copies in
    let copied = copies_of b d.bytes k.result.bytes k.result.base k.result.len d.count k.ensures.0 f.0 k.ensures.1 k.ensures.2 in
    is_parsed b.now d.count f.1 c.differ.result c.differ-2.result c.differ.ensures (c.differ-2.ensures ∙ copied)
