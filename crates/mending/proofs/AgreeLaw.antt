-- Where no header copy differs from the vote, the header half changes nothing. Assumes nothing.
use mathlib.Core.Path.{◌≡◌, refl, sym, ap, ap₂, ◌∙◌}
use mathlib.Core.Bool.{Bool, true, false, not, ◌||◌}
use mathlib.Core.List.{List, [], ◌∷◌, ◌++◌, append_assoc}
use Prim.Native.Nat.{ℕ, ◌+◌, ◌*◌}
use native.Mathlib.Omega.{arith}
use borrow.Author.Tests.{eqb-true, not-false}
use lib.Dec.{eqb}
use lib.ListN.{length, drop}
use lib.Seq.{drop-drop}
use Rattle.model.specs.Bytes.{thrice}
use Rattle.model.specs.Layout.{prologue, count, header_length, directory_bytes, differs, prologue_off, directory_off, scrub_wanted, header}
use Rattle.model.specs.Refusals.{Verdict, fine, refuse}
use Rattle.model.specs.Parse as model
use Rattle.model.specs.Parse.{accepted, parsed_as, parse_verdict, header_of}
use Rattle.model.proofs.BytesLaw.{length_thrice}
use Rattle.model.proofs.LayoutLaw.{length_prologue, length_directory_bytes}
use Rattle.view.specs.declared.header.Header.{Header}
use Rattle.std.specs.Prelude.{Result, Ok}
use Rattle.error.specs.declared.Refusal.{Refusal}
use Rattle.view.specs.Answers.{as_parsed}
use Rattle.lemmas.specs.Steps.{mend_header}
use Rattle.lemmas.proofs.VerdictLaw.{or_left, or_right}

-- a list that does not differ from v begins with v
same_front : (v x : List ℕ) → differs v x ≡ false → v ++ drop (length v) x ≡ x
unfolding differs
same_front [] x e = refl
same_front (a ∷ v) [] e = let z : ◌≡◌ {A = Bool} true false = e in cc
same_front (a ∷ v) (b ∷ x) e =
    ap₂ (λ (c : ℕ) (l : List ℕ). c ∷ l)
    (eqb-true a b (not-false (eqb a b) (or_left (not (eqb a b)) (differs v x) e)))
    (same_front v x (or_right (not (eqb a b)) (differs v x) e))

pub nothing_wanted : (x : List ℕ) → scrub_wanted x ≡ false → mend_header x ≡ x
unfolding mend_header header scrub_wanted prologue_off directory_off
nothing_wanted x e =
    let p = thrice (prologue x) in
    let d = thrice (directory_bytes x) in
    let lp : 48 ≡ length p = omega (arith, length_thrice (prologue x) 16 (length_prologue x)) in
    let ld : header_length (count x) ≡ 48 + length d = omega (arith, length_thrice (directory_bytes x) (16 * count x) (length_directory_bytes x)) in
    append_assoc p d (drop (header_length (count x)) x)
    ∙ ap (λ (l : List ℕ). p ++ (d ++ l)) (ap (λ (n : ℕ). drop n x) ld ∙ sym (drop-drop (length d) 48 x))
    ∙ ap (λ (l : List ℕ). p ++ l) (same_front d (drop 48 x) (or_right (differs p x) (differs d (drop 48 x)) e) ∙ ap (λ (n : ℕ). drop n x) lp)
    ∙ same_front p x (or_left (differs p x) (differs d (drop 48 x)) e)

-- ---- parse's marks say whether one does

as_header_lem : (v : Verdict) (h g : model.Header) → accepted h ≡ parsed_as v g → h ≡ g
as_header_lem fine h g e = cc
as_header_lem (refuse n d) h g e = let z : ◌≡◌ {A = ℕ} 0 1 = cc in absurd (omega arith)

pub parsed_wanted : (x : List ℕ) (r : Result Header Refusal) → as_parsed r ≡ model.parse x → (h : Header) → r ≡ Ok h
    → h.prologue_disagreed || h.directory_disagreed ≡ scrub_wanted x
unfolding model.parse header_of scrub_wanted
parsed_wanted x r e h f =
    ap (λ (g : model.Header). g.prologue_disagreed || g.directory_disagreed) (as_header_lem (parse_verdict x) _ (header_of x) (ap as_parsed (sym f) ∙ e))
