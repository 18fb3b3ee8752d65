use mathlib.Core.Path.{sym, ap, ◌∙◌, subst}
use Prim.Native.Nat.{ℕ, ◌≤◌, ◌<◌}
use Rattle.model.specs.Refusals.{Verdict}
use Rattle.model.specs.Layout.{prologue, count_in, count}
use Rattle.model.proofs.ParseLaw.{bad_magic_lem, bad_marker, bad_version, bad_checksum, too_many, good_prologue}
use Rattle.view.specs.Answers.{with_count, refused_with, fine_with}
use Rattle.view.proofs.header.check_prologue.Goals as goal

-- `view::header::check_prologue` meets its contract: the checks in their order. Assumes nothing.
pub returns-then-magic-ne-MAGIC : goal.returns-then-magic-ne-MAGIC
unfolding prologue
returns-then-magic-ne-MAGIC c =
    let x = c.args.bytes.now in
    ap (λ (v : Verdict). with_count v (count x)) (sym (bad_magic_lem (prologue x) (λ e. c.if-magic-ne-MAGIC.true (c.number_at-magic.ensures ∙ e))))

pub returns-then-order : goal.returns-then-order
unfolding prologue
returns-then-order c =
    let x = c.args.bytes.now in
    ap (λ (v : Verdict). with_count v (count x))
    (sym (bad_marker (prologue x) (sym c.number_at-magic.ensures ∙ c.if-magic-ne-MAGIC.false) (λ e. c.if-order.true (c.number_at-order.ensures ∙ e))))

pub returns-then-version-ne-FORMAT_VERSION : goal.returns-then-version-ne-FORMAT_VERSION
unfolding prologue
returns-then-version-ne-FORMAT_VERSION c =
    let v = c.before in
    let x = v.args.bytes.now in
    ap (refused_with 4) v.number_at-version.ensures
    ∙ ap (λ (v : Verdict). with_count v (count x))
    (sym (bad_version (prologue x) (sym v.number_at-magic.ensures ∙ v.if-magic-ne-MAGIC.false) (sym v.number_at-order.ensures ∙ v.if-order.false)
    (λ e. c.if-version-ne-FORMAT_VERSION.true (v.number_at-version.ensures ∙ e))))

pub returns-then-checksum : goal.returns-then-checksum
unfolding prologue
returns-then-checksum c =
    let k = c.before in
    let s = k.before in
    let v = s.before in
    let x = v.args.bytes.now in
    ap (λ (v : Verdict). with_count v (count x))
    (sym (bad_checksum (prologue x) (sym v.number_at-magic.ensures ∙ v.if-magic-ne-MAGIC.false) (sym v.number_at-order.ensures ∙ v.if-order.false)
    (sym v.number_at-version.ensures ∙ s.if-version-ne-FORMAT_VERSION.false) (λ e. c.if-checksum.true (s.number_at-checksum.ensures ∙ e ∙ sym k.checksum.ensures))))

pub returns-then-n-gt-MAX_REGIONS : goal.returns-then-n-gt-MAX_REGIONS
unfolding prologue count_in
returns-then-n-gt-MAX_REGIONS c =
    let n = c.before in
    let k = n.before in
    let s = k.before in
    let v = s.before in
    let x = v.args.bytes.now in
    ap (refused_with 6) n.number_at-n.ensures
    ∙ ap (λ (v : Verdict). with_count v (count x))
    (sym (too_many (prologue x) (sym v.number_at-magic.ensures ∙ v.if-magic-ne-MAGIC.false) (sym v.number_at-order.ensures ∙ v.if-order.false)
    (sym v.number_at-version.ensures ∙ s.if-version-ne-FORMAT_VERSION.false) (sym s.number_at-checksum.ensures ∙ n.if-checksum.false ∙ k.checksum.ensures)
    (subst (λ (i : ℕ). 1024 < i) n.number_at-n.ensures c.if-n-gt-MAX_REGIONS.true)))

pub returns : goal.returns
unfolding prologue count_in count
returns c =
    let n = c.before in
    let k = n.before in
    let s = k.before in
    let v = s.before in
    let x = v.args.bytes.now in
    ap fine_with n.number_at-n.ensures
    ∙ ap (λ (v : Verdict). with_count v (count x))
    (sym (good_prologue (prologue x) (sym v.number_at-magic.ensures ∙ v.if-magic-ne-MAGIC.false) (sym v.number_at-order.ensures ∙ v.if-order.false)
    (sym v.number_at-version.ensures ∙ s.if-version-ne-FORMAT_VERSION.false) (sym s.number_at-checksum.ensures ∙ n.if-checksum.false ∙ k.checksum.ensures)
    (subst (λ (i : ℕ). i ≤ 1024) n.number_at-n.ensures c.if-n-gt-MAX_REGIONS.false)))
