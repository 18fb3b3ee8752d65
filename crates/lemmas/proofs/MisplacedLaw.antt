-- The check that regions lie apart refuses exactly where the rule says, and names the first entry that is misplaced. Assumes nothing.
use mathlib.Core.Path.{◌≡◌, refl, sym, ap, ◌∙◌, subst}
use mathlib.Core.Bool.{Bool, true, false, ◌&&◌, ◌||◌}
use mathlib.Core.List.{List, [], ◌∷◌}
use Rattle.std.specs.Prelude.{Option, None, Some}
use Prim.Native.Nat.{ℕ, suc, ◌+◌, ◌-◌, ◌*◌, ◌≤◌, ◌<◌}
use native.Mathlib.Nat.{add-zero, zero-add, add-suc, suc-add, not-suc-le-zero}
use native.Mathlib.Decide.{dec_lt, ℕ_discrete}
use native.Mathlib.Omega.{arith}
use borrow.Author.Tests.{ltb-true, lt-ltb}
use lib.Dec.{ltb}
use Rattle.model.specs.Refusals.{fine, refuse, ◌then◌, refuse_if, overlapping_regions}
use Rattle.model.specs.Layout.{Entry, header_length, start}
use Rattle.model.specs.Views.{nth}
use Rattle.model.specs.Mend.{InRegion, LaidApart, Misplaced, on_header, on_earlier, FirstMisplaced, meets, in_header}
use Rattle.lemmas.proofs.ApartVerdict.{meets_any_lem, apart_verdict}
use Rattle.lemmas.proofs.VerdictLaw.{true_false, passed, or_left, or_right, or_true}
use Rattle.lemmas.proofs.EntriesLaw.{In, now, next}

-- ---- two tests that hold

pub both : (a b : Bool) → a && b ≡ true → (a ≡ true) × (b ≡ true)
both true true e = (refl, refl)
both true false e = absurd (true_false (sym e))
both false b e = absurd (true_false (sym e))

-- ---- two entries share a byte exactly if `meets` says so

pub shared_byte : (e f : Entry) → meets e f ≡ true → (b : ℕ) × InRegion e b × InRegion f b
unfolding meets
shared_byte e f h =
    let n = both (ltb 0 e.words && ltb 0 f.words) _ h in
    let w = both (ltb 0 e.words) (ltb 0 f.words) n.0 in
    let o = both (ltb e.offset (f.offset + f.words)) (ltb f.offset (e.offset + e.words)) n.1 in
    let e₀ = ltb-true 0 e.words w.0 in
    let f₀ = ltb-true 0 f.words w.1 in
    let ef = ltb-true e.offset (f.offset + f.words) o.0 in
    let fe = ltb-true f.offset (e.offset + e.words) o.1 in
    go e₀ f₀ ef fe (dec_lt e.offset f.offset)
  where
    go : 0 < e.words → 0 < f.words → e.offset < f.offset + f.words → f.offset < e.offset + e.words → Dec (e.offset < f.offset)
        → (b : ℕ) × InRegion e b × InRegion f b
    go e₀ f₀ ef fe (yes l) = (8 * f.offset, (omega arith, omega arith), (omega arith, omega arith))
    go e₀ f₀ ef fe (no l) = (8 * e.offset, (omega arith, omega arith), (omega arith, omega arith))

pub meets_byte : (e f : Entry) (b : ℕ) → InRegion e b → InRegion f b → meets e f ≡ true
unfolding meets
meets_byte e f b i j =
    let i₀ = i.0 in
    let i₁ = i.1 in
    let j₀ = j.0 in
    let j₁ = j.1 in
    rw (lt-ltb 0 e.words (omega arith), lt-ltb 0 f.words (omega arith), lt-ltb e.offset (f.offset + f.words) (omega arith), lt-ltb f.offset (e.offset + e.words) (omega arith)) refl

-- ---- an entry against the entries before it

meets_some : (e : Entry) (fs : List Entry) → meets_any_lem e fs ≡ true → (f : Entry) × In f fs × (meets e f ≡ true)
unfolding meets_any_lem
meets_some e [] h = absurd (true_false (sym h))
meets_some e (g ∷ fs) h = go (meets e g) refl h (λ k. meets_some e fs k)
  where
    go : (t : Bool) → meets e g ≡ t → t || meets_any_lem e fs ≡ true → (meets_any_lem e fs ≡ true → (f : Entry) × In f fs × (meets e f ≡ true))
        → (f : Entry) × In f (g ∷ fs) × (meets e f ≡ true)
    go true m k r = (g, now refl, m)
    go false m k r = let s = r k in (s.0, next s.1, s.2)

meets_any : (e : Entry) (fs : List Entry) (f : Entry) → In f fs → meets e f ≡ true → meets_any_lem e fs ≡ true
unfolding meets_any_lem
meets_any e [] f i m = elim i [ ]
meets_any e (g ∷ fs) f (now p) m = rw (sym (ap (meets e) p) ∙ m) refl
meets_any e (g ∷ fs) f (next i) m = or_true (meets e g) (meets_any_lem e fs) (meets_any e fs f i m)

-- the entries of `all` from i on are es, and those before are `earlier`
record Walk (all : List Entry) (i : ℕ) (earlier es : List Entry) : Type 0 where
  older : (j : ℕ) (f : Entry) → j < i → nth j all ≡ Some f → In f earlier
  stands : (f : Entry) → In f earlier → (j : ℕ) × (j < i) × (nth j all ≡ Some f)
  rest : (k : ℕ) → nth (i + k) all ≡ nth k es

pub one_entry : (e f : Entry) → ◌≡◌ {A = Option Entry} (Some e) (Some f) → e ≡ f
one_entry e f h = cc

walk_start : (all : List Entry) → Walk all 0 [] all
walk_start all = record { older = λ j f h. absurd (not-suc-le-zero h); stands = λ f m. elim m [ ]; rest = λ k. ap (λ (m : ℕ). nth m all) (zero-add k) }

module _ (all : List Entry) (i : ℕ) (earlier : List Entry) (e : Entry) (es : List Entry) (w : Walk all i earlier (e ∷ es)) where
  here : nth i all ≡ Some e
  unfolding nth
  here = ap (λ (k : ℕ). nth k all) (sym (add-zero i)) ∙ w.rest 0

  walk_next : Walk all (suc i) (e ∷ earlier) es
  unfolding nth
  walk_next =
      record {
        older = λ j f h n. old j f h n (ℕ_discrete j i);
        stands = λ f m. stood f m;
        rest = λ k. ap (λ (m : ℕ). nth m all) (suc-add i k ∙ sym (add-suc i k)) ∙ w.rest (suc k);
      }
    where
      old : (j : ℕ) (f : Entry) → j < suc i → nth j all ≡ Some f → Dec (j ≡ i) → In f (e ∷ earlier)
      old j f h n (yes d) = now (one_entry f e (sym n ∙ ap (λ (m : ℕ). nth m all) d ∙ here))
      old j f h n (no d) = next (w.older j f (omega arith) n)

      stood : (f : Entry) → In f (e ∷ earlier) → (j : ℕ) × (j < suc i) × (nth j all ≡ Some f)
      stood f (now p) = (i, omega arith, here ∙ ap Some (sym p))
      stood f (next m) = let s = w.stands f m in (s.0, omega (arith, s.1), s.2)

  -- the test says whether entry i is misplaced
  module _ (n : ℕ) where
    refuses : in_header n e || meets_any_lem e earlier ≡ true → Misplaced n all i
    unfolding in_header
    refuses h = go (in_header n e) refl h
      where
        go : (t : Bool) → in_header n e ≡ t → t || meets_any_lem e earlier ≡ true → Misplaced n all i
        go true g k =
            let s = both (ltb 0 e.words) (ltb (start e) (header_length n)) g in
            on_header e here (ltb-true 0 e.words s.0) (ltb-true (start e) (header_length n) s.1)
        go false g k =
            let s = meets_some e earlier k in
            let p = w.stands s.0 s.1 in
            let b = shared_byte e s.0 s.2 in
            on_earlier p.0 p.1 e s.0 here p.2 b.0 b.1 b.2

    passes : in_header n e || meets_any_lem e earlier ≡ false → Misplaced n all i → ⊥
    unfolding in_header
    passes h (on_header f a l s) =
        let d = one_entry f e (sym a ∙ here) in
        let l' : 0 < e.words = subst (λ (z : Entry). 0 < z.words) d l in
        let s' : start e < header_length n = subst (λ (z : Entry). start z < header_length n) d s in
        true_false (sym (rw (lt-ltb 0 e.words l', lt-ltb (start e) (header_length n) s') refl) ∙ or_left (in_header n e) (meets_any_lem e earlier) h)
    passes h (on_earlier j l f g a b p q r) =
        let d = one_entry f e (sym a ∙ here) in
        true_false (sym (meets_any e earlier g (w.older j g l b) (meets_byte e g p (subst (λ (z : Entry). InRegion z p) d q) r)) ∙ or_right (in_header n e) (meets_any_lem e earlier) h)

-- ---- the whole walk

past_end : (n : ℕ) (all : List Entry) (i : ℕ) → nth i all ≡ None → Misplaced n all i → ⊥
past_end n all i h (on_header e a l s) = let z : Some e ≡ None = sym a ∙ h in absurd (let y : ◌≡◌ {A = ℕ} 0 1 = cc in omega arith)
past_end n all i h (on_earlier j l e f a b p q r) = let z : Some e ≡ None = sym a ∙ h in absurd (let y : ◌≡◌ {A = ℕ} 0 1 = cc in omega arith)

none_misplaced : (n : ℕ) (all : List Entry) (i : ℕ) (earlier es : List Entry) → Walk all i earlier es → apart_verdict n i earlier es ≡ fine
    → (j : ℕ) → i ≤ j → Misplaced n all j → ⊥
unfolding apart_verdict nth
none_misplaced n all i earlier [] w v j l m = past_end n all j (ap (λ (k : ℕ). nth k all) (omega arith) ∙ w.rest (j - i)) m
none_misplaced n all i earlier (e ∷ es) w v j l m =
    let a = passed (in_header n e || meets_any_lem e earlier) 12 i (apart_verdict n (suc i) (e ∷ earlier) es) v in
    go a.0 (none_misplaced n all (suc i) (e ∷ earlier) es (walk_next all i earlier e es w) a.1) (ℕ_discrete j i)
  where
    go : in_header n e || meets_any_lem e earlier ≡ false → ((k : ℕ) → suc i ≤ k → Misplaced n all k → ⊥) → Dec (j ≡ i) → ⊥
    go h r (yes d) = passes all i earlier e es w n h (subst (Misplaced n all) d m)
    go h r (no d) = r j (omega arith) m

first_misplaced : (n : ℕ) (all : List Entry) (i : ℕ) (earlier es : List Entry) → Walk all i earlier es → (k d : ℕ) → apart_verdict n i earlier es ≡ refuse k d
    → (k ≡ overlapping_regions) × Misplaced n all d × ((j : ℕ) → i ≤ j → j < d → Misplaced n all j → ⊥)
unfolding apart_verdict
first_misplaced n all i earlier [] w k d v = absurd (let y : ◌≡◌ {A = ℕ} 0 1 = cc in omega arith)
first_misplaced n all i earlier (e ∷ es) w k d v =
    go (in_header n e || meets_any_lem e earlier) refl v (λ u. first_misplaced n all (suc i) (e ∷ earlier) es (walk_next all i earlier e es w) k d u)
  where
    go : (t : Bool) → in_header n e || meets_any_lem e earlier ≡ t → (refuse_if t overlapping_regions i then apart_verdict n (suc i) (e ∷ earlier) es) ≡ refuse k d
        → (apart_verdict n (suc i) (e ∷ earlier) es ≡ refuse k d → (k ≡ overlapping_regions) × Misplaced n all d × ((j : ℕ) → suc i ≤ j → j < d → Misplaced n all j → ⊥))
        → (k ≡ overlapping_regions) × Misplaced n all d × ((j : ℕ) → i ≤ j → j < d → Misplaced n all j → ⊥)
    go true h u r =
        let a : k ≡ overlapping_regions = cc in
        let b : i ≡ d = cc in
        (a, subst (Misplaced n all) b (refuses all i earlier e es w n h), λ j l g m. omega arith)
    go false h u r =
        let s = r u in
        (s.0, s.1, λ j l g m. pick j l g m s.2 (ℕ_discrete j i))
      where
        pick : (j : ℕ) → i ≤ j → j < d → Misplaced n all j → ((j : ℕ) → suc i ≤ j → j < d → Misplaced n all j → ⊥) → Dec (j ≡ i) → ⊥
        pick j l g m f (yes c) = passes all i earlier e es w n h (subst (Misplaced n all) c m)
        pick j l g m f (no c) = f j (omega arith) g m

-- ---- the rule

module _ (n : ℕ) (es : List Entry) where
  -- laid apart: no entry is misplaced
  pub placed : LaidApart n es → (i : ℕ) → Misplaced n es i → ⊥
  placed a i (on_header e h l s) = let g = a.behind i e h l in omega arith
  placed a i (on_earlier j l e f h k b p q) = a.apart j i l f e k h b q p

  pub apart_is : ((i : ℕ) → Misplaced n es i → ⊥) → LaidApart n es
  apart_is f =
      record {
        behind = λ i e h l. go i e h l (dec_lt (start e) (header_length n));
        apart = λ i j l e g h k b p q. f j (on_earlier i l g e k h b q p);
      }
    where
      go : (i : ℕ) (e : Entry) → nth i es ≡ Some e → 0 < e.words → Dec (start e < header_length n) → header_length n ≤ start e
      go i e h l (yes s) = absurd (f i (on_header e h l s))
      go i e h l (no s) = omega arith

  pub accepts_apart : apart_verdict n 0 [] es ≡ fine → LaidApart n es
  accepts_apart v = apart_is (λ i m. none_misplaced n es 0 [] es (walk_start es) v i (omega arith) m)

  pub names_first : (k d : ℕ) → apart_verdict n 0 [] es ≡ refuse k d → (k ≡ overlapping_regions) × FirstMisplaced n es d
  names_first k d v =
      let s = first_misplaced n es 0 [] es (walk_start es) k d v in
      (s.0, record { here = s.1; first = λ j l m. s.2 j (omega arith) l m })
