-- Bytes put one run after the other: what is left to be put, from where on. Assumes nothing.
use mathlib.Core.Path.{◌≡◌, refl, sym, ap, ap₂, ◌∙◌, subst}
use mathlib.Core.List.{List, [], ◌∷◌, ◌++◌, append_assoc}
use Prim.Native.Nat.{ℕ, suc, ◌+◌, ◌-◌, ◌≤◌}
use native.Mathlib.Nat.{add-zero, add-suc, suc-add}
use native.Mathlib.Omega.{arith}
use lib.ListN.{length, take, drop, set, length-set, length-append}
use lib.Seq.{paste, take-length, sets, length-sets, sets-eq, take_at, drop_at, length-take-le}
use borrow.Rule.Slice.PartMut.{put_mid, Post-is}
use Rattle.put.specs.Put.{Put}

pub sets_append : (o a b : List ℕ) (p : ℕ) → sets o p (a ++ b) ≡ sets (sets o p a) (p + length a) b
sets_append o [] b p = ap (λ (k : ℕ). sets o k b) (sym (add-zero p))
sets_append o (x ∷ a) b p =
    sets_append (set o p x) a b (suc p)
    ∙ ap (λ (k : ℕ). sets (sets (set o p x) (suc p) a) k b) (suc-add p (length a) ∙ sym (add-suc p (length a)))

-- bytes in the place of as many
pub replaced : (o bs : List ℕ) (p : ℕ) {o' : List ℕ} → p + length bs ≤ length o → o' ≡ take p o ++ bs ++ drop (p + length bs) o → Put o p bs (p + length bs) o'
replaced o bs p h e =
    let s = e ∙ sym (sets-eq bs o p h) in
    record { behind = refl; stored = s; long = ap length s ∙ length-sets o p bs }

-- bytes that a loop has put one by one, all of them
pub pasted : (o bs : List ℕ) (p n : ℕ) {o' : List ℕ} → n ≡ length bs → p + length bs ≤ length o → o' ≡ paste o p bs n → Put o p bs (p + length bs) o'
pasted o bs p n e h f = replaced o bs p h (f ∙ ap (paste o p bs) e ∙ ap (λ (l : List ℕ). take p o ++ l ++ drop (p + length bs) o) (take-length bs))

-- a part that was lent and came back with bytes
pub came_back : (o bs : List ℕ) (p n : ℕ) {o' : List ℕ} → length bs ≡ n → p + n ≤ length o → o' ≡ put_mid p (p + n - p) o bs → Put o p bs (p + n) o'
came_back o bs p n {o'} e h f =
    subst (λ (k : ℕ). Put o p bs (p + k) o') e
    (replaced o bs p (omega arith)
    (f ∙ ap (λ (z : List ℕ). take p o ++ (bs ++ z)) (Post-is p (p + n) o (omega arith) ∙ ap (λ (k : ℕ). drop (p + k) o) (sym e))
    ∙ sym (append_assoc (take p o) bs (drop (p + length bs) o))))

-- two runs, one behind the other
pub put_two : (o : List ℕ) (p : ℕ) (a b : List ℕ) {o₁ o₂ : List ℕ} {p₁ p₂ : ℕ} → Put o p a p₁ o₁ → Put o₁ p₁ b p₂ o₂ → Put o p (a ++ b) p₂ o₂
put_two o p a b g h = record {
  behind = omega (arith, g.behind, h.behind, length-append a b);
  stored = h.stored ∙ ap₂ (λ (x : List ℕ) (k : ℕ). sets x k b) g.stored g.behind ∙ sym (sets_append o a b p);
  long = h.long ∙ g.long;
}

-- o₀ with B₀ stored from p₀ on is o with B stored from p on, up to the same place, and there is room for B
pub record Going (o₀ : List ℕ) (p₀ : ℕ) (B₀ o : List ℕ) (p : ℕ) (B : List ℕ) : Type 0 where
  pub same : sets o p B ≡ sets o₀ p₀ B₀
  pub ends : p + length B ≡ p₀ + length B₀
  pub room : p + length B ≤ length o

pub begin : (o : List ℕ) (p : ℕ) (B : List ℕ) → p + length B ≤ length o → Going o p B o p B
begin o p B h = record { same = refl; ends = refl; room = h }

module _ {o₀ : List ℕ} {p₀ : ℕ} {B₀ : List ℕ} where
  -- a run of bytes is put
  pub go_on : (o : List ℕ) (p : ℕ) (a b : List ℕ) {r : ℕ} {o' : List ℕ} → Going o₀ p₀ B₀ o p (a ++ b) → Put o p a r o' → Going o₀ p₀ B₀ o' r b
  go_on o p a b {r} {o'} g h = record {
    same = ap₂ (λ (x : List ℕ) (k : ℕ). sets x k b) h.stored h.behind ∙ sym (sets_append o a b p) ∙ g.same;
    ends = omega (arith, g.ends, h.behind, length-append a b);
    room = omega (arith, g.room, h.behind, h.long, length-append a b);
  }

  -- one byte is put
  pub go_byte : (o : List ℕ) (p x : ℕ) (b : List ℕ) → Going o₀ p₀ B₀ o p (x ∷ b) → Going o₀ p₀ B₀ (set o p x) (p + 1) b
  go_byte o p x b g = go_on o p (x ∷ []) b g (record { behind = refl; stored = refl; long = length-set o p x })

  -- a run of bytes has room
  pub fits : (o : List ℕ) (p : ℕ) (a b : List ℕ) → Going o₀ p₀ B₀ o p (a ++ b) → p + length a ≤ length o
  fits o p a b g = omega (arith, g.room, length-append a b)

  pub kept_length : (o : List ℕ) (p : ℕ) (b : List ℕ) → Going o₀ p₀ B₀ o p b → length o ≡ length o₀
  kept_length o p b g = omega (arith, ap length g.same, length-sets o p b, length-sets o₀ p₀ B₀)

  -- all is put
  pub gone : (o : List ℕ) (p : ℕ) → Going o₀ p₀ B₀ o p [] → Put o₀ p₀ B₀ p o
  gone o p g = record { behind = omega (arith, g.ends); stored = g.same; long = kept_length o p [] g }

  pub last : (o : List ℕ) (p : ℕ) (a : List ℕ) {r : ℕ} {o' : List ℕ} → Going o₀ p₀ B₀ o p a → Put o p a r o' → Put o₀ p₀ B₀ r o'
  last o p a {r} {o'} g h = record { behind = omega (arith, g.ends, h.behind); stored = h.stored ∙ g.same; long = h.long ∙ kept_length o p a g }

-- the bytes put, read back
pub put_part : (o : List ℕ) (p : ℕ) (a : List ℕ) → p + length a ≤ length o → take (length a) (drop p (sets o p a)) ≡ a
put_part o p a h =
    ap (λ (l : List ℕ). take (length a) (drop p l)) (sets-eq a o p h ∙ append_assoc (take p o) a (drop (p + length a) o))
    ∙ ap (take (length a)) (drop_at (take p o) (a ++ drop (p + length a) o) p (length-take-le p o (omega arith)))
    ∙ take_at a (drop (p + length a) o) (length a) refl

pub put_read : (o : List ℕ) (p : ℕ) (a : List ℕ) {r : ℕ} {o' : List ℕ} → Put o p a r o' → p + length a ≤ length o → take (r - p) (drop p o') ≡ a
put_read o p a {r} {o'} h l =
    let e : r - p ≡ length a = omega (arith, h.behind) in
    ap₂ (λ (k : ℕ) (x : List ℕ). take k (drop p x)) e h.stored ∙ put_part o p a l
