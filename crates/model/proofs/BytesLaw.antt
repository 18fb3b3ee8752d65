-- Laws of reading and writing bytes. Assumes nothing.
use mathlib.Core.Path.{◌≡◌, refl, sym, ap, ap₂, ◌∙◌, subst}
use mathlib.Core.Bool.{true, false}
use mathlib.Core.List.{List, ◌∷◌, ◌++◌, append_assoc}
use Rattle.std.specs.Prelude.{None, Some}
use Prim.Native.Nat.{ℕ, zero, suc, ◌+◌, ◌-◌, ◌*◌, ◌/◌, ◌%◌, ◌^◌, ◌<◌, zero-le, suc-le-suc}
use native.Mathlib.Nat.{add-zero, add-suc, suc-add, le_of_suc-le-suc, not-suc-le-zero, mod-lt, pow-suc, div-lt_iff_lt-mul}
use native.Mathlib.Numerals.{towards_suc}
use native.Mathlib.Omega.{arith}
use lib.Dec.{leb, lit<}
use lib.Arith.{lt-one}
use lib.ListN.{length, get_or, drop, length-append, get_or-append, length-drop}
use lib.Seq.{get_or-append-add, get_or-drop, take_all}
use Rattle.model.specs.Bytes.{part, at, read, read_in, le_bytes, tabulate, thrice, Bytes}

-- ---- tabulate

pub length-tabulate {ℓ} : {A : Type ℓ} (n : ℕ) (f : ℕ → A) → length (tabulate n f) ≡ n
unfolding tabulate
length-tabulate zero f = refl
length-tabulate (suc n) f = ap suc (length-tabulate n (λ i. f (suc i)))

pub get_d_tabulate {ℓ} : {A : Type ℓ} (n : ℕ) (f : ℕ → A) (i : ℕ) (d : A) → i < n → get_or (tabulate n f) i d ≡ f i
unfolding tabulate
get_d_tabulate zero f i d h = absurd (not-suc-le-zero h)
get_d_tabulate (suc n) f zero d h = refl
get_d_tabulate (suc n) f (suc i) d h = get_d_tabulate n (λ j. f (suc j)) i d (le_of_suc-le-suc h)

pub drop-tabulate {ℓ} : {A : Type ℓ} (n : ℕ) (f : ℕ → A) (i : ℕ) → i < n → drop i (tabulate n f) ≡ f i ∷ drop (suc i) (tabulate n f)
unfolding tabulate
drop-tabulate zero f i h = absurd (not-suc-le-zero h)
drop-tabulate (suc n) f zero h = refl
drop-tabulate (suc n) f (suc i) h = drop-tabulate n (λ j. f (suc j)) i (le_of_suc-le-suc h)

pub tabulate-ext {ℓ} : {A : Type ℓ} (n : ℕ) (f g : ℕ → A) → ((i : ℕ) → i < n → f i ≡ g i) → tabulate n f ≡ tabulate n g
unfolding tabulate
tabulate-ext zero f g e = refl
tabulate-ext (suc n) f g e =
    ap₂ ◌∷◌ (e 0 (suc-le-suc zero-le)) (tabulate-ext n (λ i. f (suc i)) (λ i. g (suc i)) (λ i h. e (suc i) (suc-le-suc h)))

-- ---- appended lists

pub at_left : (a b : List ℕ) (k j : ℕ) → length a ≡ k → j < k → at (a ++ b) j ≡ at a j
at_left a b k j e h = get_or-append a b 0 j (omega arith)

pub at_right : (a b : List ℕ) (k j : ℕ) → length a ≡ k → at (a ++ b) (k + j) ≡ at b j
at_right a b k j e = ap (λ (n : ℕ). at (a ++ b) (n + j)) (sym e) ∙ get_or-append-add a b j 0

pub thrice_flat : (v r : List ℕ) → thrice v ++ r ≡ v ++ (v ++ (v ++ r))
thrice_flat v r = append_assoc v (v ++ v) r ∙ ap (λ (l : List ℕ). v ++ l) (append_assoc v v r)

module _ (v r : List ℕ) (k : ℕ) (e : length v ≡ k) (j : ℕ) where
  pub thrice_0 : j < k → at (thrice v ++ r) j ≡ at v j
  thrice_0 h = ap (λ (l : List ℕ). at l j) (thrice_flat v r) ∙ at_left v (v ++ (v ++ r)) k j e h

  pub thrice_1 : j < k → at (thrice v ++ r) (k + j) ≡ at v j
  thrice_1 h =
      ap (λ (l : List ℕ). at l (k + j)) (thrice_flat v r) ∙ at_right v (v ++ (v ++ r)) k j e ∙ at_left v (v ++ r) k j e h

  pub thrice_2 : j < k → at (thrice v ++ r) (2 * k + j) ≡ at v j
  thrice_2 h =
      let m : 2 * k + j ≡ k + (k + j) = omega arith in
      ap₂ (λ (l : List ℕ) (p : ℕ). at l p) (thrice_flat v r) m
      ∙ at_right v (v ++ (v ++ r)) k (k + j) e ∙ at_right v (v ++ r) k j e ∙ at_left v r k j e h

  pub thrice_3 : at (thrice v ++ r) (3 * k + j) ≡ at r j
  thrice_3 =
      let m : 3 * k + j ≡ k + (k + (k + j)) = omega arith in
      ap₂ (λ (l : List ℕ) (p : ℕ). at l p) (thrice_flat v r) m
      ∙ at_right v (v ++ (v ++ r)) k (k + (k + j)) e ∙ at_right v (v ++ r) k (k + j) e ∙ at_right v r k j e

pub length_thrice : (v : List ℕ) (k : ℕ) → length v ≡ k → length (thrice v) ≡ 3 * k
length_thrice v k e = omega (arith, length-append v (v ++ v), length-append v v)

-- ---- numbers

pub read_ext : (k : ℕ) (x y : List ℕ) (p r : ℕ) → ((j : ℕ) → j < k → at x (p + j) ≡ at y (r + j)) → read k x p ≡ read k y r
unfolding read
read_ext zero x y p r f = refl
read_ext (suc k) x y p r f =
    ap₂ (λ (a b : ℕ). a + 256 * b)
    (sym (ap (at x) (add-zero p)) ∙ f 0 (suc-le-suc zero-le) ∙ ap (at y) (add-zero r))
    (read_ext k x y (suc p) (suc r)
    (λ j h. ap (at x) (suc-add p j ∙ sym (add-suc p j)) ∙ f (suc j) (suc-le-suc h) ∙ ap (at y) (add-suc r j ∙ sym (suc-add r j))))

pub read_inj : (k : ℕ) (x y : List ℕ) (p : ℕ) → Bytes x → Bytes y → read k x p ≡ read k y p
    → (j : ℕ) → j < k → at x (p + j) ≡ at y (p + j)
unfolding read
read_inj zero x y p bx by e j h = absurd (not-suc-le-zero h)
read_inj (suc k) x y p bx by e zero h =
    let l : at x p ≡ at y p = omega (arith, bx.small p, by.small p) in
    ap (at x) (add-zero p) ∙ l ∙ sym (ap (at y) (add-zero p))
read_inj (suc k) x y p bx by e (suc j) h =
    let l : read k x (suc p) ≡ read k y (suc p) = omega (arith, bx.small p, by.small p) in
    ap (at x) (add-suc p j ∙ sym (suc-add p j))
    ∙ read_inj k x y (suc p) bx by l j (le_of_suc-le-suc h)
    ∙ ap (at y) (suc-add p j ∙ sym (add-suc p j))

pub read_drop : (k n : ℕ) (x : List ℕ) (p : ℕ) → read k (drop n x) p ≡ read k x (n + p)
read_drop k n x p =
    read_ext k (drop n x) x p (n + p) (λ j h. get_or-drop n x (p + j) 0 ∙ ap (at x) (omega arith))

pub length_le_bytes : (k v : ℕ) → length (le_bytes k v) ≡ k
unfolding le_bytes
length_le_bytes zero v = refl
length_le_bytes (suc k) v = ap suc (length_le_bytes k (v / 256))

pub le_bytes_small : (k v j : ℕ) → at (le_bytes k v) j < 256
unfolding le_bytes
le_bytes_small zero v j = lit< tt
le_bytes_small (suc k) v zero = mod-lt v (lit< tt)
le_bytes_small (suc k) v (suc j) = le_bytes_small k (v / 256) j

read_suc : (k : ℕ) (b : ℕ) (x : List ℕ) (p : ℕ) → read k (b ∷ x) (suc p) ≡ read k x p
unfolding read
read_suc zero b x p = refl
read_suc (suc k) b x p = ap (λ (n : ℕ). at x p + 256 * n) (read_suc k b x (suc p))

-- a number that fits is read back
pub read_le_bytes : (k v : ℕ) (r : List ℕ) → v < 256 ^ k → read k (le_bytes k v ++ r) 0 ≡ v
unfolding read le_bytes
read_le_bytes zero v r h = sym (lt-one h)
read_le_bytes (suc k) v r h =
    let l : v / 256 < 256 ^ k = (div-lt_iff_lt-mul (lit< tt)).1 (subst (λ (x : ℕ). v < x) (pow-suc 256 k) h) in
    let e : read k (v % 256 ∷ (le_bytes k (v / 256) ++ r)) 1 ≡ v / 256 = read_suc k (v % 256) (le_bytes k (v / 256) ++ r) 0 ∙ read_le_bytes k (v / 256) r l in
    omega arith

-- k bytes make a number below 256 ^ k
pub read_lt : (k : ℕ) (x : List ℕ) (p : ℕ) → Bytes x → read k x p < 256 ^ k
unfolding read
read_lt zero x p b = lit< tt
read_lt (suc k) x p b = let h : read k x (suc p) < 256 ^ k = read_lt k x (suc p) b in omega (arith, b.small p, pow-suc 256 k)

-- ---- by place values, as code adds them up

pub places_1 : (x : List ℕ) (p : ℕ) → read 1 x p ≡ at x p
unfolding read
places_1 x p = simp (towards_suc, add-zero)

pub places_2 : (x : List ℕ) (p : ℕ) → read 2 x p ≡ at x p + at x (p + 1) * 256
unfolding read
places_2 x p = simp (towards_suc, add-zero) (omega arith)

-- four bytes by two and two
pub read_halves : (x : List ℕ) (p : ℕ) → read 4 x p ≡ read 2 x p + 65536 * read 2 x (p + 2)
unfolding read
read_halves x p = simp (towards_suc, add-zero) (omega arith)

-- eight bytes by four and four
pub read_halves_8 : (x : List ℕ) (p : ℕ) → read 8 x p ≡ read 4 x p + 4294967296 * read 4 x (p + 4)
unfolding read
read_halves_8 x p = simp (towards_suc, add-zero) (omega arith)

-- ---- a read that may be past the end

module _ (k : ℕ) (x : List ℕ) (p : ℕ) where
  pub read_in_lem : leb (p + k) (length x) ≡ true → Some (read k x p) ≡ read_in k x p
  unfolding read_in
  read_in_lem e = simp e

  pub read_past : leb (p + k) (length x) ≡ false → None ≡ read_in k x p
  unfolding read_in
  read_past e = simp e

-- ---- parts

pub part_to_end : (x : List ℕ) (k : ℕ) → part x k (length x) ≡ drop k x
part_to_end x k = take_all (length x - k) (drop k x) (omega (arith, length-drop k x))
