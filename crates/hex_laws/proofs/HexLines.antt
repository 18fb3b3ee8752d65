-- A text's lines, and what is read of a line that was written. Assumes nothing.
use mathlib.Core.Path.{◌≡◌, refl, sym, ap, ◌∙◌, subst}
use mathlib.Core.Bool.{Bool, true, false, ◌&&◌, cond}
use mathlib.Core.List.{List, [], ◌∷◌, ◌++◌}
use Rattle.std.specs.Prelude.{Option, None, Some}
use Prim.Native.Nat.{ℕ, zero, suc, ◌+◌, ◌-◌, ◌/◌, ◌%◌, ◌≤◌, ◌<◌}
use native.Mathlib.Omega.{arith}
use borrow.Author.Tests.{eqb-true, eqb-false, leb-true, eq-eqb, ne_eqb}
use lib.Dec.{T, eqb, ltb, leb, eqb→eq}
use lib.ListN.{length, take, drop, length-append}
use lib.Seq.{take-append_seam}
use Rattle.bits.proofs.Table.{every, entry}
use Rattle.model.specs.Bytes.{Bytes}
use Rattle.model.specs.Hex.{digit_of, pairs_of, total, record_bytes, sum_byte, record_line, value_of, bytes_in, record_of_lem, record_in, record_among, record_on, Lines, rest, line, before, lines_of}

-- ---- what holds of each element

abbrev pub Each : (ℕ → Type 0) → List ℕ → Type 0
Each P [] = Unit {0}
Each P (c ∷ cs) = P c × Each P cs

module _ (P : ℕ → Type 0) where
  pub each_append : (x y : List ℕ) → Each P x → Each P y → Each P (x ++ y)
  each_append [] y f g = g
  each_append (c ∷ x) y f g = (f.0, each_append x y f.1 g)

  pub each_take : (n : ℕ) (x : List ℕ) → Each P x → Each P (take n x)
  each_take zero x f = tt
  each_take (suc n) [] f = tt
  each_take (suc n) (c ∷ x) f = (f.0, each_take n x f.1)

  pub each_drop : (n : ℕ) (x : List ℕ) → Each P x → Each P (drop n x)
  each_drop zero x f = f
  each_drop (suc n) [] f = tt
  each_drop (suc n) (c ∷ x) f = each_drop n x f.1

-- every element is a byte
abbrev pub Small : List ℕ → Type 0
Small x = Each (λ b. b < 256) x

pub bytes_small : (x : List ℕ) → Bytes x → Small x
bytes_small [] b = tt
bytes_small (c ∷ x) b = (b.small 0, bytes_small x (record { small = λ p. b.small (suc p) }))

-- ---- lines

-- a text without a line feed
abbrev pub NoFeed : List ℕ → Type 0
NoFeed x = Each (λ c. c ≡ 10 → ⊥) x

pub lines_one : (l t : List ℕ) → NoFeed l → lines_of (l ++ (10 ∷ t)) ≡ line l (lines_of t)
unfolding lines_of
lines_one [] t f = refl
lines_one (c ∷ l) t f = rw (ne_eqb c 10 f.0) (ap (before c) (lines_one l t f.1))

pub lines_rest : (t : List ℕ) → NoFeed t → lines_of t ≡ rest t
unfolding lines_of
lines_rest [] f = refl
lines_rest (c ∷ t) f = rw (ne_eqb c 10 f.0) (ap (before c) (lines_rest t f.1))

-- the first line of a text, and what stands behind its line feed
pub record FirstLine (x l : List ℕ) (ls : Lines) : Type 0 where
  pub behind : List ℕ
  pub no_feed : NoFeed l
  pub whole : x ≡ l ++ (10 ∷ behind)
  pub others : ls ≡ lines_of behind

pub first_line_lem : (x l : List ℕ) (ls : Lines) → lines_of x ≡ line l ls → FirstLine x l ls
unfolding lines_of
first_line_lem [] l ls e = let z : ◌≡◌ {A = ℕ} 0 1 = cc in absurd (omega arith)
first_line_lem (c ∷ x) l ls e = go (eqb c 10) refl (lines_of x) refl (λ m ms f. first_line_lem x m ms f) e
  where
    go : (t : Bool) → eqb c 10 ≡ t → (o : Lines) → lines_of x ≡ o → ((m : List ℕ) (ms : Lines) → lines_of x ≡ line m ms → FirstLine x m ms)
        → cond t (line [] o) (before c o) ≡ line l ls → FirstLine (c ∷ x) l ls
    go true f o g ih e =
        let p : [] ≡ l = cc in
        let q : o ≡ ls = cc in
        record {
          behind = x;
          no_feed = subst NoFeed p tt;
          whole = ap (λ (k : ℕ). k ∷ x) (eqb-true c 10 f) ∙ ap (λ (k : List ℕ). k ++ (10 ∷ x)) p;
          others = sym q ∙ sym g;
        }
    go false f (rest t) g ih e = let z : ◌≡◌ {A = ℕ} 0 1 = cc in absurd (omega arith)
    go false f (line m ms) g ih e =
        let p : c ∷ m ≡ l = cc in
        let q : ms ≡ ls = cc in
        let r = ih m ms g in
        record {
          behind = r.behind;
          no_feed = subst NoFeed p (eqb-false c 10 f, r.no_feed);
          whole = ap {B = List ℕ} (λ (k : List ℕ). c ∷ k) r.whole ∙ ap (λ (k : List ℕ). k ++ (10 ∷ r.behind)) p;
          others = sym q ∙ r.others;
        }

-- ---- digits

is_some : ℕ → Option ℕ → Bool
is_some n None = false
is_some n (Some m) = eqb m n

is_some_lem : (n : ℕ) (o : Option ℕ) → T (is_some n o) → o ≡ Some n
unfolding is_some
is_some_lem n None h = absurd h
is_some_lem n (Some m) h = ap Some (eqb→eq m n h)

reads_back : ℕ → ℕ → Bool
reads_back i d = is_some i (value_of (digit_of i))

sixteen : List ℕ
sixteen = 0 ∷ 1 ∷ 2 ∷ 3 ∷ 4 ∷ 5 ∷ 6 ∷ 7 ∷ 8 ∷ 9 ∷ 10 ∷ 11 ∷ 12 ∷ 13 ∷ 14 ∷ 15 ∷ []

pub digit_value : (d : ℕ) → d < 16 → value_of (digit_of d) ≡ Some d
unfolding reads_back is_some sixteen every value_of digit_of
digit_value d h = is_some_lem d (value_of (digit_of d)) (entry reads_back sixteen tt d h)

pub digit_char : (d : ℕ) → 48 ≤ digit_of d
unfolding digit_of
digit_char d = go (ltb d 10)
  where
    go : (t : Bool) → 48 ≤ cond t (48 + d) (55 + d)
    go true = omega arith
    go false = omega arith

both_true : (s t : Bool) → (s && t) ≡ true → (s ≡ true) × (t ≡ true)
both_true true t e = (refl, e)
both_true false t e = let z : ◌≡◌ {A = ℕ} 0 1 = cc in absurd (omega arith)

pub value_small : (c v : ℕ) → value_of c ≡ Some v → v < 16
unfolding value_of
value_small c v e = go (leb 48 c && leb c 57) refl (leb 65 c && leb c 70) refl (leb 97 c && leb c 102) refl e
  where
    go : (r : Bool) → (leb 48 c && leb c 57) ≡ r → (s : Bool) → (leb 65 c && leb c 70) ≡ s → (t : Bool) → (leb 97 c && leb c 102) ≡ t
        → cond r (Some (c - 48)) (cond s (Some (c - 55)) (cond t (Some (c - 87)) None)) ≡ Some v → v < 16
    go true f s g t h e = let z : c - 48 ≡ v = cc in omega (arith, leb-true c 57 (both_true (leb 48 c) (leb c 57) f).1)
    go false f true g t h e = let z : c - 55 ≡ v = cc in omega (arith, leb-true c 70 (both_true (leb 65 c) (leb c 70) g).1)
    go false f false g true h e = let z : c - 87 ≡ v = cc in omega (arith, leb-true c 102 (both_true (leb 97 c) (leb c 102) h).1)
    go false f false g false h e = let z : ◌≡◌ {A = ℕ} 0 1 = cc in absurd (omega arith)

-- ---- bytes in pairs of digits

pub pairs_no_feed : (bs : List ℕ) → NoFeed (pairs_of bs)
unfolding pairs_of
pairs_no_feed [] = tt
pairs_no_feed (b ∷ bs) = (λ e. omega (arith, digit_char (b / 16)), (λ e. omega (arith, digit_char (b % 16)), pairs_no_feed bs))

pub line_no_feed : (a t : ℕ) (bs : List ℕ) → NoFeed (record_line a t bs)
unfolding record_line
line_no_feed a t bs = (λ e. omega arith, pairs_no_feed (record_bytes a t bs ++ (sum_byte (record_bytes a t bs) ∷ [])))

pub pairs_back : (bs : List ℕ) → Small bs → bytes_in (pairs_of bs) ≡ Some bs
unfolding pairs_of bytes_in
pairs_back [] s = refl
pairs_back (b ∷ bs) s =
    let h : b < 256 = s.0 in
    rw (digit_value (b / 16) (omega arith), digit_value (b % 16) (omega arith), pairs_back bs s.1)
    (ap (λ (n : ℕ). Some (n ∷ bs)) (omega arith))

-- ---- a line that was written

pub total_append : (x y : List ℕ) → total (x ++ y) ≡ total x + total y
unfolding total
total_append [] y = omega arith
total_append (b ∷ x) y = omega (arith, total_append x y)

pub sum_right : (bs : List ℕ) → total (bs ++ (sum_byte bs ∷ [])) % 256 ≡ 0
unfolding sum_byte total
sum_right bs = ap (λ (n : ℕ). n % 256) (total_append bs (sum_byte bs ∷ [])) ∙ up_to (total bs)
  where
    up_to : (s : ℕ) → (s + ((256 - s % 256) % 256 + 0)) % 256 ≡ 0
    up_to s = omega arith

pub sum_small : (bs : List ℕ) → sum_byte bs < 256
unfolding sum_byte
sum_small bs = omega arith

-- a line's bytes
abbrev pub whole_record : ℕ → ℕ → List ℕ → List ℕ
whole_record a t bs = record_bytes a t bs ++ (sum_byte (record_bytes a t bs) ∷ [])

-- what the two digits of a byte can hold, and the four of an address
pub record Fits (a t : ℕ) (bs : List ℕ) : Type 0 where
  pub address : a < 65536
  pub type : t < 256
  pub few : length bs ≤ 255
  pub small : Small bs

module _ (a t : ℕ) (bs : List ℕ) (f : Fits a t bs) where
  pub record_small : Small (whole_record a t bs)
  unfolding record_bytes
  record_small =
      let l : a < 65536 = f.address in
      let n : length bs ≤ 255 = f.few in
      (omega arith, (omega arith, (omega arith, (f.type, each_append (λ b. b < 256) bs (sum_byte (record_bytes a t bs) ∷ []) f.small (sum_small (record_bytes a t bs), tt)))))

  pub record_bytes_lem : record_on (record_line a t bs) ≡ record_in (whole_record a t bs)
  unfolding record_on record_line
  record_bytes_lem = ap record_among (pairs_back (whole_record a t bs) record_small)

  pub record_in_lem : record_in (whole_record a t bs) ≡ record_of_lem t a bs
  unfolding record_in record_bytes
  record_in_lem =
      let s : ℕ = sum_byte (length bs ∷ a / 256 ∷ a % 256 ∷ t ∷ bs) in
      let n : eqb (length (bs ++ (s ∷ []))) (length bs + 1) ≡ true = eq-eqb (length (bs ++ (s ∷ []))) (length bs + 1) (length-append bs (s ∷ [])) in
      let r : eqb (total (whole_record a t bs) % 256) 0 ≡ true = eq-eqb (total (whole_record a t bs) % 256) 0 (sum_right (record_bytes a t bs)) in
      rw (n, r, take-append_seam bs (s ∷ [])) (ap (λ (k : ℕ). record_of_lem t k bs) (omega arith))

  pub record_back : record_on (record_line a t bs) ≡ record_of_lem t a bs
  record_back = record_bytes_lem ∙ record_in_lem
