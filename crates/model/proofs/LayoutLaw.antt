-- Laws of the voted header and of the directory's entries. Assumes nothing.
use mathlib.Core.Path.{◌≡◌, refl, sym, ap, ap₂, ◌∙◌}
use mathlib.Core.Bool.{Bool, true, false, not, ◌||◌, or-true}
use mathlib.Core.List.{List, [], ◌∷◌}
use Prim.Native.Nat.{ℕ, zero, suc, ◌+◌, ◌*◌, ◌≤◌, ◌<◌, zero-le, suc-le-suc}
use native.Mathlib.Nat.{add-zero, le_of_suc-le-suc, not-suc-le-zero}
use native.Mathlib.Numerals.{add-one}
use native.Mathlib.Omega.{arith}
use borrow.Author.Tests.{eq-eqb, ne_eqb}
use lib.Dec.{eqb}
use lib.Bits.{bit_and, bit_or, and_self, or_self, and_lt, or_lt}
use lib.ListN.{length, get_or, drop, length-append, drop_of_length-le}
use lib.Seq.{drop-drop, drop-cons}
use Rattle.bits.specs.Vote.{Majority}
use Rattle.bits.proofs.VoteLaw.{majority}
use Rattle.model.specs.Bytes.{at, read, thrice}
use Rattle.model.specs.Layout.{maj3, voted, prologue, count, header_length, directory_bytes_of, directory_bytes, Entry, entry_of, entries, directory_of, differs, header}
use Rattle.model.proofs.BytesLaw.{length-tabulate, get_d_tabulate, read_drop, length_thrice}
use Rattle.model.specs.Steps.{entry_in}

-- ---- the vote

pub vote_is_majority : (a b c : ℕ) → Majority a b c (maj3 a b c)
vote_is_majority a b c = majority a b c

pub maj3_same : (a : ℕ) → maj3 a a a ≡ a
maj3_same a = simp (and_self, or_self)

pub maj3_low : (a b c : ℕ) → a < 256 → b < 256 → c < 256 → maj3 a b c < 256
maj3_low a b c ha hb hc =
    or_lt 8 (bit_or (bit_and a b) (bit_and a c)) (bit_and b c)
    (or_lt 8 (bit_and a b) (bit_and a c) (and_lt 8 a b ha hb) (and_lt 8 a c ha hc)) (and_lt 8 b c hb hc)

pub length_voted : (base k : ℕ) (x : List ℕ) → length (voted base k x) ≡ k
unfolding voted
length_voted base k x = length-tabulate k (λ j. maj3 (at x (base + j)) (at x (base + k + j)) (at x (base + 2 * k + j)))

pub at_voted : (base k : ℕ) (x : List ℕ) (j : ℕ) → j < k
    → at (voted base k x) j ≡ maj3 (at x (base + j)) (at x (base + k + j)) (at x (base + 2 * k + j))
unfolding voted
at_voted base k x j h = get_d_tabulate k (λ i. maj3 (at x (base + i)) (at x (base + k + i)) (at x (base + 2 * k + i))) j 0 h

pub length_prologue : (x : List ℕ) → length (prologue x) ≡ 16
unfolding prologue
length_prologue x = length_voted 0 16 x

pub length_directory_bytes_of : (n : ℕ) (x : List ℕ) → length (directory_bytes_of n x) ≡ 16 * n
unfolding directory_bytes_of
length_directory_bytes_of n x = length_voted 48 (16 * n) x

pub length_directory_bytes : (x : List ℕ) → length (directory_bytes x) ≡ 16 * count x
unfolding directory_bytes
length_directory_bytes x = length_directory_bytes_of (count x) x

pub length_header : (x : List ℕ) → length (header x) ≡ header_length (count x)
unfolding header
length_header x =
    omega (
      arith,
      length-append (thrice (prologue x)) (thrice (directory_bytes x)),
      length_thrice (prologue x) 16 (length_prologue x),
      length_thrice (directory_bytes x) (16 * count x) (length_directory_bytes x),
    )

-- ---- the entries

abbrev pub entry_at : List ℕ → ℕ → Entry
entry_at b i = entry_of (drop (16 * i) b)

abbrev pub no_entry : Entry
no_entry = record { kind = 0; flags = 0; offset = 0; words = 0; covers = 0; reserved = 0 }

pub length_entries : (n : ℕ) (b : List ℕ) → length (entries n b) ≡ n
unfolding entries
length_entries zero b = refl
length_entries (suc n) b = ap suc (length_entries n (drop 16 b))

pub length_directory_of : (n : ℕ) (x : List ℕ) → length (directory_of n x) ≡ n
unfolding directory_of
length_directory_of n x = length_entries n (directory_bytes_of n x)

pub entry_at_lem : (n : ℕ) (b : List ℕ) (i : ℕ) (d : Entry) → i < n → get_or (entries n b) i d ≡ entry_at b i
unfolding entries
entry_at_lem zero b i d h = absurd (not-suc-le-zero h)
entry_at_lem (suc n) b zero d h = refl
entry_at_lem (suc n) b (suc i) d h =
    let e : 16 + 16 * i ≡ 16 * suc i = omega arith in
    entry_at_lem n (drop 16 b) i d (le_of_suc-le-suc h) ∙ ap entry_of (drop-drop (16 * i) 16 b ∙ ap (λ (k : ℕ). drop k b) e)

-- the entries that are left, from i on: entry i and those behind it, or none
pub walk : (n : ℕ) (x : List ℕ) (i : ℕ) → i < n → drop i (directory_of n x) ≡ entry_in n x i ∷ drop (i + 1) (directory_of n x)
unfolding directory_of
walk n x i h =
    drop-cons (entries n (directory_bytes_of n x)) i no_entry (omega (arith, length_entries n (directory_bytes_of n x)))
    ∙ ap₂ (λ (e : Entry) (k : ℕ). e ∷ drop k (entries n (directory_bytes_of n x))) (entry_at_lem n (directory_bytes_of n x) i no_entry h) (sym (add-one i))

pub walked : (n : ℕ) (x : List ℕ) (i : ℕ) → n ≤ i → drop i (directory_of n x) ≡ []
walked n x i h = let l : length (directory_of n x) ≤ i = omega (arith, length_directory_of n x) in drop_of_length-le (directory_of n x) l

-- the fields of entry i, in the voted bytes
pub kind_in_lem : (n : ℕ) (x : List ℕ) (i : ℕ) → (entry_in n x i).kind ≡ read 2 (directory_bytes_of n x) (16 * i)
unfolding entry_of
kind_in_lem n x i = read_drop 2 (16 * i) (directory_bytes_of n x) 0 ∙ ap (read 2 (directory_bytes_of n x)) (add-zero (16 * i))

pub flags_in_lem : (n : ℕ) (x : List ℕ) (i : ℕ) → (entry_in n x i).flags ≡ read 2 (directory_bytes_of n x) (16 * i + 2)
unfolding entry_of
flags_in_lem n x i = read_drop 2 (16 * i) (directory_bytes_of n x) 2

pub offset_in : (n : ℕ) (x : List ℕ) (i : ℕ) → (entry_in n x i).offset ≡ read 4 (directory_bytes_of n x) (16 * i + 4)
unfolding entry_of
offset_in n x i = read_drop 4 (16 * i) (directory_bytes_of n x) 4

pub words_in_lem : (n : ℕ) (x : List ℕ) (i : ℕ) → (entry_in n x i).words ≡ read 4 (directory_bytes_of n x) (16 * i + 8)
unfolding entry_of
words_in_lem n x i = read_drop 4 (16 * i) (directory_bytes_of n x) 8

pub covers_in : (n : ℕ) (x : List ℕ) (i : ℕ) → (entry_in n x i).covers ≡ read 2 (directory_bytes_of n x) (16 * i + 12)
unfolding entry_of
covers_in n x i = read_drop 2 (16 * i) (directory_bytes_of n x) 12

-- ---- some copy byte differs

pub differs_at : (v x : List ℕ) (p : ℕ) → p < length v → (at v p ≡ at x p → ⊥) → length v ≤ length x → differs v x ≡ true
unfolding differs
differs_at [] x p h f l = absurd (not-suc-le-zero h)
differs_at (a ∷ v) [] p h f l = refl
differs_at (a ∷ v) (b ∷ x) zero h f l = rw (ne_eqb a b f)
differs_at (a ∷ v) (b ∷ x) (suc p) h f l =
    ap (λ (t : Bool). not (eqb a b) || t) (differs_at v x p (le_of_suc-le-suc h) f (le_of_suc-le-suc l)) ∙ or-true (not (eqb a b))

pub differs_not : (v x : List ℕ) → length v ≤ length x → ((p : ℕ) → p < length v → at v p ≡ at x p) → differs v x ≡ false
unfolding differs
differs_not [] x l f = refl
differs_not (a ∷ v) [] l f = absurd (not-suc-le-zero l)
differs_not (a ∷ v) (b ∷ x) l f =
    rw (eq-eqb a b (f 0 (suc-le-suc zero-le))) (differs_not v x (le_of_suc-le-suc l) (λ p h. f (suc p) (suc-le-suc h)))
