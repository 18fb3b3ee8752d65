-- What damage leaves: the vote is right, and a protected word is repaired or found uncorrectable. Assumes nothing.
use mathlib.Core.Path.{◌≡◌, refl, sym, ap, ◌∙◌, subst}
use mathlib.Core.List.{List}
use mathlib.Core.Logic.{◌⊎◌, inl, inr}
use Prim.Native.Nat.{ℕ, ◌+◌, ◌*◌, ◌/◌, ◌≤◌, ◌<◌}
use native.Mathlib.Decide.{dec_lt}
use native.Mathlib.Omega.{arith}
use lib.ListN.{length}
use lib.Seq.{ext_get_or}
use Rattle.bits.specs.Bit.{bit}
use Rattle.bits.specs.Vote.{wrong}
use Rattle.bits.proofs.VoteLaw.{outvoted}
use Rattle.model.specs.Bytes.{at, word_at, Bytes}
use Rattle.model.specs.Layout.{maj3, voted, prologue, count, header_length, directory_bytes_of, directory_bytes}
use Rattle.model.specs.Parity.{uncorrectable, check_of, flip_word, flip_check, decode, fixed_word, fixed_check}
use Rattle.model.specs.Scan.{Among, codewords, is_uncorrectable}
use Rattle.model.specs.Mend.{MendRule}
use Rattle.model.proofs.BytesLaw.{read_lt}
use Rattle.model.proofs.LayoutLaw.{vote_is_majority, maj3_low, length_voted, at_voted, length_prologue, length_directory_bytes}
use Rattle.model.proofs.ParityLaw.{decode_clean, single_flip, double_flip, flip_flip}
use Rattle.lemmas.proofs.BytesLow.{bytes_voted}
use Rattle.lemmas.proofs.CodeLaw.{check_low, fixed_clean}
use Rattle.lemmas.proofs.HeaderLaw.{Copies, SameHeader, same_votes, same_header, same_codewords, prologue_copies, directory_copies}
use Rattle.lemmas.proofs.MendLaw.{same_in_word, InOrder}
use Rattle.lemmas.proofs.CodewordLaw.{Where, in_word, is_check, neither, classify}
use Rattle.theorems.specs.Damage.{Protected, OneCopyOff, Damaged, Uncorrectable}
use Rattle.theorems.proofs.Distance.{apart, Flips, intact, one, two, flips}

-- ---- the vote

pub voted_right : (v d : List ℕ) (base k : ℕ) → Bytes v → Bytes d → length v ≡ k
    → ((j i : ℕ) → j < k → i < 8 → wrong (bit (at v j) i) (bit (at d (base + j)) i) (bit (at d (base + k + j)) i) (bit (at d (base + 2 * k + j)) i) ≤ 1)
    → voted base k d ≡ v
voted_right v d base k bv bd e o =
    ext_get_or 0 (voted base k d) v (length_voted base k d ∙ sym e)
    (λ j h. let l : j < k = omega (arith, length_voted base k d) in
    at_voted base k d j l
    ∙ outvoted 8 (at d (base + j)) (at d (base + k + j)) (at d (base + 2 * k + j)) (maj3 (at d (base + j)) (at d (base + k + j)) (at d (base + 2 * k + j))) (at v j)
    (maj3_low (at d (base + j)) (at d (base + k + j)) (at d (base + 2 * k + j)) (bd.small (base + j)) (bd.small (base + k + j)) (bd.small (base + 2 * k + j)))
    (bv.small j)
    (vote_is_majority (at d (base + j)) (at d (base + k + j)) (at d (base + 2 * k + j)))
    (λ i b. o j i l b))

voted_damaged : (w d : List ℕ) (base k : ℕ) (v : List ℕ) → Bytes v → Bytes d → length v ≡ k → Copies w base k v → OneCopyOff w d base k → voted base k d ≡ v
voted_damaged w d base k v bv bd e c o =
    voted_right v d base k bv bd e (λ j i l b. rw (c.first j l, c.second j l, c.third j l) at (o j i l b))

-- ---- one word, of whose 72 bits some are flipped

-- it is repaired, and not found uncorrectable
pub Right : ℕ → ℕ → ℕ → ℕ → Type 0
Right w c w' c' = (w ≡ fixed_word w' c') × (c ≡ fixed_check w' c') × (is_uncorrectable (decode w' c') ≡ 0)

repaired_one : (w i : ℕ) → i < 72 → Right w (check_of w) (flip_word i w) (flip_check i (check_of w))
unfolding Right fixed_word fixed_check
repaired_one w i h = rw (single_flip w i h, flip_flip i w) (refl, refl, refl)

repaired : (w w' c' n : ℕ) → Flips w (check_of w) n w' c' → Right w (check_of w) w' c' ⊎ ((n ≡ 2) × (decode w' c' ≡ uncorrectable))
unfolding Right
repaired w w' c' n intact = inl (sym (fixed_clean w).0, sym (fixed_clean w).1, ap is_uncorrectable (decode_clean w))
repaired w w' c' n (one i h) = inl (repaired_one w i h)
repaired w w' c' n (two i j hi hj d) = inr (refl, double_flip w i j hi hj d)

-- ---- an image in order, damaged

module _ (limit : ℕ) (w d : List ℕ) (g : InOrder w) (a : Damaged limit w d) where
  voted_back : (base k : ℕ) (v : List ℕ) → v ≡ voted base k w → length v ≡ k → Copies w base k v → OneCopyOff w d base k → voted base k d ≡ v
  voted_back base k v e l c o = voted_damaged w d base k v (subst Bytes (sym e) (bytes_voted base k w g.bytes)) a.bytes l c o

  pub damaged_header : SameHeader d w
  unfolding prologue directory_bytes directory_bytes_of
  damaged_header =
      same_votes d w
      (voted_back 0 16 (prologue w) refl (length_prologue w) (prologue_copies w w g.copies) a.prologue)
      (voted_back 48 (16 * count w) (directory_bytes w) refl (length_directory_bytes w) (directory_copies w w g.copies) a.directory)

  pub damaged_codewords : codewords d ≡ codewords w
  damaged_codewords = same_codewords d w a.size damaged_header

  -- with at most two bits off, a protected word is repaired, or found uncorrectable
  pub each : (q c : ℕ) → Protected w q c → limit ≤ 2
      → Right (word_at w q) (at w c) (word_at d q) (at d c) ⊎ ((2 ≤ limit) × (Uncorrectable d q c))
  unfolding Right
  each q c m h =
      go (rw e at (a.words q c m))
      (repaired W (word_at d q) (at d c) n
      (flips W (check_of W) (read_lt 8 w (8 * q) g.bytes) (check_low W) (word_at d q) (at d c) (read_lt 8 d (8 * q) a.bytes) (a.bytes.small c) n
      (omega (arith, rw e at (a.words q c m))) refl))
    where
      W : ℕ
      W = word_at w q

      e : at w c ≡ check_of W
      e = g.checks q c m

      n : ℕ
      n = apart (word_at d q) (at d c) W (check_of W)

      go : n ≤ limit → Right W (check_of W) (word_at d q) (at d c) ⊎ ((n ≡ 2) × (Uncorrectable d q c))
          → Right W (at w c) (word_at d q) (at d c) ⊎ ((2 ≤ limit) × (Uncorrectable d q c))
      go l (inl r) = inl (r.0, e ∙ r.1, r.2)
      go l (inr r) = inr (let z = r.0 in omega arith, r.1)

  module _ (y : List ℕ) (r : MendRule d y) (h : limit ≤ 2) where
    -- mended, every byte outside the uncorrectable words and their check bytes is w's
    pub outside : (p : ℕ)
        → ((q c : ℕ) → Protected w q c → 2 ≤ limit → Uncorrectable d q c → (q ≡ p / 8 → ⊥) × (c ≡ p → ⊥)) → at y p ≡ at w p
    unfolding Right
    outside p f = go (dec_lt p (header_length (count w)))
      where
        word : (q c : ℕ) → Protected w q c → q ≡ p / 8 → Right (word_at w q) (at w c) (word_at d q) (at d c) ⊎ ((2 ≤ limit) × (Uncorrectable d q c))
            → at y p ≡ at w p
        word q c m e (inl k) = same_in_word y w q p r.bytes g.bytes (r.words q c (subst (Among q c) (sym damaged_codewords) m) ∙ sym k.0) e
        word q c m e (inr k) = absurd ((f q c m k.0 k.1).0 e)

        check : (q c : ℕ) → Protected w q c → c ≡ p → Right (word_at w q) (at w c) (word_at d q) (at d c) ⊎ ((2 ≤ limit) × (Uncorrectable d q c))
            → at y p ≡ at w p
        check q c m e (inl k) = subst (λ (n : ℕ). at y n ≡ at w n) e (r.checks q c (subst (Among q c) (sym damaged_codewords) m) ∙ sym k.1)
        check q c m e (inr k) = absurd ((f q c m k.0 k.1).1 e)

        rest : header_length (count w) ≤ p → Where p (codewords w) → at y p ≡ at w p
        rest l (in_word q c m e) = word q c m e (each q c m h)
        rest l (is_check q c m e) = check q c m e (each q c m h)
        rest l (neither n o) =
            r.others p (record {
              past = subst (λ (k : ℕ). header_length k ≤ p) (sym damaged_header.count≡) l;
              no_word = λ q c i. n q c (subst (Among q c) damaged_codewords i);
              no_check = λ q c i. o q c (subst (Among q c) damaged_codewords i);
            })
            ∙ a.others p (record { past = l; no_word = n; no_check = o })

        go : Dec (p < header_length (count w)) → at y p ≡ at w p
        go (yes l) =
            r.copies p (subst (λ (k : ℕ). p < header_length k) (sym damaged_header.count≡) l)
            ∙ ap (λ (x : List ℕ). at x p) (same_header d w damaged_header) ∙ sym (g.copies p l)
        go (no n) = rest (omega arith) (classify (codewords w) p)

    -- so where none is uncorrectable, it is w
    pub wholly : ((q c : ℕ) → Protected w q c → 2 ≤ limit → Uncorrectable d q c → ⊥) → y ≡ w
    wholly f =
        ext_get_or 0 y w (r.size ∙ a.size)
        (λ p l. outside p (λ q c m i e. ((λ u. f q c m i e), (λ u. f q c m i e))))

-- demand 3's damage: no word is uncorrectable
pub none_uncorrectable_lem : (w d : List ℕ) (g : InOrder w) (a : Damaged 1 w d) (q c : ℕ) → Protected w q c → is_uncorrectable (decode (word_at d q) (at d c)) ≡ 0
unfolding Right
none_uncorrectable_lem w d g a q c m = go (each 1 w d g a q c m (omega arith))
  where
    go : Right (word_at w q) (at w c) (word_at d q) (at d c) ⊎ ((2 ≤ 1) × (Uncorrectable d q c)) → is_uncorrectable (decode (word_at d q) (at d c)) ≡ 0
    go (inl r) = r.2
    go (inr r) = absurd (let z = r.0 in omega arith)
