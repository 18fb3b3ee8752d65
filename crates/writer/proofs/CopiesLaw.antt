-- Three copies put one after the other. Assumes nothing.
use Rattle.std.proofs.Common.{◌≡◌, ℕ, zero, suc, ◌+◌, ◌-◌, ◌*◌, ◌<◌, ◌≤◌, List, [], ◌++◌, length, refl, sym, ap, subst, arith, zero-le, append-nil}
use Rattle.model.specs.Bytes.{thrice}
use Rattle.model.proofs.BytesLaw.{length_thrice}
use Rattle.put.specs.Put.{Put}
use Rattle.put.proofs.PutLaw.{Going, begin, go_on, fits, gone}

pub copies : ℕ → List ℕ → List ℕ
copies zero v = []
copies (suc n) v = v ++ copies n v

-- i copies of v are put
pub record Copied (o₀ : List ℕ) (p₀ : ℕ) (v o : List ℕ) (p i : ℕ) : Type 0 where
  pub some : i ≤ 3
  pub going : Going o₀ p₀ (thrice v) o p (copies (3 - i) v)

pub none_copied : (o : List ℕ) (p : ℕ) (v : List ℕ) → p + 3 * length v ≤ length o → Copied o p v o p 0
unfolding copies
none_copied o p v h = record {
  some = zero-le;
  going = subst (Going o p (thrice v) o p) (ap (λ (l : List ℕ). v ++ (v ++ l)) (sym (append-nil v))) (begin o p (thrice v) (omega (arith, h, length_thrice v (length v) refl)));
}

module _ {o₀ : List ℕ} {p₀ : ℕ} {v o : List ℕ} {p i : ℕ} (g : Copied o₀ p₀ v o p i) where
  module _ (l : i < 3) where
    next : Going o₀ p₀ (thrice v) o p (v ++ copies (3 - (i + 1)) v)
    unfolding copies
    next = let e : 3 - i ≡ suc (3 - (i + 1)) = omega arith in subst (λ (n : ℕ). Going o₀ p₀ (thrice v) o p (copies n v)) e g.going

    pub copy_room : p + length v ≤ length o
    copy_room = fits o p v (copies (3 - (i + 1)) v) next

    pub one_copied : {r : ℕ} {o' : List ℕ} → Put o p v r o' → Copied o₀ p₀ v o' r (i + 1)
    one_copied q = record { some = omega arith; going = go_on o p v (copies (3 - (i + 1)) v) next q }

  pub all_copied : 3 ≤ i → Put o₀ p₀ (thrice v) p o
  unfolding copies
  all_copied l = let e : 3 - i ≡ 0 = omega arith in gone o p (subst (λ (n : ℕ). Going o₀ p₀ (thrice v) o p (copies n v)) e g.going)
