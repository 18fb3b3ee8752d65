-- Lines put one after the other. Assumes nothing.
use Rattle.std.proofs.Common.{◌≡◌, ℕ, ◌+◌, ◌*◌, ◌/◌, ◌%◌, ◌<◌, ◌≤◌, List, [], ◌∷◌, ◌++◌, length, min, take, drop, refl, sym, ap, ap₂, ◌∙◌, subst, append_assoc, arith, length-append, length-drop}
use native.Mathlib.Decide.{dec_lt}
use Rattle.std.proofs.lemmas.List.{take_at, drop_at, drop-drop, take_min, drop_all, nil_from_length}
use Rattle.model.specs.Programs.{lines}
use Rattle.model.specs.Hex.{record_line, data_type, end_type, upper_type, upper_lines, end_line, hex_text}
use Rattle.put.specs.Put.{Put}
use Rattle.put.proofs.PutLaw.{Going, begin, go_on, fits, last}
use Rattle.hex_laws.proofs.HexLength.{text_upper, text_no_upper, text_from, text_start, text_step, text_end}
use Rattle.intel_hex.proofs.RecordLaw.{line_of, length_line}

-- the line of the sixteen bytes, or fewer, from address a on
abbrev pub line_from : List ℕ → ℕ → List ℕ
line_from x a = line_of (a % 65536) data_type (take 16 (drop a x))

line_step : (x : List ℕ) (a : ℕ) → a < length x → text_from x a ≡ lines (upper_lines a) ++ (line_from x a ++ text_from x (a + 16))
line_step x a l = text_step x a l ∙ ap (λ (t : List ℕ). lines (upper_lines a) ++ t) (sym (append_assoc (record_line (a % 65536) data_type (take 16 (drop a x))) (10 ∷ []) (text_from x (a + 16))))

end_step : (x : List ℕ) (a : ℕ) → length x ≤ a → text_from x a ≡ line_of 0 end_type []
unfolding end_line
end_step x a l = text_end x a l

-- ---- the line before a further 65,536 bytes, or none

pub no_upper_first : (a : ℕ) → a ≡ 0 → [] ≡ lines (upper_lines a)
no_upper_first a e = sym (text_no_upper a (λ h k. omega arith))

pub no_upper_within : (a : ℕ) → (a % 65536 ≡ 0 → ⊥) → [] ≡ lines (upper_lines a)
no_upper_within a n = sym (text_no_upper a (λ h k. n k))

pub an_upper : (a : ℕ) → (a ≡ 0 → ⊥) → a % 65536 ≡ 0 → line_of 0 upper_type (a / 65536 / 256 ∷ (a / 65536 % 256 ∷ [])) ≡ lines (upper_lines a)
an_upper a n e = sym (text_upper a (omega arith) e)

-- ---- the lines of the bytes before address a are put

pub record Written (o₀ x o : List ℕ) (p a : ℕ) : Type 0 where
  pub near : a ≤ length x + 15
  pub going : Going o₀ 0 (hex_text x) o p (text_from x a)

pub none_written : (o x : List ℕ) → length (hex_text x) ≤ length o → Written o x o 0 0
none_written o x h = record { near = omega arith; going = subst (Going o 0 (hex_text x) o 0) (sym (text_start x)) (begin o 0 (hex_text x) (omega arith)) }

module _ {o₀ x : List ℕ} (o : List ℕ) (p a : ℕ) (g : Written o₀ x o p a) (l : a < length x) where
  left : Going o₀ 0 (hex_text x) o p (lines (upper_lines a) ++ (line_from x a ++ text_from x (a + 16)))
  left = subst (Going o₀ 0 (hex_text x) o p) (line_step x a l) g.going

  pub upper_room : p + length (lines (upper_lines a)) ≤ length o
  upper_room = fits o p (lines (upper_lines a)) (line_from x a ++ text_from x (a + 16)) left

  module _ {p₁ : ℕ} {o₁ : List ℕ} (u : Put o p (lines (upper_lines a)) p₁ o₁) where
    behind : Going o₀ 0 (hex_text x) o₁ p₁ (line_from x a ++ text_from x (a + 16))
    behind = go_on o p (lines (upper_lines a)) (line_from x a ++ text_from x (a + 16)) left u

    -- the line of bs, which are the bytes from address a on
    pub line_room : (bs : List ℕ) → bs ≡ take 16 (drop a x) → p₁ + 12 + 2 * length bs ≤ length o₁
    line_room bs e = omega (arith, fits o₁ p₁ (line_from x a) (text_from x (a + 16)) behind, length_line (a % 65536) data_type (take 16 (drop a x)), ap length e)

    pub line_written : (bs : List ℕ) {p₂ : ℕ} {o₂ : List ℕ} → bs ≡ take 16 (drop a x) → Put o₁ p₁ (line_of (a % 65536) data_type bs) p₂ o₂ → Written o₀ x o₂ p₂ (a + 16)
    line_written bs {p₂} {o₂} e q = record {
      near = omega arith;
      going = go_on o₁ p₁ (line_from x a) (text_from x (a + 16)) behind (subst (λ (y : List ℕ). Put o₁ p₁ (line_of (a % 65536) data_type y) p₂ o₂) e q);
    }

module _ {o₀ x : List ℕ} (o : List ℕ) (p a : ℕ) (g : Written o₀ x o p a) (l : length x ≤ a) where
  ending : Going o₀ 0 (hex_text x) o p (line_of 0 end_type [])
  ending = subst (Going o₀ 0 (hex_text x) o p) (end_step x a l) g.going

  pub end_room : p + 12 ≤ length o
  end_room = omega (arith, ending.room, length_line 0 end_type [])

  pub all_written : {r : ℕ} {o' : List ℕ} → Put o p (line_of 0 end_type []) r o' → Put o₀ 0 (hex_text x) r o'
  all_written q = last o p (line_of 0 end_type []) ending q

-- ---- the same while the bytes are cut into lines: `left` is what is left to cut

pub record Lined (o₀ x o : List ℕ) (p a size : ℕ) (left : List ℕ) : Type 0 where
  pub sixteen : size ≡ 16
  pub is_left : left ≡ drop a x
  pub written : Written o₀ x o p a

module _ {o₀ x o : List ℕ} {p size : ℕ} {left : List ℕ} where
  -- the address of a line is sixteen times its number
  pub first_line : {n : ℕ} → n ≡ 0 → Lined o₀ x o p 0 size left → Lined o₀ x o p (16 * n) size left
  first_line {n} e = subst (λ (a : ℕ). Lined o₀ x o p a size left) (let z : 0 ≡ 16 * n = omega (arith, e) in z)

  pub at_line : {i n : ℕ} → i ≡ n → Lined o₀ x o p (16 * n) size left → Lined o₀ x o p (16 * i) size left
  at_line e = subst (λ (k : ℕ). Lined o₀ x o p (16 * k) size left) (sym e)

  pub next_line : (i : ℕ) {n : ℕ} → n ≡ i + 1 → Lined o₀ x o p (16 * i + 16) size left → Lined o₀ x o p (16 * n) size left
  next_line i {n} e = subst (λ (a : ℕ). Lined o₀ x o p a size left) (let z : 16 * i + 16 ≡ 16 * n = omega (arith, e) in z)

-- a line is cut off
module _ {o₀ x o : List ℕ} {p a size : ℕ} {left : List ℕ} (g : Lined o₀ x o p a size left) (line rest : List ℕ) (e : left ≡ line ++ rest) (l : length line ≡ min size (length left)) (more : 0 < length left) where
  pub inside : a < length x
  inside = omega (arith, more, ap length g.is_left, length-drop a x)

  cut : drop a x ≡ line ++ rest
  cut = sym g.is_left ∙ e

  long : length line ≡ min 16 (length (drop a x))
  long = l ∙ ap₂ min g.sixteen (ap length g.is_left)

  line_part : line ≡ take 16 (drop a x)
  line_part =
      sym (take_at line rest (length line) refl) ∙ ap (take (length line)) (sym cut)
      ∙ ap (λ (n : ℕ). take n (drop a x)) long ∙ take_min 16 (drop a x)

  rest_part : rest ≡ drop (a + 16) x
  rest_part = by_test (dec_lt (length (drop a x)) 16)
    where
      by_test : Dec (length (drop a x) < 16) → rest ≡ drop (a + 16) x
      by_test (yes h) =
          let n : length rest ≡ 0 = omega (arith, long, ap length cut, length-append line rest) in
          nil_from_length rest n ∙ sym (drop_all (a + 16) x (omega (arith, length-drop a x, h)))
      by_test (no h) =
          let n : length line ≡ 16 = omega (arith, long) in
          sym (drop_at line rest 16 n) ∙ ap (drop 16) (sym cut) ∙ drop-drop 16 a x

  pub before_upper : p + length (lines (upper_lines a)) ≤ length o
  before_upper = upper_room o p a g.written inside

  pub before_line : {p₁ : ℕ} {o₁ : List ℕ} → Put o p (lines (upper_lines a)) p₁ o₁ → p₁ + 12 + 2 * length line ≤ length o₁
  before_line u = line_room o p a g.written inside u line line_part

  pub short : length line ≤ 255
  short = omega (arith, long)

  pub after_line : {p₁ p₂ size' : ℕ} {o₁ o₂ : List ℕ} → Put o p (lines (upper_lines a)) p₁ o₁ → Put o₁ p₁ (line_of (a % 65536) data_type line) p₂ o₂ → size' ≡ size → Lined o₀ x o₂ p₂ (a + 16) size' rest
  after_line u q f = record { sixteen = f ∙ g.sixteen; is_left = rest_part; written = line_written o p a g.written inside u line line_part q }

-- nothing is left
module _ {o₀ x o : List ℕ} {p a size : ℕ} {left : List ℕ} (g : Lined o₀ x o p a size left) (none : length left ≡ 0) where
  outside : length x ≤ a
  outside = omega (arith, none, ap length g.is_left, length-drop a x)

  pub before_end : p + 12 ≤ length o
  before_end = end_room o p a g.written outside

  pub after_end : {r : ℕ} {o' : List ℕ} → Put o p (line_of 0 end_type []) r o' → Put o₀ 0 (hex_text x) r o'
  after_end q = all_written o p a g.written outside q
