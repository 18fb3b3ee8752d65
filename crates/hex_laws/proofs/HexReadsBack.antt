-- A text that was written reads back, and two byte strings with one text are one. Assumes nothing.
use mathlib.Core.Path.{◌≡◌, refl, sym, ap, ◌∙◌}
use mathlib.Core.Bool.{true, false}
use mathlib.Core.List.{List, [], ◌∷◌, ◌++◌, append_assoc, append-nil}
use Rattle.std.specs.Prelude.{Option, Some}
use Prim.Native.Nat.{ℕ, zero, suc, ◌+◌, ◌-◌, ◌*◌, ◌/◌, ◌%◌, ◌≤◌, ◌<◌}
use native.Mathlib.Omega.{arith}
use borrow.Author.Tests.{eq-eqb, le-ltb}
use lib.Dec.{eqb, ltb}
use lib.ListN.{length, take, drop, length-append, length-take, length-drop, take-append-drop}
use lib.Seq.{take_all}
use Rattle.model.specs.Bytes.{Bytes}
use Rattle.model.specs.Refusals.{Verdict, fine}
use Rattle.model.specs.Programs.{lines}
use Rattle.model.specs.Hex.{record_line, data_type, upper_type, upper_lines, data_lines, end_type, end_line, hex_text, Outcome, Record, data_record, upper_record, end_record, record_of_lem, lines_of, Place, line_verdict, after, unless_refused, read_lines, hex_read}
use Rattle.hex_laws.proofs.HexLength.{one_line, text_upper, text_no_upper, upper_or_not, between, same_block, data_step}
use Rattle.hex_laws.proofs.HexLines.{Small, Fits, each_take, each_drop, bytes_small, lines_one, line_no_feed, record_back}

-- a place before the end line
abbrev place : ℕ → List ℕ → ℕ → Place
place n y u = record { number = n; bytes = y; upper = u; ended = false }

-- what is read of a text from a place on
abbrev from : ℕ → Place → List ℕ → Outcome
from room p t = read_lines room p (lines_of t)

-- a line that was written, and what stands behind it
line_read : (room : ℕ) (p : Place) (a t : ℕ) (bs : List ℕ) (r : Record) (k : List ℕ) → Fits a t bs → record_of_lem t a bs ≡ Some r
    → line_verdict room p (Some r) ≡ fine
    → from room p (record_line a t bs ++ (10 ∷ k)) ≡ from room (after p (Some r)) k
unfolding read_lines
line_read room p a t bs r k f e v =
    ap (read_lines room p) (lines_one (record_line a t bs) k (line_no_feed a t bs))
    ∙ ap (λ (o : Option Record). unless_refused (line_verdict room p o) p.bytes (read_lines room (after p o) (lines_of k))) (record_back a t bs f ∙ e)
    ∙ ap (λ (w : Verdict). unless_refused w p.bytes (read_lines room (after p (Some r)) (lines_of k))) v

-- ---- the three kinds of lines

as_data_lem : (a : ℕ) (bs : List ℕ) → 0 < length bs → record_of_lem data_type a bs ≡ Some (data_record a bs)
unfolding record_of_lem
as_data_lem a [] h = absurd (omega arith)
as_data_lem a (b ∷ bs) h = refl

data_read : (room n u : ℕ) (y bs k : List ℕ) → u ≡ length y / 65536 → length y % 16 ≡ 0 → 0 < length bs → length bs ≤ 16 → length y + length bs ≤ room → Small bs
    → from room (place n y u) (record_line (length y % 65536) data_type bs ++ (10 ∷ k)) ≡ from room (place (n + 1) (y ++ bs) u) k
data_read room n u y bs k e m h l r s =
    line_read room (place n y u) (length y % 65536) data_type bs (data_record (length y % 65536) bs) k
    (record { address = omega arith; type = omega arith; few = omega arith; small = s })
    (as_data_lem (length y % 65536) bs h)
    (rw (there, short, roomy))
  where
    there : eqb (65536 * u + length y % 65536) (length y) ≡ true
    there = eq-eqb (65536 * u + length y % 65536) (length y) (omega arith)

    short : ltb 65536 (length y % 65536 + length bs) ≡ false
    short = le-ltb 65536 (length y % 65536 + length bs) (omega arith)

    roomy : ltb room (length y + length bs) ≡ false
    roomy = le-ltb room (length y + length bs) r

as_upper_lem : (high low : ℕ) → record_of_lem upper_type 0 (high ∷ low ∷ []) ≡ Some (upper_record (256 * high + low))
unfolding record_of_lem
as_upper_lem high low = refl

-- the upper half is right behind the line for it, or where none stands
upper_read : (room n u a : ℕ) (y k : List ℕ) → u ≡ (a - 1) / 65536 → a < 4294967296
    → (m : ℕ) × (from room (place n y u) (lines (upper_lines a) ++ k) ≡ from room (place m y (a / 65536)) k)
upper_read room n u a y k e l = go (upper_or_not a)
  where
    go : Dec ((0 < a) × (a % 65536 ≡ 0)) → (m : ℕ) × (from room (place n y u) (lines (upper_lines a) ++ k) ≡ from room (place m y (a / 65536)) k)
    go (yes q) = (
      n + 1,
      rw (text_upper a q.0 q.1, append_assoc) (
          line_read room (place n y u) 0 upper_type (a / 65536 / 256 ∷ a / 65536 % 256 ∷ []) (upper_record (256 * (a / 65536 / 256) + a / 65536 % 256)) k
          (record { address = omega arith; type = omega arith; few = omega arith; small = (omega arith, (omega arith, tt)) })
          (as_upper_lem (a / 65536 / 256) (a / 65536 % 256))
          refl
          ∙ ap (λ (v : ℕ). from room (place (n + 1) y v) k) (omega arith)),
    )
    go (no q) = (n, rw (text_no_upper a (λ h z. q (h, z))) (ap (λ (v : ℕ). from room (place n y v) k) (e ∙ between a q)))

as_end_lem : record_of_lem end_type 0 [] ≡ Some end_record
unfolding record_of_lem
as_end_lem = refl

end_read : (room n u : ℕ) (y : List ℕ) → from room (place n y u) (lines (end_line ∷ [])) ≡ record { verdict = fine; bytes = y }
unfolding end_line read_lines lines_of lines
end_read room n u y =
    ap (from room (place n y u)) (one_line end_line [])
    ∙ line_read room (place n y u) 0 end_type [] end_record (lines []) (record { address = omega arith; type = omega arith; few = omega arith; small = tt }) as_end_lem refl

-- ---- the whole text

step_read : (k room n u : ℕ) (x y : List ℕ) (z : List (List ℕ)) → u ≡ (length y - 1) / 65536 → length y % 16 ≡ 0 → 0 < length x
    → length y + length x ≤ 4294967296 → length y + length x ≤ room → Small x
    → (m : ℕ) × (from room (place n y u) (lines (data_lines (suc k) (length y) x ++ z))
    ≡ from room (place m (y ++ take 16 x) (length y / 65536)) (lines (data_lines k (length y + 16) (drop 16 x) ++ z)))
step_read k room n u x y z e m h b r s =
    let t = lines (data_lines k (length y + 16) (drop 16 x) ++ z) in
    let v = upper_read room n u (length y) y (record_line (length y % 65536) data_type (take 16 x) ++ (10 ∷ t)) e (omega arith) in (
      v.0 + 1,
      ap (from room (place n y u)) (data_step k (length y) x z)
          ∙ v.1
          ∙ data_read room v.0 (length y / 65536) y (take 16 x) t refl m (simp length-take (omega arith)) (simp length-take (omega arith))
          (simp length-take (omega arith)) (each_take (λ c. c < 256) 16 x s),
    )

joined : (y x : List ℕ) → (y ++ take 16 x) ++ drop 16 x ≡ y ++ x
joined y x = append_assoc y (take 16 x) (drop 16 x) ∙ ap (λ (l : List ℕ). y ++ l) (take-append-drop 16 x)

read_on : (k room n u : ℕ) (x y : List ℕ) → u ≡ (length y - 1) / 65536 → length y % 16 ≡ 0 → length x ≤ 16 * k → 16 * k < length x + 16
    → length y + length x ≤ 4294967296 → length y + length x ≤ room → Small x
    → from room (place n y u) (lines (data_lines k (length y) x ++ (end_line ∷ []))) ≡ record { verdict = fine; bytes = y ++ x }
unfolding data_lines
read_on zero room n u [] y e m h l b r s = end_read room n u y ∙ ap (λ (w : List ℕ). record { verdict = fine; bytes = w }) (sym (append-nil y))
read_on zero room n u (c ∷ x) y e m h l b r s = absurd (omega arith)
read_on (suc zero) room n u x y e m h l b r s =
    let w = step_read 0 room n u x y (end_line ∷ []) e m (omega arith) b r s in
    w.1 ∙ end_read room w.0 (length y / 65536) (y ++ take 16 x) ∙ ap (λ (t : List ℕ). record { verdict = fine; bytes = y ++ t }) (take_all 16 x (omega arith))
read_on (suc (suc k)) room n u x y e m h l b r s =
    let w = step_read (suc k) room n u x y (end_line ∷ []) e m (omega arith) b r s in
    let g : length (y ++ take 16 x) ≡ length y + 16 = simp (length-append, length-take) (omega arith) in
    w.1
    ∙ ap (λ (a : ℕ). from room (place w.0 (y ++ take 16 x) (length y / 65536)) (lines (data_lines (suc k) a (drop 16 x) ++ (end_line ∷ [])))) (sym g)
    ∙ read_on (suc k) room w.0 (length y / 65536) (drop 16 x) (y ++ take 16 x)
    (sym (ap (λ (a : ℕ). (a - 1) / 65536) g ∙ same_block (length y) 16 m (omega arith) (omega arith))) (simp g (omega arith))
    (simp length-drop (omega arith)) (simp length-drop (omega arith)) (simp (g, length-drop) (omega arith)) (simp (g, length-drop) (omega arith)) (each_drop (λ c. c < 256) 16 x s)
    ∙ ap (λ (t : List ℕ). record { verdict = fine; bytes = t }) (joined y x)

-- any text whose addresses four bytes can hold
pub reads_any : (x : List ℕ) → Small x → length x ≤ 4294967296 → (room : ℕ) → length x ≤ room → hex_read (hex_text x) room ≡ record { verdict = fine; bytes = x }
unfolding hex_read hex_text
reads_any x s l room r = read_on ((length x + 15) / 16) room 1 0 x [] refl refl (omega arith) (omega arith) (omega arith) (omega arith) s

pub reads_back_lem : (x : List ℕ) → Bytes x → length x ≤ 8388608 → (room : ℕ) → length x ≤ room
    → hex_read (hex_text x) room ≡ record { verdict = fine; bytes = x }
reads_back_lem x b l room r = reads_any x (bytes_small x b) (omega arith) room r

pub one_text : (x y : List ℕ) → Bytes x → Bytes y → length x ≤ 8388608 → length y ≤ 8388608 → hex_text x ≡ hex_text y → x ≡ y
one_text x y b c l m e =
    let room : ℕ = length x + length y in
    ap (λ (o : Outcome). o.bytes)
    (sym (reads_back_lem x b l room (omega arith)) ∙ ap (λ (t : List ℕ). hex_read t room) e ∙ reads_back_lem y c m room (omega arith))
