-- The points from the end, and the fan. Assumes nothing.
use Rattle.std.specs.Prelude.{ℕ, zero, suc, ◌+◌, ◌-◌, ◌≤◌, ◌<◌, ◌≡◌, refl, Bool, true, false, cond, length, get_or, drop, Float}
use Rattle.std.proofs.Common.{arith, add-one, sym, ap, ◌∙◌, drop-cons}
use Rattle.std.proofs.Math.Decide.{dec_lt}
use mathlib.Core.List.{List, [], ◌∷◌, map, reverse, reverse-cons}
use Rattle.std.proofs.lemmas.List.{length-map, length-reverse, get_or_at}
use Rattle.std.proofs.Math.ListN.{get_or-append}
use Rattle.std.specs.Float.{binary64}
use Rattle.std.specs.Float.Ieee.{of_bits, of_int}
use Rattle.interval_arithmetic.specs.Ops.{zero_f}
use Rattle.float_vectors.specs.declared.vector.Point3.{Point3}
use Rattle.float_vectors.specs.Space.{◌+ᶠ◌}
use Rattle.meaning.specs.Floats.{◌/ᶠ◌, float_of}
use Rattle.meaning.specs.Inquire as Inquire
use Rattle.inquire_fan.specs.Fan.{origin_p, turned, wedge}

-- ---- from the end

pub turned-length : (back : Bool) (l : List Point3) → length (turned back l) ≡ length l
unfolding turned
turned-length true l = length-reverse l
turned-length false l = refl

map_at : (at : ℕ → Point3) (l : List ℕ) (i : ℕ) → i < length l → at (get_or l i 0) ≡ get_or (map at l) i origin_p
map_at at [] i h = absurd (omega arith)
map_at at (y ∷ l) zero h = refl
map_at at (y ∷ l) (suc i) h = map_at at l i (omega arith)

reverse-at : (l : List Point3) (k : ℕ) → k < length l → get_or (reverse l) k origin_p ≡ get_or l (length l - 1 - k) origin_p
reverse-at [] k h = absurd (omega arith)
reverse-at (x ∷ l) k h = ap (λ t. get_or t k origin_p) (reverse-cons x l) ∙ elim (dec_lt k (length l)) [
  | yes less ↦ let next : suc (length l - 1 - k) ≡ length (x ∷ l) - 1 - k = omega arith in
      get_or-append (reverse l) (x ∷ []) origin_p k (omega (arith, length-reverse l))
      ∙ reverse-at l k less
      ∙ ap (λ i. get_or (x ∷ l) i origin_p) next
  | no more ↦ let last : length l ≡ k = omega arith in
      let first : 0 ≡ length (x ∷ l) - 1 - k = omega arith in
      get_or_at (reverse l) x [] origin_p k (length-reverse l ∙ last) ∙ ap (λ i. get_or (x ∷ l) i origin_p) first
]

-- W-204, "walking the fins backwards for a front side": the k-th fin from the end starts at point k of the reversed list
pub backwards : (at : ℕ → Point3) (back : Bool) (fins : List ℕ) (k i : ℕ) → k < length fins → i ≡ cond back (length fins - 1 - k) k
    → at (get_or fins i 0) ≡ get_or (turned back (map at fins)) k origin_p
unfolding turned
backwards at true fins k i h e =
    map_at at fins i (omega arith)
    ∙ ap (λ j. get_or (map at fins) j origin_p) (e ∙ ap (λ n. n - 1 - k) (sym (length-map fins at)))
    ∙ sym (reverse-at (map at fins) k (omega (arith, length-map fins at)))
backwards at false fins k i h e = map_at at fins i (omega arith) ∙ ap (λ j. get_or (map at fins) j origin_p) e

-- ---- the fan

pub zero_bits : of_bits binary64 0 ≡ zero_f
unfolding of_bits
zero_bits = refl

pub six-bits : of_bits binary64 4618441417868443648 ≡ float_of 6
unfolding of_bits of_int
six-bits = refl

-- one triangle more: p is held, q is the next
pub fan-turn : (o p q : Point3) (acc : Float) (l : List Point3) (k : ℕ) → k + 1 < length l → p ≡ get_or l k origin_p → q ≡ get_or l (k + 1) origin_p
    → Inquire.fan o acc (drop k l) ≡ Inquire.fan o (acc +ᶠ wedge o p q) (drop (k + 1) l)
unfolding wedge Inquire.fan
fan-turn o p q acc l k h e f =
    let next : drop (k + 1) l ≡ q ∷ drop (suc (k + 1)) l = drop-cons l (k + 1) origin_p h ∙ ap (λ t. t ∷ drop (suc (k + 1)) l) (sym f) in
    let both : drop k l ≡ p ∷ q ∷ drop (suc (k + 1)) l =
    drop-cons l k origin_p (omega arith) ∙ ap (λ i. get_or l k origin_p ∷ drop i l) (sym (add-one k)) ∙ ap (λ t. t ∷ drop (k + 1) l) (sym e) ∙ ap (λ t. p ∷ t) next in
    ap (Inquire.fan o acc) both ∙ ap (Inquire.fan o (acc +ᶠ wedge o p q)) (sym next)

pub fan-done : (o : Point3) (acc : Float) (l : List Point3) (k : ℕ) → length l ≤ k + 1 → Inquire.fan o acc (drop k l) ≡ acc
unfolding Inquire.fan
fan-done o acc [] zero h = refl
fan-done o acc [] (suc k) h = refl
fan-done o acc (p ∷ []) zero h = refl
fan-done o acc (p ∷ q ∷ l) zero h = absurd (omega arith)
fan-done o acc (p ∷ l) (suc k) h = fan-done o acc l k (omega arith)

pub polygon-fan : (l : List Point3) → 0 < length l → Inquire.polygon_volume l ≡ Inquire.fan (get_or l 0 origin_p) zero_f (drop 1 l) /ᶠ float_of 6
unfolding Inquire.polygon_volume
polygon-fan [] h = absurd (omega arith)
polygon-fan (p ∷ l) h = refl
