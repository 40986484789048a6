-- Bytes that begin with what is written, told by the numbers that are read off them: what a reader tests in place of comparing bytes. Assumes nothing.
use Rattle.std.specs.Prelude.{ℕ, suc, ◌+◌, ◌-◌, ◌*◌, ◌/◌, ◌%◌, ◌≤◌, ◌<◌, ◌≡◌, refl, Bool, true, false, ◌&&◌, List, [], ◌∷◌, ◌++◌, eqb, leb, length, drop}
use Rattle.std.proofs.Common.{arith, zero-lt-suc, mod-eq_of_lt, zero-add, sym, eqb-true, eq-eqb, leb-true, le-leb, ne_eqb}
use Rattle.std.proofs.Math.Nat.{mod-add-div, div-eq_of_lt, add-mul-mod_self_left, add-mul-div_left}
use Rattle.meaning_list_laws.specs.Tests.{and_both, and_assoc, and-false, both_ways}
use Rattle.image_format.specs.Bytes.{same_bytes}

-- the bytes s begin with a
unfoldable pub starts : List ℕ → List ℕ → Bool
starts [] s = true
starts (x ∷ a) [] = false
starts (x ∷ a) (y ∷ s) = eqb x y && starts a s

-- ---- one part behind the other

pub same-both : (a c s : List ℕ) → same_bytes (a ++ c) s ≡ (starts a s && same_bytes c (drop (length a) s))
unfolding starts same_bytes
same-both [] c s = refl
same-both (x ∷ a) c [] = refl
same-both (x ∷ a) c (y ∷ s) = rw (same-both a c s) (sym (and_assoc (eqb x y) (starts a s) _))

pub starts-both : (a c s : List ℕ) → starts (a ++ c) s ≡ (starts a s && starts c (drop (length a) s))
unfolding starts
starts-both [] c s = refl
starts-both (x ∷ a) c [] = refl
starts-both (x ∷ a) c (y ∷ s) = rw (starts-both a c s) (sym (and_assoc (eqb x y) (starts a s) _))

pub same_end : (s : List ℕ) → same_bytes [] s ≡ eqb (length s) 0
unfolding same_bytes
same_end [] = refl
same_end (y ∷ s) = sym (ne_eqb (suc (length s)) 0 (λ e. omega arith))

-- room for a and for c behind it is room for both
pub room : (a c long : ℕ) → (leb a long && leb c (long - a)) ≡ leb (a + c) long
room a c long =
    both_ways _ _
    (λ e. let both = and_both (leb a long) (leb c (long - a)) e in
    let one : a ≤ long = leb-true a long both.0 in
    let rest : c ≤ long - a = leb-true c (long - a) both.1 in
    le-leb (a + c) long (omega arith))
    (λ e. let all : a + c ≤ long = leb-true (a + c) long e in rw (le-leb a long (omega arith)) (le-leb c (long - a) (omega arith)))

pub exchange : (a b c d : Bool) → ((a && b) && (c && d)) ≡ ((a && c) && (b && d))
exchange true true c d = refl
exchange true false c d = sym (and-false c)
exchange false b c d = refl

-- ---- a number

-- the lowest byte and the rest are those of n
pub parts : (n y r : ℕ) → y < 256 → (eqb (n % 256) y && eqb r (n / 256)) ≡ eqb (y + 256 * r) n
parts n y r h =
    both_ways _ _
    (λ e. let both = and_both (eqb (n % 256) y) (eqb r (n / 256)) e in
    let low : n % 256 ≡ y = eqb-true (n % 256) y both.0 in
    let rest : r ≡ n / 256 = eqb-true r (n / 256) both.1 in
    eq-eqb (y + 256 * r) n (rw (← low, rest) (mod-add-div n 256)))
    (λ e. let whole : y + 256 * r ≡ n = eqb-true (y + 256 * r) n e in
    rw (← whole, add-mul-mod_self_left y 256 r, mod-eq_of_lt h, eq-eqb y y refl, add-mul-div_left y r (zero-lt-suc 255), div-eq_of_lt h, zero-add r) (eq-eqb r r refl))

pub swap : (a b c : Bool) → (a && (b && c)) ≡ (b && (a && c))
swap true b c = refl
swap false b c = sym (and-false b)

-- ---- numbers of w bytes each

pub eqb-sym : (a b : ℕ) → eqb a b ≡ eqb b a
eqb-sym a b = both_ways _ _ (λ e. eq-eqb b a (sym (eqb-true a b e))) (λ e. eq-eqb a b (sym (eqb-true b a e)))
