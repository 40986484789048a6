-- Numbers, floats and lists that are written as bytes are read as they were. Assumes nothing.
use Rattle.std.specs.Prelude.{ℕ, zero, suc, ◌*◌, ◌/◌, ◌^◌, ◌<◌, ◌≡◌, refl, true, List, [], ◌∷◌, ◌++◌, map, T, eqb, ltb, length, get_or, drop, Float}
use Rattle.std.proofs.Common.{arith, zero-lt-suc, div-lt_iff_lt-mul, pow-suc, mul-zero, mul-suc, sym, ap, ap₂, ◌∙◌, append_assoc, length-append, drop_at, ltb-true, lt-ltb, eqb-true, eq-eqb}
use Rattle.std.proofs.Math.Nat.{mod-add-div}
use Rattle.std.proofs.lemmas.Bool.{false≢true}
use Rattle.std.proofs.lemmas.List.{length-map}
use Rattle.std.specs.Float.{binary64}
use Rattle.std.specs.Float.Ieee.{to_bits, of_bits, fits}
use Rattle.std.specs.Float.Ieee.Bits.{of_bits-to_bits, to_bits-lt}
use Rattle.meaning.specs.Lists.{all, joined}
use Rattle.meaning_list_laws.specs.Tests.{and_both}
use Rattle.meaning_list_laws.specs.Lists.{joined-none, joined-append}
use Rattle.image_format.specs.Bytes.{little, words, floats, lists, number, words_in, floats_in, same_bytes}

-- ---- what fits

-- every entry is below n: a byte, a number of 32 bits
abbrev pub Below : ℕ → List ℕ → Type 0
Below n l = all (λ v. ltb v n) l ≡ true

abbrev pub Bytes : List ℕ → Type 0
Bytes s = Below 256 s

abbrev pub Words : List ℕ → Type 0
Words l = Below 0x1_0000_0000 l

-- every float is one of 64 bits
abbrev pub Doubles : List Float → Type 0
Doubles [] = Unit {0}
Doubles (v ∷ x) = T (fits binary64 v) × Doubles x

-- every list is one of numbers of 32 bits whose count is one
abbrev pub Lists : List (List ℕ) → Type 0
Lists [] = Unit {0}
Lists (l ∷ r) = Words (length l ∷ l) × Lists r

pub below-first : (n y : ℕ) (l : List ℕ) → Below n (y ∷ l) → (y < n) × Below n l
unfolding all
below-first n y l h = let both = and_both (ltb y n) (all (λ v. ltb v n) l) h in (ltb-true y n both.0, both.1)

pub below-cons : (n y : ℕ) (l : List ℕ) → y < n → Below n l → Below n (y ∷ l)
unfolding all
below-cons n y l h b = rw (lt-ltb y n h) b

pub below_at : (n : ℕ) (l : List ℕ) (i : ℕ) → 0 < n → Below n l → get_or l i 0 < n
below_at n [] i p b = p
below_at n (y ∷ l) zero p b = (below-first n y l b).0
below_at n (y ∷ l) (suc i) p b = below_at n l i p (below-first n y l b).1

pub below-drop : (n k : ℕ) (l : List ℕ) → Below n l → Below n (drop k l)
below-drop n zero l h = h
below-drop n (suc k) [] h = h
below-drop n (suc k) (y ∷ l) h = below-drop n k l (below-first n y l h).1

-- ---- a number in k bytes

pub length-little : (k n : ℕ) → length (little k n) ≡ k
unfolding little
length-little zero n = refl
length-little (suc k) n = ap suc (length-little k (n / 256))

-- the number without its lowest byte
pub without : (k n : ℕ) → n < 256 ^ suc k → n / 256 < 256 ^ k
without k n h = (div-lt_iff_lt-mul (zero-lt-suc 255)).1 (rw pow-suc at h)

pub number-little : (k n : ℕ) (s : List ℕ) → n < 256 ^ k → number k (little k n ++ s) ≡ n
unfolding little number
number-little zero n s h = omega arith
number-little (suc k) n s h = rw (number-little k (n / 256) s (without k n h)) (mod-add-div n 256)

pub drop-little : (k n : ℕ) (s : List ℕ) → drop k (little k n ++ s) ≡ s
unfolding little
drop-little zero n s = refl
drop-little (suc k) n s = drop-little k (n / 256) s

pub number-below : (k : ℕ) (s : List ℕ) → Bytes s → number k s < 256 ^ k
unfolding number
number-below zero s b = omega arith
number-below (suc k) [] b = let z = number-below k [] b in rw pow-suc (omega arith)
number-below (suc k) (y ∷ s) b = let both = below-first 256 y s b in let z = number-below k s both.1 in rw pow-suc (omega arith)

-- ---- numbers of w bytes each, one behind the other

-- n of them
unfoldable pub numbers_in : ℕ → ℕ → List ℕ → List ℕ
numbers_in w zero s = []
numbers_in w (suc n) s = number w s ∷ numbers_in w n (drop w s)

pub length-numbers_in : (w n : ℕ) (s : List ℕ) → length (numbers_in w n s) ≡ n
unfolding numbers_in
length-numbers_in w zero s = refl
length-numbers_in w (suc n) s = ap suc (length-numbers_in w n (drop w s))

pub length-numbers : (w : ℕ) (l : List ℕ) → length (joined (little w) l) ≡ w * length l
unfolding joined
length-numbers w [] = sym (mul-zero w)
length-numbers w (v ∷ l) = rw (length-append (little w v) (joined (little w) l), length-little w v, length-numbers w l, mul-suc w (length l)) (omega arith)

pub numbers-read : (w : ℕ) (l s : List ℕ) → Below (256 ^ w) l → numbers_in w (length l) (joined (little w) l ++ s) ≡ l
unfolding joined numbers_in
numbers-read w [] s h = refl
numbers-read w (v ∷ l) s h =
    let both = below-first (256 ^ w) v l h in
    rw (append_assoc (little w v) (joined (little w) l) s, number-little w v (joined (little w) l ++ s) both.0, drop-little w v (joined (little w) l ++ s))
    (ap (λ r. v ∷ r) (numbers-read w l s both.1))

-- ---- numbers of 32 bits

pub words-in : (n : ℕ) (s : List ℕ) → words_in n s ≡ numbers_in 4 n s
unfolding words_in numbers_in
words-in zero s = refl
words-in (suc n) s = ap (λ r. number 4 s ∷ r) (words-in n (drop 4 s))

pub length-words_in : (n : ℕ) (s : List ℕ) → length (words_in n s) ≡ n
length-words_in n s = ap length (words-in n s) ∙ length-numbers_in 4 n s

pub length-words : (l : List ℕ) → length (words l) ≡ 4 * length l
length-words l = length-numbers 4 l

pub drop-words : (l s : List ℕ) → drop (4 * length l) (words l ++ s) ≡ s
drop-words l s = drop_at (words l) s (4 * length l) (length-words l)

-- ---- floats

-- the bits of each
abbrev pub patterns : List Float → List ℕ
patterns x = map (to_bits binary64) x

pub floats-are : (x : List Float) → floats x ≡ joined (little 8) (patterns x)
unfolding floats joined
floats-are [] = refl
floats-are (v ∷ x) = ap (λ r. little 8 (to_bits binary64 v) ++ r) (floats-are x)

pub floats-in : (n : ℕ) (s : List ℕ) → floats_in n s ≡ map (of_bits binary64) (numbers_in 8 n s)
unfolding floats_in numbers_in
floats-in zero s = refl
floats-in (suc n) s = ap (λ r. of_bits binary64 (number 8 s) ∷ r) (floats-in n (drop 8 s))

pub length-floats_in : (n : ℕ) (s : List ℕ) → length (floats_in n s) ≡ n
length-floats_in n s = ap length (floats-in n s) ∙ length-map (numbers_in 8 n s) (of_bits binary64) ∙ length-numbers_in 8 n s

pub length-floats : (x : List Float) → length (floats x) ≡ 8 * length x
length-floats x = ap length (floats-are x) ∙ length-numbers 8 (patterns x) ∙ ap (λ n. 8 * n) (length-map x (to_bits binary64))

pub patterns-below : (x : List Float) → Doubles x → Below (256 ^ 8) (patterns x)
unfolding all
patterns-below [] d = refl
patterns-below (v ∷ x) d = rw (lt-ltb (to_bits binary64 v) (256 ^ 8) (to_bits-lt binary64 v d.0)) (patterns-below x d.1)

pub of-patterns : (x : List Float) → Doubles x → map (of_bits binary64) (patterns x) ≡ x
of-patterns [] d = refl
of-patterns (v ∷ x) d = ap₂ {C = List Float} (λ a r. a ∷ r) (of_bits-to_bits binary64 v d.0) (of-patterns x d.1)

pub drop-floats : (x : List Float) (s : List ℕ) → drop (8 * length x) (floats x ++ s) ≡ s
drop-floats x s = drop_at (floats x) s (8 * length x) (length-floats x)

-- ---- lists

-- the entries of all, each list's count before them
unfoldable pub flat : List (List ℕ) → List ℕ
flat [] = []
flat (l ∷ r) = (length l ∷ l) ++ flat r

pub lists-are : (r : List (List ℕ)) → lists r ≡ words (flat r)
unfolding flat lists
lists-are [] = sym (joined-none (little 4))
lists-are (l ∷ r) = rw (lists-are r) (sym (joined-append (little 4) (length l ∷ l) (flat r)))

pub length-lists : (r : List (List ℕ)) → length (lists r) ≡ 4 * length (flat r)
length-lists r = ap length (lists-are r) ∙ length-words (flat r)

-- ---- compared

pub same_bytes_lem : (a b : List ℕ) → same_bytes a b ≡ true → a ≡ b
unfolding same_bytes
same_bytes_lem [] [] e = refl
same_bytes_lem [] (y ∷ b) e = absurd (false≢true e)
same_bytes_lem (x ∷ a) [] e = absurd (false≢true e)
same_bytes_lem (x ∷ a) (y ∷ b) e =
    let both = and_both (eqb x y) (same_bytes a b) e in ap₂ {C = List ℕ} (λ v r. v ∷ r) (eqb-true x y both.0) (same_bytes_lem a b both.1)

pub same-itself : (a : List ℕ) → same_bytes a a ≡ true
unfolding same_bytes
same-itself [] = refl
same-itself (x ∷ a) = rw (eq-eqb x x refl) (same-itself a)
