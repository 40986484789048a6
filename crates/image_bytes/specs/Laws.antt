-- Laws of numbers and floats in bytes: parts of a number, and lists of them written and read turn by turn. Assumes nothing.
use Rattle.std.specs.Prelude.{ℕ, zero, suc, ◌+◌, ◌*◌, ◌/◌, ◌%◌, ◌≤◌, ◌<◌, ◌≡◌, refl, List, [], ◌∷◌, ◌++◌, length, get_or, take, drop, set, Float}
use Rattle.std.proofs.Common.{zero-add, add-zero, add-one, arith, sym, ap, ◌∙◌, append_assoc, append-nil, length-append, take-suc, length-take-le, get_or-drop, drop-drop}
use Rattle.std.specs.Float.{nan, binary64}
use Rattle.std.specs.Float.Ieee.{to_bits, of_bits}
use Rattle.meaning_list_laws.specs.Lists.{joined_snoc}
use Rattle.memory_writes.specs.Put.{over}
use Rattle.memory_writes.specs.Over.{length_over, over-whole, over-behind, one_store}
use Rattle.image_format.specs.Bytes.{little, words, floats, number, words_in, floats_in}
use Rattle.image_laws.specs.Numbers.{length-little, length-words, length-floats, length-words_in, length-floats_in}

-- ---- a number read

number-none : (s : List ℕ) → number 0 s ≡ 0
unfolding number
number-none s = refl

-- one byte, and the number behind it
number-next : (k at q : ℕ) (l : List ℕ) → at + 1 ≡ q → number (suc k) (drop at l) ≡ get_or l at 0 + 256 * number k (drop q l)
unfolding number
number-next k at q l e =
    ap (λ (n : ℕ). n + 256 * number k (drop 1 (drop at l))) (get_or-drop at l 0 0 ∙ ap (λ (n : ℕ). get_or l n 0) (add-zero at))
    ∙ ap (λ (r : List ℕ). get_or l at 0 + 256 * number k r) (drop-drop 1 at l ∙ ap (λ (n : ℕ). drop n l) e)

pub number-two : (at : ℕ) (l : List ℕ) → number 2 (drop at l) ≡ get_or l at 0 + 256 * get_or l (at + 1) 0
number-two at l =
    let e = number-next 1 at (at + 1) l refl in
    let f = number-next 0 (at + 1) (at + 2) l (omega arith) in
    let g = number-none (drop (at + 2) l) in
    omega arith

pub number-four : (at : ℕ) (l : List ℕ) → number 4 (drop at l) ≡ get_or l at 0 + 256 * (get_or l (at + 1) 0 + 256 * (get_or l (at + 2) 0 + 256 * get_or l (at + 3) 0))
number-four at l =
    let e = number-next 3 at (at + 1) l refl in
    let f = number-next 2 (at + 1) (at + 2) l (omega arith) in
    let g = number-next 1 (at + 2) (at + 3) l (omega arith) in
    let h = number-next 0 (at + 3) (at + 4) l (omega arith) in
    let i = number-none (drop (at + 4) l) in
    omega arith

-- eight bytes are two numbers of four
pub number-eight : (at : ℕ) (l : List ℕ) → number 8 (drop at l) ≡ number 4 (drop at l) + 4294967296 * number 4 (drop (at + 4) l)
number-eight at l =
    let d = number-four at l in
    let e = number-next 7 at (at + 1) l refl in
    let f = number-next 6 (at + 1) (at + 2) l (omega arith) in
    let g = number-next 5 (at + 2) (at + 3) l (omega arith) in
    let h = number-next 4 (at + 3) (at + 4) l (omega arith) in
    omega arith

-- ---- a number written

pub little-four : (n : ℕ) → little 2 n ++ little 2 (n / 65536) ≡ little 4 n
unfolding little
little-four n =
    let e : n / 65536 ≡ n / 256 / 256 = omega arith in
    ap (λ (m : ℕ). (n % 256) ∷ (n / 256 % 256) ∷ (m % 256) ∷ (m / 256 % 256) ∷ []) e

-- h beyond k bytes, which k bytes do not show
beyond : ℕ → ℕ → ℕ
beyond zero h = h
beyond (suc k) h = 256 * beyond k h

little-beyond : (k a h : ℕ) → little k (a + beyond k h) ≡ little k a
unfolding little beyond
little-beyond zero a h = refl
little-beyond (suc k) a h =
    let d : (a + 256 * beyond k h) % 256 ≡ a % 256 = omega arith in
    let e : (a + 256 * beyond k h) / 256 ≡ a / 256 + beyond k h = omega arith in
    ap (λ (n : ℕ). n ∷ little k ((a + 256 * beyond k h) / 256)) d ∙ ap (λ (n : ℕ). (a % 256) ∷ little k n) e ∙ ap (λ (r : List ℕ). (a % 256) ∷ r) (little-beyond k (a / 256) h)

low-four : (n : ℕ) → little 4 (n % 4294967296) ≡ little 4 n
unfolding beyond
low-four n =
    let e : n % 4294967296 + 256 * (256 * (256 * (256 * (n / 4294967296)))) ≡ n = omega arith in
    sym (little-beyond 4 (n % 4294967296) (n / 4294967296)) ∙ ap (little 4) e

pub little-eight : (n : ℕ) → little 4 (n % 4294967296) ++ little 4 (n / 4294967296) ≡ little 8 n
unfolding little
little-eight n =
    let e : n / 4294967296 ≡ n / 256 / 256 / 256 / 256 = omega arith in
    ap (λ (r : List ℕ). r ++ little 4 (n / 4294967296)) (low-four n) ∙ ap (λ (m : ℕ). little 4 n ++ little 4 m) e

-- ---- written one behind the other

-- what is written behind a, so that d stands there
written_behind : {A : Type 0} (at n : ℕ) (a b d l : List A) → n ≡ length a → d ≡ a ++ b → at + length d ≤ length l → over (at + n) b (over at a l) ≡ over at d l
written_behind {A} at n a b d l e f h =
    let g : length d ≡ length (a ++ b) = ap length f in
    ap (λ (m : ℕ). over (at + m) b (over at a l)) e ∙ over-behind at a b l (omega arith) ∙ ap (λ (r : List A). over at r l) (sym f)

pub put_two : (at n : ℕ) (l : List ℕ) → at + 4 ≤ length l → over (at + 2) (little 2 (n / 65536)) (over at (little 2 n) l) ≡ over at (little 4 n) l
put_two at n l h =
    let e = length-little 4 n in
    written_behind at 2 (little 2 n) (little 2 (n / 65536)) (little 4 n) l (sym (length-little 2 n)) (sym (little-four n)) (omega arith)

pub put_four : (at n : ℕ) (l : List ℕ) → at + 8 ≤ length l
    → over (at + 4) (little 4 (n / 4294967296)) (over at (little 4 (n % 4294967296)) l) ≡ over at (little 8 n) l
put_four at n l h =
    let e = length-little 8 n in
    written_behind at 4 (little 4 (n % 4294967296)) (little 4 (n / 4294967296)) (little 8 n) l (sym (length-little 4 (n % 4294967296))) (sym (little-eight n)) (omega arith)

-- ---- lists written

pub words-turn : (at j : ℕ) (a l : List ℕ) → j < length a → at + 4 * length a ≤ length l
    → over (at + 4 * j) (little 4 (get_or a j 0)) (over at (words (take j a)) l) ≡ over at (words (take (j + 1) a)) l
words-turn at j a l h g =
    let n = length-words (take j a) in
    let m = length-words (take (j + 1) a) in
    let p = length-take-le j a (omega arith) in
    let q = length-take-le (j + 1) a (omega arith) in
    let e : words (take (j + 1) a) ≡ words (take j a) ++ little 4 (get_or a j 0) = rw (add-one, take-suc a j 0) (joined_snoc (little 4) (take j a) (get_or a j 0)) in
    written_behind at (4 * j) (words (take j a)) (little 4 (get_or a j 0)) (words (take (j + 1) a)) l (omega arith) e (omega arith)

floats-snoc : (l : List Float) (v : Float) → floats (l ++ (v ∷ [])) ≡ floats l ++ little 8 (to_bits binary64 v)
unfolding floats
floats-snoc [] v = append-nil (little 8 (to_bits binary64 v))
floats-snoc (x ∷ l) v =
    ap (λ (r : List ℕ). little 8 (to_bits binary64 x) ++ r) (floats-snoc l v)
    ∙ sym (append_assoc (little 8 (to_bits binary64 x)) (floats l) (little 8 (to_bits binary64 v)))

pub floats-turn : (at j : ℕ) (a : List Float) (l : List ℕ) → j < length a → at + 8 * length a ≤ length l
    → over (at + 8 * j) (little 8 (to_bits binary64 (get_or a j nan))) (over at (floats (take j a)) l) ≡ over at (floats (take (j + 1) a)) l
floats-turn at j a l h g =
    let b : List ℕ = little 8 (to_bits binary64 (get_or a j nan)) in
    let n = length-floats (take j a) in
    let m = length-floats (take (j + 1) a) in
    let p = length-take-le j a (omega arith) in
    let q = length-take-le (j + 1) a (omega arith) in
    let e : floats (take (j + 1) a) ≡ floats (take j a) ++ b = rw (add-one, take-suc a j nan) (floats-snoc (take j a) (get_or a j nan)) in
    written_behind at (8 * j) (floats (take j a)) b (floats (take (j + 1) a)) l (omega arith) e (omega arith)

-- ---- lists read

-- one more is stored behind those that were
stored-behind : {A : Type 0} (j : ℕ) (a d w : List A) (v : A) → j ≡ length a → d ≡ a ++ (v ∷ []) → length d ≤ length w → set (over 0 a w) j v ≡ over 0 d w
stored-behind j a d w v e f h =
    let m = ap length f ∙ length-append a (v ∷ []) in
    let q = length_over 0 a w (omega arith) in
    one_store (over 0 a w) j v (omega arith)
    ∙ ap (λ (n : ℕ). over n (v ∷ []) (over 0 a w)) (sym (zero-add j))
    ∙ written_behind 0 j a (v ∷ []) d w e f (omega arith)

words_in-snoc : (n at q : ℕ) (l : List ℕ) → q ≡ at + 4 * n → words_in (suc n) (drop at l) ≡ words_in n (drop at l) ++ (number 4 (drop q l) ∷ [])
unfolding words_in
words_in-snoc zero at q l e = let f : at ≡ q = omega arith in ap (λ (m : ℕ). number 4 (drop m l) ∷ []) f
words_in-snoc (suc n) at q l e =
    ap (λ (r : List ℕ). number 4 (drop at l) ∷ words_in (suc n) r) (drop-drop 4 at l)
    ∙ ap (λ (r : List ℕ). number 4 (drop at l) ∷ r) (words_in-snoc n (at + 4) q l (omega arith))
    ∙ ap (λ (r : List ℕ). number 4 (drop at l) ∷ (words_in n r ++ (number 4 (drop q l) ∷ []))) (sym (drop-drop 4 at l))

pub words_in-turn : (at j : ℕ) (l w : List ℕ) → j < length w
    → set (over 0 (words_in j (drop at l)) w) j (number 4 (drop (at + 4 * j) l)) ≡ over 0 (words_in (j + 1) (drop at l)) w
words_in-turn at j l w h =
    let m = length-words_in j (drop at l) in
    let n = length-words_in (j + 1) (drop at l) in
    let e : words_in (j + 1) (drop at l) ≡ words_in j (drop at l) ++ (number 4 (drop (at + 4 * j) l) ∷ []) = rw add-one (words_in-snoc j at (at + 4 * j) l refl) in
    stored-behind j (words_in j (drop at l)) (words_in (j + 1) (drop at l)) w (number 4 (drop (at + 4 * j) l)) (sym m) e (omega arith)

pub words_in-all : (at j : ℕ) (l w : List ℕ) → j ≡ length w → over 0 (words_in j (drop at l)) w ≡ words_in (length w) (drop at l)
words_in-all at j l w e = over-whole (words_in j (drop at l)) w (length-words_in j (drop at l) ∙ e) ∙ ap (λ (n : ℕ). words_in n (drop at l)) e

floats_in-snoc : (n at q : ℕ) (l : List ℕ) → q ≡ at + 8 * n → floats_in (suc n) (drop at l) ≡ floats_in n (drop at l) ++ (of_bits binary64 (number 8 (drop q l)) ∷ [])
unfolding floats_in
floats_in-snoc zero at q l e = let f : at ≡ q = omega arith in ap (λ (m : ℕ). of_bits binary64 (number 8 (drop m l)) ∷ []) f
floats_in-snoc (suc n) at q l e =
    let v : Float = of_bits binary64 (number 8 (drop at l)) in
    ap (λ (r : List ℕ). v ∷ floats_in (suc n) r) (drop-drop 8 at l)
    ∙ ap (λ (r : List Float). v ∷ r) (floats_in-snoc n (at + 8) q l (omega arith))
    ∙ ap (λ (r : List ℕ). v ∷ (floats_in n r ++ (of_bits binary64 (number 8 (drop q l)) ∷ []))) (sym (drop-drop 8 at l))

pub floats_in-turn : (at j : ℕ) (l : List ℕ) (x : List Float) → j < length x
    → set (over 0 (floats_in j (drop at l)) x) j (of_bits binary64 (number 8 (drop (at + 8 * j) l))) ≡ over 0 (floats_in (j + 1) (drop at l)) x
floats_in-turn at j l x h =
    let v : Float = of_bits binary64 (number 8 (drop (at + 8 * j) l)) in
    let m = length-floats_in j (drop at l) in
    let n = length-floats_in (j + 1) (drop at l) in
    let e : floats_in (j + 1) (drop at l) ≡ floats_in j (drop at l) ++ (v ∷ []) = rw add-one (floats_in-snoc j at (at + 8 * j) l refl) in
    stored-behind j (floats_in j (drop at l)) (floats_in (j + 1) (drop at l)) x v (sym m) e (omega arith)

pub floats_in-all : (at j : ℕ) (l : List ℕ) (x : List Float) → j ≡ length x → over 0 (floats_in j (drop at l)) x ≡ floats_in (length x) (drop at l)
floats_in-all at j l x e = over-whole (floats_in j (drop at l)) x (length-floats_in j (drop at l) ∙ e) ∙ ap (λ (n : ℕ). floats_in n (drop at l)) e
