-- The stone sheet's five words: what the code computes is what the definitions say, and a sheet that can be read is what its words tell. Assumes nothing.
use Rattle.std.specs.Prelude.{◌≡◌, ℕ, suc, ◌+◌, ◌-◌, ◌*◌, ◌/◌, ◌%◌, ◌^◌, ◌<◌, ◌≤◌, Bool, true, false, cond, not, ◌&&◌, ◌||◌, T, ltb, ℤ, pos, negsuc, ◌+ℤ◌, ◌-ℤ◌, ◌==◌, ◌≢◌, int_lt, nat_eq, nat_le, nat_lt, unsigned_abs, refl}
use Rattle.std.proofs.Common.{lt_of_lt_of_le, le_trans, mul-le-mul_right, le_of_lt, le-add_right, add-mul, div-add-mod', ◌∙◌, ltb→lt, nltb→le, lit≤, lt-ltb, le-ltb, le-leb, leb-true, ne_eqb}
use Rattle.std.proofs.Math.Numerals.{add-one}
use native.Mathlib.Omega.{arith}
use Rattle.std.proofs.Math.Path.{sym, ap}
use Rattle.std.proofs.lemmas.Bool.{false≢true, lt-leb}
use Rattle.std.proofs.Math.Option.{Option, none, some}
use Rattle.std.proofs.Math.IntN.{sub_ℕ}
use Rattle.std.specs.Int.Signed.{mag}
use Rattle.meaning_sheets.specs.Sheets.{Stone, Sheet, new_sheet, larger, with_stone, sheet_readable}
use Rattle.sheet_words.specs.Words.{as_signed, as_word, sheet_of, words_of_sheet, body_of, number_of}
use Rattle.sheet_words.specs.Totals.{words_of_total}
use Rattle.sheet_words.specs.Complement.{sub-below, sub-above, sub_word, sub-word-above, below_sub, below-sub-negative, signed_below, signed_above, word_back, number-back, signed-size, more, more-over, less, less-under}
use Rattle.sheet_words.specs.declared.StoneSheet.{StoneSheet}
use Rattle.sheet_words.specs.declared.Total.{Total}

-- ---- two words

next : (h l : ℕ) → l < 2 ^ 64 → h * 2 ^ 64 + l < suc h * 2 ^ 64
next h l q = omega arith

inside : (h l : ℕ) → h < 2 ^ 64 → l < 2 ^ 64 → h * 2 ^ 64 + l < 2 ^ 127 + 2 ^ 127
inside h l p q = lt_of_lt_of_le (next h l q) (mul-le-mul_right (2 ^ 64) p)

half-below : (h l : ℕ) → h < 2 ^ 63 → l < 2 ^ 64 → h * 2 ^ 64 + l < 2 ^ 127
half-below h l p q = lt_of_lt_of_le (next h l q) (mul-le-mul_right (2 ^ 64) p)

half-above : (h l : ℕ) → 2 ^ 63 ≤ h → 2 ^ 127 ≤ h * 2 ^ 64 + l
half-above h l p = le_trans (mul-le-mul_right (2 ^ 64) p) (le-add_right (h * 2 ^ 64) l)

-- a word is small beside a total
small : (d : ℕ) → d < 2 ^ 64 → d ≤ 2 ^ 127
small d h = le_trans (le_of_lt h) (lit≤ tt)

-- what two words reach together
full : (g h : ℕ) → g + suc h ≡ 2 ^ 64 → g * 2 ^ 64 + suc h * 2 ^ 64 ≡ 2 ^ 127 + 2 ^ 127
full g h e = sym (add-mul g (suc h) (2 ^ 64)) ∙ ap (λ n. n * 2 ^ 64) e

low-alone : (h l d : ℕ) → h ≡ 0 → l < d → h * 2 ^ 64 + l < d
low-alone h l d e k = omega arith

two-words : (x h l : ℕ) → l < 2 ^ 64 → x ≡ h * 2 ^ 64 + l → ◌≡◌ {A = Total} (record { low = l; high = h }) (record { low = x % 2 ^ 64; high = x / 2 ^ 64 })
two-words x h l k e = λ i. record { low = low i; high = high i }
  where
    low : l ≡ x % 2 ^ 64
    low = omega arith

    high : h ≡ x / 2 ^ 64
    high = omega arith

module _ (h l d : ℕ) (fits-h : h < 2 ^ 64) (fits-l : l < 2 ^ 64) (fits-d : d < 2 ^ 64) where
  pub raised-plain : l + d < 2 ^ 64 → ◌≡◌ {A = Total} (record { low = l + d; high = h }) (words_of_total (as_signed (2 ^ 127) (h * 2 ^ 64 + l) +ℤ pos d))
  unfolding words_of_total
  raised-plain k =
      two-words _ h (l + d) k
      (more (2 ^ 127) (h * 2 ^ 64 + l) d (h * 2 ^ 64 + (l + d)) (inside h l fits-h fits-l) (small d fits-d) (inside h (l + d) fits-h k) (omega arith))

  pub raised-carry : (a g : ℕ) → 2 ^ 64 ≤ l + d → a ≡ (l + d) % 2 ^ 64 → g ≡ (h + 1) % 2 ^ 64
      → ◌≡◌ {A = Total} (record { low = a; high = g }) (words_of_total (as_signed (2 ^ 127) (h * 2 ^ 64 + l) +ℤ pos d))
  unfolding words_of_total
  raised-carry a g k e f = two-words _ g a (omega arith) (go (nat_lt (suc h) (2 ^ 64)) (ltb→lt (suc h) (2 ^ 64)) (nltb→le (suc h) (2 ^ 64)))
    where
      carried : (h g a : ℕ) → l + d ≡ a + 2 ^ 64 → g ≡ h + 1 → g * 2 ^ 64 + a ≡ h * 2 ^ 64 + l + d
      carried h g a p q = omega arith

      over : (h g a F : ℕ) → l + d ≡ a + 2 ^ 64 → g ≡ 0 → 0 * 2 ^ 64 + suc h * 2 ^ 64 ≡ F → h * 2 ^ 64 + l + d ≡ g * 2 ^ 64 + a + F
      over h g a F p q r = omega arith

      go : (t : Bool) → (T t → suc h < 2 ^ 64) → (T (not t) → 2 ^ 64 ≤ suc h) → as_word (2 ^ 127) (as_signed (2 ^ 127) (h * 2 ^ 64 + l) +ℤ pos d) ≡ g * 2 ^ 64 + a
      go true p q =
          let u = p tt in
          more (2 ^ 127) (h * 2 ^ 64 + l) d (g * 2 ^ 64 + a) (inside h l fits-h fits-l) (small d fits-d) (inside g a (omega arith) (omega arith)) (carried h g a (omega arith) (omega arith))
      go false p q =
          let u = q tt in
          more-over (2 ^ 127) (h * 2 ^ 64 + l) d (g * 2 ^ 64 + a) (inside h l fits-h fits-l) (small d fits-d)
          (over h g a (2 ^ 127 + 2 ^ 127) (omega arith) (omega arith) (full 0 h (omega arith)))

  pub lowered-plain : d ≤ l → ◌≡◌ {A = Total} (record { low = l - d; high = h }) (words_of_total (as_signed (2 ^ 127) (h * 2 ^ 64 + l) -ℤ pos d))
  unfolding words_of_total
  lowered-plain k =
      two-words _ h (l - d) (omega arith)
      (less (2 ^ 127) (h * 2 ^ 64 + l) (h * 2 ^ 64 + (l - d)) (inside h l fits-h fits-l) d (small d fits-d) (omega arith))

  pub lowered-borrow : (a g : ℕ) → a < 2 ^ 64 → g < 2 ^ 64 → l < d → (a + d) % 2 ^ 64 ≡ l → (g + 1) % 2 ^ 64 ≡ h
      → ◌≡◌ {A = Total} (record { low = a; high = g }) (words_of_total (as_signed (2 ^ 127) (h * 2 ^ 64 + l) -ℤ pos d))
  unfolding words_of_total
  lowered-borrow a g fits-a fits-g k e f = two-words _ g a fits-a (go (nat_lt 0 h) (ltb→lt 0 h) (nltb→le 0 h))
    where
      lent : (h g a : ℕ) → a + d ≡ l + 2 ^ 64 → h ≡ g + 1 → h * 2 ^ 64 + l ≡ g * 2 ^ 64 + a + d
      lent h g a p q = omega arith

      under : (h g a F : ℕ) → a + d ≡ l + 2 ^ 64 → h ≡ 0 → g * 2 ^ 64 + 1 * 2 ^ 64 ≡ F → g * 2 ^ 64 + a + d ≡ h * 2 ^ 64 + l + F
      under h g a F p q r = omega arith

      go : (t : Bool) → (T t → 0 < h) → (T (not t) → h ≤ 0) → as_word (2 ^ 127) (as_signed (2 ^ 127) (h * 2 ^ 64 + l) -ℤ pos d) ≡ g * 2 ^ 64 + a
      go true p q =
          let u = p tt in
          less (2 ^ 127) (h * 2 ^ 64 + l) (g * 2 ^ 64 + a) (inside h l fits-h fits-l) d (small d fits-d) (lent h g a (omega arith) (omega arith))
      go false p q =
          let u = q tt in
          less-under (2 ^ 127) (h * 2 ^ 64 + l) (g * 2 ^ 64 + a) (inside h l fits-h fits-l) d (small d fits-d) (low-alone h l d (omega arith) k)
          (under h g a (2 ^ 127 + 2 ^ 127) (omega arith) (omega arith) (full g 0 (omega arith)))

-- a difference is what is added, or what is taken off
pub moved_down : (z : ℤ) (p m : ℕ) → p < m → z -ℤ pos (m - p) ≡ z +ℤ sub_ℕ p m
moved_down z p m h =
    let e : m - p ≡ suc (m - suc p) = omega arith in
    rw (e, sub-below p m h)

pub moved_up : (z : ℤ) (p m : ℕ) → m ≤ p → z +ℤ pos (p - m) ≡ z +ℤ sub_ℕ p m
moved_up z p m h = rw (sub-above p m h)

-- a difference in one word
pub word-of-sub : (p m x : ℕ) → p < 2 ^ 64 → m < 2 ^ 64 → x < 2 ^ 64 → (x + m) % 2 ^ 64 ≡ p → x ≡ as_word (2 ^ 63) (sub_ℕ p m)
word-of-sub p m x fits-p fits-m fits-x e = go (nat_lt p m) (ltb→lt p m) (nltb→le p m)
  where
    go : (t : Bool) → (T t → p < m) → (T (not t) → m ≤ p) → x ≡ as_word (2 ^ 63) (sub_ℕ p m)
    go true f g = let h = f tt in sym (sub_word (2 ^ 63) p m x h (omega arith))
    go false f g = let h = g tt in sym (sub-word-above (2 ^ 63) p m x (omega arith))

-- ---- tests of two words

pub below_equal : (h l t r : ℕ) → h ≡ t → nat_lt l r ≡ nat_lt (h * 2 ^ 64 + l) (t * 2 ^ 64 + r)
below_equal h l t r e = go (nat_lt l r) (ltb→lt l r) (nltb→le l r)
  where
    go : (b : Bool) → (T b → l < r) → (T (not b) → r ≤ l) → b ≡ nat_lt (h * 2 ^ 64 + l) (t * 2 ^ 64 + r)
    go true p q = let u = p tt in sym (lt-ltb (h * 2 ^ 64 + l) (t * 2 ^ 64 + r) (omega arith))
    go false p q = let u = q tt in sym (le-ltb (h * 2 ^ 64 + l) (t * 2 ^ 64 + r) (omega arith))

pub below_other : (h l t r : ℕ) → l < 2 ^ 64 → r < 2 ^ 64 → (h ≢ t) → nat_lt h t ≡ nat_lt (h * 2 ^ 64 + l) (t * 2 ^ 64 + r)
below_other h l t r fits-l fits-r n = go (nat_lt h t) (ltb→lt h t) (nltb→le h t)
  where
    go : (b : Bool) → (T b → h < t) → (T (not b) → t ≤ h) → b ≡ nat_lt (h * 2 ^ 64 + l) (t * 2 ^ 64 + r)
    go true p q = let u = p tt in sym (lt-ltb (h * 2 ^ 64 + l) (t * 2 ^ 64 + r) (omega arith))
    go false p q = let u = q tt in sym (le-ltb (h * 2 ^ 64 + l) (t * 2 ^ 64 + r) (omega arith))

-- of a number that is held
pub larger-than : (w p m : ℕ) → w < 2 ^ 63 → nat_lt (w + m) p ≡ int_lt (as_signed (2 ^ 63) w) (sub_ℕ p m)
larger-than w p m h = rw (signed_below (2 ^ 63) w h) (below_sub w p m)

pub larger-than-negative : (w p m : ℕ) → 2 ^ 63 ≤ w → nat_le m (p + (2 ^ 64 - 1 - w)) ≡ int_lt (as_signed (2 ^ 63) w) (sub_ℕ p m)
larger-than-negative w p m h =
    let e : 2 ^ 64 - suc w ≡ 2 ^ 64 - 1 - w = omega arith in
    rw (signed_above (2 ^ 63) w h, e) (below-sub-negative (2 ^ 64 - 1 - w) p m)

-- 3·2^60 for each stone, in two words
bound : (n : ℕ) → n * 3 / 16 * 2 ^ 64 + n * 3 % 16 * 2 ^ 60 ≡ 3 * 2 ^ 60 * n
bound n = omega arith

not-below : (a b : ℕ) → not (nat_lt a b) ≡ nat_le b a
not-below a b = go (nat_lt a b) (ltb→lt a b) (nltb→le a b)
  where
    go : (t : Bool) → (T t → a < b) → (T (not t) → b ≤ a) → not t ≡ nat_le b a
    go true p q = sym (lt-leb b a (p tt))
    go false p q = sym (le-leb b a (q tt))

module _ (h l n : ℕ) (b : Bool) (fits-l : l < 2 ^ 64) where
  pub within-below : h < 2 ^ 63 → b ≡ nat_lt (n * 3 / 16 * 2 ^ 64 + n * 3 % 16 * 2 ^ 60) (h * 2 ^ 64 + l) → not b ≡ nat_le (unsigned_abs (as_signed (2 ^ 127) (h * 2 ^ 64 + l))) (3 * 2 ^ 60 * n)
  within-below k e =
      rw (signed_below (2 ^ 127) (h * 2 ^ 64 + l) (half-below h l k fits-l))
      (ap not (e ∙ ap (λ a. ltb a (h * 2 ^ 64 + l)) (bound n)) ∙ not-below (3 * 2 ^ 60 * n) (h * 2 ^ 64 + l))

  -- the complement of a negative total is its size less one
  pub within-above : h < 2 ^ 64 → 2 ^ 63 ≤ h → b ≡ nat_lt ((2 ^ 64 - 1 - h) * 2 ^ 64 + (2 ^ 64 - 1 - l)) (n * 3 / 16 * 2 ^ 64 + n * 3 % 16 * 2 ^ 60)
      → b ≡ nat_le (unsigned_abs (as_signed (2 ^ 127) (h * 2 ^ 64 + l))) (3 * 2 ^ 60 * n)
  within-above fits-h k e =
      rw (signed_above (2 ^ 127) (h * 2 ^ 64 + l) (half-above h l k), complement (2 ^ 127) (2 ^ 64 - 1 - h) h l fits-l (full (2 ^ 64 - 1 - h) h (omega arith)))
      (e ∙ ap (ltb ((2 ^ 64 - 1 - h) * 2 ^ 64 + (2 ^ 64 - 1 - l))) (bound n))
    where
      complement : (H g h l : ℕ) → l < 2 ^ 64 → g * 2 ^ 64 + suc h * 2 ^ 64 ≡ H + H → H + H - suc (h * 2 ^ 64 + l) ≡ g * 2 ^ 64 + (2 ^ 64 - 1 - l)
      complement H g h l p q = omega arith

-- ---- the sheet

module _ (s : StoneSheet) where
  pub too_many : 65536 < s.stones → false ≡ sheet_readable (sheet_of s)
  unfolding sheet_readable sheet_of
  too_many h = rw (lt-leb s.stones 65536 h)

  pub few-enough : (b : Bool) → s.stones ≤ 65536 → b ≡ nat_le (unsigned_abs (as_signed (2 ^ 127) (s.high * 2 ^ 64 + s.low))) (3 * 2 ^ 60 * s.stones) → b ≡ sheet_readable (sheet_of s)
  unfolding sheet_readable sheet_of
  few-enough b h e = rw (le-leb s.stones 65536 h) e

-- which of the two stones is the largest, by one test
picked : (b : Bool) (t s : Stone) → larger (cond b none (some t)) s ≡ cond (b || int_lt t.number s.number) s t
picked true t s = refl
picked false t s = refl

module _ (s : StoneSheet) (t : Total) (b : ℕ) (z : ℤ) (r : Bool) (total : t ≡ words_of_total (as_signed (2 ^ 127) (s.high * 2 ^ 64 + s.low) +ℤ z)) (test : r ≡ int_lt (as_signed (2 ^ 63) s.largest) z) where
  held : Stone
  held = record { body = s.body; number = as_signed (2 ^ 63) s.largest }

  new : Stone
  new = record { body = b; number = z }

  choice : (v : Bool) → (s.stones == 0 || r) ≡ v → larger (cond (s.stones == 0) none (some held)) new ≡ cond v new held
  unfolding held new
  choice v e = picked (s.stones == 0) held new ∙ ap (λ w. cond w new held) (sym (ap (λ w. (s.stones == 0) || w) test) ∙ e)

  made : (v : Stone) → larger (cond (s.stones == 0) none (some held)) new ≡ v
      → ◌≡◌ {A = StoneSheet} (record { stones = s.stones + 1; low = t.low; high = t.high; body = v.body; largest = as_word (2 ^ 63) v.number }) (words_of_sheet (with_stone (sheet_of s) new))
  unfolding held new words_of_sheet with_stone sheet_of words_of_total
  made v e = let f = sym e in λ i. record { stones = add-one s.stones i; low = (total i).low; high = (total i).high; body = (f i).body; largest = as_word (2 ^ 63) (f i).number }

  pub new-largest : (w : ℕ) → (s.stones == 0 || r) ≡ true → w ≡ as_word (2 ^ 63) z
      → ◌≡◌ {A = StoneSheet} (record { stones = s.stones + 1; low = t.low; high = t.high; body = b; largest = w }) (words_of_sheet (with_stone (sheet_of s) (record { body = b; number = z })))
  unfolding new
  new-largest w e f = rw f (made new (choice true e))

  pub held-largest : s.largest < 2 ^ 64 → (s.stones == 0 || r) ≡ false
      → ◌≡◌ {A = StoneSheet} (record { stones = s.stones + 1; low = t.low; high = t.high; body = s.body; largest = s.largest }) (words_of_sheet (with_stone (sheet_of s) (record { body = b; number = z })))
  unfolding held new
  held-largest h e =
      let w = sym (word_back (2 ^ 63) s.largest h) in
      (λ i. record { stones = s.stones + 1; low = t.low; high = t.high; body = s.body; largest = w i }) ∙ made held (choice false e)

-- ---- what is read back

and_both : (a b : Bool) → (a && b) ≡ true → (a ≡ true) × (b ≡ true)
and_both true b e = (refl, e)
and_both false b e = absurd (false≢true e)

-- five zeros
pub new-words : sheet_of (record { stones = 0; low = 0; high = 0; body = 0; largest = 0 }) ≡ new_sheet
unfolding sheet_of as_signed
new-words = refl

-- a total that can be read is far from the ends of two words
total_size : (h : Sheet) → sheet_readable h ≡ true → mag h.total < 2 ^ 127
unfolding sheet_readable
total_size h e = lt_of_lt_of_le (go h.total (leb-true (unsigned_abs h.total) (3 * 2 ^ 60 * h.stones) (and_both (nat_le h.stones 65536) _ e).1)) (lit≤ tt)
  where
    few : h.stones ≤ 65536
    few = leb-true h.stones 65536 (and_both (nat_le h.stones 65536) _ e).0

    go : (z : ℤ) → unsigned_abs z ≤ 3 * 2 ^ 60 * h.stones → mag z < 2 ^ 78
    go (pos n) k = let f = few in omega arith
    go (negsuc n) k = let f = few in omega arith

-- the two words are the exact total, and the largest stone's number may be any of one word
pub read_back : (h : Sheet) → sheet_readable h ≡ true → 0 < h.stones → (t : Stone) → h.largest ≡ some t → mag t.number < 2 ^ 63 → sheet_of (words_of_sheet h) ≡ h
unfolding sheet_of words_of_sheet
read_back h e k t f size = λ i. record { stones = h.stones; total = total i; largest = largest i }
  where
    total : as_signed (2 ^ 127) (as_word (2 ^ 127) h.total / 2 ^ 64 * 2 ^ 64 + as_word (2 ^ 127) h.total % 2 ^ 64) ≡ h.total
    total = ap (as_signed (2 ^ 127)) (div-add-mod' (as_word (2 ^ 127) h.total) (2 ^ 64)) ∙ number-back (2 ^ 127) h.total (total_size h e)

    some-stone : nat_eq h.stones 0 ≡ false
    some-stone = ne_eqb h.stones 0 (λ q. omega arith)

    back : (o : Option Stone) → o ≡ some t → ◌≡◌ {A = Option Stone} (some (record { body = body_of o; number = as_signed (2 ^ 63) (number_of o) })) o
    back o q = ap (λ p. some (record { body = body_of p; number = as_signed (2 ^ 63) (number_of p) })) q ∙ ap (λ z. some (record { body = t.body; number = z })) (number-back (2 ^ 63) t.number size) ∙ sym q

    largest : cond (h.stones == 0) none (some (record { body = body_of h.largest; number = as_signed (2 ^ 63) (number_of h.largest) })) ≡ h.largest
    largest = ap (λ b. cond b none (some (record { body = body_of h.largest; number = as_signed (2 ^ 63) (number_of h.largest) }))) some-stone ∙ back h.largest f

-- a number of the sheet's range is one of one word
pub small-number : (z : ℤ) → unsigned_abs z ≤ 3 * 2 ^ 60 → mag z < 2 ^ 63
small-number (pos n) h = omega arith
small-number (negsuc n) h = omega arith

-- sizes add up at most
sub-size : (a b : ℕ) → unsigned_abs (sub_ℕ a b) ≤ a + b
sub-size a b = go (nat_lt a b) (ltb→lt a b)
  where
    go : (t : Bool) → (T t → a < b) → unsigned_abs (cond t (negsuc (b - suc a)) (pos (a - b))) ≤ a + b
    go true f = let h = f tt in omega arith
    go false f = omega arith

sum-size : (y z : ℤ) → unsigned_abs (y +ℤ z) ≤ unsigned_abs y + unsigned_abs z
sum-size (pos a) (pos b) = omega arith
sum-size (pos a) (negsuc b) = sub-size a (suc b)
sum-size (negsuc a) (pos b) = let h = sub-size b (suc a) in omega arith
sum-size (negsuc a) (negsuc b) = omega arith

-- one stone more leaves a sheet that can be read
pub stays-readable : (h : Sheet) (t : Stone) → sheet_readable h ≡ true → h.stones < 65536 → unsigned_abs t.number ≤ 3 * 2 ^ 60 → sheet_readable (with_stone h t) ≡ true
unfolding sheet_readable with_stone
stays-readable h t e k size =
    let u : unsigned_abs h.total ≤ 3 * 2 ^ 60 * h.stones = leb-true (unsigned_abs h.total) (3 * 2 ^ 60 * h.stones) (and_both (nat_le h.stones 65536) _ e).1 in
    let v = sum-size h.total t.number in
    let a : suc h.stones ≤ 65536 = k in
    let b : unsigned_abs (h.total +ℤ t.number) ≤ 3 * 2 ^ 60 * suc h.stones = omega arith in
    rw (le-leb (suc h.stones) 65536 a) (le-leb (unsigned_abs (h.total +ℤ t.number)) (3 * 2 ^ 60 * suc h.stones) b)

-- behind one stone more the words tell the sheet, whatever number was held: it was one of one word
pub taken_back : (s : StoneSheet) → s.largest < 2 ^ 64 → sheet_readable (sheet_of s) ≡ true → s.stones < 65536 → (t : Stone) → unsigned_abs t.number ≤ 3 * 2 ^ 60
    → sheet_of (words_of_sheet (with_stone (sheet_of s) t)) ≡ with_stone (sheet_of s) t
unfolding sheet_of with_stone
taken_back s fits e k t size =
    read_back (with_stone (sheet_of s) t) (stays-readable (sheet_of s) t e k size) (omega arith) (larger (sheet_of s).largest t) refl (go (s.stones == 0))
  where
    choice : (b : Bool) → mag (cond b t (record { body = s.body; number = as_signed (2 ^ 63) s.largest })).number < 2 ^ 63
    choice true = small-number t.number size
    choice false = signed-size (2 ^ 63) s.largest fits

    go : (b : Bool) → mag (larger (cond b none (some (record { body = s.body; number = as_signed (2 ^ 63) s.largest }))) t).number < 2 ^ 63
    go true = small-number t.number size
    go false = choice (int_lt (as_signed (2 ^ 63) s.largest) t.number)
