-- Two's complement of H + H numbers, over any H: `omega` reads no number of more than 38 digits, so that 2 ^ 127 must be a variable. Assumes nothing.
use Rattle.std.specs.Prelude.{◌≡◌, ℕ, zero, suc, ◌+◌, ◌-◌, ◌<◌, ◌≤◌, Bool, true, false, not, T, ℤ, pos, negsuc, ◌+ℤ◌, ◌-ℤ◌, int_lt, nat_le, nat_lt}
use native.Mathlib.Omega.{arith}
use Rattle.std.proofs.Common.{ltb→lt, nltb→le, lt-ltb, le-ltb, le-leb}
use Rattle.std.proofs.Math.IntN.{sub_ℕ}
use Rattle.std.specs.Int.Signed.{mag}
use Rattle.std.proofs.lemmas.Bool.{lt-leb}
use Rattle.sheet_words.specs.Words.{as_signed, as_word}

-- ---- a difference

pub sub-below : (a b : ℕ) → a < b → sub_ℕ a b ≡ negsuc (b - suc a)
sub-below a b h = rw (lt-ltb a b h)

pub sub-above : (a b : ℕ) → b ≤ a → sub_ℕ a b ≡ pos (a - b)
sub-above a b h = rw (le-ltb a b h)

pub sub_word : (H a b x : ℕ) → a < b → x + b ≡ a + (H + H) → as_word H (sub_ℕ a b) ≡ x
unfolding as_word
sub_word H a b x h e = rw (sub-below a b h) (omega arith)

pub sub-word-above : (H a b x : ℕ) → x + b ≡ a → as_word H (sub_ℕ a b) ≡ x
unfolding as_word
sub-word-above H a b x e = let h : b ≤ a = omega arith in rw (sub-above a b h) (omega arith)

-- a number below a - b, both moved up until none is negative
pub below_sub : (n a b : ℕ) → nat_lt (n + b) a ≡ int_lt (pos n) (sub_ℕ a b)
below_sub n a b = go (nat_lt a b) (ltb→lt a b) (nltb→le a b)
  where
    in-sight : b ≤ a → (t : Bool) → (T t → n < a - b) → (T (not t) → a - b ≤ n) → nat_lt (n + b) a ≡ t
    in-sight h true f g = let f' = f tt in lt-ltb (n + b) a (omega arith)
    in-sight h false f g = let g' = g tt in le-ltb (n + b) a (omega arith)

    go : (t : Bool) → (T t → a < b) → (T (not t) → b ≤ a) → nat_lt (n + b) a ≡ int_lt (pos n) (sub_ℕ a b)
    go true f g =
        let h = f tt in
        let k : a ≤ n + b = omega arith in
        rw (sub-below a b h, le-ltb (n + b) a k)
    go false f g =
        let h = g tt in
        rw (sub-above a b h) (in-sight h (nat_lt n (a - b)) (ltb→lt n (a - b)) (nltb→le n (a - b)))

pub below-sub-negative : (n a b : ℕ) → nat_le b (a + n) ≡ int_lt (negsuc n) (sub_ℕ a b)
below-sub-negative n a b = go (nat_lt a b) (ltb→lt a b) (nltb→le a b)
  where
    in-sight : a < b → (t : Bool) → (T t → b - suc a < n) → (T (not t) → n ≤ b - suc a) → nat_le b (a + n) ≡ t
    in-sight h true f g = let f' = f tt in le-leb b (a + n) (omega arith)
    in-sight h false f g = let g' = g tt in lt-leb b (a + n) (omega arith)

    go : (t : Bool) → (T t → a < b) → (T (not t) → b ≤ a) → nat_le b (a + n) ≡ int_lt (negsuc n) (sub_ℕ a b)
    go true f g =
        let h = f tt in
        rw (sub-below a b h) (in-sight h (nat_lt (b - suc a) n) (ltb→lt (b - suc a) n) (nltb→le (b - suc a) n))
    go false f g =
        let h = g tt in
        let k : b ≤ a + n = omega arith in
        rw (sub-above a b h, le-leb b (a + n) k)

-- ---- a word read as a number, and back

module _ (H : ℕ) where
  pub signed_below : (w : ℕ) → w < H → as_signed H w ≡ pos w
  unfolding as_signed
  signed_below w h = rw (lt-ltb w H h)

  pub signed_above : (w : ℕ) → H ≤ w → as_signed H w ≡ negsuc (H + H - suc w)
  unfolding as_signed
  signed_above w h = rw (le-ltb w H h)

  pub word_back : (w : ℕ) → w < H + H → as_word H (as_signed H w) ≡ w
  unfolding as_word
  word_back w h = go (nat_lt w H) (ltb→lt w H) (nltb→le w H)
    where
      go : (t : Bool) → (T t → w < H) → (T (not t) → H ≤ w) → as_word H (as_signed H w) ≡ w
      go true f g = rw (signed_below w (f tt))
      go false f g = let k = g tt in rw (signed_above w k) (omega arith)

  pub number-back : (z : ℤ) → mag z < H → as_signed H (as_word H z) ≡ z
  unfolding as_word
  number-back (pos n) h = signed_below n h
  number-back (negsuc n) h =
      let k : H ≤ H + H - suc n = omega arith in
      let e : H + H - suc (H + H - suc n) ≡ n = omega arith in
      rw (signed_above (H + H - suc n) k, e)

  -- a word is a number of this size
  pub signed-size : (w : ℕ) → w < H + H → mag (as_signed H w) < H
  signed-size w h = go (nat_lt w H) (ltb→lt w H) (nltb→le w H)
    where
      go : (t : Bool) → (T t → w < H) → (T (not t) → H ≤ w) → mag (as_signed H w) < H
      go true f g = let k = f tt in rw (signed_below w k) k
      go false f g = let k = g tt in rw (signed_above w k) (omega arith)

-- ---- a word and a number more or less: the word x is the sum, as it is or less H + H

module _ (H w d x : ℕ) (inside : w < H + H) (small : d ≤ H) where
  pub more : x < H + H → x ≡ w + d → as_word H (as_signed H w +ℤ pos d) ≡ x
  unfolding as_word
  more k e = go (nat_lt w H) (ltb→lt w H) (nltb→le w H)
    where
      go : (t : Bool) → (T t → w < H) → (T (not t) → H ≤ w) → as_word H (as_signed H w +ℤ pos d) ≡ x
      go true f g = rw (signed_below H w (f tt)) (omega arith)
      go false f g = let h = g tt in rw (signed_above H w h) (sub_word H d (suc (H + H - suc w)) x (omega arith) (omega arith))

  pub more-over : w + d ≡ x + (H + H) → as_word H (as_signed H w +ℤ pos d) ≡ x
  unfolding as_word
  more-over e =
      let h : H ≤ w = omega arith in
      rw (signed_above H w h) (sub-word-above H d (suc (H + H - suc w)) x (omega arith))

module _ (H w x : ℕ) (inside : w < H + H) where
  pub less : (d : ℕ) → d ≤ H → w ≡ x + d → as_word H (as_signed H w -ℤ pos d) ≡ x
  unfolding as_word
  less zero small e = more H w 0 x inside small (omega arith) (omega arith)
  less (suc k) small e = go (nat_lt w H) (ltb→lt w H) (nltb→le w H)
    where
      go : (t : Bool) → (T t → w < H) → (T (not t) → H ≤ w) → as_word H (as_signed H w +ℤ negsuc k) ≡ x
      go true f g = rw (signed_below H w (f tt)) (sub-word-above H w (suc k) x (omega arith))
      go false f g = let h = g tt in rw (signed_above H w h) (omega arith)

  pub less-under : (d : ℕ) → d ≤ H → w < d → x + d ≡ w + (H + H) → as_word H (as_signed H w -ℤ pos d) ≡ x
  less-under zero small h e = absurd (omega arith)
  less-under (suc k) small h e =
      let b : w < H = omega arith in
      rw (signed_below H w b) (sub_word H w (suc k) x h e)
