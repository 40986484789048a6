-- The theorems of specs/Starts.antt that rest on parts. Assumes nothing.
use Rattle.std.specs.Prelude.{ℕ, zero, suc, ◌+◌, ◌-◌, ◌*◌, ◌/◌, ◌%◌, ◌^◌, ◌<◌, ◌≡◌, refl, ◌&&◌, List, [], ◌∷◌, eqb, leb, length, drop, Float}
use Rattle.std.proofs.Common.{arith, mul-zero, mul-suc, sym, ap, ap₂, ◌∙◌, length-drop, eq-eqb}
use Rattle.std.proofs.Math.Dec.{leb-zero, leb-suc-zero, leb-suc-suc}
use Rattle.std.proofs.lemmas.List.{length-map}
use Rattle.std.specs.Float.{binary64}
use Rattle.std.specs.Float.Ieee.{to_bits}
use Rattle.meaning.specs.Lists.{joined}
use Rattle.image_format.specs.Bytes.{little, words, floats, number, words_in, same_bytes}
use Rattle.image_laws.specs.Numbers.{Below, Bytes, Words, Doubles, below-first, below-drop, without, length-little, numbers_in, words-in, patterns, patterns-below, floats-are}
use Rattle.image_laws.specs.Starts.{starts, starts-both, room, exchange, parts, swap, eqb-sym}

pub starts-little : (k n : ℕ) (s : List ℕ) → n < 256 ^ k → Bytes s → starts (little k n) s ≡ (leb k (length s) && eqb (number k s) n)
unfolding starts little number
starts-little zero n s h b = let z : 0 ≡ n = omega arith in sym (rw (leb-zero (length s)) (eq-eqb 0 n z))
starts-little (suc k) n [] h b = sym (rw (leb-suc-zero k))
starts-little (suc k) n (y ∷ s) h b =
    let both = below-first 256 y s b in
    rw (starts-little k (n / 256) s (without k n h) both.1, leb-suc-suc k (length s), ← parts n y (number k s) both.0)
    (swap (eqb (n % 256) y) (leb k (length s)) (eqb (number k s) (n / 256)))

pub starts-numbers : (w : ℕ) (l s : List ℕ) → Below (256 ^ w) l → Bytes s
    → starts (joined (little w) l) s ≡ (leb (w * length l) (length s) && same_bytes l (numbers_in w (length l) s))
unfolding joined numbers_in same_bytes
starts-numbers w [] s h b = sym (rw (mul-zero w, leb-zero (length s)) (unfold starts in refl))
starts-numbers w (v ∷ l) s h b =
    let both = below-first (256 ^ w) v l h in
    starts-both (little w v) (joined (little w) l) s
    ∙ ap₂ (λ x y. x && y) (starts-little w v s both.0 b)
    (ap (λ k. starts (joined (little w) l) (drop k s)) (length-little w v) ∙ starts-numbers w l (drop w s) both.1 (below-drop 256 w s b))
    ∙ rest
  where
    more : w + w * length l ≡ w * suc (length l)
    more = rw mul-suc (omega arith)

    rest : ((leb w (length s) && eqb (number w s) v) && (leb (w * length l) (length (drop w s)) && same_bytes l (numbers_in w (length l) (drop w s))))
        ≡ (leb (w * suc (length l)) (length s) && same_bytes (v ∷ l) (number w s ∷ numbers_in w (length l) (drop w s)))
    rest =
        rw (length-drop w s, eqb-sym (number w s) v, exchange (leb w (length s)) (eqb v (number w s)) (leb (w * length l) (length s - w)) (same_bytes l (numbers_in w (length l) (drop w s))), room w (w * length l) (length s), more)

pub starts-words : (l s : List ℕ) → Words l → Bytes s → starts (words l) s ≡ (leb (4 * length l) (length s) && same_bytes l (words_in (length l) s))
starts-words l s h b = starts-numbers 4 l s h b ∙ ap (λ r. leb (4 * length l) (length s) && same_bytes l r) (sym (words-in (length l) s))

-- floats by their bits, so that a NaN of another pattern is another one
pub starts-floats : (x : List Float) (s : List ℕ) → Doubles x → Bytes s
    → starts (floats x) s ≡ (leb (8 * length x) (length s) && same_bytes (patterns x) (numbers_in 8 (length x) s))
starts-floats x s d b =
    ap (λ a. starts a s) (floats-are x) ∙ starts-numbers 8 (patterns x) s (patterns-below x d) b
    ∙ ap (λ n. leb (8 * n) (length s) && same_bytes (patterns x) (numbers_in 8 n s)) (length-map x (to_bits binary64))
