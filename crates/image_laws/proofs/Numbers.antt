-- The theorems of specs/Numbers.antt that rest on numbers-read. Assumes nothing.
use Rattle.std.specs.Prelude.{ℕ, suc, ◌*◌, ◌≡◌, refl, List, [], ◌∷◌, ◌++◌, map, length, drop, Float}
use Rattle.std.proofs.Common.{sym, ap, ap₂, ◌∙◌, append_assoc}
use Rattle.std.proofs.lemmas.List.{length-map}
use Rattle.std.specs.Float.{binary64}
use Rattle.std.specs.Float.Ieee.{to_bits, of_bits}
use Rattle.meaning_list_laws.specs.Lists.{joined-cons}
use Rattle.image_format.specs.Bytes.{little, words, floats, lists, number, words_in, floats_in, lists_in}
use Rattle.image_laws.specs.Numbers.{Words, Doubles, Lists, below-first, number-little, drop-little, numbers_in, numbers-read, words-in, drop-words, patterns, floats-are, floats-in, patterns-below, of-patterns}

pub words-read : (l s : List ℕ) → Words l → words_in (length l) (words l ++ s) ≡ l
words-read l s h = words-in (length l) (words l ++ s) ∙ numbers-read 4 l s h

pub floats-read : (x : List Float) (s : List ℕ) → Doubles x → floats_in (length x) (floats x ++ s) ≡ x
floats-read x s d =
    floats-in (length x) (floats x ++ s)
    ∙ ap (map (of_bits binary64))
    (ap₂ (λ n r. numbers_in 8 n (r ++ s)) (sym (length-map x (to_bits binary64))) (floats-are x) ∙ numbers-read 8 (patterns x) s (patterns-below x d))
    ∙ of-patterns x d

pub lists-read : (r : List (List ℕ)) (s : List ℕ) → Lists r → lists_in (length r) (lists r ++ s) ≡ r
unfolding lists lists_in
lists-read [] s h = refl
lists-read (l ∷ r) s h =
    let n = length l in
    let both = below-first 0x1_0000_0000 n l h.0 in
    let whole : (words (n ∷ l) ++ lists r) ++ s ≡ little 4 n ++ (words l ++ (lists r ++ s)) = simp (joined-cons, append_assoc) in
    let count : number 4 ((words (n ∷ l) ++ lists r) ++ s) ≡ n = ap (number 4) whole ∙ number-little 4 n (words l ++ (lists r ++ s)) both.0 in
    let entries : drop 4 ((words (n ∷ l) ++ lists r) ++ s) ≡ words l ++ (lists r ++ s) = ap (drop 4) whole ∙ drop-little 4 n (words l ++ (lists r ++ s)) in
    let rest : drop (4 * suc n) ((words (n ∷ l) ++ lists r) ++ s) ≡ lists r ++ s = ap (drop (4 * suc n)) (append_assoc (words (n ∷ l)) (lists r) s) ∙ drop-words (n ∷ l) (lists r ++ s) in
    rw (count, entries, rest) (ap₂ {C = List (List ℕ)} (λ a b. a ∷ b) (words-read l (lists r ++ s) both.1) (lists-read r s h.1))
