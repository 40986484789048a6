-- Laws of the loops: lists gone through entry by entry, and rows of statuses filled. Assumes nothing.
use Rattle.std.specs.Prelude.{ℕ, zero, suc, ◌+◌, ◌≤◌, ◌<◌, ◌≡◌, refl, Bool, true, false, cond, ◌||◌, List, [], ◌∷◌, ◌++◌, eqb, ltb, length, get_or, set, take, replicate}
use Rattle.std.proofs.Common.{arith, add-one, zero-add, sym, ap, ◌∙◌, get_or-set_same, get_or-set_other, ltb-true, ltb-false, lt-ltb, le-ltb, eqb-true}
use Rattle.std.proofs.Math.Path.{fun_ext}
use Rattle.std.proofs.lemmas.List.{length-replicate}
use Rattle.std.proofs.lemmas.Bool.{eqb-false}
use Rattle.meaning.specs.Lists.{any, run, member}
use Rattle.meaning_list_laws.specs.Tests.{or-false, or-none}
use Rattle.meaning_list_laws.specs.Lists.{all-run, all-member, member-head, member-tail}
use Rattle.memory_layout.specs.Layout.{largest_tables, word}
use Rattle.memory_layout.specs.Fit.{Lists}
use Rattle.walk_marks.specs.Laws.{take_more}
use Rattle.split_foreign.specs.Status.{greater, greatest, entry, standing}
use Rattle.split_foreign.specs.Facts.{Fresh, Rows}

-- ---- the greatest

pub greater-lt : (a b : ℕ) → a < b → greater a b ≡ b
unfolding greater
greater-lt a b h = rw (lt-ltb a b h)

pub greater-le : (a b : ℕ) → b ≤ a → greater a b ≡ a
unfolding greater
greater-le a b h = rw (le-ltb a b h)

greater-zero : (a : ℕ) → greater 0 a ≡ a
greater-zero zero = greater-le 0 0 (omega arith)
greater-zero (suc a) = greater-lt 0 (suc a) (omega arith)

greater-assoc : (a b c : ℕ) → greater a (greater b c) ≡ greater (greater a b) c
greater-assoc a b c = go (ltb a b) (ltb b c) (ltb-true a b) (ltb-false a b) (ltb-true b c) (ltb-false b c)
  where
    go : (p q : Bool) → (p ≡ true → a < b) → (p ≡ false → b ≤ a) → (q ≡ true → b < c) → (q ≡ false → c ≤ b) → greater a (greater b c) ≡ greater (greater a b) c
    go true true h _ g _ = let s = h refl in let t = g refl in rw (greater-lt b c t, greater-lt a b s, greater-lt b c t) (greater-lt a c (omega arith))
    go true false h _ _ g = rw (greater-le b c (g refl), greater-lt a b (h refl)) (sym (greater-le b c (g refl)))
    go false true _ h g _ = rw (greater-lt b c (g refl), greater-le a b (h refl))
    go false false _ h _ g = let s = h refl in let t = g refl in rw (greater-le b c t, greater-le a b s) (sym (greater-le a c (omega arith)))

greatest-snoc : (f : ℕ → ℕ) (l : List ℕ) (y : ℕ) → greatest f (l ++ (y ∷ [])) ≡ greater (greatest f l) (f y)
unfolding greatest
greatest-snoc f [] y = greater-le (f y) 0 (omega arith) ∙ sym (greater-zero (f y))
greatest-snoc f (z ∷ l) y = ap (greater (f z)) (greatest-snoc f l y) ∙ greater-assoc (f z) (greatest f l) (f y)

pub greatest-turn : (f : ℕ → ℕ) (l : List ℕ) (k s a : ℕ) → k < length l → s ≡ greatest f (take k l) → a ≡ f (get_or l k 0) → greater s a ≡ greatest f (take (k + 1) l)
greatest-turn f l k s a h e d = rw (e, d, take_more l k 0 h) (sym (greatest-snoc f (take k l) (get_or l k 0)))

-- ---- some entry

any_snoc : (p : ℕ → Bool) (l : List ℕ) (y : ℕ) → any p (l ++ (y ∷ [])) ≡ (any p l || p y)
unfolding any
any_snoc p [] y = or-false (p y)
any_snoc p (z ∷ l) y = ap (λ b. p z || b) (any_snoc p l y) ∙ go (p z) (any p l) (p y)
  where
    go : (a b c : Bool) → (a || (b || c)) ≡ ((a || b) || c)
    go true b c = refl
    go false b c = refl

pub any_none : (p : ℕ → Bool) → any p (run 0 0) ≡ false
unfolding any run
any_none p = refl

-- one number more
pub any-more : (p : ℕ → Bool) (i : ℕ) (found x : Bool) → found ≡ any p (run 0 i) → x ≡ p i → (found || x) ≡ any p (run 0 (i + 1))
unfolding run
any-more p i found x e d = rw (e, d, add-one, zero-add) (sym (any_snoc p (run 0 i) i))

-- ---- rows of statuses

pub standing-in : (s : List ℕ) (i : ℕ) → i < length s → get_or s i 0 ≡ standing s i
standing-in [] i h = absurd (omega arith)
standing-in (a ∷ s) zero h = refl
standing-in (a ∷ s) (suc i) h = standing-in s i (omega arith)

pub fresh-of : (n k : ℕ) → n ≤ k → Fresh n (replicate k 2)
fresh-of n k h = record { enough = rw length-replicate h; each = twos k }
  where
    twos : (k i : ℕ) → standing (replicate k 2) i ≡ 2
    twos zero i = refl
    twos (suc k) zero = refl
    twos (suc k) (suc i) = twos k i

pub rows_none : (n : ℕ) (f : ℕ → ℕ) (s : List ℕ) → Fresh n s → Rows 0 f s
rows_none n f s h = record { each = λ k. h.each k ∙ sym (rw (le-ltb k 0 (omega arith))) }

pub rows_more : (n : ℕ) (f : ℕ → ℕ) (s : List ℕ) (a : ℕ) → n < length s → a ≡ f n → Rows n f s → Rows (n + 1) f (set s n a)
rows_more n f s a h e r = record { each = λ k. go k (eqb k n) refl }
  where
    go : (k : ℕ) (b : Bool) → eqb k n ≡ b → standing (set s n a) k ≡ entry (n + 1) f k
    go k true q =
        let same : k ≡ n = eqb-true k n q in
        rw (same, get_or-set_same s n a 2 h, lt-ltb n (n + 1) (omega arith)) e
    go k false q = get_or-set_other s n k a 2 (eqb-false k n q) ∙ r.each k ∙ ap (λ b. cond b (f k) 2) (more (ltb k n) refl)
      where
        more : (b : Bool) → ltb k n ≡ b → b ≡ ltb k (n + 1)
        more true g = let t = ltb-true k n g in sym (lt-ltb k (n + 1) (omega arith))
        more false g = let t = ltb-false k n g in let d = eqb-false k n q in sym (le-ltb k (n + 1) (omega arith))

pub rows-read : (n : ℕ) (f : ℕ → ℕ) (s : List ℕ) → Rows n f s → standing s ≡ entry n f
rows-read n f s r = fun_ext r.each

-- a table's statuses have room in a row of its largest size
pub row_fits : (room w : List ℕ) (k : ℕ) → Lists room w → k < 10 → word w k ≤ word largest_tables k
row_fits room w k s h = let a = s.counts k h in let b = s.small.small k h in omega arith

-- ---- the other office's bodies

pub any-less : (p q : ℕ → Bool) (l : List ℕ) → ((y : ℕ) → member y l ≡ true → q y ≡ true → p y ≡ true) → any p l ≡ false → any q l ≡ false
unfolding any member
any-less p q [] h e = refl
any-less p q (y ∷ l) h e =
    let n = or-none (p y) (any p l) e in
    rw (none (q y) refl n.0, any-less p q l (λ z m. h z (member-tail z y l m)) n.1)
  where
    none : (b : Bool) → q y ≡ b → p y ≡ false → b ≡ false
    none true f g = sym (h y (member-head y l) f) ∙ g
    none false f g = refl

pub run-below : (n k : ℕ) → member k (run 0 n) ≡ true → k < n
run-below n k m = ltb-true k n (all-member (λ x. ltb x n) (run 0 n) k (rw zero-add at (all-run 0 n)) m)
