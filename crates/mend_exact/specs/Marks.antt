-- Each record has a mark of its own. Assumes nothing.
use Rattle.std.specs.Prelude.{ℕ, ◌+◌, ◌≤◌, ◌<◌, ◌≡◌, refl, Bool, true, false, cond, ◌&&◌, List, [], ◌∷◌, eqb, leb, ltb, length, set}
use Rattle.std.proofs.Common.{arith, ap, ◌∙◌, get_or-set_same, get_or-set_other, leb-true, leb-false, eqb-true, lt-ltb}
use Rattle.std.proofs.lemmas.Bool.{eqb-false}
use Rattle.meaning.specs.Lists.{all_below}
use Rattle.meaning_list_laws.specs.Tests.{and_both, all_below-at}
use Rattle.memory_layout.specs.Layout.{word}
use Rattle.mend_meetings.specs.Machine.{mark_places, mark_at, MARKS}

-- how many marks a table has
abbrev pub mark_rooms : List ℕ
mark_rooms = 0 ∷ 128 ∷ 128 ∷ 0 ∷ 512 ∷ 4096 ∷ 2048 ∷ []

abbrev pub mark : List ℕ → ℕ → ℕ → ℕ
mark s k i = word s (mark_at k i)

pub record Low (k i : ℕ) : Type 0 where
  pub table : k < 7
  pub slot : i < word mark_rooms k

-- the marks of a table end before those of a later one begin
abbrev ends : ℕ → ℕ → Bool
ends j k = cond (ltb k j && ltb 0 (word mark_rooms j)) (leb (word mark_places k + word mark_rooms k) (word mark_places j)) true

before : (k i j l : ℕ) → Low k i → Low j l → k < j → mark_at k i < mark_at j l
before k i j l a b h = omega (arith, leb-true (word mark_places k + word mark_rooms k) (word mark_places j) apart, a.slot)
  where
    some : 0 < word mark_rooms j
    some = omega (arith, b.slot)

    told : ends j k ≡ true
    told = all_below-at (ends j) 7 k (all_below-at (λ y. all_below (ends y) 7) 7 j (unfold all_below in refl) b.table) a.table

    apart : leb (word mark_places k + word mark_rooms k) (word mark_places j) ≡ true
    apart = rw (lt-ltb k j h, lt-ltb 0 (word mark_rooms j) some) at told

apart : (k i j l : ℕ) → Low k i → Low j l → (eqb j k && eqb l i) ≡ false → mark_at j l ≡ mark_at k i → ⊥
apart k i j l a b h q = by (eqb j k) (leb j k) refl refl h
  where
    by : (x y : Bool) → eqb j k ≡ x → leb j k ≡ y → (x && eqb l i) ≡ false → ⊥
    by true y e f g = eqb-false l i g (omega (arith, ap (word mark_places) (eqb-true j k e)))
    by false true e f g = let less : j < k = omega (arith, eqb-false j k e, leb-true j k f) in omega (arith, before j l k i b a less)
    by false false e f g = omega (arith, before k i j l a b (leb-false j k f))

pub below : (k i : ℕ) → Low k i → mark_at k i < MARKS
below k i a = omega (arith, a.slot, leb-true (word mark_places k + word mark_rooms k) MARKS (all_below-at (λ j. leb (word mark_places j + word mark_rooms j) MARKS) 7 k (unfold all_below in refl) a.table))

-- what a mark is behind the setting of one
pub mark_set : (s : List ℕ) (k i j l v : ℕ) → MARKS ≤ length s → Low k i → Low j l → mark (set s (mark_at k i) v) j l ≡ cond (eqb j k && eqb l i) v (mark s j l)
mark_set s k i j l v long a b = by (eqb j k && eqb l i) refl
  where
    by : (x : Bool) → (eqb j k && eqb l i) ≡ x → mark (set s (mark_at k i) v) j l ≡ cond x v (mark s j l)
    by true e =
        let both = and_both (eqb j k) (eqb l i) e in
        let here : mark_at j l ≡ mark_at k i = omega (arith, ap (word mark_places) (eqb-true j k both.0), eqb-true l i both.1) in
        ap (word (set s (mark_at k i) v)) here ∙ get_or-set_same s (mark_at k i) v 0 (omega (arith, below k i a))
    by false e = get_or-set_other s (mark_at k i) (mark_at j l) v 0 (apart k i j l a b e)
