-- Closed lists and what is made of their neighbours, one more at a time. Assumes nothing.
use Prim.Native.Nat.{ℕ, zero, suc, ◌+◌, ◌≤◌, ◌<◌}
use Rattle.std.proofs.Common.{arith, add-one, sym, ◌∙◌, length-append, take_all}
use Rattle.std.specs.Prelude.{◌≡◌, ℤ, pos, ◌+ℤ◌, length, get_or, take}
use Rattle.std.proofs.Math.Path.{refl, ap}
use mathlib.Core.List.{List, [], ◌∷◌, ◌++◌, map}
use Rattle.std.proofs.Math.IntN.{+ℤ_assoc, +ℤ_idl, +ℤ_idr}
use Rattle.std.proofs.Math.ListN.{get_or-append}
use Rattle.std.proofs.Math.Seq.{get_or-append_seam}
use Rattle.geom_lines_planes.specs.Refuse.{◌then◌}
use Rattle.meaning.specs.Refuse.{first_refusal}
use Rattle.meaning_list_laws.specs.Tests.{then-none, then-assoc}
use Rattle.meaning_slabs.specs.Slabs.{steps, closed, sumℤ}

-- ---- a closed list

module _ {A : Type 0} (d : A) where
  pub closed-length : (l : List A) → 0 < length l → length (closed l) ≡ suc (length l)
  closed-length [] h = absurd (omega arith)
  closed-length (x ∷ l) h = omega (arith, length-append l (x ∷ []))

  pub closed-short : (l : List A) → length (closed l) ≤ suc (length l)
  closed-short [] = omega arith
  closed-short (x ∷ l) = omega (arith, length-append l (x ∷ []))

  pub closed_at : (l : List A) (k : ℕ) → k < length l → get_or (closed l) k d ≡ get_or l k d
  closed_at [] k h = absurd (omega arith)
  closed_at (x ∷ l) k h = get_or-append (x ∷ l) (x ∷ []) d k h

  pub closed-last : (l : List A) (k : ℕ) → k < length l → length l ≤ k + 1 → get_or (closed l) (k + 1) d ≡ get_or l 0 d
  closed-last [] k h g = absurd (omega arith)
  closed-last (x ∷ l) k h g =
      let e : k + 1 ≡ length (x ∷ l) = omega arith in
      ap (λ i. get_or ((x ∷ l) ++ (x ∷ [])) i d) e ∙ get_or-append_seam (x ∷ l) x [] d

-- ---- one neighbour more

module _ {A B : Type 0} (f : A → A → B) where
  more : (d : A) (l : List A) (k : ℕ) → suc k < length l → steps f (take (suc (suc k)) l) ≡ steps f (take (suc k) l) ++ (f (get_or l k d) (get_or l (suc k) d) ∷ [])
  unfolding steps
  more d [] k h = absurd (omega arith)
  more d (p ∷ []) k h = absurd (omega arith)
  more d (p ∷ q ∷ l) zero h = refl
  more d (p ∷ q ∷ l) (suc k) h = ap (λ t. f p q ∷ t) (more d (q ∷ l) k (omega arith))

  pub steps-none : (l : List A) → steps f (take 1 l) ≡ []
  unfolding steps
  steps-none [] = refl
  steps-none (p ∷ l) = refl

  pub steps-turn : (d : A) (l : List A) (k : ℕ) → k + 1 < length l → steps f (take (suc (k + 1)) l) ≡ steps f (take (suc k) l) ++ (f (get_or l k d) (get_or l (k + 1) d) ∷ [])
  steps-turn d l k h = rw add-one (more d l k (omega arith))

-- of the entries' images
module _ {A B C : Type 0} (f : B → B → C) (g : A → B) where
  steps_map : (l : List A) → steps f (map g l) ≡ steps (λ p q. f (g p) (g q)) l
  unfolding steps
  steps_map [] = refl
  steps_map (p ∷ []) = refl
  steps_map (p ∷ q ∷ l) = ap (λ t. f (g p) (g q) ∷ t) (steps_map (q ∷ l))

  map_snoc : (l : List A) (x : A) → map g (l ++ (x ∷ [])) ≡ map g l ++ (g x ∷ [])
  map_snoc [] x = refl
  map_snoc (y ∷ l) x = ap (λ t. g y ∷ t) (map_snoc l x)

  map-closed : (l : List A) → closed (map g l) ≡ map g (closed l)
  map-closed [] = refl
  map-closed (x ∷ l) = ap (λ t. g x ∷ t) (sym (map_snoc l x))

  pub steps-closed : (l : List A) → steps f (closed (map g l)) ≡ steps (λ p q. f (g p) (g q)) (closed l)
  steps-closed l = ap (steps f) (map-closed l) ∙ steps_map (closed l)

-- ---- their first that is not 0, and their sum

first-snoc : (l : List ℕ) (n : ℕ) → first_refusal (l ++ (n ∷ [])) ≡ (first_refusal l then n)
unfolding first_refusal
first-snoc [] n = then-none n
first-snoc (k ∷ l) n = ap (λ t. k then t) (first-snoc l n) ∙ sym (then-assoc k (first_refusal l) n)

pub sum-snoc : (l : List ℤ) (z : ℤ) → sumℤ (l ++ (z ∷ [])) ≡ sumℤ l +ℤ z
unfolding sumℤ
sum-snoc [] z = +ℤ_idr z ∙ sym (+ℤ_idl z)
sum-snoc (y ∷ l) z = ap (λ t. y +ℤ t) (sum-snoc l z) ∙ sym (+ℤ_assoc y (sumℤ l) z)

-- a turn of a loop over the fins of a loop, each with the next; where it begins and where it ends
module _ (l : List ℕ) where
  all_of : (k : ℕ) → length l ≤ k → take (suc k) (closed l) ≡ closed l
  all_of k h = take_all (suc k) (closed l) (omega (arith, closed-short 0 l))

  room : (k : ℕ) → k < length l → k + 1 < length (closed l)
  room k h = omega (arith, closed-length 0 l (omega arith))

  module _ (f : ℕ → ℕ → ℕ) where
    pub first-none : 0 ≡ first_refusal (steps f (take 1 (closed l)))
    unfolding first_refusal
    first-none = rw (steps-none f (closed l))

    pub first-turn : (k i j n t r : ℕ) → k < length l → n ≡ first_refusal (steps f (take (suc k) (closed l))) → i ≡ get_or l k 0 → j ≡ get_or (closed l) (k + 1) 0 → t ≡ f i j → r ≡ (n then t)
        → r ≡ first_refusal (steps f (take (suc (k + 1)) (closed l)))
    first-turn k i j n t r h e ei ej et er =
        er
        ∙ ap (λ a. a then t) e
        ∙ ap (λ a. first_refusal (steps f (take (suc k) (closed l))) then a) (et ∙ ap (λ a. f a j) (ei ∙ sym (closed_at 0 l k h)) ∙ ap (f (get_or (closed l) k 0)) ej)
        ∙ sym (first-snoc (steps f (take (suc k) (closed l))) (f (get_or (closed l) k 0) (get_or (closed l) (k + 1) 0)))
        ∙ ap first_refusal (sym (steps-turn f 0 (closed l) k (room k h)))

    pub first_done : (k n : ℕ) → length l ≤ k → n ≡ first_refusal (steps f (take (suc k) (closed l))) → n ≡ first_refusal (steps f (closed l))
    first_done k n h e = e ∙ ap (λ a. first_refusal (steps f a)) (all_of k h)

  module _ (f : ℕ → ℕ → ℤ) where
    pub sum-none : pos 0 ≡ sumℤ (steps f (take 1 (closed l)))
    unfolding sumℤ
    sum-none = rw (steps-none f (closed l))

    pub sum-turn : (k i j : ℕ) (z t r : ℤ) → k < length l → z ≡ sumℤ (steps f (take (suc k) (closed l))) → i ≡ get_or l k 0 → j ≡ get_or (closed l) (k + 1) 0 → t ≡ f i j → r ≡ z +ℤ t
        → r ≡ sumℤ (steps f (take (suc (k + 1)) (closed l)))
    sum-turn k i j z t r h e ei ej et er =
        er
        ∙ ap (λ a. a +ℤ t) e
        ∙ ap (λ a. sumℤ (steps f (take (suc k) (closed l))) +ℤ a) (et ∙ ap (λ a. f a j) (ei ∙ sym (closed_at 0 l k h)) ∙ ap (f (get_or (closed l) k 0)) ej)
        ∙ sym (sum-snoc (steps f (take (suc k) (closed l))) (f (get_or (closed l) k 0) (get_or (closed l) (k + 1) 0)))
        ∙ ap sumℤ (sym (steps-turn f 0 (closed l) k (room k h)))

    pub sum_done : (k : ℕ) (z : ℤ) → length l ≤ k → z ≡ sumℤ (steps f (take (suc k) (closed l))) → z ≡ sumℤ (steps f (closed l))
    sum_done k z h e = e ∙ ap (λ a. sumℤ (steps f a)) (all_of k h)
