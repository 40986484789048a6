-- Things numbered where they are first met, and kept in flat lists (W-210). No reader of a public promise needs this file. Definitions only.
use Rattle.std.specs.Prelude.{ℕ, zero, suc, ◌+◌, ◌-◌, ◌*◌, ◌%◌, ◌≤◌, ◌≡◌, Bool, true, cond, List, [], ◌∷◌, map, eqb, leb, ltb, length, get_or, drop, Float}
use Rattle.std.specs.Float.{nan}
use Rattle.float_vectors.specs.declared.vector.Point3.{Point3}
use Rattle.meaning.specs.Lists.{count}
use Rattle.memory_writes.specs.Put.{over}
use Rattle.stl_body.specs.Read.{count_in, stl_triangles, which_of, all_met, corners, Step, step, all_finite}

-- the number of each among those met
unfoldable pub numbers_of : {A : Type 0} → (A → A → Bool) → List A → List ℕ
numbers_of same l = map (λ p. which_of same p (all_met same l)) l

-- the numbers and what was met stand in the fronts of two lists, and n were met
pub record Numbered {A B : Type 0} (same : A → A → Bool) (flat : List A → List B) (l : List A) (c₀ c : List ℕ) (s₀ s : List B) (n : ℕ) : Type 0 where
  pub numbers : c ≡ over 0 (numbers_of same l) c₀
  pub stored : s ≡ over 0 (flat (all_met same l)) s₀
  pub many : n ≡ length (all_met same l)

-- what stands behind a thing that has a number below n, and behind one that is new
abbrev pub unless_known : {A : Type 0} → ℕ → ℕ → A → A → A
unless_known at n old new = cond (ltb at n) old new

-- n things in a flat list, of w entries each
unfoldable pub things_in : {A B : Type 0} → (List B → A) → ℕ → ℕ → List B → List A
things_in one w zero s = []
things_in one w (suc n) s = one s ∷ things_in one w n (drop w s)

abbrev pub point_in : List Float → Point3
point_in s = record { x = get_or s 0 nan; y = get_or s 1 nan; z = get_or s 2 nan }

abbrev pub step_in : List ℕ → Step
step_in s = step (get_or s 0 0) (get_or s 1 0)

-- the corner that follows in its triangle
abbrev pub after : ℕ → ℕ
after k = cond (eqb (k % 3) 2) (k - 2) (k + 1)

-- the step from the k-th corner on, by the corners' numbers
abbrev pub step_at : List ℕ → ℕ → Step
step_at c k = step (get_or c k 0) (get_or c (after k) 0)

-- an edge has at most eight fins
abbrev pub few : List ℕ → ℕ → Bool
few l e = leb (count e l) 8

-- what numbering the corners asks: bytes of n triangles, tested, and room
pub record CornersRead (s : List ℕ) (n : ℕ) (c : List ℕ) (x : List Float) : Type 0 where
  pub counted : n ≡ count_in s
  pub long : length s ≡ 84 + 50 * n
  pub finite : all_finite (corners (stl_triangles s)) ≡ true
  pub small : n ≤ 512
  pub numbers-long : 3 * n ≤ length c
  pub points-long : 9 * n ≤ length x

pub record StepsRead (c : List ℕ) (n : ℕ) (e d : List ℕ) : Type 0 where
  pub small : n ≤ 512
  pub numbers-long : 3 * n ≤ length c
  pub edges-long : 3 * n ≤ length e
  pub ends-long : 6 * n ≤ length d
