-- The corners of triangles and the steps between them, by their places. Assumes nothing.
use Rattle.std.specs.Prelude.{ℕ, zero, suc, ◌+◌, ◌-◌, ◌*◌, ◌/◌, ◌%◌, ◌≤◌, ◌<◌, ◌≡◌, Bool, true, false, cond, List, [], ◌∷◌, ◌++◌, map, eqb, length, get_or, take, drop, set, Float}
use Rattle.std.proofs.Common.{add-zero, add-one, arith, sym, ap, ap₂, ◌∙◌, eqb-true, take-suc, drop-drop, get_or-drop}
use Rattle.std.proofs.Math.Path.{refl}
use Rattle.std.proofs.lemmas.Bool.{eqb-false}
use Rattle.std.proofs.lemmas.List.{length-map}
use Rattle.std.proofs.Math.ListN.{get_or-map}
use Rattle.std.proofs.lemmas.List.Edits.{sets-eq}
use Rattle.std.specs.Float.{nan}
use Rattle.float_vectors.specs.declared.vector.Point3.{Point3}
use Rattle.meaning.specs.Lists.{count}
use Rattle.meaning_list_laws.specs.Lists.{count-snoc}
use Rattle.memory_writes.specs.Put.{over}
use Rattle.stl_body.specs.Read.{corner_in, triangle_in, triangles_in, count_in, stl_triangles, corners, step, edge_of}
use Rattle.stl_body.specs.Flat.{steps_in}
use Rattle.stl_body.proofs.Meshes.{corners-length}
use Rattle.stl_body.proofs.Statements.{triangles-length}
use Rattle.stl_corners.specs.Laws.{point}
use Rattle.stl_numbers.specs.Numbered.{point_in, step_in, after, step_at}

-- one more of a list
pub take_more : {A : Type 0} (l : List A) (k : ℕ) (d p : A) → k < length l → get_or l k d ≡ p → take (k + 1) l ≡ take k l ++ (p ∷ [])
take_more l k d p h e = rw add-one (take-suc l k d h ∙ ap (λ a. take k l ++ (a ∷ [])) e)

-- ---- a corner

pub corner-nth : (n k at q : ℕ) (s : List ℕ) (d : Point3) → k < 3 * n → q ≡ at + 12 + 50 * (k / 3) + 12 * (k % 3) → get_or (corners (triangles_in n (drop at s))) k d ≡ corner_in (drop q s)
unfolding corners triangles_in triangle_in
corner-nth zero k at q s d h e = absurd (omega arith)
corner-nth (suc n) zero at q s d h e = let g : at + 12 ≡ q = omega arith in ap corner_in (drop-drop 12 at s ∙ ap (λ m. drop m s) g)
corner-nth (suc n) (suc zero) at q s d h e = let g : at + 24 ≡ q = omega arith in ap corner_in (drop-drop 24 at s ∙ ap (λ m. drop m s) g)
corner-nth (suc n) (suc (suc zero)) at q s d h e = let g : at + 36 ≡ q = omega arith in ap corner_in (drop-drop 36 at s ∙ ap (λ m. drop m s) g)
corner-nth (suc n) (suc (suc (suc k))) at q s d h e =
    ap (λ r. get_or (corners (triangles_in n r)) k d) (drop-drop 50 at s) ∙ corner-nth n k (at + 50) q s d (omega arith) (omega arith)

pub read_length : (s : List ℕ) (n : ℕ) → n ≡ count_in s → length (corners (stl_triangles s)) ≡ 3 * n
unfolding stl_triangles
read_length s n e = corners-length (triangles_in (count_in s) (drop 84 s)) ∙ ap (λ m. 3 * m) (triangles-length (count_in s) (drop 84 s) ∙ sym e)

pub read-nth : (s : List ℕ) (n k q : ℕ) (d : Point3) → n ≡ count_in s → k < 3 * n → q ≡ 96 + 50 * (k / 3) + 12 * (k % 3) → get_or (corners (stl_triangles s)) k d ≡ corner_in (drop q s)
unfolding stl_triangles
read-nth s n k q d e h g = corner-nth (count_in s) k 84 q s d (omega arith) g

-- ---- a step

after-three : (k : ℕ) → after (suc (suc (suc k))) ≡ suc (suc (suc (after k)))
after-three k = go (eqb (k % 3) 2) refl
  where
    again : suc (suc (suc k)) % 3 ≡ k % 3
    again = omega arith

    go : (b : Bool) → eqb (k % 3) 2 ≡ b → after (suc (suc (suc k))) ≡ suc (suc (suc (cond b (k - 2) (k + 1))))
    go true e = let h : k % 3 ≡ 2 = eqb-true (k % 3) 2 e in rw (again, e) (omega arith)
    go false e = rw (again, e) (omega arith)

step-three : (c : List ℕ) (k : ℕ) → step_at (drop 3 c) k ≡ step_at c (suc (suc (suc k)))
step-three c k =
    let e : 3 + k ≡ suc (suc (suc k)) = omega arith in
    let f : 3 + after k ≡ after (suc (suc (suc k))) = let g = after-three k in omega arith in
    ap₂ step (get_or-drop 3 c k 0 ∙ ap (λ i. get_or c i 0) e) (get_or-drop 3 c (after k) 0 ∙ ap (λ i. get_or c i 0) f)

step-nth : (n k : ℕ) (c : List ℕ) → k < 3 * n → get_or (steps_in n c) k (step 0 0) ≡ step_at c k
unfolding steps_in
step-nth zero k c h = absurd (omega arith)
step-nth (suc n) zero c h = refl
step-nth (suc n) (suc zero) c h = refl
step-nth (suc n) (suc (suc zero)) c h = refl
step-nth (suc n) (suc (suc (suc k))) c h = step-nth n k (drop 3 c) (omega arith) ∙ step-three c k

steps-in-length : (n : ℕ) (c : List ℕ) → length (steps_in n c) ≡ 3 * n
unfolding steps_in
steps-in-length zero c = refl
steps-in-length (suc n) c = let h = steps-in-length n (drop 3 c) in omega arith

pub edges-length : (n : ℕ) (c : List ℕ) → length (map edge_of (steps_in n c)) ≡ 3 * n
edges-length n c = length-map (steps_in n c) edge_of ∙ steps-in-length n c

pub edge-nth : (n k : ℕ) (c : List ℕ) → k < 3 * n → get_or (map edge_of (steps_in n c)) k (step 0 0) ≡ edge_of (step_at c k)
edge-nth n k c h = ap (get_or (map edge_of (steps_in n c)) k) flat ∙ get_or-map edge_of (steps_in n c) k (step 0 0) ∙ ap edge_of (step-nth n k c h)
  where
    flat : step 0 0 ≡ edge_of (step 0 0)
    flat = unfold edge_of in refl

pub after-below : (n k : ℕ) → k < 3 * n → after k < 3 * n
after-below n k h = go (eqb (k % 3) 2) refl
  where
    go : (b : Bool) → eqb (k % 3) 2 ≡ b → cond b (k - 2) (k + 1) < 3 * n
    go true e = omega arith
    go false e = omega (arith, eqb-false (k % 3) 2 e)

-- ---- what is read of a flat list

pub entry_first : {A : Type 0} (n : ℕ) (s : List A) (d : A) → get_or (drop n s) 0 d ≡ get_or s n d
entry_first n s d = get_or-drop n s 0 d ∙ ap (λ i. get_or s i d) (add-zero n)

pub point_at : (i : ℕ) (s : List Float) → point (get_or s (3 * i) nan) (get_or s (3 * i + 1) nan) (get_or s (3 * i + 2) nan) ≡ point_in (drop (3 * i) s)
point_at i s = rw (entry_first (3 * i) s nan, get_or-drop (3 * i) s 1 nan, get_or-drop (3 * i) s 2 nan)

pub step-at : (i : ℕ) (s : List ℕ) → step (get_or s (2 * i) 0) (get_or s (2 * i + 1) 0) ≡ step_in (drop (2 * i) s)
step-at i s = rw (entry_first (2 * i) s 0, get_or-drop (2 * i) s 1 0)

-- ---- stores

pub three-stores : {A : Type 0} (l : List A) (at : ℕ) (a b c : A) → at + 3 ≤ length l → set (set (set l at a) (at + 1) b) (at + 2) c ≡ over at (a ∷ b ∷ c ∷ []) l
unfolding over
three-stores l at a b c h =
    let two : at + 2 ≡ suc (suc at) = omega arith in
    ap₂ (λ n m. set (set (set l at a) n b) m c) (add-one at) two ∙ sets-eq (a ∷ b ∷ c ∷ []) l at h

-- ---- how often

pub count-more : (e i : ℕ) (l : List ℕ) → i < length l → count e (take (i + 1) l) ≡ count e (take i l) + cond (eqb e (get_or l i 0)) 1 0
count-more e i l h = ap (count e) (take_more l i 0 (get_or l i 0) h refl) ∙ count-snoc e (take i l) (get_or l i 0)
