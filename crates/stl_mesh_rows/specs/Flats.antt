-- The flat lists of a mesh, entry by entry. Assumes nothing.
use Rattle.std.specs.Prelude.{ℕ, zero, suc, ◌+◌, ◌*◌, ◌/◌, ◌-◌, ◌≤◌, ◌<◌, ◌≡◌, refl, Bool, true, false, cond, List, [], ◌∷◌, ◌++◌, eqb, length, get_or, take, drop, set}
use Rattle.std.proofs.Common.{add-zero, arith, sym, ap, ap₂, ◌∙◌, append_assoc, append-nil, lit<, length-append, length-take-le, take-suc, take-add, take-suc-set, get_or-drop, eq-eqb, ne_eqb}
use Rattle.std.proofs.Math.Nat.{mul-add-div, div-eq_of_lt}
use Rattle.std.proofs.Math.Seq.{take-set-lt}
use Rattle.memory_layout.specs.Layout.{word}
use Rattle.stl_body.specs.Read.{Step, step, fins_on}
use Rattle.stl_body.specs.Flat.{steps_in}
use Rattle.stl_rows.specs.Rows.{appended_words, words_behind, fin_words}
use Rattle.stl_rows.specs.Facts.{Space, Grown, Below, next_corner, corner_row, flat_fin_row}
use Rattle.stl_rows.specs.Laws.{grown-none, grown-more, grown-batch}

-- ---- the steps of the triangles

pub steps-at : (n j q : ℕ) (c : List ℕ) → j < n → q < 3 → get_or (steps_in n c) (3 * j + q) (step 0 0) ≡ step (word c (3 * j + q)) (word c (3 * j + next_corner q))
unfolding steps_in
steps-at zero j q c h g = absurd (omega arith)
steps-at (suc n) zero zero c h g = refl
steps-at (suc n) zero (suc zero) c h g = refl
steps-at (suc n) zero (suc (suc zero)) c h g = refl
steps-at (suc n) zero (suc (suc (suc q))) c h g = absurd (omega arith)
steps-at (suc n) (suc j) q c h g =
    rw (three q, three (next_corner q))
    (steps-at n j q (drop 3 c) (omega arith) g ∙ ap₂ step (behind (3 * j + q)) (behind (3 * j + next_corner q)))
  where
    three : (q : ℕ) → 3 * suc j + q ≡ suc (suc (suc (3 * j + q)))
    three q = omega arith

    behind : (i : ℕ) → word (drop 3 c) i ≡ word c (suc (suc (suc i)))
    behind i = let e : 3 + i ≡ suc (suc (suc i)) = omega arith in get_or-drop 3 c i 0 ∙ ap (word c) e

-- the triangle of a fin
pub its-triangle : (j q : ℕ) → q < 3 → (3 * j + q) / 3 ≡ j
its-triangle j q h = mul-add-div (lit< tt) j q ∙ ap (λ n. j + n) (div-eq_of_lt h) ∙ add-zero j

-- a triangle's fins are the next three
pub corner-is : (first edge n : ℕ) (numbers edges : List ℕ) (j q : ℕ) → j < n → q < 3
    → corner_row (first + j) edge numbers edges (3 * j) q ≡ flat_fin_row first edge n numbers edges (3 * j + q)
corner-is first edge n numbers edges j q h g =
    ap₂ (λ (i : ℕ) (s : Step). fin_words (first + i) (edge + word edges (3 * j + q)) s) (sym (its-triangle j q g)) (sym (steps-at n j q numbers h g))

module _ (room w₀ : List ℕ) (owner edge : ℕ) (numbers edges : List ℕ) (at : ℕ) (s : Space room w₀ 5 3) where
  pub first-fin : (v : List ℕ) → v ≡ appended_words room 5 (fin_words owner (edge + word edges at) (step (word numbers at) (word numbers (at + 1)))) w₀
      → Grown room 5 (corner_row owner edge numbers edges at) w₀ v 1
  first-fin v e =
      grown-more room 5 (corner_row owner edge numbers edges at) w₀ 3 0 w₀ v _ s (grown-none room 5 (corner_row owner edge numbers edges at) w₀) (omega arith)
      (ap (λ n. fin_words owner (edge + word edges n) (step (word numbers n) (word numbers (at + 1)))) (sym (add-zero at))) (omega arith) e

  pub second-fin : (w v : List ℕ) → Grown room 5 (corner_row owner edge numbers edges at) w₀ w 1
      → v ≡ appended_words room 5 (fin_words owner (edge + word edges (at + 1)) (step (word numbers (at + 1)) (word numbers (at + 2)))) w
      → Grown room 5 (corner_row owner edge numbers edges at) w₀ v 2
  second-fin w v g e = grown-more room 5 (corner_row owner edge numbers edges at) w₀ 3 1 w v _ s g (omega arith) refl (omega arith) e

  pub third-fin : (w v : List ℕ) → Grown room 5 (corner_row owner edge numbers edges at) w₀ w 2
      → v ≡ appended_words room 5 (fin_words owner (edge + word edges (at + 2)) (step (word numbers (at + 2)) (word numbers at))) w
      → Grown room 5 (corner_row owner edge numbers edges at) w₀ v 3
  third-fin w v g e =
      grown-more room 5 (corner_row owner edge numbers edges at) w₀ 3 2 w v _ s g (omega arith)
      (ap (λ n. fin_words owner (edge + word edges (at + 2)) (step (word numbers (at + 2)) (word numbers n))) (sym (add-zero at))) (omega arith) e

-- one triangle more
pub triangle-more : (room w₀ : List ℕ) (first edge n : ℕ) (numbers edges : List ℕ) (j : ℕ) (w v : List ℕ) → Space room w₀ 5 (3 * n) → j < n
    → Grown room 5 (flat_fin_row first edge n numbers edges) w₀ w (3 * j) → v ≡ words_behind room 5 (corner_row (first + j) edge numbers edges (3 * j)) 3 w
    → Grown room 5 (flat_fin_row first edge n numbers edges) w₀ v (3 * (j + 1))
triangle-more room w₀ first edge n numbers edges j w v s h g e =
    let m : 3 * (j + 1) ≡ 3 * j + 3 = omega arith in
    rw (m, e)
    (grown-batch room 5 (flat_fin_row first edge n numbers edges) w₀ (3 * n) (3 * j) 3 w (corner_row (first + j) edge numbers edges (3 * j)) s g (omega arith)
    (λ q b. corner-is first edge n numbers edges j q h b) (λ q b. omega arith))

pub below-front : (l : List ℕ) (m i n : ℕ) → Below l m n → i ≤ m → Below l i n
below-front l m i n b h = record { long = let a = b.long in omega arith; below = λ j g. b.below j (omega arith) }

-- ---- the fins of an edge, one entry more

fins-behind : (e u x : ℕ) (l : List ℕ) → fins_on e u (l ++ (x ∷ [])) ≡ fins_on e u l ++ cond (eqb e x) ((u + length l) ∷ []) []
unfolding fins_on
fins-behind e u x [] = ap (λ n. cond (eqb e x) (n ∷ []) []) (sym (add-zero u))
fins-behind e u x (y ∷ l) =
    let n : suc u + length l ≡ u + suc (length l) = omega arith in
    let rest : fins_on e (suc u) (l ++ (x ∷ [])) ≡ fins_on e (suc u) l ++ cond (eqb e x) ((u + suc (length l)) ∷ []) [] =
    fins-behind e (suc u) x l ∙ ap (λ i. fins_on e (suc u) l ++ cond (eqb e x) (i ∷ []) []) n in
    by (eqb e y) (fins_on e (suc u) (l ++ (x ∷ []))) (fins_on e (suc u) l) (cond (eqb e x) ((u + suc (length l)) ∷ []) []) rest
  where
    by : (b : Bool) (r s t : List ℕ) → r ≡ s ++ t → cond b (u ∷ r) r ≡ cond b (u ∷ s) s ++ t
    by true r s t h = ap (λ k. u ∷ k) h
    by false r s t h = h

pub fins-turn : (e u : ℕ) (l : List ℕ) (j : ℕ) → j < length l → fins_on e u (take (j + 1) l) ≡ fins_on e u (take j l) ++ cond (eqb e (word l j)) ((u + j) ∷ []) []
fins-turn e u l j h =
    let m : j + 1 ≡ suc j = omega arith in
    ap (λ i. fins_on e u (take i l)) m
    ∙ ap (fins_on e u) (take-suc l j 0 h)
    ∙ fins-behind e u (word l j) (take j l)
    ∙ ap (λ i. fins_on e u (take j l) ++ cond (eqb e (word l j)) ((u + i) ∷ []) []) (length-take-le j l (omega arith))

-- a front has no more of them
fins-front : (e u : ℕ) (l r : List ℕ) → length (fins_on e u l) ≤ length (fins_on e u (l ++ r))
unfolding fins_on
fins-front e u [] r = omega arith
fins-front e u (y ∷ l) r = by (eqb e y) (fins_on e (suc u) l) (fins_on e (suc u) (l ++ r)) (fins-front e (suc u) l r)
  where
    by : (b : Bool) (s t : List ℕ) → length s ≤ length t → length (cond b (u ∷ s) s) ≤ length (cond b (u ∷ t) t)
    by true s t h = omega arith
    by false s t h = h

pub fins-fewer : (e u : ℕ) (l : List ℕ) (j d : ℕ) → length (fins_on e u (take j l)) ≤ length (fins_on e u (take (j + d) l))
fins-fewer e u l j d = rw (take-add j d l) (fins-front e u (take j l) (take d (drop j l)))

-- the row of an edge, its count stored behind its fins
pub edge-row-is : (row : List ℕ) (start end : ℕ) (fins : List ℕ) (c : ℕ) → take (8 + c) row ≡ 1 ∷ start ∷ 1 ∷ end ∷ 0 ∷ 0 ∷ 0 ∷ 0 ∷ fins
    → take (8 + c) (set row 7 c) ≡ 1 ∷ start ∷ 1 ∷ end ∷ 0 ∷ 0 ∷ 0 ∷ c ∷ fins
edge-row-is row start end fins c e = take-set-lt (8 + c) row 7 c (omega arith) ∙ ap (λ l. set l 7 c) e

-- one fin more behind the others
pub fin-stored : (row head fins : List ℕ) (c v : ℕ) → 8 + c < length row → take (8 + c) row ≡ head ++ fins → take (8 + (c + 1)) (set row (8 + c) v) ≡ head ++ (fins ++ (v ∷ []))
fin-stored row head fins c v h e =
    let m : 8 + (c + 1) ≡ suc (8 + c) = omega arith in
    ap (λ i. take i (set row (8 + c) v)) m ∙ take-suc-set row (8 + c) v h ∙ ap (λ l. l ++ (v ∷ [])) e ∙ append_assoc head fins (v ∷ [])

-- an entry that is a fin of the edge, and one that is none
pub fin-met : (k fin : ℕ) (edges : List ℕ) (j c : ℕ) (row head : List ℕ) → word edges j ≡ k → j < length edges → c ≡ length (fins_on k fin (take j edges)) → 8 + c < length row
    → take (8 + c) row ≡ head ++ fins_on k fin (take j edges)
    → (c + 1 ≡ length (fins_on k fin (take (j + 1) edges))) × (take (8 + (c + 1)) (set row (8 + c) (fin + j)) ≡ head ++ fins_on k fin (take (j + 1) edges))
fin-met k fin edges j c row head e h n long so_far =
    let turn : fins_on k fin (take (j + 1) edges) ≡ fins_on k fin (take j edges) ++ ((fin + j) ∷ []) =
    fins-turn k fin edges j h ∙ ap (λ b. fins_on k fin (take j edges) ++ cond b ((fin + j) ∷ []) []) (eq-eqb k (word edges j) (sym e)) in
    let many = ap length turn ∙ length-append (fins_on k fin (take j edges)) ((fin + j) ∷ []) in
    (omega arith, fin-stored row head (fins_on k fin (take j edges)) c (fin + j) long so_far ∙ ap (λ l. head ++ l) (sym turn))

pub fin-passed : (k fin : ℕ) (edges : List ℕ) (j : ℕ) → (word edges j ≡ k → ⊥) → j < length edges → fins_on k fin (take (j + 1) edges) ≡ fins_on k fin (take j edges)
fin-passed k fin edges j e h =
    fins-turn k fin edges j h ∙ ap (λ b. fins_on k fin (take j edges) ++ cond b ((fin + j) ∷ []) []) (ne_eqb k (word edges j) (λ d. e (sym d))) ∙ append-nil (fins_on k fin (take j edges))

-- there is room for one more, since the edge has no ninth
pub fin-fits : (k fin : ℕ) (edges : List ℕ) (j m : ℕ) → word edges j ≡ k → j < m → m ≤ length edges → length (fins_on k fin (take m edges)) ≤ 8 → length (fins_on k fin (take j edges)) < 8
fin-fits k fin edges j m e h long eight =
    let turn = ap length (fins-turn k fin edges j (omega arith) ∙ ap (λ b. fins_on k fin (take j edges) ++ cond b ((fin + j) ∷ []) []) (eq-eqb k (word edges j) (sym e))) ∙ length-append (fins_on k fin (take j edges)) ((fin + j) ∷ []) in
    let i : j + 1 + (m - (j + 1)) ≡ m = omega arith in
    let fewer : length (fins_on k fin (take (j + 1) edges)) ≤ length (fins_on k fin (take m edges)) = rw i at (fins-fewer k fin edges (j + 1) (m - (j + 1))) in
    omega arith
