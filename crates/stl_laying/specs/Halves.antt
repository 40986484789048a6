-- The tables laid one after the other: what each finds. Assumes nothing.
use Prim.Native.Nat.{ℕ, zero, suc, ◌+◌, ◌*◌, ◌≤◌, ◌<◌}
use native.Mathlib.Omega.{arith}
use Rattle.std.specs.Prelude.{◌≡◌, List, length}
use Rattle.std.proofs.Math.Path.{refl}
use Rattle.std.proofs.Common.{◌∙◌}
use Rattle.meaning_list_laws.specs.Lists.{length_run}
use Rattle.memory_layout.specs.Layout.{word_strides, word}
use Rattle.stl_rows.specs.Rows.{appended_words, words_behind, body_row, region_row, shell_row, face_row, loop_row}
use Rattle.stl_rows.specs.Facts.{Space, Grown, Upper, Lower, Passed, flat_fin_row, flat_edge_row, upper_words}
use Rattle.stl_rows.specs.Laws.{appended-else, grown-none, grown-space, grown-more, body-length, loop-length}

-- what n records behind the others leave
pub record Behind (k n : ℕ) (w v : List ℕ) : Type 0 where
  pub long : length v ≡ length w
  pub count : word v k ≡ word w k + n
  pub else : (q : ℕ) → q < 11 → (q ≡ k → ⊥) → word v q ≡ word w q

module _ (room : List ℕ) (k : ℕ) (row : ℕ → List ℕ) (w : List ℕ) (n : ℕ) (s : Space room w k n) (short : (j : ℕ) → j < n → length (row j) ≤ word word_strides k) where
  pub grown-all : (i : ℕ) → i ≤ n → Grown room k row w (words_behind room k row i w) i
  unfolding words_behind
  grown-all zero h = grown-none room k row w
  grown-all (suc i) h =
      let e : i + 1 ≡ suc i = omega arith in
      rw e at (grown-more room k row w n i (words_behind room k row i w) (appended_words room k (row i) (words_behind room k row i w)) (row i) s (grown-all i (omega arith)) (omega arith) refl (short i (omega arith)) refl)

  others : (i : ℕ) → i ≤ n → (q : ℕ) → q < 11 → (q ≡ k → ⊥) → word (words_behind room k row i w) q ≡ word w q
  unfolding words_behind
  others zero h q b e = refl
  others (suc i) h q b e =
      appended-else room (words_behind room k row i w) (row i) k (grown-space room k row w n i (words_behind room k row i w) s (grown-all i (omega arith)) (omega arith)) (short i (omega arith)) q b e
      ∙ others i (omega arith) q b e

  pub behind : Behind k n w (words_behind room k row n w)
  behind =
      let g = grown-all n (omega arith) in
      record { long = g.long; count = g.count; else = others n (omega arith) }

-- ---- table after table

pub passed_none : (m : ℕ) (w : List ℕ) → Passed m w w
passed_none m w = record { long = refl; rest = λ q h b. refl }

pub passed-next : (room : List ℕ) (k : ℕ) (row : ℕ → List ℕ) (w₀ w v : List ℕ) (n : ℕ) → Passed k w₀ w → Space room w k n → ((j : ℕ) → j < n → length (row j) ≤ word word_strides k)
    → v ≡ words_behind room k row n w → Passed (suc k) w₀ v
passed-next room k row w₀ w v n p s short e =
    let b = behind room k row w n s short in
    rw e (record { long = b.long ∙ p.long; rest = λ q h g. b.else q g (λ d. omega arith) ∙ p.rest q (omega arith) g })

pub passed-space : (room : List ℕ) (m : ℕ) (w₀ w : List ℕ) (k n : ℕ) → Passed m w₀ w → Space room w₀ k n → m ≤ k → Space room w k n
passed-space room m w₀ w k n p s h =
    let t = s.table in
    let l = p.long in
    let c = p.rest k h (omega arith) in
    record { small = s.small; words = omega (arith, s.words); long = omega (arith, s.long); table = t; slots = omega (arith, s.slots); few = s.few }

module _ (room w : List ℕ) (o n : ℕ) (u : Upper room w n) where
  pub laid-1 : (v : List ℕ) → v ≡ words_behind room 0 (body_row o (word w 1)) 1 w → Passed 1 w v
  laid-1 v e = passed-next room 0 (body_row o (word w 1)) w w v 1 (passed_none 0 w) u.bodies (λ j h. let l = body-length o (word w 1) j in omega arith) e

  pub laid-2 : (v v' : List ℕ) → Passed 1 w v → v' ≡ words_behind room 1 (region_row (word w 0) (word w 2)) 2 v → Passed 2 w v'
  laid-2 v v' p e = passed-next room 1 (region_row (word w 0) (word w 2)) w v v' 2 p (passed-space room 1 w v 1 2 p u.regions (omega arith)) (λ j h. omega arith) e

  pub laid-3 : (v v' : List ℕ) → Passed 2 w v → v' ≡ words_behind room 2 (shell_row (word w 1) (word w 3) n) 2 v → Passed 3 w v'
  laid-3 v v' p e =
      passed-next room 2 (shell_row (word w 1) (word w 3) n) w v v' 2 p (passed-space room 2 w v 2 2 p u.shells (omega arith))
      (λ j h. let l = length_run (word w 3) n in omega (arith, u.shell)) e

  pub laid-4 : (v v' : List ℕ) → Passed 3 w v → v' ≡ words_behind room 3 (face_row (word w 2) (word w 4)) n v → Passed 4 w v'
  laid-4 v v' p e = passed-next room 3 (face_row (word w 2) (word w 4)) w v v' n p (passed-space room 3 w v 3 n p u.faces (omega arith)) (λ j h. omega arith) e

  pub laid-5 : (v v' : List ℕ) → Passed 4 w v → v' ≡ words_behind room 4 (loop_row (word w 3) (word w 5)) n v → Passed 5 w v'
  laid-5 v v' p e =
      passed-next room 4 (loop_row (word w 3) (word w 5)) w v v' n p (passed-space room 4 w v 4 n p u.loops (omega arith)) (λ j h. let l = loop-length (word w 3) (word w 5) j in omega arith) e

  pub upper-passed : (v : List ℕ) → v ≡ upper_words room w o n → Passed 5 w v
  upper-passed v e = laid-5 _ v (laid-4 _ _ (laid-3 _ _ (laid-2 _ _ (laid-1 _ refl) refl) refl) refl) e

module _ (room w : List ℕ) (first n v e : ℕ) (numbers edges ends : List ℕ) (l : Lower room w n v e numbers edges ends) where
  pub laid-6 : (y : List ℕ) → y ≡ words_behind room 5 (flat_fin_row first (word w 6) n numbers edges) (3 * n) w → Passed 6 w y
  laid-6 y h = passed-next room 5 (flat_fin_row first (word w 6) n numbers edges) w w y (3 * n) (passed_none 5 w) l.fins (λ j g. omega arith) h

  pub laid-7 : (y y' : List ℕ) → Passed 6 w y → y' ≡ words_behind room 6 (flat_edge_row (word w 7) (word w 5) n edges ends) e y → Passed 7 w y'
  laid-7 y y' p h =
      passed-next room 6 (flat_edge_row (word w 7) (word w 5) n edges ends) w y y' e p (passed-space room 6 w y 6 e p l.edges (omega arith))
      (λ j g. let b = l.eight.eight j (word w 5) g in omega arith) h

-- the upper half leaves the lower what it asks
pub lower-stays : (room w w' : List ℕ) (n v e : ℕ) (numbers edges ends : List ℕ) → Passed 5 w w' → Lower room w n v e numbers edges ends → Lower room w' n v e numbers edges ends
lower-stays room w w' n v e numbers edges ends p l =
    record {
      fins = passed-space room 5 w w' 5 (3 * n) p l.fins (omega arith);
      edges = passed-space room 5 w w' 6 e p l.edges (omega arith);
      vertices = passed-space room 5 w w' 7 v p l.vertices (omega arith);
      corners = l.corners;
      numbered = l.numbered;
      ends = l.ends;
      eight = l.eight;
    }
