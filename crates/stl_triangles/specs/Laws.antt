-- A triangle written, and rows of them. Assumes nothing.
use Rattle.std.specs.Prelude.{ℕ, ◌+◌, ◌*◌, ◌≤◌, ◌<◌, ◌≡◌, Bool, true, false, cond, leb}
use Rattle.std.proofs.Common.{arith, sym, ◌∙◌, length-append, le-leb, leb-true}
use Rattle.std.proofs.Math.Path.{refl, ap}
use mathlib.Core.List.{List, [], ◌∷◌, ◌++◌}
use Rattle.std.proofs.Math.ListN.{length}
use Rattle.std.proofs.lemmas.Bool.{lt-leb}
use Rattle.meaning.specs.Lists.{joined}
use Rattle.memory_writes.specs.Put.{over}
use Rattle.memory_writes.specs.Over.{length_over, over_none, over-behind}
use Rattle.image_format.specs.Bytes.{little, words}
use Rattle.stl_format.specs.Stl.{Triangle, triangle_bytes, triangles_bytes}
use Rattle.stl_format.specs.Laws.{triangle-length, triangles-length}
use Rattle.stl_triangles.specs.declared.Spot.{Spot}
use Rattle.stl_triangles.specs.Spots.{spot_of, spot_bytes, fitted, drawn}

-- ---- one triangle

pub spot-length : (o p q : Spot) → length (spot_bytes o p q) ≡ 50
unfolding spot_bytes joined little
spot-length o p q = refl

pub spots-are : (t : Triangle) → spot_bytes (spot_of t.a) (spot_of t.b) (spot_of t.c) ≡ triangle_bytes t
unfolding spot_bytes spot_of triangle_bytes
spots-are t = refl

module _ (o p q : Spot) (at : ℕ) (w : List ℕ) where
  pub too_short : length w < at + 50 → w ≡ fitted at (spot_bytes o p q) w
  unfolding fitted
  too_short h = rw (lt-leb (at + length (spot_bytes o p q)) (length w) (omega (arith, spot-length o p q)))

  abbrev numbers : List ℕ
  numbers = 0 ∷ 0 ∷ 0 ∷ o.x ∷ o.y ∷ o.z ∷ p.x ∷ p.y ∷ p.z ∷ q.x ∷ q.y ∷ q.z ∷ []

  numbers-length : length (words numbers) ≡ 48
  unfolding joined little
  numbers-length = refl

  parts : words numbers ++ little 2 0 ≡ spot_bytes o p q
  unfolding spot_bytes
  parts = refl

  pub enough : at + 50 ≤ length w → over (at + 48) (little 2 0) (over at (words numbers) w) ≡ fitted at (spot_bytes o p q) w
  unfolding fitted
  enough h =
      let n : length (spot_bytes o p q) ≡ 50 = spot-length o p q in
      rw (le-leb (at + length (spot_bytes o p q)) (length w) (omega arith))
      (ap (λ (k : ℕ). over (at + k) (little 2 0) (over at (words numbers) w)) (sym numbers-length) ∙ over-behind at (words numbers) (little 2 0) w (omega (arith, ap length parts)) ∙ ap (λ (a : List ℕ). over at a w) parts)

-- ---- rows of them

pub fitted-length : (at : ℕ) (a w : List ℕ) → length (fitted at a w) ≡ length w
unfolding fitted
fitted-length at a w = by (leb (at + length a) (length w)) refl
  where
    by : (b : Bool) → leb (at + length a) (length w) ≡ b → length (cond b (over at a w) w) ≡ length w
    by true e = length_over at a w (leb-true (at + length a) (length w) e)
    by false e = refl

pub drawn-length : (at : ℕ) (l : List Triangle) (w : List ℕ) → length (drawn at l w) ≡ length w
unfolding drawn
drawn-length at [] w = refl
drawn-length at (t ∷ l) w = drawn-length (at + 50) l (fitted at (triangle_bytes t) w) ∙ fitted-length at (triangle_bytes t) w

pub drawn-both : (at : ℕ) (k l : List Triangle) (w : List ℕ) → drawn at (k ++ l) w ≡ drawn (at + 50 * length k) l (drawn at k w)
unfolding drawn
drawn-both at [] l w = let none : at ≡ at + 50 * 0 = omega arith in ap (λ (n : ℕ). drawn n l w) none
drawn-both at (t ∷ k) l w =
    let next : at + 50 + 50 * length k ≡ at + 50 * length (t ∷ k) = omega arith in
    drawn-both (at + 50) k l (fitted at (triangle_bytes t) w) ∙ ap (λ (n : ℕ). drawn n l (drawn (at + 50) k (fitted at (triangle_bytes t) w))) next

-- where all of them fit
pub drawn-over : (at : ℕ) (l : List Triangle) (w : List ℕ) → at + 50 * length l ≤ length w → drawn at l w ≡ over at (triangles_bytes l) w
unfolding drawn triangles_bytes fitted
drawn-over at [] w h = sym (over_none at w)
drawn-over at (t ∷ l) w h =
    let n : length (triangle_bytes t) ≡ 50 = triangle-length t in
    let r : length (triangles_bytes l) ≡ 50 * length l = triangles-length l in
    let all : length (triangle_bytes t ++ triangles_bytes l) ≡ length (triangle_bytes t) + length (triangles_bytes l) = length-append (triangle_bytes t) (triangles_bytes l) in
    let one : length (over at (triangle_bytes t) w) ≡ length w = length_over at (triangle_bytes t) w (omega arith) in
    rw (le-leb (at + length (triangle_bytes t)) (length w) (omega arith))
    (drawn-over (at + 50) l (over at (triangle_bytes t) w) (omega arith)
    ∙ ap (λ (k : ℕ). over (at + k) (triangles_bytes l) (over at (triangle_bytes t) w)) (sym n)
    ∙ over-behind at (triangle_bytes t) (triangles_bytes l) w (omega arith))
