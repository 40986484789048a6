-- One triangle more, one side more. Assumes nothing.
use Rattle.std.specs.Prelude.{ℕ, zero, suc, ◌+◌, ◌-◌, ◌*◌, ◌≤◌, ◌<◌, ◌≡◌, Bool, ◌&&◌, length, get_or, drop, Float}
use Rattle.std.proofs.Common.{arith, add-one, ap₂, ◌∙◌, length-append, drop_of_length-le, drop-cons}
use Rattle.std.proofs.Math.Path.{refl, sym, ap}
use mathlib.Core.List.{List, [], ◌∷◌, ◌++◌, map, append-nil}
use Rattle.std.proofs.lemmas.List.{length-map}
use Rattle.float_vectors.specs.declared.vector.Point3.{Point3}
use Rattle.meaning.specs.Model.{Model}
use Rattle.meaning.specs.Inquire.{Side}
use Rattle.meaning_list_laws.specs.Tests.{and-true, and_assoc}
use Rattle.meaning_sheets.specs.Sheets.{side_points}
use Rattle.memory_layout.specs.Layout.{words_of}
use Rattle.memory_layout.specs.Decode.{decode}
use Rattle.inquire_fan.specs.Fan.{origin_p, turned}
use Rattle.inquire_fan.specs.Laws.{turned-length}
use Rattle.inquire_fin_starts.specs.Starts.{start_point}
use Rattle.inquire_sides.specs.Sides.{is_at, rim_of}
use Rattle.inquire_weight.specs.Laws.{side-points}
use Rattle.stl_format.specs.Stl.{triangle_bytes, fan_triangles, polygon_triangles, side_triangles, triangles_of, narrow_point, narrow_points, narrow_sides}
use Rattle.stl_format.specs.Laws.{polygon-length, triangles-both, narrow_both}
use Rattle.stl_triangles.specs.declared.Spot.{Spot}
use Rattle.stl_triangles.specs.Spots.{spot_of, spot_bytes, fitted, drawn}
use Rattle.stl_triangles.specs.Laws.{spots-are, drawn-both}
use Rattle.stl_fan.specs.declared.Pen.{Pen}
use Rattle.stl_fan.specs.Pens.{Drawn}

-- ---- the fan

-- one triangle more: p is held, q is the next
pub fan-turn : (o : Point3) (O p q : Spot) (at : ℕ) (l : List Point3) (k : ℕ) (w : List ℕ) → k + 1 < length l → O ≡ spot_of o → p ≡ spot_of (get_or l k origin_p) → q ≡ spot_of (get_or l (k + 1) origin_p)
    → drawn at (fan_triangles o (drop k l)) w ≡ drawn (at + 50) (fan_triangles o (drop (k + 1) l)) (fitted at (spot_bytes O p q) w)
fan-turn o O p q at l k w h d e f =
    ap (λ t. drawn at (fan_triangles o t) w) both
    ∙ one
    ∙ ap₂ (λ t b. drawn (at + 50) (fan_triangles o t) (fitted at b w)) (sym next) (sym (spots-are (record { a = o; b = a; c = b })) ∙ same)
  where
    a : Point3
    a = get_or l k origin_p

    b : Point3
    b = get_or l (k + 1) origin_p

    next : drop (k + 1) l ≡ b ∷ drop (suc (k + 1)) l
    next = drop-cons l (k + 1) origin_p h

    both : drop k l ≡ a ∷ b ∷ drop (suc (k + 1)) l
    both = drop-cons l k origin_p (omega arith) ∙ ap (λ i. a ∷ drop i l) (sym (add-one k)) ∙ ap (λ t. a ∷ t) next

    one : drawn at (fan_triangles o (a ∷ b ∷ drop (suc (k + 1)) l)) w ≡ drawn (at + 50) (fan_triangles o (b ∷ drop (suc (k + 1)) l)) (fitted at (triangle_bytes (record { a = o; b = a; c = b })) w)
    one = unfold fan_triangles drawn in refl

    same : spot_bytes (spot_of o) (spot_of a) (spot_of b) ≡ spot_bytes O p q
    same = ap (λ s. spot_bytes s (spot_of a) (spot_of b)) (sym d) ∙ ap (λ s. spot_bytes O s (spot_of b)) (sym e) ∙ ap (λ s. spot_bytes O p s) (sym f)

pub fan-done : (o : Point3) (at : ℕ) (l : List Point3) (k : ℕ) (w : List ℕ) → length l ≤ k + 1 → drawn at (fan_triangles o (drop k l)) w ≡ w
unfolding fan_triangles drawn
fan-done o at [] zero w h = refl
fan-done o at [] (suc k) w h = refl
fan-done o at (p ∷ []) zero w h = refl
fan-done o at (p ∷ q ∷ l) zero w h = absurd (omega arith)
fan-done o at (p ∷ l) (suc k) w h = fan-done o at l k w (omega arith)

pub polygon-fan : (l : List Point3) → 0 < length l → polygon_triangles l ≡ fan_triangles (get_or l 0 origin_p) (drop 1 l)
unfolding polygon_triangles
polygon-fan [] h = absurd (omega arith)
polygon-fan (p ∷ l) h = refl

-- ---- its coordinates

pub narrow-first : (l : List Point3) (a b : Bool) → 1 < length l → a ≡ narrow_point (get_or l 0 origin_p) → b ≡ narrow_point (get_or l 1 origin_p) → ((a && b) && narrow_points (drop 2 l)) ≡ narrow_points l
unfolding narrow_points
narrow-first [] a b h e f = absurd (omega arith)
narrow-first (p ∷ []) a b h e f = absurd (omega arith)
narrow-first (p ∷ q ∷ l) a b h e f = and_assoc a b (narrow_points l) ∙ ap₂ (λ s t. s && (t && narrow_points l)) e f

pub narrow-turn : (l : List Point3) (k : ℕ) (n b : Bool) → k + 1 < length l → b ≡ narrow_point (get_or l (k + 1) origin_p) → ((n && b) && narrow_points (drop (k + 1 + 1) l)) ≡ (n && narrow_points (drop (k + 1) l))
narrow-turn l k n b h e =
    and_assoc n b (narrow_points (drop (k + 1 + 1) l))
    ∙ ap₂ (λ t i. n && (t && narrow_points (drop i l))) e (add-one (k + 1))
    ∙ ap (λ t. n && t) (sym (ap narrow_points (drop-cons l (k + 1) origin_p h) ∙ one))
  where
    one : narrow_points (get_or l (k + 1) origin_p ∷ drop (suc (k + 1)) l) ≡ (narrow_point (get_or l (k + 1) origin_p) && narrow_points (drop (suc (k + 1)) l))
    one = unfold narrow_points in refl

pub narrow-done : (l : List Point3) (k : ℕ) (n : Bool) → length l ≤ k + 1 → (n && narrow_points (drop (k + 1) l)) ≡ n
narrow-done l k n h = ap (λ t. n && narrow_points t) (drop_of_length-le l {i = k + 1} h) ∙ (unfold narrow_points in and-true n)

-- ---- a side

module _ (room w : List ℕ) (x : List Float) (s f : ℕ) where
  abbrev side : Side
  side = record { shell = s; face = f }

  abbrev points : List Point3
  points = turned (is_at (words_of room w 3 f) 0 s) (map (start_point (decode room w x)) (rim_of room w f))

  points-length : length points ≡ length (rim_of room w f)
  points-length = turned-length (is_at (words_of room w 3 f) 0 s) (map (start_point (decode room w x)) (rim_of room w f)) ∙ length-map (rim_of room w f) (start_point (decode room w x))

  alone : triangles_of (decode room w x) (side ∷ []) ≡ polygon_triangles points
  unfolding triangles_of side_triangles
  alone = append-nil (polygon_triangles (side_points (decode room w x) side)) ∙ ap polygon_triangles (sym (side-points room w x s f))

  narrow-alone : narrow_sides (decode room w x) (side ∷ []) ≡ narrow_points points
  unfolding narrow_sides
  narrow-alone = and-true (narrow_points (side_points (decode room w x) side)) ∙ ap narrow_points (sym (side-points room w x s f))

  pub side-drawn : (t r : Pen) (n : Bool) (v u : List ℕ) → 3 ≤ length (rim_of room w f) → n ≡ narrow_points points → u ≡ drawn (84 + 50 * t.count) (polygon_triangles points) v
      → r.narrow ≡ (t.narrow && n) → r.count ≡ t.count + (length (rim_of room w f) - 2) → Drawn (decode room w x) (side ∷ []) t r v u
  side-drawn t r n v u long e g a b =
      record {
        narrow = a ∙ ap (λ k. t.narrow && k) (e ∙ sym narrow-alone);
        count = b ∙ ap (λ k. t.count + k) (ap (λ k. k - 2) (sym points-length) ∙ sym (polygon-length points) ∙ sym (ap length alone));
        bytes = g ∙ ap (λ l. drawn (84 + 50 * t.count) l v) (sym alone);
      }

-- ---- sides behind sides

module _ (m : Model) where
  pub drawn-none : (t : Pen) (w : List ℕ) → Drawn m [] t t w w
  drawn-none t w =
      record {
        narrow = unfold narrow_sides in sym (and-true t.narrow);
        count = unfold triangles_of in omega arith;
        bytes = unfold triangles_of drawn in refl;
      }

  pub drawn-more : (k l : List Side) {t r q : Pen} {w v u : List ℕ} → Drawn m k t r w v → Drawn m l r q v u → Drawn m (k ++ l) t q w u
  drawn-more k l {t} {r} {q} {w} {v} {u} a b =
      let long : length (triangles_of m (k ++ l)) ≡ length (triangles_of m k) + length (triangles_of m l) = ap length (triangles-both m k l) ∙ length-append (triangles_of m k) (triangles_of m l) in
      let far : 84 + 50 * r.count ≡ 84 + 50 * t.count + 50 * length (triangles_of m k) = omega (arith, a.count) in
      record {
        narrow = b.narrow ∙ ap (λ n. n && narrow_sides m l) a.narrow ∙ and_assoc t.narrow (narrow_sides m k) (narrow_sides m l) ∙ ap (λ n. t.narrow && n) (sym (narrow_both m k l));
        count = omega (arith, a.count, b.count);
        bytes = b.bytes ∙ ap₂ (λ n z. drawn n (triangles_of m l) z) far a.bytes ∙ sym (drawn-both (84 + 50 * t.count) (triangles_of m k) (triangles_of m l) w) ∙ ap (λ z. drawn (84 + 50 * t.count) z w) (sym (triangles-both m k l));
      }
