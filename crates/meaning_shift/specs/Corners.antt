-- Corners that are all moved by one vector: what it does to a wedge, to a fan and to a polygon. Assumes nothing.
use Rattle.std.proofs.Common.{arith, sym, ap, ap₂, ◌∙◌}
use Rattle.std.specs.Prelude.{◌≡◌, refl, List, [], ◌∷◌, map, ℤ, pos, neg_ℤ, ◌+ℤ◌, ◌-ℤ◌, ◌*ℤ◌}
use Rattle.std.proofs.Math.IntN.{*ℤ_comm, *ℤ-zero, +ℤ_comm, +ℤ_idl, +ℤ_invr}
use Rattle.float_values.specs.Laws.Integers.{sum-parts, diff-parts, neg-parts, same_parts}
use Rattle.meaning_sheets.specs.Sheets.{Corner, minus_c, dot_c, cross_c, wedge, whole_fan, whole_polygon}
use Rattle.meaning_shift.specs.Integers.{product-sum, product-difference, sum-product, moved-difference, own-negative, area-from}

-- p + t
unfoldable pub plus_c : Corner → Corner → Corner
plus_c p t = record { x = p.x +ℤ t.x; y = p.y +ℤ t.y; z = p.z +ℤ t.z }

-- t · (p × q): what the edge from p to q adds where all is moved by t
unfoldable pub lever : Corner → Corner → Corner → ℤ
lever t p q = dot_c t (cross_c p q)

-- along the corners p and l, and on to a
unfoldable pub chain : Corner → Corner → Corner → List Corner → ℤ
chain t a p [] = lever t p a
chain t a p (q ∷ l) = lever t p q +ℤ chain t a q l

-- once around a polygon
unfoldable pub around : Corner → List Corner → ℤ
around t [] = pos 0
around t (o ∷ l) = chain t o o l

-- ---- the dot product, part by part

three-sums : (a b c d e f : ℤ) → (a +ℤ b) +ℤ (c +ℤ d) +ℤ (e +ℤ f) ≡ (a +ℤ c +ℤ e) +ℤ (b +ℤ d +ℤ f)
three-sums a b c d e f =
    same_parts ((a +ℤ b) +ℤ (c +ℤ d) +ℤ (e +ℤ f)) ((a +ℤ c +ℤ e) +ℤ (b +ℤ d +ℤ f))
    (omega (
      arith,
      sum-parts a b,
      sum-parts c d,
      sum-parts e f,
      sum-parts (a +ℤ b) (c +ℤ d),
      sum-parts ((a +ℤ b) +ℤ (c +ℤ d)) (e +ℤ f),
      sum-parts a c,
      sum-parts (a +ℤ c) e,
      sum-parts b d,
      sum-parts (b +ℤ d) f,
      sum-parts (a +ℤ c +ℤ e) (b +ℤ d +ℤ f),
    ))

three-differences : (a b c d e f : ℤ) → (a -ℤ b) +ℤ (c -ℤ d) +ℤ (e -ℤ f) ≡ (a +ℤ c +ℤ e) -ℤ (b +ℤ d +ℤ f)
three-differences a b c d e f =
    same_parts ((a -ℤ b) +ℤ (c -ℤ d) +ℤ (e -ℤ f)) ((a +ℤ c +ℤ e) -ℤ (b +ℤ d +ℤ f))
    (omega (
      arith,
      diff-parts a b,
      diff-parts c d,
      diff-parts e f,
      sum-parts (a -ℤ b) (c -ℤ d),
      sum-parts ((a -ℤ b) +ℤ (c -ℤ d)) (e -ℤ f),
      sum-parts a c,
      sum-parts (a +ℤ c) e,
      sum-parts b d,
      sum-parts (b +ℤ d) f,
      diff-parts (a +ℤ c +ℤ e) (b +ℤ d +ℤ f),
    ))

three : {a b c d e f : ℤ} → a ≡ b → c ≡ d → e ≡ f → a +ℤ c +ℤ e ≡ b +ℤ d +ℤ f
three p q r = cc

pub same-corner : {a b c d e f : ℤ} → a ≡ b → c ≡ d → e ≡ f → ◌≡◌ {A = Corner} (record { x = a; y = c; z = e }) (record { x = b; y = d; z = f })
same-corner p q r = cc

-- (o + t) · v
dot-sum : (o t v : Corner) → dot_c (plus_c o t) v ≡ dot_c o v +ℤ dot_c t v
unfolding dot_c plus_c
dot-sum o t v =
    three (sum-product o.x t.x v.x) (sum-product o.y t.y v.y) (sum-product o.z t.z v.z)
    ∙ three-sums (o.x *ℤ v.x) (t.x *ℤ v.x) (o.y *ℤ v.y) (t.y *ℤ v.y) (o.z *ℤ v.z) (t.z *ℤ v.z)

-- t · (v + w) and t · (v - w)
sum-dot : (t v w : Corner) → dot_c t (plus_c v w) ≡ dot_c t v +ℤ dot_c t w
unfolding dot_c plus_c
sum-dot t v w =
    three (product-sum t.x v.x w.x) (product-sum t.y v.y w.y) (product-sum t.z v.z w.z)
    ∙ three-sums (t.x *ℤ v.x) (t.x *ℤ w.x) (t.y *ℤ v.y) (t.y *ℤ w.y) (t.z *ℤ v.z) (t.z *ℤ w.z)

difference-dot : (t v w : Corner) → dot_c t (minus_c v w) ≡ dot_c t v -ℤ dot_c t w
unfolding dot_c minus_c
difference-dot t v w =
    three (product-difference t.x v.x w.x) (product-difference t.y v.y w.y) (product-difference t.z v.z w.z)
    ∙ three-differences (t.x *ℤ v.x) (t.x *ℤ w.x) (t.y *ℤ v.y) (t.y *ℤ w.y) (t.z *ℤ v.z) (t.z *ℤ w.z)

-- ---- a wedge

minus-moved : (p o t : Corner) → minus_c (plus_c p t) (plus_c o t) ≡ minus_c p o
unfolding minus_c plus_c
minus-moved p o t = same-corner (moved-difference p.x o.x t.x) (moved-difference p.y o.y t.y) (moved-difference p.z o.z t.z)

-- (p - o) × (q - o) is p × q + o × p - o × q
cross-from : (o p q : Corner) → cross_c (minus_c p o) (minus_c q o) ≡ minus_c (plus_c (cross_c p q) (cross_c o p)) (cross_c o q)
unfolding cross_c minus_c plus_c
cross-from o p q =
    same-corner (area-from p.y p.z q.y q.z o.y o.z)
    (area-from p.z p.x q.z q.x o.z o.x)
    (area-from p.x p.y q.x q.y o.x o.y)

pub wedge-moved : (t o p q : Corner) → wedge (plus_c o t) (plus_c p t) (plus_c q t) ≡ wedge o p q +ℤ (lever t p q +ℤ lever t o p -ℤ lever t o q)
unfolding wedge lever
wedge-moved t o p q =
    ap₂ (λ (v : Corner) (w : Corner). dot_c (plus_c o t) (cross_c v w)) (minus-moved p o t) (minus-moved q o t)
    ∙ dot-sum o t (cross_c (minus_c p o) (minus_c q o))
    ∙ ap (λ (z : ℤ). dot_c o (cross_c (minus_c p o) (minus_c q o)) +ℤ z)
    (ap (dot_c t) (cross-from o p q)
    ∙ difference-dot t (plus_c (cross_c p q) (cross_c o p)) (cross_c o q)
    ∙ ap (λ (z : ℤ). z -ℤ dot_c t (cross_c o q)) (sum-dot t (cross_c p q) (cross_c o p)))

-- ---- the lever turns its sign with the edge

swapped : (a b : ℤ) → a -ℤ b ≡ neg_ℤ (b -ℤ a)
swapped a b = same_parts (a -ℤ b) (neg_ℤ (b -ℤ a)) (omega (arith, diff-parts a b, diff-parts b a, neg-parts (b -ℤ a)))

three-negatives : (a b c : ℤ) → neg_ℤ a +ℤ neg_ℤ b +ℤ neg_ℤ c ≡ neg_ℤ (a +ℤ b +ℤ c)
three-negatives a b c =
    same_parts (neg_ℤ a +ℤ neg_ℤ b +ℤ neg_ℤ c) (neg_ℤ (a +ℤ b +ℤ c))
    (omega (arith, neg-parts a, neg-parts b, neg-parts c, sum-parts (neg_ℤ a) (neg_ℤ b), sum-parts (neg_ℤ a +ℤ neg_ℤ b) (neg_ℤ c), sum-parts a b, sum-parts (a +ℤ b) c, neg-parts (a +ℤ b +ℤ c)))

product-negative : (a b : ℤ) → a *ℤ neg_ℤ b ≡ neg_ℤ (a *ℤ b)
product-negative a b =
    ap (λ (z : ℤ). a *ℤ z) (sym (+ℤ_idl (neg_ℤ b)))
    ∙ product-difference a (pos 0) b
    ∙ same_parts (a *ℤ pos 0 -ℤ a *ℤ b) (neg_ℤ (a *ℤ b)) (rw (*ℤ-zero a) (omega (arith, diff-parts (pos 0) (a *ℤ b), neg-parts (a *ℤ b))))

pub lever-turned : (t p q : Corner) → lever t q p ≡ neg_ℤ (lever t p q)
unfolding lever dot_c cross_c
lever-turned t p q =
    three (part t.x p.y p.z q.y q.z) (part t.y p.z p.x q.z q.x) (part t.z p.x p.y q.x q.y)
    ∙ three-negatives (t.x *ℤ (p.y *ℤ q.z -ℤ p.z *ℤ q.y)) (t.y *ℤ (p.z *ℤ q.x -ℤ p.x *ℤ q.z)) (t.z *ℤ (p.x *ℤ q.y -ℤ p.y *ℤ q.x))
  where
    part : (s a b c d : ℤ) → s *ℤ (c *ℤ b -ℤ d *ℤ a) ≡ neg_ℤ (s *ℤ (a *ℤ d -ℤ b *ℤ c))
    part s a b c d =
        ap (λ (z : ℤ). s *ℤ z)
        (ap₂ (λ (y : ℤ) (z : ℤ). y -ℤ z) (*ℤ_comm c b) (*ℤ_comm d a) ∙ swapped (b *ℤ c) (a *ℤ d))
        ∙ product-negative s (a *ℤ d -ℤ b *ℤ c)

pub lever-none : (t p : Corner) → lever t p p ≡ pos 0
lever-none t p = own-negative (lever t p p) (lever-turned t p p)

-- ---- a fan and a polygon

pub fan-moved : (t o p : Corner) (l : List Corner)
    → whole_fan (plus_c o t) (map (λ c. plus_c c t) (p ∷ l)) ≡ whole_fan o (p ∷ l) +ℤ (chain t o p l +ℤ lever t o p)
unfolding whole_fan chain
fan-moved t o p [] = sym (ap (λ (z : ℤ). pos 0 +ℤ (lever t p o +ℤ z)) (lever-turned t p o) ∙ ap (λ (z : ℤ). pos 0 +ℤ z) (+ℤ_invr (lever t p o)))
fan-moved t o p (q ∷ l) =
    ap₂ (λ (y : ℤ) (z : ℤ). y +ℤ z) (wedge-moved t o p q) (fan-moved t o q l)
    ∙ gather (wedge o p q) (lever t p q) (lever t o p) (lever t o q) (whole_fan o (q ∷ l)) (chain t o q l)
  where
    gather : (w a b c f d : ℤ) → (w +ℤ (a +ℤ b -ℤ c)) +ℤ (f +ℤ (d +ℤ c)) ≡ (w +ℤ f) +ℤ ((a +ℤ d) +ℤ b)
    gather w a b c f d =
        same_parts ((w +ℤ (a +ℤ b -ℤ c)) +ℤ (f +ℤ (d +ℤ c))) ((w +ℤ f) +ℤ ((a +ℤ d) +ℤ b))
        (omega (
          arith,
          sum-parts a b,
          diff-parts (a +ℤ b) c,
          sum-parts w (a +ℤ b -ℤ c),
          sum-parts d c,
          sum-parts f (d +ℤ c),
          sum-parts (w +ℤ (a +ℤ b -ℤ c)) (f +ℤ (d +ℤ c)),
          sum-parts w f,
          sum-parts a d,
          sum-parts (a +ℤ d) b,
          sum-parts (w +ℤ f) ((a +ℤ d) +ℤ b),
        ))

pub polygon-moved : (t : Corner) (l : List Corner) → whole_polygon (map (λ c. plus_c c t) l) ≡ whole_polygon l +ℤ around t l
unfolding whole_polygon whole_fan around chain
polygon-moved t [] = refl
polygon-moved t (o ∷ []) = sym (ap (λ (z : ℤ). pos 0 +ℤ z) (lever-none t o))
polygon-moved t (o ∷ p ∷ l) = fan-moved t o p l ∙ ap (λ (z : ℤ). whole_fan o (p ∷ l) +ℤ z) (+ℤ_comm (chain t o p l) (lever t o p))
