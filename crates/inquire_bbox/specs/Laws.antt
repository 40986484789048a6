-- Laws of boxes. Assumes nothing.
use Rattle.std.specs.Prelude.{ℕ, ◌≡◌, refl, Bool, true, false, cond, ◌&&◌, List, [], ◌∷◌, ◌++◌, map, eqb, length}
use Rattle.std.proofs.Common.{arith, sym, ap, ◌∙◌, ne_eqb}
use Rattle.interval_arithmetic.specs.Ops.{zero_f}
use Rattle.float_vectors.specs.declared.vector.Point3.{Point3}
use Rattle.float_vectors.specs.Space.{finite_point}
use Rattle.meaning_list_laws.specs.Tests.{and_assoc, and-true}
use Rattle.meaning.specs.Lists.{all}
use Rattle.meaning.specs.Inquire as Inquire
use Rattle.inquire_bbox.specs.declared.bbox.Aabb.{Aabb}
use Rattle.inquire_bbox.specs.declared.bbox.Extent.{Extent}
use Rattle.inquire_bbox.specs.Boxes.{seen_box, included, all_finite, extent_of}

abbrev origin_p : Point3
origin_p = record { x = zero_f; y = zero_f; z = zero_f }

pub extent-none : extent_of [] ≡ record { empty = true; finite = true; bounds = record { min = origin_p; max = origin_p } }
unfolding extent_of all_finite seen_box Inquire.box_of
extent-none = refl

finite-snoc : (l : List Point3) (p : Point3) → all_finite (l ++ (p ∷ [])) ≡ (all_finite l && finite_point p)
unfolding all_finite
finite-snoc [] p = and-true (finite_point p)
finite-snoc (q ∷ l) p = ap (λ b. finite_point q && b) (finite-snoc l p) ∙ sym (and_assoc (finite_point q) (all_finite l) (finite_point p))

pub finite-map : (f : ℕ → Point3) (l : List ℕ) → all_finite (map f l) ≡ all (λ v. finite_point (f v)) l
unfolding all_finite all
finite-map f [] = refl
finite-map f (v ∷ l) = ap (λ b. finite_point (f v) && b) (finite-map f l)

grown-snoc : (b : Inquire.Aabb) (l : List Point3) (p : Point3) → Inquire.grown b (l ++ (p ∷ [])) ≡ Inquire.including (Inquire.grown b l) p
unfolding Inquire.grown
grown-snoc b [] p = refl
grown-snoc b (q ∷ l) p = grown-snoc (Inquire.including b q) l p

some : (p : Point3) (l : List Point3) → eqb (length (p ∷ l)) 0 ≡ false
some p l = ne_eqb (length (p ∷ l)) 0 (λ e. omega arith)

-- one point more: the first is its own box
box-snoc : (l : List Point3) (p : Point3) → cond (eqb (length l) 0) (record { min = p; max = p }) (included (seen_box (Inquire.box_of l)) p) ≡ seen_box (Inquire.box_of (l ++ (p ∷ [])))
unfolding Inquire.box_of Inquire.grown included seen_box
box-snoc [] p = refl
box-snoc (q ∷ l) p = rw (some q l) (ap seen_box (sym (grown-snoc (record { min = q; max = q }) l p)))

pub extent-more : (e : Extent) (p : Point3) (l : List Point3) (f : Bool) (b : Aabb) → f ≡ (e.finite && finite_point p)
    → b ≡ cond e.empty (record { min = p; max = p }) (included e.bounds p) → e ≡ extent_of l → record { empty = false; finite = f; bounds = b } ≡ extent_of (l ++ (p ∷ []))
unfolding extent_of
extent-more e p l f b ef eb el =
    let there : false ≡ eqb (length (l ++ (p ∷ []))) 0 = more l in
    let all-finite : f ≡ all_finite (l ++ (p ∷ [])) = ef ∙ ap (λ (d : Extent). d.finite && finite_point p) el ∙ sym (finite-snoc l p) in
    let box : b ≡ seen_box (Inquire.box_of (l ++ (p ∷ []))) = eb ∙ ap (λ (d : Extent). cond d.empty (record { min = p; max = p }) (included d.bounds p)) el ∙ box-snoc l p in
    cc
  where
    more : (l : List Point3) → false ≡ eqb (length (l ++ (p ∷ []))) 0
    more [] = sym (some p [])
    more (q ∷ l) = sym (some q (l ++ (p ∷ [])))
