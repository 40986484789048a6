-- What the proofs of the queries cite. Assumes nothing.
use Rattle.std.specs.Prelude.{ℕ, suc, ◌≡◌, Bool, true, false, Float}
use Rattle.std.proofs.Common.{sym, ap, ◌∙◌}
use Rattle.std.specs.Float.Ieee.Scale.{finite}
use Rattle.float_vectors.specs.declared.vector.Point3.{Point3}
use Rattle.float_vectors.specs.Space.{finite_point}
use Rattle.geom_lines_planes.specs.declared.curve.Line.{Line}
use Rattle.geom_lines_planes.specs.Geometry.{line_point, nearest}
use Rattle.geom_lines_planes.specs.Refuse.{◌unless◌, ◌then◌, answer}
use Rattle.std.specs.Prelude.{Ok}
use Rattle.geom_lines_planes.specs.Refusals.{refused}
use Rattle.geom_queries.specs.Queries.{on_line, near_line, projection, projected_answer}

-- a value that one test decides upon, as the code has it: q is the value, b what the test said
module _ {B A : Type 0} (is : B → A) (refused : ℕ → A) (test : B → Bool) {q p : B} {b : Bool} (value : q ≡ p) (tested : b ≡ test q) where
  pub passes : (n : ℕ) → b ≡ true → is q ≡ answer is refused (n unless test p) p
  passes n t = ap is value ∙ sym (ap (λ (x : Bool). answer is refused (n unless x) p) (ap test (sym value) ∙ sym tested ∙ t))

  pub fails : (n : ℕ) → b ≡ false → refused (suc n) ≡ answer is refused (suc n unless test p) p
  fails n t = sym (ap (λ (x : Bool). answer is refused (suc n unless x) p) (ap test (sym value) ∙ sym tested ∙ t))

-- the two tests of a projection, on the parameter q and on the point r that the code has
module _ (l : Line) (p : Point3) {q : Float} {b : Bool} (near : q ≡ nearest l p) (tested : b ≡ finite q) where
  pub no-parameter : b ≡ false → refused 1 ≡ projected_answer (near_line l p) (projection l p)
  no-parameter t =
      sym (ap (λ (x : Bool). projected_answer (1 unless x then on_line l (nearest l p)) (projection l p)) (ap finite (sym near) ∙ sym tested ∙ t))

  module _ (t : b ≡ true) {r : Point3} {d : Bool} (point : r ≡ line_point l q) (seen : d ≡ finite_point r) where
    reads : {y : Bool} → d ≡ y → near_line l p ≡ 4 unless y
    reads {y} u =
        ap (λ (x : Bool). 1 unless x then on_line l (nearest l p)) (ap finite (sym near) ∙ sym tested ∙ t)
        ∙ ap (λ (x : Bool). 4 unless x) (ap (λ (x : Float). finite_point (line_point l x)) (sym near) ∙ ap finite_point (sym point) ∙ sym seen ∙ u)

    pub no-point : d ≡ false → refused 4 ≡ projected_answer (near_line l p) (projection l p)
    no-point u = sym (ap (λ (n : ℕ). projected_answer n (projection l p)) (reads u))

    pub a_point : d ≡ true → Ok (record { param = q; point = r }) ≡ projected_answer (near_line l p) (projection l p)
    a_point u =
        ap (λ (x : Point3). Ok (record { param = q; point = x })) point
        ∙ ap (λ (x : Float). Ok (record { param = x; point = line_point l x })) near
        ∙ sym (ap (λ (n : ℕ). projected_answer n (projection l p)) (reads u))
