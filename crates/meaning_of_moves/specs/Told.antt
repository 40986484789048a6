-- A model that has a movable body moved, and nothing else: the body is the same stone there, for the office that has it and for the other. Assumes nothing.
use Rattle.std.specs.Prelude.{ℕ, ◌≡◌, refl, Bool, true, false, ltb, ℤ}
use Rattle.std.proofs.Common.{sym, ap₂, ◌∙◌, ltb-true}
use Rattle.std.proofs.Math.Path.{ap}
use Rattle.std.proofs.Math.Dec.{eqb}
use Rattle.float_vectors.specs.declared.vector.Point3.{Point3}
use Rattle.meaning.specs.Model.{Model, Limits, Body, has}
use Rattle.meaning.specs.Refuse.{answered}
use Rattle.meaning.specs.Offices.{office_number, body_for}
use Rattle.meaning_sheets.specs.Sheets.{Corner, six_volume, stone_refusal}
use Rattle.meaning_isolation.specs.Laws.{and_same}
use Rattle.meaning_isolation.specs.Told.{body_stone}
use Rattle.meaning_isolation.specs.Offices.{own}
use Rattle.meaning_isolation.specs.Asked.{there-for, own-itself, no-such-body}
use Rattle.meaning_isolation.proofs.Weighed.{six-volume-same}
use Rattle.meaning_isolation.proofs.Stones.{stone-same}
use Rattle.meaning_shift.specs.Moving.{Movable, placed, Shifted}
use Rattle.meaning_shift.proofs.Statements.{moving-keeps-the-volume, moving-keeps-the-refusal}
use Rattle.memory_writes.specs.Change.{SameModel}
use Rattle.split_sequences.specs.Walked.{alike}

module _ (y : Limits) (m n : Model) (b r : ℕ) (k : Movable y m b r) (t : Corner) (point : ℕ → Point3) (d : Shifted m b t point) (s : SameModel n (placed m b point)) where
  same-stone : body_stone n b ≡ body_stone m b
  same-stone =
      stone-same n (placed m b point) b (alike n (placed m b point) s b)
      ∙ ap₂ (λ (c : ℕ) (z : ℤ). answered c (record { body = b; number = z })) (moving-keeps-the-refusal y m b r k t point d) (moving-keeps-the-volume y m b r k t point d)

  -- its number, where the sheet can take it
  pub same_number : stone_refusal n b ≡ 0 → six_volume n b ≡ six_volume m b
  same_number z = six-volume-same n (placed m b point) b (alike n (placed m b point) s b) z ∙ moving-keeps-the-volume y m b r k t point d

  -- ---- for an office

  own_same : (o : ℕ) → own n o b ≡ own m o b
  unfolding placed
  own_same o =
      and_same (has n.bodies b) (has m.bodies b) _ _ (ap (ltb b) s.bodies.used)
      (λ h. ap (λ (q : Body). eqb (office_number q.office) o) (s.bodies.slots b (ltb-true b n.bodies.used h)))

  pub told-stone : (o : ℕ) → body_stone n (body_for n o b) ≡ body_stone m (body_for m o b)
  told-stone o = by (own m o b) refl
    where
      by : (c : Bool) → own m o b ≡ c → body_stone n (body_for n o b) ≡ body_stone m (body_for m o b)
      by true h = ap (body_stone n) (own-itself n o b (own_same o ∙ h)) ∙ same-stone ∙ sym (ap (body_stone m) (own-itself m o b h))
      by false h = (no-such-body n (body_for n o b) (there-for n o b ∙ own_same o ∙ h)).stone ∙ sym (no-such-body m (body_for m o b) (there-for m o b ∙ h)).stone
