-- The statements of specs/Statements.antt that rest on `stop-number` and `rows-are-tests`: what is told of a refusal is the call's own. Assumes nothing.
use Rattle.std.specs.Prelude.{ℕ, ◌≡◌, List, map, Float}
use Rattle.std.proofs.Common.{sym, ap, ◌∙◌}
use Rattle.geom_lines_planes.specs.Refuse.{◌then◌}
use Rattle.meaning.specs.Model.{Model, Limits}
use Rattle.meaning.specs.Refuse.{first_refusal}
use Rattle.meaning.specs.Walks.{faces_refusal, edges_refusal, vertices_refusal}
use Rattle.meaning.specs.Inquire.{box_refusal, volume_refusal}
use Rattle.meaning.specs.Split.{split_tests, split_refusal, bounds_refusal}
use Rattle.meaning.specs.Offices.{office_refusal, body_for, edge_for, office_split_refusal}
use Rattle.meaning_stops.specs.Stops.{Row, refusal_of, Stop, first_stop}
use Rattle.meaning_stops.specs.Splits.{split_stops, split_stop, bounds_stops, bounds_stop}
use Rattle.meaning_stops.specs.Bodies.{faces_stops, edges_stops, vertices_stops, box_stops, volume_stops, faces_stop, edges_stop, vertices_stop, box_stop, volume_stop}
use Rattle.meaning_stops.proofs.Laws.{stop-number, stop-accepted, first-stopped}
use Rattle.meaning_stops.specs.Numbers.{bounds-are-tests}
use Rattle.meaning_stops.proofs.Numbers.{rows-are-tests}
use Rattle.meaning_stops.specs.BodyNumbers.{faces-rows, edges-rows, vertices-rows, box-rows, volume-rows}
use Rattle.meaning_stops.specs.Statements.{Tells, with_office, office-number}

told : (rows : List Row) (n : ℕ) → first_refusal (map refusal_of rows) ≡ n → Tells rows (first_stop rows) n
told rows n e =
    let same : (first_stop rows).number ≡ n = stop-number rows ∙ e in
    record {
      number = same;
      accepted-where = λ z. stop-accepted rows (same ∙ z);
      accepted-only = λ z. sym same ∙ ap (λ (s : Stop). s.number) z;
      first = λ k z. first-stopped rows k (same ∙ z);
    }

module _ (x : Limits) (m : Model) (o e : ℕ) (t : Float) where
  pub split-told : Tells (with_office o (split_stops x m e (edge_for m o e) t)) (split_stop x m o e t) (office_split_refusal x m o e t)
  unfolding split_stop office_split_refusal split_refusal
  split-told = told _ _ (office-number o (split_stops x m e (edge_for m o e) t) _ (ap first_refusal (rows-are-tests x m e (edge_for m o e) t)))

  pub stop-is-the-refusal : (split_stop x m o e t).number ≡ office_split_refusal x m o e t
  stop-is-the-refusal = split-told.number

-- each of the thirteen rows refuses what 01's test of that number does
pub each-row-is-its-test : (x : Limits) (m : Model) (asked e : ℕ) (t : Float) → map refusal_of (split_stops x m asked e t) ≡ split_tests x m e t
each-row-is-its-test = rows-are-tests

-- ---- "The same for `edge_parameter_bounds`, box and volume .., walks"

pub bounds-told : (m : Model) (e : ℕ) → Tells (bounds_stops m e) (bounds_stop m e) (bounds_refusal m e)
unfolding bounds_refusal
bounds-told m e = told _ _ (ap first_refusal (bounds-are-tests m e))

module _ (m : Model) (o b : ℕ) where
  pub faces-told : Tells (with_office o (faces_stops m b (body_for m o b))) (faces_stop m o b) (office_refusal o then faces_refusal m (body_for m o b))
  unfolding faces_stop
  faces-told = told _ _ (office-number o (faces_stops m b (body_for m o b)) _ (faces-rows m b (body_for m o b)))

  pub edges-told : Tells (with_office o (edges_stops m b (body_for m o b))) (edges_stop m o b) (office_refusal o then edges_refusal m (body_for m o b))
  unfolding edges_stop
  edges-told = told _ _ (office-number o (edges_stops m b (body_for m o b)) _ (edges-rows m b (body_for m o b)))

  pub vertices-told : Tells (with_office o (vertices_stops m b (body_for m o b))) (vertices_stop m o b) (office_refusal o then vertices_refusal m (body_for m o b))
  unfolding vertices_stop
  vertices-told = told _ _ (office-number o (vertices_stops m b (body_for m o b)) _ (vertices-rows m b (body_for m o b)))

  pub box-told : Tells (with_office o (box_stops m b (body_for m o b))) (box_stop m o b) (office_refusal o then box_refusal m (body_for m o b))
  unfolding box_stop
  box-told = told _ _ (office-number o (box_stops m b (body_for m o b)) _ (box-rows m b (body_for m o b)))

  pub volume-told : Tells (with_office o (volume_stops m b (body_for m o b))) (volume_stop m o b) (office_refusal o then volume_refusal m (body_for m o b))
  unfolding volume_stop
  volume-told = told _ _ (office-number o (volume_stops m b (body_for m o b)) _ (volume-rows m b (body_for m o b)))
