-- The theorems of specs/Gained.antt that rest on `one_more`: a split adds one edge and one vertex, and the Euler number stays. Assumes nothing.
use Prim.Native.Nat.{ℕ, zero, suc, ◌+◌, ◌<◌}
use Rattle.std.proofs.Common.{◌∙◌, subst, add-one}
use Rattle.std.specs.Prelude.{◌≡◌, Bool, neg_ℤ, ◌+ℤ◌, ◌-ℤ◌, length, Float}
use Rattle.std.proofs.Math.Path.{refl, ap}
use Rattle.std.proofs.Math.Bool.{true, false}
use mathlib.Core.List.{List, [], ◌∷◌}
use Rattle.std.proofs.Math.IntN.{pos, suc_ℤ, pred_ℤ, neg_ℤ-suc_ℤ, +ℤ-pred_ℤ, suc_ℤ-+ℤ, pred-suc}
use Rattle.meaning.specs.Lists.{same}
use Rattle.meaning.specs.Model.{Model, edge, Limits}
use Rattle.meaning.specs.Refuse.{given}
use Rattle.meaning.specs.Walks.{face_walk, edge_walk, vertex_walk}
use Rattle.meaning.specs.Split.{split_refusal, EdgeSplit, split_line_edge, model_after, Cut, after_all}
use Rattle.meaning.specs.Formed.{WellFormed, has_edge}
use Rattle.meaning_split_laws.specs.Terms.{OneMore, SameWalks, euler_number}
use Rattle.meaning_split_laws.specs.After.{went_to, bodies_kept}
use Rattle.meaning_split_laws.specs.Kept.{split-keeps}
use Rattle.meaning_split_laws.specs.Refusals.{answered-given, given-value}
use Rattle.meaning_split_laws.specs.Gained.{one_more, same_walks}

module _ (x : Limits) (m : Model) (w : WellFormed x m) (e : ℕ) (t : Float) (h : split_refusal x m e t ≡ 0) (b : ℕ) (hb : b < m.bodies.used) where
  one_each : (v k : ℕ) → pos (v + 1) -ℤ pos (k + 1) ≡ pos v -ℤ pos k
  one_each v k =
      rw (add-one v, add-one k)
      (ap (λ i. pos (suc v) +ℤ i) (neg_ℤ-suc_ℤ (pos k)) ∙ +ℤ-pred_ℤ (suc_ℤ (pos v)) (neg_ℤ (pos k)) ∙ ap pred_ℤ (suc_ℤ-+ℤ (pos v) (neg_ℤ (pos k))) ∙ pred-suc (pos v -ℤ pos k))

  pub euler-step : euler_number (model_after x m e t) b ≡ euler_number m b
  unfolding euler_number
  euler-step = by (has_edge m b e) refl
    where
      by : (c : Bool) → has_edge m b e ≡ c
          → pos (length (vertex_walk (model_after x m e t) b)) -ℤ pos (length (edge_walk (model_after x m e t) b)) +ℤ pos (length (face_walk (model_after x m e t) b)) ≡ pos (length (vertex_walk m b)) -ℤ pos (length (edge_walk m b)) +ℤ pos (length (face_walk m b))
      by true q =
          let more : OneMore m (model_after x m e t) b m.edges.used m.vertices.used = one_more x m w e t h b hb q in
          rw (more.vertices, more.edges, more.faces) (ap (λ i. i +ℤ pos (length (face_walk m b))) (one_each (length (vertex_walk m b)) (length (edge_walk m b))))
      by false q = let same : SameWalks m (model_after x m e t) b = same_walks x m w e t h b hb q in rw (same.faces, same.edges, same.vertices)

pub split-adds-one : (x : Limits) (m : Model) (e : ℕ) (t : Float) (s : EdgeSplit) → WellFormed x m → split_line_edge x m e t ≡ given s → (b : ℕ) → b < m.bodies.used
    → has_edge m b e ≡ true → OneMore m (model_after x m e t) b s.new_edge s.vertex
split-adds-one x m e t s w a b hb q =
    subst (λ r. OneMore m (model_after x m e t) b r.new_edge r.vertex) (given-value (split_refusal x m e t) (record { original_edge = e; new_edge = m.edges.used; vertex = m.vertices.used }) s a)
    (one_more x m w e t (answered-given (split_refusal x m e t) _ _ a) b hb q)

pub euler-kept : (x : Limits) (m : Model) (l : List Cut) → WellFormed x m → (b : ℕ) → b < m.bodies.used → euler_number (after_all x m l) b ≡ euler_number m b
unfolding after_all
euler-kept x m [] w b hb = refl
euler-kept x m (c ∷ l) w b hb =
    euler-kept x (model_after x m c.edge c.fraction) l (split-keeps x m c.edge c.fraction w) b (rw (bodies_kept x m c.edge c.fraction) hb)
    ∙ go (split_refusal x m c.edge c.fraction) refl
  where
    go : (n : ℕ) → split_refusal x m c.edge c.fraction ≡ n → euler_number (model_after x m c.edge c.fraction) b ≡ euler_number m b
    go zero h = euler-step x m w c.edge c.fraction h b hb
    go (suc n) h = ap (λ k. euler_number k b) (went_to x m c.edge c.fraction (suc n) h)
