-- Splits by offices as splits without: those that pass the office's own test, each of the edge that its id is for the office. Assumes nothing.
use Prim.Native.Nat.{ℕ, zero, suc, ◌<◌}
use Rattle.std.proofs.Common.{arith, sym, ap, ap₂, ◌∙◌}
use Rattle.std.specs.Prelude.{◌≡◌, Bool, cond, not, List, [], ◌∷◌, eqb, leb, Float}
use Rattle.std.proofs.Math.Path.{refl}
use Rattle.std.proofs.Math.Bool.{true, false, ◌&&◌}
use Rattle.std.proofs.lemmas.Bool.{false≢true}
use borrow.Author.Tests.{ltb-true, ne_eqb}
use Rattle.meaning.specs.Lists.{run}
use Rattle.meaning.specs.Model.{Model, Limits, has, body}
use Rattle.meaning.specs.Refuse.{given, answered}
use Rattle.meaning.specs.Split.{EdgeSplit, split_refusal, split_line_edge, after_split, where_accepted, model_after, Cut, after_all}
use Rattle.meaning.specs.Formed.{has_edge}
use Rattle.meaning.specs.Offices.{office_refusal, office_number, foreign, foreign_edge, edge_for, office_split_refusal, office_split, office_model_after, OfficeCut, office_after_all}
use Rattle.meaning_list_laws.specs.Tests.{and_both, then-zero}
use Rattle.meaning_split_laws.specs.Terms.{split_edges}
use Rattle.meaning_split_laws.specs.After.{accepted}
use Rattle.meaning_split_laws.specs.Refusals.{answered-given}
use Rattle.meaning_isolation.specs.Laws.{member-run, any-in, any-from}
use Rattle.meaning_office_laws.specs.Terms.{office_split_edges}

-- ---- one split

module _ (x : Limits) (m : Model) (o e : ℕ) (t : Float) where
  -- a split that is not refused is one of an edge that is the office's to split
  pub own-edge : office_split_refusal x m o e t ≡ 0 → (foreign_edge m o e ≡ false) × (split_refusal x m e t ≡ 0)
  unfolding office_split_refusal edge_for
  own-edge h = by (foreign_edge m o e) refl (then-zero (office_refusal o) (split_refusal x m (edge_for m o e) t) h).1
    where
      by : (b : Bool) → foreign_edge m o e ≡ b → split_refusal x m (cond b m.edges.used e) t ≡ 0 → (foreign_edge m o e ≡ false) × (split_refusal x m e t ≡ 0)
      by true q z = absurd (omega (arith, (accepted x m m.edges.used t z).0))
      by false q z = (q, z)

  pub edge-itself : foreign_edge m o e ≡ false → edge_for m o e ≡ e
  unfolding edge_for
  edge-itself q = rw q

  pub passed-number : leb o 1 ≡ true → office_split_refusal x m o e t ≡ split_refusal x m (edge_for m o e) t
  unfolding office_split_refusal
  passed-number h = rw h

  pub above-number : leb o 1 ≡ false → office_split_refusal x m o e t ≡ 1
  unfolding office_split_refusal
  above-number h = rw h

  pub passed-after : leb o 1 ≡ true → office_model_after x m o e t ≡ model_after x m (edge_for m o e) t
  unfolding office_model_after model_after
  passed-after h = by (office_split_refusal x m o e t) refl
    where
      by : (n : ℕ) → office_split_refusal x m o e t ≡ n → where_accepted (office_split_refusal x m o e t) m (after_split m e t) ≡ where_accepted (split_refusal x m (edge_for m o e) t) m (after_split m (edge_for m o e) t)
      by zero z = rw (← passed-number h, z, edge-itself (own-edge z).0)
      by (suc n) z = rw (← passed-number h, z)

  pub above-after : leb o 1 ≡ false → office_model_after x m o e t ≡ m
  unfolding office_model_after
  above-after h = rw (above-number h)

  -- an accepted split is the accepted split of the same edge
  module _ (s : EdgeSplit) (a : office_split x m o e t ≡ given s) where
    number-zero : office_split_refusal x m o e t ≡ 0
    number-zero = answered-given (office_split_refusal x m o e t) _ s a

    pub none-foreign : foreign_edge m o e ≡ false
    none-foreign = (own-edge number-zero).0

    pub split-given : split_line_edge x m e t ≡ given s
    split-given = ap (λ n. answered {A = EdgeSplit} n (record { original_edge = e; new_edge = m.edges.used; vertex = m.vertices.used })) ((own-edge number-zero).1 ∙ sym number-zero) ∙ a

    pub given-after : office_model_after x m o e t ≡ model_after x m e t
    unfolding office_model_after model_after
    given-after = rw (number-zero, (own-edge number-zero).1)

-- ---- "in a walk of the other office's bodies"

module _ (m : Model) (o e : ℕ) where
  pub foreign-from : foreign_edge m o e ≡ true → (c : ℕ) × (foreign m o c ≡ true) × (has_edge m c e ≡ true)
  unfolding foreign_edge
  foreign-from h =
      let p = any-from (λ c. foreign m o c && has_edge m c e) (run 0 m.bodies.used) h in
      let q = and_both (foreign m o p.0) (has_edge m p.0 e) p.2 in
      (p.0, q.0, q.1)

  pub foreign-in : (c : ℕ) → foreign m o c ≡ true → has_edge m c e ≡ true → foreign_edge m o e ≡ true
  unfolding foreign_edge
  foreign-in c h g =
      let below : c < m.bodies.used = ltb-true c m.bodies.used (and_both (has m.bodies c) (not (eqb (office_number (body m c).office) o)) h).0 in
      any-in (λ c. foreign m o c && has_edge m c e) (run 0 m.bodies.used) c (member-run m.bodies.used c below) (ap₂ ◌&&◌ h g)

  -- an edge that is in no such walk
  pub none_in : ((c : ℕ) → foreign m o c ≡ true → has_edge m c e ≡ false) → foreign_edge m o e ≡ false
  none_in h = by (foreign_edge m o e) refl
    where
      by : (b : Bool) → foreign_edge m o e ≡ b → foreign_edge m o e ≡ false
      by true q = let p = foreign-from q in absurd (false≢true (sym (h p.0 p.1) ∙ p.2))
      by false q = q

  pub none_has : foreign_edge m o e ≡ false → (c : ℕ) → foreign m o c ≡ true → has_edge m c e ≡ false
  none_has h c g = by (has_edge m c e) refl
    where
      by : (b : Bool) → has_edge m c e ≡ b → has_edge m c e ≡ false
      by true q = absurd (false≢true (sym h ∙ foreign-in c g q))
      by false q = q

-- ---- a sequence of splits

unfoldable pub passed : Limits → Model → List OfficeCut → List Cut
passed x m [] = []
passed x m (c ∷ l) =
    let rest = passed x (office_model_after x m c.office c.edge c.fraction) l in
    cond (leb c.office 1) (record { edge = edge_for m c.office c.edge; fraction = c.fraction } ∷ rest) rest

pub all-passed : (x : Limits) (m : Model) (l : List OfficeCut) → office_after_all x m l ≡ after_all x m (passed x m l)
unfolding office_after_all after_all passed
all-passed x m [] = refl
all-passed x m (c ∷ l) = by (leb c.office 1) refl (all-passed x (office_model_after x m c.office c.edge c.fraction) l)
  where
    now : Model
    now = office_model_after x m c.office c.edge c.fraction

    by : (b : Bool) → leb c.office 1 ≡ b → office_after_all x now l ≡ after_all x now (passed x now l)
        → office_after_all x now l ≡ after_all x m (cond b (record { edge = edge_for m c.office c.edge; fraction = c.fraction } ∷ passed x now l) (passed x now l))
    by true h rest = rest ∙ ap (λ (k : Model). after_all x k (passed x now l)) (passed-after x m c.office c.edge c.fraction h)
    by false h rest = rest ∙ ap (λ (k : Model). after_all x k (passed x now l)) (above-after x m c.office c.edge c.fraction h)

pub edges-passed : (x : Limits) (m : Model) (l : List OfficeCut) → office_split_edges x m l ≡ split_edges x m (passed x m l)
unfolding office_split_edges split_edges passed
edges-passed x m [] = refl
edges-passed x m (c ∷ l) = by (leb o 1) refl (edges-passed x now l)
  where
    o : ℕ
    o = c.office

    e : ℕ
    e = c.edge

    t : Float
    t = c.fraction

    now : Model
    now = office_model_after x m o e t

    P : List Cut
    P = passed x now l

    -- the same number, and where it is 0 the same edge
    one : (n : ℕ) → office_split_refusal x m o e t ≡ n → (A B : List ℕ) → A ≡ B → cond (eqb n 0) (e ∷ A) A ≡ cond (eqb n 0) (edge_for m o e ∷ B) B
    one zero z A B q = rw (q, edge-itself x m o e t (own-edge x m o e t z).0)
    one (suc n) z A B q = rw (q, ne_eqb (suc n) 0 (λ k. omega arith))

    by : (b : Bool) → leb o 1 ≡ b → office_split_edges x now l ≡ split_edges x now P
        → cond (eqb (office_split_refusal x m o e t) 0) (e ∷ office_split_edges x now l) (office_split_edges x now l)
        ≡ split_edges x m (cond b (record { edge = edge_for m o e; fraction = t } ∷ P) P)
    by true h rest =
        one (office_split_refusal x m o e t) refl (office_split_edges x now l) (split_edges x (model_after x m (edge_for m o e) t) P)
        (rest ∙ ap (λ (k : Model). split_edges x k P) (passed-after x m o e t h))
        ∙ ap (λ n. cond (eqb n 0) (edge_for m o e ∷ split_edges x (model_after x m (edge_for m o e) t) P) (split_edges x (model_after x m (edge_for m o e) t) P)) (passed-number x m o e t h)
    by false h rest = rw (above-number x m o e t h) (rest ∙ ap (λ (k : Model). split_edges x k P) (above-after x m o e t h))
