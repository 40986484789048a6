-- The words of the statements, as definitions.
use Rattle.std.specs.Prelude.{ℕ, ◌≡◌, true, cond, not, List, [], ◌∷◌, map, eqb, leb, get_or, drop, Float}
use Rattle.meaning.specs.Model.{Model, Limits, has, body}
use Rattle.meaning.specs.Split.{split_line_edge, model_after, Cut, after_all}
use Rattle.meaning.specs.Offices.{office_refusal, office_number, body_for, foreign_edge, edge_for, office_split_refusal, office_split, office_model_after, OfficeCut, office_after_all}
use Rattle.meaning_split_laws.specs.Rows.{Step, ◌when◌, split_rows}
use Rattle.meaning_isolation.specs.Told.{SameAnswers}

-- ---- a sequence of splits by both offices

-- the edges of the accepted ones, in their order
unfoldable pub office_split_edges : Limits → Model → List OfficeCut → List ℕ
office_split_edges x m [] = []
office_split_edges x m (c ∷ l) =
    let rest = office_split_edges x (office_model_after x m c.office c.edge c.fraction) l in
    cond (eqb (office_split_refusal x m c.office c.edge c.fraction) 0) (c.edge ∷ rest) rest

-- ---- 01's rows of tests, with the office

-- "1 for an office above 1" has row 0, which 01's rows leave free; "2 for a foreign .. edge, in the place of a missing one" is one more condition of row 2
abbrev pub office_rows : Limits → Model → ℕ → ℕ → Float → List (List Step)
office_rows x m o e t =
    let rows = split_rows x m e t in
    (1 when not (leb o 1) ∷ [])
    ∷ get_or rows 1 []
    ∷ (2 when not (has m.edges e) ∷ 2 when foreign_edge m o e ∷ [])
    ∷ drop 3 rows

-- ---- one office alone

pub record OneOffice (m : Model) (o : ℕ) : Type 0 where
  pub office : leb o 1 ≡ true
  pub every_body : (b : ℕ) → has m.bodies b ≡ true → office_number (body m b).office ≡ o

-- requests without an office, made by the office o
abbrev pub made_by : ℕ → List Cut → List OfficeCut
made_by o l = map (λ c. record { office = o; edge = c.edge; fraction = c.fraction }) l

-- what the office is told and what its splits leave is what it was before there were offices
pub record AsBefore (m : Model) (o : ℕ) : Type 0 where
  pub not-refused : office_refusal o ≡ 0
  pub body : (b : ℕ) → body_for m o b ≡ b
  pub edge : (e : ℕ) → edge_for m o e ≡ e
  pub answers : (b : ℕ) → SameAnswers m m (body_for m o b) b
  pub split : (x : Limits) (e : ℕ) (t : Float) → office_split x m o e t ≡ split_line_edge x m e t
  pub after : (x : Limits) (e : ℕ) (t : Float) → office_model_after x m o e t ≡ model_after x m e t
  pub after-all : (x : Limits) (l : List Cut) → office_after_all x m (made_by o l) ≡ after_all x m l
