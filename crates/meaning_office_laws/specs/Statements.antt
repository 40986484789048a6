-- What splits by both offices keep ("Demand 3 holds for splits by both offices in any order"), for every model, every limit record and every list of split requests, each of an office, accepted or
-- refused: the statements of `meaning_split_laws`, in its order and words. Then which edges an office may split, and one office alone (W-206). Assumes nothing.
use Rattle.std.specs.Prelude.{ℕ, ◌<◌, ◌↔◌, ◌≡◌, true, false, List, ◌∷◌, ◌++◌, leb, Float}
use Rattle.std.proofs.Common.{ap, ◌∙◌}
use Rattle.meaning.specs.Model.{Model, Limits, body, shell}
use Rattle.meaning.specs.Refuse.{refused, given}
use Rattle.meaning.specs.Split.{EdgeSplit, split_line_edge, model_after}
use Rattle.meaning.specs.Faults.{whole_solid}
use Rattle.meaning.specs.Formed.{WellFormed, topological_report, empty_report, has_edge}
use Rattle.meaning.specs.Offices.{foreign, foreign_edge, office_split, office_model_after, OfficeCut, office_after_all}
use Rattle.meaning_split_laws.specs.Terms.{struck_from, itself, Restored, OneMore, SameWalks, euler_number}
use Rattle.meaning_split_laws.specs.Rows.{RefusedAt}
use Rattle.meaning_split_laws.specs.Refusals.{one-row}
use Rattle.meaning_split_laws.specs.Statements as Splits
use Rattle.meaning_office_laws.specs.Terms.{office_split_edges, office_rows}
use Rattle.meaning_split_laws.proofs.Statements as SplitProofs
use Rattle.meaning_office_laws.specs.Passed.{edge-itself, passed-number, passed-after, none-foreign, split-given, given-after, foreign-from, foreign-in, none_in, none_has, all-passed, edges-passed, passed}
use Rattle.meaning_office_laws.specs.Refused.{refused-keeps}

-- 1. "After any sequence of splits, accepted or refused, it is still well formed"
pub stays-well-formed : (x : Limits) (m : Model) (l : List OfficeCut) → WellFormed x m → WellFormed x (office_after_all x m l)
stays-well-formed x m l w = rw (all-passed x m l) (Splits.stays-well-formed x m (passed x m l) w)

-- 2. "and a body whose topological report was empty keeps an empty one"
pub empty-report-stays : (x : Limits) (m : Model) (l : List OfficeCut) → WellFormed x m → (b : ℕ) → b < m.bodies.used
    → empty_report (topological_report m b) ≡ true → empty_report (topological_report (office_after_all x m l) b) ≡ true
empty-report-stays x m l w b h r = rw (all-passed x m l) (Splits.empty-report-stays x m (passed x m l) w b h r)

-- (W-203, what fit to saw asks of a body beside its report)
pub all-whole-solid-stays : (x : Limits) (m : Model) (l : List OfficeCut) (b : ℕ) → whole_solid (office_after_all x m l) b ≡ whole_solid m b
all-whole-solid-stays x m l b = rw (all-passed x m l) (Splits.all-whole-solid-stays x m (passed x m l) b)

-- 3. "An accepted split gives each body that has the edge exactly one more edge and vertex", its faces the same, and leaves the walks of every other body as they were
module _ (x : Limits) (m : Model) (o e : ℕ) (t : Float) (s : EdgeSplit) (w : WellFormed x m) (a : office_split x m o e t ≡ given s) (b : ℕ) (h : b < m.bodies.used) where
  pub accepted-split-adds-one : has_edge m b e ≡ true → OneMore m (office_model_after x m o e t) b s.new_edge s.vertex
  accepted-split-adds-one q = rw (given-after x m o e t s a) (SplitProofs.accepted-split-adds-one x m e t s w (split-given x m o e t s a) b h q)

  pub accepted-split-leaves-others : has_edge m b e ≡ false → SameWalks m (office_model_after x m o e t) b
  accepted-split-leaves-others q = rw (given-after x m o e t s a) (Splits.accepted-split-leaves-others x m e t s w (split-given x m o e t s a) b h q)

  -- and so the walks of all bodies of the other office
  pub accepted-split-leaves-the-other-office : foreign m o b ≡ true → SameWalks m (office_model_after x m o e t) b
  accepted-split-leaves-the-other-office f = accepted-split-leaves-others (none_has m o e (none-foreign x m o e t s a) b f)

-- "so vertices minus edges plus faces never changes"
pub euler-number-stays : (x : Limits) (m : Model) (l : List OfficeCut) → WellFormed x m → (b : ℕ) → b < m.bodies.used
    → euler_number (office_after_all x m l) b ≡ euler_number m b
euler-number-stays x m l w b h = rw (all-passed x m l) (SplitProofs.euler-number-stays x m (passed x m l) w b h)

-- 4. "Striking out what was added gives back every stored list in its starting order", and every other field of every old record, a body's office among them, is as it was but for
-- the end of a split edge
pub gives_back : (x : Limits) (m : Model) (l : List OfficeCut) → WellFormed x m → Restored m (office_after_all x m l) (office_split_edges x m l) itself
gives_back x m l w = rw (all-passed x m l, edges-passed x m l) (SplitProofs.gives_back x m (passed x m l) w)

pub gives-back-any : (x : Limits) (m : Model) (l : List OfficeCut) → Restored m (office_after_all x m l) (office_split_edges x m l) struck_from
gives-back-any x m l = rw (all-passed x m l, edges-passed x m l) (SplitProofs.gives-back-any x m (passed x m l))

pub carriers-stay : (x : Limits) (m : Model) (l : List OfficeCut) → ((office_after_all x m l).curves ≡ m.curves) × ((office_after_all x m l).surfaces ≡ m.surfaces)
carriers-stay x m l = rw (all-passed x m l) (Splits.carriers-stay x m (passed x m l))

-- (W-211) "A model names its version and keeps it through splits"
pub version-stays : (x : Limits) (m : Model) (l : List OfficeCut) → (office_after_all x m l).version ≡ m.version
version-stays x m l = (gives-back-any x m l).version

-- "Each body carries an office number", and keeps it
pub office-stays : (x : Limits) (m : Model) (l : List OfficeCut) (b : ℕ) → b < m.bodies.used → (body (office_after_all x m l) b).office ≡ (body m b).office
office-stays x m l = (gives-back-any x m l).body-office

-- and what was added to a list of wire edges stands right after the old edge
pub wire-edge-follows : (x : Limits) (m : Model) (o e : ℕ) (t : Float) (r : EdgeSplit)
    → WellFormed x m → office_split x m o e t ≡ given r → (s : ℕ) → s < m.shells.used
    → (k l : List ℕ) → (shell m s).wire_edges ≡ k ++ (e ∷ l) → (shell (office_model_after x m o e t) s).wire_edges ≡ k ++ (e ∷ r.new_edge ∷ l)
wire-edge-follows x m o e t r w a s h k l q = rw (given-after x m o e t r a) (Splits.wire-edge-follows x m e t r w (split-given x m o e t r a) s h k l q)

pub refused-at-one-row : (x : Limits) (m : Model) (o e : ℕ) (t : Float) (j k n i : ℕ)
    → RefusedAt (office_rows x m o e t) j n → RefusedAt (office_rows x m o e t) k i → j ≡ k
refused-at-one-row x m o e t = one-row (office_rows x m o e t)

-- 6. a refused split leaves the model as it was
pub refused-changes-nothing : (x : Limits) (m : Model) (o e : ℕ) (t : Float) (n : ℕ) → office_split x m o e t ≡ refused n → office_model_after x m o e t ≡ m
refused-changes-nothing = refused-keeps

-- ---- "A split names its office too, and is refused if the edge is in a walk of the other office's bodies"

pub foreign-edge-is : (m : Model) (o e : ℕ) → (foreign_edge m o e ≡ true) ↔ ((c : ℕ) × (foreign m o c ≡ true) × (has_edge m c e ≡ true))
foreign-edge-is m o e = (foreign-from m o e, λ r. foreign-in m o e r.0 r.1 r.2)

-- and one that no body of the other has, be it in the office's own walks or in nobody's, is split as before
pub other-edges-as-before : (x : Limits) (m : Model) (o e : ℕ) (t : Float) → leb o 1 ≡ true → ((c : ℕ) → foreign m o c ≡ true → has_edge m c e ≡ false)
    → (office_split x m o e t ≡ split_line_edge x m e t) × (office_model_after x m o e t ≡ model_after x m e t)
other-edges-as-before x m o e t h n =
    let same = edge-itself x m o e t (none_in m o e n) in
    (rw (passed-number x m o e t h, same), passed-after x m o e t h ∙ ap (λ k. model_after x m k t) same)
