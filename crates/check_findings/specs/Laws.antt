-- What is found of a body, by what is there. Assumes nothing.
use Rattle.std.specs.Prelude.{ℕ, ◌≤◌, ◌<◌, ◌≡◌, refl, Bool, true, false, cond, List, [], ◌++◌, Float, length}
use Rattle.std.proofs.Common.{arith, ◌∙◌}
use Rattle.std.proofs.Math.Path.{sym, ap}
use borrow.Author.Tests.{eq-eqb, ne_eqb}
use Rattle.meaning.specs.Lists.{joined}
use Rattle.meaning.specs.Model as Models
use Rattle.meaning.specs.Model.{Model, body}
use Rattle.meaning.specs.Walks.{edge_walk, edges_refusal}
use Rattle.meaning.specs.Inquire.{is_solid}
use Rattle.meaning.specs.Faults.{region_findings, layout, manifold_edge, manifold_edges, findings, CheckOptions}
use Rattle.memory_layout.specs.Layout.{word}
use Rattle.memory_layout.specs.Decode.{decode}
use Rattle.memory_layout.specs.Entries.{list_of}
use Rattle.memory_layout.specs.Fit.{Lists}
use Rattle.memory_records.specs.declared.records.Body.{Body}
use Rattle.memory_records.specs.Seen.{seen_kind, seen_body}
use Rattle.check_reasons.specs.Log.{FIRST, Enough}
use Rattle.walk_answers.specs.Decoded.{refused_by}
use Rattle.check_loop.specs.Loop.{options}
use Rattle.check_findings.specs.Findings.{nothing_yet, solid_kind}
use Rattle.check_findings.specs.Totals.{findings-le}

-- there are numbers for all that can be found
pub enough-findings : (first : Bool) (room w : List ℕ) (x : List Float) (geometry : Bool) (n b : ℕ) → Lists room w → n ≤ 255 → b < word w 0 → Enough (nothing_yet first) (findings (decode room w x) (options geometry n) b)
enough-findings first room w x geometry n b lists h g = record { faults = omega (arith, few); unchecked = omega (arith, few, start first) }
  where
    few : length (findings (decode room w x) (options geometry n) b) ≤ 569094177041
    few = findings-le room w lists x (options geometry n) h b g

    start : (b : Bool) → cond b FIRST 0 ≤ FIRST
    start true = omega arith
    start false = omega arith

-- a body's regions, by the list's number
pub body-list : (room w : List ℕ) (x : List Float) (b : ℕ) → list_of room w 0 b ≡ (body (decode room w x) b).regions
unfolding decode list_of
body-list room w x b = refl

pub body-told : (m : Model) (o : CheckOptions) (b : ℕ) (regions : List ℕ) → regions ≡ (body m b).regions
    → findings m o b ≡ (layout m b regions ++ joined (region_findings m o b) regions) ++ manifold_edges m b
unfolding findings
body-told m o b regions e = rw e

-- ---- the manifold edges of a solid

kinds : (k : Models.BodyKind) → solid_kind (seen_kind k) ≡ is_solid k
unfolding seen_kind
kinds Models.acorn = refl
kinds Models.wire = refl
kinds Models.sheet = refl
kinds Models.solid = refl
kinds Models.general = refl

module _ (m : Model) (b : ℕ) (x : Body) (s : Bool) (seen : x ≡ seen_body (body m b)) (told : s ≡ solid_kind x.kind) where
  solidity : is_solid (body m b).kind ≡ s
  unfolding seen_body
  solidity = sym (kinds (body m b).kind) ∙ ap (λ (y : Body). solid_kind y.kind) (sym seen) ∙ sym told

  pub edges-not-solid : s ≡ false → manifold_edges m b ≡ []
  unfolding manifold_edges
  edges-not-solid h = rw (solidity ∙ h)

  pub edges-refused : s ≡ true → (edges_refusal m b ≡ 0 → ⊥) → manifold_edges m b ≡ []
  unfolding manifold_edges
  edges-refused h g = rw (solidity ∙ h, ne_eqb (edges_refusal m b) 0 g)

  pub edges-walked : s ≡ true → edges_refusal m b ≡ 0 → manifold_edges m b ≡ joined (manifold_edge m) (edge_walk m b)
  unfolding manifold_edges
  edges-walked h g = rw (solidity ∙ h, eq-eqb (edges_refusal m b) 0 g)

-- the refusal of a walk whose memory was tested
pub refused-is : (a : Bool) (n : ℕ) → a ≡ true → refused_by a true n ≡ n
unfolding refused_by
refused-is a n h = rw h
