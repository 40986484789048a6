-- Two models that are one and the same to an office (W-206): they agree on its bodies and on all records reached from them. And the request's own words for two such models. Definitions only.
use Rattle.std.specs.Prelude.{ℕ, ◌≡◌, Bool, true, false, ◌&&◌, List, eqb}
use Rattle.meaning.specs.Lists.{run, any, member}
use Rattle.meaning.specs.Model.{Model, Table, has, body}
use Rattle.meaning.specs.Offices.{office_number, foreign}
use Rattle.meaning_isolation.specs.Reached.{regions_met, shells_met, faces_met, loops_met, fins_seen, edges_met, vertices_met, curves_met, surfaces_met, Alike}

-- the body is there, and is the office's
abbrev pub own : Model → ℕ → ℕ → Bool
own m o b = has m.bodies b && eqb (office_number (body m b).office) o

-- the same bodies are the office's in both, and the models are alike from each of them on
pub record OfficeAlike (m n : Model) (o : ℕ) : Type 0 where
  pub own_same : (b : ℕ) → own m o b ≡ own n o b
  pub each : (b : ℕ) → own m o b ≡ true → Alike m n b

-- ---- the request's words: "the same whatever stands in the other's records, provided that .."

-- the id i is met from a body of the office; and from a body of the other
unfoldable pub ours : (Model → ℕ → List ℕ) → Model → ℕ → ℕ → Bool
ours met m o i = any (λ b. own m o b && member i (met m b)) (run 0 m.bodies.used)

unfoldable pub theirs : (Model → ℕ → List ℕ) → Model → ℕ → ℕ → Bool
theirs met m o i = any (λ c. foreign m o c && member i (met m c)) (run 0 m.bodies.used)

-- one table of the two models
pub record OnlyTheirs {A : Type 0} (table : Model → Table A) (met : Model → ℕ → List ℕ) (m n : Model) (o : ℕ) : Type 0 where
  -- "no record is reached from both", in either model
  pub apart : (i : ℕ) → has (table m) i ≡ true → ours met m o i ≡ true → theirs met m o i ≡ false
  pub apart-too : (i : ℕ) → has (table n) i ≡ true → ours met n o i ≡ true → theirs met n o i ≡ false
  -- "an id met from its own bodies names a record in both cases or in neither"
  pub there : (i : ℕ) → ours met m o i ≡ true → has (table m) i ≡ has (table n) i
  -- "whatever stands in the other's records": any record but those is the same
  pub same : (i : ℕ) → has (table m) i ≡ true → has (table n) i ≡ true → theirs met m o i ≡ false → theirs met n o i ≡ false → (table m).slot i ≡ (table n).slot i

-- the two models differ in the other's records only. ("both sets of tables are readable" is a matter of the lent tables: a model is what readable ones hold)
pub record OthersDiffer (m n : Model) (o : ℕ) : Type 0 where
  pub version : m.version ≡ n.version
  pub precision : m.precision ≡ n.precision
  -- the office has the same bodies, with the same records; of the other's there may be more or fewer
  pub own_same : (b : ℕ) → own m o b ≡ own n o b
  pub bodies : (b : ℕ) → own m o b ≡ true → body m b ≡ body n b
  pub regions : OnlyTheirs (λ w. w.regions) regions_met m n o
  pub shells : OnlyTheirs (λ w. w.shells) shells_met m n o
  pub faces : OnlyTheirs (λ w. w.faces) faces_met m n o
  pub loops : OnlyTheirs (λ w. w.loops) loops_met m n o
  pub fins : OnlyTheirs (λ w. w.fins) fins_seen m n o
  pub edges : OnlyTheirs (λ w. w.edges) edges_met m n o
  pub vertices : OnlyTheirs (λ w. w.vertices) vertices_met m n o
  pub curves : OnlyTheirs (λ w. w.curves) curves_met m n o
  pub surfaces : OnlyTheirs (λ w. w.surfaces) surfaces_met m n o
