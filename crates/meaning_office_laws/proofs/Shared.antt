-- An edge in walks of both offices is refused to both: rests on `foreign-edge-refused` of proofs/Statements.antt. Assumes nothing.
use Rattle.std.specs.Prelude.{ℕ, zero, suc, ◌<◌, ◌≡◌, true, leb, Float}
use Rattle.std.proofs.Common.{arith, lt-ltb, leb-true}
use Rattle.meaning.specs.Model.{Model, Limits, office-0, office-1, body}
use Rattle.meaning.specs.Refuse.{refused}
use Rattle.meaning.specs.Split.{test1}
use Rattle.meaning.specs.Formed.{has_edge}
use Rattle.meaning.specs.Offices.{office_split}
use Rattle.meaning_office_laws.proofs.Statements.{foreign-edge-refused}

-- so an edge in walks of both offices is refused to both
pub shared-edge-refused : (x : Limits) (m : Model) (o e : ℕ) (t : Float) → leb o 1 ≡ true → test1 t ≡ 0 → (b c : ℕ) → b < m.bodies.used → c < m.bodies.used
    → (body m b).office ≡ office-0 → (body m c).office ≡ office-1 → has_edge m b e ≡ true → has_edge m c e ≡ true → office_split x m o e t ≡ refused 2
shared-edge-refused x m zero e t h f b c hb hc p q eb ec = foreign-edge-refused x m 0 e t h f c (rw (lt-ltb c m.bodies.used hc, q)) ec
shared-edge-refused x m (suc zero) e t h f b c hb hc p q eb ec = foreign-edge-refused x m 1 e t h f b (rw (lt-ltb b m.bodies.used hb, p)) eb
shared-edge-refused x m (suc (suc o)) e t h f b c hb hc p q eb ec = absurd (omega (arith, leb-true (suc (suc o)) 1 h))
