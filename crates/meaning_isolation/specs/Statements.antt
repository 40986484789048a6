-- What is told of a body of the other office (W-206): as if it did not exist.
-- The answers are compared whole: the value, or the refusal and its number. Assumes nothing.
use Rattle.std.specs.Prelude.{ℕ, ◌≡◌, true}
use Rattle.std.proofs.Common.{◌∙◌}
use Rattle.meaning.specs.Model.{Model, has}
use Rattle.meaning.specs.Offices.{foreign, body_for}
use Rattle.meaning_isolation.specs.Told.{NoSuchBody}
use Rattle.meaning_isolation.specs.Offices.{own}
use Rattle.meaning_isolation.specs.Asked.{there-for, foreign-other, no-such-body}

-- ---- for an office: what it is told of an id b is what is told of `body_for m o b`, behind 1 for an office above 1, which asks nothing of the tables

-- a body is there for its office, and for no other
pub there-for-its-office : (m : Model) (o b : ℕ) → has m.bodies (body_for m o b) ≡ own m o b
there-for-its-office = there-for

-- "a body of the other office is answered as if it did not exist"
pub foreign-as-missing : (m : Model) (o b : ℕ) → foreign m o b ≡ true → NoSuchBody m (body_for m o b)
foreign-as-missing m o b h = no-such-body m (body_for m o b) (there-for m o b ∙ foreign-other m o b h)
