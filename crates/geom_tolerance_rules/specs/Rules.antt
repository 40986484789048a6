-- What W-211 asks of both rules: "the tolerance is one of the two numbers, and raising either never lowers it". Definitions only.
-- The two numbers are the record's own tolerance and the session's; a float that is not a number compares with none.
use Rattle.std.specs.Prelude.{◌≡◌, ◌⊎◌, T, Float}
use Rattle.std.specs.Float.Ieee.{le}

pub record Fair (rule : Float → Float → Float) : Type 0 where
  pub one-of : (own session : Float) → (rule own session ≡ own) ⊎ (rule own session ≡ session)
  pub rises : (own own' session session' : Float) → T (le own own') → T (le session session') → T (le (rule own session) (rule own' session'))
