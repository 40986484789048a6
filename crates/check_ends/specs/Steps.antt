-- Laws of one step of the checker after the other. Assumes nothing.
use Rattle.std.specs.Prelude.{ℕ, ◌≡◌, List, ◌++◌}
use Rattle.std.proofs.Common.{sym}
use Rattle.meaning.specs.Faults.{Finding}
use Rattle.check_reasons.specs.declared.Tally.{Tally}
use Rattle.check_reasons.specs.Log.{Noted, Enough}
use Rattle.check_reasons.specs.Laws.{noted-same, noted-then, enough-same, enough-first, enough-then}

-- two steps: there are numbers for the first, for the second after the first, and together they are logged
module _ (l a b : List Finding) (e : l ≡ a ++ b) where
  pub enough-one : {t : Tally} → Enough t l → Enough t a
  enough-one {t} n = enough-first t a b (enough-same e n)

  pub enough-two : {d d₁ : List ℕ} {t t₁ : Tally} → Enough t l → Noted a d t d₁ t₁ → Enough t₁ b
  enough-two n p = enough-then (enough-same e n) p

  pub noted-two : {d d₁ d₂ : List ℕ} {t t₁ t₂ : Tally} → Noted a d t d₁ t₁ → Noted b d₁ t₁ d₂ t₂ → Noted l d t d₂ t₂
  noted-two p q = noted-same (sym e) (noted-then p q)
