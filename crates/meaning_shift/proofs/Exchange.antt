-- The theorems of specs/Exchange.antt that rest on those of specs/ that the edits of must-fail/ make fail. Assumes nothing.
use Rattle.std.specs.Prelude.{ℕ, ◌≡◌, pos}
use Rattle.meaning.specs.Lists.{all}
use Rattle.meaning.specs.Model.{Model, Limits, body}
use Rattle.meaning_sheets.specs.Sheets.{Corner}
use Rattle.meaning_shift.specs.Sums.{sum_over, sum-none, exchanged}
use Rattle.meaning_shift.specs.Moving.{Movable}
use Rattle.meaning_shift.specs.Fins.{body_fins}
use Rattle.meaning_shift.proofs.Fins.{fins-once}
use Rattle.meaning_shift.specs.Exchange.{fin_lever, partner, fin-opposite, partner-in, lever-other}

-- ---- of a movable body

module _ (x : Limits) (m : Model) (b r : ℕ) (k : Movable x m b r) where
  -- so all of them add nothing
  pub fins-add-nothing : (t : Corner) → sum_over (fin_lever m t) (body_fins m b) ≡ pos 0
  fins-add-nothing t =
      sum-none (fin_lever m t) (partner m) (body_fins m b)
      (exchanged (partner m) (body_fins m b) (fins-once x m b r k) (partner-in x m b r k) (λ i h. (fin-opposite x m b r k i h).back)) (lever-other x m b r k t)
