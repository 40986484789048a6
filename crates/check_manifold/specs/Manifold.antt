-- Equal senses as the code tests them. No reader of a public promise needs this file. Definitions only.
use Rattle.std.specs.Prelude.{ℕ, Bool, true, false, ◌&&◌}
use Rattle.meaning.specs.Model.{Model, has, fin}
use Rattle.meaning.specs.Faults.{same_sense}
use Rattle.memory_records.specs.declared.records.Sense.{Sense}
use Rattle.memory_records.specs.declared.records.Sense.TheVariants as Senses

-- `same_sense`
abbrev pub alike : Sense → Sense → Bool
alike Senses.Positive Senses.Positive = true
alike Senses.Positive Senses.Negative = false
alike Senses.Negative Senses.Positive = false
alike Senses.Negative Senses.Negative = true

-- the test of `manifold`
abbrev pub both_alike : Model → ℕ → ℕ → Bool
both_alike m i j = has m.fins i && has m.fins j && same_sense (fin m i).sense (fin m j).sense
