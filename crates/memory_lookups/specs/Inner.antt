-- What the function behind the lookups of curves and surfaces answers, by the number of the table. No reader of a public promise needs this file. Definitions only.
use Rattle.std.specs.Prelude.{ℕ, List, Float}
use Rattle.memory_layout.specs.Decode.{table, carrier_of}
use Rattle.memory_lookups.specs.declared.CarrierFound.{CarrierFound}
use Rattle.memory_lookups.specs.declared.CarrierFound.TheVariants as Carriers
use Rattle.memory_lookups.specs.Lookup.{looked}

module _ (room w : List ℕ) (x : List Float) where
  unfoldable pub carrier_answer : ℕ → ℕ → CarrierFound
  carrier_answer k = looked room w x Carriers.Is Carriers.Refused (λ c. c) (table room w x k carrier_of)
