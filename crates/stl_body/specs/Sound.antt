-- The options of a check without geometry. Definitions only.
use Rattle.std.specs.Prelude.{false}
use Rattle.meaning.specs.Faults.{CheckOptions}

abbrev pub topology : CheckOptions
topology = record { geometry = false; edge_samples = 0 }
