-- What a table has under an id: a carrier, or none. Definitions only.
use Rattle.std.specs.Prelude.{Option}
use Rattle.geom_carriers.specs.declared.Carrier.{Carrier}

abbrev pub Found : Type 0
Found = Option Carrier
