-- Kinds, senses, marks, optional ids, tolerances and carriers as words and floats, where `Decode.antt` of `memory_layout` reads them. Definitions only.
use Rattle.std.specs.Prelude.{ℕ, Bool, true, false, Float}
use Rattle.interval_arithmetic.specs.Ops.{zero_f}
use Rattle.geom_lines_planes.specs.declared.tolerance.Tolerance.{Tolerance}
use Rattle.geom_lines_planes.specs.declared.tolerance.Tolerance.TheVariants.{Own, Session}
use Rattle.geom_carriers.specs.declared.Carrier.{Carrier}
use Rattle.geom_carriers.specs.declared.Carrier.TheVariants as Carriers
use Rattle.memory_records.specs.declared.records.BodyKind.{BodyKind}
use Rattle.memory_records.specs.declared.records.BodyKind.TheVariants as Kinds
use Rattle.memory_records.specs.declared.records.Sense.{Sense}
use Rattle.memory_records.specs.declared.records.Sense.TheVariants as Senses
use Rattle.memory_records.specs.Seen.{Ref}
use Rattle.std.specs.Prelude.{Some, None}

abbrev pub kind_tag : BodyKind → ℕ
kind_tag Kinds.Acorn = 0
kind_tag Kinds.Wire = 1
kind_tag Kinds.Sheet = 2
kind_tag Kinds.Solid = 3
kind_tag Kinds.General = 4

abbrev pub sense_tag : Sense → ℕ
sense_tag Senses.Positive = 0
sense_tag Senses.Negative = 1

-- a yes or no
abbrev pub mark : Bool → ℕ
mark true = 1
mark false = 0

-- an optional id: its tag and the id, 0 where it is none
abbrev pub ref_tag : Ref → ℕ
ref_tag None = 0
ref_tag (Some i) = 1

abbrev pub ref_id : Ref → ℕ
ref_id None = 0
ref_id (Some i) = i

-- an optional tolerance: its tag and the float, 0 where it is none
abbrev pub tolerance_tag : Tolerance → ℕ
tolerance_tag Session = 0
tolerance_tag (Own t) = 1

abbrev pub tolerance_float : Tolerance → Float
tolerance_float Session = zero_f
tolerance_float (Own t) = t

abbrev pub carrier_tag : Carrier → ℕ
carrier_tag (Carriers.Line l) = 0
carrier_tag (Carriers.Plane s) = 1
carrier_tag Carriers.Other = 2
