-- The checker's start, and which bodies are solid. No reader of a public promise needs this file. Definitions only.
use Rattle.std.specs.Prelude.{Bool, true, false, cond}
use Rattle.memory_records.specs.declared.records.BodyKind.{BodyKind}
use Rattle.memory_records.specs.declared.records.BodyKind.TheVariants as Kinds
use Rattle.check_reasons.specs.declared.Tally.{Tally}
use Rattle.check_reasons.specs.Log.{FIRST}

-- nothing found so far, where the first fault is all that is asked for or where all of it is
abbrev pub nothing_yet : Bool → Tally
nothing_yet first = record { faults = 0; unchecked = cond first FIRST 0 }

-- `is_solid`
abbrev pub solid_kind : BodyKind → Bool
solid_kind Kinds.Acorn = false
solid_kind Kinds.Wire = false
solid_kind Kinds.Sheet = false
solid_kind Kinds.Solid = true
solid_kind Kinds.General = false
