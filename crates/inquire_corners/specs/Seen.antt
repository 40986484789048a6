-- A corner of the code as the definitions have it. No reader of a public promise needs this file. Definitions only.
use Rattle.meaning_sheets.specs.Sheets as Sheets
use Rattle.inquire_corners.specs.declared.Corner.{Corner}

abbrev pub seen : Corner → Sheets.Corner
seen c = record { x = c.x; y = c.y; z = c.z }
