-- What a lookup, `contains` and the calls about an entry of a list answer an office, and leave (W-206). Definitions only.
-- "A call that names .. a body names its office, and a body of the other office is answered as if it did not exist": a record of another table is no body, and the same to both.
use Rattle.std.specs.Prelude.{ℕ, cond, List, eqb, set, Float}
use Rattle.geom_lines_planes.specs.Refuse.{answer}
use Rattle.meaning.specs.Model.{Model}
use Rattle.meaning.specs.Edits.{appended}
use Rattle.meaning.specs.Offices.{body_for}
use Rattle.memory_layout.specs.Names.{BODY_REGIONS}
use Rattle.memory_layout.specs.Layout.{word}
use Rattle.memory_layout.specs.Decode.{decode}
use Rattle.memory_layout.specs.Entries.{list_of, entry_refusal}
use Rattle.memory_layout.specs.declared.entries.Entry.{Entry}
use Rattle.memory_layout.specs.declared.entries.Entry.TheVariants as Entries
use Rattle.memory_records.specs.Seen.{seen_body}
use Rattle.memory_contains.specs.declared.Contained.{Contained}
use Rattle.memory_contains.specs.declared.Contained.TheVariants as Contents
use Rattle.memory_contains.specs.declared.EntityRef.{EntityRef}
use Rattle.memory_contains.specs.declared.EntityRef.TheVariants as Entities
use Rattle.memory_contains.specs.Answers.{contained}
use Rattle.memory_lookups.specs.declared.BodyFound.{BodyFound}
use Rattle.memory_lookups.specs.declared.BodyFound.TheVariants as Bodies
use Rattle.memory_lookups.specs.Lookup.{lookup_refusal}
use Rattle.memory_writes.specs.Put.{unless_refused}
use Rattle.edit_lists.specs.Place.{struck}
use Rattle.edit_lists.specs.Answers.{list_words, append_number}
use Rattle.memory_offices.specs.Sight.{by_office, body_asked}

abbrev pub entity_for : Model → ℕ → EntityRef → EntityRef
entity_for m o (Entities.Body i) = Entities.Body (body_for m o i)
entity_for m o (Entities.Region i) = Entities.Region i
entity_for m o (Entities.Shell i) = Entities.Shell i
entity_for m o (Entities.Face i) = Entities.Face i
entity_for m o (Entities.Loop i) = Entities.Loop i
entity_for m o (Entities.Fin i) = Entities.Fin i
entity_for m o (Entities.Edge i) = Entities.Edge i
entity_for m o (Entities.Vertex i) = Entities.Vertex i

-- the record i of list j
abbrev pub record_for : Model → ℕ → ℕ → ℕ → ℕ
record_for m o j i = cond (eqb j BODY_REGIONS) (body_for m o i) i

module _ (room w : List ℕ) (x : List Float) (o : ℕ) where
  unfoldable pub office_body_number : ℕ → ℕ
  office_body_number i = by_office room w x o (lookup_refusal room w x (decode room w x).bodies (body_asked room w x o i))

  unfoldable pub office_body : ℕ → BodyFound
  office_body i = answer Bodies.Is Bodies.Refused (office_body_number i) (seen_body ((decode room w x).bodies.slot (body_asked room w x o i)))

  -- behind 9 and the office's 1, `contains` is not refused
  unfoldable pub office_contains : EntityRef → Contained
  office_contains e = answer Contents.Is Contents.Refused (by_office room w x o 0) (contained (decode room w x) (entity_for (decode room w x) o e))

  -- ---- an entry of list j of record i

  abbrev pub record_asked : ℕ → ℕ → ℕ
  record_asked j i = record_for (decode room w x) o j i

  unfoldable pub office_entry_number : ℕ → ℕ → ℕ → ℕ
  office_entry_number j i place = by_office room w x o (entry_refusal room w x j (record_asked j i) place)

  unfoldable pub office_entry : ℕ → ℕ → ℕ → Entry
  office_entry j i place = answer Entries.Is Entries.Refused (office_entry_number j i place) (word (list_of room w j (record_asked j i)) place)

  unfoldable pub office_put_words : ℕ → ℕ → ℕ → ℕ → List ℕ
  office_put_words j i place id = unless_refused (office_entry_number j i place) (list_words room w j (record_asked j i) (set (list_of room w j (record_asked j i)) place id)) w

  unfoldable pub office_strike_words : ℕ → ℕ → ℕ → List ℕ
  office_strike_words j i place = unless_refused (office_entry_number j i place) (list_words room w j (record_asked j i) (struck (list_of room w j (record_asked j i)) place)) w

  unfoldable pub office_append_number : ℕ → ℕ → ℕ
  office_append_number j i = by_office room w x o (append_number room w x j (record_asked j i))

  unfoldable pub office_append_words : ℕ → ℕ → ℕ → List ℕ
  office_append_words j i id = unless_refused (office_append_number j i) (list_words room w j (record_asked j i) (appended (list_of room w j (record_asked j i)) id)) w
