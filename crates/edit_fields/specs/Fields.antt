-- The fields of a record as words and floats: what an insert or a set writes, in the places where `Decode.antt` of `memory_layout` reads them. Definitions only.
use Rattle.std.specs.Prelude.{ℕ, Bool, List, [], ◌∷◌, Float}
use Rattle.interval_arithmetic.specs.Ops.{zero_f}
use Rattle.float_vectors.specs.declared.vector.Point3.{Point3}
use Rattle.float_vectors.specs.declared.vector.Vec3.{Vec3}
use Rattle.geom_lines_planes.specs.declared.tolerance.Tolerance.{Tolerance}
use Rattle.geom_carriers.specs.declared.Carrier.{Carrier}
use Rattle.geom_carriers.specs.declared.Carrier.TheVariants as Carriers
use Rattle.memory_records.specs.declared.records.BodyKind.{BodyKind}
use Rattle.memory_records.specs.declared.records.Sense.{Sense}
use Rattle.memory_records.specs.Seen.{Ref}
use Rattle.edit_tags.specs.Tags.{kind_tag, sense_tag, mark, ref_tag, ref_id, tolerance_tag, tolerance_float, carrier_tag}

-- ---- the words of each record's fields

-- W-206, "Each body carries an office number"
unfoldable pub body_fields : BodyKind → ℕ → List ℕ
body_fields kind office = kind_tag kind ∷ office ∷ []

-- what a set writes of a body, which stays with its office
unfoldable pub kind_fields : BodyKind → List ℕ
kind_fields kind = kind_tag kind ∷ []

unfoldable pub region_fields : ℕ → Bool → List ℕ
region_fields body solid = body ∷ mark solid ∷ []

abbrev pub shell_fields : ℕ → List ℕ
shell_fields region = region ∷ []

unfoldable pub face_fields : Ref → Ref → Ref → Sense → List ℕ
face_fields front back surface sense =
    ref_tag front ∷ ref_id front ∷ ref_tag back ∷ ref_id back ∷ ref_tag surface ∷ ref_id surface ∷ sense_tag sense ∷ []

abbrev pub loop_fields : ℕ → List ℕ
loop_fields face = face ∷ []

unfoldable pub fin_fields : ℕ → ℕ → Sense → Bool → List ℕ
fin_fields owner edge sense pcurve = owner ∷ edge ∷ sense_tag sense ∷ mark pcurve ∷ []

unfoldable pub edge_fields : Ref → Ref → Ref → Tolerance → List ℕ
edge_fields start end curve tolerance =
    ref_tag start ∷ ref_id start ∷ ref_tag end ∷ ref_id end ∷ ref_tag curve ∷ ref_id curve ∷ tolerance_tag tolerance ∷ []

unfoldable pub vertex_fields : Tolerance → List ℕ
vertex_fields tolerance = tolerance_tag tolerance ∷ []

unfoldable pub carrier_fields : Carrier → List ℕ
carrier_fields carrier = carrier_tag carrier ∷ []

-- ---- and its floats, of a record that has some

unfoldable pub edge_floats : Tolerance → List Float
edge_floats tolerance = tolerance_float tolerance ∷ []

unfoldable pub vertex_floats : Point3 → Tolerance → List Float
vertex_floats p tolerance = p.x ∷ p.y ∷ p.z ∷ tolerance_float tolerance ∷ []

abbrev pub six : Point3 → Vec3 → List Float
six p v = p.x ∷ p.y ∷ p.z ∷ v.x ∷ v.y ∷ v.z ∷ []

unfoldable pub carrier_floats : Carrier → List Float
carrier_floats (Carriers.Line l) = six l.origin l.direction
carrier_floats (Carriers.Plane s) = six s.origin s.normal
carrier_floats Carriers.Other = zero_f ∷ zero_f ∷ zero_f ∷ zero_f ∷ zero_f ∷ zero_f ∷ []
