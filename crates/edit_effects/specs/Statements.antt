-- What each insert and each set of a record does to the model: one record more, with empty lists, or one record with other fields and its own lists; all else
-- as it was. A refusal leaves every word and float (`Leaves.antt`). The fields are those that the promises name. Assumes nothing.
use Prim.Native.Nat.{ℕ}
use Rattle.std.specs.Prelude.{◌≡◌, Float}
use Rattle.std.proofs.Math.Path.{refl}
use mathlib.Core.List.{List}
use Rattle.meaning.specs.Model.{Model}
use Rattle.memory_layout.specs.Decode.{decode}
use Rattle.memory_records.specs.declared.records.BodyKind.{BodyKind}
use Rattle.memory_records.specs.declared.records.BodyKind.TheVariants as Kinds
use Rattle.memory_records.specs.declared.records.Sense.{Sense}
use Rattle.memory_records.specs.declared.records.Sense.TheVariants as Senses
use Rattle.memory_records.specs.Seen.{Ref}
use Rattle.std.specs.Prelude.{Some, None}
use Rattle.memory_records.specs.Seen.{seen_kind, seen_sense, seen_ref}
use Rattle.edit_effects.specs.Meant.{meant_kind, meant_sense, meant_ref}

module _ (room w : List ℕ) (x : List Float) where
  -- the model that stands in the memory
  abbrev m : Model
  m = decode room w x

-- what a lookup then gives of a field is what was put into it
pub kind-seen : (kind : BodyKind) → seen_kind (meant_kind kind) ≡ kind
unfolding seen_kind meant_kind
kind-seen Kinds.Acorn = refl
kind-seen Kinds.Wire = refl
kind-seen Kinds.Sheet = refl
kind-seen Kinds.Solid = refl
kind-seen Kinds.General = refl

pub sense-seen : (sense : Sense) → seen_sense (meant_sense sense) ≡ sense
unfolding seen_sense meant_sense
sense-seen Senses.Positive = refl
sense-seen Senses.Negative = refl

pub ref-seen : (id : Ref) → seen_ref (meant_ref id) ≡ id
unfolding seen_ref meant_ref
ref-seen None = refl
ref-seen (Some i) = refl
