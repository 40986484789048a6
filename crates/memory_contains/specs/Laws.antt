-- What the proofs of `contains` and `version` cite. Assumes nothing.
use Rattle.std.specs.Prelude.{ℕ, ◌<◌, ◌≡◌, refl, Bool, true, false, ◌||◌, cond, List, eqb, ltb, Float}
use Rattle.std.proofs.Common.{arith, eqb-true}
use Rattle.memory_layout.specs.Layout.{word}
use Rattle.memory_layout.specs.Decode.{version_of, decode}
use Rattle.memory_layout.specs.Readable.{version_ok}
use Rattle.memory_layout.specs.Laid.{version_tag}
use Rattle.geom_lines_planes.specs.declared.tolerance.Version.TheVariants.{First, Second}
use Rattle.memory_contains.specs.declared.EntityRef.{EntityRef}
use Rattle.memory_contains.specs.declared.EntityRef.TheVariants as Entities
use Rattle.memory_contains.specs.Answers.{contained}
use Rattle.memory_contains.specs.Inner.{table_of, id_of}

-- an entity's table is one of the first eight, and the entity exists where its id is below that table's count
pub table-small : (e : EntityRef) → table_of e < 8
unfolding table_of
table-small (Entities.Body i) = omega arith
table-small (Entities.Region i) = omega arith
table-small (Entities.Shell i) = omega arith
table-small (Entities.Face i) = omega arith
table-small (Entities.Loop i) = omega arith
table-small (Entities.Fin i) = omega arith
table-small (Entities.Edge i) = omega arith
table-small (Entities.Vertex i) = omega arith

pub contained-at : (room w : List ℕ) (x : List Float) (e : EntityRef) → ltb (id_of e) (word w (table_of e)) ≡ contained (decode room w x) e
unfolding decode table_of id_of
contained-at room w x (Entities.Body i) = refl
contained-at room w x (Entities.Region i) = refl
contained-at room w x (Entities.Shell i) = refl
contained-at room w x (Entities.Face i) = refl
contained-at room w x (Entities.Loop i) = refl
contained-at room w x (Entities.Fin i) = refl
contained-at room w x (Entities.Edge i) = refl
contained-at room w x (Entities.Vertex i) = refl

-- a version that refusal 9 lets through is its own number
pub version-itself : (n : ℕ) → version_ok n ≡ true → n ≡ version_tag (version_of n)
version-itself n = go (eqb n 1) (eqb n 2) (eqb-true n 1) (eqb-true n 2)
  where
    go : (t u : Bool) → (t ≡ true → n ≡ 1) → (u ≡ true → n ≡ 2) → (t || u) ≡ true → n ≡ version_tag (cond u Second First)
    go t true a b e = b refl
    go true false a b e = a refl
    go false false a b e = cc
