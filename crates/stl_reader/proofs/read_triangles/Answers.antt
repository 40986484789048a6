-- `stl_reader::read_triangles` meets its contract. Assumes nothing.
use mathlib.Core.Path.{refl}
use Rattle.stl_body.specs.Read.{stl_triangles, mesh_of}
use Rattle.stl_body.proofs.Meshes.{mesh-ranged}
use Rattle.stl_reader.specs.Laws.{corners-read, steps-read, flattened}
use borrow.Author.Rules.{rules}
use Rattle.stl_reader.proofs.read_triangles.Goals as goal

pub number_corners-v-requires : goal.number_corners-v-requires
number_corners-v-requires c =
    let s = c in
    corners-read s.args.room.now s.args.words.now s.args.reals.now s.args.office s.args.bytes.now s.requires.early s.args.n s.requires.n_value s.requires.n_bound _ _ refl refl

pub number_edges-e-requires : goal.number_edges-e-requires
number_edges-e-requires c =
    let s = c in
    steps-read s.args.room.now s.args.words.now s.args.reals.now s.args.office s.args.bytes.now s.requires.early s.args.n s.requires.n_value s.requires.n_bound _ _ _ _ _ refl refl c.number_corners-v.ensures _ _ refl refl

pub lay_where_room-requires : goal.lay_where_room-requires
lay_where_room-requires c =
    let s = c in
    record { fit = s.requires.early.fit; meshed = record { mesh = mesh_of (stl_triangles s.args.bytes.now); flat = flattened s.args.room.now s.args.words.now s.args.reals.now s.args.office s.args.bytes.now s.requires.early s.args.n s.requires.n_value s.requires.n_bound _ _ _ _ _ refl refl c.number_corners-v.ensures _ _ _ _ _ refl refl c.number_edges-e.ensures; ranged = mesh-ranged (stl_triangles s.args.bytes.now) s.requires.early.finite; few = s.requires.n_bound } }

pub returns : goal.returns
returns c =
    let s = c in
    c.lay_where_room.ensures (mesh_of (stl_triangles s.args.bytes.now)) (flattened s.args.room.now s.args.words.now s.args.reals.now s.args.office s.args.bytes.now s.requires.early s.args.n s.requires.n_value s.requires.n_bound _ _ _ _ _ refl refl c.number_corners-v.ensures _ _ _ _ _ refl refl c.number_edges-e.ensures)
