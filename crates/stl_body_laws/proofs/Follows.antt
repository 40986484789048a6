-- What follows from proofs/Statements.antt: a model whose carriers are set stays well formed, and a file written, read and written again is the same. Assumes nothing.
use Rattle.std.specs.Prelude.{ℕ, ◌^◌, ◌≤◌, ◌<◌, ◌≡◌}
use Rattle.std.proofs.Common.{sym, ap, ◌∙◌}
use Rattle.std.proofs.Math.Bool.{true}
use mathlib.Core.List.{List}
use Rattle.std.proofs.Math.Option.{Option}
use Rattle.std.proofs.Math.ListN.{length}
use Rattle.geom_carriers.specs.declared.Carrier.{Carrier}
use Rattle.meaning.specs.Model.{Model, Limits, Table}
use Rattle.meaning.specs.Inquire.{solid_sides}
use Rattle.meaning.specs.Formed.{has_maybe, WellFormed}
use Rattle.stl_format.specs.Stl.{Triangle, triangles_of, stl_of, body_stl, stl_refusal}
use Rattle.stl_body.specs.Read.{stl_triangles, corners, Mesh, mesh_of, read_refusal, model_after_read}
use Rattle.stl_body.specs.Laws.{holds}
use Rattle.stl_body_laws.specs.Terms.{dressed, plain_point}
use Rattle.stl_body_laws.specs.Kept.{dressed-formed}
use Rattle.stl_body_laws.specs.Again.{reads-back}
use Rattle.stl_body_laws.proofs.Statements.{stays-formed, written-exactly}

module _ (x : Limits) (m : Model) (o : ℕ) (s : List ℕ) (h : read_refusal x m o s ≡ 0) where
  abbrev read : List Triangle
  read = stl_triangles s

  abbrev mesh : Mesh
  mesh = mesh_of read

  abbrev now : Model
  now = model_after_read x m o s

  abbrev new : ℕ
  new = m.bodies.used

  module _ (curves surfaces : Table Carrier) (along on : ℕ → Option ℕ) where
    abbrev set : Model
    set = dressed now curves surfaces along on

    -- with carriers that are there the model is well formed still
    pub set-formed : WellFormed x m → curves.used ≤ x.curves → surfaces.used ≤ x.surfaces → ((i : ℕ) → i < now.faces.used → has_maybe surfaces (on i) ≡ true)
        → ((i : ℕ) → i < now.edges.used → has_maybe curves (along i) ≡ true) → WellFormed x set
    set-formed w = dressed-formed now curves surfaces along on x (stays-formed x m o s w)

    -- so a file that W-209 wrote, read and written again is the same file where it has no zero below zero
    pub same-file : (k : Model) (c : ℕ) → stl_refusal k c ≡ 0 → length (triangles_of k (solid_sides k c)) < 2 ^ 32 → s ≡ body_stl k c → holds plain_point (corners read) ≡ true → body_stl set new ≡ s
    same-file k c w few e g = ap stl_of (written-exactly x m o s h curves surfaces along on g ∙ ap stl_triangles e ∙ reads-back k c w few) ∙ sym e
