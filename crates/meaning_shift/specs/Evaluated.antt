-- What the statement asks, computed: the trial stone meets it; without its lid, or with a lid that is another body's, the number would change. Assumes nothing.
use Rattle.std.proofs.Common.{arith}
use Rattle.std.specs.Prelude.{◌≡◌, refl, true, false, [], ◌∷◌, eqb, pos, take}
use Rattle.std.proofs.Math.Option.{some}
use Rattle.float_vectors.specs.declared.vector.Point3.{Point3}
use Rattle.meaning.specs.Floats.{float_of}
use Rattle.meaning.specs.Lists.{member, count_if}
use Rattle.meaning.specs.Model.{Model, sheet, office-0, positive, changed, largest, body, region, face, point_of}
use Rattle.meaning.specs.Inquire.{is_solid}
use Rattle.meaning.specs.Formed.{well_formed, empty_report, topological_report}
use Rattle.meaning.specs.Stone.{table_of, a_shell, a_region, stone}
use Rattle.meaning.specs.Computing.{computing}
use Rattle.meaning_sheets.specs.Sheets.{six_volume, stone_refusal}
use Rattle.meaning_sheets.specs.Counting.{counting}
use Rattle.meaning_split_laws.specs.Decided.{decided}
use Rattle.meaning_shift.specs.Moving.{Movable, one_loop_each, backs_within, fronts_outside, fins_own, ends_there, placed, moved}

pub stone-movable : Movable largest stone 0 1
unfolding computing
stone-movable =
    record {
      formed = decided largest stone refl;
      there = omega arith;
      solid = refl;
      clean = refl;
      one = refl;
      own = refl;
      filled = refl;
      loops = refl;
      backs = refl;
      fronts = refl;
      fins = refl;
      ends = refl;
    }

-- 5 mm along, 7 back and 1 up
abbrev pub way : Point3
way = record { x = float_of 5; y = float_of 7; z = float_of 1 }

-- ---- what the sentence is needed for

-- "a stone with one face taken away": no shell lists the far end
abbrev lidless : Model
lidless =
    record {
      version = stone.version;
      precision = stone.precision;
      bodies = stone.bodies;
      regions = stone.regions;
      shells = changed stone.shells (λ i s. record { region = s.region; faces = take 5 s.faces; wire_edges = s.wire_edges; acorn_vertices = s.acorn_vertices });
      faces = stone.faces;
      loops = stone.loops;
      fins = stone.fins;
      edges = stone.edges;
      vertices = stone.vertices;
      curves = stone.curves;
      surfaces = stone.surfaces;
    }

-- it would weigh less on the way: of a body that is not shut the statement would be wrong
lidless-before : six_volume lidless 0 ≡ pos 393216
unfolding computing counting placed
lidless-before = refl

lidless-after : six_volume (placed lidless 0 (λ v. moved way (point_of lidless v))) 0 ≡ pos 147456
unfolding computing counting placed
lidless-after = refl

-- the same with the lid another body's, a sheet: its loop has a fin of each of the four edges there, so that the stone's edges have two fins all the same
abbrev lent : Model
lent =
    record {
      version = stone.version;
      precision = stone.precision;
      bodies = table_of (body stone 0) (record { kind = sheet; office = office-0; regions = 2 ∷ [] } ∷ []);
      regions = table_of (region stone 0) (region stone 1 ∷ a_region 1 false (2 ∷ []) ∷ []);
      shells = table_of (a_shell 0 (0 ∷ 1 ∷ 2 ∷ 3 ∷ 4 ∷ [])) (a_shell 1 (0 ∷ 1 ∷ 2 ∷ 3 ∷ 4 ∷ []) ∷ a_shell 2 (5 ∷ []) ∷ []);
      faces = table_of (face stone 0) (face stone 1 ∷ face stone 2 ∷ face stone 3 ∷ face stone 4 ∷ record { front = some 2; back = some 2; loops = 5 ∷ []; surface = some 5; sense = positive } ∷ []);
      loops = stone.loops;
      fins = stone.fins;
      edges = stone.edges;
      vertices = stone.vertices;
      curves = stone.curves;
      surfaces = stone.surfaces;
    }

-- all of the sentence holds of it but for "both fins of every edge of the body in loops of the body's own faces", and the number changes: that clause follows from no other
lent-formed : well_formed largest lent ≡ true
unfolding computing
lent-formed = refl

lent-clauses : is_solid (body lent 0).kind ∷ empty_report (topological_report lent 0) ∷ eqb (count_if (λ q. (region lent q).solid) (body lent 0).regions) 1 ∷ member 1 (body lent 0).regions ∷ (region lent 1).solid
    ∷ one_loop_each lent 0 ∷ backs_within lent 0 1 ∷ fronts_outside lent 0 ∷ ends_there lent 0 ∷ fins_own lent 0 ∷ []
    ≡ true ∷ true ∷ true ∷ true ∷ true ∷ true ∷ true ∷ true ∷ true ∷ false ∷ []
unfolding computing
lent-clauses = refl

lent-before : six_volume lent 0 ≡ pos 393216
unfolding computing counting placed
lent-before = refl

lent-after : six_volume (placed lent 0 (λ v. moved way (point_of lent v))) 0 ≡ pos 147456
unfolding computing counting placed
lent-after = refl

-- neither is refused: the sheet would take both numbers
lent-refusals : stone_refusal lent 0 ∷ stone_refusal (placed lent 0 (λ v. moved way (point_of lent v))) 0 ∷ [] ≡ 0 ∷ 0 ∷ []
unfolding computing counting placed
lent-refusals = refl
