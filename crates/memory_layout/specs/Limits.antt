-- How many records the lent tables hold, and how many entries each list. Definitions only.
use Rattle.std.specs.Prelude.{ℕ, List}
use Rattle.meaning.specs.Model.{Limits}
use Rattle.memory_layout.specs.Names.{BODIES, REGIONS, SHELLS, FACES, LOOPS, FINS, EDGES, VERTICES, CURVES, SURFACES}
use Rattle.memory_layout.specs.Layout.{word}

-- 01, "capacity is what is lent"; "Lists: body 16 regions; .."
abbrev pub limits : List ℕ → Limits
limits room =
    record {
      bodies = word room BODIES;
      regions = word room REGIONS;
      shells = word room SHELLS;
      faces = word room FACES;
      loops = word room LOOPS;
      fins = word room FINS;
      edges = word room EDGES;
      vertices = word room VERTICES;
      curves = word room CURVES;
      surfaces = word room SURFACES;
      body_regions = 16;
      region_shells = 16;
      shell_faces = 512;
      shell_wire_edges = 256;
      shell_acorn_vertices = 64;
      face_loops = 16;
      loop_fins = 1024;
      edge_fins = 8;
    }
