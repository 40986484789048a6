-- Tables, lists and places by name. A table and a list are numbers, and so is the place of a field among the words, or the floats, of its record. Definitions only.
use Rattle.std.specs.Prelude.{ℕ}

-- the tables, in the order of 01's largest tables: so stand their used counts among the words, and their capacities
abbrev pub BODIES : ℕ
BODIES = 0

abbrev pub REGIONS : ℕ
REGIONS = 1

abbrev pub SHELLS : ℕ
SHELLS = 2

abbrev pub FACES : ℕ
FACES = 3

abbrev pub LOOPS : ℕ
LOOPS = 4

abbrev pub FINS : ℕ
FINS = 5

abbrev pub EDGES : ℕ
EDGES = 6

abbrev pub VERTICES : ℕ
VERTICES = 7

abbrev pub CURVES : ℕ
CURVES = 8

abbrev pub SURFACES : ℕ
SURFACES = 9

-- the lists that records have
abbrev pub BODY_REGIONS : ℕ
BODY_REGIONS = 0

abbrev pub REGION_SHELLS : ℕ
REGION_SHELLS = 1

abbrev pub SHELL_FACES : ℕ
SHELL_FACES = 2

abbrev pub SHELL_WIRES : ℕ
SHELL_WIRES = 3

abbrev pub SHELL_ACORNS : ℕ
SHELL_ACORNS = 4

abbrev pub FACE_LOOPS : ℕ
FACE_LOOPS = 5

abbrev pub LOOP_FINS : ℕ
LOOP_FINS = 6

abbrev pub EDGE_FINS : ℕ
EDGE_FINS = 7

-- where a field stands among the words of its record; of an optional id the tag, and then the id

-- of a body
abbrev pub AT_BODY_KIND : ℕ
AT_BODY_KIND = 0

abbrev pub AT_BODY_OFFICE : ℕ
AT_BODY_OFFICE = 1

abbrev pub AT_BODY_REGIONS : ℕ
AT_BODY_REGIONS = 2

-- of a region
abbrev pub AT_REGION_BODY : ℕ
AT_REGION_BODY = 0

abbrev pub AT_REGION_SOLID : ℕ
AT_REGION_SOLID = 1

abbrev pub AT_REGION_SHELLS : ℕ
AT_REGION_SHELLS = 2

-- of a shell
abbrev pub AT_SHELL_REGION : ℕ
AT_SHELL_REGION = 0

abbrev pub AT_SHELL_FACES : ℕ
AT_SHELL_FACES = 1

abbrev pub AT_SHELL_WIRES : ℕ
AT_SHELL_WIRES = 514

abbrev pub AT_SHELL_ACORNS : ℕ
AT_SHELL_ACORNS = 771

-- of a face
abbrev pub AT_FACE_FRONT : ℕ
AT_FACE_FRONT = 0

abbrev pub AT_FACE_FRONT_ID : ℕ
AT_FACE_FRONT_ID = 1

abbrev pub AT_FACE_BACK : ℕ
AT_FACE_BACK = 2

abbrev pub AT_FACE_BACK_ID : ℕ
AT_FACE_BACK_ID = 3

abbrev pub AT_FACE_SURFACE : ℕ
AT_FACE_SURFACE = 4

abbrev pub AT_FACE_SURFACE_ID : ℕ
AT_FACE_SURFACE_ID = 5

abbrev pub AT_FACE_SENSE : ℕ
AT_FACE_SENSE = 6

abbrev pub AT_FACE_LOOPS : ℕ
AT_FACE_LOOPS = 7

-- of a loop
abbrev pub AT_LOOP_FACE : ℕ
AT_LOOP_FACE = 0

abbrev pub AT_LOOP_FINS : ℕ
AT_LOOP_FINS = 1

-- of a fin
abbrev pub AT_FIN_LOOP : ℕ
AT_FIN_LOOP = 0

abbrev pub AT_FIN_EDGE : ℕ
AT_FIN_EDGE = 1

abbrev pub AT_FIN_SENSE : ℕ
AT_FIN_SENSE = 2

abbrev pub AT_FIN_PCURVE : ℕ
AT_FIN_PCURVE = 3

-- of an edge
abbrev pub AT_EDGE_START : ℕ
AT_EDGE_START = 0

abbrev pub AT_EDGE_START_ID : ℕ
AT_EDGE_START_ID = 1

abbrev pub AT_EDGE_END : ℕ
AT_EDGE_END = 2

abbrev pub AT_EDGE_END_ID : ℕ
AT_EDGE_END_ID = 3

abbrev pub AT_EDGE_CURVE : ℕ
AT_EDGE_CURVE = 4

abbrev pub AT_EDGE_CURVE_ID : ℕ
AT_EDGE_CURVE_ID = 5

abbrev pub AT_EDGE_TOLERANCE : ℕ
AT_EDGE_TOLERANCE = 6

abbrev pub AT_EDGE_FINS : ℕ
AT_EDGE_FINS = 7

-- of a vertex
abbrev pub AT_VERTEX_TOLERANCE : ℕ
AT_VERTEX_TOLERANCE = 0

-- of a carrier
abbrev pub AT_CARRIER_TAG : ℕ
AT_CARRIER_TAG = 0

-- where the version of the drawing practice stands among the words: behind the ten used counts (W-211)
abbrev pub VERSION : ℕ
VERSION = 10

-- where the session precision stands among the floats
abbrev pub PRECISION : ℕ
PRECISION = 0

-- and a field among the floats of its record
abbrev pub FLOAT_EDGE_TOLERANCE : ℕ
FLOAT_EDGE_TOLERANCE = 0

abbrev pub FLOAT_VERTEX_POINT : ℕ
FLOAT_VERTEX_POINT = 0

abbrev pub FLOAT_VERTEX_TOLERANCE : ℕ
FLOAT_VERTEX_TOLERANCE = 3

abbrev pub FLOAT_CARRIER_ORIGIN : ℕ
FLOAT_CARRIER_ORIGIN = 0

abbrev pub FLOAT_CARRIER_DIRECTION : ℕ
FLOAT_CARRIER_DIRECTION = 3
