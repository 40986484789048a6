-- Refusals by name, and the number of each (01, "Refusal numbers"): "1 bad argument", "2 a named or needed record does not exist", "4 degenerate", "6 volume of a body that isn't
-- solid", "7 unimplemented, or unresolved sign", "8 no slot in a table or list", "9 tables unreadable"; W-201, "5 for a coordinate off the grid". Definitions only.
use Rattle.std.specs.Prelude.{ℕ, if◌then◌else◌, ◌==◌, Result, Ok, Err}
use Rattle.geom_lines_planes.specs.declared.refusal.Refusal.{Refusal}
use Rattle.geom_lines_planes.specs.declared.refusal.Refusal.TheVariants.{BadArgument, NotFound, Degenerate, OffGrid, NotSolid, Unresolved, NoRoom, Unreadable, Other}
use Rattle.geom_lines_planes.specs.Refuse.{answer}

-- the refusal of a number, and of one that 01 does not give
abbrev pub refusal : ℕ → Refusal
refusal n =
    if n == 1 then BadArgument
    else if n == 2 then NotFound
    else if n == 4 then Degenerate
    else if n == 5 then OffGrid
    else if n == 6 then NotSolid
    else if n == 7 then Unresolved
    else if n == 8 then NoRoom
    else if n == 9 then Unreadable
    else Other n

abbrev pub number_of : Refusal → ℕ
number_of BadArgument = 1
number_of NotFound = 2
number_of Degenerate = 4
number_of OffGrid = 5
number_of NotSolid = 6
number_of Unresolved = 7
number_of NoRoom = 8
number_of Unreadable = 9
number_of (Other n) = n

-- an answer refused by its number
abbrev pub refused : {B : Type 0} → ℕ → Result B Refusal
refused n = Err (refusal n)

-- an answer by 01's number and its value: 0 is the value's, any other the refusal's
abbrev pub answered : {B : Type 0} → ℕ → B → Result B Refusal
answered = answer Ok refused
