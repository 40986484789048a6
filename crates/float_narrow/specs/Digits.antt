-- A float's pattern, without its sign, read as binary32 would have it. No reader of a public promise needs this file. Definitions only.
use Rattle.std.specs.Prelude.{ℕ, ◌+◌, ◌-◌, ◌/◌, ◌%◌, ◌^◌, Bool, cond, ◌&&◌, eqb, ltb}

unfoldable pub held : ℕ → Bool
held a =
    cond (ltb (a / 0x10000000000000) 874) (eqb a 0)
    (cond (ltb (a / 0x10000000000000) 897) (eqb ((0x10000000000000 + a % 0x10000000000000) % 2 ^ (926 - a / 0x10000000000000)) 0)
    (ltb (a / 0x10000000000000) 1151 && eqb (a % 0x20000000) 0))
