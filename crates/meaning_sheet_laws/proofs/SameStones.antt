-- The same bodies asked for in another order: where the sheet has room for all of them, the same stones are taken. This rests on that of proofs/Orders.antt. Assumes nothing.
use Rattle.std.specs.Prelude.{◌+◌, ◌≤◌, ◌≡◌, true, length}
use Rattle.std.proofs.Common.{arith}
use mathlib.Core.List.Perm
use mathlib.Core.List.{List, Perm}
use Rattle.meaning.specs.Model.{Model}
use Rattle.meaning_sheets.specs.Sheets.{Sheet, sheet_readable, Ask}
use Rattle.meaning_sheet_laws.specs.Terms.{taken_stones}
use Rattle.meaning_sheet_laws.specs.Orders.{same_length, asked_stone}
use Rattle.meaning_sheet_laws.proofs.Orders.{taken-asked}

pub same-stones : (m : Model) (l k : List Ask) (h : Sheet) → Perm l k → sheet_readable h ≡ true → h.stones + length l ≤ 65536
    → Perm (taken_stones m l h) (taken_stones m k h)
same-stones m l k h p r q =
    let e : length l ≡ length k = same_length p in
    rw (taken-asked m l h r q, taken-asked m k h r (omega arith)) (Perm.filter_map (asked_stone m) p)
