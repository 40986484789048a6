-- `stl_mesh_rows::lower::lay_edge` meets its contract: its fields, the count of its fins and the fins. Assumes nothing.
use Prim.Native.Nat.{◌+◌, ◌≤◌}
use native.Mathlib.Nat.{le_trans, le_of_eq}
use native.Mathlib.Omega.{arith}
use mathlib.Core.Path.{◌≡◌, refl, sym, ap, ◌∙◌}
use mathlib.Core.List.{◌∷◌}
use lib.ListN.{length, take, length-set}
use Rattle.stl_body.specs.Read.{fins_on}
use Rattle.stl_rows.specs.Rows.{appended_words}
use Rattle.stl_mesh_rows.specs.Flats.{edge-row-is}
use Rattle.stl_mesh_rows.proofs.lower.lay_edge.Goals as goal

pub fins_on-c-requires : goal.fins_on-c-requires
fins_on-c-requires c =
    let s = c in
    record { fin_bound = (s.requires.fin_bound.0, s.requires.fin_bound.1, s.requires.fin_bound.2, refl); edges_len_bound = s.requires.edges_len_bound }

pub slice_bounds-row-end : goal.slice_bounds-row-end
slice_bounds-row-end c =
    let called = c.fins_on-c in
    let row = called.new.row in
    let long = length-set row 7 called.result ∙ called.ensures.row_len in
    let e : 8 + called.result ≤ 16 = let f = c.requires.edges_len_bound in let n = called.ensures.value in omega arith in
    le_trans e (le_of_eq (sym long))

pub slice_bounds-append-end : goal.slice_bounds-append-end
slice_bounds-append-end c =
    let s = c in
    let called = c.fins_on-c in
    let fins = fins_on s.args.k s.args.fin (take s.args.m s.args.edges.now) in
    let count = called.ensures.value in
    let long : length (1 ∷ s.args.start ∷ 1 ∷ s.args.end ∷ 0 ∷ 0 ∷ 0 ∷ called.result ∷ fins) ≡ 8 + called.result = omega arith in
    sym (ap length (edge-row-is called.new.row s.args.start s.args.end fins called.result called.ensures.row_after) ∙ long)

pub append-requires : goal.append-requires
append-requires c =
    let s = c in
    let called = c.fins_on-c in
    let fins = fins_on s.args.k s.args.fin (take s.args.m s.args.edges.now) in
    let few = s.requires.edges_len_bound in
    let short : length (1 ∷ s.args.start ∷ 1 ∷ s.args.end ∷ 0 ∷ 0 ∷ 0 ∷ called.result ∷ fins) ≤ 16 = omega arith in
    record { space = s.requires.space; row_len_bound = le_trans (le_of_eq (ap length (edge-row-is called.new.row s.args.start s.args.end fins called.result called.ensures.row_after))) short }

pub returns : goal.returns
returns c =
    let s = c in
    let called = c.fins_on-c in
    let fins = fins_on s.args.k s.args.fin (take s.args.m s.args.edges.now) in
    c.append.ensures
    ∙ ap (λ l. appended_words s.args.room.now 6 l s.args.words.now) (edge-row-is called.new.row s.args.start s.args.end fins called.result called.ensures.row_after)
    ∙ ap (λ n. appended_words s.args.room.now 6 (1 ∷ s.args.start ∷ 1 ∷ s.args.end ∷ 0 ∷ 0 ∷ 0 ∷ n ∷ fins) s.args.words.now) called.ensures.value
