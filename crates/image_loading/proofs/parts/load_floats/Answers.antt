-- `image_loading::parts::load_floats` meets its contract. Assumes nothing.
use Prim.Native.Nat.{ℕ, ◌+◌, ◌*◌}
use native.Mathlib.Omega.{arith}
use mathlib.Core.Path.{ap₂, ◌∙◌}
use mathlib.Core.List.{List}
use lib.ListN.{drop, length-drop}
use Rattle.image_format.specs.Bytes.{floats_in}
use Rattle.image_laws.specs.Sizes.{all-floats}
use Rattle.image_loading.specs.Laws.{its-count, fixed-there, record-floats}
use Rattle.image_loading.proofs.parts.load_floats.Goals as goal

pub overflow_mul-numbers : goal.overflow_mul-numbers
overflow_mul-numbers c =
    let s = c in
    let count = its-count s.args.k s.requires.lies.table in
    let fixed = fixed-there s.args.k _ s.requires.lies in
    let left = length-drop s.args.at s.args.bytes.now in
    omega arith

pub overflow_add-at-2 : goal.overflow_add-at-2
overflow_add-at-2 c =
    let s = c in
    let count = its-count s.args.k s.requires.lies.table in
    let fixed = fixed-there s.args.k _ s.requires.lies in
    let left = length-drop s.args.at s.args.bytes.now in
    omega arith

pub get_floats-requires : goal.get_floats-requires
get_floats-requires c =
    let s = c in
    let count = its-count s.args.k s.requires.lies.table in
    let many = all-floats s.args.k s.requires.lies.table in
    let fixed = fixed-there s.args.k _ s.requires.lies in
    let left = length-drop s.args.at s.args.bytes.now in
    omega arith

pub returns : goal.returns
returns c =
    let s = c in
    let k = s.args.k in
    let b : List ℕ = s.args.bytes.now in
    let at = s.args.at in
    c.get_floats.ensures
    ∙ ap₂ (λ (n j : ℕ). floats_in n (drop (at + 2 + 4 * j) b)) s.requires.x_len (its-count k s.requires.lies.table)
    ∙ record-floats k b at s.requires.lies
