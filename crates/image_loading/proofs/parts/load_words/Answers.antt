-- `image_loading::parts::load_words` meets its contract: the numbers at the front, then the lists behind the fixed part. Assumes nothing.
use Prim.Native.Nat.{ℕ, ◌+◌}
use native.Mathlib.Omega.{arith}
use mathlib.Core.Path.{ap, ap₂, ◌∙◌}
use mathlib.Core.List.{List, []}
use lib.ListN.{get_or, length-drop}
use Rattle.image_format.specs.Fields.{list_places_of}
use Rattle.image_record_test.specs.Facts.{its-size}
use Rattle.image_loading.specs.Steps.{lists_over, behind_lists}
use Rattle.image_loading.specs.Laws.{fixed-there, lists-there, record-laid, record-behind}
use Rattle.image_loading.proofs.parts.load_words.Goals as goal

pub overflow_add-lists : goal.overflow_add-lists
overflow_add-lists c =
    let s = c in
    let size = its-size s.args.k s.requires.lies.table in
    let fixed = fixed-there s.args.k _ s.requires.lies in
    let left = length-drop s.args.at s.args.bytes.now in
    omega arith

pub load_lists-requires : goal.load_lists-requires
load_lists-requires c =
    let s = c in
    let k = s.args.k in
    rw (its-size k s.requires.lies.table, c.load_front.auto.w, s.requires.w_len) (lists-there k s.args.bytes.now s.args.at s.requires.lies s.requires.at_in_bounds)

pub returns : goal.returns
returns c =
    let s = c in
    let k = s.args.k in
    let b : List ℕ = s.args.bytes.now in
    let at = s.args.at in
    let size = ap (λ (m : ℕ). at + m) (its-size k s.requires.lies.table) in
    let front = c.load_front.ensures in
    let lists = c.load_lists.ensures in record { w_after = lists.w_after ∙ ap₂ (lists_over (get_or list_places_of k []) b) size front ∙ record-laid k b at s.requires.lies s.args.w.now; value = lists.value ∙ ap (behind_lists (get_or list_places_of k []) b) size ∙ record-behind k b at s.requires.lies }
