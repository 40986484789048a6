-- `stl_mesh_rows::lower::append_fin` meets its contract. Assumes nothing.
use native.Mathlib.Omega.{arith}
use mathlib.Core.Path.{ap, ◌∙◌}
use mathlib.Core.List.{[], ◌∷◌}
use Rattle.stl_rows.specs.Rows.{appended_words}
use Rattle.stl_mesh_rows.proofs.lower.append_fin.Goals as goal

pub append-requires : goal.append-requires
append-requires c = record { space = c.requires; row_len_bound = omega arith }

pub returns : goal.returns
returns c =
    let s = c in
    c.append.ensures ∙ ap (λ n. appended_words s.args.room.now 5 (s.args.owner ∷ s.args.edge ∷ n ∷ 0 ∷ []) s.args.words.now) c.sense.ensures
