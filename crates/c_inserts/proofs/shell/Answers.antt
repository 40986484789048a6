-- `c_inserts::shell` meets its contract. Assumes nothing.
use Rattle.c_values.specs.Laws.{put-inserted}
use borrow.Author.Rules.{rules}
use Rattle.c_inserts.proofs.shell.Goals as goal

pub returns : goal.returns
returns c =
    let p = put-inserted _ _ _ _ _ _ _ _ _ c.put_id.ensures c.insert_shell.ensures.answer in
    record { answer = p.0; slots = p.1; tables = c.insert_shell.ensures.tables; floats = c.insert_shell.ensures.floats }
