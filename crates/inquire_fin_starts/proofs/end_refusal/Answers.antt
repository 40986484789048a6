-- `inquire_fin_starts::end_refusal` meets its contract. Assumes nothing.
use Rattle.inquire_fin_starts.specs.Starts.{end_number}
use Rattle.inquire_fin_starts.proofs.end_refusal.Goals as goal

pub returns : goal.returns
unfolding end_number
returns c = rw (c.then.ensures, c.unless-2.ensures, c.unless.ensures)
