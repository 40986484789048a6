-- `c_slabs::put_profile` meets its contract. Assumes nothing.
use mathlib.Core.Path.{refl}
use Rattle.c_lent.specs.Laws.{value-crosses, refusal-crosses}
use Rattle.meaning_slabs.specs.Slabs.{area, breaks}
use Rattle.c_slabs.specs.Laws.{profile-cases}
use borrow.Author.Rules.{rules}
use Rattle.c_slabs.proofs.put_profile.Goals as goal

pub returns-in-Accepted : goal.returns-in-Accepted
returns-in-Accepted c = value-crosses profile-cases (area _) c.in-Accepted.is refl

pub returns-in-Broken : goal.returns-in-Broken
returns-in-Broken c = value-crosses profile-cases (breaks _ _) c.in-Broken.is refl

pub returns-in-Refused : goal.returns-in-Refused
returns-in-Refused c = refusal-crosses profile-cases _ c.in-Refused.is
