-- `memory_lookups::carrier_found` meets its contract. Assumes nothing.
use Rattle.memory_layout.specs.Decode.{table, carrier_of}
use Rattle.memory_lookups.specs.declared.CarrierFound.TheVariants.{Is, Refused}
use Rattle.memory_lookups.specs.Inner.{carrier_answer}
use Rattle.memory_lookups.specs.Laws.{looked-up, look-refused, look-given}
use borrow.Author.Rules.{rules}
use Rattle.memory_lookups.proofs.carrier_found.Goals as goal

pub returns-then-number-ne0 : goal.returns-then-number-ne0
unfolding carrier_answer
returns-then-number-ne0 c =
    let s = c in
    look-refused s.args.room.now s.args.words.now s.args.reals.now Is Refused (λ r. r) (table s.args.room.now s.args.words.now s.args.reals.now s.args.k carrier_of) s.args.id c.refusal-number.result c.refusal-number.ensures c.if-number-ne0.true

pub carrier_at-requires : goal.carrier_at-requires
carrier_at-requires c =
    let s = c in
    let f = looked-up s.args.room.now s.args.words.now s.args.reals.now s.args.k s.args.id c.refusal-number.result c.refusal-number.ensures c.if-number-ne0.false in
    record { sized = f.0.sized; lt_k = s.requires; i_bound = f.1 }

pub returns : goal.returns
unfolding carrier_answer
returns c =
    let s = c in
    look-given s.args.room.now s.args.words.now s.args.reals.now Is Refused (λ r. r) (table s.args.room.now s.args.words.now s.args.reals.now s.args.k carrier_of) s.args.id c.refusal-number.result c.refusal-number.ensures c.carrier_at.result c.if-number-ne0.false c.carrier_at.ensures
