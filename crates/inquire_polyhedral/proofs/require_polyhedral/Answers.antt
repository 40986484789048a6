-- `inquire_polyhedral::require_polyhedral` meets its contract: the tests one after the other. Assumes nothing.
use native.Mathlib.Omega.{arith}
use mathlib.Core.Path.{◌≡◌, sym, ◌∙◌}
use mathlib.Core.Bool.{true}
use Rattle.memory_layout.specs.Laws.{lists_of}
use Rattle.walk_paths.specs.Paths.{body_followed}
use Rattle.walk_paths.specs.Laws.{shelled-of}
use Rattle.inquire_polyhedral.specs.Laws.{body-missing, body-tested}
use Rattle.inquire_polyhedral.proofs.require_polyhedral.Goals as goal

pub body_followed-requires : goal.body_followed-requires
body_followed-requires c =
    let s = c in
    lists_of s.args.room.now s.args.words.now s.args.reals.now s.requires

pub returns-then-not-body_followed : goal.returns-then-not-body_followed
returns-then-not-body_followed c =
    let s = c in
    body-missing s.args.room.now s.args.words.now s.args.reals.now s.args.body (sym c.body_followed.ensures ∙ c.if-not-body_followed.true)

pub list-regions-requires : goal.list-regions-requires
list-regions-requires c =
    let s = c in
    let followed : body_followed s.args.room.now s.args.words.now s.args.body ≡ true = sym c.body_followed.ensures ∙ c.if-not-body_followed.false in
    record { lists = lists_of s.args.room.now s.args.words.now s.args.reals.now s.requires; j_bound = (omega arith, (shelled-of s.args.room.now s.args.words.now s.args.body followed).body) }

pub regions_refusal-flat-requires : goal.regions_refusal-flat-requires
regions_refusal-flat-requires c =
    let s = c in
    let followed : body_followed s.args.room.now s.args.words.now s.args.body ≡ true = sym c.body_followed.ensures ∙ c.if-not-body_followed.false in
    record { fit = s.requires; regions_value = rw c.list-regions.ensures (shelled-of s.args.room.now s.args.words.now s.args.body followed).regions }

pub regions_refusal-there-requires : goal.regions_refusal-there-requires
regions_refusal-there-requires c =
    let s = c in
    let followed : body_followed s.args.room.now s.args.words.now s.args.body ≡ true = sym c.body_followed.ensures ∙ c.if-not-body_followed.false in
    record { fit = s.requires; regions_value = rw c.list-regions.ensures (shelled-of s.args.room.now s.args.words.now s.args.body followed).regions }

pub regions_refusal-straight-requires : goal.regions_refusal-straight-requires
regions_refusal-straight-requires c =
    let s = c in
    let followed : body_followed s.args.room.now s.args.words.now s.args.body ≡ true = sym c.body_followed.ensures ∙ c.if-not-body_followed.false in
    record { fit = s.requires; regions_value = rw c.list-regions.ensures (shelled-of s.args.room.now s.args.words.now s.args.body followed).regions }

pub regions_refusal-wires-requires : goal.regions_refusal-wires-requires
regions_refusal-wires-requires c =
    let s = c in
    let followed : body_followed s.args.room.now s.args.words.now s.args.body ≡ true = sym c.body_followed.ensures ∙ c.if-not-body_followed.false in
    record { fit = s.requires; regions_value = rw c.list-regions.ensures (shelled-of s.args.room.now s.args.words.now s.args.body followed).regions }

pub returns : goal.returns
returns c =
    let s = c in
    let followed : body_followed s.args.room.now s.args.words.now s.args.body ≡ true = sym c.body_followed.ensures ∙ c.if-not-body_followed.false in
    rw (c.then-3.ensures, c.then-2.ensures, c.then.ensures, c.regions_refusal-wires.ensures, c.regions_refusal-straight.ensures, c.regions_refusal-there.ensures, c.regions_refusal-flat.ensures, c.list-regions.ensures) (body-tested s.args.room.now s.args.words.now s.args.reals.now s.args.body followed)
