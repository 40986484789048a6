-- `inquire_box::extent::path_box` meets its contract. Assumes nothing.
use native.Mathlib.Omega.{arith}
use mathlib.Core.Path.{◌≡◌, sym, ap, ◌∙◌}
use mathlib.Core.Bool.{true}
use lib.Dec.{ltb}
use lib.ListN.{length, replicate}
use lib.Seq.{length-take-le}
use Rattle.meaning.specs.Lists.{all, firsts}
use Rattle.meaning_list_laws.specs.Lists.{all_firsts}
use Rattle.memory_layout.specs.Layout.{word}
use Rattle.memory_layout.specs.Laws.{lists_of}
use Rattle.walk_sources.specs.Laws.{used-words}
use Rattle.walk_visits.specs.Visits.{ids_of}
use Rattle.walk_paths.specs.Laws.{firsts-short, visited-front, visited-short}
use Rattle.walk_answers.specs.Laws.{marked-zeros}
use Rattle.inquire_box.specs.Walked.{extent_box}
use Rattle.inquire_box.specs.Laws.{box-missing, box-walked}
use Rattle.inquire_box.proofs.extent.path_box.Goals as goal

pub bounds-words-7 : goal.bounds-words-7
bounds-words-7 c =
    let s = c in
    used-words s.args.room.now s.args.words.now 7 (lists_of s.args.room.now s.args.words.now s.args.reals.now s.requires.fit) (omega arith)

pub all_listed-requires : goal.all_listed-requires
all_listed-requires c =
    let s = c in
    record { lists = lists_of s.args.room.now s.args.words.now s.args.reals.now s.requires.fit; sources = s.requires.sources }

pub returns-then-not-all_listed : goal.returns-then-not-all_listed
returns-then-not-all_listed c =
    let s = c in
    record { value = box-missing s.args.room.now s.args.words.now s.args.reals.now (ids_of s.args.room.now s.args.words.now s.args.path.now) (sym c.all_listed.ensures ∙ c.if-not-all_listed.true); marks_after = s.requires.marks_value }

pub visit-n-requires : goal.visit-n-requires
visit-n-requires c =
    let s = c in
    record { lists = lists_of s.args.room.now s.args.words.now s.args.reals.now s.requires.fit; sources = s.requires.sources; path_len_bound = s.requires.path_len_bound; marked = marked-zeros (length s.args.marks.now) _ s.requires.marks_value }

pub slice_bounds-list-end : goal.slice_bounds-list-end
slice_bounds-list-end c =
    let s = c in
    let there : all (λ v. ltb v (word s.args.words.now 7)) (ids_of s.args.room.now s.args.words.now s.args.path.now) ≡ true = sym c.all_listed.ensures ∙ c.if-not-all_listed.false in
    let f = lists_of s.args.room.now s.args.words.now s.args.reals.now s.requires.fit in
    let short = firsts-short s.args.room.now s.args.words.now 7 (ids_of s.args.room.now s.args.words.now s.args.path.now) f (omega arith) there in
    visited-short _ _ _ _ c.visit-n.ensures short

pub slice_bounds-extent-end : goal.slice_bounds-extent-end
slice_bounds-extent-end c =
    let s = c in
    let there : all (λ v. ltb v (word s.args.words.now 7)) (ids_of s.args.room.now s.args.words.now s.args.path.now) ≡ true = sym c.all_listed.ensures ∙ c.if-not-all_listed.false in
    let f = lists_of s.args.room.now s.args.words.now s.args.reals.now s.requires.fit in
    let short = firsts-short s.args.room.now s.args.words.now 7 (ids_of s.args.room.now s.args.words.now s.args.path.now) f (omega arith) there in
    sym (length-take-le c.visit-n.result c.visit-n.new.out (visited-short _ _ _ _ c.visit-n.ensures short))

pub extent-requires : goal.extent-requires
extent-requires c =
    let s = c in
    let there : all (λ v. ltb v (word s.args.words.now 7)) (ids_of s.args.room.now s.args.words.now s.args.path.now) ≡ true = sym c.all_listed.ensures ∙ c.if-not-all_listed.false in
    let f = lists_of s.args.room.now s.args.words.now s.args.reals.now s.requires.fit in
    let short = firsts-short s.args.room.now s.args.words.now 7 (ids_of s.args.room.now s.args.words.now s.args.path.now) f (omega arith) there in
    record { fit = s.requires.fit; ids_value = ap (all (λ v. ltb v (word s.args.words.now 7))) (visited-front _ _ _ _ c.visit-n.ensures short) ∙ all_firsts (λ v. ltb v (word s.args.words.now 7)) (ids_of s.args.room.now s.args.words.now s.args.path.now) there }

pub returns : goal.returns
returns c =
    let s = c in
    let there : all (λ v. ltb v (word s.args.words.now 7)) (ids_of s.args.room.now s.args.words.now s.args.path.now) ≡ true = sym c.all_listed.ensures ∙ c.if-not-all_listed.false in
    let f = lists_of s.args.room.now s.args.words.now s.args.reals.now s.requires.fit in
    let short = firsts-short s.args.room.now s.args.words.now 7 (ids_of s.args.room.now s.args.words.now s.args.path.now) f (omega arith) there in
    let front = visited-front _ _ _ _ c.visit-n.ensures short in
    let zero = c.clear.ensures ∙ ap (λ n. replicate n 0) c.visit-n.auto.marks in
    record { value = c.extent_box.ensures ∙ ap extent_box (rw front at c.extent.ensures) ∙ box-walked s.args.room.now s.args.words.now s.args.reals.now (firsts (ids_of s.args.room.now s.args.words.now s.args.path.now)) (all_firsts (λ v. ltb v (word s.args.words.now 7)) (ids_of s.args.room.now s.args.words.now s.args.path.now) there); marks_after = zero }
