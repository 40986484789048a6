-- What an office is told is what the call of before tells of the record that the id is for it; above 1, 9 or 1. Assumes nothing.
use Rattle.std.specs.Prelude.{ℕ, ◌<◌, ◌≤◌, ◌≡◌, refl, List, Float}
use Rattle.std.proofs.Math.Path.{sym}
use Rattle.std.proofs.Common.{ap, ◌∙◌}
use Rattle.meaning.specs.Offices.{body_for}
use Rattle.memory_layout.specs.Decode.{decode}
use Rattle.memory_layout.specs.Readable.{tag_number}
use Rattle.memory_layout.specs.Entries.{entry_refusal, entry_answer}
use Rattle.memory_layout.specs.declared.entries.Entry.TheVariants as Entries
use Rattle.memory_contains.specs.declared.Contained.TheVariants as Contents
use Rattle.memory_contains.specs.declared.EntityRef.{EntityRef}
use Rattle.memory_contains.specs.Answers.{contains_answer}
use Rattle.memory_lookups.specs.declared.BodyFound.TheVariants as Bodies
use Rattle.memory_lookups.specs.Lookup.{body_answer}
use Rattle.edit_lists.specs.Answers.{put_entry_words, strike_entry_words, append_number, append_entry_words}
use Rattle.memory_offices.specs.Sight.{by_office, body_asked}
use Rattle.memory_offices.specs.Laws.{office-there, office-above, office-alone}
use Rattle.memory_offices.proofs.Laws.{answer-there, answer-above, unless-there, unless-above}
use Rattle.office_bodies.specs.Answers.{entity_for, record_asked, office_body_number, office_body, office_contains, office_entry_number, office_entry, office_put_words, office_strike_words, office_append_number, office_append_words}

module _ (room w : List ℕ) (x : List Float) (o : ℕ) where
  -- ---- an office that there is
  module _ (h : o ≤ 1) where
    pub body-there : (i id : ℕ) → id ≡ body_asked room w x o i → body_answer room w x id ≡ office_body room w x o i
    unfolding body_answer office_body_number office_body
    body-there i id e = rw e (answer-there room w x o Bodies.Is Bodies.Refused _ _ h)

    pub contains-there : (e a : EntityRef) → a ≡ entity_for (decode room w x) o e → contains_answer room w x a ≡ office_contains room w x o e
    unfolding contains_answer office_contains
    contains-there e a p = rw (p, office-alone room w x o h)

    module _ (j i id : ℕ) (e : id ≡ record_asked room w x o j i) where
      entry-number : (place : ℕ) → entry_refusal room w x j id place ≡ office_entry_number room w x o j i place
      unfolding entry_refusal office_entry_number
      entry-number place = rw e (sym (office-there room w x o _ h))

      pub entry-there : (place : ℕ) → entry_answer room w x j id place ≡ office_entry room w x o j i place
      unfolding entry_refusal entry_answer office_entry_number office_entry
      entry-there place = rw e (answer-there room w x o Entries.Is Entries.Refused _ _ h)

      pub put-there : (place v : ℕ) → (entry_refusal room w x j id place ≡ office_entry_number room w x o j i place) × (put_entry_words room w x j id place v ≡ office_put_words room w x o j i place v)
      unfolding entry_refusal put_entry_words office_entry_number office_put_words
      put-there place v = (entry-number place, rw e (unless-there room w x o _ _ _ h))

      pub strike-there : (place : ℕ) → (entry_refusal room w x j id place ≡ office_entry_number room w x o j i place) × (strike_entry_words room w x j id place ≡ office_strike_words room w x o j i place)
      unfolding entry_refusal strike_entry_words office_entry_number office_strike_words
      strike-there place = (entry-number place, rw e (unless-there room w x o _ _ _ h))

      pub append-there : (v : ℕ) → (append_number room w x j id ≡ office_append_number room w x o j i) × (append_entry_words room w x j id v ≡ office_append_words room w x o j i v)
      unfolding append_number append_entry_words office_append_number office_append_words
      append-there v = (rw e (sym (office-there room w x o _ h)), rw e (unless-there room w x o _ _ _ h))

  -- ---- an office above 1
  module _ (k : ℕ) (h : 1 < o) (e : k ≡ tag_number room w x) where
    pub body-above : (i : ℕ) → Bodies.Refused k ≡ office_body room w x o i
    unfolding office_body_number office_body
    body-above i = answer-above room w x o Bodies.Is Bodies.Refused _ k _ h e

    pub contains-above : (a : EntityRef) → Contents.Refused k ≡ office_contains room w x o a
    unfolding office_contains
    contains-above a = answer-above room w x o Contents.Is Contents.Refused _ k _ h e

    pub entry-above : (j i place : ℕ) → Entries.Refused k ≡ office_entry room w x o j i place
    unfolding office_entry_number office_entry
    entry-above j i place = answer-above room w x o Entries.Is Entries.Refused _ k _ h e

    pub put-above : (j i place v : ℕ) → (k ≡ office_entry_number room w x o j i place) × (w ≡ office_put_words room w x o j i place v)
    unfolding office_entry_number office_put_words
    put-above j i place v = (e ∙ sym (office-above room w x o _ h), unless-above room w x o _ _ w h)

    pub strike-above : (j i place : ℕ) → (k ≡ office_entry_number room w x o j i place) × (w ≡ office_strike_words room w x o j i place)
    unfolding office_entry_number office_strike_words
    strike-above j i place = (e ∙ sym (office-above room w x o _ h), unless-above room w x o _ _ w h)

    pub append-above : (j i v : ℕ) → (k ≡ office_append_number room w x o j i) × (w ≡ office_append_words room w x o j i v)
    unfolding office_append_number office_append_words
    append-above j i v = (e ∙ sym (office-above room w x o _ h), unless-above room w x o _ _ w h)
