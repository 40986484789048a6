-- What the tests of an image and of the lent memory say, as facts. Assumes nothing.
use Rattle.std.specs.Prelude.{ℕ, ◌≤◌, ◌<◌, ◌≡◌, List, [], length, get_or, Float}
use Rattle.std.proofs.Common.{sym, ◌∙◌}
use Rattle.std.proofs.Math.Bool.{true}
use Rattle.std.proofs.Math.Dec.{leb}
use borrow.Author.Tests.{leb-true}
use Rattle.geom_lines_planes.specs.Refuse.{◌unless◌, ◌then◌}
use Rattle.meaning_list_laws.specs.Tests.{and_both, all_below-at, then-zero, unless-zero}
use Rattle.memory_layout.specs.Layout.{word}
use Rattle.memory_layout.specs.Readable.{lent_ok}
use Rattle.memory_layout.specs.Fit.{Lent}
use Rattle.memory_layout.specs.Laws.{lent_of, version-there}
use Rattle.image_format.specs.Fields.{list_limits_of, fields_in}
use Rattle.image_format.specs.Image.{count_in, behind_records, table_bytes, records_in, accepted}
use Rattle.image_laws.specs.Numbers.{Bytes}
use Rattle.image_laws.specs.Machines.{behind-bytes, table-bytes, records-bytes}
use Rattle.image_record_test.specs.Good.{holds, record_good}
use Rattle.image_record_test.specs.Explicit.{fields_here, fields-here}
use Rattle.image_record_test.specs.Spelled.{within, tolerance_held, all-spelled}
use Rattle.image_accepted.specs.Ends.{good-long}
use Rattle.image_accepted.specs.Whole.{Found}
use Rattle.image_accepted.specs.Version.{image-found}
use Rattle.image_loading.specs.Facts.{Lies, Loadable}
use Rattle.image_reader.specs.Answers.{room_for, read_number}

-- a record that is good lies whole, and its lists are within their limits
good-lies : (k : ℕ) → k < 10 → (s : List ℕ) → Bytes s → record_good k s ≡ true → Lies k s
good-lies k h s b g = record { table = h; long = good-long k h s b g; short = lists-short }
  where
    held : holds k (fields_in k s) ≡ true
    held = unfold record_good in (and_both (holds k (fields_in k s)) _ g).0

    lists-short : within (get_or list_limits_of k []) (fields_in k s).lists ≡ true
    lists-short = rw (fields-here k s) (and_both (within (get_or list_limits_of k []) (fields_here k s).lists) (tolerance_held k (fields_here k s)) (sym (all-spelled s b k h).held ∙ rw (fields-here k s) at held)).0

-- so the records of an image may be laid over lent memory that has room for them
pub loadable : (b : List ℕ) → Bytes b → Found b → (room w : List ℕ) (x : List Float) → Lent room w x → ((k : ℕ) → k < 10 → count_in b k ≤ word room k) → Loadable room w x b
loadable b bytes f room w x lent counts =
    record {
      lent = lent;
      counts = counts;
      head = f.head;
      lies = λ k i h l. good-lies k h (behind_records k i (table_bytes b k)) (behind-bytes k i (table_bytes b k) (table-bytes b bytes k)) (f.good k i h l);
    }

-- what a reading that is not refused has passed
pub record Taken (room w : List ℕ) (x : List Float) (b : List ℕ) : Type 0 where
  pub lent : lent_ok room w x ≡ true
  pub image : accepted b ≡ true
  pub enough : (k : ℕ) → k < 10 → count_in (records_in b) k ≤ word room k

module _ (room w : List ℕ) (x : List Float) (b : List ℕ) where
  pub taken : read_number room w x b ≡ 0 → Taken room w x b
  unfolding read_number room_for
  taken e =
      let p = then-zero (9 unless lent_ok room w x) (9 unless accepted b then 8 unless room_for room (records_in b)) e in
      let q = then-zero (9 unless accepted b) (8 unless room_for room (records_in b)) p.1 in
      let r : room_for room (records_in b) ≡ true = unless-zero 7 (room_for room (records_in b)) q.1 in
      record {
        lent = unless-zero 8 (lent_ok room w x) p.0;
        image = unless-zero 8 (accepted b) q.0;
        enough = λ k h. leb-true (count_in (records_in b) k) (word room k) (all_below-at (λ j. leb (count_in (records_in b) j) (word room j)) 10 k r h);
      }

  pub read-open : Bytes b → read_number room w x b ≡ 0 → Loadable room w x (records_in b)
  read-open bytes e = let t = taken e in loadable (records_in b) (records-bytes b bytes) (image-found b bytes t.image) room w x (lent_of room w x t.lent) t.enough

  -- the version's place is there
  pub version-room : read_number room w x b ≡ 0 → 11 ≤ length w
  version-room e = version-there room w (lent_of room w x (taken e).lent).words
