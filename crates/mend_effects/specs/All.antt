-- All changes of an accepted mending, one after the other. Assumes nothing.
use Rattle.std.specs.Prelude.{ℕ, ◌≤◌, ◌≡◌, refl, true, ◌&&◌, List, [], ◌∷◌, map, leb, ltb, length}
use Rattle.std.proofs.Common.{lt_of_lt_of_le, ltb-true}
use Rattle.geom_lines_planes.specs.Refuse.{◌unless◌, ◌then◌}
use Rattle.meaning.specs.Lists.{every}
use Rattle.meaning.specs.Model.{Model, Table, changed}
use Rattle.meaning_list_laws.specs.Tests.{and_both, then-zero, unless-zero}
use Rattle.meaning_mends.specs.Mends.{Child, child_table, Change, renamed, enlisted, made, meetings, once, changes, body_there, lists_refusal, fits, mend_refusal}
use Rattle.memory_layout.specs.Layout.{word}
use Rattle.memory_writes.specs.Change.{SameTable, SameModel}
use Rattle.mend_writes.specs.Laws.{AllWithin}
use Rattle.mend_effects.specs.Due.{records, records-made, AllDue}

-- the model itself is where they begin
same-table : {A : Type 0} (t : Table A) → SameTable t t
same-table t = record { used = refl; slots = λ i h. refl }

pub same-model : (m : Model) → SameModel m m
same-model m =
    record {
      version = refl;
      precision = refl;
      bodies = same-table m.bodies;
      regions = same-table m.regions;
      shells = same-table m.shells;
      faces = same-table m.faces;
      loops = same-table m.loops;
      fins = same-table m.fins;
      edges = same-table m.edges;
      vertices = same-table m.vertices;
      curves = same-table m.curves;
      surfaces = same-table m.surfaces;
    }

-- ---- a mending that is not refused

-- its body is there, no record of it has two parents, and no edge has a ninth fin
pub record Open (m : Model) (b : ℕ) : Type 0 where
  pub there : body_there m b ≡ true
  pub single : every (map (once m) (meetings m b)) ≡ true
  pub room : every (map fits (changes m b)) ≡ true

pub open_of : (m : Model) (b n : ℕ) → mend_refusal m b n ≡ 0 → Open m b
unfolding mend_refusal lists_refusal
open_of m b n e =
    let a = then-zero (2 unless body_there m b then 1 unless every (map (once m) (meetings m b))) (8 unless every (map fits (changes m b)) && leb (length (changes m b)) n) e in
    let d = then-zero (2 unless body_there m b) (1 unless every (map (once m) (meetings m b))) a.0 in
    record {
      there = unless-zero 1 (body_there m b) d.0;
      single = unless-zero 0 (every (map (once m) (meetings m b))) d.1;
      room = (and_both (every (map fits (changes m b))) (leb (length (changes m b)) n) (unless-zero 7 _ a.1)).0;
    }

-- its records have room in the tables
pub all-within : (room : List ℕ) (l : List Change) (m : Model) → ((k : Child) → records m k ≤ word room (child_table k)) → m.edges.used ≤ word room 6 → AllDue m l → every (map fits l) ≡ true
    → AllWithin room l
unfolding every made changed
all-within room [] m h g d e = tt
all-within room (renamed k i old new ∷ l) m h g d e =
    (lt_of_lt_of_le d.0 (h k), all-within room l (made m (renamed k i old new)) (λ c. rw (records-made m (renamed k i old new) c) (h c)) g d.1 e)
all-within room (enlisted f place i ∷ l) m h g d e =
    let both = and_both (ltb place 8) (every (map fits l)) e in
    ((lt_of_lt_of_le d.0.0 g, ltb-true place 8 both.0), all-within room l (made m (enlisted f place i)) (λ c. rw (records-made m (enlisted f place i) c) (h c)) g d.1 both.1)
