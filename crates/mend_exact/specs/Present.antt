-- What a body's lists name has a mark, where all of it is there and the tables are no larger than the largest. Assumes nothing.
use Rattle.std.specs.Prelude.{ℕ, ◌≤◌, ◌≡◌, refl, Bool, true, List, [], ◌∷◌, map, replicate}
use Rattle.std.proofs.Common.{arith, sym, subst, ltb-true}
use Rattle.std.proofs.lemmas.List.{length-replicate, get_or-replicate}
use Rattle.meaning.specs.Lists.{all, every, joined}
use Rattle.meaning.specs.Model.{Model, has, body, region, shell, face, loop, fin, edge}
use Rattle.meaning.specs.Walks.{readable_fin}
use Rattle.meaning_list_laws.specs.Tests.{and_both}
use Rattle.meaning_list_laws.specs.Lists.{all-member}
use Rattle.meaning_mends.specs.Mends.{Child, a_region, a_shell, a_loop, a_fin, child_table, Meeting, met, loop_meetings, face_meetings, shell_meetings, region_meetings, meetings, loop_there, face_there, shell_there, region_there, body_there, once}
use Rattle.meaning_mends.specs.Laws.{Met, met-joined, met-map, met-tested, met-both, Listed, all_listed}
use Rattle.mend_meetings.specs.Machine.{mark_at, MARKS}
use Rattle.mend_exact.specs.Entries.{Small}
use Rattle.mend_exact.specs.Marks.{mark, Low, below}
use Rattle.mend_exact.specs.Kept.{EdgeLow, Known, Kept}

-- ---- what is met is there

abbrev there_at : Model → Child → ℕ → Bool
there_at m a_region i = has m.regions i
there_at m a_shell i = has m.shells i
there_at m a_loop i = has m.loops i
there_at m a_fin i = readable_fin m i

module _ (m : Model) where
  abbrev There : Meeting → Type 0
  There t = there_at m t.child t.id ≡ true

  under : (f : ℕ → List Meeting) (p : ℕ → Bool) (l : List ℕ) → all p l ≡ true → ((y : ℕ) → p y ≡ true → Met There (f y)) → Met There (joined f l)
  under f p l a h = met-joined There f l (λ y q. h y (all-member p l y a q))

  loop-there : (f l : ℕ) → loop_there m l ≡ true → Met There (loop_meetings m f l)
  unfolding loop_meetings
  loop-there f l t = let both = and_both (has m.loops l) _ t in (both.0, met-map There (met a_fin l) (loop m l).fins (λ i q. all-member (readable_fin m) (loop m l).fins i both.1 q))

  face-there : (f : ℕ) → face_there m f ≡ true → Met There (face_meetings m f)
  unfolding face_meetings
  face-there f t = under (loop_meetings m f) (loop_there m) (face m f).loops (and_both (has m.faces f) _ t).1 (loop-there f)

  shell-there : (r s : ℕ) → shell_there m s ≡ true → Met There (shell_meetings m r s)
  unfolding shell_meetings
  shell-there r s t = let both = and_both (has m.shells s) _ t in (both.0, under (face_meetings m) (face_there m) (shell m s).faces both.1 face-there)

  region-there : (b r : ℕ) → region_there m r ≡ true → Met There (region_meetings m b r)
  unfolding region_meetings
  region-there b r t = let both = and_both (has m.regions r) _ t in (both.0, under (shell_meetings m r) (shell_there m) (region m r).shells both.1 (shell-there r))

  all_there : (b : ℕ) → body_there m b ≡ true → Met There (meetings m b)
  unfolding meetings body_there
  all_there b t = under (region_meetings m b) (region_there m) (body m b).regions (and_both (has m.bodies b) _ t).1 (region-there b)

  -- ---- and has a mark

  module _ (small : Small m) where
    low : (c : Child) (i : ℕ) → there_at m c i ≡ true → Low (child_table c) i
    low a_region i t = record { table = omega arith; slot = omega (arith, ltb-true i m.regions.used t, small.regions) }
    low a_shell i t = record { table = omega arith; slot = omega (arith, ltb-true i m.shells.used t, small.shells) }
    low a_loop i t = record { table = omega arith; slot = omega (arith, ltb-true i m.loops.used t, small.loops) }
    low a_fin i t = record { table = omega arith; slot = omega (arith, ltb-true i m.fins.used (and_both (has m.fins i) _ t).0, small.fins) }

    edge-low : (c : Child) (i : ℕ) → there_at m c i ≡ true → EdgeLow m c i
    edge-low a_region i t = tt
    edge-low a_shell i t = tt
    edge-low a_loop i t = tt
    edge-low a_fin i t = record { table = omega arith; slot = omega (arith, ltb-true (fin m i).edge m.edges.used (and_both (has m.fins i) _ t).1, small.edges) }

    known-all : (l : List Meeting) → Met There l → Met (λ t. Listed m t × (once m t ≡ true)) l → Met (λ t. Known m t.child t.parent t.id) l
    known-all [] a b = tt
    known-all (t ∷ l) a b = (record { sure = b.0; low = low t.child t.id a.0; edge = edge-low t.child t.id a.0 }, known-all l a.1 b.1)

    pub known : (b : ℕ) → body_there m b ≡ true → every (map (once m) (meetings m b)) ≡ true → Met (λ t. Known m t.child t.parent t.id) (meetings m b)
    known b there single = known-all (meetings m b) (all_there b there) (met-both (Listed m) (λ t. once m t ≡ true) (meetings m b) (all_listed m b there) (met-tested (once m) (meetings m b) single))

-- ---- the walk begins with no marks

pub kept-first : (m : Model) (n : ℕ) → MARKS ≤ n → Kept m m (replicate n 0)
kept-first m n h =
    record {
      long = subst (λ x. MARKS ≤ x) (sym (length-replicate n 0)) h;
      names = record { fresh = λ k j low z. refl; done = λ k q j g z. absurd (z (none (child_table k) j g.low)) };
      fins =
          record {
            whose = λ j. refl;
            got = λ f low. omega (arith, none 6 f low);
            fresh = λ j low z. refl;
            done = λ j low z. absurd (z (none 5 j low));
          };
    }
  where
    none : (k i : ℕ) → Low k i → mark (replicate n 0) k i ≡ 0
    none k i low = get_or-replicate n (mark_at k i) 0 0 (omega (arith, below k i low))
