-- The theorems of specs/Statements.antt that rest on calls-heard. Assumes nothing.
use Rattle.std.specs.Prelude.{ℕ, ◌<◌, ◌≡◌, true, List, Float}
use Rattle.meaning.specs.Model.{body}
use Rattle.meaning.specs.Split.{Cut}
use Rattle.meaning.specs.Formed.{topological_report, empty_report}
use Rattle.meaning.specs.Offices.{OfficeCut, office_after_all}
use Rattle.memory_layout.specs.Decode.{decode}
use Rattle.memory_layout.specs.Readable.{readable}
use Rattle.memory_layout.specs.Limits.{limits}
use Rattle.meaning_split_laws.specs.Terms.{itself, Restored, euler_number}
use Rattle.meaning_office_laws.specs.Passed.{all-passed}
use Rattle.split_effect.specs.Statements.{HoldsModel, same-model}
use Rattle.split_sequences.specs.Sequence.{calls_words, calls_reals}
use Rattle.split_sequences.proofs.Statements as Calls
use Rattle.split_sequences.proofs.Memory as Memory
use Rattle.split_sequences.specs.Statements.{Sound}
use Rattle.split_offices.specs.Calls.{office_calls_words, office_calls_reals, office_calls_edges, heard}
use Rattle.split_offices.specs.Heard.{calls-heard}
use Rattle.split_offices.specs.Passed.{heard-passed}

module _ (room w : List ℕ) (x : List Float) (l : List OfficeCut) where
  -- the memory behind the calls is that behind calls without offices, those that were heard
  pub memory-as-without-offices : (office_calls_words room w x l ≡ calls_words room w x (heard room w x l)) × (office_calls_reals room w x l ≡ calls_reals room w x (heard room w x l))
  memory-as-without-offices = let h = calls-heard room w x l in (h.words, h.reals)

  module _ (s : Sound room w x) where
    abbrev without : List Cut
    without = heard room w x l

    -- it holds the model of `meaning_office_laws`' statements, record by record
    pub calls-model : HoldsModel room (office_calls_words room w x l) (office_calls_reals room w x l) (office_after_all (limits room) (decode room w x) l)
    calls-model =
        let h = calls-heard room w x l in
        let same = heard-passed room w x (decode room w x) (record { readable = s.readable; model = same-model (decode room w x); formed = s.formed }) l in
        rw (h.words, h.reals, all-passed (limits room) (decode room w x) l, ← same) (Calls.calls-model room w x without s)

    -- 1. "After any sequence of splits, accepted or refused, it is still well formed"
    pub memory-stays-well-formed : Sound room (office_calls_words room w x l) (office_calls_reals room w x l)
    memory-stays-well-formed = let h = calls-heard room w x l in rw (h.words, h.reals) (Memory.memory-stays-well-formed room w x without s)

    -- 2. "and a body whose topological report was empty keeps an empty one"
    pub memory-keeps-empty-report : (b : ℕ) → b < (decode room w x).bodies.used → empty_report (topological_report (decode room w x) b) ≡ true
        → empty_report (topological_report (decode room (office_calls_words room w x l) (office_calls_reals room w x l)) b) ≡ true
    memory-keeps-empty-report b hb r = let h = calls-heard room w x l in rw (h.words, h.reals) (Memory.memory-keeps-empty-report room w x without s b hb r)

    -- 3. "so vertices minus edges plus faces never changes"
    pub memory-keeps-euler-number : (b : ℕ) → b < (decode room w x).bodies.used
        → euler_number (decode room (office_calls_words room w x l) (office_calls_reals room w x l)) b ≡ euler_number (decode room w x) b
    memory-keeps-euler-number b hb = let h = calls-heard room w x l in rw (h.words, h.reals) (Memory.memory-keeps-euler-number room w x without s b hb)

    -- (W-211) "A model names its version and keeps it through splits"
    pub memory-keeps-version : (decode room (office_calls_words room w x l) (office_calls_reals room w x l)).version ≡ (decode room w x).version
    memory-keeps-version = let h = calls-heard room w x l in rw (h.words, h.reals) (Memory.memory-keeps-version room w x without s)

    -- 4. "Striking out what was added gives back every stored list in its starting order", and every other field of every old record, a body's office among them, is as it was but for
    -- the end of an edge that was split (`Restored`: meaning_split_laws/specs/Terms.antt)
    pub memory-gives-back : Restored (decode room w x) (decode room (office_calls_words room w x l) (office_calls_reals room w x l)) (office_calls_edges room w x l) itself
    memory-gives-back = let h = calls-heard room w x l in rw (h.words, h.reals, h.edges) (Memory.memory-gives-back room w x without s)

    -- "Each body carries an office number", and keeps it
    pub memory-keeps-offices : (b : ℕ) → b < (decode room w x).bodies.used
        → (body (decode room (office_calls_words room w x l) (office_calls_reals room w x l)) b).office ≡ (body (decode room w x) b).office
    memory-keeps-offices = memory-gives-back.body-office
