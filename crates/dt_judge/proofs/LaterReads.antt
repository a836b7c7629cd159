use Rattle.std.proofs.Common.{ℕ, ◌≡◌, ◌+◌, ◌≤◌, Bool, Option, Some, List, ◌++◌, length, take, Result, Ok, Err, IsTrue, sym, ap, ◌∙◌, inl, inr}
use Rattle.std.specs.List.{list_all}
use Rattle.std.proofs.lemmas.Option.{IfSome_then}
use Rattle.dt_alu.specs.Extend.{extend_value}
use Rattle.dt_record.specs.declared.accesses.LoadAsk.{LoadAsk}
use Rattle.dt_record.specs.declared.keys.Key.{Key}
use Rattle.dt_record.specs.declared.origins.Sources.{Sources}
use Rattle.dt_record.specs.declared.reasons.Reason.TheVariants.{LoadSource}
use Rattle.dt_record.specs.declared.writes.Write.{Write}
use Rattle.dt_record.specs.Actions.{Action, Loaded}
use Rattle.dt_record.specs.LoadSources.{found_value}
use Rattle.dt_rules.specs.declared.misfits.Passed.{Passed}
use Rattle.dt_loads.specs.Reading.{HasNewer, IsLoadAnswer, IsNewer, IsReading, IsUnread, expected_load}
use Rattle.dt_local.specs.LocalMemory.{LocalMemory, newest_of}
use Rattle.dt_rules.specs.declared.misfits.Misfit.{Misfit}
use Rattle.dt_rules.specs.Checks.{misfit}
use Rattle.dt_sources.specs.Choice.{then_action, with_moment}
use Rattle.dt_sources.specs.Finding.{AreSourcesAt}
use Rattle.dt_sources.specs.Knowing.{AreJudged, IsGreatest, IsKnownKey, Knows}
use Rattle.dt_versions.specs.Spans.{last_visible}
use Rattle.dt_judge.specs.Judging.{are_later}
use Rattle.dt_judge.proofs.LaterFits.{IsEarly, Steady, all_less, is_seen, least_more, seen_next}
use Rattle.dt_judge.proofs.LaterWrites.{last_same, last_within, origin_same, value_same, wrote_less, wrote_more}
use Rattle.dt_judge.proofs.LoadMoments.{next_fits}

-- What a load reads is the same with writes of later cycles.

greatest_of_same : (Is As : Key → Type 0) (o : Option Key) → ((key : Key) → Is key → As key) → ((key : Key) → As key → Is key) → IsGreatest Is o → IsGreatest As o
greatest_of_same Is As o to from greatest = record {
  bound = λ key held. greatest.bound key (from key held);
  one_of_them = IfSome_then o greatest.one_of_them to;
}

module _ (ws later : List Write) (stamp : ℕ) (after : IsTrue (are_later stamp later)) (actions : List Action) (moments : ℕ → ℕ) (steady : Steady ws later actions moments) where
  pub known_more : (next : Key) (byte : ℕ) (key : Key) → IsKnownKey ws actions moments next byte key → IsKnownKey (ws ++ later) actions moments next byte key
  known_more next byte key (inr wrote) = inr (wrote_more ws later stamp after next byte key wrote)
  known_more next byte key (inl had) = inl (record {
    place = had.place;
    action = had.action;
    there = had.there;
    had = steady had.place had.action had.there (take had.place actions) byte ∙ had.had;
  })

  pub known_less : (next : Key) (byte : ℕ) (key : Key) → next.stamp ≤ stamp → IsKnownKey (ws ++ later) actions moments next byte key → IsKnownKey ws actions moments next byte key
  known_less next byte key early (inr wrote) = inr (wrote_less ws later stamp after next byte key early wrote)
  known_less next byte key early (inl had) = inl (record {
    place = had.place;
    action = had.action;
    there = had.there;
    had = sym (steady had.place had.action had.there (take had.place actions) byte) ∙ had.had;
  })

  pub knows_less : (l : LocalMemory) (next : Key) → next.stamp ≤ stamp → Knows l (ws ++ later) actions moments next → Knows l ws actions moments next
  knows_less l next early knows = λ byte.
      greatest_of_same (IsKnownKey (ws ++ later) actions moments next byte) (IsKnownKey ws actions moments next byte) (newest_of l byte)
      (λ key is. known_less next byte key early is) (λ key is. known_more next byte key is) (knows byte)

  pub judged_less : (next : Key) → next.stamp ≤ stamp → AreJudged (ws ++ later) actions next → AreJudged ws actions next
  judged_less next early judged = record {
    apart = judged.apart;
    placed = judged.placed;
    drained = λ i h key byte there drained covering. wrote_less ws later stamp after next byte key early (judged.drained i h key byte there drained covering);
  }

  newer_more : (ask : LoadAsk) (k : ℕ) → ask.key.stamp ≤ stamp → k ≤ length ws → HasNewer ws actions moments ask k → HasNewer (ws ++ later) actions moments ask k
  newer_more ask k early within has =
      let is : IsNewer ws actions moments ask k has.0 = has.1 in (
        has.0,
        record {
          within = is.within;
          key = is.key;
          from = origin_same ws later stamp after actions ask k (ask.addr + has.0) within ∙ is.from;
          above = λ known knows. is.above known (known_less ask.key (ask.addr + has.0) known early knows);
        },
      )

  newer_less : (ask : LoadAsk) (k : ℕ) → k ≤ length ws → HasNewer (ws ++ later) actions moments ask k → HasNewer ws actions moments ask k
  newer_less ask k within has =
      let is : IsNewer (ws ++ later) actions moments ask k has.0 = has.1 in (
        has.0,
        record {
          within = is.within;
          key = is.key;
          from = sym (origin_same ws later stamp after actions ask k (ask.addr + has.0) within) ∙ is.from;
          above = λ known knows. is.above known (known_more ask.key (ask.addr + has.0) known knows);
        },
      )

  sources_more : (ask : LoadAsk) (k : ℕ) (sources : Sources) → k ≤ length ws → AreSourcesAt ws actions ask k sources → AreSourcesAt (ws ++ later) actions ask k sources
  sources_more ask k sources within are = record {
    count = are.count;
    from = λ i below. are.from i below ∙ ap (λ o. Some o) (sym (origin_same ws later stamp after actions ask k (ask.addr + i) within));
    no_more = are.no_more;
  }

  pub reading_more : IsTrue (list_all (is_seen stamp) actions) → (image : List ℕ) (ask : LoadAsk) (passed : Passed) → IsEarly stamp ask
      → IsReading image ws actions moments ask passed → IsReading image (ws ++ later) actions moments ask passed
  reading_more seen image ask passed early is =
      let fit = next_fits image ws actions moments ask is.moment is.chosen.fits in
      let within : is.moment ≤ length ws = fit.visible.within in record {
        moment = is.moment;
        chosen = least_more ws later stamp after (then_action actions (Loaded ask)) (with_moment moments (length actions) is.moment) (seen_next stamp actions ask seen early) image is.chosen;
        sources = sources_more ask is.moment passed.sources within is.sources;
        newer = (λ l. newer_more ask is.moment early.key within (is.newer.0 l), λ has. is.newer.1 (newer_less ask is.moment within has));
        no_other = is.no_other;
      }

  expected_more : (image : List ℕ) (ask : LoadAsk) (signed : Bool) → ask.at ≤ stamp → expected_load image (ws ++ later) actions ask signed ≡ expected_load image ws actions ask signed
  expected_more image ask signed at =
      ap (λ k. extend_value ask.width signed (found_value image (ws ++ later) actions ask k ask.width ask.addr)) (last_same ws later stamp after ask.key ask.at at)
      ∙ ap (extend_value ask.width signed) (value_same ws later stamp after image actions ask (last_visible ws ask.key ask.at) ask.width ask.addr (last_within ws later stamp after ask.key ask.at))

  unread_more : IsTrue (list_all (is_seen stamp) actions) → (image : List ℕ) (ask : LoadAsk) (signed : Bool) (value : ℕ) → IsEarly stamp ask → IsUnread image ws actions ask signed value → IsUnread image (ws ++ later) actions ask signed value
  unread_more seen image ask signed value early (inl differs) = inl differs
  unread_more seen image ask signed value early (inr none) =
      inr (λ has. none (has.0, all_less ws later stamp after (then_action actions (Loaded ask)) has.0 (seen_next stamp actions ask seen early) image has.1))

  pub answer_more : IsTrue (list_all (is_seen stamp) actions) → (image : List ℕ) (ask : LoadAsk) (signed : Bool) (value : ℕ) (answer : Result Passed Misfit) → IsEarly stamp ask
      → IsLoadAnswer image ws actions moments ask signed value answer → IsLoadAnswer image (ws ++ later) actions moments ask signed value answer
  answer_more seen image ask signed value (Ok passed) early is = (is.0, reading_more seen image ask passed early is.1)
  answer_more seen image ask signed value (Err refused) early is =
      (unread_more seen image ask signed value early is.0, is.1 ∙ ap (λ n. misfit LoadSource n value) (sym (expected_more image ask signed early.at)))
