use Rattle.std.proofs.Common.{ℕ, ◌≡◌, ◌↔◌, Bool, Option, None, Some, List, ◌++◌, Result, IsTrue, refl, sym, subst, arith}
use Rattle.std.specs.Prelude.{IfSome}
use Rattle.std.specs.List.{list_all}
use Rattle.std.proofs.lemmas.List.{take-append-le}
use Rattle.dt_alu.specs.Words.{sum_of}
use Rattle.dt_record.specs.declared.keys.Key.{Key}
use Rattle.dt_record.specs.declared.records.Record.{Record}
use Rattle.dt_record.specs.declared.writes.Write.{Write}
use Rattle.dt_record.specs.Keys.{KeyBelow}
use Rattle.dt_record.proofs.KeyLaws.{KeyBelow-stamps}
use Rattle.dt_record.specs.LoadSources.{AreLeastSources}
use Rattle.dt_hart.specs.Fences.{fences_of}
use Rattle.dt_hart.specs.Reserving.{reserved_in}
use Rattle.dt_hart.specs.Settings.{Setting, arch_of, did, key_in}
use Rattle.dt_hart.specs.Standing.{FencesAreEarlier}
use Rattle.dt_rules.specs.declared.misfits.Misfit.{Misfit}
use Rattle.dt_rules.specs.declared.misfits.Passed.{Passed}
use Rattle.dt_step.specs.declared.plans.Planned.{Planned}
use Rattle.dt_versions.specs.History.{are_in_order}
use Rattle.dt_versions.specs.Spans.{last_visible}
use Rattle.dt_windows.specs.Fences.{covers_page, first_since, is_instruction_fence, last_fence}
use Rattle.dt_windows.specs.Laws.{LastFencesAreBelow}
use Rattle.dt_judge.specs.Grounds.{Grounds, grounds_of, window_of}
use Rattle.dt_judge.specs.Judgement.{Finds, FindsBody}
use Rattle.dt_judge.specs.Judging.{are_later}
use Rattle.dt_judge.specs.Laws.{ComesNext, LaterWritesDecideNothing, RecordsHaveOneFinding, with_later}
use Rattle.dt_judge.proofs.AFinding.{Laws as FindingLaws, finding_of}
use Rattle.dt_judge.proofs.LaterFindings.{CheckLaws, SeesNoMore, finds_more, with_more}
use Rattle.dt_judge.proofs.LaterFits.{Steady, is_seen, least_less, steady}
use Rattle.dt_judge.proofs.LaterWrites.{first_same, last_same, last_within}
use Rattle.dt_judge.proofs.Meeting.{in_order_front}
use Rattle.dt_judge.proofs.SeenActions.{all_seen, record_reads}

-- Writes of later cycles decide nothing.

-- the laws that it rests on
pub record Laws : Type 0 where
  pub fences : FencesAreEarlier
  pub last : LastFencesAreBelow
  pub checks : CheckLaws
  pub one : RecordsHaveOneFinding
  pub findings : FindingLaws

module _ (laws : Laws) (s : Setting) (later : List Write) (r : Record) (next : ComesNext (with_later s later) r) (after : IsTrue (are_later r.stamp later)) where
  seen : IsTrue (list_all (is_seen r.stamp) (did s))
  seen = all_seen s.before r next.goes_on.more next.goes_on.rising next.lawful

  same_origins : Steady s.writes later (did s) s.moments
  same_origins = steady s.writes later r.stamp after (did s) s.moments seen s.image next.chosen.fits

  ordered : IsTrue (are_in_order s.writes)
  ordered = in_order_front s.writes later next.goes_on.in_order

  chosen : AreLeastSources s.image s.writes (did s) s.moments
  chosen = least_less s.writes later r.stamp after (did s) s.moments seen s.image next.chosen

  abbrev key : Key
  key = key_in s r

  abbrev grounds : Grounds
  grounds = grounds_of s key

  sees : SeesNoMore grounds later
  sees =
      let end = last_visible s.writes key r.stamp in
      let begins = sym (take-append-le end s.writes later (last_within s.writes later r.stamp after key r.stamp)) in
      record { fetch = record { first = begins; second = begins; since = begins }; window = λ va. begins }

  since_earlier : (fence : Option Key) → IfSome fence (λ f. KeyBelow f key) → first_since (s.writes ++ later) fence ≡ first_since s.writes fence
  since_earlier None below = refl
  since_earlier (Some f) below = first_same s.writes later r.stamp after f f.stamp (KeyBelow-stamps f key below)

  since_last : (test : Planned → Bool) → first_since (s.writes ++ later) (last_fence test (fences_of s)) ≡ first_since s.writes (last_fence test (fences_of s))
  since_last test = since_earlier (last_fence test (fences_of s)) (laws.last test (fences_of s) key (laws.fences (with_later s later) r next.goes_on))

  -- the grounds over all writes are the same but for the writes
  same_grounds : grounds_of (with_later s later) key ≡ with_more grounds later
  same_grounds = λ i. record {
    image = s.image;
    writes = s.writes ++ later;
    arch = arch_of s;
    actions = did s;
    moments = s.moments;
    reserved = reserved_in s.before;
    fetch = record {
      first = window (arch_of s).pc i;
      second = window (sum_of 64 (arch_of s).pc 2) i;
      since = record { first = since_last is_instruction_fence i; last = last i };
    };
    window = λ va. window va i;
  }
    where
      last : last_visible (s.writes ++ later) key r.stamp ≡ last_visible s.writes key r.stamp
      last = last_same s.writes later r.stamp after key r.stamp (omega arith)

      window : (va : ℕ) → window_of (with_later s later) key va ≡ window_of s key va
      window va = λ i. record { first = since_last (covers_page va) i; last = last i }

  more : (f : Result Passed Misfit) → Finds s r f → Finds (with_later s later) r f
  more f is =
      subst (λ (g : Grounds). FindsBody g key r.body f) (sym same_grounds)
      (finds_more laws.checks grounds later r.stamp after sees same_origins seen key r.body f (record_reads r next.its_lawful) refl is)

  -- a finding over all writes is the one over these, since there is one over these
  less : (f : Result Passed Misfit) → Finds (with_later s later) r f → Finds s r f
  less f is =
      let found = finding_of laws.findings s ordered chosen r in
      subst (λ (x : Result Passed Misfit). Finds s r x) (laws.one (with_later s later) r found.0 f (more found.0 found.1) is) found.1

  pub alike : (f : Result Passed Misfit) → Finds s r f ↔ Finds (with_later s later) r f
  alike f = (more f, less f)

pub later_decide_nothing : Laws → LaterWritesDecideNothing
later_decide_nothing laws s later r f next after = alike laws s later r next after f
