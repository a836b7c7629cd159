use Rattle.std.proofs.Common.{ℕ, ◌≡◌, ◌+◌, ◌≤◌, ◌&&◌, Bool, true, Option, None, Some, List, [], ◌∷◌, ◌++◌, length, Result, IsTrue, refl, sym, ap, subst, ◌∙◌, arith}
use Rattle.std.specs.Prelude.{IfSome, nat_le}
use Rattle.std.specs.List.{list_all}
use Rattle.std.specs.Option.{option_to_list}
use Rattle.std.proofs.lemmas.Bool.{and_parts}
use Rattle.std.proofs.lemmas.Bool.Decides.{nat_tests}
use Rattle.std.proofs.lemmas.List.{take-append-le}
use Rattle.std.proofs.lemmas.List.Folds.{list_all-append}
use Rattle.dt_alu.specs.Words.{sum_of}
use Rattle.dt_record.specs.declared.origins.Sources.{Sources}
use Rattle.dt_record.specs.declared.records.Record.{Record}
use Rattle.dt_record.specs.declared.writes.Write.{Write}
use Rattle.dt_record.specs.Actions.{Action, Stored, Drained, Fenced, Loaded, Atomic}
use Rattle.dt_record.specs.declared.keys.Key.{Key}
use Rattle.dt_record.specs.Keys.{KeyBelow, key_below, key_of}
use Rattle.dt_record.proofs.KeyLaws.{KeyBelow-stamps}
use Rattle.dt_record.specs.Lawful.{is_lawful}
use Rattle.dt_record.specs.LoadSources.{origin_of_key}
use Rattle.dt_hart.specs.Fences.{fences_of}
use Rattle.dt_hart.specs.HartView.{HartView}
use Rattle.dt_hart.specs.OwnWrites.{GoesOn}
use Rattle.dt_hart.specs.Settings.{Setting, arch_of, did, does, key_in}
use Rattle.dt_hart.specs.Standing.{FencesAreEarlier, KnowsAt, KnowsAtNext, HartStands}
use Rattle.dt_hart.specs.Taking.{WasRead, WasJudged}
use Rattle.dt_rules.specs.declared.misfits.Passed.{Passed}
use Rattle.dt_local.specs.LocalMemory.{local_memory}
use Rattle.dt_rules.specs.declared.misfits.Misfit.{Misfit}
use Rattle.dt_versions.specs.declared.moments.Span.{Span}
use Rattle.dt_step.specs.declared.plans.Planned.{Planned}
use Rattle.dt_versions.specs.History.{History, are_in_order}
use Rattle.dt_versions.specs.Spans.{last_visible}
use Rattle.dt_windows.specs.Fences.{covers_page, first_since, is_instruction_fence, last_fence}
use Rattle.dt_windows.specs.Kept.{page_key}
use Rattle.dt_windows.specs.Laws.{LastFencesAreBelow}
use Rattle.dt_judge.specs.Grounds.{Grounds, grounds_of, window_of}
use Rattle.dt_judge.specs.Judgement.{Finds, FindsBody}
use Rattle.dt_judge.specs.Judging.{Meets}
use Rattle.dt_judge.specs.Keeping.{IsReadIn, Remembers, WasFound, grounds_kept, window_kept}
use Rattle.dt_judge.specs.Kinds.{seen_by}
use Rattle.dt_judge.proofs.LaterFindings.{CheckLaws, SeesNoMore, finds_more}
use Rattle.dt_judge.proofs.LaterFits.{Steady, is_seen, least_less, steady}
use Rattle.dt_judge.proofs.LaterReads.{judged_less, knows_less, reading_more}
use Rattle.dt_judge.proofs.LaterWrites.{first_same, last_same, last_within, own_source_same}
use Rattle.dt_judge.proofs.SeenActions.{all_seen, record_reads, record_seen}

-- What is found from what is kept is what the judgement finds of a setting.

-- the setting, with the memory's image and writes in the place of its own
abbrev settled : History → Setting → List Write → Setting
settled m s later = record s { image = m.image; writes = m.writes ++ later }

is_settled : (h : HartView) (m : History) (s : Setting) (r : Record) (meets : Meets h m s r) → s ≡ settled m s meets.later
is_settled h m s r meets = λ i. record s { image = meets.image i; writes = meets.writes i }

-- what a body is found to be, whatever the hart did
abbrev pub FoundAs : HartView → History → (seq last : ℕ) → Record → Result Passed Misfit → Type 0
FoundAs h m seq last r f =
    (actions : List Action) (moments : ℕ → ℕ) → Remembers h m (key_of seq r) actions moments
    → FindsBody (grounds_kept h m last actions moments) (key_of seq r) r.body f

abbrev pub FoundOf : HartView → History → (seq : ℕ) → Record → Sources → Type 0
FoundOf h m seq r sources =
    (actions : List Action) (moments : ℕ → ℕ) → Remembers h m (key_of seq r) actions moments
    → WasFound m.image m.writes actions moments (key_of seq r) r.body sources

pub in_order_front : (ws later : List Write) → IsTrue (are_in_order (ws ++ later)) → IsTrue (are_in_order ws)
in_order_front [] later ordered = refl
in_order_front (w ∷ ws) later ordered =
    let above : Write → Bool = λ v. key_below w.key v.key in
    let parts = and_parts (list_all above (ws ++ later)) (are_in_order (ws ++ later)) ordered in
    let both : IsTrue (list_all above ws && list_all above later) = rw (list_all-append above ws later) at parts.0 in
    let first : list_all above ws ≡ true = (and_parts (list_all above ws) (list_all above later) both).0 in
    rw first (in_order_front ws later parts.1)

is_at_most : {a b : ℕ} → IsTrue (nat_le a b) → a ≤ b
is_at_most {a} {b} below = grind (arith, nat_tests)

-- the laws that it rests on
pub record Laws : Type 0 where
  pub known : KnowsAtNext
  pub fences : FencesAreEarlier
  pub last : LastFencesAreBelow
  pub checks : CheckLaws

module _ (laws : Laws) (h : HartView) (m : History) (s : Setting) (r : Record) (meets : Meets h m s r) where
  abbrev there : Setting
  there = settled m s meets.later

  stands_there : HartStands h there
  stands_there = subst (λ (x : Setting). HartStands h x) (is_settled h m s r meets) meets.stands

  goes_on_there : GoesOn there r
  goes_on_there = subst (λ (x : Setting). GoesOn x r) (is_settled h m s r meets) meets.goes_on

  seen_before : IsTrue (list_all (is_seen r.stamp) (did s))
  seen_before = all_seen s.before r meets.goes_on.more meets.goes_on.rising meets.lawful

  same_origins : Steady m.writes meets.later (did s) s.moments
  same_origins =
      steady m.writes meets.later r.stamp meets.after (did s) s.moments seen_before m.image stands_there.chosen.fits

  -- the last moment that the record may see
  abbrev end : ℕ
  end = (seen_by m.writes (key_in s r)).last

  -- the least moment that the hart could see at an earlier fence is the same with the later writes
  since_earlier : (fence : Option Key) → IfSome fence (λ f. KeyBelow f (key_in s r)) → first_since (m.writes ++ meets.later) fence ≡ first_since m.writes fence
  since_earlier None below = refl
  since_earlier (Some f) below = first_same m.writes meets.later r.stamp meets.after f f.stamp (KeyBelow-stamps f (key_in s r) below)

  since_last : (test : Planned → Bool) → first_since (m.writes ++ meets.later) (last_fence test (fences_of s)) ≡ first_since m.writes (last_fence test (fences_of s))
  since_last test = since_earlier (last_fence test (fences_of s)) (laws.last test (fences_of s) (key_in s r) (laws.fences s r meets.goes_on))

  -- the grounds are seen from what is kept
  same_grounds : grounds_of there (key_in s r) ≡ record (grounds_kept h m end (did s) s.moments) { writes = m.writes ++ meets.later }
  same_grounds = λ i. record {
    image = m.image;
    writes = m.writes ++ meets.later;
    arch = arch i;
    actions = did s;
    moments = s.moments;
    reserved = sym meets.stands.reserved i;
    fetch = record {
      first = window (arch i).pc i;
      second = window (sum_of 64 (arch i).pc 2) i;
      since = record { first = since i; last = last i };
    };
    window = λ va. window va i;
  }
    where
      arch : arch_of s ≡ h.arch
      arch = sym meets.stands.arch

      last : last_visible (m.writes ++ meets.later) (key_in s r) r.stamp ≡ end
      last = last_same m.writes meets.later r.stamp meets.after (key_in s r) r.stamp (omega arith)

      since : first_since (m.writes ++ meets.later) (last_fence is_instruction_fence (fences_of s)) ≡ first_since m.writes h.windows.instructions
      since = since_last is_instruction_fence ∙ ap (first_since m.writes) (sym meets.stands.windows.instructions)

      page : (va : ℕ) → first_since (m.writes ++ meets.later) (last_fence (covers_page va) (fences_of s)) ≡ first_since m.writes (page_key h.windows va)
      page va = since_last (covers_page va) ∙ ap (first_since m.writes) (sym (meets.stands.windows.pages va))

      window : (va : ℕ) → window_of there (key_in s r) va ≡ window_kept h m.writes end va
      window va = λ i. record { first = page va i; last = last i }

  -- what is kept remembers what the hart did
  remembers : Remembers h m (key_in s r) (did s) s.moments
  remembers =
      let known : KnowsAt h there (key_in s r) = laws.known h there r stands_there goes_on_there in
      record {
        stores = meets.stands.stores;
        floor = meets.stands.floor;
        knows = knows_less m.writes meets.later r.stamp meets.after (did s) s.moments same_origins (local_memory h.keys None) (key_in s r) (omega arith) known.knows;
        judged = judged_less m.writes meets.later r.stamp meets.after (did s) s.moments same_origins (key_in s r) (omega arith) known.judged;
        in_order = in_order_front m.writes meets.later goes_on_there.in_order;
        chosen = least_less m.writes meets.later r.stamp meets.after (did s) s.moments seen_before m.image stands_there.chosen;
      }

  -- the grounds that are kept, which see no later write
  abbrev kept : Grounds
  kept = grounds_kept h m end (did s) s.moments

  kept_sees : SeesNoMore kept meets.later
  kept_sees =
      let begins = sym (take-append-le end m.writes meets.later (last_within m.writes meets.later r.stamp meets.after (key_in s r) r.stamp)) in
      record { fetch = record { first = begins; second = begins; since = begins }; window = λ va. begins }

  pub finds : (seq : ℕ) (seen : Span) (f : Result Passed Misfit) → IsTrue (is_lawful r) → seq ≡ h.seq → seen ≡ seen_by m.writes (key_of seq r) → FoundAs h m seq seen.last r f → Finds s r f
  finds seq seen f lawful is saw found =
      let here : FoundAs h m seq (seen_by m.writes (key_of seq r)).last r f = subst (λ (span : Span). FoundAs h m seq span.last r f) saw found in
      let its : FoundAs h m (length s.before) end r f = subst (λ n. FoundAs h m n (seen_by m.writes (key_of n r)).last r f) (is ∙ meets.stands.seq) here in
      let few = its (did s) s.moments remembers in
      let more =
      finds_more laws.checks kept meets.later r.stamp meets.after kept_sees same_origins seen_before (key_in s r) r.body f
      (record_reads r lawful) refl few in
      subst (λ (x : Setting). Finds x r f) (sym (is_settled h m s r meets)) (subst (λ (g : Grounds). FindsBody g (key_in s r) r.body f) (sym same_grounds) more)

  read_action : (action : Option Action) (sources : Sources) → IsTrue (list_all (is_seen r.stamp) (option_to_list action)) → IsReadIn m.image m.writes (did s) s.moments action sources
      → (moment : ℕ) × WasRead there action moment sources
  read_action (Some (Loaded ask)) sources seen read =
      let parts = and_parts (nat_le ask.at r.stamp && nat_le ask.key.stamp r.stamp) true seen in
      let both = and_parts (nat_le ask.at r.stamp) (nat_le ask.key.stamp r.stamp) parts.0 in
      let passed : Passed = record { letters = read.0; sources = sources } in
      let reading = reading_more m.writes meets.later r.stamp meets.after (did s) s.moments same_origins seen_before m.image ask passed
      (record { at = is_at_most both.0; key = is_at_most both.1 }) read.1 in
      (reading.moment, record { chosen = reading.chosen; origins = reading.sources })
  read_action None sources seen read = (0, tt)
  read_action (Some (Stored store)) sources seen read = (0, tt)
  read_action (Some (Drained key line count)) sources seen read = (0, tt)
  read_action (Some (Fenced ww wr rr)) sources seen read = (0, tt)
  read_action (Some (Atomic key addr width reads acquires)) sources seen read =
      let parts = and_parts (nat_le key.stamp r.stamp) true seen in
      (0, λ is i within. read is i within ∙ ap (λ source. Some (origin_of_key source)) (sym (own_source_same m.writes meets.later r.stamp meets.after key (addr + i) (is_at_most parts.0))))

  -- the record was judged, at some moment
  pub was_judged : (seq : ℕ) (sources : Sources) → IsTrue (is_lawful r) → seq ≡ h.seq → FoundOf h m seq r sources → (moment : ℕ) × WasJudged s r moment sources
  was_judged seq sources lawful is found =
      let its : FoundOf h m (length s.before) r sources = subst (λ n. FoundOf h m n r sources) (is ∙ meets.stands.seq) found in
      let all = its (did s) s.moments remembers in
      let read = read_action (does s r) sources (record_seen (length s.before) r lawful) all.is_read in
      let judged : WasJudged there r read.0 sources = record { is_read = read.1; is_drained = all.is_drained } in
      (read.0, subst (λ (x : Setting). WasJudged x r read.0 sources) (sym (is_settled h m s r meets)) judged)
