-- The core machine: steps in any order, over whole lists. A step that is not possible changes
-- nothing. All of it is this project's own.
use Rattle.std.specs.Prelude.{ℕ, zero, suc, ◌+◌, ◌-◌, ◌%◌, ◌==◌, ◌&&◌, Bool, true, false, not, nat_lt, nat_le, Option, Some, None, List, [], ◌∷◌, ◌++◌, length, map, take, drop, replicate, slice_index, slice_set, option_map, option_to_list, if◌then◌else◌}
use Rattle.std.specs.List.{slice_get, list_all, list_any, prefix_len}
use Rattle.dt_record.specs.declared.keys.Key.{Key}
use Rattle.dt_record.specs.declared.records.Record.{Record}
use Rattle.dt_record.specs.declared.writes.Write.{Write}
use Rattle.dt_record.specs.declared.writes.Note.{Note}
use Rattle.dt_record.specs.declared.writes.Note.TheVariants.{Wrote, Mark, End, Cut, Failure}
use Rattle.dt_record.specs.Keys.{key_of, records_of}
use Rattle.dt_record.specs.Writes.{by_key}
use Rattle.dt_core.specs.declared.entries.Entry.{Entry}
use Rattle.dt_core.specs.declared.steps.CoreStep.{CoreStep}
use Rattle.dt_core.specs.declared.steps.CoreStep.TheVariants.{Feed, Take, Announce, Look, Judge}
use Rattle.dt_core.specs.Judgements.{Meaning}
use Rattle.dt_record.specs.Marks.{least_mark, can_judge}
use Rattle.dt_core.specs.Notes.{announced, hart_writes, writes_below, notes_appended, entries_by}
use Rattle.dt_core.specs.Sound.{writes_by}

-- what is kept of one hart. Its judged records are the first taken ones, as many as there are
-- outcomes: whether each was allowed. The state is the judgement's after them.
pub record HartState (J : Type 0) : Type 0 where
  pub queue : List Record
  pub taken : List Record
  pub outcomes : List Bool
  pub state : J

-- the file's records and how many were fed, whether the end of all harts was fed, the harts, how
-- much of the history each worker has seen, and the history
pub record CoreState (J : Type 0) : Type 0 where
  pub file : List Record
  pub fed : ℕ
  pub is_ended : Bool
  pub harts : List (HartState J)
  pub seen : List ℕ
  pub history : List Entry

abbrev pub with_hart : {J : Type 0} → CoreState J → ℕ → HartState J → CoreState J
with_hart c hart s = record c { harts = slice_set c.harts hart s }

-- Feed: the file's next record is queued for its hart; once there is none, the harts are told that no more come

abbrev pub queued : {J : Type 0} → List (HartState J) → Record → Option (HartState J) → List (HartState J)
queued harts r None = harts
queued harts r (Some s) = slice_set harts r.hart (record s { queue = s.queue ++ r ∷ [] })

abbrev pub feed_next : {J : Type 0} → CoreState J → Option Record → CoreState J
feed_next c None = record c { is_ended = true }
feed_next c (Some r) = record c { fed = c.fed + 1; harts = queued c.harts r (slice_get c.harts r.hart) }

-- Take: the first record of the queue goes to the end of the taken list

abbrev pub take_first : {J : Type 0} → List (HartState J) → ℕ → HartState J → List Record → List (HartState J)
take_first harts hart s [] = harts
take_first harts hart s (r ∷ rs) = slice_set harts hart (record s { queue = rs; taken = s.taken ++ r ∷ [] })

abbrev pub take_of : {J : Type 0} → List (HartState J) → ℕ → Option (HartState J) → List (HartState J)
take_of harts hart None = harts
take_of harts hart (Some s) = take_first harts hart s s.queue

-- Announce: what a worker has to tell of its harts

-- the harts of a worker are those whose number leaves its own when divided by the number of workers
abbrev pub is_mine : ℕ → ℕ → ℕ → Bool
is_mine workers worker hart = (hart % workers) == worker

-- a Mark at the cycle of the record that was taken last, and nothing before the first
abbrev pub last_mark : ℕ → List Record → List Note
last_mark hart taken = option_to_list (option_map (λ r. Mark hart r.stamp) (slice_get taken (length taken - 1)))

-- End once no more records come and none is queued, and a Mark until then
abbrev pub reach_by : Bool → ℕ → List Record → List Record → List Note
reach_by true hart [] taken = End hart ∷ []
reach_by true hart (r ∷ rs) taken = last_mark hart taken
reach_by false hart queue taken = last_mark hart taken

-- the writes of taken records that are not yet announced
abbrev pub new_writes : ℕ → List Record → List Note → List Write
new_writes hart taken notes = drop (length (hart_writes hart (announced notes))) (writes_by taken)

-- what is to be told of one hart after these notes
abbrev pub news_by : {J : Type 0} → Bool → ℕ → HartState J → List Note → List Note
news_by is_ended hart s notes = map Wrote (new_writes hart s.taken notes) ++ reach_by is_ended hart s.queue s.taken

-- the history after the worker's news of these harts, of which the first has this number
abbrev pub told : {J : Type 0} → ℕ → ℕ → Bool → ℕ → List (HartState J) → List Entry → List Entry
told workers worker is_ended hart [] history = history
told workers worker is_ended hart (s ∷ ss) history =
    told workers worker is_ended (suc hart) ss
    (if is_mine workers worker hart then history ++ entries_by worker (news_by is_ended hart s (notes_appended history)) else history)

abbrev pub has_failed : List Bool → Bool
has_failed outcomes = list_any not outcomes

abbrev pub is_key : Key → Option Key → Bool
is_key key None = false
is_key key (Some k) = (key.stamp == k.stamp) && ((key.hart == k.hart) && (key.seq == k.seq))

-- the key of the last judged record
abbrev pub last_judged : {J : Type 0} → HartState J → Option Key
last_judged s = option_map (key_of (length s.outcomes - 1)) (slice_get s.taken (length s.outcomes - 1))

-- the hart's judged records end with a failure at this key
abbrev pub ends_with : {J : Type 0} → Key → Option (HartState J) → Bool
ends_with key None = false
ends_with key (Some s) = has_failed s.outcomes && is_key key (last_judged s)

-- every record of the hart with a stamp below the cut was judged without a reason
abbrev pub is_crossed : List Record → ℕ → ℕ → List Bool → Bool
is_crossed file hart cut outcomes = list_all (λ r. nat_le cut r.stamp) (drop (prefix_len (λ o. o) outcomes) (records_of hart file))

abbrev pub has_crossed : {J : Type 0} → List Record → ℕ → ℕ → Option (HartState J) → Bool
has_crossed file hart cut None = false
has_crossed file hart cut (Some s) = is_crossed file hart cut s.outcomes

-- a Cut or a Failure that is true of the worker's judged records
abbrev pub is_true : {J : Type 0} → CoreState J → ℕ → Note → Bool
is_true c worker (Cut hart cut) = is_mine (length c.seen) worker hart && has_crossed c.file hart cut (slice_get c.harts hart)
is_true c worker (Failure key) = is_mine (length c.seen) worker key.hart && ends_with key (slice_get c.harts key.hart)
is_true c worker _ = false

abbrev pub announce_of : {J : Type 0} → CoreState J → ℕ → List Note → CoreState J
announce_of c worker extra =
    if nat_lt worker (length c.seen) && list_all (is_true c worker) extra
    then record c { history = told (length c.seen) worker c.is_ended 0 c.harts c.history ++ entries_by worker extra }
    else c

-- Judge: the next unjudged taken record, over the history that the hart's worker has seen

-- the notes that the worker of a hart has seen
abbrev pub seen_notes : {J : Type 0} → CoreState J → ℕ → List Note
seen_notes c hart = notes_appended (take (slice_index c.seen (hart % length c.seen)) c.history)

-- the writes that may be used: those below the least mark, and all where all harts have ended
abbrev pub usable_below : Option ℕ → List Write → List Write
usable_below None writes = writes
usable_below (Some least) writes = writes_below least writes

abbrev pub usable : ℕ → List Note → List Write
usable harts notes = usable_below (least_mark harts notes) (by_key (announced notes))

abbrev pub next_record : {J : Type 0} → HartState J → Option Record
next_record s = if has_failed s.outcomes then None else slice_get s.taken (length s.outcomes)

abbrev pub judged : {J : Type 0} → Meaning J → List Write → HartState J → Record → HartState J
judged m writes s r = record s { outcomes = s.outcomes ++ m.allows s.state writes r ∷ []; state = m.after s.state writes r }

abbrev pub judge_next : {J : Type 0} → Meaning J → CoreState J → ℕ → HartState J → List Note → Option Record → CoreState J
judge_next m c hart s notes None = c
judge_next m c hart s notes (Some r) =
    if can_judge (length c.harts) notes r.stamp then with_hart c hart (judged m (usable (length c.harts) notes) s r) else c

abbrev pub judge_of : {J : Type 0} → Meaning J → CoreState J → ℕ → Option (HartState J) → CoreState J
judge_of m c hart None = c
judge_of m c hart (Some s) = judge_next m c hart s (seen_notes c hart) (next_record s)

-- the state after one step
abbrev pub step_state : {J : Type 0} → Meaning J → CoreState J → CoreStep → CoreState J
step_state m c Feed = feed_next c (slice_get c.file c.fed)
step_state m c (Take hart) = record c { harts = take_of c.harts hart (slice_get c.harts hart) }
step_state m c (Announce worker extra) = announce_of c worker extra
step_state m c (Look worker) = record c { seen = slice_set c.seen worker (length c.history) }
step_state m c (Judge hart) = judge_of m c hart (slice_get c.harts hart)

-- the state after a list of steps
abbrev pub run_steps : {J : Type 0} → Meaning J → CoreState J → List CoreStep → CoreState J
run_steps m c [] = c
run_steps m c (s ∷ ss) = run_steps m (step_state m c s) ss

-- nothing is fed, taken or judged, and the history is empty

abbrev pub new_hart : {J : Type 0} → J → HartState J
new_hart state = record { queue = []; taken = []; outcomes = []; state = state }

abbrev pub new_harts : {J : Type 0} → Meaning J → ℕ → List (HartState J)
new_harts m zero = []
new_harts m (suc hart) = new_harts m hart ++ new_hart (m.opening hart) ∷ []

abbrev pub opening_state : {J : Type 0} → Meaning J → ℕ → ℕ → List Record → CoreState J
opening_state m harts workers file =
    record { file = file; fed = 0; is_ended = false; harts = new_harts m harts; seen = replicate workers 0; history = [] }
