use Rattle.std.proofs.Common.{ℕ, ◌≡◌, ◌≢◌, ◌+◌, ◌-◌, ◌<◌, Bool, true, false, IsTrue, Option, Some, None, List, [], ◌∷◌, ◌++◌, length, take, zero, suc, refl, sym, ap, ◌∙◌, subst, inl, inr, arith}
use Rattle.std.specs.List.{slice_get}
use Rattle.std.specs.Option.{option_to_list, option_map_or}
use Rattle.std.specs.Prelude.{if◌then◌else◌}
use Rattle.std.proofs.lemmas.Bool.{cases_Bool, cases_lt, ne_eqb, eq-eqb}
use Rattle.std.proofs.lemmas.Bool.Decides.{nat_tests}
use Rattle.std.proofs.lemmas.List.{append-nil, length-take}
use Rattle.dt_record.specs.declared.accesses.LoadAsk.{LoadAsk}
use Rattle.dt_record.specs.declared.keys.Key.{Key}
use Rattle.dt_record.specs.declared.origins.Origin.{Origin}
use Rattle.dt_record.specs.declared.origins.Sources.{Sources}
use Rattle.dt_record.specs.declared.records.Body.{Body}
use Rattle.dt_record.specs.declared.records.Record.{Record}
use Rattle.dt_record.specs.declared.writes.Write.{Write}
use Rattle.dt_record.specs.Actions.{Action, Stored, Drained, Fenced, Loaded, Atomic as Accessed}
use Rattle.dt_record.specs.Lawful.{is_atomic_place}
use Rattle.dt_record.specs.LoadSources.{AreLeastSources, is_within, origin_at, origin_of, origin_of_key}
use Rattle.dt_record.specs.Memory.{moment_of, source_at}
use Rattle.dt_record.specs.Writes.{write_of_record}
use Rattle.dt_local.specs.LocalMemory.{LocalMemory, local_memory, newest_of, greater}
use Rattle.dt_reference.specs.HartActions.{acquires, reads_memory}
use Rattle.dt_reference.specs.Meaning.{meaning_of}
use Rattle.dt_sources.specs.Choice.{LeastChoiceGoesOn, LeastChoiceIsLeast, then_action, with_moment}
use Rattle.dt_sources.specs.Finding.{AreSourcesAt}
use Rattle.dt_sources.specs.Knowing.{Knows, IsGreatest, IsKnownKey, KnowingGoesOn, NotesAreAdded, write_key, covering_key}
use Rattle.dt_versions.specs.History.{are_in_order}
use Rattle.dt_hart.specs.Following.{read_key, read_by, noted_by}
use Rattle.dt_hart.specs.HartView.{HartView}
use Rattle.dt_hart.specs.OwnWrites.{GoesOn}
use Rattle.dt_hart.specs.Settings.{Setting, did, does, key_in, next_key, moments_after}
use Rattle.dt_hart.specs.Standing.{HartStands}
use Rattle.dt_hart.specs.Taking.{WasRead, ReadsLeast, ReadsAtKey, is_placed}
use Rattle.dt_hart.proofs.AtomicSources.{atomic_write, own_is_greater}
use Rattle.dt_hart.proofs.Earlier.{key_after, is_its, next_rises, earlier, after_rises, next_below_after, only_earlier, only_its}
use Rattle.dt_hart.proofs.RecordKinds.{Kind, Idle, Loads, Stores, Fences, Atomics, Drains, IsIdle, IsLoad, IsAtomic, IsDrain}
use Rattle.dt_hart.proofs.OwnKeys.{write_is_there}
use Rattle.dt_hart.proofs.ReadKeys.{greater-none, read_key-below, read_key-within, read_key-past}

-- What local memory knows after one more record, and the moments of the loads.

-- it knows what it has to at the key of the next record
pub known_next : KnowingGoesOn → (h : HartView) (s : Setting) (r : Record) → HartStands h s → GoesOn s r → Knows (local_memory h.keys None) s.writes (did s) s.moments (key_in s r)
known_next laws h s r stands g =
    laws.other_record (local_memory h.keys None) s.writes (did s) s.moments (next_key s) (key_in s r) stands.knows (sym (is_its s r g)) (next_rises s r g) (earlier s r g)

slice_get-take : {X : Type 0} (n : ℕ) (xs : List X) (i : ℕ) → i < n → slice_get (take n xs) i ≡ slice_get xs i
slice_get-take zero xs i within = absurd (omega arith)
slice_get-take (suc n) [] i within = refl
slice_get-take (suc n) (x ∷ xs) zero within = refl
slice_get-take (suc n) (x ∷ xs) (suc i) within = slice_get-take n xs i (omega arith)

-- the bytes from a place on have the keys of the writes that they came from
spread : (addr width : ℕ) (from : List Origin) (origin : ℕ → Origin) → ((i : ℕ) → i < width → slice_get from i ≡ Some (origin (addr + i)))
    → (byte : ℕ) → read_key addr (take width from) byte ≡ write_key (if is_within addr width byte then Some (origin byte) else None)
spread addr width from origin are byte =
    let front : List Origin = take width from in
    elim (cases_lt byte addr) [
      | inl below ↦
          let outside : is_within addr width byte ≡ false = grind (arith, nat_tests) in
          rw outside (read_key-below addr front byte below)
      | inr above ↦ elim (cases_lt byte (addr + width)) [
        | inl within ↦
            let inside : is_within addr width byte ≡ true = grind (arith, nat_tests) in
            let place : addr + (byte - addr) ≡ byte = omega arith in
            rw inside
            (read_key-within addr front byte above
            ∙ ap write_key (slice_get-take width from (byte - addr) (omega arith) ∙ are (byte - addr) (omega arith) ∙ ap (λ (n : ℕ). Some (origin n)) place))
        | inr past ↦
            let outside : is_within addr width byte ≡ false = grind (arith, nat_tests) in
            let long = length-take width from in
            rw outside (read_key-past addr front byte (omega arith))
      ]
    ]

-- the sources of a load have the keys of the writes that its bytes came from
read_origins : (writes : List Write) (actions : List Action) (ask : LoadAsk) (k : ℕ) (sources : Sources) → AreSourcesAt writes actions ask k sources
    → (byte : ℕ) → read_key ask.addr (take ask.width sources.from) byte ≡ write_key (origin_at writes actions k (Loaded ask) byte)
read_origins writes actions ask k sources are byte = spread ask.addr ask.width sources.from (λ n. origin_of writes actions ask k n) are.from byte

-- and so have those of an atomic that reads
atomic_origins : (writes : List Write) (actions : List Action) (k : ℕ) (key : Key) (addr width : ℕ) (reads acquires : Bool) (sources : Sources)
    → (IsTrue reads → ReadsAtKey writes key addr width sources)
    → (byte : ℕ) → (if reads then read_key addr (take width sources.from) byte else None) ≡ write_key (origin_at writes actions k (Accessed key addr width reads acquires) byte)
atomic_origins writes actions k key addr width false acquires sources are byte = refl
atomic_origins writes actions k key addr width true acquires sources are byte =
    spread addr width sources.from (λ n. origin_of_key (source_at writes (moment_of writes key) n)) (are refl) byte

same_newest : (l m : LocalMemory) (writes : List Write) (actions : List Action) (moments : ℕ → ℕ) (next : Key) → ((byte : ℕ) → newest_of m byte ≡ newest_of l byte)
    → Knows l writes actions moments next → Knows m writes actions moments next
same_newest l m writes actions moments next same knows = λ byte. subst (IsGreatest (IsKnownKey writes actions moments next byte)) (sym (same byte)) (knows byte)

-- the moments of the loads before stay
moments_stay : (moments : ℕ → ℕ) (actions : List Action) (k place : ℕ) → place < length actions → with_moment moments (length actions) k place ≡ moments place
moments_stay moments actions k place within = rw (ne_eqb place (length actions) (λ same. omega arith)) refl

moment_is : (moments : ℕ → ℕ) (actions : List Action) (k : ℕ) → with_moment moments (length actions) k (length actions) ≡ k
moment_is moments actions k = rw (eq-eqb (length actions) (length actions) refl) refl

-- what is noted of the next record is the greater of what was known and what it adds
abbrev pub Notes : (old new : LocalMemory) (s : Setting) (r : Record) → Sources → Type 0
Notes old new s r sources = (byte : ℕ) → newest_of new byte ≡ greater (newest_of old byte) (noted_by (key_in s r) r.body sources byte)

abbrev pub KnowsAfter : (new : LocalMemory) (s : Setting) (r : Record) → (moment : ℕ) → Type 0
KnowsAfter new s r moment = Knows new s.writes (did s ++ option_to_list (does s r)) (moments_after s (does s r) moment) (key_after s r)

-- what is noted of a record that wrote nothing is what it read
notes_read : (s : Setting) (r : Record) (sources : Sources) (byte : ℕ) → write_of_record (length s.before) r ≡ None
    → noted_by (key_in s r) r.body sources byte ≡ read_by r.body sources byte
notes_read s r sources byte none = ap (λ (o : Option Write). option_map_or (covering_key byte) o (read_by r.body sources byte)) none

-- and of one that wrote its own key
notes_own : (s : Setting) (r : Record) (sources : Sources) (byte : ℕ) (w : Write) → write_of_record (length s.before) r ≡ Some w
    → noted_by (key_in s r) r.body sources byte ≡ covering_key byte w
notes_own s r sources byte w makes = ap (λ (o : Option Write). option_map_or (covering_key byte) o (read_by r.body sources byte)) makes

idle_known : KnowingGoesOn → (old new : LocalMemory) (s : Setting) (r : Record) (g : GoesOn s r) (sources : Sources) (moment : ℕ) → Knows old s.writes (did s) s.moments (key_in s r)
    → Notes old new s r sources → IsIdle (key_in s r) r.body → KnowsAfter new s r moment
idle_known laws old new s r g sources moment knows notes idle =
    let same : (byte : ℕ) → newest_of new byte ≡ newest_of old byte =
    λ byte. notes byte ∙ ap (greater (newest_of old byte)) (notes_read s r sources byte idle.write ∙ idle.read sources byte) ∙ greater-none (newest_of old byte) in
    let after = laws.other_record old s.writes (did s) s.moments (key_in s r) (key_after s r) knows (is_its s r g) (after_rises s r g) (only_earlier s r g idle.write) in
    rw idle.action
    (subst (λ (l : List Action). Knows new s.writes l s.moments (key_after s r)) (sym (append-nil (did s)))
    (same_newest old new s.writes (did s) s.moments (key_after s r) same after))

-- after a record that wrote nothing
reader_known : KnowingGoesOn → NotesAreAdded → (old new : LocalMemory) (s : Setting) (r : Record) (g : GoesOn s r) (sources : Sources) (others : ℕ → ℕ) (action : Action)
    → Knows old s.writes (did s) s.moments (key_in s r) → Notes old new s r sources → write_of_record (length s.before) r ≡ None
    → ((place : ℕ) → place < length (did s) → others place ≡ s.moments place)
    → ((byte : ℕ) → read_by r.body sources byte ≡ write_key (origin_at s.writes (did s) (others (length (did s))) action byte))
    → Knows new s.writes (did s ++ action ∷ []) others (key_after s r)
reader_known laws added old new s r g sources others action knows notes none stay read =
    let moment : ℕ = others (length (did s)) in
    let adds : ℕ → Option Key = λ byte. write_key (origin_at s.writes (did s) moment action byte) in
    laws.action old new s.writes (did s) s.moments others action (key_in s r) (key_after s r) adds knows (is_its s r g) (after_rises s r g) stay
    (λ byte. added.reads s.writes (did s) moment action (key_in s r) (key_after s r) byte (only_earlier s r g none byte))
    (λ byte. notes byte ∙ ap (greater (newest_of old byte)) (notes_read s r sources byte none ∙ read byte))

-- after a record that wrote, and read nothing that is newer
writer_known : KnowingGoesOn → NotesAreAdded → (old new : LocalMemory) (s : Setting) (r : Record) (g : GoesOn s r) (sources : Sources) (action : Action) (w : Write)
    → Knows old s.writes (did s) s.moments (key_in s r) → Notes old new s r sources → write_of_record (length s.before) r ≡ Some w → w.key ≡ key_in s r
    → ((byte : ℕ) → greater (write_key (origin_at s.writes (did s) (s.moments (length (did s))) action byte)) (covering_key byte w) ≡ covering_key byte w)
    → Knows new s.writes (did s ++ action ∷ []) s.moments (key_after s r)
writer_known laws added old new s r g sources action w knows notes makes its above =
    let moment : ℕ = s.moments (length (did s)) in
    let adds : ℕ → Option Key = λ byte. greater (write_key (origin_at s.writes (did s) moment action byte)) (covering_key byte w) in
    laws.action old new s.writes (did s) s.moments s.moments action (key_in s r) (key_after s r) adds knows (is_its s r g) (after_rises s r g)
    (λ place within. refl)
    (λ byte. added.writes s.writes (did s) moment action (key_in s r) (key_after s r) byte w
    (write_is_there s r g w makes) its (is_its s r g) (next_below_after s r g) (only_its s r g w makes byte))
    (λ byte. notes byte ∙ ap (greater (newest_of old byte)) (notes_own s r sources byte w makes ∙ sym (above byte)))

load_known : KnowingGoesOn → NotesAreAdded → (old new : LocalMemory) (s : Setting) (r : Record) (g : GoesOn s r) (sources : Sources) (moment : ℕ) → Knows old s.writes (did s) s.moments (key_in s r)
    → Notes old new s r sources → (load : IsLoad (key_in s r) r.body) → ReadsLeast s load.ask moment sources → KnowsAfter new s r moment
load_known laws added old new s r g sources moment knows notes load read =
    rw load.action
    (reader_known laws added old new s r g sources (with_moment s.moments (length (did s)) moment) (Loaded load.ask) knows notes load.write
    (moments_stay s.moments (did s) moment)
    (λ byte.
    load.read sources byte ∙ read_origins s.writes (did s) load.ask moment sources read.origins byte
    ∙ ap (λ n. write_key (origin_at s.writes (did s) n (Loaded load.ask) byte)) (sym (moment_is s.moments (did s) moment))))

-- what an atomic reads, by its instruction
abbrev its_reads : {body : Body} → IsAtomic body → Bool
its_reads x = reads_memory (meaning_of x.retire.bits)

abbrev its_acquires : {body : Body} → IsAtomic body → Bool
its_acquires x = acquires (meaning_of x.retire.bits) x.wrote

abbrev its_action : {body : Body} → Key → IsAtomic body → Action
its_action key x = Accessed key x.paddr x.width (its_reads x) (its_acquires x)

atomic_known : KnowingGoesOn → NotesAreAdded → (old new : LocalMemory) (s : Setting) (r : Record) (g : GoesOn s r) (sources : Sources) (moment : ℕ) → Knows old s.writes (did s) s.moments (key_in s r)
    → Notes old new s r sources → (x : IsAtomic r.body) → IsTrue (is_atomic_place x.paddr x.width)
    → (IsTrue (its_reads x) → ReadsAtKey s.writes (key_in s r) x.paddr x.width sources) → KnowsAfter new s r moment
atomic_known laws added old new s r g sources moment knows notes x placed read = elim (cases_Bool x.wrote) [
  | inl wrote ↦
      let w : Write = atomic_write (key_in s r) x.paddr x.width x.new in
      let makes : write_of_record (length s.before) r ≡ Some w = rw (x.is, wrote) refl in
      rw x.is
      (writer_known laws added old new s r g sources (its_action (key_in s r) x) w knows notes makes refl
      (λ byte. own_is_greater s.writes (did s) (s.moments (length (did s))) (key_in s r) x.paddr x.width x.new (its_reads x) (its_acquires x) byte g.in_order placed))
  | inr quiet ↦
      let none : write_of_record (length s.before) r ≡ None = rw (x.is, quiet) refl in
      let its : (byte : ℕ) → read_by r.body sources byte ≡ (if its_reads x then read_key x.paddr (take x.width sources.from) byte else None) = λ byte. rw x.is refl in
      rw x.is
      (reader_known laws added old new s r g sources s.moments (its_action (key_in s r) x) knows notes none
      (λ place within. refl)
      (λ byte. its byte ∙ atomic_origins s.writes (did s) (s.moments (length (did s))) (key_in s r) x.paddr x.width (its_reads x) (its_acquires x) sources read byte))
]

-- the write of a drain
abbrev pub drain_write : (key : Key) (line mask : ℕ) (bytes : List ℕ) → Write
drain_write key line mask bytes = record { key = key; line = line; mask = mask; bytes = bytes }

pub drain_wrote : (s : Setting) (r : Record) (d : IsDrain r.body) → write_of_record (length s.before) r ≡ Some (drain_write (key_in s r) d.line d.mask d.bytes)
drain_wrote s r d = rw d.is refl

drain_known : KnowingGoesOn → NotesAreAdded → (old new : LocalMemory) (s : Setting) (r : Record) (g : GoesOn s r) (sources : Sources) (moment : ℕ) → Knows old s.writes (did s) s.moments (key_in s r)
    → Notes old new s r sources → IsDrain r.body → KnowsAfter new s r moment
drain_known laws added old new s r g sources moment knows notes d =
    rw d.is
    (writer_known laws added old new s r g sources (Drained (key_in s r) d.line d.count) (drain_write (key_in s r) d.line d.mask d.bytes) knows notes (drain_wrote s r d) refl
    (λ byte. refl))

-- whatever the record is, local memory goes on knowing
pub known_after : KnowingGoesOn → NotesAreAdded → (old new : LocalMemory) (s : Setting) (r : Record) (g : GoesOn s r) (moment : ℕ) (sources : Sources) → Knows old s.writes (did s) s.moments (key_in s r)
    → Notes old new s r sources → WasRead s (does s r) moment sources → IsTrue (is_placed (does s r)) → Kind (key_in s r) r.body → KnowsAfter new s r moment
known_after laws added old new s r g moment sources knows notes known placed (Idle idle) = idle_known laws old new s r g sources moment knows notes idle
known_after laws added old new s r g moment sources knows notes known placed (Loads load) =
    load_known laws added old new s r g sources moment knows notes load (rw load.action at known)
known_after laws added old new s r g moment sources knows notes known placed (Stores store) =
    rw store.action
    (reader_known laws added old new s r g sources s.moments (Stored store.store) knows notes store.write (λ place within. refl) (store.read sources))
known_after laws added old new s r g moment sources knows notes known placed (Fences f) =
    rw f.action
    (reader_known laws added old new s r g sources s.moments (Fenced f.ww f.wr f.rr) knows notes f.write (λ place within. refl) (f.read sources))
known_after laws added old new s r g moment sources knows notes known placed (Atomics x) =
    atomic_known laws added old new s r g sources moment knows notes x (rw x.is at placed) (rw x.is at known)
known_after laws added old new s r g moment sources knows notes known placed (Drains d) = drain_known laws added old new s r g sources moment knows notes d

-- the laws of the least choice that the moments of the loads go on by
pub record ChoiceLaws : Type 0 where
  pub goes_on : LeastChoiceGoesOn
  pub is_least : LeastChoiceIsLeast

-- an action that is no load leaves them
other_after : ChoiceLaws → (image : List ℕ) (writes : List Write) (actions : List Action) (moments : ℕ → ℕ) (action : Action) → IsTrue (are_in_order writes)
    → AreLeastSources image writes actions moments → ((ask : LoadAsk) → action ≢ Loaded ask) → AreLeastSources image writes (then_action actions action) moments
other_after laws image writes actions moments action ordered chosen no_load =
    (laws.is_least image writes (then_action actions action) moments ordered).0
    (laws.goes_on.other image writes actions moments action ((laws.is_least image writes actions moments ordered).1 chosen) no_load)

-- the loads have read at the moments of the least fitting assignment
pub chosen_after : ChoiceLaws → (s : Setting) (r : Record) (moment : ℕ) (sources : Sources) → IsTrue (are_in_order s.writes) → AreLeastSources s.image s.writes (did s) s.moments
    → WasRead s (does s r) moment sources → Kind (key_in s r) r.body → AreLeastSources s.image s.writes (did s ++ option_to_list (does s r)) (moments_after s (does s r) moment)
chosen_after laws s r moment sources ordered chosen known (Idle idle) =
    rw idle.action (subst (λ (l : List Action). AreLeastSources s.image s.writes l s.moments) (sym (append-nil (did s))) chosen)
chosen_after laws s r moment sources ordered chosen known (Loads load) =
    let least : ReadsLeast s load.ask moment sources = rw load.action at known in
    rw load.action least.chosen
chosen_after laws s r moment sources ordered chosen known (Stores store) =
    rw store.action (other_after laws s.image s.writes (did s) s.moments (Stored store.store) ordered chosen (λ ask is. cc is))
chosen_after laws s r moment sources ordered chosen known (Fences f) =
    rw f.action (other_after laws s.image s.writes (did s) s.moments (Fenced f.ww f.wr f.rr) ordered chosen (λ ask is. cc is))
chosen_after laws s r moment sources ordered chosen known (Atomics x) =
    rw x.is (other_after laws s.image s.writes (did s) s.moments (its_action (key_in s r) x) ordered chosen (λ ask is. cc is))
chosen_after laws s r moment sources ordered chosen known (Drains d) =
    rw d.is (other_after laws s.image s.writes (did s) s.moments (Drained (key_in s r) d.line d.count) ordered chosen (λ ask is. cc is))
