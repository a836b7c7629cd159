use Rattle.std.proofs.Common.{ℕ, ◌≡◌, ◌<◌, ◌%◌, Bool, true, Option, Some, None, List, [], ◌∷◌, ◌++◌, Result, Ok, Err, max, take, refl, sym, ap, ◌∙◌, subst, arith}
use Rattle.std.proofs.Math.ListN.{replicate}
use Rattle.std.specs.Prelude.{if◌then◌else◌, OnOk}
use Rattle.std.specs.List.{slice_get}
use Rattle.std.specs.Option.{option_map_or, option_to_list}
use Rattle.std.specs.declared.alloc.AllocError.{AllocError}
use Rattle.std.proofs.lemmas.List.{append-nil, get_or-replicate, length-replicate}
use Rattle.std.proofs.lemmas.Option.{slice_get-get_or}
use Rattle.dt_record.specs.declared.accesses.LoadAsk.{LoadAsk}
use Rattle.dt_record.specs.declared.accesses.OwnStore.{OwnStore}
use Rattle.dt_record.specs.declared.keys.Key.{Key}
use Rattle.dt_record.specs.declared.origins.Sources.{Sources}
use Rattle.dt_record.specs.declared.records.Body.{Body}
use Rattle.dt_record.specs.declared.records.Body.TheVariants.{Load, Atomic, Drain}
use Rattle.dt_record.specs.declared.records.Retire.{Retire}
use Rattle.dt_record.specs.declared.writes.Write.{Write}
use Rattle.dt_record.specs.Actions.{Action, Stored, Drained, Fenced, Loaded, Atomic as Accessed, last_read}
use Rattle.dt_record.specs.Lawful.{is_in_ram}
use Rattle.dt_record.specs.Writes.{body_write}
use Rattle.dt_local.specs.LocalMemory.{local_memory, newest_of, is_noted, noted_key, greater}
use Rattle.dt_reference.specs.HartActions.{body_action, width_of, reads_memory, acquires as its_acquires}
use Rattle.dt_reference.specs.Meaning.{meaning_of}
use Rattle.dt_sources.specs.Knowing.{covering_key}
use Rattle.dt_stores.specs.declared.answers.DrainAnswer.{DrainAnswer}
use Rattle.dt_stores.specs.declared.answers.DrainAnswer.TheVariants as answer
use Rattle.dt_stores.specs.Draining.{drain_answer, OnRefused, OnTook, UnlessOutOfMemory}
use Rattle.dt_stores.specs.GoingOn.{DrainsStayBelow}
use Rattle.dt_stores.specs.Kept.{Kept}
use Rattle.dt_stores.specs.Standing.{StoresStand, GainsAction}
use Rattle.dt_hart.specs.declared.accesses.Accesses.{Accesses}
use Rattle.dt_hart.specs.Counting.{CountsOn}
use Rattle.dt_hart.specs.Following.{Follows, floor_asked, noted_by, read_by, read_key}
use Rattle.dt_hart.proofs.Counted.{below_next, counts_gained, counts_same}
use Rattle.dt_hart.proofs.ReadKeys.{greater-none}

-- What records leave of the accesses.

-- a drain that is known to take its stores has taken them
pub drain_gains : (result : DrainAnswer) (old new : Kept) (key : Key) (line count : ℕ) → (result ≡ answer.OutOfMemory → ⊥)
    → UnlessOutOfMemory result ((actions : List Action) → StoresStand old actions → result ≡ drain_answer actions line count)
    → OnTook result (GainsAction old new (Drained key line count))
    → (actions : List Action) (taken : ℕ) (bytes : List ℕ) → StoresStand old actions → drain_answer actions line count ≡ answer.Took taken bytes
    → StoresStand new (actions ++ Drained key line count ∷ [])
drain_gains (answer.Took mask found) old new key line count memory answers took actions taken bytes keeps is = took actions keeps
drain_gains (answer.Few held) old new key line count memory answers took actions taken bytes keeps is =
    let no : answer.Few held ≡ answer.Took taken bytes = answers actions keeps ∙ is in absurd (cc)
drain_gains (answer.Barred seq) old new key line count memory answers took actions taken bytes keeps is =
    let no : answer.Barred seq ≡ answer.Took taken bytes = answers actions keeps ∙ is in absurd (cc)
drain_gains answer.OutOfMemory old new key line count memory answers took actions taken bytes keeps is = absurd (memory refl)

-- and whatever it answers, no more fences are counted
pub drain_counts : DrainsStayBelow → (result : DrainAnswer) (old new : Kept) (key : Key) (line count : ℕ) → OnTook result (GainsAction old new (Drained key line count))
    → OnRefused result (new ≡ old) → CountsOn key old new
drain_counts stay (answer.Took mask found) old new key line count took refused = counts_gained stay key old new (Drained key line count) (below_next key) took
drain_counts stay (answer.Few held) old new key line count took refused = counts_same key old new refused
drain_counts stay (answer.Barred seq) old new key line count took refused = counts_same key old new refused
drain_counts stay answer.OutOfMemory old new key line count took refused = counts_same key old new refused

-- a store is no drain
pub store_counts : DrainsStayBelow → (result : Result (Unit {0}) AllocError) (old new : Kept) (key : Key) (store : OwnStore) → OnOk result (GainsAction old new (Stored store)) → OnOk result (CountsOn key old new)
store_counts stay (Ok done) old new key store gains = counts_gained stay key old new (Stored store) tt gains
store_counts stay (Err memory) old new key store gains = tt

-- a note of one key gives it to each byte of the mask
pub noted_same : (line mask : ℕ) (key : Key) (byte : ℕ) → noted_key line mask (replicate 64 key) byte ≡ (if is_noted line mask byte then Some key else None)
noted_same line mask key byte =
    let within : byte % 64 < 64 = omega arith in
    let long = length-replicate 64 key in
    let found : slice_get (replicate 64 key) (byte % 64) ≡ Some key =
    slice_get-get_or (replicate 64 key) (byte % 64) key (omega arith) ∙ ap Some (get_or-replicate 64 (byte % 64) key key within) in
    rw found refl

-- so much is noted for each byte
abbrev pub Notes : Accesses → Accesses → (ℕ → Option Key) → Type 0
Notes old new noted = (byte : ℕ) → newest_of new.local byte ≡ greater (newest_of old.local byte) (noted byte)

max_zero : (m n : ℕ) → n ≡ 0 → m ≡ max m n
max_zero m n none = omega (arith, none)

-- the accesses go on by a record that orders and notes nothing
pub rest_follows : (a : Accesses) (key : Key) (body : Body) (sources : Sources) → body_action key body ≡ None → body_write key body ≡ None
    → ((byte : ℕ) → read_by body sources byte ≡ None) → Follows a a key body sources
rest_follows a key body sources action write read = record {
  stores = λ actions before drained. rw action (subst (λ (l : List Action). StoresStand a.stores l) (sym (append-nil actions)) before);
  keys = λ byte. sym (ap (λ (o : Option Write). greater (newest_of a.local byte) (option_map_or (covering_key byte) o (read_by body sources byte))) write
      ∙ ap (greater (newest_of a.local byte)) (read byte) ∙ greater-none (newest_of a.local byte));
  floor = max_zero a.floor _ (ap (floor_asked a.last_read) action);
  last_read = max_zero a.last_read _ (ap (λ (o : Option Action). last_read (option_to_list o)) action);
}

-- by a FENCE
pub fence_follows : (old new : Accesses) (key : Key) (body : Body) (sources : Sources) (ww wr rr : Bool)
    → body_action key body ≡ Some (Fenced ww wr rr) → body_write key body ≡ None → ((byte : ℕ) → read_by body sources byte ≡ None)
    → GainsAction old.stores new.stores (Fenced ww wr rr) → new.local.keys ≡ old.local.keys
    → new.floor ≡ max old.floor (if rr then old.last_read else 0) → new.last_read ≡ old.last_read → Follows old new key body sources
fence_follows old new key body sources ww wr rr action write read gains keys floor last = record {
  stores = λ actions before drained. rw action (gains actions before);
  keys = λ byte. ap (λ (l : List (ℕ × Key)). newest_of (local_memory l None) byte) keys
      ∙ sym (ap (λ (o : Option Write). greater (newest_of old.local byte) (option_map_or (covering_key byte) o (read_by body sources byte))) write
      ∙ ap (greater (newest_of old.local byte)) (read byte) ∙ greater-none (newest_of old.local byte));
  floor = floor ∙ ap (max old.floor) (sym (ap (floor_asked old.last_read) action));
  last_read = last ∙ max_zero old.last_read _ (ap (λ (o : Option Action). last_read (option_to_list o)) action);
}

load_noted : (key : Key) (retire : Retire) (at paddr byte : ℕ) (sources : Sources) → is_in_ram paddr ≡ true
    → read_key paddr (take (width_of (meaning_of retire.bits)) sources.from) byte ≡ noted_by key (Load retire at paddr) sources byte
load_noted key retire at paddr byte sources ram = rw ram refl

-- by a load from RAM
pub load_follows : (result : Result (Unit {0}) AllocError) (old new : Accesses) (key : Key) (body : Body) (sources : Sources) (retire : Retire) (at paddr width : ℕ)
    → ((kept : Kept) (ask : LoadAsk) → GainsAction kept kept (Loaded ask))
    → body ≡ Load retire at paddr → is_in_ram paddr ≡ true → width ≡ width_of (meaning_of retire.bits)
    → new.stores ≡ old.stores → OnOk result (Notes old new (read_key paddr (take width sources.from))) → new.floor ≡ old.floor → OnOk result (new.last_read ≡ max old.last_read at)
    → OnOk result (Follows old new key body sources)
load_follows (Ok done) old new key body sources retire at paddr width keeps is ram wide stores noted floor last = record {
  stores = λ actions before drained. rw (is, ram, stores) (keeps old.stores _ actions before);
  keys = λ byte. noted byte ∙ ap (λ (o : Option Key). greater (newest_of old.local byte) o) (rw (is, wide) (load_noted key retire at paddr byte sources ram));
  floor = floor ∙ max_zero old.floor _ (rw (is, ram) refl);
  last_read = last ∙ ap (max old.last_read) (rw (is, ram) (max_zero at 0 refl));
}
load_follows (Err memory) old new key body sources retire at paddr width keeps is ram wide stores noted floor last = tt

-- by an atomic
pub atomic_follows : (result : Result (Unit {0}) AllocError) (old new : Accesses) (key : Key) (body : Body) (sources : Sources) (retire : Retire) (paddr width : ℕ) (wrote : Bool) (new_value : ℕ) (reads acquires : Bool) (own : Option Write)
    → ((kept : Kept) (key : Key) (addr width : ℕ) (reads acquires : Bool) → GainsAction kept kept (Accessed key addr width reads acquires))
    → body ≡ Atomic retire paddr width wrote new_value → reads ≡ reads_memory (meaning_of retire.bits) → acquires ≡ its_acquires (meaning_of retire.bits) wrote → own ≡ body_write key body
    → new.stores ≡ old.stores → OnOk result (Notes old new (λ byte. option_map_or (covering_key byte) own (if reads then read_key paddr (take width sources.from) byte else None)))
    → OnOk result (new.floor ≡ max old.floor (if acquires then key.stamp else 0)) → OnOk result (new.last_read ≡ max old.last_read (if reads then key.stamp else 0))
    → OnOk result (Follows old new key body sources)
atomic_follows (Ok done) old new key body sources retire paddr width wrote new_value reads acquires own keeps is reading acquiring made stores noted floor last = record {
  stores = λ actions before drained. rw (is, stores) (keeps old.stores _ _ _ _ _ actions before);
  keys = λ byte. noted byte ∙ ap (λ (o : Option Key). greater (newest_of old.local byte) o) (rw (made, reading, is) refl);
  floor = floor ∙ rw (is, acquiring) refl;
  last_read = last ∙ ap (max old.last_read) (rw (is, reading) (max_zero _ 0 refl));
}
atomic_follows (Err memory) old new key body sources retire paddr width wrote new_value reads acquires own keeps is reading acquiring made stores noted floor last = tt

-- by a drain
pub drain_follows : (result : Result (Unit {0}) AllocError) (old new : Accesses) (key : Key) (body : Body) (sources : Sources) (line mask count : ℕ) (found : List ℕ)
    → body ≡ Drain line mask count found
    → OnOk result ((actions : List Action) (taken : ℕ) (bytes : List ℕ) → StoresStand old.stores actions → drain_answer actions line count ≡ answer.Took taken bytes → StoresStand new.stores (actions ++ Drained key line count ∷ []))
    → OnOk result (Notes old new (λ byte. if is_noted line mask byte then Some key else None))
    → new.floor ≡ old.floor → new.last_read ≡ old.last_read → OnOk result (Follows old new key body sources)
drain_follows (Ok done) old new key body sources line mask count found is stores noted floor last = rw is (record {
  stores = λ actions before drained. stores actions mask found before drained;
  keys = noted;
  floor = floor ∙ omega arith;
  last_read = last ∙ omega arith;
})
drain_follows (Err memory) old new key body sources line mask count found is stores noted floor last = tt
