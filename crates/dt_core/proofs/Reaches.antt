use Rattle.std.proofs.Common.{ℕ, ◌≡◌, ◌-◌, ◌==◌, Bool, true, false, Option, Some, None, List, [], ◌∷◌, ◌++◌, length, map, take, drop, refl, sym, ap, ◌∙◌, subst, arith, IsTrue}
use Rattle.std.specs.Prelude.{option_map, option_to_list}
use Rattle.std.specs.List.{slice_get, list_all}
use Rattle.std.proofs.lemmas.List.{append_assoc, append-nil, take_all, take-append-drop}
use Rattle.std.proofs.lemmas.List.Elements.{filter-append}
use mathlib.Core.List.{IsPrefix}
use Rattle.dt_lists.proofs.Lists.{list_all-drop}
use Rattle.dt_record.specs.declared.keys.Key.{Key}
use Rattle.dt_record.specs.declared.records.Record.{Record}
use Rattle.dt_record.specs.declared.writes.Write.{Write}
use Rattle.dt_record.specs.declared.writes.Note.{Note}
use Rattle.dt_record.specs.declared.writes.Note.TheVariants.{Wrote, Mark, End}
use Rattle.dt_record.specs.Keys.{records_of}
use Rattle.dt_record.specs.ProbeFile.{AreRecords, no_stamps}
use Rattle.dt_record.specs.Writes.{no_records}
use Rattle.dt_core.specs.Notes.{announced, hart_writes, writes_below}
use Rattle.dt_core.specs.Machine.{reach_by, new_writes}
use Rattle.dt_core.specs.Sound.{writes_by}
use Rattle.dt_core.proofs.Places.{all_filter, all_front, drop-front}
use Rattle.dt_core.proofs.Stamps.{Rises, Rises-records_of, later_stamps, same_below, own_writes}
use Rattle.dt_core.proofs.Telling.{IsTold, IsTold-push, IsTold-writes, MayFollow}

-- A worker may tell of a hart its new writes, and then its End or its Mark.

-- what is known of one hart: its records in the file, its taken list and its queue
pub record IsKnown (harts : ℕ) (file : List Record) (fed : ℕ) (is_ended : Bool) (hart : ℕ) (taken queue : List Record) : Type 0 where
  pub each : AreRecords harts no_stamps file
  pub ended : IsTrue is_ended → fed ≡ length file
  pub kept : taken ++ queue ≡ records_of hart (take fed file)

-- what was taken, and what else the file has of the hart
pub rest_of : (harts : ℕ) (file : List Record) (fed : ℕ) (is_ended : Bool) (hart : ℕ) (taken queue : List Record)
    → IsKnown harts file fed is_ended hart taken queue → taken ++ (queue ++ records_of hart (drop fed file)) ≡ records_of hart file
rest_of harts file fed is_ended hart taken queue known =
    sym (append_assoc taken queue (records_of hart (drop fed file))) ∙ ap (λ rs. rs ++ records_of hart (drop fed file)) known.kept
    ∙ sym (filter-append (λ (s : Record). s.hart == hart) (take fed file) (drop fed file)) ∙ ap (records_of hart) (take-append-drop fed file)

IsTold-mark : (harts : ℕ) (file : List Record) (fed : ℕ) (is_ended : Bool) (hart : ℕ) (known_taken queue : List Record)
    (taken : ℕ → List Record) (fails : Key → Type 0) (notes : List Note) (o : Option Record)
    → IsKnown harts file fed is_ended hart known_taken queue → hart_writes hart (announced notes) ≡ writes_by known_taken
    → slice_get known_taken (length known_taken - 1) ≡ o → IsTold file taken fails notes
    → IsTold file taken fails (notes ++ option_to_list (option_map (λ (r : Record). Mark hart r.stamp) o))
IsTold-mark harts file fed is_ended hart known_taken queue taken fails notes None known all is told =
    subst (λ (ns : List Note). IsTold file taken fails ns) (sym (append-nil notes)) told
IsTold-mark harts file fed is_ended hart known_taken queue taken fails notes (Some r) known all is told =
    let more = queue ++ records_of hart (drop fed file) in
    let whole : known_taken ++ more ≡ records_of hart file = rest_of harts file fed is_ended hart known_taken queue known in
    let rises = subst (λ (rs : List Record). Rises 0 rs) (sym whole) (Rises-records_of harts hart no_stamps file known.each) in
    let late = later_stamps 0 known_taken more r rises is in
    let follows : MayFollow file taken fails notes (Mark hart r.stamp) =
    ap (writes_below r.stamp) all ∙ same_below r.stamp no_records known_taken more late ∙ ap (λ rs. writes_below r.stamp (writes_by rs)) whole in
    IsTold-push file taken fails notes (Mark hart r.stamp) told follows

IsTold-reach : (harts : ℕ) (file : List Record) (fed : ℕ) (is_ended : Bool) (hart : ℕ) (known_taken queue : List Record)
    (taken : ℕ → List Record) (fails : Key → Type 0) (notes : List Note)
    → IsKnown harts file fed is_ended hart known_taken queue → hart_writes hart (announced notes) ≡ writes_by known_taken
    → IsTold file taken fails notes → IsTold file taken fails (notes ++ reach_by is_ended hart queue known_taken)
IsTold-reach harts file fed true hart known_taken [] taken fails notes known all told =
    let fed_all : take fed file ≡ file = ap (λ n. take n file) (known.ended refl) ∙ take_all (length file) file (omega arith) in
    let whole : known_taken ≡ records_of hart file = sym (append-nil known_taken) ∙ known.kept ∙ ap (records_of hart) fed_all in
    let follows : MayFollow file taken fails notes (End hart) = all ∙ ap writes_by whole in
    IsTold-push file taken fails notes (End hart) told follows
IsTold-reach harts file fed true hart known_taken (q ∷ qs) taken fails notes known all told =
    IsTold-mark harts file fed true hart known_taken (q ∷ qs) taken fails notes (slice_get known_taken (length known_taken - 1)) known all refl told
IsTold-reach harts file fed false hart known_taken queue taken fails notes known all told =
    IsTold-mark harts file fed false hart known_taken queue taken fails notes (slice_get known_taken (length known_taken - 1)) known all refl told

pub IsTold-news : (harts : ℕ) (file : List Record) (fed : ℕ) (is_ended : Bool) (hart : ℕ) (known_taken queue : List Record)
    (taken : ℕ → List Record) (fails : Key → Type 0) (notes : List Note)
    → IsKnown harts file fed is_ended hart known_taken queue → taken hart ≡ known_taken → IsTold file taken fails notes
    → IsTold file taken fails (notes ++ (map Wrote (new_writes hart known_taken notes) ++ reach_by is_ended hart queue known_taken))
IsTold-news harts file fed is_ended hart known_taken queue taken fails notes known is told =
    let held = hart_writes hart (announced notes) in
    let fresh = new_writes hart known_taken notes in
    let wrote = subst (λ (rs : List Record). IsPrefix held (writes_by rs)) is (told.harts hart).wrote in
    let rest : fresh ≡ wrote.0 = drop-front held wrote.0 (writes_by known_taken) wrote.1 in
    let all : held ++ fresh ≡ writes_by known_taken = ap (λ ws. held ++ ws) rest ∙ wrote.1 in
    let own_taken = all_front (λ (r : Record). r.hart == hart) known_taken queue
    (ap (list_all (λ (r : Record). r.hart == hart)) known.kept ∙ all_filter (λ (r : Record). r.hart == hart) (take fed file)) in
    let own = list_all-drop (λ (w : Write). w.key.hart == hart) (length held) (writes_by known_taken) (own_writes hart no_records known_taken own_taken) in
    let none : List Write = [] in
    let fits : IsPrefix (held ++ fresh) (writes_by (taken hart)) = (none, append-nil (held ++ fresh) ∙ all ∙ ap writes_by (sym is)) in
    let wrote_all = IsTold-writes file taken fails notes hart fresh told own fits in
    subst (λ (ns : List Note). IsTold file taken fails ns) (append_assoc notes (map Wrote fresh) (reach_by is_ended hart queue known_taken))
    (IsTold-reach harts file fed is_ended hart known_taken queue taken fails (notes ++ map Wrote fresh) known (wrote_all.1 ∙ all) wrote_all.0)
