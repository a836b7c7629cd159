use Rattle.std.proofs.Common.{ℕ, ◌≡◌, ◌+◌, ◌<◌, ◌≤◌, ◌↔◌, Bool, true, false, List, Ok, Err, length, get_or, IsTrue, inl, inr, refl, sym, ap, subst, ◌∙◌, arith}
use Rattle.std.proofs.lemmas.Bool.{cases_lt, false≢true}
use Rattle.std.proofs.lemmas.List.{ext_get_or}
use Rattle.std.proofs.lemmas.Option.{get_or_from_slice_get}
use Rattle.dt_record.specs.declared.writes.Write.{Write}
use Rattle.dt_record.specs.declared.accesses.LoadAsk.{LoadAsk}
use Rattle.dt_record.specs.declared.origins.Letters.{Letters}
use Rattle.dt_record.specs.declared.origins.Origin.{Origin}
use Rattle.dt_record.specs.declared.origins.Origin.TheVariants as origin
use Rattle.dt_record.specs.declared.origins.Sources.{Sources}
use Rattle.dt_record.specs.Actions.{Action, Loaded}
use Rattle.dt_record.specs.LoadSources.{origin_of, AreLeastSources}
use Rattle.dt_sources.specs.Choice.{then_action, with_moment}
use Rattle.dt_sources.specs.Finding.{AreSourcesAt}
use Rattle.dt_alu.specs.Extend.{extend_value}
use Rattle.dt_rules.specs.declared.misfits.Passed.{Passed}
use Rattle.dt_loads.specs.Reading.{HasNewer, IsReading, IsUnread, LoadsHaveOneAnswer, load_letters}
use Rattle.dt_loads.proofs.Moments.{moment_here, next_seam}

-- A load has one answer.

abbrev sources_made : ℕ → List Origin → Sources
sources_made count from = record { count = count; from = from }

abbrev passed_made : Letters → Sources → Passed
passed_made letters sources = record { letters = letters; sources = sources }

same_sources : (writes : List Write) (actions : List Action) (ask : LoadAsk) (k : ℕ) (one other : Sources) → length one.from ≡ 8 → length other.from ≡ 8
    → AreSourcesAt writes actions ask k one → AreSourcesAt writes actions ask k other → one ≡ other
same_sources writes actions ask k one other long other_long at other_at = joined one other (at.count ∙ sym other_at.count) (ext_get_or origin.Image one.from other.from (long ∙ sym other_long) each)
  where
    joined : (a b : Sources) → a.count ≡ b.count → a.from ≡ b.from → a ≡ b
    joined a b count from = ap (λ n. sources_made n a.from) count ∙ ap (sources_made b.count) from

    each : (i : ℕ) → i < length one.from → get_or one.from i origin.Image ≡ get_or other.from i origin.Image
    each i within = elim (cases_lt i ask.width) [
      | inl read ↦
          get_or_from_slice_get one.from i (origin_of writes actions ask k (ask.addr + i)) origin.Image (at.from i read)
          ∙ sym (get_or_from_slice_get other.from i (origin_of writes actions ask k (ask.addr + i)) origin.Image (other_at.from i read))
      | inr past ↦
          get_or_from_slice_get one.from i origin.Image origin.Image (at.no_more i past (omega arith))
          ∙ sym (get_or_from_slice_get other.from i origin.Image origin.Image (other_at.no_more i past (omega arith)))
    ]

-- the least assignments of the same loads read the last at one moment
no_later : (image : List ℕ) (writes : List Write) (actions : List Action) (moments : ℕ → ℕ) (ask : LoadAsk) (j k : ℕ)
    → AreLeastSources image writes (then_action actions (Loaded ask)) (with_moment moments (length actions) j)
    → AreLeastSources image writes (then_action actions (Loaded ask)) (with_moment moments (length actions) k) → j ≤ k
no_later image writes actions moments ask j k one other =
    let place = length actions in
    let low : with_moment moments place j place ≤ with_moment moments place k place =
    one.least (with_moment moments place k) other.fits place ask (next_seam actions ask) in
    omega (arith, moment_here moments place j, moment_here moments place k)

same_reading : (image : List ℕ) (writes : List Write) (actions : List Action) (moments : ℕ → ℕ) (ask : LoadAsk) (one other : Passed) → length one.sources.from ≡ 8 → length other.sources.from ≡ 8
    → IsReading image writes actions moments ask one → IsReading image writes actions moments ask other → one ≡ other
same_reading image writes actions moments ask one other long other_long is other_is =
    let first = no_later image writes actions moments ask is.moment other_is.moment is.chosen other_is.chosen in
    let second = no_later image writes actions moments ask other_is.moment is.moment other_is.chosen is.chosen in
    let moment : other_is.moment ≡ is.moment = omega arith in
    let at : AreSourcesAt writes actions ask is.moment other.sources = subst (λ k. AreSourcesAt writes actions ask k other.sources) moment other_is.sources in
    let newer : IsTrue other.letters.l ↔ HasNewer writes actions moments ask is.moment = subst (λ k. IsTrue other.letters.l ↔ HasNewer writes actions moments ask k) moment other_is.newer in
    let letter : one.letters.l ≡ other.letters.l = same_letter one.letters.l other.letters.l is.newer newer in
    joined one other (is.no_other ∙ ap load_letters letter ∙ sym other_is.no_other)
    (same_sources writes actions ask is.moment one.sources other.sources long other_long is.sources at)
  where
    joined : (a b : Passed) → a.letters ≡ b.letters → a.sources ≡ b.sources → a ≡ b
    joined a b letters sources = ap (λ l. passed_made l a.sources) letters ∙ ap (passed_made b.letters) sources

    same_letter : {P : Type 0} (a b : Bool) → IsTrue a ↔ P → IsTrue b ↔ P → a ≡ b
    same_letter true true first second = refl
    same_letter true false first second = absurd (false≢true (second.1 (first.0 refl)))
    same_letter false true first second = absurd (false≢true (first.1 (second.0 refl)))
    same_letter false false first second = refl

pub one_answer : LoadsHaveOneAnswer
one_answer image writes actions moments ask signed value (Ok one) (Ok other) long other_long is other_is =
    ap (λ passed. Ok passed) (same_reading image writes actions moments ask one other long other_long is.1 other_is.1)
one_answer image writes actions moments ask signed value (Err one) (Err other) long other_long is other_is = ap (λ refused. Err refused) (is.1 ∙ sym other_is.1)
one_answer image writes actions moments ask signed value (Ok one) (Err other) long other_long is other_is = absurd (apart is.0 is.1 other_is.0)
  where
    apart : extend_value ask.width signed ask.raw ≡ value → IsReading image writes actions moments ask one → IsUnread image writes actions ask signed value → ⊥
    apart extends reading (inl not_extends) = not_extends extends
    apart extends reading (inr nowhere) = nowhere (with_moment moments (length actions) reading.moment, reading.chosen.fits)
one_answer image writes actions moments ask signed value (Err one) (Ok other) long other_long is other_is = absurd (apart other_is.0 other_is.1 is.0)
  where
    apart : extend_value ask.width signed ask.raw ≡ value → IsReading image writes actions moments ask other → IsUnread image writes actions ask signed value → ⊥
    apart extends reading (inl not_extends) = not_extends extends
    apart extends reading (inr nowhere) = nowhere (with_moment moments (length actions) reading.moment, reading.chosen.fits)
