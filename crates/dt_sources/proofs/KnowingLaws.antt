use Rattle.std.proofs.Common.{ℕ, ◌≡◌, ◌<◌, ◌≤◌, ◌⊎◌, false, Option, Some, None, List, [], ◌∷◌, length, take, refl, sym, ap, ◌∙◌, subst, inl, inr, arith}
use Rattle.std.specs.Prelude.{IfSome}
use Rattle.std.proofs.lemmas.Bool.{cases_Bool, cases_lt, cond-true, false≢true}
use Rattle.std.proofs.lemmas.List.{take_all, take-append-le}
use Rattle.std.proofs.lemmas.Option.{slice_get_within}
use Rattle.dt_record.proofs.KeyChains.{below-not_above}
use Rattle.dt_lists.proofs.Lists.{slice_get-append_left, slice_get-append_seam}
use Rattle.dt_record.specs.declared.keys.Key.{Key}
use Rattle.dt_record.specs.declared.writes.Write.{Write}
use Rattle.dt_record.specs.declared.origins.Origin.{Origin}
use Rattle.dt_record.specs.declared.origins.Origin.TheVariants as origin
use Rattle.dt_record.specs.Memory.{covers}
use Rattle.dt_record.specs.Keys.{key_below, KeyBelow}
use Rattle.dt_record.proofs.KeyLaws.{key_below-itself, key_below-back}
use Rattle.dt_record.specs.Actions.{Action}
use Rattle.dt_record.specs.LoadSources.{At, rank_below, origin_at}
use Rattle.dt_versions.specs.Laws.{source_rank}
use Rattle.dt_local.specs.LocalMemory.{newest_of, greater}
use Rattle.dt_sources.specs.Choice.{then_action}
use Rattle.dt_sources.specs.Knowing.{HadFrom, WroteBefore, IsKnownKey, IsGreatest, IsAddedKey, KnowingGoesOn, write_key, covering_key, NotesAreAdded}
use Rattle.dt_sources.proofs.Choices.{earlier_load, next_action}
use Rattle.dt_sources.proofs.Ranks.{rank_below-itself, not_below_image, not_below-chain}

-- How local memory goes on knowing.

-- the greater of two is below neither
greater_left : (a b : Option Key) → rank_below (source_rank (greater a b)) (source_rank a) ≡ false
greater_left None b = not_below_image (source_rank b)
greater_left (Some a) None = key_below-itself a
greater_left (Some a) (Some b) = elim (cases_Bool (key_below a b)) [
  | inl rises ↦ rw rises (key_below-back a b rises)
  | inr stays ↦ rw stays (key_below-itself a)
]

greater_right : (a b : Option Key) → rank_below (source_rank (greater a b)) (source_rank b) ≡ false
greater_right None b = rank_below-itself (source_rank b)
greater_right (Some a) None = refl
greater_right (Some a) (Some b) = elim (cases_Bool (key_below a b)) [
  | inl rises ↦ rw rises (key_below-itself b)
  | inr stays ↦ rw stays stays
]

-- and one of them
greater_one : (P : Key → Type 0) (a b : Option Key) → IfSome a P → IfSome b P → IfSome (greater a b) P
greater_one P None b first second = second
greater_one P (Some a) None first second = first
greater_one P (Some a) (Some b) first second = elim (cases_Bool (key_below a b)) [
  | inl rises ↦ rw rises second
  | inr stays ↦ rw stays first
]

if_some_weaker : (P Q : Key → Type 0) (o : Option Key) → ((key : Key) → P key → Q key) → IfSome o P → IfSome o Q
if_some_weaker P Q None weaker holds = tt
if_some_weaker P Q (Some key) weaker holds = weaker key holds

wrote_earlier : (writes : List Write) (next after : Key) (byte : ℕ) (key : Key) → next.hart ≡ after.hart → WroteBefore writes after byte key → KeyBelow key next → WroteBefore writes next byte key
wrote_earlier writes next after byte key hart wrote before = record {
  write = wrote.write;
  there = wrote.there;
  is_its = wrote.is_its;
  own = wrote.own ∙ sym hart;
  before = before;
  covering = wrote.covering;
}

wrote_later : (writes : List Write) (next after : Key) (byte : ℕ) (key : Key) → next.hart ≡ after.hart → key_below after next ≡ false → WroteBefore writes next byte key → WroteBefore writes after byte key
wrote_later writes next after byte key hart rises wrote = record {
  write = wrote.write;
  there = wrote.there;
  is_its = wrote.is_its;
  own = wrote.own ∙ hart;
  before = below-not_above key next after wrote.before rises;
  covering = wrote.covering;
}

had_front : (actions : List Action) (action : Action) (place : ℕ) → place ≤ length actions → take place (then_action actions action) ≡ take place actions
had_front actions action place within = take-append-le place actions (action ∷ []) within

-- what earlier actions had they still had
had_earlier : (writes : List Write) (actions : List Action) (moments others : ℕ → ℕ) (action : Action) (byte : ℕ) (key : Key) → ((place : ℕ) → place < length actions → others place ≡ moments place)
    → HadFrom writes actions moments byte key → HadFrom writes (then_action actions action) others byte key
had_earlier writes actions moments others action byte key same had =
    let within = slice_get_within actions had.place had.action had.there in
    record {
      place = had.place;
      action = had.action;
      there = slice_get-append_left actions (action ∷ []) had.place within ∙ had.there;
      had = ap (λ before. origin_at writes before (others had.place) had.action byte) (had_front actions action had.place (omega arith))
          ∙ ap (λ n. origin_at writes (take had.place actions) n had.action byte) (same had.place within) ∙ had.had;
    }

had_last : (writes : List Write) (actions : List Action) (others : ℕ → ℕ) (action : Action) (byte : ℕ) (key : Key)
    → origin_at writes actions (others (length actions)) action byte ≡ Some (origin.Write key) → HadFrom writes (then_action actions action) others byte key
had_last writes actions others action byte key had = record {
  place = length actions;
  action = action;
  there = slice_get-append_seam actions action [];
  had = ap (λ before. origin_at writes before (others (length actions)) action byte) (had_front actions action (length actions) (omega arith) ∙ take_all (length actions) actions (omega arith)) ∙ had;
}

had_cases : (writes : List Write) (actions : List Action) (moments others : ℕ → ℕ) (action : Action) (byte : ℕ) (key : Key) → ((place : ℕ) → place < length actions → others place ≡ moments place)
    → HadFrom writes (then_action actions action) others byte key
    → HadFrom writes actions moments byte key ⊎ (origin_at writes actions (others (length actions)) action byte ≡ Some (origin.Write key))
had_cases writes actions moments others action byte key same had = elim (cases_lt had.place (length actions)) [
  | inl within ↦ inl (record {
    place = had.place;
    action = had.action;
    there = earlier_load actions action had.action had.place had.there within;
    had = sym (ap (λ before. origin_at writes before (others had.place) had.action byte) (had_front actions action had.place (omega arith))
        ∙ ap (λ n. origin_at writes (take had.place actions) n had.action byte) (same had.place within)) ∙ had.had;
  })
  | inr past ↦
      let last = next_action actions action had.action had.place had.there past in
      let front : take had.place (then_action actions action) ≡ actions = had_front actions action had.place (omega (arith, last.0)) ∙ take_all had.place actions (omega (arith, last.0)) in
      inr (ap (λ n. origin_at writes actions (others n) action byte) (sym last.0)
      ∙ ap (λ a. origin_at writes actions (others had.place) a byte) last.1
      ∙ ap (λ before. origin_at writes before (others had.place) had.action byte) (sym front) ∙ had.had)
]

pub knowing : KnowingGoesOn
knowing = record {
  at_first = λ writes moments next none byte. record {
    bound = λ key known. elim known [
      | inl had ↦ absurd (cc had.there)
      | inr wrote ↦ absurd (none byte key wrote)
    ];
    one_of_them = tt;
  };
  other_record = λ local writes actions moments next after knows hart rises none byte. record {
    bound = λ key known. elim known [
      | inl had ↦ (knows byte).bound key (inl had)
      | inr wrote ↦ (knows byte).bound key (inr (wrote_earlier writes next after byte key hart wrote (none byte key wrote)))
    ];
    one_of_them = if_some_weaker (IsKnownKey writes actions moments next byte) (IsKnownKey writes actions moments after byte) (newest_of local byte)
        (λ key known. elim known [
          | inl had ↦ inl had
          | inr wrote ↦ inr (wrote_later writes next after byte key hart rises wrote)
        ]) (knows byte).one_of_them;
  };
  action = λ local noted writes actions moments others action next after added knows hart rises same adds notes byte.
      let old = newest_of local byte in
      let new = added byte in
      let Known : Key → Type 0 = IsKnownKey writes (then_action actions action) others after byte in
      subst (IsGreatest Known) (sym (notes byte)) (record {
        bound = λ key known.
            let from_old = λ (is : IsKnownKey writes actions moments next byte key).
            not_below-chain (source_rank (greater old new)) (source_rank old) (At key) (greater_left old new) ((knows byte).bound key is) in
            let from_new = λ (is : IsAddedKey writes actions (others (length actions)) action next after byte key).
            not_below-chain (source_rank (greater old new)) (source_rank new) (At key) (greater_right old new) ((adds byte).bound key is) in
            elim known [
              | inl had ↦ elim (had_cases writes actions moments others action byte key same had) [
                | inl earlier ↦ from_old (inl earlier)
                | inr now ↦ from_new (inl now)
              ]
              | inr wrote ↦ elim (cases_Bool (key_below key next)) [
                | inl before ↦ from_old (inr (wrote_earlier writes next after byte key hart wrote before))
                | inr not_before ↦ from_new (inr (wrote, not_before))
              ]
            ];
        one_of_them = greater_one Known old new
            (if_some_weaker (IsKnownKey writes actions moments next byte) Known old (λ key known. elim known [
              | inl had ↦ inl (had_earlier writes actions moments others action byte key same had)
              | inr wrote ↦ inr (wrote_later writes next after byte key hart rises wrote)
            ]) (knows byte).one_of_them)
            (if_some_weaker (IsAddedKey writes actions (others (length actions)) action next after byte) Known new (λ key known. elim known [
              | inl had ↦ inl (had_last writes actions others action byte key had)
              | inr wrote ↦ inr wrote.0
            ]) (adds byte).one_of_them);
      });
}

had_is_added : (writes : List Write) (actions : List Action) (moment : ℕ) (action : Action) (next after : Key) (byte : ℕ)
    → IfSome (write_key (origin_at writes actions moment action byte)) (IsAddedKey writes actions moment action next after byte)
had_is_added writes actions moment action next after byte = from (origin_at writes actions moment action byte) refl
  where
    from : (o : Option Origin) → origin_at writes actions moment action byte ≡ o → IfSome (write_key o) (IsAddedKey writes actions moment action next after byte)
    from None is = tt
    from (Some origin.Image) is = tt
    from (Some (origin.Write key)) is = inl is
    from (Some (origin.Store seq)) is = tt

not_below_had : (o : Option Origin) (key : Key) → o ≡ Some (origin.Write key) → rank_below (source_rank (write_key o)) (At key) ≡ false
not_below_had o key is = ap (λ p. rank_below (source_rank (write_key p)) (At key)) is ∙ key_below-itself key

pub notes : NotesAreAdded
notes = record {
  reads = λ writes actions moment action next after byte none. record {
    bound = λ key added. elim added [
      | inl had ↦ not_below_had (origin_at writes actions moment action byte) key had
      | inr wrote ↦ absurd (false≢true (sym wrote.1 ∙ none key wrote.0))
    ];
    one_of_them = had_is_added writes actions moment action next after byte;
  };
  writes = λ writes actions moment action next after byte w there is hart rises one.
      let had = write_key (origin_at writes actions moment action byte) in
      let Added : Key → Type 0 = IsAddedKey writes actions moment action next after byte in
      record {
        bound = λ key added. elim added [
          | inl from ↦ not_below-chain (source_rank (greater had (covering_key byte w))) (source_rank had) (At key) (greater_left had (covering_key byte w))
              (not_below_had (origin_at writes actions moment action byte) key from)
          | inr wrote ↦
              let same : wrote.0.write ≡ w = one key wrote.0 wrote.1 in
              let its : w.key ≡ key = ap (λ (v : Write). v.key) (sym same) ∙ wrote.0.is_its in
              let covered : covering_key byte w ≡ Some key =
              cond-true (covers byte w) (Some w.key) None (ap (λ (v : Write). covers byte v) (sym same) ∙ wrote.0.covering) ∙ ap (λ k. Some k) its in
              not_below-chain (source_rank (greater had (covering_key byte w))) (source_rank (covering_key byte w)) (At key) (greater_right had (covering_key byte w))
              (ap (λ o. rank_below (source_rank o) (At key)) covered ∙ key_below-itself key)
        ];
        one_of_them = greater_one Added had (covering_key byte w) (had_is_added writes actions moment action next after byte)
            (elim (cases_Bool (covers byte w)) [
              | inl covering ↦
                  let before : KeyBelow w.key after = subst (λ k. KeyBelow k after) (sym is) rises in
                  let own : w.key.hart ≡ after.hart = ap (λ (k : Key). k.hart) is ∙ hart in
                  let not_before : key_below w.key next ≡ false = ap (λ k. key_below k next) is ∙ key_below-itself next in
                  rw covering (inr (record { write = w; there = there; is_its = refl; own = own; before = before; covering = covering }, not_before))
              | inr elsewhere ↦ rw elsewhere tt
            ]);
      };
}
