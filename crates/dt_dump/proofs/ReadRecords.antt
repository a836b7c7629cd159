-- The records among the answers of which a stream has given some.
use Rattle.std.proofs.Common.{◌≡◌, ◌∙◌, List, [], ◌∷◌, ◌++◌, ℕ, Bool, Option, Some, None, IfSome, map, sym, ap, refl, subst}
use Rattle.std.proofs.lemmas.List.{append-nil}
use Rattle.std.proofs.lemmas.Option.{IfSome_then}
use Rattle.dt_record.specs.declared.records.Record.{Record}
use Rattle.dt_record.specs.declared.streams.Next.{Next}
use Rattle.dt_record.specs.declared.streams.Next.TheVariants.{Header, Event, End, Malformed, Limit, ReadFault, OutOfMemory}
use Rattle.dt_record.specs.Streams.{Progress, TakesAnswer}
use Rattle.dt_reading.specs.Underway.{IsUnderway, so_far}
use Rattle.dt_dump.specs.Dump.{records_in, end_of}
use Rattle.dt_dump.specs.Last.{CameTo}

-- the records and the end of these answers are the records given, and those of the answers that are left
pub record HasRead (answers : List Next) (left : Option (List Next)) (given : List Record) : Type 0 where
  pub rest : List Next
  pub left_is : left ≡ Some rest
  pub records : records_in answers ≡ given ++ records_in rest
  pub ending : end_of answers ≡ end_of rest

-- an answer that ends a stream
abbrev pub IsLast : Next → Type 0
IsLast (Header harts wide) = ⊥
IsLast (Event r) = ⊥
IsLast _ = Unit {0}

records_in-events : (rs : List Record) (rest : List Next) → records_in (map (λ r. Event r) rs ++ rest) ≡ rs ++ records_in rest
records_in-events [] rest = refl
records_in-events (q ∷ qs) rest = ap (λ (z : List Record). q ∷ z) (records_in-events qs rest)

end_of-events : (rs : List Record) (rest : List Next) → end_of (map (λ r. Event r) rs ++ rest) ≡ end_of rest
end_of-events [] rest = refl
end_of-events (q ∷ qs) rest = end_of-events qs rest

so_far-records : (o : Option ℕ) (wide : Bool) (rs : List Record) (rest : List Next) → (o ≡ None → rs ≡ [])
    → (records_in (so_far o wide rs ++ rest) ≡ rs ++ records_in rest) × (end_of (so_far o wide rs ++ rest) ≡ end_of rest)
so_far-records None wide rs rest none = (ap (λ (z : List Record). z ++ records_in rest) (sym (none refl)), refl)
so_far-records (Some harts) wide rs rest none = (records_in-events rs rest, end_of-events rs rest)

-- the records that came of a stream are those among its answers, up to those that are left
pub has_read : (told left : Option (List Next)) (harts : ℕ) (wide : Bool) (given : List Record) (p : Progress)
    → IsUnderway told left harts wide given p → IfSome told (λ answers. HasRead answers left given)
has_read told left harts wide given p u = IfSome_then told u.came (λ answers h.
    let is = so_far-records p.harts wide given h.rest u.unopened in
    record {
      rest = h.rest;
      left_is = h.left_is;
      records = ap records_in h.answers_are ∙ is.0;
      ending = ap end_of h.answers_are ∙ is.1;
    })

-- an answer that ends the stream stands behind them
pub came_last : (answers : List Next) (left after : Option (List Next)) (given : List Record) (last : Next) → HasRead answers left given → TakesAnswer left last after
    → IsLast last → CameTo answers given last
came_last answers left after given (Header harts wide) h takes is = absurd is
came_last answers left after given (Event r) h takes is = absurd is
came_last answers left after given (End count) h takes is =
    let t = subst (λ (z : Option (List Next)). TakesAnswer z (End count) after) h.left_is takes in
    (h.records ∙ ap (λ (z : List Next). given ++ records_in z) t.1 ∙ append-nil given, h.ending ∙ ap end_of t.1)
came_last answers left after given (Malformed offset) h takes is =
    let t = subst (λ (z : Option (List Next)). TakesAnswer z (Malformed offset) after) h.left_is takes in
    (h.records ∙ ap (λ (z : List Next). given ++ records_in z) t.1 ∙ append-nil given, h.ending ∙ ap end_of t.1)
came_last answers left after given (Limit what number) h takes is =
    let t = subst (λ (z : Option (List Next)). TakesAnswer z (Limit what number) after) h.left_is takes in
    (h.records ∙ ap (λ (z : List Next). given ++ records_in z) t.1 ∙ append-nil given, h.ending ∙ ap end_of t.1)
came_last answers left after given ReadFault h takes is = (records_in h.rest, h.records)
came_last answers left after given OutOfMemory h takes is = (records_in h.rest, h.records)
