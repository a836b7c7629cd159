use Rattle.std.proofs.Common.{ℕ, ◌≡◌, ◌-◌, ◌%◌, ◌≤◌, ◌==◌, List, None, Some, zero, suc, length, take, refl, sym, ap, ◌∙◌, arith}
use Rattle.std.specs.Prelude.{slice_get, slice_index}
use Rattle.std.specs.Option.{option_map_or}
use Rattle.std.proofs.lemmas.Bool.{cond-false, ne_eqb}
use Rattle.std.proofs.lemmas.List.{get_or-take, length-take}
use Rattle.std.proofs.lemmas.Option.{slice_get-get_or}
use Rattle.dt_record.specs.declared.writes.Write.{Write}
use Rattle.dt_record.specs.Memory.{covers, last_covering, memory_at}
use Rattle.dt_record.specs.Image.{image_byte}
use Rattle.dt_versions.specs.Chains.{IsChained, IsLastCover, line_place, newest_until, number_at, numbered}
use Rattle.dt_versions.proofs.Lasts.{last_found}
use Rattle.dt_versions.proofs.Orders.{no_write}

-- The last cover, by its number.

numbered-take : (writes : List Write) (k n : ℕ) → n ≤ k → k ≤ length writes → numbered (take k writes) n ≡ numbered writes n
numbered-take writes k zero below within = refl
numbered-take writes k (suc n) below within =
    let some = ne_eqb (suc n) 0 (λ e. omega arith) in
    cond-false (suc n == 0) None (slice_get (take k writes) (suc n - 1)) some
    ∙ slice_get-get_or (take k writes) (suc n - 1) no_write (omega (arith, length-take k writes))
    ∙ ap Some (get_or-take k writes (suc n - 1) no_write (omega arith))
    ∙ sym (slice_get-get_or writes (suc n - 1) no_write (omega arith))
    ∙ sym (cond-false (suc n == 0) None (slice_get writes (suc n - 1)) some)

pub last_covering-numbered : (writes : List Write) (k addr n : ℕ) → k ≤ length writes → IsLastCover writes k addr n → last_covering writes k addr ≡ numbered writes n
last_covering-numbered writes k addr n within is =
    let size : length (take k writes) ≡ k = omega (arith, length-take k writes) in
    let below : n ≤ k = is.within in
    last_found (covers addr) (take k writes) no_write n (omega arith)
    (λ some. ap (covers addr) (get_or-take k writes (n - 1) no_write (omega arith)) ∙ is.hit no_write some)
    (λ i from to. ap (covers addr) (get_or-take k writes i no_write (omega arith)) ∙ is.clear i no_write from (omega arith))
    ∙ numbered-take writes k n below within

-- the byte that a row leads to
pub memory_at-row : (image : List ℕ) (writes : List Write) (rows : List (List ℕ)) (chains : ℕ → List ℕ) → IsChained writes rows chains
    → (k addr newest : ℕ) → k ≤ length writes → 0x8000_0000 ≤ addr → newest ≡ newest_until (chains (line_place addr)) k
    → option_map_or (λ w. slice_index w.bytes (addr % 64)) (numbered writes (number_at rows newest (addr % 64))) (image_byte image addr) ≡ memory_at image writes k addr
memory_at-row image writes rows chains stands k addr newest within above is =
    let number = number_at rows (newest_until (chains (line_place addr)) k) (addr % 64) in
    let last = last_covering-numbered writes k addr number within (stands.exact addr k above within) in
    ap (λ n. option_map_or (λ w. slice_index w.bytes (addr % 64)) (numbered writes (number_at rows n (addr % 64))) (image_byte image addr)) is
    ∙ ap (λ o. option_map_or (λ w. slice_index w.bytes (addr % 64)) o (image_byte image addr)) (sym last)
