-- An access that reaches a physical address keeps its place in the page, and so its alignment.
use Rattle.std.proofs.Common.{◌≡◌, ℕ, ◌%◌, Bool, true, false, if◌then◌else◌, List, refl, subst, arith, inl, inr}
use Rattle.dt_access.specs.Reaching.{is_reachable, reached}
use Rattle.dt_alu.specs.Extend.{IsAccessWidth}
use Rattle.dt_record.specs.declared.writes.Write.{Write}
use Rattle.dt_walk.specs.declared.arguments.WalkArgs.{WalkArgs}
use Rattle.dt_walk.specs.declared.arguments.WalkAnswer.{WalkAnswer}
use Rattle.dt_walk.specs.declared.arguments.WalkAnswer.TheVariants.{Page, PageFault, AccessFault}
use Rattle.dt_walk.specs.Leaf.{KeepsOffset}
use Rattle.dt_walk.specs.Walk.{walk_of}
use Rattle.dt_translate.specs.Outcomes.{entry_at, outcome_at}
use Rattle.dt_checks.specs.Addresses.{IsPlaceOf}

multiple-kept : (va paddr width : ℕ) → paddr % 4096 ≡ va % 4096 → IsAccessWidth width → va % width ≡ 0 → paddr % width ≡ 0
multiple-kept va paddr width same (inl one) multiple = rw one (omega arith)
multiple-kept va paddr width same (inr (inl two)) multiple =
    let P : ℕ → Type 0 = λ w. va % w ≡ 0 in
    let even : va % 2 ≡ 0 = subst P two multiple in
    rw two (omega (arith, even))
multiple-kept va paddr width same (inr (inr (inl four))) multiple =
    let P : ℕ → Type 0 = λ w. va % w ≡ 0 in
    let fourth : va % 4 ≡ 0 = subst P four multiple in
    rw four (omega (arith, fourth))
multiple-kept va paddr width same (inr (inr (inr eight))) multiple =
    let P : ℕ → Type 0 = λ w. va % w ≡ 0 in
    let eighth : va % 8 ≡ 0 = subst P eight multiple in
    rw eight (omega (arith, eighth))

page-place : (va : ℕ) (ram_only : Bool) (addr paddr : ℕ) → addr % 4096 ≡ va % 4096 → is_reachable ram_only addr ≡ true → Page addr ≡ Page paddr → IsPlaceOf va ram_only paddr
page-place va ram_only addr paddr keeps reachable here =
    let same : addr ≡ paddr = cc in
    let P : ℕ → Type 0 = λ p. IsPlaceOf va ram_only p in
    subst P same (record {
      in_page = keeps;
      alignment = λ width bytes multiple. multiple-kept va addr width keeps bytes multiple;
      reachable = reachable;
    })

reached-place : (args : WalkArgs) (ram_only : Bool) (answer : WalkAnswer) (paddr : ℕ) → KeepsOffset args answer → reached ram_only answer ≡ Page paddr → IsPlaceOf args.va ram_only paddr
reached-place args ram_only (Page addr) paddr keeps is =
    elim (is_reachable ram_only addr) as (λ b. is_reachable ram_only addr ≡ b → (if b then Page addr else AccessFault) ≡ Page paddr → IsPlaceOf args.va ram_only paddr) [
      | true ↦ λ reachable here. page-place args.va ram_only addr paddr keeps reachable here
      | false ↦ λ _ here. absurd (let no : AccessFault ≡ Page paddr = here in cc)
    ] refl is
reached-place args ram_only PageFault paddr keeps is = absurd (let no : PageFault ≡ Page paddr = is in cc)
reached-place args ram_only AccessFault paddr keeps is = absurd (let no : AccessFault ≡ Page paddr = is in cc)

-- an access whose translation gives this page address can reach it
pub outcome_at-place : (image : List ℕ) (writes : List Write) (k : ℕ) (args : WalkArgs) (ram_only : Bool) (paddr : ℕ)
    → KeepsOffset args (walk_of (entry_at image writes k) args) → outcome_at image writes k args ram_only ≡ Page paddr → IsPlaceOf args.va ram_only paddr
unfolding outcome_at
outcome_at-place image writes k args ram_only paddr keeps is =
    reached-place args ram_only (walk_of (entry_at image writes k) args) paddr keeps is
