-- What the closed history says of the passes. This project's own.
use Rattle.std.specs.Prelude.{◌≡◌, true, List, All, Any}
use mathlib.Core.List.{IsPrefix}
use Rattle.dt_shared.specs.declared.entries.Entry.{Entry}
use Rattle.dt_shared.specs.declared.views.Known.{Known}
use Rattle.dt_shared.specs.Entries.{notes_of}

pub record Accounts (passes : List Known) (history : List Entry) : Type 0 where
  -- it begins with what each pass saw
  pub seen : All (λ k. IsPrefix k.seen history) passes
  -- the entries of a pass are its own notes, in order
  pub own : All (λ k. k.own ≡ notes_of k.number history) passes
  -- no entry has another number
  pub numbers : All (λ e. Any (λ k. k.number ≡ e.pass) passes) history
  -- where a pass saw a stop, one has stopped
  pub stops : Any (λ k. k.saw_stop ≡ true) passes → Any (λ k. k.stopped ≡ true) passes
