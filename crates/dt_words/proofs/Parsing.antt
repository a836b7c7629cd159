-- From what `clap` says of a command and its matches to what the words ask for.
use Rattle.std.proofs.Common.{◌≡◌, ◌≤◌, ◌&&◌, ◌∙◌, ℕ, Bool, true, false, List, [], ◌∷◌, Option, Some, None, inl, inr, refl, sym, ap, ap₂, subst, arith, ne_eqb, codes}
use Rattle.std.specs.Option.{option_map_or}
use Rattle.std.specs.Prelude.{nat_le}
use Rattle.std.proofs.lemmas.Bool.{leb-true}
use Rattle.clap.proofs.WalkLemmas.{both}
use Rattle.clap.specs.Faults.{fault_of, is_simple_and_free}
use Rattle.clap.specs.Kinds.{HasKind, IsAmong, Kinds}
use Rattle.clap.specs.Matches.{found_of}
use Rattle.clap.specs.Simple.{App, HasMatchesOf, app_of, is_simple, with_rule}
use Rattle.clap.specs.Values.{kind_of}
use Rattle.clap.specs.Walk.{Row, Rule, Text, byte_or_zero, first_of, is_empty, rows_of, rule_of}
use Rattle.clap.specs.Built.{AddsArg}
use Rattle.clap.specs.declared.builder.arg.Arg.{Arg}
use Rattle.clap.specs.declared.builder.command.Command.{Command}
use Rattle.clap.specs.declared.error.Error.{Error}
use Rattle.clap.specs.declared.error.kind.ErrorKind.{ErrorKind}
use Rattle.clap.specs.declared.error.kind.ErrorKind.TheVariants.{OutOfMemory}
use Rattle.clap.specs.declared.parser.matches.ArgMatches.{ArgMatches}
use Rattle.clap.proofs.OnLiterals.{clap_on_literals}
use Rattle.dt_words.specs.Table.{app_of_task, number_in, values_of, within}
use Rattle.dt_words.specs.declared.commands.Task.{Task}
use Rattle.dt_words.specs.declared.commands.Task.TheVariants.{Pass, Check, Dump, Convert}

-- a command with one more argument
pub one_more : (old new : Command) (a : Arg) (app : App) (rule : Rule) → AddsArg old a new → a.global ≡ false → app_of old ≡ app → rule_of a ≡ rule
    → app_of new ≡ with_rule app rule
one_more old new a app rule adds local before is = adds.shape local ∙ ap₂ with_rule before is

-- ---- the simple command of a task

is_simple_task : (task : Task) → is_simple (app_of_task task) ≡ true
unfolding app_of_task clap_on_literals
is_simple_task Pass = refl
is_simple_task Check = refl
is_simple_task Dump = refl
is_simple_task Convert = refl

is_free_task : (task : Task) → is_simple_and_free (app_of_task task) ≡ true
unfolding app_of_task clap_on_literals
is_free_task Pass = refl
is_free_task Check = refl
is_free_task Dump = refl
is_free_task Convert = refl

-- words without a fault have the values of their matches
pub taken : (task : Task) (app : App) (words : List Text) (m : ArgMatches) → app ≡ app_of_task task
    → (is_simple_and_free app ≡ true → fault_of app words ≡ []) → HasMatchesOf app words m → values_of task words ≡ Some (rows_of (found_of m))
unfolding values_of
taken task app words m is faultless matches =
    let none : fault_of (app_of_task task) words ≡ [] = subst (λ (a : App). fault_of a words ≡ []) is (faultless (ap is_simple_and_free is ∙ is_free_task task)) in
    let rows = subst (λ (a : App). HasMatchesOf a words m) is matches (is_simple_task task) in
    rw none (ap Some (sym rows.0))

not_empty : (k : ErrorKind) (kinds : Kinds) → IsAmong k kinds → is_empty kinds ≡ false
not_empty k [] among = absurd among
not_empty k (x ∷ xs) among = ne_eqb _ _ (λ e. omega (arith, e))

-- words with a fault that is no want of memory have none
pub refused : (task : Task) (app : App) (words : List Text) (e : Error) → app ≡ app_of_task task
    → (is_simple_and_free app ≡ true → HasKind (fault_of app words) e) → (kind_of e ≡ OutOfMemory → ⊥) → values_of task words ≡ None
unfolding values_of
refused task app words e is fails other =
    elim (fails (ap is_simple_and_free is ∙ is_free_task task)) [
      | inl memory ↦ absurd (other memory)
      | inr among ↦ rw (not_empty (kind_of e) (fault_of (app_of_task task) words) (subst (λ (a : App). IsAmong (kind_of e) (fault_of a words)) is among)) refl
    ]

-- ---- a number

in_range : (least most otherwise number : ℕ) (t : Bool) → (nat_le least number && nat_le number most) ≡ t → least ≤ otherwise → otherwise ≤ most
    → (least ≤ within least most otherwise number) × (within least most otherwise number ≤ most)
in_range least most otherwise number true is low high =
    let halves = both (nat_le least number) (nat_le number most) is in
    rw is (leb-true least number halves.0, leb-true number most halves.1)
in_range least most otherwise number false is low high = rw is (low, high)

pub workers_in_range : (values : List Row) → (1 ≤ number_in (codes "workers") 1 8 2 values) × (number_in (codes "workers") 1 8 2 values ≤ 8)
workers_in_range values = go (first_of (codes "workers") values)
  where
    go : (o : Option Text) → (1 ≤ option_map_or (λ text. within 1 8 2 (byte_or_zero text)) o 2) × (option_map_or (λ text. within 1 8 2 (byte_or_zero text)) o 2 ≤ 8)
    go None = (omega arith, omega arith)
    go (Some text) = in_range 1 8 2 (byte_or_zero text) (nat_le 1 (byte_or_zero text) && nat_le (byte_or_zero text) 8) refl (omega arith) (omega arith)
