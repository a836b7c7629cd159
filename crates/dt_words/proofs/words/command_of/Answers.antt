use Rattle.std.proofs.Common.{◌≡◌, ◌∙◌, codes, subst, sym, ◌≤◌, ℕ}
use Rattle.std.specs.Option.{option_map}
use Rattle.std.specs.String.{string_bytes}
use Rattle.clap.specs.Matches.{found_of}
use Rattle.clap.specs.Walk.{first_of, rows_of}
use Rattle.clap.proofs.WalkLemmas.{first_value-rows}
use Rattle.dt_words.proofs.Parsing.{workers_in_range}
use Rattle.dt_words.proofs.words.command_of.Goals as goal

pub returns-clause-says : goal.returns-clause-says
returns-clause-says c =
    let found = found_of c.args.matches.now in
    let image : option_map string_bytes c.in_ok-owned.field-0 ≡ first_of (codes "image") (rows_of found)
    = c.in_ok-owned.ensures ∙ (c.get_str.ensures ∙ first_value-rows found (codes "image")) in
    let probes : option_map string_bytes c.in_ok-owned-2.field-0 ≡ first_of (codes "probes") (rows_of found)
    = c.in_ok-owned-2.ensures ∙ (c.get_str-2.ensures ∙ first_value-rows found (codes "probes")) in
    λ i. record {
      task = c.args.task;
      to = c.number_in.ensures i;
      workers = c.number_in-2.ensures i;
      sources = c.flag_in.ensures i;
      image = image i;
      probes = probes i;
    }

pub returns-clause-workers : goal.returns-clause-workers
returns-clause-workers c =
    subst (λ (n : ℕ). (1 ≤ n) × (n ≤ 8)) (sym c.number_in-2.ensures) (workers_in_range (rows_of (found_of c.args.matches.now)))
