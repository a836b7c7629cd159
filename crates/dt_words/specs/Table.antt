-- The words of the program, and what they ask for (this project's own). The first word names a
-- command; the rest is what the simple command of `clap` for it takes, with the values that `clap`
-- gives them. Each number is read by `clap` as a `u64` within its range.
use Rattle.std.specs.Prelude.{ℕ, Bool, true, false, Option, Some, None, if◌then◌else◌, option_map, option_and_then, List, [], ◌∷◌, map, codes, nat_le, ◌&&◌, String}
use Rattle.std.specs.Option.{option_map_or}
use Rattle.std.specs.Str.{bytes_eq}
use Rattle.std.specs.String.{string_bytes}
use Rattle.clap.specs.Walk.{Row, Rule, Text, byte_or_zero, first_of, is_empty}
use Rattle.clap.specs.Simple.{App, matches_of, new_app, new_rule, with_rule}
use Rattle.clap.specs.Faults.{fault_of}
use Rattle.clap.specs.declared.builder.value_parser.ValueParser.TheVariants.{Unsigned}
use Rattle.clap.specs.declared.builder.action.ArgAction.TheVariants.{SetTrue}
use Rattle.dt_words.specs.declared.commands.Task.{Task}
use Rattle.dt_words.specs.declared.commands.Task.TheVariants.{Pass, Check, Dump, Convert}
use Rattle.dt_words.specs.declared.commands.Command.{Command}

-- the task that a first word names
abbrev pub task_named : Text → Option Task
task_named word =
    if bytes_eq word (codes "pass") then Some Pass
    else (if bytes_eq word (codes "check") then Some Check
    else (if bytes_eq word (codes "dump") then Some Dump
    else (if bytes_eq word (codes "convert") then Some Convert else None)))

-- a path, which has to be there
abbrev pub path_rule : Text → Rule
path_rule id = record (new_rule id) { required = true }

-- `--to N` with N 1 or 2, which has to be there
abbrev pub version_rule : Rule
version_rule = record (new_rule (codes "to")) { long = Some (codes "to"); parser = Some (Unsigned 1 2); required = true }

-- `--workers N` with N from 1 to 8, which may be there
abbrev pub workers_rule : Rule
workers_rule = record (new_rule (codes "workers")) { long = Some (codes "workers"); parser = Some (Unsigned 1 8) }

-- `--sources`, which may be there
abbrev pub sources_rule : Rule
sources_rule = record (new_rule (codes "sources")) { long = Some (codes "sources"); action = Some SetTrue }

-- the two paths of a task that judges a probe file
abbrev pub with_both_paths : App → App
with_both_paths app = with_rule (with_rule app (path_rule (codes "image"))) (path_rule (codes "probes"))

-- the simple command of `clap` for a task: [--sources] IMAGE PROBES, [--workers N] [--sources] IMAGE PROBES,
-- PROBES, or --to N PROBES
unfoldable pub app_of_task : Task → App
app_of_task Pass = with_both_paths (with_rule (new_app (codes "pass")) sources_rule)
app_of_task Check = with_both_paths (with_rule (with_rule (new_app (codes "check")) workers_rule) sources_rule)
app_of_task Dump = with_rule (new_app (codes "dump")) (path_rule (codes "probes"))
app_of_task Convert = with_rule (with_rule (new_app (codes "convert")) version_rule) (path_rule (codes "probes"))

-- the values that `clap` finds for a task in the words, and none where it refuses them
unfoldable pub values_of : Task → List Text → Option (List Row)
values_of task words = if is_empty (fault_of (app_of_task task) words) then Some (matches_of (app_of_task task) words) else None

-- What words ask for: a task, the version of the file to write, the number of workers, whether the sources of loads are to
-- be printed, and the paths. What the task has no words for stands at 0, 2, false and None.
pub record Asked : Type 0 where
  pub task : Task
  pub to : ℕ
  pub workers : ℕ
  pub sources : Bool
  pub image : Option Text
  pub probes : Option Text

-- a number that is within its range, and this one in place of another
abbrev pub within : (least most otherwise : ℕ) → ℕ → ℕ
within least most otherwise number = if nat_le least number && nat_le number most then number else otherwise

-- the number that an option of this name gives, and `otherwise` where it is not there
abbrev pub number_in : (name : Text) (least most otherwise : ℕ) → List Row → ℕ
number_in name least most otherwise values =
    option_map_or (λ text. within least most otherwise (byte_or_zero text)) (first_of name values) otherwise

-- whether a flag of this name is there: `clap` gives one that is the text `true`
abbrev pub flag_in : (name : Text) → List Row → Bool
flag_in name values = option_map_or (λ text. bytes_eq text (codes "true")) (first_of name values) false

-- what the values of a task ask for
abbrev pub asked_for : Task → List Row → Asked
asked_for task values = record {
  task = task;
  to = number_in (codes "to") 1 2 0 values;
  workers = number_in (codes "workers") 1 8 2 values;
  sources = flag_in (codes "sources") values;
  image = first_of (codes "image") values;
  probes = first_of (codes "probes") values;
}

-- what the words of the program ask for, and none where they are not in the table of commands
abbrev pub asked_of : List Text → Option Asked
asked_of [] = None
asked_of (command ∷ rest) =
    option_and_then (λ task. option_map (asked_for task) (values_of task (command ∷ rest))) (task_named command)

-- the same of words that the program holds
abbrev pub asked_in : {A : Type 0} → List (String A) → Option Asked
asked_in words = asked_of (map string_bytes words)

-- what a command that the program holds asks for
abbrev pub asked_by : Command → Asked
asked_by command = record {
  task = command.task;
  to = command.to;
  workers = command.workers;
  sources = command.sources;
  image = option_map string_bytes command.image;
  probes = option_map string_bytes command.probes;
}
