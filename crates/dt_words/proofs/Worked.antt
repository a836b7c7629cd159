-- What a few lines of words ask for.
use Rattle.std.specs.Prelude.{◌≡◌, true, false, Option, Some, None, [], ◌∷◌, codes, refl}
use Rattle.clap.specs.Walk.{Text}
use Rattle.clap.proofs.OnLiterals.{clap_on_literals}
use Rattle.dt_words.specs.declared.commands.Task.TheVariants.{Pass, Dump, Convert}
use Rattle.dt_words.specs.Table.{Asked, app_of_task, asked_of, values_of}

abbrev pub convert_with : Text → Option Asked
convert_with number = asked_of (codes "convert" ∷ codes "--to" ∷ number ∷ codes "b" ∷ [])

pub pass_of_two : asked_of (codes "pass" ∷ codes "a" ∷ codes "b" ∷ [])
    ≡ Some (record { task = Pass; to = 0; workers = 2; sources = false; image = Some (codes "a"); probes = Some (codes "b") })
unfolding app_of_task values_of clap_on_literals
pass_of_two = refl

pub pass_with_sources : asked_of (codes "pass" ∷ codes "a" ∷ codes "--sources" ∷ codes "b" ∷ [])
    ≡ Some (record { task = Pass; to = 0; workers = 2; sources = true; image = Some (codes "a"); probes = Some (codes "b") })
unfolding app_of_task values_of clap_on_literals
pass_with_sources = refl

pub pass_behind_dashes : asked_of (codes "pass" ∷ codes "--" ∷ codes "-a" ∷ codes "b" ∷ [])
    ≡ Some (record { task = Pass; to = 0; workers = 2; sources = false; image = Some (codes "-a"); probes = Some (codes "b") })
unfolding app_of_task values_of clap_on_literals
pass_behind_dashes = refl

pub pass_of_one : asked_of (codes "pass" ∷ codes "a" ∷ []) ≡ None
unfolding app_of_task values_of clap_on_literals
pass_of_one = refl

pub dump_of_one : asked_of (codes "dump" ∷ codes "b" ∷ []) ≡ Some (record { task = Dump; to = 0; workers = 2; sources = false; image = None; probes = Some (codes "b") })
unfolding app_of_task values_of clap_on_literals
dump_of_one = refl

pub dump_help : asked_of (codes "dump" ∷ codes "--help" ∷ []) ≡ None
unfolding app_of_task values_of clap_on_literals
dump_help = refl

pub convert_to_2 : convert_with (codes "2") ≡ Some (record { task = Convert; to = 2; workers = 2; sources = false; image = None; probes = Some (codes "b") })
unfolding app_of_task values_of clap_on_literals
convert_to_2 = refl

pub convert_to_plus_1 : convert_with (codes "+1") ≡ Some (record { task = Convert; to = 1; workers = 2; sources = false; image = None; probes = Some (codes "b") })
unfolding app_of_task values_of clap_on_literals
convert_to_plus_1 = refl

pub convert_to_3 : convert_with (codes "3") ≡ None
unfolding app_of_task values_of clap_on_literals
convert_to_3 = refl

pub convert_to_nothing : asked_of (codes "convert" ∷ codes "b" ∷ []) ≡ None
unfolding app_of_task values_of clap_on_literals
convert_to_nothing = refl
