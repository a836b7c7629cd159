use Rattle.std.proofs.Common.{◌≡◌, ◌∙◌, Option, Some, None, sym, ap, codes, false}
use Rattle.std.specs.Option.{option_map, option_map_or}
use Rattle.std.specs.Str.{bytes_eq}
use Rattle.clap.specs.Matches.{found_of}
use Rattle.clap.specs.Walk.{Text, first_of, rows_of}
use Rattle.clap.proofs.WalkLemmas.{first_value-rows}
use Rattle.dt_words.proofs.words.flag_in.Goals as goal

pub returns-in-Some : goal.returns-in-Some
returns-in-Some c =
    let found = found_of c.args.matches.now in
    let first : Some c.in-Some.text.now ≡ first_of c.args.name.now (rows_of found)
    = ap (option_map (λ s. s.now)) (sym c.in-Some.is) ∙ (c.get_str.ensures ∙ first_value-rows found c.args.name.now) in
    c.eq.ensures ∙ ap (λ (o : Option Text). option_map_or (λ text. bytes_eq text (codes "true")) o false) first

pub returns-in-None : goal.returns-in-None
returns-in-None c =
    let found = found_of c.args.matches.now in
    let none : (let x : Option Text = None in x ≡ first_of c.args.name.now (rows_of found))
    = ap (option_map (λ s. s.now)) (sym c.in-None.is) ∙ (c.get_str.ensures ∙ first_value-rows found c.args.name.now) in
    ap (λ (o : Option Text). option_map_or (λ text. bytes_eq text (codes "true")) o false) none
